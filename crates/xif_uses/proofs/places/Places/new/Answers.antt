use Rattle.std.proofs.Common.{◌≡◌, ◌<◌, ◌∙◌, length, replicate, subst, ap, arith}
use Rattle.std.specs.Prelude.{slice_index_or}
use Rattle.std.proofs.lemmas.List.{length-replicate}
use Rattle.xif_uses.specs.declared.places.Slot.{Slot}
use Rattle.xif_uses.specs.Slots.{empty_slot}
use Rattle.xif_uses.proofs.Slots.{each_empty, none_empty}
use Rattle.xif_uses.proofs.places.Places.new.Goals as goal

pub invariant_of-result : goal.invariant_of-result
invariant_of-result c =
    let e : c.in_ok-vec.field-0.items ≡ replicate c.key_count-count.result empty_slot = c.in_ok-vec.ensures.items_if_clones_equal (λ y same. same) in
    let n : length c.in_ok-vec.field-0.items ≡ c.key_count-count.result = ap length e ∙ length-replicate c.key_count-count.result empty_slot in (
      c.requires,
      (
        n ∙ c.key_count-count.ensures,
        λ k d l.
            let z : slice_index_or c.in_ok-vec.field-0.items k d ≡ empty_slot = ap (λ xs. slice_index_or xs k d) e ∙ each_empty c.key_count-count.result k d (subst (λ m. k < m) n l) in
            let s : (slice_index_or c.in_ok-vec.field-0.items k d).session ≡ 0 = ap (λ (slot : Slot). slot.session) z in omega arith,
      ),
    )

pub returns : goal.returns
returns c =
    let e : c.in_ok-vec.field-0.items ≡ replicate c.key_count-count.result empty_slot = c.in_ok-vec.ensures.items_if_clones_equal (λ y same. same) in
    let n : length c.in_ok-vec.field-0.items ≡ c.key_count-count.result = ap length e ∙ length-replicate c.key_count-count.result empty_slot in
    none_empty c.args.params.now 0 c.in_ok-vec.field-0.items (λ i d l. ap (λ xs. slice_index_or xs i d) e ∙ each_empty c.key_count-count.result i d (subst (λ m. i < m) n l))
