use Rattle.std.proofs.Common.{◌≡◌, ◌≢◌, ◌<◌, ◌≤◌, ℕ, Some, None, slice_get, get_or, inl, inr, ◌∙◌, arith, sym, ap}
use Rattle.std.proofs.lemmas.Bool.{ltb-false}
use Rattle.std.proofs.lemmas.Option.{get_or_from_slice_get}
use Rattle.flight_table.specs.Table.{writer_of}
use Rattle.flight_table.proofs.Slots.{mended_one}
use Rattle.flight_table.proofs.writers.mend_younger.Goals.{then-is_younger, else-is_younger}
use Rattle.flight_table.proofs.writers.mend_younger.Goals as goal

pub loop-register-preserved : goal.loop-register-preserved
loop-register-preserved c =
    let i = c.loop-register.register in
    let es = c.args.ring.now.items in
    let old = c.args.writers.now in
    let before = c.loop-register.writers in
    let new = c.if-is_younger.writers in
    let below : i < 32 = omega arith in
    let kept : slice_get before i ≡ slice_get old i = c.loop-register.invariant.rest i (omega arith) in
    elim c.if-is_younger.branch [
      | then-is_younger w ↦
          let others : (r : ℕ) → r ≢ i → slice_get new r ≡ slice_get before r = λ r n. ap (λ s. slice_get s r) w.writers-is ∙ w.mend_one.ensures.others r n in
          let here : slice_get new i ≡ Some (writer_of c.args.dual_write es i) = ap (λ s. slice_get s i) w.writers-is ∙ w.mend_one.ensures.named below in
          record {
            done = mended_one c.args.dual_write es c.args.seq i old before new c.loop-register.invariant.done others (inl here);
            rest = λ r l. others r (λ q. absurd (omega (arith, q, l))) ∙ c.loop-register.invariant.rest r (omega arith);
          }
      | else-is_younger w ↦
          let same : (r : ℕ) → slice_get new r ≡ slice_get before r = λ r. ap (λ s. slice_get s r) w.writers-is in
          let older : (v : ℕ) → slice_get old i ≡ Some (Some v) → v ≤ c.args.seq =
          λ v q.
          let at : get_or before c.from.result None ≡ Some v = ap (λ n. get_or before n None) c.from.ensures ∙ get_or_from_slice_get before i (Some v) None (kept ∙ q) in
          ltb-false c.args.seq v (sym (c.is_younger.ensures v at) ∙ w.if-is_younger.false) in
          record {
            done = mended_one c.args.dual_write es c.args.seq i old before new c.loop-register.invariant.done (λ r n. same r) (inr (same i ∙ kept, older));
            rest = λ r l. same r ∙ c.loop-register.invariant.rest r (omega arith);
          }
    ]
