use Rattle.std.proofs.Common.{◌≡◌, ◌+◌, ◌∙◌, List, length, sym, ap, subst, arith}
use Rattle.std.specs.Prelude.{None}
use Rattle.std.specs.Vec.{with_items}
use Rattle.std.proofs.lemmas.List.{with_items_is}
use Rattle.xif_uses.specs.declared.places.Slot.{Slot}
use Rattle.xif_uses.specs.Table.{Table, Represents}
use Rattle.xif_uses.proofs.Slots.{table_of, none_empty, none_older}
use Rattle.xif_uses.proofs.places.Places.clear.Goals as goal

pub returns-then-self : goal.returns-then-self
returns-then-self c =
    let x = c.self.inside in
    let v : table_of x.params x.session x.slots.items ≡ c.args.self.now = c.self.view_is in
    let n : length c.empty_all.new.slots ≡ x.slots.len = c.empty_all.ensures.count ∙ ap length c.deref_mut.ensures.value ∙ sym x.slots.ok.0 in
    let e : (with_items x.slots c.empty_all.new.slots).items ≡ c.empty_all.new.slots = with_items_is x.slots c.empty_all.new.slots n in
    subst (λ (t : Table). Represents (table_of x.params 0 (with_items x.slots c.empty_all.new.slots).items) t.params (λ key. None)) v
    (subst (λ (slots : List Slot). Represents (table_of x.params 0 slots) x.params (λ key. None)) (sym e) (none_empty x.params 0 c.empty_all.new.slots c.empty_all.ensures.empty))

pub returns : goal.returns
returns c =
    let x = c.self.inside in
    let v : table_of x.params x.session x.slots.items ≡ c.args.self.now = c.self.view_is in
    subst (λ (t : Table). Represents (table_of x.params (x.session + 1) x.slots.items) t.params (λ key. None)) v
    (none_older x.params (x.session + 1) x.slots.items (λ i d l. let z = c.self.invariant.1.1 i d l in omega arith))
