use Rattle.std.proofs.Common.{◌≡◌, ℕ, Some, slice_set, subst, sym}
use Rattle.xif_uses.specs.Table.{IsKey, Sets, place_of}
use Rattle.xif_uses.proofs.Slots.{table_of, set_one}
use Rattle.xif_uses.proofs.places.Places.put.Goals as goal

pub returns : goal.returns
returns c =
    let x = c.self.inside in
    let v : table_of x.params x.session x.slots.items ≡ c.args.self.now = c.self.view_is in
    let k : IsKey x.params c.args.key = subst (λ t. IsKey t.params c.args.key) (sym v) c.requires in
    let place : c.place-place.result ≡ place_of x.params c.args.key = subst (λ t. c.place-place.result ≡ place_of t.params c.args.key) (sym v) c.place-place.ensures.place in
    let P = λ (n : ℕ). Sets c.args.self.now (table_of x.params x.session (slice_set x.slots.items n (record { session = x.session; latest = Some c.args.latest }))) c.args.key (Some c.args.latest) in
    subst P (sym place)
    (subst (λ t. Sets t (table_of x.params x.session (slice_set x.slots.items (place_of x.params c.args.key) (record { session = x.session; latest = Some c.args.latest }))) c.args.key (Some c.args.latest)) v
    (set_one x.params x.session x.slots.items c.args.key (Some c.args.latest) k c.self.invariant.1.0))
