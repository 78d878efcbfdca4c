use Rattle.std.proofs.Common.{◌≡◌, ◌<◌, ◌≤◌, false, Some, length, set, slice_get, sym, ap, subst, ◌∙◌, arith}
use Rattle.circular_buffer.specs.Buffer.{buffer}
use Rattle.cycle_spec.specs.Flight.{older_than}
use Rattle.flight_table.specs.Change.{changed, is_release}
use Rattle.flight_table.proofs.Single.{one_changes, none_changes, entry_there}
use Rattle.flight_table.proofs.change.change_all.Goals as goal

pub returns-then-place-len : goal.returns-then-place-len
returns-then-place-len c =
    let es = c.args.ring.now.items in
    let place = c.place_of-place.result in
    let named : is_release c.args.change ≡ false = sym c.is_release.ensures ∙ c.if-is_release.false in
    let within : place < length es = omega (arith, c.if-place-len.true, c.len.ensures.len) in
    let it = entry_there es place within in
    let here : place ≡ length (older_than c.args.seq es) = c.place_of-place.ensures.place in
    let at : slice_get es (length (older_than c.args.seq es)) ≡ Some it.0 = subst (λ n. slice_get es n ≡ Some it.0) here it.1 in
    c.change_at.ensures it.0 it.1
    ∙ ap (λ xs. buffer xs c.args.ring.now.capacity)
    (ap (λ n. set es n (changed c.args.change it.0.seq it.0)) here
    ∙ sym (one_changes c.args.change named c.args.seq 0 c.requires.0 es it.0 c.requires.1 at))

pub returns-else-place-len : goal.returns-else-place-len
returns-else-place-len c =
    let es = c.args.ring.now.items in
    let named : is_release c.args.change ≡ false = sym c.is_release.ensures ∙ c.if-is_release.false in
    let all : length es ≤ length (older_than c.args.seq es) =
    omega (arith, c.if-place-len.false, c.len.ensures.len, c.place_of-place.ensures.place) in
    ap (λ xs. buffer xs c.args.ring.now.capacity) (sym (none_changes c.args.change named c.args.seq es all))
