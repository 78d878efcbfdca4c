use Rattle.std.proofs.Common.{◌≡◌, ◌<◌, ◌+◌, ℕ, false, length, ap, ◌∙◌, arith, rules}
use Rattle.std.specs.Prelude.{not, unwrap_or}
use Rattle.std.specs.List.{list_any}
use Rattle.cycle_spec.specs.Flight as flight
use Rattle.flight_table.proofs.Scans.{find_later}
use Rattle.flight_table.proofs.search.free_id.Goals as goal

pub loop-id-preserved : goal.loop-id-preserved
loop-id-preserved c =
    let es = c.args.ring.now.items in
    let id = c.loop-id.id in
    let held : not (list_any (flight.holds_id id) es) ≡ false = search rules in
    let below : id < length es + 1 = omega arith in
    c.loop-id.invariant
    ∙ ap (λ found. unwrap_or found 0) (find_later (λ (n : ℕ). not (list_any (flight.holds_id n) es)) id (length es + 1) below held)
