use Rattle.std.proofs.Common.{◌≡◌, ◌+◌, ◌-◌, ◌++◌, ◌∷◌, [], None, true, take, ap, sym, ◌∙◌, arith, rules}
use Rattle.cycle_spec.specs.Flight as flight
use Rattle.flight_table.proofs.Scans.{last_hit}
use Rattle.flight_table.proofs.search.youngest_writer.Goals as goal

pub returns-then-may_write : goal.returns-then-may_write
returns-then-may_write c =
    let es = c.args.ring.now.items in
    let behind = c.loop-behind.behind in
    let e = c.entry_at-entry.result.now in
    let may : flight.may_write c.args.dual_write c.args.register e ≡ true = search rules in
    let back : behind ≡ behind - 1 + 1 = omega arith in
    let parted : take behind es ≡ take (behind - 1) es ++ e ∷ [] = ap (λ n. take n es) back ∙ c.entry_at-entry.ensures.older in
    sym (c.loop-behind.invariant.same
    ∙ ap (λ older. flight.youngest_writer c.args.dual_write older c.args.register) parted
    ∙ last_hit (flight.may_write c.args.dual_write c.args.register) None (take (behind - 1) es) e may)
