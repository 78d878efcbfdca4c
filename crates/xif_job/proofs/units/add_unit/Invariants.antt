use Rattle.std.proofs.Common.{◌≡◌, ◌++◌, ◌∷◌, [], take}
use Rattle.xif_job.proofs.units.add_unit.Given as goal

-- the entries so far are in the last unit
abbrev pub invariant-loop-entry : goal.invariant-loop-entry
invariant-loop-entry l = l.set ≡ l.fn.set ++ record { accumulators = l.accumulators; entries = take l.entry-index l.entries } ∷ []
