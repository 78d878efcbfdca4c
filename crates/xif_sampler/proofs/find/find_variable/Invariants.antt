use Rattle.std.proofs.Common.{◌≡◌, take}
use Rattle.std.specs.Option.{option_map}
use Rattle.xif_sampler.specs.Places.{named, variable_of}
use Rattle.xif_sampler.proofs.Named.{so_far}
use Rattle.xif_sampler.proofs.find.find_variable.Given as goal

abbrev pub invariant-loop-variable : goal.invariant-loop-variable
invariant-loop-variable l = variable_of l.signal (named l.name (take l.variable-index l.variables)) ≡ so_far l.signal (option_map (λ v. v.now) l.found)
