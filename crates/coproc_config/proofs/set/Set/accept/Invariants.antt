use Rattle.std.proofs.Common.{◌≡◌}
use Rattle.std.specs.List.{find}
use Rattle.std.specs.Option.{option_map}
use Rattle.coproc_config.specs.Set.{places_of}
use Rattle.coproc_config.specs.Accept.{takes, hit_at, hit_of}
use Rattle.coproc_config.proofs.Checks.{made_from}
use Rattle.coproc_config.proofs.set.Set.accept.Given as goal

-- the units that are left have the first entry that takes the word
abbrev pub invariant-loop-i : goal.invariant-loop-i
invariant-loop-i l =
    hit_of l.self l.params l.word
    ≡ option_map (hit_at l.params) (find (λ place. takes l.params l.word place.row) (made_from places_of l.i l.self))
