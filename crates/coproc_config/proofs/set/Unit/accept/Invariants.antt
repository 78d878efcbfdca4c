use Rattle.std.proofs.Common.{◌≡◌, [], ◌∷◌}
use Rattle.std.specs.List.{find}
use Rattle.std.specs.Option.{option_map}
use Rattle.coproc_config.specs.Set.{place_of, places_of}
use Rattle.coproc_config.specs.Accept.{takes, hit_at}
use Rattle.coproc_config.proofs.Checks.{made_from}
use Rattle.coproc_config.proofs.set.Unit.accept.Given as goal

-- the entries that are left have the first that takes the word
abbrev pub invariant-loop-i : goal.invariant-loop-i
invariant-loop-i l =
    option_map (hit_at l.params) (find (λ place. takes l.params l.word place.row) (places_of (l.unit, l.self)))
    ≡ option_map (hit_at l.params) (find (λ place. takes l.params l.word place.row) (made_from (λ entry. place_of (l.unit, l.self) entry ∷ []) l.i l.self.entries))
