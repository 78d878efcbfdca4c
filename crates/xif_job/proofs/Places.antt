-- The places of signals, read along their table.
use Rattle.std.proofs.Common.{◌≡◌, ◌+◌, ◌<◌, ℕ, List, ◌∷◌, length, take, drop, set, get_or, Ok, Result, sym, ap, ◌∙◌}
use Rattle.std.proofs.lemmas.List.{take_more_set, drop_more}
use Rattle.toml.specs.Data.{Members, get_member}
use Rattle.xif_base.specs.declared.params.Params.{Params}
use Rattle.xif_signals.specs.Signal.{name_of}
use Rattle.xif_signals.specs.declared.signal.Signal.{Signal}
use Rattle.xif_sampler.specs.declared.place.Place.{Place}
use Rattle.xif_job.specs.declared.field.JobFault.{JobFault}
use Rattle.xif_job.specs.FieldTable.{place_in, places_in}
use Rattle.xif_job.specs.Outcome.{◌>>=◌}
use Rattle.xif_job.proofs.Turns.{with_front, front_on}

-- the place of signal i is put behind those of the first i
pub placed : (p : Params) (t : Members) (ss : List Signal) (xs : List Place) (i at : ℕ) (s : Signal) (x : Place) (whole : Result (List Place) JobFault)
    → i < length ss → i < length xs → at ≡ i → place_in p (get_or ss i s) (get_member (name_of (get_or ss i s)) t) ≡ Ok x
    → with_front (take i xs) (places_in p t (drop i ss)) ≡ whole
    → with_front (take (i + 1) (set xs at x)) (places_in p t (drop (i + 1) ss)) ≡ whole
placed p t ss xs i at s x whole in_ss in_xs is here so_far =
    let rest = places_in p t (drop (i + 1) ss) in
    ap (λ k. with_front (take (i + 1) (set xs k x)) rest) is
    ∙ ap (λ l. with_front l rest) (take_more_set xs i x in_xs)
    ∙ sym (front_on (take i xs) x rest)
    ∙ ap (λ r. with_front (take i xs) (r >>= λ y. rest >>= λ ys. Ok (y ∷ ys))) (sym here)
    ∙ ap (λ l. with_front (take i xs) (places_in p t l)) (sym (drop_more ss i s in_ss))
    ∙ so_far
