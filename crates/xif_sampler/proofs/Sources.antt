-- The sources of all signals, along the table.
use Rattle.std.proofs.Common.{◌≡◌, ◌+◌, ◌<◌, ℕ, List, [], ◌∷◌, ◌++◌, length, take, drop, set, get_or, Ok, Err, Result, refl, sym, ap, ◌∙◌}
use Rattle.std.proofs.lemmas.List.{take_more, take_more_set, take-append-drop}
use Rattle.xif_signals.specs.declared.signal.Signal.{Signal}
use Rattle.xif_sampler.specs.declared.fault.MapFault.{MapFault}
use Rattle.xif_sampler.specs.declared.fault.MapFail.{MapFail}
use Rattle.xif_sampler.specs.declared.fault.MapFail.TheVariants.{Map, NoMemory}
use Rattle.xif_sampler.specs.declared.source.Source.{Source}
use Rattle.xif_sampler.specs.Places.{with_next, sources_along, FindsAs}

more_by : (ys : List Source) (y : Source) (a : Result Source MapFault) (b next : Result (List Source) MapFault) → with_next a b ≡ Ok ys
    → ((zs : List Source) → b ≡ Ok zs → next ≡ Ok (zs ++ y ∷ [])) → with_next a next ≡ Ok (ys ++ y ∷ [])
more_by ys y (Err f) b next e p = absurd (cc)
more_by ys y (Ok x) (Err f) next e p = absurd (cc)
more_by ys y (Ok x) (Ok zs) next e p =
    let k : x ∷ zs ≡ ys = cc in
    ap (with_next (Ok x)) (p zs refl) ∙ ap (λ l. Ok (l ++ y ∷ [])) k

-- one signal more
along_more : (f : Signal → Result Source MapFault) (xs : List Signal) (ys : List Source) (s : Signal) (y : Source) → sources_along f xs ≡ Ok ys → f s ≡ Ok y
    → sources_along f (xs ++ s ∷ []) ≡ Ok (ys ++ y ∷ [])
along_more f [] ys s y e h =
    let k : [] ≡ ys = cc in
    ap (λ r. with_next r (Ok [])) h ∙ ap (λ l. Ok (l ++ y ∷ [])) k
along_more f (x ∷ xs) ys s y e h =
    more_by ys y (f x) (sources_along f xs) (sources_along f (xs ++ s ∷ [])) e (λ zs k. along_more f xs zs s y k h)

fault_by : (ys : List Source) (fault : MapFault) (a : Result Source MapFault) (b next : Result (List Source) MapFault) → with_next a b ≡ Ok ys
    → ((zs : List Source) → b ≡ Ok zs → next ≡ Err fault) → with_next a next ≡ Err fault
fault_by ys fault (Err f) b next e p = absurd (cc)
fault_by ys fault (Ok x) (Err f) next e p = absurd (cc)
fault_by ys fault (Ok x) (Ok zs) next e p = ap (with_next (Ok x)) (p zs refl)

-- a fault behind signals that have none, whatever follows
along_fault : (f : Signal → Result Source MapFault) (xs : List Signal) (ys : List Source) (s : Signal) (fault : MapFault) (more : List Signal) → sources_along f xs ≡ Ok ys → f s ≡ Err fault
    → sources_along f ((xs ++ s ∷ []) ++ more) ≡ Err fault
along_fault f [] ys s fault more e h = ap (λ r. with_next r (sources_along f more)) h
along_fault f (x ∷ xs) ys s fault more e h =
    fault_by ys fault (f x) (sources_along f xs) (sources_along f ((xs ++ s ∷ []) ++ more)) e (λ zs k. along_fault f xs zs s fault more k h)

-- the source of signal i is put behind the first i
pub found_more : (f : Signal → Result Source MapFault) (ss : List Signal) (xs : List Source) (i : ℕ) (s : Signal) (y : Source) → i < length ss → i < length xs
    → sources_along f (take i ss) ≡ Ok (take i xs) → f (get_or ss i s) ≡ Ok y → sources_along f (take (i + 1) ss) ≡ Ok (take (i + 1) (set xs i y))
found_more f ss xs i s y in_ss in_xs so_far here =
    ap (sources_along f) (take_more ss i s in_ss) ∙ along_more f (take i ss) (take i xs) (get_or ss i s) y so_far here
    ∙ ap (λ l. Ok l) (sym (take_more_set xs i y in_xs))

pub found_fault : (f : Signal → Result Source MapFault) (ss : List Signal) (xs : List Source) (i : ℕ) (s : Signal) (fault : MapFault) → i < length ss
    → sources_along f (take i ss) ≡ Ok (take i xs) → f (get_or ss i s) ≡ Err fault → sources_along f ss ≡ Err fault
found_fault f ss xs i s fault in_ss so_far here =
    ap (sources_along f) (sym (take-append-drop (i + 1) ss) ∙ ap (λ l. l ++ drop (i + 1) ss) (take_more ss i s in_ss))
    ∙ along_fault f (take i ss) (take i xs) (get_or ss i s) fault (drop (i + 1) ss) so_far here

-- what an exit of the loop gives
pub gives_fault : (f : Signal → Result Source MapFault) (ss : List Signal) (xs : List Source) (i : ℕ) (s : Signal) (fail : MapFail) → i < length ss
    → sources_along f (take i ss) ≡ Ok (take i xs) → FindsAs {A = Source} (Err fail) (f (get_or ss i s)) → FindsAs {A = List Source} (Err fail) (sources_along f ss)
gives_fault f ss xs i s (Map fault) in_ss so_far here = found_fault f ss xs i s fault in_ss so_far here
gives_fault f ss xs i s NoMemory in_ss so_far here = tt
