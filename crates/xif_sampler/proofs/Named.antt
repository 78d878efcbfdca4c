-- The variables of a name, along a list.
use Rattle.std.proofs.Common.{◌≡◌, ◌+◌, ◌<◌, ◌==◌, ◌&&◌, ℕ, Bool, true, false, cond, List, [], ◌∷◌, ◌++◌, length, take, drop, get_or, Ok, Err, Option, Some, None, Result, refl, sym, ap, ◌∙◌, bytes_eq, ◌≢◌, arith}
use Rattle.std.proofs.lemmas.Bool.Decides.{nat_tests}
use Rattle.std.specs.List.{list_all}
use Rattle.std.proofs.lemmas.List.{take-append-drop}
use Rattle.std.proofs.lemmas.List.Elements.{filter_more, filter-append}
use Rattle.std.proofs.lemmas.List.Folds.{list_all-append}
use Rattle.xif_signals.specs.declared.signal.Signal.{Signal}
use Rattle.vcd_text.specs.declared.declaration.Variable.{Variable}
use Rattle.xif_sampler.specs.declared.fault.MapFault.{MapFault}
use Rattle.xif_sampler.specs.declared.fault.MapFault.TheVariants.{Missing, Ambiguous}
use Rattle.xif_sampler.specs.Places.{named, variable_of}

-- the variable that is meant so far
abbrev pub so_far : Signal → Option Variable → Result Variable MapFault
so_far s None = Err (Missing s)
so_far s (Some v) = Ok v

pub this_named : (name : List ℕ) (vs : List Variable) (i : ℕ) (v : Variable) → i < length vs → v ≡ get_or vs i v → bytes_eq v.name name ≡ true
    → named name (take (i + 1) vs) ≡ named name (take i vs) ++ v ∷ []
this_named name vs i v h at e =
    filter_more (λ w. bytes_eq w.name name) vs i v h
    ∙ ap (λ w. named name (take i vs) ++ cond (bytes_eq w.name name) (w ∷ []) []) (sym at)
    ∙ ap (λ b. named name (take i vs) ++ cond b (v ∷ []) []) e

never_missing : (s : Signal) (w : Variable) (a : Bool) → cond a (Ok w) (Err (Ambiguous s)) ≡ Err (Missing s) → ⊥
never_missing s w true e = cc
never_missing s w false e = cc

-- the first of a name
pub first_meant : (s : Signal) (vs : List Variable) (v : Variable) → variable_of s vs ≡ Err (Missing s) → variable_of s (vs ++ v ∷ []) ≡ Ok v
first_meant s [] v e = refl
first_meant s (w ∷ vs) v e = absurd (never_missing s w (list_all (λ u. u.code == w.code) vs) e)

same_by : (s : Signal) (w first v : Variable) (a : Bool) → cond a (Ok w) (Err (Ambiguous s)) ≡ Ok first → (v.code == first.code) ≡ true
    → cond (a && ((v.code == w.code) && true)) (Ok w) (Err (Ambiguous s)) ≡ Ok first
same_by s w first v true e h =
    let is : w ≡ first = cc in
    let code : (v.code == w.code) ≡ true = ap (λ (u : Variable). v.code == u.code) is ∙ h in
    rw code e
same_by s w first v false e h = absurd (cc)

-- a further one under the same code
pub same_meant : (s : Signal) (vs : List Variable) (first v : Variable) → variable_of s vs ≡ Ok first → first.code ≡ v.code → variable_of s (vs ++ v ∷ []) ≡ Ok first
same_meant s [] first v e h = absurd (cc)
same_meant s (w ∷ vs) first v e h =
    ap (λ b. cond b (Ok w) (Err (Ambiguous s))) (list_all-append (λ u. u.code == w.code) vs (v ∷ []))
    ∙ same_by s w first v (list_all (λ u. u.code == w.code) vs) e (grind (arith, nat_tests))

other_by : (s : Signal) (w first v : Variable) (a b : Bool) → cond a (Ok w) (Err (Ambiguous s)) ≡ Ok first → (v.code == first.code) ≡ false
    → cond ((a && ((v.code == w.code) && true)) && b) (Ok w) (Err (Ambiguous s)) ≡ Err (Ambiguous s)
other_by s w first v true b e h =
    let is : w ≡ first = cc in
    let code : (v.code == w.code) ≡ false = ap (λ (u : Variable). v.code == u.code) is ∙ h in
    rw code refl
other_by s w first v false b e h = absurd (cc)

-- a further one under another code, whatever follows
pub other_meant : (s : Signal) (vs : List Variable) (first v : Variable) (more : List Variable) → variable_of s vs ≡ Ok first → first.code ≢ v.code
    → variable_of s ((vs ++ v ∷ []) ++ more) ≡ Err (Ambiguous s)
other_meant s [] first v more e h = absurd (cc)
other_meant s (w ∷ vs) first v more e h =
    let p : Variable → Bool = λ u. u.code == w.code in
    ap (λ b. cond b (Ok w) (Err (Ambiguous s))) (list_all-append p (vs ++ v ∷ []) more ∙ ap (λ b. b && list_all p more) (list_all-append p vs (v ∷ [])))
    ∙ other_by s w first v (list_all p vs) (list_all p more) e (grind (arith, nat_tests))

-- the whole list, where the one at i is of the name
pub named_whole : (name : List ℕ) (vs : List Variable) (i : ℕ) (v : Variable) → i < length vs → v ≡ get_or vs i v → bytes_eq v.name name ≡ true
    → named name vs ≡ (named name (take i vs) ++ v ∷ []) ++ named name (drop (i + 1) vs)
named_whole name vs i v h at e =
    ap (named name) (sym (take-append-drop (i + 1) vs))
    ∙ filter-append (λ w. bytes_eq w.name name) (take (i + 1) vs) (drop (i + 1) vs)
    ∙ ap (λ l. l ++ named name (drop (i + 1) vs)) (this_named name vs i v h at e)
