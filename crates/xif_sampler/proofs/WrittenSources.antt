-- Where the default map finds the signals in the text of buses.
use Rattle.std.proofs.Common.{◌≡◌, ◌+◌, ◌<◌, ◌≤◌, ◌==◌, ◌&&◌, ℕ, zero, suc, Bool, true, false, not, cond, List, [], ◌∷◌, ◌++◌, drop, get_or, Result, Ok, Err, None, refl, sym, ap, ◌∙◌, append_assoc, arith}
use Rattle.std.specs.Prelude.{nat_lt, replicate}
use Rattle.std.specs.Str.{bytes_eq}
use Rattle.std.proofs.lemmas.Bool.Decides.{nat_tests, Decides-eqb}
use Rattle.std.proofs.lemmas.Slice.Eq.{bytes_eq-Decides}
use Rattle.std.proofs.lemmas.List.Elements.{filter-append}
use Rattle.xif_base.specs.declared.params.Params.{Params}
use Rattle.xif_signals.specs.declared.signal.Signal.{Signal}
use Rattle.xif_signals.specs.declared.signal.Signal.TheVariants.{Clk, RstN, IssueValid, IssueReady, IssueHartid, IssueId, IssueInstr, IssueAccept, IssueWriteback, IssueRegisterRead, RegisterValid, RegisterReady, RegisterHartid, RegisterId, RegisterRs0, RegisterRs1, RegisterRs2, RegisterRsValid, CommitValid, CommitHartid, CommitId, CommitKill, ResultValid, ResultReady, ResultHartid, ResultId, ResultData, ResultRd, ResultWe}
use Rattle.xif_signals.specs.Signal.{signals, signal_number, name_of, width_of}
use Rattle.vcd_text.specs.declared.declaration.Variable.{Variable}
use Rattle.vcd_text.specs.Written.{wires, wires_of, variables_from, written_variables}
use Rattle.vcd_text.proofs.Table.{Rise, rise-filter, signals_rise}
use Rattle.xif_sampler.specs.declared.place.Place.TheVariants.{Default}
use Rattle.xif_sampler.specs.declared.fault.MapFault.{MapFault}
use Rattle.xif_sampler.specs.declared.fault.MapFault.TheVariants.{Narrow}
use Rattle.xif_sampler.specs.declared.source.Source.{Source}
use Rattle.xif_sampler.specs.declared.source.Source.TheVariants.{Fixed, Bits}
use Rattle.xif_sampler.specs.Places.{place_at, defaults, named, has_named, default_name, bits_of, variable_of, bits_named, source_in, source_of, with_next, sources_along, sources_of}

-- the sources of signals, the first of which has this place among the codes
abbrev pub written_sources : Params → ℕ → List Signal → List Source
written_sources p k [] = []
written_sources p k (s ∷ ss) =
    cond (width_of s p == 0) (Fixed 0 ∷ written_sources p k ss) (Bits k 0 (width_of s p) ∷ written_sources p (k + 1) ss)

-- ---- names

-- the number of the signal of a name
abbrev number_named : List ℕ → List Signal → ℕ
number_named name [] = 0
number_named name (s ∷ ss) = cond (bytes_eq name (name_of s)) (signal_number s) (number_named name ss)

named_by : (s : Signal) → number_named (name_of s) signals ≡ signal_number s
named_by Clk = refl
named_by RstN = refl
named_by IssueValid = refl
named_by IssueReady = refl
named_by IssueHartid = refl
named_by IssueId = refl
named_by IssueInstr = refl
named_by IssueAccept = refl
named_by IssueWriteback = refl
named_by IssueRegisterRead = refl
named_by RegisterValid = refl
named_by RegisterReady = refl
named_by RegisterHartid = refl
named_by RegisterId = refl
named_by RegisterRs0 = refl
named_by RegisterRs1 = refl
named_by RegisterRs2 = refl
named_by RegisterRsValid = refl
named_by CommitValid = refl
named_by CommitHartid = refl
named_by CommitId = refl
named_by CommitKill = refl
named_by ResultValid = refl
named_by ResultReady = refl
named_by ResultHartid = refl
named_by ResultId = refl
named_by ResultData = refl
named_by ResultRd = refl
named_by ResultWe = refl

apart_by : (a b : Signal) (x : Bool) → bytes_eq (name_of a) (name_of b) ≡ x → (signal_number a == signal_number b) ≡ false → x ≡ false
apart_by a b true e h =
    let same : name_of a ≡ name_of b = (bytes_eq-Decides (name_of a) (name_of b)).0 e in
    let numbers : signal_number a ≡ signal_number b = sym (named_by a) ∙ ap (λ n. number_named n signals) same ∙ named_by b in
    let t : (signal_number a == signal_number b) ≡ true = (Decides-eqb (signal_number a) (signal_number b)).1 numbers in
    absurd cc
apart_by a b false e h = refl

-- signals of different numbers have different names
apart : (a b : Signal) → (signal_number a == signal_number b) ≡ false → bytes_eq (default_name a) (default_name b) ≡ false
apart a b h = apart_by a b (bytes_eq (name_of a) (name_of b)) refl h

itself : (name : List ℕ) → bytes_eq name name ≡ true
itself name = (bytes_eq-Decides name name).1 refl

less : (m n : ℕ) → m < n → (n == m) ≡ false
less m n h = grind (arith, nat_tests)

more : (m n : ℕ) → m < n → (m == n) ≡ false
more m n h = grind (arith, nat_tests)

-- ---- the variables of a name

abbrev variable : Params → ℕ → Signal → Variable
variable p k s = record { name = default_name s; code = k; size = width_of s p }

named_cons : (name : List ℕ) (v : Variable) (vs : List Variable) (x : Bool) → bytes_eq v.name name ≡ x → named name (v ∷ vs) ≡ cond x (v ∷ named name vs) (named name vs)
named_cons name v vs x e = ap (λ y. cond y (v ∷ named name vs) (named name vs)) e

-- no signal of a greater number has the name
named_none : (p : Params) (s : Signal) (k n : ℕ) (ss : List Signal) → signal_number s < n → Rise n ss → named (default_name s) (variables_from p k ss) ≡ []
named_none p s k n [] h rise = refl
named_none p s k n (t ∷ ss) h rise =
    named_cons (default_name s) (variable p k t) (variables_from p (k + 1) ss) false (apart t s (less (signal_number s) (signal_number t) (omega (arith, rise.0))))
    ∙ named_none p s (k + 1) (signal_number t + 1) ss (omega (arith, rise.0)) rise.1

-- no signal from a number on has its name among the variables
abbrev Fresh : ℕ → List Variable → Type 0
Fresh n vs = (s : Signal) → n ≤ signal_number s → named (default_name s) vs ≡ []

fresh-push : (p : Params) (k n : ℕ) (s : Signal) (vs : List Variable) → n ≤ signal_number s → Fresh n vs → Fresh (signal_number s + 1) (vs ++ variable p k s ∷ [])
fresh-push p k n s vs le h t above =
    filter-append (λ v. bytes_eq v.name (default_name t)) vs (variable p k s ∷ [])
    ∙ ap (λ x. x ++ named (default_name t) (variable p k s ∷ [])) (h t (omega arith))
    ∙ named_cons (default_name t) (variable p k s) [] false (apart s t (more (signal_number s) (signal_number t) (omega arith)))

-- the one variable of a signal
named_one : (p : Params) (k n : ℕ) (s : Signal) (vs : List Variable) (ss : List Signal) → n ≤ signal_number s → Fresh n vs → Rise (signal_number s + 1) ss
    → named (default_name s) (vs ++ variables_from p k (s ∷ ss)) ≡ variable p k s ∷ []
named_one p k n s vs ss le h rise =
    filter-append (λ v. bytes_eq v.name (default_name s)) vs (variables_from p k (s ∷ ss))
    ∙ ap (λ x. x ++ named (default_name s) (variables_from p k (s ∷ ss))) (h s le)
    ∙ named_cons (default_name s) (variable p k s) (variables_from p (k + 1) ss) true (itself (default_name s))
    ∙ ap (λ x. variable p k s ∷ x) (named_none p s (k + 1) (signal_number s + 1) ss (omega arith) rise)

any_by : (name : List ℕ) (v w : Variable) (vs ws : List Variable) (x : Bool) → bytes_eq w.name name ≡ x → (named name ws ≡ v ∷ vs → has_named name ws ≡ true) → named name (w ∷ ws) ≡ v ∷ vs → has_named name (w ∷ ws) ≡ true
any_by name v w vs ws true e h k = rw e refl
any_by name v w vs ws false e h k = rw e (h (sym (named_cons name w ws false e) ∙ k))

has_one : (name : List ℕ) (v : Variable) (vs ws : List Variable) → named name ws ≡ v ∷ vs → has_named name ws ≡ true
has_one name v vs [] e = absurd cc
has_one name v vs (w ∷ ws) e = any_by name v w vs ws (bytes_eq w.name name) refl (has_one name v vs ws) e

-- ---- the source of a signal

default_in : (n i : ℕ) → get_or (replicate n Default) i Default ≡ Default
default_in zero i = refl
default_in (suc n) zero = refl
default_in (suc n) (suc i) = default_in n i

fits : (w : ℕ) → nat_lt w (0 + w) ≡ false
fits w = grind (arith, nat_tests)

never : (x : Bool) → (x && not true) ≡ false
never true = refl
never false = refl

found_in : (p : Params) (all : List Variable) (k : ℕ) (s : Signal) → named (default_name s) all ≡ variable p k s ∷ [] → source_in all s (width_of s p) (place_at defaults s) ≡ Ok (Bits k 0 (width_of s p))
found_in p all k s e =
    let w = width_of s p in
    let there : has_named (default_name s) all ≡ true = has_one (default_name s) (variable p k s) [] all e in
    ap (source_in all s w) (default_in 29 (signal_number s))
    ∙ ap (λ x. cond ((signal_number s == signal_number RstN) && not x) (Ok (Fixed 1)) (bits_named all s w (default_name s) 0 None)) there
    ∙ ap (λ x. cond x (Ok (Fixed 1)) (bits_named all s w (default_name s) 0 None)) (never (signal_number s == signal_number RstN))
    ∙ ap (λ vs. bits_of s w 0 None (variable_of s vs)) e
    ∙ ap (λ x. cond x (Err (Narrow s)) (Ok (Bits k 0 w))) (fits w)

next_is : (source : Result Source MapFault) (rest : Result (List Source) MapFault) (first : Source) (more : List Source) → source ≡ Ok first → rest ≡ Ok more → with_next source rest ≡ Ok (first ∷ more)
next_is source rest first more e f = ap (λ x. with_next x rest) e ∙ ap (with_next (Ok first)) f

-- ---- all sources

there : (w : ℕ) → (w == 0) ≡ false → nat_lt 0 w ≡ true
there w e = grind (arith, nat_tests)

gone : (w : ℕ) → (w == 0) ≡ true → nat_lt 0 w ≡ false
gone w e = grind (arith, nat_tests)

pub wires_there : (p : Params) (s : Signal) (ss : List Signal) → (width_of s p == 0) ≡ false → wires p (s ∷ ss) ≡ s ∷ wires p ss
wires_there p s ss e = ap (λ x. cond x (s ∷ wires p ss) (wires p ss)) (there (width_of s p) e)

pub wires_gone : (p : Params) (s : Signal) (ss : List Signal) → (width_of s p == 0) ≡ true → wires p (s ∷ ss) ≡ wires p ss
wires_gone p s ss e = ap (λ x. cond x (s ∷ wires p ss) (wires p ss)) (gone (width_of s p) e)

Along : Params → List Variable → ℕ → List Signal → Type 0
Along p all k ss = sources_along (source_of defaults all p) ss ≡ Ok (written_sources p k ss)

along_by : (p : Params) (all vs : List Variable) (k n : ℕ) (s : Signal) (ss : List Signal) (x : Bool) → (width_of s p == 0) ≡ x → all ≡ vs ++ variables_from p k (wires p (s ∷ ss)) → n ≤ signal_number s → Rise (signal_number s + 1) ss → Fresh n vs
    → (all ≡ vs ++ variables_from p k (wires p ss) → Fresh (signal_number s + 1) vs → Along p all k ss)
    → (all ≡ (vs ++ variable p k s ∷ []) ++ variables_from p (k + 1) (wires p ss) → Fresh (signal_number s + 1) (vs ++ variable p k s ∷ []) → Along p all (k + 1) ss)
    → Along p all k (s ∷ ss)
unfolding Along
along_by p all vs k n s ss true e a le rise fresh without with =
    next_is (source_of defaults all p s) (sources_along (source_of defaults all p) ss) (Fixed 0) (written_sources p k ss)
    (ap (λ x. cond x (Ok (Fixed 0)) (source_in all s (width_of s p) (place_at defaults s))) e)
    (without (a ∙ ap (λ w. vs ++ variables_from p k w) (wires_gone p s ss e)) (λ t above. fresh t (omega arith)))
    ∙ sym (ap (λ x. Ok (cond x (Fixed 0 ∷ written_sources p k ss) (Bits k 0 (width_of s p) ∷ written_sources p (k + 1) ss))) e)
along_by p all vs k n s ss false e a le rise fresh without with =
    let these : all ≡ vs ++ variables_from p k (s ∷ wires p ss) = a ∙ ap (λ w. vs ++ variables_from p k w) (wires_there p s ss e) in
    let one : named (default_name s) all ≡ variable p k s ∷ [] = ap (named (default_name s)) these ∙ named_one p k n s vs (wires p ss) le fresh (rise-filter (λ t. nat_lt 0 (width_of t p)) (signal_number s + 1) ss rise) in
    next_is (source_of defaults all p s) (sources_along (source_of defaults all p) ss) (Bits k 0 (width_of s p)) (written_sources p (k + 1) ss)
    (ap (λ x. cond x (Ok (Fixed 0)) (source_in all s (width_of s p) (place_at defaults s))) e ∙ found_in p all k s one)
    (with (these ∙ sym (append_assoc vs (variable p k s ∷ []) (variables_from p (k + 1) (wires p ss)))) (fresh-push p k n s vs le fresh))
    ∙ sym (ap (λ x. Ok (cond x (Fixed 0 ∷ written_sources p k ss) (Bits k 0 (width_of s p) ∷ written_sources p (k + 1) ss))) e)

along : (p : Params) (all vs : List Variable) (k n : ℕ) (ss : List Signal) → all ≡ vs ++ variables_from p k (wires p ss) → Rise n ss → Fresh n vs → Along p all k ss
unfolding Along
along p all vs k n [] a rise fresh = refl
along p all vs k n (s ∷ ss) a rise fresh =
    along_by p all vs k n s ss (width_of s p == 0) refl a rise.0 rise.1 fresh
    (λ b f. along p all vs k (signal_number s + 1) ss b rise.1 f)
    (λ b f. along p all (vs ++ variable p k s ∷ []) (k + 1) (signal_number s + 1) ss b rise.1 f)

pub sources_are : (p : Params) → sources_of defaults (written_variables p) p ≡ Ok (written_sources p 0 signals)
unfolding sources_of wires_of Along
sources_are p = along p (variables_from p 0 (wires p signals)) [] 0 0 signals refl signals_rise (λ s le. refl)

pub clock_first : (p : Params) → written_sources p 0 signals ≡ Bits 0 0 1 ∷ written_sources p 1 (drop 1 signals)
clock_first p = refl
