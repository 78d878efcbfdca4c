-- The table of the signals: codes, names and widths that a text can have.
use Rattle.std.proofs.Common.{◌≡◌, ◌+◌, ◌<◌, ◌≤◌, ◌==◌, ◌&&◌, ℕ, Bool, true, false, not, cond, List, [], ◌∷◌, length, filter, drop, refl, ap, ◌∙◌, arith, lit≤, lit<, zero, suc, get_or}
use Rattle.std.proofs.lemmas.Str.{is_utf8-from_IsUtf8, IsUtf8-from_ascii}
use Rattle.std.specs.Prelude.{nat_lt}
use Rattle.std.specs.List.{list_all, AllByRecursion}
use Rattle.std.specs.Str.{bytes_eq, is_utf8}
use Rattle.std.proofs.lemmas.Bool.Decides.{nat_tests}
use Rattle.xif_base.specs.declared.params.Params.{Params}
use Rattle.xif_base.specs.Params.{IsInRange, IsPortWidth}
use Rattle.xif_signals.specs.declared.signal.Signal.{Signal}
use Rattle.xif_signals.specs.declared.signal.Signal.TheVariants.{Clk, RstN, IssueValid, IssueReady, IssueHartid, IssueId, IssueInstr, IssueAccept, IssueWriteback, IssueRegisterRead, RegisterValid, RegisterReady, RegisterHartid, RegisterId, RegisterRs0, RegisterRs1, RegisterRs2, RegisterRsValid, CommitValid, CommitHartid, CommitId, CommitKill, ResultValid, ResultReady, ResultHartid, ResultId, ResultData, ResultRd, ResultWe}
use Rattle.xif_signals.specs.Signal.{signals, signal_number, code_of, name_of, width_of}
use Rattle.vcd_text.specs.Words.{is_white, is_end, is_code}
use Rattle.vcd_text.specs.Written.{wires, wires_of, data_wires_of}
use Rattle.vcd_text.proofs.Says.{IsWord}

-- ---- codes

pub code_is : (s : Signal) → code_of s ≡ (33 + signal_number s) ∷ []
code_is Clk = refl
code_is RstN = refl
code_is IssueValid = refl
code_is IssueReady = refl
code_is IssueHartid = refl
code_is IssueId = refl
code_is IssueInstr = refl
code_is IssueAccept = refl
code_is IssueWriteback = refl
code_is IssueRegisterRead = refl
code_is RegisterValid = refl
code_is RegisterReady = refl
code_is RegisterHartid = refl
code_is RegisterId = refl
code_is RegisterRs0 = refl
code_is RegisterRs1 = refl
code_is RegisterRs2 = refl
code_is RegisterRsValid = refl
code_is CommitValid = refl
code_is CommitHartid = refl
code_is CommitId = refl
code_is CommitKill = refl
code_is ResultValid = refl
code_is ResultReady = refl
code_is ResultHartid = refl
code_is ResultId = refl
code_is ResultData = refl
code_is ResultRd = refl
code_is ResultWe = refl

pub codes_same : (a b : Signal) → bytes_eq (code_of a) (code_of b) ≡ (signal_number a == signal_number b)
codes_same a b = ap (λ c. bytes_eq c (code_of b)) (code_is a) ∙ ap (bytes_eq ((33 + signal_number a) ∷ [])) (code_is b) ∙ grind (arith, nat_tests)

-- ---- words of a declaration

abbrev is_plain : List ℕ → Bool
is_plain w = nat_lt 0 (length w) && (list_all (λ b. not (is_white b)) w && not (is_end w))

abbrev pub is_ascii : List ℕ → Bool
is_ascii w = list_all (λ b. nat_lt b 128) w

abbrev is_declarable : Signal → Bool
is_declarable s = (is_plain (code_of s) && is_code (code_of s)) && (is_plain (name_of s) && is_ascii (name_of s))

declarable : (s : Signal) → is_declarable s ≡ true
declarable Clk = refl
declarable RstN = refl
declarable IssueValid = refl
declarable IssueReady = refl
declarable IssueHartid = refl
declarable IssueId = refl
declarable IssueInstr = refl
declarable IssueAccept = refl
declarable IssueWriteback = refl
declarable IssueRegisterRead = refl
declarable RegisterValid = refl
declarable RegisterReady = refl
declarable RegisterHartid = refl
declarable RegisterId = refl
declarable RegisterRs0 = refl
declarable RegisterRs1 = refl
declarable RegisterRs2 = refl
declarable RegisterRsValid = refl
declarable CommitValid = refl
declarable CommitHartid = refl
declarable CommitId = refl
declarable CommitKill = refl
declarable ResultValid = refl
declarable ResultReady = refl
declarable ResultHartid = refl
declarable ResultId = refl
declarable ResultData = refl
declarable ResultRd = refl
declarable ResultWe = refl

both : (x y : Bool) → (x && y) ≡ true → (x ≡ true) × (y ≡ true)
both true y e = (refl, e)
both false y e = absurd cc

negated : (x : Bool) → not x ≡ true → x ≡ false
negated true e = absurd cc
negated false e = refl

ascii : (w : List ℕ) → is_ascii w ≡ true → (i : ℕ) → get_or w i 0 < 128
ascii [] e i = lit< tt
ascii (b ∷ w) e zero = let h = both (nat_lt b 128) (is_ascii w) e in grind (arith, nat_tests)
ascii (b ∷ w) e (suc i) = ascii w (both (nat_lt b 128) (is_ascii w) e).1 i

pub utf8 : (w : List ℕ) → is_ascii w ≡ true → is_utf8 w ≡ true
utf8 w e = is_utf8-from_IsUtf8 w (IsUtf8-from_ascii w (ascii w e))

-- a word that doesn't end a block
pub record IsPlain (w : List ℕ) : Type 0 where
  pub word : IsWord w
  pub ends : is_end w ≡ false

plain : (w : List ℕ) → is_plain w ≡ true → IsPlain w
plain w e =
    let some = both (nat_lt 0 (length w)) (list_all (λ b. not (is_white b)) w && not (is_end w)) e in
    let more = both (list_all (λ b. not (is_white b)) w) (not (is_end w)) some.1 in
    record { word = record { some = grind (arith, nat_tests); inked = more.0 }; ends = negated (is_end w) more.1 }

pub record IsDeclarable (s : Signal) : Type 0 where
  pub code : IsPlain (code_of s)
  pub code_fits : is_code (code_of s) ≡ true
  pub name : IsPlain (name_of s)
  pub name_fits : is_utf8 (name_of s) ≡ true

pub is_declarable_lem : (s : Signal) → IsDeclarable s
is_declarable_lem s =
    let all = both (is_plain (code_of s) && is_code (code_of s)) (is_plain (name_of s) && is_ascii (name_of s)) (declarable s) in
    let code = both (is_plain (code_of s)) (is_code (code_of s)) all.0 in
    let name = both (is_plain (name_of s)) (is_ascii (name_of s)) all.1 in
    record { code = plain (code_of s) code.0; code_fits = code.1; name = plain (name_of s) name.0; name_fits = utf8 (name_of s) name.1 }

-- ---- widths

port_width : (w : ℕ) → IsPortWidth w → w ≤ 64
port_width w h = grind arith

third : (b : Bool) (w : ℕ) → w ≤ 64 → cond b w 0 ≤ 64
third true w h = h
third false w h = omega arith

pair : (b : Bool) → 1 + cond b 1 0 ≤ 64
pair true = lit≤ tt
pair false = lit≤ tt

pub width_fits : (p : Params) → IsInRange p → (s : Signal) → width_of s p ≤ 64
width_fits p r Clk = lit≤ tt
width_fits p r RstN = lit≤ tt
width_fits p r IssueValid = lit≤ tt
width_fits p r IssueReady = lit≤ tt
width_fits p r IssueHartid = omega (arith, r.hartid_width.1)
width_fits p r IssueId = omega (arith, r.id_width.1)
width_fits p r IssueInstr = lit≤ tt
width_fits p r IssueAccept = lit≤ tt
width_fits p r IssueWriteback = pair p.dual_write
width_fits p r IssueRegisterRead = omega (arith, r.num_rs.1, r.dual_read)
width_fits p r RegisterValid = lit≤ tt
width_fits p r RegisterReady = lit≤ tt
width_fits p r RegisterHartid = omega (arith, r.hartid_width.1)
width_fits p r RegisterId = omega (arith, r.id_width.1)
width_fits p r RegisterRs0 = port_width p.rfr_width r.rfr_width
width_fits p r RegisterRs1 = port_width p.rfr_width r.rfr_width
width_fits p r RegisterRs2 = third (p.num_rs == 3) p.rfr_width (port_width p.rfr_width r.rfr_width)
width_fits p r RegisterRsValid = omega (arith, r.num_rs.1, r.dual_read)
width_fits p r CommitValid = lit≤ tt
width_fits p r CommitHartid = omega (arith, r.hartid_width.1)
width_fits p r CommitId = omega (arith, r.id_width.1)
width_fits p r CommitKill = lit≤ tt
width_fits p r ResultValid = lit≤ tt
width_fits p r ResultReady = lit≤ tt
width_fits p r ResultHartid = omega (arith, r.hartid_width.1)
width_fits p r ResultId = omega (arith, r.id_width.1)
width_fits p r ResultData = port_width p.rfw_width r.rfw_width
width_fits p r ResultRd = lit≤ tt
width_fits p r ResultWe = pair p.dual_write

-- ---- the signals that are there

-- the numbers rise from one on
abbrev pub Rise : ℕ → List Signal → Type 0
Rise n [] = Unit {0}
Rise n (s ∷ ss) = (n ≤ signal_number s) × Rise (signal_number s + 1) ss

rise-from : (n m : ℕ) (ss : List Signal) → n ≤ m → Rise m ss → Rise n ss
rise-from n m [] l h = tt
rise-from n m (s ∷ ss) l h = (omega (arith, h.0), h.1)

rise-filter_by : (f : Signal → Bool) (n : ℕ) (s : Signal) (ss : List Signal) (x : Bool) → f s ≡ x → n ≤ signal_number s → Rise (signal_number s + 1) (filter f ss) → Rise n (filter f (s ∷ ss))
rise-filter_by f n s ss true e l h = rw e (l, h)
rise-filter_by f n s ss false e l h = rw e (rise-from n (signal_number s + 1) (filter f ss) (omega arith) h)

pub rise-filter : (f : Signal → Bool) (n : ℕ) (ss : List Signal) → Rise n ss → Rise n (filter f ss)
rise-filter f n [] h = tt
rise-filter f n (s ∷ ss) h = rise-filter_by f n s ss (f s) refl h.0 (rise-filter f (signal_number s + 1) ss h.1)

pub signals_rise : Rise 0 signals
signals_rise = (lit≤ tt, (lit≤ tt, (lit≤ tt, (lit≤ tt, (lit≤ tt, (lit≤ tt, (lit≤ tt, (lit≤ tt, (lit≤ tt, (lit≤ tt, (lit≤ tt, (lit≤ tt, (lit≤ tt, (lit≤ tt, (lit≤ tt, (lit≤ tt, (lit≤ tt, (lit≤ tt, (lit≤ tt, (lit≤ tt, (lit≤ tt, (lit≤ tt, (lit≤ tt, (lit≤ tt, (lit≤ tt, (lit≤ tt, (lit≤ tt, (lit≤ tt, (lit≤ tt, tt)))))))))))))))))))))))))))))

pub wires_rise : (p : Params) → Rise 0 (wires_of p)
unfolding wires_of
wires_rise p = rise-filter (λ s. nat_lt 0 (width_of s p)) 0 signals signals_rise

pub wires_are : (p : Params) → wires_of p ≡ Clk ∷ data_wires_of p
unfolding wires_of data_wires_of
wires_are p = refl

-- each has at least one bit
wide-filter_by : (p : Params) (s : Signal) (ss : List Signal) (x : Bool) → nat_lt 0 (width_of s p) ≡ x → AllByRecursion (λ s. 0 < width_of s p) (wires p ss) → AllByRecursion (λ s. 0 < width_of s p) (wires p (s ∷ ss))
wide-filter_by p s ss true e h = rw e (grind (arith, nat_tests), h)
wide-filter_by p s ss false e h = rw e h

wide-filter : (p : Params) (ss : List Signal) → AllByRecursion (λ s. 0 < width_of s p) (wires p ss)
wide-filter p [] = tt
wide-filter p (s ∷ ss) = wide-filter_by p s ss (nat_lt 0 (width_of s p)) refl (wide-filter p ss)

pub wires_wide : (p : Params) → AllByRecursion (λ s. 0 < width_of s p) (data_wires_of p)
unfolding data_wires_of
wires_wide p = wide-filter p (drop 1 signals)
