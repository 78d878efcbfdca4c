-- How long the text of buses is at most: each cycle has no more than 515 bytes.
use Rattle.std.proofs.Common.{◌≡◌, ◌<◌, ◌≤◌, ◌+◌, ◌*◌, ◌^◌, ◌++◌, ◌==◌, ℕ, suc, Bool, true, false, if◌then◌else◌, List, [], ◌∷◌, map, drop, length, Option, Some, None, nat_lt, refl, sym, ap, subst, arith}
use Rattle.std.specs.List.{flat_map, AllByRecursion}
use Rattle.std.specs.Int.Digits.{digits_of}
use Rattle.std.proofs.lemmas.Bool.{ltb-true}
use Rattle.std.proofs.lemmas.List.{length-append, length-map}
use Rattle.std.proofs.lemmas.Int.Digits.{length-digits_of-le}
use Rattle.xif_base.specs.declared.params.Params.{Params}
use Rattle.xif_base.specs.Params.{IsInRange}
use Rattle.xif_signals.specs.declared.bus.Bus.{Bus}
use Rattle.xif_signals.specs.declared.sample.Quad.{Quad}
use Rattle.xif_signals.specs.declared.signal.Signal.{Signal}
use Rattle.xif_signals.specs.declared.signal.Signal.TheVariants.{Clk, RstN, IssueValid, IssueReady, IssueHartid, IssueId, IssueInstr, IssueAccept, IssueWriteback, IssueRegisterRead, RegisterValid, RegisterReady, RegisterHartid, RegisterId, RegisterRs0, RegisterRs1, RegisterRs2, RegisterRsValid, CommitValid, CommitHartid, CommitId, CommitKill, ResultValid, ResultReady, ResultHartid, ResultId, ResultData, ResultRd, ResultWe}
use Rattle.xif_signals.specs.Signal.{signals, signal_number, code_of, name_of, width_of}
use Rattle.xif_signals.specs.Bus.{sample_of, FitsWidths}
use Rattle.vcd_text.specs.Words.{zero_digit, space, line_feed, number_sign}
use Rattle.vcd_text.specs.Written.{numeral, with_space, with_line_end, var_line, time_line, change_line, clock_line, wires, wires_of, data_wires_of, value_in, is_same, changed_line, header_text, cycle_text, end_text, cycles_text, vcd_text_of}
use Rattle.vcd_text.specs.Writing.{Fits}
use Rattle.vcd_text.proofs.Fitting.{bus_fits}
use Rattle.vcd_text.proofs.Table.{code_is, width_fits}
use lib.Chars.{codes}

-- ---- numbers

numeral-short : (base digits n : ℕ) → 2 ≤ base → 1 ≤ digits → n < base ^ digits → length (numeral base n) ≤ digits
numeral-short base digits n b d h = go (n == 0)
  where
    go : (t : Bool) → length (if t then zero_digit ∷ [] else map (λ d. zero_digit + d) (digits_of base n)) ≤ digits
    go true = d
    go false = omega (arith, length-map (digits_of base n) (λ d. zero_digit + d), length-digits_of-le base digits n b h)

line-end : (w : List ℕ) → length (with_line_end w) ≡ length w + 1
line-end w = length-append w (line_feed ∷ [])

with-space : (w : List ℕ) → length (with_space w) ≡ length w + 1
with-space w = length-append w (space ∷ [])

time-short : (t : ℕ) → t < 10000000 → length (time_line t) ≤ 9
time-short t h =
    let digits : length (numeral 10 t) ≤ 7 = numeral-short 10 7 t (omega arith) (omega arith) (omega (arith, h)) in
    let line : length (time_line t) ≡ suc (length (numeral 10 t)) + 1 = line-end (number_sign ∷ numeral 10 t) in
    omega (arith, digits, line)

-- ---- the change of a signal

-- how many bytes it takes at most
abbrev cost : ℕ → ℕ
cost width = if width == 1 then 3 else width + 4

change-short : (width code value : ℕ) → 1 ≤ width → value < 2 ^ width → length (change_line width (code ∷ []) value) ≤ cost width
change-short width code value some h = go (width == 1)
  where
    go : (t : Bool) → length (if t then with_line_end ((zero_digit + value) ∷ code ∷ []) else with_space (codes "b" ++ numeral 2 value) ++ with_line_end (code ∷ [])) ≤ (if t then 3 else width + 4)
    go true = omega (arith, line-end ((zero_digit + value) ∷ code ∷ []))
    go false =
        let digits = numeral-short 2 width value (omega arith) some h in
        let front = with-space (codes "b" ++ numeral 2 value) in
        let letter : length (codes "b" ++ numeral 2 value) ≡ 1 + length (numeral 2 value) = length-append (codes "b") (numeral 2 value) in
        let back : length (with_line_end (code ∷ [])) ≡ 1 + 1 = line-end (code ∷ []) in
        let both = length-append (with_space (codes "b" ++ numeral 2 value)) (with_line_end (code ∷ [])) in
        omega (arith, digits, front, letter, back, both)

changed-short : (p : Params) (a : Option (List Quad)) (q : List Quad) (s : Signal) → 1 ≤ width_of s p → value_in q s < 2 ^ width_of s p → length (changed_line p a q s) ≤ cost (width_of s p)
changed-short p a q s some h = go (is_same a q s)
  where
    line : length (change_line (width_of s p) (code_of s) (value_in q s)) ≤ cost (width_of s p)
    line = subst (λ code. length (change_line (width_of s p) code (value_in q s)) ≤ cost (width_of s p)) (sym (code_is s)) (change-short (width_of s p) (33 + signal_number s) (value_in q s) some h)

    go : (t : Bool) → length (if t then [] else change_line (width_of s p) (code_of s) (value_in q s)) ≤ cost (width_of s p)
    go true = omega arith
    go false = line

-- the changes of signals
abbrev costs : Params → List Signal → ℕ
costs p [] = 0
costs p (s ∷ ss) = cost (width_of s p) + costs p ss

changes-short : (p : Params) (a : Option (List Quad)) (q : List Quad) (ss : List Signal) → Fits p q → length (flat_map (changed_line p a q) (wires p ss)) ≤ costs p ss
changes-short p a q [] h = omega arith
changes-short p a q (s ∷ ss) h = go (nat_lt 0 (width_of s p)) refl (changes-short p a q ss h)
  where
    go : (t : Bool) → nat_lt 0 (width_of s p) ≡ t → length (flat_map (changed_line p a q) (wires p ss)) ≤ costs p ss
        → length (flat_map (changed_line p a q) (if t then s ∷ wires p ss else wires p ss)) ≤ cost (width_of s p) + costs p ss
    go true e rest =
        let some : 0 < width_of s p = ltb-true 0 (width_of s p) e in
        let first = changed-short p a q s (omega (arith, some)) (h s) in
        let both = length-append (changed_line p a q s) (flat_map (changed_line p a q) (wires p ss)) in
        omega (arith, first, rest, both)
    go false e rest = omega (arith, rest)

cost-most : (width most : ℕ) → width ≤ most → cost width ≤ most + 4
cost-most width most h = go (width == 1)
  where
    go : (t : Bool) → (if t then 3 else width + 4) ≤ most + 4
    go true = omega arith
    go false = omega (arith, h)

flag-few : (dual : Bool) → 1 + (if dual then 1 else 0) ≤ 2
flag-few true = omega arith
flag-few false = omega arith

third-few : (t : Bool) (width : ℕ) → width ≤ 64 → (if t then width else 0) ≤ 64
third-few true width h = h
third-few false width h = omega arith

-- ten signals of one bit; four harts of 8 bits and four ids of 12; a word; six flags, twice, and
-- three lanes of 64 bits; and a result
all-costs : (p : Params) → IsInRange p → costs p (drop 1 signals) ≤ 491
all-costs p r =
    let hart = cost-most p.hartid_width 8 r.hartid_width.1 in
    let id = cost-most p.id_width 12 r.id_width.1 in
    let flags = cost-most (p.num_rs + p.dual_read) 6 (omega (arith, r.num_rs.1, r.dual_read)) in
    let writes = cost-most (1 + (if p.dual_write then 1 else 0)) 2 (flag-few p.dual_write) in
    let lane = cost-most p.rfr_width 64 (width_fits p r RegisterRs0) in
    let third = cost-most (if p.num_rs == 3 then p.rfr_width else 0) 64 (third-few (p.num_rs == 3) p.rfr_width (width_fits p r RegisterRs0)) in
    let outcome = cost-most p.rfw_width 64 (width_fits p r ResultData) in
    omega (arith, hart, id, flags, writes, lane, third, outcome)

-- ---- a cycle

data-short : (p : Params) (a : Option (List Quad)) (q : List Quad) → Fits p q → length (flat_map (changed_line p a q) (data_wires_of p)) ≤ costs p (drop 1 signals)
unfolding data_wires_of
data-short p a q h = changes-short p a q (drop 1 signals) h

clock-short : (value : ℕ) → length (clock_line value) ≡ 3
clock-short value = line-end ((zero_digit + value) ∷ codes "!")

cycle-short : (p : Params) (c : ℕ) (a : Option (List Quad)) (q : List Quad) → IsInRange p → Fits p q → c < 999999 → length (cycle_text p c a q) ≤ 515
cycle-short p c a q r h l =
    let x1 = time_line (10 * c) in
    let x2 = clock_line 0 in
    let x3 = flat_map (changed_line p a q) (data_wires_of p) in
    let x4 = time_line (10 * c + 5) in
    let x5 = clock_line 1 in
    let e1 = length-append x1 (x2 ++ (x3 ++ (x4 ++ x5))) in
    let e2 = length-append x2 (x3 ++ (x4 ++ x5)) in
    let e3 = length-append x3 (x4 ++ x5) in
    let e4 = length-append x4 x5 in
    let t1 = time-short (10 * c) (omega (arith, l)) in
    let t2 = time-short (10 * c + 5) (omega (arith, l)) in
    let d = data-short p a q h in
    omega (arith, e1, e2, e3, e4, t1, t2, d, all-costs p r, clock-short 0, clock-short 1)

end-short : (c : ℕ) → c < 999999 → length (end_text c) ≤ 12
end-short c l =
    let both = length-append (time_line (10 * c)) (clock_line 0) in
    omega (arith, both, time-short (10 * c) (omega (arith, l)), clock-short 0)

cycles-short : (p : Params) (c : ℕ) (a : Option (List Quad)) (buses : List Bus) → IsInRange p → AllByRecursion (FitsWidths p) buses → c + length buses < 999999
    → length (cycles_text p c a buses) ≤ 515 * length buses + 12
cycles-short p c a [] r h l = end-short c (omega (arith, l))
cycles-short p c a (b ∷ bs) r h l =
    let first = cycle-short p c a (sample_of b) r (bus_fits p b h.0) (omega (arith, l)) in
    let rest = cycles-short p (c + 1) (Some (sample_of b)) bs r h.1 (omega (arith, l)) in
    let both = length-append (cycle_text p c a (sample_of b)) (cycles_text p (c + 1) (Some (sample_of b)) bs) in
    omega (arith, first, rest, both)

-- ---- the header

name-short : (s : Signal) → length (name_of s) ≤ 20
name-short Clk = omega arith
name-short RstN = omega arith
name-short IssueValid = omega arith
name-short IssueReady = omega arith
name-short IssueHartid = omega arith
name-short IssueId = omega arith
name-short IssueInstr = omega arith
name-short IssueAccept = omega arith
name-short IssueWriteback = omega arith
name-short IssueRegisterRead = omega arith
name-short RegisterValid = omega arith
name-short RegisterReady = omega arith
name-short RegisterHartid = omega arith
name-short RegisterId = omega arith
name-short RegisterRs0 = omega arith
name-short RegisterRs1 = omega arith
name-short RegisterRs2 = omega arith
name-short RegisterRsValid = omega arith
name-short CommitValid = omega arith
name-short CommitHartid = omega arith
name-short CommitId = omega arith
name-short CommitKill = omega arith
name-short ResultValid = omega arith
name-short ResultReady = omega arith
name-short ResultHartid = omega arith
name-short ResultId = omega arith
name-short ResultData = omega arith
name-short ResultRd = omega arith
name-short ResultWe = omega arith

var-short : (p : Params) (s : Signal) → IsInRange p → length (var_line p s) ≤ 60
var-short p s r =
    let x1 = with_space (codes "$var") in
    let x2 = with_space (codes "wire") in
    let x3 = with_space (numeral 10 (width_of s p)) in
    let x4 = with_space (code_of s) in
    let x5 = with_space (name_of s) in
    let x6 = with_line_end (codes "$end") in
    let digits = numeral-short 10 2 (width_of s p) (omega arith) (omega arith) (omega (arith, width_fits p r s)) in
    let code : length (code_of s) ≡ 1 = ap length (code_is s) in
    let e1 = length-append x1 (x2 ++ (x3 ++ (x4 ++ (x5 ++ x6)))) in
    let e2 = length-append x2 (x3 ++ (x4 ++ (x5 ++ x6))) in
    let e3 = length-append x3 (x4 ++ (x5 ++ x6)) in
    let e4 = length-append x4 (x5 ++ x6) in
    let e5 = length-append x5 x6 in
    let l1 : length x1 ≡ 4 + 1 = with-space (codes "$var") in
    let l2 : length x2 ≡ 4 + 1 = with-space (codes "wire") in
    let l6 : length x6 ≡ 4 + 1 = line-end (codes "$end") in
    omega (arith, digits, code, e1, e2, e3, e4, e5, l1, l2, with-space (numeral 10 (width_of s p)), with-space (code_of s), with-space (name_of s), l6, name-short s)

vars-short : (p : Params) (ss : List Signal) → IsInRange p → length (flat_map (var_line p) (wires p ss)) ≤ 60 * length ss
vars-short p [] r = omega arith
vars-short p (s ∷ ss) r = go (nat_lt 0 (width_of s p)) (vars-short p ss r)
  where
    go : (t : Bool) → length (flat_map (var_line p) (wires p ss)) ≤ 60 * length ss → length (flat_map (var_line p) (if t then s ∷ wires p ss else wires p ss)) ≤ 60 * suc (length ss)
    go true rest =
        let first = var-short p s r in
        let both = length-append (var_line p s) (flat_map (var_line p) (wires p ss)) in
        omega (arith, first, rest, both)
    go false rest = omega (arith, rest)

all-vars : (p : Params) → IsInRange p → length (flat_map (var_line p) (wires_of p)) ≤ 1740
unfolding wires_of
all-vars p r = vars-short p signals r

header-short : (p : Params) → IsInRange p → length (header_text p) ≤ 2000
header-short p r =
    let x1 = codes "$timescale 1 ns $end\n" in
    let x2 = codes "$scope module xif $end\n" in
    let x3 = flat_map (var_line p) (wires_of p) in
    let x4 = codes "$upscope $end\n" in
    let x5 = codes "$enddefinitions $end\n" in
    let e1 = length-append x1 (x2 ++ (x3 ++ (x4 ++ x5))) in
    let e2 = length-append x2 (x3 ++ (x4 ++ x5)) in
    let e3 = length-append x3 (x4 ++ x5) in
    let e4 = length-append x4 x5 in
    let l1 : length x1 ≤ 30 = omega arith in
    let l2 : length x2 ≤ 30 = omega arith in
    let l4 : length x4 ≤ 30 = omega arith in
    let l5 : length x5 ≤ 30 = omega arith in
    omega (arith, e1, e2, e3, e4, l1, l2, l4, l5, all-vars p r)

pub text-short : (p : Params) (buses : List Bus) → IsInRange p → AllByRecursion (FitsWidths p) buses → length buses < 999999 → length (vcd_text_of p buses) ≤ 515 * length buses + 2012
text-short p buses r h l =
    let both = length-append (header_text p) (cycles_text p 0 None buses) in
    omega (arith, both, header-short p r, cycles-short p 0 None buses r h (omega (arith, l)))
