-- The pieces that are written, joined.
use Rattle.std.proofs.Common.{◌≡◌, ◌+◌, ◌-◌, ◌*◌, ◌^◌, ◌/◌, ◌%◌, ◌<◌, ◌≤◌, ◌==◌, ℕ, zero, suc, set, length-set, Bool, true, false, true≢false, Result, Ok, Err, cond, List, [], ◌∷◌, ◌++◌, map, length, take, drop, get_or, sym, refl, ap, ◌∙◌, append_assoc, arith, Some, drop-cons, add-one, subst}
use Rattle.std.specs.Prelude.{nat_lt, OnOk}
use Rattle.std.specs.Result.{is_err}
use Rattle.std.proofs.lemmas.Bool.Decides.{nat_tests}
use Rattle.std.proofs.lemmas.Bool.{eqb-true}
use Rattle.xif_signals.specs.declared.sample.Quad.{Quad}
use Rattle.xif_signals.specs.declared.signal.Signal.{Signal}
use Rattle.xif_signals.specs.Signal.{width_of}
use Rattle.std.specs.List.{flat_map}
use Rattle.std.specs.Int.Digits.{digits_of}
use Rattle.std.proofs.lemmas.Int.Digits.{digits_of_step}
use Rattle.std.proofs.lemmas.List.{map-append, append-nil, length-append, drop-set, take-append-le, length-take, length-drop, take_all}
use Rattle.std.proofs.Math.Nat.{div-lt_iff_lt-mul, pow-zero, pow-suc}
use Rattle.xif_base.specs.declared.params.Params.{Params}
use Rattle.xif_signals.specs.declared.bus.Bus.{Bus}
use Rattle.xif_signals.specs.Bus.{sample_of}
use Rattle.vcd_text.specs.Written.{numeral, time_line, clock_line, wires, cycle_text, cycles_text, end_text, vcd_text_of}
use Rattle.vcd_text.specs.Writing.{Progress, Wrote}

-- a digit is put before those that are written
pub digit_before : (b n start : ℕ) (line goal : List ℕ) → 2 ≤ b → 0 < n → 1 ≤ start → start ≤ length line → n < b ^ (start - 1) → map (λ d. 48 + d) (digits_of b n) ++ drop start line ≡ goal
    → (1 ≤ start - 1) × (length (set line (start - 1) (48 + n % b)) ≡ length line) × (n / b < b ^ (start - 1 - 1)) × (map (λ d. 48 + d) (digits_of b (n / b)) ++ drop (start - 1) (set line (start - 1) (48 + n % b)) ≡ goal)
digit_before b n zero line goal h k one inside small e = absurd (omega (arith, one))
digit_before b n (suc zero) line goal h k one inside small e =
    let none : b ^ (suc zero - 1) ≡ 1 = pow-zero b in
    absurd (omega (arith, k, subst (λ m. n < m) none small))
digit_before b n (suc (suc j)) line goal h k one inside small e =
    let more : 0 < b = omega (arith, h) in
    let before : suc (suc j) - 1 ≡ suc j = omega arith in
    let less : n / b < b ^ j = (div-lt_iff_lt-mul more).1 (subst (λ m. n < m) (ap (λ k. b ^ k) before ∙ pow-suc b j) small) in
    let within : suc j < length line = omega (arith, inside) in
    let shown = λ (ds : List ℕ). map (λ d. 48 + d) ds in
    let last = 48 + n % b in
    let twice : suc j - 1 ≡ j = omega arith in
    let next : drop (suc j) (set line (suc j) last) ≡ last ∷ drop (suc (suc j)) line = drop-set line (suc j) last within ∙ ap (λ i. last ∷ drop i line) (add-one (suc j)) in
    rw before (rw twice (
      omega arith,
      length-set line (suc j) last,
      less,
      ap (λ t. shown (digits_of b (n / b)) ++ t) next
          ∙ sym (append_assoc (shown (digits_of b (n / b))) (last ∷ []) (drop (suc (suc j)) line))
          ∙ ap (λ t. t ++ drop (suc (suc j)) line) (sym (ap shown (digits_of_step b n h k) ∙ map-append (λ d. 48 + d) (digits_of b (n / b)) (n % b ∷ [])))
          ∙ e,
    ))

-- a mark is put before what stands in a line
pub mark_before : (line : List ℕ) (start mark : ℕ) → 1 ≤ start → start ≤ length line → drop (start - 1) (set line (start - 1) mark) ≡ mark ∷ drop start line
mark_before line zero mark one inside = absurd (omega (arith, one))
mark_before line (suc j) mark one inside =
    let before : suc j - 1 ≡ j = omega arith in
    let within : j < length line = omega (arith, inside) in
    rw before (drop-set line j mark within ∙ ap (λ i. mark ∷ drop i line) (add-one j))

-- a number with one digit more
tens_by : (tens digit n : ℕ) → n ≡ 10 * tens + digit → digit < 10 → (x : Bool) → (n == 0) ≡ x → numeral 10 n ≡ map (λ d. 48 + d) (digits_of 10 tens) ++ (48 + digit) ∷ []
tens_by tens digit n is h true e =
    let none : n ≡ 0 = eqb-true n 0 e in
    let no_tens : tens ≡ 0 = omega (arith, is, none) in
    let no_digit : digit ≡ 0 = omega (arith, is, none) in
    rw e (rw (no_tens, no_digit) refl)
tens_by tens digit n is h false e =
    let some : 0 < n = grind (arith, nat_tests) in
    let quotient : n / 10 ≡ tens = omega (arith, is, h) in
    let last : n % 10 ≡ digit = omega (arith, is, h) in
    let step : digits_of 10 n ≡ digits_of 10 (n / 10) ++ n % 10 ∷ [] = digits_of_step 10 n (omega arith) some in
    rw e (ap (map (λ d. 48 + d)) (step ∙ ap (λ q. digits_of 10 q ++ n % 10 ∷ []) quotient ∙ ap (λ r. digits_of 10 tens ++ r ∷ []) last) ∙ map-append (λ d. 48 + d) (digits_of 10 tens) (digit ∷ []))

pub tens_and_digit : (tens digit : ℕ) → digit < 10 → numeral 10 (10 * tens + digit) ≡ map (λ d. 48 + d) (digits_of 10 tens) ++ (48 + digit) ∷ []
tens_and_digit tens digit h = tens_by tens digit (10 * tens + digit) refl h (10 * tens + digit == 0) refl

-- a mark and what stands behind it in a line are appended
pub marked : (line : List ℕ) (start mark size : ℕ) (text new rest : List ℕ) → size ≡ length line → 1 ≤ start → start ≤ length line → drop start line ≡ rest
    → new ≡ text ++ take (size - (start - 1)) (drop (start - 1) (set line (start - 1) mark)) → new ≡ text ++ mark ∷ rest
marked line start mark size text new rest s one inside e h =
    let behind : drop (start - 1) (set line (start - 1) mark) ≡ mark ∷ rest = mark_before line start mark one inside ∙ ap (λ t. mark ∷ t) e in
    let long : length (mark ∷ rest) ≤ size - (start - 1) = omega (arith, s, one, inside, ap length (sym e), length-drop start line) in
    h ∙ ap (λ t. text ++ take (size - (start - 1)) t) behind ∙ ap (λ t. text ++ t) (take_all (size - (start - 1)) (mark ∷ rest) long)

-- the lines of an edge of the clock
pub edge_lines : (tens digit clock : ℕ) → digit < 10 → 35 ∷ (map (λ d. 48 + d) (digits_of 10 tens) ++ (48 + digit) ∷ 10 ∷ (48 + clock) ∷ 33 ∷ 10 ∷ []) ≡ time_line (10 * tens + digit) ++ clock_line clock
edge_lines tens digit clock h =
    let shown = map (λ d. 48 + d) (digits_of 10 tens) in
    rw (tens_and_digit tens digit h) (sym (append_assoc (35 ∷ (shown ++ (48 + digit) ∷ [])) (10 ∷ []) ((48 + clock) ∷ 33 ∷ 10 ∷ []) ∙ append_assoc (35 ∷ shown) ((48 + digit) ∷ []) (10 ∷ (48 + clock) ∷ 33 ∷ 10 ∷ [])))

-- behind one more cycle
pub wrote_cycle : (w : Progress) (b : Bus) (buses : List Bus) (text piece : List ℕ) → piece ≡ cycle_text w.params w.cycles w.last (sample_of b) → Wrote w buses text → Wrote (record { params = w.params; cycles = w.cycles + 1; last = Some (sample_of b) }) (buses ++ b ∷ []) (text ++ piece)
wrote_cycle w b buses text piece e h = record {
  count = omega (arith, h.count, length-append buses (b ∷ []));
  joined = λ more.
      let rest = cycles_text w.params (w.cycles + 1) (Some (sample_of b)) more in
      append_assoc text piece rest ∙ ap (λ x. text ++ (x ++ rest)) e ∙ h.joined (b ∷ more) ∙ ap (vcd_text_of w.params) (sym (append_assoc buses (b ∷ []) more));
}

pub wrote_end : (w : Progress) (buses : List Bus) (text piece : List ℕ) → piece ≡ end_text w.cycles → Wrote w buses text → text ++ piece ≡ vcd_text_of w.params buses
wrote_end w buses text piece e h = ap (λ x. text ++ x) e ∙ h.joined [] ∙ ap (vcd_text_of w.params) (append-nil buses)

-- one signal more, which is there or not
lines_by : (f : Signal → List ℕ) (p : Params) (s : Signal) (ss : List Signal) (x : Bool) → nat_lt 0 (width_of s p) ≡ x → flat_map f (wires p (s ∷ ss)) ≡ cond x (f s) [] ++ flat_map f (wires p ss)
lines_by f p s ss true e = rw e refl
lines_by f p s ss false e = rw e refl

pub wire_step : (f : Signal → List ℕ) (p : Params) (ss : List Signal) (i : ℕ) (d : Signal) (out new total : List ℕ) → i < length ss → new ≡ out ++ cond (nat_lt 0 (width_of (get_or ss i d) p)) (f (get_or ss i d)) []
    → out ++ flat_map f (wires p (drop i ss)) ≡ total → new ++ flat_map f (wires p (drop (i + 1) ss)) ≡ total
wire_step f p ss i d out new total h e so_far =
    let s = get_or ss i d in
    let x = nat_lt 0 (width_of s p) in
    let rest = flat_map f (wires p (drop (i + 1) ss)) in
    let front : drop i ss ≡ s ∷ drop (i + 1) ss = drop-cons ss i d h ∙ ap (λ n. s ∷ drop n ss) (sym (add-one i)) in
    ap (λ l. l ++ rest) e ∙ append_assoc out (cond x (f s) []) rest
    ∙ ap (λ l. out ++ l) (sym (ap (λ l. flat_map f (wires p l)) front ∙ lines_by f p s (drop (i + 1) ss) x refl))
    ∙ so_far

-- five pieces one behind the other
pub five : (o o1 o2 o3 o4 o5 a b c d e : List ℕ) → o1 ≡ o ++ a → o2 ≡ o1 ++ b → o3 ≡ o2 ++ c → o4 ≡ o3 ++ d → o5 ≡ o4 ++ e → o5 ≡ o ++ (a ++ (b ++ (c ++ (d ++ e))))
five o o1 o2 o3 o4 o5 a b c d e e1 e2 e3 e4 e5 = rw (e5, e4, e3, e2, e1) (simp append_assoc)

-- likewise two, one and two
pub three : (o o1 o2 o3 a b c d e : List ℕ) → o1 ≡ o ++ (a ++ b) → o2 ≡ o1 ++ c → o3 ≡ o2 ++ (d ++ e) → o3 ≡ o ++ (a ++ (b ++ (c ++ (d ++ e))))
three o o1 o2 o3 a b c d e e1 e2 e3 = rw (e3, e2, e1) (simp append_assoc)

pub edge_at : (o o1 : List ℕ) (n clock : ℕ) → o1 ≡ o ++ (time_line (n + 0) ++ clock_line clock) → o1 ≡ o ++ (time_line n ++ clock_line clock)
edge_at o o1 n clock e =
    let same : n + 0 ≡ n = omega arith in
    e ∙ ap (λ t. o ++ (time_line t ++ clock_line clock)) same

-- a text that ends with the last lines that were written goes on with those of a cycle
pub wrote_behind : (w : Progress) (b : Bus) (q : List Quad) (buses : List Bus) (front old new : List ℕ) → q ≡ sample_of b → new ≡ old ++ cycle_text w.params w.cycles w.last q → Wrote w buses (front ++ old) → Wrote (record { params = w.params; cycles = w.cycles + 1; last = Some q }) (buses ++ b ∷ []) (front ++ new)
wrote_behind w b q buses front old new same e h =
    let piece = cycle_text w.params w.cycles w.last (sample_of b) in
    let whole : new ≡ old ++ piece = e ∙ ap (λ x. old ++ cycle_text w.params w.cycles w.last x) same in
    subst (λ x. Wrote (record { params = w.params; cycles = w.cycles + 1; last = Some x }) (buses ++ b ∷ []) (front ++ new)) (sym same)
    (subst (λ t. Wrote (record { params = w.params; cycles = w.cycles + 1; last = Some (sample_of b) }) (buses ++ b ∷ []) t) (append_assoc front old piece ∙ ap (λ t. front ++ t) (sym whole))
    (wrote_cycle w b buses (front ++ old) piece refl h))

-- what holds where there is no error
pub ok_at : {T E P : Type 0} (r : Result T E) → OnOk r P → false ≡ is_err r → P
ok_at (Ok x) p e = p
ok_at (Err x) p e = absurd (true≢false (sym e))

-- what begins with a text still does with more behind it
pub front_more : (front text new more : List ℕ) → new ≡ text ++ more → take (length front) text ≡ front → take (length front) new ≡ front
front_more front text new more h e =
    let long : length front ≤ length text = omega (arith, ap length e, length-take (length front) text) in
    ap (take (length front)) h ∙ take-append-le (length front) text more long ∙ e

pub some_line : (out new piece : List ℕ) (w v : ℕ) → 0 < v → v ≡ w → new ≡ out ++ piece → new ≡ out ++ cond (nat_lt 0 w) piece []
some_line out new piece w v h k e =
    let there : nat_lt 0 w ≡ true = grind (arith, nat_tests) in
    rw there e

pub no_line : (out new piece : List ℕ) (w v : ℕ) → v ≤ 0 → v ≡ w → new ≡ out → new ≡ out ++ cond (nat_lt 0 w) piece []
no_line out new piece w v h k e =
    let gone : nat_lt 0 w ≡ false = grind (arith, nat_tests) in
    rw gone (e ∙ sym (append-nil out))
