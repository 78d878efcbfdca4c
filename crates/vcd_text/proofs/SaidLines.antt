-- What the lines of the body say.
use Rattle.std.proofs.Common.{◌≡◌, ◌+◌, ◌^◌, ◌<◌, ◌≤◌, ◌==◌, ℕ, zero, suc, Bool, true, false, List, [], ◌∷◌, ◌++◌, length, Some, None, Ok, refl, ap, ◌∙◌, arith, lit≤}
use Rattle.std.specs.Prelude.{nat_le}
use Rattle.std.proofs.lemmas.Bool.Decides.{nat_tests}
use Rattle.std.proofs.lemmas.Bool.{eqb-true}
use Rattle.vcd_text.specs.declared.digit.Digit.{Digit}
use Rattle.vcd_text.specs.declared.digit.Digit.TheVariants.{Zero, One}
use Rattle.vcd_text.specs.declared.state.Part.TheVariants.{Nothing, Vector}
use Rattle.vcd_text.specs.declared.declaration.Variable.{Variable}
use Rattle.vcd_text.specs.declared.item.Item.TheVariants.{Time, Change}
use Rattle.vcd_text.specs.declared.state.State.{State}
use Rattle.vcd_text.specs.Codes.{Code, code_from}
use Rattle.vcd_text.specs.Grammar.{time_of, change_of, vector, goes, with_part}
use Rattle.vcd_text.specs.Written.{numeral, time_line, change_line, with_space, with_line_end, bits}
use Rattle.vcd_text.proofs.Says.{Says, says-then, says-word, word-cons, word-one}
use Rattle.vcd_text.proofs.Numerals.{numeral_word, number_numeral, digits_numeral, some_bits, length_bits}

-- behind the declarations, outside a part
abbrev pub in_body : List Code → List Variable → ℕ → State
in_body cs vs t = record { scopes = []; codes = cs; variables = vs; is_declared = true; time = t; part = Nothing }

le_true : (u t : ℕ) → u ≤ t → nat_le u t ≡ true
le_true u t h = grind (arith, nat_tests)

time_is : (s : State) (at t : ℕ) → s.time ≤ t → time_of s at (Some t) ≡ Ok (record s { time = t }, Some (Time t))
time_is s at t h = rw (le_true s.time t h) refl

change_is : (s : State) (at code_at k w : ℕ) (ds : List Digit) → length ds ≤ w → change_of s at code_at ds (Some (k, w)) ≡ Ok (s, Some (Change k ds))
change_is s at code_at k w ds h = rw (le_true (length ds) w h) refl

module _ (cs : List Code) (vs : List Variable) where
  pub says-time : (at u t : ℕ) → u ≤ t → t < 2 ^ 64 → Says at (in_body cs vs u) (time_line t) (in_body cs vs t) (Time t ∷ [])
  says-time at u t h k =
      says-word at (in_body cs vs u) (in_body cs vs t) (35 ∷ numeral 10 t) 10 (Some (Time t)) (word-cons 35 (numeral 10 t) (lit≤ tt) (numeral_word 10 t (lit≤ tt))) refl
      (ap (time_of (in_body cs vs u) at) (number_numeral t k) ∙ time_is (in_body cs vs u) at t h)

  -- a digit and a code of one character
  pub says-digit : (at t b k v : ℕ) → 33 ≤ b → code_from 0 (b ∷ []) cs ≡ Some (k, 1) → v < 2 → Says at (in_body cs vs t) (with_line_end ((48 + v) ∷ b ∷ [])) (in_body cs vs t) (Change k (bits v) ∷ [])
  says-digit at t b k zero l e h =
      let s = in_body cs vs t in
      says-word at s s (48 ∷ b ∷ []) 10 (Some (Change k (bits 0))) (word-cons 48 (b ∷ []) (lit≤ tt) (word-one b l)) refl
      (ap (change_of s at at (Zero ∷ [])) e)
  says-digit at t b k (suc zero) l e h =
      let s = in_body cs vs t in
      says-word at s s (49 ∷ b ∷ []) 10 (Some (Change k (bits 1))) (word-cons 49 (b ∷ []) (lit≤ tt) (word-one b l)) refl
      (ap (change_of s at at (One ∷ [])) e)
  says-digit at t b k (suc (suc v)) l e h = absurd (omega arith)

vector_is : (s : State) (at : ℕ) (ds : List Digit) → 0 < length ds → vector s at (Some ds) ≡ goes (with_part s (Vector at ds))
vector_is s at [] h = absurd (omega arith)
vector_is s at (d ∷ ds) h = refl

module _ (cs : List Code) (vs : List Variable) where
  says-vector : (at t b k w v : ℕ) → 33 ≤ b → code_from 0 (b ∷ []) cs ≡ Some (k, w) → 0 < w → v < 2 ^ w → Says at (in_body cs vs t) (with_space (98 ∷ numeral 2 v) ++ with_line_end (b ∷ [])) (in_body cs vs t) (Change k (bits v) ∷ [])
  says-vector at t b k w v l e h f =
      let s = in_body cs vs t in
      let m : State = with_part s (Vector at (bits v)) in
      let n = at + length (with_space (98 ∷ numeral 2 v)) in
      says-then at s m s (with_space (98 ∷ numeral 2 v)) (with_line_end (b ∷ [])) [] (Change k (bits v) ∷ [])
      (says-word at s m (98 ∷ numeral 2 v) 32 None (word-cons 98 (numeral 2 v) (lit≤ tt) (numeral_word 2 v (lit≤ tt))) refl
      (ap (vector s at) (digits_numeral v) ∙ vector_is s at (bits v) (some_bits v)))
      (says-word n m s (b ∷ []) 10 (Some (Change k (bits v))) (word-one b l) refl
      (ap (change_of s at n (bits v)) e ∙ change_is s at n k w (bits v) (length_bits w v h f)))

  says-change_by : (at t b k w v : ℕ) → 33 ≤ b → code_from 0 (b ∷ []) cs ≡ Some (k, w) → 0 < w → v < 2 ^ w → (x : Bool) → (w == 1) ≡ x → Says at (in_body cs vs t) (change_line w (b ∷ []) v) (in_body cs vs t) (Change k (bits v) ∷ [])
  says-change_by at t b k w v l e h f true g =
      let one : w ≡ 1 = eqb-true w 1 g in
      rw g (says-digit cs vs at t b k v l (e ∙ ap (λ n. Some (k, n)) one) (rw one at f))
  says-change_by at t b k w v l e h f false g = rw g (says-vector at t b k w v l e h f)

  pub says-change : (at t b k w v : ℕ) → 33 ≤ b → code_from 0 (b ∷ []) cs ≡ Some (k, w) → 0 < w → v < 2 ^ w → Says at (in_body cs vs t) (change_line w (b ∷ []) v) (in_body cs vs t) (Change k (bits v) ∷ [])
  says-change at t b k w v l e h f = says-change_by at t b k w v l e h f (w == 1) refl
