-- The table of the codes of one or two bytes, when a code is added.
use Rattle.std.proofs.Common.{◌≡◌, ◌+◌, ◌*◌, ◌<◌, ℕ, Bool, true, false, cond, List, [], ◌∷◌, ◌++◌, length, Option, Some, None, refl, sym, ap, ◌∙◌, arith}
use Rattle.std.specs.Str.{bytes_eq}
use Rattle.std.proofs.lemmas.Bool.Decides.{nat_tests}
use Rattle.std.proofs.lemmas.Option.{same_Some}
use Rattle.std.proofs.lemmas.Slice.Eq.{bytes_eq-Decides}
use Rattle.vcd_text.specs.Codes.{Code, code_from}
use Rattle.vcd_text.specs.ShortCodes.{place_of, IsOfBytes, is_at, found_at, with_found, HasShort}
use Rattle.vcd_text.proofs.CodeTable.{this_code, other_code}

-- a code that isn't among codes isn't the first of them, nor among the others
not_first_by : (n : ℕ) (text : List ℕ) (c : Code) (cs : List Code) (x : Bool) → bytes_eq text c.text ≡ x → code_from n text (c ∷ cs) ≡ None
    → (bytes_eq text c.text ≡ false) × (code_from (n + 1) text cs ≡ None)
not_first_by n text c cs true e none = absurd (let f = sym (this_code n text c cs e) ∙ none in cc)
not_first_by n text c cs false e none = (e, sym (other_code n text c cs e) ∙ none)

not_first : (n : ℕ) (text : List ℕ) (c : Code) (cs : List Code) → code_from n text (c ∷ cs) ≡ None → (bytes_eq text c.text ≡ false) × (code_from (n + 1) text cs ≡ None)
not_first n text c cs none = not_first_by n text c cs (bytes_eq text c.text) refl none

-- two codes of which one is the first and the other isn't are different
apart_by : (text other first : List ℕ) (x : Bool) → bytes_eq text other ≡ x → bytes_eq text first ≡ true → bytes_eq other first ≡ false → x ≡ false
apart_by text other first true e is isnt =
    let same : bytes_eq text first ≡ bytes_eq other first = ap (λ t. bytes_eq t first) ((bytes_eq-Decides text other).0 e) in
    absurd (let f = sym is ∙ (same ∙ isnt) in cc)
apart_by text other first false e is isnt = refl

apart : (text other first : List ℕ) → bytes_eq text first ≡ true → bytes_eq other first ≡ false → bytes_eq text other ≡ false
apart text other first is isnt = apart_by text other first (bytes_eq text other) refl is isnt

-- what is found among codes and one more, which isn't among them
push_by : (n : ℕ) (text : List ℕ) (c : Code) (cs : List Code) (d : Code) (x : Bool) → bytes_eq text c.text ≡ x
    → (code_from (n + 1) d.text cs ≡ None → code_from (n + 1) text (cs ++ d ∷ []) ≡ cond (bytes_eq text d.text) (Some (n + 1 + length cs, d.size)) (code_from (n + 1) text cs))
    → code_from n d.text (c ∷ cs) ≡ None
    → code_from n text (c ∷ (cs ++ d ∷ [])) ≡ cond (bytes_eq text d.text) (Some (n + length (c ∷ cs), d.size)) (code_from n text (c ∷ cs))
push_by n text c cs d true e h none =
    this_code n text c (cs ++ d ∷ []) e
    ∙ sym (ap (λ x. cond x (Some (n + length (c ∷ cs), d.size)) (code_from n text (c ∷ cs))) (apart text d.text c.text e (not_first n d.text c cs none).0) ∙ this_code n text c cs e)
push_by n text c cs d false e h none =
    other_code n text c (cs ++ d ∷ []) e ∙ h (not_first n d.text c cs none).1
    ∙ ap (λ m. cond (bytes_eq text d.text) (Some (m, d.size)) (code_from (n + 1) text cs)) (omega arith)
    ∙ ap (cond (bytes_eq text d.text) (Some (n + length (c ∷ cs), d.size))) (sym (other_code n text c cs e))

push : (n : ℕ) (text : List ℕ) (cs : List Code) (d : Code) → code_from n d.text cs ≡ None
    → code_from n text (cs ++ d ∷ []) ≡ cond (bytes_eq text d.text) (Some (n + length cs, d.size)) (code_from n text cs)
push n text [] d none = ap (λ m. cond (bytes_eq text d.text) (Some (m, d.size)) None) (omega arith)
push n text (c ∷ cs) d none = push_by n text c cs d (bytes_eq text c.text) refl (push (n + 1) text cs d) none

push_first : (text : List ℕ) (cs : List Code) (d : Code) → code_from 0 d.text cs ≡ None
    → code_from 0 text (cs ++ d ∷ []) ≡ cond (bytes_eq text d.text) (Some (length cs, d.size)) (code_from 0 text cs)
push_first text cs d none = push 0 text cs d none ∙ ap (λ m. cond (bytes_eq text d.text) (Some (m, d.size)) (code_from 0 text cs)) (omega arith)

is_one : (w : List ℕ) (a : ℕ) → a < 256 → IsOfBytes w → is_at (place_of w) a ≡ bytes_eq (a ∷ []) w
is_one [] a h b = refl
is_one (x ∷ []) a h b = grind (arith, nat_tests)
is_one (x ∷ y ∷ []) a h b = grind (arith, nat_tests)
is_one (x ∷ y ∷ z ∷ zs) a h b = grind (arith, nat_tests)

is_two : (w : List ℕ) (a b : ℕ) → a < 256 → b < 256 → IsOfBytes w → is_at (place_of w) (256 + 256 * b + a) ≡ bytes_eq (a ∷ b ∷ []) w
is_two [] a b h k i = refl
is_two (x ∷ []) a b h k i = grind (arith, nat_tests)
is_two (x ∷ y ∷ []) a b h k i = grind (arith, nat_tests)
is_two (x ∷ y ∷ z ∷ zs) a b h k i = grind (arith, nat_tests)

-- the table has what the codes and one more say, once that one is noted
pub has_short-push : (places more : List (Option (ℕ × ℕ))) (cs : List Code) (d : Code) → HasShort places cs → code_from 0 d.text cs ≡ None → IsOfBytes d.text
    → ((k : ℕ) → found_at more k ≡ with_found (place_of d.text) (length cs, d.size) places k) → HasShort more (cs ++ d ∷ [])
has_short-push places more cs d has none bytes noted = record {
  one = λ a h.
      noted a ∙ ap (λ x. cond x (Some (length cs, d.size)) (found_at places a)) (is_one d.text a h bytes)
      ∙ ap (cond (bytes_eq (a ∷ []) d.text) (Some (length cs, d.size))) (has.one a h)
      ∙ sym (push_first (a ∷ []) cs d none);
  two = λ a b h k.
      noted (256 + 256 * b + a) ∙ ap (λ x. cond x (Some (length cs, d.size)) (found_at places (256 + 256 * b + a))) (is_two d.text a b h k bytes)
      ∙ ap (cond (bytes_eq (a ∷ b ∷ []) d.text) (Some (length cs, d.size))) (has.two a b h k)
      ∙ sym (push_first (a ∷ b ∷ []) cs d none);
}

pub has_short-same : (places more : List (Option (ℕ × ℕ))) (cs : List Code) → HasShort places cs → ((k : ℕ) → found_at more k ≡ found_at places k) → HasShort more cs
has_short-same places more cs has same = record {
  one = λ a h. same a ∙ has.one a h;
  two = λ a b h k. same (256 + 256 * b + a) ∙ has.two a b h k;
}

-- what the table has at the place of a code
pub found_short : (places : List (Option (ℕ × ℕ))) (cs : List Code) (w : List ℕ) (place : ℕ) → HasShort places cs → IsOfBytes w → place_of w ≡ Some place → found_at places place ≡ code_from 0 w cs
found_short places cs [] place has bytes e = absurd cc
found_short places cs (a ∷ []) place has bytes e = ap (found_at places) (sym (same_Some a place e)) ∙ has.one a bytes
found_short places cs (a ∷ b ∷ []) place has bytes e = ap (found_at places) (sym (same_Some (256 + 256 * b + a) place e)) ∙ has.two a b bytes.0 bytes.1
found_short places cs (a ∷ b ∷ c ∷ w) place has bytes e = absurd cc
