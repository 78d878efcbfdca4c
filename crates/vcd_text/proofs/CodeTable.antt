-- A table from codes to sizes, in the order of insertion, as a list of codes.
use Rattle.std.proofs.Common.{◌≡◌, ℕ, ◌+◌, Bool, true, false, cond, List, [], ◌∷◌, ◌++◌, map, Option, Some, None, Vec, refl, sym, ap, ◌∙◌, arith, nat_lt, length}
use Rattle.std.specs.declared.alloc.Global.{Global}
use Rattle.std.specs.List.{position, position_or_len}
use Rattle.std.specs.Map.{keys_of, lookup}
use Rattle.std.specs.Str.{bytes_eq}
use Rattle.vcd_text.specs.Codes.{Code, code_from}

abbrev pub Entry : Type 0
Entry = Vec ℕ Global × ℕ

abbrev pub code_of : Entry → Code
code_of e = record { text = e.0.items; size = e.1 }

abbrev pub is_text : List ℕ → Vec ℕ Global → Bool
is_text text key = bytes_eq text key.items

-- what is found where the first code is another
pub other_code : (n : ℕ) (text : List ℕ) (c : Code) (cs : List Code) → bytes_eq text c.text ≡ false → code_from n text (c ∷ cs) ≡ code_from (n + 1) text cs
other_code n text c cs g = ap (λ x. cond x (Some (n, c.size)) (code_from (n + 1) text cs)) g

-- and where it is this one
pub this_code : (n : ℕ) (text : List ℕ) (c : Code) (cs : List Code) → bytes_eq text c.text ≡ true → code_from n text (c ∷ cs) ≡ Some (n, c.size)
this_code n text c cs g = ap (λ x. cond x (Some (n, c.size)) (code_from (n + 1) text cs)) g

found_by : (text : List ℕ) (e : Entry) (es : List Entry) (n v : ℕ) (b : Bool) → is_text text e.0 ≡ b
    → (lookup (is_text text) es ≡ Some v → code_from (n + 1) text (map code_of es) ≡ Some (n + 1 + position_or_len (is_text text) (keys_of es), v))
    → lookup (is_text text) (e ∷ es) ≡ Some v
    → code_from n text (map code_of (e ∷ es)) ≡ Some (n + position_or_len (is_text text) (keys_of (e ∷ es)), v)
found_by text e es n v true t rest h =
    let is : Some e.1 ≡ Some v = sym (ap (λ b. cond b (Some e.1) (lookup (is_text text) es)) t) ∙ h in
    rw t (ap (λ (o : Option ℕ). elim o as (λ _. Option (ℕ × ℕ)) [ Some w ↦ Some (n, w) | None ↦ None ]) is ∙ ap (λ m. Some (m, v)) (omega arith))
found_by text e es n v false t rest h =
    let is : lookup (is_text text) es ≡ Some v = sym (ap (λ b. cond b (Some e.1) (lookup (is_text text) es)) t) ∙ h in
    rw t (rest is ∙ ap (λ m. Some (m, v)) (omega arith))

found : (text : List ℕ) (es : List Entry) (n v : ℕ) → lookup (is_text text) es ≡ Some v
    → code_from n text (map code_of es) ≡ Some (n + position_or_len (is_text text) (keys_of es), v)
found text [] n v h = cc
found text (e ∷ es) n v h = found_by text e es n v (is_text text e.0) refl (found text es (n + 1) v) h

absent_by : (text : List ℕ) (e : Entry) (es : List Entry) (n : ℕ) (b : Bool) → is_text text e.0 ≡ b
    → (lookup (is_text text) es ≡ None → code_from (n + 1) text (map code_of es) ≡ None)
    → lookup (is_text text) (e ∷ es) ≡ None → code_from n text (map code_of (e ∷ es)) ≡ None
absent_by text e es n true t rest h = let no : Some e.1 ≡ None = sym (ap (λ b. cond b (Some e.1) (lookup (is_text text) es)) t) ∙ h in cc
absent_by text e es n false t rest h = rw t (rest (sym (ap (λ b. cond b (Some e.1) (lookup (is_text text) es)) t) ∙ h))

absent : (text : List ℕ) (es : List Entry) (n : ℕ) → lookup (is_text text) es ≡ None → code_from n text (map code_of es) ≡ None
absent text [] n h = refl
absent text (e ∷ es) n h = absent_by text e es n (is_text text e.0) refl (absent text es (n + 1)) h

position-is_by : (text : List ℕ) (ks : List (Vec ℕ Global)) (i : ℕ) (b : Bool) → nat_lt (position_or_len (is_text text) ks) (length ks) ≡ b
    → position (is_text text) ks ≡ Some i → i ≡ position_or_len (is_text text) ks
position-is_by text ks i true t h = let is : Some (position_or_len (is_text text) ks) ≡ Some i = sym (ap (λ b. cond b (Some (position_or_len (is_text text) ks)) None) t) ∙ h in cc
position-is_by text ks i false t h = let none : Option ℕ = None in let no : none ≡ Some i = sym (ap (λ b. cond b (Some (position_or_len (is_text text) ks)) none) t) ∙ h in cc

-- what the table finds is the code's number and size
pub code_from-found : (text : List ℕ) (es : List Entry) (i v : ℕ) → position (is_text text) (keys_of es) ≡ Some i → lookup (is_text text) es ≡ Some v
    → code_from 0 text (map code_of es) ≡ Some (i, v)
code_from-found text es i v p h =
    found text es 0 v h ∙ ap (λ m. Some (m, v)) (omega (arith, position-is_by text (keys_of es) i (nat_lt (position_or_len (is_text text) (keys_of es)) (length (keys_of es))) refl p))

pub code_from-absent : (text : List ℕ) (es : List Entry) → lookup (is_text text) es ≡ None → code_from 0 text (map code_of es) ≡ None
code_from-absent text es h = absent text es 0 h

-- and a code that isn't among them isn't in the table
pub lookup-absent : (text : List ℕ) (es : List Entry) → code_from 0 text (map code_of es) ≡ None → lookup (is_text text) es ≡ None
lookup-absent text es h = by (lookup (is_text text) es) refl
  where
    by : (o : Option ℕ) → lookup (is_text text) es ≡ o → lookup (is_text text) es ≡ None
    by None e = e
    by (Some v) e = let none : Option (ℕ × ℕ) = None in let no : none ≡ Some (0 + position_or_len (is_text text) (keys_of es), v) = sym h ∙ found text es 0 v e in cc

pub map-append : (es : List Entry) (e : Entry) → map code_of (es ++ e ∷ []) ≡ map code_of es ++ code_of e ∷ []
map-append [] e = refl
map-append (x ∷ es) e = ap (λ cs. code_of x ∷ cs) (map-append es e)
