-- Names of a table, and bytes that are text.
use Rattle.std.proofs.Common.{◌≡◌, ◌≤◌, ◌^◌, List, [], ◌∷◌, Bool, true, false, if◌then◌else◌, ◌&&◌, ◌||◌, map, Bor, refl, ap, String, string_bytes, ℕ, suc, min, length, is_some, arith, None}
use Rattle.std.specs.declared.alloc.Global.{Global}
use Rattle.std.specs.List.{list_all, list_any}
use Rattle.std.specs.Str.{bytes_eq, IsUtf8, is_utf8}
use Rattle.toml.specs.Data.{as_integer}
use Rattle.toml.specs.declared.value.Value.{Value}
use Rattle.toml.specs.View.{view, items_view, members_view}
use Rattle.std.proofs.lemmas.Str.{IsUtf8-from_is_utf8, is_utf8-from_IsUtf8}
use Rattle.std.proofs.lemmas.Bool.Decides.{nat_tests}
use Rattle.std.proofs.Math.Nat.{pow-le-pow_right}
use Rattle.toml.specs.Parse.{parse_document}
use Rattle.xif_job.specs.Document.{document_of}
use Rattle.xif_job.specs.Readers.{are_known, are_integers, count}

any_text : (names : List (Bor (List ℕ))) (k : List ℕ) → list_any (λ n. bytes_eq n.now k) names ≡ list_any (λ n. bytes_eq n k) (map (λ n. n.now) names)
any_text [] k = refl
any_text (n ∷ names) k = ap (λ b. bytes_eq n.now k || b) (any_text names k)

-- the names of a table's entries are those of its members
pub known : (names : List (Bor (List ℕ))) (es : List (String Global × Value))
    → list_all (λ k. list_any (λ n. bytes_eq n.now (string_bytes k)) names) (map (λ e. e.0) es) ≡ are_known (map (λ n. n.now) names) (members_view es)
known names [] = refl
known names (e ∷ es) = rw (any_text names (string_bytes e.0), known names es)

-- the kinds and the number of an array's items
pub integers : (vs : List Value) → list_all (λ v. is_some (as_integer (view v))) vs ≡ are_integers (items_view vs)
integers [] = refl
integers (v ∷ vs) = ap (λ b. is_some (as_integer (view v)) && b) (integers vs)

pub count-is : (vs : List Value) → length vs ≡ count (items_view vs)
count-is [] = refl
count-is (v ∷ vs) = ap suc (count-is vs)

-- 2 ^ 5 is no more than the number of ids of 5 bits or more
pub window-most : (w : ℕ) → 5 ≤ w → 32 ≡ min 32 (2 ^ w)
window-most w h = let le : 2 ^ 5 ≤ 2 ^ w = pow-le-pow_right {n = 2} (omega arith) {i = 5} {j = w} h in grind (arith, nat_tests)

not_true : (b : Bool) → (b ≡ true → ⊥) → b ≡ false
not_true true h = absurd (h refl)
not_true false h = refl

-- bytes that are no text are no document
pub no_text : (bytes : List ℕ) → ¬ (IsUtf8 bytes) → document_of bytes ≡ None
no_text bytes n = ap (λ b. if b then parse_document bytes else None) (not_true (is_utf8 bytes) (λ h. n (IsUtf8-from_is_utf8 bytes h)))

-- text is what it is parsed as
pub is_text : (bytes : List ℕ) → IsUtf8 bytes → document_of bytes ≡ parse_document bytes
is_text bytes h = ap (λ b. if b then parse_document bytes else None) (is_utf8-from_IsUtf8 bytes h)
