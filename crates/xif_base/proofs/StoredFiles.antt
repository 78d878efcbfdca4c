-- Only for proofs of the outside in memory: the files that the entries of a map are.
use Rattle.std.proofs.Common.{◌≡◌, ℕ, Bool, true, false, cond, List, [], ◌∷◌, ◌++◌, map, Option, Some, String, Vec, string_bytes, refl, sym, ap, ◌∙◌}
use Rattle.std.specs.Prelude.{if◌then◌else◌}
use Rattle.std.specs.Option.{option_map}
use Rattle.std.specs.Ordering.{nat_cmp, is_eq, eq_by_cmp}
use Rattle.std.specs.Cmp.{eq_by_cmp_equiv}
use Rattle.std.specs.Cmp.Lexicographic.{slice_cmp, nat_list_cmp_total}
use Rattle.std.specs.String.{string_cmp}
use Rattle.std.specs.Str.{bytes_eq}
use Rattle.std.specs.BTreeMap.{BTreeMap, get_by_text, is_at, UpdatesBy}
use Rattle.std.specs.Map.{lookup}
use Rattle.std.specs.declared.alloc.Global.{Global}
use Rattle.std.specs.FinMap.{find, get, insert, get-from_entries, get-insert, same_map, slice_cmp-IsAntisymmetric, nat_cmp-IsAntisymmetric}
use Rattle.std.proofs.lemmas.Map.Text.{is_eq-slice_cmp, btree_map_updates_text}
use Rattle.std.specs.declared.cmp.Ordering.{Ordering}
use Rattle.std.specs.declared.cmp.Ordering.TheVariants.{Less, Equal, Greater}
use Rattle.xif_base.specs.Files.{Files, appended, appended_to}
use Rattle.xif_base.specs.MemoryShelf.{entry_of, files_of}

option_map-if : (b : Bool) (v : Vec ℕ Global) (o : Option (Vec ℕ Global)) →
    option_map (λ x. x.items) (if b then Some v else o)
    ≡ (if b then Some v.items else option_map (λ x. x.items) o)
option_map-if true v o = refl
option_map-if false v o = refl

-- to look a name up among the files is to look it up among the entries
find-entries : (es : List (String Global × Vec ℕ Global)) (name : List ℕ) → find (slice_cmp nat_cmp) name (map entry_of es) ≡ option_map (λ x. x.items) (lookup (is_at (λ k. slice_cmp nat_cmp name (string_bytes k))) es)
find-entries [] name = refl
find-entries (e ∷ es) name =
    ap (cond (eq_by_cmp (slice_cmp nat_cmp) name (string_bytes e.0)) (Some e.1.items)) (find-entries es name)
    ∙ sym (option_map-if (eq_by_cmp (slice_cmp nat_cmp) name (string_bytes e.0)) e.1 (lookup (is_at (λ k. slice_cmp nat_cmp name (string_bytes k))) es))

pub get-files_of : (m : BTreeMap (String Global) (Vec ℕ Global)) (name : List ℕ) → get (files_of m) name ≡ option_map (λ x. x.items) (get_by_text m name)
get-files_of m name = get-from_entries nat_list_cmp_total (map entry_of m.entries) name ∙ find-entries m.entries name

turned : (key name : List ℕ) → bytes_eq key name ≡ eq_by_cmp (slice_cmp nat_cmp) name key
turned key name = sym (is_eq-slice_cmp key name) ∙ (eq_by_cmp_equiv nat_list_cmp_total).symm key name

-- an entry that is put there is a file that is put there
pub files_of-updates : (name : List ℕ) (m n : BTreeMap (String Global) (Vec ℕ Global)) (v : Vec ℕ Global) → UpdatesBy string_cmp (λ k. slice_cmp nat_cmp name (string_bytes k)) m n (Some v) → files_of n ≡ insert (files_of m) name v.items
files_of-updates name m n v u = same_map nat_list_cmp_total (slice_cmp-IsAntisymmetric nat_cmp-IsAntisymmetric) _ _ (λ q.
    get-files_of n q
    ∙ ap (option_map (λ x. x.items)) (btree_map_updates_text name m n (Some v) u q)
    ∙ option_map-if (bytes_eq name q) v (get_by_text m q)
    ∙ ap (λ b. cond b (Some v.items) (option_map (λ x. x.items) (get_by_text m q))) (turned name q)
    ∙ sym (get-insert nat_list_cmp_total (files_of m) name v.items q ∙ ap (cond (eq_by_cmp (slice_cmp nat_cmp) q name) (Some v.items)) (get-files_of m q)))

is_equal : (o : Ordering) → is_eq o ≡ true → o ≡ Equal
is_equal Less h = cc
is_equal Equal h = refl
is_equal Greater h = cc

same_name : (name other : List ℕ) → eq_by_cmp (slice_cmp nat_cmp) name other ≡ true → name ≡ other
same_name name other h = slice_cmp-IsAntisymmetric nat_cmp-IsAntisymmetric name other (is_equal (slice_cmp nat_cmp name other) h)

-- to put a file's own bytes there changes nothing
pub insert-same : (files : Files) (name bytes : List ℕ) → get files name ≡ Some bytes → insert files name bytes ≡ files
insert-same files name bytes e = same_map nat_list_cmp_total (slice_cmp-IsAntisymmetric nat_cmp-IsAntisymmetric) _ _ (λ q. get-insert nat_list_cmp_total files name bytes q ∙ kept q (eq_by_cmp (slice_cmp nat_cmp) q name) refl)
  where
    kept : (q : List ℕ) (b : Bool) → eq_by_cmp (slice_cmp nat_cmp) q name ≡ b → (if b then Some bytes else get files q) ≡ get files q
    kept q true h = sym e ∙ ap (get files) (sym (same_name q name h))
    kept q false h = refl

-- a piece is added to the file that is there
pub appended-at : (files : Files) (name bytes piece : List ℕ) → get files name ≡ Some bytes → appended files name piece ≡ insert files name (bytes ++ piece)
appended-at files name bytes piece e = ap (λ o. appended_to o files name piece) e
