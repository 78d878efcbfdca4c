-- Files that grow by pieces.
use Rattle.std.proofs.Common.{◌≡◌, ◌≤◌, ◌+◌, ◌-◌, ℕ, suc, Bool, true, false, true≢false, cond, List, [], ◌∷◌, ◌++◌, length, take, drop, Option, Some, None, arith, refl, sym, ap, subst, ◌∙◌, append_assoc, append-nil}
use Rattle.std.proofs.Math.Seq.{take-add}
use Rattle.std.proofs.lemmas.Grind.{common_steps}
use Rattle.std.specs.Prelude.{Result, Ok, Err, OnErr, IfErr}
use Rattle.std.specs.Result.{is_ok, is_err}
use Rattle.std.specs.Option.{option_map}
use Rattle.std.specs.Ordering.{nat_cmp, eq_by_cmp}
use Rattle.std.specs.Cmp.{eq_by_cmp_equiv}
use Rattle.std.specs.Cmp.Lexicographic.{slice_cmp, nat_list_cmp_total}
use Rattle.std.specs.FinMap.{get, insert, get-insert, same_map, slice_cmp-IsAntisymmetric, nat_cmp-IsAntisymmetric}
use Rattle.xif_base.specs.Files.{Files, IsMissing, appended, appended_to, Becomes}
use Rattle.xif_base.specs.Faults.{Rose}
use Rattle.xif_base.specs.declared.outside.WriteFail.{WriteFail}
use Rattle.xif_targets.specs.Writing.{IsWritten, IsWrittenInPart, IsGrowing, IsUncounted, IsCountedFail}

names_equal : (name : List ℕ) → eq_by_cmp (slice_cmp nat_cmp) name name ≡ true
names_equal name = (eq_by_cmp_equiv nat_list_cmp_total).refl name

-- what is put at a name is there
pub get-put : (files : Files) (name bytes : List ℕ) → get (insert files name bytes) name ≡ Some bytes
get-put files name bytes = get-insert nat_list_cmp_total files name bytes name ∙ ap (λ b. cond b (Some bytes) (get files name)) (names_equal name)

-- what is put last at a name is there
pub put-put : (files : Files) (name bytes more : List ℕ) → insert (insert files name bytes) name more ≡ insert files name more
put-put files name bytes more = same_map nat_list_cmp_total (slice_cmp-IsAntisymmetric nat_cmp-IsAntisymmetric) _ _ (λ q.
    get-insert nat_list_cmp_total (insert files name bytes) name more q
    ∙ ap (cond (eq_by_cmp (slice_cmp nat_cmp) q name) (Some more)) (get-insert nat_list_cmp_total files name bytes q)
    ∙ twice (eq_by_cmp (slice_cmp nat_cmp) q name) (Some more) (Some bytes) (get files q)
    ∙ sym (get-insert nat_list_cmp_total files name more q))
  where
    twice : (b : Bool) (x y z : Option (List ℕ)) → cond b x (cond b y z) ≡ cond b x z
    twice true x y z = refl
    twice false x y z = refl

-- a piece is appended to what was written
pub written-more : (before now after : Option Files) (name bytes piece : List ℕ)
    → IsWritten before now name bytes → Becomes now after (λ m. appended m name piece)
    → IsWritten before after name (bytes ++ piece)
written-more None now after name bytes piece is becomes = becomes ∙ ap (option_map (λ m. appended m name piece)) is
written-more (Some m) now after name bytes piece is becomes =
    becomes ∙ ap (option_map (λ m. appended m name piece)) is
    ∙ ap Some (ap (λ o. appended_to o (insert m name bytes) name piece) (get-put m name bytes) ∙ put-put m name bytes (bytes ++ piece))

-- a file that was written is there
pub written-there : (before now : Option Files) (name bytes : List ℕ) → IsWritten before now name bytes → IsMissing now name → ⊥
written-there None now name bytes is missing =
    let none : option_map (λ (m : Files). get m name) None ≡ Some None = ap (option_map (λ m. get m name)) (sym is) ∙ missing in
    cc
written-there (Some m) now name bytes is missing =
    let none : Some (get (insert m name bytes) name) ≡ Some None = ap (option_map (λ m. get m name)) (sym is) ∙ missing in
    let there = get-put m name bytes in
    cc

-- what of a slice was appended stands behind what was sent
pub slice-more : (sent bytes : List ℕ) (done n : ℕ) → (sent ++ take done bytes) ++ take n (take (length bytes - done) (drop done bytes)) ≡ sent ++ take (done + n) bytes
slice-more sent bytes done n =
    let all : take (length bytes - done) (drop done bytes) ≡ drop done bytes = grind (arith, common_steps) in
    append_assoc sent (take done bytes) (take n (take (length bytes - done) (drop done bytes)))
    ∙ ap (λ rest. sent ++ (take done bytes ++ take n rest)) all
    ∙ ap (λ xs. sent ++ xs) (sym (take-add done n bytes))

take-front : (sent bytes : List ℕ) (n : ℕ) → take (length sent + n) (sent ++ bytes) ≡ sent ++ take n bytes
take-front [] bytes n =
    let none : 0 + n ≡ n = omega arith in
    ap (λ k. take k bytes) none
take-front (x ∷ xs) bytes n =
    let more : length (x ∷ xs) + n ≡ suc (length xs + n) = omega arith in
    ap (λ k. take k (x ∷ (xs ++ bytes))) more ∙ ap (λ ys. x ∷ ys) (take-front xs bytes n)

-- a front of what is appended is a front of the whole
pub part-of : (before now : Option Files) (name sent bytes : List ℕ) (n : ℕ) → n ≤ length bytes → IsWritten before now name (sent ++ take n bytes) → IsWrittenInPart before now name (sent ++ bytes)
part-of before now name sent bytes n within is =
    let len : length (sent ++ bytes) ≡ length sent + length bytes = grind (arith, common_steps) in
    record {
      count = length sent + n;
      within = omega (arith, len, within);
      by_front = is ∙ ap (λ text. option_map (λ m. insert m name text) before) (sym (take-front sent bytes n));
    }

-- what was sent is a front of all, whatever follows
pub growing-part : (before now : Option Files) (name pending bytes piece : List ℕ) → IsGrowing before now name pending bytes → IsWrittenInPart before now name (bytes ++ piece)
growing-part before now name pending bytes piece growing =
    let all : bytes ++ piece ≡ growing.sent ++ (pending ++ piece) = ap (λ xs. xs ++ piece) growing.all ∙ append_assoc growing.sent pending piece in
    let none : growing.sent ++ take 0 (pending ++ piece) ≡ growing.sent = append-nil growing.sent in
    rw all (part-of before now name growing.sent (pending ++ piece) 0 (omega arith) (growing.is_sent ∙ ap (λ text. option_map (λ m. insert m name text) before) (sym none)))

-- a piece is put behind what is pending
pub growing-more : {E : Type 0} (before now : Option Files) (name old new piece bytes : List ℕ) (r : Result (Unit {0}) E) → new ≡ cond (is_ok r) (old ++ piece) old → false ≡ is_err r
    → IsGrowing before now name old bytes → IsGrowing before now name new (bytes ++ piece)
growing-more before now name old new piece bytes (Ok x) e ok growing = record {
  sent = growing.sent;
  all = ap (λ xs. xs ++ piece) growing.all ∙ append_assoc growing.sent old piece ∙ ap (λ xs. growing.sent ++ xs) (sym e);
  is_sent = growing.is_sent;
}
growing-more before now name old new piece bytes (Err x) e ok growing = absurd (true≢false (sym ok))

module _ {S : Type 0} {fetch_faults write_faults : S → ℕ} {faultless : S → Type 0} {old mid new : S} where
  -- a failure behind calls that counted nothing
  pub fail-behind : (fail : WriteFail) → IsUncounted fetch_faults write_faults faultless old mid → IsCountedFail fetch_faults write_faults faultless mid new fail → IsCountedFail fetch_faults write_faults faultless old new fail
  fail-behind fail none counted = record {
    fetches = counted.fetches ∙ none.fetches;
    counts = record {
      count = subst (λ n. n ≤ write_faults new) none.writes counted.counts.count;
      stays_faultless = λ said. counted.counts.stays_faultless (none.stays_faultless said);
      no_fault = λ said. counted.counts.no_fault (none.stays_faultless said) ∙ none.writes;
    };
    failed = λ is. subst (λ n. Rose n (write_faults new)) none.writes (counted.failed is);
    has_faults = λ is said. counted.has_faults is (none.stays_faultless said);
    no_memory = λ is. counted.no_memory is ∙ none.writes;
  }

  pub uncounted-behind : IsUncounted fetch_faults write_faults faultless old mid → IsUncounted fetch_faults write_faults faultless mid new → IsUncounted fetch_faults write_faults faultless old new
  uncounted-behind first next = record {
    fetches = next.fetches ∙ first.fetches;
    writes = next.writes ∙ first.writes;
    stays_faultless = λ said. next.stays_faultless (first.stays_faultless said);
  }

pub on_err : {T E : Type 0} {P : Type 0} (r : Result T E) → P → OnErr r P
on_err (Ok x) p = tt
on_err (Err y) p = p

pub if_err : {T E : Type 0} {P : E → Type 0} (r : Result T E) → ((y : E) → r ≡ Err y → P y) → IfErr r P
if_err (Ok x) f = tt
if_err (Err y) f = f y refl
