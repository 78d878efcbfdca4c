-- The index under the changes of single registers.
use Rattle.std.proofs.Common.{◌≡◌, ◌≢◌, ◌<◌, ◌≤◌, ◌+◌, ◌⊎◌, ℕ, Bool, Option, Some, List, slice_get, min, inl, inr, ⊎_elim, if◌then◌else◌, false, ◌∙◌, arith, sym, ap, subst}
use Rattle.std.specs.Option.{option_map}
use Rattle.std.proofs.lemmas.Bool.{cases_eq}
use Rattle.cycle_spec.specs.declared.entry.Entry.{Entry}
use Rattle.cycle_spec.specs.Flight.{may_write}
use Rattle.flight_table.specs.Table.{writer_of}
use Rattle.flight_table.specs.Index.{first_target, forgotten}
use Rattle.flight_table.proofs.Indexed.{no_target}

-- of a new youngest entry something is noted at its first target and behind it
pub noted : {A : Type 0} (v : A) (dual_write : Bool) (e : Entry) (old mid new : List A) (a b : ℕ) → a ≡ first_target e → b ≡ min (a + 1) 255
    → (a < 32 → slice_get mid a ≡ (if may_write dual_write a e then Some v else slice_get old a)) → ((r : ℕ) → r ≢ a → slice_get mid r ≡ slice_get old r)
    → (b < 32 → slice_get new b ≡ (if may_write dual_write b e then Some v else slice_get mid b)) → ((r : ℕ) → r ≢ b → slice_get new r ≡ slice_get mid r)
    → (r : ℕ) → r < 32 → slice_get new r ≡ (if may_write dual_write r e then Some v else slice_get old r)
noted v dual_write e old mid new a b a_is b_is named_a others_a named_b others_b r l =
    ⊎_elim at_b (λ n. ⊎_elim (at_a n) (elsewhere n) (cases_eq r a)) (cases_eq r b)
  where
    Noted : ℕ → Type 0
    Noted k = slice_get new k ≡ (if may_write dual_write k e then Some v else slice_get old k)

    at_b : r ≡ b → Noted r
    at_b q = subst Noted (sym q)
        (named_b (omega (arith, q)) ∙ ap (λ x. if may_write dual_write b e then Some v else x) (others_a b (λ k. absurd (omega (arith, k, q, b_is, l)))))

    at_a : r ≢ b → r ≡ a → Noted r
    at_a n q = others_b r n ∙ subst (λ k. slice_get mid k ≡ (if may_write dual_write k e then Some v else slice_get old k)) (sym q) (named_a (omega (arith, q)))

    elsewhere : r ≢ b → r ≢ a → Noted r
    elsewhere n m =
        let past : r ≢ first_target e + 1 = λ k. n (omega (arith, k, a_is, b_is, l)) in
        others_b r n ∙ others_a r m
        ∙ sym (ap (λ t. if t then Some v else slice_get old r) (no_target dual_write r e (λ k. m (k ∙ sym a_is)) past))

-- what is so of a register behind an entry that is gone
abbrev pub ForgottenOr : (dual_write : Bool) → Entry → (old new : List (Option ℕ)) → ℕ → Type 0
ForgottenOr dual_write e old new r =
    (slice_get new r ≡ option_map (forgotten e.seq) (slice_get old r))
    ⊎ ((slice_get new r ≡ slice_get old r) × (may_write dual_write r e ≡ false))

-- it is forgotten at its first target and behind it
pub forgot : (dual_write : Bool) (e : Entry) (old mid new : List (Option ℕ)) (a b : ℕ) → a ≡ first_target e → b ≡ min (a + 1) 255
    → (a < 32 → slice_get mid a ≡ option_map (forgotten e.seq) (slice_get old a)) → ((r : ℕ) → r ≢ a → slice_get mid r ≡ slice_get old r)
    → (b < 32 → slice_get new b ≡ option_map (forgotten e.seq) (slice_get mid b)) → ((r : ℕ) → r ≢ b → slice_get new r ≡ slice_get mid r)
    → (r : ℕ) → r < 32 → ForgottenOr dual_write e old new r
forgot dual_write e old mid new a b a_is b_is named_a others_a named_b others_b r l =
    ⊎_elim at_b (λ n. ⊎_elim (at_a n) (elsewhere n) (cases_eq r a)) (cases_eq r b)
  where
    at_b : r ≡ b → ForgottenOr dual_write e old new r
    at_b q = subst (ForgottenOr dual_write e old new) (sym q)
        (inl (named_b (omega (arith, q)) ∙ ap (option_map (forgotten e.seq)) (others_a b (λ k. absurd (omega (arith, k, q, b_is, l))))))

    at_a : r ≢ b → r ≡ a → ForgottenOr dual_write e old new r
    at_a n q = inl (others_b r n ∙ subst (λ k. slice_get mid k ≡ option_map (forgotten e.seq) (slice_get old k)) (sym q) (named_a (omega (arith, q))))

    elsewhere : r ≢ b → r ≢ a → ForgottenOr dual_write e old new r
    elsewhere n m =
        let past : r ≢ first_target e + 1 = λ k. n (omega (arith, k, a_is, b_is, l)) in
        inr (others_b r n ∙ others_a r m, no_target dual_write r e (λ k. m (k ∙ sym a_is)) past)

-- what is so of a register, whose writer is mended or old enough
abbrev pub MendedOr : (dual_write : Bool) → List Entry → (seq : ℕ) → (old new : List (Option ℕ)) → ℕ → Type 0
MendedOr dual_write es seq old new r =
    (slice_get new r ≡ Some (writer_of dual_write es r))
    ⊎ ((slice_get new r ≡ slice_get old r) × ((w : ℕ) → slice_get old r ≡ Some (Some w) → w ≤ seq))

pub mended_one : (dual_write : Bool) (es : List Entry) (seq i : ℕ) (old before after : List (Option ℕ))
    → ((r : ℕ) → r < i → MendedOr dual_write es seq old before r) → ((r : ℕ) → r ≢ i → slice_get after r ≡ slice_get before r)
    → MendedOr dual_write es seq old after i → (r : ℕ) → r < i + 1 → MendedOr dual_write es seq old after r
mended_one dual_write es seq i old before after done others here r l =
    ⊎_elim
    (λ q. subst (λ k. MendedOr dual_write es seq old after k) (sym q) here)
    (λ n.
    ⊎_elim
    (λ m. inl (others r n ∙ m))
    (λ m. inr (others r n ∙ m.0, m.1))
    (done r (omega (arith, l, n))))
    (cases_eq r i)
