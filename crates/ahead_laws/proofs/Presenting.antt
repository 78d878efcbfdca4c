-- The halves of lanes that the core presents.
use Rattle.std.proofs.Common.{◌≡◌, ◌<◌, ◌≤◌, ◌/◌, ◌%◌, ◌^◌, ◌==◌, ◌&&◌, ◌||◌, ℕ, zero, suc, Bool, true, false, not, nat_lt, Option, Some, None, [], ◌∷◌, bit_and, refl, sym, ap, ◌∙◌, arith, if◌then◌else◌}
use Rattle.std.specs.Option.{option_map_or}
use Rattle.std.proofs.lemmas.Bool.{and_parts, eqb-true, eq-eqb, ltb-true}
use Rattle.std.proofs.lemmas.Nat.{and_shr, and_mod, and_le_l}
use Rattle.xif_base.specs.declared.params.Params.{Params}
use Rattle.xif_base.specs.Params.{IsInRange}
use Rattle.coproc_config.specs.Accept.{flag_of, union_of}
use Rattle.inorder_machine.specs.declared.units.Half.{Half}
use Rattle.inorder_machine.specs.declared.units.Half.TheVariants.{Low, High}
use Rattle.inorder_machine.specs.Units.{has_flag, bit_of, is_read}
use Rattle.xif_session.specs.Tests.{is_within}
use Rattle.cycle_spec.specs.declared.entry.Entry.{Entry}
use Rattle.cycle_spec.specs.declared.entry.Operand.{Operand}
use Rattle.cycle_spec.specs.declared.entry.Operand.TheVariants.{Here, NotYet}
use Rattle.cycle_spec.specs.Flight.{older_than, is_here, value_or_zero}
use Rattle.cycle_spec.specs.State.{Core}
use Rattle.cycle_spec.specs.Choices.{has_half, is_late, half_value, half_of, flags_of}
use Rattle.ahead_spec.specs.Operands.{half_behind}

-- ---- a flag that is within others is one of them

low_bit : (u v : ℕ) → bit_and u v % 2 ≡ 1 → u % 2 ≡ 1
low_bit u v h = go (u % 2) refl (omega arith)
  where
    both : bit_and (u % 2) (v % 2) ≡ 1
    both = sym (and_mod u v 1) ∙ h

    go : (n : ℕ) → u % 2 ≡ n → n < 2 → u % 2 ≡ 1
    go zero e l = absurd (no (v % 2) (ap (λ n. bit_and n (v % 2)) (sym e) ∙ both))
      where
        no : (n : ℕ) → bit_and 0 n ≡ 1 → ⊥
        no n k = omega (arith, k, and_le_l 0 n)
    go (suc zero) e l = e
    go (suc (suc n)) e l = absurd (omega (arith, l))

pub within-flag : (read flags bit : ℕ) → is_within read flags ≡ true → has_flag read bit ≡ true → has_flag flags bit ≡ true
within-flag read flags bit w h =
    let same : bit_and flags read ≡ read = eqb-true (bit_and flags read) read w in
    let one : read / 2 ^ bit % 2 ≡ 1 = eqb-true (read / 2 ^ bit % 2) 1 h in
    let shifted : bit_and (flags / 2 ^ bit) (read / 2 ^ bit) % 2 ≡ 1 = ap (λ n. n % 2) (sym (and_shr flags read bit)) ∙ ap (λ n. n / 2 ^ bit % 2) same ∙ one in
    eq-eqb (flags / 2 ^ bit % 2) 1 (low_bit (flags / 2 ^ bit) (read / 2 ^ bit) shifted)

-- ---- a flag that is set is that of a half that is here, by a test over all cases

abbrev with_dual : Params → ℕ → Params
with_dual p d = record p { dual_read = d }

abbrev pub flag_if : Params → ℕ → Half → Bool → ℕ
flag_if p lane half here = if here then flag_of (bit_of p lane half) else 0

abbrev pub flags_if : Params → (a b c d e f : Bool) → ℕ
flags_if p a b c d e f =
    union_of
    (flag_if p 0 Low a ∷ flag_if p 0 High b ∷ flag_if p 1 Low c ∷ flag_if p 1 High d ∷ flag_if p 2 Low e ∷ flag_if p 2 High f ∷ [])

abbrev pub is_set : Params → ℕ → ℕ → Half → Bool
is_set p flags lane half = option_map_or (has_flag flags) (bit_of p lane half) false

abbrev implies : Bool → Bool → Bool
implies a b = not a || b

abbrev both_ways : (Bool → Bool) → Bool
both_ways test = test true && test false

both_ways-at : (test : Bool → Bool) → both_ways test ≡ true → (b : Bool) → test b ≡ true
both_ways-at test h true = (and_parts (test true) (test false) h).0
both_ways-at test h false = (and_parts (test true) (test false) h).1

abbrev tests : Params → (a b c d e f : Bool) → Bool
tests p a b c d e f =
    let flags = flags_if p a b c d e f in
    implies (is_set p flags 0 Low) a
    && (implies (is_set p flags 0 High) b
    && (implies (is_set p flags 1 Low) c
    && (implies (is_set p flags 1 High) d && (implies (is_set p flags 2 Low) e && implies (is_set p flags 2 High) f))))

abbrev all_tests : Params → Bool
all_tests p =
    both_ways (λ a. both_ways (λ b. both_ways (λ c. both_ways (λ d. both_ways (λ e. both_ways (λ f. tests p a b c d e f))))))

tests_0 : (p : Params) → all_tests (with_dual p 0) ≡ true
tests_0 p = refl

tests_1 : (p : Params) → all_tests (with_dual p 1) ≡ true
tests_1 p = refl

tests_2 : (p : Params) → all_tests (with_dual p 2) ≡ true
tests_2 p = refl

tests_3 : (p : Params) → all_tests (with_dual p 3) ≡ true
tests_3 p = refl

tests_at : (p : Params) (d : ℕ) → d ≤ 3 → all_tests (with_dual p d) ≡ true
tests_at p zero h = tests_0 p
tests_at p (suc zero) h = tests_1 p
tests_at p (suc (suc zero)) h = tests_2 p
tests_at p (suc (suc (suc zero))) h = tests_3 p
tests_at p (suc (suc (suc (suc d)))) h = absurd (omega (arith, h))

tested : (p : Params) → IsInRange p → (a b c d e f : Bool) → tests p a b c d e f ≡ true
tested p r a b c d e f =
    let all : all_tests p ≡ true = tests_at p p.dual_read (omega (arith, r.num_rs, r.dual_read)) in
    both_ways-at (λ f. tests p a b c d e f) (
    both_ways-at (λ e. both_ways (λ f. tests p a b c d e f)) (
    both_ways-at (λ d. both_ways (λ e. both_ways (λ f. tests p a b c d e f))) (
    both_ways-at (λ c. both_ways (λ d. both_ways (λ e. both_ways (λ f. tests p a b c d e f)))) (
    both_ways-at (λ b. both_ways (λ c. both_ways (λ d. both_ways (λ e. both_ways (λ f. tests p a b c d e f))))) (
    both_ways-at (λ a. both_ways (λ b. both_ways (λ c. both_ways (λ d. both_ways (λ e. both_ways (λ f. tests p a b c d e f)))))) all a) b) c) d) e) f

implied : (a b : Bool) → implies a b ≡ true → a ≡ true → b ≡ true
implied true b h k = h
implied false b h k = cc

six_parts : (u v w x y z : Bool) → (u && (v && (w && (x && (y && z))))) ≡ true → (u ≡ true) × ((v ≡ true) × ((w ≡ true) × ((x ≡ true) × ((y ≡ true) × (z ≡ true)))))
six_parts true true true true true true h = (refl, (refl, (refl, (refl, (refl, refl)))))
six_parts true true true true true false h = absurd cc
six_parts true true true true false z h = absurd cc
six_parts true true true false y z h = absurd cc
six_parts true true false x y z h = absurd cc
six_parts true false w x y z h = absurd cc
six_parts false v w x y z h = absurd cc

abbrev pub flags_of_halves : Params → (ℕ → Half → Bool) → ℕ
flags_of_halves p here = flags_if p (here 0 Low) (here 0 High) (here 1 Low) (here 1 High) (here 2 Low) (here 2 High)

pub set-here : (p : Params) (here : ℕ → Half → Bool) → IsInRange p → (lane : ℕ) (half : Half) → lane < 3 → is_set p (flags_of_halves p here) lane half ≡ true → here lane half ≡ true
set-here p here r lane half small h = go lane half small h
  where
    flags : ℕ
    flags = flags_of_halves p here

    of : ℕ → Half → Bool
    of lane half = implies (is_set p flags lane half) (here lane half)

    parts : (of 0 Low ≡ true) × ((of 0 High ≡ true) × ((of 1 Low ≡ true) × ((of 1 High ≡ true) × ((of 2 Low ≡ true) × (of 2 High ≡ true)))))
    parts = six_parts (of 0 Low) (of 0 High) (of 1 Low) (of 1 High) (of 2 Low) (of 2 High) (tested p r (here 0 Low) (here 0 High) (here 1 Low) (here 1 High) (here 2 Low) (here 2 High))

    go : (lane : ℕ) (half : Half) → lane < 3 → is_set p flags lane half ≡ true → here lane half ≡ true
    go zero Low l h = implied (is_set p flags 0 Low) (here 0 Low) parts.0 h
    go zero High l h = implied (is_set p flags 0 High) (here 0 High) parts.1.0 h
    go (suc zero) Low l h = implied (is_set p flags 1 Low) (here 1 Low) parts.1.1.0 h
    go (suc zero) High l h = implied (is_set p flags 1 High) (here 1 High) parts.1.1.1.0 h
    go (suc (suc zero)) Low l h = implied (is_set p flags 2 Low) (here 2 Low) parts.1.1.1.1.0 h
    go (suc (suc zero)) High l h = implied (is_set p flags 2 High) (here 2 High) parts.1.1.1.1.1 h
    go (suc (suc (suc n))) half l h = absurd (omega (arith, l))

-- ---- a handshake

within-set : (p : Params) (read flags lane : ℕ) (half : Half) → is_within read flags ≡ true → is_set p read lane half ≡ true → is_set p flags lane half ≡ true
within-set p read flags lane half w h = go (bit_of p lane half) h
  where
    go : (o : Option ℕ) → option_map_or (has_flag read) o false ≡ true → option_map_or (has_flag flags) o false ≡ true
    go None h = h
    go (Some bit) h = within-flag read flags bit w h

here-value : (b : Bool) (o : Operand) → is_here (if b then o else NotYet) ≡ true → o ≡ Here (value_or_zero (if b then o else NotYet))
here-value true (Here v) h = refl
here-value true NotYet h = absurd cc
here-value false o h = absurd cc

-- where all that is read is valid, each half that is read carries its register behind older entries
pub presented : (w : Core) (e : Entry) (read lane : ℕ) (half : Half) → IsInRange w.params → is_within read (flags_of w e) ≡ true → is_read w.params read lane half ≡ true
    → half_behind w.params.dual_write w.registers (older_than e.seq w.flight) e.word lane half ≡ Here (value_or_zero (half_of w e lane half))
presented w e read lane half range within h =
    let parts = and_parts (nat_lt lane w.params.num_rs) (is_set w.params read lane half) h in
    let small : lane < 3 = omega (arith, ltb-true lane w.params.num_rs parts.0, range.num_rs) in
    let set : is_set w.params (flags_of w e) lane half ≡ true = within-set w.params read (flags_of w e) lane half within parts.1 in
    let here : is_here (half_of w e lane half) ≡ true = set-here w.params (λ n h. is_here (half_of w e n h)) range lane half small set in
    here-value (has_half w.params e.word lane half && not (is_late w e && not (lane == 0))) (half_value w e lane half) here
