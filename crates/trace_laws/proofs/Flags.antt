-- The flags of the halves that are presented: they grow with what is there, and the flag of a half
-- tells that it is there.
use Rattle.std.proofs.Common.{◌≡◌, ◌≢◌, ◌<◌, ◌+◌, ◌*◌, ◌/◌, ◌%◌, ◌^◌, ℕ, Bool, true, false, refl, sym, ◌∙◌, subst, arith}
use Rattle.std.specs.Prelude.{bit_or, max}
use Rattle.std.specs.Int.{bit_at}
use Rattle.std.proofs.lemmas.Bool.{eqb-true, eqb-false, eq-eqb}
use Rattle.std.proofs.lemmas.Nat.Bits.{bit_at_or, bit_at-lt, bit_at-zero}
use Rattle.xif_base.specs.declared.params.Params.{Params}
use Rattle.inorder_machine.specs.declared.units.Half.{Half}
use Rattle.inorder_machine.specs.declared.units.Half.TheVariants.{Low, High}
use Rattle.xif_signals.specs.Known.{has_flag}
use Rattle.xif_session.specs.Rules.{IsWithin}
use Rattle.ahead_laws.proofs.Presenting.{flag_if, flags_of_halves}

no_one : (z i : ℕ) → has_flag z i ≡ false → bit_at z i ≡ 0
no_one z i h = let small = bit_at-lt z i in let other : bit_at z i ≢ 1 = eqb-false (bit_at z i) 1 h in omega arith

or-within : (x x' y y' : ℕ) → IsWithin x x' → IsWithin y y' → IsWithin (bit_or x y) (bit_or x' y')
or-within x x' y y' a b i h =
    let one : max (bit_at x i) (bit_at y i) ≡ 1 = sym (bit_at_or x y i) ∙ eqb-true (bit_at (bit_or x y) i) 1 h in
    eq-eqb (bit_at (bit_or x' y') i) 1 (bit_at_or x' y' i ∙ go (has_flag x i) refl (has_flag y i) refl one)
  where
    go : (s : Bool) → has_flag x i ≡ s → (t : Bool) → has_flag y i ≡ t → max (bit_at x i) (bit_at y i) ≡ 1 → max (bit_at x' i) (bit_at y' i) ≡ 1
    go true p t q o = let n : bit_at x' i ≡ 1 = eqb-true (bit_at x' i) 1 (a i p) in let m = bit_at-lt y' i in omega (arith, n, m)
    go false p true q o = let n : bit_at y' i ≡ 1 = eqb-true (bit_at y' i) 1 (b i q) in let m = bit_at-lt x' i in omega (arith, n, m)
    go false p false q o = let n = no_one x i p in let m = no_one y i q in absurd (omega (arith, o, n, m))

flag-within : (p : Params) (lane : ℕ) (half : Half) (a a' : Bool) → (a ≡ true → a' ≡ true) → IsWithin (flag_if p lane half a) (flag_if p lane half a')
flag-within p lane half true a' k i h = subst (λ t. has_flag (flag_if p lane half t) i ≡ true) (sym (k refl)) h
flag-within p lane half false a' k i h = let none = bit_at-zero i in let one : bit_at 0 i ≡ 1 = eqb-true (bit_at 0 i) 1 h in absurd (omega (arith, none, one))

zero-within : IsWithin 0 0
zero-within i h = h

-- they grow with what is there
pub flags-within : (p : Params) (a a' : ℕ → Half → Bool) → ((lane : ℕ) (half : Half) → a lane half ≡ true → a' lane half ≡ true) → IsWithin (flags_of_halves p a) (flags_of_halves p a')
flags-within p a a' k =
    let f = λ (lane : ℕ) (half : Half). flag_if p lane half (a lane half) in
    let g = λ (lane : ℕ) (half : Half). flag_if p lane half (a' lane half) in
    let w = λ (lane : ℕ) (half : Half). flag-within p lane half (a lane half) (a' lane half) (k lane half) in
    let u1 = or-within 0 0 (f 0 Low) (g 0 Low) zero-within (w 0 Low) in
    let u2 = or-within (bit_or 0 (f 0 Low)) (bit_or 0 (g 0 Low)) (f 0 High) (g 0 High) u1 (w 0 High) in
    let u3 = or-within (bit_or (bit_or 0 (f 0 Low)) (f 0 High)) (bit_or (bit_or 0 (g 0 Low)) (g 0 High)) (f 1 Low) (g 1 Low) u2 (w 1 Low) in
    let u4 = or-within (bit_or (bit_or (bit_or 0 (f 0 Low)) (f 0 High)) (f 1 Low)) (bit_or (bit_or (bit_or 0 (g 0 Low)) (g 0 High)) (g 1 Low)) (f 1 High) (g 1 High) u3 (w 1 High) in
    let u5 = or-within (bit_or (bit_or (bit_or (bit_or 0 (f 0 Low)) (f 0 High)) (f 1 Low)) (f 1 High)) (bit_or (bit_or (bit_or (bit_or 0 (g 0 Low)) (g 0 High)) (g 1 Low)) (g 1 High)) (f 2 Low) (g 2 Low) u4 (w 2 Low) in
    or-within (bit_or (bit_or (bit_or (bit_or (bit_or 0 (f 0 Low)) (f 0 High)) (f 1 Low)) (f 1 High)) (f 2 Low)) (bit_or (bit_or (bit_or (bit_or (bit_or 0 (g 0 Low)) (g 0 High)) (g 1 Low)) (g 1 High)) (g 2 Low)) (f 2 High) (g 2 High) u5 (w 2 High)

-- the low half of a lane
pub low-of : (low a b : ℕ) → (low + 2 ^ 32 * a) % 2 ^ 32 ≡ (low + 2 ^ 32 * b) % 2 ^ 32
low-of low a b = omega arith

-- the high half, above a word
pub high-of : (low high : ℕ) → low < 2 ^ 32 → (low + 2 ^ 32 * high) / 2 ^ 32 ≡ high
high-of low high h = omega (arith, h)
