-- What a unit makes of lanes that carry what a word reads.
use Rattle.std.proofs.Common.{◌≡◌, ◌<◌, ◌≤◌, ◌+◌, ◌*◌, ◌/◌, ◌%◌, ◌^◌, ◌&&◌, ℕ, zero, suc, Bool, true, false, nat_lt, Option, Some, None, IsSomeAnd, List, slice_index, refl, sym, ap, ◌∙◌, arith, lit<, if◌then◌else◌}
use native.Mathlib.Nat.{pow-le-pow_right}
use Rattle.std.specs.Option.{option_map_or}
use Rattle.std.proofs.Math.Nat.{div-eq_of_lt}
use Rattle.std.proofs.lemmas.Bool.{eqb-true, eq-eqb, lt-ltb, ltb-true}
use Rattle.std.proofs.lemmas.Bool.Decides.{nat_tests}
use Rattle.xif_base.specs.declared.params.Params.{Params}
use Rattle.xif_base.specs.Params.{IsInRange}
use Rattle.xif_base.specs.Flags.{even_bit, odd_bit}
use Rattle.coproc_config.specs.declared.accept.Hit.{Hit}
use Rattle.coproc_config.specs.Bits.{low_half, high_half}
use Rattle.coproc_config.specs.Accept.{HasFlag, ReadsLow, ReadsHigh, IsAllowed}
use Rattle.coproc_config.specs.Laws.{AgreeOn}
use Rattle.coproc_config.proofs.Unread.{unread}
use Rattle.inorder_machine.specs.declared.units.Half.{Half}
use Rattle.inorder_machine.specs.declared.units.Half.TheVariants.{Low, High}
use Rattle.inorder_machine.specs.Machine.{Extension, State, register_of}
use Rattle.inorder_machine.specs.Units.{has_flag, is_read, half_of, lane_values}
use Rattle.cycle_spec.specs.Engine.{register_read_of, outcome_by}
use Rattle.ahead_spec.specs.Operands.{word_hit, halves_read, lanes_of, half_in, CarriesOperands, applied_to}
use Rattle.ahead_laws.proofs.Hits.{hit-flags, hit-allowed}

-- ---- a lane that is read exists

no-flag : (flags bit : ℕ) → flags < 2 ^ bit → HasFlag flags bit → ⊥
no-flag flags bit small h =
    let none : flags / 2 ^ bit ≡ 0 = div-eq_of_lt small in
    omega (arith, none, h)

pub low-lane : (p : Params) (word : ℕ) (hit : Hit) (lane : ℕ) → IsInRange p → IsAllowed p word hit → ReadsLow p hit.register_read.0 lane → lane < p.num_rs
low-lane p word hit lane range allowed h = go (nat_lt lane p.num_rs) refl
  where
    go : (b : Bool) → nat_lt lane p.num_rs ≡ b → lane < p.num_rs
    go true e = ltb-true lane p.num_rs e
    go false e =
        let past : p.num_rs ≤ lane = grind (arith, nat_tests) in
        let bit : p.num_rs + p.dual_read ≤ even_bit p lane = omega (arith, past, range.dual_read) in
        let most : 2 ^ (p.num_rs + p.dual_read) ≤ 2 ^ even_bit p lane = pow-le-pow_right {n = 2} (lit< tt) bit in
        let small : hit.register_read.0 < 2 ^ even_bit p lane = omega (arith, most, allowed.reads) in
        absurd (no-flag hit.register_read.0 (even_bit p lane) small h)

is_read-low : (p : Params) (flags lane : ℕ) → lane < p.num_rs → ReadsLow p flags lane → is_read p flags lane Low ≡ true
is_read-low p flags lane there h =
    ap (λ b. b && has_flag flags (even_bit p lane)) (lt-ltb lane p.num_rs there) ∙ eq-eqb (flags / 2 ^ even_bit p lane % 2) 1 h

high-flag : (flags : ℕ) (bit : Option ℕ) → IsSomeAnd bit (HasFlag flags) → option_map_or (has_flag flags) bit false ≡ true
high-flag flags None h = absurd h
high-flag flags (Some bit) h = eq-eqb (flags / 2 ^ bit % 2) 1 h

is_read-high : (p : Params) (flags lane : ℕ) → lane < p.num_rs → ReadsHigh p flags lane → is_read p flags lane High ≡ true
is_read-high p flags lane there h =
    ap (λ b. b && option_map_or (has_flag flags) (odd_bit p lane) false) (lt-ltb lane p.num_rs there) ∙ high-flag flags (odd_bit p lane) h

-- ---- lanes that carry what is read agree with those of the in-order machine

below_3 : (P : ℕ → Type 0) → P 0 → P 1 → P 2 → (n : ℕ) → n < 3 → P n
below_3 P a b c zero h = a
below_3 P a b c (suc zero) h = b
below_3 P a b c (suc (suc zero)) h = c
below_3 P a b c (suc (suc (suc n))) h = absurd (omega (arith, h))

lane-is : (halves : ℕ → Half → ℕ) (n : ℕ) → n < 3 → slice_index (lanes_of halves) n ≡ halves n Low + 2 ^ 32 * halves n High
lane-is halves = below_3 (λ n. slice_index (lanes_of halves) n ≡ halves n Low + 2 ^ 32 * halves n High) refl refl refl

value-is : (p : Params) (f : ℕ → ℕ) (word flags n : ℕ) → n < 3 → slice_index (lane_values p f word flags) n ≡ half_of p f word flags n Low + 2 ^ 32 * half_of p f word flags n High
value-is p f word flags = below_3 (λ n. slice_index (lane_values p f word flags) n ≡ half_of p f word flags n Low + 2 ^ 32 * half_of p f word flags n High) refl refl refl

low-of : (a b c d : ℕ) → a ≡ b → low_half (a + 2 ^ 32 * c) ≡ low_half (b + 2 ^ 32 * d)
low-of a b c d e = omega (arith, e)

half-read : (x : Extension) (s : State) (word flags n : ℕ) (half : Half) → is_read x.params flags n half ≡ true → half_of x.params (register_of s) word flags n half ≡ half_in s word n half
half-read x s word flags n half h = ap (λ b. if b then half_in s word n half else 0) h

agree : (x : Extension) (s : State) (word : ℕ) (hit : Hit) (lanes : List ℕ) → IsInRange x.params → IsAllowed x.params word hit → word_hit x word ≡ Some hit → CarriesOperands x s word lanes
    → AgreeOn x.params hit.register_read.0 lanes (lane_values x.params (register_of s) word (halves_read x word))
agree x s word hit lanes range allowed e c = record { low = low; high = high }
  where
    flags : ℕ
    flags = halves_read x word

    flags_are : flags ≡ hit.register_read.0
    flags_are = ap register_read_of e

    there : (n : ℕ) → ReadsLow x.params hit.register_read.0 n → n < x.params.num_rs
    there n h = low-lane x.params word hit n range allowed h

    carried : (n : ℕ) (half : Half) → is_read x.params flags n half ≡ true → c.halves n half ≡ half_of x.params (register_of s) word flags n half
    carried n half h = c.read n half h ∙ sym (half-read x s word flags n half h)

    read_low : (n : ℕ) → ReadsLow x.params hit.register_read.0 n → is_read x.params flags n Low ≡ true
    read_low n h = ap (λ f. is_read x.params f n Low) flags_are ∙ is_read-low x.params hit.register_read.0 n (there n h) h

    ours : (n : ℕ) → n < 3 → slice_index lanes n ≡ c.halves n Low + 2 ^ 32 * c.halves n High
    ours n h = ap (λ l. slice_index l n) c.lanes_are ∙ lane-is c.halves n h

    theirs : (n : ℕ) → n < 3 → slice_index (lane_values x.params (register_of s) word flags) n ≡ half_of x.params (register_of s) word flags n Low + 2 ^ 32 * half_of x.params (register_of s) word flags n High
    theirs n h = value-is x.params (register_of s) word flags n h

    few : (n : ℕ) → n < x.params.num_rs → n < 3
    few n h = omega (arith, h, range.num_rs)

    low : (n : ℕ) → ReadsLow x.params hit.register_read.0 n → low_half (slice_index lanes n) ≡ low_half (slice_index (lane_values x.params (register_of s) word flags) n)
    low n h =
        let small = few n (there n h) in
        ap low_half (ours n small)
        ∙ low-of (c.halves n Low) (half_of x.params (register_of s) word flags n Low) (c.halves n High) (half_of x.params (register_of s) word flags n High) (carried n Low (read_low n h))
        ∙ sym (ap low_half (theirs n small))

    high : (n : ℕ) → ReadsHigh x.params hit.register_read.0 n → high_half (slice_index lanes n) ≡ high_half (slice_index (lane_values x.params (register_of s) word flags) n)
    high n h =
        let both = (allowed.read_pairs n h).0 in
        let small = few n (there n both) in
        let second : is_read x.params flags n High ≡ true = ap (λ f. is_read x.params f n High) flags_are ∙ is_read-high x.params hit.register_read.0 n (there n both) h in
        ap high_half (ours n small)
        ∙ ap (λ v. high_half (v + 2 ^ 32 * c.halves n High)) (carried n Low (read_low n both))
        ∙ ap (λ v. high_half (half_of x.params (register_of s) word flags n Low + 2 ^ 32 * v)) (carried n High second)
        ∙ sym (ap high_half (theirs n small))

-- a unit makes of them what it makes of the registers
pub carried-same : (x : Extension) (s : State) (word : ℕ) (units : List (List ℕ)) (lanes : List ℕ) → IsInRange x.params → CarriesOperands x s word lanes
    → applied_to x word units lanes ≡ applied_to x word units (lane_values x.params (register_of s) word (halves_read x word))
carried-same x s word units lanes range c = go (word_hit x word) refl
  where
    go : (o : Option Hit) → word_hit x word ≡ o → outcome_by x.set o units lanes ≡ outcome_by x.set o units (lane_values x.params (register_of s) word (halves_read x word))
    go None e = refl
    go (Some hit) e =
        unread x.set x.params word hit units lanes (lane_values x.params (register_of s) word (halves_read x word)) range (hit-flags x.set x.params word hit e)
        (agree x s word hit lanes range (hit-allowed x.set x.params word hit range e) e c)

-- a word that reads nothing is carried by any lanes
pub carries-nothing : (x : Extension) (s : State) (word : ℕ) (lanes : List ℕ) → halves_read x word ≡ 0 → (halves : ℕ → Half → ℕ) → lanes ≡ lanes_of halves → CarriesOperands x s word lanes
carries-nothing x s word lanes none halves e = record {
  halves = halves;
  lanes_are = e;
  read = λ lane half h. absurd (unread_half lane half (ap (λ f. is_read x.params f lane half) (sym none) ∙ h));
}
  where
    no_bit : (bit : ℕ) → has_flag 0 bit ≡ true → ⊥
    no_bit bit h =
        let one : 0 / 2 ^ bit % 2 ≡ 1 = eqb-true (0 / 2 ^ bit % 2) 1 h in
        let zero_is : 0 / 2 ^ bit ≡ 0 = omega arith in
        omega (arith, one, zero_is)

    by : (there : Bool) (bit : Option ℕ) → (there && option_map_or (has_flag 0) bit false) ≡ true → ⊥
    by false bit h = cc
    by true None h = cc
    by true (Some bit) h = no_bit bit h

    unread_half : (lane : ℕ) (half : Half) → is_read x.params 0 lane half ≡ true → ⊥
    unread_half lane Low h = by (nat_lt lane x.params.num_rs) (Some (even_bit x.params lane)) h
    unread_half lane High h = by (nat_lt lane x.params.num_rs) (odd_bit x.params lane) h
