-- The flags of what an entry reads: they name the halves that it reads, and no other.
use Rattle.std.proofs.Common.{◌≡◌, ◌<◌, ◌≤◌, ◌==◌, ◌&&◌, ◌||◌, ◌⊎◌, ◌+◌, ◌/◌, ◌%◌, ◌^◌, ℕ, zero, suc, Bool, true, false, not, nat_lt, cond, Option, Some, None, IsSomeAnd, List, length, refl, sym, subst, inl, inr, ◌∙◌, arith, lit<}
use native.Mathlib.Nat.{pow-le-pow_right}
use Rattle.std.specs.List.{list_any}
use Rattle.std.proofs.lemmas.Bool.{and_parts, eqb-true, ltb-true}
use Rattle.std.proofs.lemmas.Bool.Decides.{nat_tests}
use Rattle.rv32_table.specs.Instr.{rd_field, source_field}
use Rattle.xif_base.specs.declared.params.Params.{Params}
use Rattle.xif_base.specs.Params.{IsInRange}
use Rattle.xif_base.specs.Flags.{even_bit}
use Rattle.coproc_config.specs.declared.operation.Entry.{Entry}
use Rattle.coproc_config.specs.declared.operation.Reads.{Reads}
use Rattle.coproc_config.specs.declared.operation.Reads.TheVariants as reads
use Rattle.coproc_config.specs.declared.operation.Writes.{Writes}
use Rattle.coproc_config.specs.declared.operation.Writes.TheVariants as writes
use Rattle.coproc_config.specs.declared.accept.Hit.{Hit}
use Rattle.coproc_config.specs.Table.{lanes_read, pairs_read, operation_line, write_flags}
use Rattle.coproc_config.specs.Accept.{can_read, can_write, read_flags, HasFlag, ReadsLow, ReadsHigh, HasFlagsOf, IsAllowed}

-- parameters with another X_DUALREAD
abbrev pub dual : Params → ℕ → Params
dual p d = record p { dual_read = d }

abbrev pub is_in : List ℕ → ℕ → Bool
is_in lanes lane = list_any (λ other. other == lane) lanes

abbrev pub has_flag : ℕ → ℕ → Bool
has_flag flags bit = flags / 2 ^ bit % 2 == 1

abbrev pub has_high : Params → ℕ → ℕ → Bool
has_high p flags lane = nat_lt lane p.dual_read && has_flag flags (even_bit p lane + 1)

-- a low half that is read has its flag
abbrev pub low_test : Params → Reads → ℕ → Bool
low_test p r lane = not (is_in (lanes_read r) lane) || has_flag (read_flags p r) (even_bit p lane)

-- a high half that is read, and that the lane has, has its flag
abbrev pub high_test : Params → Reads → ℕ → Bool
high_test p r lane = not (is_in (pairs_read r) lane && nat_lt lane p.dual_read) || has_high p (read_flags p r) lane

-- the flag of a high half is that of a pair that is read, whose low half has its flag too
abbrev pub back_test : Params → Reads → ℕ → Bool
back_test p r lane =
    not (has_high p (read_flags p r) lane) || (is_in (pairs_read r) lane && has_flag (read_flags p r) (even_bit p lane))

pub record Fits (p : Params) (r : Reads) : Type 0 where
  pub low_0 : low_test p r 0 ≡ true
  pub low_1 : low_test p r 1 ≡ true
  pub low_2 : low_test p r 2 ≡ true
  pub high_0 : high_test p r 0 ≡ true
  pub high_1 : high_test p r 1 ≡ true
  pub back_0 : back_test p r 0 ≡ true
  pub back_1 : back_test p r 1 ≡ true
  pub back_2 : back_test p r 2 ≡ true
  pub bound : nat_lt (read_flags p r) (2 ^ (length (lanes_read r) + p.dual_read)) ≡ true

fits_0 : (r : Reads) (p : Params) → Fits (dual p 0) r
fits_0 reads.Nothing p = record { low_0 = refl; low_1 = refl; low_2 = refl; high_0 = refl; high_1 = refl; back_0 = refl; back_1 = refl; back_2 = refl; bound = refl }
fits_0 r p = record { low_0 = refl; low_1 = refl; low_2 = refl; high_0 = refl; high_1 = refl; back_0 = refl; back_1 = refl; back_2 = refl; bound = refl }

fits_1 : (r : Reads) (p : Params) → Fits (dual p 1) r
fits_1 reads.Nothing p = record { low_0 = refl; low_1 = refl; low_2 = refl; high_0 = refl; high_1 = refl; back_0 = refl; back_1 = refl; back_2 = refl; bound = refl }
fits_1 r p = record { low_0 = refl; low_1 = refl; low_2 = refl; high_0 = refl; high_1 = refl; back_0 = refl; back_1 = refl; back_2 = refl; bound = refl }

fits_2 : (r : Reads) (p : Params) → Fits (dual p 2) r
fits_2 reads.Nothing p = record { low_0 = refl; low_1 = refl; low_2 = refl; high_0 = refl; high_1 = refl; back_0 = refl; back_1 = refl; back_2 = refl; bound = refl }
fits_2 r p = record { low_0 = refl; low_1 = refl; low_2 = refl; high_0 = refl; high_1 = refl; back_0 = refl; back_1 = refl; back_2 = refl; bound = refl }

fits_3 : (r : Reads) (p : Params) → Fits (dual p 3) r
fits_3 reads.Nothing p = record { low_0 = refl; low_1 = refl; low_2 = refl; high_0 = refl; high_1 = refl; back_0 = refl; back_1 = refl; back_2 = refl; bound = refl }
fits_3 r p = record { low_0 = refl; low_1 = refl; low_2 = refl; high_0 = refl; high_1 = refl; back_0 = refl; back_1 = refl; back_2 = refl; bound = refl }

fits_at : (r : Reads) (d : ℕ) (p : Params) → d ≤ 3 → Fits (dual p d) r
fits_at r zero p h = fits_0 r p
fits_at r (suc zero) p h = fits_1 r p
fits_at r (suc (suc zero)) p h = fits_2 r p
fits_at r (suc (suc (suc zero))) p h = fits_3 r p
fits_at r (suc (suc (suc (suc d)))) p h = absurd (omega (arith, h))

pub fits : (r : Reads) (p : Params) → IsInRange p → Fits p r
fits r p h = fits_at r p.dual_read p (omega (arith, h.num_rs, h.dual_read))

pub implied : (x y : Bool) → (not x || y) ≡ true → x ≡ true → y ≡ true
implied true y h k = h
implied false y h k = cc

-- a flag of a high half, as a test and as the definition says it
pub high-from_test : (b : Bool) (bit flags : ℕ) → (b && has_flag flags bit) ≡ true → IsSomeAnd (cond b (Some bit) None) (HasFlag flags)
high-from_test true bit flags h = eqb-true (flags / 2 ^ bit % 2) 1 h
high-from_test false bit flags h = absurd cc

high-to_test : (b : Bool) (bit flags : ℕ) → IsSomeAnd (cond b (Some bit) None) (HasFlag flags) → (b && has_flag flags bit) ≡ true
high-to_test true bit flags h = grind (arith, nat_tests)
high-to_test false bit flags h = absurd h

-- the lanes that are read are some of the interface's
few : (p : Params) (word : ℕ) (r : Reads) → IsInRange p → can_read p word r ≡ true → length (lanes_read r) ≤ p.num_rs
few p word reads.Nothing h k = omega arith
few p word reads.A h k = omega (arith, h.num_rs)
few p word reads.AB h k = omega (arith, h.num_rs)
few p word reads.ABC h k = grind (arith, nat_tests)
few p word reads.PairA h k = omega (arith, h.num_rs)
few p word reads.PairAB h k = omega (arith, h.num_rs)

pub within : (p : Params) (word : ℕ) (r : Reads) → IsInRange p → can_read p word r ≡ true → read_flags p r < 2 ^ (p.num_rs + p.dual_read)
within p word r h k =
    let bound : read_flags p r < 2 ^ (length (lanes_read r) + p.dual_read) = ltb-true (read_flags p r) _ (fits r p h).bound in
    let some : length (lanes_read r) + p.dual_read ≤ p.num_rs + p.dual_read = omega (arith, few p word r h k) in
    omega (arith, bound, pow-le-pow_right {n = 2} (lit< tt) some)

-- a pair that is read is there, and begins at an even register
pub pair-there : (p : Params) (word : ℕ) (r : Reads) (lane : ℕ) → can_read p word r ≡ true → is_in (pairs_read r) lane ≡ true
    → (nat_lt lane p.dual_read ≡ true) × (source_field word lane % 2 ≡ 0)
pair-there p word reads.Nothing lane k i = absurd cc
pair-there p word reads.A lane k i = absurd cc
pair-there p word reads.AB lane k i = absurd cc
pair-there p word reads.ABC lane k i = absurd cc
pair-there p word reads.PairA lane k i =
    let same : 0 ≡ lane = grind (arith, nat_tests) in
    subst (λ (n : ℕ). (nat_lt n p.dual_read ≡ true) × (source_field word n % 2 ≡ 0)) same (grind (arith, nat_tests), grind (arith, nat_tests))
pair-there p word reads.PairAB zero k i = (grind (arith, nat_tests), grind (arith, nat_tests))
pair-there p word reads.PairAB (suc zero) k i = (grind (arith, nat_tests), grind (arith, nat_tests))
pair-there p word reads.PairAB (suc (suc lane)) k i = absurd (grind (arith, nat_tests))

high-lane : (p : Params) (r : Reads) (lane : ℕ) → IsInRange p → has_high p (read_flags p r) lane ≡ true → back_test p r lane ≡ true
high-lane p r zero h t = (fits r p h).back_0
high-lane p r (suc zero) h t = (fits r p h).back_1
high-lane p r (suc (suc zero)) h t = (fits r p h).back_2
high-lane p r (suc (suc (suc lane))) h t =
    let past : nat_lt (suc (suc (suc lane))) p.dual_read ≡ true = (and_parts _ _ t).0 in
    absurd (omega (arith, ltb-true _ _ past, h.num_rs, h.dual_read))

pub read_pair : (p : Params) (word : ℕ) (r : Reads) (lane : ℕ) → IsInRange p → can_read p word r ≡ true → ReadsHigh p (read_flags p r) lane
    → ReadsLow p (read_flags p r) lane × (source_field word lane % 2 ≡ 0)
read_pair p word r lane h k high =
    let t : has_high p (read_flags p r) lane ≡ true = high-to_test (nat_lt lane p.dual_read) (even_bit p lane + 1) (read_flags p r) high in
    let both = and_parts _ _ (implied (has_high p (read_flags p r) lane) _ (high-lane p r lane h t) t) in
    (eqb-true _ 1 both.1, (pair-there p word r lane k both.0).1)

kinds : (w : Writes) → (write_flags w ≡ 0) ⊎ ((write_flags w ≡ 1) ⊎ (write_flags w ≡ 3))
kinds writes.Nothing = inl refl
kinds writes.One = inr (inl refl)
kinds writes.Pair = inr (inr refl)

pair-written : (p : Params) (word : ℕ) (w : Writes) → can_write p word w ≡ true → write_flags w ≡ 3 → (p.dual_write ≡ true) × (rd_field word % 2 ≡ 0)
pair-written p word writes.Nothing k e = absurd (omega (arith, e))
pair-written p word writes.One k e = absurd (omega (arith, e))
pair-written p word writes.Pair k e =
    let both = and_parts _ _ k in
    (both.0, eqb-true _ 0 both.1)

-- the flags of an entry that takes a word are allowed
pub allowed : (named : Option Entry) (p : Params) (word : ℕ) (hit : Hit) → IsInRange p → HasFlagsOf named p word hit → IsAllowed p word hit
allowed named p word hit h f =
    let r = (operation_line f.entry.op).reads in
    let w = (operation_line f.entry.op).writes in
    let taken = and_parts _ _ (and_parts _ _ f.taken).1 in
    record {
      reads = rw f.reads (within p word r h taken.0);
      read_pairs = subst (λ (flags : ℕ). (lane : ℕ) → ReadsHigh p flags lane → ReadsLow p flags lane × (source_field word lane % 2 ≡ 0)) (sym f.reads) (λ lane. read_pair p word r lane h taken.0);
      writes = subst (λ (flags : ℕ). (flags ≡ 0) ⊎ ((flags ≡ 1) ⊎ (flags ≡ 3))) (sym f.writes) (kinds w);
      write_pairs = λ e. pair-written p word w taken.1 (sym f.writes ∙ e);
    }
