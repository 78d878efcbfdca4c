-- What the units compute: a result fits the registers that it is written to, and an accumulator 64
-- bits.
use Rattle.std.proofs.Common.{◌≡◌, ◌<◌, ◌≤◌, ◌+◌, ◌*◌, ◌^◌, ◌&&◌, ◌==◌, ℕ, zero, suc, Bool, true, false, if◌then◌else◌, List, [], ◌∷◌, Option, Some, None, nat_lt, nat_le, refl, arith}
use Rattle.std.specs.Prelude.{⊤}
use Rattle.std.specs.Prelude.{slice_get, slice_set, slice_index}
use Rattle.std.specs.List.{list_any}
use Rattle.std.proofs.lemmas.Bool.Decides.{nat_tests}
use Rattle.std.proofs.lemmas.Nat.{pow_pos, mul-add-lt}
use Rattle.std.proofs.Math.Nat.{mod-lt}
use Rattle.coproc_config.specs.declared.accept.Hit.{Hit}
use Rattle.coproc_config.specs.declared.operation.Entry.{Entry}
use Rattle.coproc_config.specs.declared.operation.Op.{Op}
use Rattle.coproc_config.specs.declared.operation.Op.TheVariants.{ExtractU, ExtractS, Insert, Reverse, Ones, Merge, AccClear, AccAdd, AccMac, AccReadLow, AccReadHigh, AccSwap, PairAdd, PairMul, PairRead, PairSum}
use Rattle.coproc_config.specs.declared.operation.Names.{Names}
use Rattle.coproc_config.specs.declared.operation.Names.TheVariants as names
use Rattle.coproc_config.specs.declared.operation.Reads.{Reads}
use Rattle.coproc_config.specs.Bits.{low_half}
use Rattle.coproc_config.specs.Table.{Inputs, operation_line, write_flags, result_bits, lanes_read}
use Rattle.coproc_config.specs.Set.{UnitTable}
use Rattle.coproc_config.specs.Check.{has_field, IsLawful}
use Rattle.coproc_config.specs.Accept.{entry_in, entry_at}
use Rattle.coproc_config.specs.State.{zeros, accumulators_of, accumulator_of, with_accumulator}
use Rattle.coproc_config.specs.Apply.{low_read, inputs, Outcome, with_named, operation_outcome}
use Rattle.coproc_config.proofs.WordBits.{with_field-below}
use Rattle.coproc_config.proofs.Sizes.{entry-named}
use Rattle.cycle_lists.specs.Lists.{Each}
use Rattle.width_laws.proofs.Bounds.{word-low, word-high, word-signed, field-below, field-word, reversed-below, ones-below, merged-below, below-64}
use Rattle.width_laws.proofs.Memories.{Each-or}

-- ---- the table

record AreInputs (x : Inputs) : Type 0 where
  a : x.a < 2 ^ 32
  b : x.b < 2 ^ 32
  q : x.q < 2 ^ 64

within : (low len : ℕ) → (nat_lt 0 len && nat_le (low + len) 32) ≡ true → low + len ≤ 32
within low len h = grind (arith, nat_tests)

product-below : (a b : ℕ) → a < 2 ^ 32 → b < 2 ^ 32 → a * b < 2 ^ 64
product-below a zero h k = omega arith
product-below a (suc b) h k =
    let some : 0 < suc b = omega arith in
    let l : a * suc b + 0 < suc b * 2 ^ 32 = mul-add-lt a (suc b) 0 (2 ^ 32) h some in
    omega (arith, l, k)

result-fits : (op : Op) (x : Inputs) → AreInputs x → has_field (operation_line op).names x.low x.len ≡ true → (operation_line op).result x < 2 ^ result_bits (write_flags (operation_line op).writes)
result-fits ExtractU x h f = field-word x.a x.low x.len h.a
result-fits ExtractS x h f = word-signed x.len _ (field-below x.a x.low x.len) (field-word x.a x.low x.len h.a)
result-fits Insert x h f = with_field-below x.b x.low x.len x.a h.b (within x.low x.len f)
result-fits Reverse x h f = reversed-below 32 x.a
result-fits Ones x h f = omega (arith, ones-below 32 x.a)
result-fits Merge x h f = merged-below 32 x.a x.b x.c
result-fits AccClear x h f = omega arith
result-fits AccAdd x h f = omega arith
result-fits AccMac x h f = omega arith
result-fits AccReadLow x h f = word-low x.q
result-fits AccReadHigh x h f = word-high x.q h.q
result-fits AccSwap x h f = word-low x.q
result-fits PairAdd x h f = mod-lt _ (pow_pos 64)
result-fits PairMul x h f = product-below x.a x.b h.a h.b
result-fits PairRead x h f = h.q
result-fits PairSum x h f = mod-lt _ (pow_pos 32)

accumulator-fits : (op : Op) (x : Inputs) → AreInputs x → (operation_line op).accumulator x < 2 ^ 64
accumulator-fits ExtractU x h = h.q
accumulator-fits ExtractS x h = h.q
accumulator-fits Insert x h = h.q
accumulator-fits Reverse x h = h.q
accumulator-fits Ones x h = h.q
accumulator-fits Merge x h = h.q
accumulator-fits AccClear x h = pow_pos 64
accumulator-fits AccAdd x h = mod-lt _ (pow_pos 64)
accumulator-fits AccMac x h = below-64 _
accumulator-fits AccReadLow x h = h.q
accumulator-fits AccReadHigh x h = h.q
accumulator-fits AccSwap x h = omega (arith, h.a)
accumulator-fits PairAdd x h = h.q
accumulator-fits PairMul x h = h.q
accumulator-fits PairRead x h = h.q
accumulator-fits PairSum x h = h.q

-- ---- an entry

abbrev pub IsAccumulator : ℕ → Type 0
IsAccumulator q = q < 2 ^ 64

-- the accumulators of all units
abbrev pub IsState : List (List ℕ) → Type 0
IsState state = Each (Each IsAccumulator) state

low-read : (reads : Reads) (lanes : List ℕ) (lane : ℕ) → low_read reads lanes lane < 2 ^ 32
low-read reads lanes lane = go (list_any (λ other. other == lane) (lanes_read reads))
  where
    go : (t : Bool) → (if t then low_half (slice_index lanes lane) else 0) < 2 ^ 32
    go true = word-low (slice_index lanes lane)
    go false = pow_pos 32

inputs-fit : (e : Entry) (q : ℕ) (lanes : List ℕ) → q < 2 ^ 64 → AreInputs (inputs e q lanes)
inputs-fit e q lanes h = record {
  a = low-read (operation_line e.op).reads lanes 0;
  b = low-read (operation_line e.op).reads lanes 1;
  q = h;
}

accumulator-in : (state : List (List ℕ)) (unit acc : ℕ) → IsState state → accumulator_of state unit acc < 2 ^ 64
accumulator-in state unit acc h = Each-or IsAccumulator (accumulators_of state unit) acc 0 (Each-or (Each IsAccumulator) state unit [] h tt) (pow_pos 64)

Each-set : {A : Type 0} (P : A → Type 0) (xs : List A) (i : ℕ) (y : A) → Each P xs → P y → Each P (slice_set xs i y)
Each-set P [] i y h k = tt
Each-set P (x ∷ xs) zero y h k = (k, h.1)
Each-set P (x ∷ xs) (suc i) y h k = (h.0, Each-set P xs i y h.1 k)

-- the words of a list, one of them written anew
pub Each-written : {A : Type 0} (P : A → Type 0) (xs : List A) (i : ℕ) (y : A) → Each P xs → P y → Each P (slice_set xs i y)
Each-written P xs i y h k = Each-set P xs i y h k

state-with : (state : List (List ℕ)) (unit acc value : ℕ) → IsState state → value < 2 ^ 64 → IsState (with_accumulator state unit acc value)
state-with state unit acc value h k =
    Each-set (Each IsAccumulator) state unit _ h
    (Each-set IsAccumulator (accumulators_of state unit) acc value (Each-or (Each IsAccumulator) state unit [] h tt) k)

named-state : (n : Names) (state : List (List ℕ)) (unit acc value : ℕ) → IsState state → value < 2 ^ 64 → IsState (with_named n state unit acc value)
named-state names.Accumulator state unit acc value h k = state-with state unit acc value h k
named-state names.Field state unit acc value h k = h
named-state names.Nothing state unit acc value h k = h

-- what is made of a state fits so many bits
pub record FitsOutcome (bits : ℕ) (o : Outcome) : Type 0 where
  pub result : o.result < 2 ^ bits
  pub state : IsState o.state

pub outcome-fits : (e : Entry) (unit : ℕ) (state : List (List ℕ)) (lanes : List ℕ) → has_field (operation_line e.op).names e.low e.len ≡ true → IsState state
    → FitsOutcome (result_bits (write_flags (operation_line e.op).writes)) (operation_outcome e unit state lanes)
outcome-fits e unit state lanes f h =
    let q = accumulator-in state unit e.acc h in
    let x = inputs-fit e (accumulator_of state unit e.acc) lanes q in
    record {
      result = result-fits e.op _ x f;
      state = named-state (operation_line e.op).names state unit e.acc _ h (accumulator-fits e.op _ x);
    }

-- what a hit of a lawful set names is there
pub field-named : (set : List UnitTable) (hit : Hit) (e : Entry) → IsLawful set → entry_at set hit ≡ Some e → has_field (operation_line e.op).names e.low e.len ≡ true
field-named set hit e lawful h = go (slice_get set hit.unit) refl h
  where
    go : (o : Option UnitTable) → slice_get set hit.unit ≡ o → entry_in o hit.entry ≡ Some e → has_field (operation_line e.op).names e.low e.len ≡ true
    go None q k = cc
    go (Some unit) q k = (entry-named set hit.unit hit.entry unit e lawful q k).bits

-- before the first cycle
zeros-of : (n : ℕ) → Each IsAccumulator (Rattle.std.specs.Prelude.replicate n 0)
zeros-of zero = tt
zeros-of (suc n) = (pow_pos 64, zeros-of n)

pub state-zeros : (set : List UnitTable) → IsState (zeros set)
state-zeros [] = tt
state-zeros (unit ∷ set) = (zeros-of unit.accumulators, state-zeros set)
