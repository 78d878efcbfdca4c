-- What the laws of the table say: which halves of lanes count, and what of its entry an operation
-- uses.
use Rattle.std.specs.Prelude.{◌≡◌, ◌≤◌, ◌<◌, ◌^◌, ℕ, true, List, slice_index, slice_set}
use Rattle.xif_base.specs.declared.params.Params.{Params}
use Rattle.coproc_config.specs.declared.operation.Op.{Op}
use Rattle.coproc_config.specs.declared.operation.Entry.{Entry}
use Rattle.coproc_config.specs.Bits.{low_half, high_half, lane}
use Rattle.coproc_config.specs.Table.{Inputs, Line, operation_line}
use Rattle.coproc_config.specs.Accept.{ReadsLow, ReadsHigh}
use Rattle.coproc_config.specs.Check.{has_field}
use Rattle.coproc_config.specs.Apply.{inputs, operation_outcome}

-- lanes that agree on the halves that flags name
pub record AgreeOn (p : Params) (flags : ℕ) (lanes others : List ℕ) : Type 0 where
  pub low : (n : ℕ) → ReadsLow p flags n
      → low_half (slice_index lanes n) ≡ low_half (slice_index others n)
  pub high : (n : ℕ) → ReadsHigh p flags n
      → high_half (slice_index lanes n) ≡ high_half (slice_index others n)

-- lanes with another low half of one of them, with another high half
abbrev pub with_low : List ℕ → ℕ → ℕ → List ℕ
with_low lanes n half = slice_set lanes n (lane half (high_half (slice_index lanes n)))

abbrev pub with_high : List ℕ → ℕ → ℕ → List ℕ
with_high lanes n half = slice_set lanes n (lane (low_half (slice_index lanes n)) half)

-- an entry of an operation, whose bit field lies in a word, and the accumulators of all units
pub record Use (op : Op) : Type 0 where
  pub entry : Entry
  pub is_of : entry.op ≡ op
  pub field : has_field (operation_line op).names entry.low entry.len ≡ true
  pub state : List (List ℕ)

-- some entry of an operation makes something else of lanes where a low half of them is another
pub record LowCounts (op : Op) (n : ℕ) : Type 0 where
  pub used : Use op
  pub lanes : List ℕ
  pub half : ℕ
  pub differs : ¬ (operation_outcome used.entry 0 used.state lanes
      ≡ operation_outcome used.entry 0 used.state (with_low lanes n half))

-- the same of a high half
pub record HighCounts (op : Op) (n : ℕ) : Type 0 where
  pub used : Use op
  pub lanes : List ℕ
  pub half : ℕ
  pub differs : ¬ (operation_outcome used.entry 0 used.state lanes
      ≡ operation_outcome used.entry 0 used.state (with_high lanes n half))

-- some entry of an operation, with 64 bits in its accumulator, has a result of this or more
pub record Reaches (op : Op) (least : ℕ) : Type 0 where
  pub entry : Entry
  pub is_of : entry.op ≡ op
  pub q : ℕ
  pub wide : q < 2 ^ 64
  pub lanes : List ℕ
  pub reached : least ≤ (operation_line op).result (inputs entry q lanes)

-- the accumulator doesn't count for the result, and stays
pub record IgnoresAccumulator (l : Line) : Type 0 where
  pub result : (x : Inputs) (q : ℕ) → l.result (record x { q = q }) ≡ l.result x
  pub accumulator : (x : Inputs) → l.accumulator x ≡ x.q

-- the bit field doesn't count
pub record IgnoresField (l : Line) : Type 0 where
  pub result : (x : Inputs) (low len : ℕ)
      → l.result (record x { low = low; len = len }) ≡ l.result x
  pub accumulator : (x : Inputs) (low len : ℕ)
      → l.accumulator (record x { low = low; len = len }) ≡ l.accumulator x
