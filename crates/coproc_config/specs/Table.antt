-- The table of the coprocessor operations.
use Rattle.std.specs.Prelude.{◌+◌, ◌*◌, ◌/◌, ◌%◌, ◌^◌, ◌*ℤ◌, ◌+ℤ◌, ℕ, List, [], ◌∷◌, pos}
use Rattle.rv32_table.specs.Word.{signed, sign_extended}
use Rattle.coproc_config.specs.declared.operation.Op.{Op}
use Rattle.coproc_config.specs.declared.operation.Op.TheVariants.{ExtractU, ExtractS, Insert, Reverse, Ones, Merge, AccClear, AccAdd, AccMac, AccReadLow, AccReadHigh, AccSwap, PairAdd, PairMul, PairRead, PairSum}
use Rattle.coproc_config.specs.declared.operation.Reads.{Reads}
use Rattle.coproc_config.specs.declared.operation.Reads.TheVariants as reads
use Rattle.coproc_config.specs.declared.operation.Writes.{Writes}
use Rattle.coproc_config.specs.declared.operation.Writes.TheVariants as writes
use Rattle.coproc_config.specs.declared.operation.Names.{Names}
use Rattle.coproc_config.specs.declared.operation.Names.TheVariants as names
use Rattle.coproc_config.specs.Bits.{low_half, high_half, lane, field, with_field, reversed, ones, merged, modulo_64}

-- the lanes of which the low half is read
abbrev pub lanes_read : Reads → List ℕ
lanes_read reads.Nothing = []
lanes_read reads.A = 0 ∷ []
lanes_read reads.AB = 0 ∷ 1 ∷ []
lanes_read reads.ABC = 0 ∷ 1 ∷ 2 ∷ []
lanes_read reads.PairA = 0 ∷ []
lanes_read reads.PairAB = 0 ∷ 1 ∷ []

-- the lanes of which the high half is read too
abbrev pub pairs_read : Reads → List ℕ
pairs_read reads.Nothing = []
pairs_read reads.A = []
pairs_read reads.AB = []
pairs_read reads.ABC = []
pairs_read reads.PairA = 0 ∷ []
pairs_read reads.PairAB = 0 ∷ 1 ∷ []

-- What an operation computes from. A half of a lane that it doesn't read is 0 here.
pub record Inputs : Type 0 where
  -- the low halves of lanes 0, 1 and 2
  pub a : ℕ
  pub b : ℕ
  pub c : ℕ
  -- the high halves of lanes 0 and 1
  pub high_a : ℕ
  pub high_b : ℕ
  -- the accumulator that the entry names, 64 bits
  pub q : ℕ
  -- the bit field that the entry names
  pub low : ℕ
  pub len : ℕ

-- a line of the table
pub record Line : Type 0 where
  pub reads : Reads
  pub writes : Writes
  pub names : Names
  pub result : Inputs → ℕ
  -- what the accumulator becomes, where the entry names one
  pub accumulator : Inputs → ℕ

abbrev pub with : Reads → Writes → Names → (Inputs → ℕ) → (Inputs → ℕ) → Line
with reads writes names result accumulator = record {
  reads = reads;
  writes = writes;
  names = names;
  result = result;
  accumulator = accumulator;
}

-- there is no result
abbrev pub none : Inputs → ℕ
none x = 0

-- the accumulator stays
abbrev pub kept : Inputs → ℕ
kept x = x.q

-- The table: what an operation reads, writes and names, its result, and the accumulator that it
-- leaves.
abbrev pub operation_line : Op → Line
operation_line ExtractU = with reads.A writes.One names.Field (λ x. field x.a x.low x.len) kept
operation_line ExtractS = with reads.A writes.One names.Field
    (λ x. sign_extended x.len (field x.a x.low x.len)) kept
operation_line Insert = with reads.AB writes.One names.Field
    (λ x. with_field x.b x.low x.len x.a) kept
operation_line Reverse = with reads.A writes.One names.Nothing (λ x. reversed 32 x.a) kept
operation_line Ones = with reads.A writes.One names.Nothing (λ x. ones 32 x.a) kept
operation_line Merge = with reads.ABC writes.One names.Nothing (λ x. merged 32 x.a x.b x.c) kept
operation_line AccClear = with reads.Nothing writes.Nothing names.Accumulator none (λ x. 0)
operation_line AccAdd = with reads.A writes.Nothing names.Accumulator none
    (λ x. (x.q + x.a) % 2 ^ 64)
operation_line AccMac = with reads.AB writes.Nothing names.Accumulator none
    (λ x. modulo_64 (pos x.q +ℤ (signed x.a *ℤ signed x.b)))
operation_line AccReadLow = with reads.Nothing writes.One names.Accumulator (λ x. low_half x.q) kept
operation_line AccReadHigh = with reads.Nothing writes.One names.Accumulator
    (λ x. high_half x.q) kept
operation_line AccSwap = with reads.A writes.One names.Accumulator (λ x. low_half x.q) (λ x. x.a)
operation_line PairAdd = with reads.PairAB writes.Pair names.Nothing
    (λ x. (lane x.a x.high_a + lane x.b x.high_b) % 2 ^ 64) kept
operation_line PairMul = with reads.AB writes.Pair names.Nothing (λ x. x.a * x.b) kept
operation_line PairRead = with reads.Nothing writes.Pair names.Accumulator (λ x. x.q) kept
operation_line PairSum = with reads.PairA writes.One names.Nothing
    (λ x. (x.a + x.high_a) % 2 ^ 32) kept

-- the flags of the registers that are written: bit 0 for rd, bit 1 for the odd register of a pair
abbrev pub write_flags : Writes → ℕ
write_flags writes.Nothing = 0
write_flags writes.One = 1
write_flags writes.Pair = 3

-- how many bits a result has, by these flags: 32 for each register
abbrev pub result_bits : ℕ → ℕ
result_bits flags = 32 * (flags % 2 + flags / 2 % 2)
