-- What is simulated of a seed and a count: a loop of `count` rounds that adds the seed to an
-- accumulator, with delays that are drawn from the seed.
use Rattle.std.specs.Prelude.{ℕ, ◌+◌, ◌-◌, ◌*◌, ◌/◌, ◌%◌, ◌^◌, ◌++◌, List, [], ◌∷◌, length, replicate, true, false}
use Rattle.std.specs.List.{flat_map}
use Rattle.std.specs.Int.{w32, to_le_bytes}
use Rattle.xif_base.specs.declared.params.Params.{Params}
use Rattle.coproc_config.specs.Set.{UnitTable}
use Rattle.coproc_config.specs.declared.operation.Entry.{Entry}
use Rattle.coproc_config.specs.declared.operation.Op.{Op}
use Rattle.coproc_config.specs.declared.operation.Op.TheVariants.{ExtractU, Insert, AccAdd, AccReadLow, AccReadHigh, PairMul, PairSum}
use Rattle.xif_drive.specs.Scripts.{Lists}
use Rattle.xif_image.specs.Region.{Region}

-- ---- the program

-- LUI: its opcode is 55, above it stand the register and the 20 bits (RISC-V Unprivileged ISA,
-- section 2.4)
abbrev pub lui_word : (register bits : ℕ) → ℕ
lui_word register bits = 2 ^ 12 * bits + 2 ^ 7 * register + 55

-- ADDI to a register from itself: its opcode is 19, above it stand the register, twice, and the 12
-- bits (section 2.4)
abbrev pub addi_word : (register bits : ℕ) → ℕ
addi_word register bits = 2 ^ 20 * bits + 2 ^ 15 * register + 2 ^ 7 * register + 19

-- The bits of a value for LUI and for ADDI, which add up to it: those of ADDI are signed.
abbrev pub upper_bits : ℕ → ℕ
upper_bits value = (value + 2048) / 4096 % 2 ^ 20

abbrev pub lower_bits : ℕ → ℕ
lower_bits value = value % 4096

-- the words of the program
abbrev pub program_of : (seed count : ℕ) → List ℕ
program_of seed count =
    -- x1 is the count, x2 the seed
    lui_word 1 (upper_bits count)
    ∷ addi_word 1 (lower_bits count)
    ∷ lui_word 2 (upper_bits seed)
    ∷ addi_word 2 (lower_bits seed)
    -- a round, 0x0001000b, 0xfff08093 and 0xfe009ce3: accumulator 0 grows by x2, x1 falls by 1, and
    -- while it isn't 0 another round follows
    ∷ 65547
    ∷ 4293951635
    ∷ 4261453027
    -- 0x0000218b and 0x0000620b: x3 and x4 are the halves of the accumulator
    ∷ 8587
    ∷ 25099
    -- ECALL
    ∷ 115
    ∷ []

abbrev pub program_bytes : (seed count : ℕ) → List ℕ
program_bytes seed count = flat_map (to_le_bytes w32) (program_of seed count)

-- the memory: 4,096 bytes from address 0 on, the program and zeros
abbrev pub memory_of : (seed count : ℕ) → Region
memory_of seed count = record {
  base = 0;
  bytes = program_bytes seed count ++ replicate (4096 - length (program_bytes seed count)) 0;
}

-- in cycles
abbrev pub budget_of : (count : ℕ) → ℕ
budget_of count = 64 * (3 * count + 8)

-- ---- the delays

-- a linear congruential generator, which is drawn from by its bits 16 and 17
abbrev pub next_state : ℕ → ℕ
next_state s = (s * 1664525 + 1013904223) % 2 ^ 32

abbrev pub drawn : ℕ → ℕ
drawn s = s / 65536 % 4

-- the next four draws, and the state behind them
abbrev pub four_drawn : ℕ → List ℕ
four_drawn s =
    drawn (next_state s)
    ∷ drawn (next_state (next_state s))
    ∷ drawn (next_state (next_state (next_state s)))
    ∷ drawn (next_state (next_state (next_state (next_state s))))
    ∷ []

abbrev pub fourth_state : ℕ → ℕ
fourth_state s = next_state (next_state (next_state (next_state s)))

-- four delays for each list, list by list
abbrev pub script_of : (seed : ℕ) → Lists
script_of seed = record {
  issue = four_drawn seed;
  register = four_drawn (fourth_state seed);
  operand = four_drawn (fourth_state (fourth_state seed));
  result = four_drawn (fourth_state (fourth_state (fourth_state seed)));
  take = four_drawn (fourth_state (fourth_state (fourth_state (fourth_state seed))));
}

-- ---- the parameters and the units

abbrev pub params : Params
params = record {
  num_rs = 2;
  id_width = 3;
  rfr_width = 32;
  rfw_width = 32;
  num_harts = 1;
  hartid_width = 1;
  dual_read = 0;
  dual_write = false;
  split = true;
  profile = 1;
}

-- an entry for the opcode custom-0 and a funct3 (RISC-V Unprivileged ISA, section 2.2, "Base
-- Instruction Formats")
abbrev pub entry_of : (funct3 : ℕ) → Op → (low len : ℕ) → Entry
entry_of funct3 op low len = record {
  mask = 28799;
  matched = 2 ^ 12 * funct3 + 11;
  op = op;
  acc = 0;
  low = low;
  len = len;
}

-- one unit with two accumulators
abbrev pub set : List UnitTable
set =
    record {
      accumulators = 2;
      entries =
          entry_of 0 AccAdd 0 32
          ∷ entry_of 1 ExtractU 4 8
          ∷ entry_of 2 AccReadLow 0 32
          ∷ entry_of 3 PairMul 0 32
          ∷ entry_of 4 PairSum 0 32
          ∷ entry_of 5 Insert 0 8
          ∷ entry_of 6 AccReadHigh 0 32
          ∷ [];
    }
    ∷ []
