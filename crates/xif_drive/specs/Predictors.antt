-- What the predictors answer for the instruction at an address, and what they learn from where it
-- went. Only JAL and branches have their target in their word (RISC-V Unprivileged ISA, section 2.5).
use Rattle.std.specs.Prelude.{◌==◌, ◌&&◌, ◌||◌, ◌+◌, ◌-◌, ◌/◌, ◌%◌, ◌^◌, ℕ, Bool, true, false, if◌then◌else◌, nat_lt, nat_le, List, length, slice_index_or, slice_set, min, Option, Some, None}
use Rattle.rv32_table.specs.declared.rows.Row.{Row}
use Rattle.rv32_table.specs.declared.rows.Row.TheVariants.{Jal}
use Rattle.rv32_table.specs.declared.instr.Instr.{Instr}
use Rattle.rv32_table.specs.Word.{wrapped}
use Rattle.rv32_table.specs.Table.{Meaning, Computes, Loads, Stores, Jumps, Branches, Fences, Stops, row_line}
use Rattle.rv32_table.specs.Instr.{decoded}

-- ---- instructions

abbrev pub is_jal : Row → Bool
is_jal Jal = true
is_jal _ = false

abbrev pub branches : Meaning → Bool
branches (Branches taken) = true
branches _ = false

abbrev pub is_branch : Instr → Bool
is_branch i = branches (row_line i.row).meaning

abbrev pub is_branch_word : Option Instr → Bool
is_branch_word None = false
is_branch_word (Some i) = is_branch i

-- the immediate as a signed number is below 0
abbrev pub is_negative : ℕ → Bool
is_negative imm = nat_le (2 ^ 31) imm

-- the address behind an instruction
abbrev pub following : ℕ → ℕ
following pc = wrapped (pc + 4)

-- An instruction that is predicted to go to its target is followed by the one there, and any other
-- word by the one behind it.
abbrev pub predicted : (goes : Instr → Bool) → (pc : ℕ) → Option Instr → ℕ
predicted goes pc None = following pc
predicted goes pc (Some i) = if goes i then wrapped (pc + i.imm) else following pc

-- ---- backward

abbrev pub goes_backward : Instr → Bool
goes_backward i = is_jal i.row || (is_branch i && is_negative i.imm)

abbrev pub backward_answer : (pc word : ℕ) → ℕ
backward_answer pc word = predicted goes_backward pc (decoded word)

-- ---- bimodal: counters of 0 to 3

-- the counter of an address
abbrev pub counter_place : List ℕ → (pc : ℕ) → ℕ
counter_place counters pc = pc / 4 % length counters

abbrev pub counter_at : List ℕ → (pc : ℕ) → ℕ
counter_at counters pc = slice_index_or counters (counter_place counters pc) 0

-- a branch is taken where its counter is 2 or 3
abbrev pub goes_by_counter : (counter : ℕ) → Instr → Bool
goes_by_counter counter i = is_jal i.row || (is_branch i && nat_lt 1 counter)

abbrev pub bimodal_answer : List ℕ → (pc word : ℕ) → ℕ
bimodal_answer counters pc word =
    predicted (goes_by_counter (counter_at counters pc)) pc (decoded word)

-- a branch that went on to the instruction behind it lowers its counter, and any other raises it
abbrev pub counter_after : (counter : ℕ) → (went_on : Bool) → ℕ
counter_after counter went_on = if went_on then counter - 1 else min 3 (counter + 1)

abbrev pub bimodal_after : List ℕ → (pc word actual : ℕ) → List ℕ
bimodal_after counters pc word actual =
    if is_branch_word (decoded word)
    then slice_set counters (counter_place counters pc)
    (counter_after (counter_at counters pc) (actual == following pc))
    else counters

-- ---- listed addresses, in turn

pub record Turn : Type 0 where
  pub targets : List ℕ
  -- how often it has learnt, modulo the number of targets
  pub position : ℕ

abbrev pub listed_answer : Turn → ℕ
listed_answer t = slice_index_or t.targets t.position 0

abbrev pub listed_after : Turn → Turn
listed_after t = record t { position = (t.position + 1) % length t.targets }
