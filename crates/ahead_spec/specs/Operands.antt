-- What a word of a coprocessor reads and computes, in a state of the in-order machine and behind
-- instructions in flight (CV-X-IF 1.0.0, "Issue interface" and "Register interface").
use Rattle.std.specs.Prelude.{◌≡◌, ℕ, Bool, IsTrue, Option, is_some, List, [], ◌∷◌}
use Rattle.std.specs.Option.{option_map_or}
use Rattle.rv32_table.specs.Instr.{source_field}
use Rattle.coproc_config.specs.declared.accept.Hit.{Hit}
use Rattle.coproc_config.specs.Accept.{hit_of}
use Rattle.coproc_config.specs.Apply.{Outcome}
use Rattle.coproc_config.specs.Bits.{lane as lane_with}
use Rattle.inorder_machine.specs.declared.units.Half.{Half}
use Rattle.inorder_machine.specs.declared.units.Half.TheVariants.{Low, High}
use Rattle.inorder_machine.specs.Units.{half_register, is_read, lane_values}
use Rattle.inorder_machine.specs.Machine.{Extension, State, register_of}
use Rattle.xif_session.specs.declared.fact.Response.{Response}
use Rattle.cycle_spec.specs.declared.entry.Entry.{Entry}
use Rattle.cycle_spec.specs.declared.entry.Operand.{Operand}
use Rattle.cycle_spec.specs.declared.entry.Operand.TheVariants.{Here}
use Rattle.cycle_spec.specs.Flight.{operand_behind}
use Rattle.cycle_spec.specs.Engine.{writeback_of, register_read_of, outcome_by}

-- the entry of a unit that takes a word, if one does
abbrev pub word_hit : Extension → (word : ℕ) → Option Hit
word_hit x word = hit_of x.set x.params word

-- the halves of lanes that a word reads
abbrev pub halves_read : Extension → (word : ℕ) → ℕ
halves_read x word = register_read_of (word_hit x word)

-- the issue response to a word
abbrev pub response_of : Option Hit → Response
response_of hit = record {
  accept = is_some hit;
  writeback = record { 0 = writeback_of hit };
  register_read = record { 0 = register_read_of hit };
}

-- ---- lanes

-- lanes with these halves
abbrev pub lanes_of : (halves : (lane : ℕ) → Half → ℕ) → List ℕ
lanes_of halves =
    lane_with (halves 0 Low) (halves 0 High)
    ∷ lane_with (halves 1 Low) (halves 1 High)
    ∷ lane_with (halves 2 Low) (halves 2 High)
    ∷ []

-- what a half of a lane is to carry to a word, in a state; behind x0 it is 0
abbrev pub half_in : State → (word lane : ℕ) → Half → ℕ
half_in s word lane half =
    option_map_or (register_of s) (half_register (source_field word lane) half) 0

-- the same behind instructions in flight
abbrev pub half_behind
    : (dual_write : Bool) → (registers : List ℕ) → (older : List Entry) → (word lane : ℕ) → Half
    → Operand
half_behind dual_write registers older word lane half =
    option_map_or (operand_behind dual_write registers older)
    (half_register (source_field word lane) half) (Here 0)

-- Lanes carry what a word reads: a half that it reads has its register, and any other half
-- anything.
pub record CarriesOperands (x : Extension) (s : State) (word : ℕ) (lanes : List ℕ) : Type 0 where
  pub halves : (lane : ℕ) → Half → ℕ
  pub lanes_are : lanes ≡ lanes_of halves
  pub read : (lane : ℕ) → (half : Half)
      → IsTrue (is_read x.params (halves_read x word) lane half)
      → halves lane half ≡ half_in s word lane half

-- ---- units

-- what the unit that takes a word makes of accumulators and lanes
abbrev pub applied_to
    : Extension → (word : ℕ) → (units : List (List ℕ)) → (lanes : List ℕ) → Outcome
applied_to x word units lanes = outcome_by x.set (word_hit x word) units lanes

-- the same in a state of the in-order machine, with the registers that the word reads
abbrev pub unit_step : Extension → State → (word : ℕ) → Outcome
unit_step x s word =
    applied_to x word s.units (lane_values x.params (register_of s) word (halves_read x word))
