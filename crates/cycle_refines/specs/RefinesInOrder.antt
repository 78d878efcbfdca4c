-- What a run leaves is what the in-order machine leaves.
use Rattle.std.specs.Prelude.{◌≡◌, Some, List, [], length, replicate, reverse}
use Rattle.coproc_config.specs.State.{zeros}
use Rattle.inorder_machine.specs.declared.line.Stepped.TheVariants.{Stop}
use Rattle.inorder_machine.specs.declared.stop.StopCause.{StopCause}
use Rattle.inorder_machine.specs.Machine.{Extension, State, next_step}
use Rattle.inorder_machine.specs.After.{after}
use Rattle.cycle_spec.specs.declared.entry.Entry.{Entry}
use Rattle.cycle_spec.specs.declared.log.End.TheVariants.{Stopped}
use Rattle.cycle_spec.specs.Run.{Setup, Run}
use Rattle.ahead_spec.specs.Refines.{lines}

-- the words that are no instruction of RV32IM, as the units of a setup take them
abbrev pub extension_in : Setup → Extension
extension_in s = record { set = s.set; params = s.params }

-- the state in which the in-order machine begins
abbrev pub first_state : Setup → State
first_state s = record {
  pc = s.entry;
  registers = replicate 32 0;
  memory = s.memory;
  units = zeros s.set;
}

-- A run, and what is in flight at its end.
pub record RefinesInOrder (s : Setup) (in_flight : List Entry) (run : Run) : Type 0 where
  -- the in-order machine comes to a state by retiring as many instructions as the run
  pub now : State
  pub arrived : after (extension_in s) (length run.retired) (first_state s) ≡ Some now
  -- it retires the same instructions in the same order, with the same writes and stores
  pub retired : run.retired ≡ reverse (lines (extension_in s) (length run.retired) (first_state s))
  -- and leaves the same
  pub pc : run.pc ≡ now.pc
  pub registers : run.registers ≡ now.registers
  pub memory : run.memory ≡ now.memory
  pub units : in_flight ≡ [] → run.units ≡ now.units
  -- a run that stopped stopped where the in-order machine stops, for the same cause
  pub stop : (cause : StopCause) → run.end ≡ Stopped cause
      → (next_step (extension_in s) now ≡ Stop cause) × (run.units ≡ now.units)
