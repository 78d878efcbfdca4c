-- What core and engine keep from cycle to cycle.
use Rattle.std.specs.Prelude.{ℕ, Option, None, List, [], replicate}
use Rattle.xif_base.specs.declared.params.Params.{Params}
use Rattle.xif_image.specs.Region.{Region}
use Rattle.coproc_config.specs.Set.{UnitTable}
use Rattle.coproc_config.specs.State.{zeros}
use Rattle.xif_drive.specs.Scripts.{Lists}
use Rattle.inorder_machine.specs.declared.stop.StopCause.{StopCause}
use Rattle.cycle_spec.specs.declared.choices.Mode.{Mode}
use Rattle.cycle_spec.specs.declared.choices.Mode.TheVariants.{Running}
use Rattle.cycle_spec.specs.declared.entry.Entry.{Entry}
use Rattle.cycle_spec.specs.declared.turn.Transactions.{Transactions}
use Rattle.cycle_spec.specs.declared.use_of.Use.{Use}
use Rattle.cycle_spec.specs.Turns.{no_transactions}

-- The speculative core. It has one hart, 0.
pub record Core : Type 0 where
  pub params : Params
  pub script : Lists
  -- how many instructions may be in flight
  pub window : ℕ
  -- the instructions in flight, the oldest first
  pub flight : List Entry
  -- the number of the next dispatch
  pub next_seq : ℕ
  -- registers and memory as the retired instructions left them
  pub registers : List ℕ
  pub memory : Region
  -- the address of the next instruction to retire, and of the next one to be dispatched
  pub pc : ℕ
  pub ahead : ℕ
  pub stopped : Option StopCause
  pub mode : Mode
  pub register_turns : Transactions
  pub result_turns : Transactions

-- before the first cycle
abbrev pub new_core : Params → Lists → (window : ℕ) → Region → (entry : ℕ) → Core
new_core params script window memory entry = record {
  params = params;
  script = script;
  window = window;
  flight = [];
  next_seq = 0;
  registers = replicate 32 0;
  memory = memory;
  pc = entry;
  ahead = entry;
  stopped = None;
  mode = Running;
  register_turns = no_transactions;
  result_turns = no_transactions;
}

-- The coprocessors, for all harts.
pub record Engine : Type 0 where
  pub params : Params
  pub set : List UnitTable
  pub script : Lists
  -- the number of the next cycle
  pub cycle : ℕ
  -- the latest use of each key, in the order of their starts
  pub uses : List Use
  -- how many uses were accepted
  pub accepted : ℕ
  -- of each hart, the accumulators of the units after its ready uses
  pub units : List (List (List ℕ))
  pub issue_turns : Transactions
  pub register_turns : Transactions
  -- the start of the use whose result waits for its handshake
  pub result_waiting : Option ℕ

-- before the first cycle
abbrev pub new_engine : Params → List UnitTable → Lists → Engine
new_engine params set script = record {
  params = params;
  set = set;
  script = script;
  cycle = 0;
  uses = [];
  accepted = 0;
  units = replicate params.num_harts (zeros set);
  issue_turns = no_transactions;
  register_turns = no_transactions;
  result_waiting = None;
}
