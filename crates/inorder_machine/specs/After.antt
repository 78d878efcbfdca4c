-- The states of the in-order machine after any number of retirements.
use Rattle.std.specs.Prelude.{◌==◌, ℕ, suc, zero, Option, Some, None, is_some, if◌then◌else◌, option_and_then, unwrap_or}
use Rattle.inorder_machine.specs.declared.stop.StopCause.{StopCause}
use Rattle.inorder_machine.specs.declared.line.Stepped.{Stepped}
use Rattle.inorder_machine.specs.declared.line.Stepped.TheVariants.{Retired, Stop}
use Rattle.inorder_machine.specs.Machine.{Extension, State, next_step, taken}

abbrev pub state_if_retired : Extension → State → Stepped → Option State
state_if_retired x s (Retired l) = Some (taken x s l)
state_if_retired x s (Stop cause) = None

-- the state after the next instruction, if it retires
abbrev pub next_state : Extension → State → Option State
next_state x s = state_if_retired x s (next_step x s)

-- the state after so many retirements, if none of these steps stops
abbrev pub after : Extension → ℕ → State → Option State
after x zero s = Some s
after x (suc n) s = option_and_then (next_state x) (after x n s)

-- how many instructions retire within a budget: the greatest number not above it after which there
-- is a state
abbrev pub retired_within : Extension → ℕ → State → ℕ
retired_within x zero s = 0
retired_within x (suc n) s = if is_some (after x (suc n) s) then suc n else retired_within x n s

abbrev pub stop_of : Stepped → Option StopCause
stop_of (Retired l) = None
stop_of (Stop cause) = Some cause

-- the state in which a run within a budget ends
abbrev pub last_within : Extension → ℕ → State → State
last_within x n s = unwrap_or (after x (retired_within x n s) s) s

-- the stop that ends a run within a budget; none where it ends by its budget
abbrev pub stop_within : Extension → ℕ → State → Option StopCause
stop_within x n s =
    if retired_within x n s == n then None else stop_of (next_step x (last_within x n s))
