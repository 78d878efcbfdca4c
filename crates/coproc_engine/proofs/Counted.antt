-- No count is above that of the cycles.
use Rattle.std.proofs.Common.{◌≤◌, ◌+◌, ◌&&◌, if◌then◌else◌, ℕ, Bool, true, false, arith}
use Rattle.xif_signals.specs.declared.bus.CpuOut.{CpuOut}
use Rattle.xif_signals.specs.declared.bus.CopOut.{CopOut}
use Rattle.cycle_spec.specs.Turns.{no_transactions}
use Rattle.cycle_spec.specs.Engine.{accepted_after}
use Rattle.cycle_spec.proofs.Counted.{none_counted}
use Rattle.coproc_engine.specs.Fits.{IsCounted}

pub new_counted : IsCounted 0 0 no_transactions no_transactions
new_counted = record { uses = omega arith; issues = none_counted; registers = none_counted }

pub accepted_counted : (cycle accepted : ℕ) (cpu : CpuOut) (cop : CopOut) → accepted ≤ cycle → accepted_after accepted cpu cop ≤ cycle + 1
accepted_counted cycle accepted cpu cop l = on (cpu.issue_valid && (cop.issue_ready && cop.issue_accept))
  where
    on : (t : Bool) → (if t then accepted + 1 else accepted) ≤ cycle + 1
    on true = omega arith
    on false = omega arith
