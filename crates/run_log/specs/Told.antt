-- What is printed of a log.
use Rattle.std.specs.Prelude.{ℕ, ◌<◌, ◌^◌, Option, Some, None}
use Rattle.std.specs.Option.{option_map}
use Rattle.inorder_machine.specs.declared.line.Retire.{Retire}
use Rattle.inorder_machine.specs.declared.line.Store.{Store}
use Rattle.inorder_machine.specs.declared.line.Write.{Write}
use Rattle.inorder_machine.specs.declared.line.Write.TheVariants as write
use Rattle.inorder_machine.specs.declared.stop.StopCause.{StopCause}
use Rattle.cycle_spec.specs.declared.log.Cut.{Cut}
use Rattle.cycle_spec.specs.declared.log.CycleLog.{CycleLog}
use Rattle.cycle_spec.specs.declared.log.Dispatch.{Dispatch}

-- ---- the log with 0 in place of what isn't printed

-- the address of the instruction that follows a retired one
abbrev pub told_retire : Retire → Retire
told_retire r = record r { next = 0 }

-- the address of the next instruction to retire, in a cycle without a stop
abbrev pub told_pc : Option StopCause → (pc : ℕ) → ℕ
told_pc None pc = 0
told_pc (Some cause) pc = pc

abbrev pub told_of : CycleLog → CycleLog
told_of log = record log {
  retired = option_map told_retire log.retired;
  pc = told_pc log.stopped log.pc;
}

-- ---- logs as they are: words have 32 bits, and a value that is stored has no more bytes than its
-- width

abbrev pub IsWord : ℕ → Type 0
IsWord n = n < 2 ^ 32

abbrev pub IsByte : ℕ → Type 0
IsByte n = n < 2 ^ 8

abbrev pub IsIn : {A : Type 0} → (A → Type 0) → Option A → Type 0
IsIn P None = Unit {0}
IsIn P (Some x) = P x

abbrev pub IsWrite : Write → Type 0
IsWrite write.None = Unit {0}
IsWrite (write.One rd value) = IsByte rd × IsWord value
IsWrite (write.Pair rd low high) = IsByte rd × (IsWord low × IsWord high)

pub record IsStore (s : Store) : Type 0 where
  pub address : IsWord s.addr
  pub width : IsByte s.width
  pub value : IsWord s.value
  pub cut : s.value < 256 ^ s.width

pub record IsRetire (r : Retire) : Type 0 where
  pub address : IsWord r.pc
  pub word : IsWord r.word
  pub write : IsWrite r.write
  pub store : IsIn IsStore r.store

pub record IsCut (cut : Cut) : Type 0 where
  pub keep : IsByte cut.keep
  pub target : IsWord cut.target

pub record IsDispatch (d : Dispatch) : Type 0 where
  pub address : IsWord d.pc
  pub word : IsIn IsWord d.word

pub record IsLog (log : CycleLog) : Type 0 where
  pub retired : IsIn IsRetire log.retired
  pub cut : IsIn IsCut log.cut
  pub dispatched : IsIn IsDispatch log.dispatched
  pub drained : IsIn IsByte log.drained
  pub address : IsWord log.pc
