-- Scripts of delays: which are lawful, the first fault of one that isn't, and the delay of a
-- transaction.
use Rattle.std.specs.Prelude.{◌≡◌, ◌<◌, ◌≤◌, ◌==◌, ◌%◌, ℕ, Bool, if◌then◌else◌, nat_lt, ◌++◌, List, length, fold, slice_index_or, max, Option, Some, None, Result, Ok, Err}
use Rattle.std.specs.Option.{option_or}
use Rattle.xif_drive.specs.declared.script.ScriptFault.{ScriptFault}
use Rattle.xif_drive.specs.declared.script.ScriptCause.{ScriptCause}
use Rattle.xif_drive.specs.declared.script.ScriptCause.TheVariants.{EmptyList, LongList, BigDelay}

-- the lists of a script, in cycles
pub record Lists : Type 0 where
  pub issue : List ℕ
  pub register : List ℕ
  pub operand : List ℕ
  pub result : List ℕ
  pub take : List ℕ

-- ---- which are lawful

abbrev pub longest : ℕ
longest = 64

abbrev pub greatest_delay : ℕ
greatest_delay = 200

abbrev pub greatest : List ℕ → ℕ
greatest delays = fold max 0 delays

pub record IsLawfulList (delays : List ℕ) : Type 0 where
  pub some : 0 < length delays
  pub short : length delays ≤ longest
  pub small : greatest delays ≤ greatest_delay

pub record IsLawful (s : Lists) : Type 0 where
  pub issue : IsLawfulList s.issue
  pub register : IsLawfulList s.register
  pub operand : IsLawfulList s.operand
  pub result : IsLawfulList s.result
  pub take : IsLawfulList s.take

-- ---- the first fault: of the first list that has one, in this order of causes

abbrev pub fault_when : Bool → ScriptCause → ℕ → Option ScriptFault
fault_when fails cause number =
    if fails then Some (record { cause = cause; list = number }) else None

abbrev pub list_fault : List ℕ → ℕ → Option ScriptFault
list_fault delays number =
    option_or (fault_when (length delays == 0) EmptyList number)
    (option_or (fault_when (nat_lt longest (length delays)) LongList number)
    (fault_when (nat_lt greatest_delay (greatest delays)) BigDelay number))

abbrev pub script_fault : Lists → Option ScriptFault
script_fault s =
    option_or (list_fault s.issue 0)
    (option_or (list_fault s.register 1)
    (option_or (list_fault s.operand 2)
    (option_or (list_fault s.result 3) (list_fault s.take 4))))

abbrev pub checked_by : Option ScriptFault → Result Unit ScriptFault
checked_by None = Ok tt
checked_by (Some fault) = Err fault

-- ---- what a script says

-- the delay of the transaction of a number: the list again and again
abbrev pub delay_of : List ℕ → ℕ → ℕ
delay_of delays k = slice_index_or delays (k % length delays) 0

-- the greatest of all delays
abbrev pub largest_of : Lists → ℕ
largest_of s = greatest (s.issue ++ s.register ++ s.operand ++ s.result ++ s.take)
