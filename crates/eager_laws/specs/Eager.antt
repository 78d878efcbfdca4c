-- Eager dispatch: in each cycle the next instruction is dispatched if it can be, from where the last
-- one was predicted to lead, and nothing is cut without a cause.
use Rattle.std.specs.Prelude.{◌≡◌, ◌≢◌, ◌<◌, ◌⊎◌, ℕ, ◌+◌, ◌^◌, ◌||◌, Bool, true, false, Option, Some, None, is_some, IsSome, IsSomeAnd, List, [], ◌∷◌, ◌++◌, length, find}
use Rattle.rv32_table.specs.Word.{wrapped}
use Rattle.xif_drive.specs.Predictors.{following}
use Rattle.xif_image.specs.Region.{word_at}
use Rattle.inorder_machine.specs.declared.line.Retire.{Retire}
use Rattle.inorder_machine.specs.declared.line.Stepped.TheVariants.{Retired, Stop}
use Rattle.inorder_machine.specs.declared.line.Store.{Store}
use Rattle.inorder_machine.specs.declared.stop.StopCause.{StopCause}
use Rattle.inorder_machine.specs.Machine.{Extension, State}
use Rattle.inorder_machine.specs.After.{after}
use Rattle.xif_session.specs.Facts.{is_refused}
use Rattle.cycle_spec.specs.declared.log.Cut.{Cut}
use Rattle.cycle_spec.specs.declared.log.Dispatch.{Dispatch}
use Rattle.cycle_spec.specs.Flight.{kind_at, stop_by}
use Rattle.cycle_spec.specs.Run.{Setup, Meaning}
use Rattle.cycle_lists.specs.Lists.{Each}
use Rattle.cycle_refines.specs.RefinesInOrder.{extension_in, first_state}
use Rattle.eager_laws.specs.Flights.{Told, retired_by, is_transfer, predictor_after, prediction, InFlight, awaits, flight_after, outcome_along, state_along}

-- A cycle before the end of the budget that isn't the one that stops the machine.
pub record IsRunning (s : Setup) (older : List Told) (c : Told) : Type 0 where
  pub within : length older < s.budget
  pub goes_on : c.log.stopped ≡ None

-- ---- dispatch

-- An instruction in flight stops along them, and is no word that awaits its response: if such a
-- word will be refused, nobody knows it yet.
pub record StopsAlong (x : Extension) (now : State) (es : List InFlight) : Type 0 where
  pub older : List InFlight
  pub entry : InFlight
  pub younger : List InFlight
  pub here : es ≡ older ++ entry ∷ younger
  pub known : awaits entry ≡ false
  pub cause : StopCause
  pub stops : outcome_along x (state_along x now older) entry ≡ Stop cause

-- It has no word, is an ECALL or an EBREAK, or was refused.
abbrev pub tells_stop : InFlight → Bool
tells_stop e = is_some (stop_by (kind_at e.word)) || is_refused e.response

-- Whether an instruction is dispatched. Behind one that stops only by being executed, as an access
-- outside the memory, it may be until that one executes.
pub record DispatchIsEager (s : Setup) (older : List Told) (now : State) (es : List InFlight)
    (c : Told) : Type 0 where
  -- one is, where the core runs, cuts nothing and has room, unless it is known to stop
  pub comes : IsRunning s older c → c.log.cut ≡ None → length es < s.window
      → IsSome c.log.dispatched ⊎ StopsAlong (extension_in s) now es
  -- none is where it doesn't run (in the cycle of a stop, and in a drain), cuts, or has no room,
  pub runs : IsSome c.log.dispatched → IsRunning s older c
  pub uncut : IsSome c.log.dispatched → c.log.cut ≡ None
  pub room : IsSome c.log.dispatched → length es < s.window
  -- nor where the log and the trace tell that one in flight stops
  pub untold : IsSome c.log.dispatched → Each (λ e. tells_stop e ≡ false) es

-- the prediction of a dispatch, else the target of a cut, else the address before
abbrev pub address_by
    : {P : Type 0} → Meaning P → P → Option Dispatch → Option Cut → (address : ℕ) → ℕ
address_by meaning predictor (Some d) cut address = prediction meaning predictor d.pc d.word
address_by meaning predictor None (Some cut) address = cut.target
address_by meaning predictor None None address = address

-- The address of the next dispatch after these cycles: the target of the last cut where nothing was
-- dispatched since, else the prediction of the last dispatch, and before the first one the entry.
abbrev pub address_after : {P : Type 0} → Meaning P → (first : P) → (entry : ℕ) → List Told → ℕ
address_after meaning first entry [] = entry
address_after meaning first entry (c ∷ older) =
    address_by meaning (predictor_after meaning first older) c.log.dispatched c.log.cut
    (address_after meaning first entry older)

-- ---- offers

pub record OfferIsEager (s : Setup) (older : List Told) (es : List InFlight) (c : Told)
    : Type 0 where
  -- where the core runs, issue_valid is 1 exactly where a word awaits its response
  pub valid : IsRunning s older c → c.bus.issue_valid ≡ is_some (find awaits es)
  -- the oldest one is offered
  pub oldest : c.bus.issue_valid ≡ true
      → IsSomeAnd (find awaits es) (λ e. e.word ≡ Some c.bus.issue_instr)
  -- and in other cycles nothing is
  pub runs : c.bus.issue_valid ≡ true → IsRunning s older c

-- ---- cuts

-- A byte of a store is one of the four bytes at an address, modulo 2^32. Addresses in a log are
-- words of 32 bits.
pub record Touches (store : Store) (pc : ℕ) : Type 0 where
  pub byte : ℕ
  pub of_store : byte < store.width
  pub place : ℕ
  pub of_word : place < 4
  pub same : pc < 2 ^ 32 → wrapped (store.addr + byte) ≡ wrapped (pc + place)

-- The oldest instruction retires and stores into the word of a younger one. It alone is kept, and
-- what is behind it is dispatched anew.
pub record IsCutByStore (es : List InFlight) (c : Told) (cut : Cut) : Type 0 where
  pub line : Retire
  pub retires : c.log.retired ≡ Some line
  pub store : Store
  pub stores : line.store ≡ Some store
  pub first : InFlight
  pub between : List InFlight
  pub touched : InFlight
  pub younger : List InFlight
  pub here : es ≡ first ∷ between ++ touched ∷ younger
  pub oldest : first.pc ≡ line.pc
  pub touches : Touches store touched.pc
  pub keep : cut.keep ≡ 1
  pub target : cut.target ≡ following line.pc

-- A control transfer leads elsewhere than was predicted. It and what is older is kept, and where it
-- leads is dispatched.
pub record IsCutByTransfer (x : Extension) (now : State) (es : List InFlight) (cut : Cut)
    : Type 0 where
  pub older : List InFlight
  pub entry : InFlight
  pub younger : List InFlight
  pub here : es ≡ older ++ entry ∷ younger
  pub transfer : is_transfer entry.word ≡ true
  pub line : Retire
  pub leads : outcome_along x (state_along x now older) entry ≡ Retired line
  pub elsewhere : line.next ≢ entry.predicted
  pub keep : cut.keep ≡ length older + 1
  pub target : cut.target ≡ line.next

-- ---- a cycle

-- A cycle is eager, behind the older cycles of a run.
pub record IsEager {P : Type 0} (meaning : Meaning P) (s : Setup) (first : P) (older : List Told)
    (c : Told) : Type 0 where
  -- the in-order machine after the instructions that retired before the cycle, and after those by
  -- it
  pub now : State
  pub arrived : after (extension_in s) (length (retired_by older)) (first_state s) ≡ Some now
  pub next : State
  pub passed : after (extension_in s) (length (retired_by (c ∷ older))) (first_state s) ≡ Some next
  -- whether an instruction is dispatched
  pub dispatch : DispatchIsEager s older now (flight_after meaning first older) c
  -- its address
  pub address : (d : Dispatch) → c.log.dispatched ≡ Some d
      → d.pc ≡ address_after meaning first s.entry older
  -- its word: that of the memory of the in-order machine, none where the address is no multiple of
  -- 4 or the memory has no word there
  pub word : (d : Dispatch) → c.log.dispatched ≡ Some d → d.word ≡ word_at next.memory d.pc
  -- which word is offered
  pub offer : OfferIsEager s older (flight_after meaning first older) c
  -- a cut has one of two causes
  pub cut : (k : Cut) → c.log.cut ≡ Some k
      → IsCutByStore (flight_after meaning first older) c k
      ⊎ IsCutByTransfer (extension_in s) now (flight_after meaning first older) k
