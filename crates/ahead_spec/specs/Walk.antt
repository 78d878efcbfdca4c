-- The states of the in-order machine along the instructions in flight.
use Rattle.std.specs.Prelude.{◌≡◌, ℕ, if◌then◌else◌, Option, Some, None, List, [], ◌∷◌, map}
use Rattle.inorder_machine.specs.declared.line.Stepped.{Stepped}
use Rattle.inorder_machine.specs.declared.line.Stepped.TheVariants.{Stop}
use Rattle.inorder_machine.specs.declared.stop.StopCause.TheVariants.{FetchOutside}
use Rattle.inorder_machine.specs.Machine.{Extension, State, outcome_at, state_after}
use Rattle.cycle_spec.specs.declared.entry.Entry.{Entry}
use Rattle.cycle_spec.specs.declared.entry.EntryKind.{EntryKind}
use Rattle.cycle_spec.specs.Core.{word_of}

-- An instruction in flight, and what the coprocessors made of it so far.
pub record Item : Type 0 where
  pub entry : Entry
  -- the lanes that they took at the register handshake
  pub sent : Option (List ℕ)
  -- the result, once its unit has computed it
  pub result : Option ℕ

abbrev pub entry_of : Item → Entry
entry_of y = y.entry

abbrev pub entries : List Item → List Entry
entries ys = map entry_of ys

-- ---- one instruction in flight

-- a word at an address is executed, and where there is no word the machine stops
abbrev pub outcome_of_word : Extension → State → (pc : ℕ) → Option ℕ → Stepped
outcome_of_word x s pc None = Stop FetchOutside
outcome_of_word x s pc (Some word) = outcome_at x s (record { pc = pc; word = word })

-- The step of the in-order machine, with the address and the word of an instruction in flight in
-- place of those that it fetches.
unfoldable pub outcome : Extension → State → (pc : ℕ) → EntryKind → (word : ℕ) → Stepped
outcome x s pc kind word = outcome_of_word x s pc (word_of kind word)

-- the state after it; an instruction that stops changes nothing
unfoldable pub stepped : Extension → State → (pc : ℕ) → EntryKind → (word : ℕ) → State
stepped x s pc kind word = state_after x s (outcome x s pc kind word)

-- ---- all of them, the oldest first

-- the state behind instructions in flight; the walk goes on behind one that stops
abbrev pub along : Extension → State → List Item → State
along x s [] = s
along x s (y ∷ ys) = along x (stepped x s y.entry.pc y.entry.kind y.entry.word) ys

-- something holds of each of them in the state before it
abbrev pub Walked : Extension → (State → Item → Type 0) → State → List Item → Type 0
Walked x P s [] = Unit {0}
Walked x P s (y ∷ ys) =
    P s y × Walked x P (stepped x s y.entry.pc y.entry.kind y.entry.word) ys

-- ---- the path of their addresses

-- the address that follows: the predicted one, and once the instruction is done the actual one
abbrev pub leads_to : Entry → ℕ
leads_to e = if e.done then e.next else e.predicted

-- each stands where the one before it leads to, and the first at an address
abbrev pub IsPath : (from : ℕ) → List Item → Type 0
IsPath from [] = Unit {0}
IsPath from (y ∷ ys) = (y.entry.pc ≡ from) × IsPath (leads_to y.entry) ys

-- where the last one leads to
abbrev pub path_end : (from : ℕ) → List Item → ℕ
path_end from [] = from
path_end from (y ∷ ys) = path_end (leads_to y.entry) ys
