-- What core and engine keep, in the machine that runs ahead.
use Rattle.std.specs.Prelude.{◌≡◌, ℕ, true, false, Option, Some, None, IsSome, List, [], ◌∷◌}
use Rattle.xif_image.specs.Region.{Region}
use Rattle.inorder_machine.specs.declared.line.Retire.{Retire}
use Rattle.inorder_machine.specs.Machine.{Extension, State}
use Rattle.cycle_spec.specs.declared.choices.Mode.TheVariants.{Running, Draining}
use Rattle.cycle_spec.specs.declared.entry.Entry.{Entry}
use Rattle.cycle_spec.specs.declared.use_of.Use.{Use}
use Rattle.cycle_spec.specs.Flight.{is_store, is_control}
use Rattle.cycle_spec.specs.Engine.{units_of}
use Rattle.cycle_spec.specs.State.{Engine}
use Rattle.cycle_spec.specs.Cycle.{Machines}
use Rattle.cycle_lists.specs.Lists.{Each}
use Rattle.cycle_paired.specs.Paired.{is_live}
use Rattle.ahead_spec.specs.Walk.{Item, entries, path_end}
use Rattle.ahead_spec.specs.Operands.{word_hit}
use Rattle.ahead_spec.specs.World.{World}
use Rattle.ahead_spec.specs.Invariant.{RunsAhead}

-- ---- an instruction in flight and its use

-- the result of a use, once it is ready
abbrev pub shown : (ready : Option ℕ) → (result : ℕ) → Option ℕ
shown None result = None
shown (Some cycle) result = Some result

-- what the engine knows of an instruction that had its issue handshake
pub record IsUseOf (x : Extension) (y : Item) (u : Use) : Type 0 where
  pub hit_is : u.hit ≡ word_hit x y.entry.word
  pub sent_is : u.given ≡ true → y.sent ≡ Some u.lanes
  pub result_is : y.result ≡ shown u.ready u.result

-- the use of its key, if it is live
abbrev pub Tied : (x : Extension) → (hart : ℕ) → List Use → Item → Type 0
Tied x hart us y =
    Each
    (λ u. is_live y.entry ≡ true → u.key.hart ≡ hart → u.key.id ≡ y.entry.id → IsUseOf x y u)
    us

-- a use has no lanes before its register handshake, and is finished only once it is ready
pub record IsHeld (u : Use) : Type 0 where
  pub lanes : u.given ≡ false → u.lanes ≡ 0 ∷ 0 ∷ 0 ∷ []
  pub ended : u.finished ≡ true → IsSome u.ready

-- ---- core and engine, and the machine that runs ahead

-- what retired instructions and computed uses leave; the lines are the newest first
pub record Left : Type 0 where
  pub pc : ℕ
  pub registers : List ℕ
  pub memory : Region
  pub retired : List Retire
  pub units : List (List ℕ)

abbrev pub left_in : World → Left
left_in w = record {
  pc = w.pc;
  registers = w.registers;
  memory = w.memory;
  retired = w.retired;
  units = w.units;
}

abbrev pub left_by : (hart : ℕ) → List Retire → Machines → Left
left_by hart retired m = record {
  pc = m.core.pc;
  registers = m.core.registers;
  memory = m.core.memory;
  retired = retired;
  units = units_of m.engine hart;
}

-- These entries and uses are in flight, with what is left, and the next dispatch is at an address.
pub record Shows (x : Extension) (start : State) (hart : ℕ) (left : Left) (es : List Entry)
    (us : List Use) (at : ℕ) (w : World) : Type 0 where
  pub runs : RunsAhead x start w
  pub left_is : left_in w ≡ left
  pub entries_are : entries w.flight ≡ es
  pub leads : path_end w.pc w.flight ≡ at
  pub tied : Each (Tied x hart us) w.flight

-- in a drain no store is in flight, and each control transfer is done
pub record IsCalm (e : Entry) : Type 0 where
  pub no_store : is_store e ≡ false
  pub control : is_control e ≡ true → e.done ≡ true

-- the words that are no instruction of RV32IM, as the engine takes them
abbrev pub extension_of : Engine → Extension
extension_of e = record { set = e.set; params = e.params }

-- The machine that runs ahead shows the core of a hart and the engine.
pub record Shown (start : State) (hart : ℕ) (retired : List Retire) (m : Machines) (w : World)
    : Type 0 where
  pub at : ℕ
  pub shows
      : Shows (extension_of m.engine) start hart (left_by hart retired m) m.core.flight
      m.engine.uses at w
  pub held : Each IsHeld m.engine.uses
  pub leads : m.core.mode ≡ Running → at ≡ m.core.ahead
  pub calm : m.core.mode ≡ Draining → Each IsCalm m.core.flight

-- ---- the first state

-- the state of the in-order machine that core and engine begin in
abbrev pub state_in : (hart : ℕ) → Machines → State
state_in hart m = record {
  pc = m.core.pc;
  registers = m.core.registers;
  memory = m.core.memory;
  units = units_of m.engine hart;
}
