-- When an event may happen.
use Rattle.std.specs.Prelude.{◌≡◌, ◌⊎◌, ℕ, true, false, IsTrue, Some, None, IsSome, List, [], ◌∷◌, ◌++◌}
use Rattle.std.specs.List.{AllByRecursion}
use Rattle.rv32_table.specs.declared.instr.Instr.{Instr}
use Rattle.rv32_table.specs.declared.instr.Kind.TheVariants as row
use Rattle.rv32_table.specs.Instr.{kind_of, sources_of}
use Rattle.xif_image.specs.Region.{word_at}
use Rattle.inorder_machine.specs.declared.line.Retire.{Retire}
use Rattle.inorder_machine.specs.declared.line.Stepped.{Stepped}
use Rattle.inorder_machine.specs.declared.line.Stepped.TheVariants.{Retired, Stop}
use Rattle.inorder_machine.specs.declared.units.Half.{Half}
use Rattle.inorder_machine.specs.Execute.{executed}
use Rattle.inorder_machine.specs.Machine.{Extension, memory_after}
use Rattle.inorder_machine.specs.Units.{is_read}
use Rattle.xif_session.specs.Facts.{is_accepted}
use Rattle.cycle_spec.specs.declared.entry.EntryKind.TheVariants.{Local}
use Rattle.cycle_spec.specs.declared.entry.Operand.TheVariants.{Here}
use Rattle.cycle_spec.specs.Flight.{is_store, is_stopping, is_open, is_safe, source_behind}
use Rattle.ahead_spec.specs.Walk.{Item, entries, IsPath}
use Rattle.ahead_spec.specs.Operands.{halves_read, lanes_of, half_behind}
use Rattle.ahead_spec.specs.World.{World, Spot, whole, Event, Dispatches, Executes, Halts, Answers, Sends, Releases, Applies, Finishes, Drops, Retires, happens}

-- An instruction of RV32IM executes with this outcome, on the memory and on the registers behind
-- the older ones, which are all here. A load has no older store in flight.
pub record MayExecute (x : Extension) (w : World) (p : Spot) (outcome : Stepped) : Type 0 where
  pub here : w.flight ≡ whole p
  pub instr : Instr
  pub is_row : p.item.entry.kind ≡ Local instr
  pub not_done : p.item.entry.done ≡ false
  pub not_stopping : is_stopping p.item.entry ≡ false
  pub a : ℕ
  pub b : ℕ
  pub rs1 : source_behind x.params.dual_write w.registers (entries p.older) (sources_of instr).0
      ≡ Here a
  pub rs2 : source_behind x.params.dual_write w.registers (entries p.older) (sources_of instr).1
      ≡ Here b
  pub stores : kind_of instr ≡ row.Load → AllByRecursion (λ y. is_store y.entry ≡ false) p.older
  pub outcome_is
      : executed w.memory (record { pc = p.item.entry.pc; word = p.item.entry.word }) instr a b
      ≡ outcome

-- What is younger was dropped before, if it doesn't follow.
pub record MayExecuteTo (x : Extension) (w : World) (p : Spot) (line : Retire) : Type 0 where
  pub executes : MayExecute x w p (Retired line)
  pub path : IsPath line.next p.younger

-- Words are answered in their order.
pub record MayAnswer (w : World) (p : Spot) : Type 0 where
  pub here : w.flight ≡ whole p
  pub unanswered : is_open p.item.entry ≡ true
  pub answered : AllByRecursion (λ y. is_open y.entry ≡ false) p.older

-- The halves that the word reads are here, and the lanes have them.
pub record MaySend (x : Extension) (w : World) (p : Spot) (lanes : List ℕ) : Type 0 where
  pub here : w.flight ≡ whole p
  pub halves : (lane : ℕ) → Half → ℕ
  pub lanes_are : lanes ≡ lanes_of halves
  pub read : (lane : ℕ) → (half : Half)
      → IsTrue (is_read x.params (halves_read x p.item.entry.word) lane half)
      → half_behind x.params.dual_write w.registers (entries p.older) p.item.entry.word lane half
      ≡ Here (halves lane half)

-- Nothing older may stop the machine or cut the word.
pub record MayRelease (w : World) (p : Spot) : Type 0 where
  pub here : w.flight ≡ whole p
  pub accepted : is_accepted p.item.entry.response ≡ true
  pub safe : AllByRecursion (λ y. is_safe y.entry ≡ true) p.older

-- Released words are computed in their order, each from the lanes that were sent; one that reads
-- nothing may have none, which are then 0.
pub record MayApply (x : Extension) (w : World) (p : Spot) (lanes : List ℕ) : Type 0 where
  pub here : w.flight ≡ whole p
  pub released : p.item.entry.released ≡ true
  pub lanes_are : (p.item.sent ≡ Some lanes)
      ⊎ ((halves_read x p.item.entry.word ≡ 0) × (lanes ≡ 0 ∷ 0 ∷ 0 ∷ []))
  pub is_new : p.item.result ≡ None
  pub applied
      : AllByRecursion (λ y. is_accepted y.entry.response ≡ true → IsSome y.result) p.older

pub record MayFinish (w : World) (p : Spot) (result : ℕ) : Type 0 where
  pub here : w.flight ≡ whole p
  pub result_is : p.item.result ≡ Some result

-- Nothing that is dropped was released.
pub record MayDrop (w : World) (kept gone : List Item) : Type 0 where
  pub here : w.flight ≡ kept ++ gone
  pub unreleased : AllByRecursion (λ y. y.entry.released ≡ false) gone

-- What is younger was dropped before, if the store changes one of its words.
pub record MayRetire (w : World) (y : Item) (younger : List Item) : Type 0 where
  pub here : w.flight ≡ y ∷ younger
  pub done : y.entry.done ≡ true
  pub fetched
      : AllByRecursion
      (λ z. word_at (memory_after w.memory y.entry.store) z.entry.pc ≡ word_at w.memory z.entry.pc)
      younger

abbrev pub May : Extension → World → Event → Type 0
May x w (Dispatches answer seq id) = Unit {0}
May x w (Executes p line) = MayExecuteTo x w p line
May x w (Halts p cause) = MayExecute x w p (Stop cause)
May x w (Answers p) = MayAnswer w p
May x w (Sends p lanes) = MaySend x w p lanes
May x w (Releases p) = MayRelease w p
May x w (Applies p lanes) = MayApply x w p lanes
May x w (Finishes p result) = MayFinish w p result
May x w (Drops kept gone) = MayDrop w kept gone
May x w (Retires y younger) = MayRetire w y younger

-- each event may happen where it does
abbrev pub MayRun : Extension → World → List Event → Type 0
MayRun x w [] = Unit {0}
MayRun x w (e ∷ es) = May x w e × MayRun x (happens x w e) es
