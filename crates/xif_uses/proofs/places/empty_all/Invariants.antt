use Rattle.std.proofs.Common.{◌≡◌, ◌<◌, ◌≤◌, ℕ, length}
use Rattle.std.specs.Prelude.{slice_index_or}
use Rattle.xif_uses.specs.declared.places.Slot.{Slot}
use Rattle.xif_uses.specs.Slots.{empty_slot}
use Rattle.xif_uses.proofs.places.empty_all.Given as goal

abbrev pub invariant-loop-place : goal.invariant-loop-place
invariant-loop-place l = record {
  within : l.place ≤ length l.slots;
  count : length l.slots ≡ length l.fn.slots;
  empty : (k : ℕ) (d : Slot) → k < l.place → slice_index_or l.slots k d ≡ empty_slot;
}
