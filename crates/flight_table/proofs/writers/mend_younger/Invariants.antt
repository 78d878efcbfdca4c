use Rattle.std.proofs.Common.{◌≡◌, ◌<◌, ◌≤◌, ◌⊎◌, ℕ, Some}
use Rattle.std.specs.Prelude.{slice_get}
use Rattle.flight_table.specs.Table.{writer_of}
use Rattle.flight_table.proofs.writers.mend_younger.Given as goal

abbrev pub invariant-loop-register : goal.invariant-loop-register
invariant-loop-register l = record {
  done : (r : ℕ) → r < l.register
      → (slice_get l.writers r ≡ Some (writer_of l.dual_write l.ring.items r))
      ⊎ ((slice_get l.writers r ≡ slice_get l.fn.writers r)
      × ((w : ℕ) → slice_get l.fn.writers r ≡ Some (Some w) → w ≤ l.seq));
  rest : (r : ℕ) → l.register ≤ r → slice_get l.writers r ≡ slice_get l.fn.writers r;
}
