-- Hits and the entries that they name.
use Rattle.std.proofs.Common.{◌≡◌, ℕ, List, Some, slice_get, ap, ap₂, ◌∙◌}
use Rattle.xif_base.specs.declared.flags.ReadFlags.{ReadFlags}
use Rattle.xif_base.specs.declared.flags.WriteFlags.{WriteFlags}
use Rattle.coproc_config.specs.declared.accept.Hit.{Hit}
use Rattle.coproc_config.specs.Set.{UnitTable}
use Rattle.coproc_config.specs.Accept.{entry_in, entry_at}

-- a hit with flags of these bits
abbrev with_bits : ℕ → ℕ → ℕ → ℕ → Hit
with_bits unit entry reads writes = record {
  unit = unit;
  entry = entry;
  register_read = record { 0 = reads };
  writeback = record { 0 = writes };
}

pub hit-same : (unit entry : ℕ) (reads : ReadFlags) (writes : WriteFlags) (r w : ℕ) → reads.0 ≡ r → writes.0 ≡ w → ◌≡◌ {A = Hit} (record { unit = unit; entry = entry; register_read = reads; writeback = writes }) (record { unit = unit; entry = entry; register_read = record { 0 = r }; writeback = record { 0 = w } })
hit-same unit entry reads writes r w p q = ap₂ (with_bits unit entry) p q

-- the entry that a hit in a unit names
pub entry_at-unit : (units : List UnitTable) (hit : Hit) (i : ℕ) (unit : UnitTable) → hit.unit ≡ i → slice_get units i ≡ Some unit → entry_at units hit ≡ slice_get unit.entries hit.entry
entry_at-unit units hit i unit same found =
    ap (λ n. entry_in (slice_get units n) hit.entry) same ∙ ap (λ u. entry_in u hit.entry) found
