-- A store changes neither the base nor the number of bytes of a memory, so that what can be stored
-- stays the same.
use Rattle.std.proofs.Common.{◌≡◌, ◌+◌, ◌∙◌, ◌&&◌, ℕ, Option, Some, None, List, length, nat_le, refl, ap₂, if◌then◌else◌}
use Rattle.std.proofs.lemmas.List.Elements.{All-weaker}
use Rattle.xif_base.specs.declared.params.Params.{Params}
use Rattle.xif_image.specs.declared.memory.MemFault.TheVariants.{Outside}
use Rattle.xif_image.specs.Region.{Region, fault_of}
use Rattle.xif_image.proofs.Stores.{length-stored}
use Rattle.inorder_machine.specs.declared.line.Store.{Store}
use Rattle.inorder_machine.specs.Lines.{IsStore}
use Rattle.inorder_machine.specs.Machine.{memory_after}
use Rattle.cycle_spec.specs.declared.entry.Entry.{Entry}
use Rattle.cycle_spec.specs.Core.{memory_behind}
use Rattle.std.specs.Prelude.{IfSome}
use Rattle.spec_core.specs.Fits.{IsEntry, AreEntries}

pub record SameShape (m n : Region) : Type 0 where
  pub base : n.base ≡ m.base
  pub count : length n.bytes ≡ length m.bytes

same_shape : (m : Region) → SameShape m m
same_shape m = record { base = refl; count = refl }

shape_after : (m : Region) (store : Option Store) → IsStore m store → SameShape m (memory_after m store)
shape_after m None h = same_shape m
shape_after m (Some store) h = record { base = refl; count = length-stored m store.addr store.width store.value h.0 h.1 }

pub shape_behind : (m : Region) (retire : Option Entry) → IfSome retire (λ e. IsStore m e.store) → SameShape m (memory_behind retire m)
shape_behind m None h = same_shape m
shape_behind m (Some e) h = shape_after m e.store h

same_fault : (m n : Region) (address width : ℕ) → SameShape m n → fault_of n address width ≡ fault_of m address width
same_fault m n address width s =
    ap₂ (λ base count. if nat_le base address && nat_le (address + width) (base + count) then None else Some Outside) s.base s.count

store_in : (m n : Region) (store : Option Store) → SameShape m n → IsStore m store → IsStore n store
store_in m n None s h = tt
store_in m n (Some store) s h = (h.0, same_fault m n store.addr store.width s ∙ h.1)

pub entries_in : (p : Params) (m n : Region) (es : List Entry) → SameShape m n → AreEntries p m es → AreEntries p n es
entries_in p m n es s a =
    All-weaker (IsEntry p m) (IsEntry p n)
    (λ e h. record { id = h.id; write = h.write; store = store_in m n e.store s h.store }) es a
