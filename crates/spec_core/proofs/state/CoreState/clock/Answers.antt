use Rattle.std.proofs.Common.{◌≡◌, ◌<◌, ◌≤◌, ◌∙◌, ◌^◌, true, Option, IfSome, length, sym, ap, subst, arith}
use Rattle.inorder_machine.specs.Lines.{IsStore}
use Rattle.xif_image.specs.Region.{Region}
use Rattle.cycle_spec.specs.declared.choices.Choices.{Choices}
use Rattle.cycle_spec.specs.declared.entry.Entry.{Entry}
use Rattle.cycle_spec.specs.State.{Core}
use Rattle.cycle_spec.specs.Core as spec
use Rattle.flight_table.specs.Table.{Table}
use Rattle.spec_core.specs.Fits.{IsKeptWrite, IsEntry, AreEntries}
use Rattle.spec_core.proofs.Lengths.{settled-length}
use Rattle.spec_core.proofs.Entries.{retires_write, retires_store, dispatch_has_room, settled_after, added-kept, small_id, id-kept, where_dispatched}
use Rattle.spec_core.proofs.state.CoreState.clock.Goals as goal

pub write_back-requires : goal.write_back-requires
write_back-requires g c =
    let w : Core = c.args.self.now in
    let entries : AreEntries w.params w.memory w.flight = subst (λ (x : Core). AreEntries x.params x.memory x.flight) c.self.view_is c.self.invariant.1.1 in
    subst (λ (ch : Choices). IfSome ch.retire (λ e. IsKeptWrite e.write)) (sym c.requires.chosen) (retires_write w entries)

pub store_back-requires : goal.store_back-requires
store_back-requires g c =
    let w : Core = c.args.self.now in
    let entries : AreEntries w.params w.memory w.flight = subst (λ (x : Core). AreEntries x.params x.memory x.flight) c.self.view_is c.self.invariant.1.1 in
    subst (λ (x : Core). IfSome c.args.choices.now.retire (λ e. IsStore x.memory e.store)) (sym c.self.view_is)
    (subst (λ (ch : Choices). IfSome ch.retire (λ e. IsStore w.memory e.store)) (sym c.requires.chosen) (retires_store w entries))

pub add-requires-clause-room : goal.add-requires-clause-room
add-requires-clause-room g c =
    let w : Core = c.args.self.now in
    let x = c.self.inside in
    let ch = c.args.choices.now in
    let b = c.args.bus.now in
    let t : Table = c.settle.new.table in
    let before : ch.dispatch ≡ true → length w.flight < w.window = λ h. dispatch_has_room w (sym (ap (λ (y : Choices). y.dispatch) c.requires.chosen) ∙ h) in
    let few : length t.entries ≤ length x.table.entries = subst (λ (y : Table). length y.entries ≤ length x.table.entries) (sym c.settle.ensures.entries) (settled-length ch b x.table.entries) in
    let window : t.window ≡ x.window = ap (λ (y : Table). y.window) c.settle.ensures.entries ∙ c.self.invariant.1.0.room in
    let room : ch.dispatch ≡ true → length t.entries < t.window =
    λ h.
    let free : length x.table.entries < x.window = subst (λ (y : Core). length y.flight < y.window) (sym c.self.view_is) (before h) in
    omega (arith, few, window, free) in
    where_dispatched ch.dispatch _ c.entry_if-new.result (λ e. length t.entries < t.window) c.entry_if-new.ensures room

pub invariant_of-self : goal.invariant_of-self
invariant_of-self g c =
    let w : Core = c.args.self.now in
    let x = c.self.inside in
    let b = c.args.bus.now in
    let entries : AreEntries w.params w.memory w.flight = subst (λ (y : Core). AreEntries y.params y.memory y.flight) c.self.view_is c.self.invariant.1.1 in
    let window : c.add.new.table.window ≡ x.window = ap (λ (y : Table). y.window) c.add.ensures ∙ ap (λ (y : Table). y.window) c.settle.ensures.entries ∙ c.self.invariant.1.0.room in
    let dual : c.add.new.table.dual_write ≡ x.params.dual_write = ap (λ (y : Table). y.dual_write) c.add.ensures ∙ ap (λ (y : Table). y.dual_write) c.settle.ensures.entries ∙ c.self.invariant.1.0.dual_write in
    let ch : Choices = c.args.choices.now in
    let m : Region = c.store_back.new.memory in
    let t : Table = c.settle.new.table in
    let new : Option Entry = c.entry_if-new.result in
    let settled : AreEntries x.params m t.entries =
    subst (λ (n : Region). AreEntries x.params n t.entries) (sym c.store_back.ensures)
    (subst (λ (y : Table). AreEntries x.params (spec.memory_behind ch.retire x.memory) y.entries) (sym c.settle.ensures.entries)
    (subst (λ (y : Core). AreEntries y.params (spec.memory_behind ch.retire y.memory) (spec.settled_entries ch b y.flight)) (sym c.self.view_is)
    (subst (λ (o : Choices). AreEntries w.params (spec.memory_behind o.retire w.memory) (spec.settled_entries o b w.flight)) (sym c.requires.chosen)
    (settled_after w b entries)))) in
    let id : ch.dispatch ≡ true → c.free_id_if-id.result < 2 ^ x.params.id_width =
    λ h.
    let free : length w.flight < w.window = dispatch_has_room w (sym (ap (λ (y : Choices). y.dispatch) c.requires.chosen) ∙ h) in
    let room : length x.table.entries < x.window = subst (λ (y : Core). length y.flight < y.window) (sym c.self.view_is) free in
    omega (arith, c.free_id_if-id.ensures h, small_id x.table.entries, room, c.self.invariant.0.ids) in
    let is_entry : IfSome new (IsEntry x.params m) =
    where_dispatched ch.dispatch _ new (IsEntry x.params m) c.entry_if-new.ensures
    (λ h. record { id = id-kept x.params c.free_id_if-id.result _ (id h); write = tt; store = tt }) in
    let added : AreEntries x.params m c.add.new.table.entries =
    subst (λ (y : Table). AreEntries x.params m y.entries) (sym c.add.ensures) (added-kept x.params m new t.entries settled is_entry) in
    (c.self.invariant.0, (record { room = window; dual_write = dual }, added))
