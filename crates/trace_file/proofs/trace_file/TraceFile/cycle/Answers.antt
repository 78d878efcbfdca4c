use Rattle.std.proofs.Common.{◌++◌, [], ◌∷◌, sym}
use Rattle.std.proofs.lemmas.Result.{IfErr-weaker, on_ok_weaker, on_err_weaker}
use Rattle.vcd_text.proofs.Pieces.{ok_at}
use Rattle.trace_file.proofs.Parts.{tracing-part, cycle-part, cycle-pending}
use Rattle.trace_file.proofs.trace_file.TraceFile.cycle.Goals as goal

pub returns-then-is_err-clause-part : goal.returns-then-is_err-clause-part
returns-then-is_err-clause-part g c = λ before buses more tracing.
    tracing-part before (g.S.Shelf.files c.args.shelf.now) c.args.name.now c.args.self.now buses (c.args.bus.now ∷ more) tracing

pub returns-clause-tracing : goal.returns-clause-tracing
returns-clause-tracing g c = rw (sym c.self.view_is) (on_ok_weaker c.send_full.result (λ grows before buses tracing.
    let pending = cycle-pending before (g.S.Shelf.files c.args.shelf.now) c.args.name.now _ c.cycle_onto.new.self c.cycle_onto.new.text.items buses c.args.bus.now (ok_at c.cycle_onto.result c.cycle_onto.ensures.wrote c.if-is_err.ensures.value) tracing in
    record {
      text = pending.text;
      is_growing = grows before pending.text pending.is_growing;
      wrote = pending.wrote;
    }) c.send_full.ensures.growing)

pub returns-clause-part : goal.returns-clause-part
returns-clause-part g c = rw (sym c.self.view_is) (on_err_weaker c.send_full.result (λ front before buses more tracing.
    let pending = cycle-pending before (g.S.Shelf.files c.args.shelf.now) c.args.name.now _ c.cycle_onto.new.self c.cycle_onto.new.text.items buses c.args.bus.now (ok_at c.cycle_onto.result c.cycle_onto.ensures.wrote c.if-is_err.ensures.value) tracing in
    cycle-part before (g.S.Shelf.files c.send_full.new.shelf) c.args.name.now c.cycle_onto.new.self c.self.inside.writer.params buses more c.args.bus.now pending.text c.cycle_onto.ensures.params pending.wrote
    (front before pending.text pending.is_growing)) c.send_full.ensures.front)

pub returns-clause-counted : goal.returns-clause-counted
returns-clause-counted g c = rw (sym c.self.view_is) (IfErr-weaker c.send_full.result _ _ (λ fail counted before buses tracing.
    let pending = cycle-pending before (g.S.Shelf.files c.args.shelf.now) c.args.name.now _ c.cycle_onto.new.self c.cycle_onto.new.text.items buses c.args.bus.now (ok_at c.cycle_onto.result c.cycle_onto.ensures.wrote c.if-is_err.ensures.value) tracing in
    counted before pending.text pending.is_growing) c.send_full.ensures.counted)
