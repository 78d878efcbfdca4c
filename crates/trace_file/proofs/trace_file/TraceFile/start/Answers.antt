use Rattle.std.proofs.Common.{inr, [], sym, ap, subst, ◌∙◌}
use Rattle.std.proofs.lemmas.Result.{IfOk-at_ok}
use Rattle.vcd_text.specs.Writing.{Wrote}
use Rattle.xif_targets.specs.Writing.{IsWrittenInPart}
use Rattle.xif_targets.proofs.Growing.{on_err}
use Rattle.trace_file.specs.Tracing.{trace_text}
use Rattle.trace_file.proofs.Parts.{part-whole}
use Rattle.trace_file.proofs.trace_file.TraceFile.start.Goals as goal

pub returns-in_err-append_text-clause-part : goal.returns-in_err-append_text-clause-part
returns-in_err-append_text-clause-part g c = on_err c.from_residual-in_err-append_text.result (λ buses.
    let files = g.S.Shelf.files c.args.shelf.now in
    let new = g.S.Shelf.files c.append_text.new.shelf in
    let wrote = IfOk-at_ok _ c.in_ok-header.ensures.ok c.header.ensures.wrote in
    let sent : Wrote c.header.new.self [] c.deref.result.now = subst (Wrote c.header.new.self []) (sym c.deref.ensures.value) wrote in
    inr (subst (λ p. IsWrittenInPart files new c.args.name.now (trace_text p buses)) (ap (λ w. w.params) (IfOk-at_ok _ c.in_ok-header.ensures.ok c.header.ensures.begun) ∙ ap (λ w. w.params) c.new-writer.ensures)
    (part-whole files new c.args.name.now c.header.new.self [] buses c.deref.result.now sent (c.in_err-append_text.ensures.front files [] c.in_ok-pending.ensures.growing))))
