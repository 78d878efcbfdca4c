use Rattle.std.proofs.Common.{◌≡◌, ◌++◌, [], sym, ap, subst, ◌∙◌, append-nil}
use Rattle.std.proofs.lemmas.Result.{IfOk-at_ok, IfErr-weaker, on_ok_weaker, on_err_weaker, err_from_is_err_and}
use Rattle.xif_targets.specs.Writing.{IsWritten, IsWrittenInPart, IsGrowing, IsCountedFail}
use Rattle.xif_targets.proofs.Growing.{on_err, if_err, fail-behind}
use Rattle.trace_file.specs.Tracing.{trace_text}
use Rattle.trace_file.proofs.Parts.{tracing-part, end-whole}
use Rattle.trace_file.proofs.trace_file.TraceFile.end.Goals as goal

pub returns-in_err-piece-clause-part : goal.returns-in_err-piece-clause-part
returns-in_err-piece-clause-part g c = on_err c.from_residual.result (λ before buses tracing.
    subst (λ bs. IsWrittenInPart before (g.S.Shelf.files c.args.shelf.now) c.args.name.now (trace_text c.args.self.now.writer.params bs)) (append-nil buses)
    (tracing-part before (g.S.Shelf.files c.args.shelf.now) c.args.name.now c.args.self.now buses [] tracing))

pub returns-in_err-append_text-clause-part : goal.returns-in_err-append_text-clause-part
returns-in_err-append_text-clause-part g c = rw (sym c.self.view_is) (on_err c.from_residual-in_err-append_text.result (λ before buses tracing.
    let e = IfOk-at_ok _ c.in_ok-piece.ensures.ok c.end.ensures buses tracing.text tracing.wrote in
    subst (IsWrittenInPart before (g.S.Shelf.files c.append_text.new.shelf) c.args.name.now) (ap (λ piece. tracing.text ++ piece) c.deref.ensures.value ∙ end-whole c.self.inside.writer buses tracing.text _ e)
    (c.in_err-append_text.ensures.front before tracing.text tracing.is_growing)))

pub returns-in_err-append_text-clause-counted : goal.returns-in_err-append_text-clause-counted
returns-in_err-append_text-clause-counted g c = rw (sym c.self.view_is) (if_err c.from_residual-in_err-append_text.result (λ fail same before buses tracing.
    let this : c.in_err-append_text.field-0.0 ≡ fail = let found = err_from_is_err_and c.from_residual-in_err-append_text.result c.from_residual-in_err-append_text.ensures.1 in cc in
    subst (IsCountedFail g.S.Shelf.fetch_faults g.S.Shelf.write_faults g.S.Shelf.faultless c.args.shelf.now c.append_text.new.shelf) this
    (c.in_err-append_text.ensures.counted before tracing.text tracing.is_growing)))

pub returns-clause-whole : goal.returns-clause-whole
returns-clause-whole g c = rw (sym c.self.view_is) (on_ok_weaker c.end_file.result (λ whole before buses tracing.
    let growing = c.in_ok-append_text.ensures.growing before tracing.text tracing.is_growing in
    subst (IsWritten before (g.S.Shelf.files c.end_file.new.shelf) c.args.name.now) (let e = IfOk-at_ok _ c.in_ok-piece.ensures.ok c.end.ensures buses tracing.text tracing.wrote in ap (λ piece. tracing.text ++ piece) c.deref.ensures.value ∙ end-whole c.self.inside.writer buses tracing.text _ e)
    (whole before (tracing.text ++ c.deref.result.now) (subst (λ pending. IsGrowing before (g.S.Shelf.files c.append_text.new.shelf) c.args.name.now pending (tracing.text ++ c.deref.result.now)) (sym c.deref-2.ensures.value) growing))) c.end_file.ensures.whole)

pub returns-clause-part : goal.returns-clause-part
returns-clause-part g c = rw (sym c.self.view_is) (on_err_weaker c.end_file.result (λ front before buses tracing.
    let growing = c.in_ok-append_text.ensures.growing before tracing.text tracing.is_growing in
    subst (IsWrittenInPart before (g.S.Shelf.files c.end_file.new.shelf) c.args.name.now) (let e = IfOk-at_ok _ c.in_ok-piece.ensures.ok c.end.ensures buses tracing.text tracing.wrote in ap (λ piece. tracing.text ++ piece) c.deref.ensures.value ∙ end-whole c.self.inside.writer buses tracing.text _ e)
    (front before (tracing.text ++ c.deref.result.now) (subst (λ pending. IsGrowing before (g.S.Shelf.files c.append_text.new.shelf) c.args.name.now pending (tracing.text ++ c.deref.result.now)) (sym c.deref-2.ensures.value) growing))) c.end_file.ensures.front)

pub returns-clause-counted : goal.returns-clause-counted
returns-clause-counted g c = rw (sym c.self.view_is) (IfErr-weaker c.end_file.result _ _ (λ fail counted before buses tracing.
    let growing = c.in_ok-append_text.ensures.growing before tracing.text tracing.is_growing in
    fail-behind fail c.in_ok-append_text.ensures.uncounted (counted before (tracing.text ++ c.deref.result.now) (subst (λ pending. IsGrowing before (g.S.Shelf.files c.append_text.new.shelf) c.args.name.now pending (tracing.text ++ c.deref.result.now)) (sym c.deref-2.ensures.value) growing))) c.end_file.ensures.counted)
