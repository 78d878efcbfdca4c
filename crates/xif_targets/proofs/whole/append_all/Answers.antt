use Rattle.std.proofs.Common.{◌≡◌, ◌++◌, inl, inr, Err, ◌∙◌, ap, take, subst, arith}
use Rattle.std.proofs.lemmas.Result.{err_from_is_err_and}
use Rattle.xif_base.specs.Files.{IsMissing}
use Rattle.xif_targets.specs.Writing.{IsWritten}
use Rattle.xif_targets.proofs.Growing.{slice-more, part-of, written-more, written-there, uncounted-behind, fail-behind, on_err, if_err}
use Rattle.xif_targets.proofs.whole.append_all.Goals as goal

pub loop-done-preserved : goal.loop-done-preserved
loop-done-preserved g c =
    let inv = c.loop-done.invariant in
    let call = c.in_ok-done.ensures in
    let done = c.loop-done.done in
    let n = c.in_ok-done.field-0 in
    let bytes = c.args.bytes.now in
    record {
      within = omega (arith, call.bound);
      grows = λ before sent is. subst (IsWritten before (g.S.Shelf.files c.append.new.self) c.args.name.now) (slice-more sent bytes done n) (written-more before (g.S.Shelf.files c.loop-done.shelf) (g.S.Shelf.files c.append.new.self) c.args.name.now (sent ++ take done bytes) _ (inv.grows before sent is) call.files);
      uncounted = uncounted-behind inv.uncounted (record {
        fetches = call.fetches;
        writes = call.uncounted (grind arith);
        stays_faultless = λ said. call.counts.stays_faultless said;
      });
    }

pub returns-in_err-done-clause-front : goal.returns-in_err-done-clause-front
returns-in_err-done-clause-front g c = on_err c.from_residual.result (λ before sent is.
    let inv = c.loop-done.invariant in
    part-of before (g.S.Shelf.files c.append.new.self) c.args.name.now sent c.args.bytes.now c.loop-done.done inv.within (c.in_err-done.ensures.files ∙ inv.grows before sent is))

pub returns-in_err-done-clause-counted : goal.returns-in_err-done-clause-counted
returns-in_err-done-clause-counted g c = if_err c.from_residual.result (λ fail same before sent is.
    let inv = c.loop-done.invariant in
    let call = c.in_err-done.ensures in
    let this : c.in_err-done.field-0.0 ≡ fail = let found = err_from_is_err_and c.from_residual.result c.from_residual.ensures.1 in cc in
    let missing = λ (gone : IsMissing (g.S.Shelf.files c.loop-done.shelf) c.args.name.now). written-there before (g.S.Shelf.files c.loop-done.shelf) c.args.name.now (sent ++ take c.loop-done.done c.args.bytes.now) (inv.grows before sent is) gone in
    fail-behind fail inv.uncounted (record {
      fetches = call.fetches;
      counts = call.counts;
      failed = λ failed. elim (call.failed (ap Err (this ∙ failed))) [ inl rose ↦ rose | inr gone ↦ absurd (missing gone.0) ];
      has_faults = λ failed said. missing (call.only_missing said (ap Err (this ∙ failed)));
      no_memory = λ none. call.uncounted (λ failed. cc);
    }))
