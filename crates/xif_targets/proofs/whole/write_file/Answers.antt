use Rattle.std.proofs.Common.{inr, [], arith}
use Rattle.std.proofs.lemmas.Result.{on_ok_weaker, on_err_weaker, IfErr-weaker}
use Rattle.xif_targets.proofs.Growing.{fail-behind}
use Rattle.xif_targets.proofs.whole.write_file.Goals as goal

pub returns-clause-whole : goal.returns-clause-whole
returns-clause-whole g c = on_ok_weaker c.append_all.result (λ grows. grows (g.S.Shelf.files c.args.shelf.now) [] c.in_ok-start.ensures.files) c.append_all.ensures.whole

pub returns-clause-front : goal.returns-clause-front
returns-clause-front g c = on_err_weaker c.append_all.result (λ part. inr (part (g.S.Shelf.files c.args.shelf.now) [] c.in_ok-start.ensures.files)) c.append_all.ensures.front

pub returns-clause-counted : goal.returns-clause-counted
returns-clause-counted g c = IfErr-weaker c.append_all.result _ _ (λ fail counted.
    let start = c.in_ok-start.ensures in
    fail-behind fail (record {
      fetches = start.fetches;
      writes = start.uncounted (grind arith);
      stays_faultless = λ said. start.counts.stays_faultless said;
    }) (counted (g.S.Shelf.files c.args.shelf.now) [] start.files)) c.append_all.ensures.counted
