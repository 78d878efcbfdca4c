use Rattle.xif_job.proofs.Sets.{grown}
use Rattle.xif_job.proofs.units.add_unit.Goals as goal

pub loop-entry-preserved : goal.loop-entry-preserved
loop-entry-preserved c =
    grown _ _ c.args.set.now c.args.accumulators c.args.entries.now c.loop-entry.entry-index _ c.loop-entry-test.true c.in_ok-entry.ensures.ok c.loop-entry.invariant
