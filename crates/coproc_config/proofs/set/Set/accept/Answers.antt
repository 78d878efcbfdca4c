use Rattle.std.proofs.Common.{sym, ◌∙◌}
use Rattle.coproc_config.specs.Set.{places_of}
use Rattle.coproc_config.specs.Accept.{takes, hit_at}
use Rattle.coproc_config.proofs.Allowed.{allowed}
use Rattle.coproc_config.proofs.Finds.{missed, met}
use Rattle.coproc_config.proofs.Hits.{entry_at-unit}
use Rattle.coproc_config.proofs.Sizes.{entries-few}
use Rattle.coproc_config.proofs.set.Set.accept.Goals as goal

pub accept-requires-clause-few : goal.accept-requires-clause-few
accept-requires-clause-few c = entries-few c.args.self.now c.loop-i.i c.get.result.now c.requires.lawful c.get.ensures

pub returns-in-Some-clause-first : goal.returns-in-Some-clause-first
returns-in-Some-clause-first c =
    let p = c.args.params.now in
    sym (c.loop-i.invariant ∙ met (hit_at p) (λ place. takes p c.args.word place.row) places_of c.args.self.now c.loop-i.i c.get.result.now c.in-Some.hit c.get.ensures (sym c.in-Some.ensures.first))

pub returns-in-Some-clause-flags : goal.returns-in-Some-clause-flags
returns-in-Some-clause-flags c =
    let flags = c.in-Some.ensures.flags in
    record {
      entry = flags.entry;
      there = entry_at-unit c.args.self.now c.in-Some.hit c.loop-i.i c.get.result.now c.in-Some.ensures.unit c.get.ensures ∙ flags.there;
      taken = flags.taken;
      reads = flags.reads;
      writes = flags.writes;
    }

pub returns-in-Some-clause-allowed : goal.returns-in-Some-clause-allowed
returns-in-Some-clause-allowed c = allowed _ c.args.params.now c.args.word c.in-Some.hit c.requires.params (returns-in-Some-clause-flags c)

pub returns-in-Some-clause-pair : goal.returns-in-Some-clause-pair
returns-in-Some-clause-pair c = λ e. ((returns-in-Some-clause-allowed c).write_pairs e).1

pub loop-i-preserved : goal.loop-i-preserved
loop-i-preserved c =
    let p = c.args.params.now in
    c.loop-i.invariant ∙ missed (hit_at p) (λ place. takes p c.args.word place.row) places_of c.args.self.now c.loop-i.i c.get.result.now c.get.ensures (sym c.in_default.ensures.first)
