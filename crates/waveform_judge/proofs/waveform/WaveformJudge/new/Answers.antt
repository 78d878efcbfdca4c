use Rattle.std.proofs.Common.{rules, []}
use Rattle.waveform_judge.specs.Represented.{HasRead}
use Rattle.waveform_judge.proofs.Alive.{some_start}
use Rattle.waveform_judge.proofs.waveform.WaveformJudge.new.Goals as goal

pub invariant_of-result : goal.invariant_of-result
invariant_of-result c =
    let start : HasRead c.new.result c.in_ok-new.field-0 c.args.map.now c.args.params.now [] = search rules in
    (c.new.ensures.not_closed, λ alive. some_start c.new.result c.in_ok-new.field-0 c.args.map.now c.args.params.now start)
