use Rattle.waveform_judge.proofs.Pieces.{fed_taken}
use Rattle.waveform_judge.proofs.waveform.WaveformJudgeIntake.take.Goals as goal

pub returns-clause-takes : goal.returns-clause-takes
returns-clause-takes c = fed_taken c.args.self.now c.feed.new.self c.args.piece.now c.feed.result c.feed.ensures.represents c.feed.ensures.size
