use Rattle.std.proofs.Common.{◌∙◌, sym}
use Rattle.waveform_judge.proofs.Alive.{some_more}
use Rattle.waveform_judge.proofs.waveform.WaveformJudge.feed.Goals as goal

pub invariant_of-self : goal.invariant_of-self
invariant_of-self c = (
  c.feed_piece-fed.ensures.open,
  λ alive. some_more c.self.inside.reader c.feed_piece-fed.new.reader c.self.inside.items c.feed_piece-fed.new.items c.args.piece.now
      c.feed_piece-fed.result c.feed_piece-fed.ensures.represents (c.self.invariant.1 c.if-self.false) (sym c.is_err-self-inside.ensures.value ∙ alive),
)
