use Rattle.std.proofs.Common.{◌+◌, length, arith}
use Rattle.vcd_text.proofs.Ink.{ink_more}
use Rattle.vcd_text.proofs.span.word_len.Goals as goal

pub returns-then-more-lt-TURN-clause-ink : goal.returns-then-more-lt-TURN-clause-ink
returns-then-more-lt-TURN-clause-ink c =
    ink_more c.args.bytes.now c.loop-len.len c.turn_len-more.result (c.loop-len.len + 16) (omega arith) c.loop-len.invariant.ink c.turn_len-more.ensures.ink

pub loop-len-preserved : goal.loop-len-preserved
loop-len-preserved c = record {
  within = omega arith;
  ink = ink_more c.args.bytes.now c.loop-len.len c.turn_len-more.result (c.loop-len.len + 16) (omega arith) c.loop-len.invariant.ink c.turn_len-more.ensures.ink;
}

pub returns-clause-ink : goal.returns-clause-ink
returns-clause-ink c =
    ink_more c.args.bytes.now c.loop-len.len c.ink_len.result (length c.args.bytes.now) (omega arith) c.loop-len.invariant.ink c.ink_len.ensures.ink
