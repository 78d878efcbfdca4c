use Rattle.std.proofs.Common.{◌+◌, ◌*◌, ◌≤◌, length, arith}
use Rattle.vcd_text.proofs.WrittenBinary.{written-small, written-turn}
use Rattle.vcd_text.proofs.binary.number_of_turns.Goals as goal

pub overflow_mul-number : goal.overflow_mul-number
overflow_mul-number c =
    let l = c.loop-len in
    let small = written-small c.args.bytes.now l.len l.number 56 l.invariant.within (omega (arith, c.requires.few, l.invariant.whole, c.loop-len-test.true)) l.invariant.written in
    omega (arith, small)

pub overflow_add-number : goal.overflow_add-number
overflow_add-number c =
    let l = c.loop-len in
    let bytes = c.args.bytes.now in
    let inside : l.len + 8 ≤ length c.args.bytes.now = omega (arith, l.invariant.whole, c.loop-len-test.true) in
    let more = written-turn bytes l.len l.number c.in_ok-turn.turn inside l.invariant.written c.in_ok-turn.ensures in
    let small = written-small bytes (l.len + 8) (l.number * 256 + c.in_ok-turn.turn) 64 inside (omega (arith, c.requires.few, inside)) more in
    omega (arith, small)

pub loop-len-preserved : goal.loop-len-preserved
loop-len-preserved c =
    let l = c.loop-len in
    let inside : l.len + 8 ≤ length c.args.bytes.now = omega (arith, l.invariant.whole, c.loop-len-test.true) in
    record {
      within = inside;
      whole = omega (arith, l.invariant.whole, c.loop-len-test.true);
      written = written-turn c.args.bytes.now l.len l.number c.in_ok-turn.turn inside l.invariant.written c.in_ok-turn.ensures;
    }
