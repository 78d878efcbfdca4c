use Rattle.std.proofs.Common.{◌<◌, ◌^◌, ◌∙◌, Err, ap, arith}
use Rattle.waveform_judge.proofs.Feeding.{feed_good, feed_bad}
use Rattle.waveform_judge.proofs.Alive.{some_feed_room}
use Rattle.waveform_judge.proofs.waveform.feed_piece.Goals as goal

pub take_items-requires : goal.take_items-requires
take_items-requires c =
    let small : c.feed.new.self.size < 2 ^ 32 = omega (arith, c.feed.ensures.size, c.requires.room) in
    some_feed_room c.args.reader.now c.feed.new.self c.args.items.now c.args.piece.now c.requires.represents c.in-Ok.ensures.fed c.in-Ok.ensures.fault small

pub returns-in-Ok-clause-represents : goal.returns-in-Ok-clause-represents
returns-in-Ok-clause-represents c = λ map params text p.
    feed_good c.args.reader.now c.feed.new.self c.take_items.new.reader c.args.items.now c.take_items.new.items c.take_items.result map params text c.args.piece.now
    p c.in-Ok.ensures.fed c.in-Ok.ensures.fault c.feed.ensures.declared
    ((c.take_items.ensures.waits, c.take_items.ensures.first), c.take_items.ensures.more)

pub returns-in-Err-Vcd-clause-represents : goal.returns-in-Err-Vcd-clause-represents
returns-in-Err-Vcd-clause-represents c = λ map params text p.
    feed_bad c.args.reader.now c.feed.new.self c.args.items.now map params text c.args.piece.now c.feed.result c.in-Err-Vcd.field-0-0 (c.in-Err-Vcd.is ∙ ap Err c.in-Err-Vcd.field-0-is)
    p c.feed.ensures.fed c.feed.ensures.fault
