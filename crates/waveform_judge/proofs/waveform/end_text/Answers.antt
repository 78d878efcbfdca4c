use Rattle.std.proofs.Common.{rules, ◌∙◌, ap, arith}
use Rattle.waveform_judge.specs.Judged.{with_map_fault}
use Rattle.waveform_judge.proofs.Ending.{end_good, end_bad, ends_judged}
use Rattle.waveform_judge.proofs.Alive.{some_end_room}
use Rattle.waveform_judge.proofs.waveform.end_text.Goals as goal

pub take_items-requires : goal.take_items-requires
take_items-requires c =
    some_end_room c.args.reader.now c.close.new.self c.args.items.now c.requires.represents c.in_ok-close.ensures.closed c.in_ok-close.ensures.fault c.requires.room

pub finish-requires : goal.finish-requires
finish-requires c =
    let room = some_end_room c.args.reader.now c.close.new.self c.args.items.now c.requires.represents c.in_ok-close.ensures.closed c.in_ok-close.ensures.fault c.requires.room in
    omega (arith, room, c.take_items.ensures.cycles)

pub returns-in_err-close-clause-fail : goal.returns-in_err-close-clause-fail
returns-in_err-close-clause-fail c = λ map params text p.
    let bad = end_bad c.args.reader.now c.close.new.self c.args.items.now map params text c.close.result c.in_err-close.field-0.0 c.in_err-close.was p c.close.ensures.closed c.close.ensures.fault in
    search rules

pub returns-in_err-finish-clause-fail : goal.returns-in_err-finish-clause-fail
returns-in_err-finish-clause-fail c = λ map params text p.
    let ends = end_good c.args.reader.now c.close.new.self c.take_items.new.reader c.args.items.now c.take_items.new.items map params text p c.in_ok-close.ensures.closed c.in_ok-close.ensures.fault
    c.close.ensures.declared c.in_ok-close.ensures.alive ((c.in_ok-take_items.ensures.waits, c.in_ok-take_items.ensures.first), c.in_ok-take_items.ensures.more) in
    let bad = ends_judged c.take_items.new.items map params text c.finish.result ends c.finish.ensures ∙ ap with_map_fault c.in_err-finish.was in
    search rules

pub returns-clause-judged : goal.returns-clause-judged
returns-clause-judged c = λ map params text p.
    let ends = end_good c.args.reader.now c.close.new.self c.take_items.new.reader c.args.items.now c.take_items.new.items map params text p c.in_ok-close.ensures.closed c.in_ok-close.ensures.fault
    c.close.ensures.declared c.in_ok-close.ensures.alive ((c.in_ok-take_items.ensures.waits, c.in_ok-take_items.ensures.first), c.in_ok-take_items.ensures.more) in
    ends_judged c.take_items.new.items map params text c.finish.result ends c.finish.ensures ∙ ap with_map_fault c.in_ok-finish.was
