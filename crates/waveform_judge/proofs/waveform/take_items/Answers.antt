use Rattle.std.proofs.Common.{◌≡◌, ◌∙◌, [], sym, subst, true, false}
use Rattle.waveform_judge.specs.Represented.{ItemJudging, HasTaken}
use Rattle.waveform_judge.proofs.Waiting.{alive, took_not}
use Rattle.waveform_judge.proofs.waveform.take_items.Goals as goal

pub returns-then-not-is_waiting-clause-first : goal.returns-then-not-is_waiting-clause-first
returns-then-not-is_waiting-clause-first c = λ map params variables waits some.
    let alive = (alive c.args.reader.now variables some).0 in
    let found = c.in_ok-find_signals.ensures.found map params variables waits some in
    (c.take_all.ensures.taken map params variables [] found alive, c.take_all.ensures.rest alive)

pub returns-then-not-is_waiting-clause-more : goal.returns-then-not-is_waiting-clause-more
returns-then-not-is_waiting-clause-more c = λ map params variables taken took some.
    let alive = (alive c.args.reader.now variables some).0 in
    let P : ItemJudging → Type 0 = λ x. HasTaken x map params variables taken in
    let kept = c.in_ok-find_signals.ensures.kept (took_not c.args.items.now map params variables taken took) in
    (c.take_all.ensures.taken map params variables taken (subst P (sym kept) took) alive, c.take_all.ensures.rest alive)

pub returns-else-not-is_waiting-clause-first : goal.returns-else-not-is_waiting-clause-first
returns-else-not-is_waiting-clause-first c = λ map params variables waits some.
    let found = c.in_ok-find_signals.ensures.found map params variables waits some in
    let no : true ≡ false = c.if-not-is_waiting.ensures ∙ took_not c.find_signals.new.items map params variables [] found in
    cc
