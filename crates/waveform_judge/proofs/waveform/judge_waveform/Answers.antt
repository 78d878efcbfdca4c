use Rattle.std.proofs.Common.{◌≡◌, ◌++◌, ℕ, List, Ok, subst, arith}
use Rattle.std.specs.Prelude.{IfOk, IfErr}
use Rattle.waveform_judge.specs.Judged.{judged_of, IsFail}
use Rattle.waveform_judge.proofs.Pieces.{front_more, front_all}
use Rattle.waveform_judge.proofs.waveform.judge_waveform.Goals as goal

pub loop-rest-preserved : goal.loop-rest-preserved
loop-rest-preserved c =
    let i = c.loop-rest.invariant in
    let piece = c.split_at.result.0.now in
    let more = c.split_at.result.1.now in
    record {
      front = (i.front.0 ++ piece, (c.in_ok-feed.ensures.represents c.args.map.now c.args.params.now i.front.0 i.front.1.0, front_more c.min.result i.front.0 piece more c.loop-rest.rest.now c.args.text.now c.split_at.ensures.front c.split_at.ensures.back i.front.1.1));
      room = omega (arith, i.room, c.feed.ensures.size, c.split_at.ensures.front_len, c.split_at.ensures.back_len);
    }

pub returns-clause-judged : goal.returns-clause-judged
returns-clause-judged c =
    let i = c.loop-rest.invariant in
    let all = front_all i.front.0 c.loop-rest.rest.now c.args.text.now c.loop-rest-test.ensures i.front.1.1 in
    let P : List ℕ → Type 0 = λ t. IfOk c.finish.result (λ judged. judged_of c.args.map.now c.args.params.now t ≡ Ok judged) in
    subst P all (c.finish.ensures.judged c.args.map.now c.args.params.now i.front.0 i.front.1.0)

pub returns-clause-fail : goal.returns-clause-fail
returns-clause-fail c =
    let i = c.loop-rest.invariant in
    let all = front_all i.front.0 c.loop-rest.rest.now c.args.text.now c.loop-rest-test.ensures i.front.1.1 in
    let P : List ℕ → Type 0 = λ t. IfErr c.finish.result (IsFail (judged_of c.args.map.now c.args.params.now t)) in
    subst P all (c.finish.ensures.fail c.args.map.now c.args.params.now i.front.0 i.front.1.0)
