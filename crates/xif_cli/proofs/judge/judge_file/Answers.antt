use Rattle.std.proofs.Common.{◌≡◌, inl, inr, [], Result, Ok, Err, rules}
use Rattle.std.specs.String.{string_bytes}
use Rattle.xif_cli.specs.declared.status.Status.{Status}
use Rattle.xif_cli.specs.declared.status.Status.TheVariants.{NoMemory}
use Rattle.xif_cli.specs.Outcome.{Answer, prints, judge_status}
use Rattle.xif_cli.specs.Reading.{seen}
use Rattle.xif_cli.proofs.Steps.{ends_refused, ends_read, refused_with, refuses-waveform}
use Rattle.xif_cli.proofs.Judging.{waveform_in, answer_to, answer-fail, no_read_fault, answer-judged}
use Rattle.xif_cli.proofs.judge.judge_file.Goals as goal

pub returns-in_err-read_into-clause-ends : goal.returns-in_err-read_into-clause-ends
returns-in_err-read_into-clause-ends g c =
    let same : c.from_residual-in_err-read_into.result ≡ Err c.in_err-read_into.field-0.0 = refused_with c.from_residual-in_err-read_into.result c.in_err-read_into.field-0.0 c.from_residual-in_err-read_into.ensures.1 in
    rw same (ends_refused (waveform_in c.args.waveform.now) (answer_to c.args.job.now) c.in_err-read_into.field-0.0 c.in_err-read_into.ensures.ends.1.1)

pub returns-in_err-judged-clause-ends : goal.returns-in_err-judged-clause-ends
returns-in_err-judged-clause-ends g c =
    let job = c.args.job.now in
    let ends = c.in_ok-read_into.ensures.ends in
    let read = ends.1.0.0.represents job.map job.params [] c.in_ok-judge.ensures.represents in
    let fail = c.in_err-judged.field-0.0 in
    let fails = c.in_err-judged.ensures.fail job.map job.params ends.0 read in
    let refusal : Result Answer Status = seen (λ answer. answer) c.from_residual-in_err-judged.result in
    let same : refusal ≡ Err (judge_status fail) = search rules in
    ends_read (waveform_in c.args.waveform.now) (answer_to job) ends.0 refusal ends.1.1 (answer-fail job ends.0 fail refusal fails same) (no_read_fault fail refusal same)

pub returns-in_err-text-clause-ends : goal.returns-in_err-text-clause-ends
returns-in_err-text-clause-ends g c =
    let ends = c.in_ok-read_into.ensures.ends in
    let refusal : Result Answer Status = seen (λ answer. answer) c.from_residual-in_err-text.result in
    let none : refusal ≡ Err NoMemory = search rules in
    ends_read (waveform_in c.args.waveform.now) (answer_to c.args.job.now) ends.0 refusal ends.1.1 (inr none) (λ w is. absurd (cc))

pub returns-clause-ends : goal.returns-clause-ends
returns-clause-ends g c =
    let job = c.args.job.now in
    let ends = c.in_ok-read_into.ensures.ends in
    let read = ends.1.0.0.represents job.map job.params [] c.in_ok-judge.ensures.represents in
    let judged = c.in_ok-judged.ensures.judged job.map job.params ends.0 read in
    let answer = answer-judged job ends.0 c.in_ok-judged.judged c.end_of-end.result (string_bytes c.in_ok-text.text) judged c.end_of-end.ensures c.in_ok-text.ensures in
    ends_read (waveform_in c.args.waveform.now) (answer_to job) ends.0 (Ok (prints c.end_of-end.result (string_bytes c.in_ok-text.text))) ends.1.1 (inl answer) (λ w is. absurd (cc))

pub returns-in_err-read_into-clause-refusal : goal.returns-in_err-read_into-clause-refusal
returns-in_err-read_into-clause-refusal g c =
    let same : c.from_residual-in_err-read_into.result ≡ Err c.in_err-read_into.field-0.0 = refused_with c.from_residual-in_err-read_into.result c.in_err-read_into.field-0.0 c.from_residual-in_err-read_into.ensures.1 in
    rw same (refuses-waveform c.in_err-read_into.field-0.0 c.in_err-read_into.ensures.refusal)
