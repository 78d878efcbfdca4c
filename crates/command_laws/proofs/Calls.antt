-- What a call of `judge` prints behind a call of `run`.
use Rattle.std.proofs.Common.{◌≡◌, ℕ, List, Option, Some, Result, Ok, sym, ap, ◌∙◌, subst}
use Rattle.std.specs.Prelude.{String}
use Rattle.std.specs.declared.alloc.Global.{Global}
use Rattle.std.specs.FinMap.{get}
use Rattle.xif_base.specs.Files.{Files}
use Rattle.xif_targets.specs.Targets.{written}
use Rattle.xif_job.specs.declared.job.Job.{Job}
use Rattle.xif_cli.specs.declared.answer.End.{End}
use Rattle.xif_cli.specs.declared.answer.End.TheVariants.{Done}
use Rattle.xif_cli.specs.declared.status.Status.{Status}
use Rattle.xif_cli.specs.Ending.{texts_of, Means}
use Rattle.xif_cli.specs.Judged.{legal_answer}
use Rattle.xif_cli.specs.Outcome.{Lookup, Answer, found, command_outcome}
use Rattle.xif_cli.specs.Verdict.{legal_line}
use Rattle.xif_cli.proofs.Forms.{one_form}
use Rattle.command_laws.specs.Commands.{HoldBytes, SaysCycles, Runs, Calls, Judges}
use Rattle.command_laws.proofs.Verdicts.{judged}

-- words mean one thing
one-meaning : (words : List (String Global)) (find : Lookup) (one other : Result Answer Status) → Means words find one → Means words find other → one ≡ other
one-meaning words find one other m n =
    sym m.1.1 ∙ ap (λ f. command_outcome f find) (one_form (texts_of words) m.0 n.0 m.1.0 n.1.0) ∙ n.1.1

abbrev meant : Answer → Result Answer Status
meant answer = Ok answer

same-answer : (answer other : Answer) → meant answer ≡ meant other → answer ≡ other
same-answer answer other h = cc

abbrev some-files : Files → Option Files
some-files files = Some files

same-files : (files others : Files) → some-files files ≡ some-files others → files ≡ others
same-files files others h = cc

abbrev some-text : List ℕ → Option (List ℕ)
some-text text = Some text

same-text : (text other : List ℕ) → some-text text ≡ some-text other → text ≡ other
same-text text other h = cc

pub prints : (run_words judge_words : List (String Global)) (before left later after : Files) (job : Job) (end : End) (report verdict : List ℕ) → HoldBytes before
    → Runs run_words before job → Calls run_words before Done left report → get later job.trace ≡ get left job.trace
    → Judges judge_words later job → Calls judge_words later end after verdict → (end ≡ Done) × ((cycles : ℕ) × (SaysCycles cycles report × (verdict ≡ legal_line cycles)))
prints run_words judge_words before left later after job end report verdict bytes runs ran same judges called =
    let left_is : left ≡ written ran.answer.targets before = same-files left (written ran.answer.targets before) ran.files in
    let report_is : report ≡ ran.answer.printed = same-text report ran.answer.printed ran.output in
    let j = judged run_words judge_words before later job ran.answer bytes runs ran.is_meant (same ∙ ap (λ files. get files job.trace) left_is) judges in
    let is : called.answer ≡ legal_answer j.cycles = same-answer called.answer (legal_answer j.cycles) (one-meaning judge_words (found later) (Ok called.answer) (Ok (legal_answer j.cycles)) called.is_meant j.legal) in (
      sym called.ends ∙ ap (λ (a : Answer). a.end) is,
      (
        j.cycles,
        (
          subst (SaysCycles j.cycles) (sym report_is) j.says,
          same-text verdict called.answer.printed called.output ∙ ap (λ (a : Answer). a.printed) is,
        ),
      ),
    )
