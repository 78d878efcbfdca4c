-- The answer for a waveform that was read.
use Rattle.std.proofs.Common.{◌≡◌, ◌⊎◌, inl, inr, ℕ, List, Result, Ok, Err, sym, ap, ◌∙◌}
use Rattle.xif_base.specs.declared.outside.Which.{Which}
use Rattle.xif_base.specs.declared.outside.Which.TheVariants.{Waveform}
use Rattle.waveform_judge.specs.Judged.{judged_of, IsFail}
use Rattle.waveform_judge.specs.declared.judged.Judged.{Judged}
use Rattle.waveform_judge.specs.declared.judged.JudgeFail.{JudgeFail}
use Rattle.waveform_judge.specs.declared.judged.JudgeFail.TheVariants as judge
use Rattle.xif_job.specs.declared.job.Job.{Job}
use Rattle.xif_cli.specs.declared.answer.End.{End}
use Rattle.xif_cli.specs.declared.status.Status.{Status}
use Rattle.xif_cli.specs.declared.status.Status.TheVariants.{ReadFault, NoMemory}
use Rattle.xif_cli.specs.Limits.{longest_waveform}
use Rattle.xif_cli.specs.Outcome.{Answer, prints, Lookup, ◌>>=◌, file_in, or_status, judge_status}
use Rattle.xif_cli.specs.Verdict.{judged_end, judged_text}

-- the two steps of `verdict_in`
abbrev pub waveform_in : List ℕ → Lookup → Result (List ℕ) Status
waveform_in waveform find = file_in Waveform longest_waveform (find Waveform waveform)

abbrev pub answer_by : Result Judged JudgeFail → Result Answer Status
answer_by meant = or_status judge_status meant >>= (λ judged. Ok (prints (judged_end judged) (judged_text judged)))

abbrev pub answer_to : Job → List ℕ → Result Answer Status
answer_to job bytes = answer_by (judged_of job.map job.params bytes)

-- a waveform that can't be judged is refused so
pub answer-fail : (job : Job) (bytes : List ℕ) (fail : JudgeFail) (r : Result Answer Status) → IsFail (judged_of job.map job.params bytes) fail → r ≡ Err (judge_status fail) → (answer_to job bytes ≡ r) ⊎ (r ≡ Err NoMemory)
answer-fail job bytes fail r fails is = elim fails [
  | inl none ↦ inr (is ∙ ap (λ f. Err (judge_status f)) none)
  | inr meant ↦ inl (ap answer_by meant ∙ sym is)
]

-- and is no file that can't be read
pub no_read_fault : (fail : JudgeFail) (r : Result Answer Status) → r ≡ Err (judge_status fail) → (w : Which) → r ≡ Err (ReadFault w) → ⊥
no_read_fault (judge.Vcd fault) r is w read = cc
no_read_fault (judge.Map fault) r is w read = cc
no_read_fault judge.NoMemory r is w read = cc

-- a waveform that is judged has this answer
pub answer-judged : (job : Job) (bytes : List ℕ) (judged : Judged) (end : End) (text : List ℕ) → judged_of job.map job.params bytes ≡ Ok judged → end ≡ judged_end judged → text ≡ judged_text judged → answer_to job bytes ≡ Ok (prints end text)
answer-judged job bytes judged end text meant ends text_is =
    ap answer_by meant
    ∙ ap (λ e. Ok (prints e (judged_text judged))) (sym ends)
    ∙ ap (λ t. Ok (prints end t)) (sym text_is)
