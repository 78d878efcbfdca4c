-- How `run` can end.
use Rattle.std.proofs.Common.{◌≡◌, ◌⊎◌, inl, inr, ◌||◌, ℕ, List, Option, true, refl, sym, subst, arith}
use Rattle.std.specs.Prelude.{IsTrue, Result, Ok}
use Rattle.xif_base.specs.Files.{Files}
use Rattle.xif_base.specs.declared.outside.Which.{Which}
use Rattle.xif_base.specs.declared.outside.Which.TheVariants as which
use Rattle.xif_cli.specs.declared.answer.End.TheVariants as end
use Rattle.xif_cli.specs.declared.status.Status.{Status}
use Rattle.xif_cli.specs.declared.status.Status.TheVariants.{Done, Illegal, Usage, ReadFault, WriteFault, Job, Image, Vcd, Map, TooBig, NoMemory, Unbuilt}
use Rattle.xif_cli.specs.Concluding.{Delivers}
use Rattle.xif_cli.specs.Ending.{IsFaulted, IsFaultedAt, IsRefusal, writes, can_end}
use Rattle.xif_image.specs.Image.{Placement}
use Rattle.xif_job.specs.declared.job.Job.{Job as Job'}
use Rattle.xif_cli.specs.Outcome.{Answer, end_status, run_answer}
use Rattle.xif_cli.specs.Reading.{can_refuse_job, can_refuse_image}
use Rattle.xif_cli.specs.Words as form

is_target : (A B : Type 0) (name : List ℕ) (w : Which) → IsFaultedAt A B w → IsTrue (writes (form.Run name) w)
is_target A B name which.Trace a = refl
is_target A B name which.Log a = refl
is_target A B name which.Output b = refl
is_target A B name which.Job a = absurd a
is_target A B name which.Image a = absurd a
is_target A B name which.Waveform a = absurd a

pub run_can_end : {S O : Type 0} {files : S → Option Files} {fetch_faults write_faults : S → ℕ} {faultless : S → Type 0} {put_bytes : O → Option (List ℕ)} {put_faults : O → ℕ} {puts_all : O → Type 0}
    (old new : S) (out_old out_new : O) (name : List ℕ) (answer : Answer) (status : Status) → answer.end ≡ end.Done
    → Delivers files fetch_faults write_faults faultless put_bytes put_faults puts_all old new out_old out_new answer status
    → IsTrue (can_end (form.Run name) status)
run_can_end {write_faults = write_faults} {faultless = faultless} {put_faults = put_faults} {puts_all = puts_all} old new out_old out_new name answer status done d = elim d.ends [
  | inl e ↦ subst (λ s. IsTrue (can_end (form.Run name) s)) (sym e) (subst (λ x. IsTrue (can_end (form.Run name) (end_status x))) (sym done) refl)
  | inr fail ↦ elim fail [
    | inl fault ↦ subst (λ s. IsTrue (can_end (form.Run name) s)) (sym fault.1) (is_target (IsFaulted (faultless old) (write_faults old) (write_faults new)) (IsFaulted (puts_all out_old) (put_faults out_old) (put_faults out_new)) name fault.0 (d.faulted fault.0 fault.1))
    | inr none ↦ subst (λ s. IsTrue (can_end (form.Run name) s)) (sym none) refl
  ]
]

pub refused_can_end : (name : List ℕ) (status : Status) → IsTrue (can_refuse_job status || can_refuse_image status) → IsTrue (can_end (form.Run name) status)
refused_can_end name (Job fault) t = grind arith
refused_can_end name (Image fault) t = t
refused_can_end name (ReadFault w) t = t
refused_can_end name (TooBig w) t = t
refused_can_end name NoMemory t = refl
refused_can_end name Done t = cc
refused_can_end name Illegal t = cc
refused_can_end name Usage t = cc
refused_can_end name (WriteFault w) t = cc
refused_can_end name (Vcd fault) t = cc
refused_can_end name (Map fault) t = cc
refused_can_end name Unbuilt t = cc

pub refused_is : (status : Status) → IsTrue (can_refuse_job status || can_refuse_image status) → IsRefusal status ⊎ (status ≡ NoMemory)
refused_is (Job fault) t = inl tt
refused_is (Image fault) t = inl tt
refused_is (ReadFault w) t = inl tt
refused_is (TooBig w) t = inl tt
refused_is NoMemory t = inr refl
refused_is Done t = cc
refused_is Illegal t = cc
refused_is Usage t = cc
refused_is (WriteFault w) t = cc
refused_is (Vcd fault) t = cc
refused_is (Map fault) t = cc
refused_is Unbuilt t = cc

-- what is meant of a job and its image
abbrev pub run_of_loaded : Job' × Placement → Result Answer Status
run_of_loaded l = Ok (run_answer l.0 l.1)
