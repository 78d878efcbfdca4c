-- The answers of `run` are those of faithful runs.
use Rattle.std.proofs.Common.{◌≡◌, ◌<◌, ◌⊎◌, inl, inr, ◌^◌, ℕ, List, replicate, refl, sym, ap, subst, ◌∙◌, arith}
use Rattle.std.specs.Prelude.{Result, Ok, Err, IfOk}
use Rattle.xif_base.specs.declared.outside.Which.{Which}
use Rattle.xif_base.specs.declared.outside.WriteFail.{WriteFail}
use Rattle.xif_base.specs.declared.outside.WriteFail.TheVariants as fail
use Rattle.cycle_spec.specs.Run.{Setup}
use Rattle.trace_laws.specs.Sessions.{HasBytes}
use Rattle.run_laws.specs.Headline.{CanRun, LeavesInOrder, HasUsesInOrder, HasLegalSignals, KeepsPace}
use Rattle.run_laws.proofs.Joined.{faithful}
use Rattle.xif_image.specs.Image.{Placement}
use Rattle.xif_job.specs.Ranges.{IsLawfulJob}
use Rattle.xif_job.specs.declared.job.Job.{Job}
use Rattle.xif_job.specs.declared.predictor.Kind.{Kind}
use Rattle.xif_job.specs.declared.predictor.Kind.TheVariants as kind
use Rattle.xif_cli.specs.declared.status.Status.{Status}
use Rattle.xif_cli.specs.declared.status.Status.TheVariants.{Done, ReadFault, NoMemory}
use Rattle.xif_cli.specs.Concluding.{IsFailStatus}
use Rattle.xif_cli.specs.Ending.{IsRefusal}
use Rattle.xif_cli.specs.Faithful.{IsEagerBy, IsFaithfulAnswer}
use Rattle.xif_cli.specs.InOrder.{step_start}
use Rattle.xif_cli.specs.Outcome.{◌>>=◌, Lookup, Answer, loaded, run_answer, run_outcome}
use Rattle.xif_cli.specs.Reading.{IsReadFault}
use Rattle.xif_cli.specs.Simulated.{setup_of, never, backward, bimodal, listed, run_by}
use Rattle.xif_cli.proofs.Running.{run_of_loaded}

can-run : (job : Job) (image : Placement) → IsLawfulJob job → HasBytes (step_start job image).memory → CanRun (setup_of job image)
can-run job image lawful bytes = record { params = lawful.in_range; window = omega (arith, lawful.window.at_least); bytes = bytes }

-- ---- what holds of a run, by the kind of its predictor

leaves-by : (k : Kind) (setup : Setup) → CanRun setup → LeavesInOrder setup (run_by k setup)
unfolding run_by
leaves-by kind.Never setup can = (faithful never setup (record {}) can).refines
leaves-by kind.Backward setup can = (faithful backward setup (record {}) can).refines
leaves-by (kind.Bimodal bits) setup can = (faithful bimodal setup (replicate (2 ^ bits) 1) can).refines
leaves-by (kind.Listed targets) setup can = (faithful listed setup (record { targets = targets; position = 0 }) can).refines

uses-by : (k : Kind) (setup : Setup) → CanRun setup → HasUsesInOrder setup (run_by k setup)
unfolding run_by
uses-by kind.Never setup can = (faithful never setup (record {}) can).uses
uses-by kind.Backward setup can = (faithful backward setup (record {}) can).uses
uses-by (kind.Bimodal bits) setup can = (faithful bimodal setup (replicate (2 ^ bits) 1) can).uses
uses-by (kind.Listed targets) setup can = (faithful listed setup (record { targets = targets; position = 0 }) can).uses

legal-by : (k : Kind) (setup : Setup) → CanRun setup → HasLegalSignals setup (run_by k setup)
unfolding run_by
legal-by kind.Never setup can = (faithful never setup (record {}) can).legal
legal-by kind.Backward setup can = (faithful backward setup (record {}) can).legal
legal-by (kind.Bimodal bits) setup can = (faithful bimodal setup (replicate (2 ^ bits) 1) can).legal
legal-by (kind.Listed targets) setup can = (faithful listed setup (record { targets = targets; position = 0 }) can).legal

eager-by : (k : Kind) (setup : Setup) → CanRun setup → IsEagerBy k setup (run_by k setup)
unfolding run_by
eager-by kind.Never setup can = (faithful never setup (record {}) can).eager
eager-by kind.Backward setup can = (faithful backward setup (record {}) can).eager
eager-by (kind.Bimodal bits) setup can = (faithful bimodal setup (replicate (2 ^ bits) 1) can).eager
eager-by (kind.Listed targets) setup can = (faithful listed setup (record { targets = targets; position = 0 }) can).eager

paced-by : (k : Kind) (setup : Setup) → CanRun setup → KeepsPace setup (run_by k setup)
unfolding run_by
paced-by kind.Never setup can = (faithful never setup (record {}) can).paced
paced-by kind.Backward setup can = (faithful backward setup (record {}) can).paced
paced-by (kind.Bimodal bits) setup can = (faithful bimodal setup (replicate (2 ^ bits) 1) can).paced
paced-by (kind.Listed targets) setup can = (faithful listed setup (record { targets = targets; position = 0 }) can).paced

-- ---- answers

abbrev ok_of : {A : Type 0} → A → Result A Status
ok_of x = Ok x

no_err : {A : Type 0} (x : A) (status : Status) → ok_of x ≡ Err status → ⊥
no_err x status e = cc

abbrev answer_ok : Answer → Result Answer Status
answer_ok answer = Ok answer

same_answer : (a b : Answer) → answer_ok a ≡ answer_ok b → a ≡ b
same_answer a b e = cc

outcome-is : (name : List ℕ) (find : Lookup) (job : Job) (image : Placement) → loaded name find ≡ Ok (job, image) → run_outcome name find ≡ answer_ok (run_answer job image)
outcome-is name find job image read = ap (λ r. r >>= run_of_loaded) read

-- what `run` answers, once the job and the image are read
pub answers-faithfully : (name : List ℕ) (find : Lookup) (job : Job) (image : Placement) (answer : Answer)
    → IsLawfulJob job → HasBytes (step_start job image).memory → loaded name find ≡ Ok (job, image) → run_outcome name find ≡ Ok answer
    → IsFaithfulAnswer name find answer
answers-faithfully name find job image answer lawful bytes read means =
    let can = can-run job image lawful bytes in
    let setup = setup_of job image in
    record {
      job = job;
      image = image;
      is_read = read;
      run = run_by job.predictor setup;
      is_run = refl;
      answers = same_answer answer (run_answer job image) (sym means ∙ outcome-is name find job image read);
      refines = leaves-by job.predictor setup can;
      uses = uses-by job.predictor setup can;
      legal = legal-by job.predictor setup can;
      eager = eager-by job.predictor setup can;
      paced = paced-by job.predictor setup can;
    }

-- what was read, by a reading that ended with it
pub loaded_so : {A : Type 0} (r : Result A Status) (x : A) {F : Type 0} → (r ≡ Ok x) ⊎ ((ok_of x ≡ Err NoMemory) ⊎ (F × IsReadFault (ok_of x))) → r ≡ Ok x
loaded_so r x outcome = elim outcome [
  | inl e ↦ e
  | inr other ↦ elim other [
    | inl none ↦ absurd (no_err x NoMemory none)
    | inr fault ↦ absurd (no_err x (ReadFault fault.1.0) fault.1.1)
  ]
]

-- ---- statuses

-- writing that failed isn't done
pub fails_undone : (w : Which) (f : WriteFail) (status : Status) → IsFailStatus w f status → status ≡ Done → ⊥
fails_undone w fail.Failed status fails done = cc
fails_undone w fail.NoMemory status fails done = cc

-- nor is what was refused
pub refused_undone : (status : Status) → IsRefusal status ⊎ (status ≡ NoMemory) → status ≡ Done → ⊥
refused_undone status (inl refusal) done = subst IsRefusal done refusal
refused_undone status (inr none) done = cc

-- a fact, where something was returned
pub if_ok : {A E : Type 0} (r : Result A E) (P : Type 0) → P → IfOk r (λ _. P)
if_ok (Ok x) P p = p
if_ok (Err e) P p = tt
