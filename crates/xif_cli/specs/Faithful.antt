-- What `run` promises: its answer is that of a run of the job's core that is faithful to the in-order
-- machine.
use Rattle.std.specs.Prelude.{◌≡◌, ◌^◌, ℕ, List, Ok, replicate}
use Rattle.cycle_spec.specs.Run.{Setup, Run}
use Rattle.run_laws.specs.Headline.{LeavesInOrder, HasUsesInOrder, HasLegalSignals, IsEagerThroughout, KeepsPace}
use Rattle.xif_image.specs.Image.{Placement}
use Rattle.xif_job.specs.declared.job.Job.{Job}
use Rattle.xif_job.specs.declared.predictor.Kind.{Kind}
use Rattle.xif_job.specs.declared.predictor.Kind.TheVariants as kind
use Rattle.xif_cli.specs.Outcome.{Lookup, Answer, loaded, run_answer}
use Rattle.xif_cli.specs.Simulated.{setup_of, never, backward, bimodal, listed, run_by}

-- it dispatches eagerly along the predictions of a predictor of this kind
abbrev pub IsEagerBy : Kind → Setup → Run → Type 0
IsEagerBy kind.Never setup run = IsEagerThroughout never setup (record {}) run
IsEagerBy kind.Backward setup run = IsEagerThroughout backward setup (record {}) run
IsEagerBy (kind.Bimodal bits) setup run =
    IsEagerThroughout bimodal setup (replicate (2 ^ bits) 1) run
IsEagerBy (kind.Listed targets) setup run =
    IsEagerThroughout listed setup (record { targets = targets; position = 0 }) run

-- The answer of `run` to the job in the file of a name.
pub record IsFaithfulAnswer (name : List ℕ) (find : Lookup) (answer : Answer) : Type 0 where
  -- the job, with its image
  pub job : Job
  pub image : Placement
  pub is_read : loaded name find ≡ Ok (job, image)
  -- the trace, the log and the report of the answer are those of the job's run
  pub run : Run
  pub is_run : run ≡ run_by job.predictor (setup_of job image)
  pub answers : answer ≡ run_answer job image
  -- the run leaves what the in-order machine leaves after as many instructions,
  pub refines : LeavesInOrder (setup_of job image) run
  -- its coprocessors compute what retires, and what they began besides is killed,
  pub uses : HasUsesInOrder (setup_of job image) run
  -- its signals keep every rule of the interface in every cycle,
  pub legal : HasLegalSignals (setup_of job image) run
  -- it dispatches eagerly along its predictions,
  pub eager : IsEagerBy job.predictor (setup_of job image) run
  -- and it keeps pace
  pub paced : KeepsPace (setup_of job image) run
