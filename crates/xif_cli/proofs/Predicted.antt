-- Runs by their predictors, and what is printed of them.
use Rattle.std.proofs.Common.{◌≡◌, inl, ◌≤◌, ◌++◌, ◌^◌, ℕ, List, length, replicate, refl, sym, ap, subst, ◌∙◌, arith}
use Rattle.std.specs.List.{filter_map}
use Rattle.coproc_config.specs.Check.{IsLawful}
use Rattle.coproc_config.specs.Set.{UnitTable}
use Rattle.coproc_config.specs.State.{accumulator_of}
use Rattle.cycle_spec.specs.Engine.{units_of}
use Rattle.cycle_spec.specs.Run.{Setup, Run, run_of, end_by}
use Rattle.generator.specs.Generated.{params, set, script_of, budget_of, memory_of}
use Rattle.generator.proofs.Drawn.{script-lawful}
use Rattle.inorder_machine.specs.Machine.{register_in}
use Rattle.traced_run.specs.declared.counts.Counts.{Counts}
use Rattle.traced_run.specs.Left.{IsAtEnd, counts_of}
use Rattle.xif_drive.specs.Scripts.{Lists}
use Rattle.xif_drive.specs.Predictors.{Turn}
use Rattle.xif_drive.specs.declared.predictor.Never.{Never}
use Rattle.xif_drive.specs.declared.backward.Backward.{Backward}
use Rattle.xif_image.specs.Region.{Region}
use Rattle.xif_job.specs.declared.predictor.Kind.TheVariants as kind
use Rattle.xif_sim.specs.Setup.{IsLawfulSetup}
use Rattle.xif_sim.specs.Simulating.{Simulating}
use Rattle.xif_cli.specs.Simulated.{never, backward, bimodal, listed, run_by, stop_of, simulated_text, simulated_report}
use Rattle.xif_cli.specs.Summary.{counts_text, end_text, values_line, summary_of, generated_setup, generated_summary}

-- ---- runs by the kinds of predictors

pub run-never : (setup : Setup) (p : Never) → run_of never setup p ≡ run_by kind.Never setup
unfolding run_by
run-never setup p = refl

pub run-backward : (setup : Setup) (p : Backward) → run_of backward setup p ≡ run_by kind.Backward setup
unfolding run_by
run-backward setup p = refl

pub run-bimodal : (setup : Setup) (bits : ℕ) (p : List ℕ) → p ≡ replicate (2 ^ bits) 1 → run_of bimodal setup p ≡ run_by (kind.Bimodal bits) setup
unfolding run_by
run-bimodal setup bits p e = ap (run_of bimodal setup) e

abbrev pub turn_of : List ℕ → Turn
turn_of targets = record { targets = targets; position = 0 }

pub run-listed : (setup : Setup) (targets : List ℕ) (p : Turn) → p ≡ record { targets = targets; position = 0 } → run_of listed setup p ≡ run_by (kind.Listed targets) setup
unfolding run_by
run-listed setup targets p e = ap (run_of listed setup) e

-- ---- what is printed

pub report-is : (s : Simulating) (c : Counts) (run : Run) (before : List ℕ) → IsAtEnd s run → c ≡ counts_of run
    → simulated_text (stop_of (end_by s.machines.core.stopped)) s.machines.core.pc c.retired c.cycles s.machines.core.registers (units_of s.machines.engine 0) before s.machines.core.memory
    ≡ simulated_report run before
unfolding simulated_report
report-is s c run before at counts =
    let retired : c.retired ≡ length run.retired = ap (λ k. k.retired) counts in
    let cycles : c.cycles ≡ length run.buses = ap (λ k. k.cycles) counts in
    λ i. simulated_text (stop_of ((sym at.end) i)) ((sym at.pc) i) (retired i) (cycles i) ((sym at.registers) i) ((sym at.units) i) before ((sym at.memory) i)

pub summary-is : (s : Simulating) (c : Counts) (run : Run) → IsAtEnd s run → c ≡ counts_of run
    → counts_text c.retired c.cuts c.cycles ++ end_text (stop_of (end_by s.machines.core.stopped)) s.machines.core.pc
    ++ values_line (register_in s.machines.core.registers 3) (register_in s.machines.core.registers 4) (accumulator_of (units_of s.machines.engine 0) 0 0)
    ≡ summary_of run
unfolding summary_of
summary-is s c run at counts =
    let retired : c.retired ≡ length run.retired = ap (λ k. k.retired) counts in
    let cuts : c.cuts ≡ length (filter_map (λ log. log.cut) run.logs) = ap (λ k. k.cuts) counts in
    let cycles : c.cycles ≡ length run.buses = ap (λ k. k.cycles) counts in
    λ i. counts_text (retired i) (cuts i) (cycles i) ++ end_text (stop_of ((sym at.end) i)) ((sym at.pc) i)
    ++ values_line (register_in ((sym at.registers) i) 3) (register_in ((sym at.registers) i) 4) (accumulator_of ((sym at.units) i) 0 0)

-- ---- the generated run

pub generated-is : (seed count : ℕ) (setup : Setup) (p : Never) → setup ≡ generated_setup seed count → summary_of (run_of never setup p) ≡ generated_summary seed count
unfolding generated_summary run_by
generated-is seed count setup p e = ap (λ s. summary_of (run_of never s p)) e

abbrev made : (units : List UnitTable) (script : Lists) (budget : ℕ) (memory : Region) → Setup
made units script budget memory = record {
  params = params;
  set = units;
  script = script;
  window = 8;
  budget = budget;
  memory = memory;
  entry = 0;
}

pub setup-is : (seed count : ℕ) (units : List UnitTable) (script : Lists) (budget : ℕ) (memory : Region)
    → units ≡ set → script ≡ script_of seed → budget ≡ budget_of count → memory ≡ memory_of seed count
    → made units script budget memory ≡ generated_setup seed count
setup-is seed count units script budget memory a b c d = λ i. made (a i) (b i) (c i) (d i)

pub generated-lawful : (seed count : ℕ) → count ≤ 20000 → IsLawful set → IsLawfulSetup (generated_setup seed count)
generated-lawful seed count h lawful = record {
  params = record {
    num_rs = (omega arith, omega arith);
    id_width = (omega arith, omega arith);
    rfr_width = inl refl;
    rfr_pairs = λ some. absurd (omega (arith, some));
    rfw_width = inl refl;
    rfw_pairs = λ e. cc;
    num_harts = (omega arith, omega arith);
    hartid_width = (omega arith, omega arith);
    hartids = omega arith;
    dual_read = omega arith;
    profile = (omega arith, omega arith);
  };
  set = lawful;
  script = script-lawful seed;
  window = (omega arith, omega arith);
  ids = omega arith;
  budget = (omega arith, omega (arith, h));
  entry = refl;
}
