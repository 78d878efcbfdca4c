-- The run of a generated program ends where the in-order machine does.
use Rattle.std.proofs.Common.{◌≡◌, ◌≤◌, ◌+◌, ◌*◌, ◌/◌, ℕ, List, length, Some, None, refl, sym, ap, ◌∙◌, subst, inl, inr, arith}
use Rattle.std.proofs.lemmas.Bool.{cases_lt}
use Rattle.xif_base.specs.Params.{IsInRange}
use Rattle.xif_image.specs.Region.{Region}
use Rattle.inorder_machine.specs.declared.line.Stepped.TheVariants.{Stop}
use Rattle.inorder_machine.specs.declared.stop.StopCause.{StopCause}
use Rattle.inorder_machine.specs.declared.stop.StopCause.TheVariants.{Ecall}
use Rattle.inorder_machine.specs.Machine.{Extension, State, next_step}
use Rattle.inorder_machine.specs.After.{next_state, state_if_retired, after, retired_within}
use Rattle.inorder_machine.proofs.Retirements.{retired_within-full, retired_within-stopped}
use Rattle.cycle_spec.specs.declared.entry.Entry.{Entry}
use Rattle.cycle_spec.specs.declared.log.End.{End}
use Rattle.cycle_spec.specs.declared.log.End.TheVariants.{Stopped, Budget}
use Rattle.cycle_spec.specs.Run.{Setup, Meaning, Run, progress_of, run_of}
use Rattle.cycle_refines.specs.RefinesInOrder.{RefinesInOrder}
use Rattle.cycle_refines.proofs.Running.{run-refines}
use Rattle.pace_laws.specs.Lawful.{IsLawful, pace_of}
use Rattle.pace_laws.proofs.Whole.{by-budget, by-stop}
use Rattle.generator.specs.Generated.{params, set, script_of, budget_of, memory_of}
use Rattle.generator_laws.specs.Sums.{setup_of, IsRequest, EndsByEcall, Sums}
use Rattle.generator_laws.proofs.Steps.{extension}
use Rattle.generator_laws.proofs.Rounds.{Holds, start, last, comes-to-the-last, stops-at-the-last, holds, product-small}
use Rattle.generator_laws.proofs.Pace.{delays-small, budget-enough, cycles-few}

-- ---- a machine that stops

-- behind a stop nothing retires
within : (x : Extension) (n m : ℕ) (s t u : State) → after x n s ≡ Some t → next_state x t ≡ None → after x m s ≡ Some u → m ≤ n
within x n m s t u come stop other =
    elim (cases_lt n m) [
      | inl below ↦
          let full : retired_within x m s ≡ m = retired_within-full x m s u other in
          let early : retired_within x m s ≡ n = retired_within-stopped x m n s t come stop (omega arith) in
          absurd (omega arith)
      | inr over ↦ over
    ]

stop-ends : (x : Extension) (s : State) (cause : StopCause) → next_step x s ≡ Stop cause → next_state x s ≡ None
stop-ends x s cause e = ap (state_if_retired x s) e

-- ---- a run that refines it

-- the setup, with the program somewhere in memory
abbrev setup-in : Region → (seed count : ℕ) → Setup
setup-in m seed count = record {
  params = params;
  set = set;
  script = script_of seed;
  window = 8;
  budget = budget_of count;
  memory = m;
  entry = 0;
}

-- what the run leaves
record Leaves (seed count : ℕ) (m : Region) (run : Run) : Type 0 where
  pub end : run.end ≡ Stopped Ecall
  pub retired : length run.retired ≡ 3 * count + 6
  pub pc : run.pc ≡ (last seed count m).pc
  pub registers : run.registers ≡ (last seed count m).registers
  pub memory : run.memory ≡ (last seed count m).memory
  pub units : run.units ≡ (last seed count m).units

leaves : (seed count : ℕ) (m : Region) (in_flight : List Entry) (run : Run) → IsRequest seed count → Holds seed count m
    → RefinesInOrder (setup-in m seed count) in_flight run → (run.end ≡ Budget → 3 * count + 8 ≤ length run.retired) → Leaves seed count m run
leaves seed count m in_flight run q h r enough = by run.end refl
  where
    n : ℕ
    n = length run.retired

    come : after extension (3 * count + 6) (start m) ≡ Some (last seed count m)
    come = comes-to-the-last seed count m q.seed_is q.count_is q.some (product-small seed count q.seed_is q.count_is) h

    stop : next_step extension (last seed count m) ≡ Stop Ecall
    stop = stops-at-the-last seed count m h

    arrived : after extension n (start m) ≡ Some r.now
    arrived = r.arrived

    few : n ≤ 3 * count + 6
    few = within extension (3 * count + 6) n (start m) (last seed count m) r.now come (stop-ends extension (last seed count m) Ecall stop) arrived

    by : (e : End) → run.end ≡ e → Leaves seed count m run
    by Budget e =
        let more : 3 * count + 8 ≤ n = enough e in
        absurd (omega (arith, few))
    by (Stopped cause) e =
        let said = r.stop cause e in
        let here : next_step extension r.now ≡ Stop cause = said.0 in
        let many : 3 * count + 6 ≤ n = within extension n (3 * count + 6) (start m) r.now (last seed count m) arrived (stop-ends extension r.now cause here) come in
        let all : n ≡ 3 * count + 6 = omega (arith, few) in
        let there : Some r.now ≡ Some (last seed count m) = sym arrived ∙ ap (λ k. after extension k (start m)) all ∙ come in
        let same : r.now ≡ last seed count m = cc in
        let causes : Stop cause ≡ Stop Ecall = sym here ∙ ap (next_step extension) same ∙ stop in
        let is : cause ≡ Ecall = cc in
        record {
          end = e ∙ ap Stopped is;
          retired = all;
          pc = r.pc ∙ ap (λ s. s.pc) same;
          registers = r.registers ∙ ap (λ s. s.registers) same;
          memory = r.memory ∙ ap (λ s. s.memory) same;
          units = said.1 ∙ ap (λ s. s.units) same;
        }

-- ---- the run of a setup

in-range : IsInRange params
in-range = record {
  num_rs = (omega arith, omega arith);
  id_width = (omega arith, omega arith);
  rfr_width = inl refl;
  rfr_pairs = λ h. absurd (omega arith);
  rfw_width = inl refl;
  rfw_pairs = λ h. cc;
  num_harts = (omega arith, omega arith);
  hartid_width = (omega arith, omega arith);
  hartids = omega arith;
  dual_read = omega arith;
  profile = (omega arith, omega arith);
}

lawful : (m : Region) (seed count : ℕ) → IsLawful (setup-in m seed count)
lawful m seed count = record { window = omega arith; harts = omega arith }

run-leaves : (P : Type 0) (meaning : Meaning P) (seed count : ℕ) (m : Region) (predictor : P) → IsRequest seed count → Holds seed count m
    → Leaves seed count m (run_of meaning (setup-in m seed count) predictor)
run-leaves P meaning seed count m predictor q h =
    let s : Setup = setup-in m seed count in
    leaves seed count m (progress_of meaning s predictor).machines.core.flight (run_of meaning s predictor) q h (run-refines meaning s predictor in-range)
    (λ (e : (run_of meaning s predictor).end ≡ Budget).
    let pace : s.budget / pace_of s ≤ length (run_of meaning s predictor).retired = by-budget P meaning s predictor (lawful m seed count) e in
    let enough : 3 * count + 8 ≤ budget_of count / pace_of s = budget-enough count _ (delays-small seed) in
    omega arith)

run-cycles : (P : Type 0) (meaning : Meaning P) (seed count : ℕ) (m : Region) (predictor : P)
    → Leaves seed count m (run_of meaning (setup-in m seed count) predictor) → length (run_of meaning (setup-in m seed count) predictor).buses ≤ 64 * (3 * count + 7)
run-cycles P meaning seed count m predictor l =
    let s : Setup = setup-in m seed count in
    let run : Run = run_of meaning s predictor in
    let pace : length run.buses ≤ (length run.retired + 1) * pace_of s = by-stop P meaning s predictor Ecall (lawful m seed count) l.end in
    cycles-few count _ (length run.buses) (delays-small seed) (subst (λ k. length run.buses ≤ (k + 1) * pace_of s) l.retired pace)

-- ---- the laws

pub run-ends : (P : Type 0) (meaning : Meaning P) (seed count : ℕ) (predictor : P) → IsRequest seed count → EndsByEcall count (run_of meaning (setup_of seed count) predictor)
run-ends P meaning seed count predictor q =
    let l : Leaves seed count (memory_of seed count) (run_of meaning (setup_of seed count) predictor) =
    run-leaves P meaning seed count (memory_of seed count) predictor q (holds seed count)
    in
    record { end = l.end; pc = l.pc; retired = l.retired; cycles = run-cycles P meaning seed count (memory_of seed count) predictor l }

pub run-sums : (P : Type 0) (meaning : Meaning P) (seed count : ℕ) (predictor : P) → IsRequest seed count → Sums seed count (run_of meaning (setup_of seed count) predictor)
run-sums P meaning seed count predictor q =
    let l : Leaves seed count (memory_of seed count) (run_of meaning (setup_of seed count) predictor) =
    run-leaves P meaning seed count (memory_of seed count) predictor q (holds seed count)
    in
    record { units = l.units; registers = l.registers; memory = l.memory }
