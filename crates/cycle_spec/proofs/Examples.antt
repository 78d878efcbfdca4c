-- Runs, computed by the definitions alone: the whole way from the words in memory to what a report
-- or the trace shows.
use Rattle.std.proofs.Common.{◌≡◌, ◌&&◌, not, ℕ, Bool, true, false, List, [], ◌∷◌, ◌++◌, map, filter, length, drop, take, Some, refl}
use Rattle.std.specs.List.{enumerate_from, filter_map, flat_map}
use Rattle.std.specs.Option.{option_map}
use Rattle.std.specs.Int.{w32, to_le_bytes}
use Rattle.xif_base.specs.declared.params.Params.{Params}
use Rattle.xif_image.specs.Region.{word_at}
use Rattle.xif_drive.specs.Predictors.{following}
use Rattle.xif_drive.specs.Scripts.{Lists}
use Rattle.coproc_config.specs.declared.operation.Entry.{Entry}
use Rattle.coproc_config.specs.declared.operation.Op.{Op}
use Rattle.coproc_config.specs.declared.operation.Op.TheVariants.{AccAdd, AccReadLow, AccReadHigh, ExtractU, Insert, PairMul, PairSum}
use Rattle.coproc_config.specs.Set.{UnitTable}
use Rattle.coproc_config.specs.State.{accumulator_of}
use Rattle.inorder_machine.specs.declared.stop.StopCause.TheVariants.{Ecall}
use Rattle.xif_signals.specs.declared.bus.Bus.{Bus}
use Rattle.xif_signals.specs.declared.bus.CpuOut.{CpuOut}
use Rattle.xif_session.specs.Facts.{is_issued, is_given, is_taken}
use Rattle.cycle_spec.specs.declared.log.Cut.{Cut}
use Rattle.cycle_spec.specs.declared.log.End.{End}
use Rattle.cycle_spec.specs.declared.log.End.TheVariants.{Stopped, Budget}
use Rattle.cycle_spec.specs.State.{Engine, new_engine}
use Rattle.cycle_spec.specs.Core.{resumed}
use Rattle.cycle_spec.specs.Engine.{engine_drive, engine_clock, offered_use, units_of, units_ahead}
use Rattle.cycle_spec.specs.Cycle.{cycle}
use Rattle.cycle_spec.specs.Run.{Setup, Meaning, Progress, Run, run_of, run_after, start, cycles_until, is_stopped, is_empty, with_drain}

-- ---- jobs

abbrev params : Params
params = record {
  num_rs = 2;
  id_width = 3;
  rfr_width = 32;
  rfw_width = 32;
  num_harts = 1;
  hartid_width = 1;
  dual_read = 0;
  dual_write = false;
  split = true;
  profile = 1;
}

abbrev no_delays : Lists
no_delays = record {
  issue = 0 ∷ [];
  register = 0 ∷ [];
  operand = 0 ∷ [];
  result = 0 ∷ [];
  take = 0 ∷ [];
}

-- an entry by opcode and funct3
abbrev with : (matched : ℕ) → Op → (low len : ℕ) → Entry
with matched op low len = record {
  mask = 0x707f;
  matched = matched;
  op = op;
  acc = 0;
  low = low;
  len = len;
}

-- one unit with two accumulators
abbrev unit : UnitTable
unit = record {
  accumulators = 2;
  entries =
      with 0xb AccAdd 0 32
      ∷ with 0x100b ExtractU 4 8
      ∷ with 0x200b AccReadLow 0 32
      ∷ with 0x300b PairMul 0 32
      ∷ with 0x400b PairSum 0 32
      ∷ with 0x500b Insert 0 8
      ∷ with 0x600b AccReadHigh 0 32
      ∷ [];
}

-- words from address 0 on, and nothing behind them
abbrev job : (window budget : ℕ) → (words : List ℕ) → Setup
job window budget words = record {
  params = params;
  set = unit ∷ [];
  script = no_delays;
  window = window;
  budget = budget;
  memory = record { base = 0; bytes = flat_map (to_le_bytes w32) words };
  entry = 0;
}

-- the predictor that always answers the address behind; it has nothing to keep
abbrev never : Meaning ℕ
never = record {
  answer = λ predictor pc word. following pc;
  after = λ predictor pc word actual. predictor;
}

abbrev run : Setup → Run
run s = run_of never s 0

-- ---- what is shown of a run

-- the first line of its report: end, pc, how many retired, how many cycles
abbrev report : Run → End × ℕ × ℕ × ℕ
report r = (r.end, r.pc, length r.retired, length r.buses)

abbrev registers : (first count : ℕ) → Run → List ℕ
registers first count r = take count (drop first r.registers)

-- the cycles whose bus passes a test
abbrev cycles_where : (Bus → Bool) → Run → List ℕ
cycles_where test r =
    map (λ line. line.0) (filter (λ line. test line.1) (enumerate_from 0 r.buses))

abbrev is_kill : Bus → Bool
is_kill b = b.commit_valid && b.commit_kill

abbrev is_release : Bus → Bool
is_release b = b.commit_valid && not b.commit_kill

abbrev kill_ids : Run → List ℕ
kill_ids r = map (λ b. b.commit_id) (filter is_kill r.buses)

abbrev cuts : Run → List Cut
cuts r = filter_map (λ line. line.cut) r.logs

abbrev accumulator : Run → ℕ
accumulator r = accumulator_of r.units 0 0

-- ---- one instruction in flight

-- addi x1,x0,5; ecall
abbrev one_instruction : Run
one_instruction = run (job 1 10000 (0x00500093 ∷ 0x00000073 ∷ []))

one_instruction-report : report one_instruction ≡ (Stopped Ecall, 4, 1, 5)
unfolding cycle
one_instruction-report = refl

one_instruction-registers : registers 1 1 one_instruction ≡ 5 ∷ []
unfolding cycle
one_instruction-registers = refl

-- addi x1,x0,0x123; x5 = bits 4 to 11 of x1, by the unit; ecall
abbrev one_use : List ℕ
one_use = 0x12300093 ∷ 0x0000928b ∷ 0x00000073 ∷ []

one_use-report : report (run (job 1 10000 one_use)) ≡ (Stopped Ecall, 8, 2, 10)
unfolding cycle
one_use-report = refl

one_use-registers : registers 1 5 (run (job 1 10000 one_use)) ≡ 0x123 ∷ 0 ∷ 0 ∷ 0 ∷ 0x12 ∷ []
unfolding cycle
one_use-registers = refl

one_use-issued : cycles_where is_issued (run (job 1 10000 one_use)) ≡ 4 ∷ []
unfolding cycle
one_use-issued = refl

one_use-given : cycles_where is_given (run (job 1 10000 one_use)) ≡ 5 ∷ []
unfolding cycle
one_use-given = refl

one_use-released : cycles_where is_release (run (job 1 10000 one_use)) ≡ 5 ∷ []
unfolding cycle
one_use-released = refl

one_use-taken : cycles_where is_taken (run (job 1 10000 one_use)) ≡ 6 ∷ []
unfolding cycle
one_use-taken = refl

-- the budget ends before the release: the drain drops the use, and kills it
within_budget-report : report (run (job 1 5 one_use)) ≡ (Budget, 4, 1, 6)
unfolding cycle
within_budget-report = refl

within_budget-killed : cycles_where is_kill (run (job 1 5 one_use)) ≡ 5 ∷ []
unfolding cycle
within_budget-killed = refl

-- ---- speculation

-- addi x1,x0,3; x5 = accumulator; beq x5,x0,12; twice accumulator += x1; ecall. Both additions lie on
-- the wrong path of the branch, and the second one has its issue handshake in the cycle of the kill.
abbrev wrong_path : List ℕ
wrong_path =
    0x00300093 ∷ 0x0000128b ∷ 0x00028663 ∷ 0x0000800b ∷ 0x0000800b ∷ 0x00000073 ∷ []

wrong_path-report : report (run (job 8 10000 wrong_path)) ≡ (Stopped Ecall, 0x14, 3, 8)
unfolding cycle
wrong_path-report = refl

wrong_path-cut : cuts (run (job 8 10000 wrong_path)) ≡ record { keep = 2; target = 0x14 } ∷ []
unfolding cycle
wrong_path-cut = refl

wrong_path-killed : cycles_where is_kill (run (job 8 10000 wrong_path)) ≡ 5 ∷ []
unfolding cycle
wrong_path-killed = refl

wrong_path-kill_ids : kill_ids (run (job 8 10000 wrong_path)) ≡ 1 ∷ []
unfolding cycle
wrong_path-kill_ids = refl

wrong_path-accumulator : accumulator (run (job 8 10000 wrong_path)) ≡ 0
unfolding cycle
wrong_path-accumulator = refl

-- a drain, and then on from the next instruction to retire
abbrev before_drain : Progress ℕ
before_drain = cycles_until never is_stopped 4 (start (job 8 4 wrong_path) 0)

abbrev with_resume : Progress ℕ → Progress ℕ
with_resume p = record p {
  machines = record p.machines { core = resumed p.machines.core };
}

abbrev resumed_run : Run
resumed_run =
    run_after
    (cycles_until never is_stopped 20
    (with_resume (cycles_until never is_empty 20 (with_drain before_drain))))

resumed_run-end : resumed_run.end ≡ Stopped Ecall
unfolding cycle
resumed_run-end = refl

resumed_run-retired : map (λ line. line.pc) resumed_run.retired ≡ 0 ∷ 4 ∷ 8 ∷ []
unfolding cycle
resumed_run-retired = refl

-- lui x1,2; addi x1,x1,3; sh x1,13(x0); addi x6,x0,1; ecall. The store changes a byte of the word
-- behind it, which is in flight and is dispatched anew.
abbrev own_code : Run
own_code =
    run (job 8 10000 (0x000020b7 ∷ 0x00308093 ∷ 0x001016a3 ∷ 0x00100313 ∷ 0x00000073 ∷ []))

own_code-report : report own_code ≡ (Stopped Ecall, 0x10, 4, 9)
unfolding cycle
own_code-report = refl

own_code-cut : cuts own_code ≡ record { keep = 1; target = 0xc } ∷ []
unfolding cycle
own_code-cut = refl

own_code-word : word_at own_code.memory 0xc ≡ Some 0x00200313
unfolding cycle
own_code-word = refl

own_code-registers : registers 6 1 own_code ≡ 2 ∷ []
unfolding cycle
own_code-registers = refl

-- ---- without X_ISSUE_REGISTER_SPLIT

-- addi x1,x0,0x123; addi x2,x0,0x700; x3 = x2 with the low byte of x1, by the unit; ecall. The flag
-- of the second lane is held back for five cycles, and with it both handshakes.
abbrev unsplit : Run
unsplit =
    run (record (job 8 10000 (0x12300093 ∷ 0x70000113 ∷ 0x0020d18b ∷ 0x00000073 ∷ [])) {
      params = record params { split = false };
      script = record no_delays { operand = 5 ∷ [] };
    })

unsplit-report : report unsplit ≡ (Stopped Ecall, 0xc, 3, 13)
unfolding cycle
unsplit-report = refl

unsplit-registers : registers 1 3 unsplit ≡ 0x123 ∷ 0x700 ∷ 0x723 ∷ []
unfolding cycle
unsplit-registers = refl

unsplit-offered : cycles_where (λ b. b.issue_valid) unsplit ≡ 3 ∷ 4 ∷ 5 ∷ 6 ∷ 7 ∷ 8 ∷ []
unfolding cycle
unsplit-offered = refl

unsplit-flags
    : map (λ b. b.register_rs_valid) (filter (λ b. b.issue_valid) unsplit.buses)
    ≡ 1 ∷ 1 ∷ 1 ∷ 1 ∷ 1 ∷ 3 ∷ []
unfolding cycle
unsplit-flags = refl

unsplit-issued : cycles_where is_issued unsplit ≡ 8 ∷ []
unfolding cycle
unsplit-issued = refl

-- ---- the engine, with another core

abbrev no_signals : CpuOut
no_signals = record {
  issue_valid = false;
  issue_hartid = 0;
  issue_id = 0;
  issue_instr = 0;
  register_valid = false;
  register_hartid = 0;
  register_id = 0;
  register_rs0 = 0;
  register_rs1 = 0;
  register_rs2 = 0;
  register_rs_valid = 0;
  commit_valid = false;
  commit_hartid = 0;
  commit_id = 0;
  commit_kill = false;
}

abbrev offer : (id word : ℕ) → CpuOut
offer id word = record no_signals { issue_valid = true; issue_id = id; issue_instr = word }

abbrev give : (id value : ℕ) → CpuOut
give id value = record no_signals {
  register_valid = true;
  register_id = id;
  register_rs0 = value;
  register_rs_valid = 3;
}

abbrev commit : (kill : Bool) → (id : ℕ) → CpuOut
commit kill id = record no_signals { commit_valid = true; commit_id = id; commit_kill = kill }

-- after cycles in which no result is taken
abbrev driven_by : Engine → List CpuOut → Engine
driven_by e [] = e
driven_by e (cpu ∷ later) =
    driven_by (engine_clock e cpu (engine_drive e cpu) (record { result_ready = false })) later

abbrev engine : Engine
engine = new_engine params (unit ∷ []) no_delays

-- a kill that is repeated does nothing to a younger use, whose result is offered
abbrev repeated_kill : Engine
repeated_kill =
    driven_by engine
    (offer 0 0x200b ∷ commit true 0 ∷ offer 1 0x200b ∷ commit true 0 ∷ commit false 1 ∷ [])

repeated_kill-offered : option_map (λ u. u.key.id) (offered_use repeated_kill) ≡ Some 1
repeated_kill-offered = refl

-- the state ahead has the effect of a use with its operands before the release, and not after a kill
abbrev with_operands : List CpuOut
with_operands = offer 0 0x800b ∷ give 0 3 ∷ []

ahead-given : accumulator_of (units_ahead (driven_by engine with_operands) 0) 0 0 ≡ 3
ahead-given = refl

ahead-killed
    : accumulator_of (units_ahead (driven_by engine (with_operands ++ commit true 0 ∷ [])) 0) 0 0 ≡ 0
ahead-killed = refl

not_released : accumulator_of (units_of (driven_by engine with_operands) 0) 0 0 ≡ 0
not_released = refl
