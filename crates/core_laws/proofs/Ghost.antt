-- What a coprocessor has seen, kept as the uses of an engine: each step of the engine on its uses,
-- with the answers of any coprocessor. A use has its result as soon as it may give it.
use Rattle.std.proofs.Common.{◌≡◌, ◌+◌, ◌&&◌, Bool, true, false, if◌then◌else◌, Option, Some, None, List, [], ◌∷◌, map, refl}
use Rattle.std.specs.Prelude.{is_some}
use Rattle.xif_base.specs.declared.params.Key.{Key}
use Rattle.coproc_config.specs.declared.accept.Hit.{Hit}
use Rattle.xif_signals.specs.declared.bus.CpuOut.{CpuOut}
use Rattle.xif_signals.specs.declared.bus.CopOut.{CopOut}
use Rattle.xif_signals.specs.declared.bus.CpuIn.{CpuIn}
use Rattle.cycle_spec.specs.declared.use_of.Use.{Use}
use Rattle.cycle_spec.specs.Turns.{transactions_after}
use Rattle.cycle_spec.specs.State.{Engine}
use Rattle.cycle_spec.specs.Engine.{is_accepted, is_complete, has_operands, latest, started_uses, issue_start, answer_step, given_step, decide_step, ended, owner_if, writeback_of}
use Rattle.xif_session.specs.Facts.{is_released}
use Rattle.cycle_lists.proofs.Tests.{and-left, and-right}
use Rattle.cycle_paired.proofs.Applying.{Readied, AllReadied}

-- the issue response
abbrev pub hit_with : CopOut → Option Hit
hit_with cop =
    if cop.issue_accept
    then Some (record {
      unit = 0;
      entry = 0;
      register_read = record { 0 = cop.issue_register_read };
      writeback = record { 0 = cop.issue_writeback };
    })
    else None

abbrev pub may_be_ready : Use → Bool
may_be_ready u = is_accepted u && is_complete u

abbrev pub readied : Use → Use
readied u = record u { ready = if may_be_ready u then Some 0 else u.ready }

-- the uses behind each step
abbrev pub answered_with : Engine → CpuOut → CopOut → List Use
answered_with g cpu cop =
    answer_step (issue_start g cpu) (hit_with cop) 0 cpu cop (started_uses g cpu)

abbrev pub given_with : Engine → CpuOut → CopOut → List Use
given_with g cpu cop = given_step cpu cop (answered_with g cpu cop)

abbrev pub decided_with : Engine → CpuOut → CopOut → List Use
decided_with g cpu cop = decide_step cpu (given_with g cpu cop)

abbrev pub readied_with : Engine → CpuOut → CopOut → List Use
readied_with g cpu cop = map readied (decided_with g cpu cop)

-- the key on the result channel
abbrev pub result_key : CopOut → Key
result_key cop = record { hart = cop.result_hartid; id = cop.result_id }

abbrev pub ended_with : Engine → CpuOut → CopOut → CpuIn → List Use
ended_with g cpu cop input =
    if cop.result_valid && input.result_ready
    then ended (latest (result_key cop) (readied_with g cpu cop)) (readied_with g cpu cop)
    else readied_with g cpu cop

abbrev pub told_after : Engine → CpuOut → CopOut → CpuIn → Engine
told_after g cpu cop input = record g {
  cycle = g.cycle + 1;
  uses = ended_with g cpu cop input;
  issue_turns =
      transactions_after g.issue_turns (owner_if cpu.issue_valid (issue_start g cpu))
      cop.issue_ready;
  result_waiting = None;
}

-- the use whose result is on the channel
pub record Ends (cop : CopOut) (us : List Use) : Type 0 where
  pub one : Use
  pub is_latest : latest (result_key cop) us ≡ Some one
  pub key_is : one.key ≡ result_key cop
  pub ready : is_some one.ready ≡ true
  pub unfinished : one.finished ≡ false
  pub writes : cop.result_we ≡ writeback_of one.hit

-- ---- those that are ready

readied-one : (u : Use) → Readied u (readied u)
readied-one u = go (may_be_ready u) refl
  where
    go : (b : Bool) → may_be_ready u ≡ b → Readied u (record u { ready = if b then Some 0 else u.ready })
    go false q = record { same = refl; kept = λ h. h; ready = λ k h. k h }
    go true q = record {
      same = refl;
      kept = λ h. refl;
      ready = λ k h. record {
        accepted = and-left (is_accepted u) (is_complete u) q;
        released = and-left (is_released u.decision) (has_operands u) (and-right (is_accepted u) (is_complete u) q);
        operands = and-right (is_released u.decision) (has_operands u) (and-right (is_accepted u) (is_complete u) q);
      };
    }

pub all-readied : (us : List Use) → AllReadied us (map readied us)
all-readied [] = tt
all-readied (u ∷ us) = (readied-one u, all-readied us)
