-- A run of the engine, by the buses of its session, the newest first.
use Rattle.std.specs.Prelude.{◌≡◌, List, [], ◌∷◌}
use Rattle.xif_base.specs.declared.params.Params.{Params}
use Rattle.coproc_config.specs.Set.{UnitTable}
use Rattle.xif_drive.specs.Scripts.{Lists}
use Rattle.xif_signals.specs.declared.bus.Bus.{Bus}
use Rattle.xif_signals.specs.declared.bus.CpuOut.{CpuOut}
use Rattle.xif_signals.specs.declared.bus.CopOut.{CopOut}
use Rattle.xif_signals.specs.declared.bus.CpuIn.{CpuIn}
use Rattle.xif_signals.specs.declared.rule.Channel.TheVariants.{Issue}
use Rattle.xif_session.specs.Rules.{HasHart, HoldsI2, HoldsG2}
use Rattle.xif_session.specs.Legal.{EachCycle}
use Rattle.cycle_spec.specs.State.{Engine, new_engine}
use Rattle.cycle_spec.specs.Engine.{engine_drive, engine_clock}

-- ---- the parts of a bus, by who drives them

abbrev pub cpu_of : Bus → CpuOut
cpu_of b = record {
  issue_valid = b.issue_valid;
  issue_hartid = b.issue_hartid;
  issue_id = b.issue_id;
  issue_instr = b.issue_instr;
  register_valid = b.register_valid;
  register_hartid = b.register_hartid;
  register_id = b.register_id;
  register_rs0 = b.register_rs0;
  register_rs1 = b.register_rs1;
  register_rs2 = b.register_rs2;
  register_rs_valid = b.register_rs_valid;
  commit_valid = b.commit_valid;
  commit_hartid = b.commit_hartid;
  commit_id = b.commit_id;
  commit_kill = b.commit_kill;
}

abbrev pub cop_of : Bus → CopOut
cop_of b = record {
  issue_ready = b.issue_ready;
  issue_accept = b.issue_accept;
  issue_writeback = b.issue_writeback;
  issue_register_read = b.issue_register_read;
  register_ready = b.register_ready;
  result_valid = b.result_valid;
  result_hartid = b.result_hartid;
  result_id = b.result_id;
  result_data = b.result_data;
  result_rd = b.result_rd;
  result_we = b.result_we;
}

abbrev pub input_of : Bus → CpuIn
input_of b = record { result_ready = b.result_ready }

-- ---- the engine after a session

abbrev pub engine_of : Params → List UnitTable → Lists → List Bus → Engine
engine_of params set script [] = new_engine params set script
engine_of params set script (b ∷ session) =
    engine_clock (engine_of params set script session) (cpu_of b) (cop_of b) (input_of b)

-- each bus has the signals that the engine drives in its cycle
abbrev pub IsDriven : Params → List UnitTable → Lists → List Bus → Type 0
IsDriven params set script [] = Unit {0}
IsDriven params set script (b ∷ session) =
    (cop_of b ≡ engine_drive (engine_of params set script session) (cpu_of b))
    × IsDriven params set script session

-- an engine is that of a session, which it drove
pub record HasRun (params : Params) (set : List UnitTable) (script : Lists) (session : List Bus)
    (e : Engine) : Type 0 where
  pub engine_is : e ≡ engine_of params set script session
  pub driven : IsDriven params set script session

-- What the core owes: each use is of a hart that there is, no key is used again while a use of it
-- is in flight, and no use gets its registers twice.
pub record IsOrderly (params : Params) (session : List Bus) : Type 0 where
  pub harts : EachCycle (λ p b. HasHart params b Issue) session
  pub keys : EachCycle (HoldsI2 params) session
  pub registers : EachCycle HoldsG2 session
