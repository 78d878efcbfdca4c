-- A small session, computed by the definitions alone: two uses, of which one is released and applied
-- and the other one is killed. It meets what the laws ask for, so that they aren't empty.
use Rattle.std.proofs.Common.{◌≡◌, ℕ, true, false, Option, Some, None, List, [], ◌∷◌, refl, arith}
use Rattle.xif_base.specs.declared.params.Params.{Params}
use Rattle.xif_drive.specs.Scripts.{Lists}
use Rattle.coproc_config.specs.declared.operation.Op.TheVariants.{AccAdd}
use Rattle.coproc_config.specs.Set.{UnitTable}
use Rattle.xif_signals.specs.declared.bus.Bus.{Bus}
use Rattle.xif_signals.specs.declared.bus.CpuOut.{CpuOut}
use Rattle.xif_signals.specs.declared.bus.CpuIn.{CpuIn}
use Rattle.xif_signals.specs.Bus.{join_of}
use Rattle.cycle_spec.specs.Engine.{engine_drive, units_of}
use Rattle.engine_history.specs.Lives.{Life, lives_of}
use Rattle.engine_history.specs.Runs.{engine_of, IsDriven, IsOrderly}
use Rattle.engine_history.specs.Channels.{acceptances}
use Rattle.engine_history.specs.Told.{ready_cycle, units_told}

-- ---- a driven session

abbrev drive : Params → List UnitTable → Lists → List (CpuOut × CpuIn) → List Bus
drive params set script [] = []
drive params set script (x ∷ xs) =
    join_of x.0 (engine_drive (engine_of params set script (drive params set script xs)) x.0) x.1 ∷ drive params set script xs

drives : (params : Params) (set : List UnitTable) (script : Lists) (xs : List (CpuOut × CpuIn)) → IsDriven params set script (drive params set script xs)
drives params set script [] = tt
drives params set script (x ∷ xs) = (refl, drives params set script xs)

-- ---- the example

abbrev params : Params
params = record {
  num_rs = 2;
  id_width = 3;
  rfr_width = 32;
  rfw_width = 32;
  num_harts = 1;
  hartid_width = 1;
  dual_read = 0;
  dual_write = false;
  split = true;
  profile = 1;
}

abbrev script : Lists
script = record {
  issue = 0 ∷ [];
  register = 0 ∷ [];
  operand = 0 ∷ [];
  result = 0 ∷ [];
  take = 0 ∷ [];
}

-- an accumulator, to which a word of the opcode 0xb adds a register
abbrev unit : UnitTable
unit = record {
  accumulators = 1;
  entries = record { mask = 0x7f; matched = 0xb; op = AccAdd; acc = 0; low = 0; len = 32 } ∷ [];
}

abbrev idle : CpuOut
idle = record {
  issue_valid = false;
  issue_hartid = 0;
  issue_id = 0;
  issue_instr = 0;
  register_valid = false;
  register_hartid = 0;
  register_id = 0;
  register_rs0 = 0;
  register_rs1 = 0;
  register_rs2 = 0;
  register_rs_valid = 0;
  commit_valid = false;
  commit_hartid = 0;
  commit_id = 0;
  commit_kill = false;
}

abbrev taking : CpuOut → CpuOut × CpuIn
taking cpu = (cpu, record { result_ready = true })

-- the newest first: two offers, the registers of both, a release of the first and a kill of the second
abbrev outside : List (CpuOut × CpuIn)
outside =
    taking idle
    ∷ taking (record idle { commit_valid = true; commit_id = 1; commit_kill = true })
    ∷ taking (record idle { register_valid = true; register_id = 1; register_rs0 = 7; register_rs_valid = 3; commit_valid = true })
    ∷ taking (record idle { issue_valid = true; issue_id = 1; issue_instr = 0xb; register_valid = true; register_rs0 = 5; register_rs_valid = 3 })
    ∷ taking (record idle { issue_valid = true; issue_instr = 0xb })
    ∷ []

abbrev session : List Bus
session = drive params (unit ∷ []) script outside

driven : IsDriven params (unit ∷ []) script session
driven = drives params (unit ∷ []) script outside

both_accepted : acceptances session ≡ 2
both_accepted = refl

-- the first is ready with its release, in cycle 2; the second never
ready_cycles : List Life → List (Option ℕ)
ready_cycles [] = []
ready_cycles (l ∷ ls) = ready_cycle l ls ∷ ready_cycles ls

when_ready : ready_cycles (lives_of session) ≡ None ∷ Some 2 ∷ []
unfolding ready_cycles
when_ready = refl

-- what the second would have added isn't there
added : units_told params (unit ∷ []) 0 (lives_of session) ≡ (5 ∷ []) ∷ []
added = refl

kept : units_of (engine_of params (unit ∷ []) script session) 0 ≡ (5 ∷ []) ∷ []
kept = refl

-- it is orderly
not_valid : {A : Type 0} → false ≡ true → A
not_valid h = absurd (cc)

orderly : IsOrderly params session
orderly = record {
  harts = (λ h. not_valid h, (λ h. not_valid h, (λ h. not_valid h, (λ h. omega arith, (λ h. omega arith, tt)))));
  keys = (λ h. not_valid h, (λ h. not_valid h, (λ h. not_valid h, (λ h. refl, (λ h. refl, tt)))));
  registers = (λ h. not_valid h, (λ h. not_valid h, (λ h. refl, (λ h. refl, (λ h. not_valid h, tt)))));
}
