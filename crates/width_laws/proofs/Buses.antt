-- The bus of a cycle fits its widths, and the cycle keeps it so.
use Rattle.std.proofs.Common.{◌≡◌, ◌<◌, ◌^◌, ◌⊎◌, inl, inr, ℕ, Bool, true, false, refl, sym, subst, arith}
use Rattle.std.proofs.lemmas.Nat.{pow_pos}
use Rattle.xif_base.specs.declared.params.Params.{Params}
use Rattle.xif_base.specs.Params.{IsInRange}
use Rattle.xif_signals.specs.Bus.{FitsWidths}
use Rattle.cycle_spec.specs.Core.{core_drive, drain_begun}
use Rattle.cycle_spec.specs.Cycle.{Machines, hart_if, cpu_at, cop_at, input_at, bus_at, core_bus_at, cycle}
use Rattle.width_laws.proofs.Operands.{FitsCore}
use Rattle.width_laws.proofs.Entries.{clock-fits, begun-fits}
use Rattle.width_laws.proofs.Presenting.{FitsCpu, drive-fits}
use Rattle.width_laws.proofs.Uses.{FitsCop, FitsEngine, cop-fits, engine-fits}

pub record FitsMachines (m : Machines) : Type 0 where
  pub range : IsInRange m.core.params
  pub same : m.core.params ≡ m.engine.params
  pub core : FitsCore m.core
  pub engine : FitsEngine m.engine

hart-fits : (n hart : ℕ) (valid : Bool) → hart < 2 ^ n → hart_if valid hart < 2 ^ n
hart-fits n hart true h = h
hart-fits n hart false h = pow_pos n

module _ (hart : ℕ) (m : Machines) (f : FitsMachines m) where
  cpu : FitsCpu m.core.params (core_drive m.core)
  cpu = drive-fits m.core f.range f.core

  cop : FitsCop m.core.params (cop_at m hart)
  cop = subst (λ p. FitsCop p (cop_at m hart)) (sym f.same) (cop-fits m.engine (cpu_at m hart) (subst IsInRange f.same f.range) f.engine)

  pub bus-fits : hart < 2 ^ m.core.params.hartid_width → FitsWidths m.core.params (bus_at m hart)
  bus-fits h =
      let n = m.core.params.hartid_width in
      record {
        issue_hartid = hart-fits n hart (core_drive m.core).issue_valid h;
        issue_id = cpu.issue_id;
        issue_instr = cpu.issue_instr;
        issue_writeback = cop.issue_writeback;
        issue_register_read = cop.issue_register_read;
        register_hartid = hart-fits n hart (core_drive m.core).register_valid h;
        register_id = cpu.register_id;
        register_rs0 = cpu.register_rs0;
        register_rs1 = cpu.register_rs1;
        register_rs2 = cpu.register_rs2;
        register_rs_valid = cpu.register_rs_valid;
        commit_hartid = hart-fits n hart (core_drive m.core).commit_valid h;
        commit_id = cpu.commit_id;
        result_hartid = cop.result_hartid;
        result_id = cop.result_id;
        result_data = cop.result_data;
        result_rd = cop.result_rd;
        result_we = cop.result_we;
      }

  -- a result has no more than 64 bits
  wide : (n width : ℕ) → (width ≡ 32) ⊎ (width ≡ 64) → n < 2 ^ width → n < 2 ^ 64
  wide n width (inl e) h = let k : n < 2 ^ 32 = subst (λ w. n < 2 ^ w) e h in omega (arith, k)
  wide n width (inr e) h = subst (λ w. n < 2 ^ w) e h

  next-core : (answer : ℕ → ℕ → ℕ) → FitsCore (cycle m hart answer).core
  unfolding cycle
  next-core answer = clock-fits answer m.core (core_bus_at m hart) (wide (cop_at m hart).result_data m.core.params.rfw_width f.range.rfw_width cop.result_data) f.core

  next-engine : (answer : ℕ → ℕ → ℕ) → hart < 2 ^ m.core.params.hartid_width → FitsEngine (cycle m hart answer).engine
  unfolding cycle
  next-engine answer h =
      engine-fits m.engine (cpu_at m hart) (cop_at m hart) (input_at m hart) (subst IsInRange f.same f.range)
      (subst (λ (p : Params). hart_if (core_drive m.core).issue_valid hart < 2 ^ p.hartid_width) f.same (hart-fits m.core.params.hartid_width hart (core_drive m.core).issue_valid h))
      (subst (λ (p : Params). (core_drive m.core).issue_id < 2 ^ p.id_width) f.same cpu.issue_id)
      f.engine

  same-after : (answer : ℕ → ℕ → ℕ) → (cycle m hart answer).core.params ≡ (cycle m hart answer).engine.params
  unfolding cycle
  same-after answer = f.same

  range-after : (answer : ℕ → ℕ → ℕ) → IsInRange (cycle m hart answer).core.params
  unfolding cycle
  range-after answer = f.range

  pub cycle-fits : (answer : ℕ → ℕ → ℕ) → hart < 2 ^ m.core.params.hartid_width → FitsMachines (cycle m hart answer)
  cycle-fits answer h = record {
    range = range-after answer;
    same = same-after answer;
    core = next-core answer;
    engine = next-engine answer h;
  }

pub params-after : (m : Machines) (hart : ℕ) (answer : ℕ → ℕ → ℕ) → (cycle m hart answer).core.params ≡ m.core.params
unfolding cycle
params-after m hart answer = refl

pub drain-fits : (m : Machines) → FitsMachines m → FitsMachines (record m { core = drain_begun m.core })
drain-fits m f = record { range = f.range; same = f.same; core = begun-fits m.core f.core; engine = f.engine }
