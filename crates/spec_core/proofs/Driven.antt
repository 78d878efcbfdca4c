-- What the core drives fits its signals.
use Rattle.std.proofs.Common.{◌<◌, ◌^◌, Option, Some, None, IfSome}
use Rattle.std.specs.Option.{option_or}
use Rattle.std.proofs.lemmas.Nat.{pow_pos}
use Rattle.xif_base.specs.declared.params.Params.{Params}
use Rattle.xif_signals.specs.declared.signal.Signal.TheVariants.{RegisterRs0, RegisterRs1, RegisterRs2, RegisterRsValid}
use Rattle.xif_signals.specs.Signal.{width_of}
use Rattle.cycle_spec.specs.declared.choices.Choices.{Choices}
use Rattle.cycle_spec.specs.declared.choices.Presented.{Presented}
use Rattle.cycle_spec.specs.declared.entry.Entry.{Entry}
use Rattle.cycle_spec.specs.Core.{cpu_out, id_in, word_in, presented_id, presented_lane, presented_flags}
use Rattle.spec_core.specs.Drives.{FitsCpuOut, FitsPresent, FitsPresented, AreNamed, HasId}

id-fits : (p : Params) (o : Option Entry) → IfSome o (HasId p) → id_in o < 2 ^ p.id_width
id-fits p None h = pow_pos p.id_width
id-fits p (Some e) h = h

presented-fits : (p : Params) (o : Option Presented) → IfSome o (λ x. HasId p x.entry) → presented_id o < 2 ^ p.id_width
presented-fits p None h = pow_pos p.id_width
presented-fits p (Some x) h = h

record Carries (p : Params) (o : Option Presented) : Type 0 where
  rs0 : presented_lane 0 o < 2 ^ width_of RegisterRs0 p
  rs1 : presented_lane 1 o < 2 ^ width_of RegisterRs1 p
  rs2 : presented_lane 2 o < 2 ^ width_of RegisterRs2 p
  rs_valid : presented_flags o < 2 ^ width_of RegisterRsValid p

carries : (p : Params) (o : Option Presented) → IfSome o (FitsPresented p) → Carries p o
carries p None h = record {
  rs0 = pow_pos (width_of RegisterRs0 p);
  rs1 = pow_pos (width_of RegisterRs1 p);
  rs2 = pow_pos (width_of RegisterRs2 p);
  rs_valid = pow_pos (width_of RegisterRsValid p);
}
carries p (Some x) h = record { rs0 = h.rs0; rs1 = h.rs1; rs2 = h.rs2; rs_valid = h.rs_valid }

pub cpu_out_fits : (p : Params) (ch : Choices) → FitsPresent p ch → AreNamed (HasId p) ch → word_in ch.offer < 2 ^ 32 → FitsCpuOut p (cpu_out ch)
cpu_out_fits p ch f n word =
    let lanes : Carries p ch.present = carries p ch.present f in
    record {
      issue_hartid = pow_pos p.hartid_width;
      issue_id = id-fits p ch.offer n.offer;
      issue_instr = word;
      register_hartid = pow_pos p.hartid_width;
      register_id = presented-fits p ch.present n.present;
      register_rs0 = lanes.rs0;
      register_rs1 = lanes.rs1;
      register_rs2 = lanes.rs2;
      register_rs_valid = lanes.rs_valid;
      commit_hartid = pow_pos p.hartid_width;
      commit_id = id-fits p (option_or ch.kill ch.release) n.commit;
    }
