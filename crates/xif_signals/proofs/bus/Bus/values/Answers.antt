use Rattle.std.proofs.Common.{◌≡◌, Bool, true, false, [], ◌∷◌, refl}
use mir.Val.{bool_byte}
use Rattle.xif_signals.specs.Bus.{bit}
use Rattle.xif_signals.proofs.bus.Bus.values.Goals as goal

of_bool : (b : Bool) → bool_byte b ≡ bit b
of_bool true = refl
of_bool false = refl

pub returns : goal.returns
returns c =
    let b = c.args.self.now in
    λ i. 1 ∷ of_bool b.issue_valid i ∷ of_bool b.issue_ready i ∷ b.issue_hartid ∷ b.issue_id ∷ b.issue_instr
    ∷ of_bool b.issue_accept i ∷ b.issue_writeback ∷ b.issue_register_read ∷ of_bool b.register_valid i
    ∷ of_bool b.register_ready i ∷ b.register_hartid ∷ b.register_id ∷ b.register_rs0 ∷ b.register_rs1
    ∷ b.register_rs2 ∷ b.register_rs_valid ∷ of_bool b.commit_valid i ∷ b.commit_hartid ∷ b.commit_id
    ∷ of_bool b.commit_kill i ∷ of_bool b.result_valid i ∷ of_bool b.result_ready i ∷ b.result_hartid
    ∷ b.result_id ∷ b.result_data ∷ b.result_rd ∷ b.result_we ∷ []
