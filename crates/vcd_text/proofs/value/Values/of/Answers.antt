use Rattle.std.proofs.Common.{◌≡◌, Bool, true, false, [], ◌∷◌, refl}
use mir.Val.{bool_byte}
use Rattle.xif_signals.specs.Bus.{bit}
use Rattle.xif_signals.specs.Quad.{known_quad}
use Rattle.vcd_text.proofs.value.Values.of.Goals as goal

of_bool : (b : Bool) → bool_byte b ≡ bit b
of_bool true = refl
of_bool false = refl

pub returns : goal.returns
returns c =
    let b = c.args.bus.now in
    let n = known_quad in
    λ i. n 1 ∷ n (of_bool b.issue_valid i) ∷ n (of_bool b.issue_ready i) ∷ n b.issue_hartid ∷ n b.issue_id ∷ n b.issue_instr
    ∷ n (of_bool b.issue_accept i) ∷ n b.issue_writeback ∷ n b.issue_register_read ∷ n (of_bool b.register_valid i)
    ∷ n (of_bool b.register_ready i) ∷ n b.register_hartid ∷ n b.register_id ∷ n b.register_rs0 ∷ n b.register_rs1
    ∷ n b.register_rs2 ∷ n b.register_rs_valid ∷ n (of_bool b.commit_valid i) ∷ n b.commit_hartid ∷ n b.commit_id
    ∷ n (of_bool b.commit_kill i) ∷ n (of_bool b.result_valid i) ∷ n (of_bool b.result_ready i) ∷ n b.result_hartid
    ∷ n b.result_id ∷ n b.result_data ∷ n b.result_rd ∷ n b.result_we ∷ []
