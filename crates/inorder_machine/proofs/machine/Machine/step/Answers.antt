use Rattle.std.proofs.Common.{◌∙◌, sym}
use Rattle.inorder_machine.specs.Execute.{At}
use Rattle.inorder_machine.specs.Machine.{Extension, register_of}
use Rattle.inorder_machine.proofs.Places.{executed-state}
use Rattle.inorder_machine.proofs.machine.Machine.step.Goals as goal

pub returns-in-Some-decode-clause-state : goal.returns-in-Some-decode-clause-state
returns-in-Some-decode-clause-state c =
    let x : Extension = record { set = c.args.set.now; params = c.args.params.now } in
    let s = c.args.self.now in
    let i = c.in-Some-decode.instr in
    let at : At = record { pc = s.pc; word = c.in-Some.word } in
    c.execute.ensures.state
    ∙ executed-state x s at i (register_of s i.rs1) (register_of s i.rs2) c.execute.result (sym c.decode.ensures.instr ∙ c.in-Some-decode.is) c.execute.ensures.outcome
