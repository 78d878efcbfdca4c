use Rattle.inorder_machine.proofs.instruction.execute.Goals as goal

pub returns-in-Load-clause-line : goal.returns-in-Load-clause-line
returns-in-Load-clause-line c = (c.load.ensures c.args.b).line
