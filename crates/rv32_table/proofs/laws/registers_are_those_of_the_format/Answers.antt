use Rattle.rv32_table.proofs.Opcodes.{sources-of, target-of}
use Rattle.rv32_table.proofs.laws.registers_are_those_of_the_format.Goals as goal

pub returns : goal.returns
returns c = record { sources = sources-of; target = target-of }
