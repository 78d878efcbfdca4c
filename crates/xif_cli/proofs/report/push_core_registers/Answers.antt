use Rattle.std.proofs.Common.{◌≡◌, arith}
use Rattle.std.specs.String.{string_bytes}
use Rattle.xif_cli.proofs.Registers.{below-none, written-more, written-all}
use Rattle.xif_cli.proofs.report.push_core_registers.Goals as goal

pub loop-number-init : goal.loop-number-init
loop-number-init c = record {
  first = omega arith;
  lines = below-none c.args.registers.now (string_bytes c.args.text.now);
}

pub loop-number-preserved : goal.loop-number-preserved
loop-number-preserved c = record {
  first = omega arith;
  lines = written-more c.args.registers.now (string_bytes c.args.text.now) (string_bytes c.loop-number.text) (string_bytes c.push_register.new.text) c.loop-number.number c.get.result c.loop-number.invariant.first c.loop-number.invariant.lines c.in_ok-push_register.ensures c.get.ensures;
}

pub returns : goal.returns
returns c = written-all c.args.registers.now (string_bytes c.args.text.now) (string_bytes c.loop-number.text) c.loop-number.number (grind arith) c.loop-number.invariant.lines
