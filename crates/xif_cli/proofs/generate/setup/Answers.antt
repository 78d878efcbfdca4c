use Rattle.std.proofs.Common.{sym, subst}
use Rattle.coproc_config.specs.Check.{IsLawful}
use Rattle.xif_sim.specs.Setup.{IsLawfulSetup}
use Rattle.xif_cli.proofs.Predicted.{setup-is, generated-lawful}
use Rattle.xif_cli.proofs.generate.setup.Goals as goal

pub returns-clause-setup : goal.returns-clause-setup
returns-clause-setup c = setup-is c.args.seed c.args.count c.in_ok-set.field-0 c.in_ok-script.field-0 c.budget.result c.in_ok-memory.field-0 c.in_ok-set.ensures.set c.in_ok-script.ensures.script c.budget.ensures c.in_ok-memory.ensures

pub returns-clause-lawful : goal.returns-clause-lawful
returns-clause-lawful c = subst IsLawfulSetup (sym (returns-clause-setup c)) (generated-lawful c.args.seed c.args.count c.requires (subst IsLawful c.in_ok-set.ensures.set c.in_ok-set.ensures.lawful))
