use Rattle.std.proofs.Common.{◌∙◌, sym}
use Rattle.issue_channel.proofs.Phases.{asks_I2}
use Rattle.issue_channel.proofs.issue_rules.keeps_i2.Goals as goal

pub returns-in-Starts : goal.returns-in-Starts
returns-in-Starts c params p e r =
    asks_I2 c.args.uses.now params p c.args.bus.now c.key.result c.in_flight.result (sym c.in-Starts.is ∙ e) r (c.requires c.in-Starts.is) c.key.ensures c.in_flight.ensures
