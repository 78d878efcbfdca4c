use Rattle.vcd_text.proofs.Fitting.{value_fits}
use Rattle.vcd_text.proofs.writer.put_value.Goals as goal

pub put_change-requires : goal.put_change-requires
put_change-requires c = value_fits c.args.params.now c.args.values.now c.args.signal _ _ c.requires.fits c.get.ensures c.width-width.ensures
