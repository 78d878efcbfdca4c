use Rattle.coproc_config.proofs.Columns.{accumulator-ignored, field-ignored}
use Rattle.coproc_config.proofs.laws.what_an_operation_does_not_name_does_not_count.Goals as goal

pub returns : goal.returns
returns c = record { accumulator = accumulator-ignored; field = field-ignored }
