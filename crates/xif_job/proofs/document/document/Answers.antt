use Rattle.std.proofs.Common.{inr, refl, sym, ◌∙◌, ap}
use Rattle.toml.specs.Parse.{parse_document}
use Rattle.xif_job.proofs.Known.{no_text, is_text}
use Rattle.xif_job.proofs.document.document.Goals as goal

pub returns-in_default-clause-err : goal.returns-in_default-clause-err
returns-in_default-clause-err c = inr (refl, no_text c.args.bytes.now c.in_default.ensures.cases.0)

pub returns-in-Ok-table_from_str-clause-ok : goal.returns-in-Ok-table_from_str-clause-ok
returns-in-Ok-table_from_str-clause-ok c =
    is_text c.args.bytes.now c.in-Ok.ensures.cases.1 ∙ ap parse_document (sym c.in-Ok.ensures.cases.0) ∙ c.in-Ok-table_from_str.ensures.ok
