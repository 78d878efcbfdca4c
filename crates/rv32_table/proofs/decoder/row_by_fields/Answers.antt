use Rattle.std.proofs.Common.{◌∙◌, sym, ap}
use Rattle.rv32_table.specs.Fields.{row_of_fields}
use Rattle.rv32_table.proofs.decoder.row_by_fields.Goals as goal

pub returns-in-99 : goal.returns-in-99
returns-in-99 c =
    c.branch_row.ensures c.args.funct7 c.args.word
    ∙ ap (λ o. row_of_fields o c.args.funct3 c.args.funct7 c.args.word) (sym c.in-99.is)

pub returns-in-3 : goal.returns-in-3
returns-in-3 c =
    c.load_row.ensures c.args.funct7 c.args.word
    ∙ ap (λ o. row_of_fields o c.args.funct3 c.args.funct7 c.args.word) (sym c.in-3.is)

pub returns-in-35 : goal.returns-in-35
returns-in-35 c =
    c.store_row.ensures c.args.funct7 c.args.word
    ∙ ap (λ o. row_of_fields o c.args.funct3 c.args.funct7 c.args.word) (sym c.in-35.is)

pub returns-in-19 : goal.returns-in-19
returns-in-19 c =
    c.immediate_row.ensures c.args.word
    ∙ ap (λ o. row_of_fields o c.args.funct3 c.args.funct7 c.args.word) (sym c.in-19.is)

pub returns-in-51 : goal.returns-in-51
returns-in-51 c =
    c.register_row.ensures c.args.word
    ∙ ap (λ o. row_of_fields o c.args.funct3 c.args.funct7 c.args.word) (sym c.in-51.is)

pub returns-in-115 : goal.returns-in-115
returns-in-115 c =
    c.system_row.ensures c.args.funct3 c.args.funct7
    ∙ ap (λ o. row_of_fields o c.args.funct3 c.args.funct7 c.args.word) (sym c.in-115.is)
