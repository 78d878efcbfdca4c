use Rattle.std.proofs.Common.{◌≡◌, ◌<◌, ◌/◌, ◌^◌, ◌∙◌, sym, ap, bit_and, arith}
use Rattle.std.proofs.lemmas.Nat.{and_mask}
use Rattle.rv32_table.specs.Word.{bits}
use Rattle.rv32_table.specs.Fields.{row_of_fields}
use Rattle.rv32_table.proofs.Masks.{row_of-fields, and_opcode}
use Rattle.rv32_table.proofs.decoder.row.Goals as goal

pub returns : goal.returns
returns c =
    let w = c.args.word in
    let small : w < 2 ^ 32 = omega arith in
    let funct3 : bit_and (w / 4096) 7 ≡ bits w 14 12 = and_mask (w / 4096) 3 in
    let funct7 : w / 33554432 ≡ bits w 31 25 = omega arith in
    c.row_by_fields.ensures
    ∙ ap (λ o. row_of_fields o (bit_and (w / 4096) 7) (w / 33554432) w) (and_opcode w)
    ∙ ap (λ f. row_of_fields (bits w 6 0) f (w / 33554432) w) funct3
    ∙ ap (λ f. row_of_fields (bits w 6 0) (bits w 14 12) f w) funct7
    ∙ sym (row_of-fields w small)
