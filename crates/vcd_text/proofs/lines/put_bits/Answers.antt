use Rattle.std.proofs.Common.{◌++◌, ◌∷◌, [], sym, ap, ◌∙◌, append_assoc}
use Rattle.vcd_text.specs.Written.{numeral}
use Rattle.vcd_text.proofs.Pieces.{marked}
use Rattle.vcd_text.proofs.lines.put_bits.Goals as goal

pub returns-clause-ok : goal.returns-clause-ok
returns-clause-ok c =
    let line = c.numeral_before-start.new.line in
    marked line c.numeral_before-start.result 98 68 c.args.text.now.items _ _ (sym c.numeral_before-start.ensures.length) c.numeral_before-start.ensures.begin c.numeral_before-start.ensures.inside c.numeral_before-start.ensures.numeral c.in_ok-extend_from_slice.ensures.items
    ∙ ap (λ t. c.args.text.now.items ++ 98 ∷ t) (sym (append_assoc (numeral 2 c.args.value) (32 ∷ []) (c.args.code ∷ 10 ∷ [])))
