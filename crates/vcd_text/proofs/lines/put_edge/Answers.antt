use Rattle.std.proofs.Common.{◌++◌, sym, ap, ◌∙◌}
use Rattle.vcd_text.proofs.Pieces.{marked, edge_lines}
use Rattle.vcd_text.proofs.lines.put_edge.Goals as goal

pub returns-clause-ok : goal.returns-clause-ok
returns-clause-ok c =
    let line = c.digits_before-start.new.line in
    marked line c.digits_before-start.result 35 25 c.args.text.now.items _ _ (sym c.digits_before-start.ensures.length) c.digits_before-start.ensures.begin c.digits_before-start.ensures.inside c.digits_before-start.ensures.digits c.in_ok-extend_from_slice.ensures.items
    ∙ ap (λ t. c.args.text.now.items ++ t) (edge_lines c.args.tens c.args.digit c.args.clock c.requires.digit)
