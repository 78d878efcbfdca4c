use Rattle.std.proofs.Common.{◌++◌, ap, ◌∙◌}
use Rattle.vcd_text.proofs.Pieces.{five}
use Rattle.vcd_text.proofs.Fitting.{all_wires}
use Rattle.std.specs.Prelude.{codes}
use Rattle.std.specs.List.{flat_map}
use Rattle.vcd_text.specs.Written.{var_line, wires_of}
use Rattle.vcd_text.proofs.writer.put_header.Goals as goal

pub returns : goal.returns
returns c =
    let lines = flat_map (var_line c.args.params.now) in
    five c.args.text.now.items _ _ _ _ _ (codes "$timescale 1 ns $end\n") (codes "$scope module xif $end\n") (lines (wires_of c.args.params.now)) (codes "$upscope $end\n") (codes "$enddefinitions $end\n")
    c.in_ok-extend_from_slice.ensures.items c.in_ok-extend_from_slice-2.ensures.items
    (c.in_ok-put_variables.ensures ∙ ap (λ ss. c.extend_from_slice-2.new.self.items ++ lines ss) (all_wires c.args.params.now _ c.all.ensures))
    c.in_ok-extend_from_slice-3.ensures.items c.in_ok-extend_from_slice-4.ensures.items
