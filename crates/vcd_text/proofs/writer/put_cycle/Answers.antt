use Rattle.std.proofs.Common.{◌++◌, ◌+◌, ◌*◌, ap, ◌∙◌}
use Rattle.std.proofs.lemmas.Result.{on_ok_weaker}
use Rattle.std.specs.Prelude.{option_copied}
use Rattle.std.specs.List.{flat_map}
use Rattle.vcd_text.specs.Written.{time_line, clock_line, changed_line, data_wires_of}
use Rattle.vcd_text.proofs.Pieces.{three, edge_at}
use Rattle.vcd_text.proofs.Fitting.{all_data_wires}
use Rattle.vcd_text.proofs.writer.put_cycle.Goals as goal

pub returns-clause-ok : goal.returns-clause-ok
returns-clause-ok c =
    let lines = flat_map (changed_line c.args.params.now (option_copied c.args.last) c.args.values.now) in
    on_ok_weaker c.put_edge-2.result (λ last.
    three c.args.text.now.items _ _ _ (time_line (10 * c.args.cycle)) (clock_line 0) (lines (data_wires_of c.args.params.now)) (time_line (10 * c.args.cycle + 5)) (clock_line 1)
    (edge_at _ _ (10 * c.args.cycle) 0 c.in_ok-put_edge.ensures.ok)
    (c.in_ok-put_changes.ensures.ok ∙ ap (λ ss. c.put_edge.new.text.items ++ lines ss) (all_data_wires c.args.params.now _ c.all.ensures))
    last) c.put_edge-2.ensures.ok
