-- The text of a list of buses reads back.
use Rattle.std.proofs.Common.{◌≡◌, ◌+◌, ◌^◌, ◌<◌, List, [], ◌∷◌, length, None, ap, subst, arith}
use Rattle.std.specs.List.{All, AllByRecursion}
use Rattle.std.proofs.lemmas.List.Elements.{All-head, All-tail}
use Rattle.xif_base.specs.declared.params.Params.{Params}
use Rattle.xif_base.specs.Params.{IsInRange}
use Rattle.xif_signals.specs.declared.bus.Bus.{Bus}
use Rattle.xif_signals.specs.declared.signal.Signal.{Signal}
use Rattle.xif_signals.specs.declared.signal.Signal.TheVariants.{Clk}
use Rattle.xif_signals.specs.Bus.{FitsWidths}
use Rattle.vcd_text.specs.Reading.{Read, read_whole, ends}
use Rattle.vcd_text.specs.Written.{wires_of, data_wires_of, header_text, cycles_text, vcd_text_of, written_variables, written_items}
use Rattle.vcd_text.specs.Writing.{ReadsBack}
use Rattle.vcd_text.proofs.Says.{Says, said, says-then, says-whole}
use Rattle.vcd_text.proofs.SaidLines.{in_body}
use Rattle.vcd_text.proofs.Table.{wires_are, wires_rise, wires_wide}
use Rattle.vcd_text.proofs.SaidHeader.{declaring, codes_of, Found, says-header, wires_found}
use Rattle.vcd_text.proofs.SaidBody.{AreFound, end_time, says-cycles}

all_found : (p : Params) → AreFound p (codes_of p (wires_of p))
all_found p =
    let found : Found (codes_of p (wires_of p)) p 0 (Clk ∷ data_wires_of p) = subst (λ (ss : List Signal). Found (codes_of p (wires_of p)) p 0 ss) (wires_are p) (wires_found p (wires_rise p)) in
    record { clock = found.0.place; others = found.1; wide = wires_wide p }

says-text : (p : Params) (buses : List Bus) → IsInRange p → AllByRecursion (FitsWidths p) buses → length buses < 2 ^ 60
    → Says 0 (declaring [] [] []) (vcd_text_of p buses) (in_body (codes_of p (wires_of p)) (written_variables p) (end_time 0 buses)) (written_items p buses)
says-text p buses r fits l =
    let cs = codes_of p (wires_of p) in
    let vs = written_variables p in
    says-then 0 (declaring [] [] []) (in_body cs vs 0) (in_body cs vs (end_time 0 buses)) (header_text p) (cycles_text p 0 None buses) [] (written_items p buses)
    (says-header p r (wires_rise p))
    (says-cycles p cs vs (all_found p) (0 + length (header_text p)) 0 0 None buses fits (omega arith) (omega arith))

reads_back : (p : Params) (buses : List Bus) → IsInRange p → AllByRecursion (FitsWidths p) buses → length buses < 2 ^ 60 → ReadsBack p buses
reads_back p buses r fits l =
    let s = in_body (codes_of p (wires_of p)) (written_variables p) (end_time 0 buses) in
    let text = vcd_text_of p buses in
    let e : read_whole text ≡ said s (written_items p buses) = says-whole (declaring [] [] []) s text (written_items p buses) (says-text p buses r fits l) in
    ap (λ (x : Read). ends x.items x.state (length text)) e

pub all_by : {X : Type 0} (P : X → Type 0) (xs : List X) → All P xs → AllByRecursion P xs
all_by P [] h = tt
all_by P (x ∷ xs) h = (All-head P x xs h, all_by P xs (All-tail P x xs h))

pub law : (p : Params) (buses : List Bus) → IsInRange p → All (FitsWidths p) buses → length buses < 2 ^ 60 → ReadsBack p buses
law p buses r fits l = reads_back p buses r (all_by (FitsWidths p) buses fits) l
