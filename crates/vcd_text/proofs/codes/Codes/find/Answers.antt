use Rattle.std.proofs.Common.{map, sym, ap, ◌∙◌}
use Rattle.vcd_text.specs.Codes.{code_from}
use Rattle.vcd_text.specs.ShortCodes.{found_at}
use Rattle.vcd_text.proofs.CodeTable.{code_of}
use Rattle.vcd_text.proofs.ShortCodes.{found_short}
use Rattle.vcd_text.proofs.codes.Codes.find.Goals as goal

pub returns-in-Some : goal.returns-in-Some
returns-in-Some c =
    let place = c.in-Some.place in
    let inside = c.self.inside in
    c.find_place.ensures ∙ ap (λ ps. found_at ps place) c.deref.ensures.value
    ∙ found_short inside.places.items (map code_of inside.sizes.entries) c.args.text.now place c.self.invariant.1 c.place_of.ensures.bytes (sym c.place_of.ensures.place ∙ c.in-Some.is)
    ∙ ap (code_from 0 c.args.text.now) c.self.view_is
