use Rattle.std.proofs.Common.{◌≡◌, ◌+◌, ◌++◌, ℕ, List, length, take, arith, sym, ap, ◌∙◌}
use Rattle.std.proofs.lemmas.Grind.{common_steps}
use Rattle.xif_base.specs.Files.{told, HasBytes, IsFileWithin}
use Rattle.xif_base.proofs.Fronts.{IsFront, IsFront-append, IsFront-end}
use Rattle.xif_base.proofs.pieces.read_pieces.Goals as goal

pub returns-in-Ok-eq0-clause-taken : goal.returns-in-Ok-eq0-clause-taken
returns-in-Ok-eq0-clause-taken g c =
    let before = c.pieces.invariant in
    let text = before.taken.0 in
    let size : length text ≡ c.pieces.at = before.taken.1.1.0 in
    let none : c.in-Ok-eq0.field-0 ≡ 0 = omega (arith, c.in-Ok-eq0.field-0-test) in
    let whole : IsFileWithin (g.S.Shelf.files c.args.shelf.now) c.args.name.now c.args.limit text = record {
      is_file = λ bytes has.
          let here : HasBytes (g.S.Shelf.files c.pieces.shelf) c.args.name.now bytes = ap (λ files. told files c.args.name.now) before.files ∙ has in
          IsFront-end text bytes c.fetch.new.buf c.pieces.at c.in-Ok-eq0.field-0 (sym size) (before.taken.1.1.1 bytes has) (c.in-Ok-eq0.ensures.bytes bytes here) none (grind arith);
      within = omega (arith, size, before.within);
    } in
    (text, (before.taken.1.0, whole))

pub pieces-preserved : goal.pieces-preserved
pieces-preserved g c =
    let before = c.pieces.invariant in
    let call = c.fetch.ensures in
    let text = before.taken.0 in
    let size : length text ≡ c.pieces.at = before.taken.1.1.0 in
    let piece : List ℕ = take c.in-Ok.count c.fetch.new.buf in
    let count : length piece ≡ c.in-Ok.count = grind (arith, common_steps) in
    let longer : length (text ++ piece) ≡ c.pieces.at + c.in-Ok.count = grind (arith, common_steps) in
    let taken = g.met.T.Intake.takes_both c.args.intake.now c.pieces.intake c.take.new.self text piece before.taken.1.0 c.in_ok-take-in-Ok.ensures.takes in
    let front : (bytes : List ℕ) → HasBytes (g.S.Shelf.files c.args.shelf.now) c.args.name.now bytes → IsFront (text ++ piece) bytes = λ bytes has.
    let here : HasBytes (g.S.Shelf.files c.pieces.shelf) c.args.name.now bytes = ap (λ files. told files c.args.name.now) before.files ∙ has in
    IsFront-append text bytes c.fetch.new.buf c.pieces.at c.in-Ok.count (sym size) (before.taken.1.1.1 bytes has) (c.in-Ok.ensures.bytes bytes here) c.in-Ok.ensures.bound.0 in
    record {
      taken = (text ++ piece, (taken, (longer, front)));
      within = omega arith;
      space = omega (arith, count, c.in_ok-take-in-Ok.ensures.room, before.space);
      room = omega arith;
      uncounted = c.in-Ok.ensures.uncounted ∙ before.uncounted;
      writes = call.only_reads.same_writes ∙ before.writes;
      files = call.only_reads.same_files ∙ before.files;
      faultless = λ none. call.only_reads.counts.stays_faultless (before.faultless none);
    }
