use Rattle.std.proofs.Common.{◌++◌}
use Rattle.std.proofs.lemmas.Result.{IfErr-weaker}
use Rattle.xif_targets.proofs.Growing.{growing-part, growing-more}
use Rattle.xif_targets.proofs.buffered.append_text.Goals as goal

pub returns-then-is_err-clause-front : goal.returns-then-is_err-clause-front
returns-then-is_err-clause-front g c = λ before bytes growing. growing-part before (g.S.Shelf.files c.args.shelf.now) c.args.name.now c.args.buffer.now.items bytes c.args.piece.now growing

pub returns-clause-counted : goal.returns-clause-counted
returns-clause-counted g c = IfErr-weaker c.send_full.result _ _ (λ fail counted before bytes growing.
    counted before (bytes ++ c.args.piece.now) (growing-more before (g.S.Shelf.files c.args.shelf.now) c.args.name.now c.args.buffer.now.items c.extend_from_slice.new.self.items c.args.piece.now bytes c.extend_from_slice.result c.extend_from_slice.ensures.items c.if-is_err.ensures.value growing)) c.send_full.ensures.counted
