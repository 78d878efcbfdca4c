use Rattle.std.proofs.Common.{ap, ◌∙◌}
use Rattle.xif_image.specs.Image.{bytes_after}
use Rattle.xif_image.proofs.Rows.{whole}
use Rattle.xif_image.proofs.memory.Memory.place.Goals as goal

pub returns-clause-whole : goal.returns-clause-whole
returns-clause-whole c = λ bytes row long.
    ap (λ m. m.bytes) c.write.ensures
    ∙ ap (bytes_after c.args.self.now.base c.args.self.now.bytes) row
    ∙ whole c.args.self.now.base c.args.self.now.bytes bytes long
