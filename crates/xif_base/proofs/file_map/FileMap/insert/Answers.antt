use Rattle.std.proofs.Common.{ap, ◌∙◌, string_bytes}
use Rattle.std.specs.FinMap as map
use Rattle.xif_base.specs.MemoryShelf.{files_of}
use Rattle.xif_base.proofs.StoredFiles.{files_of-updates}
use Rattle.xif_base.proofs.file_map.FileMap.insert.Goals as goal

pub returns-clause-ok : goal.returns-clause-ok
returns-clause-ok c =
    let old = c.self.inside.files in
    files_of-updates (string_bytes c.in_ok-key.key) old c.insert.new.self c.in_ok-value.value c.in_ok-insert.ensures.updates
    ∙ ap (λ name. map.insert (files_of old) name c.in_ok-value.value.items) c.in_ok-key.ensures.ok
    ∙ ap (map.insert (files_of old) c.args.name.now) c.in_ok-value.ensures.items
    ∙ ap (λ m. map.insert m c.args.name.now c.args.bytes.now) c.self.view_is
