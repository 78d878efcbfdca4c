use Rattle.std.proofs.Common.{◌≡◌, ◌++◌, length, ap, ◌∙◌, rules}
use Rattle.std.specs.Vec.{vec_len}
use Rattle.std.specs.List.{flat_map}
use Rattle.std.specs.Int.{w32, to_le_bytes}
use Rattle.generator.proofs.Padded.{padded-is}
use Rattle.generator.proofs.program.memory_bytes.Goals as goal

pub returns : goal.returns
returns c =
    let len : vec_len c.push_words.new.bytes ≡ length c.push_words.new.bytes.items = search rules in
    c.in_ok-resize.ensures.items ∙ padded-is c.args.seed c.args.count c.push_words.new.bytes.items (vec_len c.push_words.new.bytes) len (c.in_ok-push_words.ensures ∙ ap (λ xs. xs ++ flat_map (to_le_bytes w32) c.words.result) c.in_ok-bytes.ensures.items ∙ ap (flat_map (to_le_bytes w32)) c.words.ensures)
