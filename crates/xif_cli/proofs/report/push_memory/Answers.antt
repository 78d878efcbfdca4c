use Rattle.std.proofs.Common.{◌≡◌, ◌++◌, ◌+◌, ◌*◌, ℕ, List, ap, sym, ◌∙◌, append_assoc}
use Rattle.std.specs.List.{range_with_len, flat_map}
use Rattle.std.specs.String.{string_bytes}
use Rattle.xif_cli.specs.Report.{memory_word, memory_line}
use Rattle.xif_cli.proofs.MemoryLines.{flat_map-more}
use Rattle.xif_cli.proofs.report.push_memory.Goals as goal

pub loop-index-preserved : goal.loop-index-preserved
loop-index-preserved c =
    let line : ℕ → List ℕ = λ i. memory_line (c.args.memory.now.base + 4 * i) (memory_word c.args.before.now i) (memory_word c.bytes-after.result.now i) in
    let so_far = flat_map line (range_with_len 0 c.loop-index.index) in
    let pushed : string_bytes c.push_word.new.text ≡ string_bytes c.loop-index.text ++ line c.loop-index.index =
    c.in_ok-push_word.ensures
    ∙ ap (λ base. string_bytes c.loop-index.text ++ memory_line (base + 4 * c.loop-index.index) c.memory_word.result c.memory_word-in-loop-index.result) c.base.ensures
    ∙ ap (λ before. string_bytes c.loop-index.text ++ memory_line (c.args.memory.now.base + 4 * c.loop-index.index) before c.memory_word-in-loop-index.result) c.memory_word.ensures
    ∙ ap (λ after. string_bytes c.loop-index.text ++ memory_line (c.args.memory.now.base + 4 * c.loop-index.index) (memory_word c.args.before.now c.loop-index.index) after) c.memory_word-in-loop-index.ensures in
    pushed
    ∙ ap (λ text. text ++ line c.loop-index.index) c.loop-index.invariant
    ∙ append_assoc (string_bytes c.args.text.now) so_far (line c.loop-index.index)
    ∙ ap (λ lines. string_bytes c.args.text.now ++ lines) (sym (flat_map-more line c.loop-index.index))
