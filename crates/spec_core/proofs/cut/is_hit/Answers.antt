use Rattle.std.proofs.Common.{◌≡◌, ◌<◌, ◌+◌, true, false, sym, ap, ◌∙◌, arith}
use Rattle.cycle_spec.specs.Choices.{is_in_word}
use Rattle.spec_core.proofs.Ranges.{any_later, any_here}
use Rattle.spec_core.proofs.cut.is_hit.Goals as goal

pub returns-then-is_in_word : goal.returns-then-is_in_word
returns-then-is_in_word c =
    let pc = c.args.entry.now.pc in
    let addr = c.args.store.now.addr in
    let k = c.loop-k.k in
    let below : k < c.args.store.now.width = omega arith in
    let sum : addr + k ≡ c.from.result + c.from-in-loop-k.result = omega arith in
    let hit : is_in_word pc (addr + k) ≡ true = ap (λ n. is_in_word pc n) sum ∙ sym c.is_in_word.ensures ∙ c.if-is_in_word.true in
    sym (c.loop-k.invariant ∙ any_here (λ n. is_in_word pc (addr + n)) k c.args.store.now.width below hit)

pub loop-k-preserved : goal.loop-k-preserved
loop-k-preserved c =
    let pc = c.args.entry.now.pc in
    let addr = c.args.store.now.addr in
    let k = c.loop-k.k in
    let below : k < c.args.store.now.width = omega arith in
    let sum : addr + k ≡ c.from.result + c.from-in-loop-k.result = omega arith in
    let passed : is_in_word pc (addr + k) ≡ false = ap (λ n. is_in_word pc n) sum ∙ sym c.is_in_word.ensures ∙ c.if-is_in_word.false in
    c.loop-k.invariant ∙ any_later (λ n. is_in_word pc (addr + n)) k c.args.store.now.width below passed
