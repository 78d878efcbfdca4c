use Rattle.std.proofs.Common.{◌≡◌, ◌+◌, ◌-◌}
use Rattle.std.specs.List.{list_any, range_with_len}
use Rattle.cycle_spec.specs.Choices.{is_hit, is_in_word}
use Rattle.spec_core.proofs.cut.is_hit.Given as goal

abbrev pub invariant-loop-k : goal.invariant-loop-k
invariant-loop-k l =
    is_hit l.store l.entry
    ≡ list_any (λ k. is_in_word l.entry.pc (l.store.addr + k)) (range_with_len l.k (l.store.width - l.k))
