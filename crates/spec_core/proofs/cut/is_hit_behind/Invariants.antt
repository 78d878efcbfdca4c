use Rattle.std.proofs.Common.{◌≡◌, drop}
use Rattle.std.specs.List.{list_any}
use Rattle.cycle_spec.specs.Choices.{is_hit}
use Rattle.spec_core.proofs.cut.is_hit_behind.Given as goal

abbrev pub invariant-loop-index : goal.invariant-loop-index
invariant-loop-index l =
    list_any (is_hit l.store) (drop 1 l.table.entries) ≡ list_any (is_hit l.store) (drop l.index l.table.entries)
