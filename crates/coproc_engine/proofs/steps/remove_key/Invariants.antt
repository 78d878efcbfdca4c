use Rattle.std.proofs.Common.{◌≡◌, ◌≤◌, ◌++◌, ◌-◌, not, filter, take, drop, vec_len, vec_capacity}
use Rattle.cycle_spec.specs.Engine.{has_key}
use Rattle.coproc_engine.proofs.steps.remove_key.Given as goal

abbrev pub invariant-loop-i : goal.invariant-loop-i
invariant-loop-i l = record {
  within : l.i ≤ vec_len l.uses;
  filtered : filter (λ other. not (has_key l.key other)) l.fn.uses.items ≡ take l.i l.uses.items ++ filter (λ other. not (has_key l.key other)) (drop l.i l.uses.items);
  capacity : vec_capacity l.uses ≡ vec_capacity l.fn.uses;
}

abbrev pub decreases-loop-i : goal.decreases-loop-i
decreases-loop-i l = vec_len l.uses - l.i
