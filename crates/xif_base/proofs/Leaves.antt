-- What no call, and two calls in a row, leave of a shelf or an output.
use Rattle.std.proofs.Common.{ℕ, refl, arith, ◌∙◌}
use Rattle.xif_base.specs.Faults.{CountsFaults}

pub counts_none : {T : Type 0} {faults : T → ℕ} {faultless : T → Type 0} (x : T) →
    CountsFaults faults faultless x x
counts_none x = record {
  count = omega arith;
  stays_faultless = λ none. none;
  no_fault = λ none. refl;
}

pub counts_twice : {T : Type 0} {faults : T → ℕ} {faultless : T → Type 0} {old between new : T} →
    CountsFaults faults faultless old between → CountsFaults faults faultless between new →
    CountsFaults faults faultless old new
counts_twice first second = record {
  count = omega (arith, first.count, second.count);
  stays_faultless = λ none. second.stays_faultless (first.stays_faultless none);
  no_fault = λ none. second.no_fault (first.stays_faultless none) ∙ first.no_fault none;
}
