-- A run has no more cycles than its budget and the drain behind it.
use Rattle.std.proofs.Common.{◌≤◌, ◌+◌, ◌||◌, ℕ, zero, suc, Bool, true, false, length, arith}
use Rattle.std.proofs.lemmas.List.{length-reverse}
use Rattle.cycle_spec.specs.State.{Core}
use Rattle.cycle_spec.specs.Run.{Setup, Meaning, Progress, start, next, unless, cycles_until, is_stopped, is_empty, drain_limit, with_drain, drained, progress_of, run_of}

until-few : {P : Type 0} (meaning : Meaning P) (test : Core → Bool) (n : ℕ) (q : Progress P) → length (cycles_until meaning test n q).buses ≤ n + length q.buses
until-few meaning test zero q = omega arith
until-few meaning test (suc n) q = go (test q.machines.core) (until-few meaning test n (next meaning q))
  where
    go : (t : Bool) → length (cycles_until meaning test n (next meaning q)).buses ≤ n + suc (length q.buses) → length (unless t q (λ r. cycles_until meaning test n (next meaning r))).buses ≤ suc n + length q.buses
    go true h = omega arith
    go false h = omega (arith, h)

drained-few : {P : Type 0} (meaning : Meaning P) (limit : ℕ) (q : Progress P) → length (drained meaning limit q).buses ≤ limit + length q.buses
drained-few meaning limit q = go (is_stopped q.machines.core || is_empty q.machines.core)
  where
    go : (t : Bool) → length (unless t q (λ r. cycles_until meaning is_empty limit (with_drain r))).buses ≤ limit + length q.buses
    go true = omega arith
    go false = until-few meaning is_empty limit (with_drain q)

pub run-few : {P : Type 0} (meaning : Meaning P) (setup : Setup) (predictor : P) → length (run_of meaning setup predictor).buses ≤ drain_limit setup + setup.budget
run-few meaning setup predictor =
    let all = drained-few meaning (drain_limit setup) (cycles_until meaning is_stopped setup.budget (start setup predictor)) in
    let first = until-few meaning is_stopped setup.budget (start setup predictor) in
    omega (arith, all, first, length-reverse (progress_of meaning setup predictor).buses)
