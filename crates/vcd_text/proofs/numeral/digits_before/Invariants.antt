use Rattle.std.proofs.Common.{◌≡◌, ◌≤◌, ◌<◌, ◌^◌, ◌+◌, ◌-◌, ◌++◌, length, map, drop}
use Rattle.std.specs.Int.Digits.{digits_of}
use Rattle.vcd_text.proofs.numeral.digits_before.Given as goal

-- the digits of what is left stand before those that are written
abbrev pub invariant-loop-rest : goal.invariant-loop-rest
invariant-loop-rest l =
    (1 ≤ l.start) × (l.start ≤ length l.line) × (length l.line ≡ length l.fn.line) × (l.rest < l.base ^ (l.start - 1))
    × (map (λ d. 48 + d) (digits_of l.base l.rest) ++ drop l.start l.line ≡ map (λ d. 48 + d) (digits_of l.base l.n) ++ drop l.end l.fn.line)

abbrev pub decreases-loop-rest : goal.decreases-loop-rest
decreases-loop-rest l = l.rest
