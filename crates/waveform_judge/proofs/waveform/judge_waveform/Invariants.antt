use Rattle.std.proofs.Common.{◌≡◌, ◌≤◌, ◌+◌, ◌++◌, ℕ, List, length}
use Rattle.waveform_judge.specs.Represented.{Represents}
use Rattle.waveform_judge.proofs.waveform.judge_waveform.Given as goal

-- the front of the text was read
abbrev pub invariant-loop-rest : goal.invariant-loop-rest
invariant-loop-rest l = record {
  front : (front : List ℕ) × (Represents l.judge l.fn.map l.fn.params front × (front ++ l.rest ≡ l.fn.text));
  room : l.judge.reader.size + length l.rest ≤ length l.fn.text;
}

abbrev pub decreases-loop-rest : goal.decreases-loop-rest
decreases-loop-rest l = length l.rest
