-- The verdict on a waveform in which every rule holds.
use Rattle.std.specs.Prelude.{ℕ, None}
use Rattle.waveform_judge.specs.declared.judged.Judged.{Judged}

-- so many cycles, and no fault
abbrev pub no_fault_in : ℕ → Judged
no_fault_in cycles = record { cycles = cycles; verdict = None }
