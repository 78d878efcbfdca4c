-- What stands of a waveform that is written to a file while its cycles come.
use Rattle.std.specs.Prelude.{ℕ, List, Option}
use Rattle.xif_base.specs.Files.{Files}
use Rattle.xif_signals.specs.declared.bus.Bus.{Bus}
use Rattle.xif_base.specs.declared.params.Params.{Params}
use Rattle.vcd_text.specs.Writing.{Progress, Wrote}
use Rattle.vcd_text.specs.Written.{vcd_text_of}
use Rattle.xif_targets.specs.Writing.{IsGrowing}

-- the text of the waveform of a run with these parameters and buses
unfoldable pub trace_text : Params → List Bus → List ℕ
trace_text p buses = vcd_text_of p buses

-- the writer of the text, and the bytes that are not in the file yet
pub record Tracing : Type 0 where
  pub writer : Progress
  pub pending : List ℕ

-- Since a moment before, the file of a name and the bytes that are pending are together the text of
-- these buses, the first cycle first, without its end. No other file changed.
pub record IsTracing (before now : Option Files) (name : List ℕ) (t : Tracing) (buses : List Bus)
    : Type 0 where
  pub text : List ℕ
  pub is_growing : IsGrowing before now name t.pending text
  pub wrote : Wrote t.writer buses text
