-- What a writer has written.
use Rattle.std.specs.Prelude.{◌≡◌, ◌<◌, ◌^◌, ◌++◌, ℕ, List, length, Option, None, Ok}
use Rattle.xif_base.specs.declared.params.Params.{Params}
use Rattle.xif_signals.specs.declared.signal.Signal.{Signal}
use Rattle.xif_signals.specs.declared.sample.Quad.{Quad}
use Rattle.xif_signals.specs.declared.bus.Bus.{Bus}
use Rattle.xif_signals.specs.Signal.{width_of}
use Rattle.vcd_text.specs.Reading.{reading_of}
use Rattle.vcd_text.specs.Written.{value_in, cycles_text, vcd_text_of, written_variables, written_items}

-- how many cycles were written, and the sample of the last one
pub record Progress : Type 0 where
  pub params : Params
  pub cycles : ℕ
  pub last : Option (List Quad)

-- no cycle was written yet
abbrev pub begun : Params → Progress
begun p = record { params = p; cycles = 0; last = None }

-- The text so far is that of these buses, the first cycle first, without its end: whatever cycles
-- follow, the text of those completes it.
pub record Wrote (w : Progress) (buses : List Bus) (text : List ℕ) : Type 0 where
  pub count : w.cycles ≡ length buses
  pub joined : (more : List Bus) →
      text ++ cycles_text w.params w.cycles w.last more ≡ vcd_text_of w.params (buses ++ more)

-- each signal's value is below 2 to its width
abbrev pub Fits : Params → List Quad → Type 0
Fits p q = (s : Signal) → value_in q s < 2 ^ width_of s p

-- the text of buses has a reading, which has their variables and items
abbrev pub ReadsBack : Params → List Bus → Type 0
ReadsBack p buses =
    reading_of (vcd_text_of p buses)
    ≡ Ok (record { variables = written_variables p; items = written_items p buses })
