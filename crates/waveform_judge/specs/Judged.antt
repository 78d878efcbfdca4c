-- The answer for a waveform: what is reported of its samples, or why it can't be judged.
use Rattle.std.specs.Prelude.{◌≡◌, ◌⊎◌, ℕ, List, length, reverse, Result, Ok, Err}
use Rattle.xif_base.specs.declared.params.Params.{Params}
use Rattle.xif_signals.specs.declared.sample.Quad.{Quad}
use Rattle.vcd_text.specs.declared.declaration.Variable.{Variable}
use Rattle.vcd_text.specs.declared.fault.FeedFail.{FeedFail}
use Rattle.vcd_text.specs.declared.fault.FeedFail.TheVariants as feed
use Rattle.vcd_text.specs.declared.fault.VcdFault.{VcdFault}
use Rattle.vcd_text.specs.declared.item.Item.{Item}
use Rattle.vcd_text.specs.Reading.{Reading, reading_of}
use Rattle.xif_judge.specs.Histories.{first_fault}
use Rattle.xif_sampler.specs.declared.fault.MapFault.{MapFault}
use Rattle.xif_sampler.specs.declared.place.Place.{Place}
use Rattle.xif_sampler.specs.declared.source.Source.{Source}
use Rattle.xif_sampler.specs.Places.{sources_of}
use Rattle.xif_sampler.specs.Samples.{samples_by}
use Rattle.waveform_judge.specs.declared.judged.Judged.{Judged}
use Rattle.waveform_judge.specs.declared.judged.JudgeFail.{JudgeFail}
use Rattle.waveform_judge.specs.declared.judged.JudgeFail.TheVariants.{Vcd, Map, NoMemory}

-- the answer for samples, the oldest first
abbrev pub judged_by : Params → List (List Quad) → Judged
judged_by params samples =
    record { cycles = length samples; verdict = first_fault params (reverse samples) }

abbrev pub judged_from : Params → List Item → Result (List Source) MapFault → Result Judged MapFault
judged_from params items (Ok sources) = Ok (judged_by params (samples_by sources items))
judged_from params items (Err fault) = Err fault

-- the answer for the items of a waveform, by a map of the signals to its variables
abbrev pub judged_in : List Place → Params → List Variable → List Item → Result Judged MapFault
judged_in map params variables items = judged_from params items (sources_of map variables params)

-- the same, with the fault of a map as that of a waveform
abbrev pub with_map_fault : Result Judged MapFault → Result Judged JudgeFail
with_map_fault (Ok judged) = Ok judged
with_map_fault (Err fault) = Err (Map fault)

abbrev pub judged_as : List Place → Params → Result Reading VcdFault → Result Judged JudgeFail
judged_as map params (Ok reading) =
    with_map_fault (judged_in map params reading.variables reading.items)
judged_as map params (Err fault) = Err (Vcd fault)

-- The answer for the text of a waveform: its fault where it has no reading, else that of the map,
-- else how many samples it has and the first fault among them.
unfoldable pub judged_of : List Place → Params → List ℕ → Result Judged JudgeFail
judged_of map params text = judged_as map params (reading_of text)

-- why a text can't be judged, by the answer of its reader
abbrev pub fail_of : FeedFail → JudgeFail
fail_of (feed.Vcd fault) = Vcd fault
fail_of feed.NoMemory = NoMemory

-- it is out of memory, or the fault that is meant
abbrev pub IsFail : Result Judged JudgeFail → JudgeFail → Type 0
IsFail meant fail = (fail ≡ NoMemory) ⊎ (meant ≡ Err fail)
