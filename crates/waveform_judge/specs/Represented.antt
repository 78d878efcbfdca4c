-- Which text a judge of waveforms represents, and which items a judge of items. Only that they
-- start with none, take what they are fed, and end with what `Judged` says has to be believed.
use Rattle.std.specs.Prelude.{◌≡◌, ◌⊎◌, ℕ, Bool, true, false, if◌then◌else◌, List, [], ◌++◌, reverse, Option, Some, None, Result, Ok, Err, IsOk}
use Rattle.xif_base.specs.declared.params.Params.{Params}
use Rattle.vcd_text.specs.declared.declaration.Variable.{Variable}
use Rattle.vcd_text.specs.declared.fault.VcdFault.{VcdFault}
use Rattle.vcd_text.specs.declared.item.Item.{Item}
use Rattle.vcd_text.specs.Reading.{reading_of}
use Rattle.vcd_text.specs.Reader as reader
use Rattle.xif_sampler.specs.declared.fault.MapFault.{MapFault}
use Rattle.xif_sampler.specs.declared.place.Place.{Place}
use Rattle.xif_sampler.specs.declared.source.Source.{Source}
use Rattle.xif_sampler.specs.Places.{sources_of}
use Rattle.xif_sampler.specs.Keeping as sampling
use Rattle.xif_judge.specs.Judging as judge
use Rattle.waveform_judge.specs.declared.signals.Signals.{Signals}
use Rattle.waveform_judge.specs.declared.signals.Signals.TheVariants.{Awaited, Found, Lost}
use Rattle.waveform_judge.specs.Newest.{newest}

-- ---- the items

-- what contracts see of a judge of items
pub record ItemJudging : Type 0 where
  pub map : List Place
  pub params : Params
  pub signals : Signals
  pub judge : judge.Judging

abbrev pub is_waiting : Signals → Bool
is_waiting Awaited = true
is_waiting (Found sampler) = false
is_waiting (Lost fault) = false

-- it judges by this map and these parameters
pub record IsOf (x : ItemJudging) (m : List Place) (p : Params) : Type 0 where
  pub map : x.map ≡ m
  pub params : x.params ≡ p

-- nothing was declared yet
pub record Waits (x : ItemJudging) (map : List Place) (params : Params) : Type 0 where
  pub same : IsOf x map params
  pub waiting : x.signals ≡ Awaited
  pub judged : judge.Represents x.judge params []

-- a sampler took the items, and its samples were judged
pub record IsSampled (x : ItemJudging) (s : sampling.Sampling) (params : Params)
    (sources : List Source) (items : List Item) : Type 0 where
  pub sampler : sampling.Represents s sources (reverse items)
  pub judged : judge.Represents x.judge params (newest sources (reverse items))

-- the signals were found, and the items are sampled; or one wasn't found, and no sample was judged
abbrev pub HasSampled : Signals → ItemJudging → Params → Result (List Source) MapFault → List Item
    → Type 0
HasSampled (Found sampler) x params (Ok sources) items = IsSampled x sampler params sources items
HasSampled (Lost fault) x params (Err f) items = (fault ≡ f) × (x.judge.cycles ≡ 0)
HasSampled _ x params found items = ⊥

-- these variables were declared, and these items taken
pub record HasTaken (x : ItemJudging) (map : List Place) (params : Params)
    (variables : List Variable) (items : List Item) : Type 0 where
  pub same : IsOf x map params
  pub signals : HasSampled x.signals x params (sources_of map variables params) items

-- ---- the reader

-- the variables that a reader returns
abbrev pub variables_of : reader.Progress → Option (List Variable)
variables_of r = if r.has_failed then None else r.read.variables

-- a reader whose items were taken
abbrev pub drained : reader.Progress → reader.Progress
drained r = record r { read = record r.read { items = [] } }

-- ---- the text

-- a text that has no fault so far, among whose declarations the signals weren't looked for yet
pub record Declares (r : reader.Progress) (x : ItemJudging) (map : List Place) (params : Params)
    (text : List ℕ) : Type 0 where
  pub reader : reader.Represents r text []
  pub good : IsOk r.read.state
  pub none : r.read.variables ≡ None
  pub items : Waits x map params

-- a text that has no fault so far, its declarations, and its items, all of which were taken
pub record Continues (r : reader.Progress) (x : ItemJudging) (map : List Place) (params : Params)
    (text : List ℕ) (variables : List Variable) (taken : List Item) : Type 0 where
  pub reader : reader.Represents r text taken
  pub good : IsOk r.read.state
  pub some : r.read.variables ≡ Some variables
  pub items : HasTaken x map params variables taken
  pub rest : r.read.items ≡ []

-- a text that has no reading, whatever follows it: its first fault stays
pub record Fails (r : reader.Progress) (text : List ℕ) (fault : VcdFault) : Type 0 where
  pub reader : reader.IsFaulty r fault
  pub always : (more : List ℕ) → reading_of (text ++ more) ≡ Err fault

-- a reader, and a judge of items by this map and these parameters, read this text
abbrev pub HasRead : reader.Progress → ItemJudging → List Place → Params → List ℕ → Type 0
HasRead r x map params text =
    Declares r x map params text
    ⊎ (((variables : List Variable)
    × ((taken : List Item) × Continues r x map params text variables taken))
    ⊎ ((fault : VcdFault) × Fails r text fault))

-- they read some text
abbrev pub HasReadSome : reader.Progress → ItemJudging → Type 0
HasReadSome r x =
    (map : List Place) × ((params : Params) × ((text : List ℕ) × HasRead r x map params text))

-- what contracts see of a judge of waveforms
pub record WaveformJudging : Type 0 where
  pub reader : reader.Progress
  pub items : ItemJudging
  -- it answered that it is out of memory
  pub is_out_of_memory : Bool

-- A judge by this map and these parameters represents this text.
abbrev pub Represents : WaveformJudging → List Place → Params → List ℕ → Type 0
Represents w map params text = HasRead w.reader w.items map params text
