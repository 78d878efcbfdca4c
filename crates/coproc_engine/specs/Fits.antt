-- Which keys there are, and (internal) what holds of the counts and lists of an engine.
use Rattle.std.specs.Prelude.{◌≡◌, ◌<◌, ◌≤◌, ◌+◌, ◌*◌, ◌^◌, ℕ, List, [], ◌∷◌, Option, Some, IfSome, All, length, map, nat_eq}
use Rattle.std.specs.List.{IsDistinct}
use Rattle.xif_base.specs.declared.params.Params.{Params}
use Rattle.xif_base.specs.declared.params.Key.{Key}
use Rattle.xif_base.specs.Params.{IsInRange}
use Rattle.xif_drive.specs.Scripts.{Lists, IsLawful as IsLawfulScript}
use Rattle.coproc_config.specs.Set.{UnitTable}
use Rattle.coproc_config.specs.Check.{IsLawful as IsLawfulSet}
use Rattle.coproc_config.specs.declared.accept.Hit.{Hit}
use Rattle.coproc_config.specs.declared.operation.Entry.{Entry}
use Rattle.coproc_config.specs.Accept.{entry_at}
use Rattle.coproc_config.specs.Table.{operation_line, write_flags, result_bits}
use Rattle.coproc_config.specs.State.{IsStateOf}
use Rattle.cycle_spec.specs.declared.turn.Transactions.{Transactions}
use Rattle.cycle_spec.specs.declared.use_of.Use.{Use}
use Rattle.cycle_spec.specs.Counts.{AreCountedBy}
use Rattle.cycle_spec.specs.Engine.{has_operands, units_behind, writeback_of}
use Rattle.xif_signals.specs.declared.signal.Signal.TheVariants.{ResultData, ResultWe}
use Rattle.xif_signals.specs.Signal.{width_of}

-- a key of the interface
pub record IsKey (p : Params) (key : Key) : Type 0 where
  pub hart : key.hart < p.num_harts
  pub id : key.id < 2 ^ p.id_width

-- ---- internal

-- no count is above that of the cycles
pub record IsCounted (cycle accepted : ℕ) (issue register : Transactions) : Type 0 where
  pub uses : accepted ≤ cycle
  pub issues : AreCountedBy cycle issue
  pub registers : AreCountedBy cycle register

-- there is the entry that is named, and a hit has the flags of what it writes
pub record HasWritesOf (named : Option Entry) (hit : Hit) : Type 0 where
  pub entry : Entry
  pub there : named ≡ Some entry
  pub writes : hit.writeback.0 ≡ write_flags (operation_line entry.op).writes

-- the entry that takes a use is in the set
abbrev pub HasEntry : List UnitTable → Use → Type 0
HasEntry set u = IfSome u.hit (λ hit. HasWritesOf (entry_at set hit) hit)

abbrev pub HaveEntries : List UnitTable → List Use → Type 0
HaveEntries set us = All (HasEntry set) us

abbrev pub keys_of : List Use → List Key
keys_of us = map (λ u. u.key) us

-- keys as numbers: hart by hart, and id by id
abbrev pub number_of : Params → Key → ℕ
number_of p key = key.hart * 2 ^ p.id_width + key.id

-- they are keys of the interface, and no two are the same
pub record AreKeys (p : Params) (keys : List Key) : Type 0 where
  pub each : All (IsKey p) keys
  pub distinct : IsDistinct nat_eq (map (number_of p) keys)

abbrev pub room_of : Params → ℕ
room_of p = p.num_harts * 2 ^ p.id_width

-- what a use writes has so many flags, and its result so many bits
pub record IsNarrow (flags bits : ℕ) (u : Use) : Type 0 where
  pub writes : writeback_of u.hit < 2 ^ flags
  pub width : result_bits (writeback_of u.hit) ≤ bits
  pub result : u.result < 2 ^ bits

abbrev pub AreNarrow : (flags bits : ℕ) → List Use → Type 0
AreNarrow flags bits us = All (IsNarrow flags bits) us

-- a use fits the signals of the result channel
pub record FitsResult (p : Params) (u : Use) : Type 0 where
  pub key : IsKey p u.key
  pub narrow : IsNarrow (width_of ResultWe p) (width_of ResultData p) u

-- what params, set and script of an engine are
pub record IsSetUp (p : Params) (set : List UnitTable) (script : Lists) : Type 0 where
  pub in_range : IsInRange p
  pub lawful_set : IsLawfulSet set
  pub lawful_script : IsLawfulScript script

-- a state of the units for each hart
pub record AreUnits (p : Params) (set : List UnitTable) (units : List (List (List ℕ)))
    : Type 0 where
  pub harts : length units ≡ p.num_harts
  pub states : All (IsStateOf set) units

-- the accumulators of each hart from one on, by those after its ready uses, ahead of the releases
abbrev pub ahead_in_harts
    : List UnitTable → (hart : ℕ) → List (List (List ℕ)) → List Use → List (List (List ℕ))
ahead_in_harts set hart [] us = []
ahead_in_harts set hart (state ∷ states) us =
    units_behind set has_operands hart state us ∷ ahead_in_harts set (hart + 1) states us

-- the uses, and their room
pub record AreUses (p : Params) (set : List UnitTable) (us : List Use) (room : ℕ) : Type 0 where
  pub entries : HaveEntries set us
  pub narrow : AreNarrow (width_of ResultWe p) (width_of ResultData p) us
  pub keys : AreKeys p (keys_of us)
  pub fits : room_of p ≤ room
