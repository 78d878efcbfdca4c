-- What an accepted instruction does.
use Rattle.std.specs.Prelude.{◌≡◌, ◌==◌, ℕ, List, slice_index, Option, Some, None, IsSomeAnd, if◌then◌else◌}
use Rattle.std.specs.List.{list_any}
use Rattle.coproc_config.specs.declared.operation.Entry.{Entry}
use Rattle.coproc_config.specs.declared.operation.Reads.{Reads}
use Rattle.coproc_config.specs.declared.operation.Names.{Names}
use Rattle.coproc_config.specs.declared.operation.Names.TheVariants as names
use Rattle.coproc_config.specs.declared.accept.Hit.{Hit}
use Rattle.coproc_config.specs.Bits.{low_half, high_half}
use Rattle.coproc_config.specs.Table.{Inputs, Line, operation_line, lanes_read, pairs_read}
use Rattle.coproc_config.specs.Set.{UnitTable}
use Rattle.coproc_config.specs.Accept.{entry_at}
use Rattle.coproc_config.specs.State.{accumulator_of, with_accumulator}

-- the half of a lane that is read, and 0 in place of one that isn't
abbrev pub low_read : Reads → List ℕ → ℕ → ℕ
low_read reads lanes lane =
    if list_any (λ other. other == lane) (lanes_read reads)
    then low_half (slice_index lanes lane)
    else 0

abbrev pub high_read : Reads → List ℕ → ℕ → ℕ
high_read reads lanes lane =
    if list_any (λ other. other == lane) (pairs_read reads)
    then high_half (slice_index lanes lane)
    else 0

-- what the operation of an entry computes from: its accumulator, and the halves of lanes that it
-- reads
abbrev pub inputs : Entry → ℕ → List ℕ → Inputs
inputs e q lanes = record {
  a = low_read (operation_line e.op).reads lanes 0;
  b = low_read (operation_line e.op).reads lanes 1;
  c = low_read (operation_line e.op).reads lanes 2;
  high_a = high_read (operation_line e.op).reads lanes 0;
  high_b = high_read (operation_line e.op).reads lanes 1;
  q = q;
  low = e.low;
  len = e.len;
}

-- a result, and the accumulators of all units after it
pub record Outcome : Type 0 where
  pub result : ℕ
  pub state : List (List ℕ)

-- a state with another value in the accumulator that is named, if one is
abbrev pub with_named : Names → List (List ℕ) → ℕ → ℕ → ℕ → List (List ℕ)
with_named names.Accumulator state unit acc value = with_accumulator state unit acc value
with_named names.Field state unit acc value = state
with_named names.Nothing state unit acc value = state

-- what an entry of a unit makes of a state and lanes
abbrev pub operation_outcome : Entry → ℕ → List (List ℕ) → List ℕ → Outcome
operation_outcome e unit state lanes =
    let x : Inputs = inputs e (accumulator_of state unit e.acc) lanes in
    let line : Line = operation_line e.op in
    record {
      result = line.result x;
      state = with_named line.names state unit e.acc (line.accumulator x);
    }

abbrev pub applied_by : Option Entry → ℕ → List (List ℕ) → List ℕ → Outcome
applied_by None unit state lanes = record { result = 0; state = state }
applied_by (Some e) unit state lanes = operation_outcome e unit state lanes

-- what the entry that a hit names makes of a state and lanes
abbrev pub applied : List UnitTable → Hit → List (List ℕ) → List ℕ → Outcome
applied units hit state lanes = applied_by (entry_at units hit) hit.unit state lanes

-- there is the entry that is named, of this unit, and it names accumulator a of unit u
abbrev pub NamesAccumulator : Option Entry → ℕ → ℕ → ℕ → Type 0
NamesAccumulator named unit u a =
    IsSomeAnd named
    (λ e. ((operation_line e.op).names ≡ names.Accumulator) × (u ≡ unit) × (a ≡ e.acc))
