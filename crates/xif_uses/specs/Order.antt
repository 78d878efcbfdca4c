-- Internal: the undecided uses of a hart, in the order of their starts.
use Rattle.std.specs.Prelude.{◌≡◌, ◌<◌, ◌≤◌, ◌+◌, ◌-◌, ◌^◌, ◌==◌, ◌&&◌, not, ℕ, Bool, if◌then◌else◌, Option, Some, List, [], length, slice_index_or}
use Rattle.xif_session.specs.Facts.{undecided_start, verdict_of}
use Rattle.xif_uses.specs.declared.entry.Use.{Use}
use Rattle.xif_uses.specs.declared.undecided.Offer.{Offer}
use Rattle.xif_uses.specs.Table.{Table, facts_in}

-- the undecided uses of a hart, the oldest first, and for how many there is room
pub record Order : Type 0 where
  pub room : ℕ
  pub offers : List Offer

abbrev pub no_offer : Offer
no_offer = record { start = 0; id = 0 }

abbrev pub offer_at : List Offer → ℕ → Offer
offer_at offers i = slice_index_or offers i no_offer

abbrev pub Rises : List Offer → Type 0
Rises offers =
    (i j : ℕ) → i < j → j < length offers → (offer_at offers i).start < (offer_at offers j).start

-- one is taken out
pub record Removes (old new : List Offer) (k : ℕ) : Type 0 where
  pub inside : k < length old
  pub count : length new + 1 ≡ length old
  pub before : (i : ℕ) → i < k → offer_at new i ≡ offer_at old i
  pub after : (i : ℕ) → k ≤ i → i < length new → offer_at new i ≡ offer_at old (i + 1)

-- a kill goes on from the newest use, and a release from the oldest
abbrev pub end_of : (kill : Bool) → List Offer → ℕ
end_of kill offers = if kill then length offers - 1 else 0

-- The offers are the undecided uses among so many ids, in the order of their starts.
pub record InOrder (count : ℕ) (starts : ℕ → Option ℕ) (offers : List Offer) : Type 0 where
  pub below : (i : ℕ) → i < length offers → (offer_at offers i).id < count
  pub listed : (i : ℕ)
      → i < length offers → starts (offer_at offers i).id ≡ Some (offer_at offers i).start
  pub rises : Rises offers
  pub complete : (id start : ℕ) → id < count → starts id ≡ Some start
      → (i : ℕ) × ((i < length offers) × ((offer_at offers i).id ≡ id))

-- the start of the latest use of an id, where that is undecided
abbrev pub start_of : Table → (hart id : ℕ) → Option ℕ
start_of table hart id = undecided_start (facts_in table (record { hart = hart; id = id }))

abbrev pub IsOrder : Table → (hart : ℕ) → List Offer → Type 0
IsOrder table hart offers = InOrder (2 ^ table.params.id_width) (start_of table hart) offers

-- as it is after a change of one id
abbrev pub with_start : (id : ℕ) → Option ℕ → (ℕ → Option ℕ) → ℕ → Option ℕ
with_start id start starts other = if id == other then start else starts other

-- a use after a decision
abbrev pub decided_as : (kill : Bool) → Use → Use
decided_as kill entry =
    record entry { decision = verdict_of kill; ongoing = entry.ongoing && not kill }

abbrev pub no_order : Order
no_order = record { room = 0; offers = [] }

abbrev pub order_at : List Order → ℕ → Order
order_at orders hart = slice_index_or orders hart no_order

-- each hart has the order of its undecided uses, with room for all of its ids
pub record AreOrders (table : Table) (orders : List Order) : Type 0 where
  pub count : length orders ≡ table.params.num_harts
  pub room : (hart : ℕ)
      → hart < table.params.num_harts → 2 ^ table.params.id_width ≤ (order_at orders hart).room
  pub order : (hart : ℕ) → hart < table.params.num_harts
      → IsOrder table hart (order_at orders hart).offers
