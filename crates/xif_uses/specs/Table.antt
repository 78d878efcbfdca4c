-- What a table of uses holds, and which facts of a session it represents.
use Rattle.std.specs.Prelude.{◌≡◌, ◌<◌, ◌≤◌, ◌+◌, ◌*◌, ◌^◌, ◌==◌, ◌&&◌, ◌||◌, ℕ, Bool, true, false, not, if◌then◌else◌, List, Option, Some, None, IfSome, slice_index_or}
use Rattle.std.specs.Option.{option_map}
use Rattle.xif_base.specs.declared.params.Key.{Key}
use Rattle.xif_base.specs.declared.params.Params.{Params}
use Rattle.xif_base.specs.declared.flags.ReadFlags.{ReadFlags}
use Rattle.xif_session.specs.declared.fact.Response.{Response}
use Rattle.xif_session.specs.declared.fact.Decision.{Decision}
use Rattle.xif_session.specs.declared.fact.Decision.TheVariants.{Undecided, Released, Killed}
use Rattle.xif_session.specs.declared.fact.Fact.{Fact}
use Rattle.xif_session.specs.Facts.{Facts, same_key, is_undecided, is_covered, verdict_of}
use Rattle.xif_session.specs.Tests.{none_before}
use Rattle.xif_uses.specs.declared.entry.Use.{Use}
use Rattle.xif_uses.specs.declared.table.Decided.{Decided}
use Rattle.xif_uses.specs.declared.table.Decided.TheVariants.{Taken, Repeat, WasKilled, WasReleased, NoUse, OutOfOrder}

-- the parameters, and of each key its latest use: hart by hart, and id by id
pub record Table : Type 0 where
  pub params : Params
  pub uses : List (Option Use)

-- a key of the interface
pub record IsKey (params : Params) (key : Key) : Type 0 where
  pub hart : key.hart < params.num_harts
  pub id : key.id < 2 ^ params.id_width

abbrev pub place_of : Params → Key → ℕ
place_of params key = key.hart * 2 ^ params.id_width + key.id

-- the latest use of a key
abbrev pub use_of : Table → Key → Option Use
use_of table key = slice_index_or table.uses (place_of table.params key) None

-- what is said of a use, apart from its open transaction
abbrev pub fact_of : Use → Fact
fact_of entry = record {
  start = entry.start;
  instr = entry.instr;
  response = entry.response;
  operands = entry.operands;
  decision = entry.decision;
  finished = entry.finished;
}

-- The table represents the facts of a session: it has the latest use of each key.
pub record Represents (table : Table) (params : Params) (facts : Facts) : Type 0 where
  pub same : table.params ≡ params
  pub uses : (key : Key) → IsKey params key → option_map fact_of (use_of table key) ≡ facts key

-- ---- the calls

-- one key has this use now, and the others are as they were
pub record Sets (old new : Table) (key : Key) (entry : Option Use) : Type 0 where
  pub params : new.params ≡ old.params
  pub latest : use_of new key ≡ entry
  pub others : (k : Key) → IsKey old.params k → same_key key k ≡ false → use_of new k ≡ use_of old k

abbrev pub new_use : (cycle instr : ℕ) → Use
new_use cycle instr = record {
  start = cycle;
  instr = instr;
  ongoing = true;
  response = None;
  operands = None;
  decision = Undecided;
  finished = false;
}

-- the issue transaction ended without an answer
abbrev pub retracted : Use → Use
retracted latest = record latest { ongoing = false }

-- and with one
abbrev pub with_answer : Response → Use → Use
with_answer response latest = record latest { ongoing = false; response = Some response }

abbrev pub with_flags : ReadFlags → Use → Use
with_flags flags latest = record latest { operands = Some flags }

abbrev pub with_end : Use → Use
with_end latest = record latest { finished = true }

-- each use started before this cycle
abbrev pub StartsBefore : Table → ℕ → Type 0
StartsBefore table cycle =
    (key : Key) → IsKey table.params key → IfSome (use_of table key) (λ entry. entry.start < cycle)

-- no use started later
abbrev pub NoneLater : Table → ℕ → Type 0
NoneLater table start =
    (key : Key) → IsKey table.params key → IfSome (use_of table key) (λ entry. entry.start ≤ start)

-- a use behind a decision on the uses of its hart
abbrev pub decided_use : (named : ℕ) → (kill : Bool) → Use → Use
decided_use named kill entry =
    if is_covered kill named entry.start && is_undecided entry.decision
    then record entry { decision = verdict_of kill; ongoing = entry.ongoing && not kill }
    else entry

-- the uses of one hart were decided, and the others are as they were
pub record Decides (old new : Table) (hart named : ℕ) (kill : Bool) : Type 0 where
  pub params : new.params ≡ old.params
  pub uses : (k : Key) → IsKey old.params k
      → use_of new k ≡ (if hart == k.hart
      then option_map (decided_use named kill) (use_of old k) else use_of old k)

-- the facts that a table represents
abbrev pub facts_in : Table → Facts
facts_in table key = option_map fact_of (use_of table key)

-- What a commit does to the use that it names: it decides it, repeats or contradicts a decision, or
-- is out of order.
abbrev pub answer_to : Decision → (kill is_in_order : Bool) → Decided
answer_to Undecided kill is_in_order = if kill && not is_in_order then OutOfOrder else Taken
answer_to Released kill is_in_order = if kill then WasReleased else Repeat
answer_to Killed kill is_in_order = if kill then Repeat else WasKilled

abbrev pub answer_by : (is_in_order kill : Bool) → Option Use → Decided
answer_by is_in_order kill None = NoUse
answer_by is_in_order kill (Some entry) = answer_to entry.decision kill is_in_order

-- no use of the hart that started before this one was answered and is undecided
abbrev pub is_first_pending : Table → (hart start : ℕ) → Bool
is_first_pending table hart start =
    none_before (facts_in table) hart start (2 ^ table.params.id_width)

-- in profile 2 a kill of an undecided use has to be in order
abbrev pub is_in_order : Table → Key → Option Use → Bool
is_in_order table key None = true
is_in_order table key (Some named) =
    not (table.params.profile == 2) || is_first_pending table key.hart named.start

abbrev pub answer_of : Table → Key → (kill : Bool) → Decided
answer_of table key kill =
    answer_by (is_in_order table key (use_of table key)) kill (use_of table key)

-- where the uses of a hart were decided from this start on, or up to it; else nothing changed
abbrev pub DecidesFrom : Table → Table → Key → (kill : Bool) → Option Use → Type 0
DecidesFrom old new key kill None = new ≡ old
DecidesFrom old new key kill (Some named) = Decides old new key.hart named.start kill
