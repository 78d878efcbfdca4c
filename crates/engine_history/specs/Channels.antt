-- The transactions of a channel, as a list of its cycles tells them. A transaction is for one use,
-- and goes on until its handshake (CV-X-IF 1.0.0, "Handshake rules").
use Rattle.std.specs.Prelude.{ℕ, ◌+◌, ◌==◌, ◌&&◌, not, Bool, false, if◌then◌else◌, Option, Some, None, List, [], ◌∷◌, drop, length, filter}
use Rattle.std.specs.Option.{option_map, option_map_or}
use Rattle.xif_base.specs.declared.params.Key.{Key}
use Rattle.xif_signals.specs.declared.bus.Bus.{Bus}
use Rattle.xif_session.specs.Facts.{issue_key, register_key, result_key, is_issued, issue_waits, result_waits}
use Rattle.xif_session.specs.Uses.{last_bus}
use Rattle.cycle_spec.specs.declared.turn.Turn.{Turn}
use Rattle.cycle_spec.specs.declared.turn.Transaction.{Transaction}
use Rattle.engine_history.specs.Lives.{Life, start_of, lives_of, lives_with}

-- a channel in a cycle: whom it is for, if its valid is 1, by the start of that use; and its ready
pub record Beat : Type 0 where
  pub owner : Option ℕ
  pub ready : Bool

abbrev pub is_for : (owner : ℕ) → Option ℕ → Bool
is_for owner found = option_map_or (λ start. start == owner) found false

-- it is for a use, and waits for its handshake
abbrev pub waits_for : (owner : ℕ) → Beat → Bool
waits_for owner beat = is_for owner beat.owner && not beat.ready

-- for how many cycles up to the last one a use waited in a row
abbrev pub waited : (owner : ℕ) → List Beat → ℕ
waited owner [] = 0
waited owner (beat ∷ older) = if waits_for owner beat then waited owner older + 1 else 0

-- a transaction begins in a cycle: its use didn't wait in the one before
abbrev pub begins : Option ℕ → List Beat → Bool
begins None older = false
begins (Some owner) older = waited owner older == 0

-- how many transactions began
abbrev pub begun : List Beat → ℕ
begun [] = 0
begun (beat ∷ older) = if begins beat.owner older then begun older + 1 else begun older

-- A transaction of the next cycle, for a use: how many cycles it has waited, and how many
-- transactions began before it.
abbrev pub turn_for : (owner : ℕ) → List Beat → Turn
turn_for owner beats = record {
  number = begun (drop (waited owner beats) beats);
  age = waited owner beats;
}

-- ---- the channels of a session

-- the start of the use that a key names; without one, this cycle stands for it
abbrev pub named_start : Key → List Life → (cycle : ℕ) → ℕ
named_start key ls cycle = option_map_or (λ start. start) (start_of key ls) cycle

abbrev pub owner_in : (valid : Bool) → Key → List Bus → Bus → Option ℕ
owner_in valid key session b =
    if valid then Some (named_start key (lives_with session b) (length session)) else None

abbrev pub issue_beats : List Bus → List Beat
issue_beats [] = []
issue_beats (b ∷ session) =
    record { owner = owner_in b.issue_valid (issue_key b) session b; ready = b.issue_ready }
    ∷ issue_beats session

abbrev pub register_beats : List Bus → List Beat
register_beats [] = []
register_beats (b ∷ session) =
    record {
      owner = owner_in b.register_valid (register_key b) session b;
      ready = b.register_ready;
    }
    ∷ register_beats session

-- how many issue handshakes accepted a word
abbrev pub accepts : Bus → Bool
accepts b = is_issued b && b.issue_accept

abbrev pub acceptances : List Bus → ℕ
acceptances session = length (filter accepts session)

-- ---- which use waits after the last cycle, by its start

abbrev pub owner_of : Option Transaction → Option ℕ
owner_of found = option_map (λ t. t.owner) found

-- for its answer
abbrev pub answer_awaited : List Bus → Option ℕ
answer_awaited session =
    if issue_waits (last_bus session)
    then start_of (issue_key (last_bus session)) (lives_of session)
    else None

-- for its result to be taken
abbrev pub result_awaited : List Bus → Option ℕ
result_awaited session =
    if result_waits (last_bus session)
    then start_of (result_key (last_bus session)) (lives_of session)
    else None
