-- Core and engine are paired: each instruction that the core waits for is a use of the engine, in
-- the same order, and both know the same of it.
use Rattle.std.specs.Prelude.{◌≡◌, ◌<◌, ◌≤◌, ◌&&◌, not, ℕ, Bool, true, false, if◌then◌else◌, Option, Some, None, is_some, IsSome, IfSome, ⊤, List, [], ◌∷◌, filter}
use Rattle.rv32_table.specs.declared.instr.Kind.{Kind}
use Rattle.rv32_table.specs.declared.instr.Kind.TheVariants as row
use Rattle.coproc_config.specs.declared.accept.Hit.{Hit}
use Rattle.xif_session.specs.declared.fact.Decision.{Decision}
use Rattle.xif_session.specs.declared.fact.Decision.TheVariants.{Undecided, Released}
use Rattle.xif_session.specs.declared.fact.Response.{Response}
use Rattle.xif_session.specs.Facts.{is_accepted as is_response_accepted, is_refused, is_released, is_killed}
use Rattle.cycle_spec.specs.declared.entry.Entry.{Entry}
use Rattle.cycle_spec.specs.declared.use_of.Use.{Use}
use Rattle.cycle_spec.specs.Flight.{is_row, is_unknown, is_store, is_stopping, is_open, is_waiting, is_safe}
use Rattle.cycle_spec.specs.Engine.{is_accepted, has_operands, writeback_of, register_read_of}
use Rattle.cycle_spec.specs.Cycle.{Machines}
use Rattle.cycle_lists.specs.Lists.{Each, Pairs}
use Rattle.cycle_lists.specs.Order.{InOrder}

-- ---- the views of core and engine

-- an entry that had its issue handshake, and isn't done
abbrev pub is_live : Entry → Bool
is_live e = is_some e.response && not e.done

abbrev pub live_entries : List Entry → List Entry
live_entries es = filter is_live es

-- A use that had its issue handshake, and is neither killed nor finished. Which starts had one, the
-- engine doesn't keep of the words that it refused: it is given.
abbrev pub is_live_use : (answered : ℕ → Bool) → Use → Bool
is_live_use answered u = answered u.start && (not (is_killed u.decision) && not u.finished)

abbrev pub live_uses : (answered : ℕ → Bool) → List Use → List Use
live_uses answered us = filter (is_live_use answered) us

-- ---- an entry and its use

-- the response that the engine gives
abbrev pub response_of : Option Hit → Response
response_of hit = record {
  accept = is_some hit;
  writeback = record { 0 = writeback_of hit };
  register_read = record { 0 = register_read_of hit };
}

abbrev pub decision_of : (released : Bool) → Decision
decision_of released = if released then Released else Undecided

-- a live entry of the core of a hart, and its use
pub record Alike (hart : ℕ) (e : Entry) (u : Use) : Type 0 where
  pub unknown : is_unknown e ≡ true
  pub hart_is : u.key.hart ≡ hart
  pub id : u.key.id ≡ e.id
  pub word : u.word ≡ e.word
  pub response : e.response ≡ Some (response_of u.hit)
  pub given : u.given ≡ e.operands_sent
  pub decision : u.decision ≡ decision_of e.released

-- the live entries and the live uses, one to one
abbrev pub Match : (hart : ℕ) → List Entry → List Use → Type 0
Match hart [] [] = ⊤
Match hart [] (u ∷ us) = ⊥
Match hart (e ∷ es) [] = ⊥
Match hart (e ∷ es) (u ∷ us) = Alike hart e u × Match hart es us

-- ---- the core's entries

abbrev pub is_stop_row : Kind → Bool
is_stop_row row.Stop = true
is_stop_row _ = false

-- an entry
pub record IsEntry (e : Entry) : Type 0 where
  pub answered : IsSome e.response → is_unknown e ≡ true
  pub released : e.released ≡ true → is_response_accepted e.response ≡ true
  pub done_released : is_unknown e ≡ true → e.done ≡ true → e.released ≡ true
  pub done_given : is_unknown e ≡ true → e.done ≡ true → is_waiting e ≡ false
  pub unsent : is_open e ≡ true → e.operands_sent ≡ false
  pub stores : IsSome e.store → is_store e ≡ true
  pub stops : is_row is_stop_row e.kind ≡ true → is_stopping e ≡ true
  pub refused : is_unknown e ≡ true → is_stopping e ≡ true → is_refused e.response ≡ true

-- an entry and a younger one
pub record Behind (x y : Entry) : Type 0 where
  pub safe : y.released ≡ true → is_safe x ≡ true
  pub answered : IsSome y.response → is_open x ≡ false

-- ---- the engine's uses

-- what is said of a use that had no issue handshake
pub record IsUnanswered (u : Use) : Type 0 where
  pub refused : is_accepted u ≡ false
  pub not_given : u.given ≡ false
  pub unfinished : u.finished ≡ false

-- a use that is ready
pub record IsReady (u : Use) : Type 0 where
  pub accepted : is_accepted u ≡ true
  pub released : is_released u.decision ≡ true
  pub operands : has_operands u ≡ true

-- a use
pub record IsUse (answered : ℕ → Bool) (u : Use) : Type 0 where
  pub unanswered : answered u.start ≡ false → IsUnanswered u
  pub ready : IsSome u.ready → IsReady u

-- a use and one that started later: their keys differ
pub record Older (x y : Use) : Type 0 where
  pub rises : x.start < y.start
  pub apart : x.key.hart ≡ y.key.hart → x.key.id ≡ y.key.id → ⊥

-- ---- the issue channel

-- the id and the word of the oldest unknown word that had no issue handshake
abbrev pub open_word : List Entry → Option (ℕ × ℕ)
open_word [] = None
open_word (e ∷ es) = if is_open e then Some (e.id, e.word) else open_word es

-- the use of a transaction that waits for its issue handshake
pub record IsOffered (answered : ℕ → Bool) (hart : ℕ) (es : List Entry) (u : Use) : Type 0 where
  pub waits : answered u.start ≡ false
  pub not_released : is_released u.decision ≡ false
  -- the core offers its word, if it is the core's and wasn't killed
  pub offered
      : u.key.hart ≡ hart → is_killed u.decision ≡ false
      → open_word es ≡ Some (u.key.id, u.word)

-- what such a transaction, by the start of its use, says of each use: it is the latest
pub record Offers (answered : ℕ → Bool) (hart : ℕ) (es : List Entry) (start : ℕ) (u : Use)
    : Type 0 where
  pub latest : u.start ≤ start
  pub own : u.start ≡ start → IsOffered answered hart es u

-- ---- the result channel

-- the use whose result waits for its handshake has one
pub record HasResult (start : ℕ) (u : Use) : Type 0 where
  pub ready : u.start ≡ start → IsSome u.ready
  pub unfinished : u.start ≡ start → u.finished ≡ false

-- ---- both

-- The core of a hart and the engine are paired. The live uses are the hart's own: those of other
-- harts are finished or killed, or never had their issue handshake.
pub record Paired (hart : ℕ) (m : Machines) : Type 0 where
  -- the starts whose uses had their issue handshake
  pub answered : ℕ → Bool
  pub order : InOrder m.core
  pub entries : Each IsEntry m.core.flight
  pub behind : Pairs Behind m.core.flight
  pub below : Each (λ u. u.start < m.engine.cycle) m.engine.uses
  pub uses : Each (IsUse answered) m.engine.uses
  pub older : Pairs Older m.engine.uses
  pub match : Match hart (live_entries m.core.flight) (live_uses answered m.engine.uses)
  pub offers
      : IfSome m.engine.issue_turns.waiting
      (λ t. Each (Offers answered hart m.core.flight t.owner) m.engine.uses)
  pub results : IfSome m.engine.result_waiting (λ start. Each (HasResult start) m.engine.uses)
  pub params : m.core.params ≡ m.engine.params
