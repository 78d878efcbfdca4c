-- What holds of the history between two cycles, and how it goes over a retirement and a dispatch.
use Rattle.std.proofs.Common.{◌≡◌, ◌++◌, if◌then◌else◌, ℕ, suc, Bool, true, false, Option, Some, None, IfSome, List, [], ◌∷◌, filter, reverse, refl, sym, ap, ◌∙◌, subst, append-nil, append_assoc}
use Rattle.std.specs.Prelude.{is_none}
use Rattle.std.specs.List.{cons_option}
use Rattle.std.proofs.lemmas.List.Elements.{filter_map-append}
use Rattle.rv32_table.specs.declared.instr.Instr.{Instr}
use Rattle.rv32_table.specs.Instr.{decoded}
use Rattle.xif_signals.specs.declared.bus.Bus.{Bus}
use Rattle.xif_session.specs.Facts.{is_accepted as is_response_accepted}
use Rattle.inorder_machine.specs.Machine.{Extension, State}
use Rattle.cycle_spec.specs.declared.entry.Entry.{Entry}
use Rattle.cycle_spec.specs.declared.entry.EntryKind.{EntryKind}
use Rattle.cycle_spec.specs.Flight.{is_unknown_kind, kind_at, kind_by}
use Rattle.cycle_spec.specs.Core.{word_or_zero, with_dispatch}
use Rattle.cycle_lists.specs.Lists.{Each}
use Rattle.cycle_lists.proofs.Tests.{not-both}
use Rattle.engine_history.specs.Lives.{Life, latest, lives_of}
use Rattle.cycle_history.specs.Words.{word_in, next_word, unit_words}
use Rattle.cycle_history.specs.Uses.{IsUseOf, AreUsesOf, is_kept, results_of}
use Rattle.cycle_history.proofs.Results.{Owned}
use Rattle.cycle_history.proofs.Words.{Words}
use Rattle.cycle_history.proofs.Flying.{life_at, flying, is_counted, behind, Walk, walk-push, reverse-cons}

-- a use that had its result, of an instruction in flight
pub record DoneUse (x : Extension) (session : List Bus) (s : State) (e : Entry) : Type 0 where
  pub life : Life
  pub latest_is : latest (record { hart = 0; id = e.id }) (lives_of session) ≡ Some life
  pub kept : is_kept life ≡ true
  pub use' : IsUseOf x session life (record { word = e.word; state = s })

abbrev pub Done : Extension → List Bus → State → Entry → Type 0
Done x session s e = e.done ≡ true → is_response_accepted e.response ≡ true → DoneUse x session s e

-- The accepted uses that aren't killed are those of the words that retired and of the accepted
-- instructions in flight.
pub record Lists (x : Extension) (start : State) (session : List Bus) (count : ℕ) (now : State) (es : List Entry) : Type 0 where
  pub older : List Life
  pub split : filter is_counted (lives_of session) ≡ reverse (flying (lives_of session) es) ++ older
  pub past : AreUsesOf x session older (unit_words x count start)
  pub kept : Each (λ l. is_kept l ≡ true) older
  pub done : Walk x (Done x session) now es

pub record Hist (x : Extension) (start : State) (session : List Bus) (count : ℕ) (now : State) (es : List Entry) : Type 0 where
  pub lists : Lists x start session count now es
  pub owned : Each (Owned session) (results_of session)
  pub words : Words session

-- ---- the word of the oldest instruction

pub word-unknown : (s : State) (o : Option ℕ) (k : EntryKind) (word : ℕ) → k ≡ kind_at o → word ≡ word_or_zero o → is_unknown_kind k ≡ true → word_in s o ≡ record { word = word; state = s } ∷ []
word-unknown s None k word h w u = absurd (not-both (is_unknown_kind k) (ap is_unknown_kind h) u)
word-unknown s (Some n) k word h w u = go (decoded n) refl
  where
    go : (d : Option Instr) → decoded n ≡ d → word_in s (Some n) ≡ record { word = word; state = s } ∷ []
    go None q = ap (λ d. if is_none d then record { word = n; state = s } ∷ [] else []) q ∙ ap (λ v. record { word = v; state = s } ∷ []) (sym w)
    go (Some i) q = absurd (not-both (is_unknown_kind k) (ap is_unknown_kind h ∙ ap (λ d. is_unknown_kind (kind_by d)) q) u)

pub word-other : (s : State) (o : Option ℕ) (k : EntryKind) → k ≡ kind_at o → is_unknown_kind k ≡ false → word_in s o ≡ []
word-other s None k h u = refl
word-other s (Some n) k h u = go (decoded n) refl
  where
    go : (d : Option Instr) → decoded n ≡ d → word_in s (Some n) ≡ []
    go None q = absurd (not-both (is_unknown_kind k) u (ap is_unknown_kind h ∙ ap (λ d. is_unknown_kind (kind_by d)) q))
    go (Some i) q = ap (λ d. if is_none d then record { word = n; state = s } ∷ [] else []) q

-- ---- the oldest instruction retires

-- its word is that of the in-order machine
pub record Oldest (x : Extension) (start : State) (count : ℕ) (now : State) (e : Entry) : Type 0 where
  pub next : next_word (Rattle.inorder_machine.specs.After.after x count start) ≡ (if is_response_accepted e.response then record { word = e.word; state = now } ∷ [] else [])
  pub done : e.done ≡ true

pub lists-retired : (x : Extension) (start : State) (session : List Bus) (count : ℕ) (now : State) (e : Entry) (es : List Entry) → Oldest x start count now e → Lists x start session count now (e ∷ es) → Lists x start session (suc count) (behind x now e) es
lists-retired x start session count now e es o h = go (is_response_accepted e.response) refl
  where
    go : (t : Bool) → is_response_accepted e.response ≡ t → Lists x start session (suc count) (behind x now e) es
    go true a =
        let d = h.done.0 o.done a in
        let ls = lives_of session in
        let at : life_at ls e ≡ Some d.life = ap (λ t. if t then latest (record { hart = 0; id = e.id }) ls else None) a ∙ d.latest_is in
        let words : unit_words x (suc count) start ≡ record { word = e.word; state = now } ∷ unit_words x count start = ap (λ w. w ++ unit_words x count start) (o.next ∙ ap (λ t. if t then record { word = e.word; state = now } ∷ [] else []) a) in
        record {
          older = d.life ∷ h.older;
          split = h.split ∙ ap (λ q. reverse (cons_option q (flying ls es)) ++ h.older) at ∙ ap (λ q. q ++ h.older) (reverse-cons d.life (flying ls es)) ∙ append_assoc (reverse (flying ls es)) (d.life ∷ []) h.older;
          past = subst (AreUsesOf x session (d.life ∷ h.older)) (sym words) (d.use', h.past);
          kept = (d.kept, h.kept);
          done = h.done.1;
        }
    go false a =
        let ls = lives_of session in
        let at : life_at ls e ≡ None = ap (λ t. if t then latest (record { hart = 0; id = e.id }) ls else None) a in
        let words : unit_words x (suc count) start ≡ unit_words x count start = ap (λ w. w ++ unit_words x count start) (o.next ∙ ap (λ t. if t then record { word = e.word; state = now } ∷ [] else []) a) in
        record {
          older = h.older;
          split = h.split ∙ ap (λ q. reverse (cons_option q (flying ls es)) ++ h.older) at;
          past = subst (AreUsesOf x session h.older) (sym words) h.past;
          kept = h.kept;
          done = h.done.1;
        }

-- ---- another one is dispatched

pub lists-dispatched : (x : Extension) (start : State) (session : List Bus) (count : ℕ) (now : State) (o : Option Entry) (es : List Entry) → IfSome o (λ e. (e.response ≡ None) × (e.done ≡ false)) → Lists x start session count now es → Lists x start session count now (with_dispatch o es)
lists-dispatched x start session count now None es f h = h
lists-dispatched x start session count now (Some e) es f h =
    let ls = lives_of session in
    let at : life_at ls e ≡ None = ap (λ q. if is_response_accepted q then latest (record { hart = 0; id = e.id }) ls else None) f.0 in
    let same : flying ls (es ++ e ∷ []) ≡ flying ls es = filter_map-append (life_at ls) es (e ∷ []) ∙ ap (λ q. flying ls es ++ cons_option q []) at ∙ append-nil (flying ls es) in
    record {
      older = h.older;
      split = h.split ∙ ap (λ q. reverse q ++ h.older) (sym same);
      past = h.past;
      kept = h.kept;
      done = walk-push x (Done x session) es e now (λ s d. absurd (not-both e.done f.1 d)) h.done;
    }
