-- The walk along what is told is the walk along the instructions of the machine that runs ahead.
use Rattle.std.proofs.Common.{◌≡◌, ◌||◌, ℕ, true, false, List, [], ◌∷◌, map, Option, Some, None, refl, sym, ap, ◌∙◌}
use Rattle.std.specs.Prelude.{is_some}
use Rattle.std.specs.List.{list_any}
use Rattle.xif_image.specs.Region.{Region, word_at}
use Rattle.inorder_machine.specs.declared.stop.StopCause.{StopCause}
use Rattle.inorder_machine.specs.Machine.{Extension, State, state_after}
use Rattle.xif_session.specs.declared.fact.Response.{Response}
use Rattle.xif_session.specs.Facts.{is_refused}
use Rattle.cycle_spec.specs.declared.entry.Entry.{Entry}
use Rattle.cycle_spec.specs.Flight.{is_row, is_control_row, is_open, is_stopping, kind_at, stop_by}
use Rattle.cycle_spec.specs.Core.{word_of, word_or_zero}
use Rattle.cycle_lists.specs.Lists.{Each}
use Rattle.cycle_lists.proofs.Tests.{or-cases, or-false_left, or-false_right, not-both, false-or}
use Rattle.cycle_paired.specs.Paired.{IsEntry}
use Rattle.cycle_paired.proofs.Facts.{open-unknown, open-none}
use Rattle.ahead_spec.specs.Walk.{Item, entries, outcome, stepped, along, Walked}
use Rattle.ahead_spec.specs.Invariant.{Agrees}
use Rattle.ahead_laws.proofs.Outcomes.{word_of-at}
use Rattle.eager_laws.specs.Flights.{is_transfer, outcome_along, state_along, told_of}
use Rattle.eager_laws.specs.Eager.{StopsAlong, tells_stop}
use Rattle.eager_laws.proofs.Views.{Tells, awaits-told}
use Rattle.eager_laws.proofs.Refusing.{Refuses}

-- ---- one instruction

pub outcome-told : (x : Extension) (s : State) (e : Entry) → outcome_along x s (told_of e) ≡ outcome x s e.pc e.kind e.word
unfolding outcome
outcome-told x s e = refl

step-told : (x : Extension) (s : State) (e : Entry) → state_after x s (outcome_along x s (told_of e)) ≡ stepped x s e.pc e.kind e.word
unfolding stepped
step-told x s e = ap (state_after x s) (outcome-told x s e)

-- what is told of it is what was fetched
pub tells : (x : Extension) (memory : Region) (s : State) (y : Item) → Agrees x memory s y → Tells y.entry
tells x memory s y g =
    let o = word_at memory y.entry.pc in
    record {
      kind_is = ap (λ k. kind_at (word_of k y.entry.word)) g.kind_is ∙ ap (λ v. kind_at (word_of (kind_at o) v)) g.word_is ∙ ap kind_at (word_of-at o) ∙ sym g.kind_is;
      control = ap (is_row is_control_row) g.kind_is ∙ same o ∙ ap (λ v. is_transfer (Some v)) (sym g.word_is);
    }
  where
    same : (o : Option ℕ) → is_row is_control_row (kind_at o) ≡ is_transfer (Some (word_or_zero o))
    same None = refl
    same (Some v) = refl

-- a row that always stops is known to stop
pub record Knows (e : Entry) : Type 0 where
  pub stops : is_some (stop_by e.kind) ≡ true → is_stopping e ≡ true

pub knows : (x : Extension) (memory : Region) (s : State) (y : Item) → Agrees x memory s y → Knows y.entry
knows x memory s y g = record { stops = λ h. go (stop_by y.entry.kind) refl h }
  where
    go : (o : Option StopCause) → stop_by y.entry.kind ≡ o → is_some o ≡ true → is_stopping y.entry ≡ true
    go None q h = cc
    go (Some cause) q h = g.stop_when cause q

-- one that is known to stop has its response
refused-some : (o : Option Response) → is_some o ≡ false → is_refused o ≡ true → ⊥
refused-some None h k = cc
refused-some (Some r) h k = cc

closed : (e : Entry) → IsEntry e → is_stopping e ≡ true → is_open e ≡ false
closed e ok h = false-or (is_open e) (λ o. refused-some e.response (open-none e o) (ok.refused (open-unknown e o) h))

-- ---- all of them

pub along-told : (x : Extension) (ys : List Item) (s : State) → state_along x s (map told_of (entries ys)) ≡ along x s ys
along-told x [] s = refl
along-told x (y ∷ ys) s = ap (λ t. state_along x t (map told_of (entries ys))) (step-told x s y.entry) ∙ along-told x ys (stepped x s y.entry.pc y.entry.kind y.entry.word)

-- one that is known to stop stops along them
pub stops-along : (x : Extension) (memory : Region) (ys : List Item) (s : State) → Walked x (Agrees x memory) s ys → Each IsEntry (entries ys) → list_any is_stopping (entries ys) ≡ true → StopsAlong x s (map told_of (entries ys))
stops-along x memory [] s g ok h = cc
stops-along x memory (y ∷ ys) s g ok h = go y.entry.stop refl h (stops-along x memory ys (stepped x s y.entry.pc y.entry.kind y.entry.word) g.1 ok.1)
  where
    go : (o : Option StopCause) → y.entry.stop ≡ o → (is_some o || list_any is_stopping (entries ys)) ≡ true
        → (list_any is_stopping (entries ys) ≡ true → StopsAlong x (stepped x s y.entry.pc y.entry.kind y.entry.word) (map told_of (entries ys)))
        → StopsAlong x s (map told_of (entries (y ∷ ys)))
    go (Some cause) q k ih = record {
      older = [];
      entry = told_of y.entry;
      younger = map told_of (entries ys);
      here = refl;
      known = awaits-told y.entry (tells x memory s y g.0) ∙ closed y.entry ok.0 (ap is_some q);
      cause = cause;
      stops = outcome-told x s y.entry ∙ g.0.stop_is cause q;
    }
    go None q k ih =
        let r = ih k in
        record {
          older = told_of y.entry ∷ r.older;
          entry = r.entry;
          younger = r.younger;
          here = ap (λ l. told_of y.entry ∷ l) r.here;
          known = r.known;
          cause = r.cause;
          stops = ap (λ t. outcome_along x (state_along x t r.older) r.entry) (step-told x s y.entry) ∙ r.stops;
        }

-- where none is known to stop, none is told to
untold-one : (e : Entry) → Tells e → Knows e → Refuses e → is_stopping e ≡ false → tells_stop (told_of e) ≡ false
untold-one e t k r n =
    false-or (tells_stop (told_of e)) (λ h. not-both (is_stopping e) n
    (or-cases (is_some (stop_by (kind_at (word_of e.kind e.word)))) (is_refused e.response) (is_stopping e ≡ true) h (λ a. k.stops (ap (λ z. is_some (stop_by z)) (sym t.kind_is) ∙ a)) r.stops))

pub untold : (es : List Entry) → Each Tells es → Each Knows es → Each Refuses es → list_any is_stopping es ≡ false → Each (λ e. tells_stop e ≡ false) (map told_of es)
untold [] t k r h = tt
untold (e ∷ es) t k r h = (untold-one e t.0 k.0 r.0 (or-false_left (is_stopping e) (list_any is_stopping es) h), untold es t.1 k.1 r.1 (or-false_right (is_stopping e) (list_any is_stopping es) h))
