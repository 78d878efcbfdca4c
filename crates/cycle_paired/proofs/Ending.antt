-- Retirement and dispatch.
use Rattle.std.proofs.Common.{◌≡◌, ◌++◌, ℕ, Bool, true, false, cond, List, [], ◌∷◌, drop, Option, Some, refl, sym, ap, ◌∙◌, subst, append-nil}
use Rattle.std.specs.Prelude.{is_some, ⊤}
use Rattle.rv32_table.specs.declared.instr.Kind.{Kind}
use Rattle.rv32_table.specs.declared.instr.Kind.TheVariants as row
use Rattle.rv32_table.specs.Instr.{kind_of}
use Rattle.inorder_machine.specs.declared.stop.StopCause.{StopCause}
use Rattle.inorder_machine.specs.Execute.{cause_of}
use Rattle.cycle_spec.specs.declared.entry.Entry.{Entry}
use Rattle.cycle_spec.specs.declared.entry.EntryKind.{EntryKind}
use Rattle.cycle_spec.specs.declared.entry.EntryKind.TheVariants.{Local, Unknown, Nowhere}
use Rattle.cycle_spec.specs.declared.use_of.Use.{Use}
use Rattle.cycle_spec.specs.Flight.{is_unknown_kind, is_row, is_open, stop_row, stop_by, kind_at}
use Rattle.cycle_spec.specs.Core.{entry_at}
use Rattle.cycle_lists.specs.Lists.{Each, Pairs}
use Rattle.cycle_lists.proofs.Tests.{not-both, false-or}
use Rattle.cycle_lists.proofs.Every.{each, Each-drop, Each-push, Pairs-drop, Pairs-push}
use Rattle.cycle_lists.proofs.Filters.{filter-gone, filter-past}
use Rattle.cycle_lists.proofs.Order.{dropped}
use Rattle.cycle_paired.specs.Paired.{is_live, live_entries, live_uses, Match, is_stop_row, IsEntry, Behind, open_word}
use Rattle.cycle_paired.proofs.Facts.{Joint, done-dead, open-undone}

-- the first entry is done, if there is one
abbrev pub HeadDone : List Entry → Type 0
HeadDone [] = ⊤
HeadDone (e ∷ es) = e.done ≡ true

live-rest : (es : List Entry) → HeadDone es → live_entries (drop 1 es) ≡ live_entries es
live-rest [] h = refl
live-rest (e ∷ es) h = sym (filter-gone is_live e es (done-dead e h))

pub retiring : (hart n id c : ℕ) (answered : ℕ → Bool) (es : List Entry) (us : List Use) → HeadDone es → Joint hart n id c answered es us → Joint hart n id c answered (drop 1 es) us
retiring hart n id c answered es us h j = record {
  kept = dropped n id 1 es j.kept;
  entries = Each-drop IsEntry 1 es j.entries;
  behind = Pairs-drop Behind 1 es j.behind;
  below = j.below;
  uses = j.uses;
  older = j.older;
  match = subst (λ l. Match hart l (live_uses answered us)) (sym (live-rest es h)) j.match;
}

pub open_word-rest : (es : List Entry) → HeadDone es → Each IsEntry es → open_word (drop 1 es) ≡ open_word es
open_word-rest [] h k = refl
open_word-rest (e ∷ es) h k = sym (ap (λ t. cond t (Some (e.id, e.word)) (open_word es)) (false-or (is_open e) (λ o. not-both e.done (open-undone e k.0 o) h)))

-- ---- a new entry

stops-from : (k : Kind) (cause : StopCause) → is_stop_row k ≡ true → is_some (stop_row k cause) ≡ true
stops-from row.Stop cause h = refl
stops-from row.Alu cause h = cc
stops-from row.Load cause h = cc
stops-from row.Store cause h = cc
stops-from row.Control cause h = cc
stops-from row.Fence cause h = cc

stops-kind : (k : EntryKind) → is_row is_stop_row k ≡ true → is_some (stop_by k) ≡ true
stops-kind (Local i) h = stops-from (kind_of i) (cause_of i.row) h
stops-kind Unknown h = cc
stops-kind Nowhere h = cc

entry-new : (answer : ℕ → ℕ → ℕ) (n id pc : ℕ) (word : Option ℕ) → IsEntry (entry_at answer n id pc word)
entry-new answer n id pc word = record {
  answered = λ h. cc;
  released = λ h. cc;
  done_released = λ u d. cc;
  done_given = λ u d. cc;
  unsent = λ h. refl;
  stores = λ h. cc;
  stops = λ h. stops-kind (kind_at word) h;
  refused = λ u h. runs (kind_at word) u h;
}
  where
    runs : (k : EntryKind) → is_unknown_kind k ≡ true → is_some (stop_by k) ≡ true → false ≡ true
    runs (Local i) u h = u
    runs Unknown u h = h
    runs Nowhere u h = u

pub record Dispatched (hart : ℕ) (answered : ℕ → Bool) (es : List Entry) (us : List Use) : Type 0 where
  pub entries : Each IsEntry es
  pub behind : Pairs Behind es
  pub match : Match hart (live_entries es) (live_uses answered us)

pub dispatching : (answer : ℕ → ℕ → ℕ) (n id pc : ℕ) (word : Option ℕ) (hart : ℕ) (answered : ℕ → Bool) (es : List Entry) (us : List Use) → Each IsEntry es → Pairs Behind es → Match hart (live_entries es) (live_uses answered us)
    → Dispatched hart answered (es ++ entry_at answer n id pc word ∷ []) us
dispatching answer n id pc word hart answered es us ok b m =
    let new = entry_at answer n id pc word in
    record {
      entries = Each-push IsEntry es new ok (entry-new answer n id pc word);
      behind = Pairs-push Behind es new b (each (λ x. Behind x new) es (λ x. record { safe = λ h. cc; answered = λ h. cc }));
      match = subst (λ l. Match hart l (live_uses answered us)) (sym (filter-past is_live es new [] refl ∙ append-nil (live_entries es))) m;
    }

pub open_word-push : (es : List Entry) (e : Entry) (k : ℕ × ℕ) → open_word es ≡ Some k → open_word (es ++ e ∷ []) ≡ Some k
open_word-push [] e k h = cc
open_word-push (x ∷ xs) e k h = go (is_open x) h (λ r. open_word-push xs e k r)
  where
    go : (t : Bool) → cond t (Some (x.id, x.word)) (open_word xs) ≡ Some k → (open_word xs ≡ Some k → open_word (xs ++ e ∷ []) ≡ Some k) → cond t (Some (x.id, x.word)) (open_word (xs ++ e ∷ [])) ≡ Some k
    go true h ih = h
    go false h ih = ih h
