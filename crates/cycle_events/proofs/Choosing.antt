-- What the core chooses in each mode.
use Rattle.std.proofs.Common.{◌≡◌, ◌+◌, ◌++◌, ℕ, suc, Bool, true, false, cond, not, List, [], ◌∷◌, length, take, drop, Option, Some, None, refl, sym, ap, ◌∙◌, subst, arith}
use Rattle.std.specs.Prelude.{is_some, IsSome, IfSome}
use Rattle.std.specs.Option.{option_or}
use Rattle.rv32_table.specs.declared.instr.Kind.{Kind}
use Rattle.rv32_table.specs.declared.instr.Kind.TheVariants as row
use Rattle.rv32_table.specs.Instr.{kind_of}
use Rattle.xif_drive.specs.Predictors.{following}
use Rattle.inorder_machine.specs.declared.line.Store.{Store}
use Rattle.inorder_machine.specs.declared.stop.StopCause.{StopCause}
use Rattle.cycle_spec.specs.declared.choices.Choices.{Choices}
use Rattle.cycle_spec.specs.declared.choices.Executed.{Executed}
use Rattle.cycle_spec.specs.declared.choices.Mode.{Mode}
use Rattle.cycle_spec.specs.declared.choices.Mode.TheVariants.{Running, DrainBegins, Draining}
use Rattle.cycle_spec.specs.declared.entry.Entry.{Entry}
use Rattle.cycle_spec.specs.declared.entry.EntryKind.{EntryKind}
use Rattle.cycle_spec.specs.declared.entry.EntryKind.TheVariants.{Local, Unknown, Nowhere}
use Rattle.cycle_spec.specs.declared.log.Cut.{Cut}
use Rattle.cycle_spec.specs.Flight.{is_unknown, is_unknown_kind, is_row, is_store_row, is_control_row, is_stopping, is_safe, is_safe_kind, is_safe_row, count_through, youngest_released}
use Rattle.cycle_spec.specs.State.{Core}
use Rattle.cycle_spec.specs.Choices.{stop_at, retirement, execution, is_any_hit, store_cut, control_cut, presented_entry, offer_in, presentation_of, choices_with, choices_running, choices_by, choices_draining, choices_drain_begins, stay_with, choices_in, choices}
use Rattle.cycle_lists.specs.Lists.{Each, Pairs}
use Rattle.cycle_lists.specs.Order.{Before}
use Rattle.cycle_lists.proofs.Tests.{and-right, not-both, some-is}
use Rattle.cycle_lists.proofs.Every.{Each-from, Each-at, Each-take, Each-append, Pairs-older}
use Rattle.cycle_lists.proofs.Places.{last-found}
use Rattle.cycle_paired.specs.Paired.{IsEntry, Behind}
use Rattle.cycle_paired.proofs.Facts.{accepted-some}
use Rattle.cycle_paired.proofs.Choosing.{Facts, take-through}
use Rattle.cycle_events.specs.Shown.{IsCalm}
use Rattle.cycle_events.proofs.Retired.{Missed}
use Rattle.cycle_events.proofs.Chosen.{kept, GoesOn, LeadsOn, ReadsAt, RetiresAt, Plain, Stored, Turned, IsChosen, shows-it, reads-at, reads-all, all-taken, leads-on, uncut-on, TurnedBy, turned-by, missed-none, no-hits, storeless}

-- ---- the head of a list

record HeadOf (es : List Entry) (e : Entry) : Type 0 where
  rest : List Entry
  here : es ≡ e ∷ rest
  done : e.done ≡ true

head-of : (es : List Entry) → IfSome (retirement es) (HeadOf es)
head-of [] = tt
head-of (e ∷ es) = go e.done refl
  where
    go : (b : Bool) → e.done ≡ b → IfSome (cond b (Some e) None) (HeadOf (e ∷ es))
    go true h = record { rest = es; here = refl; done = h }
    go false h = tt

-- ---- kinds

store-control : (k : Kind) → is_store_row k ≡ true → is_control_row k ≡ false
store-control row.Store h = refl
store-control row.Alu h = cc
store-control row.Load h = cc
store-control row.Control h = cc
store-control row.Fence h = cc
store-control row.Stop h = cc

store-no-control : (k : EntryKind) → is_row is_store_row k ≡ true → is_row is_control_row k ≡ false
store-no-control (Local i) h = store-control (kind_of i) h
store-no-control Unknown h = cc
store-no-control Nowhere h = cc

-- ---- running

abbrev execute_or : Core → Option Cut → Option Executed
execute_or w hit = cond (is_some hit) None (execution w w.flight)

abbrev chosen_by : Core → Option Cut → Choices
chosen_by w hit = choices_with w (retirement w.flight) (execute_or w hit) (option_or hit (control_cut (execute_or w hit) w.flight))

-- a store of the entry that retires cuts
record StoredBy (es : List Entry) (c : Cut) : Type 0 where
  entry : Entry
  rest : List Entry
  here : es ≡ entry ∷ rest
  retires : retirement es ≡ Some entry
  done : entry.done ≡ true
  keep : c.keep ≡ 1
  target : c.target ≡ following entry.pc
  stores : IsSome entry.store

abbrev cut_to : ℕ → Cut
cut_to target = record { keep = 1; target = target }

stored-by : (es : List Entry) (c : Cut) → store_cut (retirement es) (drop 1 es) ≡ Some c → StoredBy es c
stored-by [] c h = cc
stored-by (e ∷ es) c h = go e.done refl h
  where
    has : (o : Option Store) → is_any_hit o es ≡ true → IsSome o
    has None k = cc
    has (Some s) k = refl

    by : e.done ≡ true → (b : Bool) → is_any_hit e.store es ≡ b → cond b (Some (cut_to (following e.pc))) None ≡ Some c → StoredBy (e ∷ es) c
    by d true q k =
        let same = some-is (cut_to (following e.pc)) c k in
        record { entry = e; rest = es; here = refl; retires = ap (λ b. cond b (Some e) None) d; done = d; keep = ap (λ z. z.keep) (sym same); target = ap (λ z. z.target) (sym same); stores = has e.store q }
    by d false q k = cc

    go : (b : Bool) → e.done ≡ b → store_cut (cond b (Some e) None) es ≡ Some c → StoredBy (e ∷ es) c
    go true d k = by d (is_any_hit e.store es) refl k
    go false d k = cc

-- and where it doesn't
record MissesAt (es : List Entry) (e : Entry) : Type 0 where
  rest : List Entry
  here : es ≡ e ∷ rest
  done : e.done ≡ true
  missed : Each (Missed e.store) rest

misses-at : (es : List Entry) → store_cut (retirement es) (drop 1 es) ≡ None → IfSome (retirement es) (MissesAt es)
misses-at [] h = tt
misses-at (e ∷ es) h = go e.done refl h
  where
    hit : (b : Bool) → is_any_hit e.store es ≡ b → cond b (Some (cut_to (following e.pc))) None ≡ None → is_any_hit e.store es ≡ false
    hit true q k = cc
    hit false q k = q

    go : (b : Bool) → e.done ≡ b → store_cut (cond b (Some e) None) es ≡ None → IfSome (cond b (Some e) None) (MissesAt (e ∷ es))
    go true d k = record { rest = es; here = refl; done = d; missed = no-hits e.store es (hit (is_any_hit e.store es) refl k) }
    go false d k = tt

if-some : {A : Type 0} (P Q : A → Type 0) (o : Option A) → ((x : A) → P x → Q x) → IfSome o P → IfSome o Q
if-some P Q None k h = tt
if-some P Q (Some x) k h = k x h

stored-chosen : (w : Core) (c : Cut) → w.mode ≡ Running → Facts w.flight → Each GoesOn w.flight → StoredBy w.flight c → IsChosen w (chosen_by w (Some c))
stored-chosen w c run f g s =
    let e = s.entry in
    let one : take c.keep w.flight ≡ e ∷ [] = ap (λ n. take n w.flight) s.keep ∙ ap (take 1) s.here in
    let ok = Each-at IsEntry w.flight [] e s.rest s.here f.ok in
    let control = store-no-control e.kind (ok.stores s.stores) in
    let goes = Each-at GoesOn w.flight [] e s.rest s.here g in
    record {
      shows = shows-it w (presented_entry w.params.split (offer_in w.flight) w.flight);
      execute = tt;
      retire = subst (λ o. IfSome o (RetiresAt w (chosen_by w (Some c)))) (sym s.retires) (record { done = s.done; rest = []; here = one; missed = tt });
      drained = λ n. absurd (n run);
      leads = λ n. tt;
      ends = λ _. Stored c e refl one refl s.done (s.target ∙ sym (goes.next control s.done));
    }

retires-uncut : (w : Core) (execute : Option Executed) → IfSome (retirement w.flight) (MissesAt w.flight) → IfSome (retirement w.flight) (RetiresAt w (choices_with w (retirement w.flight) execute None))
retires-uncut w execute h = if-some (MissesAt w.flight) (RetiresAt w (choices_with w (retirement w.flight) execute None)) (retirement w.flight) (λ e m. record { done = m.done; rest = m.rest; here = m.here; missed = m.missed }) h

take-more : (n : ℕ) (e : Entry) (es : List Entry) → take (n + 1) (e ∷ es) ≡ e ∷ take n es
take-more n e es = let k : n + 1 ≡ suc n = omega arith in ap (λ m. take m (e ∷ es)) k

retires-turned : (w : Core) (execute : Option Executed) (c : Cut) (n : ℕ) → c.keep ≡ n + 1 → IfSome (retirement w.flight) (MissesAt w.flight) → IfSome (retirement w.flight) (RetiresAt w (choices_with w (retirement w.flight) execute (Some c)))
retires-turned w execute c n h k =
    if-some (MissesAt w.flight) (RetiresAt w (choices_with w (retirement w.flight) execute (Some c))) (retirement w.flight)
    (λ e m. record { done = m.done; rest = take n m.rest; here = ap (λ z. take z w.flight) h ∙ ap (take (n + 1)) m.here ∙ take-more n e m.rest; missed = Each-take (Missed e.store) n m.rest m.missed }) k

missed-chosen : (w : Core) → w.mode ≡ Running → Facts w.flight → Each GoesOn w.flight → store_cut (retirement w.flight) (drop 1 w.flight) ≡ None → IsChosen w (chosen_by w None)
missed-chosen w run f g h = go (execution w w.flight) (reads-all w f.before)
  where
    es : List Entry
    es = w.flight

    misses : IfSome (retirement es) (MissesAt es)
    misses = misses-at es h

    uncut : (x : Executed) → ReadsAt w es x → control_cut (Some x) es ≡ None → IsChosen w (choices_with w (retirement es) (Some x) None)
    uncut x r k =
        let on = leads-on w es x g r (λ c line o. uncut-on x es k c line o) in
        record {
          shows = shows-it w (presented_entry w.params.split (offer_in es) es);
          execute = r;
          retire = retires-uncut w (Some x) misses;
          drained = λ n. absurd (n run);
          leads = λ n. on;
          ends = λ _. Plain refl refl on;
        }

    turned : (x : Executed) → ReadsAt w es x → (c : Cut) → TurnedBy es x c → IsChosen w (choices_with w (retirement es) (Some x) (Some c))
    turned x r c t =
        let b : Pairs Before (r.older ++ x.entry ∷ r.younger) = subst (Pairs Before) r.here f.before in
        let one : take c.keep es ≡ r.older ++ x.entry ∷ [] = ap (λ n. take n es) t.keep ∙ ap (λ l. take (count_through x.entry.seq l) l) r.here ∙ take-through r.older x.entry r.younger b in
        let place : ReadsAt w (take c.keep es) x = record { older = r.older; younger = []; here = one; reads = r.reads } in
        record {
          shows = shows-it w (presented_entry w.params.split (offer_in es) es);
          execute = place;
          retire = retires-turned w (Some x) c _ t.keep misses;
          drained = λ n. absurd (n run);
          leads = λ n. absurd (n run);
          ends = λ _. Turned c x place t.line refl refl refl t.outcome t.target;
        }

    by : (x : Executed) → ReadsAt w es x → (c : Option Cut) → control_cut (Some x) es ≡ c → IsChosen w (choices_with w (retirement es) (Some x) c)
    by x r None k = uncut x r k
    by x r (Some c) k = turned x r c (turned-by es x c k)

    go : (o : Option Executed) → IfSome o (ReadsAt w es) → IsChosen w (choices_with w (retirement es) o (control_cut o es))
    go None r = record {
      shows = shows-it w (presented_entry w.params.split (offer_in es) es);
      execute = tt;
      retire = retires-uncut w None misses;
      drained = λ n. absurd (n run);
      leads = λ n. tt;
      ends = λ _. Plain refl refl tt;
    }
    go (Some x) r = by x r (control_cut (Some x) es) refl

running-chosen : (w : Core) → w.mode ≡ Running → Facts w.flight → Each GoesOn w.flight → IsChosen w (choices_running w)
running-chosen w run f g = go (store_cut (retirement w.flight) (drop 1 w.flight)) refl
  where
    go : (hit : Option Cut) → store_cut (retirement w.flight) (drop 1 w.flight) ≡ hit → IsChosen w (chosen_by w hit)
    go None h = missed-chosen w run f g h
    go (Some c) h = stored-chosen w c run f g (stored-by w.flight c h)

-- ---- draining

drain-retires : (w : Core) (k : ℕ) (ch : Choices) → kept ch w.flight ≡ take k w.flight → Each IsEntry (take k w.flight) → Each IsCalm (take k w.flight) → IfSome (retirement (take k w.flight)) (RetiresAt w ch)
drain-retires w k ch here ok calm =
    if-some (HeadOf (take k w.flight)) (RetiresAt w ch) (retirement (take k w.flight))
    (λ e h. record {
      done = h.done;
      rest = h.rest;
      here = here ∙ h.here;
      missed = missed-none e.store h.rest (storeless e (Each-at IsEntry (take k w.flight) [] e h.rest h.here ok) (Each-at IsCalm (take k w.flight) [] e h.rest h.here calm).no_store);
    }) (head-of (take k w.flight))

drain-leads : (w : Core) (es : List Entry) (o : Option Executed) → Each GoesOn es → Each IsCalm es → IfSome o (ReadsAt w es) → IfSome o LeadsOn
drain-leads w es o g c h =
    if-some (ReadsAt w es) LeadsOn o (λ x r. leads-on w es x g r (λ t line q. absurd (not-both x.entry.done r.reads.not_done ((Each-at IsCalm es r.older x.entry r.younger r.here c).control t)))) h

drain-chosen : (w : Core) (k : ℕ) (ch : Choices) → (w.mode ≡ Running → ⊥) → Facts w.flight → Each GoesOn w.flight → kept ch w.flight ≡ take k w.flight → Each IsCalm (take k w.flight) → ch.present ≡ (choices_draining w k).present → ch.execute ≡ execution w (take k w.flight) → ch.retire ≡ retirement (take k w.flight) → IsChosen w ch
drain-chosen w k ch idle f g here calm p x r =
    let reads = reads-at w k f.before in
    record {
      shows = subst (λ o. IfSome o (λ x. x ≡ presentation_of w x.entry)) (sym p) (shows-it w (presented_entry w.params.split None (take k w.flight)));
      execute = subst (λ o. IfSome o (ReadsAt w (kept ch w.flight))) (sym x) (subst (λ l. IfSome (execution w (take k w.flight)) (ReadsAt w l)) (sym here) reads);
      retire = subst (λ o. IfSome o (RetiresAt w ch)) (sym r) (drain-retires w k ch here (Each-take IsEntry k w.flight f.ok) calm);
      drained = λ n. subst (Each IsCalm) (sym here) calm;
      leads = λ n. subst (λ o. IfSome o LeadsOn) (sym x) (drain-leads w (take k w.flight) (execution w (take k w.flight)) (Each-take GoesOn k w.flight g) calm reads);
      ends = λ q. absurd (idle q);
    }

-- what is older than a released use is safe, and so neither a store nor a transfer to be done
calm-row : (k : Kind) (done : Bool) → is_safe_row k done ≡ true → (is_store_row k ≡ false) × (is_control_row k ≡ true → done ≡ true)
calm-row row.Store done h = cc
calm-row row.Alu done h = (refl, λ q. cc)
calm-row row.Load done h = (refl, λ q. cc)
calm-row row.Control done h = (refl, λ q. h)
calm-row row.Fence done h = (refl, λ q. cc)
calm-row row.Stop done h = (refl, λ q. cc)

calm-kind : (k : EntryKind) (e : Entry) → is_safe_kind k e ≡ true → (is_row is_store_row k ≡ false) × (is_row is_control_row k ≡ true → e.done ≡ true)
calm-kind (Local i) e h = calm-row (kind_of i) e.done h
calm-kind Unknown e h = (refl, λ q. cc)
calm-kind Nowhere e h = cc

safe-calm : (e : Entry) → is_safe e ≡ true → IsCalm e
safe-calm e h = let k = calm-kind e.kind e (and-right (not (is_stopping e)) (is_safe_kind e.kind e) h) in record { no_store = k.0; control = k.1 }

unknown-calm : (e : Entry) → is_unknown e ≡ true → IsCalm e
unknown-calm e u = let k = go e.kind u in record { no_store = k.0; control = k.1 }
  where
    go : (k : EntryKind) → is_unknown_kind k ≡ true → (is_row is_store_row k ≡ false) × (is_row is_control_row k ≡ true → e.done ≡ true)
    go (Local i) h = cc
    go Unknown h = (refl, λ q. cc)
    go Nowhere h = cc

stay-calm : (es : List Entry) → Facts es → Each IsCalm (take (stay_with (youngest_released es) es) es)
stay-calm es f = go (youngest_released es) refl
  where
    go : (o : Option Entry) → youngest_released es ≡ o → Each IsCalm (take (stay_with o es) es)
    go None h = tt
    go (Some p) h =
        let l = last-found (λ e. e.released) es p h in
        let b : Pairs Before (l.older ++ p ∷ l.younger) = subst (Pairs Before) l.here f.before in
        let k : Pairs Behind (l.older ++ p ∷ l.younger) = subst (Pairs Behind) l.here f.behind in
        let ok = Each-at IsEntry es l.older p l.younger l.here f.ok in
        let olders = Each-from (λ x. Behind x p) IsCalm l.older (λ x q. safe-calm x (q.safe l.passes)) (Pairs-older Behind l.older p l.younger k) in
        let last = unknown-calm p (ok.answered (accepted-some p.response (ok.released l.passes))) in
        subst (λ fs. Each IsCalm (take (count_through p.seq fs) fs)) (sym l.here) (subst (Each IsCalm) (sym (take-through l.older p l.younger b)) (Each-append IsCalm l.older (p ∷ []) olders (last, tt)))

-- ---- each cycle but that of the stop

no-run : (m : Mode) (w : Core) → w.mode ≡ m → (m ≡ Running → ⊥) → w.mode ≡ Running → ⊥
no-run m w h n q = n (sym h ∙ q)

pub chosen : (w : Core) → Facts w.flight → Each GoesOn w.flight → (w.mode ≡ Draining → Each IsCalm w.flight) → (choices w).stop ≡ None → IsChosen w (choices w)
chosen w f g calm h = go w.mode refl h
  where
    by : w.mode ≡ Running → (o : Option StopCause) → (choices_by w o).stop ≡ None → IsChosen w (choices_by w o)
    by q None k = running-chosen w q f g
    by q (Some cause) k = cc

    go : (m : Mode) → w.mode ≡ m → (choices_in w m).stop ≡ None → IsChosen w (choices_in w m)
    go Running q k = by q (stop_at w.flight) k
    go DrainBegins q k =
        let n = stay_with (youngest_released w.flight) w.flight in
        drain-chosen w n (choices_drain_begins w n) (no-run DrainBegins w q (λ z. cc)) f g refl (stay-calm w.flight f) refl refl refl
    go Draining q k =
        drain-chosen w (length w.flight) (choices_draining w (length w.flight)) (no-run Draining w q (λ z. cc)) f g (sym (all-taken w.flight)) (Each-take IsCalm (length w.flight) w.flight (calm q)) refl refl refl
