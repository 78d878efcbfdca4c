-- What the core chooses for the commit channel, in facts: a kill is for the oldest use that waits
-- for a decision.
use Rattle.std.proofs.Common.{◌≡◌, ◌==◌, ◌&&◌, ◌||◌, ◌++◌, Bool, true, false, if◌then◌else◌, not, List, [], ◌∷◌, take, drop, Option, Some, None, refl, sym, ap, ◌∙◌, subst}
use Rattle.std.specs.Prelude.{find, is_some, IfSome}
use Rattle.std.specs.List.{list_any}
use Rattle.std.specs.Option.{option_or, option_and_then}
use Rattle.std.proofs.lemmas.List.{take-append-drop}
use Rattle.rv32_table.specs.declared.instr.Kind.{Kind}
use Rattle.rv32_table.specs.declared.instr.Kind.TheVariants as row
use Rattle.rv32_table.specs.Instr.{kind_of}
use Rattle.xif_drive.specs.Predictors.{following}
use Rattle.inorder_machine.specs.declared.line.Store.{Store}
use Rattle.inorder_machine.specs.declared.line.Stepped.{Stepped}
use Rattle.inorder_machine.specs.declared.line.Stepped.TheVariants.{Retired, Stop}
use Rattle.inorder_machine.specs.declared.stop.StopCause.{StopCause}
use Rattle.xif_session.specs.Facts.{is_accepted}
use Rattle.cycle_spec.specs.declared.choices.Choices.{Choices}
use Rattle.cycle_spec.specs.declared.choices.Executed.{Executed}
use Rattle.cycle_spec.specs.declared.choices.Mode.{Mode}
use Rattle.cycle_spec.specs.declared.choices.Mode.TheVariants.{Running, DrainBegins, Draining}
use Rattle.cycle_spec.specs.declared.entry.Entry.{Entry}
use Rattle.cycle_spec.specs.declared.entry.EntryKind.{EntryKind}
use Rattle.cycle_spec.specs.declared.entry.EntryKind.TheVariants.{Local, Unknown, Nowhere}
use Rattle.cycle_spec.specs.declared.log.Cut.{Cut}
use Rattle.cycle_spec.specs.Flight.{is_row, is_control, is_control_row, is_store_row, is_unknown, is_unknown_kind, is_open, is_pending, is_stopping, count_through, may_execute_kind, are_sources_here, is_held_back, ready_oldest, youngest_released}
use Rattle.cycle_spec.specs.State.{Core}
use Rattle.cycle_spec.specs.Choices.{stop_at, retirement, execution, executed_entry, executed_kind, outcome_of, is_any_hit, store_cut, transfer_cut, control_cut, offer_in, kill_among, choices_with, choices_running, choices_stopping, choices_by, choices_in, choices, stay_with}
use Rattle.cycle_spec.specs.Core.{cut_step, drain_step}
use Rattle.cycle_lists.specs.Lists.{Each, Pairs, FirstAt}
use Rattle.cycle_lists.specs.Order.{Before}
use Rattle.cycle_lists.proofs.Tests.{and-left, and-right, and-false, not-both, not-in, false-or, some-is}
use Rattle.cycle_lists.proofs.Every.{Each-both, Each-append, Each-front, Each-at, Pairs-older}
use Rattle.cycle_lists.proofs.Places.{any-none, last-found}
use Rattle.cycle_paired.specs.Paired.{IsEntry, Behind}
use Rattle.cycle_paired.proofs.Facts.{safe-accepted}
use Rattle.cycle_paired.proofs.Choosing.{Facts, CertainAt, Way, Quiet, Releases, Cuts, Presents, ReadyAt, ready-at, take-through, sound}

-- a use that was accepted before a released one is released
abbrev pub InOrder : Entry → Entry → Type 0
InOrder x y = y.released ≡ true → is_accepted x.response ≡ true → x.released ≡ true

abbrev pub IsCalm : Entry → Type 0
IsCalm e = is_pending e ≡ false

-- what the commit channel carries
pub data Commits (es : List Entry) (ch : Choices) : Type 0 where
  Nothing : ch.kill ≡ None → ch.release ≡ None → Commits es ch
  ARelease : (p : Entry) → ch.kill ≡ None → ch.release ≡ Some p → CertainAt es p → Commits es ch
  AKill : (kept gone : List Entry) → es ≡ kept ++ gone → (v : Entry) → ch.kill ≡ Some v → kill_among gone ch.offer ≡ Some v → Each IsCalm kept → Commits es ch

pub record Chosen (split : Bool) (es : List Entry) (ch : Choices) : Type 0 where
  pub offer : IfSome ch.offer (FirstAt is_open es)
  pub present : Presents split es ch.offer ch.present
  pub commit : Commits es ch

-- ---- what stays

-- an entry without a response
local-calm : (e : Entry) → IsEntry e → is_unknown e ≡ false → IsCalm e
local-calm e ok n = false-or (is_pending e) (λ k. not-both (is_unknown e) n (ok.answered (and-left (is_some e.response) (not e.released) k)))

-- before a released entry
released-calm : (x p : Entry) → p.released ≡ true → IsEntry x → Behind x p → InOrder x p → IsCalm x
released-calm x p r ok b o = false-or (is_pending x) (λ k.
    let unknown = ok.answered (and-left (is_some x.response) (not x.released) k) in
    not-both x.released (not-in x.released (and-right (is_some x.response) (not x.released) k)) (o r (safe-accepted x unknown (b.safe r))))

stay-calm : (es : List Entry) → Facts es → Pairs InOrder es → Each IsCalm (take (stay_with (youngest_released es) es) es)
stay-calm es f o = go (youngest_released es) refl
  where
    go : (x : Option Entry) → youngest_released es ≡ x → Each IsCalm (take (stay_with x es) es)
    go None h = tt
    go (Some p) h =
        let l = last-found (λ e. e.released) es p h in
        let b : Pairs Before (l.older ++ p ∷ l.younger) = subst (Pairs Before) l.here f.before in
        let k : Pairs Behind (l.older ++ p ∷ l.younger) = subst (Pairs Behind) l.here f.behind in
        let n : Pairs InOrder (l.older ++ p ∷ l.younger) = subst (Pairs InOrder) l.here o in
        let ok : Each IsEntry l.older = Each-front IsEntry l.older (p ∷ l.younger) (subst (Each IsEntry) l.here f.ok) in
        let older : Each IsCalm l.older = Each-both (λ x. IsEntry x × Behind x p) (λ x. InOrder x p) IsCalm l.older (λ x a c. released-calm x p l.passes a.0 a.1 c)
        (Each-both IsEntry (λ x. Behind x p) (λ x. IsEntry x × Behind x p) l.older (λ x a c. (a, c)) ok (Pairs-older Behind l.older p l.younger k)) (Pairs-older InOrder l.older p l.younger n) in
        let own : IsCalm p = ap (λ t. is_some p.response && not t) l.passes ∙ and-false (is_some p.response) in
        subst (λ fs. Each IsCalm (take (count_through p.seq fs) fs)) (sym l.here) (subst (Each IsCalm) (sym (take-through l.older p l.younger b)) (Each-append IsCalm l.older (p ∷ []) older (own, tt)))

store-known : (k : EntryKind) → is_row is_store_row k ≡ true → is_unknown_kind k ≡ false
store-known (Local i) h = refl
store-known Unknown h = cc
store-known Nowhere h = refl

cut-by : (t : Bool) (c d : Cut) → (if t then Some c else None) ≡ Some d → (t ≡ true) × (c ≡ d)
cut-by true c d h = (refl, some-is c d h)
cut-by false c d h = cc

-- a store that retires stays alone
store-calm : (es : List Entry) (c : Cut) → Each IsEntry es → store_cut (retirement es) (drop 1 es) ≡ Some c → Each IsCalm (take c.keep es)
store-calm [] c ok h = cc
store-calm (e ∷ es) c ok h = go e.done h
  where
    go : (d : Bool) → store_cut (if d then Some e else None) es ≡ Some c → Each IsCalm (take c.keep (e ∷ es))
    go false k = cc
    go true k = by e.store refl (cut-by (is_any_hit e.store es) (record { keep = 1; target = following e.pc }) c k)
      where
        by : (o : Option Store) → e.store ≡ o → (is_any_hit e.store es ≡ true) × (record { keep = 1; target = following e.pc } ≡ c) → Each IsCalm (take c.keep (e ∷ es))
        by None q r = let bad : is_any_hit None es ≡ true = sym (ap (λ x. is_any_hit x es) q) ∙ r.0 in cc
        by (Some s) q r =
            subst (λ d. Each IsCalm (take d.keep (e ∷ es))) r.1
            (local-calm e ok.0 (store-known e.kind (ok.0.stores (ap is_some q))), tt)

control-free : (k : Kind) (older : List Entry) → is_control_row k ≡ true → not (is_held_back k older) ≡ true → list_any is_pending older ≡ false
control-free row.Control older c h = not-in (list_any is_pending older) h
control-free row.Alu older c h = cc
control-free row.Load older c h = cc
control-free row.Store older c h = cc
control-free row.Fence older c h = cc
control-free row.Stop older c h = cc

-- a control transfer executes where no older use waits for its decision
control-calm : (w : Core) (x : Executed) (c : Cut) → Facts w.flight → execution w w.flight ≡ Some x → transfer_cut x.entry x.outcome w.flight ≡ Some c → Each IsCalm (take c.keep w.flight)
control-calm w x c f h k = by_ready (ready_oldest w.params.dual_write w.registers w.flight) refl h
  where
    at : (e : Entry) (r : ReadyAt w.params.dual_write w.registers [] w.flight e) (kind : EntryKind) → e.kind ≡ kind → executed_kind w e kind ≡ Some x → Each IsCalm (take c.keep w.flight)
    at e r Unknown q z = cc
    at e r Nowhere q z = cc
    at e r (Local i) q z = by_outcome x.outcome (subst (λ y. transfer_cut y x.outcome w.flight ≡ Some c) (sym same) k)
      where
        same : e ≡ x.entry
        same = ap (λ y. y.entry) (some-is (record { entry = e; outcome = outcome_of w e i }) x z)

        calm : is_control e ≡ true → Each IsCalm (take (count_through e.seq w.flight) w.flight)
        calm t =
            let may : may_execute_kind w.params.dual_write w.registers r.older (Local i) ≡ true = ap (may_execute_kind w.params.dual_write w.registers r.older) (sym q) ∙ and-right (not (e.done || is_stopping e)) _ r.may in
            let free : list_any is_pending r.older ≡ false = control-free (kind_of i) r.older (ap (is_row is_control_row) (sym q) ∙ t) (and-right (are_sources_here w.params.dual_write w.registers r.older i) _ may) in
            let b : Pairs Before (r.older ++ e ∷ r.younger) = subst (Pairs Before) r.here f.before in
            let own : IsCalm e = local-calm e (Each-at IsEntry w.flight r.older e r.younger r.here f.ok) (ap is_unknown_kind q) in
            subst (λ fs. Each IsCalm (take (count_through e.seq fs) fs)) (sym r.here) (subst (Each IsCalm) (sym (take-through r.older e r.younger b)) (Each-append IsCalm r.older (e ∷ []) (any-none is_pending r.older free) (own, tt)))

        by_outcome : (o : Stepped) → transfer_cut e o w.flight ≡ Some c → Each IsCalm (take c.keep w.flight)
        by_outcome (Stop cause) z = cc
        by_outcome (Retired line) z =
            let d = cut-by (is_control e && not (line.next == e.predicted)) _ c z in
            subst (λ y. Each IsCalm (take y.keep w.flight)) d.1 (calm (and-left (is_control e) _ d.0))

    by_ready : (o : Option Entry) → ready_oldest w.params.dual_write w.registers w.flight ≡ o → option_and_then (executed_entry w) o ≡ Some x → Each IsCalm (take c.keep w.flight)
    by_ready None q z = cc
    by_ready (Some e) q z = at e (ready-at w.params.dual_write w.registers [] w.flight e q) e.kind refl z

no-kill : (offer : Option Entry) (v : Entry) → kill_among [] offer ≡ Some v → ⊥
no-kill None v h = cc
no-kill (Some p) v h = cc

running-calm : (w : Core) (v : Entry) → Facts w.flight → (choices_running w).kill ≡ Some v → Each IsCalm (cut_step (choices_running w).cut w.flight)
running-calm w v f k = by_hit (store_cut (retirement w.flight) (drop 1 w.flight)) refl k
  where
    by_cut : (x : Option Executed) (hit : Option Executed → Option Cut) (c : Option Cut) → ((d : Cut) → c ≡ Some d → Each IsCalm (take d.keep w.flight)) → (choices_with w (retirement w.flight) x c).kill ≡ Some v → Each IsCalm (cut_step c w.flight)
    by_cut x hit None g z = absurd (no-kill (offer_in w.flight) v z)
    by_cut x hit (Some d) g z = g d refl

    by_exec : (x : Option Executed) → execution w w.flight ≡ x → (d : Cut) → control_cut x w.flight ≡ Some d → Each IsCalm (take d.keep w.flight)
    by_exec None q d z = cc
    by_exec (Some x) q d z = control-calm w x d f q z

    by_hit : (hit : Option Cut) → store_cut (retirement w.flight) (drop 1 w.flight) ≡ hit
        → (choices_with w (retirement w.flight) (if is_some hit then None else execution w w.flight) (option_or hit (control_cut (if is_some hit then None else execution w w.flight) w.flight))).kill ≡ Some v
        → Each IsCalm (cut_step (option_or hit (control_cut (if is_some hit then None else execution w w.flight) w.flight)) w.flight)
    by_hit (Some c) q z = store-calm w.flight c f.ok q
    by_hit None q z = by_cut (execution w w.flight) (λ x. None) (control_cut (execution w w.flight) w.flight) (λ d y. by_exec (execution w w.flight) refl d y) z

-- what stays where something is killed
kept-calm : (w : Core) (v : Entry) → Facts w.flight → Pairs InOrder w.flight → (choices w).stop ≡ None → (choices w).kill ≡ Some v → Each IsCalm (drain_step (choices w).drain (cut_step (choices w).cut w.flight))
kept-calm w v f o s k = go w.mode s k
  where
    by : (x : Option StopCause) → (choices_by w x).stop ≡ None → (choices_by w x).kill ≡ Some v → Each IsCalm (drain_step (choices_by w x).drain (cut_step (choices_by w x).cut w.flight))
    by None a z = running-calm w v f z
    by (Some cause) a z = cc

    go : (mode : Mode) → (choices_in w mode).stop ≡ None → (choices_in w mode).kill ≡ Some v → Each IsCalm (drain_step (choices_in w mode).drain (cut_step (choices_in w mode).cut w.flight))
    go Running a z = by (stop_at w.flight) a z
    go DrainBegins a z = stay-calm w.flight f o
    go Draining a z = cc

commits-way : (w : Core) (ch : Choices) → Way w.flight ch → ((v : Entry) → ch.kill ≡ Some v → Each IsCalm (drain_step ch.drain (cut_step ch.cut w.flight))) → Commits w.flight ch
commits-way w ch (Quiet k r c d) g = Nothing k r
commits-way w ch (Releases p k r c d at) g = ARelease p k r at
commits-way w ch (Cuts n r front kill un) g = go ch.kill refl
  where
    go : (o : Option Entry) → ch.kill ≡ o → Commits w.flight ch
    go None q = Nothing q r
    go (Some v) q = AKill (take n w.flight) (drop n w.flight) (sym (take-append-drop n w.flight)) v q (sym kill ∙ q) (subst (Each IsCalm) (front w.flight) (g v q))

-- the cycle of the stop
kill-among : (gone : List Entry) (v : Entry) → find is_pending gone ≡ Some v → kill_among gone None ≡ Some v
kill-among gone v q = ap (λ o. option_or o None) q

presents-none : (split : Bool) (es : List Entry) → Presents split es None None
presents-none true es = tt
presents-none false es = tt

stopping : (w : Core) (cause : StopCause) → Chosen w.params.split w.flight (choices_stopping w cause)
stopping w cause = record { offer = tt; present = presents-none w.params.split w.flight; commit = go (find is_pending w.flight) refl }
  where
    go : (o : Option Entry) → find is_pending w.flight ≡ o → Commits w.flight (choices_stopping w cause)
    go None q = Nothing q refl
    go (Some v) q = AKill [] w.flight refl v q (kill-among w.flight v q) tt

-- each cycle
pub chosen : (w : Core) → Facts w.flight → Pairs InOrder w.flight → Chosen w.params.split w.flight (choices w)
chosen w f o = go w.mode refl
  where
    goes : (choices w).stop ≡ None → Chosen w.params.split w.flight (choices w)
    goes s = let so = sound w f s in record { offer = so.offer; present = so.present; commit = commits-way w (choices w) so.way (λ v k. kept-calm w v f o s k) }

    by : (x : Option StopCause) → stop_at w.flight ≡ x → choices w ≡ choices_by w x → Chosen w.params.split w.flight (choices w)
    by None q e = goes (ap (λ ch. ch.stop) e)
    by (Some cause) q e = subst (Chosen w.params.split w.flight) (sym e) (stopping w cause)

    go : (mode : Mode) → w.mode ≡ mode → Chosen w.params.split w.flight (choices w)
    go Running q = by (stop_at w.flight) refl (ap (choices_in w) q)
    go DrainBegins q = goes (ap (λ x. (choices_in w x).stop) q)
    go Draining q = goes (ap (λ x. (choices_in w x).stop) q)
