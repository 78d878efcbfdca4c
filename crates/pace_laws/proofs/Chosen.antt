-- What the core chooses for the oldest entry, where that one is neither done nor stops the machine.
use Rattle.std.proofs.Common.{◌≡◌, ◌≢◌, ◌<◌, ◌≤◌, ◌==◌, ◌&&◌, ◌||◌, ◌++◌, ◌⊎◌, inl, inr, ℕ, zero, suc, Bool, true, false, cond, not, List, [], ◌∷◌, filter, take, drop, Option, Some, None, refl, sym, ap, ◌∙◌, subst, arith}
use Rattle.std.specs.Prelude.{find, is_some, IfSome, IsSomeAnd}
use Rattle.std.specs.Option.{option_or, option_and_then, option_map}
use Rattle.std.specs.List.{list_any, last_or}
use Rattle.std.proofs.lemmas.Bool.{ne_eqb}
use Rattle.rv32_table.specs.declared.instr.Instr.{Instr}
use Rattle.rv32_table.specs.declared.instr.Kind.{Kind}
use Rattle.rv32_table.specs.declared.instr.Kind.TheVariants as row
use Rattle.rv32_table.specs.Instr.{kind_of, sources_of}
use Rattle.inorder_machine.specs.declared.line.Stepped.{Stepped}
use Rattle.inorder_machine.specs.declared.line.Stepped.TheVariants.{Retired, Stop}
use Rattle.xif_session.specs.Facts.{is_accepted as is_response_accepted}
use Rattle.cycle_spec.specs.declared.choices.Choices.{Choices}
use Rattle.cycle_spec.specs.declared.choices.Executed.{Executed}
use Rattle.cycle_spec.specs.declared.entry.Entry.{Entry}
use Rattle.cycle_spec.specs.declared.entry.EntryKind.{EntryKind}
use Rattle.cycle_spec.specs.declared.entry.EntryKind.TheVariants.{Local, Unknown, Nowhere}
use Rattle.cycle_spec.specs.declared.log.Cut.{Cut}
use Rattle.cycle_spec.specs.Flight.{has_seq, is_control, is_control_row, is_row, is_open, is_unknown, is_unknown_kind, is_pending, is_undecided, is_waiting, is_stopping, is_safe, count_through, source_behind, is_here, are_sources_here, is_held_back, may_execute, may_execute_kind, ready_behind, ready_oldest, behind_safe, certain}
use Rattle.cycle_spec.specs.State.{Core}
use Rattle.cycle_spec.specs.Choices.{retirement, outcome_of, executed_kind, executed_entry, execution, store_cut, transfer_cut, control_cut, gone_by, offer_in, presented_entry, presentation_of, present_in, kill_among, release_in, choices_running}
use Rattle.cycle_lists.specs.Lists.{Each, Pairs}
use Rattle.cycle_lists.specs.Order.{Before}
use Rattle.cycle_lists.proofs.Tests.{and-right, and-false, not-both, not-in, or-false_left, false-or, some-from}
use Rattle.cycle_lists.proofs.Every.{Each-from, Each-filter, Each-drop, Each-at}
use Rattle.cycle_lists.proofs.Places.{first-at, find-none}
use Rattle.cycle_paired.specs.Paired.{is_live, IsEntry, Behind}
use Rattle.cycle_paired.proofs.Facts.{live-unknown, live-closed, open-unknown, open-none, open-unsafe, none-refused, accepted-some}
use Rattle.pace_laws.specs.Measure.{is_over}
use Rattle.pace_laws.proofs.Steps.{Leads, leads-take, Spares}

pub record Chosen (w : Core) (ch : Choices) (e : Entry) : Type 0 where
  pub spares : Spares ch.cut ch.drain
  pub retire : ch.retire ≡ None
  pub executes : (i : Instr) → e.kind ≡ Local i → IsSomeAnd ch.execute (λ x. x.entry.seq ≡ e.seq)
  -- an open word is offered, and nothing is decided
  pub offers : is_open e ≡ true → ch.offer ≡ Some e
  pub shows : is_open e ≡ true → w.params.split ≡ false → ch.present ≡ Some (presentation_of w e)
  pub decides : is_open e ≡ true → (ch.kill ≡ None) × (ch.release ≡ None)
  -- an answered word
  pub others : is_live e ≡ true → IfSome ch.offer (λ p. (p.seq ≢ e.seq) × (p.id ≢ e.id))
  pub presents : is_waiting e ≡ true → w.params.split ≡ true → ch.present ≡ Some (presentation_of w e)
  pub releases : is_response_accepted e.response ≡ true → e.released ≡ false → IsSomeAnd ch.release (λ p. e.seq ≤ p.seq)

-- ---- the oldest is found

pub find-first : (test : Entry → Bool) (es : List Entry) (e : Entry) → Leads es e → test e ≡ true → find test es ≡ Some e
find-first test es e l h = ap (find test) l.here ∙ ap (λ t. cond t (Some e) (find test l.younger)) h

-- ---- execution

undone : (e : Entry) → is_over e ≡ false → e.done ≡ false
undone e h = or-false_left e.done (is_stopping e) h

source-here : (dual : Bool) (registers : List ℕ) (o : Option ℕ) → is_here (source_behind dual registers [] o) ≡ true
source-here dual registers None = refl
source-here dual registers (Some r) = refl

free-row : (k : Kind) → is_held_back k [] ≡ false
free-row row.Load = refl
free-row row.Control = refl
free-row row.Store = refl
free-row row.Alu = refl
free-row row.Fence = refl
free-row row.Stop = refl

may-first : (dual : Bool) (registers : List ℕ) (e : Entry) (i : Instr) → is_over e ≡ false → e.kind ≡ Local i → may_execute dual registers [] e ≡ true
may-first dual registers e i o k =
    ap (λ t. not t && may_execute_kind dual registers [] e.kind) o ∙ ap (may_execute_kind dual registers []) k
    ∙ ap (λ t. (t && is_here (source_behind dual registers [] (sources_of i).1)) && not (is_held_back (kind_of i) [])) (source-here dual registers (sources_of i).0)
    ∙ ap (λ t. t && not (is_held_back (kind_of i) [])) (source-here dual registers (sources_of i).1)
    ∙ ap not (free-row (kind_of i))

pub executes-first : (w : Core) (es : List Entry) (e : Entry) (i : Instr) → Leads es e → is_over e ≡ false → e.kind ≡ Local i → IsSomeAnd (execution w es) (λ x. x.entry.seq ≡ e.seq)
executes-first w es e i l o k =
    subst (λ y. IsSomeAnd (option_and_then (executed_entry w) y) (λ x. x.entry.seq ≡ e.seq)) (sym ready) (subst (λ y. IsSomeAnd (executed_kind w e y) (λ x. x.entry.seq ≡ e.seq)) (sym k) refl)
  where
    ready : ready_oldest w.params.dual_write w.registers es ≡ Some e
    ready = ap (ready_behind w.params.dual_write w.registers []) l.here ∙ ap (λ t. cond t (Some e) (ready_behind w.params.dual_write w.registers (e ∷ []) l.younger)) (may-first w.params.dual_write w.registers e i o k)

-- a cut keeps some
cut-keeps : (es : List Entry) (o : Option Executed) → IfSome (control_cut o es) (λ c. 0 < c.keep)
cut-keeps es None = tt
cut-keeps es (Some x) = go x.outcome
  where
    go : (o : Stepped) → IfSome (transfer_cut x.entry o es) (λ c. 0 < c.keep)
    go (Stop cause) = tt
    go (Retired line) = by (is_control x.entry && not (line.next == x.entry.predicted))
      where
        by : (t : Bool) → IfSome {T = Cut} (cond t (Some (record { keep = count_through x.entry.seq es; target = line.next })) None) (λ c. 0 < c.keep)
        by true = omega arith
        by false = tt

-- ---- behind a use that isn't decided no control transfer executes

not-control : (k : EntryKind) (dual : Bool) (registers : List ℕ) (older : List Entry) → list_any is_pending older ≡ true → may_execute_kind dual registers older k ≡ true → is_row is_control_row k ≡ false
not-control Unknown dual registers older p h = refl
not-control Nowhere dual registers older p h = refl
not-control (Local i) dual registers older p h = by (kind_of i) (and-right (are_sources_here dual registers older i) (not (is_held_back (kind_of i) older)) h)
  where
    by : (k : Kind) → not (is_held_back k older) ≡ true → is_control_row k ≡ false
    by row.Control q = absurd (not-both (list_any is_pending older) (not-in (list_any is_pending older) q) p)
    by row.Load q = refl
    by row.Store q = refl
    by row.Alu q = refl
    by row.Fence q = refl
    by row.Stop q = refl

any-pushed : (older : List Entry) (e : Entry) → list_any is_pending older ≡ true → list_any is_pending (older ++ e ∷ []) ≡ true
any-pushed [] e h = cc
any-pushed (x ∷ xs) e h = by (is_pending x) (λ q. any-pushed xs e q) h
  where
    by : (t : Bool) → (list_any is_pending xs ≡ true → list_any is_pending (xs ++ e ∷ []) ≡ true) → (t || list_any is_pending xs) ≡ true → (t || list_any is_pending (xs ++ e ∷ [])) ≡ true
    by true k q = refl
    by false k q = k q

ready-plain : (dual : Bool) (registers : List ℕ) (older es : List Entry) → list_any is_pending older ≡ true → IfSome (ready_behind dual registers older es) (λ x. is_control x ≡ false)
ready-plain dual registers older [] p = tt
ready-plain dual registers older (e ∷ es) p = by (may_execute dual registers older e) refl (ready-plain dual registers (older ++ e ∷ []) es (any-pushed older e p))
  where
    by : (t : Bool) → may_execute dual registers older e ≡ t → IfSome (ready_behind dual registers (older ++ e ∷ []) es) (λ x. is_control x ≡ false) → IfSome (cond t (Some e) (ready_behind dual registers (older ++ e ∷ []) es)) (λ x. is_control x ≡ false)
    by true q k = not-control e.kind dual registers older p (and-right (not (e.done || is_stopping e)) (may_execute_kind dual registers older e.kind) q)
    by false q k = k

unknown-waits : (dual : Bool) (registers : List ℕ) (e : Entry) → is_unknown e ≡ true → may_execute dual registers [] e ≡ false
unknown-waits dual registers e u = by e.kind u
  where
    by : (k : EntryKind) → is_unknown_kind k ≡ true → (not (e.done || is_stopping e) && may_execute_kind dual registers [] k) ≡ false
    by (Local i) h = cc
    by Unknown h = and-false (not (e.done || is_stopping e))
    by Nowhere h = cc

no-cut : (w : Core) (e : Entry) (es : List Entry) → w.flight ≡ e ∷ es → is_unknown e ≡ true → is_pending e ≡ true → control_cut (execution w w.flight) w.flight ≡ None
no-cut w e es f u p = by (ready_oldest w.params.dual_write w.registers w.flight) (subst (λ o. IfSome o (λ x. is_control x ≡ false)) (sym behind) (ready-plain w.params.dual_write w.registers (e ∷ []) es (ap (λ t. t || false) p)))
  where
    behind : ready_oldest w.params.dual_write w.registers w.flight ≡ ready_behind w.params.dual_write w.registers (e ∷ []) es
    behind = ap (ready_behind w.params.dual_write w.registers []) f ∙ ap (λ t. cond t (Some e) (ready_behind w.params.dual_write w.registers (e ∷ []) es)) (unknown-waits w.params.dual_write w.registers e u)

    plain : (x : Entry) (o : Stepped) → is_control x ≡ false → transfer_cut x o w.flight ≡ None
    plain x (Stop cause) c = refl
    plain x (Retired line) c = ap (λ t. cond (t && not (line.next == x.predicted)) (Some (record { keep = count_through x.seq w.flight; target = line.next })) None) c

    kinds : (x : Entry) (k : EntryKind) → is_control x ≡ false → control_cut (executed_kind w x k) w.flight ≡ None
    kinds x (Local i) c = plain x (outcome_of w x i) c
    kinds x Unknown c = refl
    kinds x Nowhere c = refl

    by : (o : Option Entry) → IfSome o (λ x. is_control x ≡ false) → control_cut (option_and_then (executed_entry w) o) w.flight ≡ None
    by None h = refl
    by (Some x) h = kinds x x.kind h

-- ---- the release

last-some : (P : Entry → Type 0) (x : Entry) (xs : List Entry) → P x → Each P xs → IsSomeAnd (last_or (Some x) xs) P
last-some P x [] p h = p
last-some P x (y ∷ ys) p h = last-some P y ys h.0 h.1

each-safe : (P : Entry → Type 0) (es : List Entry) → Each P es → Each P (behind_safe es)
each-safe P [] h = tt
each-safe P (e ∷ es) h = (h.0, by (is_safe e) (each-safe P es h.1))
  where
    by : (t : Bool) → Each P (behind_safe es) → Each P (cond t (behind_safe es) [])
    by true k = k
    by false k = tt

certain-first : (es : List Entry) (e : Entry) (ys : List Entry) → es ≡ e ∷ ys → is_undecided e ≡ true → Each (Before e) ys → IsSomeAnd (certain es) (λ p. e.seq ≤ p.seq)
certain-first es e ys f u b =
    let younger = each-safe (λ p. e.seq ≤ p.seq) (e ∷ ys) (self e.seq, Each-from (Before e) (λ p. e.seq ≤ p.seq) ys (λ p k. less e.seq p.seq k.rises) b) in
    subst (λ l. IsSomeAnd (certain l) (λ p. e.seq ≤ p.seq)) (sym f)
    (subst (λ t. IsSomeAnd (last_or None (cond t (e ∷ filter is_undecided (cond (is_safe e) (behind_safe ys) [])) (filter is_undecided (cond (is_safe e) (behind_safe ys) [])))) (λ p. e.seq ≤ p.seq)) (sym u)
    (last-some (λ p. e.seq ≤ p.seq) e (filter is_undecided (cond (is_safe e) (behind_safe ys) [])) (self e.seq) (Each-filter (λ p. e.seq ≤ p.seq) is_undecided (cond (is_safe e) (behind_safe ys) []) younger.1)))
  where
    self : (a : ℕ) → a ≤ a
    self a = omega arith

    less : (a b : ℕ) → a < b → a ≤ b
    less a b h = omega arith

-- ---- nothing is decided while the oldest is offered

open-certain : (es : List Entry) (e : Entry) (ys : List Entry) → es ≡ e ∷ ys → is_open e ≡ true → certain es ≡ None
open-certain es e ys f o =
    ap certain f ∙ ap (λ t. last_or None (filter is_undecided (e ∷ cond t (behind_safe ys) []))) (open-unsafe e o)
    ∙ ap (λ t. last_or None (cond (t && not e.released) (e ∷ []) [])) (none-refused e.response (open-none e o))

drop-behind : (P : Entry → Type 0) (k : ℕ) (e : Entry) (ys : List Entry) → 0 < k → Each P ys → Each P (drop k (e ∷ ys))
drop-behind P zero e ys h p = absurd (omega arith)
drop-behind P (suc k) e ys h p = Each-drop P k ys p

record Idle (e : Entry) (y : Entry) : Type 0 where
  pending : is_pending y ≡ false
  other : has_seq e.seq y ≡ false

open-kill : (es : List Entry) (e : Entry) (ys : List Entry) (cut : Option Cut) → es ≡ e ∷ ys → is_open e ≡ true → Pairs Behind es → Pairs Before es → IfSome cut (λ c. 0 < c.keep) → kill_among (gone_by cut es) (Some e) ≡ None
open-kill es e ys None f o b s k = refl
open-kill es e ys (Some c) f o b s k =
    let idle : Each (Idle e) ys = idles (subst (Pairs Behind) f b).0 (subst (Pairs Before) f s).0 in
    let gone : Each (Idle e) (drop c.keep es) = subst (λ l. Each (Idle e) (drop c.keep l)) (sym f) (drop-behind (Idle e) c.keep e ys k idle) in
    ap (λ x. option_or x (find (has_seq e.seq) (drop c.keep es))) (find-none is_pending (drop c.keep es) (Each-from (Idle e) (λ y. is_pending y ≡ false) (drop c.keep es) (λ y i. i.pending) gone))
    ∙ find-none (has_seq e.seq) (drop c.keep es) (Each-from (Idle e) (λ y. has_seq e.seq y ≡ false) (drop c.keep es) (λ y i. i.other) gone)
  where
    differs : (a b : ℕ) → a < b → b ≢ a
    differs a b h q = omega (arith, h, q)

    idles : Each (Behind e) ys → Each (Before e) ys → Each (Idle e) ys
    idles = go ys
      where
        go : (l : List Entry) → Each (Behind e) l → Each (Before e) l → Each (Idle e) l
        go [] a c = tt
        go (y ∷ l) a c = (
          record {
            pending = ap (λ t. t && not y.released) (false-or (is_some y.response) (λ r. not-both (is_open e) (a.0.answered r) o));
            other = ne_eqb y.seq e.seq (differs e.seq y.seq c.0.rises);
          },
          go l a.1 c.1,
        )

-- ---- another word is offered

others-of : (es : List Entry) (e : Entry) (ys : List Entry) → es ≡ e ∷ ys → IsEntry e → Pairs Before es → is_live e ≡ true → IfSome (offer_in es) (λ p. (p.seq ≢ e.seq) × (p.id ≢ e.id))
others-of es e ys f ok b live = go (find is_open es) refl
  where
    differs : (a b : ℕ) → a < b → b ≢ a
    differs a b h q = omega (arith, h, q)

    places : Each (λ y. (y ≡ e) ⊎ Before e y) es
    places = subst (Each (λ y. (y ≡ e) ⊎ Before e y)) (sym f) (inl refl, Each-from (Before e) (λ y. (y ≡ e) ⊎ Before e y) ys (λ y k. inr k) (subst (Pairs Before) f b).0)

    one : (p : Entry) → is_open p ≡ true → (p ≡ e) ⊎ Before e p → (p.seq ≢ e.seq) × (p.id ≢ e.id)
    one p o (inl q) = absurd (not-both (is_open e) (live-closed e live) (ap is_open (sym q) ∙ o))
    one p o (inr k) = (differs e.seq p.seq k.rises, λ q. k.apart (live-unknown e ok live) (open-unknown p o) (sym q))

    go : (o : Option Entry) → find is_open es ≡ o → IfSome o (λ p. (p.seq ≢ e.seq) × (p.id ≢ e.id))
    go None q = tt
    go (Some p) q = let a = first-at is_open es p q in one p a.passes (Each-at (λ y. (y ≡ e) ⊎ Before e y) es a.older p a.younger a.here places)

-- ---- a running cycle

pub running-chosen : (w : Core) (e : Entry) (es : List Entry) → w.flight ≡ e ∷ es → is_over e ≡ false → Each IsEntry w.flight → Pairs Before w.flight → Pairs Behind w.flight → Chosen w (choices_running w) e
running-chosen w e es f o ok b behind = record {
  spares = (keeps, tt);
  retire = none;
  executes = λ i k. subst (λ c. IsSomeAnd (cond (is_some c) None (execution w w.flight)) (λ x. x.entry.seq ≡ e.seq)) (sym uncut) (executes-first w w.flight e i leads o k);
  offers = λ q. find-first is_open w.flight e leads q;
  shows = λ q s. ap (λ t. option_map (presentation_of w) (presented_entry t (offer_in w.flight) w.flight)) s ∙ ap (option_map (presentation_of w)) (find-first is_open w.flight e leads q);
  decides = λ q. (ap (kill_among (gone_by (choices_running w).cut w.flight)) (find-first is_open w.flight e leads q) ∙ open-kill w.flight e es (choices_running w).cut f q behind b keeps, released q (choices_running w).cut);
  others = λ l. others-of w.flight e es f (subst (Each IsEntry) f ok).0 b l;
  presents = λ q s. ap (λ t. option_map (presentation_of w) (presented_entry t (offer_in w.flight) w.flight)) s ∙ ap (option_map (presentation_of w)) (find-first is_waiting w.flight e leads q);
  releases = λ a r. subst (λ c. IsSomeAnd (release_in c w.flight) (λ p. e.seq ≤ p.seq)) (sym (no-cuts a r)) (certain-first w.flight e es f (ap (λ t. t && not e.released) a ∙ ap not r) (subst (Pairs Before) f b).0);
}
  where
    leads : Leads w.flight e
    leads = record { younger = es; here = f }

    none : retirement w.flight ≡ None
    none = ap retirement f ∙ ap (λ t. cond t (Some e) None) (undone e o)

    uncut : store_cut (retirement w.flight) (drop 1 w.flight) ≡ None
    uncut = ap (λ r. store_cut r (drop 1 w.flight)) none

    control : (choices_running w).cut ≡ control_cut (execution w w.flight) w.flight
    control = ap (λ c. option_or c (control_cut (cond (is_some c) None (execution w w.flight)) w.flight)) uncut

    keeps : IfSome (choices_running w).cut (λ c. 0 < c.keep)
    keeps = subst (λ c. IfSome c (λ c. 0 < c.keep)) (sym control) (cut-keeps w.flight (execution w w.flight))

    released : is_open e ≡ true → (c : Option Cut) → release_in c w.flight ≡ None
    released q None = open-certain w.flight e es f q
    released q (Some c) = refl

    no-cuts : is_response_accepted e.response ≡ true → e.released ≡ false → (choices_running w).cut ≡ None
    no-cuts a r =
        let s = accepted-some e.response a in
        control ∙ no-cut w e es f ((subst (Each IsEntry) f ok).0.answered s) (ap (λ t. t && not e.released) s ∙ ap not r)

-- ---- a cycle of a drain

-- the oldest entry that a drain keeps
pub record Stays (e : Entry) : Type 0 where
  pub closed : is_open e ≡ false
  pub released : is_response_accepted e.response ≡ true → e.released ≡ true

-- the choices of a drain that keeps so many
pub record Drains (w : Core) (stay : ℕ) (ch : Choices) : Type 0 where
  pub retire : ch.retire ≡ retirement (take stay w.flight)
  pub execute : ch.execute ≡ execution w (take stay w.flight)
  pub present : ch.present ≡ present_in w None (take stay w.flight)
  pub cut : ch.cut ≡ None
  pub drain : IfSome ch.drain (λ k. k ≡ stay)
  pub offer : ch.offer ≡ None

pub drain-chosen : (w : Core) (stay : ℕ) (ch : Choices) (e : Entry) → Leads w.flight e → 0 < stay → Drains w stay ch → is_over e ≡ false → Stays e → Chosen w ch e
drain-chosen w stay ch e l pos d o s = record {
  spares = (subst (λ c. IfSome c (λ c. 0 < c.keep)) (sym d.cut) tt, some-from (λ k. k ≡ stay) (λ k. 0 < k) ch.drain (λ k q. subst (λ n. 0 < n) (sym q) pos) d.drain);
  retire = d.retire ∙ ap retirement kept.here ∙ ap (λ t. cond t (Some e) None) (undone e o);
  executes = λ i k. subst (λ x. IsSomeAnd x (λ x. x.entry.seq ≡ e.seq)) (sym d.execute) (executes-first w (take stay w.flight) e i kept o k);
  offers = λ q. absurd (not-both (is_open e) s.closed q);
  shows = λ q z. absurd (not-both (is_open e) s.closed q);
  decides = λ q. absurd (not-both (is_open e) s.closed q);
  others = λ q. subst (λ x. IfSome x (λ p. (p.seq ≢ e.seq) × (p.id ≢ e.id))) (sym d.offer) tt;
  presents = λ q z. d.present ∙ ap (λ t. option_map (presentation_of w) (presented_entry t None (take stay w.flight))) z ∙ ap (option_map (presentation_of w)) (find-first is_waiting (take stay w.flight) e kept q);
  releases = λ a r. absurd (not-both e.released r (s.released a));
}
  where
    kept : Leads (take stay w.flight) e
    kept = leads-take stay w.flight e l pos
