-- A cycle of core and engine keeps what holds of the history.
use Rattle.std.proofs.Common.{◌≡◌, ◌++◌, if◌then◌else◌, ℕ, suc, Bool, true, false, Option, Some, None, IfSome, List, [], ◌∷◌, map, drop, length, refl, sym, ap, ◌∙◌, subst}
use Rattle.std.specs.Prelude.{is_some, IsSome}
use Rattle.std.specs.Option.{option_map, option_and_then}
use Rattle.std.specs.List.{cons_option}
use Rattle.xif_base.specs.declared.params.Key.{Key}
use Rattle.xif_image.specs.Region.{word_at}
use Rattle.xif_signals.specs.declared.bus.Bus.{Bus}
use Rattle.cycle_paired.proofs.Same.{settled-is}
use Rattle.xif_session.specs.Facts.{past_of, is_issued, is_given, is_taken, response_on, is_accepted as is_response_accepted}
use Rattle.xif_session.specs.Rules.{HoldsI1}
use Rattle.inorder_machine.specs.declared.line.Retire.{Retire}
use Rattle.inorder_machine.specs.declared.line.Stepped.TheVariants.{Retired}
use Rattle.inorder_machine.specs.Machine.{Extension, State, next_step, state_after}
use Rattle.inorder_machine.specs.After.{after, next_state, state_if_retired}
use Rattle.cycle_spec.specs.declared.choices.Choices.{Choices}
use Rattle.cycle_spec.specs.declared.entry.Entry.{Entry}
use Rattle.cycle_spec.specs.declared.use_of.Use.{Use}
use Rattle.cycle_spec.specs.Flight.{is_unknown, is_unknown_kind, kind_at}
use Rattle.cycle_spec.specs.Choices.{choices}
use Rattle.cycle_spec.specs.Core.{line_of, id_in, word_or_zero, retire_step, with_dispatch, settled_entries, dispatch_of, next_entry}
use Rattle.cycle_spec.specs.Cycle.{Machines, hart_if, bus_at, core_bus_at, cycle}
use Rattle.cycle_lists.specs.Lists.{Each}
use Rattle.cycle_lists.proofs.Tests.{not-both, same-some, false-or}
use Rattle.cycle_lists.proofs.Every.{Each-both, Each-map, Each-at, Each-front, Each-append, Each-drop, Each-filter, Each-passed}
use Rattle.cycle_paired.specs.Paired.{is_live, live_entries, IsEntry, Paired}
use Rattle.cycle_paired.proofs.Facts.{done-dead, live-some, accepted-some, none-refused}
use Rattle.cycle_paired.proofs.Choosing.{sound}
use Rattle.cycle_paired.proofs.Cycling.{facts_of}
use Rattle.cycle_paired.proofs.Closing.{cycle-paired}
use Rattle.ahead_spec.specs.Walk.{Item, entries, outcome, stepped, IsPath, Walked}
use Rattle.ahead_spec.specs.World.{World}
use Rattle.ahead_spec.specs.Invariant.{Agrees, RunsAhead}
use Rattle.ahead_laws.proofs.Retiring.{next-is}
use Rattle.cycle_events.specs.Shown.{Left, left_by, Shows, Shown, shown, Tied, extension_of}
use Rattle.cycle_events.specs.Shown as events
use Rattle.cycle_events.proofs.Chosen.{RetiresAt}
use Rattle.cycle_events.proofs.Choosing.{chosen}
use Rattle.cycle_events.proofs.Settling.{all-go}
use Rattle.engine_history.specs.Lives.{lives_of}
use Rattle.engine_history.proofs.Ordered.{IsBoth}
use Rattle.cycle_history.specs.Words.{next_word}
use Rattle.cycle_history.proofs.Told.{LiveLife, all-live}
use Rattle.cycle_history.proofs.Results.{Cycle, cycle-grown, owned-on}
use Rattle.cycle_history.proofs.Words.{words-on}
use Rattle.cycle_history.proofs.Ends.{Served}
use Rattle.cycle_history.proofs.Flying.{behind, behind-same, Walk, walk-items}
use Rattle.cycle_history.proofs.Steps.{whole_change, cutting, settled-map, whole-id, whole-response, keeps-place, done-stays}
use Rattle.cycle_history.proofs.Entering.{Seat, Old, New, Offers}
use Rattle.cycle_history.proofs.Cycling.{parted-way, Known, all-known}
use Rattle.cycle_history.proofs.Listing.{lists-after}
use Rattle.cycle_history.proofs.Past.{Lists, Hist, word-unknown, word-other, Oldest, lists-retired, lists-dispatched}

-- ---- what the engine has for an entry is what the in-order machine has

serves : (x : Extension) (s : State) (memory : _) (us : List Use) (y : Item) → Agrees x memory s y → Tied x 0 us y → is_live y.entry ≡ true → Served x us s y.entry
serves x s memory us y g t live front u back here hart id =
    let z = Each-at (λ u. is_live y.entry ≡ true → u.key.hart ≡ 0 → u.key.id ≡ y.entry.id → events.IsUseOf x y u) us front u back here t live hart id in
    record {
      hit_is = z.hit_is;
      lanes = λ q. g.sent_is u.lanes (z.sent_is q);
      result = λ r. g.result_is u.result (z.result_is ∙ there u.ready r);
    }
  where
    there : (o : Option ℕ) → IsSome o → shown o u.result ≡ Some u.result
    there None r = cc
    there (Some n) r = refl

pub all-serve : (x : Extension) (start : State) (left : Left) (es : List Entry) (us : List Use) (at : ℕ) (w : World) (h : Shows x start 0 left es us at w) → Walk x (λ s e. is_live e ≡ true → Served x us s e) h.runs.now es
all-serve x start left es us at w h =
    subst (Walk x (λ s e. is_live e ≡ true → Served x us s e) h.runs.now) h.entries_are
    (walk-items x (Agrees x h.runs.now.memory) (Tied x 0 us) (λ s e. is_live e ≡ true → Served x us s e) w.flight h.runs.now (λ s y g t live. serves x s h.runs.now.memory us y g t live) h.runs.agree h.tied)

-- ---- the oldest instruction

pub record HeadOf (x : Extension) (start : State) (count : ℕ) (now : State) (e : Entry) : Type 0 where
  pub kind_is : e.kind ≡ kind_at (word_at now.memory now.pc)
  pub word_is : e.word ≡ word_or_zero (word_at now.memory now.pc)
  pub after_is : after x (suc count) start ≡ Some (behind x now e)

step-is : (x : Extension) (now : State) (e : Entry) (l : Retire) → outcome x now e.pc e.kind e.word ≡ Retired l → state_if_retired x now (outcome x now e.pc e.kind e.word) ≡ Some (behind x now e)
unfolding stepped
step-is x now e l h = ap (state_if_retired x now) h ∙ ap (λ o. Some (state_after x now o)) (sym h)

pub head-of : (x : Extension) (start : State) (w : World) (r : RunsAhead x start w) (e : Entry) (es : List Entry) → entries w.flight ≡ e ∷ es → e.done ≡ true → HeadOf x start (length w.retired) r.now e
head-of x start w r e es h d = go w.flight h r.path r.agree
  where
    first : (a b : Entry) (xs ys : List Entry) → a ∷ xs ≡ b ∷ ys → a ≡ b
    first a b xs ys q = cc

    go : (ys : List Item) → entries ys ≡ e ∷ es → IsPath r.now.pc ys → Walked x (Agrees x r.now.memory) r.now ys → HeadOf x start (length w.retired) r.now e
    go [] q p g = cc
    go (y ∷ ys) q p g =
        let same : y.entry ≡ e = first y.entry e (entries ys) es q in
        let done = g.0.done_is (ap (λ (v : Entry). v.done) same ∙ d) in
        let next : next_step x r.now ≡ outcome x r.now y.entry.pc y.entry.kind y.entry.word = next-is x r.now y p.0 g.0 in
        subst (HeadOf x start (length w.retired) r.now) same (record {
          kind_is = g.0.kind_is ∙ ap (λ a. kind_at (word_at r.now.memory a)) p.0;
          word_is = g.0.word_is ∙ ap (λ a. word_or_zero (word_at r.now.memory a)) p.0;
          after_is = ap (option_and_then (next_state x)) r.arrived ∙ ap (state_if_retired x r.now) next ∙ step-is x r.now y.entry (line_of y.entry) done;
        })

-- ---- the entries behind a cycle

-- what is said of a live entry behind it is said of what it was before
live-back : (T : Entry → Type 0) (ch : Choices) (g : Entry → Entry) (K : List Entry) (new : Option Entry) → IfSome ch.retire (λ e. (rest : List Entry) × ((K ≡ e ∷ rest) × ((g e).done ≡ true))) → Each (λ e. is_live e ≡ true → T e) (with_dispatch new (retire_step ch.retire (map g K))) → Each (λ e. is_live (g e) ≡ true → T (g e)) K
live-back T ch g K new r h = go ch.retire r (front new h)
  where
    front : (new : Option Entry) → Each (λ e. is_live e ≡ true → T e) (with_dispatch new (retire_step ch.retire (map g K))) → Each (λ e. is_live e ≡ true → T e) (retire_step ch.retire (map g K))
    front None h = h
    front (Some e) h = Each-front (λ e. is_live e ≡ true → T e) (retire_step ch.retire (map g K)) (e ∷ []) h

    unmapped : (es : List Entry) → Each (λ e. is_live e ≡ true → T e) (map g es) → Each (λ e. is_live (g e) ≡ true → T (g e)) es
    unmapped [] h = tt
    unmapped (e ∷ es) h = (h.0, unmapped es h.1)

    go : (o : Option Entry) → IfSome o (λ e. (rest : List Entry) × ((K ≡ e ∷ rest) × ((g e).done ≡ true))) → Each (λ e. is_live e ≡ true → T e) (retire_step o (map g K)) → Each (λ e. is_live (g e) ≡ true → T (g e)) K
    go None r h = unmapped K h
    go (Some e) r h =
        subst (Each (λ e. is_live (g e) ≡ true → T (g e))) (sym r.1.0)
        (λ l. absurd (not-both (is_live (g e)) (done-dead (g e) r.1.1) l), unmapped r.0 (subst (λ z. Each (λ e. is_live e ≡ true → T e) (drop 1 (map g z))) r.1.0 h))

-- no live entry behind it has an id that none had before
apart-on : (ch : Choices) (g : Entry → Entry) (K : List Entry) (new : Option Entry) (i : ℕ) → ((e : Entry) → (g e).id ≡ e.id) → ((e : Entry) → (g e).kind ≡ e.kind) → IfSome new (λ e. (e.response ≡ None) × (e.done ≡ false)) → Each IsEntry (with_dispatch new (retire_step ch.retire (map g K)))
    → Each (λ e. is_unknown e ≡ true → e.id ≡ i → ⊥) K → Each (λ v. v.id ≡ i → ⊥) (live_entries (with_dispatch new (retire_step ch.retire (map g K))))
apart-on ch g K new i ids kinds fresh ok h =
    let es = with_dispatch new (retire_step ch.retire (map g K)) in
    let P = λ (e : Entry). is_live e ≡ true → is_unknown e ≡ true → e.id ≡ i → ⊥ in
    let mapped : Each P (map g K) = Each-map (λ e. is_unknown e ≡ true → e.id ≡ i → ⊥) P g K (λ e k l u q. k (ap is_unknown_kind (sym (kinds e)) ∙ u) (sym (ids e) ∙ q)) h in
    let all : Each P es = last new fresh (retire_step ch.retire (map g K)) (rest ch.retire mapped) in
    let both : Each (λ e. P e × IsEntry e) es = Each-both P IsEntry (λ e. P e × IsEntry e) es (λ e a b. (a, b)) all ok in
    Each-both (λ e. P e × IsEntry e) (λ e. is_live e ≡ true) (λ v. v.id ≡ i → ⊥) (live_entries es) (λ e a l. a.0 l (a.1.answered (live-some e l))) (Each-filter (λ e. P e × IsEntry e) is_live es both) (Each-passed is_live es)
  where
    rest : (o : Option Entry) → Each (λ e. is_live e ≡ true → is_unknown e ≡ true → e.id ≡ i → ⊥) (map g K) → Each (λ e. is_live e ≡ true → is_unknown e ≡ true → e.id ≡ i → ⊥) (retire_step o (map g K))
    rest None h = h
    rest (Some e) h = Each-drop (λ e. is_live e ≡ true → is_unknown e ≡ true → e.id ≡ i → ⊥) 1 (map g K) h

    none-some : (o : Option Rattle.xif_session.specs.declared.fact.Response.Response) → o ≡ None → is_some o ≡ true → ⊥
    none-some None q s = cc
    none-some (Some x) q s = cc

    last : (new : Option Entry) → IfSome new (λ e. (e.response ≡ None) × (e.done ≡ false)) → (es : List Entry) → Each (λ e. is_live e ≡ true → is_unknown e ≡ true → e.id ≡ i → ⊥) es → Each (λ e. is_live e ≡ true → is_unknown e ≡ true → e.id ≡ i → ⊥) (with_dispatch new es)
    last None f es h = h
    last (Some e) f es h = Each-append (λ e. is_live e ≡ true → is_unknown e ≡ true → e.id ≡ i → ⊥) es (e ∷ []) h (λ l. absurd (none-some e.response f.0 (live-some e l)), tt)

-- ---- the whole cycle

pub record Next (x : Extension) (start : State) (session : List Bus) (count : ℕ) (es : List Entry) : Type 0 where
  pub now : State
  pub arrived : after x count start ≡ Some now
  pub hist : Hist x start session count now es

pub offers-of : (m : Machines) → Offers (choices m.core) (bus_at m 0)
offers-of m = record { valid = refl; key = λ p o. ap (λ q. key-of (hart_if (is_some q) 0) (id_in q)) o }
  where
    key-of : ℕ → ℕ → Key
    key-of a b = record { hart = a; id = b }

new-fresh : (m : Machines) (answer : ℕ → ℕ → ℕ) → IfSome (dispatch_of answer m.core (choices m.core)) (λ e. (e.response ≡ None) × (e.done ≡ false))
new-fresh m answer = go (choices m.core).dispatch
  where
    go : (t : Bool) → IfSome (if t then Some (next_entry answer m.core (choices m.core)) else None) (λ e. (e.response ≡ None) × (e.done ≡ false))
    go true = (refl, refl)
    go false = tt

-- both buses say the same of the entries
same-settled : (m : Machines) → settled_entries (choices m.core) (core_bus_at m 0) m.core.flight ≡ settled_entries (choices m.core) (bus_at m 0) m.core.flight
same-settled m =
    let b = bus_at m 0 in
    settled-is (choices m.core) (core_bus_at m 0) (is_issued b) (response_on b) (is_given b) (is_taken b) b.result_id b.result_we b.result_data m.core.flight refl refl refl (record { taken = refl; id_is = refl; we_is = refl; data_is = refl })
    ∙ sym (settled-is (choices m.core) b (is_issued b) (response_on b) (is_given b) (is_taken b) b.result_id b.result_we b.result_data m.core.flight refl refl refl (record { taken = refl; id_is = refl; we_is = refl; data_is = refl }))

pub flight-after : (m : Machines) (answer : ℕ → ℕ → ℕ) → (cycle m 0 answer).core.flight ≡ with_dispatch (dispatch_of answer m.core (choices m.core)) (retire_step (choices m.core).retire (map (whole_change (choices m.core) (bus_at m 0) m.core.flight) (cutting (choices m.core) m.core.flight)))
unfolding cycle
flight-after m answer = ap (with_dispatch (dispatch_of answer m.core (choices m.core))) (same-settled m ∙ settled-map (choices m.core) (bus_at m 0) m.core.flight)

-- the entry that retires is the first of those that stay
retires : (m : Machines) (o : Option Entry) → IfSome o (RetiresAt m.core (choices m.core))
    → IfSome o (λ e. (rest : List Entry) × ((cutting (choices m.core) m.core.flight ≡ e ∷ rest) × ((whole_change (choices m.core) (bus_at m 0) m.core.flight e).done ≡ true)))
retires m None h = tt
retires m (Some e) h = (h.rest, (h.here, done-stays (choices m.core) (bus_at m 0) m.core.flight e h.done))

-- what the retirement leaves
pub record Left' (x : Extension) (start : State) (session : List Bus) (count : ℕ) (es : List Entry) : Type 0 where
  pub now : State
  pub arrived : after x count start ≡ Some now
  pub lists : Lists x start session count now es

retire-with : (x : Extension) (start : State) (session : List Bus) (m : Machines) (retired : List Retire) (now : State) → after x (length retired) start ≡ Some now → (o : Option Entry) → IfSome o (RetiresAt m.core (choices m.core))
    → Lists x start (bus_at m 0 ∷ session) (length retired) now (map (whole_change (choices m.core) (bus_at m 0) m.core.flight) (cutting (choices m.core) m.core.flight))
    → ((e : Entry) (rest : List Entry) → cutting (choices m.core) m.core.flight ≡ e ∷ rest → e.done ≡ true → HeadOf x start (length retired) now e)
    → ((e : Entry) (rest : List Entry) → cutting (choices m.core) m.core.flight ≡ e ∷ rest → Known x session (bus_at m 0) m (choices m.core) e)
    → Left' x start (bus_at m 0 ∷ session) (length (cons_option (option_map line_of o) retired)) (retire_step o (map (whole_change (choices m.core) (bus_at m 0) m.core.flight) (cutting (choices m.core) m.core.flight)))
retire-with x start session m retired now arrived None r l heads knowns = record { now = now; arrived = arrived; lists = l }
retire-with x start session m retired now arrived (Some e) r l heads knowns =
    let ch = choices m.core in
    let b = bus_at m 0 in
    let fl = m.core.flight in
    let g = whole_change ch b fl in
    let n = length retired in
    let h = heads e r.rest r.here r.done in
    let f = knowns e r.rest r.here in
    let l1 : Lists x start (b ∷ session) n now (g e ∷ map g r.rest) = subst (λ es. Lists x start (b ∷ session) n now (map g es)) r.here l in
    let d = done-stays ch b fl e r.done in
    let oldest : Oldest x start n now (g e) = record { next = ap next_word arrived ∙ word-is h f d (is_response_accepted (g e).response) refl; done = d } in
    record {
      now = behind x now (g e);
      arrived = h.after_is ∙ ap Some (sym (behind-same x g now e (keeps-place ch b fl)));
      lists = subst (λ es. Lists x start (b ∷ session) (suc n) (behind x now (g e)) (drop 1 (map g es))) (sym r.here) (lists-retired x start (b ∷ session) n now (g e) (map g r.rest) oldest l1);
    }
  where
    word-is : HeadOf x start (length retired) now e → Known x session (bus_at m 0) m (choices m.core) e → (whole_change (choices m.core) (bus_at m 0) m.core.flight e).done ≡ true → (t : Bool) → is_response_accepted (whole_change (choices m.core) (bus_at m 0) m.core.flight e).response ≡ t
        → next_word (Some now) ≡ (if t then record { word = (whole_change (choices m.core) (bus_at m 0) m.core.flight e).word; state = now } ∷ [] else [])
    word-is h f d true a =
        word-unknown now (word_at now.memory now.pc) e.kind e.word h.kind_is h.word_is (unknown (f.seat (sym (ap is_response_accepted (whole-response (choices m.core) (bus_at m 0) m.core.flight e)) ∙ a)))
        ∙ ap (λ v. record { word = v; state = now } ∷ []) (sym ((keeps-place (choices m.core) (bus_at m 0) m.core.flight).word e))
      where
        unknown : Seat session (bus_at m 0) e → is_unknown e ≡ true
        unknown (Old q y) = f.ok.answered (accepted-some e.response q)
        unknown (New q o y) = Rattle.cycle_paired.proofs.Facts.open-unknown e o
    word-is h f d false a =
        word-other now (word_at now.memory now.pc) e.kind h.kind_is (false-or (is_unknown e) (λ u.
        (let q = f.ok.released (f.ok.done_released u r.done) in
        not-both (is_response_accepted (whole_change (choices m.core) (bus_at m 0) m.core.flight e).response) a
        (ap is_response_accepted (whole-response (choices m.core) (bus_at m 0) m.core.flight e ∙ f.stays q) ∙ q))))

pub going : (x : Extension) (start : State) (m : Machines) (answer : ℕ → ℕ → ℕ) (session : List Bus) (retired : List Retire) (w : World) (k : Paired 0 m) (z : (choices m.core).stop ≡ None) → Shown start 0 retired m w → extension_of m.engine ≡ x
    → Cycle x.params x.set session (bus_at m 0) m.engine → HoldsI1 (past_of session) (bus_at m 0) → IsBoth x.params x.set (length (bus_at m 0 ∷ session)) (bus_at m 0) (lives_of (bus_at m 0 ∷ session)) (cycle m 0 answer).engine
    → (now : State) → after x (length retired) start ≡ Some now → Hist x start session (length retired) now m.core.flight
    → Next x start (bus_at m 0 ∷ session) (length (cons_option (option_map line_of (choices m.core).retire) retired)) (cycle m 0 answer).core.flight
going x start m answer session retired w k z sh same c i1 both now arrived hist =
    let ch = choices m.core in
    let b = bus_at m 0 in
    let fl = m.core.flight in
    let us = m.engine.uses in
    let m' = cycle m 0 answer in
    let g = whole_change ch b fl in
    let K = cutting ch fl in
    let left = left_by 0 retired m in
    let f0 = facts_of 0 m k in
    let so = sound m.core f0 z in
    let s0 : Shows x start 0 left fl us sh.at w = subst (λ y. Shows y start 0 left fl us sh.at w) same sh.shows in
    let ct = chosen m.core f0 (all-go x start 0 left sh.at fl us w s0) sh.calm z in
    let k' = cycle-paired 0 m answer k z in
    let part = parted-way ch fl so.way in
    let new = dispatch_of answer m.core ch in
    let fresh = new-fresh m answer in
    let flight' : m'.core.flight ≡ with_dispatch new (retire_step ch.retire (map g K)) = flight-after m answer in
    let rf = retires m ch.retire ct.retire in
    let L = λ (e : Entry). LiveLife x.params x.set (lives_of (b ∷ session)) m'.engine.uses e in
    let live' = live-back L ch g K new rf (subst (Each (λ e. is_live e ≡ true → L e)) flight' (all-live x.params x.set (lives_of (b ∷ session)) m' k' both.whole_is.uses_are)) in
    let ok' : Each IsEntry (with_dispatch new (retire_step ch.retire (map g K))) = subst (Each IsEntry) flight' k'.entries in
    let apart = λ (i : ℕ) (h : Each (λ e. is_unknown e ≡ true → e.id ≡ i → ⊥) K).
    subst (λ es. Each (λ v. v.id ≡ i → ⊥) (live_entries es)) (sym flight') (apart-on ch g K new i (whole-id ch b fl) (keeps-place ch b fl).kind fresh ok' h) in
    let count : w.retired ≡ retired = ap (λ l. l.retired) s0.left_is in
    let now_is : s0.runs.now ≡ now = same-some (after x (length retired) start) s0.runs.now now (ap (λ r. after x (length r) start) (sym count) ∙ s0.runs.arrived) arrived in
    let h0 : Hist x start session (length retired) s0.runs.now fl = subst (λ n. Hist x start session (length retired) n fl) (sym now_is) hist in
    let arrived0 : after x (length retired) start ≡ Some s0.runs.now = arrived ∙ ap Some (sym now_is) in
    let l1 = lists-after x start session b m k c ch so.offer so.execute part (offers-of m) m' k' both.whole_is.uses_are both.kept_is.answers K part.gone part.here part.unreleased live' apart (length retired) s0.runs.now h0.words h0.lists (all-serve x start left fl us sh.at w s0) in
    let known = all-known x start session b m k c ch so.offer so.execute part (offers-of m) in
    let heads = λ (e : Entry) (rest : List Entry) (q : K ≡ e ∷ rest) (d : e.done ≡ true). subst (λ n. HeadOf x start n s0.runs.now e) (ap length count) (head-of x start w s0.runs e (rest ++ part.gone) (s0.entries_are ∙ part.here ∙ ap (λ y. y ++ part.gone) q) d) in
    let knowns = λ (e : Entry) (rest : List Entry) (q : K ≡ e ∷ rest). (subst (Each (Known x session b m ch)) (part.here ∙ ap (λ y. y ++ part.gone) q) known).0 in
    let r = retire-with x start session m retired s0.runs.now arrived0 ch.retire ct.retire l1 heads knowns in
    record {
      now = r.now;
      arrived = r.arrived;
      hist = record {
        lists = subst (Lists x start (b ∷ session) (length (cons_option (option_map line_of ch.retire) retired)) r.now) (sym flight') (lists-dispatched x start (b ∷ session) (length (cons_option (option_map line_of ch.retire) retired)) r.now new (retire_step ch.retire (map g K)) fresh r.lists);
        owned = owned-on x.params x.set session b m.engine c h0.owned;
        words = words-on session b h0.words i1 (cycle-grown x.params x.set session b m.engine c);
      };
    }
