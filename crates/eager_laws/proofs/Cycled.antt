-- Each cycle is eager.
use Rattle.std.proofs.Common.{◌≡◌, ◌<◌, ◌≤◌, ◌⊎◌, inl, inr, ℕ, Bool, true, false, cond, not, List, ◌∷◌, map, length, Option, Some, None, refl, sym, ap, ◌∙◌, subst, arith}
use Rattle.std.specs.Prelude.{is_some, IsSome, IsSomeAnd, find}
use Rattle.std.specs.Option.{option_map}
use Rattle.std.specs.List.{list_any, cons_option}
use Rattle.xif_base.specs.Params.{IsInRange}
use Rattle.xif_image.specs.Region.{Region, word_at}
use Rattle.inorder_machine.specs.declared.line.Retire.{Retire}
use Rattle.inorder_machine.specs.Machine.{State}
use Rattle.inorder_machine.specs.After.{after}
use Rattle.cycle_spec.specs.declared.choices.Mode.TheVariants.{Running}
use Rattle.cycle_spec.specs.declared.entry.Entry.{Entry}
use Rattle.cycle_spec.specs.declared.entry.EntryKind.{EntryKind}
use Rattle.cycle_spec.specs.declared.entry.EntryKind.TheVariants.{Local, Unknown, Nowhere}
use Rattle.cycle_spec.specs.declared.log.Cut.{Cut}
use Rattle.cycle_spec.specs.declared.log.Dispatch.{Dispatch}
use Rattle.cycle_spec.specs.Flight.{is_unknown_kind, is_unknown, is_open, is_stopping, free_id}
use Rattle.cycle_spec.specs.Choices.{choices_running, choices}
use Rattle.cycle_spec.specs.Core.{word_of, word_in, memory_behind, ahead_behind, line_of, dispatch_line}
use Rattle.cycle_spec.specs.Cycle.{Machines, bus_at, cycle, log_at}
use Rattle.cycle_spec.specs.Run.{Setup, Meaning, Progress, next as next_progress}
use Rattle.cycle_lists.specs.Lists.{Each}
use Rattle.cycle_lists.proofs.Tests.{not-both, none-some, some-is}
use Rattle.cycle_lists.proofs.Places.{first-at}
use Rattle.cycle_paired.specs.Paired.{IsEntry}
use Rattle.cycle_paired.proofs.Facts.{open-unknown}
use Rattle.ahead_spec.specs.Walk.{Item, entries, Walked}
use Rattle.ahead_spec.specs.World.{begun, run}
use Rattle.ahead_spec.specs.Invariant.{Agrees}
use Rattle.ahead_laws.proofs.Walks.{walked-each}
use Rattle.cycle_events.proofs.Moving.{to-entries}
use Rattle.cycle_refines.specs.RefinesInOrder.{extension_in, first_state}
use Rattle.cycle_refines.proofs.Running.{retired_in, Goes, shown-in, goes-on}
use Rattle.eager_laws.specs.Flights.{Told, retired_by, InFlight, awaits, flight_after, told_of}
use Rattle.eager_laws.specs.Eager.{IsRunning, StopsAlong, IsCutByStore, IsCutByTransfer, IsEager, tells_stop}
use Rattle.eager_laws.proofs.Views.{Tells, find-told, told-length, dispatch-word}
use Rattle.eager_laws.proofs.Following.{told_by, Follows}
use Rattle.eager_laws.proofs.Choosing.{Way, Runs, Stops, Drains, way, room-of, dispatch-when, OfStore, OfTransfer, Origin, cut-from, store-cut}
use Rattle.eager_laws.proofs.Along.{tells, Knows, knows, stops-along, untold}
use Rattle.eager_laws.proofs.Turning.{transfer-cut}

-- ---- what is known at the start of a cycle

pub record Scene {P : Type 0} (s : Setup) (p : Progress P) : Type 0 where
  pub now : State
  pub items : List Item
  pub arrived : after (extension_in s) (length (retired_in p.logs)) (first_state s) ≡ Some now
  pub registers_are : p.machines.core.registers ≡ now.registers
  pub memory_is : p.machines.core.memory ≡ now.memory
  pub count : length now.registers ≡ 32
  pub agree : Walked (extension_in s) (Agrees (extension_in s) now.memory) now items
  pub entries_are : entries items ≡ p.machines.core.flight

pub scene : {P : Type 0} (s : Setup) (p : Progress P) → Goes s p → Scene s p
scene s p g =
    let x = extension_in s in
    let retired = retired_in p.logs in
    let w = run x (begun (first_state s)) g.events.events in
    let k = (shown-in s retired p.machines w g.extension g.events.there).1 in
    let r = k.runs in
    record {
      now = r.now;
      items = w.flight;
      arrived = ap (λ l. after x (length l) (first_state s)) (sym (ap (λ l. l.retired) k.left_is)) ∙ r.arrived;
      registers_are = sym (ap (λ l. l.registers) k.left_is) ∙ r.registers_are;
      memory_is = sym (ap (λ l. l.memory) k.left_is) ∙ r.memory_is;
      count = r.count;
      agree = r.agree;
      entries_are = k.entries_are;
    }

pub scene-tells : {P : Type 0} (s : Setup) (p : Progress P) → Scene s p → Each Tells p.machines.core.flight
scene-tells s p c =
    let x = extension_in s in
    subst (Each Tells) c.entries_are (to-entries Tells c.items (walked-each x (Agrees x c.now.memory) (λ y. Tells y.entry) c.items c.now (λ t y g. tells x c.now.memory t y g) c.agree))

scene-knows : {P : Type 0} (s : Setup) (p : Progress P) → Scene s p → Each Knows p.machines.core.flight
scene-knows s p c =
    let x = extension_in s in
    subst (Each Knows) c.entries_are (to-entries Knows c.items (walked-each x (Agrees x c.now.memory) (λ y. Knows y.entry) c.items c.now (λ t y g. knows x c.now.memory t y g) c.agree))

-- the core runs before the end of the budget, and drains from there on
pub data Phase {P : Type 0} (s : Setup) (p : Progress P) : Type 0 where
  Within : p.machines.core.mode ≡ Running → length (told_by p) < s.budget → Phase s p
  Beyond : (p.machines.core.mode ≡ Running → ⊥) → s.budget ≤ length (told_by p) → Phase s p

abbrev pub cycle_in : {P : Type 0} → Meaning P → Progress P → Told
cycle_in meaning p = record { log = log_at p.machines (meaning.answer p.predictor); bus = bus_at p.machines 0 }

-- ---- the in-order machine after the cycle

record Passed {P : Type 0} (meaning : Meaning P) (s : Setup) (p : Progress P) : Type 0 where
  next : State
  passed : after (extension_in s) (length (retired_by (cycle_in meaning p ∷ told_by p))) (first_state s) ≡ Some next
  memory_is : memory_behind (choices p.machines.core).retire p.machines.core.memory ≡ next.memory

cycle-memory : (answer : ℕ → ℕ → ℕ) (m : Machines) → (cycle m 0 answer).core.memory ≡ memory_behind (choices m.core).retire m.core.memory
unfolding cycle
cycle-memory answer m = refl

passes : {P : Type 0} (meaning : Meaning P) (s : Setup) (first : P) (p : Progress P) → IsInRange s.params → Goes s p → Follows meaning s first p → Way p.machines.core → Passed meaning s p
passes meaning s first p range g f o = go o
  where
    log : Option Retire
    log = (cycle_in meaning p).log.retired

    goes : (choices p.machines.core).stop ≡ None → Passed meaning s p
    goes z =
        let c = scene s (next_progress meaning p) (goes-on meaning s p range g z) in
        record {
          next = c.now;
          passed = ap (λ l. after (extension_in s) (length (cons_option log l)) (first_state s)) f.retired_is ∙ c.arrived;
          memory_is = sym (cycle-memory (meaning.answer p.predictor) p.machines) ∙ c.memory_is;
        }

    go : Way p.machines.core → Passed meaning s p
    go (Runs r z e) = goes z
    go (Drains r z q) = goes z
    go (Stops cause z none q) =
        let c = scene s p g in
        record {
          next = c.now;
          passed = ap (λ o. after (extension_in s) (length (cons_option (option_map line_of o) (retired_by (told_by p)))) (first_state s)) none
              ∙ ap (λ l. after (extension_in s) (length l) (first_state s)) f.retired_is ∙ c.arrived;
          memory_is = ap (λ o. memory_behind o p.machines.core.memory) none ∙ c.memory_is;
        }

-- ---- small facts

has-dispatch : (b : Bool) (e : Entry) → IsSome (option_map dispatch_line (cond b (Some e) None)) → b ≡ true
has-dispatch true e h = refl
has-dispatch false e h = cc

dispatch-has : (b : Bool) (e : Entry) → b ≡ true → IsSome (option_map dispatch_line (cond b (Some e) None))
dispatch-has true e h = refl
dispatch-has false e h = cc

dispatch-some : (b : Bool) (e : Entry) (d : Dispatch) → option_map dispatch_line (cond b (Some e) None) ≡ Some d → (b ≡ true) × (dispatch_line e ≡ d)
dispatch-some true e d h = (refl, some-is (dispatch_line e) d h)
dispatch-some false e d h = cc

some-map : (o : Option Entry) → is_some o ≡ is_some (option_map told_of o)
some-map None = refl
some-map (Some e) = refl

none-some_is : (o : Option Entry) → o ≡ None → is_some o ≡ true → ⊥
none-some_is o h k = cc

unknown-word : (e : Entry) → is_unknown e ≡ true → word_of e.kind e.word ≡ Some e.word
unknown-word e u = go e.kind u
  where
    go : (k : EntryKind) → is_unknown_kind k ≡ true → word_of k e.word ≡ Some e.word
    go (Local i) h = cc
    go Unknown h = refl
    go Nowhere h = cc

offered-word : (es : List Entry) (o : Option Entry) → find is_open es ≡ o → is_some o ≡ true → IsSomeAnd (option_map told_of o) (λ e. e.word ≡ Some (word_in o))
offered-word es None q h = cc
offered-word es (Some e) q h = unknown-word e (open-unknown e (first-at is_open es e q).passes)

-- ---- a cycle

pub eager-at : {P : Type 0} (meaning : Meaning P) (s : Setup) (first : P) (p : Progress P) → IsInRange s.params → Goes s p → Follows meaning s first p → Phase s p → IsEager meaning s first (told_by p) (cycle_in meaning p)
eager-at meaning s first p range g f phase =
    let k = scene s p g in
    let o = way p.machines.core in
    let q = passes meaning s first p range g f o in
    record {
      now = k.now;
      arrived = ap (λ l. after (extension_in s) (length l) (first_state s)) f.retired_is ∙ k.arrived;
      next = q.next;
      passed = q.passed;
      dispatch = record {
        comes = λ r c l. comes k o r c l;
        runs = λ d. runs-by o (chosen d);
        uncut = λ d. (room-of p.machines.core (runs-when o (chosen d)) (chosen d)).uncut;
        room = λ d. subst (λ n. length flight < n) f.window (subst (λ n. n < p.machines.core.window) (sym length_is) (room-of p.machines.core (runs-when o (chosen d)) (chosen d)).room);
        untold = λ d. subst (Each (λ e. tells_stop e ≡ false)) f.flight_is (untold p.machines.core.flight (scene-tells s p k) (scene-knows s p k) f.refuses (room-of p.machines.core (runs-when o (chosen d)) (chosen d)).free);
      };
      address = λ d e.
          let b = dispatch-some (choices p.machines.core).dispatch _ d e in
          let room = room-of p.machines.core (runs-when o b.0) b.0 in
          ap (λ z. z.pc) (sym b.1) ∙ ap (λ c. ahead_behind c p.machines.core.ahead) room.uncut ∙ f.ahead_is;
      word = λ d e.
          let b = dispatch-some (choices p.machines.core).dispatch _ d e in
          ap (λ z. z.word) (sym b.1)
          ∙ dispatch-word (meaning.answer p.predictor) p.machines.core.next_seq (free_id p.machines.core.flight) at (word_at memory at)
          ∙ ap (λ z. word_at z at) q.memory_is
          ∙ ap (word_at q.next.memory) (ap (λ z. z.pc) b.1);
      offer = record {
        valid = λ r. valid o r;
        oldest = λ v. oldest o v;
        runs = λ v. offers o v;
      };
      cut = λ c e. cuts k o c e;
    }
  where
    flight : List InFlight
    flight = flight_after meaning first (told_by p)

    at : ℕ
    at = ahead_behind (choices p.machines.core).cut p.machines.core.ahead

    memory : Region
    memory = memory_behind (choices p.machines.core).retire p.machines.core.memory

    length_is : length flight ≡ length p.machines.core.flight
    length_is = ap length (sym f.flight_is) ∙ told-length p.machines.core.flight

    chosen : IsSome (cycle_in meaning p).log.dispatched → (choices p.machines.core).dispatch ≡ true
    chosen d = has-dispatch (choices p.machines.core).dispatch _ d

    -- the core runs
    runs-when : Way p.machines.core → (choices p.machines.core).dispatch ≡ true → choices p.machines.core ≡ choices_running p.machines.core
    runs-when (Runs r z e) d = e
    runs-when (Stops cause z none q) d = absurd (not-both (choices p.machines.core).dispatch q.dispatch d)
    runs-when (Drains r z q) d = absurd (not-both (choices p.machines.core).dispatch q.dispatch d)

    within : p.machines.core.mode ≡ Running → length (told_by p) < s.budget
    within r = go phase
      where
        go : Phase s p → length (told_by p) < s.budget
        go (Within r' l) = l
        go (Beyond n l) = absurd (n r)

    goes : Way p.machines.core → IsRunning s (told_by p) (cycle_in meaning p) → choices p.machines.core ≡ choices_running p.machines.core
    goes (Runs r z e) i = e
    goes (Stops cause z none q) i = absurd (none-some (choices p.machines.core).stop cause i.goes_on z)
    goes (Drains n z q) i = absurd (go phase)
      where
        go : Phase s p → ⊥
        go (Within r l) = n r
        go (Beyond n' l) = apart (length (told_by p)) s.budget i.within l
          where
            apart : (a b : ℕ) → a < b → b ≤ a → ⊥
            apart a b h k = omega (arith, h, k)

    runs-by : Way p.machines.core → (choices p.machines.core).dispatch ≡ true → IsRunning s (told_by p) (cycle_in meaning p)
    runs-by (Runs r z e) d = record { within = within r; goes_on = z }
    runs-by (Stops cause z none q) d = absurd (not-both (choices p.machines.core).dispatch q.dispatch d)
    runs-by (Drains r z q) d = absurd (not-both (choices p.machines.core).dispatch q.dispatch d)

    comes : (k : Scene s p) → Way p.machines.core → IsRunning s (told_by p) (cycle_in meaning p) → (cycle_in meaning p).log.cut ≡ None → length flight < s.window → IsSome (cycle_in meaning p).log.dispatched ⊎ StopsAlong (extension_in s) k.now flight
    comes k o r c l = go (list_any is_stopping p.machines.core.flight) refl
      where
        room : length p.machines.core.flight < p.machines.core.window
        room = subst (λ n. length p.machines.core.flight < n) (sym f.window) (subst (λ n. n < s.window) length_is l)

        go : (b : Bool) → list_any is_stopping p.machines.core.flight ≡ b → IsSome (cycle_in meaning p).log.dispatched ⊎ StopsAlong (extension_in s) k.now flight
        go false q = inl (dispatch-has (choices p.machines.core).dispatch _ (dispatch-when p.machines.core (goes o r) room c ∙ ap not q))
        go true q = inr (subst (StopsAlong (extension_in s) k.now) (ap (map told_of) k.entries_are ∙ f.flight_is) (stops-along (extension_in s) k.now.memory k.items k.now k.agree (subst (Each IsEntry) (sym k.entries_are) g.paired.entries) (ap (list_any is_stopping) k.entries_are ∙ q)))

    -- ---- the offer

    open-one : find awaits flight ≡ option_map told_of (find is_open p.machines.core.flight)
    open-one = ap (find awaits) (sym f.flight_is) ∙ find-told p.machines.core.flight (scene-tells s p (scene s p g))

    offer-is : choices p.machines.core ≡ choices_running p.machines.core → (choices p.machines.core).offer ≡ find is_open p.machines.core.flight
    offer-is e = ap (λ c. c.offer) e

    valid : Way p.machines.core → IsRunning s (told_by p) (cycle_in meaning p) → is_some (choices p.machines.core).offer ≡ is_some (find awaits flight)
    valid o r = ap is_some (offer-is (goes o r)) ∙ some-map (find is_open p.machines.core.flight) ∙ ap is_some (sym open-one)

    offers : Way p.machines.core → is_some (choices p.machines.core).offer ≡ true → IsRunning s (told_by p) (cycle_in meaning p)
    offers (Runs r z e) v = record { within = within r; goes_on = z }
    offers (Stops cause z none q) v = absurd (none-some_is (choices p.machines.core).offer q.offer v)
    offers (Drains r z q) v = absurd (none-some_is (choices p.machines.core).offer q.offer v)

    oldest : Way p.machines.core → is_some (choices p.machines.core).offer ≡ true → IsSomeAnd (find awaits flight) (λ e. e.word ≡ Some (word_in (choices p.machines.core).offer))
    oldest o v =
        let e = offer-is (goes o (offers o v)) in
        subst (λ z. IsSomeAnd z (λ e. e.word ≡ Some (word_in (choices p.machines.core).offer))) (sym open-one)
        (subst (λ z. IsSomeAnd (option_map told_of (find is_open p.machines.core.flight)) (λ e. e.word ≡ Some (word_in z))) (sym e)
        (offered-word p.machines.core.flight (find is_open p.machines.core.flight) refl (ap is_some (sym e) ∙ v)))

    -- ---- the cut

    cuts : (k : Scene s p) → Way p.machines.core → (c : Cut) → (choices p.machines.core).cut ≡ Some c → IsCutByStore flight (cycle_in meaning p) c ⊎ IsCutByTransfer (extension_in s) k.now flight c
    cuts k (Stops cause z none q) c h = absurd (none-some (choices p.machines.core).cut c q.cut h)
    cuts k (Drains r z q) c h = absurd (none-some (choices p.machines.core).cut c q.cut h)
    cuts k (Runs r z e) c h = go (cut-from p.machines.core c e h)
      where
        go : Origin p.machines.core c → IsCutByStore flight (cycle_in meaning p) c ⊎ IsCutByTransfer (extension_in s) k.now flight c
        go (OfStore q) = inl (subst (λ l. IsCutByStore l (cycle_in meaning p) c) f.flight_is (store-cut p.machines.core.flight c (cycle_in meaning p) (ap (λ z. option_map line_of z.retire) e) q))
        go (OfTransfer d q t) = inr (subst (λ l. IsCutByTransfer (extension_in s) k.now l c) f.flight_is (transfer-cut (extension_in s) k.now k.items p.machines.core d c range g.params k.registers_are k.memory_is k.count k.agree k.entries_are g.paired.order.pairs q t))
