-- What each cycle keeps: what the log and the buses tell is what the core has.
use Rattle.std.proofs.Common.{◌≡◌, ℕ, suc, Bool, true, false, cond, List, [], ◌∷◌, map, take, length, Option, Some, None, refl, ap, ◌∙◌, subst}
use Rattle.std.specs.Prelude.{find}
use Rattle.std.specs.Option.{option_map}
use Rattle.std.specs.List.{cons_option}
use Rattle.inorder_machine.specs.declared.stop.StopCause.{StopCause}
use Rattle.xif_image.specs.Region.{word_at}
use Rattle.cycle_spec.specs.declared.choices.Mode.{Mode}
use Rattle.cycle_spec.specs.declared.choices.Mode.TheVariants.{Running, DrainBegins, Draining}
use Rattle.cycle_spec.specs.declared.entry.Entry.{Entry}
use Rattle.cycle_spec.specs.declared.log.Cut.{Cut}
use Rattle.cycle_spec.specs.Flight.{is_open, youngest_released, free_id}
use Rattle.cycle_spec.specs.State.{Core}
use Rattle.cycle_spec.specs.Choices.{stop_at, retirement, choices_by, choices_in, choices, stay_with}
use Rattle.cycle_spec.specs.Core.{settled_entries, memory_behind, learnt, ahead_behind, ahead_after, line_of, dispatch_line}
use Rattle.cycle_spec.specs.Cycle.{core_bus_at, cycle, log_at}
use Rattle.cycle_spec.specs.Run.{Setup, Meaning, Progress, start, next, with_drain}
use Rattle.cycle_lists.specs.Lists.{Each, Pairs}
use Rattle.cycle_lists.specs.Order.{Before}
use Rattle.cycle_lists.proofs.Every.{Each-take}
use Rattle.cycle_refines.proofs.Running.{retired_in}
use Rattle.eager_laws.specs.Flights.{Told, cycles_of, retired_by, taught, predictor_after, after_handshake, after_cut, after_drain, after_retirement, after_dispatch, flight_after, told_of}
use Rattle.eager_laws.specs.Eager.{address_by, address_after}
use Rattle.eager_laws.proofs.Views.{Tells, IsOldest, new_if, told-settled, told-dispatch, predicted-told}
use Rattle.eager_laws.proofs.Refusing.{Refuses, refuses-settled, refuses-dispatch}

abbrev pub told_by : {P : Type 0} → Progress P → List Told
told_by p = cycles_of p.logs p.buses

pub record Follows {P : Type 0} (meaning : Meaning P) (s : Setup) (first : P) (p : Progress P) : Type 0 where
  pub flight_is : map told_of p.machines.core.flight ≡ flight_after meaning first (told_by p)
  pub ahead_is : p.machines.core.ahead ≡ address_after meaning first s.entry (told_by p)
  pub predictor_is : p.predictor ≡ predictor_after meaning first (told_by p)
  pub retired_is : retired_by (told_by p) ≡ retired_in p.logs
  pub window : p.machines.core.window ≡ s.window
  pub refuses : Each Refuses p.machines.core.flight
  pub count : length p.logs ≡ length p.buses

-- ---- what is offered, and what retires

pub offers-oldest : (w : Core) → IsOldest w.flight (choices w).offer
offers-oldest w e h = go w.mode h
  where
    by : (o : Option StopCause) → (choices_by w o).offer ≡ Some e → find is_open w.flight ≡ Some e
    by None k = k
    by (Some cause) k = cc

    go : (m : Mode) → (choices_in w m).offer ≡ Some e → find is_open w.flight ≡ Some e
    go Running k = by (stop_at w.flight) k
    go DrainBegins k = cc
    go Draining k = cc

pub retires-told : (P : Entry → Type 0) (w : Core) → Each P w.flight → (e : Entry) → (choices w).retire ≡ Some e → P e
retires-told P w t e h = go w.mode h
  where
    head : (es : List Entry) → Each P es → retirement es ≡ Some e → P e
    head [] u k = cc
    head (x ∷ xs) u k = one x.done k
      where
        one : (d : Bool) → cond d (Some x) None ≡ Some e → P e
        one true q = let same : x ≡ e = cc in subst P same u.0
        one false q = cc

    front : (n : ℕ) → retirement (take n w.flight) ≡ Some e → P e
    front n k = head (take n w.flight) (Each-take P n w.flight t) k

    by : (o : Option StopCause) → (choices_by w o).retire ≡ Some e → P e
    by None k = head w.flight t k
    by (Some cause) k = cc

    go : (m : Mode) → (choices_in w m).retire ≡ Some e → P e
    go Running k = by (stop_at w.flight) k
    go DrainBegins k = front (stay_with (youngest_released w.flight) w.flight) k
    go Draining k = front (length w.flight) k

-- ---- a cycle

learns : {P : Type 0} (meaning : Meaning P) (q : P) (o : Option Entry) → ((e : Entry) → o ≡ Some e → Tells e) → learnt meaning.after o q ≡ taught meaning (option_map line_of o) q
learns meaning q None h = refl
learns meaning q (Some e) h = ap (λ b. cond b (meaning.after q e.pc e.word e.next) q) (h e refl).control

leads-on : {P : Type 0} (meaning : Meaning P) (now : P) (seq id pc : ℕ) (word : Option ℕ) (t : Bool) (c : Option Cut) (old : ℕ)
    → ahead_after (new_if t (meaning.answer now) seq id pc word) (ahead_behind c old) ≡ address_by meaning now (option_map dispatch_line (new_if t (meaning.answer now) seq id pc word)) c old
leads-on meaning now seq id pc word true c old = predicted-told meaning now seq id pc word
leads-on meaning now seq id pc word false None old = refl
leads-on meaning now seq id pc word false (Some c) old = refl

pub follows-next : {P : Type 0} (meaning : Meaning P) (s : Setup) (first : P) (p : Progress P) → Each Tells p.machines.core.flight → Pairs Before p.machines.core.flight → Follows meaning s first p → Follows meaning s first (next meaning p)
unfolding cycle
follows-next meaning s first p t b f =
    let w = p.machines.core in
    let ch = choices w in
    let bus = core_bus_at p.machines 0 in
    let answer = meaning.answer p.predictor in
    let log = log_at p.machines answer in
    let pc = ahead_behind ch.cut w.ahead in
    let word = word_at (memory_behind ch.retire w.memory) pc in
    let es = settled_entries ch bus w.flight in
    let older = told_by p in
    let now = predictor_after meaning first older in
    record {
      flight_is =
          told-dispatch meaning p.predictor w.next_seq (free_id w.flight) pc word ch.dispatch es
          ∙ ap (λ q. after_dispatch meaning q log.dispatched (map told_of es)) f.predictor_is
          ∙ ap (after_dispatch meaning now log.dispatched) (
          told-settled ch bus w.flight refl (offers-oldest w) b t
          ∙ ap (λ xs. after_retirement log.retired (after_drain log.drained (after_cut log.cut (after_handshake bus xs)))) f.flight_is);
      ahead_is =
          leads-on meaning p.predictor w.next_seq (free_id w.flight) pc word ch.dispatch ch.cut w.ahead
          ∙ ap (λ q. address_by meaning q log.dispatched log.cut w.ahead) f.predictor_is
          ∙ ap (address_by meaning now log.dispatched log.cut) f.ahead_is;
      predictor_is = learns meaning p.predictor ch.retire (retires-told Tells w t) ∙ ap (taught meaning log.retired) f.predictor_is;
      retired_is = ap (cons_option log.retired) f.retired_is;
      window = f.window;
      refuses = refuses-dispatch answer w.next_seq (free_id w.flight) pc word ch.dispatch es (refuses-settled ch bus w.flight f.refuses);
      count = ap suc f.count;
    }

-- ---- before the first cycle, and before a drain

pub follows-start : {P : Type 0} (meaning : Meaning P) (s : Setup) (first : P) → Follows meaning s first (start s first)
follows-start meaning s first = record { flight_is = refl; ahead_is = refl; predictor_is = refl; retired_is = refl; window = refl; refuses = tt; count = refl }

pub follows-drain : {P : Type 0} (meaning : Meaning P) (s : Setup) (first : P) (p : Progress P) → Follows meaning s first p → Follows meaning s first (with_drain p)
follows-drain meaning s first p f = record { flight_is = f.flight_is; ahead_is = f.ahead_is; predictor_is = f.predictor_is; retired_is = f.retired_is; window = f.window; refuses = f.refuses; count = f.count }
