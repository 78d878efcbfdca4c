-- The uses of a run, from its first cycle to its last.
use Rattle.std.proofs.Common.{◌≡◌, ◌&&◌, not, ℕ, true, false, Some, None, IfSome, List, [], ◌∷◌, filter, length, map, reverse, refl, sym, ap, ◌∙◌, subst, append-nil}
use Rattle.std.specs.Prelude.{is_some}
use Rattle.std.specs.Option.{option_map}
use Rattle.std.specs.List.{cons_option}
use Rattle.xif_base.specs.Params.{IsInRange}
use Rattle.xif_base.specs.declared.params.Params.{Params}
use Rattle.xif_signals.specs.declared.bus.Bus.{Bus}
use Rattle.xif_signals.specs.declared.rule.Rule.TheVariants.{H1, I1, I2, G2}
use Rattle.xif_signals.specs.declared.rule.Channel.TheVariants.{Issue}
use Rattle.xif_session.specs.Facts.{past_of, is_accepted as is_response_accepted, is_refused}
use Rattle.xif_session.specs.Legal.{EachCycle, HoldsAll}
use Rattle.xif_session.specs.Uses.{last_bus}
use Rattle.inorder_machine.specs.declared.line.Retire.{Retire}
use Rattle.inorder_machine.specs.declared.stop.StopCause.{StopCause}
use Rattle.inorder_machine.specs.Machine.{State}
use Rattle.inorder_machine.specs.After.{after}
use Rattle.cycle_spec.specs.declared.choices.Choices.{Choices}
use Rattle.cycle_spec.specs.declared.entry.Entry.{Entry}
use Rattle.cycle_spec.specs.Flight.{is_open, is_stopping, is_safe, is_safe_kind}
use Rattle.cycle_spec.specs.Choices.{stop_at, choices, choices_stopping}
use Rattle.cycle_spec.specs.Core.{line_of}
use Rattle.cycle_spec.specs.Cycle.{Machines, bus_at, cycle}
use Rattle.cycle_spec.specs.Run.{Setup}
use Rattle.cycle_lists.specs.Lists.{Each, FirstAt}
use Rattle.cycle_lists.proofs.Tests.{and-right, and-both, not-both, false-or, true-or, same-some}
use Rattle.cycle_lists.proofs.Every.{Each-from, Each-passed, Each-unfilter}
use Rattle.cycle_lists.proofs.Filters.{filter-all}
use Rattle.cycle_paired.specs.Paired.{IsEntry, Behind, Paired}
use Rattle.cycle_paired.proofs.Choosing.{Unreleased}
use Rattle.cycle_paired.proofs.Executing.{Execs}
use Rattle.cycle_paired.proofs.Facts.{accepted-some}
use Rattle.cycle_paired.proofs.Stopping.{stop-turned}
use Rattle.ahead_spec.specs.World.{World}
use Rattle.cycle_events.specs.Shown.{left_by, Shows, Shown, extension_of}
use Rattle.cycle_events.proofs.Stopping.{stopping}
use Rattle.cycle_refines.specs.RefinesInOrder.{extension_in, first_state}
use Rattle.trace_laws.specs.Sessions.{Session}
use Rattle.trace_laws.proofs.Sessions.{session_keeps}
use Rattle.engine_history.specs.Lives.{Life, is_accepted, is_killed, is_released, lives_of}
use Rattle.engine_history.specs.Runs.{HasRun, IsOrderly}
use Rattle.engine_history.proofs.Run.{run_cycle}
use Rattle.engine_history.proofs.Orderly.{all_orderly, orderly_told}
use Rattle.engine_history.proofs.Ordered.{IsBoth}
use Rattle.cycle_history.specs.Uses.{AreUsesOf, is_kept, kept_uses, UsesAreThoseThatRetire}
use Rattle.cycle_history.specs.Words.{unit_words, words_in}
use Rattle.cycle_history.proofs.Driven.{answers-driven}
use Rattle.cycle_history.proofs.Results.{Cycle, cycle-grown, owned-on}
use Rattle.cycle_history.proofs.Words.{words-on}
use Rattle.cycle_history.proofs.Flying.{is_counted, filter-within}
use Rattle.cycle_history.proofs.Leaving.{kept-unkilled}
use Rattle.cycle_history.proofs.Cycling.{Parted}
use Rattle.cycle_history.proofs.Listing.{lists-after}
use Rattle.cycle_history.proofs.Going.{all-serve, offers-of, Next}
use Rattle.cycle_history.proofs.Past.{Lists, Hist}

-- ---- what a history says where nothing is in flight

pub told-at-end : (s : Setup) (session : List Bus) (retired : List Retire) (now : State) (e : _) → HasRun s.params s.set s.script session e → words_in retired ≡ reverse (map (λ w. w.word) (unit_words (extension_in s) (length retired) (first_state s)))
    → Hist (extension_in s) (first_state s) session (length retired) now [] → UsesAreThoseThatRetire s session retired
told-at-end s session retired now e run words h =
    let count = length retired in
    let ls = lives_of session in
    let counted : filter is_counted ls ≡ h.lists.older = h.lists.split in
    let within : Each (λ l. is_kept l ≡ true → is_counted l ≡ true) ls = Rattle.cycle_lists.proofs.Every.each (λ l. is_kept l ≡ true → is_counted l ≡ true) ls kept-counted in
    let kept : kept_uses session ≡ h.lists.older = sym (filter-within is_kept is_counted ls within) ∙ ap (filter is_kept) counted ∙ filter-all is_kept h.lists.older h.lists.kept in
    record {
      answers = answers-driven s.params s.set s.script session run.driven;
      words = words;
      uses = subst (λ us. AreUsesOf (extension_in s) session us (unit_words (extension_in s) count (first_state s))) (sym kept) h.lists.past;
      others = Each-from (λ l. is_counted l ≡ true → is_kept l ≡ true) (λ l. is_accepted l ≡ true → is_released l ≡ false → is_killed l ≡ true) ls other
          (Each-unfilter (λ l. is_kept l ≡ true) is_counted ls (subst (Each (λ l. is_kept l ≡ true)) (sym counted) h.lists.kept));
      results = h.owned;
    }
  where
    kept-counted : (l : Life) → is_kept l ≡ true → is_counted l ≡ true
    kept-counted l k = and-both (is_accepted l) (not (is_killed l)) (Rattle.cycle_lists.proofs.Tests.and-left (is_accepted l) (is_released l) k) (ap not (kept-unkilled l k))

    other : (l : Life) → (is_counted l ≡ true → is_kept l ≡ true) → is_accepted l ≡ true → is_released l ≡ false → is_killed l ≡ true
    other l f a r = true-or (is_killed l) (λ n. not-both (is_released l) r (and-right (is_accepted l) (is_released l) (f (and-both (is_accepted l) (not (is_killed l)) a (ap not n)))))

-- ---- a cycle beside its session

orderly-in : (params : Params) (session : List Bus) → EachCycle (HoldsAll params) session → IsOrderly params session
orderly-in params [] h = record { harts = tt; keys = tt; registers = tt }
orderly-in params (b ∷ session) h =
    let r = orderly-in params session h.1 in
    record { harts = (h.0 H1 Issue, r.harts); keys = (h.0 I2, r.keys); registers = (h.0 G2, r.registers) }

pub record Beside (s : Setup) (m : Machines) (session : List Bus) : Type 0 where
  pub cycle_is : Cycle s.params s.set session (bus_at m 0) m.engine
  pub rules : HoldsAll s.params (past_of session) (bus_at m 0)

pub beside : (s : Setup) (m : Machines) (session : List Bus) → IsInRange s.params → Session s 0 m session → HasRun s.params s.set s.script session m.engine → Beside s m session
beside s m session range x run =
    let keeps = session_keeps s range 0 m session x in
    let o = orderly-in s.params (bus_at m 0 ∷ session) keeps in
    record {
      cycle_is = record {
        both = subst (IsBoth s.params s.set (length session) (last_bus session) (lives_of session)) (sym run.engine_is)
            (orderly_told s.params s.set s.script session range run.driven (record { harts = o.harts.1; keys = o.keys.1; registers = o.registers.1 }));
        driven = refl;
        orderly = (all_orderly s.params (bus_at m 0 ∷ session) o).0;
      };
      rules = keeps.0;
    }

pub both-after : (s : Setup) (m : Machines) (answer : ℕ → ℕ → ℕ) (session : List Bus) → IsInRange s.params → Session s 0 m session → HasRun s.params s.set s.script session m.engine
    → IsBoth s.params s.set (length (bus_at m 0 ∷ session)) (bus_at m 0) (lives_of (bus_at m 0 ∷ session)) (cycle m 0 answer).engine
both-after s m answer session range x run =
    let o = orderly-in s.params (bus_at m 0 ∷ session) (session_keeps s range 0 m session x) in
    let r = run_cycle s.params s.set s.script session m 0 answer run in
    subst (IsBoth s.params s.set (length (bus_at m 0 ∷ session)) (bus_at m 0) (lives_of (bus_at m 0 ∷ session))) (sym r.engine_is) (orderly_told s.params s.set s.script (bus_at m 0 ∷ session) range r.driven o)

-- ---- the cycle that stops the machine

refused-not : (o : _) → is_refused o ≡ true → is_response_accepted o ≡ true → ⊥
refused-not None r a = cc
refused-not (Some z) r a = not-both z.accept (Rattle.cycle_lists.proofs.Tests.not-in z.accept r) a

unreleased-at : (m : Machines) (k : Paired 0 m) (cause : StopCause) → stop_at m.core.flight ≡ Some cause → Each Unreleased m.core.flight
unreleased-at m k cause h = go m.core.flight h k.entries k.behind
  where
    go : (es : List Entry) → stop_at es ≡ Some cause → Each IsEntry es → Rattle.cycle_lists.specs.Lists.Pairs Behind es → Each Unreleased es
    go [] h ok p = tt
    go (e ∷ es) h ok p =
        let stops : is_stopping e ≡ true = ap is_some h in
        let unsafe : is_safe e ≡ false = ap (λ t. not t && is_safe_kind e.kind e) stops in (
          false-or e.released (λ r. let a = ok.0.released r in refused-not e.response (ok.0.refused (ok.0.answered (accepted-some e.response a)) stops) a),
          Each-from (Behind e) Unreleased es (λ y b. false-or y.released (λ r. not-both (is_safe e) unsafe (b.safe r))) p.0,
        )

pub stops-there : (s : Setup) (m : Machines) (answer : ℕ → ℕ → ℕ) (session : List Bus) (retired : List Retire) (w : World) (cause : StopCause) (k : Paired 0 m) → IsInRange s.params → (choices m.core).stop ≡ Some cause → Session s 0 m session → HasRun s.params s.set s.script session m.engine
    → Shown (first_state s) 0 retired m w → extension_of m.engine ≡ extension_in s → (now : State) → after (extension_in s) (length retired) (first_state s) ≡ Some now → Hist (extension_in s) (first_state s) session (length retired) now m.core.flight
    → Next (extension_in s) (first_state s) (bus_at m 0 ∷ session) (length (cons_option (option_map line_of (choices m.core).retire) retired)) []
stops-there s m answer session retired w cause k range z x run sh same now arrived hist =
    let xs = extension_in s in
    let start = first_state s in
    let ch = choices m.core in
    let b = bus_at m 0 in
    let fl = m.core.flight in
    let c = (beside s m session range x run).cycle_is in
    let rules = (beside s m session range x run).rules in
    let st = stopping m.core cause z in
    let empty = record m.core { flight = [] } in
    let m' : Machines = record { core = empty; engine = (cycle m 0 answer).engine } in
    let k' : Paired 0 m' = (stop-turned 0 0 m answer cause empty k z refl refl).paired in
    let both = both-after s m answer session range x run in
    let by = λ (P : Choices → Type 0) (p : P (choices_stopping m.core cause)). subst P (sym st.chooses) p in
    let offer = by (λ c. IfSome c.offer (FirstAt is_open fl)) tt in
    let exec = by (λ c. IfSome c.execute (λ y. Each (Execs y.entry.seq y.outcome) fl)) tt in
    let part = by (λ c. Parted c fl) (record { gone = []; here = sym (append-nil fl); unreleased = tt }) in
    let s0 : Shows xs start 0 (left_by 0 retired m) fl m.engine.uses sh.at w = subst (λ y. Shows y start 0 (left_by 0 retired m) fl m.engine.uses sh.at w) same sh.shows in
    let count : w.retired ≡ retired = ap (λ l. l.retired) s0.left_is in
    let now_is : s0.runs.now ≡ now = same-some (after xs (length retired) start) s0.runs.now now (ap (λ r. after xs (length r) start) (sym count) ∙ s0.runs.arrived) arrived in
    let h0 : Hist xs start session (length retired) s0.runs.now fl = subst (λ n. Hist xs start session (length retired) n fl) (sym now_is) hist in
    let lists = lists-after xs start session b m k c ch offer exec part (offers-of m) m' k' both.whole_is.uses_are both.kept_is.answers [] fl refl (unreleased-at m k cause st.oldest) tt (λ i h. tt) (length retired) s0.runs.now h0.words h0.lists
    (all-serve xs start (left_by 0 retired m) fl m.engine.uses sh.at w s0) in
    let none : cons_option (option_map line_of ch.retire) retired ≡ retired = by (λ c. cons_option (option_map line_of c.retire) retired ≡ retired) refl in
    record {
      now = s0.runs.now;
      arrived = ap (λ r. after xs (length r) start) none ∙ arrived ∙ ap Some (sym now_is);
      hist = record {
        lists = subst (λ r. Lists xs start (b ∷ session) (length r) s0.runs.now []) (sym none) lists;
        owned = owned-on s.params s.set session b m.engine c h0.owned;
        words = words-on session b h0.words (rules I1) (cycle-grown s.params s.set session b m.engine c);
      };
    }
