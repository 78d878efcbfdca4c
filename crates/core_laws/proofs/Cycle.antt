-- The core keeps its rules in a cycle, beside a coprocessor that keeps its own, and what is said of
-- both goes on.
use Rattle.std.proofs.Common.{◌≡◌, ◌<◌, ◌^◌, ◌==◌, ◌&&◌, ℕ, Bool, true, false, if◌then◌else◌, Option, Some, None, refl, sym, ap, ◌∙◌, subst, arith}
use Rattle.std.specs.Prelude.{is_some, IfSome}
use Rattle.std.specs.Option.{option_map}
use Rattle.xif_base.specs.Params.{IsInRange}
use Rattle.coproc_config.specs.declared.accept.Hit.{Hit}
use Rattle.xif_signals.specs.declared.bus.Bus.{Bus}
use Rattle.xif_signals.specs.declared.bus.CpuOut.{CpuOut}
use Rattle.xif_signals.specs.declared.bus.CopOut.{CopOut}
use Rattle.xif_signals.specs.declared.bus.CpuIn.{CpuIn}
use Rattle.xif_session.specs.declared.fact.Response.{Response}
use Rattle.xif_session.specs.declared.fact.Fact.{Fact}
use Rattle.xif_session.specs.Facts.{Past, past_after, same_key, issue_key, register_key, is_issued, is_given, is_start, starts_key, named, answered_on, given_on, decided_on, effective_start, with_response, with_operands, with_decision, response_on}
use Rattle.xif_session.specs.Rules.{HasOperands, HoldsG4}
use Rattle.xif_session.specs.Legal.{CoreKeeps, EngineKeeps}
use Rattle.xif_session.proofs.Options.{was_of, same_some, both-true, and-true, key_is, key_same}
use Rattle.cycle_spec.specs.declared.choices.Choices.{Choices}
use Rattle.cycle_spec.specs.declared.choices.Presented.{Presented}
use Rattle.cycle_spec.specs.Flight.{is_open, is_waiting}
use Rattle.cycle_spec.specs.State.{Core, Engine}
use Rattle.cycle_spec.specs.Choices.{choices}
use Rattle.cycle_spec.specs.Core.{id_in, presented_id, core_clock, core_accepts}
use Rattle.cycle_spec.specs.Cycle.{Machines, hart_if}
use Rattle.cycle_lists.specs.Lists.{Pairs, FirstAt}
use Rattle.cycle_lists.proofs.Tests.{false-or}
use Rattle.cycle_lists.proofs.Every.{Each-at}
use Rattle.cycle_paired.specs.Paired.{live_entries, is_live_use, live_uses, Match, IsEntry, Paired}
use Rattle.cycle_paired.proofs.Facts.{waiting-accepted, waiting-live}
use Rattle.cycle_paired.proofs.Matching.{found}
use Rattle.cycle_paired.proofs.Choosing.{Presents, sound}
use Rattle.cycle_paired.proofs.Cycling.{facts_of, cpu_for}
use Rattle.trace_laws.specs.Driven.{bus_with, seen_with}
use Rattle.trace_laws.proofs.EngineTold.{Orderly, answer, AnsweredBy, EngineTold, fact_of, not-none}
use Rattle.trace_laws.proofs.EngineSteps.{IsServed, named_other}
use Rattle.trace_laws.proofs.CoreChosen.{InOrder, Chosen, chosen}
use Rattle.trace_laws.proofs.CoreRules.{Linked, some_case, if_at, offered_apart}
use Rattle.trace_laws.proofs.CoreRules as rules
use Rattle.trace_laws.proofs.CoreCommits as commits
use Rattle.trace_laws.proofs.Releases.{order_after}
use Rattle.trace_laws.proofs.Presents.{known}
use Rattle.trace_laws.proofs.SmallCore.{SmallCore, core-small}
use Rattle.trace_laws.proofs.Shown.{Operands}
use Rattle.trace_laws.proofs.Shown as shown
use Rattle.trace_laws.proofs.ShownAfter.{operands_after}
use Rattle.core_laws.proofs.Ghost.{hit_with, readied_with, told_after, Ends}
use Rattle.core_laws.proofs.Told.{quiet}
use Rattle.core_laws.proofs.Told as told
use Rattle.core_laws.proofs.Joined as joined
use Rattle.core_laws.proofs.Linked as links

-- nothing is asked for of a refused word
abbrev pub IsPlain : Bus → Type 0
IsPlain b = b.issue_accept ≡ false → b.issue_register_read ≡ 0

-- what is said of a core, and of what its coprocessor has seen
pub record Held (hart : ℕ) (w : Core) (g : Engine) (p : Past) : Type 0 where
  pub paired : Paired hart (record { core = w; engine = g })
  pub told : EngineTold g g.params.num_harts (quiet p)
  pub linked : Linked paired.answered p.facts
  pub released : Pairs InOrder w.flight
  pub below : hart < g.params.num_harts
  pub range : IsInRange g.params
  -- of what its registers show
  pub operands : Operands w p
  pub words : SmallCore w

module _ (hart : ℕ) (w : Core) (g : Engine) (p : Past) (cop : CopOut) (k : Held hart w g p) where
  abbrev m : Machines
  m = record { core = w; engine = g }

  abbrev ch : Choices
  ch = choices w

  abbrev bus : Bus
  bus = bus_with hart w cop

  abbrev cpu : CpuOut
  cpu = cpu_for hart (choices w)

  abbrev input : CpuIn
  input = core_accepts w cop

  pub c : Chosen w.params.split w.flight (choices w)
  c = chosen w (facts_of hart (record { core = w; engine = g }) k.paired) k.released

  hart_on : (valid : Bool) → hart_if valid hart < g.params.num_harts
  hart_on true = k.below
  hart_on false = let l = k.below in omega arith

  -- what the registers show is the core's alone: as beside the engine
  g4 : HoldsG4 w.params p (bus_with hart w cop)
  g4 h lane l = let x = shown.keeps_g4 hart m p k.paired c (subst IsInRange (sym k.paired.params) k.range) k.words k.operands h lane l in record { low = x.low; high = x.high }

  pub keeps : CoreKeeps g.params p (bus_with hart w cop)
  keeps =
      let o = rules.orderly hart m (quiet p) k.paired k.told k.linked k.below c in
      let c3 = commits.keeps_c3 hart m (quiet p) k.paired k.told k.linked k.below c in
      record {
        issue_hart = λ v. hart_on bus.issue_valid;
        register_hart = λ v. hart_on bus.register_valid;
        commit_hart = λ v. hart_on bus.commit_valid;
        i1 = o.i1;
        i2 = o.i2;
        g1 = record { valid = o.g1.valid; key = o.g1.key };
        g2 = rules.keeps_g2 hart m (quiet p) k.paired k.told k.linked k.below c;
        g3 = shown.keeps_g3 hart m p k.paired c k.operands;
        g4 = subst (λ x. HoldsG4 x p (bus_with hart w cop)) k.paired.params g4;
        c1 = commits.keeps_c1 hart m (quiet p) k.paired k.told k.linked k.below c;
        c2 = commits.keeps_c2 hart m (quiet p) k.paired k.told k.linked k.below c;
        c3 = record { unreleased = c3.unreleased; in_order = c3.in_order };
      }

  pub orderly : Orderly g.params p (bus_with hart w cop)
  orderly = let x = keeps in record { hart = x.issue_hart; i1 = x.i1; i2 = x.i2; g1 = x.g1 }

  module _ (plain : IsPlain (bus_with hart w cop)) (eng : EngineKeeps g.params p (bus_with hart w cop)) where
    says : is_issued bus ≡ true → response_on bus ≡ answer (hit_with cop)
    says h = go cop.issue_accept refl
      where
        go : (t : Bool) → cop.issue_accept ≡ t → ◌≡◌ {A = Response} (record { accept = t; writeback = record { 0 = cop.issue_writeback }; register_read = record { 0 = cop.issue_register_read } })
            (answer (if t then Some (record { unit = 0; entry = 0; register_read = record { 0 = cop.issue_register_read }; writeback = record { 0 = cop.issue_writeback } }) else None))
        go true q = refl
        go false q =
            ap (λ n. record { accept = false; writeback = record { 0 = n }; register_read = record { 0 = cop.issue_register_read } }) (eng.i3 h q)
            ∙ ap (λ n. record { accept = false; writeback = record { 0 = 0 }; register_read = record { 0 = n } }) (plain q)

    joins : w.params.split ≡ false → is_some ch.offer ≡ true → is_some ch.present ≡ true → (is_some ch.offer && cop.issue_ready) ≡ (is_some ch.present && cop.register_ready)
    joins s i r =
        ap (λ x. x && cop.issue_ready) i ∙ sym (eng.g1 (ap (λ x. x.split) (sym k.paired.params) ∙ s) i r) ∙ sym (ap (λ x. x && cop.register_ready) r)

    -- what is given is what the response asked for
    within : (h : is_given bus ≡ true) (f : Fact) → answered_on bus (named p bus) (register_key bus) ≡ Some f → HasOperands f.response (Some (record { 0 = bus.register_rs_valid }))
    within h f q = go (effective_start p bus) (eng.g5.register h)
      where
        given : given_on bus (answered_on bus (named p bus)) (register_key bus) ≡ Some (record f { operands = Some (record { 0 = bus.register_rs_valid }) })
        given =
            ap (option_map (with_operands (is_given bus && same_key (register_key bus) (register_key bus)) bus.register_rs_valid)) q
            ∙ ap (λ t. Some (record f { operands = if t then Some (record { 0 = bus.register_rs_valid }) else f.operands })) (and-true (is_given bus) _ h (key_same (register_key bus) (register_key bus) refl))

        go : (o : Option ℕ) → IfSome (decided_on bus o (given_on bus (answered_on bus (named p bus))) (register_key bus)) (λ fact. HasOperands fact.response fact.operands) → HasOperands f.response (Some (record { 0 = bus.register_rs_valid }))
        go None x = subst (λ o. IfSome o (λ fact. HasOperands fact.response fact.operands)) given x
        go (Some s) x = subst (λ o. IfSome (option_map (with_decision (bus.commit_hartid == (register_key bus).hart) s bus.commit_kill) o) (λ fact. HasOperands fact.response fact.operands)) given x

    some_response : (t : Bool) (r : Response) (o : Option Response) → (t ≡ false → is_some o ≡ true) → is_some (if t then Some r else o) ≡ true
    some_response true r o h = refl
    some_response false r o h = h refl

    -- with split, of the use that waits for its registers
    waits-answered : (x : Presented) → ch.present ≡ Some x → FirstAt is_waiting w.flight x.entry → (f : Fact) → answered_on bus (named p bus) (register_key bus) ≡ Some f → is_some f.response ≡ true
    waits-answered x h at f q =
        let ok = Each-at IsEntry w.flight at.older x.entry at.younger at.here k.paired.entries in
        let fd = found hart k.paired.answered at.older x.entry at.younger g.uses (waiting-live x.entry ok at.passes) k.paired.older (subst (λ es. Match hart (live_entries es) (live_uses k.paired.answered g.uses)) at.here k.paired.match) in
        let u = rules.partner_is hart m (quiet p) k.paired k.told k.linked k.below c at.older x.entry at.younger fd in
        let key : register_key bus ≡ record { hart = hart; id = x.entry.id } = ap (λ o. record { hart = hart_if (is_some o) hart; id = presented_id o }) h in
        let unstarted : starts_key p bus (register_key bus) ≡ false = false-or (starts_key p bus (register_key bus)) (λ s.
        let both = both-true (is_start p bus) _ s in
        some_case ch.offer ⊥ (both-true bus.issue_valid _ both.0).0 (λ y o.
        let first = if_at (FirstAt is_open w.flight) ch.offer y o c.offer in
        let id : y.id ≡ x.entry.id = ap id_in (sym o) ∙ ap (λ z. z.id) (key_is (issue_key bus) (register_key bus) both.1 ∙ key) in
        Each-at (λ z. is_live_use k.paired.answered z ≡ true → z.key.id ≡ y.id → ⊥) g.uses fd.front fd.partner fd.back fd.here (offered_apart hart m k.paired y first) fd.live_is (fd.alike.id ∙ sym id))) in
        let was = was_of (with_response (is_issued bus && same_key (issue_key bus) (register_key bus)) (response_on bus)) (named p bus (register_key bus)) f q in
        let same : was.was ≡ fact_of fd.partner u.told.response u.told.flags = same_some (named p bus (register_key bus)) _ _ was.there (named_other p bus (register_key bus) unstarted ∙ ap p.facts key ∙ u.there) in
        ap (λ z. is_some z.response) (sym was.becomes)
        ∙ some_response (is_issued bus && same_key (issue_key bus) (register_key bus)) (response_on bus) was.was.response
        (λ _. ap (λ z. is_some z.response) same ∙ responds u.told.response fd.partner.hit u.told.answered (ap accepts (sym fd.alike.response) ∙ waiting-accepted x.entry at.passes))
      where
        accepts : Option Response → Bool
        accepts None = false
        accepts (Some r) = r.accept

        responds : (o : Option Response) (hit : Option Hit) → AnsweredBy o hit → is_some hit ≡ true → is_some o ≡ true
        responds None hit z i = absurd (not-none hit z i)
        responds (Some r) hit z i = refl

    serves : is_given bus ≡ true → (f : Fact) → answered_on bus (named p bus) (register_key bus) ≡ Some f → IsServed f.response cpu.register_rs_valid
    serves h f q = record { answered = by_split w.params.split refl; within = within h f q }
      where
        valid : is_some ch.present ≡ true
        valid = (both-true (is_some ch.present) cop.register_ready h).0

        by_split : (s : Bool) → w.params.split ≡ s → is_some f.response ≡ true
        by_split true s =
            some_case ch.present (is_some f.response ≡ true) valid (λ x e. waits-answered x e (subst (λ o. Presents true w.flight ch.offer o) e (subst (λ y. Presents y w.flight ch.offer ch.present) s c.present)) f q)
        by_split false s =
            let sg : g.params.split ≡ false = ap (λ x. x.split) (sym k.paired.params) ∙ s in
            let g1 = keeps.g1 in
            let v : bus.issue_valid ≡ true = sym (g1.valid sg) ∙ valid in
            let ready : cop.issue_ready ≡ true = sym (eng.g1 sg v valid) ∙ (both-true (is_some ch.present) cop.register_ready h).1 in
            let test : (is_issued bus && same_key (issue_key bus) (register_key bus)) ≡ true = and-true (is_issued bus) _ (and-true bus.issue_valid cop.issue_ready v ready) (key_same (issue_key bus) (register_key bus) (sym (g1.key sg v))) in
            let was = was_of (with_response (is_issued bus && same_key (issue_key bus) (register_key bus)) (response_on bus)) (named p bus (register_key bus)) f q in
            ap (λ z. is_some z.response) (sym was.becomes) ∙ ap (λ t. is_some (if t then Some (response_on bus) else was.was.response)) test

    ends : cop.result_valid ≡ true → Ends cop (readied_with g cpu cop)
    ends = told.ends g p cpu cop input k.told orderly says serves eng.r3 eng.r4 eng.r5

    pub held : (answer : ℕ → ℕ → ℕ) → (choices w).stop ≡ None → cop.result_data < 2 ^ 64 → Held hart (core_clock answer w (seen_with w cop)) (told_after g (cpu_for hart (choices w)) cop (core_accepts w cop)) (past_after p (bus_with hart w cop))
    held answer s wide =
        let so = sound w (facts_of hart m k.paired) s in
        let kn = known hart m p cop k.paired c so eng (joined.finishing hart m cop k.paired so joins says ends) k.operands.fit k.operands.count in
        record {
          paired = joined.after-paired hart m cop k.paired so joins says ends answer;
          told = told.kept g p cpu cop input k.told orderly says serves eng.r3 eng.r4 eng.r5;
          linked = links.linked_after g p cpu cop input k.told orderly k.paired.answered k.linked (joined.after-paired hart m cop k.paired so joins says ends answer).answered (joined.after-marked hart m cop k.paired so joins says ends answer);
          released = order_after answer w (choices w) (seen_with w cop) k.paired.order.pairs k.paired.behind c.offer k.released;
          below = k.below;
          range = k.range;
          operands = operands_after hart m p cop k.paired c answer kn k.words;
          words = core-small answer w (seen_with w cop) w.params.dual_write (λ h. wide) k.operands.fit k.words;
        }
