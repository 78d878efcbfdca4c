-- A cycle of the engine beside a core that keeps its rules: the uses behind each step.
use Rattle.std.proofs.Common.{◌≡◌, ◌+◌, ◌++◌, ◌&&◌, ◌||◌, not, ℕ, Bool, true, false, if◌then◌else◌, Option, Some, None, List, [], ◌∷◌, map, refl, sym, ap, ◌∙◌, subst}
use Rattle.std.specs.Prelude.{is_some, find}
use Rattle.std.specs.List.{list_any}
use Rattle.std.specs.Option.{option_map}
use Rattle.std.proofs.lemmas.Bool.{eqb-true, eq-eqb}
use Rattle.xif_base.specs.declared.params.Key.{Key}
use Rattle.coproc_config.specs.declared.accept.Hit.{Hit}
use Rattle.xif_signals.specs.declared.bus.Bus.{Bus}
use Rattle.xif_signals.specs.declared.bus.CpuOut.{CpuOut}
use Rattle.xif_signals.specs.declared.bus.CopOut.{CopOut}
use Rattle.xif_signals.specs.declared.bus.CpuIn.{CpuIn}
use Rattle.xif_signals.specs.Bus.{join_of}
use Rattle.xif_session.specs.declared.fact.Response.{Response}
use Rattle.xif_session.specs.declared.fact.Fact.{Fact}
use Rattle.xif_session.specs.Facts.{Facts, Past, past_after, same_key, has_killed, is_killed, is_running, issue_key, register_key, commit_key, issue_waits, result_waits, is_issued, is_given, is_taken, issue_continues, is_start, new_fact, named, now, answered_on, given_on, decided_on, ended_on, undecided_start, effective_start, with_response, response_on}
use Rattle.xif_session.specs.Rules.{IsWithin}
use Rattle.xif_session.specs.Tests.{is_within}
use Rattle.xif_session.proofs.Options.{Was, was_of, same_some, both-true, and-true, no_true, not_in, key_is, key_same}
use Rattle.xif_session.proofs.RuleTests.{within_in}
use Rattle.cycle_spec.specs.declared.turn.Transaction.{Transaction}
use Rattle.cycle_spec.specs.declared.use_of.Use.{Use}
use Rattle.cycle_spec.specs.Turns.{is_past, turn_of}
use Rattle.cycle_spec.specs.State.{Engine}
use Rattle.cycle_spec.specs.Engine as engine
use Rattle.cycle_spec.specs.Engine.{has_key, has_start, goes_on, goes_on_in, is_offered_on, starts, start_step, new_use, started_uses, issue_start, register_start, register_use, offered_hit, response_hit, may_answer, may_take, issue_ready, register_ready, register_read_of, offered_by, offered_use, is_due, is_past_ready, use_or, cop_out, engine_drive, answered_uses, given_uses, decided_uses, ended_uses, settled_uses, with_end, ended, end_step, lanes_on}
use Rattle.cycle_lists.specs.Lists.{Each}
use Rattle.cycle_lists.proofs.Tests.{or-false_left, false-or}
use Rattle.cycle_lists.proofs.Every.{Each-from, Each-both, Each-at}
use Rattle.cycle_lists.proofs.Places.{any-at, first-at}
use Rattle.trace_laws.specs.Driven.{bus_beside}
use Rattle.trace_laws.proofs.Uses.{same-bool, any-in, only}
use Rattle.trace_laws.proofs.EngineTold.{Orderly, answer, AnsweredBy, fact_of, Told, Shows, Kept, Stage, Waits, IssueTold, ResultTold, EngineTold, Named, latest_named, found, start_found, not-none}
use Rattle.trace_laws.proofs.EngineSteps.{stage_unstarted, stage_started, named_other, named_new, Offered, stage_answered, IsServed, stage_given, stage_decided, stage_ended, stage_units}

pub find-some : {A : Type 0} (test : A → Bool) (xs : List A) → list_any test xs ≡ true → is_some (find test xs) ≡ true
find-some test [] h = cc
find-some test (x ∷ xs) h = go (test x) h (find-some test xs)
  where
    go : (t : Bool) → (t || list_any test xs) ≡ true → (list_any test xs ≡ true → is_some (find test xs) ≡ true) → is_some (if t then Some x else find test xs) ≡ true
    go true k ih = refl
    go false k ih = ih k

-- the use that the result channel offers
pub record Offer (us : List Use) (u : Use) : Type 0 where
  pub older : List Use
  pub younger : List Use
  pub here : us ≡ older ++ u ∷ younger
  pub ready : is_some u.ready ≡ true
  pub unfinished : u.finished ≡ false

due_ready : (delay cycle : ℕ) (ready : Option ℕ) → is_past_ready delay cycle ready ≡ true → is_some ready ≡ true
due_ready delay cycle None h = cc
due_ready delay cycle (Some r) h = refl

pub offer_by : (delays : List ℕ) (cycle : ℕ) (us : List Use) (p : Past) (u : Use) (waiting : Option ℕ) → ResultTold waiting us p → offered_by waiting delays cycle us ≡ Some u → Offer us u
offer_by delays cycle us p u None r q =
    let f = first-at (is_due delays cycle) us u q in
    let both = both-true (not u.finished) _ f.passes in
    record { older = f.older; younger = f.younger; here = f.here; ready = due_ready _ cycle u.ready both.1; unfinished = not_in u.finished both.0 }
offer_by delays cycle us p u (Some start) r q =
    let f = first-at (has_start start) us u q in
    let s = Each-at (λ v. v.start ≡ start → Shows p.last v) us f.older u f.younger f.here r.shows (eqb-true u.start start f.passes) in
    record { older = f.older; younger = f.younger; here = f.here; ready = s.ready; unfinished = s.unfinished }

undecided_same : (b : Bus) (F : Facts) (key : Key) → undecided_start (given_on b (answered_on b F) key) ≡ undecided_start (F key)
undecided_same b F key = go (F key)
  where
    go : (o : Option Fact) → undecided_start (given_on b (answered_on b (λ k. o)) key) ≡ undecided_start o
    go None = refl
    go (Some f) = refl

-- what a use was offered for, and its response
abbrev pub seen : Option Fact → Option (ℕ × (ℕ × Option Response))
seen = option_map (λ f. (f.start, (f.instr, f.response)))

decided_seen : (b : Bus) (start : Option ℕ) (F : Facts) (key : Key) → seen (decided_on b start F key) ≡ seen (F key)
decided_seen b None F key = refl
decided_seen b (Some s) F key = go (F key)
  where
    go : (o : Option Fact) → seen (decided_on b (Some s) (λ k. o) key) ≡ seen o
    go None = refl
    go (Some f) = refl

-- behind the issue handshake they stay
pub seen_after : (p : Past) (b : Bus) (key : Key) → seen ((past_after p b).facts key) ≡ seen (answered_on b (named p b) key)
seen_after p b key =
    ended_seen (now p b key) ∙ decided_seen b (effective_start p b) (given_on b (answered_on b (named p b))) key ∙ given_seen (answered_on b (named p b) key)
  where
    ended_seen : (o : Option Fact) → seen (ended_on b (λ k. o) key) ≡ seen o
    ended_seen None = refl
    ended_seen (Some f) = refl

    given_seen : (o : Option Fact) → seen (given_on b (λ k. o) key) ≡ seen o
    given_seen None = refl
    given_seen (Some f) = refl

pub record Seen (o : Option Fact) (start word : ℕ) (response : Option Response) : Type 0 where
  pub fact : Fact
  pub there : o ≡ Some fact
  pub start_is : fact.start ≡ start
  pub word_is : fact.instr ≡ word
  pub response_is : fact.response ≡ response

pub seen_some : (o : Option Fact) (start word : ℕ) (response : Option Response) → seen o ≡ Some (start, (word, response)) → Seen o start word response
seen_some None start word response q = cc
seen_some (Some f) start word response q =
    let all : (f.start, (f.instr, f.response)) ≡ (start, (word, response)) = same_some (seen (Some f)) _ _ refl q in
    record { fact = f; there = refl; start_is = ap (λ x. x.0) all; word_is = ap (λ x. x.1.0) all; response_is = ap (λ x. x.1.1) all }

-- ---- the cycle

module _ (e : Engine) (p : Past) (cpu : CpuOut) (input : CpuIn) (t : EngineTold e e.params.num_harts p) (k : Orderly e.params p (bus_beside e cpu input)) where
  abbrev bus : Bus
  bus = bus_beside e cpu input

  abbrev harts : ℕ
  harts = e.params.num_harts

  abbrev cop : CopOut
  cop = engine_drive e cpu

  goes_same : cpu.issue_valid ≡ true → goes_on e cpu ≡ issue_continues p bus
  goes_same v = go e.issue_turns.waiting t.issue
    where
      forth : (w : Transaction) → Waits w p → goes_on_in (Some w) (engine.issue_key cpu) e.uses ≡ true → issue_continues p bus ≡ true
      forth w i h =
          let a = any-at (is_offered_on (engine.issue_key cpu) w.owner) e.uses h in
          let told = Each-at (Told p.facts harts) e.uses a.front a.one a.back a.here t.each in
          let x = both-true (has_key (engine.issue_key cpu) a.one) _ a.passes in
          let y = both-true (has_start w.owner a.one) _ x.1 in
          let here : p.facts (engine.issue_key cpu) ≡ Some (fact_of a.one told.response told.flags) = ap p.facts (sym (key_is a.one.key (engine.issue_key cpu) x.0)) ∙ told.is_fact in
          let same : issue_key p.last ≡ engine.issue_key cpu = t.apart.unique (issue_key p.last) (engine.issue_key cpu) i.fact _ i.there here (i.start ∙ sym (eqb-true a.one.start w.owner y.0)) in
          and-true (issue_waits p.last) _ i.waits (and-true cpu.issue_valid _ v (and-true (same_key (issue_key p.last) (engine.issue_key cpu)) _ (key_same (issue_key p.last) (engine.issue_key cpu) same) (ap (λ o. not (has_killed o)) here ∙ y.1)))

      back : (w : Transaction) → Waits w p → issue_continues p bus ≡ true → goes_on_in (Some w) (engine.issue_key cpu) e.uses ≡ true
      back w i h =
          let x = (both-true cpu.issue_valid _ (both-true (issue_waits p.last) _ h).1).1 in
          let y = both-true (same_key (issue_key p.last) (engine.issue_key cpu)) _ x in
          let here : p.facts (engine.issue_key cpu) ≡ Some i.fact = ap p.facts (sym (key_is (issue_key p.last) (engine.issue_key cpu) y.0)) ∙ i.there in
          let a = any-at (has_key (engine.issue_key cpu)) e.uses (t.covers (engine.issue_key cpu) (ap is_some here)) in
          let told = Each-at (Told p.facts harts) e.uses a.front a.one a.back a.here t.each in
          let same : fact_of a.one told.response told.flags ≡ i.fact = same_some (p.facts (engine.issue_key cpu)) _ i.fact (ap p.facts (sym (key_is a.one.key (engine.issue_key cpu) a.passes)) ∙ told.is_fact) here in
          let alive : not (is_killed a.one.decision) ≡ true = ap (λ f. not (is_killed f.decision)) same ∙ ap (λ o. not (has_killed o)) (sym here) ∙ y.1 in
          subst (λ us. list_any (is_offered_on (engine.issue_key cpu) w.owner) us ≡ true) (sym a.here)
          (any-in (is_offered_on (engine.issue_key cpu) w.owner) a.front a.one a.back (and-true (has_key (engine.issue_key cpu) a.one) _ a.passes (and-true (has_start w.owner a.one) _ (eq-eqb a.one.start w.owner (ap (λ f. f.start) same ∙ i.start)) alive)))

      go : (w : Option Transaction) → IssueTold w p → goes_on_in w (engine.issue_key cpu) e.uses ≡ issue_continues p bus
      go None i = sym (ap (λ x. x && (cpu.issue_valid && (same_key (issue_key p.last) (engine.issue_key cpu) && not (has_killed (p.facts (engine.issue_key cpu)))))) i)
      go (Some w) i = same-bool _ _ (forth w i) (back w i)

  -- a use starts for the engine where one does by the bus
  starts_same : starts e cpu ≡ is_start p bus
  starts_same = go cpu.issue_valid refl
    where
      go : (v : Bool) → cpu.issue_valid ≡ v → (v && not (goes_on e cpu)) ≡ (v && not (issue_continues p bus))
      go false q = refl
      go true q = ap not (goes_same q)

  abbrev pub bus_with : Option Use → Bus
  bus_with o = join_of cpu (cop_out (issue_ready e cpu) (response_hit e cpu) (register_ready e cpu) o) input

  -- before the cycle
  pub first_stage : Stage p.facts harts bus (use_or (offered_use e)).start (is_some (offered_use e)) p.cycle e.uses
  first_stage = go (offered_use e) refl
    where
      go : (o : Option Use) → offered_use e ≡ o → Stage p.facts harts (bus_with o) (use_or o).start (is_some o) p.cycle e.uses
      go None q = record {
        each = Each-from (Told p.facts harts) (Kept p.facts harts (bus_with None) (use_or None).start false) e.uses (λ u x. (x, λ h. cc)) t.each;
        covers = t.covers;
        member = λ h. cc;
        rises = t.rises;
        apart = t.apart;
      }
      go (Some u) q =
          let o = offer_by e.script.result e.cycle e.uses p u e.result_waiting t.result q in
          let shown : Shows (bus_with (Some u)) u = record { key = refl; value = refl; rd = refl; we = refl; ready = o.ready; unfinished = o.unfinished } in
          record {
            each =
                Each-both (Told p.facts harts) (λ v. v.start ≡ u.start → Shows (bus_with (Some u)) v) (Kept p.facts harts (bus_with (Some u)) u.start true) e.uses
                (λ v x y. (x, λ h. y)) t.each (only (Shows (bus_with (Some u))) e.uses o.older o.younger u o.here t.rises.pairs shown);
            covers = t.covers;
            member = λ h. subst (λ us. list_any (has_start u.start) us ≡ true) (sym o.here) (any-in (has_start u.start) o.older u o.younger (eq-eqb u.start u.start refl));
            rises = t.rises;
            apart = t.apart;
          }

  pub started_stage : Stage (named p bus) harts bus (use_or (offered_use e)).start (is_some (offered_use e)) (p.cycle + 1) (started_uses e cpu)
  started_stage = go (starts e cpu) refl
    where
      go : (x : Bool) → starts e cpu ≡ x → Stage (named p bus) harts bus (use_or (offered_use e)).start (is_some (offered_use e)) (p.cycle + 1) (start_step x cpu e.cycle e.uses)
      go false q = stage_unstarted p bus harts _ (is_some (offered_use e)) e.uses (sym starts_same ∙ q) first_stage
      go true q =
          let s : is_start p bus ≡ true = sym starts_same ∙ q in
          subst (λ c. Stage (named p bus) harts bus (use_or (offered_use e)).start (is_some (offered_use e)) (p.cycle + 1) (start_step true cpu c e.uses)) (sym t.clock)
          (stage_started p bus harts _ (is_some (offered_use e)) e.uses s (k.hart (both-true cpu.issue_valid _ s).0) (or-false_left (is_running (p.facts (engine.issue_key cpu))) _ (k.i2 s)) first_stage)

  pub told_started : Each (Told (named p bus) harts) (started_uses e cpu)
  told_started = Each-from (Kept (named p bus) harts bus (use_or (offered_use e)).start (is_some (offered_use e))) (Told (named p bus) harts) (started_uses e cpu) (λ u x. x.0) started_stage.each

  -- the use on the issue channel has no response
  pub offered : cpu.issue_valid ≡ true → Offered (named p bus) (engine.issue_key cpu) (issue_start e cpu) cpu.issue_instr
  offered v = by_start (is_start p bus) refl
    where
      made : (f : Fact) → named p bus (engine.issue_key cpu) ≡ Some f → f.instr ≡ cpu.issue_instr → f.response ≡ None → Offered (named p bus) (engine.issue_key cpu) (issue_start e cpu) cpu.issue_instr
      made f q w r =
          let x = found (named p bus) harts (started_uses e cpu) (engine.issue_key cpu) f told_started started_stage.covers q in
          record { fact = f; there = q; word_is = w; start_is = sym (start_found (named p bus) harts (started_uses e cpu) (engine.issue_key cpu) f e.cycle x); response = r }

      goes : (w : Option Transaction) → IssueTold w p → is_start p bus ≡ false → issue_continues p bus ≡ true → Offered (named p bus) (engine.issue_key cpu) (issue_start e cpu) cpu.issue_instr
      goes None i s c = no_true (issue_waits p.last) (both-true (issue_waits p.last) _ c).0 i
      goes (Some w) i s c =
          let y = (both-true (same_key (issue_key p.last) (engine.issue_key cpu)) _ (both-true cpu.issue_valid _ (both-true (issue_waits p.last) _ c).1).1).0 in
          made i.fact (named_other p bus (engine.issue_key cpu) (ap (λ x. x && same_key (engine.issue_key cpu) (engine.issue_key cpu)) s) ∙ ap p.facts (sym (key_is (issue_key p.last) (engine.issue_key cpu) y)) ∙ i.there) (i.word ∙ sym (k.i1 c)) i.response

      continues : (x : Bool) → cpu.issue_valid ≡ true → (cpu.issue_valid && not x) ≡ false → x ≡ true
      continues true v q = refl
      continues false v q = no_true (cpu.issue_valid && true) (and-true cpu.issue_valid true v refl) q

      by_start : (x : Bool) → is_start p bus ≡ x → Offered (named p bus) (engine.issue_key cpu) (issue_start e cpu) cpu.issue_instr
      by_start true s = made (new_fact p.cycle cpu.issue_instr) (named_new p bus (engine.issue_key cpu) (and-true (is_start p bus) _ s (key_same (engine.issue_key cpu) (engine.issue_key cpu) refl))) refl refl
      by_start false s = goes e.issue_turns.waiting t.issue s (continues (issue_continues p bus) v s)

  issued_valid : is_issued bus ≡ true → cpu.issue_valid ≡ true
  issued_valid h = (both-true cpu.issue_valid (issue_ready e cpu) h).0

  pub response_taken : is_issued bus ≡ true → response_hit e cpu ≡ offered_hit e cpu
  response_taken h = ap (λ x. if x then offered_hit e cpu else None) (both-true cpu.issue_valid (issue_ready e cpu) h).1

  answered_stage : Stage (answered_on bus (named p bus)) harts bus (use_or (offered_use e)).start (is_some (offered_use e)) (p.cycle + 1) (answered_uses e cpu cop)
  answered_stage =
      stage_answered (named p bus) bus harts _ (is_some (offered_use e)) (p.cycle + 1) (offered_hit e cpu) e.accepted (issue_start e cpu) (started_uses e cpu) (is_issued bus) refl
      (λ h. offered (issued_valid h)) (λ h. ap answer (response_taken h)) started_stage

  -- what the register handshake needs
  serves : is_given bus ≡ true → (f : Fact) → answered_on bus (named p bus) (register_key bus) ≡ Some f → IsServed f.response cpu.register_rs_valid
  serves h f q = by_split e.params.split refl
    where
      ready : (x : Bool) → e.params.split ≡ x → (if x then cpu.register_valid && (is_past e.script.register (turn_of e.register_turns (register_start e cpu)) && may_take (register_use e cpu) cpu.register_rs_valid) else issue_ready e cpu) ≡ true
      ready x s = sym (ap (λ y. if y then cpu.register_valid && (is_past e.script.register (turn_of e.register_turns (register_start e cpu)) && may_take (register_use e cpu) cpu.register_rs_valid) else issue_ready e cpu) s) ∙ (both-true cpu.register_valid (register_ready e cpu) h).1

      -- the fact before the answer
      was : Was (with_response (is_issued bus && same_key (engine.issue_key cpu) (engine.register_key cpu)) (response_on bus)) (named p bus (engine.register_key cpu)) f
      was = was_of (with_response (is_issued bus && same_key (engine.issue_key cpu) (engine.register_key cpu)) (response_on bus)) (named p bus (engine.register_key cpu)) f q

      later : (o : Option Use) → Named (named p bus) harts (engine.register_key cpu) o → may_take o cpu.register_rs_valid ≡ true → IsServed f.response cpu.register_rs_valid
      later None n m = cc
      later (Some u) n m =
          let m1 = both-true (engine.is_accepted u) _ m in
          let m2 = (both-true (not (is_killed u.decision)) _ m1.1).1 in
          let same : was.was ≡ fact_of u n.1.response n.1.flags = same_some (named p bus (engine.register_key cpu)) _ _ was.there (ap (named p bus) (sym n.0) ∙ n.1.is_fact) in
          by_response n.1.response n.1.answered m1.0 m2 (ap (λ x. x.response) same)
        where
          by_response : (r : Option Response) → AnsweredBy r u.hit → is_some u.hit ≡ true → is_within (register_read_of u.hit) cpu.register_rs_valid ≡ true → was.was.response ≡ r → IsServed f.response cpu.register_rs_valid
          by_response None a i w z = absurd (not-none u.hit a i)
          by_response (Some r) a i w z =
              let unissued : (is_issued bus && same_key (engine.issue_key cpu) (engine.register_key cpu)) ≡ false = false-or _ (λ y.
              let y1 = both-true (is_issued bus) _ y in
              let o = offered (issued_valid y1.0) in
              let same : o.fact ≡ was.was = same_some (named p bus (engine.register_key cpu)) _ _ (ap (named p bus) (sym (key_is (engine.issue_key cpu) (engine.register_key cpu) y1.1)) ∙ o.there) was.there in
              let bad : None ≡ Some r = sym o.response ∙ ap (λ x. x.response) same ∙ z in
              cc) in
              let is : f.response ≡ Some (answer u.hit) = sym (ap (λ x. x.response) was.becomes) ∙ ap (λ x. if x then Some (response_on bus) else was.was.response) unissued ∙ z ∙ ap Some a in
              subst (λ x. IsServed x cpu.register_rs_valid) (sym is) (record { answered = refl; within = λ y. within_in (register_read_of u.hit) cpu.register_rs_valid w })

      at_once : (hit : Option Hit) → response_hit e cpu ≡ hit → may_answer false hit cpu.register_rs_valid ≡ true → f.response ≡ Some (answer hit) → IsServed f.response cpu.register_rs_valid
      at_once hit r m is = subst (λ x. IsServed x cpu.register_rs_valid) (sym is) (record { answered = refl; within = λ y. read hit y m })
        where
          read : (hit : Option Hit) → is_some hit ≡ true → may_answer false hit cpu.register_rs_valid ≡ true → IsWithin (register_read_of hit) cpu.register_rs_valid
          read None y m = cc
          read (Some x) y m = within_in x.register_read.0 cpu.register_rs_valid m

      by_split : (x : Bool) → e.params.split ≡ x → IsServed f.response cpu.register_rs_valid
      by_split true s =
          let r = (both-true cpu.register_valid _ (ready true s)).1 in
          later (register_use e cpu) (latest_named (named p bus) harts (started_uses e cpu) (engine.register_key cpu) told_started started_stage.covers) (both-true (is_past e.script.register (turn_of e.register_turns (register_start e cpu))) _ r).1
      by_split false s =
          let v : cpu.issue_valid ≡ true = sym (k.g1.valid s) ∙ (both-true cpu.register_valid (register_ready e cpu) h).0 in
          let i : is_issued bus ≡ true = and-true cpu.issue_valid (issue_ready e cpu) v (ready false s) in
          let key : (is_issued bus && same_key (engine.issue_key cpu) (engine.register_key cpu)) ≡ true = and-true (is_issued bus) _ i (key_same (engine.issue_key cpu) (engine.register_key cpu) (sym (k.g1.key s v))) in
          let m1 = (both-true cpu.issue_valid _ (ready false s)).1 in
          let m2 : may_answer e.params.split (offered_hit e cpu) cpu.register_rs_valid ≡ true = (both-true (is_past e.script.issue (turn_of e.issue_turns (issue_start e cpu))) _ m1).1 in
          at_once (offered_hit e cpu) (response_taken i) (ap (λ x. may_answer x (offered_hit e cpu) cpu.register_rs_valid) (sym s) ∙ m2)
          (sym (ap (λ x. x.response) was.becomes) ∙ ap (λ x. if x then Some (response_on bus) else was.was.response) key ∙ ap (λ x. Some (answer x)) (response_taken i))

  given_stage : Stage (given_on bus (answered_on bus (named p bus))) harts bus (use_or (offered_use e)).start (is_some (offered_use e)) (p.cycle + 1) (given_uses e cpu cop)
  given_stage = stage_given (answered_on bus (named p bus)) bus harts _ (is_some (offered_use e)) (p.cycle + 1) (lanes_on cpu) (answered_uses e cpu cop) (is_given bus) refl serves answered_stage

  -- by the cycle
  pub now_stage : Stage (now p bus) harts bus (use_or (offered_use e)).start (is_some (offered_use e)) (p.cycle + 1) (decided_uses e cpu cop)
  now_stage =
      stage_decided (given_on bus (answered_on bus (named p bus))) bus harts _ (is_some (offered_use e)) (p.cycle + 1) (given_uses e cpu cop) cpu.commit_valid refl (effective_start p bus)
      (ap (λ x. if cpu.commit_valid then x else None) (sym (undecided_same bus (named p bus) (commit_key bus)))) given_stage

  -- after it
  pub last_stage : Stage (past_after p bus).facts harts bus (use_or (offered_use e)).start (result_waits bus) (p.cycle + 1) (settled_uses e cpu cop input)
  last_stage =
      stage_units (past_after p bus).facts bus harts _ (result_waits bus) (p.cycle + 1) e.set e.cycle 0 e.units (ended_uses e cpu cop input)
      (subst (Stage (past_after p bus).facts harts bus (use_or (offered_use e)).start (result_waits bus) (p.cycle + 1)) (by_offer (offered_use e))
      (stage_ended (now p bus) bus harts (use_or (offered_use e)).start (p.cycle + 1) (decided_uses e cpu cop) (is_taken bus) refl now_stage))
    where
      by_offer : (o : Option Use) → (if is_some o && input.result_ready then map (with_end (use_or o).start) (decided_uses e cpu cop) else decided_uses e cpu cop) ≡ (if is_some o && input.result_ready then ended o (decided_uses e cpu cop) else decided_uses e cpu cop)
      by_offer None = refl
      by_offer (Some u) = refl
