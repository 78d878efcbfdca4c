-- The steps of the engine in a cycle, each beside the change of the facts that the bus tells.
use Rattle.std.proofs.Common.{◌≡◌, ◌<◌, ◌+◌, ◌++◌, ◌==◌, ◌&&◌, ◌||◌, not, ℕ, Bool, true, false, if◌then◌else◌, Option, Some, None, List, [], ◌∷◌, map, filter, refl, sym, ap, ◌∙◌, subst, arith}
use Rattle.std.specs.Prelude.{is_some, is_none}
use Rattle.std.specs.List.{list_any}
use Rattle.std.specs.Option.{option_map}
use Rattle.std.proofs.lemmas.Bool.{eqb-true, eq-eqb}
use Rattle.xif_base.specs.declared.params.Key.{Key}
use Rattle.xif_base.specs.declared.flags.ReadFlags.{ReadFlags}
use Rattle.coproc_config.specs.declared.accept.Hit.{Hit}
use Rattle.coproc_config.specs.Set.{UnitTable}
use Rattle.xif_signals.specs.declared.bus.Bus.{Bus}
use Rattle.xif_session.specs.declared.fact.Response.{Response}
use Rattle.xif_session.specs.declared.fact.Decision.{Decision}
use Rattle.xif_session.specs.declared.fact.Decision.TheVariants.{Undecided, Released, Killed}
use Rattle.xif_session.specs.declared.fact.Fact.{Fact}
use Rattle.xif_session.specs.Facts.{Facts, Past, same_key, is_undecided, is_released, is_killed, is_running, issue_key, register_key, commit_key, result_key, is_issued, is_given, is_taken, result_waits, is_start, starts_key, new_fact, named, answered_on, given_on, decided_on, ended_on, undecided_start, with_response, with_operands as fact_operands, with_decision as fact_decision, with_end as fact_end, response_on, is_covered, decision_after}
use Rattle.xif_session.specs.Rules.{HasOperands}
use Rattle.xif_session.proofs.Options.{same_some, both-true, and-true, no_true, not_in, not_out, key_is, key_same}
use Rattle.cycle_spec.specs.declared.use_of.Use.{Use}
use Rattle.cycle_spec.specs.Engine.{has_key, has_start, latest, register_read_of, has_operands, is_complete, is_next, with_ready, ready_uses, ready_in_harts, outcome_of, new_use, start_step, with_answer, with_operands, given_to, lanes_on, with_decision, decide_step, decided_by, with_end}
use Rattle.cycle_spec.specs.Engine as engine
use Rattle.cycle_lists.specs.Lists.{Each, Pairs}
use Rattle.cycle_lists.proofs.Tests.{or-cases, or-true, or-false, or-left, false-or}
use Rattle.cycle_lists.proofs.Every.{Each-from, Each-map, Each-push, Each-at}
use Rattle.cycle_lists.proofs.Places.{any-at}
use Rattle.trace_laws.proofs.Apart.{Apart, named-apart, answered-apart, given-apart, decided-apart, ended-apart}
use Rattle.trace_laws.proofs.Uses.{same-bool, any-in, any-front, any-map, any-filter, Each-kept, Earlier, rises-map, rises-push, rises-on}
use Rattle.trace_laws.proofs.EngineTold.{answer, AnsweredBy, fact_of, Told, Shows, Kept, Stage, Named, latest_named, same_test, ReadyFact, ready_fact, not-none}

-- ---- a step in general

-- each use is changed
pub stage_map : (F G : Facts) (harts : ℕ) (b : Bus) (start : ℕ) (v w : Bool) (n : ℕ) (f : Use → Use) (us : List Use)
    → ((u : Use) → (f u).key ≡ u.key) → ((u : Use) → (f u).start ≡ u.start) → ((key : Key) → is_some (G key) ≡ is_some (F key)) → Apart n G → (w ≡ true → v ≡ true)
    → ((u : Use) → Kept F harts b start v u → Kept G harts b start w (f u)) → Stage F harts b start v n us → Stage G harts b start w n (map f us)
stage_map F G harts b start v w n f us keys starts there a vw k s = record {
  each = Each-map (Kept F harts b start v) (Kept G harts b start w) f us k s.each;
  covers = λ key h. any-map (has_key key) f us (λ u. ap (λ x. same_key x key) (keys u)) ∙ s.covers key (sym (there key) ∙ h);
  member = λ h. any-map (has_start start) f us (λ u. ap (λ x. x == start) (starts u)) ∙ s.member (vw h);
  rises = rises-map n f us starts s.rises;
  apart = a;
}

-- none is
pub stage_move : (F G : Facts) (harts : ℕ) (b : Bus) (start : ℕ) (v w : Bool) (n : ℕ) (us : List Use)
    → ((key : Key) → is_some (G key) ≡ is_some (F key)) → Apart n G → (w ≡ true → v ≡ true)
    → ((u : Use) → Kept F harts b start v u → Kept G harts b start w u) → Stage F harts b start v n us → Stage G harts b start w n us
stage_move F G harts b start v w n us there a vw k s = record {
  each = Each-from (Kept F harts b start v) (Kept G harts b start w) us k s.each;
  covers = λ key h. s.covers key (sym (there key) ∙ h);
  member = λ h. s.member (vw h);
  rises = s.rises;
  apart = a;
}

some_map : {A : Type 0} (g : A → A) (o : Option A) → is_some (option_map g o) ≡ is_some o
some_map g None = refl
some_map g (Some x) = refl

-- the facts of its key stay
pub moved : (F G : Facts) (harts : ℕ) (u : Use) → G u.key ≡ F u.key → Told F harts u → Told G harts u
moved F G harts u e t = record {
  response = t.response;
  flags = t.flags;
  is_fact = e ∙ t.is_fact;
  answered = t.answered;
  given = t.given;
  given_after = t.given_after;
  within = t.within;
  computed = t.computed;
  ended = t.ended;
  hart = t.hart;
}

-- ---- a start

unkilled : (d : Decision) → is_released d ≡ true → is_killed d ≡ false
unkilled Undecided h = refl
unkilled Released h = refl
unkilled Killed h = cc

-- a use that is ready and unfinished is in flight
pub running : (facts : Facts) (u : Use) → ReadyFact facts u → u.finished ≡ false → is_running (facts u.key) ≡ true
running facts u r f =
    ap is_running r.is_fact ∙ ap (λ x. is_some u.hit && not (x || u.finished)) (unkilled u.decision r.computed.released)
    ∙ ap (λ x. is_some u.hit && not x) f ∙ and-true (is_some u.hit) true r.computed.accepted refl

pub named_other : (p : Past) (b : Bus) (key : Key) → starts_key p b key ≡ false → named p b key ≡ p.facts key
named_other p b key q = ap (λ t. if t then Some (new_fact p.cycle b.issue_instr) else p.facts key) q

pub named_new : (p : Past) (b : Bus) (key : Key) → starts_key p b key ≡ true → named p b key ≡ Some (new_fact p.cycle b.issue_instr)
named_new p b key q = ap (λ t. if t then Some (new_fact p.cycle b.issue_instr) else p.facts key) q

not_started : (p : Past) (b : Bus) (key : Key) → is_start p b ≡ false → starts_key p b key ≡ false
not_started p b key q = ap (λ t. t && same_key (issue_key b) key) q

-- no use starts
pub stage_unstarted : (p : Past) (b : Bus) (harts start : ℕ) (v : Bool) (us : List Use) → is_start p b ≡ false → Stage p.facts harts b start v p.cycle us → Stage (named p b) harts b start v (p.cycle + 1) us
stage_unstarted p b harts start v us q s =
    let t : Stage (named p b) harts b start v (p.cycle + 1) us = record {
      each = Each-from (Kept p.facts harts b start v) (Kept (named p b) harts b start v) us (λ u k. (moved p.facts (named p b) harts u (named_other p b u.key (not_started p b u.key q)) k.0, k.1)) s.each;
      covers = λ key h. s.covers key (ap is_some (sym (named_other p b key (not_started p b key q))) ∙ h);
      member = s.member;
      rises = rises-on p.cycle us s.rises;
      apart = named-apart p b s.apart;
    } in
    t

-- a use starts: it takes the place of the older one of its key
pub stage_started : (p : Past) (b : Bus) (harts start : ℕ) (v : Bool) (us : List Use) → is_start p b ≡ true → b.issue_hartid < harts → is_running (p.facts (issue_key b)) ≡ false
    → Stage p.facts harts b start v p.cycle us → Stage (named p b) harts b start v (p.cycle + 1) (engine.with_start (new_use (issue_key b) p.cycle b.issue_instr) us)
stage_started p b harts start v us q hart free s = record {
  each =
      Each-push (Kept (named p b) harts b start v) (filter stays us) new
      (Each-kept (Kept p.facts harts b start v) (Kept (named p b) harts b start v) stays us (λ u o k. (moved p.facts (named p b) harts u (named_other p b u.key (other u o)) k.0, k.1)) s.each)
      (told_new, λ h e. absurd (let l = low h in omega arith));
  covers = λ key h. by_key key (starts_key p b key) refl h;
  member = λ h. any-front (has_start start) (filter stays us) (new ∷ []) (any-filter (Kept p.facts harts b start v) (has_start start) stays us (λ u k e. stay h u k (eqb-true u.start start e)) s.each (s.member h));
  rises = rises-push p.cycle stays us new refl s.rises;
  apart = named-apart p b s.apart;
}
  where
    new : Use
    new = new_use (issue_key b) p.cycle b.issue_instr

    stays : Use → Bool
    stays u = not (has_key (issue_key b) u)

    other : (u : Use) → stays u ≡ true → starts_key p b u.key ≡ false
    other u o = false-or (starts_key p b u.key) (λ h. no_true (has_key (issue_key b) u) (key_same u.key (issue_key b) (sym (key_is (issue_key b) u.key (both-true (is_start p b) _ h).1))) (not_in (has_key (issue_key b) u) o))

    told_new : Told (named p b) harts new
    told_new = record {
      response = None;
      flags = None;
      is_fact = named_new p b (issue_key b) (and-true (is_start p b) _ q (key_same (issue_key b) (issue_key b) refl));
      answered = refl;
      given = refl;
      given_after = λ h. cc;
      within = tt;
      computed = λ h. cc;
      ended = λ h. cc;
      hart = hart;
    }

    low : v ≡ true → start < p.cycle
    low h =
        let a = any-at (has_start start) us (s.member h) in
        subst (λ m. m < p.cycle) (eqb-true a.one.start start a.passes) (Each-at (λ u. u.start < p.cycle) us a.front a.one a.back a.here s.rises.below)

    stay : v ≡ true → (u : Use) → Kept p.facts harts b start v u → u.start ≡ start → stays u ≡ true
    stay h u k e =
        let shows = k.1 h e in
        not_out (has_key (issue_key b) u) (false-or (has_key (issue_key b) u) (λ m. no_true (is_running (p.facts (issue_key b))) (ap (λ x. is_running (p.facts x)) (sym (key_is u.key (issue_key b) m)) ∙ running p.facts u (ready_fact p.facts harts u k.0 shows.ready) shows.unfinished) free))

    by_key : (key : Key) (t : Bool) → starts_key p b key ≡ t → is_some (named p b key) ≡ true → list_any (has_key key) (filter stays us ++ new ∷ []) ≡ true
    by_key key true e h = any-in (has_key key) (filter stays us) new [] (both-true (is_start p b) _ e).1
    by_key key false e h =
        any-front (has_key key) (filter stays us) (new ∷ [])
        (any-filter (Kept p.facts harts b start v) (has_key key) stays us
        (λ u k m. not_out (has_key (issue_key b) u) (false-or (has_key (issue_key b) u) (λ z. no_true (starts_key p b key) (and-true (is_start p b) _ q (key_same (issue_key b) key (sym (key_is u.key (issue_key b) z) ∙ key_is u.key key m))) e)))
        s.each (s.covers key (ap is_some (sym (named_other p b key e)) ∙ h)))

-- ---- the issue handshake

-- the use that is offered has no response yet
pub record Offered (facts : Facts) (key : Key) (start word : ℕ) : Type 0 where
  pub fact : Fact
  pub there : facts key ≡ Some fact
  pub start_is : fact.start ≡ start
  pub word_is : fact.instr ≡ word
  pub response : fact.response ≡ None

abbrev answer_with : Bool → Option Hit → (order : ℕ) → Use → Use
answer_with r hit order u = record u { hit = if r then hit else u.hit; order = if r then order else u.order }

no_flags : (flags : Option ReadFlags) (r : Option Response) → r ≡ None → (is_some flags ≡ true → is_some r ≡ true) → (x : Response) → HasOperands (Some x) flags
no_flags None r q h x = tt
no_flags (Some f) r q h x = absurd (not-none r q (h refl))

pub no_hit : (response : Option Response) (hit : Option Hit) → response ≡ None → AnsweredBy response hit → hit ≡ None
no_hit None hit q a = a
no_hit (Some x) hit q a = cc

pub unanswered : (F : Facts) (b : Bus) (key : Key) → (is_issued b && same_key (issue_key b) key) ≡ false → answered_on b F key ≡ F key
unanswered F b key q = ap (λ t. option_map (with_response t (response_on b)) (F key)) q ∙ same (F key)
  where
    same : (o : Option Fact) → option_map (with_response false (response_on b)) o ≡ o
    same None = refl
    same (Some f) = refl

pub stage_answered : (F : Facts) (b : Bus) (harts start : ℕ) (v : Bool) (n : ℕ) (hit : Option Hit) (order s : ℕ) (us : List Use) (t : Bool)
    → is_issued b ≡ t → (t ≡ true → Offered F (issue_key b) s b.issue_instr) → (t ≡ true → response_on b ≡ answer hit)
    → Stage F harts b start v n us → Stage (answered_on b F) harts b start v n (if t then map (with_answer s hit order) us else us)
stage_answered F b harts start v n hit order s us false q off says st =
    stage_move F (answered_on b F) harts b start v v n us (λ key. some_map _ (F key)) (answered-apart n b F st.apart) (λ h. h)
    (λ u k. (moved F (answered_on b F) harts u (unanswered F b u.key (ap (λ t. t && same_key (issue_key b) u.key) q)) k.0, k.1)) st
stage_answered F b harts start v n hit order s us true q off says st =
    stage_map F (answered_on b F) harts b start v v n (with_answer s hit order) us (λ u. refl) (λ u. refl) (λ key. some_map _ (F key)) (answered-apart n b F st.apart) (λ h. h) one st
  where
    told : (r : Bool) (u : Use) (t : Told F harts u) → same_key (issue_key b) u.key ≡ r → (r ≡ true → t.response ≡ None) → Told (answered_on b F) harts (answer_with r hit order u)
    told true u t k none = record {
      response = Some (answer hit);
      flags = t.flags;
      is_fact =
          ap (λ x. option_map (with_response (x && same_key (issue_key b) u.key) (response_on b)) (F u.key)) q
          ∙ ap (λ x. option_map (with_response x (response_on b)) (F u.key)) k
          ∙ ap (option_map (with_response true (response_on b))) t.is_fact ∙ ap (λ x. Some (fact_of u (Some x) t.flags)) (says refl);
      answered = refl;
      given = t.given;
      given_after = λ h. refl;
      within = no_flags t.flags t.response (none refl) t.given_after (answer hit);
      computed = λ h. absurd (not-none u.hit (no_hit t.response u.hit (none refl) t.answered) (t.computed h).accepted);
      ended = t.ended;
      hart = t.hart;
    }
    told false u t k none = record {
      response = t.response;
      flags = t.flags;
      is_fact =
          ap (λ x. option_map (with_response (x && same_key (issue_key b) u.key) (response_on b)) (F u.key)) q
          ∙ ap (λ x. option_map (with_response x (response_on b)) (F u.key)) k
          ∙ ap (option_map (with_response false (response_on b))) t.is_fact;
      answered = t.answered;
      given = t.given;
      given_after = t.given_after;
      within = t.within;
      computed = t.computed;
      ended = t.ended;
      hart = t.hart;
    }

    shows : (r : Bool) (u : Use) (t : Told F harts u) → (r ≡ true → t.response ≡ None) → Shows b u → Shows b (answer_with r hit order u)
    shows true u t none h = absurd (not-none u.hit (no_hit t.response u.hit (none refl) t.answered) (t.computed h.ready).accepted)
    shows false u t none h = h

    both : (r : Bool) (u : Use) → same_key (issue_key b) u.key ≡ r → Kept F harts b start v u → Kept (answered_on b F) harts b start v (answer_with r hit order u)
    both r u k x = (told r u x.0 k none, λ h e. shows r u x.0 none (x.1 h e))
      where
        none : r ≡ true → x.0.response ≡ None
        none z =
            let o = off refl in
            let key : issue_key b ≡ u.key = key_is (issue_key b) u.key (k ∙ z) in
            let same : o.fact ≡ fact_of u x.0.response x.0.flags = same_some (F (issue_key b)) o.fact _ o.there (ap F key ∙ x.0.is_fact) in
            sym (ap (λ f. f.response) same) ∙ o.response

    one : (u : Use) → Kept F harts b start v u → Kept (answered_on b F) harts b start v (with_answer s hit order u)
    one u x =
        let o = off refl in
        both (u.start == s) u (same_test n F harts (issue_key b) o.fact s u st.apart o.there o.start_is x.0) x

-- ---- the register handshake

-- the use that gets its registers was answered, and they are all that it reads
pub record IsServed (response : Option Response) (flags : ℕ) : Type 0 where
  pub answered : is_some response ≡ true
  pub within : HasOperands response (Some (record { 0 = flags }))

abbrev given_with : Bool → (lanes : List ℕ) → Use → Use
given_with r lanes u = record u { given = u.given || r; lanes = if r then lanes else u.lanes }

given_unchanged : (F : Facts) (b : Bus) (key : Key) → (is_given b && same_key (register_key b) key) ≡ false → given_on b F key ≡ F key
given_unchanged F b key q = ap (λ t. option_map (fact_operands t b.register_rs_valid) (F key)) q ∙ same (F key)
  where
    same : (o : Option Fact) → option_map (fact_operands false b.register_rs_valid) o ≡ o
    same None = refl
    same (Some f) = refl

pub stage_given : (F : Facts) (b : Bus) (harts start : ℕ) (v : Bool) (n : ℕ) (lanes : List ℕ) (us : List Use) (t : Bool)
    → is_given b ≡ t → (t ≡ true → (f : Fact) → F (register_key b) ≡ Some f → IsServed f.response b.register_rs_valid)
    → Stage F harts b start v n us → Stage (given_on b F) harts b start v n (if t then given_to (latest (register_key b) us) lanes us else us)
stage_given F b harts start v n lanes us false q serves st =
    stage_move F (given_on b F) harts b start v v n us (λ key. some_map _ (F key)) (given-apart n b F st.apart) (λ h. h)
    (λ u k. (moved F (given_on b F) harts u (given_unchanged F b u.key (ap (λ t. t && same_key (register_key b) u.key) q)) k.0, k.1)) st
stage_given F b harts start v n lanes us true q serves st =
    go (latest (register_key b) us) (latest_named F harts us (register_key b) (Each-from (Kept F harts b start v) (Told F harts) us (λ u k. k.0) st.each) st.covers)
  where
    told : (r : Bool) (u : Use) (t : Told F harts u) → same_key (register_key b) u.key ≡ r → Told (given_on b F) harts (given_with r lanes u)
    told true u t k =
        let served = serves refl (fact_of u t.response t.flags) (ap F (key_is (register_key b) u.key k) ∙ t.is_fact) in
        record {
          response = t.response;
          flags = Some (record { 0 = b.register_rs_valid });
          is_fact =
              ap (λ x. option_map (fact_operands (x && same_key (register_key b) u.key) b.register_rs_valid) (F u.key)) q
              ∙ ap (λ x. option_map (fact_operands x b.register_rs_valid) (F u.key)) k
              ∙ ap (option_map (fact_operands true b.register_rs_valid)) t.is_fact;
          answered = t.answered;
          given = sym (or-true u.given);
          given_after = λ h. served.answered;
          within = served.within;
          computed = λ h. record { accepted = (t.computed h).accepted; released = (t.computed h).released; given = or-left (u.given || true) _ (or-true u.given) };
          ended = t.ended;
          hart = t.hart;
        }
    told false u t k = record {
      response = t.response;
      flags = t.flags;
      is_fact = given_unchanged F b u.key (ap (λ x. x && same_key (register_key b) u.key) q ∙ k) ∙ t.is_fact;
      answered = t.answered;
      given = t.given ∙ sym (or-false u.given);
      given_after = t.given_after;
      within = t.within;
      computed = λ h. record { accepted = (t.computed h).accepted; released = (t.computed h).released; given = ap (λ x. x || (register_read_of u.hit == 0)) (or-false u.given) ∙ (t.computed h).given };
      ended = t.ended;
      hart = t.hart;
    }

    shows : (r : Bool) (u : Use) → Shows b u → Shows b (given_with r lanes u)
    shows r u h = record { key = h.key; value = h.value; rd = h.rd; we = h.we; ready = h.ready; unfinished = h.unfinished }

    go : (o : Option Use) → Named F harts (register_key b) o → Stage (given_on b F) harts b start v n (given_to o lanes us)
    go None none =
        stage_move F (given_on b F) harts b start v v n us (λ key. some_map _ (F key)) (given-apart n b F st.apart) (λ h. h)
        (λ u k. (moved F (given_on b F) harts u (given_unchanged F b u.key (ap (λ x. x && same_key (register_key b) u.key) q ∙ false-or (same_key (register_key b) u.key) (λ m. let bad : None ≡ Some (fact_of u k.0.response k.0.flags) = sym none ∙ ap F (key_is (register_key b) u.key m) ∙ k.0.is_fact in cc))) k.0, k.1)) st
    go (Some w) n2 =
        stage_map F (given_on b F) harts b start v v n (with_operands w.start lanes) us (λ u. refl) (λ u. refl) (λ key. some_map _ (F key)) (given-apart n b F st.apart) (λ h. h)
        (λ u k. (told (u.start == w.start) u k.0 (same_test n F harts (register_key b) (fact_of w n2.1.response n2.1.flags) w.start u st.apart (ap F (sym n2.0) ∙ n2.1.is_fact) refl k.0), λ h e. shows (u.start == w.start) u (k.1 h e))) st

-- ---- the commit

decided_released : (t kill : Bool) (d : Decision) → is_released d ≡ true → is_released (decision_after t kill d) ≡ true
decided_released true kill Undecided h = cc
decided_released true kill Released h = refl
decided_released true kill Killed h = cc
decided_released false kill d h = h

eqb-sym : (a b : ℕ) → (a == b) ≡ (b == a)
eqb-sym a b = same-bool (a == b) (b == a) (λ h. eq-eqb b a (sym (eqb-true a b h))) (λ h. eq-eqb a b (sym (eqb-true b a h)))

abbrev decided_with : Bool → (kill : Bool) → Use → Use
decided_with r kill u = record u { decision = decision_after r kill u.decision }

pub stage_decided : (F : Facts) (b : Bus) (harts start : ℕ) (v : Bool) (n : ℕ) (us : List Use) (t : Bool) → b.commit_valid ≡ t → (effective : Option ℕ) → effective ≡ (if t then undecided_start (F (commit_key b)) else None)
    → Stage F harts b start v n us → Stage (decided_on b effective F) harts b start v n (if t then decided_by b.commit_kill (latest (commit_key b) us) us else us)
stage_decided F b harts start v n us false q effective e st = subst (λ x. Stage (decided_on b x F) harts b start v n us) (sym e) (record { each = st.each; covers = st.covers; member = st.member; rises = st.rises; apart = st.apart })
stage_decided F b harts start v n us true q effective e st =
    go (latest (commit_key b) us) (latest_named F harts us (commit_key b) (Each-from (Kept F harts b start v) (Told F harts) us (λ u k. k.0) st.each) st.covers)
  where
    stays : (effective ≡ None) → Stage (decided_on b effective F) harts b start v n us
    stays z = subst (λ x. Stage (decided_on b x F) harts b start v n us) (sym z) (record { each = st.each; covers = st.covers; member = st.member; rises = st.rises; apart = st.apart })

    told : (s : ℕ) (r : Bool) (u : Use) (t : Told F harts u) → ((b.commit_hartid == u.key.hart) && is_covered b.commit_kill s u.start) ≡ r → Told (decided_on b (Some s) F) harts (decided_with r b.commit_kill u)
    told s r u t k = record {
      response = t.response;
      flags = t.flags;
      is_fact = ap (option_map (fact_decision (b.commit_hartid == u.key.hart) s b.commit_kill)) t.is_fact ∙ ap (λ x. Some (fact_of (decided_with x b.commit_kill u) t.response t.flags)) k;
      answered = t.answered;
      given = t.given;
      given_after = t.given_after;
      within = t.within;
      computed = λ h. record { accepted = (t.computed h).accepted; released = decided_released r b.commit_kill u.decision (t.computed h).released; given = (t.computed h).given };
      ended = λ h. decided_released r b.commit_kill u.decision (t.ended h);
      hart = t.hart;
    }

    decides : (w : Use) → w.key ≡ commit_key b → (u : Use) → Kept F harts b start v u → Kept (decided_on b (Some w.start) F) harts b start v (with_decision b.commit_kill w u)
    decides w key u k = (
      told w.start ((u.key.hart == w.key.hart) && is_covered b.commit_kill w.start u.start) u k.0
          (ap (λ x. x && is_covered b.commit_kill w.start u.start) (eqb-sym b.commit_hartid u.key.hart ∙ ap (λ (x : Key). u.key.hart == x.hart) (sym key))),
      λ h z. let s = k.1 h z in record { key = s.key; value = s.value; rd = s.rd; we = s.we; ready = s.ready; unfinished = s.unfinished },
    )

    by : (w : Use) (key : w.key ≡ commit_key b) (x : Bool) → effective ≡ (if x then Some w.start else None) → Stage (decided_on b effective F) harts b start v n (if x then map (with_decision b.commit_kill w) us else us)
    by w key false z = stays z
    by w key true z =
        subst (λ x. Stage (decided_on b x F) harts b start v n (map (with_decision b.commit_kill w) us)) (sym z)
        (stage_map F (decided_on b (Some w.start) F) harts b start v v n (with_decision b.commit_kill w) us (λ u. refl) (λ u. refl) (λ k. some_map _ (F k)) (decided-apart n (Some w.start) b F st.apart) (λ h. h) (decides w key) st)

    go : (o : Option Use) → Named F harts (commit_key b) o → Stage (decided_on b effective F) harts b start v n (decided_by b.commit_kill o us)
    go None none = stays (e ∙ ap undecided_start none)
    go (Some w) m = by w m.0 (is_undecided w.decision) (e ∙ ap undecided_start (ap F (sym m.0) ∙ m.1.is_fact))

-- ---- the result handshake

abbrev ended_with : Bool → Use → Use
ended_with r u = record u { finished = u.finished || r }

told_ended : (F : Facts) (b : Bus) (harts : ℕ) (r : Bool) (u : Use) → Told F harts u → (is_taken b && same_key (result_key b) u.key) ≡ r → (r ≡ true → is_released u.decision ≡ true) → Told (ended_on b F) harts (ended_with r u)
told_ended F b harts r u t k l = record {
  response = t.response;
  flags = t.flags;
  is_fact = ap (option_map (fact_end (is_taken b && same_key (result_key b) u.key))) t.is_fact ∙ ap (λ x. Some (fact_of (ended_with x u) t.response t.flags)) k;
  answered = t.answered;
  given = t.given;
  given_after = t.given_after;
  within = t.within;
  computed = λ h. record { accepted = (t.computed h).accepted; released = (t.computed h).released; given = (t.computed h).given };
  ended = λ h. or-cases u.finished r (is_released u.decision ≡ true) h t.ended l;
  hart = t.hart;
}

-- what waits isn't taken
waits_valid : (b : Bus) → result_waits b ≡ true → b.result_valid ≡ true
waits_valid b h = (both-true b.result_valid (not b.result_ready) h).0

waits_untaken : (b : Bus) → result_waits b ≡ true → is_taken b ≡ true → ⊥
waits_untaken b h k = no_true b.result_ready (both-true b.result_valid b.result_ready k).1 (not_in b.result_ready (both-true b.result_valid (not b.result_ready) h).1)

pub stage_ended : (F : Facts) (b : Bus) (harts start n : ℕ) (us : List Use) (t : Bool) → is_taken b ≡ t
    → Stage F harts b start b.result_valid n us → Stage (ended_on b F) harts b start (result_waits b) n (if t then map (with_end start) us else us)
stage_ended F b harts start n us false q st =
    stage_move F (ended_on b F) harts b start b.result_valid (result_waits b) n us (λ key. some_map _ (F key)) (ended-apart n b F st.apart) (waits_valid b)
    (λ u k. (moved F (ended_on b F) harts u (same u.key (F u.key)) k.0, λ h z. k.1 (waits_valid b h) z)) st
  where
    same : (key : Key) (o : Option Fact) → option_map (fact_end (is_taken b && same_key (result_key b) key)) o ≡ o
    same key None = refl
    same key (Some f) = ap (λ t. Some (record f { finished = f.finished || (t && same_key (result_key b) key) })) q ∙ ap (λ x. Some (record f { finished = x })) (or-false f.finished)
stage_ended F b harts start n us true q st =
    stage_map F (ended_on b F) harts b start b.result_valid (result_waits b) n (with_end start) us (λ u. refl) (λ u. refl) (λ key. some_map _ (F key)) (ended-apart n b F st.apart) (waits_valid b)
    (λ u k. (told_ended F b harts (u.start == start) u k.0 (ap (λ x. x && same_key (result_key b) u.key) q ∙ test u k.0) (λ z. (k.0.computed (k.1 valid (eqb-true u.start start z)).ready).released), λ h z. absurd (waits_untaken b h q))) st
  where
    valid : b.result_valid ≡ true
    valid = (both-true b.result_valid b.result_ready q).0

    test : (u : Use) → Told F harts u → same_key (result_key b) u.key ≡ (u.start == start)
    test u t =
        let a = any-at (has_start start) us (st.member valid) in
        let k = Each-at (Kept F harts b start b.result_valid) us a.front a.one a.back a.here st.each in
        let s : a.one.start ≡ start = eqb-true a.one.start start a.passes in
        same_test n F harts (result_key b) (fact_of a.one k.0.response k.0.flags) start u st.apart (ap F (k.1 valid s).key ∙ k.0.is_fact) s t

-- ---- the units

Each-ready : (P : Use → Type 0) (set : List UnitTable) (cycle hart : ℕ) (state : List (List ℕ)) (us : List Use)
    → ((u : Use) (r : ℕ) → is_next hart u ≡ true → is_complete u ≡ true → P u → P (with_ready cycle r u)) → Each P us → Each P (ready_uses set cycle hart state us)
Each-ready P set cycle hart state [] k e = tt
Each-ready P set cycle hart state (u ∷ us) k e = go (is_next hart u) (is_complete u) refl refl (Each-ready P set cycle hart state us k e.1) (Each-ready P set cycle hart (outcome_of set state u).state us k e.1)
  where
    go : (x y : Bool) → is_next hart u ≡ x → is_complete u ≡ y → Each P (ready_uses set cycle hart state us) → Each P (ready_uses set cycle hart (outcome_of set state u).state us)
        → Each P (if not x then u ∷ ready_uses set cycle hart state us else if y then with_ready cycle (outcome_of set state u).result u ∷ ready_uses set cycle hart (outcome_of set state u).state us else u ∷ us)
    go false y p q a b = (e.0, a)
    go true true p q a b = (k u (outcome_of set state u).result p q e.0, b)
    go true false p q a b = e

any-ready : (test : Use → Bool) (set : List UnitTable) (cycle hart : ℕ) (state : List (List ℕ)) (us : List Use)
    → ((u : Use) (r : ℕ) → test (with_ready cycle r u) ≡ test u) → list_any test (ready_uses set cycle hart state us) ≡ list_any test us
any-ready test set cycle hart state [] k = refl
any-ready test set cycle hart state (u ∷ us) k = go (is_next hart u) (is_complete u) (any-ready test set cycle hart state us k) (any-ready test set cycle hart (outcome_of set state u).state us k)
  where
    go : (x y : Bool) → list_any test (ready_uses set cycle hart state us) ≡ list_any test us → list_any test (ready_uses set cycle hart (outcome_of set state u).state us) ≡ list_any test us
        → list_any test (if not x then u ∷ ready_uses set cycle hart state us else if y then with_ready cycle (outcome_of set state u).result u ∷ ready_uses set cycle hart (outcome_of set state u).state us else u ∷ us) ≡ list_any test (u ∷ us)
    go false y a b = ap (λ t. test u || t) a
    go true true a b = ap (λ t. t || list_any test (ready_uses set cycle hart (outcome_of set state u).state us)) (k u (outcome_of set state u).result) ∙ ap (λ t. test u || t) b
    go true false a b = refl

Pairs-ready : (set : List UnitTable) (cycle hart : ℕ) (state : List (List ℕ)) (us : List Use) → Pairs Earlier us → Pairs Earlier (ready_uses set cycle hart state us)
Pairs-ready set cycle hart state [] p = tt
Pairs-ready set cycle hart state (u ∷ us) p = go (is_next hart u) (is_complete u) (Pairs-ready set cycle hart state us p.1) (Pairs-ready set cycle hart (outcome_of set state u).state us p.1)
  where
    go : (x y : Bool) → Pairs Earlier (ready_uses set cycle hart state us) → Pairs Earlier (ready_uses set cycle hart (outcome_of set state u).state us)
        → Pairs Earlier (if not x then u ∷ ready_uses set cycle hart state us else if y then with_ready cycle (outcome_of set state u).result u ∷ ready_uses set cycle hart (outcome_of set state u).state us else u ∷ us)
    go false y a b = (Each-ready (Earlier u) set cycle hart state us (λ v r n c h. h) p.0, a)
    go true true a b = (Each-ready (Earlier u) set cycle hart (outcome_of set state u).state us (λ v r n c h. h) p.0, b)
    go true false a b = p

not_ready : (o : Option ℕ) → is_none o ≡ true → is_some o ≡ true → ⊥
not_ready None h k = cc
not_ready (Some r) h k = cc

stage_ready : (F : Facts) (b : Bus) (harts start : ℕ) (v : Bool) (n : ℕ) (set : List UnitTable) (cycle hart : ℕ) (state : List (List ℕ)) (us : List Use)
    → Stage F harts b start v n us → Stage F harts b start v n (ready_uses set cycle hart state us)
stage_ready F b harts start v n set cycle hart state us st = record {
  each = Each-ready (Kept F harts b start v) set cycle hart state us one st.each;
  covers = λ key h. any-ready (has_key key) set cycle hart state us (λ u r. refl) ∙ st.covers key h;
  member = λ h. any-ready (has_start start) set cycle hart state us (λ u r. refl) ∙ st.member h;
  rises = record {
    pairs = Pairs-ready set cycle hart state us st.rises.pairs;
    below = Each-ready (λ u. u.start < n) set cycle hart state us (λ u r x y h. h) st.rises.below;
  };
  apart = st.apart;
}
  where
    one : (u : Use) (r : ℕ) → is_next hart u ≡ true → is_complete u ≡ true → Kept F harts b start v u → Kept F harts b start v (with_ready cycle r u)
    one u r x y k =
        let x1 = (both-true (u.key.hart == hart) _ x).1 in
        let x2 = both-true (engine.is_accepted u) _ x1 in
        let x3 = (both-true (not (is_killed u.decision)) _ x2.1).1 in
        let y1 = both-true (is_released u.decision) _ y in (
          record {
            response = k.0.response;
            flags = k.0.flags;
            is_fact = k.0.is_fact;
            answered = k.0.answered;
            given = k.0.given;
            given_after = k.0.given_after;
            within = k.0.within;
            computed = λ h. record { accepted = x2.0; released = y1.0; given = y1.1 };
            ended = k.0.ended;
            hart = k.0.hart;
          },
          λ h z. absurd (not_ready u.ready x3 (k.1 h z).ready),
        )

pub stage_units : (F : Facts) (b : Bus) (harts start : ℕ) (v : Bool) (n : ℕ) (set : List UnitTable) (cycle hart : ℕ) (states : List (List (List ℕ))) (us : List Use)
    → Stage F harts b start v n us → Stage F harts b start v n (ready_in_harts set cycle hart states us)
stage_units F b harts start v n set cycle hart [] us st = st
stage_units F b harts start v n set cycle hart (state ∷ states) us st = stage_units F b harts start v n set cycle (hart + 1) states (ready_uses set cycle hart state us) (stage_ready F b harts start v n set cycle hart state us st)
