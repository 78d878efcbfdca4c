-- The core and what its coprocessor has seen stay paired in every cycle.
use Rattle.std.proofs.Common.{◌≡◌, ◌&&◌, ◌+◌, ℕ, Bool, true, false, cond, not, List, map, Option, Some, None, refl, sym, ap, ◌∙◌, subst}
use Rattle.std.specs.Prelude.{is_some, IfSome, find}
use Rattle.xif_image.specs.Region.{word_at}
use Rattle.inorder_machine.specs.declared.line.Write.{Write}
use Rattle.xif_signals.specs.declared.bus.Bus.{Bus}
use Rattle.xif_signals.specs.declared.bus.CpuOut.{CpuOut}
use Rattle.xif_signals.specs.declared.bus.CopOut.{CopOut}
use Rattle.xif_signals.specs.declared.bus.CpuIn.{CpuIn}
use Rattle.xif_session.specs.declared.fact.Response.{Response}
use Rattle.xif_session.specs.Facts.{response_on}
use Rattle.cycle_spec.specs.declared.choices.Choices.{Choices}
use Rattle.cycle_spec.specs.declared.choices.Executed.{Executed}
use Rattle.cycle_spec.specs.declared.choices.Presented.{Presented}
use Rattle.cycle_spec.specs.declared.entry.Entry.{Entry}
use Rattle.cycle_spec.specs.declared.use_of.Use.{Use}
use Rattle.cycle_spec.specs.Flight.{is_open, free_id, holds_id}
use Rattle.cycle_spec.specs.State.{Core, Engine}
use Rattle.cycle_spec.specs.Choices.{choices}
use Rattle.cycle_spec.specs.Core.{id_in, word_in, sent_on_present, release_step, cut_step, drain_step, kept_entries, memory_behind, ahead_behind, with_dispatch, dispatch_of, settled_entries, core_clock, core_accepts}
use Rattle.cycle_spec.specs.Engine.{latest, issue_start, with_answer, given_to, lanes_on, start_step, goes_on, started_uses, ended}
use Rattle.cycle_spec.specs.Cycle.{Machines, hart_if}
use Rattle.cycle_lists.specs.Lists.{Each, FirstAt}
use Rattle.cycle_lists.proofs.Order.{core-kept}
use Rattle.cycle_paired.specs.Paired.{live_entries, response_of, IsEntry, Offers, Paired}
use Rattle.cycle_paired.proofs.Carrying.{Carries}
use Rattle.cycle_paired.proofs.Starting.{OffersWord}
use Rattle.cycle_paired.proofs.Answering.{mark}
use Rattle.cycle_paired.proofs.Applying.{AllReadied, all-itself, all-below, all-uses, all-older, all-match, all-offers}
use Rattle.cycle_paired.proofs.Choosing.{Presents, Sound}
use Rattle.cycle_paired.proofs.Staging.{Stage, OfferedStage, stage-offered, stage-quiet, stage-waiting, stage-waiting_offered, stage-presented}
use Rattle.cycle_paired.proofs.Deciding.{Decided, decided_for, deciding-offered, deciding-quiet}
use Rattle.cycle_paired.proofs.Lasting.{Late, Last, late-decided, late-result, late-executed, late-retired, late-last, result_with}
use Rattle.cycle_paired.proofs.Cycling.{facts_of, joint_of, cpu_for, answer_on, sent_entries, sent_uses}
use Rattle.cycle_paired.proofs.Same.{settled-is, settled_for, writes, waits-for}
use Rattle.trace_laws.specs.Driven.{seen_with}
use Rattle.trace_laws.proofs.Paths.{Finishing}
use Rattle.trace_laws.proofs.Finishes.{finishing-of, finishing-none, kept-is}
use Rattle.core_laws.proofs.Ghost.{hit_with, result_key, answered_with, given_with, decided_with, readied_with, ended_with, told_after, Ends, all-readied}
use Rattle.cycle_lists.proofs.Places.{last-found}

-- ---- the registers, whatever the channel carries

sent-offered : (split b : Bool) (o : Option Presented) (lanes : List ℕ) (p : Entry) (s : ℕ) (t : Bool) (hart n id c : ℕ) (answered : ℕ → Bool) (fl es : List Entry) (us0 us : List Use) → Presents split fl (Some p) o → (is_some o ≡ false → b ≡ false) → (split ≡ false → is_some o ≡ true → t ≡ b)
    → Each IsEntry fl → OfferedStage p s t hart n id c answered fl es us0 us → OfferedStage p s t hart n id c answered fl (sent_entries b o es) us0 (sent_uses hart b o lanes us)
sent-offered true b None lanes p s t hart n id c answered fl es us0 us ps none same ok st =
    subst (λ x. OfferedStage p s t hart n id c answered fl (sent_entries x None es) us0 (sent_uses hart x None lanes us)) (sym (none refl)) st
sent-offered true b (Some x) lanes p s t hart n id c answered fl es us0 us ps none same ok st = stage-waiting_offered b lanes x.entry p s t hart n id c answered fl es us0 us ps ok st
sent-offered false b None lanes p s t hart n id c answered fl es us0 us ps none same ok st = absurd ps
sent-offered false b (Some x) lanes p s t hart n id c answered fl es us0 us ps none same ok st =
    subst (λ q. OfferedStage p s t hart n id c answered fl (cond b (sent_on_present (Some (record x { entry = q })) es) es) us0 (cond b (given_to (latest (record { hart = hart; id = q.id }) us) lanes us) us)) (sym ps)
    (subst (λ y. OfferedStage p s t hart n id c answered fl (cond y (sent_on_present (Some (record x { entry = p })) es) es) us0 (cond y (given_to (latest (record { hart = hart; id = p.id }) us) lanes us) us)) (same refl refl)
    (stage-presented lanes p s t hart n id c answered fl es us0 us st))

sent-quiet : (split b : Bool) (o : Option Presented) (lanes : List ℕ) (r hart n id c : ℕ) (answered : ℕ → Bool) (fl es : List Entry) (us0 us : List Use) → Presents split fl None o → (is_some o ≡ false → b ≡ false) → Each IsEntry fl
    → Stage r hart n id c answered fl es us0 us → Stage r hart n id c answered fl (sent_entries b o es) us0 (sent_uses hart b o lanes us)
sent-quiet true b None lanes r hart n id c answered fl es us0 us ps none ok st = subst (λ x. Stage r hart n id c answered fl (sent_entries x None es) us0 (sent_uses hart x None lanes us)) (sym (none refl)) st
sent-quiet true b (Some x) lanes r hart n id c answered fl es us0 us ps none ok st = stage-waiting b lanes x.entry r hart n id c answered fl es us0 us ps ok st
sent-quiet false b None lanes r hart n id c answered fl es us0 us ps none ok st = subst (λ x. Stage r hart n id c answered fl (sent_entries x None es) us0 (sent_uses hart x None lanes us)) (sym (none refl)) st
sent-quiet false b (Some x) lanes r hart n id c answered fl es us0 us ps none ok st = absurd ps

-- what is said late in a cycle stays where uses become ready
late-readied : (v : Bool) (s : ℕ) (t : Bool) (hart n id c : ℕ) (answered : ℕ → Bool) (x : Option Executed) (r : Option Entry) (es : List Entry) (us vs : List Use) → AllReadied us vs
    → Late v s t hart n id c answered x r None es us → Late v s t hart n id c answered x r None es vs
late-readied v s t hart n id c answered x r es us vs a l = record {
  joint = record {
    kept = l.joint.kept;
    entries = l.joint.entries;
    behind = l.joint.behind;
    below = all-below c us vs a l.joint.below;
    uses = all-uses answered us vs a l.joint.uses;
    older = all-older us vs a l.joint.older;
    match = all-match hart answered (live_entries es) us vs a l.joint.match;
  };
  execs = l.execs;
  head = l.head;
  offers = λ p q. all-offers answered hart es s us vs a (l.offers p q);
  results = tt;
}

-- the response counts at the handshake alone
same-answer : (o : Option Entry) (t : Bool) (r q : Response) (es : List Entry) → (t ≡ true → r ≡ q) → cond t (answer_on o r es) es ≡ cond t (answer_on o q es) es
same-answer o true r q es h = ap (λ x. answer_on o x es) (h refl)
same-answer o false r q es h = refl

module _ (hart : ℕ) (m : Machines) (cop : CopOut) (k : Paired hart m) (so : Sound m.core.params.split m.core.flight (choices m.core)) where
  abbrev w : Core
  w = m.core

  abbrev g : Engine
  g = m.engine

  abbrev ch : Choices
  ch = choices m.core

  abbrev cpu : CpuOut
  cpu = cpu_for hart (choices m.core)

  abbrev input : CpuIn
  input = core_accepts m.core cop

  abbrev seen : Bus
  seen = seen_with m.core cop

  -- the handshakes of the issue and of the register channel
  abbrev issued : Bool
  issued = is_some ch.offer && cop.issue_ready

  abbrev gives : Bool
  gives = is_some ch.present && cop.register_ready

  abbrev start : ℕ
  start = issue_start g cpu

  abbrev answered_list : List Entry
  answered_list = cond issued (answer_on ch.offer (response_of (hit_with cop)) w.flight) w.flight

  abbrev half_entries : List Entry
  half_entries = drain_step ch.drain (cut_step ch.cut (release_step ch.release (sent_entries gives ch.present answered_list)))

  abbrev pub marked : ℕ → Bool
  marked n = cond (is_some ch.offer) (mark start issued k.answered n) (k.answered n)

  record Half : Type 0 where
    answered : ℕ → Bool
    marks : (n : ℕ) → answered n ≡ marked n
    decided : Decided (is_some ch.offer) start issued hart w.next_seq (free_id w.flight) (g.cycle + 1) answered w.flight half_entries g.uses (decided_with g cpu cop)

  module _ (joins : w.params.split ≡ false → is_some ch.offer ≡ true → is_some ch.present ≡ true → issued ≡ gives) where
    offered-half : (p : Entry) → ch.offer ≡ Some p → FirstAt is_open w.flight p → Half
    offered-half p h f =
        let n = w.next_seq in
        let id = free_id w.flight in
        let a = mark start issued k.answered in
        let word : OffersWord hart cpu p = record { valid = ap is_some h; hart_is = ap (λ o. hart_if (is_some o) hart) h; id_is = ap id_in h; word_is = ap word_in h } in
        let st0 = stage-offered issued (hit_with cop) 0 hart n id g.cycle k.answered g.issue_turns.waiting cpu w.flight p g.uses word f k.offers (joint_of hart m k) in
        let st2 : OfferedStage p start issued hart n id (g.cycle + 1) a w.flight answered_list g.uses (answered_with g cpu cop) =
        subst (λ o. OfferedStage p start issued hart n id (g.cycle + 1) a w.flight (cond issued (answer_on o (response_of (hit_with cop)) w.flight) w.flight) g.uses (answered_with g cpu cop)) (sym h) st0 in
        let pr : Presents w.params.split w.flight (Some p) ch.present = subst (λ o. Presents w.params.split w.flight o ch.present) h so.present in
        let none : is_some ch.present ≡ false → gives ≡ false = λ q. ap (λ b. b && cop.register_ready) q in
        let same : w.params.split ≡ false → is_some ch.present ≡ true → issued ≡ gives = λ q r. joins q (ap is_some h) r in
        let st3 = sent-offered w.params.split gives ch.present (lanes_on cpu) p start issued hart n id (g.cycle + 1) a w.flight answered_list g.uses (answered_with g cpu cop) pr none same k.entries st2 in
        let d = deciding-offered ch p start issued hart n id (g.cycle + 1) a w.flight (sent_entries gives ch.present answered_list) g.uses (given_with g cpu cop) (facts_of hart m k) f h so.way st3 in
        record {
          answered = a;
          marks = λ x. ap (λ b. cond b (a x) (k.answered x)) (sym (ap is_some h));
          decided = subst (λ v. Decided v start issued hart n id (g.cycle + 1) a w.flight half_entries g.uses (decided_with g cpu cop)) (sym (ap is_some h)) d;
        }

    quiet-half : ch.offer ≡ None → Half
    quiet-half h =
        let n = w.next_seq in
        let id = free_id w.flight in
        let off : is_some ch.offer ≡ false = ap is_some h in
        let pr : Presents w.params.split w.flight None ch.present = subst (λ o. Presents w.params.split w.flight o ch.present) h so.present in
        let none : is_some ch.present ≡ false → gives ≡ false = λ q. ap (λ b. b && cop.register_ready) q in
        let st0 = stage-quiet hart n id g.cycle k.answered w.flight g.uses (joint_of hart m k) in
        let st1 = sent-quiet w.params.split gives ch.present (lanes_on cpu) n hart n id (g.cycle + 1) k.answered w.flight w.flight g.uses g.uses pr none k.entries st0 in
        let d = deciding-quiet ch start issued hart n id (g.cycle + 1) k.answered w.flight (sent_entries gives ch.present w.flight) g.uses (sent_uses hart gives ch.present (lanes_on cpu) g.uses) (facts_of hart m k) k.order.below h so.way st1 in
        let es_is : answered_list ≡ w.flight = ap (λ b. cond (b && cop.issue_ready) (answer_on ch.offer (response_of (hit_with cop)) w.flight) w.flight) off in
        let us_is : answered_with g cpu cop ≡ g.uses = quiet-uses off in
        let d1 : Decided false start issued hart n id (g.cycle + 1) k.answered w.flight half_entries g.uses (decided_for hart ch.kill ch.release (sent_uses hart gives ch.present (lanes_on cpu) g.uses)) =
        subst (λ l. Decided false start issued hart n id (g.cycle + 1) k.answered w.flight (drain_step ch.drain (cut_step ch.cut (release_step ch.release (sent_entries gives ch.present l)))) g.uses (decided_for hart ch.kill ch.release (sent_uses hart gives ch.present (lanes_on cpu) g.uses))) (sym es_is) d in
        let d2 : Decided false start issued hart n id (g.cycle + 1) k.answered w.flight half_entries g.uses (decided_with g cpu cop) =
        subst (λ l. Decided false start issued hart n id (g.cycle + 1) k.answered w.flight half_entries g.uses (decided_for hart ch.kill ch.release (sent_uses hart gives ch.present (lanes_on cpu) l))) (sym us_is) d1 in
        record {
          answered = k.answered;
          marks = λ x. ap (λ b. cond b (mark start issued k.answered x) (k.answered x)) (sym off);
          decided = subst (λ v. Decided v start issued hart n id (g.cycle + 1) k.answered w.flight half_entries g.uses (decided_with g cpu cop)) (sym off) d2;
        }
      where
        quiet-uses : is_some ch.offer ≡ false → answered_with g cpu cop ≡ g.uses
        quiet-uses off =
            ap (λ b. cond (b && cop.issue_ready) (map (with_answer start (hit_with cop) 0) (started_uses g cpu)) (started_uses g cpu)) off
            ∙ ap (λ b. start_step (b && not (goes_on g cpu)) cpu g.cycle g.uses) off

    half : Half
    half = go ch.offer refl so.offer
      where
        go : (o : Option Entry) → ch.offer ≡ o → IfSome o (FirstAt is_open w.flight) → Half
        go None h f = quiet-half h
        go (Some p) h f = offered-half p h f

    -- ---- the rest of the cycle

    abbrev wrote : Entry → Write
    wrote = writes cop.result_we cop.result_data

    module _ (says : issued ≡ true → response_on seen ≡ response_of (hit_with cop)) (ends : cop.result_valid ≡ true → Ends cop (readied_with g cpu cop)) where
      entries-are : settled_entries ch seen w.flight ≡ settled_for ch (cop.result_valid && input.result_ready) cop.result_id cop.result_we cop.result_data half_entries
      entries-are =
          settled-is ch seen issued (response_on seen) gives (cop.result_valid && input.result_ready) cop.result_id cop.result_we cop.result_data w.flight refl refl refl (record { taken = refl; id_is = refl; we_is = refl; data_is = refl })
          ∙ ap (λ l. settled_for ch (cop.result_valid && input.result_ready) cop.result_id cop.result_we cop.result_data (drain_step ch.drain (cut_step ch.cut (release_step ch.release (sent_entries gives ch.present l)))))
          (same-answer ch.offer issued (response_on seen) (response_of (hit_with cop)) w.flight says)

      carries : (e : Ends cop (readied_with g cpu cop)) → Carries e.one (readied_with g cpu cop)
      carries e =
          let l = last-found _ (readied_with g cpu cop) e.one e.is_latest in
          record { front = l.older; carried = e.one; back = l.younger; here = l.here; start = refl; key = refl; word = refl; hit = refl; result = refl; ready = e.ready; unfinished = e.unfinished }

      -- by the commit of the cycle
      decided-readied : (h : Half) → Late (is_some ch.offer) start issued hart w.next_seq (free_id w.flight) (g.cycle + 1) h.answered ch.execute ch.retire None half_entries (readied_with g cpu cop)
      decided-readied h =
          late-readied (is_some ch.offer) start issued hart w.next_seq (free_id w.flight) (g.cycle + 1) h.answered ch.execute ch.retire half_entries (decided_with g cpu cop) (readied_with g cpu cop) (all-readied (decided_with g cpu cop))
          (late-decided (is_some ch.offer) start issued hart w.next_seq (free_id w.flight) (g.cycle + 1) h.answered ch.execute ch.retire w.flight half_entries g.uses (decided_with g cpu cop) h.decided so.execute so.retire)

      late : (h : Half) → Late (is_some ch.offer) start issued hart w.next_seq (free_id w.flight) (g.cycle + 1) h.answered ch.execute ch.retire None
          (cond (cop.result_valid && input.result_ready) (result_with (find (holds_id cop.result_id) half_entries) wrote half_entries) half_entries) (ended_with g cpu cop input)
      late h = go (cop.result_valid && input.result_ready) refl
        where
          valid : (a b : Bool) → (a && b) ≡ true → a ≡ true
          valid true b q = refl
          valid false b q = cc

          go : (b : Bool) → (cop.result_valid && input.result_ready) ≡ b → Late (is_some ch.offer) start issued hart w.next_seq (free_id w.flight) (g.cycle + 1) h.answered ch.execute ch.retire None
              (cond b (result_with (find (holds_id cop.result_id) half_entries) wrote half_entries) half_entries) (cond b (ended (latest (result_key cop) (readied_with g cpu cop)) (readied_with g cpu cop)) (readied_with g cpu cop))
          go false q = decided-readied h
          go true q =
              let e = ends (valid cop.result_valid input.result_ready q) in
              let us = readied_with g cpu cop in
              let l1 = late-result true (is_some ch.offer) start issued hart w.next_seq (free_id w.flight) (g.cycle + 1) h.answered ch.execute ch.retire half_entries us (Some e.one) wrote (decided-readied h) (carries e) in
              let l2 : Late (is_some ch.offer) start issued hart w.next_seq (free_id w.flight) (g.cycle + 1) h.answered ch.execute ch.retire None (result_with (find (holds_id e.one.key.id) half_entries) wrote half_entries) (ended (latest (result_key cop) us) us) =
              subst (λ o. Late (is_some ch.offer) start issued hart w.next_seq (free_id w.flight) (g.cycle + 1) h.answered ch.execute ch.retire None (result_with (find (holds_id e.one.key.id) half_entries) wrote half_entries) (ended o us)) (sym e.is_latest) l1 in
              subst (λ i. Late (is_some ch.offer) start issued hart w.next_seq (free_id w.flight) (g.cycle + 1) h.answered ch.execute ch.retire None (result_with (find (holds_id i) half_entries) wrote half_entries) (ended (latest (result_key cop) us) us)) (ap (λ x. x.id) e.key_is) l2

      -- the entry whose result is taken
      pub finishing : Each (Finishing seen) (kept_entries ch seen w.flight)
      finishing =
          subst (Each (Finishing seen)) (sym (kept-is ch seen issued (response_on seen) gives w.flight refl refl refl ∙ ap (λ l. drain_step ch.drain (cut_step ch.cut (release_step ch.release (sent_entries gives ch.present l)))) (same-answer ch.offer issued (response_on seen) (response_of (hit_with cop)) w.flight says)))
          (go cop.result_valid refl)
        where
          go : (v : Bool) → cop.result_valid ≡ v → Each (Finishing seen) half_entries
          go false q = finishing-none seen half_entries q
          go true q =
              let e = ends q in
              let h = half in
              finishing-of hart w.next_seq (free_id w.flight) (g.cycle + 1) h.answered seen e.one half_entries (readied_with g cpu cop) (decided-readied h).joint (carries e) (ap (λ x. x.id) (sym e.key_is)) e.writes

      last : (answer : ℕ → ℕ → ℕ) (h : Half) → Last (is_some ch.offer) start issued hart (g.cycle + 1) h.answered None (with_dispatch (dispatch_of answer w ch) (settled_entries ch seen w.flight)) (ended_with g cpu cop input)
      last answer h =
          let n = w.next_seq in
          let id = free_id w.flight in
          let l6 = late-executed (is_some ch.offer) start issued hart n id (g.cycle + 1) h.answered ch.execute ch.retire None _ _ (late h) in
          let l7 = late-retired (is_some ch.offer) start issued hart n id (g.cycle + 1) h.answered ch.retire None _ _ l6 in
          subst (λ x. Last (is_some ch.offer) start issued hart (g.cycle + 1) h.answered None (with_dispatch (dispatch_of answer w ch) x) (ended_with g cpu cop input)) (sym entries-are)
          (late-last answer n id (ahead_behind ch.cut w.ahead) (word_at (memory_behind ch.retire w.memory) (ahead_behind ch.cut w.ahead)) ch.dispatch (is_some ch.offer) start issued hart n id (g.cycle + 1) h.answered None _ (ended_with g cpu cop input) _
          (all-itself (ended_with g cpu cop input)) l7)

      pub after-paired : (answer : ℕ → ℕ → ℕ) → Paired hart (record { core = core_clock answer m.core (seen_with m.core cop); engine = told_after m.engine (cpu_for hart (choices m.core)) cop (core_accepts m.core cop) })
      after-paired answer =
          let h = half in
          let l = last answer h in
          record {
            answered = h.answered;
            order = core-kept answer w ch seen k.order;
            entries = l.entries;
            behind = l.behind;
            below = l.below;
            uses = l.uses;
            older = l.older;
            match = l.match;
            offers = waits-for (λ s. Each (Offers h.answered hart (with_dispatch (dispatch_of answer w ch) (settled_entries ch seen w.flight)) s) (ended_with g cpu cop input)) g.issue_turns (is_some ch.offer) cop.issue_ready start l.offers;
            results = tt;
            params = k.params;
          }

      pub after-marked : (answer : ℕ → ℕ → ℕ) (n : ℕ) → (after-paired answer).answered n ≡ marked n
      unfolding after-paired
      after-marked answer n = half.marks n
