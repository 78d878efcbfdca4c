-- What is held of each use, over the steps of a cycle; and what its steps leave of each entry.
use Rattle.std.proofs.Common.{◌≡◌, ◌==◌, ◌&&◌, ◌||◌, ◌++◌, ℕ, Bool, true, false, cond, List, ◌∷◌, map, take, Option, Some, None, refl, sym, ap, ◌∙◌, subst, arith}
use Rattle.std.specs.Prelude.{is_some, IsSome, IfSome}
use Rattle.std.specs.Option.{option_or}
use Rattle.std.proofs.lemmas.Bool.{eqb-true}
use Rattle.xif_base.specs.Params.{IsInRange}
use Rattle.coproc_config.specs.Accept.{hit_of}
use Rattle.inorder_machine.specs.declared.line.Write.{Write}
use Rattle.xif_signals.specs.declared.bus.CpuOut.{CpuOut}
use Rattle.xif_session.specs.Facts.{is_undecided}
use Rattle.cycle_spec.specs.declared.choices.Choices.{Choices}
use Rattle.cycle_spec.specs.declared.choices.Presented.{Presented}
use Rattle.cycle_spec.specs.declared.entry.Entry.{Entry}
use Rattle.cycle_spec.specs.declared.log.Cut.{Cut}
use Rattle.cycle_spec.specs.declared.use_of.Use.{Use}
use Rattle.cycle_spec.specs.Flight.{is_open, with_response}
use Rattle.cycle_spec.specs.State.{Engine}
use Rattle.cycle_spec.specs.Core.{id_in, word_in, release_step, cut_step, drain_step}
use Rattle.cycle_spec.specs.Engine.{latest, with_operands, given_to, lanes_on, with_decision, decided_by, with_end, issue_start, issue_key, offered_hit, issue_ready, starts, started_uses}
use Rattle.cycle_spec.specs.Cycle.{Machines, hart_if}
use Rattle.cycle_lists.specs.Lists.{Each, Pairs, FirstAt}
use Rattle.cycle_lists.specs.Order.{Before}
use Rattle.cycle_lists.proofs.Tests.{or-false_left, or-false_right, or-cases}
use Rattle.cycle_lists.proofs.Every.{Each-from, Each-map, Each-map2, Each-append, Pairs-older, Pairs-younger}
use Rattle.cycle_paired.specs.Paired.{response_of, Older, Paired}
use Rattle.cycle_paired.proofs.Facts.{Joint, only, live-undone}
use Rattle.cycle_paired.proofs.Carrying.{Carries}
use Rattle.cycle_paired.proofs.Finishing.{finishing}
use Rattle.cycle_paired.proofs.Growing.{only-open}
use Rattle.cycle_paired.proofs.Choosing.{Sound}
use Rattle.cycle_paired.proofs.Deciding.{decided_for}
use Rattle.cycle_paired.proofs.Lasting.{result_with, result_entries, result_uses}
use Rattle.cycle_paired.proofs.Cycling.{sent_entries, sent_uses, cpu_for, answers, gives, answer_on, answered_list, answered_with, half_entries, half_uses}
use Rattle.ahead_spec.specs.Operands.{word_hit}
use Rattle.cycle_events.specs.Shown.{IsHeld}
use Rattle.cycle_events.proofs.Wide.{AllWide, all-trans, all-take, all-same, all-sent, all-release, all-response, all-result}
use Rattle.cycle_events.proofs.Chosen.{kept}
use Rattle.cycle_events.proofs.Starting.{held-start, held-answer}
use Rattle.cycle_events.proofs.Presented.{ext}

-- ---- uses

held-given : (o : Option Use) (lanes : List ℕ) (us : List Use) → Each IsHeld us → Each IsHeld (given_to o lanes us)
held-given None lanes us h = h
held-given (Some v) lanes us h = Each-map IsHeld IsHeld (with_operands v.start lanes) us (λ u k. made u k) h
  where
    made : (u : Use) → IsHeld u → IsHeld (with_operands v.start lanes u)
    made u k = record {
      lanes = λ g. ap (λ b. cond b lanes u.lanes) (or-false_right u.given (u.start == v.start) g) ∙ k.lanes (or-false_left u.given (u.start == v.start) g);
      ended = k.ended;
    }

held-sent : (hart : ℕ) (b : Bool) (o : Option Presented) (lanes : List ℕ) (us : List Use) → Each IsHeld us → Each IsHeld (sent_uses hart b o lanes us)
held-sent hart false o lanes us h = h
held-sent hart true o lanes us h = held-given _ lanes us h

held-decided : (h : ℕ) (kill release : Option Entry) (us : List Use) → Each IsHeld us → Each IsHeld (decided_for h kill release us)
held-decided h kill release us k = go (is_some kill || is_some release) (latest (record { hart = hart_if (is_some kill || is_some release) h; id = id_in (option_or kill release) }) us)
  where
    by : (v : Use) (b : Bool) → Each IsHeld (cond b (map (with_decision (is_some kill) v) us) us)
    by v true = Each-map IsHeld IsHeld (with_decision (is_some kill) v) us (λ u q. record { lanes = q.lanes; ended = q.ended }) k
    by v false = k

    go : (b : Bool) (o : Option Use) → Each IsHeld (cond b (decided_by (is_some kill) o us) us)
    go false o = k
    go true None = k
    go true (Some v) = by v (is_undecided v.decision)

pub held-half : (hart : ℕ) (e : Engine) (ch : Choices) → Each IsHeld e.uses → Each IsHeld (half_uses e hart ch)
held-half hart e ch h =
    let cpu = cpu_for hart ch in
    let one = held-start (issue_key cpu) e.cycle cpu.issue_instr (starts e cpu) e.uses h in
    let two = held-answer (answers e hart ch) (issue_start e cpu) (offered_hit e cpu) e.accepted (started_uses e cpu) one in
    let three = held-sent hart (gives e hart ch) ch.present (lanes_on cpu) (answered_with e hart ch) two in
    held-decided hart ch.kill ch.release (sent_uses hart (gives e hart ch) ch.present (lanes_on cpu) (answered_with e hart ch)) three

-- the use whose result is taken is ready
pub held-ended : (o : Option Use) (ready : Bool) (us : List Use) → IfSome o (λ u. Carries u us) → Pairs Older us → Each IsHeld us → Each IsHeld (result_uses o ready us)
held-ended None ready us k older h = h
held-ended (Some u) false us k older h = h
held-ended (Some u) true us k older h =
    let v = k.carried in
    let o' : Pairs Older (k.front ++ v ∷ k.back) = subst (Pairs Older) k.here older in
    let R = λ (x : Use). x.start ≡ u.start → IsSome x.ready in
    let ready : Each R us = subst (Each R) (sym k.here) (Each-append R k.front (v ∷ k.back)
    (Each-from (λ x. Older x v) R k.front (λ x o q. absurd (let l = o.rises in let s = k.start in omega arith)) (Pairs-older Older k.front v k.back o'))
    ((λ q. k.ready), Each-from (Older v) R k.back (λ x o q. absurd (let l = o.rises in let s = k.start in omega arith)) (Pairs-younger Older k.front v k.back o'))) in
    Each-map2 R IsHeld IsHeld (with_end u.start) us (λ x r q. record { lanes = q.lanes; ended = λ f. or-cases x.finished (x.start == u.start) (IsSome x.ready) f q.ended (λ z. r (eqb-true x.start u.start z)) }) ready h

-- ---- entries

wide-sent : (dual b : Bool) (o : Option Presented) (es : List Entry) → AllWide true dual es (sent_entries b o es)
wide-sent dual false o es = all-same true dual es
wide-sent dual true None es = all-same true dual es
wide-sent dual true (Some p) es = all-sent true dual p.entry.seq es

wide-release : (dual : Bool) (o : Option Entry) (es : List Entry) → AllWide true dual es (release_step o es)
wide-release dual None es = all-same true dual es
wide-release dual (Some p) es = all-release true dual p.seq es

wide-kept : (dual : Bool) (c : Option Cut) (d : Option ℕ) (xs ys : List Entry) → AllWide true dual xs ys → AllWide true dual (drain_step d (cut_step c xs)) (drain_step d (cut_step c ys))
wide-kept dual None None xs ys a = a
wide-kept dual (Some c) None xs ys a = all-take true dual c.keep xs ys a
wide-kept dual None (Some k) xs ys a = all-take true dual k xs ys a
wide-kept dual (Some c) (Some k) xs ys a = all-take true dual k (take c.keep xs) (take c.keep ys) (all-take true dual c.keep xs ys a)

wide-answer : (hart : ℕ) (m : Machines) (ch : Choices) → IsInRange m.core.params → Paired hart m → Sound m.core.params.split m.core.flight ch → AllWide true m.core.params.dual_write m.core.flight (answered_list m.engine hart ch m.core.flight)
wide-answer hart m ch range k so = go ch.offer refl so.offer (issue_ready e cpu) refl
  where
    e : Engine
    e = m.engine

    cpu : CpuOut
    cpu = cpu_for hart ch

    fl : List Entry
    fl = m.core.flight

    list : (o : Option Entry) (b : Bool) → List Entry
    list o b = cond (is_some o && b) (answer_on o (response_of (cond b (offered_hit e cpu) None)) fl) fl

    go : (o : Option Entry) → ch.offer ≡ o → IfSome o (FirstAt is_open fl) → (b : Bool) → issue_ready e cpu ≡ b → AllWide true m.core.params.dual_write fl (answered_list e hart ch fl)
    go None h f b r = subst (λ o. AllWide true m.core.params.dual_write fl (list o (issue_ready e cpu))) (sym h) (all-same true m.core.params.dual_write fl)
    go (Some p) h f false r = subst (λ b. AllWide true m.core.params.dual_write fl (list ch.offer b)) (sym r) (subst (λ o. AllWide true m.core.params.dual_write fl (list o false)) (sym h) (all-same true m.core.params.dual_write fl))
    go (Some p) h f true r =
        let hit_is : offered_hit e cpu ≡ word_hit (ext m.core e.set) p.word = ap (λ o. hit_of e.set e.params (word_in o)) h ∙ ap (λ z. hit_of e.set z p.word) (sym k.params) in
        let lonely : Each (λ y. y.seq ≡ p.seq → y ≡ p) fl = subst (Each (λ y. y.seq ≡ p.seq → y ≡ p)) (sym f.here) (only f.older p f.younger (subst (Pairs Before) f.here k.order.pairs)) in
        let w = all-response (ext m.core e.set) p fl range lonely (only-open fl f.older p f.younger f.here f.passes k.order.pairs) k.entries in
        subst (λ b. AllWide true m.core.params.dual_write fl (list ch.offer b)) (sym r)
        (subst (λ o. AllWide true m.core.params.dual_write fl (list o true)) (sym h) (subst (λ z. AllWide true m.core.params.dual_write fl (map (with_response p.seq (response_of z)) fl)) (sym hit_is) w))

pub wide-half : (hart : ℕ) (m : Machines) (ch : Choices) → IsInRange m.core.params → Paired hart m → Sound m.core.params.split m.core.flight ch → AllWide true m.core.params.dual_write (kept ch m.core.flight) (half_entries m.engine hart ch m.core.flight)
wide-half hart m ch range k so =
    let dual = m.core.params.dual_write in
    let fl = m.core.flight in
    let a = answered_list m.engine hart ch fl in
    let s = sent_entries (gives m.engine hart ch) ch.present a in
    wide-kept dual ch.cut ch.drain fl (release_step ch.release s)
    (all-trans true dual fl s (release_step ch.release s) (all-trans true dual fl a s (wide-answer hart m ch range k so) (wide-sent dual (gives m.engine hart ch) ch.present a)) (wide-release dual ch.release s))

pub wide-result : (dual : Bool) (hart n id c : ℕ) (answered : ℕ → Bool) (es : List Entry) (us : List Use) (o : Option Use) (ready : Bool) (w : Entry → Write) → Joint hart n id c answered es us → IfSome o (λ u. Carries u us) → AllWide true dual es (result_entries o ready w es)
wide-result dual hart n id c answered es us None ready w j k = all-same true dual es
wide-result dual hart n id c answered es us (Some u) false w j k = all-same true dual es
wide-result dual hart n id c answered es us (Some u) true w j k =
    let f = finishing hart n id c answered u es us k j in
    let p = f.entry in
    let lonely : Each (λ y. y.seq ≡ p.seq → y ≡ p) es = subst (Each (λ y. y.seq ≡ p.seq → y ≡ p)) (sym f.here) (only f.older p f.younger (subst (Pairs Before) f.here j.kept.pairs)) in
    let undone = Each-from (λ y. y.seq ≡ p.seq → y ≡ p) (λ y. y.seq ≡ p.seq → y.done ≡ false) es (λ y q z. ap (λ d. d.done) (q z) ∙ live-undone p f.live_is) lonely in
    subst (λ q. AllWide true dual es (result_with q w es)) (sym f.found) (all-result dual p.seq (w p) es undone)
