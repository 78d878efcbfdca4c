-- The first half of a cycle, up to its commit, is events.
use Rattle.std.proofs.Common.{◌≡◌, ◌≢◌, ◌&&◌, ◌+◌, ◌++◌, ℕ, Bool, true, false, cond, not, List, ◌∷◌, map, take, drop, Option, Some, None, refl, sym, ap, ◌∙◌, subst}
use Rattle.std.specs.Prelude.{is_some, IfSome}
use Rattle.xif_base.specs.Params.{IsInRange}
use Rattle.xif_base.specs.declared.params.Key.{Key}
use Rattle.coproc_config.specs.declared.accept.Hit.{Hit}
use Rattle.coproc_config.specs.Accept.{hit_of}
use Rattle.inorder_machine.specs.Machine.{Extension, State}
use Rattle.xif_session.specs.Facts.{is_accepted}
use Rattle.xif_session.specs.Tests.{is_within}
use Rattle.cycle_spec.specs.declared.choices.Choices.{Choices}
use Rattle.cycle_spec.specs.declared.choices.Presented.{Presented}
use Rattle.cycle_spec.specs.declared.entry.Entry.{Entry}
use Rattle.cycle_spec.specs.declared.log.Cut.{Cut}
use Rattle.cycle_spec.specs.declared.use_of.Use.{Use}
use Rattle.cycle_spec.specs.Flight.{is_open, is_safe, with_response, with_sent, with_release, free_id}
use Rattle.cycle_spec.specs.Choices.{flags_of, presentation_of}
use Rattle.cycle_spec.specs.Core.{id_in, word_in, presented_id, presented_flags, release_step, cut_step, drain_step}
use Rattle.cycle_spec.specs.Engine.{register_read_of, latest, with_answer, lanes_on, issue_start, offered_hit, issue_ready, response_hit, register_ready, started_uses, start_step, goes_on}
use Rattle.cycle_spec.specs.Cycle.{Machines, hart_if}
use Rattle.cycle_lists.specs.Lists.{Each, Pairs, FirstAt}
use Rattle.cycle_lists.specs.Order.{Before}
use Rattle.cycle_lists.proofs.Tests.{not-both, and-left}
use Rattle.cycle_lists.proofs.Every.{Each-both, Each-at, Each-front}
use Rattle.cycle_lists.proofs.Order.{mapped, leaves-sent}
use Rattle.cycle_paired.specs.Paired.{response_of, IsEntry, Paired}
use Rattle.cycle_paired.proofs.Facts.{open-unknown, accepted-some, some-closed, waiting-live, only}
use Rattle.cycle_paired.proofs.Starting.{OffersWord}
use Rattle.cycle_paired.proofs.Answering.{mark}
use Rattle.cycle_paired.proofs.Growing.{AllGrown, grown-sent, grown-drop, grown-at, Each-grown, OnlyOpen, only-open, safe-grown}
use Rattle.cycle_paired.proofs.Releasing.{undecided-accepted}
use Rattle.cycle_paired.proofs.Choosing.{Unreleased, Way, Quiet, Releases, Cuts, Presents, Sound}
use Rattle.cycle_paired.proofs.Staging.{Stage, OfferedStage, stage-offered, stage-quiet}
use Rattle.cycle_paired.proofs.Deciding.{decided_for}
use Rattle.cycle_paired.proofs.Cycling.{joint_of, sent_entries, sent_uses, cpu_for, answers, gives, answer_on, answered_list, answered_with, half_entries, half_uses}
use Rattle.ahead_spec.specs.Walk.{Item, entries}
use Rattle.ahead_spec.specs.Operands.{word_hit, halves_read}
use Rattle.ahead_spec.specs.World.{World}
use Rattle.cycle_events.specs.Becomes.{Becomes}
use Rattle.cycle_events.specs.Shown.{Tied, Left, Shows}
use Rattle.cycle_events.proofs.Moving.{stays, next, end_of, end-of}
use Rattle.cycle_events.proofs.Decided.{tied-decided, released, cut, told}
use Rattle.cycle_events.proofs.Wide.{AllWide, all-same, all-response}
use Rattle.cycle_events.proofs.Chosen.{IsChosen}
use Rattle.cycle_events.proofs.Starting.{started, live-ids, answering}
use Rattle.cycle_events.proofs.Presented.{ext, within-split, within-unsplit, named-hit, PlaceAt, Reaches, sending}

-- ---- the commit

-- after the commit, with the end of the path where nothing is cut
pub record Committed (x : Extension) (start : State) (hart : ℕ) (left : Left) (at : ℕ) (c : Option Cut) (d : Option ℕ) (es : List Entry) (us : List Use) (w : World) : Type 0 where
  pub shows : Shows x start hart left es us (end_of left.pc es) w
  pub plain : c ≡ None → d ≡ None → end_of left.pc es ≡ at

-- the end of the path is that of the entries
ends-at : (x : Extension) (start : State) (hart : ℕ) (left : Left) (at : ℕ) (es : List Entry) (us : List Use) (w : World) → Shows x start hart left es us at w → at ≡ end_of left.pc es
ends-at x start hart left at es us w m = sym m.leads ∙ end-of w.pc w.flight ∙ ap (λ n. end_of n.pc (entries w.flight)) m.left_is ∙ ap (end_of left.pc) m.entries_are

committed : (x : Extension) (start : State) (hart : ℕ) (left : Left) (at : ℕ) (c : Option Cut) (d : Option ℕ) (es : List Entry) (us : List Use) (w : World) → Shows x start hart left es us at w → Committed x start hart left at c d es us w
committed x start hart left at c d es us w m =
    let e = ends-at x start hart left at es us w m in
    record { shows = subst (λ n. Shows x start hart left es us n w) e m; plain = λ p q. sym e }

committing : (x : Extension) (start : State) (hart : ℕ) (left : Left) (at : ℕ) (ch : Choices) (r : ℕ) (fl es : List Entry) (us : List Use) (w : World) → IsInRange x.params → Way fl ch → Each (OnlyOpen r) fl → AllGrown r fl es → Pairs Before es
    → Shows x start hart left es us at w
    → Becomes x (Committed x start hart left at ch.cut ch.drain (drain_step ch.drain (cut_step ch.cut (release_step ch.release es))) (decided_for hart ch.kill ch.release us)) w
committing x start hart left at ch r fl es us w range way o g b m =
    let vs = decided_for hart ch.kill ch.release us in
    let tie = λ (ys : List Item) (t : Each (Tied x hart us) ys). tied-decided x hart hart ch.kill ch.release us ys t in
    by vs tie way
  where
    by : (vs : List Use) → ((ys : List Item) → Each (Tied x hart us) ys → Each (Tied x hart vs) ys) → Way fl ch → Becomes x (Committed x start hart left at ch.cut ch.drain (drain_step ch.drain (cut_step ch.cut (release_step ch.release es))) vs) w
    by vs tie (Quiet k q u d) = rw (q, u, d) (stays x (Committed x start hart left at None None es vs) w (committed x start hart left at None None es vs w (told x start hart left at w es us vs tie m)))
    by vs tie (Releases p k q u d c) =
        let some = accepted-some p.response (undecided-accepted p c.undecided) in
        let ne : p.seq ≢ r = λ e. not-both (is_open p) (some-closed p some) (Each-at (OnlyOpen r) fl c.older p c.younger c.here o e) in
        let a = grown-at r c.older p c.younger es (subst (λ l. AllGrown r l es) c.here g) in
        let o' : Each (OnlyOpen r) (c.older ++ p ∷ c.younger) = subst (Each (OnlyOpen r)) c.here o in
        let safe = Each-grown r (λ x. (is_safe x ≡ true) × OnlyOpen r x) (λ x. is_safe x ≡ true) c.older a.older (λ x y g k. safe-grown r x y g k.1 k.0) a.olders
        (Each-both (λ x. is_safe x ≡ true) (OnlyOpen r) (λ x. (is_safe x ≡ true) × OnlyOpen r x) c.older (λ x a b. (a, b)) c.safe (Each-front (OnlyOpen r) c.older (p ∷ c.younger) o')) in
        let accepted : is_accepted a.entry.response ≡ true = ap is_accepted (a.grown.response ne) ∙ undecided-accepted p c.undecided in
        let done = released x start hart left at w p.seq es a.older a.entry a.younger us vs range a.here a.grown.seq b accepted safe tie m in
        let fs = map (with_release p.seq) es in
        rw (q, u, d) (next x (Shows x start hart left fs vs at) (Committed x start hart left at None None fs vs) w done (λ v s. stays x (Committed x start hart left at None None fs vs) v (committed x start hart left at None None fs vs v s)))
    by vs tie (Cuts k q here kill un) =
        let gone = Each-grown r Unreleased (λ e. e.released ≡ false) (drop k fl) (drop k es) (λ x y g h. g.released ∙ h) (grown-drop r k fl es g) un in
        let done = cut x start hart left at w k es us vs range gone tie m in
        let P = Committed x start hart left at ch.cut ch.drain (take k es) vs in
        let plain = λ (c : ch.cut ≡ None) (d : ch.drain ≡ None).
        ap (end_of left.pc) (sym (here es) ∙ ap (λ z. drain_step z (cut_step ch.cut es)) d ∙ ap (λ z. cut_step z es) c) ∙ sym (ends-at x start hart left at es us w m) in
        rw (q, here es) (next x (Shows x start hart left (take k es) vs (end_of left.pc (take k es))) P w done (λ v s. stays x P v (record { shows = s; plain = plain })))

-- ---- the offer and the registers

-- what the entries and the uses are after the register handshake
pub record Handed (r hart n id c : ℕ) (answered : ℕ → Bool) (dual : Bool) (fl es : List Entry) (us0 us : List Use) : Type 0 where
  pub stage : Stage r hart n id c answered fl es us0 us
  pub wide : AllWide true dual fl es

-- the response on the bus is the one that the engine keeps
same-response : (k : ℕ) (valid ready : Bool) (hit : Option Hit) (es : List Entry) → cond (valid && ready) (map (with_response k (response_of hit)) es) es ≡ cond (valid && ready) (map (with_response k (response_of (cond ready hit None))) es) es
same-response k true true hit es = refl
same-response k true false hit es = refl
same-response k false ready hit es = refl

places : (split : Bool) (fl : List Entry) (offer : Option Entry) (o : Option Presented) → Each IsEntry fl → IfSome offer (FirstAt is_open fl) → Presents split fl offer o → IfSome o (λ p. PlaceAt fl p.entry)
places true fl offer None ok f ps = tt
places true fl offer (Some p) ok f ps =
    let l = waiting-live p.entry (Each-at IsEntry fl ps.older p.entry ps.younger ps.here ok) ps.passes in
    record { older = ps.older; younger = ps.younger; here = ps.here; unknown = (Each-at IsEntry fl ps.older p.entry ps.younger ps.here ok).answered (and-left (is_some p.entry.response) (not p.entry.done) l) }
places false fl None None ok f ps = tt
places false fl None (Some p) ok f ps = absurd ps
places false fl (Some q) None ok f ps = absurd ps
places false fl (Some q) (Some p) ok f ps = subst (PlaceAt fl) (sym ps) (record { older = f.older; younger = f.younger; here = f.here; unknown = open-unknown q f.passes })

-- all that the word reads is valid at the handshake
reaches : (m : Machines) (start : State) (hart : ℕ) (left : Left) (at : ℕ) (w : World) (ch : Choices) (o : Option Presented) → m.core.params ≡ m.engine.params → ch.present ≡ o → Each IsEntry m.core.flight → IfSome o (λ p. p ≡ presentation_of m.core p.entry)
    → (offer : Option Entry) → ch.offer ≡ offer → Presents m.core.params.split m.core.flight offer o → Shows (ext m.core m.engine.set) start hart left m.core.flight (started_uses m.engine (cpu_for hart ch)) at w
    → Reaches m.core m.engine.set (gives m.engine hart ch) o
reaches m start hart left at w ch None params h ok shows offer q ps s = λ g. not-both false refl (sym (ap (λ o. is_some o && register_ready m.engine (cpu_for hart ch)) h) ∙ g)
reaches m start hart left at w ch (Some p) params h ok shows offer q ps s = λ g.
    (let e = m.engine in
    let cpu = cpu_for hart ch in
    let ready : register_ready e cpu ≡ true = sym (ap (λ o. is_some o && register_ready e cpu) h) ∙ g in
    let flags : cpu.register_rs_valid ≡ flags_of m.core p.entry = ap presented_flags h ∙ ap (λ z. z.rs_valid) shows in
    ap (is_within (halves_read (ext m.core e.set) p.entry.word)) (sym flags) ∙ by m.core.params.split refl offer q ps ready)
  where
    by : (split : Bool) → m.core.params.split ≡ split → (offer : Option Entry) → ch.offer ≡ offer → Presents split m.core.flight offer (Some p) → register_ready m.engine (cpu_for hart ch) ≡ true → is_within (halves_read (ext m.core m.engine.set) p.entry.word) (cpu_for hart ch).register_rs_valid ≡ true
    by true z offer q f ready =
        let e = m.engine in
        let cpu = cpu_for hart ch in
        let own : (record { hart = cpu.register_hartid; id = cpu.register_id }) ≡ (record { hart = hart; id = p.entry.id }) = ap (λ o. key_of (hart_if (is_some o) hart) (presented_id o)) h in
        within-split e cpu (halves_read (ext m.core e.set) p.entry.word) (ap (λ k. k.split) (sym params) ∙ z) ready
        (λ u k. named-hit (ext m.core e.set) start hart left at w m.core.flight f.older p.entry f.younger (started_uses e cpu) u f.here (waiting-live p.entry (Each-at IsEntry m.core.flight f.older p.entry f.younger f.here ok) f.passes) s
        (ap (λ d. latest d (started_uses e cpu)) (sym own) ∙ k))
      where
        key_of : ℕ → ℕ → Key
        key_of a b = record { hart = a; id = b }
    by false z None q f ready = absurd f
    by false z (Some d) q f ready =
        let e = m.engine in
        let cpu = cpu_for hart ch in
        let word : cpu.issue_instr ≡ p.entry.word = ap word_in q ∙ ap (λ n. n.word) (sym f) in
        let same : register_read_of (offered_hit e cpu) ≡ halves_read (ext m.core e.set) p.entry.word = ap (λ n. register_read_of (hit_of e.set e.params n)) word ∙ ap (λ n. register_read_of (hit_of e.set n p.entry.word)) (sym params) in
        ap (λ n. is_within n cpu.register_rs_valid) (sym same) ∙ within-unsplit e cpu (ap (λ k. k.split) (sym params) ∙ z) ready

-- ---- up to the commit

-- after the commit; at is where the path ended before
abbrev pub Halved : (hart : ℕ) → Machines → State → Left → (at : ℕ) → Choices → World → Type 0
Halved hart m start left at ch w =
    Committed (ext m.core m.engine.set) start hart left at ch.cut ch.drain (half_entries m.engine hart ch m.core.flight) (half_uses m.engine hart ch) w

-- the registers and the commit, behind the answer
handing : (hart : ℕ) (m : Machines) (start : State) (left : Left) (at : ℕ) (w0 w : World) (ch : Choices) (r n id c : ℕ) (answered : ℕ → Bool) (es : List Entry) (us : List Use)
    → IsInRange m.core.params → left.registers ≡ m.core.registers → Paired hart m → Sound m.core.params.split m.core.flight ch → IsChosen m.core ch → Shows (ext m.core m.engine.set) start hart left m.core.flight (started_uses m.engine (cpu_for hart ch)) at w0
    → Handed r hart n id c answered m.core.params.dual_write m.core.flight es m.engine.uses us
    → Shows (ext m.core m.engine.set) start hart left es us at w
    → Becomes (ext m.core m.engine.set) (Committed (ext m.core m.engine.set) start hart left at ch.cut ch.drain (drain_step ch.drain (cut_step ch.cut (release_step ch.release (sent_entries (gives m.engine hart ch) ch.present es))))
    (decided_for hart ch.kill ch.release (sent_uses hart (gives m.engine hart ch) ch.present (lanes_on (cpu_for hart ch)) us))) w
handing hart m start left at w0 w ch r n id c answered es us range regs k so ct s0 h s =
    let x = ext m.core m.engine.set in
    let fl = m.core.flight in
    let b = gives m.engine hart ch in
    let lanes = lanes_on (cpu_for hart ch) in
    let st = h.stage in
    let place = places m.core.params.split fl ch.offer ch.present k.entries so.offer so.present in
    let within = reaches m start hart left at w0 ch ch.present k.params refl k.entries ct.shows ch.offer refl so.present s0 in
    let one = sending m.core m.engine.set start hart left at w b ch.present lanes es us range regs k.order.pairs place ct.shows refl within h.wide st.joint.kept.pairs st.joint.entries st.joint.older s in
    let es2 = sent_entries b ch.present es in
    let us2 = sent_uses hart b ch.present lanes us in
    let P = Committed x start hart left at ch.cut ch.drain (drain_step ch.drain (cut_step ch.cut (release_step ch.release es2))) (decided_for hart ch.kill ch.release us2) in
    next x (Shows x start hart left es2 us2 at) P w one
    (λ v t. committing x start hart left at ch r fl es2 us2 v range so.way st.only (grown b ch.present) (pairs b ch.present) t)
  where
    grown : (b : Bool) (o : Option Presented) → AllGrown r m.core.flight (sent_entries b o es)
    grown false o = h.stage.grown
    grown true None = h.stage.grown
    grown true (Some p) = grown-sent true r p.entry.seq m.core.flight es h.stage.grown

    pairs : (b : Bool) (o : Option Presented) → Pairs Before (sent_entries b o es)
    pairs false o = h.stage.joint.kept.pairs
    pairs true None = h.stage.joint.kept.pairs
    pairs true (Some p) = (mapped n id (with_sent p.entry.seq) es (leaves-sent p.entry.seq) h.stage.joint.kept).pairs

offered-half : (hart : ℕ) (m : Machines) (start : State) (left : Left) (at : ℕ) (w : World) (ch : Choices) (p : Entry) → IsInRange m.core.params → left.registers ≡ m.core.registers → Paired hart m → Sound m.core.params.split m.core.flight ch → IsChosen m.core ch
    → ch.offer ≡ Some p → FirstAt is_open m.core.flight p → Shows (ext m.core m.engine.set) start hart left m.core.flight m.engine.uses at w → Becomes (ext m.core m.engine.set) (Halved hart m start left at ch) w
offered-half hart m start left at w ch p range regs k so ct h f s =
    let x = ext m.core m.engine.set in
    let e = m.engine in
    let fl = m.core.flight in
    let cpu = cpu_for hart ch in
    let t = answers e hart ch in
    let hit = offered_hit e cpu in
    let st = issue_start e cpu in
    let n = m.core.next_seq in
    let id = free_id fl in
    let j = joint_of hart m k in
    let word : OffersWord hart cpu p = record { valid = ap is_some h; hart_is = ap (λ o. hart_if (is_some o) hart) h; id_is = ap id_in h; word_is = ap word_in h } in
    let hit_is : hit ≡ word_hit x p.word = ap (λ z. hit_of e.set e.params z) word.word_is ∙ ap (λ z. hit_of e.set z p.word) (sym k.params) in
    let ids = live-ids fl p f k.order.pairs k.entries in
    let s0 = started x start hart left at w e.cycle e.issue_turns.waiting cpu fl p e.uses word ids s in
    let es1 = cond t (map (with_response p.seq (response_of hit)) fl) fl in
    let us1 = answered_with e hart ch in
    let es1_is : es1 ≡ answered_list e hart ch fl =
    same-response p.seq (is_some ch.offer) (issue_ready e cpu) hit fl ∙ sym (ap (λ o. cond t (answer_on o (response_of (response_hit e cpu)) fl) fl) h) in
    let stage0 : OfferedStage p st t hart n id (e.cycle + 1) (mark st t k.answered) fl es1 e.uses us1 = stage-offered t hit e.accepted hart n id e.cycle k.answered e.issue_turns.waiting cpu fl p e.uses word f k.offers j in
    let one : Becomes x (Shows x start hart left es1 us1 at) w = answering x start hart left at w t hit e.accepted n id e.cycle k.answered e.issue_turns.waiting cpu fl p e.uses range word f k.offers j hit_is s0 in
    let lonely : Each (λ y. y.seq ≡ p.seq → y ≡ p) fl = subst (Each (λ y. y.seq ≡ p.seq → y ≡ p)) (sym f.here) (only f.older p f.younger (subst (Pairs Before) f.here k.order.pairs)) in
    let wide1 : AllWide true m.core.params.dual_write fl es1 = subst (λ r. AllWide true m.core.params.dual_write fl (cond t (map (with_response p.seq r) fl) fl)) (sym (ap response_of hit_is))
    (wide t p fl (all-response x p fl range lonely (only-open fl f.older p f.younger f.here f.passes k.order.pairs) k.entries)) in
    let handed : Handed p.seq hart n id (e.cycle + 1) (mark st t k.answered) m.core.params.dual_write fl es1 e.uses us1 = record { stage = stage0.stage; wide = wide1 } in
    let H = λ (l : List Entry). Handed p.seq hart n id (e.cycle + 1) (mark st t k.answered) m.core.params.dual_write fl l e.uses us1 in
    let l1 = answered_list e hart ch fl in
    next x (Shows x start hart left l1 us1 at) (Halved hart m start left at ch) w (subst (λ l. Becomes x (Shows x start hart left l us1 at) w) es1_is one)
    (λ v z. handing hart m start left at w v ch p.seq n id (e.cycle + 1) (mark st t k.answered) l1 us1 range regs k so ct s0 (subst H es1_is handed) z)
  where
    wide : (t : Bool) (p : Entry) (fl : List Entry) → AllWide true m.core.params.dual_write fl (map (with_response p.seq (response_of (word_hit (ext m.core m.engine.set) p.word))) fl)
        → AllWide true m.core.params.dual_write fl (cond t (map (with_response p.seq (response_of (word_hit (ext m.core m.engine.set) p.word))) fl) fl)
    wide true p fl a = a
    wide false p fl a = all-same true m.core.params.dual_write fl

quiet-half : (hart : ℕ) (m : Machines) (start : State) (left : Left) (at : ℕ) (w : World) (ch : Choices) → IsInRange m.core.params → left.registers ≡ m.core.registers → Paired hart m → Sound m.core.params.split m.core.flight ch → IsChosen m.core ch
    → ch.offer ≡ None → Shows (ext m.core m.engine.set) start hart left m.core.flight m.engine.uses at w → Becomes (ext m.core m.engine.set) (Halved hart m start left at ch) w
quiet-half hart m start left at w ch range regs k so ct h s =
    let x = ext m.core m.engine.set in
    let e = m.engine in
    let fl = m.core.flight in
    let cpu = cpu_for hart ch in
    let n = m.core.next_seq in
    let id = free_id fl in
    let off : is_some ch.offer ≡ false = ap is_some h in
    let st = stage-quiet hart n id e.cycle k.answered fl e.uses (joint_of hart m k) in
    let es_is : answered_list e hart ch fl ≡ fl = ap (λ b. cond (b && issue_ready e cpu) (answer_on ch.offer (response_of (response_hit e cpu)) fl) fl) off in
    let started_is : started_uses e cpu ≡ e.uses = ap (λ b. start_step (b && not (goes_on e cpu)) cpu e.cycle e.uses) off in
    let us_is : answered_with e hart ch ≡ e.uses = ap (λ b. cond (b && issue_ready e cpu) (map (with_answer (issue_start e cpu) (offered_hit e cpu) e.accepted) (started_uses e cpu)) (started_uses e cpu)) off ∙ started_is in
    let s0 : Shows x start hart left fl (started_uses e cpu) at w = subst (λ l. Shows x start hart left fl l at w) (sym started_is) s in
    let H = λ (l : List Entry) (us : List Use). Handed n hart n id (e.cycle + 1) k.answered m.core.params.dual_write fl l e.uses us in
    let handed : H (answered_list e hart ch fl) (answered_with e hart ch) =
    subst (λ l. H l (answered_with e hart ch)) (sym es_is) (subst (λ us. H fl us) (sym us_is) (record { stage = st; wide = all-same true m.core.params.dual_write fl })) in
    let s1 : Shows x start hart left (answered_list e hart ch fl) (answered_with e hart ch) at w =
    subst (λ l. Shows x start hart left l (answered_with e hart ch) at w) (sym es_is) (subst (λ us. Shows x start hart left fl us at w) (sym us_is) s) in
    handing hart m start left at w w ch n n id (e.cycle + 1) k.answered (answered_list e hart ch fl) (answered_with e hart ch) range regs k so ct s0 handed s1

pub halving : (hart : ℕ) (m : Machines) (start : State) (left : Left) (at : ℕ) (w : World) (ch : Choices) → IsInRange m.core.params → left.registers ≡ m.core.registers → Paired hart m → Sound m.core.params.split m.core.flight ch → IsChosen m.core ch
    → Shows (ext m.core m.engine.set) start hart left m.core.flight m.engine.uses at w → Becomes (ext m.core m.engine.set) (Halved hart m start left at ch) w
halving hart m start left at w ch range regs k so ct s = go ch.offer refl so.offer
  where
    go : (o : Option Entry) → ch.offer ≡ o → IfSome o (FirstAt is_open m.core.flight) → Becomes (ext m.core m.engine.set) (Halved hart m start left at ch) w
    go None h f = quiet-half hart m start left at w ch range regs k so ct h s
    go (Some p) h f = offered-half hart m start left at w ch p range regs k so ct h f s
