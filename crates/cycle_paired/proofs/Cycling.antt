-- Every cycle keeps core and engine paired.
use Rattle.std.proofs.Common.{◌≡◌, ◌&&◌, ◌+◌, ℕ, Bool, true, false, cond, not, List, map, Option, Some, None, refl, sym, ap, ◌∙◌, subst}
use Rattle.std.specs.Prelude.{is_some, IfSome}
use Rattle.rv32_table.specs.Instr.{rd_field}
use Rattle.xif_image.specs.Region.{word_at}
use Rattle.coproc_config.specs.declared.accept.Hit.{Hit}
use Rattle.inorder_machine.specs.declared.line.Write.{Write}
use Rattle.inorder_machine.specs.Units.{unit_write}
use Rattle.xif_signals.specs.declared.bus.CpuOut.{CpuOut}
use Rattle.xif_session.specs.declared.fact.Response.{Response}
use Rattle.cycle_spec.specs.declared.choices.Choices.{Choices}
use Rattle.cycle_spec.specs.declared.choices.Presented.{Presented}
use Rattle.cycle_spec.specs.declared.entry.Entry.{Entry}
use Rattle.cycle_spec.specs.declared.use_of.Use.{Use}
use Rattle.cycle_spec.specs.Flight.{is_open, with_response, free_id}
use Rattle.cycle_spec.specs.Turns.{turn_of, is_past}
use Rattle.cycle_spec.specs.State.{Engine}
use Rattle.cycle_spec.specs.Core.{cpu_out, id_in, word_in, presented_id, sent_on_present, release_step, cut_step, drain_step, execute_step, retire_step, memory_behind, ahead_behind, with_dispatch, dispatch_of}
use Rattle.cycle_spec.specs.Engine.{latest, offered_hit, issue_start, issue_ready, response_hit, register_use, register_start, may_take, register_ready, offered_use, use_or, writeback_of, with_answer, given_to, lanes_on, ready_in_harts, start_step, goes_on, started_uses}
use Rattle.cycle_spec.specs.Cycle.{Machines, hart_if, for_hart}
use Rattle.cycle_lists.specs.Lists.{Each, FirstAt}
use Rattle.cycle_lists.proofs.Order.{start-kept}
use Rattle.cycle_paired.specs.Paired.{response_of, IsEntry, Paired}
use Rattle.cycle_paired.proofs.Facts.{Joint}
use Rattle.cycle_paired.proofs.Carrying.{Carries}
use Rattle.cycle_paired.proofs.Starting.{OffersWord}
use Rattle.cycle_paired.proofs.Answering.{mark}
use Rattle.cycle_paired.proofs.Applying.{all-harts}
use Rattle.cycle_paired.proofs.Choosing.{Facts, Presents, Sound}
use Rattle.cycle_paired.proofs.Staging.{Stage, OfferedStage, stage-offered, stage-quiet, stage-waiting, stage-waiting_offered, stage-presented}
use Rattle.cycle_paired.proofs.Deciding.{Decided, decided_for, deciding-offered, deciding-quiet}
use Rattle.cycle_paired.proofs.Lasting.{Last, carried-at, late-decided, late-result, late-executed, late-retired, late-last, result_entries, result_uses, waiting_after}

-- ---- from the invariant

pub facts_of : (hart : ℕ) (m : Machines) → Paired hart m → Facts m.core.flight
facts_of hart m p = record { before = p.order.pairs; ok = p.entries; behind = p.behind }

pub joint_of : (hart : ℕ) (m : Machines) (p : Paired hart m) → Joint hart m.core.next_seq (free_id m.core.flight) m.engine.cycle p.answered m.core.flight m.engine.uses
joint_of hart m p = record {
  kept = start-kept m.core p.order;
  entries = p.entries;
  behind = p.behind;
  below = p.below;
  uses = p.uses;
  older = p.older;
  match = p.match;
}

-- ---- the registers, whatever the channel carries

-- the entries and the uses after the register handshake
abbrev pub sent_entries : (given : Bool) → Option Presented → List Entry → List Entry
sent_entries b o es = cond b (sent_on_present o es) es

abbrev pub sent_uses : (hart : ℕ) → (given : Bool) → Option Presented → (lanes : List ℕ) → List Use → List Use
sent_uses hart b o lanes us = cond b (given_to (latest (record { hart = hart_if (is_some o) hart; id = presented_id o }) us) lanes us) us

sent-offered : (split b : Bool) (o : Option Presented) (lanes : List ℕ) (p : Entry) (s : ℕ) (t : Bool) (hart n id c : ℕ) (answered : ℕ → Bool) (fl es : List Entry) (us0 us : List Use) → Presents split fl (Some p) o → (is_some o ≡ false → b ≡ false) → (split ≡ false → is_some o ≡ true → t ≡ b)
    → Each IsEntry fl → OfferedStage p s t hart n id c answered fl es us0 us → OfferedStage p s t hart n id c answered fl (sent_entries b o es) us0 (sent_uses hart b o lanes us)
sent-offered true b None lanes p s t hart n id c answered fl es us0 us ps none same ok st =
    subst (λ x. OfferedStage p s t hart n id c answered fl (sent_entries x None es) us0 (sent_uses hart x None lanes us)) (sym (none refl)) st
sent-offered true b (Some x) lanes p s t hart n id c answered fl es us0 us ps none same ok st = stage-waiting_offered b lanes x.entry p s t hart n id c answered fl es us0 us ps ok st
sent-offered false b None lanes p s t hart n id c answered fl es us0 us ps none same ok st = absurd ps
sent-offered false b (Some x) lanes p s t hart n id c answered fl es us0 us ps none same ok st =
    subst (λ q. OfferedStage p s t hart n id c answered fl (cond b (sent_on_present (Some (record x { entry = q })) es) es) us0 (cond b (given_to (latest (record { hart = hart; id = q.id }) us) lanes us) us)) (sym ps)
    (subst (λ y. OfferedStage p s t hart n id c answered fl (cond y (sent_on_present (Some (record x { entry = p })) es) es) us0 (cond y (given_to (latest (record { hart = hart; id = p.id }) us) lanes us) us)) (same refl refl)
    (stage-presented lanes p s t hart n id c answered fl es us0 us st))

sent-quiet : (split b : Bool) (o : Option Presented) (lanes : List ℕ) (r hart n id c : ℕ) (answered : ℕ → Bool) (fl es : List Entry) (us0 us : List Use) → Presents split fl None o → (is_some o ≡ false → b ≡ false) → Each IsEntry fl
    → Stage r hart n id c answered fl es us0 us → Stage r hart n id c answered fl (sent_entries b o es) us0 (sent_uses hart b o lanes us)
sent-quiet true b None lanes r hart n id c answered fl es us0 us ps none ok st = subst (λ x. Stage r hart n id c answered fl (sent_entries x None es) us0 (sent_uses hart x None lanes us)) (sym (none refl)) st
sent-quiet true b (Some x) lanes r hart n id c answered fl es us0 us ps none ok st = stage-waiting b lanes x.entry r hart n id c answered fl es us0 us ps ok st
sent-quiet false b None lanes r hart n id c answered fl es us0 us ps none ok st = subst (λ x. Stage r hart n id c answered fl (sent_entries x None es) us0 (sent_uses hart x None lanes us)) (sym (none refl)) st
sent-quiet false b (Some x) lanes r hart n id c answered fl es us0 us ps none ok st = absurd ps

-- ---- the steps of a cycle, by its choices

abbrev pub cpu_for : (hart : ℕ) → Choices → CpuOut
cpu_for hart ch = for_hart hart (cpu_out ch)

-- the handshakes of the issue and of the register channel
abbrev pub answers : Engine → (hart : ℕ) → Choices → Bool
answers e hart ch = is_some ch.offer && issue_ready e (cpu_for hart ch)

abbrev pub gives : Engine → (hart : ℕ) → Choices → Bool
gives e hart ch = is_some ch.present && register_ready e (cpu_for hart ch)

abbrev pub answer_on : Option Entry → Response → List Entry → List Entry
answer_on None r es = es
answer_on (Some p) r es = map (with_response p.seq r) es

abbrev pub answered_list : Engine → (hart : ℕ) → Choices → List Entry → List Entry
answered_list e hart ch es = cond (answers e hart ch) (answer_on ch.offer (response_of (response_hit e (cpu_for hart ch))) es) es

abbrev pub answered_with : Engine → (hart : ℕ) → Choices → List Use
answered_with e hart ch =
    cond (answers e hart ch) (map (with_answer (issue_start e (cpu_for hart ch)) (offered_hit e (cpu_for hart ch)) e.accepted) (started_uses e (cpu_for hart ch))) (started_uses e (cpu_for hart ch))

abbrev pub half_entries : Engine → (hart : ℕ) → Choices → List Entry → List Entry
half_entries e hart ch es = drain_step ch.drain (cut_step ch.cut (release_step ch.release (sent_entries (gives e hart ch) ch.present (answered_list e hart ch es))))

abbrev pub half_uses : Engine → (hart : ℕ) → Choices → List Use
half_uses e hart ch = decided_for hart ch.kill ch.release (sent_uses hart (gives e hart ch) ch.present (lanes_on (cpu_for hart ch)) (answered_with e hart ch))

-- the starts whose uses had their issue handshake, with that of the cycle
abbrev pub marked : (hart : ℕ) → Machines → Choices → (ℕ → Bool) → ℕ → Bool
marked hart m ch before start = cond (is_some ch.offer) (mark (issue_start m.engine (cpu_for hart ch)) (answers m.engine hart ch) before start) (before start)

-- what the commit leaves
pub record Half (hart : ℕ) (m : Machines) (ch : Choices) (before : ℕ → Bool) : Type 0 where
  pub answered : ℕ → Bool
  pub marks : (start : ℕ) → answered start ≡ marked hart m ch before start
  pub decided : Decided (is_some ch.offer) (issue_start m.engine (cpu_for hart ch)) (answers m.engine hart ch) hart m.core.next_seq (free_id m.core.flight) (m.engine.cycle + 1) answered m.core.flight
      (half_entries m.engine hart ch m.core.flight) m.engine.uses (half_uses m.engine hart ch)

-- the response on the bus is the one that the engine keeps
same-response : (k : ℕ) (valid ready : Bool) (hit : Option Hit) (es : List Entry) → cond (valid && ready) (map (with_response k (response_of hit)) es) es ≡ cond (valid && ready) (map (with_response k (response_of (cond ready hit None))) es) es
same-response k true true hit es = refl
same-response k true false hit es = refl
same-response k false ready hit es = refl

offered-half : (hart : ℕ) (m : Machines) (ch : Choices) (p : Entry) (k : Paired hart m) → Sound m.core.params.split m.core.flight ch → ch.offer ≡ Some p → FirstAt is_open m.core.flight p → Half hart m ch k.answered
offered-half hart m ch p k so h f =
    let w = m.core in
    let e = m.engine in
    let cpu = cpu_for hart ch in
    let t = answers e hart ch in
    let s = issue_start e cpu in
    let hit = offered_hit e cpu in
    let n = w.next_seq in
    let id = free_id w.flight in
    let g = mark s t k.answered in
    let word : OffersWord hart cpu p = record { valid = ap is_some h; hart_is = ap (λ o. hart_if (is_some o) hart) h; id_is = ap id_in h; word_is = ap word_in h } in
    let st0 = stage-offered t hit e.accepted hart n id e.cycle k.answered e.issue_turns.waiting cpu w.flight p e.uses word f k.offers (joint_of hart m k) in
    let st1 : OfferedStage p s t hart n id (e.cycle + 1) g w.flight (cond t (map (with_response p.seq (response_of (response_hit e cpu))) w.flight) w.flight) e.uses (answered_with e hart ch) =
    subst (λ l. OfferedStage p s t hart n id (e.cycle + 1) g w.flight l e.uses (answered_with e hart ch)) (same-response p.seq (is_some ch.offer) (issue_ready e cpu) hit w.flight) st0 in
    let st2 : OfferedStage p s t hart n id (e.cycle + 1) g w.flight (answered_list e hart ch w.flight) e.uses (answered_with e hart ch) =
    subst (λ o. OfferedStage p s t hart n id (e.cycle + 1) g w.flight (cond t (answer_on o (response_of (response_hit e cpu)) w.flight) w.flight) e.uses (answered_with e hart ch)) (sym h) st1 in
    let pr : Presents w.params.split w.flight (Some p) ch.present = subst (λ o. Presents w.params.split w.flight o ch.present) h so.present in
    let none : is_some ch.present ≡ false → gives e hart ch ≡ false = λ q. ap (λ b. b && register_ready e cpu) q in
    let same : w.params.split ≡ false → is_some ch.present ≡ true → t ≡ gives e hart ch =
    λ q a. ap (λ o. is_some o && issue_ready e cpu) h ∙ sym (ap (λ b. b && register_ready e cpu) a ∙ unsplit cpu e (ap (λ x. x.split) (sym k.params) ∙ q)) in
    let st3 = sent-offered w.params.split (gives e hart ch) ch.present (lanes_on cpu) p s t hart n id (e.cycle + 1) g w.flight (answered_list e hart ch w.flight) e.uses (answered_with e hart ch) pr none same k.entries st2 in
    let d = deciding-offered ch p s t hart n id (e.cycle + 1) g w.flight (sent_entries (gives e hart ch) ch.present (answered_list e hart ch w.flight)) e.uses (sent_uses hart (gives e hart ch) ch.present (lanes_on cpu) (answered_with e hart ch)) (facts_of hart m k) f h so.way st3 in
    record {
      answered = g;
      marks = λ start. ap (λ b. cond b (g start) (k.answered start)) (sym (ap is_some h));
      decided = subst (λ v. Decided v s t hart n id (e.cycle + 1) g w.flight (half_entries e hart ch w.flight) e.uses (half_uses e hart ch)) (sym (ap is_some h)) d;
    }
  where
    unsplit : (cpu : CpuOut) (e : Engine) → e.params.split ≡ false → register_ready e cpu ≡ issue_ready e cpu
    unsplit cpu e q = ap (λ b. cond b (cpu.register_valid && (is_past e.script.register (turn_of e.register_turns (register_start e cpu)) && may_take (register_use e cpu) cpu.register_rs_valid)) (issue_ready e cpu)) q

quiet-half : (hart : ℕ) (m : Machines) (ch : Choices) (k : Paired hart m) → Sound m.core.params.split m.core.flight ch → ch.offer ≡ None → Half hart m ch k.answered
quiet-half hart m ch k so h =
    let w = m.core in
    let e = m.engine in
    let cpu = cpu_for hart ch in
    let n = w.next_seq in
    let id = free_id w.flight in
    let t = answers e hart ch in
    let s = issue_start e cpu in
    let off : is_some ch.offer ≡ false = ap is_some h in
    let pr : Presents w.params.split w.flight None ch.present = subst (λ o. Presents w.params.split w.flight o ch.present) h so.present in
    let none : is_some ch.present ≡ false → gives e hart ch ≡ false = λ q. ap (λ b. b && register_ready e cpu) q in
    let st0 = stage-quiet hart n id e.cycle k.answered w.flight e.uses (joint_of hart m k) in
    let st1 = sent-quiet w.params.split (gives e hart ch) ch.present (lanes_on cpu) n hart n id (e.cycle + 1) k.answered w.flight w.flight e.uses e.uses pr none k.entries st0 in
    let d = deciding-quiet ch s t hart n id (e.cycle + 1) k.answered w.flight (sent_entries (gives e hart ch) ch.present w.flight) e.uses (sent_uses hart (gives e hart ch) ch.present (lanes_on cpu) e.uses) (facts_of hart m k) k.order.below h so.way st1 in
    let es_is : answered_list e hart ch w.flight ≡ w.flight = ap (λ b. cond (b && issue_ready e cpu) (answer_on ch.offer (response_of (response_hit e cpu)) w.flight) w.flight) off in
    let us_is : answered_with e hart ch ≡ e.uses = quiet-uses e hart ch off in
    let d1 : Decided false s t hart n id (e.cycle + 1) k.answered w.flight (half_entries e hart ch w.flight) e.uses (decided_for hart ch.kill ch.release (sent_uses hart (gives e hart ch) ch.present (lanes_on cpu) e.uses)) =
    subst (λ l. Decided false s t hart n id (e.cycle + 1) k.answered w.flight (drain_step ch.drain (cut_step ch.cut (release_step ch.release (sent_entries (gives e hart ch) ch.present l)))) e.uses (decided_for hart ch.kill ch.release (sent_uses hart (gives e hart ch) ch.present (lanes_on cpu) e.uses))) (sym es_is) d in
    let d2 : Decided false s t hart n id (e.cycle + 1) k.answered w.flight (half_entries e hart ch w.flight) e.uses (half_uses e hart ch) =
    subst (λ l. Decided false s t hart n id (e.cycle + 1) k.answered w.flight (half_entries e hart ch w.flight) e.uses (decided_for hart ch.kill ch.release (sent_uses hart (gives e hart ch) ch.present (lanes_on cpu) l))) (sym us_is) d1 in
    record {
      answered = k.answered;
      marks = λ start. ap (λ b. cond b (mark s t k.answered start) (k.answered start)) (sym off);
      decided = subst (λ v. Decided v s t hart n id (e.cycle + 1) k.answered w.flight (half_entries e hart ch w.flight) e.uses (half_uses e hart ch)) (sym off) d2;
    }
  where
    quiet-uses : (e : Engine) (hart : ℕ) (ch : Choices) → is_some ch.offer ≡ false → answered_with e hart ch ≡ e.uses
    quiet-uses e hart ch off =
        ap (λ b. cond (b && issue_ready e (cpu_for hart ch)) (map (with_answer (issue_start e (cpu_for hart ch)) (offered_hit e (cpu_for hart ch)) e.accepted) (started_uses e (cpu_for hart ch))) (started_uses e (cpu_for hart ch))) off
        ∙ ap (λ b. start_step (b && not (goes_on e (cpu_for hart ch))) (cpu_for hart ch) e.cycle e.uses) off

pub half : (hart : ℕ) (m : Machines) (ch : Choices) (k : Paired hart m) → Sound m.core.params.split m.core.flight ch → Half hart m ch k.answered
half hart m ch k so = go ch.offer refl so.offer
  where
    go : (o : Option Entry) → ch.offer ≡ o → IfSome o (FirstAt is_open m.core.flight) → Half hart m ch k.answered
    go None h f = quiet-half hart m ch k so h
    go (Some p) h f = offered-half hart m ch p k so h f

-- ---- the whole cycle

offered-carries : (hart : ℕ) (m : Machines) (vs : List Use) → Paired hart m → ((u : Use) → Carries u m.engine.uses → Carries u vs) → IfSome (offered_use m.engine) (λ u. Carries u vs)
offered-carries hart m vs k f = go (offered_use m.engine) refl
  where
    go : (o : Option Use) → offered_use m.engine ≡ o → IfSome o (λ u. Carries u vs)
    go None h = tt
    go (Some u) h = f u (carried-at m.engine.result_waiting m.engine.script.result m.engine.cycle m.engine.uses u k.results h)

-- what a result writes for an entry
abbrev pub result_write : Option Use → Entry → Write
result_write o x = unit_write (rd_field x.word) (writeback_of (use_or o).hit) (use_or o).result

pub whole : (hart : ℕ) (m : Machines) (answer : ℕ → ℕ → ℕ) (ready : Bool) (ch : Choices) (k : Paired hart m) (so : Sound m.core.params.split m.core.flight ch) (h : Half hart m ch k.answered)
    → Last (is_some ch.offer) (issue_start m.engine (cpu_for hart ch)) (answers m.engine hart ch) hart (m.engine.cycle + 1) h.answered (waiting_after (offered_use m.engine) ready)
    (with_dispatch (dispatch_of answer m.core ch) (retire_step ch.retire (execute_step ch.execute (result_entries (offered_use m.engine) ready (result_write (offered_use m.engine)) (half_entries m.engine hart ch m.core.flight)))))
    (ready_in_harts m.engine.set m.engine.cycle 0 m.engine.units (result_uses (offered_use m.engine) ready (half_uses m.engine hart ch)))
whole hart m answer ready ch k so h =
    let w = m.core in
    let e = m.engine in
    let v = is_some ch.offer in
    let s = issue_start e (cpu_for hart ch) in
    let t = answers e hart ch in
    let n = w.next_seq in
    let id = free_id w.flight in
    let o = offered_use e in
    let es4 = half_entries e hart ch w.flight in
    let us4 = half_uses e hart ch in
    let l4 = late-decided v s t hart n id (e.cycle + 1) h.answered ch.execute ch.retire w.flight es4 e.uses us4 h.decided so.execute so.retire in
    let l5 = late-result ready v s t hart n id (e.cycle + 1) h.answered ch.execute ch.retire es4 us4 o (result_write o) l4 (offered-carries hart m us4 k h.decided.carries) in
    let l6 = late-executed v s t hart n id (e.cycle + 1) h.answered ch.execute ch.retire (waiting_after o ready) _ _ l5 in
    let l7 = late-retired v s t hart n id (e.cycle + 1) h.answered ch.retire (waiting_after o ready) _ _ l6 in
    late-last answer n id (ahead_behind ch.cut w.ahead) (word_at (memory_behind ch.retire w.memory) (ahead_behind ch.cut w.ahead)) ch.dispatch v s t hart n id (e.cycle + 1) h.answered (waiting_after o ready) _ (result_uses o ready us4) _
    (all-harts e.set e.cycle 0 e.units (result_uses o ready us4)) l7
