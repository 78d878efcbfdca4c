-- A whole cycle is events.
use Rattle.std.proofs.Common.{◌≡◌, ◌&&◌, ◌+◌, ◌++◌, ℕ, Bool, true, false, cond, List, [], ◌∷◌, Option, Some, None, refl, sym, ap, subst, arith}
use Rattle.std.specs.Prelude.{is_some, IfSome, slice_index_or}
use Rattle.std.specs.Option.{option_map}
use Rattle.std.specs.List.{cons_option}
use Rattle.xif_base.specs.Params.{IsInRange}
use Rattle.xif_image.specs.Region.{Region, word_at}
use Rattle.inorder_machine.specs.declared.line.Retire.{Retire}
use Rattle.inorder_machine.specs.Machine.{Extension, State}
use Rattle.xif_signals.specs.declared.bus.CpuIn.{CpuIn}
use Rattle.cycle_spec.specs.declared.choices.Choices.{Choices}
use Rattle.cycle_spec.specs.declared.choices.Mode.{Mode}
use Rattle.cycle_spec.specs.declared.choices.Mode.TheVariants.{Running, DrainBegins, Draining}
use Rattle.cycle_spec.specs.declared.entry.Entry.{Entry}
use Rattle.cycle_spec.specs.declared.use_of.Use.{Use}
use Rattle.cycle_spec.specs.Flight.{free_id}
use Rattle.cycle_spec.specs.State.{Core, Engine}
use Rattle.cycle_spec.specs.Choices.{choices_in, choices}
use Rattle.cycle_spec.specs.Core.{line_of, execute_step, retire_step, settled_entries, pc_behind, registers_behind, memory_behind, ahead_behind, ahead_after, entry_at, next_entry, dispatch_of, with_dispatch, mode_after}
use Rattle.cycle_spec.specs.Engine.{offered_use, use_or, writeback_of, response_hit, issue_start, ready_in_harts, units_in_harts}
use Rattle.cycle_spec.specs.Cycle.{Machines, input_at, cycle}
use Rattle.cycle_lists.specs.Lists.{Each, Pairs}
use Rattle.cycle_lists.specs.Order.{Before}
use Rattle.cycle_lists.proofs.Order.{core-kept}
use Rattle.cycle_paired.specs.Paired.{response_of, Paired}
use Rattle.cycle_paired.proofs.Carrying.{Carries}
use Rattle.cycle_paired.proofs.Applying.{all-itself}
use Rattle.cycle_paired.proofs.Choosing.{Sound, sound}
use Rattle.cycle_paired.proofs.Lasting.{carried-at, result_entries, result_uses, waiting_after, late-decided, late-result, late-executed, late-retired, late-last}
use Rattle.cycle_paired.proofs.Cycling.{facts_of, cpu_for, answers, gives, half_entries, half_uses, half, result_write}
use Rattle.cycle_paired.proofs.Same.{settled-is}
use Rattle.cycle_paired.proofs.Closing.{bus_for, both_after}
use Rattle.ahead_spec.specs.World.{World}
use Rattle.cycle_events.specs.Becomes.{Becomes}
use Rattle.cycle_events.specs.Shown.{Left, left_by, Shows, IsCalm, extension_of, Shown}
use Rattle.cycle_events.proofs.Moving.{stays, next, end_of}
use Rattle.cycle_events.proofs.Retired.{dispatches}
use Rattle.cycle_events.proofs.Applied.{Uses, with_units, Ready}
use Rattle.cycle_events.proofs.Harts.{in-harts}
use Rattle.cycle_events.proofs.Wide.{all-trans, all-less}
use Rattle.cycle_events.proofs.Chosen.{kept, IsChosen}
use Rattle.cycle_events.proofs.Choosing.{chosen}
use Rattle.cycle_events.proofs.Presented.{ext}
use Rattle.cycle_events.proofs.Halving.{Halved, halving}
use Rattle.cycle_events.proofs.Holding.{held-half, held-ended, wide-half, wide-result}
use Rattle.cycle_events.proofs.Settling.{all-go, resulting, executing, wide-executed, routed, left_retired, retiring, calm-settled}

-- ---- what the definitions say of the lists

entries-are : (hart : ℕ) (e : Engine) (ch : Choices) (input : CpuIn) (es : List Entry) → settled_entries ch (bus_for hart e ch input) es
    ≡ retire_step ch.retire (execute_step ch.execute (result_entries (offered_use e) input.result_ready (result_write (offered_use e)) (half_entries e hart ch es)))
entries-are hart e ch input es =
    settled-is ch (bus_for hart e ch input) (answers e hart ch) (response_of (response_hit e (cpu_for hart ch))) (gives e hart ch) (is_some (offered_use e) && input.result_ready)
    (use_or (offered_use e)).key.id (writeback_of (use_or (offered_use e)).hit) (use_or (offered_use e)).result es refl refl refl (record { taken = refl; id_is = refl; we_is = refl; data_is = refl })

offered-carries : (hart : ℕ) (m : Machines) (vs : List Use) → Paired hart m → ((u : Use) → Carries u m.engine.uses → Carries u vs) → IfSome (offered_use m.engine) (λ u. Carries u vs)
offered-carries hart m vs k f = go (offered_use m.engine) refl
  where
    go : (o : Option Use) → offered_use m.engine ≡ o → IfSome o (λ u. Carries u vs)
    go None h = tt
    go (Some u) h = f u (carried-at m.engine.result_waiting m.engine.script.result m.engine.cycle m.engine.uses u k.results h)

-- what is left behind the cycle
abbrev left_next : (o : Option Entry) → Left → (units : List (List ℕ)) → Left
left_next o left units = record {
  pc = pc_behind o left.pc;
  registers = registers_behind o left.registers;
  memory = memory_behind o left.memory;
  retired = cons_option (option_map line_of o) left.retired;
  units = units;
}

left-is : (o : Option Entry) (left : Left) (units : List (List ℕ)) → with_units (left_retired o left) units ≡ left_next o left units
left-is None left units = refl
left-is (Some e) left units = refl

left-same : (o : Option Entry) (left : Left) → with_units (left_retired o left) left.units ≡ left_retired o left
left-same None left = refl
left-same (Some e) left = refl

memory-is : (o : Option Entry) (left : Left) → (left_retired o left).memory ≡ memory_behind o left.memory
memory-is None left = refl
memory-is (Some e) left = refl

-- ---- the dispatch

-- where the path ends behind it
abbrev end_by : (dispatch : Bool) → (to : ℕ) → Entry → ℕ
end_by dispatch to e = cond dispatch e.predicted to

dispatching : (x : Extension) (start : State) (hart : ℕ) (left : Left) (to : ℕ) (v : World) (answer : ℕ → ℕ → ℕ) (w : Core) (ch : Choices) (es : List Entry) (us : List Use) (b : Bool) → IsInRange x.params → left.memory ≡ memory_behind ch.retire w.memory → (b ≡ true → to ≡ ahead_behind ch.cut w.ahead)
    → Shows x start hart left es us to v → Becomes x (Shows x start hart left (with_dispatch (cond b (Some (next_entry answer w ch)) None) es) us (end_by b to (next_entry answer w ch))) v
dispatching x start hart left to v answer w ch es us false range mem h m = stays x (Shows x start hart left es us to) v m
dispatching x start hart left to v answer w ch es us true range mem h m =
    let at = ahead_behind ch.cut w.ahead in
    let s : Shows x start hart left es us at v = subst (λ n. Shows x start hart left es us n v) (h refl) m in
    let seq = w.next_seq in
    let id = free_id w.flight in
    let P = λ (r : Region). Becomes x (Shows x start hart left (es ++ entry_at answer seq id at (word_at r at) ∷ []) us (entry_at answer seq id at (word_at r at)).predicted) v in
    subst P mem (dispatches x start hart left at v answer seq id es us range s)

-- ---- the cycle

shown-after : (start : State) (hart : ℕ) (retired : List Retire) (answer : ℕ → ℕ → ℕ) (m : Machines) (ch : Choices) (input : CpuIn) (w : World) → IsInRange m.core.params → Paired hart m → Sound m.core.params.split m.core.flight ch → IsChosen m.core ch
    → (ch.dispatch ≡ true → m.core.mode ≡ Running) → Shown start hart retired m w
    → Becomes (ext m.core m.engine.set) (Shown start hart (cons_option (option_map line_of ch.retire) retired) (both_after hart answer m ch input)) w
shown-after start hart retired answer m ch input w range k so ct dis sh =
    let c = m.core in
    let e = m.engine in
    let fl = c.flight in
    let x = ext c e.set in
    let left = left_by hart retired m in
    let dual = c.params.dual_write in
    let n = c.next_seq in
    let id = free_id fl in
    let v = is_some ch.offer in
    let s = issue_start e (cpu_for hart ch) in
    let t = answers e hart ch in
    let o = offered_use e in
    let ready = input.result_ready in
    let zero_first : hart ≡ 0 + hart = omega arith in
    let same : extension_of e ≡ x = ap (λ p. record { set = e.set; params = p }) (sym k.params) in
    let s0 : Shows x start hart left fl e.uses sh.at w = subst (λ z. Shows z start hart left fl e.uses sh.at w) same sh.shows in
    let h = half hart m ch k so in
    let base = kept ch fl in
    let es4 = half_entries e hart ch fl in
    let us4 = half_uses e hart ch in
    let at = end_of left.pc es4 in
    let wide4 = wide-half hart m ch range k so in
    let carries = offered-carries hart m us4 k h.decided.carries in
    let l4 = late-decided v s t hart n id (e.cycle + 1) h.answered ch.execute ch.retire fl es4 e.uses us4 h.decided so.execute so.retire in
    let l5 = late-result ready v s t hart n id (e.cycle + 1) h.answered ch.execute ch.retire es4 us4 o (result_write o) l4 carries in
    let es5 = result_entries o ready (result_write o) es4 in
    let us5 = result_uses o ready us4 in
    let wide5 = all-trans true dual base es4 es5 wide4 (wide-result dual hart n id (e.cycle + 1) h.answered es4 us4 o ready (result_write o) l4.joint carries) in
    let es6 = execute_step ch.execute es5 in
    let l6 = late-executed v s t hart n id (e.cycle + 1) h.answered ch.execute ch.retire (waiting_after o ready) es5 us5 l5 in
    let wide6 = all-trans false dual base es5 es6 (all-less dual base es5 wide5) (wide-executed dual ch.execute es5 l5.execs) in
    let es7 = retire_step ch.retire es6 in
    let l7 = late-retired v s t hart n id (e.cycle + 1) h.answered ch.retire (waiting_after o ready) es6 us5 l6 in
    let left7 = left_retired ch.retire left in
    let es8 = with_dispatch (dispatch_of answer c ch) es7 in
    let last = late-last answer n id (ahead_behind ch.cut c.ahead) (word_at (memory_behind ch.retire c.memory) (ahead_behind ch.cut c.ahead)) ch.dispatch v s t hart n id (e.cycle + 1) h.answered (waiting_after o ready) es7 us5 us5 (all-itself us5) l7 in
    let b = bus_for hart e ch input in
    let here : settled_entries ch b fl ≡ es7 = entries-are hart e ch input fl in
    let pairs8 : Pairs Before es8 = subst (λ l. Pairs Before (with_dispatch (dispatch_of answer c ch) l)) here (core-kept answer c ch b k.order).pairs in
    let held5 = held-ended o ready us4 carries l4.joint.older (held-half hart e ch sh.held) in
    let uses8 : Uses hart h.answered es8 us5 = record { older = last.older; uses = last.uses; held = held5; match = last.match } in
    let units = slice_index_or (units_in_harts e.set 0 e.units us5) hart [] in
    let us9 = ready_in_harts e.set e.cycle 0 e.units us5 in
    let after = both_after hart answer m ch input in
    let retired' = cons_option (option_map line_of ch.retire) retired in
    let Done = Shown start hart retired' after in
    next x (Halved hart m start left sh.at ch) Done w (halving hart m start left sh.at w ch range refl k so ct s0) (λ v1 half1.
    (let r = routed c ch left.pc sh.at es4 ct wide4 half1.plain in
    let at8 = end_by ch.dispatch r.to (next_entry answer c ch) in
    let S5 = Shows x start hart left es5 us5 at in
    let S6 = Shows x start hart left es6 us5 r.to in
    let S7 = Shows x start hart left7 es7 us5 r.to in
    let S8 = Shows x start hart left7 es8 us5 at8 in
    let IsReady = Ready x start hart h.answered (with_units left7 units) es8 us9 at8 in
    let end = λ (d : ch.dispatch ≡ true). r.ends (dis d) (sh.leads (dis d)) in
    next x S5 Done v1 (resulting x start hart left at v1 n id (e.cycle + 1) h.answered es4 us4 o ready range l4.joint carries half1.shows) (λ v2 s5.
    next x S6 Done v2 (executing c e.set start hart left at r.to v2 base es5 us5 ch.execute range refl refl wide5 l5.joint.kept.pairs l5.execs r.runs s5) (λ v3 s6.
    next x S7 Done v3 (retiring x start hart left r.to v3 c ch dual es6 us5 ch.retire range wide6 ct.retire s6) (λ v4 s7.
    next x S8 Done v4 (dispatching x start hart left7 r.to v4 answer c ch es7 us5 ch.dispatch range (memory-is ch.retire left) end s7) (λ v5 s8.
    next x IsReady Done v5 (in-harts x start hart left7 at8 v5 e.cycle h.answered es8 0 hart e.units us5 range pairs8 last.entries zero_first
    (record { shows = subst (λ z. Shows x start hart z es8 us5 at8 v5) (sym (left-same ch.retire left)) s8; uses = uses8 })) (λ v6 s9.
    stays x Done v6 (record {
      at = at8;
      shows = subst (λ z. Shows z start hart (left_by hart retired' after) after.core.flight us9 at8 v6) (sym same)
          (subst (λ l. Shows x start hart (left_by hart retired' after) (with_dispatch (dispatch_of answer c ch) l) us9 at8 v6) (sym here)
          (subst (λ z. Shows x start hart z es8 us9 at8 v6) (left-is ch.retire left units) s9.shows));
      held = s9.uses.held;
      leads = λ q. ended ch.dispatch r.to (r.ends (was-running c.mode q) (sh.leads (was-running c.mode q)));
      calm = λ q.
          subst (λ l. Each IsCalm (with_dispatch (dispatch_of answer c ch) l)) (sym here)
          (calm-kept ch.dispatch (λ d. was-draining c.mode q (dis d)) es7 (calm-settled dual base es6 ch.retire wide6 (ct.drained (was-draining c.mode q))));
    }))))))))
  where
    was-running : (mode : Mode) → mode_after mode ≡ Running → mode ≡ Running
    was-running Running q = refl
    was-running DrainBegins q = cc
    was-running Draining q = cc

    was-draining : (mode : Mode) → mode_after mode ≡ Draining → mode ≡ Running → ⊥
    was-draining Running q z = cc
    was-draining DrainBegins q z = cc
    was-draining Draining q z = cc

    ended : (b : Bool) (to : ℕ) → to ≡ ahead_behind ch.cut m.core.ahead → end_by b to (next_entry answer m.core ch) ≡ ahead_after (cond b (Some (next_entry answer m.core ch)) None) (ahead_behind ch.cut m.core.ahead)
    ended false to h = h
    ended true to h = refl

    calm-kept : (b : Bool) → (b ≡ true → ⊥) → (es : List Entry) → Each IsCalm es → Each IsCalm (with_dispatch (cond b (Some (next_entry answer m.core ch)) None) es)
    calm-kept false h es c = c
    calm-kept true h es c = absurd (h refl)

-- a drain dispatches nothing
dispatch-runs : (w : Core) → (choices w).dispatch ≡ true → w.mode ≡ Running
dispatch-runs w h = go w.mode h
  where
    go : (mode : Mode) → (choices_in w mode).dispatch ≡ true → mode ≡ Running
    go Running k = refl
    go DrainBegins k = cc
    go Draining k = cc

pub cycled : (start : State) (hart : ℕ) (retired : List Retire) (answer : ℕ → ℕ → ℕ) (m : Machines) (w : World) → IsInRange m.core.params → Paired hart m → (choices m.core).stop ≡ None → Shown start hart retired m w
    → Becomes (extension_of m.engine) (Shown start hart (cons_option (option_map line_of (choices m.core).retire) retired) (cycle m hart answer)) w
unfolding cycle
cycled start hart retired answer m w range k z sh =
    let c = m.core in
    let x = ext c m.engine.set in
    let f = facts_of hart m k in
    let same : extension_of m.engine ≡ x = ap (λ p. record { set = m.engine.set; params = p }) (sym k.params) in
    let s0 : Shows x start hart (left_by hart retired m) c.flight m.engine.uses sh.at w = subst (λ e. Shows e start hart (left_by hart retired m) c.flight m.engine.uses sh.at w) same sh.shows in
    let go = all-go x start hart (left_by hart retired m) sh.at c.flight m.engine.uses w s0 in
    let ct = chosen c f go sh.calm z in
    subst (λ e. Becomes e (Shown start hart (cons_option (option_map line_of (choices c).retire) retired) (cycle m hart answer)) w) (sym same)
    (shown-after start hart retired answer m (choices c) (input_at m hart) w range k (sound c f z) ct (dispatch-runs c) sh)
