-- What core and engine keep of each other and of the facts, in every session.
use Rattle.std.proofs.Common.{◌&&◌, if◌then◌else◌, Option, Some, ◌≡◌, ◌<◌, ℕ, Bool, true, false, None, List, [], ◌∷◌, refl, sym, ap, ◌∙◌, subst, arith, lit<}
use Rattle.std.specs.Prelude.{is_some, replicate}
use Rattle.std.proofs.lemmas.List.Elements.{All-replicate, recursion_from_All}
use Rattle.xif_base.specs.declared.params.Params.{Params}
use Rattle.xif_base.specs.Params.{IsInRange}
use Rattle.xif_signals.specs.declared.bus.Bus.{Bus}
use Rattle.xif_signals.specs.declared.rule.Channel.{Channel}
use Rattle.xif_signals.specs.declared.rule.Channel.TheVariants.{Issue, Register, Commit, Result as ResultChannel}
use Rattle.xif_signals.specs.declared.rule.Rule.TheVariants.{K1, K2, H1, I1, I2, I3, I4, I5, G1, G2, G3, G4, G5, C1, C2, C3, R1, R2, R3, R4, R5, R6}
use Rattle.xif_session.specs.Facts.{Past, past_of, past_after}
use Rattle.xif_session.specs.Rules.{HasHart, HoldsG2, HoldsG3, HoldsG4, HoldsC1, HoldsC2, HoldsC3}
use Rattle.xif_session.proofs.Options.{both-true, no_true}
use Rattle.xif_session.specs.Legal.{EngineKeeps, HoldsAll, IsLegalSession}
use Rattle.cycle_spec.specs.declared.choices.Mode.{Mode}
use Rattle.cycle_spec.specs.declared.choices.Mode.TheVariants.{Running, DrainBegins, Draining}
use Rattle.cycle_spec.specs.Flight.{is_unknown}
use Rattle.cycle_spec.specs.State.{Core}
use Rattle.inorder_machine.specs.declared.stop.StopCause.{StopCause}
use Rattle.cycle_spec.specs.Choices.{stop_at, choices_by, choices_in, choices}
use Rattle.cycle_spec.specs.Engine.{issue_start, issue_ready}
use Rattle.cycle_spec.specs.Cycle.{Machines, cpu_at, cop_at, input_at, bus_at, core_bus_at, cycle, hart_if}
use Rattle.cycle_spec.specs.Run.{Setup, new_machines}
use Rattle.cycle_lists.specs.Lists.{Each, Pairs}
use Rattle.cycle_paired.specs.Paired.{Paired}
use Rattle.cycle_paired.specs.Reached.{begins_drain, resumes}
use Rattle.cycle_paired.proofs.Choosing.{sound}
use Rattle.cycle_paired.proofs.Cycling.{facts_of}
use Rattle.cycle_paired.proofs.Closing.{cycle-paired, cycle-marked}
use Rattle.cycle_paired.proofs.Answering.{mark}
use Rattle.cycle_paired.proofs.Stopping.{stop-turned}
use Rattle.cycle_paired.proofs.Always.{start-paired, drain-paired, resumed-paired, turn-paired}
use Rattle.trace_laws.specs.Sessions.{Session, Begun, Cycled, Drained, Resumed, Turned, Stopped, HasBytes, Begins}
use Rattle.trace_laws.proofs.EngineTold.{Orderly, EngineTold}
use Rattle.trace_laws.proofs.EngineRules as engine
use Rattle.trace_laws.proofs.EngineHalf.{new_told}
use Rattle.trace_laws.proofs.CoreChosen.{InOrder, chosen}
use Rattle.trace_laws.proofs.CoreRules.{Linked}
use Rattle.trace_laws.proofs.CoreRules as core
use Rattle.trace_laws.proofs.CoreCommits as commits
use Rattle.trace_laws.proofs.Linked as links
use Rattle.trace_laws.proofs.Releases.{order_after}
use Rattle.trace_laws.proofs.Paths.{Fit}
use Rattle.trace_laws.proofs.Finishes.{engine-finishing}
use Rattle.trace_laws.proofs.Presents.{known}
use Rattle.width_laws.proofs.Memories.{IsByte}
use Rattle.width_laws.proofs.Operands.{IsWord}
use Rattle.trace_laws.proofs.SmallCore.{SmallCore, WordEntry, core-small}
use Rattle.trace_laws.proofs.SmallEngine.{SmallEngine, offered-small, engine-small, new-small}
use Rattle.trace_laws.proofs.Shown.{Operands, Grows}
use Rattle.trace_laws.proofs.Shown as shown
use Rattle.trace_laws.proofs.ShownAfter.{operands_after}

pub record Legal (hart : ℕ) (m : Machines) (p : Past) : Type 0 where
  pub paired : Paired hart m
  pub told : EngineTold m.engine m.engine.params.num_harts p
  pub linked : Linked paired.answered p.facts
  pub released : Pairs InOrder m.core.flight
  pub below : hart < m.engine.params.num_harts
  pub operands : Operands m.core p
  pub words : SmallCore m.core
  pub results : SmallEngine m.engine

-- ---- the rules in a cycle

pub record CycleKeeps (hart : ℕ) (m : Machines) (p : Past) : Type 0 where
  pub orderly : Orderly m.engine.params p (bus_at m hart)
  pub register_hart : HasHart m.engine.params (bus_at m hart) Register
  pub commit_hart : HasHart m.engine.params (bus_at m hart) Commit
  pub g2 : HoldsG2 p (bus_at m hart)
  pub c1 : HoldsC1 p (bus_at m hart)
  pub c2 : HoldsC2 p (bus_at m hart)
  pub c3 : HoldsC3 m.engine.params p (bus_at m hart)
  pub g3 : HoldsG3 p (bus_at m hart)
  pub g4 : HoldsG4 m.engine.params p (bus_at m hart)
  pub engine : EngineKeeps m.engine.params p (bus_at m hart)

small : (valid : Bool) (hart n : ℕ) → hart < n → hart_if valid hart < n
small true hart n h = h
small false hart n h = omega arith

pub cycle_keeps : (hart : ℕ) (m : Machines) (p : Past) → IsInRange m.engine.params → Legal hart m p → CycleKeeps hart m p
cycle_keeps hart m p range l =
    let c = chosen m.core (facts_of hart m l.paired) l.released in
    let o = core.orderly hart m p l.paired l.told l.linked l.below c in
    record {
      orderly = o;
      register_hart = λ v. small (bus_at m hart).register_valid hart m.engine.params.num_harts l.below;
      commit_hart = λ v. small (bus_at m hart).commit_valid hart m.engine.params.num_harts l.below;
      g2 = core.keeps_g2 hart m p l.paired l.told l.linked l.below c;
      c1 = commits.keeps_c1 hart m p l.paired l.told l.linked l.below c;
      c2 = commits.keeps_c2 hart m p l.paired l.told l.linked l.below c;
      c3 = commits.keeps_c3 hart m p l.paired l.told l.linked l.below c;
      g3 = shown.keeps_g3 hart m p l.paired c l.operands;
      g4 = subst (λ x. HoldsG4 x p (bus_at m hart)) l.paired.params (shown.keeps_g4 hart m p l.paired c (subst IsInRange (sym l.paired.params) range) l.words l.operands);
      engine = engine.keeps m.engine p (cpu_at m hart) (input_at m hart) range l.told o;
    }

pub cycle_legal : (hart : ℕ) (m : Machines) (answer : ℕ → ℕ → ℕ) (p : Past) → IsInRange m.engine.params → Legal hart m p → (choices m.core).stop ≡ None → Legal hart (cycle m hart answer) (past_after p (bus_at m hart))
unfolding cycle
cycle_legal hart m answer p range l s =
    let k = cycle_keeps hart m p range l in
    let c = chosen m.core (facts_of hart m l.paired) l.released in
    let so = sound m.core (facts_of hart m l.paired) s in
    let kn = known hart m p (cop_at m hart) l.paired c so k.engine (engine-finishing hart m l.paired so) l.operands.fit l.operands.count in
    record {
      paired = cycle-paired hart m answer l.paired s;
      told = engine.kept m.engine p (cpu_at m hart) (input_at m hart) range l.told k.orderly;
      linked = links.linked_after m.engine p (cpu_at m hart) (input_at m hart) l.told k.orderly l.paired.answered l.linked (cycle-paired hart m answer l.paired s).answered (cycle-marked hart m answer l.paired s);
      released = order_after answer m.core (choices m.core) (core_bus_at m hart) l.paired.order.pairs l.paired.behind c.offer l.released;
      below = l.below;
      operands = operands_after hart m p (cop_at m hart) l.paired c answer kn l.words;
      words = core-small answer m.core (core_bus_at m hart) m.core.params.dual_write (offered-small m.engine l.results) l.operands.fit l.words;
      results = engine-small m.engine p (cpu_at m hart) (input_at m hart) l.told k.orderly l.results;
    }

-- ---- a session

pub start_legal : (hart : ℕ) (setup : Setup) → hart < setup.params.num_harts → HasBytes setup.memory → Legal hart (new_machines setup) (past_of [])
start_legal hart setup h b = record {
  paired = start-paired hart setup;
  told = new_told setup.params setup.set setup.script;
  linked = λ key f q. cc;
  released = tt;
  below = h;
  operands = record { fit = tt; count = refl; shown = λ z. cc };
  words = record { registers = recursion_from_All IsWord (replicate 32 0) (All-replicate IsWord 32 0 (lit< tt)); bytes = recursion_from_All IsByte setup.memory.bytes b; writes = tt };
  results = new-small setup.params setup.set setup.script;
}

-- the mode of a core and the address of its next dispatch count for nothing here
pub operands_in : (w : Core) (mode : Mode) (ahead : ℕ) (p : Past) → Operands w p → Operands (record w { mode = mode; ahead = ahead }) p
operands_in w mode ahead p o = record {
  fit = o.fit;
  count = o.count;
  shown = λ h. let s = o.shown h in record { before = s.before; entry = s.entry; params_are = s.params_are; flags = s.flags; lanes = s.lanes; small = s.small; stays = s.stays };
}

pub words_in : (w : Core) (mode : Mode) (ahead : ℕ) → SmallCore w → SmallCore (record w { mode = mode; ahead = ahead })
words_in w mode ahead s = record { registers = s.registers; bytes = s.bytes; writes = s.writes }

pub drain_legal : (hart : ℕ) (m : Machines) (p : Past) → Legal hart m p → Legal hart (begins_drain m) p
drain_legal hart m p l = record { paired = drain-paired hart m l.paired; told = l.told; linked = l.linked; released = l.released; below = l.below; operands = operands_in m.core DrainBegins m.core.ahead p l.operands; words = words_in m.core DrainBegins m.core.ahead l.words; results = l.results }

pub resumed_legal : (hart : ℕ) (m : Machines) (p : Past) → Legal hart m p → Legal hart (resumes m) p
resumed_legal hart m p l = record { paired = resumed-paired hart m l.paired; told = l.told; linked = l.linked; released = l.released; below = l.below; operands = operands_in m.core Running m.core.pc p l.operands; words = words_in m.core Running m.core.pc l.words; results = l.results }

-- a core that begins
words_new : (params : Params) (w : Core) → Begins params w → SmallCore w
words_new params w b = record { registers = recursion_from_All IsWord w.registers b.words; bytes = recursion_from_All IsByte w.memory.bytes b.bytes; writes = subst (Each WordEntry) (sym b.idle) tt }

pub turn_legal : (hart other : ℕ) (m : Machines) (p : Past) (w : Core) → Legal hart m p → other < m.engine.params.num_harts → m.core.flight ≡ [] → m.engine.issue_turns.waiting ≡ None → Begins m.core.params w → Legal other (record m { core = w }) p
turn_legal hart other m p w l below h none b = record {
  paired = turn-paired hart other m w l.paired h none b.idle b.params;
  told = l.told;
  linked = l.linked;
  released = subst (Pairs InOrder) (sym b.idle) tt;
  below = below;
  operands = record {
    fit = subst (Each (Fit w.params.dual_write)) (sym b.idle) tt;
    count = b.count;
    shown = λ z. let s = l.operands.shown z in record {
      before = s.before;
      entry = s.entry;
      params_are = s.params_are ∙ sym b.params;
      flags = s.flags;
      lanes = s.lanes;
      small = s.small;
      stays = subst (Each (λ x. is_unknown x ≡ true → x.id ≡ p.last.register_id → Grows s.before s.entry w x)) (sym b.idle) tt;
    };
  };
  words = words_new m.core.params w b;
  results = l.results;
}

-- in the cycle of the stop nothing is offered or presented
stop-quiet : (w : Core) (cause : StopCause) → (choices w).stop ≡ Some cause → (is_some (choices w).offer ≡ false) × (is_some (choices w).present ≡ false)
stop-quiet w cause h = go w.mode h
  where
    by : (o : Option StopCause) → (choices_by w o).stop ≡ Some cause → (is_some (choices_by w o).offer ≡ false) × (is_some (choices_by w o).present ≡ false)
    by None z = cc
    by (Some c) z = (refl, refl)

    go : (mode : Mode) → (choices_in w mode).stop ≡ Some cause → (is_some (choices_in w mode).offer ≡ false) × (is_some (choices_in w mode).present ≡ false)
    go Running z = by (stop_at w.flight) z
    go DrainBegins z = cc
    go Draining z = cc

-- behind it a core of any hart goes on
pub stop_legal : (hart other : ℕ) (m : Machines) (answer : ℕ → ℕ → ℕ) (p : Past) (cause : StopCause) (w : Core) → IsInRange m.engine.params → Legal hart m p → other < m.engine.params.num_harts → (choices m.core).stop ≡ Some cause
    → Begins m.core.params w → Legal other (record { core = w; engine = (cycle m hart answer).engine }) (past_after p (bus_at m hart))
unfolding cycle
stop_legal hart other m answer p cause w range l below s b =
    let o = (cycle_keeps hart m p range l).orderly in
    let turn = stop-turned hart other m answer cause w l.paired s b.idle b.params in
    let quiet = stop-quiet m.core cause s in
    record {
      paired = turn.paired;
      told = engine.kept m.engine p (cpu_at m hart) (input_at m hart) range l.told o;
      linked = links.linked_after m.engine p (cpu_at m hart) (input_at m hart) l.told o l.paired.answered l.linked turn.paired.answered
          (λ start. turn.marks start ∙ ap (λ v. if v then mark (issue_start m.engine (cpu_at m hart)) (v && issue_ready m.engine (cpu_at m hart)) l.paired.answered start else l.paired.answered start) (sym quiet.0));
      released = subst (Pairs InOrder) (sym b.idle) tt;
      below = below;
      operands = record {
        fit = subst (Each (Fit w.params.dual_write)) (sym b.idle) tt;
        count = b.count;
        shown = λ z. no_true (is_some (choices m.core).present) (both-true (is_some (choices m.core).present) _ z).0 quiet.1;
      };
      words = words_new m.core.params w b;
      results = engine-small m.engine p (cpu_at m hart) (input_at m hart) l.told o l.results;
    }

-- the parameters stay
pub record Legal_of (setup : Setup) (hart : ℕ) (m : Machines) (session : List Bus) : Type 0 where
  pub params : m.engine.params ≡ setup.params
  pub legal : Legal hart m (past_of session)
  pub so_far : IsLegalSession setup.params session

holds : (params : Params) (hart : ℕ) (m : Machines) (p : Past) → m.engine.params ≡ params → CycleKeeps hart m p → HoldsAll params p (bus_at m hart)
holds params hart m p q k = subst (λ x. HoldsAll x p (bus_at m hart)) q by_rule
  where
    on_channel : (channel : Channel) → HasHart m.engine.params (bus_at m hart) channel
    on_channel Issue = k.orderly.hart
    on_channel Register = k.register_hart
    on_channel Commit = k.commit_hart
    on_channel ResultChannel = k.engine.result_hart

    by_rule : HoldsAll m.engine.params p (bus_at m hart)
    by_rule K1 = tt
    by_rule K2 = tt
    by_rule H1 = on_channel
    by_rule I1 = k.orderly.i1
    by_rule I2 = k.orderly.i2
    by_rule I3 = k.engine.i3
    by_rule I4 = k.engine.i4
    by_rule I5 = k.engine.i5
    by_rule G1 = record { core = k.orderly.g1; engine = k.engine.g1 }
    by_rule G2 = k.g2
    by_rule G3 = k.g3
    by_rule G4 = k.g4
    by_rule G5 = k.engine.g5
    by_rule C1 = k.c1
    by_rule C2 = k.c2
    by_rule C3 = k.c3
    by_rule R1 = k.engine.r1
    by_rule R2 = k.engine.r2
    by_rule R3 = k.engine.r3
    by_rule R4 = k.engine.r4
    by_rule R5 = k.engine.r5
    by_rule R6 = k.engine.r6

params-cycle : (hart : ℕ) (m : Machines) (answer : ℕ → ℕ → ℕ) → (cycle m hart answer).engine.params ≡ m.engine.params
unfolding cycle
params-cycle hart m answer = refl

module _ (setup : Setup) (range : IsInRange setup.params) where
  keeps_on : (hart : ℕ) (m : Machines) (session : List Bus) → Legal_of setup hart m session → HoldsAll setup.params (past_of session) (bus_at m hart)
  keeps_on hart m session l = holds setup.params hart m (past_of session) l.params (cycle_keeps hart m (past_of session) (subst IsInRange (sym l.params) range) l.legal)

  pub session_legal : (hart : ℕ) (m : Machines) (session : List Bus) → Session setup hart m session → Legal_of setup hart m session
  session_legal hart _ _ (Begun _ h b) = record { params = refl; legal = start_legal hart setup h b; so_far = tt }
  session_legal hart _ _ (Cycled _ m session answer x s) =
      let l = session_legal hart m session x in
      record {
        params = params-cycle hart m answer ∙ l.params;
        legal = cycle_legal hart m answer (past_of session) (subst IsInRange (sym l.params) range) l.legal s;
        so_far = (keeps_on hart m session l, l.so_far);
      }
  session_legal hart _ session (Drained _ m _ x) =
      let l = session_legal hart m session x in
      record { params = l.params; legal = drain_legal hart m (past_of session) l.legal; so_far = l.so_far }
  session_legal hart _ session (Resumed _ m _ x) =
      let l = session_legal hart m session x in
      record { params = l.params; legal = resumed_legal hart m (past_of session) l.legal; so_far = l.so_far }
  session_legal other _ session (Turned hart _ m _ w x below h waits b) =
      let l = session_legal hart m session x in
      record {
        params = l.params;
        legal = turn_legal hart other m (past_of session) w l.legal (subst (λ z. other < z.num_harts) (sym l.params) below) h waits b;
        so_far = l.so_far;
      }
  session_legal other _ _ (Stopped hart _ m session answer cause w x below s b) =
      let l = session_legal hart m session x in
      record {
        params = params-cycle hart m answer ∙ l.params;
        legal = stop_legal hart other m answer (past_of session) cause w (subst IsInRange (sym l.params) range) l.legal (subst (λ z. other < z.num_harts) (sym l.params) below) s b;
        so_far = (keeps_on hart m session l, l.so_far);
      }

  -- and with the next cycle
  pub session_keeps : (hart : ℕ) (m : Machines) (session : List Bus) → Session setup hart m session → IsLegalSession setup.params (bus_at m hart ∷ session)
  session_keeps hart m session x = let l = session_legal hart m session x in (keeps_on hart m session l, l.so_far)
