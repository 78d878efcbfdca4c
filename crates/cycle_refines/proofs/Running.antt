-- A run, from its first cycle to its last.
use Rattle.std.proofs.Common.{◌≡◌, ◌≤◌, ◌++◌, ℕ, zero, suc, List, [], ◌∷◌, length, replicate, reverse, Option, Some, None, refl, sym, ap, ◌∙◌, subst, append-nil, arith}
use Rattle.std.specs.Prelude.{is_some, slice_index_or}
use Rattle.std.specs.Option.{option_map}
use Rattle.std.specs.List.{filter_map, cons_option}
use Rattle.std.proofs.lemmas.List.{reverse-append, length-reverse}
use Rattle.std.proofs.lemmas.List.Elements.{filter_map-append}
use Rattle.xif_base.specs.Params.{IsInRange}
use Rattle.coproc_config.specs.State.{zeros}
use Rattle.inorder_machine.specs.declared.line.Retire.{Retire}
use Rattle.inorder_machine.specs.declared.line.Stepped.TheVariants.{Stop}
use Rattle.inorder_machine.specs.declared.stop.StopCause.{StopCause}
use Rattle.inorder_machine.specs.Machine.{State, next_step}
use Rattle.inorder_machine.specs.After.{after}
use Rattle.cycle_spec.specs.declared.entry.Entry.{Entry}
use Rattle.cycle_spec.specs.declared.log.CycleLog.{CycleLog}
use Rattle.cycle_spec.specs.declared.log.End.TheVariants.{Stopped, Budget}
use Rattle.cycle_spec.specs.Choices.{stop_at, choices}
use Rattle.cycle_spec.specs.Core.{line_of}
use Rattle.cycle_spec.specs.Engine.{units_of}
use Rattle.cycle_spec.specs.Cycle.{Machines, cycle}
use Rattle.cycle_spec.specs.Run.{Setup, Meaning, Progress, new_machines, start, next as next_progress, with_drain, progress_of, end_by, run_after, run_of}
use Rattle.cycle_lists.proofs.Runs.{Keeping, Comes, Going, Halted, comes}
use Rattle.cycle_paired.specs.Paired.{Paired}
use Rattle.cycle_paired.proofs.Closing.{cycle-paired}
use Rattle.cycle_paired.proofs.Always.{start-paired, drain-paired}
use Rattle.ahead_spec.specs.Walk.{Item, entries}
use Rattle.ahead_spec.specs.World.{World, begun, run}
use Rattle.ahead_spec.specs.Refines.{lines, stop_in}
use Rattle.ahead_laws.proofs.Refining.{refines}
use Rattle.cycle_events.specs.Becomes.{Becomes}
use Rattle.cycle_events.specs.Shown.{Left, left_by, Shows, Shown, extension_of, state_in}
use Rattle.cycle_events.proofs.Moving.{stays, next}
use Rattle.cycle_events.proofs.Cycled.{cycled}
use Rattle.cycle_events.proofs.Stopping.{stopping, stop-leaves, stop-says, goes-says}
use Rattle.cycle_events.proofs.Between.{start-shown, drain-shown, cycle-params, cycle-extension}
use Rattle.cycle_refines.specs.RefinesInOrder.{extension_in, first_state, RefinesInOrder}

-- ---- what retired

-- the lines of logs, in their order
abbrev pub retired_in : List CycleLog → List Retire
retired_in logs = filter_map (λ log. log.retired) logs

pub reverse-cons : {A : Type 0} (x : A) (xs : List A) → reverse (x ∷ xs) ≡ reverse xs ++ x ∷ []
reverse-cons x xs = reverse-append (x ∷ []) xs

pub reverse-lines : (logs : List CycleLog) → retired_in (reverse logs) ≡ reverse (retired_in logs)
reverse-lines [] = refl
reverse-lines (log ∷ logs) =
    ap retired_in (reverse-cons log logs) ∙ filter_map-append (λ (l : CycleLog). l.retired) (reverse logs) (log ∷ []) ∙ ap (λ l. l ++ cons_option log.retired []) (reverse-lines logs) ∙ go log.retired
  where
    go : (o : Option Retire) → reverse (retired_in logs) ++ cons_option o [] ≡ reverse (cons_option o (retired_in logs))
    go None = append-nil (reverse (retired_in logs))
    go (Some line) = sym (reverse-cons line (retired_in logs))

-- ---- a run that goes on, and one that stopped

-- core and engine are shown by the machine that runs ahead
pub record Goes {P : Type 0} (s : Setup) (p : Progress P) : Type 0 where
  pub params : p.machines.core.params ≡ s.params
  pub extension : extension_of p.machines.engine ≡ extension_in s
  pub unstopped : p.machines.core.stopped ≡ None
  pub paired : Paired 0 p.machines
  pub events : Becomes (extension_in s) (Shown (first_state s) 0 (retired_in p.logs) p.machines) (begun (first_state s))

-- the in-order machine after as many instructions
pub record After (s : Setup) (left : Left) : Type 0 where
  pub now : State
  pub arrived : after (extension_in s) (length left.retired) (first_state s) ≡ Some now
  pub lines_are : left.retired ≡ lines (extension_in s) (length left.retired) (first_state s)
  pub pc : left.pc ≡ now.pc
  pub registers : left.registers ≡ now.registers
  pub memory : left.memory ≡ now.memory

pub record Halts {P : Type 0} (s : Setup) (p : Progress P) : Type 0 where
  pub cause : StopCause
  pub stopped : p.machines.core.stopped ≡ Some cause
  pub after_it : After s (left_by 0 (retired_in p.logs) p.machines)
  pub stops : next_step (extension_in s) after_it.now ≡ Stop cause
  pub units : units_of p.machines.engine 0 ≡ after_it.now.units

-- ---- what the machine that runs ahead says

pub shown-in : (s : Setup) (retired : List Retire) (m : Machines) (w : World) → extension_of m.engine ≡ extension_in s → Shown (first_state s) 0 retired m w → (at : ℕ) × Shows (extension_in s) (first_state s) 0 (left_by 0 retired m) m.core.flight m.engine.uses at w
shown-in s retired m w e h = (h.at, subst (λ x. Shows x (first_state s) 0 (left_by 0 retired m) m.core.flight m.engine.uses h.at w) e h.shows)

nil-items : (ys : List Item) → entries ys ≡ [] → ys ≡ []
nil-items [] h = refl
nil-items (y ∷ ys) h = cc

stop-items : (ys : List Item) → stop_in ys ≡ stop_at (entries ys)
stop-items [] = refl
stop-items (y ∷ ys) = refl

-- what is shown is what the in-order machine leaves
pub record Leaves (s : Setup) (left : Left) (es : List Entry) : Type 0 where
  pub after_it : After s left
  pub units : es ≡ [] → left.units ≡ after_it.now.units
  pub stops : (cause : StopCause) → stop_at es ≡ Some cause → (next_step (extension_in s) after_it.now ≡ Stop cause) × (left.units ≡ after_it.now.units)

leaves : (s : Setup) (retired : List Retire) (m : Machines) (w : World) → extension_of m.engine ≡ extension_in s → Shown (first_state s) 0 retired m w → Leaves s (left_by 0 retired m) m.core.flight
leaves s retired m w e h =
    let x = extension_in s in
    let k = (shown-in s retired m w e h).1 in
    let r = refines x (first_state s) w k.runs in
    let left = left_by 0 retired m in
    let lines_of : w.retired ≡ retired = ap (λ l. l.retired) k.left_is in
    let units_of_w : w.units ≡ left.units = ap (λ l. l.units) k.left_is in
    record {
      after_it = record {
        now = r.now;
        arrived = ap (λ l. after x (length l) (first_state s)) (sym lines_of) ∙ r.arrived;
        lines_are = sym lines_of ∙ r.lines_are ∙ ap (λ l. lines x (length l) (first_state s)) lines_of;
        pc = sym (ap (λ l. l.pc) k.left_is) ∙ r.pc_is;
        registers = sym (ap (λ l. l.registers) k.left_is) ∙ r.registers_are;
        memory = sym (ap (λ l. l.memory) k.left_is) ∙ r.memory_is;
      };
      units = λ q. sym units_of_w ∙ r.units_are (nil-items w.flight (k.entries_are ∙ q));
      stops = λ cause q.
          let z = r.stops cause (stop-items w.flight ∙ ap stop_at k.entries_are ∙ q) in
          (z.0, sym units_of_w ∙ z.1);
    }

-- ---- a cycle

pub goes-on : {P : Type 0} (meaning : Meaning P) (s : Setup) (p : Progress P) → IsInRange s.params → Goes s p → (choices p.machines.core).stop ≡ None → Goes s (next_progress meaning p)
goes-on meaning s p range g z =
    let m = p.machines in
    let answer = meaning.answer p.predictor in
    let x = extension_in s in
    let retired = retired_in p.logs in
    let after' = cons_option (option_map line_of (choices m.core).retire) retired in
    let in_range : IsInRange m.core.params = subst IsInRange (sym g.params) range in
    record {
      params = cycle-params 0 answer m ∙ g.params;
      extension = cycle-extension 0 answer m ∙ g.extension;
      unstopped = goes-says 0 answer m z ∙ g.unstopped;
      paired = cycle-paired 0 m answer g.paired z;
      events = next x (Shown (first_state s) 0 retired m) (Shown (first_state s) 0 after' (cycle m 0 answer)) (begun (first_state s)) g.events
          (λ w h. subst (λ e. Becomes e (Shown (first_state s) 0 after' (cycle m 0 answer)) w) g.extension (cycled (first_state s) 0 retired answer m w in_range g.paired z h));
    }

pub halts-there : {P : Type 0} (meaning : Meaning P) (s : Setup) (p : Progress P) (cause : StopCause) → Goes s p → (choices p.machines.core).stop ≡ Some cause → Halts s (next_progress meaning p)
halts-there meaning s p cause g z =
    let m = p.machines in
    let answer = meaning.answer p.predictor in
    let retired = retired_in p.logs in
    let k = stopping m.core cause z in
    let h = g.events.there in
    let w = run (extension_in s) (begun (first_state s)) g.events.events in
    let l = leaves s retired m w g.extension h in
    let same : left_by 0 retired (cycle m 0 answer) ≡ left_by 0 retired m = stop-leaves (first_state s) 0 retired answer m w cause g.paired z h in
    let none : cons_option (option_map line_of (choices m.core).retire) retired ≡ retired = ap (λ ch. cons_option (option_map line_of ch.retire) retired) k.chooses in
    let stops = l.stops cause k.oldest in
    let a = l.after_it in
    record {
      cause = cause;
      stopped = stop-says 0 answer m cause z;
      after_it = record {
        now = a.now;
        arrived = ap (λ r. after (extension_in s) (length r) (first_state s)) none ∙ a.arrived;
        lines_are = none ∙ a.lines_are ∙ sym (ap (λ r. lines (extension_in s) (length r) (first_state s)) none);
        pc = ap (λ q. q.pc) same ∙ a.pc;
        registers = ap (λ q. q.registers) same ∙ a.registers;
        memory = ap (λ q. q.memory) same ∙ a.memory;
      };
      stops = stops.0;
      units = ap (λ q. q.units) same ∙ stops.1;
    }

pub drain-begins : {P : Type 0} (s : Setup) (p : Progress P) → Goes s p → Goes s (with_drain p)
drain-begins s p g = record {
  params = g.params;
  extension = g.extension;
  unstopped = g.unstopped;
  paired = drain-paired 0 p.machines g.paired;
  events = record { events = g.events.events; may = g.events.may; there = drain-shown (first_state s) 0 (retired_in p.logs) p.machines (run (extension_in s) (begun (first_state s)) g.events.events) g.events.there };
}

pub keeping : {P : Type 0} (meaning : Meaning P) (s : Setup) → IsInRange s.params → Keeping meaning (Goes s) (Halts s)
keeping meaning s range = record {
  unstopped = λ p g. g.unstopped;
  stopped = λ p h. ap is_some h.stopped;
  goes-on = λ p g z. goes-on meaning s p range g z;
  halts = λ p cause g z. halts-there meaning s p cause g z;
  drain-begins = λ p g. drain-begins s p g;
}

-- ---- the whole run

pub replicate-first : (n : ℕ) (z : List (List ℕ)) → 1 ≤ n → slice_index_or (replicate n z) 0 [] ≡ z
replicate-first zero z h = absurd (omega (arith, h))
replicate-first (suc n) z h = refl

pub starts : {P : Type 0} (s : Setup) (predictor : P) → IsInRange s.params → Goes s (start s predictor)
starts s predictor range =
    let m = new_machines s in
    let units : units_of m.engine 0 ≡ zeros s.set = replicate-first s.params.num_harts (zeros s.set) range.num_harts.0 in
    let same : state_in 0 m ≡ first_state s = ap (λ u. record (first_state s) { units = u }) units in
    record {
      params = refl;
      extension = refl;
      unstopped = refl;
      paired = start-paired 0 s;
      events = stays (extension_in s) (Shown (first_state s) 0 [] m) (begun (first_state s)) (subst (λ z. Shown z 0 [] m (begun z)) same (start-shown 0 s));
    }

-- ---- what it leaves

refined : {P : Type 0} (s : Setup) (p : Progress P) (es : List Entry) (a : After s (left_by 0 (retired_in p.logs) p.machines)) → (es ≡ [] → units_of p.machines.engine 0 ≡ a.now.units)
    → ((cause : StopCause) → end_by p.machines.core.stopped ≡ Stopped cause → (next_step (extension_in s) a.now ≡ Stop cause) × (units_of p.machines.engine 0 ≡ a.now.units)) → RefinesInOrder s es (run_after p)
refined s p es a units stop =
    let lines_are = reverse-lines p.logs in
    let count : length (retired_in (reverse p.logs)) ≡ length (retired_in p.logs) = ap length lines_are ∙ length-reverse (retired_in p.logs) in
    record {
      now = a.now;
      arrived = ap (λ n. after (extension_in s) n (first_state s)) count ∙ a.arrived;
      retired = lines_are ∙ ap reverse a.lines_are ∙ ap (λ n. reverse (lines (extension_in s) n (first_state s))) (sym count);
      pc = a.pc;
      registers = a.registers;
      memory = a.memory;
      units = units;
      stop = stop;
    }

refined-at : {P : Type 0} (s : Setup) (p : Progress P) → Comes (Goes s) (Halts s) p → RefinesInOrder s p.machines.core.flight (run_after p)
refined-at s p (Going g) =
    let l = leaves s (retired_in p.logs) p.machines (run (extension_in s) (begun (first_state s)) g.events.events) g.extension g.events.there in
    refined s p p.machines.core.flight l.after_it l.units (λ cause h. absurd (no-stop cause (sym (ap end_by g.unstopped) ∙ h)))
  where
    no-stop : (cause : StopCause) → Budget ≡ Stopped cause → ⊥
    no-stop cause h = cc
refined-at s p (Halted h) =
    refined s p p.machines.core.flight h.after_it (λ q. h.units) (λ cause q. by cause (stopped-is cause (sym (ap end_by h.stopped) ∙ q)))
  where
    stopped-is : (cause : StopCause) → Stopped h.cause ≡ Stopped cause → h.cause ≡ cause
    stopped-is cause q = cc

    by : (cause : StopCause) → h.cause ≡ cause → (next_step (extension_in s) h.after_it.now ≡ Stop cause) × (units_of p.machines.engine 0 ≡ h.after_it.now.units)
    by cause q = (h.stops ∙ ap Stop q, h.units)

pub run-refines : {P : Type 0} (meaning : Meaning P) (s : Setup) (predictor : P) → IsInRange s.params → RefinesInOrder s (progress_of meaning s predictor).machines.core.flight (run_of meaning s predictor)
run-refines meaning s predictor range = refined-at s (progress_of meaning s predictor) (comes meaning (Goes s) (Halts s) (keeping meaning s range) s predictor (starts s predictor range))
