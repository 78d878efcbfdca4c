-- What holds of the machine that runs ahead makes it a refinement of the in-order machine.
use Rattle.std.proofs.Common.{◌≡◌, ◌&&◌, ℕ, Bool, true, false, not, Some, is_some, IsSome, List, [], ◌∷◌, length, refl, sym, ap, ◌∙◌, if◌then◌else◌}
use Rattle.std.specs.List.{AllByRecursion}
use Rattle.xif_base.specs.Params.{IsInRange}
use Rattle.inorder_machine.specs.declared.line.Stepped.TheVariants.{Stop}
use Rattle.inorder_machine.specs.declared.stop.StopCause.{StopCause}
use Rattle.inorder_machine.specs.Machine.{Extension, State, next_step, state_after}
use Rattle.cycle_spec.specs.Flight.{is_safe_kind, is_safe}
use Rattle.ahead_spec.specs.Walk.{Item, outcome, stepped, Walked, IsPath}
use Rattle.ahead_spec.specs.World.{World, Event, run, begun}
use Rattle.ahead_spec.specs.Guards.{MayRun}
use Rattle.ahead_spec.specs.Pairs.{Pairs}
use Rattle.ahead_spec.specs.Refines.{stop_in, Refines}
use Rattle.ahead_spec.specs.Invariant.{Agrees, InOrder, is_waiting_use, units_at, RunsAhead}
use Rattle.ahead_laws.proofs.Lists.{all-both, not_some, none_unless}
use Rattle.ahead_laws.proofs.Walks.{walked-each}
use Rattle.ahead_laws.proofs.Uses.{IsIdle, units_at-idle}
use Rattle.ahead_laws.proofs.Retiring.{next-is, keeps_all, runs-begun}

stays : (x : Extension) (now : State) (y : Item) (c : StopCause) → outcome x now y.entry.pc y.entry.kind y.entry.word ≡ Stop c → stepped x now y.entry.pc y.entry.kind y.entry.word ≡ now
unfolding stepped
stays x now y c e = ap (state_after x now) e

-- behind an instruction that stops the machine no result is computed
behind-stop : (y : Item) (ys : List Item) (c : StopCause) → y.entry.stop ≡ Some c → AllByRecursion (InOrder y) ys → AllByRecursion (λ z. IsSome z.result → z.entry.released ≡ true) ys → AllByRecursion IsIdle ys
behind-stop y ys c e order when =
    all-both (InOrder y) (λ z. IsSome z.result → z.entry.released ≡ true) IsIdle ys (λ z o k. none_unless z.result (λ h. no (sym unsafe ∙ o.safe (k h)))) order when
  where
    unsafe : is_safe y.entry ≡ false
    unsafe = ap (λ o. not (is_some o) && is_safe_kind y.entry.kind y.entry) e

    no : false ≡ true → ⊥
    no h = cc

stopped-units : (x : Extension) (now : State) (y : Item) (ys : List Item) (c : StopCause) → y.entry.stop ≡ Some c → Walked x (Agrees x now.memory) now (y ∷ ys) → Pairs InOrder (y ∷ ys) → units_at x now (y ∷ ys) ≡ now.units
stopped-units x now y ys c e g o =
    let behind = stepped x now y.entry.pc y.entry.kind y.entry.word in
    let still = stays x now y c (g.0.stop_is c e) in
    let idle = behind-stop y ys c e o.0 (walked-each x (Agrees x now.memory) (λ z. IsSome z.result → z.entry.released ≡ true) ys behind (λ t z a. a.result_when) g.1) in
    go (is_waiting_use x y) (units_at-idle x now.memory ys behind g.1 idle ∙ ap (λ s. s.units) still)
  where
    go : (b : Bool) → units_at x (stepped x now y.entry.pc y.entry.kind y.entry.word) ys ≡ now.units → (if b then now.units else units_at x (stepped x now y.entry.pc y.entry.kind y.entry.word) ys) ≡ now.units
    go true h = refl
    go false h = h

stops-there : (x : Extension) (now : State) (ys : List Item) (units : List (List ℕ)) (c : StopCause) → IsPath now.pc ys → Walked x (Agrees x now.memory) now ys → Pairs InOrder ys → units ≡ units_at x now ys → stop_in ys ≡ Some c
    → (next_step x now ≡ Stop c) × (units ≡ now.units)
stops-there x now [] units c p g o u e = absurd (not_some c e)
stops-there x now (y ∷ ys) units c p g o u e = (next-is x now y p.0 g.0 ∙ g.0.stop_is c e, u ∙ stopped-units x now y ys c e g o)

pub refines : (x : Extension) (start : State) (w : World) → RunsAhead x start w → Refines x start w
refines x start w r = record {
  now = r.now;
  arrived = r.arrived;
  lines_are = r.lines_are;
  pc_is = r.pc_is;
  registers_are = r.registers_are;
  memory_is = r.memory_is;
  units_are = λ e. r.units_are ∙ ap (units_at x r.now) e;
  stops = λ c e. stops-there x r.now w.flight w.units c r.path r.agree r.in_order r.units_are e;
}

pub events-refine : (x : Extension) (start : State) (es : List Event) → IsInRange x.params → length start.registers ≡ 32 → MayRun x (begun start) es → Refines x start (run x (begun start) es)
events-refine x start es range n m = refines x start (run x (begun start) es) (keeps_all x start es (begun start) range m (runs-begun x start n))
