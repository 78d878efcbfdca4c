-- A retirement keeps what holds of the machine that runs ahead; so do any events.
use Rattle.std.proofs.Common.{◌≡◌, ℕ, suc, true, false, Option, Some, None, is_some, is_none, List, [], ◌∷◌, ◌++◌, length, refl, sym, ap, subst, ◌∙◌, if◌then◌else◌}
use Rattle.std.specs.List.{AllByRecursion}
use Rattle.std.specs.Option.{option_and_then}
use Rattle.xif_base.specs.Params.{IsInRange}
use Rattle.xif_image.specs.Region.{Region, word_at}
use Rattle.inorder_machine.specs.declared.line.Retire.{Retire}
use Rattle.inorder_machine.specs.declared.line.Stepped.TheVariants.{Retired}
use Rattle.inorder_machine.specs.Machine.{Extension, State, registers_after, memory_after, taken, state_after, next_step, fetched_outcome}
use Rattle.inorder_machine.specs.After.{next_state, after, state_if_retired}
use Rattle.cycle_spec.specs.Flight.{is_unknown, kind_at}
use Rattle.cycle_spec.specs.Core.{word_of, line_of}
use Rattle.ahead_spec.specs.Walk.{Item, outcome_of_word, outcome, stepped, Walked, IsPath}
use Rattle.ahead_spec.specs.Operands.{word_hit}
use Rattle.ahead_spec.specs.World.{World, Event, Dispatches, Executes, Halts, Answers, Sends, Releases, Applies, Finishes, Drops, Retires, happens, run, begun}
use Rattle.ahead_spec.specs.Guards.{MayRetire, May, MayRun}
use Rattle.ahead_spec.specs.Pairs.{Pairs}
use Rattle.ahead_spec.specs.Refines.{line_in, line_from, lines}
use Rattle.ahead_spec.specs.Invariant.{Agrees, InOrder, is_use, is_waiting_use, units_at, RunsAhead}
use Rattle.ahead_laws.proofs.Lists.{and_left, and_right, false_or}
use Rattle.ahead_laws.proofs.Views.{stepped-count}
use Rattle.ahead_laws.proofs.Outcomes.{word_of-at}
use Rattle.ahead_laws.proofs.Agreeing.{agrees-memory}
use Rattle.ahead_laws.proofs.Keeping.{keeps-dispatch, keeps-execute, keeps-halt, keeps-answer, keeps-send, keeps-finish, keeps-drop}
use Rattle.ahead_laws.proofs.Releasing.{keeps-release, keeps-apply}

walked-memory : (x : Extension) (memory other : Region) (ys : List Item) (s : State) → AllByRecursion (λ y. word_at other y.entry.pc ≡ word_at memory y.entry.pc) ys → Walked x (Agrees x memory) s ys → Walked x (Agrees x other) s ys
walked-memory x memory other [] s h g = tt
walked-memory x memory other (y ∷ ys) s h g =
    (agrees-memory x memory other s y h.0 g.0, walked-memory x memory other ys (stepped x s y.entry.pc y.entry.kind y.entry.word) h.1 g.1)

-- a done instruction is no use whose result isn't computed
done-passed : (x : Extension) (memory : Region) (s : State) (y : Item) → Agrees x memory s y → y.entry.done ≡ true → is_waiting_use x y ≡ false
done-passed x memory s y g d = false_or (is_waiting_use x y) (λ h.
    no y.result (and_right (is_use x y.entry.kind y.entry.word) (is_none y.result) h)
    (g.done_when d (and_left (is_unknown y.entry) (is_some (word_hit x y.entry.word)) (and_left (is_use x y.entry.kind y.entry.word) (is_none y.result) h))))
  where
    no : (o : Option ℕ) → is_none o ≡ true → is_some o ≡ true → ⊥
    no None n h = cc
    no (Some v) n h = cc

fetched-same : (x : Extension) (s : State) (o : Option ℕ) → fetched_outcome x s o ≡ outcome_of_word x s s.pc o
fetched-same x s None = refl
fetched-same x s (Some word) = refl

-- the oldest instruction in flight is the next one of the in-order machine
pub next-is : (x : Extension) (now : State) (y : Item) → y.entry.pc ≡ now.pc → Agrees x now.memory now y → next_step x now ≡ outcome x now y.entry.pc y.entry.kind y.entry.word
unfolding outcome
next-is x now y p g =
    let there = word_at now.memory y.entry.pc in
    let word : word_of y.entry.kind y.entry.word ≡ there = ap (λ k. word_of k y.entry.word) g.kind_is ∙ ap (word_of (kind_at there)) g.word_is ∙ word_of-at there in
    fetched-same x now (word_at now.memory now.pc)
    ∙ ap (λ pc. outcome_of_word x now pc (word_at now.memory pc)) (sym p)
    ∙ ap (outcome_of_word x now y.entry.pc) (sym word)

step-is : (x : Extension) (now : State) (y : Item) (l : Retire) → outcome x now y.entry.pc y.entry.kind y.entry.word ≡ Retired l → stepped x now y.entry.pc y.entry.kind y.entry.word ≡ taken x now l
unfolding stepped
step-is x now y l e = ap (state_after x now) e

pub keeps-retire : (x : Extension) (start : State) (w : World) (y : Item) (younger : List Item) → MayRetire w y younger → RunsAhead x start w → RunsAhead x start (happens x w (Retires y younger))
keeps-retire x start w y younger m r =
    let path : IsPath r.now.pc (y ∷ younger) = subst (IsPath r.now.pc) m.here r.path in
    let agree : Walked x (Agrees x r.now.memory) r.now (y ∷ younger) = subst (Walked x (Agrees x r.now.memory) r.now) m.here r.agree in
    let order : Pairs InOrder (y ∷ younger) = subst (Pairs InOrder) m.here r.in_order in
    let g = agree.0 in
    let l = line_of y.entry in
    let done = g.done_is m.done in
    let now = taken x r.now l in
    let next : next_step x r.now ≡ Retired l = next-is x r.now y path.0 g ∙ done in
    let step : stepped x r.now y.entry.pc y.entry.kind y.entry.word ≡ now = step-is x r.now y l done in
    let arrived : after x (suc (length w.retired)) start ≡ Some now = ap (option_and_then (next_state x)) r.arrived ∙ ap (state_if_retired x r.now) next in
    let more : lines x (suc (length w.retired)) start ≡ l ∷ lines x (length w.retired) start =
    ap (λ o. line_from x o ++ lines x (length w.retired) start) r.arrived ∙ ap (λ o. line_in o ++ lines x (length w.retired) start) next in
    let memory : memory_after w.memory y.entry.store ≡ now.memory = ap (λ q. memory_after q y.entry.store) r.memory_is in
    let same : AllByRecursion (λ z. word_at now.memory z.entry.pc ≡ word_at r.now.memory z.entry.pc) younger =
    subst (λ q. AllByRecursion (λ z. word_at (memory_after q y.entry.store) z.entry.pc ≡ word_at q z.entry.pc) younger) r.memory_is m.fetched in
    record {
      now = now;
      arrived = arrived;
      lines_are = ap (λ q. l ∷ q) r.lines_are ∙ sym more;
      pc_is = refl;
      registers_are = ap (λ q. registers_after q y.entry.write) r.registers_are;
      memory_is = memory;
      count = subst (λ s. length s.registers ≡ 32) step (stepped-count x r.now y.entry.pc y.entry.kind y.entry.word r.count);
      path = subst (λ n. IsPath n younger) (ap (λ b. if b then y.entry.next else y.entry.predicted) m.done) path.1;
      agree = walked-memory x r.now.memory now.memory younger now same (subst (λ s. Walked x (Agrees x r.now.memory) s younger) step agree.1);
      in_order = order.1;
      units_are = r.units_are ∙ ap (units_at x r.now) m.here
          ∙ ap (λ b. if b then r.now.units else units_at x (stepped x r.now y.entry.pc y.entry.kind y.entry.word) younger) (done-passed x r.now.memory r.now y g m.done)
          ∙ ap (λ s. units_at x s younger) step;
    }

-- ---- each event, and all of them

pub keeps : (x : Extension) (start : State) (w : World) (e : Event) → IsInRange x.params → May x w e → RunsAhead x start w → RunsAhead x start (happens x w e)
keeps x start w (Dispatches answer seq id) range m r = keeps-dispatch x start w answer seq id r
keeps x start w (Executes p line) range m r = keeps-execute x start w p line range m r
keeps x start w (Halts p cause) range m r = keeps-halt x start w p cause range m r
keeps x start w (Answers p) range m r = keeps-answer x start w p m r
keeps x start w (Sends p lanes) range m r = keeps-send x start w p lanes range m r
keeps x start w (Releases p) range m r = keeps-release x start w p m r
keeps x start w (Applies p lanes) range m r = keeps-apply x start w p lanes range m r
keeps x start w (Finishes p result) range m r = keeps-finish x start w p result m r
keeps x start w (Drops kept gone) range m r = keeps-drop x start w kept gone m r
keeps x start w (Retires y younger) range m r = keeps-retire x start w y younger m r

pub keeps_all : (x : Extension) (start : State) (es : List Event) (w : World) → IsInRange x.params → MayRun x w es → RunsAhead x start w → RunsAhead x start (run x w es)
keeps_all x start [] w range m r = r
keeps_all x start (e ∷ es) w range m r = keeps_all x start es (happens x w e) range m.1 (keeps x start w e range m.0 r)

pub runs-begun : (x : Extension) (start : State) → length start.registers ≡ 32 → RunsAhead x start (begun start)
runs-begun x start n = record {
  now = start;
  arrived = refl;
  lines_are = refl;
  pc_is = refl;
  registers_are = refl;
  memory_is = refl;
  count = n;
  path = tt;
  agree = tt;
  in_order = tt;
  units_are = refl;
}
