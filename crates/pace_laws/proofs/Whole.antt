-- Whole runs: how many cycles they take for what they retire, and that a drain is empty in time.
use Rattle.std.proofs.Common.{◌≡◌, ◌<◌, ◌≤◌, ◌||◌, ◌+◌, ◌*◌, ◌/◌, ◌⊎◌, inl, inr, ℕ, zero, suc, Bool, true, false, cond, List, [], ◌∷◌, length, Option, Some, None, refl, sym, ap, ◌∙◌, subst, arith}
use Rattle.std.specs.Prelude.{is_some, reverse}
use Rattle.std.specs.Option.{option_or, option_map}
use Rattle.std.specs.List.{filter_map}
use Rattle.std.proofs.lemmas.Bool.{false≢true, true≢false}
use Rattle.std.proofs.lemmas.List.{length-append, length-reverse, reverse-append}
use Rattle.std.proofs.lemmas.List.Elements.{filter_map-append}
use Rattle.std.proofs.Math.Nat.{add-mul, one-mul, suc-mul, mul-le-mul_right, div-lt_iff_lt-mul}
use Rattle.inorder_machine.specs.declared.stop.StopCause.{StopCause}
use Rattle.xif_drive.specs.Scripts.{largest_of}
use Rattle.cycle_spec.specs.declared.choices.Mode.{Mode}
use Rattle.cycle_spec.specs.declared.choices.Mode.TheVariants.{Running, DrainBegins, Draining}
use Rattle.cycle_spec.specs.declared.entry.Entry.{Entry}
use Rattle.cycle_spec.specs.declared.log.CycleLog.{CycleLog}
use Rattle.cycle_spec.specs.declared.log.End.TheVariants.{Stopped, Budget}
use Rattle.cycle_spec.specs.State.{Core}
use Rattle.cycle_spec.specs.Choices.{choices}
use Rattle.cycle_spec.specs.Core.{line_of, mode_after}
use Rattle.cycle_spec.specs.Cycle.{Machines, cycle, log_at}
use Rattle.cycle_spec.specs.Run.{Setup, Meaning, Progress, start, next, unless, cycles_until, is_stopped, has_no_entry, is_empty, drain_limit, with_drain, drained, progress_of, end_by, run_of}
use Rattle.cycle_paired.specs.Paired.{Paired}
use Rattle.cycle_paired.proofs.Always.{start-paired, drain-paired}
use Rattle.cycle_paired.proofs.Closing.{cycle-paired}
use Rattle.pace_laws.specs.Measure.{measure}
use Rattle.pace_laws.specs.Lawful.{IsLawful, pace_of}
use Rattle.pace_laws.proofs.Keeping.{Steady, steady-cycle, steady-start, steady-drain}
use Rattle.pace_laws.proofs.Falling.{measure-bound}
use Rattle.pace_laws.proofs.Goes.{cycle-is, running-goes, Drained, draining-goes, drain-on}

-- ---- retirements

abbrev retired_in : List CycleLog → ℕ
retired_in logs = length (filter_map (λ line. line.retired) logs)

retired-more : (l : CycleLog) (logs : List CycleLog) → retired_in (l ∷ logs) ≡ retired_in (l ∷ []) + retired_in logs
retired-more l logs = ap length (filter_map-append (λ line. line.retired) (l ∷ []) logs) ∙ length-append (filter_map (λ line. line.retired) (l ∷ [])) (filter_map (λ line. line.retired) logs)

retired-one : (l : CycleLog) (o : Option Entry) → l.retired ≡ option_map line_of o → retired_in (l ∷ []) ≡ cond (is_some o) 1 0
retired-one l o h = ap (λ r. retired_in ((record l { retired = r }) ∷ [])) h ∙ by o
  where
    by : (o : Option Entry) → retired_in ((record l { retired = option_map line_of o }) ∷ []) ≡ cond (is_some o) 1 0
    by None = refl
    by (Some e) = refl

retired-reverse : (logs : List CycleLog) → retired_in (reverse logs) ≡ retired_in logs
retired-reverse [] = refl
retired-reverse (l ∷ logs) =
    ap retired_in (reverse-append (l ∷ []) logs)
    ∙ ap length (filter_map-append (λ line. line.retired) (reverse logs) (l ∷ []))
    ∙ length-append (filter_map (λ line. line.retired) (reverse logs)) (filter_map (λ line. line.retired) (l ∷ []))
    ∙ sums (retired_in (reverse logs)) (retired_in logs) (retired_in (l ∷ [])) (retired-reverse logs)
    ∙ sym (retired-more l logs)
  where
    sums : (a b c : ℕ) → a ≡ b → a + c ≡ c + b
    sums a b c h = omega (arith, h)

-- ---- a run that goes on

abbrev bound : ℕ → ℕ
bound d = 8 * d + 40

-- before a stop: what is left and the cycles so far are at most a first instruction, and a bound
-- for each that retired
record Going (d : ℕ) {P : Type 0} (p : Progress P) : Type 0 where
  paired : Paired 0 p.machines
  steady : Steady d p.machines
  runs : p.machines.core.mode ≡ Running
  unstopped : p.machines.core.stopped ≡ None
  count : length p.buses + measure d p.machines ≤ 7 * d + 7 + retired_in p.logs * bound d

record Ended (d : ℕ) {P : Type 0} (p : Progress P) : Type 0 where
  stopped : is_stopped p.machines.core ≡ true
  count : length p.buses ≤ (retired_in p.logs + 1) * bound d

-- the state of the core after a cycle
stopped-after : (P : Type 0) (meaning : Meaning P) (p : Progress P) → (next meaning p).machines.core.stopped ≡ option_or (choices p.machines.core).stop p.machines.core.stopped
stopped-after P meaning p = ap (λ m. m.core.stopped) (cycle-is p.machines (meaning.answer p.predictor))

mode-then : (P : Type 0) (meaning : Meaning P) (p : Progress P) → (next meaning p).machines.core.mode ≡ mode_after p.machines.core.mode
mode-then P meaning p = ap (λ m. m.core.mode) (cycle-is p.machines (meaning.answer p.predictor))

retired-next : (P : Type 0) (meaning : Meaning P) (p : Progress P) → retired_in (next meaning p).logs ≡ cond (is_some (choices p.machines.core).retire) 1 0 + retired_in p.logs
retired-next P meaning p =
    let l = log_at p.machines (meaning.answer p.predictor) in
    retired-more l p.logs ∙ ap (λ n. n + retired_in p.logs) (retired-one l (choices p.machines.core).retire refl)

one-times : (n k : ℕ) → (n + 1) * k ≡ n * k + k
one-times n k = add-mul n 1 k ∙ ap (λ x. n * k + x) (one-mul k)

more-times : (t : Bool) (n k : ℕ) → (cond t 1 0 + n) * k ≡ cond t k 0 + n * k
more-times true n k = add-mul 1 n k ∙ ap (λ x. x + n * k) (one-mul k)
more-times false n k = zeros n k
  where
    zeros : (n k : ℕ) → (0 + n) * k ≡ 0 + n * k
    zeros n k = ap (λ x. x * k) (plus n) ∙ sym (plus (n * k))
      where
        plus : (n : ℕ) → 0 + n ≡ n
        plus n = omega arith

-- one cycle more
count-more : (d n m m' x : ℕ) (t : Bool) → (t ≡ true) ⊎ (m' < m) → m' ≤ 7 * d + 7 → n + m ≤ 7 * d + 7 + x → suc n + m' ≤ 7 * d + 7 + (cond t (8 * d + 40) 0 + x)
count-more d n m m' x true h b c = omega (arith, b, c)
count-more d n m m' x false (inl h) b c = absurd (false≢true h)
count-more d n m m' x false (inr h) b c = omega (arith, h, c)

going-next : (d : ℕ) (P : Type 0) (meaning : Meaning P) (p : Progress P) → Going d p → (choices p.machines.core).stop ≡ None → Going d (next meaning p)
going-next d P meaning p g z =
    let answer = meaning.answer p.predictor in
    let m = p.machines in
    let ch = choices p.machines.core in
    let steady : Steady d (cycle m 0 answer) = steady-cycle d answer m g.paired z g.steady in
    record {
      paired = cycle-paired 0 m answer g.paired z;
      steady = steady;
      runs = mode-then P meaning p ∙ ap mode_after g.runs;
      unstopped = stopped-after P meaning p ∙ ap (λ o. option_or o p.machines.core.stopped) z ∙ g.unstopped;
      count = subst (λ k. length (next meaning p).buses + measure d (cycle m 0 answer) ≤ 7 * d + 7 + k * bound d) (sym (retired-next P meaning p))
          (subst (λ k. length (next meaning p).buses + measure d (cycle m 0 answer) ≤ 7 * d + 7 + k) (sym (more-times (is_some ch.retire) (retired_in p.logs) (bound d)))
          (count-more d (length p.buses) (measure d m) (measure d (cycle m 0 answer)) (retired_in p.logs * bound d) (is_some ch.retire) (running-goes d answer m g.paired g.steady g.runs z) (measure-bound d (cycle m 0 answer) steady) g.count));
    }

ended-next : (d : ℕ) (P : Type 0) (meaning : Meaning P) (p : Progress P) (cause : StopCause) → Going d p → (choices p.machines.core).stop ≡ Some cause → Ended d (next meaning p)
ended-next d P meaning p cause g z = record {
  stopped = ap is_some (stopped-after P meaning p ∙ ap (λ o. option_or o p.machines.core.stopped) z);
  count =
      subst (λ k. suc (length p.buses) ≤ (k + 1) * bound d) (sym (retired-next P meaning p))
      (subst (λ k. suc (length p.buses) ≤ k) (sym (one-times (cond (is_some (choices p.machines.core).retire) 1 0 + retired_in p.logs) (bound d)))
      (subst (λ k. suc (length p.buses) ≤ k + bound d) (sym (more-times (is_some (choices p.machines.core).retire) (retired_in p.logs) (bound d)))
      (last (length p.buses) (measure d p.machines) (retired_in p.logs * bound d) (cond (is_some (choices p.machines.core).retire) (bound d) 0) g.count)));
}
  where
    last : (n m x y : ℕ) → n + m ≤ 7 * d + 7 + x → suc n ≤ y + x + (8 * d + 40)
    last n m x y h = omega (arith, h)

data Phase (d n : ℕ) {P : Type 0} (p : Progress P) : Type 0 where
  GoesOn : Going d p → length p.buses ≡ n → Phase d n p
  Stops : Ended d p → Phase d n p

-- up to a stop or the budget
first-phase : (d : ℕ) (P : Type 0) (meaning : Meaning P) (n k : ℕ) (p : Progress P) → Phase d k p → Phase d (k + n) (cycles_until meaning is_stopped n p)
first-phase d P meaning zero k p (GoesOn g l) = GoesOn g (l ∙ plus k)
  where
    plus : (n : ℕ) → n ≡ n + 0
    plus n = omega arith
first-phase d P meaning zero k p (Stops e) = Stops e
first-phase d P meaning (suc n) k p (Stops e) = subst (λ t. Phase d (k + suc n) (unless t p (λ q. cycles_until meaning is_stopped n (next meaning q)))) (sym e.stopped) (Stops e)
first-phase d P meaning (suc n) k p (GoesOn g l) =
    subst (λ t. Phase d (k + suc n) (unless t p (λ q. cycles_until meaning is_stopped n (next meaning q)))) (sym (ap is_some g.unstopped))
    (subst (λ x. Phase d x (cycles_until meaning is_stopped n (next meaning p))) (moved k n) (first-phase d P meaning n (k + 1) (next meaning p) (by (choices p.machines.core).stop refl)))
  where
    moved : (k n : ℕ) → k + 1 + n ≡ k + suc n
    moved k n = omega arith

    longer : (a b : ℕ) → a ≡ b → suc a ≡ b + 1
    longer a b h = omega (arith, h)

    by : (o : Option StopCause) → (choices p.machines.core).stop ≡ o → Phase d (k + 1) (next meaning p)
    by None z = GoesOn (going-next d P meaning p g z) (longer (length p.buses) k l)
    by (Some cause) z = Stops (ended-next d P meaning p cause g z)

-- ---- a drain

-- what a drain may take yet
abbrev left_of : (d : ℕ) → Machines → List Entry → ℕ
left_of d m [] = 0
left_of d m (e ∷ es) = length es * bound d + (measure d m + 1)

abbrev left : (d : ℕ) → Machines → ℕ
left d m = left_of d m m.core.flight

left-bound : (d : ℕ) (m : Machines) → measure d m ≤ 7 * d + 7 → left d m ≤ length m.core.flight * bound d
left-bound d m h = by m.core.flight
  where
    by : (l : List Entry) → left_of d m l ≤ length l * bound d
    by [] = omega arith
    by (e ∷ es) = let s = suc-mul (length es) (bound d) in sum (length es * bound d) (length (e ∷ es) * bound d) (measure d m) s h
      where
        sum : (x y k : ℕ) → y ≡ x + (8 * d + 40) → k ≤ 7 * d + 7 → x + (k + 1) ≤ y
        sum x y k p q = omega (arith, p, q)

left-falls : (d : ℕ) (m n : Machines) → Drained d m n → has_no_entry m.core.flight ≡ false → measure d n ≤ 7 * d + 7 → left d n < left d m
left-falls d m n h some b = by m.core.flight n.core.flight some h.fewer h.goes
  where
    by : (k l : List Entry) → has_no_entry k ≡ false → length l ≤ length k → (length l < length k) ⊎ (measure d n < measure d m) → left_of d n l < left_of d m k
    by [] l s t g = absurd (true≢false s)
    by (e ∷ es) [] s t g = more (length es * bound d) (measure d m)
      where
        more : (x y : ℕ) → 0 < x + (y + 1)
        more x y = omega arith
    by (e ∷ es) (f ∷ fs) s t (inl g) =
        let p : suc (length fs) * bound d ≤ length es * bound d = mul-le-mul_right (bound d) (less (length fs) (length es) g) in
        let q = suc-mul (length fs) (bound d) in
        fewer (suc (length fs) * bound d) (length fs * bound d) (length es * bound d) p q
      where
        less : (a b : ℕ) → suc a < suc b → suc a ≤ b
        less a b h = omega arith

        fewer : (x y z : ℕ) → x ≤ z → x ≡ y + (8 * d + 40) → y + (measure d n + 1) < z + (measure d m + 1)
        fewer x y z p q = omega (arith, p, q, b)
    by (e ∷ es) (f ∷ fs) s t (inr g) =
        let p : length fs * bound d ≤ length es * bound d = mul-le-mul_right (bound d) (less (length fs) (length es) t) in
        lower (length fs * bound d) (length es * bound d) p
      where
        less : (a b : ℕ) → suc a ≤ suc b → a ≤ b
        less a b h = omega arith

        lower : (y z : ℕ) → y ≤ z → y + (measure d n + 1) < z + (measure d m + 1)
        lower y z p = omega (arith, p, g)

-- a drain, with so many instructions retired so far at least
record Drains (d n : ℕ) {P : Type 0} (p : Progress P) : Type 0 where
  paired : Paired 0 p.machines
  steady : Steady d p.machines
  drains : p.machines.core.mode ≡ Running → ⊥
  unstopped : p.machines.core.stopped ≡ None
  least : n ≤ retired_in p.logs

mode-drains : (mode : Mode) → (mode ≡ Running → ⊥) → mode_after mode ≡ Running → ⊥
mode-drains Running h q = h refl
mode-drains DrainBegins h q = cc
mode-drains Draining h q = cc

drains-next : (d n : ℕ) (P : Type 0) (meaning : Meaning P) (p : Progress P) → Drains d n p → Drains d n (next meaning p)
drains-next d n P meaning p g =
    let answer = meaning.answer p.predictor in
    let m = p.machines in
    let z = drain-on m.core m.core.mode refl g.drains in
    record {
      paired = cycle-paired 0 m answer g.paired z;
      steady = steady-cycle d answer m g.paired z g.steady;
      drains = λ q. mode-drains m.core.mode g.drains (sym (mode-then P meaning p) ∙ q);
      unstopped = stopped-after P meaning p ∙ ap (λ o. option_or o p.machines.core.stopped) z ∙ g.unstopped;
      least = more (cond (is_some (choices m.core).retire) 1 0) (retired_in p.logs) (retired_in (next meaning p).logs) (retired-next P meaning p) g.least;
    }
  where
    more : (a b c : ℕ) → c ≡ a + b → n ≤ b → n ≤ c
    more a b c h k = omega (arith, h, k)

record Empty (d n : ℕ) {P : Type 0} (p : Progress P) : Type 0 where
  drained : Drains d n p
  empty : is_empty p.machines.core ≡ true

drain-phase : (d n : ℕ) (P : Type 0) (meaning : Meaning P) (k : ℕ) (p : Progress P) → Drains d n p → left d p.machines ≤ k → Empty d n (cycles_until meaning is_empty k p)
drain-phase d n P meaning zero p g l = record { drained = g; empty = by p.machines.core.flight l }
  where
    by : (es : List Entry) → left_of d p.machines es ≤ 0 → has_no_entry es ≡ true
    by [] h = refl
    by (e ∷ es) h = absurd (none (length es * bound d) (measure d p.machines) h)
      where
        none : (x y : ℕ) → x + (y + 1) ≤ 0 → ⊥
        none x y h = omega (arith, h)
drain-phase d n P meaning (suc k) p g l = by (is_empty p.machines.core) refl (λ h. drain-phase d n P meaning k (next meaning p) (drains-next d n P meaning p g) h)
  where
    step : has_no_entry p.machines.core.flight ≡ false → left d (next meaning p).machines ≤ k
    step s = one p.machines.core.flight refl s
      where
        answer : ℕ → ℕ → ℕ
        answer = meaning.answer p.predictor

        less : (a b : ℕ) → a < b → b ≤ suc k → a ≤ k
        less a b h q = omega arith

        one : (es : List Entry) → p.machines.core.flight ≡ es → has_no_entry es ≡ false → left d (next meaning p).machines ≤ k
        one [] f s = absurd (true≢false s)
        one (e ∷ es) f s =
            let z = drain-on p.machines.core p.machines.core.mode refl g.drains in
            let h = draining-goes d answer p.machines e es g.paired g.steady g.drains f in
            less (left d (next meaning p).machines) (left d p.machines) (left-falls d p.machines (next meaning p).machines h (ap has_no_entry f) (measure-bound d (next meaning p).machines (steady-cycle d answer p.machines g.paired z g.steady))) l

    by : (t : Bool) → is_empty p.machines.core ≡ t → (left d (next meaning p).machines ≤ k → Empty d n (cycles_until meaning is_empty k (next meaning p))) → Empty d n (unless t p (λ q. cycles_until meaning is_empty k (next meaning q)))
    by true q ih = record { drained = g; empty = q }
    by false q ih = ih (step q)

-- ---- whole runs

-- what a run leaves
record Final (d budget : ℕ) {P : Type 0} (p : Progress P) : Type 0 where
  over : (is_stopped p.machines.core || is_empty p.machines.core) ≡ true
  budget_is : p.machines.core.stopped ≡ None → budget / bound d ≤ retired_in p.logs
  stop_is : is_stopped p.machines.core ≡ true → length p.buses ≤ (retired_in p.logs + 1) * bound d

enough : (d n r k : ℕ) → k < (r + 1) * bound d → n ≡ k → n / bound d ≤ r
enough d n r k h q =
    let l : n / bound d < r + 1 = (div-lt_iff_lt-mul {k = bound d} {x = n} {y = r + 1} (omega arith)).1 (subst (λ x. x < (r + 1) * bound d) (sym q) h) in
    under (n / bound d) l
  where
    under : (a : ℕ) → a < r + 1 → a ≤ r
    under a h = omega arith

none-stopped : (w : Core) → w.stopped ≡ None → is_stopped w ≡ true → ⊥
none-stopped w h q = true≢false (sym q ∙ ap is_some h)

finish : (P : Type 0) (meaning : Meaning P) (s : Setup) (p : Progress P) → p.machines.core.window ≡ s.window → Phase (largest_of s.script) s.budget p → Final (largest_of s.script) s.budget (drained meaning (drain_limit s) p)
finish P meaning s p w (Stops e) =
    subst (λ t. Final (largest_of s.script) s.budget (unless (t || is_empty p.machines.core) p (λ q. cycles_until meaning is_empty (drain_limit s) (with_drain q)))) (sym e.stopped)
    (record { over = ap (λ t. t || is_empty p.machines.core) e.stopped; budget_is = λ h. absurd (none-stopped p.machines.core h e.stopped); stop_is = λ h. e.count })
finish P meaning s p w (GoesOn g l) =
    subst (λ t. Final d s.budget (unless (t || is_empty p.machines.core) p (λ q. cycles_until meaning is_empty (drain_limit s) (with_drain q)))) (sym (ap is_some g.unstopped)) (by (is_empty p.machines.core) refl)
  where
    d : ℕ
    d = largest_of s.script

    pace : s.budget / bound d ≤ retired_in p.logs
    pace = enough d s.budget (retired_in p.logs) (length p.buses) (subst (λ k. length p.buses < k) (sym (one-times (retired_in p.logs) (bound d))) (under (length p.buses) (measure d p.machines) (retired_in p.logs * bound d) g.count)) (sym l)
      where
        under : (n m x : ℕ) → n + m ≤ 7 * d + 7 + x → n < x + (8 * d + 40)
        under n m x h = omega (arith, h)

    begun : Drains d (retired_in p.logs) (with_drain p)
    begun = record { paired = drain-paired 0 p.machines g.paired; steady = steady-drain d p.machines g.steady; drains = λ q. cc; unstopped = g.unstopped; least = self (retired_in p.logs) }
      where
        self : (a : ℕ) → a ≤ a
        self a = omega arith

    room : left d (with_drain p).machines ≤ drain_limit s
    room =
        let a = left-bound d (with_drain p).machines (measure-bound d (with_drain p).machines begun.steady) in
        let b : length p.machines.core.flight * bound d ≤ s.window * bound d = mul-le-mul_right (bound d) (subst (λ k. length p.machines.core.flight ≤ k) w g.steady.room) in
        upto (left d (with_drain p).machines) (length p.machines.core.flight * bound d) (s.window * bound d) a b
      where
        upto : (a b c : ℕ) → a ≤ b → b ≤ c → a ≤ c
        upto a b c h k = omega arith

    by : (t : Bool) → is_empty p.machines.core ≡ t → Final d s.budget (unless t p (λ q. cycles_until meaning is_empty (drain_limit s) (with_drain q)))
    by true q = record { over = ap (λ t. is_stopped p.machines.core || t) q ∙ ors (is_stopped p.machines.core); budget_is = λ h. pace; stop_is = λ h. absurd (none-stopped p.machines.core g.unstopped h) }
      where
        ors : (t : Bool) → (t || true) ≡ true
        ors true = refl
        ors false = refl
    by false q =
        let e = drain-phase d (retired_in p.logs) P meaning (drain_limit s) (with_drain p) begun room in
        let n = cycles_until meaning is_empty (drain_limit s) (with_drain p) in
        record {
          over = ap (λ t. is_stopped n.machines.core || t) e.empty ∙ ors (is_stopped n.machines.core);
          budget_is = λ h. upto (s.budget / bound d) (retired_in p.logs) (retired_in n.logs) pace e.drained.least;
          stop_is = λ h. absurd (none-stopped n.machines.core e.drained.unstopped h);
        }
      where
        ors : (t : Bool) → (t || true) ≡ true
        ors true = refl
        ors false = refl

        upto : (a b c : ℕ) → a ≤ b → b ≤ c → a ≤ c
        upto a b c h k = omega arith

-- ---- from the start on

window-next : (P : Type 0) (meaning : Meaning P) (p : Progress P) → (next meaning p).machines.core.window ≡ p.machines.core.window
window-next P meaning p = ap (λ m. m.core.window) (cycle-is p.machines (meaning.answer p.predictor))

window-kept : (P : Type 0) (meaning : Meaning P) (test : Core → Bool) (n : ℕ) (p : Progress P) → (cycles_until meaning test n p).machines.core.window ≡ p.machines.core.window
window-kept P meaning test zero p = refl
window-kept P meaning test (suc n) p = by (test p.machines.core) (window-kept P meaning test n (next meaning p))
  where
    by : (t : Bool) → (cycles_until meaning test n (next meaning p)).machines.core.window ≡ (next meaning p).machines.core.window → (unless t p (λ q. cycles_until meaning test n (next meaning q))).machines.core.window ≡ p.machines.core.window
    by true ih = refl
    by false ih = ih ∙ window-next P meaning p

final : (P : Type 0) (meaning : Meaning P) (s : Setup) (predictor : P) → IsLawful s → Final (largest_of s.script) s.budget (progress_of meaning s predictor)
final P meaning s predictor ok =
    finish P meaning s (cycles_until meaning is_stopped s.budget (start s predictor)) (window-kept P meaning is_stopped s.budget (start s predictor))
    (subst (λ k. Phase (largest_of s.script) k (cycles_until meaning is_stopped s.budget (start s predictor))) (plus s.budget) (first-phase (largest_of s.script) P meaning s.budget 0 (start s predictor) (GoesOn begun refl)))
  where
    plus : (n : ℕ) → 0 + n ≡ n
    plus n = omega arith

    begun : Going (largest_of s.script) (start s predictor)
    begun = record { paired = start-paired 0 s; steady = steady-start s ok.window ok.harts; runs = refl; unstopped = refl; count = omega arith }

-- ---- the laws

pub drain-empty : (P : Type 0) (meaning : Meaning P) (s : Setup) (predictor : P) → IsLawful s → (is_stopped (progress_of meaning s predictor).machines.core || is_empty (progress_of meaning s predictor).machines.core) ≡ true
drain-empty P meaning s predictor ok = (final P meaning s predictor ok).over

ends-by : (o : Option StopCause) → end_by o ≡ Budget → o ≡ None
ends-by None h = refl
ends-by (Some cause) h = cc

stops-by : (o : Option StopCause) (cause : StopCause) → end_by o ≡ Stopped cause → is_some o ≡ true
stops-by None cause h = cc
stops-by (Some c) cause h = refl

pub by-budget : (P : Type 0) (meaning : Meaning P) (s : Setup) (predictor : P) → IsLawful s → (run_of meaning s predictor).end ≡ Budget → s.budget / pace_of s ≤ length (run_of meaning s predictor).retired
by-budget P meaning s predictor ok h =
    let p = progress_of meaning s predictor in
    subst (λ k. s.budget / pace_of s ≤ k) (sym (retired-reverse p.logs)) ((final P meaning s predictor ok).budget_is (ends-by p.machines.core.stopped h))

pub by-stop : (P : Type 0) (meaning : Meaning P) (s : Setup) (predictor : P) (cause : StopCause) → IsLawful s → (run_of meaning s predictor).end ≡ Stopped cause → length (run_of meaning s predictor).buses ≤ (length (run_of meaning s predictor).retired + 1) * pace_of s
by-stop P meaning s predictor cause ok h =
    let p = progress_of meaning s predictor in
    subst (λ k. length (reverse p.buses) ≤ (k + 1) * pace_of s) (sym (retired-reverse p.logs)) (subst (λ k. k ≤ (retired_in p.logs + 1) * pace_of s) (sym (length-reverse p.buses)) ((final P meaning s predictor ok).stop_is (stops-by p.machines.core.stopped cause h)))
