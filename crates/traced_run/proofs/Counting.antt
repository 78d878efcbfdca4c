-- Counting the cycles of a run, the newest first.
use Rattle.std.proofs.Common.{◌≡◌, ◌≤◌, ◌<◌, ◌+◌, ◌^◌, ℕ, suc, Bool, List, [], ◌∷◌, ◌++◌, reverse, length, Option, Some, None, true, refl, sym, ap, subst, ◌∙◌, append_assoc, append-nil, arith}
use Rattle.std.specs.Prelude.{is_some}
use Rattle.std.specs.List.{filter_map, flat_map, enumerate_from, cons_option}
use Rattle.std.proofs.lemmas.List.{length-reverse, reverse-append}
use Rattle.std.proofs.lemmas.List.Elements.{filter_map-append}
use Rattle.std.proofs.lemmas.Grind.{common_steps, flat_map-append}
use Rattle.xif_signals.specs.declared.bus.Bus.{Bus}
use Rattle.cycle_spec.specs.declared.log.CycleLog.{CycleLog}
use Rattle.cycle_spec.specs.Run.{Setup, Meaning, Run, run_after, run_of}
use Rattle.run_log.specs.Log.{cycle_text, text_from, text_of}
use Rattle.xif_sim.specs.Simulating.{Simulating, progress_at, is_over, Tells}
use Rattle.xif_sim.proofs.Extends.{whole-run}
use Rattle.traced_run.specs.declared.counts.Counts.{Counts}
use Rattle.traced_run.specs.Left.{IsAtEnd, counts_of, counted, one_if}
use Rattle.traced_run.specs.Telling.{IsSmall, IsCount}

-- ---- lists, the newest first

pub reverse-more : {A : Type 0} (x : A) (xs : List A) → reverse (x ∷ xs) ≡ reverse xs ++ x ∷ []
reverse-more x xs = reverse-append (x ∷ []) xs

-- one more, where there is something
more : {A : Type 0} (x : Option A) (xs : List A) → length (cons_option x xs) ≡ length xs + one_if (is_some x)
more None xs = omega arith
more (Some y) xs = omega arith

-- how many there are does not depend on their order
pub turned-count : {A B : Type 0} (h : A → Option B) (xs : List A) → length (filter_map h (reverse xs)) ≡ length (filter_map h xs)
turned-count h [] = refl
turned-count h (x ∷ xs) =
    let split : filter_map h (reverse xs ++ x ∷ []) ≡ filter_map h (reverse xs) ++ cons_option (h x) [] = filter_map-append h (reverse xs) (x ∷ []) in
    let both : length (filter_map h (reverse xs) ++ cons_option (h x) []) ≡ length (filter_map h (reverse xs)) + length (cons_option (h x) []) = grind (arith, common_steps) in
    let last : length (cons_option (h x) []) ≡ one_if (is_some (h x)) = omega (arith, more (h x) []) in
    let first = more (h x) (filter_map h xs) in
    let rest = turned-count h xs in
    ap (λ ys. length (filter_map h ys)) (reverse-more x xs) ∙ ap length split ∙ both ∙ ap (λ n. n + length (cons_option (h x) [])) rest
    ∙ ap (λ n. length (filter_map h xs) + n) last
    ∙ sym first

-- ---- counts

-- before any cycle
pub count-none : IsCount (record { cycles = 0; retired = 0; cuts = 0 }) [] []
count-none = record { cycles = refl; logs_too = refl; retired = refl; cuts = refl }

pub count-more : (c : Counts) (buses : List Bus) (logs : List CycleLog) (bus : Bus) (log : CycleLog) → IsCount c buses logs → IsCount (counted c log) (bus ∷ buses) (log ∷ logs)
count-more c buses logs bus log k = record {
  cycles = omega (arith, k.cycles);
  logs_too = omega (arith, k.logs_too);
  retired = ap (λ n. n + one_if (is_some log.retired)) k.retired ∙ sym (more log.retired (filter_map (λ l. l.retired) logs));
  cuts = ap (λ n. n + one_if (is_some log.cut)) k.cuts ∙ sym (more log.cut (filter_map (λ l. l.cut) logs));
}

one-small : (b : Bool) → one_if b ≤ 1
one-small b = grind arith

pub small-more : (c : Counts) (log : CycleLog) → c.cycles < 2 ^ 32 → IsSmall c (2 ^ 32) → IsSmall (counted c log) (2 ^ 32)
small-more c log room s =
    let one = one-small (is_some log.retired) in
    let other = one-small (is_some log.cut) in
    record {
      few = omega (arith, room);
      retired = omega (arith, s.retired, one);
      cuts = omega (arith, s.cuts, other);
    }

-- ---- the whole run

module _ {P : Type 0} (m : Meaning P) (setup : Setup) (first : P) (s : Simulating) (now : P) (buses : List Bus) (logs : List CycleLog) (over : is_over s ≡ true) (tells : Tells m setup first s now buses logs) where
  run-is : run_of m setup first ≡ run_after (progress_at s now buses logs)
  run-is = whole-run m setup first s now buses logs over tells

  pub at-end : IsAtEnd s (run_of m setup first)
  at-end = record {
    end = ap (λ r. r.end) run-is;
    pc = ap (λ r. r.pc) run-is;
    registers = ap (λ r. r.registers) run-is;
    memory = ap (λ r. r.memory) run-is;
    units = ap (λ r. r.units) run-is;
  }

  counts-after : (c : Counts) → IsCount c buses logs → c ≡ counts_of (run_after (progress_at s now buses logs))
  counts-after c k =
      let cycles : c.cycles ≡ length (reverse buses) = k.cycles ∙ sym (length-reverse buses) in
      let retired : c.retired ≡ length (filter_map (λ l. l.retired) (reverse logs)) = k.retired ∙ sym (turned-count (λ l. l.retired) logs) in
      let cuts : c.cuts ≡ length (filter_map (λ l. l.cut) (reverse logs)) = k.cuts ∙ sym (turned-count (λ l. l.cut) logs) in
      λ i. record { cycles = cycles i; retired = retired i; cuts = cuts i }

  pub counts-are : (c : Counts) → IsCount c buses logs → c ≡ counts_of (run_of m setup first)
  counts-are c k = counts-after c k ∙ ap counts_of (sym run-is)

-- ---- the text of the log

text-behind : (first : ℕ) (logs : List CycleLog) (log : CycleLog) → text_from first (logs ++ log ∷ []) ≡ text_from first logs ++ cycle_text (first + length logs) log
text-behind first [] log =
    let same : first ≡ first + 0 = omega arith in
    append-nil (cycle_text first log) ∙ ap (λ n. cycle_text n log) same
text-behind first (l ∷ logs) log =
    let same : first + 1 + length logs ≡ first + length (l ∷ logs) = omega arith in
    ap (λ text. cycle_text first l ++ text) (text-behind (first + 1) logs log)
    ∙ sym (append_assoc (cycle_text first l) (text_from (first + 1) logs) (cycle_text (first + 1 + length logs) log))
    ∙ ap (λ n. (cycle_text first l ++ text_from (first + 1) logs) ++ cycle_text n log) same

pub text-more : (log : CycleLog) (logs : List CycleLog) (cycle : ℕ) → cycle ≡ length logs → text_of (reverse logs) ++ cycle_text cycle log ≡ text_of (reverse (log ∷ logs))
text-more log logs cycle e =
    let number : cycle ≡ 0 + length (reverse logs) = e ∙ sym (length-reverse logs) ∙ (omega arith) in
    ap (λ n. text_of (reverse logs) ++ cycle_text n log) number
    ∙ sym (text-behind 0 (reverse logs) log)
    ∙ ap text_of (sym (reverse-more log logs))
