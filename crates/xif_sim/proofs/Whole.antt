-- The lists that a run is told into, the oldest first, are those of the run.
use Rattle.std.proofs.Common.{◌≡◌, ◌++◌, List, [], ◌∷◌, Bool, true, false, Option, None, Some, reverse, filter_map, option_to_list, refl, sym, ap, ◌∙◌, subst}
use Rattle.std.specs.List.{cons_option}
use Rattle.std.proofs.lemmas.List.{reverse-append, reverse-reverse}
use Rattle.std.proofs.lemmas.List.Elements.{filter_map-append}
use Rattle.inorder_machine.specs.declared.line.Retire.{Retire}
use Rattle.xif_signals.specs.declared.bus.Bus.{Bus}
use Rattle.cycle_spec.specs.declared.log.CycleLog.{CycleLog}
use Rattle.cycle_spec.specs.Engine.{units_of}
use Rattle.cycle_spec.specs.Run.{Setup, Meaning, Run, run_of, end_by}
use Rattle.xif_sim.specs.Simulating.{Simulating, is_over, GoesOn, Tells}
use Rattle.xif_sim.proofs.Extends.{tells-more, whole-run}

abbrev retired_in : CycleLog → Option Retire
retired_in log = log.retired

-- one more of each
pub lists-more : {P : Type 0} → (m : Meaning P) (setup : Setup) (first : P) (old : Simulating) (asked : P) (new : Simulating) (taught : P) (told : Bus × CycleLog) (buses : List Bus) (logs : List CycleLog) → Tells m setup first old asked (reverse buses) (reverse logs) → is_over old ≡ false → GoesOn m old asked new taught told → Tells m setup first new taught (reverse (buses ++ told.0 ∷ [])) (reverse (logs ++ told.1 ∷ []))
lists-more m setup first old asked new taught told buses logs t h g =
    subst (λ bs. Tells m setup first new taught bs (reverse (logs ++ told.1 ∷ []))) (sym (reverse-append buses (told.0 ∷ [])))
    (subst (λ ls. Tells m setup first new taught (told.0 ∷ reverse buses) ls) (sym (reverse-append logs (told.1 ∷ [])))
    (tells-more m setup first old asked new taught told (reverse buses) (reverse logs) t h g))

as-list : {X : Type 0} → (o : Option X) → option_to_list o ≡ cons_option o []
as-list None = refl
as-list (Some x) = refl

pub retired-more : (logs : List CycleLog) (log : CycleLog) (retired : List Retire) → retired ≡ filter_map retired_in logs → retired ++ option_to_list log.retired ≡ filter_map retired_in (logs ++ log ∷ [])
retired-more logs log retired h =
    ap (λ rs. rs ++ option_to_list log.retired) h
    ∙ ap (λ rs. filter_map retired_in logs ++ rs) (as-list log.retired)
    ∙ sym (filter_map-append retired_in logs (log ∷ []))

-- all of them
pub whole-lists : {P : Type 0} → (m : Meaning P) (setup : Setup) (first : P) (s : Simulating) (now : P) (buses : List Bus) (logs : List CycleLog) (retired : List Retire) → is_over s ≡ true → Tells m setup first s now (reverse buses) (reverse logs) → retired ≡ filter_map retired_in logs → let run : Run = record { buses = buses; logs = logs; end = end_by s.machines.core.stopped; pc = s.machines.core.pc; registers = s.machines.core.registers; memory = s.machines.core.memory; units = units_of s.machines.engine 0; retired = retired } in run ≡ run_of m setup first
whole-lists m setup first s now buses logs retired h t r =
    (λ i. record {
      buses = (sym (reverse-reverse buses)) i;
      logs = (sym (reverse-reverse logs)) i;
      end = end_by s.machines.core.stopped;
      pc = s.machines.core.pc;
      registers = s.machines.core.registers;
      memory = s.machines.core.memory;
      units = units_of s.machines.engine 0;
      retired = (r ∙ ap (filter_map retired_in) (sym (reverse-reverse logs))) i;
    })
    ∙ sym (whole-run m setup first s now (reverse buses) (reverse logs) h t)

-- a test that doesn't hold
pub is-false : (b : Bool) → (b ≡ true → ⊥) → b ≡ false
is-false true h = absurd (h refl)
is-false false h = refl
