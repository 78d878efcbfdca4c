-- The summary of `gen`, by what the run leaves.
use Rattle.std.proofs.Common.{◌≡◌, ◌+◌, ◌*◌, ◌++◌, ℕ, List, [], ◌∷◌, length, replicate, Some, Result, Ok, refl, sym, ap, subst, ◌∙◌, append_assoc, arith}
use Rattle.std.specs.Fmt.{digits}
use Rattle.coproc_config.specs.Bits.{low_half, high_half}
use Rattle.coproc_config.specs.State.{accumulator_of}
use Rattle.inorder_machine.specs.Machine.{register_in}
use Rattle.inorder_machine.specs.declared.stop.StopCause.TheVariants.{Ecall}
use Rattle.cycle_spec.specs.declared.log.End.{End}
use Rattle.cycle_spec.specs.declared.log.End.TheVariants.{Stopped}
use Rattle.cycle_spec.specs.Run.{Run, run_of}
use Rattle.run_log.specs.Words.{hex_word, hex_double}
use Rattle.xif_job.specs.declared.predictor.Kind.TheVariants.{Never}
use Rattle.generator_laws.specs.Sums.{setup_of, IsRequest, EndsByEcall, Sums}
use Rattle.generator_laws.proofs.Ending.{run-ends, run-sums}
use Rattle.xif_cli.specs.declared.answer.End.TheVariants.{Done}
use Rattle.xif_cli.specs.declared.status.Status.{Status}
use Rattle.xif_cli.specs.Outcome.{Answer, Lookup, prints, command_outcome}
use Rattle.xif_cli.specs.Simulated.{never, run_by, stop_of}
use Rattle.xif_cli.specs.Summary.{counts_text, end_text, values_line, summary_of, generated_setup, generated_summary}
use Rattle.xif_cli.specs.Sum.{sum_text, cuts_of, PrintsTheSum}
use Rattle.xif_cli.specs.Words.{Gen, IsInRange}
use lib.Chars.{codes}

-- the summary by its parts
abbrev text-by : (retired cuts cycles : ℕ) (end : End) (pc : ℕ) (registers : List ℕ) (units : List (List ℕ)) → List ℕ
text-by retired cuts cycles end pc registers units =
    counts_text retired cuts cycles ++ end_text (stop_of end) pc
    ++ values_line (register_in registers 3) (register_in registers 4) (accumulator_of units 0 0)

by-parts : (run : Run) → summary_of run ≡ text-by (length run.retired) (cuts_of run) (length run.buses) run.end run.pc run.registers run.units
unfolding summary_of
by-parts run = refl

regroup : (p a b c d e f g : List ℕ) → p ++ (a ++ b ++ c ++ d ++ e ++ f ++ g) ≡ p ++ a ++ b ++ c ++ d ++ e ++ f ++ g
regroup p a b c d e f g = simp append_assoc

ended : end_text (Some Ecall) 36 ≡ codes " end=ecall pc=0x00000024\n"
unfolding digits
ended = refl

in-lines : (seed count cuts cycles : ℕ)
    → text-by (3 * count + 6) cuts cycles (Stopped Ecall) 36 (0 ∷ 0 ∷ seed ∷ low_half (count * seed) ∷ high_half (count * seed) ∷ replicate 27 0) ((count * seed ∷ 0 ∷ []) ∷ [])
    ≡ sum_text seed count cuts cycles
in-lines seed count cuts cycles =
    let values : List ℕ = values_line (low_half (count * seed)) (high_half (count * seed)) (count * seed) in
    let counts : List ℕ = counts_text (3 * count + 6) cuts cycles in
    ap (λ (e : List ℕ). counts ++ e ++ values) ended
    ∙ regroup (counts ++ codes " end=ecall pc=0x00000024\n") (codes "x3=") (hex_word (low_half (count * seed))) (codes " x4=") (hex_word (high_half (count * seed))) (codes " u0.a0=") (hex_double (count * seed)) (codes "\n")

text-is : (seed count : ℕ) (run : Run) → EndsByEcall count run → Sums seed count run → summary_of run ≡ sum_text seed count (cuts_of run) (length run.buses)
text-is seed count run e s =
    by-parts run
    ∙ (λ i. text-by (e.retired i) (cuts_of run) (length run.buses) (e.end i) (e.pc i) (s.registers i) (s.units i))
    ∙ in-lines seed count (cuts_of run) (length run.buses)

run-is : (seed count : ℕ) → run_by Never (generated_setup seed count) ≡ run_of never (setup_of seed count) (record {})
unfolding run_by
run-is seed count = refl

summary-is : (seed count : ℕ) → generated_summary seed count ≡ summary_of (run_by Never (generated_setup seed count))
unfolding generated_summary
summary-is seed count = refl

answered : (seed count : ℕ) → IsInRange (Gen seed count) → PrintsTheSum seed count (prints Done (generated_summary seed count))
answered seed count range =
    let q : IsRequest seed count = record { seed_is = omega arith; some = omega arith; count_is = omega arith } in
    let run : Run = run_by Never (generated_setup seed count) in
    let e : EndsByEcall count run = subst (EndsByEcall count) (sym (run-is seed count)) (run-ends _ never seed count (record {}) q) in
    let s : Sums seed count run = subst (Sums seed count) (sym (run-is seed count)) (run-sums _ never seed count (record {}) q) in
    record { run = run; is_run = refl; end = refl; targets = refl; printed = summary-is seed count ∙ text-is seed count run e s; cycles = e.cycles }

abbrev answer_ok : Answer → Result Answer Status
answer_ok answer = Ok answer

same_answer : (a b : Answer) → answer_ok a ≡ answer_ok b → a ≡ b
same_answer a b e = cc

-- what the command means is this answer, whatever files there are
pub prints-the-sum : (seed count : ℕ) (find : Lookup) (answer : Answer) → IsInRange (Gen seed count) → command_outcome (Gen seed count) find ≡ Ok answer → PrintsTheSum seed count answer
prints-the-sum seed count find answer range means =
    subst (PrintsTheSum seed count) (same_answer (prints Done (generated_summary seed count)) answer means) (answered seed count range)
