-- What `gen` simulates and prints.
use Rattle.std.specs.Prelude.{ℕ, ◌++◌, List, Option, length}
use Rattle.std.specs.Fmt.{decimal}
use Rattle.std.specs.List.{filter_map}
use Rattle.coproc_config.specs.State.{accumulator_of}
use Rattle.cycle_spec.specs.Run.{Setup, Run}
use Rattle.generator.specs.Generated.{params, set, script_of, budget_of, memory_of}
use Rattle.inorder_machine.specs.Machine.{register_in}
use Rattle.inorder_machine.specs.declared.stop.StopCause.{StopCause}
use Rattle.run_log.specs.Words.{hex_word, hex_double}
use Rattle.xif_job.specs.declared.predictor.Kind.TheVariants.{Never}
use Rattle.xif_cli.specs.Report.{end_word}
use Rattle.xif_cli.specs.Simulated.{run_by, stop_of}
use lib.Chars.{codes}

-- the program and the delays of a seed and a count, for a window of 8
abbrev pub generated_setup : (seed count : ℕ) → Setup
generated_setup seed count = record {
  params = params;
  set = set;
  script = script_of seed;
  window = 8;
  budget = budget_of count;
  memory = memory_of seed count;
  entry = 0;
}

-- the counts of the run, and how it ended, on one line
abbrev pub counts_text : (retired cuts cycles : ℕ) → List ℕ
counts_text retired cuts cycles =
    codes "gen retired=" ++ decimal retired ++ codes " cuts=" ++ decimal cuts
    ++ codes " cycles=" ++ decimal cycles

abbrev pub end_text : Option StopCause → (pc : ℕ) → List ℕ
end_text stop pc =
    codes " end=" ++ end_word stop ++ codes " pc=" ++ hex_word pc ++ codes "\n"

-- the halves of the accumulator as the program read them, and the accumulator
abbrev pub values_line : (x3 x4 accumulator : ℕ) → List ℕ
values_line x3 x4 accumulator =
    codes "x3=" ++ hex_word x3 ++ codes " x4=" ++ hex_word x4
    ++ codes " u0.a0=" ++ hex_double accumulator ++ codes "\n"

unfoldable pub summary_of : Run → List ℕ
summary_of run =
    counts_text (length run.retired) (length (filter_map (λ log. log.cut) run.logs))
    (length run.buses)
    ++ end_text (stop_of run.end) run.pc
    ++ values_line (register_in run.registers 3) (register_in run.registers 4)
    (accumulator_of run.units 0 0)

-- what `gen` prints; no branch is predicted to be taken
unfoldable pub generated_summary : (seed count : ℕ) → List ℕ
generated_summary seed count = summary_of (run_by Never (generated_setup seed count))
