-- What `gen` promises: it prints the sum that its program adds up.
use Rattle.std.specs.Prelude.{◌≡◌, ◌≤◌, ◌+◌, ◌*◌, ◌++◌, ℕ, List, [], length}
use Rattle.std.specs.Fmt.{decimal}
use Rattle.std.specs.List.{filter_map}
use Rattle.coproc_config.specs.Bits.{low_half, high_half}
use Rattle.cycle_spec.specs.Run.{Run}
use Rattle.run_log.specs.Words.{hex_word, hex_double}
use Rattle.xif_job.specs.declared.predictor.Kind.TheVariants.{Never}
use Rattle.xif_cli.specs.declared.answer.End.TheVariants.{Done}
use Rattle.xif_cli.specs.Outcome.{Answer}
use Rattle.xif_cli.specs.Simulated.{run_by}
use Rattle.xif_cli.specs.Summary.{generated_setup}
use lib.Chars.{codes}

-- the two lines of a run that cut so often and took so many cycles
abbrev pub sum_text : (seed count cuts cycles : ℕ) → List ℕ
sum_text seed count cuts cycles =
    codes "gen retired=" ++ decimal (3 * count + 6) ++ codes " cuts=" ++ decimal cuts
    ++ codes " cycles=" ++ decimal cycles ++ codes " end=ecall pc=0x00000024\n"
    ++ codes "x3=" ++ hex_word (low_half (count * seed))
    ++ codes " x4=" ++ hex_word (high_half (count * seed))
    ++ codes " u0.a0=" ++ hex_double (count * seed) ++ codes "\n"

-- how often a run dropped younger instructions
abbrev pub cuts_of : Run → ℕ
cuts_of run = length (filter_map (λ log. log.cut) run.logs)

-- The answer of `gen` to a seed and a count.
pub record PrintsTheSum (seed count : ℕ) (answer : Answer) : Type 0 where
  pub run : Run
  pub is_run : run ≡ run_by Never (generated_setup seed count)
  pub end : answer.end ≡ Done
  -- it writes no file,
  pub targets : answer.targets ≡ []
  -- it prints that the run ended by ECALL with `count` times the seed in its registers,
  pub printed : answer.printed ≡ sum_text seed count (cuts_of run) (length run.buses)
  -- and there are at most 64 cycles for each instruction that retired and for the ECALL
  pub cycles : length run.buses ≤ 64 * (3 * count + 7)
