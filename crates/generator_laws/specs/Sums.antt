-- How the run of a generated program ends, and what it leaves.
use Rattle.std.specs.Prelude.{◌≡◌, ◌≤◌, ◌<◌, ◌+◌, ◌*◌, ◌^◌, ℕ, [], ◌∷◌, length, replicate}
use Rattle.coproc_config.specs.Bits.{low_half, high_half}
use Rattle.inorder_machine.specs.declared.stop.StopCause.TheVariants.{Ecall}
use Rattle.cycle_spec.specs.declared.log.End.TheVariants.{Stopped}
use Rattle.cycle_spec.specs.Run.{Setup, Run}
use Rattle.generator.specs.Generated.{params, set, script_of, budget_of, memory_of}

-- what is simulated of a seed and a count: the generated program and delays, with at most eight
-- instructions in flight
abbrev pub setup_of : (seed count : ℕ) → Setup
setup_of seed count = record {
  params = params;
  set = set;
  script = script_of seed;
  window = 8;
  budget = budget_of count;
  memory = memory_of seed count;
  entry = 0;
}

-- a seed is a word, and there is a round at least; the command takes a count up to 20,000
pub record IsRequest (seed count : ℕ) : Type 0 where
  pub seed_is : seed < 2 ^ 32
  pub some : 0 < count
  pub count_is : count < 2 ^ 32

-- A run ends by the ECALL of the program.
pub record EndsByEcall (count : ℕ) (run : Run) : Type 0 where
  pub end : run.end ≡ Stopped Ecall
  -- the ECALL is the tenth word of the program
  pub pc : run.pc ≡ 36
  -- four instructions before the loop, three in each round, and two behind it
  pub retired : length run.retired ≡ 3 * count + 6
  -- there are at most 64 cycles for each of these and for the ECALL
  pub cycles : length run.buses ≤ 64 * (3 * count + 7)

-- A run leaves `count` times the seed.
pub record Sums (seed count : ℕ) (run : Run) : Type 0 where
  -- the sum is in accumulator 0 of the unit
  pub units : run.units ≡ (count * seed ∷ 0 ∷ []) ∷ []
  -- x2 is the seed, x3 and x4 are the halves of the sum; x1 has counted down to 0, and the other
  -- registers are 0 as at the start
  pub registers : run.registers
      ≡ 0 ∷ 0 ∷ seed ∷ low_half (count * seed) ∷ high_half (count * seed) ∷ replicate 27 0
  -- the memory is as at the start
  pub memory : run.memory ≡ memory_of seed count
