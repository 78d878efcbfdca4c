-- A run with a use that retires and one that is killed, computed by the definitions alone.
use Rattle.std.proofs.Common.{◌≡◌, ◌&&◌, ℕ, false, List, [], ◌∷◌, map, filter, length, refl}
use Rattle.std.specs.List.{flat_map}
use Rattle.std.specs.Int.{w32, to_le_bytes}
use Rattle.xif_drive.specs.Predictors.{following}
use Rattle.coproc_config.specs.declared.operation.Entry.{Entry}
use Rattle.coproc_config.specs.declared.operation.Op.{Op}
use Rattle.coproc_config.specs.declared.operation.Op.TheVariants.{AccAdd, ExtractU}
use Rattle.xif_signals.specs.declared.bus.Bus.{Bus}
use Rattle.cycle_spec.specs.Cycle.{cycle}
use Rattle.cycle_spec.specs.Run.{Setup, Meaning, progress_of, run_of}
use Rattle.cycle_refines.specs.RefinesInOrder.{extension_in, first_state}
use Rattle.engine_history.specs.Lives.{lives_of, is_accepted, is_killed}
use Rattle.cycle_history.specs.Uses.{results_of, kept_uses}
use Rattle.cycle_history.specs.Words.{unit_words}

-- an entry by opcode and funct3
abbrev with : (matched : ℕ) → Op → (low len : ℕ) → Entry
with matched op low len = record {
  mask = 0x707f;
  matched = matched;
  op = op;
  acc = 0;
  low = low;
  len = len;
}

-- addi x1,x0,0x123; x5 = bits 4 to 11 of x1, by a unit; beq x0,x0,8; accumulator += x1; ecall. The
-- addition lies on the wrong path of the branch.
abbrev setup : Setup
setup = record {
  params = record {
    num_rs = 2;
    id_width = 3;
    rfr_width = 32;
    rfw_width = 32;
    num_harts = 1;
    hartid_width = 1;
    dual_read = 0;
    dual_write = false;
    split = false;
    profile = 1;
  };
  set = record { accumulators = 1; entries = with 0xb AccAdd 0 32 ∷ with 0x100b ExtractU 4 8 ∷ [] } ∷ [];
  script = record {
    issue = 0 ∷ [];
    register = 0 ∷ [];
    operand = 0 ∷ [];
    result = 0 ∷ [];
    take = 0 ∷ [];
  };
  window = 8;
  budget = 100;
  memory = record {
    base = 0;
    bytes =
        flat_map (to_le_bytes w32)
        (0x12300093 ∷ 0x0000928b ∷ 0x00000463 ∷ 0x0000800b ∷ 0x00000073 ∷ []);
  };
  entry = 0;
}

-- the predictor that always answers the address behind
abbrev never : Meaning ℕ
never = record {
  answer = λ predictor pc word. following pc;
  after = λ predictor pc word actual. predictor;
}

abbrev buses : List Bus
buses = (progress_of never setup 0).buses

retired-count : length (run_of never setup 0).retired ≡ 3
unfolding cycle
retired-count = refl

-- the use that is kept is that of the word that retired
kept-words : map (λ l. l.word) (kept_uses buses) ≡ 0x928b ∷ []
unfolding cycle
kept-words = refl

retired-words : map (λ w. w.word) (unit_words (extension_in setup) 3 (first_state setup)) ≡ 0x928b ∷ []
retired-words = refl

killed-words : map (λ l. l.word) (filter (λ l. is_accepted l && is_killed l) (lives_of buses)) ≡ 0x800b ∷ []
unfolding cycle
killed-words = refl

result-values : map (λ r. r.bus.result_data) (results_of buses) ≡ 0x12 ∷ []
unfolding cycle
result-values = refl
