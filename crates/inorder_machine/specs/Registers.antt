-- Which registers a word reads and writes, by the word alone: a second view of what a step does.
use Rattle.std.specs.Prelude.{◌≡◌, ◌+◌, ◌++◌, ◌==◌, ◌⊎◌, ℕ, Bool, List, [], ◌∷◌, Option, Some, None, IsTrue, length, slice_index, if◌then◌else◌}
use Rattle.rv32_table.specs.declared.instr.Instr.{Instr}
use Rattle.rv32_table.specs.Instr.{decoded, rd_field, source_field, sources_of, target_of}
use Rattle.xif_base.specs.declared.params.Params.{Params}
use Rattle.coproc_config.specs.declared.accept.Hit.{Hit}
use Rattle.coproc_config.specs.Accept.{hit_of}
use Rattle.inorder_machine.specs.declared.line.Write.{Write}
use Rattle.inorder_machine.specs.declared.line.Write.TheVariants as write
use Rattle.inorder_machine.specs.declared.units.Half.{Half}
use Rattle.inorder_machine.specs.Units.{has_flag, is_read, half_register}
use Rattle.inorder_machine.specs.Machine.{Extension, State, register_of}

-- the registers that a write changes
abbrev pub written_by : Write → List ℕ
written_by write.None = []
written_by (write.One rd value) = rd ∷ []
written_by (write.Pair rd low high) = rd ∷ (rd + 1) ∷ []

abbrev pub list_of : Option ℕ → List ℕ
list_of None = []
list_of (Some register) = register ∷ []

abbrev pub list_if : Bool → ℕ → List ℕ
list_if holds register = if holds then register ∷ [] else []

-- the registers that a writeback names: rd by its first flag, and rd + 1 by its second; none where
-- rd is x0
abbrev pub writeback_targets : ℕ → ℕ → List ℕ
writeback_targets rd flags =
    if rd == 0 then [] else list_if (has_flag flags 0) rd ++ list_if (has_flag flags 1) (rd + 1)

abbrev pub hit_targets : ℕ → Option Hit → List ℕ
hit_targets word None = []
hit_targets word (Some hit) = writeback_targets (rd_field word) hit.writeback.0

abbrev pub decoded_targets : Extension → ℕ → Option Instr → List ℕ
decoded_targets x word None = hit_targets word (hit_of x.set x.params word)
decoded_targets x word (Some i) = list_of (target_of i)

-- the registers that a word writes: the target of an instruction of RV32IM, or what the writeback
-- of an entry names
abbrev pub targets_of : Extension → ℕ → List ℕ
targets_of x word = decoded_targets x word (decoded word)

-- a half of a lane that is read carries this register
pub record ReadsByHalf (p : Params) (word flags register : ℕ) : Type 0 where
  pub lane : ℕ
  pub half : Half
  pub read : IsTrue (is_read p flags lane half)
  pub carried : half_register (source_field word lane) half ≡ Some register

abbrev pub HitReads : Params → ℕ → ℕ → Option Hit → Type 0
HitReads p word register None = ⊥
HitReads p word register (Some hit) = ReadsByHalf p word hit.register_read.0 register

abbrev pub DecodedReads : Extension → ℕ → ℕ → Option Instr → Type 0
DecodedReads x word register None = HitReads x.params word register (hit_of x.set x.params word)
DecodedReads x word register (Some i) =
    ((sources_of i).0 ≡ Some register) ⊎ ((sources_of i).1 ≡ Some register)

-- a word reads a register: as a source of an instruction of RV32IM, or by a half that its entry
-- reads
abbrev pub ReadsRegister : Extension → ℕ → ℕ → Type 0
ReadsRegister x word register = DecodedReads x word register (decoded word)

-- two states are the same but in registers that a word doesn't read
pub record SameFor (x : Extension) (word : ℕ) (s t : State) : Type 0 where
  pub pc : t.pc ≡ s.pc
  pub memory : t.memory ≡ s.memory
  pub units : t.units ≡ s.units
  pub registers : (i : ℕ) → ReadsRegister x word i → register_of t i ≡ register_of s i

-- 32 registers, the first of which is 0
pub record IsFile (registers : List ℕ) : Type 0 where
  pub count : length registers ≡ 32
  pub zero : slice_index registers 0 ≡ 0
