-- The words of the in-order machine that are no instruction of RV32IM: the units compute them.
use Rattle.std.specs.Prelude.{ℕ, zero, suc, is_none, if◌then◌else◌, Option, Some, None, List, [], ◌∷◌, ◌++◌, map, filter}
use Rattle.rv32_table.specs.Instr.{decoded}
use Rattle.xif_image.specs.Region.{word_at}
use Rattle.inorder_machine.specs.declared.line.Retire.{Retire}
use Rattle.inorder_machine.specs.Machine.{Extension, State}
use Rattle.inorder_machine.specs.After.{after}

-- a word that the units compute, and the state in which the in-order machine comes to it
pub record UnitWord : Type 0 where
  pub word : ℕ
  pub state : State

abbrev pub word_in : State → Option ℕ → List UnitWord
word_in s None = []
word_in s (Some word) =
    if is_none (decoded word) then record { word = word; state = s } ∷ [] else []

-- the next word, if the units compute it
abbrev pub next_word : Option State → List UnitWord
next_word None = []
next_word (Some s) = word_in s (word_at s.memory s.pc)

-- those among the first so many instructions that retire, the newest first
abbrev pub unit_words : Extension → (count : ℕ) → State → List UnitWord
unit_words x zero s = []
unit_words x (suc n) s = next_word (after x n s) ++ unit_words x n s

-- the words of retired instructions that are no instruction of RV32IM
abbrev pub words_in : List Retire → List ℕ
words_in retired = map (λ l. l.word) (filter (λ l. is_none (decoded l.word)) retired)
