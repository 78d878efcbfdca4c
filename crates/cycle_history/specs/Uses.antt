-- The uses of a run: what the buses carry for each, and which word of the in-order machine it is
-- for. A use is one instruction that is offered under a key (CV-X-IF 1.0.0, "Identification").
-- Buses and uses are listed the newest first; the history of the uses is that of `engine_history`.
use Rattle.std.specs.Prelude.{◌≡◌, ◌==◌, ◌&&◌, ℕ, Bool, true, false, if◌then◌else◌, Option, Some, None, List, [], ◌∷◌, length, map, filter, reverse, ⊤}
use Rattle.std.specs.List.{list_any}
use Rattle.rv32_table.specs.Instr.{rd_field}
use Rattle.xif_signals.specs.declared.bus.Bus.{Bus}
use Rattle.xif_session.specs.Facts.{result_key, is_issued, is_taken, response_on}
use Rattle.inorder_machine.specs.declared.line.Retire.{Retire}
use Rattle.inorder_machine.specs.Machine.{Extension}
use Rattle.cycle_spec.specs.Engine.{writeback_of}
use Rattle.cycle_spec.specs.Run.{Setup}
use Rattle.cycle_lists.specs.Lists.{Each}
use Rattle.cycle_refines.specs.RefinesInOrder.{extension_in, first_state}
use Rattle.ahead_spec.specs.Operands.{word_hit, halves_read, response_of, CarriesOperands, unit_step}
use Rattle.engine_history.specs.Lives.{Life, Answer, Operands, start_of, lives_of, lives_with, is_accepted, is_killed, is_released}
use Rattle.engine_history.specs.Channels.{is_for}
use Rattle.cycle_history.specs.Words.{UnitWord, unit_words, words_in}

-- ---- result handshakes

-- a result handshake: the start of the use that its key names, and the bus
pub record Result : Type 0 where
  pub owner : Option ℕ
  pub bus : Bus

-- all result handshakes
abbrev pub results_of : List Bus → List Result
results_of [] = []
results_of (b ∷ session) =
    if is_taken b
    then record { owner = start_of (result_key b) (lives_with session b); bus = b }
    ∷ results_of session
    else results_of session

abbrev pub is_result_of : Life → Result → Bool
is_result_of l r = is_for l.start r.owner

-- those for a use
abbrev pub results_for : Life → List Bus → List Result
results_for l session = filter (is_result_of l) (results_of session)

-- A use has one result handshake. It carries the writeback of the word, its rd field unless nothing
-- is written, and the result that the in-order machine has.
pub record HasItsResult (x : Extension) (session : List Bus) (l : Life) (w : UnitWord)
    : Type 0 where
  pub result : Result
  pub one : results_for l session ≡ result ∷ []
  pub we : result.bus.result_we ≡ writeback_of (word_hit x w.word)
  pub rd : result.bus.result_rd
      ≡ (if writeback_of (word_hit x w.word) == 0 then 0 else rd_field w.word)
  pub value : result.bus.result_data ≡ (unit_step x w.state w.word).result

-- ---- a use and its word

-- A use is that of a word of the in-order machine.
pub record IsUseOf (x : Extension) (session : List Bus) (l : Life) (w : UnitWord) : Type 0 where
  -- it was offered with the word, and answered so
  pub word : l.word ≡ w.word
  pub answered : (a : Answer) → l.answer ≡ Some a → a.word ≡ w.word
  -- At its register handshake each half that the word reads has the operand that the in-order
  -- machine has. It has that handshake, if the word reads any.
  pub operands
      : (o : Operands) → l.operands ≡ Some o → CarriesOperands x w.state w.word o.lanes
  pub given : l.operands ≡ None → halves_read x w.word ≡ 0
  pub result : HasItsResult x session l w

-- uses and words are as many, and each is that of the word beside it
abbrev pub AreUsesOf : Extension → List Bus → List Life → List UnitWord → Type 0
AreUsesOf x session [] [] = ⊤
AreUsesOf x session [] (w ∷ ws) = ⊥
AreUsesOf x session (l ∷ ls) [] = ⊥
AreUsesOf x session (l ∷ ls) (w ∷ ws) = IsUseOf x session l w × AreUsesOf x session ls ws

-- ---- a run

-- the uses that were accepted and released
abbrev pub is_kept : Life → Bool
is_kept l = is_accepted l && is_released l

abbrev pub kept_uses : List Bus → List Life
kept_uses session = filter is_kept (lives_of session)

-- What the uses of a run are, by its buses and by its retired instructions, the oldest of these
-- first.
pub record UsesAreThoseThatRetire (s : Setup) (session : List Bus) (retired : List Retire)
    : Type 0 where
  -- each issue handshake has the response that the tables of the units give for the word, on a
  -- wrong path too
  pub answers
      : Each (λ b. is_issued b ≡ true
      → response_on b ≡ response_of (word_hit (extension_in s) b.issue_instr)) session
  -- the retired words that are no instruction of RV32IM are those that the in-order machine comes
  -- to as it retires as many instructions
  pub words
      : words_in retired
      ≡ reverse
      (map (λ w. w.word) (unit_words (extension_in s) (length retired) (first_state s)))
  -- the accepted and released uses, in the order of their starts, are those of these words, in the
  -- order of their retirement
  pub uses
      : AreUsesOf (extension_in s) session (kept_uses session)
      (unit_words (extension_in s) (length retired) (first_state s))
  -- each other accepted use is killed
  pub others
      : Each (λ l. is_accepted l ≡ true → is_released l ≡ false → is_killed l ≡ true)
      (lives_of session)
  -- each result handshake is for one of the accepted and released uses
  pub results
      : Each (λ r. list_any (λ l. is_result_of l r) (kept_uses session) ≡ true)
      (results_of session)
