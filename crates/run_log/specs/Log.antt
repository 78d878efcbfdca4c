-- The text of a run's log: a line for each thing that the core does in a cycle, in a fixed order.
-- Each line begins with the number of its cycle.
use Rattle.std.specs.Prelude.{ℕ, ◌+◌, ◌%◌, ◌^◌, ◌++◌, List, [], ◌∷◌, Option, Some, None}
use Rattle.std.specs.Fmt.{decimal}
use Rattle.std.specs.List.{enumerate_from, flat_map}
use Rattle.inorder_machine.specs.declared.line.Retire.{Retire}
use Rattle.inorder_machine.specs.declared.line.Store.{Store as Stored}
use Rattle.inorder_machine.specs.declared.line.Write.{Write as Written}
use Rattle.inorder_machine.specs.declared.line.Write.TheVariants as write
use Rattle.inorder_machine.specs.declared.stop.StopCause.{StopCause}
use Rattle.cycle_spec.specs.declared.log.Cut.{Cut}
use Rattle.cycle_spec.specs.declared.log.CycleLog.{CycleLog}
use Rattle.cycle_spec.specs.declared.log.Dispatch.{Dispatch}
use Rattle.run_log.specs.declared.line.Line.{Line}
use Rattle.run_log.specs.declared.line.Line.TheVariants as line
use Rattle.run_log.specs.Words.{hex_word, cause_word}
use lib.Chars.{codes}

-- ---- which lines a cycle has

-- of the registers that are written, one each: of a pair the even one comes first
abbrev pub write_lines : Written → List Line
write_lines write.None = []
write_lines (write.One rd value) = line.Write rd value ∷ []
write_lines (write.Pair rd low high) = line.Write rd low ∷ line.Write (rd + 1) high ∷ []

-- of a store: the value is cut to the bytes that are stored
abbrev pub store_lines : Option Stored → List Line
store_lines None = []
store_lines (Some s) = line.Store s.addr s.width (s.value % 256 ^ s.width) ∷ []

-- of the instruction that retires
abbrev pub retire_lines : Option Retire → List Line
retire_lines None = []
retire_lines (Some r) = line.Retire r.pc r.word ∷ write_lines r.write ++ store_lines r.store

abbrev pub cut_lines : Option Cut → List Line
cut_lines None = []
cut_lines (Some cut) = line.Cut cut.keep cut.target ∷ []

abbrev pub dispatch_lines : Option Dispatch → List Line
dispatch_lines None = []
dispatch_lines (Some d) = line.Dispatch d.pc d.word ∷ []

abbrev pub drain_lines : Option ℕ → List Line
drain_lines None = []
drain_lines (Some keep) = line.Drain keep ∷ []

abbrev pub stop_lines : Option StopCause → (pc : ℕ) → List Line
stop_lines None pc = []
stop_lines (Some cause) pc = line.Stop cause pc ∷ []

abbrev pub lines_of : CycleLog → List Line
lines_of log =
    retire_lines log.retired ++ cut_lines log.cut ++ dispatch_lines log.dispatched
    ++ drain_lines log.drained ++ stop_lines log.stopped log.pc

-- ---- how a line is printed

-- a word of the memory, or that there is none
abbrev pub word_words : Option ℕ → List ℕ
word_words None = codes "none"
word_words (Some word) = hex_word word

abbrev pub line_words : Line → List ℕ
line_words (line.Retire pc word) = codes "retire " ++ hex_word pc ++ codes " " ++ hex_word word
line_words (line.Write register value) =
    codes "write x" ++ decimal register ++ codes " " ++ hex_word value
line_words (line.Store address width value) =
    codes "store " ++ hex_word address ++ codes " " ++ decimal width ++ codes " " ++ hex_word value
line_words (line.Cut keep target) = codes "cut " ++ decimal keep ++ codes " " ++ hex_word target
line_words (line.Dispatch pc word) =
    codes "dispatch " ++ hex_word pc ++ codes " " ++ word_words word
line_words (line.Drain keep) = codes "drain " ++ decimal keep
line_words (line.Stop cause pc) = codes "stop " ++ cause_word cause ++ codes " " ++ hex_word pc

-- the line of a cycle
abbrev pub line_text : (cycle : ℕ) → Line → List ℕ
line_text cycle l = decimal cycle ++ codes " " ++ line_words l ++ codes "\n"

abbrev pub lines_text : (cycle : ℕ) → List Line → List ℕ
lines_text cycle ls = flat_map (line_text cycle) ls

-- ---- the text

-- of one cycle
abbrev pub cycle_text : (cycle : ℕ) → CycleLog → List ℕ
cycle_text cycle log = lines_text cycle (lines_of log)

-- of cycles that follow one another, by the number of the first
abbrev pub text_from : (first : ℕ) → List CycleLog → List ℕ
text_from first logs = flat_map (λ l. cycle_text l.0 l.1) (enumerate_from first logs)

-- of a run, whose cycles are counted from 0
abbrev pub text_of : List CycleLog → List ℕ
text_of logs = text_from 0 logs
