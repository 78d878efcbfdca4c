-- What an instruction in flight does, by its kind.
use Rattle.std.proofs.Common.{◌≡◌, ℕ, true, Option, Some, None, List, refl, sym, ap, subst, ◌∙◌}
use Rattle.rv32_table.specs.declared.instr.Instr.{Instr}
use Rattle.rv32_table.specs.Instr.{decoded, rd_field}
use Rattle.xif_drive.specs.Predictors.{following}
use Rattle.xif_image.specs.Region.{Region, word_at}
use Rattle.coproc_config.specs.declared.accept.Hit.{Hit}
use Rattle.inorder_machine.specs.declared.line.Retire.{Retire}
use Rattle.inorder_machine.specs.declared.line.Stepped.TheVariants.{Retired, Stop}
use Rattle.inorder_machine.specs.declared.stop.StopCause.TheVariants.{Illegal, FetchOutside}
use Rattle.inorder_machine.specs.Execute.{executed}
use Rattle.inorder_machine.specs.Units.{unit_write, lane_values}
use Rattle.inorder_machine.specs.Machine.{Extension, State, register_of, decoded_outcome, offered_outcome, units_decoded, units_offered, units_after}
use Rattle.inorder_machine.proofs.Places.{IsAt, outcome-at}
use Rattle.cycle_spec.specs.declared.entry.EntryKind.{EntryKind}
use Rattle.cycle_spec.specs.declared.entry.EntryKind.TheVariants.{Local, Unknown, Nowhere}
use Rattle.cycle_spec.specs.Flight.{kind_by, kind_at, is_unknown_kind}
use Rattle.cycle_spec.specs.Core.{word_of, word_or_zero}
use Rattle.cycle_spec.specs.Engine.{writeback_of, register_read_of, outcome_by}
use Rattle.ahead_spec.specs.Walk.{Item, outcome_of_word, outcome}
use Rattle.ahead_spec.specs.Operands.{word_hit, unit_step}
use Rattle.ahead_spec.specs.World.{result_write}
use Rattle.ahead_spec.specs.Invariant.{Agrees}

-- ---- kinds and words

kind_by-local : (o : Option Instr) (i : Instr) → kind_by o ≡ Local i → o ≡ Some i
kind_by-local None i h = absurd cc
kind_by-local (Some j) i h = let same : j ≡ i = cc in ap Some same

kind_by-unknown : (o : Option Instr) → kind_by o ≡ Unknown → o ≡ None
kind_by-unknown None h = refl
kind_by-unknown (Some j) h = absurd cc

local-word : (o : Option ℕ) (word : ℕ) (i : Instr) → kind_at o ≡ Local i → word ≡ word_or_zero o → decoded word ≡ Some i
local-word None word i k w = absurd cc
local-word (Some v) word i k w = ap decoded w ∙ kind_by-local (decoded v) i k

unknown-word : (o : Option ℕ) (word : ℕ) → kind_at o ≡ Unknown → word ≡ word_or_zero o → decoded word ≡ None
unknown-word None word k w = absurd cc
unknown-word (Some v) word k w = ap decoded w ∙ kind_by-unknown (decoded v) k

word_of-by : (o : Option Instr) (word : ℕ) → word_of (kind_by o) word ≡ Some word
word_of-by None word = refl
word_of-by (Some i) word = refl

-- the word of an entry is the one that was fetched
pub word_of-at : (o : Option ℕ) → word_of (kind_at o) (word_or_zero o) ≡ o
word_of-at None = refl
word_of-at (Some word) = word_of-by (decoded word) word

pub unknown-kind : (k : EntryKind) → is_unknown_kind k ≡ true → k ≡ Unknown
unknown-kind (Local i) h = absurd cc
unknown-kind Unknown h = refl
unknown-kind Nowhere h = absurd cc

-- ---- the outcome by the kind

pub outcome-local : (x : Extension) (s : State) (pc : ℕ) (i : Instr) (word : ℕ) → decoded word ≡ Some i
    → outcome x s pc (Local i) word ≡ executed s.memory (record { pc = pc; word = word }) i (register_of s i.rs1) (register_of s i.rs2)
unfolding outcome
outcome-local x s pc i word h = ap (decoded_outcome x s (record { pc = pc; word = word })) h

pub outcome-unknown : (x : Extension) (s : State) (pc word : ℕ) → decoded word ≡ None
    → outcome x s pc Unknown word ≡ offered_outcome x s (record { pc = pc; word = word }) (word_hit x word)
unfolding outcome
outcome-unknown x s pc word h = ap (decoded_outcome x s (record { pc = pc; word = word })) h

pub outcome-nowhere : (x : Extension) (s : State) (pc word : ℕ) → outcome x s pc Nowhere word ≡ Stop FetchOutside
unfolding outcome
outcome-nowhere x s pc word = refl

-- a line has the address and the word
at-word : (x : Extension) (s : State) (pc : ℕ) (o : Option ℕ) (word : ℕ) (l : Retire) → ((w : ℕ) → o ≡ Some w → w ≡ word) → outcome_of_word x s pc o ≡ Retired l → (l.pc ≡ pc) × (l.word ≡ word)
at-word x s pc None word l f h = absurd cc
at-word x s pc (Some w) word l f h =
    let p : IsAt (record { pc = pc; word = w }) (Retired l) = subst (IsAt (record { pc = pc; word = w })) h (outcome-at x s (record { pc = pc; word = w })) in
    (p.0, p.1 ∙ f w refl)

word_of-same : (k : EntryKind) (word w : ℕ) → word_of k word ≡ Some w → w ≡ word
word_of-same (Local i) word w h = cc
word_of-same Unknown word w h = cc
word_of-same Nowhere word w h = absurd cc

pub outcome-place : (x : Extension) (s : State) (pc : ℕ) (k : EntryKind) (word : ℕ) (l : Retire) → outcome x s pc k word ≡ Retired l → (l.pc ≡ pc) × (l.word ≡ word)
unfolding outcome
outcome-place x s pc k word l h = at-word x s pc (word_of k word) word l (λ w e. word_of-same k word w e) h

-- ---- words of the coprocessors

-- the line of a word that a unit takes
abbrev pub use_line : Extension → State → (pc word : ℕ) → Retire
use_line x s pc word = record {
  pc = pc;
  word = word;
  next = following pc;
  write = result_write x word (unit_step x s word).result;
  store = None;
}

pub outcome-taken : (x : Extension) (s : State) (pc word : ℕ) (hit : Hit) → decoded word ≡ None → word_hit x word ≡ Some hit → outcome x s pc Unknown word ≡ Retired (use_line x s pc word)
outcome-taken x s pc word hit d h =
    outcome-unknown x s pc word d ∙ ap (offered_outcome x s (record { pc = pc; word = word })) h ∙ ap (λ o. Retired (line_by o)) (sym h)
  where
    line_by : Option Hit → Retire
    line_by o = record {
      pc = pc;
      word = word;
      next = following pc;
      write = unit_write (rd_field word) (writeback_of o) (outcome_by x.set o s.units (lane_values x.params (register_of s) word (register_read_of o))).result;
      store = None;
    }

pub outcome-refused : (x : Extension) (s : State) (pc word : ℕ) → decoded word ≡ None → word_hit x word ≡ None → outcome x s pc Unknown word ≡ Stop Illegal
outcome-refused x s pc word d h = outcome-unknown x s pc word d ∙ ap (offered_outcome x s (record { pc = pc; word = word })) h

-- a word that retires was taken
pub retired-taken : (x : Extension) (s : State) (pc word : ℕ) (l : Retire) → decoded word ≡ None → outcome x s pc Unknown word ≡ Retired l → (hit : Hit) × (word_hit x word ≡ Some hit) × (l ≡ use_line x s pc word)
retired-taken x s pc word l d h = go (word_hit x word) refl
  where
    go : (o : Option Hit) → word_hit x word ≡ o → (hit : Hit) × (word_hit x word ≡ Some hit) × (l ≡ use_line x s pc word)
    go None e = let stops = outcome-refused x s pc word d e in absurd (no (sym stops ∙ h))
      where
        no : Stop Illegal ≡ Retired l → ⊥
        no k = cc
    go (Some hit) e = (hit, e, same_line (sym (outcome-taken x s pc word hit d e) ∙ h))
      where
        same_line : Retired (use_line x s pc word) ≡ Retired l → l ≡ use_line x s pc word
        same_line k = let same : use_line x s pc word ≡ l = cc in sym same

-- the accumulators behind it
pub units-taken : (x : Extension) (s : State) (word : ℕ) (hit : Hit) → decoded word ≡ None → word_hit x word ≡ Some hit → units_after x s word ≡ (unit_step x s word).state
units-taken x s word hit d h = ap (units_decoded x s word) d ∙ ap (units_offered x s word) h ∙ ap state_by (sym h)
  where
    state_by : Option Hit → List (List ℕ)
    state_by o = (outcome_by x.set o s.units (lane_values x.params (register_of s) word (register_read_of o))).state

pub units-refused : (x : Extension) (s : State) (word : ℕ) → decoded word ≡ None → word_hit x word ≡ None → units_after x s word ≡ s.units
units-refused x s word d h = ap (units_decoded x s word) d ∙ ap (units_offered x s word) h

pub units-local : (x : Extension) (s : State) (word : ℕ) (i : Instr) → decoded word ≡ Some i → units_after x s word ≡ s.units
units-local x s word i d = ap (units_decoded x s word) d

-- ---- an instruction in flight

pub entry-local : (x : Extension) (memory : Region) (s : State) (y : Item) (i : Instr) → Agrees x memory s y → y.entry.kind ≡ Local i → decoded y.entry.word ≡ Some i
entry-local x memory s y i g k = local-word (word_at memory y.entry.pc) y.entry.word i (sym g.kind_is ∙ k) g.word_is

pub entry-unknown : (x : Extension) (memory : Region) (s : State) (y : Item) → Agrees x memory s y → y.entry.kind ≡ Unknown → decoded y.entry.word ≡ None
entry-unknown x memory s y g k = unknown-word (word_at memory y.entry.pc) y.entry.word (sym g.kind_is ∙ k) g.word_is

pub entry-outcome-local : (x : Extension) (memory : Region) (s : State) (y : Item) (i : Instr) → Agrees x memory s y → y.entry.kind ≡ Local i
    → outcome x s y.entry.pc y.entry.kind y.entry.word ≡ executed s.memory (record { pc = y.entry.pc; word = y.entry.word }) i (register_of s i.rs1) (register_of s i.rs2)
entry-outcome-local x memory s y i g k =
    ap (λ q. outcome x s y.entry.pc q y.entry.word) k ∙ outcome-local x s y.entry.pc i y.entry.word (entry-local x memory s y i g k)
