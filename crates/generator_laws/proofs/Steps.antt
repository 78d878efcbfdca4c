-- What each instruction of the program does on the in-order machine.
use Rattle.std.proofs.Common.{◌≡◌, ◌<◌, ◌+◌, ◌*◌, ◌/◌, ◌%◌, ◌^◌, ◌==◌, ℕ, Bool, true, false, not, [], ◌∷◌, replicate, Some, None, refl, ap, ◌∙◌, arith, if◌then◌else◌}
use Rattle.std.proofs.lemmas.Bool.Decides.{nat_tests}
use Rattle.rv32_table.specs.declared.instr.Instr.{Instr}
use Rattle.rv32_table.specs.declared.rows.Row.TheVariants.{Addi, Bne, Ecall as EcallRow}
use Rattle.rv32_table.specs.declared.control.Next.TheVariants.{Go}
use Rattle.rv32_table.specs.Word.{wrapped, sign_extended}
use Rattle.rv32_table.specs.Instr.{instr_of, decoded, rd_field}
use Rattle.coproc_config.specs.declared.accept.Hit.{Hit}
use Rattle.coproc_config.specs.Accept.{hit_of}
use Rattle.xif_image.specs.Region.{Region, word_at}
use Rattle.inorder_machine.specs.declared.line.Retire.{Retire}
use Rattle.inorder_machine.specs.declared.line.Write.TheVariants as write
use Rattle.inorder_machine.specs.declared.line.Stepped.TheVariants.{Retired, Stop}
use Rattle.inorder_machine.specs.declared.stop.StopCause.TheVariants.{Ecall}
use Rattle.inorder_machine.specs.Execute.{At, line_of, executed, control_outcome}
use Rattle.inorder_machine.specs.Units.{unit_write}
use Rattle.inorder_machine.specs.Machine.{Extension, State, register_of, unit_outcome, offered_outcome, decoded_outcome, fetched_outcome, next_step, units_offered, units_decoded, units_after, moved}
use Rattle.inorder_machine.specs.After.{next_state, state_if_retired}
use Rattle.generator.specs.Generated.{params, set, lui_word, addi_word}
use Rattle.generator_laws.proofs.Words.{lui, lui-is, addi, addi-is}

abbrev pub extension : Extension
extension = record { set = set; params = params }

-- the machine at an address of a program that uses x1 to x4 and the first accumulator
abbrev pub machine : Region → (pc x1 x2 x3 x4 sum : ℕ) → State
machine m pc x1 x2 x3 x4 sum = record {
  pc = pc;
  registers = 0 ∷ x1 ∷ x2 ∷ x3 ∷ x4 ∷ replicate 27 0;
  memory = m;
  units = (sum ∷ 0 ∷ []) ∷ [];
}

abbrev at : (pc word : ℕ) → At
at pc word = record { pc = pc; word = word }

-- ---- one step

-- of an instruction of RV32IM
by-table : (x : Extension) (s : State) (word : ℕ) (i : Instr) (l : Retire) → word_at s.memory s.pc ≡ Some word → decoded word ≡ Some i
    → executed s.memory (at s.pc word) i (register_of s i.rs1) (register_of s i.rs2) ≡ Retired l → l.word ≡ word → next_state x s ≡ Some (moved s l s.units)
by-table x s word i l fetched e does same =
    let step : next_step x s ≡ Retired l = ap (fetched_outcome x s) fetched ∙ ap (decoded_outcome x s (at s.pc word)) e ∙ does in
    let units : units_after x s l.word ≡ s.units = ap (units_after x s) same ∙ ap (units_decoded x s word) e in
    ap (state_if_retired x s) step ∙ ap (λ u. Some (moved s l u)) units

-- of a word that the units take
by-unit : (x : Extension) (s : State) (word : ℕ) (hit : Hit) → word_at s.memory s.pc ≡ Some word → decoded word ≡ None → hit_of x.set x.params word ≡ Some hit
    → next_state x s ≡ Some (moved s (line_of (at s.pc word) (unit_write (rd_field word) hit.writeback.0 (unit_outcome x s word hit).result) None) (unit_outcome x s word hit).state)
by-unit x s word hit fetched e taken =
    let l : Retire = line_of (at s.pc word) (unit_write (rd_field word) hit.writeback.0 (unit_outcome x s word hit).result) None in
    let step : next_step x s ≡ Retired l =
    ap (fetched_outcome x s) fetched ∙ ap (decoded_outcome x s (at s.pc word)) e ∙ ap (offered_outcome x s (at s.pc word)) taken
    in
    let units : units_after x s word ≡ (unit_outcome x s word hit).state = ap (units_decoded x s word) e ∙ ap (units_offered x s word) taken in
    ap (state_if_retired x s) step ∙ ap (λ u. Some (moved s l u)) units

-- ---- the instructions

pub load-upper-x1 : (x : Extension) (m : Region) (b : ℕ) → b < 2 ^ 20 → word_at m 0 ≡ Some (lui_word 1 b)
    → next_state x (machine m 0 0 0 0 0 0) ≡ Some (machine m 4 (2 ^ 12 * b) 0 0 0 0)
load-upper-x1 x m b h fetched =
    by-table x (machine m 0 0 0 0 0 0) (lui_word 1 b) (lui 1 b) (line_of (at 0 (lui_word 1 b)) (write.One 1 (2 ^ 12 * b)) None) fetched (lui-is 1 b (omega arith) h) refl refl

pub load-lower-x1 : (x : Extension) (m : Region) (v b : ℕ) → b < 4096 → word_at m 4 ≡ Some (addi_word 1 b)
    → next_state x (machine m 4 v 0 0 0 0) ≡ Some (machine m 8 (wrapped (v + sign_extended 12 b)) 0 0 0 0)
load-lower-x1 x m v b h fetched =
    by-table x (machine m 4 v 0 0 0 0) (addi_word 1 b) (addi 1 b) (line_of (at 4 (addi_word 1 b)) (write.One 1 (wrapped (v + sign_extended 12 b))) None) fetched (addi-is 1 b (omega arith) h) refl refl

pub load-upper-x2 : (x : Extension) (m : Region) (x1 b : ℕ) → b < 2 ^ 20 → word_at m 8 ≡ Some (lui_word 2 b)
    → next_state x (machine m 8 x1 0 0 0 0) ≡ Some (machine m 12 x1 (2 ^ 12 * b) 0 0 0)
load-upper-x2 x m x1 b h fetched =
    by-table x (machine m 8 x1 0 0 0 0) (lui_word 2 b) (lui 2 b) (line_of (at 8 (lui_word 2 b)) (write.One 2 (2 ^ 12 * b)) None) fetched (lui-is 2 b (omega arith) h) refl refl

pub load-lower-x2 : (x : Extension) (m : Region) (x1 v b : ℕ) → b < 4096 → word_at m 12 ≡ Some (addi_word 2 b)
    → next_state x (machine m 12 x1 v 0 0 0) ≡ Some (machine m 16 x1 (wrapped (v + sign_extended 12 b)) 0 0 0)
load-lower-x2 x m x1 v b h fetched =
    by-table x (machine m 12 x1 v 0 0 0) (addi_word 2 b) (addi 2 b) (line_of (at 12 (addi_word 2 b)) (write.One 2 (wrapped (v + sign_extended 12 b))) None) fetched (addi-is 2 b (omega arith) h) refl refl

-- ---- a round

-- the entry of a number, with what it reads and writes
abbrev hit : (entry reads writes : ℕ) → Hit
hit entry reads writes = record {
  unit = 0;
  entry = entry;
  register_read = record { 0 = reads };
  writeback = record { 0 = writes };
}

add-decoded : decoded 65547 ≡ None
add-decoded = refl

add-taken : hit_of set params 65547 ≡ Some (hit 0 1 0)
add-taken = refl

pub accumulates : (m : Region) (x1 x2 sum : ℕ) → x2 < 2 ^ 32 → sum + x2 < 2 ^ 64 → word_at m 16 ≡ Some 65547
    → next_state extension (machine m 16 x1 x2 0 0 sum) ≡ Some (machine m 20 x1 x2 0 0 (sum + x2))
accumulates m x1 x2 sum h k fetched =
    let value : (sum + (x2 + 2 ^ 32 * 0) % 2 ^ 32) % 2 ^ 64 ≡ sum + x2 = omega arith in
    by-unit extension (machine m 16 x1 x2 0 0 sum) 65547 (hit 0 1 0) fetched add-decoded add-taken
    ∙ ap (λ v. Some (machine m 20 x1 x2 0 0 v)) value

count-decoded : decoded 4293951635 ≡ Some (instr_of 4293951635 Addi)
count-decoded = refl

pub counts-down : (x : Extension) (m : Region) (k x2 sum : ℕ) → k + 1 < 2 ^ 32 → word_at m 20 ≡ Some 4293951635
    → next_state x (machine m 20 (k + 1) x2 0 0 sum) ≡ Some (machine m 24 k x2 0 0 sum)
counts-down x m k x2 sum h fetched =
    let value : wrapped (k + 1 + 4294967295) ≡ k = omega arith in
    by-table x (machine m 20 (k + 1) x2 0 0 sum) 4293951635 (instr_of 4293951635 Addi)
    (line_of (at 20 4293951635) (write.One 1 (wrapped (k + 1 + 4294967295))) None) fetched count-decoded refl refl
    ∙ ap (λ v. Some (machine m 24 v x2 0 0 sum)) value

branch-decoded : decoded 4261453027 ≡ Some (instr_of 4261453027 Bne)
branch-decoded = refl

-- to the next round, or out of the loop
abbrev branch-line : (next : ℕ) → Retire
branch-line next = record {
  pc = 24;
  word = 4261453027;
  next = next;
  write = write.None;
  store = None;
}

abbrev place-by : (over : Bool) → ℕ
place-by over = if over then 28 else 16

branch-outcome : (over : Bool) → control_outcome (at 24 4261453027) (instr_of 4261453027 Bne) 0 (if not over then Go 16 else Go 28) ≡ Retired (branch-line (place-by over))
branch-outcome true = refl
branch-outcome false = refl

branches-by : (x : Extension) (m : Region) (k x2 sum : ℕ) (over : Bool) → (k == 0) ≡ over → word_at m 24 ≡ Some 4261453027
    → next_state x (machine m 24 k x2 0 0 sum) ≡ Some (machine m (place-by over) k x2 0 0 sum)
branches-by x m k x2 sum over e fetched =
    by-table x (machine m 24 k x2 0 0 sum) 4261453027 (instr_of 4261453027 Bne) (branch-line (place-by over)) fetched branch-decoded
    (ap (λ o. control_outcome (at 24 4261453027) (instr_of 4261453027 Bne) 0 (if not o then Go 16 else Go 28)) e ∙ branch-outcome over) refl

pub branches-on : (x : Extension) (m : Region) (x2 sum : ℕ) → word_at m 24 ≡ Some 4261453027
    → next_state x (machine m 24 0 x2 0 0 sum) ≡ Some (machine m 28 0 x2 0 0 sum)
branches-on x m x2 sum fetched = branches-by x m 0 x2 sum true refl fetched

pub branches-back : (x : Extension) (m : Region) (k x2 sum : ℕ) → word_at m 24 ≡ Some 4261453027
    → next_state x (machine m 24 (k + 1) x2 0 0 sum) ≡ Some (machine m 16 (k + 1) x2 0 0 sum)
branches-back x m k x2 sum fetched =
    let more : (k + 1 == 0) ≡ false = grind (arith, nat_tests) in
    branches-by x m (k + 1) x2 sum false more fetched

-- ---- the end

low-decoded : decoded 8587 ≡ None
low-decoded = refl

low-taken : hit_of set params 8587 ≡ Some (hit 2 0 1)
low-taken = refl

high-decoded : decoded 25099 ≡ None
high-decoded = refl

high-taken : hit_of set params 25099 ≡ Some (hit 6 0 1)
high-taken = refl

pub reads-low : (m : Region) (x1 x2 sum : ℕ) → word_at m 28 ≡ Some 8587
    → next_state extension (machine m 28 x1 x2 0 0 sum) ≡ Some (machine m 32 x1 x2 (sum % 2 ^ 32) 0 sum)
reads-low m x1 x2 sum fetched =
    let value : sum % 2 ^ 32 % 2 ^ 32 ≡ sum % 2 ^ 32 = omega arith in
    by-unit extension (machine m 28 x1 x2 0 0 sum) 8587 (hit 2 0 1) fetched low-decoded low-taken
    ∙ ap (λ v. Some (machine m 32 x1 x2 v 0 sum)) value

pub reads-high : (m : Region) (x1 x2 x3 sum : ℕ) → sum < 2 ^ 64 → word_at m 32 ≡ Some 25099
    → next_state extension (machine m 32 x1 x2 x3 0 sum) ≡ Some (machine m 36 x1 x2 x3 (sum / 2 ^ 32) sum)
reads-high m x1 x2 x3 sum h fetched =
    let value : sum / 2 ^ 32 % 2 ^ 32 ≡ sum / 2 ^ 32 = omega arith in
    by-unit extension (machine m 32 x1 x2 x3 0 sum) 25099 (hit 6 0 1) fetched high-decoded high-taken
    ∙ ap (λ v. Some (machine m 36 x1 x2 x3 v sum)) value

call-decoded : decoded 115 ≡ Some (instr_of 115 EcallRow)
call-decoded = refl

pub calls : (x : Extension) (m : Region) (x1 x2 x3 x4 sum : ℕ) → word_at m 36 ≡ Some 115
    → next_step x (machine m 36 x1 x2 x3 x4 sum) ≡ Stop Ecall
calls x m x1 x2 x3 x4 sum fetched =
    let s : State = machine m 36 x1 x2 x3 x4 sum in
    ap (fetched_outcome x s) fetched ∙ ap (decoded_outcome x s (at 36 115)) call-decoded
