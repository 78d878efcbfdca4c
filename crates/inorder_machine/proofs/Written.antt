-- Which registers a line writes, and what it leaves of the others.
use Rattle.std.proofs.Common.{◌≡◌, ◌≢◌, ◌<◌, ◌+◌, ◌==◌, ◌&&◌, ◌++◌, ℕ, zero, suc, Bool, true, false, not, Option, Some, None, Result, Ok, Err, List, [], ◌∷◌, length, slice_index, set, Contains, refl, ap, sym, subst, ◌∙◌, arith, if◌then◌else◌}
use Rattle.std.specs.List.{list_all}
use Rattle.std.proofs.lemmas.List.{get_or-set_same, get_or-set_other}
use Rattle.std.proofs.Math.ListN.{length-set}
use Rattle.std.proofs.lemmas.Bool.Decides.{nat_tests}
use Rattle.rv32_table.specs.declared.rows.Row.{Row}
use Rattle.rv32_table.specs.declared.instr.Instr.{Instr}
use Rattle.rv32_table.specs.declared.control.Next.{Next}
use Rattle.rv32_table.specs.declared.control.Next.TheVariants.{Go, Misaligned}
use Rattle.rv32_table.specs.Table.{Meaning, Computes, Loads, Stores, Jumps, Branches, Fences, Stops, row_line, rows}
use Rattle.rv32_table.specs.Instr.{decoded, rd_field, target_of, access_of, value_of, next_of}
use Rattle.rv32_table.proofs.Distinct.{passes}
use Rattle.coproc_config.specs.declared.accept.Hit.{Hit}
use Rattle.coproc_config.specs.Accept.{hit_of}
use Rattle.coproc_config.specs.Bits.{low_half, high_half}
use Rattle.xif_image.specs.declared.memory.MemFault.{MemFault}
use Rattle.xif_image.specs.declared.memory.MemFault.TheVariants as fault
use Rattle.xif_image.specs.Region.{Region, word_at, loaded, fault_of}
use Rattle.inorder_machine.specs.declared.line.Retire.{Retire}
use Rattle.inorder_machine.specs.declared.line.Write.{Write}
use Rattle.inorder_machine.specs.declared.line.Write.TheVariants as write
use Rattle.inorder_machine.specs.declared.line.Store.{Store}
use Rattle.inorder_machine.specs.declared.line.Stepped.{Stepped}
use Rattle.inorder_machine.specs.declared.line.Stepped.TheVariants.{Retired, Stop}
use Rattle.inorder_machine.specs.Execute.{At, write_to, store_of, load_outcome, store_outcome, control_outcome, executed_by, executed}
use Rattle.inorder_machine.specs.Units.{has_flag, halves_write, unit_write}
use Rattle.inorder_machine.specs.Machine.{Extension, State, register_in, register_of, unit_outcome, offered_outcome, decoded_outcome, fetched_outcome, next_step, registers_after, state_after}
use Rattle.inorder_machine.specs.Registers.{written_by, list_of, list_if, writeback_targets, hit_targets, decoded_targets, targets_of, IsFile}
use Rattle.inorder_machine.proofs.Places.{IsAt, outcome-at}

-- a line that retires writes these registers
abbrev Writes : List ℕ → Stepped → Type 0
Writes registers (Retired l) = written_by l.write ≡ registers
Writes registers (Stop cause) = Unit {0}

written-write_to : (target : Option ℕ) (v : ℕ) → written_by (write_to target v) ≡ list_of target
written-write_to None v = refl
written-write_to (Some rd) v = refl

-- a row that only stores, or orders memory accesses, writes no register
abbrev is_silent : Meaning → Bool
is_silent (Stores width) = true
is_silent Fences = true
is_silent _ = false

abbrev has_no_target : Row → Bool
has_no_target r = not (is_silent (row_line r).meaning && (row_line r).writes)

all_silent : list_all has_no_target rows ≡ true
all_silent = refl

silent_writes : (silent writes : Bool) → not (silent && writes) ≡ true → silent ≡ true → writes ≡ false
silent_writes true true h s = absurd cc
silent_writes true false h s = refl
silent_writes false writes h s = absurd cc

silent-target : (i : Instr) → is_silent (row_line i.row).meaning ≡ true → target_of i ≡ None
silent-target i s =
    let w : (row_line i.row).writes ≡ false = silent_writes (is_silent (row_line i.row).meaning) (row_line i.row).writes (passes has_no_target all_silent i.row) s in
    ap (λ b. if b then (if i.rd == 0 then None else Some i.rd) else None) w

load-writes : (at : At) (i : Instr) (width : ℕ) (signed : Bool) (r : Result ℕ MemFault) → Writes (list_of (target_of i)) (load_outcome at i width signed r)
load-writes at i width signed (Ok v) = written-write_to (target_of i) _
load-writes at i width signed (Err fault.Outside) = tt

store-writes : (at : At) (i : Instr) (store : Store) (f : Option MemFault) → target_of i ≡ None → Writes (list_of (target_of i)) (store_outcome at store f)
store-writes at i store None e = ap list_of (sym e)
store-writes at i store (Some fault.Outside) e = tt

control-writes : (at : At) (i : Instr) (value : ℕ) (n : Next) → Writes (list_of (target_of i)) (control_outcome at i value n)
control-writes at i value (Go next) = written-write_to (target_of i) value
control-writes at i value (Misaligned target) = tt

executed_by-writes : (meaning : Meaning) (m : Region) (at : At) (i : Instr) (a b : ℕ) → (is_silent meaning ≡ true → target_of i ≡ None) → Writes (list_of (target_of i)) (executed_by meaning m at i a b)
executed_by-writes (Computes value) m at i a b h = written-write_to (target_of i) (value_of i a b at.pc)
executed_by-writes (Loads width signed) m at i a b h = load-writes at i width signed (loaded m (access_of i a).addr width)
executed_by-writes (Stores width) m at i a b h = store-writes at i (store_of (access_of i a).addr width b) (fault_of m (access_of i a).addr width) (h refl)
executed_by-writes (Jumps target) m at i a b h = control-writes at i (value_of i a b at.pc) (next_of i a b at.pc)
executed_by-writes (Branches taken) m at i a b h = control-writes at i (value_of i a b at.pc) (next_of i a b at.pc)
executed_by-writes Fences m at i a b h = ap list_of (sym (h refl))
executed_by-writes Stops m at i a b h = tt

executed-writes : (m : Region) (at : At) (i : Instr) (a b : ℕ) → Writes (list_of (target_of i)) (executed m at i a b)
executed-writes m at i a b = executed_by-writes (row_line i.row).meaning m at i a b (silent-target i)

written-tests : (zero low high : Bool) (rd value : ℕ)
    → written_by (if zero then write.None else halves_write low high rd value) ≡ (if zero then [] else list_if low rd ++ list_if high (rd + 1))
written-tests true low high rd value = refl
written-tests false false false rd value = refl
written-tests false true false rd value = refl
written-tests false false true rd value = refl
written-tests false true true rd value = refl

written-unit_write : (rd flags value : ℕ) → written_by (unit_write rd flags value) ≡ writeback_targets rd flags
written-unit_write rd flags value = written-tests (rd == 0) (has_flag flags 0) (has_flag flags 1) rd value

offered-writes : (x : Extension) (s : State) (at : At) (hit : Option Hit) → Writes (hit_targets at.word hit) (offered_outcome x s at hit)
offered-writes x s at None = tt
offered-writes x s at (Some hit) = written-unit_write (rd_field at.word) hit.writeback.0 (unit_outcome x s at.word hit).result

decoded-writes : (x : Extension) (s : State) (at : At) (i : Option Instr) → Writes (decoded_targets x at.word i) (decoded_outcome x s at i)
decoded-writes x s at None = offered-writes x s at (hit_of x.set x.params at.word)
decoded-writes x s at (Some i) = executed-writes s.memory at i (register_of s i.rs1) (register_of s i.rs2)

fetched-place : (x : Extension) (s : State) (o : Option ℕ) (l : Retire) → fetched_outcome x s o ≡ Retired l → (l.pc ≡ s.pc) × (o ≡ Some l.word)
fetched-place x s None l e = absurd cc
fetched-place x s (Some word) l e =
    let at : At = record { pc = s.pc; word = word } in
    let p : IsAt at (Retired l) = subst (IsAt at) e (outcome-at x s at) in
    (p.0, ap Some (sym p.1))

fetched-writes : (x : Extension) (s : State) (o : Option ℕ) (l : Retire) → fetched_outcome x s o ≡ Retired l → written_by l.write ≡ targets_of x l.word
fetched-writes x s None l e = absurd cc
fetched-writes x s (Some word) l e =
    let at : At = record { pc = s.pc; word = word } in
    let p : IsAt at (Retired l) = subst (IsAt at) e (outcome-at x s at) in
    let w : Writes (targets_of x word) (Retired l) = subst (Writes (targets_of x word)) e (decoded-writes x s at (decoded word)) in
    w ∙ ap (targets_of x) (sym p.1)

pub place : (x : Extension) (s : State) (l : Retire) → next_step x s ≡ Retired l → (l.pc ≡ s.pc) × (word_at s.memory s.pc ≡ Some l.word)
place x s l e = fetched-place x s (word_at s.memory s.pc) l e

pub written : (x : Extension) (s : State) (l : Retire) → next_step x s ≡ Retired l → written_by l.write ≡ targets_of x l.word
written x s l e = fetched-writes x s (word_at s.memory s.pc) l e

-- what a write doesn't name stays
apart : (r i : ℕ) (more : List ℕ) → ¬ Contains (r ∷ more) i → i ≢ r
apart r i more h e = h (0, omega arith, sym e)

behind : (r q i : ℕ) → ¬ Contains (r ∷ q ∷ []) i → i ≢ q
behind r q i h e = h (1, omega arith, sym e)

kept_entry : (registers : List ℕ) (w : Write) (i : ℕ) → ¬ Contains (written_by w) i → slice_index (registers_after registers w) i ≡ slice_index registers i
kept_entry registers write.None i h = refl
kept_entry registers (write.One rd v) i h = get_or-set_other registers rd i v 0 (apart rd i [] h)
kept_entry registers (write.Pair rd low high) i h =
    get_or-set_other (set registers rd low) (rd + 1) i high 0 (behind rd (rd + 1) i h)
    ∙ get_or-set_other registers rd i low 0 (apart rd i ((rd + 1) ∷ []) h)

pub others : (x : Extension) (s : State) (l : Retire) → next_step x s ≡ Retired l → (i : ℕ) → ¬ Contains (targets_of x l.word) i → register_of (state_after x s (Retired l)) i ≡ register_of s i
others x s l e i h =
    let named : ¬ Contains (written_by l.write) i = subst (λ rs. ¬ Contains rs i) (sym (written x s l e)) h in
    ap (λ v. if i == 0 then 0 else v) (kept_entry s.registers l.write i named)

-- what is written has its value
nonzero : (rd : ℕ) → 0 < rd → (rd == 0) ≡ false
nonzero rd some = grind (arith, nat_tests)

low_entry : (registers : List ℕ) (rd value : ℕ) (high : Bool) → rd < length registers → slice_index (registers_after registers (halves_write true high rd value)) rd ≡ low_half value
low_entry registers rd value false within = get_or-set_same registers rd (low_half value) 0 within
low_entry registers rd value true within =
    get_or-set_other (set registers rd (low_half value)) (rd + 1) rd (high_half value) 0 (λ e. omega (arith, e))
    ∙ get_or-set_same registers rd (low_half value) 0 within

high_entry : (registers : List ℕ) (rd value : ℕ) (low : Bool) → rd + 1 < length registers → slice_index (registers_after registers (halves_write low true rd value)) (rd + 1) ≡ high_half value
high_entry registers rd value false within = get_or-set_same registers (rd + 1) (high_half value) 0 within
high_entry registers rd value true within =
    get_or-set_same (set registers rd (low_half value)) (rd + 1) (high_half value) 0 (omega (arith, length-set registers rd (low_half value)))

-- a register other than x0 of what a write leaves, by the tests
entry_of : (registers : List ℕ) (rd i value : ℕ) (low high : Bool) → 0 < rd → 0 < i
    → register_in (registers_after registers (if rd == 0 then write.None else halves_write low high rd value)) i ≡ slice_index (registers_after registers (halves_write low high rd value)) i
entry_of registers rd i value low high some here =
    ap (λ b. register_in (registers_after registers (if b then write.None else halves_write low high rd value)) i) (nonzero rd some)
    ∙ ap (λ b. if b then 0 else slice_index (registers_after registers (halves_write low high rd value)) i) (nonzero i here)

pub written_low : (registers : List ℕ) (rd flags value : ℕ) → rd < length registers → has_flag flags 0 ≡ true → 0 < rd
    → register_in (registers_after registers (unit_write rd flags value)) rd ≡ low_half value
written_low registers rd flags value within low some =
    entry_of registers rd rd value (has_flag flags 0) (has_flag flags 1) some some
    ∙ ap (λ b. slice_index (registers_after registers (halves_write b (has_flag flags 1) rd value)) rd) low
    ∙ low_entry registers rd value (has_flag flags 1) within

pub written_high : (registers : List ℕ) (rd flags value : ℕ) → rd + 1 < length registers → has_flag flags 1 ≡ true → 0 < rd
    → register_in (registers_after registers (unit_write rd flags value)) (rd + 1) ≡ high_half value
written_high registers rd flags value within high some =
    entry_of registers rd (rd + 1) value (has_flag flags 0) (has_flag flags 1) some (omega arith)
    ∙ ap (λ b. slice_index (registers_after registers (halves_write (has_flag flags 0) b rd value)) (rd + 1)) high
    ∙ high_entry registers rd value (has_flag flags 0) within

-- x0 is no target
none_in : (i : ℕ) → ¬ Contains [] i
none_in i h = absurd (omega (arith, h.1))

in_one : (r i : ℕ) → Contains (r ∷ []) i → i ≡ r
in_one r i (zero, l, e) = sym e
in_one r i (suc k, l, e) = absurd (omega (arith, l))

in_two : (r q i : ℕ) → i ≢ r → i ≢ q → ¬ Contains (r ∷ q ∷ []) i
in_two r q i a b (zero, l, e) = a (sym e)
in_two r q i a b (suc zero, l, e) = b (sym e)
in_two r q i a b (suc (suc k), l, e) = absurd (omega (arith, l))

target-nonzero : (writes none : Bool) (rd : ℕ) → (rd == 0) ≡ none → ¬ Contains (list_of (if writes then (if none then None else Some rd) else None)) 0
target-nonzero true true rd e h = none_in 0 h
target-nonzero true false rd e h =
    let same : 0 ≡ rd = in_one rd 0 h in
    absurd (grind (arith, nat_tests))
target-nonzero false none rd e h = none_in 0 h

writeback-nonzero : (none low high : Bool) (rd : ℕ) → (rd == 0) ≡ none → ¬ Contains (if none then [] else list_if low rd ++ list_if high (rd + 1)) 0
writeback-nonzero true low high rd e h = none_in 0 h
writeback-nonzero false false false rd e h = none_in 0 h
writeback-nonzero false true false rd e h =
    let same : 0 ≡ rd = in_one rd 0 h in
    absurd (grind (arith, nat_tests))
writeback-nonzero false false true rd e h =
    let same : 0 ≡ rd + 1 = in_one (rd + 1) 0 h in
    absurd (omega arith)
writeback-nonzero false true true rd e h =
    let apart : 0 ≢ rd = (λ same. absurd (grind (arith, nat_tests))) in
    in_two rd (rd + 1) 0 apart (λ same. omega (arith, same)) h

hit-nonzero : (word : ℕ) (hit : Option Hit) → ¬ Contains (hit_targets word hit) 0
hit-nonzero word None h = none_in 0 h
hit-nonzero word (Some hit) h = writeback-nonzero (rd_field word == 0) (has_flag hit.writeback.0 0) (has_flag hit.writeback.0 1) (rd_field word) refl h

decoded-nonzero : (x : Extension) (word : ℕ) (i : Option Instr) → ¬ Contains (decoded_targets x word i) 0
decoded-nonzero x word None h = hit-nonzero word (hit_of x.set x.params word) h
decoded-nonzero x word (Some i) h = target-nonzero (row_line i.row).writes (i.rd == 0) i.rd refl h

-- the registers after a step
count_after : (registers : List ℕ) (w : Write) → length (registers_after registers w) ≡ length registers
count_after registers write.None = refl
count_after registers (write.One rd v) = length-set registers rd v
count_after registers (write.Pair rd low high) = length-set (set registers rd low) (rd + 1) high ∙ length-set registers rd low

file_after : (x : Extension) (s : State) (o : Stepped) → next_step x s ≡ o → IsFile s.registers → IsFile (state_after x s o).registers
file_after x s (Stop cause) e f = f
file_after x s (Retired l) e f =
    let named : ¬ Contains (written_by l.write) 0 = subst (λ rs. ¬ Contains rs 0) (sym (written x s l e)) (decoded-nonzero x l.word (decoded l.word)) in
    record {
      count = count_after s.registers l.write ∙ f.count;
      zero = kept_entry s.registers l.write 0 named ∙ f.zero;
    }

pub file_kept : (x : Extension) (s : State) → IsFile s.registers → IsFile (state_after x s (next_step x s)).registers
file_kept x s f = file_after x s (next_step x s) refl f
