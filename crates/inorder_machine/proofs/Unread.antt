-- What a word doesn't read doesn't count.
use Rattle.std.proofs.Common.{◌≡◌, ◌+◌, ◌*◌, ◌^◌, ◌⊎◌, ℕ, Bool, true, false, Option, Some, None, refl, ap, sym, ◌∙◌, inl, inr, if◌then◌else◌}
use Rattle.std.specs.Option.{option_map_or}
use Rattle.rv32_table.specs.declared.instr.Instr.{Instr}
use Rattle.rv32_table.specs.declared.instr.Kind.TheVariants.{Load, Store}
use Rattle.rv32_table.specs.Table.{Meaning, Computes, Loads, Stores, Jumps, Branches, Fences, Stops, Reads, ReadsNone, ReadsRs1, ReadsBoth, row_line}
use Rattle.rv32_table.specs.Instr.{decoded, rd_field, source_field, target_of, kind_by, kind_of, sources_by, sources_of, value_of, next_of}
use Rattle.xif_base.specs.declared.params.Params.{Params}
use Rattle.coproc_config.specs.declared.accept.Hit.{Hit}
use Rattle.coproc_config.specs.Accept.{hit_of}
use Rattle.coproc_config.specs.Apply.{applied}
use Rattle.xif_image.specs.Region.{Region, word_at}
use Rattle.inorder_machine.specs.declared.line.Stepped.TheVariants.{Retired}
use Rattle.inorder_machine.specs.declared.units.Half.{Half}
use Rattle.inorder_machine.specs.declared.units.Half.TheVariants.{Low, High}
use Rattle.inorder_machine.specs.Execute.{At, write_to, line_of, control_outcome, executed_by, executed}
use Rattle.inorder_machine.specs.Units.{is_read, half_register, half_of, lane_of, lane_values, unit_write}
use Rattle.inorder_machine.specs.Machine.{Extension, State, register_of, unit_outcome, offered_outcome, decoded_outcome, outcome_at, fetched_outcome, next_step, units_offered, units_decoded, units_after}
use Rattle.inorder_machine.specs.Registers.{ReadsByHalf, HitReads, DecodedReads, SameFor}

-- what the table says of operands that aren't read
pub record Ignores : Type 0 where
  pub rs1 : (i : Instr) → (sources_of i).0 ≡ None → (a other b pc : ℕ) → (value_of i a b pc ≡ value_of i other b pc) × (next_of i a b pc ≡ next_of i other b pc)
  pub rs2 : (i : Instr) → (sources_of i).1 ≡ None → (a b other pc : ℕ) → (value_of i a b pc ≡ value_of i a other pc) × (next_of i a b pc ≡ next_of i a other pc)
  pub load : (i : Instr) → kind_of i ≡ Load → (sources_of i).0 ≡ Some i.rs1
  pub store : (i : Instr) → kind_of i ≡ Store → sources_of i ≡ (Some i.rs1, Some i.rs2)

unread_rs1 : Ignores → (i : Instr) (meaning : Meaning) → (row_line i.row).meaning ≡ meaning → (sources_of i).0 ≡ None
    → (m : Region) (at : At) (a other b : ℕ) → executed_by meaning m at i a b ≡ executed_by meaning m at i other b
unread_rs1 g i (Computes value) e n m at a other b =
    ap (λ v. Retired (line_of at (write_to (target_of i) v) None)) (g.rs1 i n a other b at.pc).0
unread_rs1 g i (Loads width signed) e n m at a other b =
    let reads : (sources_of i).0 ≡ Some i.rs1 = g.load i (ap kind_by e) in
    absurd cc
unread_rs1 g i (Stores width) e n m at a other b =
    let reads : (sources_of i).0 ≡ Some i.rs1 = ap (λ s. s.0) (g.store i (ap kind_by e)) in
    absurd cc
unread_rs1 g i (Jumps target) e n m at a other b =
    let same = g.rs1 i n a other b at.pc in
    ap (λ v. control_outcome at i v (next_of i a b at.pc)) same.0 ∙ ap (control_outcome at i (value_of i other b at.pc)) same.1
unread_rs1 g i (Branches taken) e n m at a other b =
    let same = g.rs1 i n a other b at.pc in
    ap (λ v. control_outcome at i v (next_of i a b at.pc)) same.0 ∙ ap (control_outcome at i (value_of i other b at.pc)) same.1
unread_rs1 g i Fences e n m at a other b = refl
unread_rs1 g i Stops e n m at a other b = refl

unread_rs2 : Ignores → (i : Instr) (meaning : Meaning) → (row_line i.row).meaning ≡ meaning → (sources_of i).1 ≡ None
    → (m : Region) (at : At) (a b other : ℕ) → executed_by meaning m at i a b ≡ executed_by meaning m at i a other
unread_rs2 g i (Computes value) e n m at a b other =
    ap (λ v. Retired (line_of at (write_to (target_of i) v) None)) (g.rs2 i n a b other at.pc).0
unread_rs2 g i (Loads width signed) e n m at a b other = refl
unread_rs2 g i (Stores width) e n m at a b other =
    let reads : (sources_of i).1 ≡ Some i.rs2 = ap (λ s. s.1) (g.store i (ap kind_by e)) in
    absurd cc
unread_rs2 g i (Jumps target) e n m at a b other =
    let same = g.rs2 i n a b other at.pc in
    ap (λ v. control_outcome at i v (next_of i a b at.pc)) same.0 ∙ ap (control_outcome at i (value_of i a other at.pc)) same.1
unread_rs2 g i (Branches taken) e n m at a b other =
    let same = g.rs2 i n a b other at.pc in
    ap (λ v. control_outcome at i v (next_of i a b at.pc)) same.0 ∙ ap (control_outcome at i (value_of i a other at.pc)) same.1
unread_rs2 g i Fences e n m at a b other = refl
unread_rs2 g i Stops e n m at a b other = refl

-- a source is its field, or none
source_rs1 : (reads : Reads) (rs1 rs2 : ℕ) → ((sources_by reads rs1 rs2).0 ≡ None) ⊎ ((sources_by reads rs1 rs2).0 ≡ Some rs1)
source_rs1 ReadsNone rs1 rs2 = inl refl
source_rs1 ReadsRs1 rs1 rs2 = inr refl
source_rs1 ReadsBoth rs1 rs2 = inr refl

source_rs2 : (reads : Reads) (rs1 rs2 : ℕ) → ((sources_by reads rs1 rs2).1 ≡ None) ⊎ ((sources_by reads rs1 rs2).1 ≡ Some rs2)
source_rs2 ReadsNone rs1 rs2 = inl refl
source_rs2 ReadsRs1 rs1 rs2 = inl refl
source_rs2 ReadsBoth rs1 rs2 = inr refl

executed-same : Ignores → (m : Region) (at : At) (i : Instr) (f g : ℕ → ℕ)
    → ((r : ℕ) → ((sources_of i).0 ≡ Some r) ⊎ ((sources_of i).1 ≡ Some r) → f r ≡ g r)
    → executed m at i (f i.rs1) (f i.rs2) ≡ executed m at i (g i.rs1) (g i.rs2)
executed-same ignores m at i f g same =
    let reads = (row_line i.row).reads in
    let meaning = (row_line i.row).meaning in
    let first : executed m at i (f i.rs1) (f i.rs2) ≡ executed m at i (g i.rs1) (f i.rs2) = elim (source_rs1 reads i.rs1 i.rs2) [
      | inl n ↦ unread_rs1 ignores i meaning refl n m at (f i.rs1) (g i.rs1) (f i.rs2)
      | inr e ↦ ap (λ v. executed m at i v (f i.rs2)) (same i.rs1 (inl e))
    ] in
    let second : executed m at i (g i.rs1) (f i.rs2) ≡ executed m at i (g i.rs1) (g i.rs2) = elim (source_rs2 reads i.rs1 i.rs2) [
      | inl n ↦ unread_rs2 ignores i meaning refl n m at (g i.rs1) (f i.rs2) (g i.rs2)
      | inr e ↦ ap (executed m at i (g i.rs1)) (same i.rs2 (inr e))
    ] in
    first ∙ second

-- lanes by two readings that agree on what is read
carried-same : (f g : ℕ → ℕ) (read : Bool) (register : Option ℕ) → ((r : ℕ) → read ≡ true → register ≡ Some r → f r ≡ g r)
    → (if read then option_map_or f register 0 else 0) ≡ (if read then option_map_or g register 0 else 0)
carried-same f g false register same = refl
carried-same f g true None same = refl
carried-same f g true (Some r) same = same r refl refl

half-same : (p : Params) (f g : ℕ → ℕ) (word flags lane : ℕ) (half : Half) → ((r : ℕ) → ReadsByHalf p word flags r → f r ≡ g r)
    → half_of p f word flags lane half ≡ half_of p g word flags lane half
half-same p f g word flags lane half same =
    carried-same f g (is_read p flags lane half) (half_register (source_field word lane) half)
    (λ r read e. same r (record { lane = lane; half = half; read = read; carried = e }))

lane-same : (p : Params) (f g : ℕ → ℕ) (word flags lane : ℕ) → ((r : ℕ) → ReadsByHalf p word flags r → f r ≡ g r)
    → lane_of p f word flags lane ≡ lane_of p g word flags lane
lane-same p f g word flags lane same =
    ap (λ v. v + 2 ^ 32 * half_of p f word flags lane High) (half-same p f g word flags lane Low same)
    ∙ ap (λ v. half_of p g word flags lane Low + 2 ^ 32 * v) (half-same p f g word flags lane High same)

lanes-same : (p : Params) (f g : ℕ → ℕ) (word flags : ℕ) → ((r : ℕ) → ReadsByHalf p word flags r → f r ≡ g r)
    → lane_values p f word flags ≡ lane_values p g word flags
lanes-same p f g word flags same =
    let first = lane-same p f g word flags 0 same in
    let second = lane-same p f g word flags 1 same in
    let third = lane-same p f g word flags 2 same in
    cc

unit-same : (x : Extension) (s t : State) (word : ℕ) (hit : Hit) → t.units ≡ s.units
    → ((r : ℕ) → ReadsByHalf x.params word hit.register_read.0 r → register_of t r ≡ register_of s r)
    → unit_outcome x t word hit ≡ unit_outcome x s word hit
unit-same x s t word hit units same =
    ap (λ u. applied x.set hit u (lane_values x.params (register_of t) word hit.register_read.0)) units
    ∙ ap (applied x.set hit s.units) (lanes-same x.params (register_of t) (register_of s) word hit.register_read.0 same)

offered-same : (x : Extension) (s t : State) (at : At) (hit : Option Hit) → t.units ≡ s.units
    → ((r : ℕ) → HitReads x.params at.word r hit → register_of t r ≡ register_of s r)
    → offered_outcome x t at hit ≡ offered_outcome x s at hit
offered-same x s t at None units same = refl
offered-same x s t at (Some hit) units same =
    ap (λ o. Retired (line_of at (unit_write (rd_field at.word) hit.writeback.0 o.result) None)) (unit-same x s t at.word hit units same)

decoded-same : Ignores → (x : Extension) (s t : State) (at : At) (i : Option Instr) → t.units ≡ s.units → t.memory ≡ s.memory
    → ((r : ℕ) → DecodedReads x at.word r i → register_of t r ≡ register_of s r)
    → decoded_outcome x t at i ≡ decoded_outcome x s at i
decoded-same ignores x s t at None units memory same = offered-same x s t at (hit_of x.set x.params at.word) units same
decoded-same ignores x s t at (Some i) units memory same =
    ap (λ m. executed m at i (register_of t i.rs1) (register_of t i.rs2)) memory
    ∙ executed-same ignores s.memory at i (register_of t) (register_of s) same

pub outcome-same : Ignores → (x : Extension) (s t : State) (word : ℕ) → word_at s.memory s.pc ≡ Some word → SameFor x word s t → next_step x t ≡ next_step x s
outcome-same ignores x s t word e same =
    let there : word_at t.memory t.pc ≡ word_at s.memory s.pc = ap (λ m. word_at m t.pc) same.memory ∙ ap (word_at s.memory) same.pc in
    ap (fetched_outcome x t) (there ∙ e)
    ∙ ap (λ pc. outcome_at x t (record { pc = pc; word = word })) same.pc
    ∙ decoded-same ignores x s t (record { pc = s.pc; word = word }) (decoded word) same.units same.memory same.registers
    ∙ sym (ap (fetched_outcome x s) e)

units_offered-same : (x : Extension) (s t : State) (word : ℕ) (hit : Option Hit) → t.units ≡ s.units
    → ((r : ℕ) → HitReads x.params word r hit → register_of t r ≡ register_of s r)
    → units_offered x t word hit ≡ units_offered x s word hit
units_offered-same x s t word None units same = units
units_offered-same x s t word (Some hit) units same = ap (λ o. o.state) (unit-same x s t word hit units same)

units_decoded-same : (x : Extension) (s t : State) (word : ℕ) (i : Option Instr) → t.units ≡ s.units
    → ((r : ℕ) → DecodedReads x word r i → register_of t r ≡ register_of s r)
    → units_decoded x t word i ≡ units_decoded x s word i
units_decoded-same x s t word None units same = units_offered-same x s t word (hit_of x.set x.params word) units same
units_decoded-same x s t word (Some i) units same = units

pub units-same : (x : Extension) (s t : State) (word : ℕ) → SameFor x word s t → units_after x t word ≡ units_after x s word
units-same x s t word same = units_decoded-same x s t word (decoded word) same.units same.registers
