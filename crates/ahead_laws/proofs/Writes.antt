-- What a line writes is within what its word may write.
use Rattle.std.proofs.Common.{◌≡◌, ◌≢◌, ◌<◌, ◌⊎◌, ◌||◌, ◌&&◌, ◌+◌, ◌%◌, ◌==◌, ℕ, Bool, true, false, not, Option, Some, None, Result, Ok, Err, List, length, slice_index, set, refl, sym, ap, subst, ◌∙◌, inl, inr, arith, if◌then◌else◌}
use Rattle.std.specs.List.{list_all}
use Rattle.std.specs.Option.{option_map_or}
use Rattle.std.proofs.lemmas.Bool.{eqb-true, eqb-false, eq-eqb}
use Rattle.std.proofs.lemmas.List.{get_or-set_same, get_or-set_other}
use Rattle.std.proofs.Math.ListN.{length-set}
use Rattle.rv32_table.specs.declared.rows.Row.{Row}
use Rattle.rv32_table.specs.declared.instr.Instr.{Instr}
use Rattle.rv32_table.specs.declared.control.Next.{Next}
use Rattle.rv32_table.specs.declared.control.Next.TheVariants.{Go, Misaligned}
use Rattle.rv32_table.specs.Table.{Meaning, Computes, Loads, Stores, Jumps, Branches, Fences, Stops, row_line, rows}
use Rattle.rv32_table.specs.Instr.{target_of, access_of, value_of, next_of, NamesRegisters}
use Rattle.rv32_table.proofs.Distinct.{passes}
use Rattle.xif_image.specs.declared.memory.MemFault.{MemFault}
use Rattle.xif_image.specs.declared.memory.MemFault.TheVariants as fault
use Rattle.xif_image.specs.Region.{Region, loaded, fault_of}
use Rattle.coproc_config.specs.Bits.{low_half, high_half}
use Rattle.inorder_machine.specs.declared.line.Retire.{Retire}
use Rattle.inorder_machine.specs.declared.line.Store.{Store}
use Rattle.inorder_machine.specs.declared.line.Stepped.{Stepped}
use Rattle.inorder_machine.specs.declared.line.Stepped.TheVariants.{Retired}
use Rattle.inorder_machine.specs.declared.line.Write.{Write}
use Rattle.inorder_machine.specs.declared.line.Write.TheVariants as write
use Rattle.inorder_machine.specs.Execute.{At, write_to, store_of, load_outcome, store_outcome, control_outcome, executed_by, executed}
use Rattle.inorder_machine.specs.Lines.{IfRetired}
use Rattle.inorder_machine.specs.Machine.{registers_after}
use Rattle.inorder_machine.specs.Units.{has_flag, halves_write, unit_write}
use Rattle.xif_session.specs.declared.fact.Response.{Response}
use Rattle.cycle_spec.specs.Flight.{may_write_word, value_in}

-- a register other than x0 after a write, which may be to it or not
pub record Within (may : Bool) (r : ℕ) (registers : List ℕ) (w : Write) : Type 0 where
  pub stays : may ≡ false → slice_index (registers_after registers w) r ≡ slice_index registers r
  pub shows : may ≡ true → slice_index (registers_after registers w) r ≡ value_in w r

-- a write leaves as many registers
pub count-after : (registers : List ℕ) (w : Write) → length (registers_after registers w) ≡ length registers
count-after registers write.None = refl
count-after registers (write.One rd v) = length-set registers rd v
count-after registers (write.Pair rd low high) = length-set (set registers rd low) (rd + 1) high ∙ length-set registers rd low

no-write : (r : ℕ) (registers : List ℕ) → Within false r registers write.None
no-write r registers = record { stays = λ h. refl; shows = λ h. cc }

one-write : (rd v r : ℕ) (registers : List ℕ) → rd < length registers → Within (rd == r) r registers (write.One rd v)
one-write rd v r registers within = record {
  stays = λ h. get_or-set_other registers rd r v 0 (λ e. eqb-false rd r h (sym e));
  shows = λ h. subst (λ n. slice_index (set registers rd v) n ≡ v) (eqb-true rd r h) (get_or-set_same registers rd v 0 within);
}

-- ---- an instruction of RV32IM

abbrev pub is_target : Option ℕ → ℕ → Bool
is_target target r = option_map_or (λ rd. rd == r) target false

abbrev Writing : Option ℕ → ℕ → List ℕ → Stepped → Type 0
Writing target r registers o = IfRetired o (λ l. Within (is_target target r) r registers l.write)

target-write : (target : Option ℕ) (v r : ℕ) (registers : List ℕ) → ((rd : ℕ) → target ≡ Some rd → rd < length registers) → Within (is_target target r) r registers (write_to target v)
target-write None v r registers h = no-write r registers
target-write (Some rd) v r registers h = one-write rd v r registers (h rd refl)

none-write : (target : Option ℕ) (r : ℕ) (registers : List ℕ) → target ≡ None → Within (is_target target r) r registers write.None
none-write target r registers e = subst (λ t. Within (is_target t r) r registers write.None) (sym e) (no-write r registers)

-- a row that only stores, or orders memory accesses, writes no register
abbrev is_silent : Meaning → Bool
is_silent (Stores width) = true
is_silent Fences = true
is_silent _ = false

abbrev has_no_target : Row → Bool
has_no_target r = not (is_silent (row_line r).meaning && (row_line r).writes)

all_silent : list_all has_no_target rows ≡ true
all_silent = refl

silent-writes : (silent writes : Bool) → not (silent && writes) ≡ true → silent ≡ true → writes ≡ false
silent-writes true true h s = absurd cc
silent-writes true false h s = refl
silent-writes false writes h s = absurd cc

silent-target : (i : Instr) → is_silent (row_line i.row).meaning ≡ true → target_of i ≡ None
silent-target i s =
    let w : (row_line i.row).writes ≡ false = silent-writes (is_silent (row_line i.row).meaning) (row_line i.row).writes (passes has_no_target all_silent i.row) s in
    ap (λ b. if b then (if i.rd == 0 then None else Some i.rd) else None) w

target-register : (i : Instr) (rd : ℕ) → target_of i ≡ Some rd → rd ≡ i.rd
target-register i rd h = go (row_line i.row).writes (i.rd == 0) h
  where
    go : (writes zero : Bool) → (if writes then (if zero then None else Some i.rd) else None) ≡ Some rd → rd ≡ i.rd
    go true true h = absurd cc
    go true false h = cc
    go false zero h = absurd cc

module _ (i : Instr) (r : ℕ) (registers : List ℕ) (named : (rd : ℕ) → target_of i ≡ Some rd → rd < length registers) where
  load-writing : (at : At) (width : ℕ) (signed : Bool) (o : Result ℕ MemFault) → Writing (target_of i) r registers (load_outcome at i width signed o)
  load-writing at width signed (Ok v) = target-write (target_of i) _ r registers named
  load-writing at width signed (Err fault.Outside) = tt

  store-writing : (at : At) (store : Store) (f : Option MemFault) → target_of i ≡ None → Writing (target_of i) r registers (store_outcome at store f)
  store-writing at store None e = none-write (target_of i) r registers e
  store-writing at store (Some fault.Outside) e = tt

  control-writing : (at : At) (value : ℕ) (n : Next) → Writing (target_of i) r registers (control_outcome at i value n)
  control-writing at value (Go next) = target-write (target_of i) value r registers named
  control-writing at value (Misaligned target) = tt

  writing_by : (meaning : Meaning) (m : Region) (at : At) (a b : ℕ) → (is_silent meaning ≡ true → target_of i ≡ None) → Writing (target_of i) r registers (executed_by meaning m at i a b)
  writing_by (Computes value) m at a b h = target-write (target_of i) (value_of i a b at.pc) r registers named
  writing_by (Loads width signed) m at a b h = load-writing at width signed (loaded m (access_of i a).addr width)
  writing_by (Stores width) m at a b h = store-writing at (store_of (access_of i a).addr width b) (fault_of m (access_of i a).addr width) (h refl)
  writing_by (Jumps target) m at a b h = control-writing at (value_of i a b at.pc) (next_of i a b at.pc)
  writing_by (Branches taken) m at a b h = control-writing at (value_of i a b at.pc) (next_of i a b at.pc)
  writing_by Fences m at a b h = none-write (target_of i) r registers (h refl)
  writing_by Stops m at a b h = tt

-- what an instruction of RV32IM writes is its target
pub row-writes : (m : Region) (at : At) (i : Instr) (a b r : ℕ) (registers : List ℕ) (l : Retire) → NamesRegisters i → length registers ≡ 32 → executed m at i a b ≡ Retired l → Within (is_target (target_of i) r) r registers l.write
row-writes m at i a b r registers l names count e =
    let named : (rd : ℕ) → target_of i ≡ Some rd → rd < length registers = (λ rd h. omega (arith, target-register i rd h, names.rd, count)) in
    subst (Writing (target_of i) r registers) e (writing_by i r registers named (row_line i.row).meaning m at a b (silent-target i))

-- ---- a word of a coprocessor

halves-stay : (zero low high : Bool) (rd v r : ℕ) (registers : List ℕ) → (low ≡ true → r ≢ rd) → (high ≡ true → r ≢ rd + 1)
    → slice_index (registers_after registers (if zero then write.None else halves_write low high rd v)) r ≡ slice_index registers r
halves-stay true low high rd v r registers f g = refl
halves-stay false false false rd v r registers f g = refl
halves-stay false true false rd v r registers f g = get_or-set_other registers rd r (low_half v) 0 (f refl)
halves-stay false false true rd v r registers f g = get_or-set_other registers (rd + 1) r (high_half v) 0 (g refl)
halves-stay false true true rd v r registers f g =
    get_or-set_other (set registers rd (low_half v)) (rd + 1) r (high_half v) 0 (g refl) ∙ get_or-set_other registers rd r (low_half v) 0 (f refl)

-- before the response
pub unanswered-stays : (dual : Bool) (rd flags v r : ℕ) (registers : List ℕ) → (flags ≡ 0) ⊎ ((flags ≡ 1) ⊎ (flags ≡ 3)) → (flags ≡ 3 → (dual ≡ true) × (rd % 2 ≡ 0)) → may_write_word dual None rd r ≡ false
    → slice_index (registers_after registers (unit_write rd flags v)) r ≡ slice_index registers r
unanswered-stays dual rd flags v r registers kinds pairs h =
    halves-stay (rd == 0) (has_flag flags 0) (has_flag flags 1) rd v r registers (λ _. first (r == rd) refl) (λ t. second kinds t)
  where
    first : (b : Bool) → (r == rd) ≡ b → r ≢ rd
    first true e same = cc
    first false e same = eqb-false r rd e same

    second : (flags ≡ 0) ⊎ ((flags ≡ 1) ⊎ (flags ≡ 3)) → has_flag flags 1 ≡ true → r ≢ rd + 1
    second (inl z) t same = no (subst (λ f. has_flag f 1 ≡ true) z t)
      where
        no : has_flag 0 1 ≡ true → ⊥
        no t = cc
    second (inr (inl z)) t same = no (subst (λ f. has_flag f 1 ≡ true) z t)
      where
        no : has_flag 1 1 ≡ true → ⊥
        no t = cc
    second (inr (inr z)) t same =
        let both = pairs z in
        no (eq-eqb (rd % 2) 0 both.1) both.0 (eq-eqb r (rd + 1) same) (r == rd) h
      where
        no : (rd % 2 == 0) ≡ true → dual ≡ true → (r == rd + 1) ≡ true → (b : Bool) → (b || (dual && ((rd % 2 == 0) && (r == rd + 1)))) ≡ false → ⊥
        no e d s true k = cc
        no e d s false k =
            let all : (dual && ((rd % 2 == 0) && (r == rd + 1))) ≡ true = ap (λ b. b && ((rd % 2 == 0) && (r == rd + 1))) d ∙ ap (λ b. b && (r == rd + 1)) e ∙ s in
            cc

halves-show : (zero low high : Bool) (rd v r : ℕ) (registers : List ℕ) → rd < length registers → (high ≡ true → rd + 1 < length registers)
    → Within (not zero && ((low && (r == rd)) || (high && (r == rd + 1)))) r registers (if zero then write.None else halves_write low high rd v)
halves-show true low high rd v r registers one two = no-write r registers
halves-show false false false rd v r registers one two = no-write r registers
halves-show false true false rd v r registers one two = go (r == rd) refl
  where
    go : (t : Bool) → (r == rd) ≡ t → Within (t || false) r registers (write.One rd (low_half v))
    go true e = record {
      stays = λ h. cc;
      shows = λ h. subst (λ n. slice_index (set registers rd (low_half v)) n ≡ low_half v) (sym (eqb-true r rd e)) (get_or-set_same registers rd (low_half v) 0 one);
    }
    go false e = record { stays = λ h. get_or-set_other registers rd r (low_half v) 0 (eqb-false r rd e); shows = λ h. cc }
halves-show false false true rd v r registers one two = go (r == rd + 1) refl
  where
    go : (t : Bool) → (r == rd + 1) ≡ t → Within t r registers (write.One (rd + 1) (high_half v))
    go true e = record {
      stays = λ h. cc;
      shows = λ h. subst (λ n. slice_index (set registers (rd + 1) (high_half v)) n ≡ high_half v) (sym (eqb-true r (rd + 1) e)) (get_or-set_same registers (rd + 1) (high_half v) 0 (two refl));
    }
    go false e = record { stays = λ h. get_or-set_other registers (rd + 1) r (high_half v) 0 (eqb-false r (rd + 1) e); shows = λ h. cc }
halves-show false true true rd v r registers one two = go (r == rd) refl (r == rd + 1) refl
  where
    first : List ℕ
    first = set registers rd (low_half v)

    go : (t : Bool) → (r == rd) ≡ t → (q : Bool) → (r == rd + 1) ≡ q → Within (t || q) r registers (write.Pair rd (low_half v) (high_half v))
    go true e q f = record {
      stays = λ h. cc;
      shows = λ h.
          let same : r ≡ rd = eqb-true r rd e in
          get_or-set_other first (rd + 1) r (high_half v) 0 (λ k. omega (arith, same, k))
          ∙ subst (λ n. slice_index first n ≡ low_half v) (sym same) (get_or-set_same registers rd (low_half v) 0 one)
          ∙ sym (ap (λ b. if b then low_half v else high_half v) e);
    }
    go false e true f = record {
      stays = λ h. cc;
      shows = λ h.
          let there : rd + 1 < length first = omega (arith, two refl, length-set registers rd (low_half v)) in
          subst (λ n. slice_index (set first (rd + 1) (high_half v)) n ≡ high_half v) (sym (eqb-true r (rd + 1) f)) (get_or-set_same first (rd + 1) (high_half v) 0 there)
          ∙ sym (ap (λ b. if b then low_half v else high_half v) e);
    }
    go false e false f = record {
      stays = λ h. get_or-set_other first (rd + 1) r (high_half v) 0 (eqb-false r (rd + 1) f) ∙ get_or-set_other registers rd r (low_half v) 0 (eqb-false r rd e);
      shows = λ h. cc;
    }

-- behind the response
pub answered-writes : (dual : Bool) (response : Response) (rd v r : ℕ) (registers : List ℕ) → rd < 32 → (has_flag response.writeback.0 1 ≡ true → rd % 2 ≡ 0) → length registers ≡ 32
    → Within (may_write_word dual (Some response) rd r) r registers (unit_write rd response.writeback.0 v)
answered-writes dual response rd v r registers small even count =
    halves-show (rd == 0) (has_flag response.writeback.0 0) (has_flag response.writeback.0 1) rd v r registers (omega (arith, small, count)) (λ t. omega (arith, small, count, even t))
