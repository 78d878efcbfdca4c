-- The registers that an accepted word reads are among those that the core sends for it, where all of
-- them are here.
use Rattle.std.proofs.Common.{◌≡◌, ◌≤◌, ◌==◌, ◌&&◌, ◌++◌, ℕ, zero, suc, Bool, true, false, cond, not, List, [], ◌∷◌, map, Option, Some, None, refl, sym, ap, ◌∙◌, subst, arith}
use Rattle.std.specs.Prelude.{bit_and, bit_or, nat_lt, find, fold, max, min}
use Rattle.std.specs.List.{list_all}
use Rattle.std.specs.Option.{option_map, option_map_or}
use Rattle.std.specs.Int.{bit_at}
use Rattle.std.proofs.lemmas.Nat.{and_or_self, and_assoc, or_comm}
use Rattle.std.proofs.lemmas.Nat.Bits.{bit_at_or, bit_at_and, same_from_bits}
use Rattle.std.proofs.lemmas.Bool.{eq-eqb}
use Rattle.rv32_table.specs.Instr.{source_field}
use Rattle.xif_base.specs.declared.params.Params.{Params}
use Rattle.xif_base.specs.Flags.{even_bit, odd_bit}
use Rattle.coproc_config.specs.declared.operation.Reads.{Reads}
use Rattle.coproc_config.specs.declared.operation.Reads.TheVariants as reads
use Rattle.coproc_config.specs.Table.{operation_line, lanes_read, pairs_read}
use Rattle.coproc_config.specs.Set.{UnitTable, Place, places}
use Rattle.coproc_config.specs.Accept.{is_even, can_read, can_write, takes, flag_of, read_flags, hit_at, hit_of}
use Rattle.inorder_machine.specs.declared.units.Half.{Half}
use Rattle.inorder_machine.specs.declared.units.Half.TheVariants.{Low, High}
use Rattle.inorder_machine.specs.Units.{bit_of, half_register}
use Rattle.xif_session.specs.Tests.{is_within}
use Rattle.cycle_spec.specs.declared.entry.Entry.{Entry}
use Rattle.cycle_spec.specs.declared.entry.Operand.TheVariants.{Here, NotYet}
use Rattle.cycle_spec.specs.Flight.{older_than, operand_at, operand_behind, is_here}
use Rattle.cycle_spec.specs.State.{Core}
use Rattle.cycle_spec.specs.Choices.{is_late, has_half, half_value, half_flag, flags_of}
use Rattle.cycle_spec.specs.Engine.{register_read_of}
use Rattle.cycle_lists.specs.Lists.{Each}
use Rattle.cycle_lists.proofs.Tests.{and-left, and-right}
use Rattle.cycle_lists.proofs.Every.{Each-append}
use Rattle.cycle_lists.proofs.Places.{first-at}

-- ---- sets of flags

-- a set holds another
abbrev pub Within : (flags read : ℕ) → Type 0
Within flags read = bit_and flags read ≡ read

within-more : (a b c : ℕ) → Within a b → Within b c → Within a c
within-more a b c h k = ap (bit_and a) (sym k) ∙ sym (and_assoc c a b) ∙ ap (λ x. bit_and x c) h ∙ k

within-or : (a b c : ℕ) → Within a b → Within a c → Within a (bit_or b c)
within-or a b c h k = same_from_bits (bit_and a (bit_or b c)) (bit_or b c) bits
  where
    least : (x y z : ℕ) → min x y ≡ y → min x z ≡ z → min x (max y z) ≡ max y z
    least x y z p q = omega arith

    bits : (i : ℕ) → bit_at (bit_and a (bit_or b c)) i ≡ bit_at (bit_or b c) i
    bits i =
        bit_at_and a (bit_or b c) i ∙ ap (min (bit_at a i)) (bit_at_or b c i)
        ∙ least (bit_at a i) (bit_at b i) (bit_at c i) (sym (bit_at_and a b i) ∙ ap (λ x. bit_at x i) h) (sym (bit_at_and a c i) ∙ ap (λ x. bit_at x i) k)
        ∙ sym (bit_at_or b c i)

or-left : (a b : ℕ) → Within (bit_or a b) a
or-left a b = ap (λ x. bit_and x a) (or_comm a b) ∙ and_or_self a b

or-right : (a b : ℕ) → Within (bit_or a b) b
or-right a b = and_or_self b a

fold-first : (n : ℕ) (xs : List ℕ) → Within (fold bit_or n xs) n
fold-first n [] = same_from_bits (bit_and n n) n (λ i. bit_at_and n n i ∙ self (bit_at n i))
  where
    self : (x : ℕ) → min x x ≡ x
    self x = omega arith
fold-first n (x ∷ xs) = within-more (fold bit_or (bit_or n x) xs) (bit_or n x) n (fold-first (bit_or n x) xs) (or-left n x)

fold-at : (n : ℕ) (xs : List ℕ) (x : ℕ) (ys : List ℕ) → Within (fold bit_or n (xs ++ x ∷ ys)) x
fold-at n [] x ys = within-more (fold bit_or (bit_or n x) ys) (bit_or n x) x (fold-first (bit_or n x) ys) (or-right n x)
fold-at n (y ∷ xs) x ys = fold-at (bit_or n y) xs x ys

fold-within : (f n : ℕ) (xs : List ℕ) → Within f n → Each (Within f) xs → Within f (fold bit_or n xs)
fold-within f n [] h k = h
fold-within f n (x ∷ xs) h k = fold-within f (bit_or n x) xs (within-or f n x h k.0) k.1

-- ---- what a word reads

-- flags hold those of each half that a word may read
abbrev pub HoldsHalves : Params → (word flags : ℕ) → Type 0
HoldsHalves p word flags =
    (lane : ℕ) (half : Half) → lane ≤ 2 → has_half p word lane half ≡ true → Within flags (flag_of (bit_of p lane half))

all-each : (test : ℕ → Bool) (xs : List ℕ) → list_all test xs ≡ true → Each (λ x. test x ≡ true) xs
all-each test [] h = tt
all-each test (x ∷ xs) h = (and-left (test x) (list_all test xs) h, all-each test xs (and-right (test x) (list_all test xs) h))

each-both : (P Q : ℕ → Type 0) (f : ℕ → ℕ) (R : ℕ → Type 0) (xs : List ℕ) → ((x : ℕ) → P x → Q x → R (f x)) → Each P xs → Each Q xs → Each R (map f xs)
each-both P Q f R [] k p q = tt
each-both P Q f R (x ∷ xs) k p q = (k x p.0 q.0, each-both P Q f R xs k p.1 q.1)

small-lanes : (r : Reads) → Each (λ lane. lane ≤ 2) (lanes_read r)
small-lanes reads.Nothing = tt
small-lanes reads.A = (omega arith, tt)
small-lanes reads.AB = (omega arith, (omega arith, tt))
small-lanes reads.ABC = (omega arith, (omega arith, (omega arith, tt)))
small-lanes reads.PairA = (omega arith, tt)
small-lanes reads.PairAB = (omega arith, (omega arith, tt))

small-pairs : (r : Reads) → Each (λ lane. lane ≤ 2) (pairs_read r)
small-pairs reads.Nothing = tt
small-pairs reads.A = tt
small-pairs reads.AB = tt
small-pairs reads.ABC = tt
small-pairs reads.PairA = (omega arith, tt)
small-pairs reads.PairAB = (omega arith, (omega arith, tt))

and-nothing : (f : ℕ) → Within f 0
and-nothing f = same_from_bits (bit_and f 0) 0 (λ i. bit_at_and f 0 i ∙ none (bit_at f i) (bit_at 0 i) (zeros i) ∙ sym (zeros i))
  where
    zeros : (i : ℕ) → bit_at 0 i ≡ 0
    zeros i = omega arith

    none : (x y : ℕ) → y ≡ 0 → min x y ≡ 0
    none x y h = omega arith

reads-within : (p : Params) (word flags : ℕ) (r : Reads) → HoldsHalves p word flags → can_read p word r ≡ true → Within flags (read_flags p r)
reads-within p word flags r h c =
    let low = λ (lane : ℕ). flag_of (Some (even_bit p lane)) in
    let high = λ (lane : ℕ). flag_of (odd_bit p lane) in
    let a = all-each (λ lane. nat_lt lane p.num_rs) (lanes_read r) (and-left (list_all (λ lane. nat_lt lane p.num_rs) (lanes_read r)) (list_all (λ lane. nat_lt lane p.dual_read && is_even (source_field word lane)) (pairs_read r)) c) in
    let b = all-each (λ lane. nat_lt lane p.dual_read && is_even (source_field word lane)) (pairs_read r)
    (and-right (list_all (λ lane. nat_lt lane p.num_rs) (lanes_read r)) (list_all (λ lane. nat_lt lane p.dual_read && is_even (source_field word lane)) (pairs_read r)) c) in
    fold-within flags 0 (map low (lanes_read r) ++ map high (pairs_read r)) (and-nothing flags)
    (Each-append (Within flags) (map low (lanes_read r)) (map high (pairs_read r))
    (each-both (λ lane. lane ≤ 2) (λ lane. nat_lt lane p.num_rs ≡ true) low (Within flags) (lanes_read r) (λ lane s t. h lane Low s t) (small-lanes r) a)
    (each-both (λ lane. lane ≤ 2) (λ lane. (nat_lt lane p.dual_read && is_even (source_field word lane)) ≡ true) high (Within flags) (pairs_read r) (λ lane s t. h lane High s t) (small-pairs r) b))

within-test : (flags read : ℕ) → Within flags read → is_within read flags ≡ true
within-test flags read h = eq-eqb (bit_and flags read) read h

-- of a word that a unit takes, or none
pub hit-within : (set : List UnitTable) (p : Params) (word flags : ℕ) → HoldsHalves p word flags → is_within (register_read_of (hit_of set p word)) flags ≡ true
hit-within set p word flags h = go (find (λ place. takes p word place.row) (places set)) refl
  where
    go : (o : Option Place) → find (λ place. takes p word place.row) (places set) ≡ o → is_within (register_read_of (option_map (hit_at p) o)) flags ≡ true
    go None q = within-test flags 0 (and-nothing flags)
    go (Some place) q =
        let f = first-at (λ place. takes p word place.row) (places set) place q in
        let r = (operation_line place.row.op).reads in
        let w = (operation_line place.row.op).writes in
        let t = and-right (bit_and word place.row.mask == place.row.matched) (can_read p word r && can_write p word w) f.passes in
        within-test flags (read_flags p r) (reads-within p word flags r h (and-left (can_read p word r) (can_write p word w) t))

-- ---- what the core sends for the oldest entry

oldest-here : (w : Core) (e : Entry) (es : List Entry) → w.flight ≡ e ∷ es → (o : Option ℕ) → is_here (option_map_or (operand_at w.params.dual_write w.registers w.flight e.seq) o (Here 0)) ≡ true
oldest-here w e es f None = refl
oldest-here w e es f (Some r) = ap (λ l. is_here (operand_behind w.params.dual_write w.registers l r)) (ap (older_than e.seq) f ∙ ap (λ t. cond t [] (e ∷ older_than e.seq es)) (eq-eqb e.seq e.seq refl))

half-here : (w : Core) (e : Entry) (es : List Entry) (lane : ℕ) (half : Half) → w.flight ≡ e ∷ es → is_late w e ≡ false → has_half w.params e.word lane half ≡ true → half_flag w e lane half ≡ flag_of (bit_of w.params lane half)
half-here w e es lane half f l h =
    ap (λ t. cond (is_here (cond t (half_value w e lane half) NotYet)) (flag_of (bit_of w.params lane half)) 0) (ap (λ t. t && not (is_late w e && not (lane == 0))) h ∙ ap (λ t. not (t && not (lane == 0))) l)
    ∙ ap (λ t. cond t (flag_of (bit_of w.params lane half)) 0) (oldest-here w e es f (half_register (source_field e.word lane) half))

pub flags-hold : (w : Core) (e : Entry) (es : List Entry) → w.flight ≡ e ∷ es → is_late w e ≡ false → HoldsHalves w.params e.word (flags_of w e)
flags-hold w e es f l lane half small h = subst (Within (flags_of w e)) (half-here w e es lane half f l h) (at lane half small)
  where
    flag : ℕ → Half → ℕ
    flag lane half = half_flag w e lane half

    at : (lane : ℕ) (half : Half) → lane ≤ 2 → Within (flags_of w e) (flag lane half)
    at zero Low s = fold-at 0 [] (flag 0 Low) (flag 0 High ∷ flag 1 Low ∷ flag 1 High ∷ flag 2 Low ∷ flag 2 High ∷ [])
    at zero High s = fold-at 0 (flag 0 Low ∷ []) (flag 0 High) (flag 1 Low ∷ flag 1 High ∷ flag 2 Low ∷ flag 2 High ∷ [])
    at (suc zero) Low s = fold-at 0 (flag 0 Low ∷ flag 0 High ∷ []) (flag 1 Low) (flag 1 High ∷ flag 2 Low ∷ flag 2 High ∷ [])
    at (suc zero) High s = fold-at 0 (flag 0 Low ∷ flag 0 High ∷ flag 1 Low ∷ []) (flag 1 High) (flag 2 Low ∷ flag 2 High ∷ [])
    at (suc (suc zero)) Low s = fold-at 0 (flag 0 Low ∷ flag 0 High ∷ flag 1 Low ∷ flag 1 High ∷ []) (flag 2 Low) (flag 2 High ∷ [])
    at (suc (suc zero)) High s = fold-at 0 (flag 0 Low ∷ flag 0 High ∷ flag 1 Low ∷ flag 1 High ∷ flag 2 Low ∷ []) (flag 2 High) []
    at (suc (suc (suc n))) half s = absurd (omega arith)
