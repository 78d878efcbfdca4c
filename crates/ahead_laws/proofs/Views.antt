-- A register behind instructions in flight is what the in-order machine has there.
use Rattle.std.proofs.Common.{◌≡◌, ◌<◌, ◌⊎◌, ◌&&◌, ◌%◌, ◌==◌, ℕ, Bool, true, false, not, Option, Some, None, List, [], ◌∷◌, length, slice_index, refl, sym, ap, subst, ◌∙◌, inl, inr, arith, if◌then◌else◌}
use Rattle.std.specs.List.{filter, last_or}
use Rattle.std.proofs.lemmas.Bool.{eqb-true}
use Rattle.std.specs.Option.{option_map_or}
use Rattle.rv32_table.specs.Instr.{rd_field, source_field}
use Rattle.xif_base.specs.declared.params.Params.{Params}
use Rattle.xif_base.specs.Params.{IsInRange}
use Rattle.xif_image.specs.Region.{Region}
use Rattle.coproc_config.specs.declared.accept.Hit.{Hit}
use Rattle.coproc_config.specs.Accept.{IsAllowed}
use Rattle.inorder_machine.specs.declared.line.Retire.{Retire}
use Rattle.inorder_machine.specs.declared.line.Stepped.{Stepped}
use Rattle.inorder_machine.specs.declared.line.Stepped.TheVariants.{Retired, Stop}
use Rattle.inorder_machine.specs.declared.line.Write.{Write}
use Rattle.inorder_machine.specs.declared.units.Half.{Half}
use Rattle.inorder_machine.specs.Units.{has_flag, unit_write, half_register}
use Rattle.inorder_machine.specs.Machine.{Extension, State, register_of, registers_after, taken, state_after}
use Rattle.xif_session.specs.declared.fact.Response.{Response}
use Rattle.xif_session.specs.Facts.{is_accepted}
use Rattle.cycle_spec.specs.declared.entry.Entry.{Entry}
use Rattle.cycle_spec.specs.declared.entry.EntryKind.{EntryKind}
use Rattle.cycle_spec.specs.declared.entry.EntryKind.TheVariants.{Local, Unknown, Nowhere}
use Rattle.cycle_spec.specs.declared.entry.Operand.{Operand}
use Rattle.cycle_spec.specs.declared.entry.Operand.TheVariants.{Here, NotYet}
use Rattle.cycle_spec.specs.Flight.{is_unknown_kind, may_write_word, may_write_kind, may_write, value_in, operand_from, operand_behind, source_behind}
use Rattle.cycle_spec.specs.Core.{line_of}
use Rattle.cycle_spec.specs.Engine.{writeback_of}
use Rattle.ahead_spec.specs.Walk.{Item, entries, outcome, stepped, along, Walked}
use Rattle.ahead_spec.specs.Operands.{word_hit, response_of, unit_step, half_in, half_behind}
use Rattle.ahead_spec.specs.Invariant.{Agrees}
use Rattle.ahead_laws.proofs.Rows.{decoded-registers}
use Rattle.ahead_laws.proofs.Sources.{if_read}
use Rattle.ahead_laws.proofs.Writes.{Within, count-after, row-writes, unanswered-stays, answered-writes}
use Rattle.ahead_laws.proofs.Hits.{hit-allowed}
use Rattle.ahead_laws.proofs.Outcomes.{outcome-nowhere, retired-taken, entry-local, entry-unknown, entry-outcome-local}

-- ---- one instruction in flight

-- a register after its line: it stays where the instruction can't write it, and once the instruction
-- is done it has what the line writes
record Shows (may done : Bool) (r : ℕ) (registers : List ℕ) (w : Write) : Type 0 where
  stays : may ≡ false → slice_index (registers_after registers w) r ≡ slice_index registers r
  shows : done ≡ true → may ≡ true → slice_index (registers_after registers w) r ≡ value_in w r

-- a pair begins at an even register
even-pair : (p : Params) (word : ℕ) (hit : Hit) → IsAllowed p word hit → has_flag hit.writeback.0 1 ≡ true → rd_field word % 2 ≡ 0
even-pair p word hit a t = go a.writes
  where
    none : (flags : ℕ) → hit.writeback.0 ≡ flags → has_flag flags 1 ≡ true
    none flags z = ap (λ f. has_flag f 1) (sym z) ∙ t

    zero_flag : has_flag 0 1 ≡ true → ⊥
    zero_flag h = cc

    one_flag : has_flag 1 1 ≡ true → ⊥
    one_flag h = cc

    go : (hit.writeback.0 ≡ 0) ⊎ ((hit.writeback.0 ≡ 1) ⊎ (hit.writeback.0 ≡ 3)) → rd_field word % 2 ≡ 0
    go (inl z) = absurd (zero_flag (none 0 z))
    go (inr (inl z)) = absurd (one_flag (none 1 z))
    go (inr (inr z)) = (a.write_pairs z).1

rd-small : (word : ℕ) → rd_field word < 32
rd-small word = omega arith

use-shows : (p : Params) (word : ℕ) (hit : Hit) (response : Option Response) (done : Bool) (v r : ℕ) (registers : List ℕ) → IsAllowed p word hit → length registers ≡ 32
    → (done ≡ true → is_accepted response ≡ true) → ((a : Response) → response ≡ Some a → a ≡ response_of (Some hit))
    → Shows (may_write_word p.dual_write response (rd_field word) r) done r registers (unit_write (rd_field word) hit.writeback.0 v)
use-shows p word hit None done v r registers a n d k = record {
  stays = λ m. unanswered-stays p.dual_write (rd_field word) hit.writeback.0 v r registers a.writes a.write_pairs m;
  shows = λ q m. absurd (no (d q));
}
  where
    no : is_accepted None ≡ true → ⊥
    no h = cc
use-shows p word hit (Some response) done v r registers a n d k =
    let same : response.writeback.0 ≡ hit.writeback.0 = ap (λ q. q.writeback.0) (k response refl) in
    let even = λ (t : has_flag response.writeback.0 1 ≡ true). even-pair p word hit a (ap (λ f. has_flag f 1) (sym same) ∙ t) in
    let w = answered-writes p.dual_write response (rd_field word) v r registers (rd-small word) even n in
    let w' : Within (may_write_word p.dual_write (Some response) (rd_field word) r) r registers (unit_write (rd_field word) hit.writeback.0 v) =
    subst (λ f. Within (may_write_word p.dual_write (Some response) (rd_field word) r) r registers (unit_write (rd_field word) f v)) same w in
    record { stays = w'.stays; shows = λ q m. w'.shows m }

line-shows : (x : Extension) (memory : Region) (s : State) (y : Item) (l : Retire) (r : ℕ) (k : EntryKind) → IsInRange x.params → y.entry.kind ≡ k → length s.registers ≡ 32 → Agrees x memory s y
    → outcome x s y.entry.pc y.entry.kind y.entry.word ≡ Retired l → Shows (may_write_kind x.params.dual_write k y.entry r) y.entry.done r s.registers l.write
line-shows x memory s y l r (Local i) range e n g h =
    let w = row-writes s.memory (record { pc = y.entry.pc; word = y.entry.word }) i (register_of s i.rs1) (register_of s i.rs2) r s.registers l (decoded-registers y.entry.word i (entry-local x memory s y i g e)) n (sym (entry-outcome-local x memory s y i g e) ∙ h) in
    record { stays = w.stays; shows = λ q m. w.shows m }
line-shows x memory s y l r Unknown range e n g h =
    let word = y.entry.word in
    let t = retired-taken x s y.entry.pc word l (entry-unknown x memory s y g e) (sym (ap (λ q. outcome x s y.entry.pc q word) e) ∙ h) in
    let hit = t.0 in
    let there : word_hit x word ≡ Some hit = t.1 in
    let unknown : is_unknown_kind y.entry.kind ≡ true = ap is_unknown_kind e in
    let w = use-shows x.params word hit y.entry.response y.entry.done (unit_step x s word).result r s.registers (hit-allowed x.set x.params word hit range there) n
    (λ d. g.released_is (g.result_when (g.done_when d unknown))) (λ a q. (g.response_is a q).1 ∙ ap response_of there) in
    let write : l.write ≡ unit_write (rd_field word) hit.writeback.0 (unit_step x s word).result =
    ap (λ k. k.write) t.2 ∙ ap (λ o. unit_write (rd_field word) (writeback_of o) (unit_step x s word).result) there in
    subst (Shows (may_write_word x.params.dual_write y.entry.response (rd_field word) r) y.entry.done r s.registers) (sym write) w
line-shows x memory s y l r Nowhere range e n g h = absurd (no (sym (ap (λ q. outcome x s y.entry.pc q y.entry.word) e ∙ outcome-nowhere x s y.entry.pc y.entry.word) ∙ h))
  where
    no : {c : _} → Stop c ≡ Retired l → ⊥
    no k = cc

-- a register other than x0 in the state behind the instruction
record ShowsBehind (may done : Bool) (r : ℕ) (w : Write) (s t : State) : Type 0 where
  stays : may ≡ false → register_of t r ≡ register_of s r
  shows : done ≡ true → may ≡ true → register_of t r ≡ value_in w r
  count : length t.registers ≡ 32

nonzero : (r v : ℕ) → (r == 0) ≡ false → (if r == 0 then 0 else v) ≡ v
nonzero r v z = ap (λ b. if b then 0 else v) z

may-kind : (dual : Bool) (r : ℕ) (e : Entry) → (r == 0) ≡ false → may_write dual r e ≡ may_write_kind dual e.kind e r
may-kind dual r e z = ap (λ b. not b && may_write_kind dual e.kind e r) z

step-shows_by : (x : Extension) (memory : Region) (s : State) (y : Item) (r : ℕ) (o : Stepped) → IsInRange x.params → (r == 0) ≡ false → length s.registers ≡ 32 → Agrees x memory s y
    → outcome x s y.entry.pc y.entry.kind y.entry.word ≡ o → ShowsBehind (may_write x.params.dual_write r y.entry) y.entry.done r y.entry.write s (state_after x s o)
step-shows_by x memory s y r (Stop c) range z n g h = record {
  stays = λ _. refl;
  shows = λ d _. absurd (no (sym h ∙ g.done_is d));
  count = n;
}
  where
    no : {l : Retire} → Stop c ≡ Retired l → ⊥
    no e = cc
step-shows_by x memory s y r (Retired l) range z n g h =
    let w = line-shows x memory s y l r y.entry.kind range refl n g h in
    let may = may-kind x.params.dual_write r y.entry z in
    record {
      stays = λ m. ap (λ v. if r == 0 then 0 else v) (w.stays (sym may ∙ m));
      shows = λ d m.
          let write : l.write ≡ y.entry.write = same_write (sym h ∙ g.done_is d) in
          nonzero r (slice_index (registers_after s.registers l.write) r) z ∙ w.shows d (sym may ∙ m) ∙ ap (λ q. value_in q r) write;
      count = count-after s.registers l.write ∙ n;
    }
  where
    same_write : Retired l ≡ Retired (line_of y.entry) → l.write ≡ y.entry.write
    same_write e = let same : l ≡ line_of y.entry = cc in ap (λ k. k.write) same

step-shows : (x : Extension) (memory : Region) (s : State) (y : Item) (r : ℕ) → IsInRange x.params → (r == 0) ≡ false → length s.registers ≡ 32 → Agrees x memory s y
    → ShowsBehind (may_write x.params.dual_write r y.entry) y.entry.done r y.entry.write s (stepped x s y.entry.pc y.entry.kind y.entry.word)
unfolding stepped
step-shows x memory s y r range z n g = step-shows_by x memory s y r (outcome x s y.entry.pc y.entry.kind y.entry.word) range z n g refl

-- what a line writes is within what its entry may write
pub line-stays : (x : Extension) (memory : Region) (s : State) (y : Item) (l : Retire) (r : ℕ) → IsInRange x.params → length s.registers ≡ 32 → Agrees x memory s y → outcome x s y.entry.pc y.entry.kind y.entry.word ≡ Retired l
    → may_write x.params.dual_write r y.entry ≡ false → register_of (taken x s l) r ≡ register_of s r
line-stays x memory s y l r range n g h m = go (r == 0) refl
  where
    go : (b : Bool) → (r == 0) ≡ b → register_of (taken x s l) r ≡ register_of s r
    go true e = let same : r ≡ 0 = eqb-true r 0 e in ap (register_of (taken x s l)) same ∙ sym (ap (register_of s) same)
    go false e = (step-shows_by x memory s y r (Retired l) range e n g h).stays m

nonzero-test : (b may : Bool) → (not b && may) ≡ true → b ≡ false
nonzero-test true may h = absurd cc
nonzero-test false may h = refl

-- and of one that is done it is what its entry says
pub line-value : (x : Extension) (memory : Region) (s : State) (y : Item) (l : Retire) (r : ℕ) → IsInRange x.params → length s.registers ≡ 32 → Agrees x memory s y → outcome x s y.entry.pc y.entry.kind y.entry.word ≡ Retired l
    → y.entry.done ≡ true → may_write x.params.dual_write r y.entry ≡ true → register_of (taken x s l) r ≡ value_in y.entry.write r
line-value x memory s y l r range n g h d m =
    (step-shows_by x memory s y r (Retired l) range (nonzero-test (r == 0) (may_write_kind x.params.dual_write y.entry.kind y.entry r) m) n g h).shows d m

count_by : (x : Extension) (s : State) (o : Stepped) → length s.registers ≡ 32 → length (state_after x s o).registers ≡ 32
count_by x s (Stop c) n = n
count_by x s (Retired l) n = count-after s.registers l.write ∙ n

pub stepped-count : (x : Extension) (s : State) (pc : ℕ) (k : EntryKind) (word : ℕ) → length s.registers ≡ 32 → length (stepped x s pc k word).registers ≡ 32
unfolding stepped
stepped-count x s pc k word n = count_by x s (outcome x s pc k word) n

-- ---- all of them

-- an operand that is here has this value
abbrev IsValue : Operand → ℕ → Type 0
IsValue operand v = (w : ℕ) → operand ≡ Here w → v ≡ w

entry-value : (done : Bool) (v w : ℕ) → (done ≡ true → w ≡ v) → IsValue (if done then Here v else NotYet) w
entry-value true v w h u e = let same : v ≡ u = cc in h refl ∙ same
entry-value false v w h u e = absurd cc

behind : (x : Extension) (memory : Region) (r : ℕ) (registers : List ℕ) (ys : List Item) (found : Option Entry) (s : State) → IsInRange x.params → (r == 0) ≡ false → length s.registers ≡ 32 → Walked x (Agrees x memory) s ys
    → IsValue (operand_from registers found r) (register_of s r)
    → IsValue (operand_from registers (last_or found (filter (may_write x.params.dual_write r) (entries ys))) r) (register_of (along x s ys) r)
behind x memory r registers [] found s range z n g a = a
behind x memory r registers (y ∷ ys) found s range z n g a =
    let t = stepped x s y.entry.pc y.entry.kind y.entry.word in
    let k = step-shows x memory s y r range z n g.0 in
    go (may_write x.params.dual_write r y.entry) refl t k (λ f b. behind x memory r registers ys f t range z k.count g.1 b)
  where
    go : (b : Bool) → may_write x.params.dual_write r y.entry ≡ b → (t : State) → ShowsBehind (may_write x.params.dual_write r y.entry) y.entry.done r y.entry.write s t
        → ((f : Option Entry) → IsValue (operand_from registers f r) (register_of t r) → IsValue (operand_from registers (last_or f (filter (may_write x.params.dual_write r) (entries ys))) r) (register_of (along x t ys) r))
        → IsValue (operand_from registers (last_or found (if b then y.entry ∷ filter (may_write x.params.dual_write r) (entries ys) else filter (may_write x.params.dual_write r) (entries ys))) r) (register_of (along x t ys) r)
    go true e t k next = next (Some y.entry) (entry-value y.entry.done (value_in y.entry.write r) (register_of t r) (λ d. k.shows d e))
    go false e t k next = next found (λ w q. k.stays e ∙ a w q)

-- x0 has no writer
no-writer : (dual : Bool) (es : List Entry) → filter (may_write dual 0) es ≡ []
no-writer dual [] = refl
no-writer dual (e ∷ es) = no-writer dual es

pub operand-value : (x : Extension) (memory : Region) (r v : ℕ) (ys : List Item) (s : State) → IsInRange x.params → length s.registers ≡ 32 → Walked x (Agrees x memory) s ys
    → operand_behind x.params.dual_write s.registers (entries ys) r ≡ Here v → register_of (along x s ys) r ≡ v
operand-value x memory r v ys s range n g h = go (r == 0) refl
  where
    zero_value : (w : ℕ) → Here 0 ≡ Here w → 0 ≡ w
    zero_value w e = cc

    here_value : (u w : ℕ) → Here u ≡ Here w → u ≡ w
    here_value u w e = cc

    go : (b : Bool) → (r == 0) ≡ b → register_of (along x s ys) r ≡ v
    go true e =
        let same : r ≡ 0 = eqb-true r 0 e in
        let none : operand_behind x.params.dual_write s.registers (entries ys) 0 ≡ Here 0 = ap (λ l. operand_from s.registers (last_or None l) 0) (no-writer x.params.dual_write (entries ys)) in
        let found : operand_behind x.params.dual_write s.registers (entries ys) 0 ≡ Here v = subst (λ q. operand_behind x.params.dual_write s.registers (entries ys) q ≡ Here v) same h in
        ap (register_of (along x s ys)) same ∙ zero_value v (sym none ∙ found)
    go false e = behind x memory r s.registers ys None s range e n g (λ w q. here_value (register_of s r) w q) v h

-- the sources of an instruction of RV32IM
pub source-value : (x : Extension) (memory : Region) (source : Option ℕ) (register v : ℕ) (ys : List Item) (s : State) → IsInRange x.params → length s.registers ≡ 32 → Walked x (Agrees x memory) s ys
    → ((r : ℕ) → source ≡ Some r → r ≡ register) → source_behind x.params.dual_write s.registers (entries ys) source ≡ Here v → if_read source (register_of (along x s ys) register) ≡ v
source-value x memory None register v ys s range n g f h = cc
source-value x memory (Some r) register v ys s range n g f h =
    ap (register_of (along x s ys)) (sym (f r refl)) ∙ operand-value x memory r v ys s range n g h

-- the halves of a word of the coprocessors
pub half-value : (x : Extension) (memory : Region) (word lane : ℕ) (half : Half) (v : ℕ) (ys : List Item) (s : State) → IsInRange x.params → length s.registers ≡ 32 → Walked x (Agrees x memory) s ys
    → half_behind x.params.dual_write s.registers (entries ys) word lane half ≡ Here v → v ≡ half_in (along x s ys) word lane half
half-value x memory word lane half v ys s range n g h = go (half_register (source_field word lane) half) h
  where
    go : (o : Option ℕ) → option_map_or (operand_behind x.params.dual_write s.registers (entries ys)) o (Here 0) ≡ Here v → v ≡ option_map_or (register_of (along x s ys)) o 0
    go None e = let same : 0 ≡ v = cc in sym same
    go (Some r) e = sym (operand-value x memory r v ys s range n g e)
