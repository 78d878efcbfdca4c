-- An instruction of RV32IM that executes leaves the pairs.
use Rattle.std.proofs.Common.{◌≡◌, ◌==◌, ◌&&◌, ◌||◌, ℕ, Bool, true, false, cond, not, List, map, Some, None, Result, Ok, Err, refl, sym, ap, ◌∙◌, subst}
use Rattle.std.specs.Prelude.{is_some, IsSome}
use Rattle.std.proofs.lemmas.Bool.{eqb-true}
use Rattle.rv32_table.specs.declared.instr.Instr.{Instr}
use Rattle.rv32_table.specs.declared.control.Next.{Next}
use Rattle.rv32_table.specs.declared.control.Next.TheVariants.{Go, Misaligned}
use Rattle.rv32_table.specs.Table.{Meaning, Computes, Loads, Stores, Jumps, Branches, Fences, Stops, row_line}
use Rattle.rv32_table.specs.Instr.{kind_by, kind_of, access_of, value_of, next_of}
use Rattle.xif_image.specs.declared.memory.MemFault.{MemFault}
use Rattle.xif_image.specs.declared.memory.MemFault.TheVariants as fault
use Rattle.xif_image.specs.Region.{Region, loaded}
use Rattle.inorder_machine.specs.declared.line.Retire.{Retire}
use Rattle.inorder_machine.specs.declared.line.Stepped.{Stepped}
use Rattle.inorder_machine.specs.declared.line.Stepped.TheVariants.{Retired, Stop}
use Rattle.inorder_machine.specs.declared.stop.StopCause.{StopCause}
use Rattle.inorder_machine.specs.Execute.{At, load_outcome, control_outcome, executed_by, executed}
use Rattle.cycle_spec.specs.declared.entry.Entry.{Entry}
use Rattle.cycle_spec.specs.declared.entry.EntryKind.TheVariants.{Local}
use Rattle.cycle_spec.specs.declared.use_of.Use.{Use}
use Rattle.cycle_spec.specs.Flight.{is_row, is_unknown, is_store_row, is_stopping, is_safe, is_safe_kind, is_safe_row, with_outcome}
use Rattle.cycle_lists.specs.Lists.{Each}
use Rattle.cycle_lists.proofs.Tests.{and-left, and-right, or-false, not-both, false-or, not-in}
use Rattle.cycle_lists.proofs.Every.{Each-both, Each-map2, Pairs-map1}
use Rattle.cycle_lists.proofs.Filters.{filter-map}
use Rattle.cycle_lists.proofs.Order.{mapped, leaves-outcome}
use Rattle.cycle_paired.specs.Paired.{is_live, live_entries, live_uses, Alike, Match, is_stop_row, IsEntry, Behind}
use Rattle.cycle_paired.proofs.Facts.{Joint, none-dead}
use Rattle.cycle_paired.proofs.Matching.{Match-entries}

-- an entry that executes, and what it does
pub record Exec (o : Stepped) (e : Entry) : Type 0 where
  pub instr : Instr
  pub kind_is : e.kind ≡ Local instr
  pub not_done : e.done ≡ false
  pub memory : Region
  pub at_word : At
  pub a : ℕ
  pub b : ℕ
  pub is_it : o ≡ executed memory at_word instr a b

abbrev pub Execs : ℕ → Stepped → Entry → Type 0
Execs s o e = e.seq ≡ s → Exec o e

-- ---- what an instruction does, by its kind

retired-is : (x y : Retire) → Retired x ≡ Retired y → x ≡ y
retired-is x y h = cc

no-line : (c : StopCause) (y : Retire) → Stop c ≡ Retired y → ⊥
no-line c y h = cc

no-store : (x y : Retire) → x.store ≡ None → Retired x ≡ Retired y → IsSome y.store → ⊥
no-store x y n h s = let same = retired-is x y h in not-both (is_some y.store) (ap (λ r. is_some r.store) (sym same) ∙ ap is_some n) s

-- only a store row has a store
stores-only : (m : Meaning) (mem : Region) (at' : At) (i : Instr) (a b : ℕ) (line : Retire) → executed_by m mem at' i a b ≡ Retired line → IsSome line.store → is_store_row (kind_by m) ≡ true
stores-only (Computes value) mem at' i a b line h s = absurd (no-store _ line refl h s)
stores-only (Loads width signed) mem at' i a b line h s = go (loaded mem (access_of i a).addr width) h
  where
    go : (r : Result ℕ MemFault) → load_outcome at' i width signed r ≡ Retired line → false ≡ true
    go (Ok v) q = absurd (no-store _ line refl q s)
    go (Err fault.Outside) q = absurd (no-line _ line q)
stores-only (Stores width) mem at' i a b line h s = refl
stores-only (Jumps target) mem at' i a b line h s = go (next_of i a b at'.pc) h
  where
    go : (n : Next) → control_outcome at' i (value_of i a b at'.pc) n ≡ Retired line → false ≡ true
    go (Go next) q = absurd (no-store _ line refl q s)
    go (Misaligned target) q = absurd (no-line _ line q)
stores-only (Branches taken) mem at' i a b line h s = go (next_of i a b at'.pc) h
  where
    go : (n : Next) → control_outcome at' i (value_of i a b at'.pc) n ≡ Retired line → false ≡ true
    go (Go next) q = absurd (no-store _ line refl q s)
    go (Misaligned target) q = absurd (no-line _ line q)
stores-only Fences mem at' i a b line h s = absurd (no-store _ line refl h s)
stores-only Stops mem at' i a b line h s = absurd (no-line _ line h)

-- an instruction that is safe before it executes retires, and is safe then
record RunsOn (m : Meaning) (o : Stepped) : Type 0 where
  pub line : Retire
  pub is_it : o ≡ Retired line
  pub safe : is_safe_row (kind_by m) true ≡ true

runs-on : (m : Meaning) (mem : Region) (at' : At) (i : Instr) (a b : ℕ) → is_safe_row (kind_by m) false ≡ true → is_stop_row (kind_by m) ≡ false → RunsOn m (executed_by m mem at' i a b)
runs-on (Computes value) mem at' i a b s n = record { line = _; is_it = refl; safe = refl }
runs-on (Loads width signed) mem at' i a b s n = cc
runs-on (Stores width) mem at' i a b s n = cc
runs-on (Jumps target) mem at' i a b s n = cc
runs-on (Branches taken) mem at' i a b s n = cc
runs-on Fences mem at' i a b s n = record { line = _; is_it = refl; safe = refl }
runs-on Stops mem at' i a b s n = cc

-- ---- the change of an entry

abbrev line-by : Bool → Retire → Entry → Entry
line-by t line e = record e {
  done = e.done || t;
  write = cond t line.write e.write;
  store = cond t line.store e.store;
  next = cond t line.next e.next;
}

abbrev stop-by : Bool → StopCause → Entry → Entry
stop-by t cause e = record e { stop = cond t (Some cause) e.stop }

line-other : (line : Retire) (e : Entry) → line-by false line e ≡ e
line-other line e = ap (λ b. record e { done = b }) (or-false e.done)

not-unknown : (e : Entry) (i : Instr) → e.kind ≡ Local i → is_unknown e ≡ true → ⊥
not-unknown e i h k = not-both (is_unknown e) (ap (λ q. is_unknown (record e { kind = q })) h) k

-- by its number, one case each
by-number : (P : Entry → Type 0) (s : ℕ) (o : Stepped) (e : Entry) → P e → (e.seq ≡ s → (line : Retire) → o ≡ Retired line → P (line-by true line e)) → (e.seq ≡ s → (cause : StopCause) → o ≡ Stop cause → P (stop-by true cause e)) → P (with_outcome s o e)
by-number P s (Retired line) e p k l = go (e.seq == s) refl
  where
    go : (t : Bool) → (e.seq == s) ≡ t → P (line-by t line e)
    go true q = k (eqb-true e.seq s q) line refl
    go false q = subst P (sym (line-other line e)) p
by-number P s (Stop cause) e p k l = go (e.seq == s) refl
  where
    go : (t : Bool) → (e.seq == s) ≡ t → P (stop-by t cause e)
    go true q = l (eqb-true e.seq s q) cause refl
    go false q = p

entry-outcome : (s : ℕ) (o : Stepped) (e : Entry) → Execs s o e → IsEntry e → IsEntry (with_outcome s o e)
entry-outcome s o e x ok = by-number IsEntry s o e ok retires stops
  where
    retires : e.seq ≡ s → (line : Retire) → o ≡ Retired line → IsEntry (line-by true line e)
    retires q line h =
        let k = x q in
        record {
          answered = ok.answered;
          released = ok.released;
          done_released = λ u d. absurd (not-unknown e k.instr k.kind_is u);
          done_given = λ u d. absurd (not-unknown e k.instr k.kind_is u);
          unsent = ok.unsent;
          stores = λ z. ap (λ i. is_row is_store_row i) k.kind_is ∙ stores-only (row_line k.instr.row).meaning k.memory k.at_word k.instr k.a k.b line (sym k.is_it ∙ h) z;
          stops = ok.stops;
          refused = ok.refused;
        }

    stops : e.seq ≡ s → (cause : StopCause) → o ≡ Stop cause → IsEntry (stop-by true cause e)
    stops q cause h = record {
      answered = ok.answered;
      released = ok.released;
      done_released = ok.done_released;
      done_given = ok.done_given;
      unsent = ok.unsent;
      stores = ok.stores;
      stops = λ z. refl;
      refused = λ u z. absurd (not-unknown e (x q).instr (x q).kind_is u);
    }

-- what was safe before stays safe
safe-outcome : (s : ℕ) (o : Stepped) (e : Entry) → Execs s o e → IsEntry e → is_safe e ≡ true → is_safe (with_outcome s o e) ≡ true
safe-outcome s o e x ok h = by-number (λ y. is_safe y ≡ true) s o e h retires stops
  where
    calm : is_stopping e ≡ false
    calm = not-in (is_stopping e) (and-left (not (is_stopping e)) (is_safe_kind e.kind e) h)

    runs : (q : e.seq ≡ s) → RunsOn (row_line (x q).instr.row).meaning o
    runs q =
        let k = x q in
        let kind : is_safe_kind e.kind e ≡ true = and-right (not (is_stopping e)) (is_safe_kind e.kind e) h in
        let row : is_safe_row (kind_of k.instr) false ≡ true = sym (ap (λ i. is_safe_kind i e) k.kind_is ∙ ap (is_safe_row (kind_of k.instr)) k.not_done) ∙ kind in
        let no : is_stop_row (kind_of k.instr) ≡ false = false-or (is_stop_row (kind_of k.instr)) (λ z. not-both (is_stopping e) calm (ok.stops (ap (λ i. is_row is_stop_row i) k.kind_is ∙ z))) in
        subst (RunsOn (row_line k.instr.row).meaning) (sym k.is_it) (runs-on (row_line k.instr.row).meaning k.memory k.at_word k.instr k.a k.b row no)

    retires : e.seq ≡ s → (line : Retire) → o ≡ Retired line → is_safe (line-by true line e) ≡ true
    retires q line z =
        let k = x q in
        let r = runs q in
        ap (λ i. not (is_stopping e) && is_safe_kind i (line-by true line e)) k.kind_is ∙ ap (λ d. not (is_stopping e) && is_safe_row (kind_of k.instr) (d || true)) k.not_done
        ∙ ap (λ d. not (is_stopping e) && d) r.safe ∙ ap (λ d. not d && true) calm

    stops : e.seq ≡ s → (cause : StopCause) → o ≡ Stop cause → is_safe (stop-by true cause e) ≡ true
    stops q cause z = let r = runs q in absurd (no-line cause r.line (sym z ∙ r.is_it))

live-outcome : (s : ℕ) (o : Stepped) (e : Entry) → Execs s o e → IsEntry e → is_live (with_outcome s o e) ≡ is_live e
live-outcome s o e x ok = by-number (λ y. is_live y ≡ is_live e) s o e refl retires (λ q cause h. refl)
  where
    retires : e.seq ≡ s → (line : Retire) → o ≡ Retired line → is_live (line-by true line e) ≡ is_live e
    retires q line h =
        let k = x q in
        let none : is_some e.response ≡ false = false-or (is_some e.response) (λ z. not-unknown e k.instr k.kind_is (ok.answered z)) in
        none-dead (line-by true line e) none ∙ sym (none-dead e none)

alike-outcome : (hart s : ℕ) (o : Stepped) (e : Entry) (u : Use) → Alike hart e u → Alike hart (with_outcome s o e) u
alike-outcome hart s (Retired line) e u a = record { unknown = a.unknown; hart_is = a.hart_is; id = a.id; word = a.word; response = a.response; given = a.given; decision = a.decision }
alike-outcome hart s (Stop cause) e u a = record { unknown = a.unknown; hart_is = a.hart_is; id = a.id; word = a.word; response = a.response; given = a.given; decision = a.decision }

abbrev IsExec : ℕ → Stepped → Entry → Type 0
IsExec s o e = Execs s o e × IsEntry e

behind-outcome : (s : ℕ) (o : Stepped) (x y : Entry) → IsExec s o x → Behind x y → Behind (with_outcome s o x) (with_outcome s o y)
behind-outcome s (Retired line) x y k b = record { safe = λ h. safe-outcome s (Retired line) x k.0 k.1 (b.safe h); answered = b.answered }
behind-outcome s (Stop cause) x y k b = record { safe = λ h. safe-outcome s (Stop cause) x k.0 k.1 (b.safe h); answered = b.answered }

pub executing : (s : ℕ) (o : Stepped) (hart n id c : ℕ) (answered : ℕ → Bool) (es : List Entry) (us : List Use) → Each (Execs s o) es → Joint hart n id c answered es us → Joint hart n id c answered (map (with_outcome s o) es) us
executing s o hart n id c answered es us x j =
    let f = with_outcome s o in
    let all = Each-both (Execs s o) IsEntry (IsExec s o) es (λ e a b. (a, b)) x j.entries in
    let same = Each-both (Execs s o) IsEntry (λ e. is_live (f e) ≡ is_live e) es (λ e x ok. live-outcome s o e x ok) x j.entries in
    record {
      kept = mapped n id f es (leaves-outcome s o) j.kept;
      entries = Each-map2 (Execs s o) IsEntry IsEntry f es (λ e x ok. entry-outcome s o e x ok) x j.entries;
      behind = Pairs-map1 Behind Behind (IsExec s o) f es (λ a b p q k. behind-outcome s o a b p k) all j.behind;
      below = j.below;
      uses = j.uses;
      older = j.older;
      match = subst (λ l. Match hart l (live_uses answered us)) (sym (filter-map is_live f es same)) (Match-entries hart f (live_entries es) (live_uses answered us) (λ e u a. alike-outcome hart s o e u a) j.match);
    }
