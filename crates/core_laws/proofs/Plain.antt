-- What a coprocessor asks for of a word that it refuses: the core reads none of it. So what the
-- core chooses is the same, once that is struck out of its entries.
use Rattle.std.proofs.Common.{◌≡◌, ◌+◌, ◌++◌, ◌==◌, ◌&&◌, ◌||◌, not, ℕ, Bool, true, false, if◌then◌else◌, Option, Some, None, List, [], ◌∷◌, map, filter, take, drop, length, refl, sym, ap, ap₂, ◌∙◌}
use Rattle.std.specs.Prelude.{find, is_some, is_none, nat_lt, unwrap_or}
use Rattle.std.specs.List.{list_any, last_or, range_with_len}
use Rattle.std.specs.Option.{option_or, option_map, option_map_or, option_and_then}
use Rattle.std.proofs.lemmas.List.{map-append, length-map, take-map, drop-map}
use Rattle.rv32_table.specs.declared.instr.Kind.{Kind}
use Rattle.rv32_table.specs.declared.instr.Kind.TheVariants as row
use Rattle.rv32_table.specs.Instr.{kind_of, sources_of, source_field, rd_field}
use Rattle.coproc_config.specs.Accept.{flag_of, union_of}
use Rattle.coproc_config.specs.Bits.{lane as lane_with}
use Rattle.inorder_machine.specs.declared.line.Store.{Store}
use Rattle.inorder_machine.specs.declared.line.Stepped.{Stepped}
use Rattle.inorder_machine.specs.declared.line.Stepped.TheVariants.{Retired, Stop}
use Rattle.inorder_machine.specs.declared.stop.StopCause.{StopCause}
use Rattle.inorder_machine.specs.declared.units.Half.{Half}
use Rattle.inorder_machine.specs.declared.units.Half.TheVariants.{Low, High}
use Rattle.inorder_machine.specs.Execute.{executed}
use Rattle.inorder_machine.specs.Units.{bit_of, half_register}
use Rattle.xif_drive.specs.Predictors.{following}
use Rattle.xif_session.specs.declared.fact.Response.{Response}
use Rattle.xif_session.specs.Facts.{is_accepted}
use Rattle.cycle_spec.specs.declared.choices.Choices.{Choices}
use Rattle.cycle_spec.specs.declared.choices.Executed.{Executed}
use Rattle.cycle_spec.specs.declared.choices.Mode.{Mode}
use Rattle.cycle_spec.specs.declared.choices.Mode.TheVariants.{Running, DrainBegins, Draining}
use Rattle.cycle_spec.specs.declared.choices.Presented.{Presented}
use Rattle.cycle_spec.specs.declared.entry.Entry.{Entry}
use Rattle.cycle_spec.specs.declared.entry.EntryKind.{EntryKind}
use Rattle.cycle_spec.specs.declared.entry.EntryKind.TheVariants.{Local, Unknown, Nowhere}
use Rattle.cycle_spec.specs.declared.entry.Operand.{Operand}
use Rattle.cycle_spec.specs.declared.entry.Operand.TheVariants.{Here, NotYet}
use Rattle.cycle_spec.specs.declared.log.Cut.{Cut}
use Rattle.cycle_spec.specs.Flight.{is_unknown, is_store, is_control, is_stopping, is_open, is_pending, is_undecided, is_waiting, is_safe, is_safe_kind, reads_registers, has_seq, holds_id, older_than, count_through, may_write_word, may_write_kind, may_write, youngest_writer, operand_from, operand_behind, operand_at, source_behind, is_here, value_or_zero, is_held_back, may_execute_kind, may_execute, ready_behind, ready_oldest, behind_safe, youngest_released, free_id}
use Rattle.cycle_spec.specs.State.{Core}
use Rattle.cycle_spec.specs.Choices.{stop_at, retirement, source_value, executed_kind, executed_entry, execution, is_hit, is_any_hit, store_cut, transfer_cut, control_cut, gone_by, offer_in, presented_entry, is_late, has_half, half_of, presentation_of, present_in, among, kill_among, release_in, no_choices, may_dispatch, choices_with, choices_running, choices_by, choices_draining, choices_drain_begins, stay_with, choices_in, choices}
use Rattle.cycle_lists.proofs.Every.{each}
use Rattle.cycle_lists.proofs.Filters.{filter-map}

-- ---- lists and options

some-map : {A B : Type 0} (f : A → B) (o : Option A) → is_some (option_map f o) ≡ is_some o
some-map f None = refl
some-map f (Some x) = refl

or-map : {A : Type 0} (f : A → A) (a b : Option A) → option_or (option_map f a) (option_map f b) ≡ option_map f (option_or a b)
or-map f None b = refl
or-map f (Some x) b = refl

pub find-map : {A : Type 0} (t : A → Bool) (f : A → A) → ((x : A) → t (f x) ≡ t x) → (xs : List A) → find t (map f xs) ≡ option_map f (find t xs)
find-map t f k [] = refl
find-map t f k (x ∷ xs) = ap (λ b. if b then Some (f x) else find t (map f xs)) (k x) ∙ go (t x) (find-map t f k xs)
  where
    go : (b : Bool) → find t (map f xs) ≡ option_map f (find t xs) → (if b then Some (f x) else find t (map f xs)) ≡ option_map f (if b then Some x else find t xs)
    go true h = refl
    go false h = h

any-map : {A : Type 0} (t : A → Bool) (f : A → A) → ((x : A) → t (f x) ≡ t x) → (xs : List A) → list_any t (map f xs) ≡ list_any t xs
any-map t f k [] = refl
any-map t f k (x ∷ xs) = ap₂ (λ a b. a || b) (k x) (any-map t f k xs)

last-map : {A : Type 0} (f : A → A) (o : Option A) (xs : List A) → last_or (option_map f o) (map f xs) ≡ option_map f (last_or o xs)
last-map f o [] = refl
last-map f o (x ∷ xs) = last-map f (Some x) xs

youngest-map : {A : Type 0} (t : A → Bool) (f : A → A) → ((x : A) → t (f x) ≡ t x) → (xs : List A) → last_or None (filter t (map f xs)) ≡ option_map f (last_or None (filter t xs))
youngest-map t f k xs = ap (last_or None) (filter-map t f xs (each (λ x. t (f x) ≡ t x) xs k)) ∙ last-map f None (filter t xs)

-- ---- an entry without what a refusal asks for

abbrev pub plain_response : Response → Response
plain_response r = record r { register_read = record { 0 = if r.accept then r.register_read.0 else 0 } }

abbrev pub plain_answer : Option Response → Option Response
plain_answer o = option_map plain_response o

abbrev pub plain : Entry → Entry
plain e = record e { response = plain_answer e.response }

abbrev pub plain_core : Core → Core
plain_core w = record w { flight = map plain w.flight }

abbrev pub plain_executed : Executed → Executed
plain_executed x = record x { entry = plain x.entry }

abbrev pub plain_presented : Presented → Presented
plain_presented x = record x { entry = plain x.entry }

abbrev pub plain_choices : Choices → Choices
plain_choices ch = record ch {
  retire = option_map plain ch.retire;
  execute = option_map plain_executed ch.execute;
  offer = option_map plain ch.offer;
  present = option_map plain_presented ch.present;
  kill = option_map plain ch.kill;
  release = option_map plain ch.release;
}

-- ---- tests

pub accepted-plain : (o : Option Response) → is_accepted (plain_answer o) ≡ is_accepted o
accepted-plain None = refl
accepted-plain (Some r) = refl

open-plain : (e : Entry) → is_open (plain e) ≡ is_open e
open-plain e = ap (λ b. is_unknown e && b) (go e.response)
  where
    go : (o : Option Response) → is_none (plain_answer o) ≡ is_none o
    go None = refl
    go (Some r) = refl

pending-plain : (e : Entry) → is_pending (plain e) ≡ is_pending e
pending-plain e = ap (λ b. b && not e.released) (some-map plain_response e.response)

undecided-plain : (e : Entry) → is_undecided (plain e) ≡ is_undecided e
undecided-plain e = ap (λ b. b && not e.released) (accepted-plain e.response)

waiting-plain : (e : Entry) → is_waiting (plain e) ≡ is_waiting e
waiting-plain e = ap (λ b. b && not e.operands_sent) (go e.response)
  where
    by : (n : ℕ) (a : Bool) → (a && not ((if a then n else 0) == 0)) ≡ (a && not (n == 0))
    by n true = refl
    by n false = refl

    go : (o : Option Response) → reads_registers (plain_answer o) ≡ reads_registers o
    go None = refl
    go (Some r) = by r.register_read.0 r.accept

safe-plain : (e : Entry) → is_safe (plain e) ≡ is_safe e
safe-plain e = ap (λ b. not (is_stopping e) && b) (go e.kind)
  where
    go : (k : EntryKind) → is_safe_kind k (plain e) ≡ is_safe_kind k e
    go (Local i) = refl
    go Unknown = accepted-plain e.response
    go Nowhere = refl

may-plain : (dual : Bool) (r : ℕ) (e : Entry) → may_write dual r (plain e) ≡ may_write dual r e
may-plain dual r e = ap (λ b. not (r == 0) && b) (go e.kind)
  where
    by : (o : Option Response) → may_write_word dual (plain_answer o) (rd_field e.word) r ≡ may_write_word dual o (rd_field e.word) r
    by None = refl
    by (Some x) = refl

    go : (k : EntryKind) → may_write_kind dual k (plain e) r ≡ may_write_kind dual k e r
    go (Local i) = refl
    go Unknown = by e.response
    go Nowhere = refl

-- ---- the entries around a number

older-plain : (s : ℕ) (es : List Entry) → older_than s (map plain es) ≡ map plain (older_than s es)
older-plain s [] = refl
older-plain s (x ∷ xs) = ap (λ l. if has_seq s x then [] else plain x ∷ l) (older-plain s xs) ∙ go (has_seq s x)
  where
    go : (t : Bool) → (if t then [] else plain x ∷ map plain (older_than s xs)) ≡ map plain (if t then [] else x ∷ older_than s xs)
    go true = refl
    go false = refl

count-plain : (s : ℕ) (es : List Entry) → count_through s (map plain es) ≡ count_through s es
count-plain s es = ap (λ l. length l + 1) (older-plain s es) ∙ ap (λ n. n + 1) (length-map (older_than s es) plain)

-- ---- registers

behind-plain : (dual : Bool) (registers : List ℕ) (es : List Entry) (r : ℕ) → operand_behind dual registers (map plain es) r ≡ operand_behind dual registers es r
behind-plain dual registers es r = ap (λ o. operand_from registers o r) (youngest-map (may_write dual r) plain (may-plain dual r) es) ∙ go (youngest_writer dual es r)
  where
    go : (o : Option Entry) → operand_from registers (option_map plain o) r ≡ operand_from registers o r
    go None = refl
    go (Some e) = refl

at-plain : (dual : Bool) (registers : List ℕ) (es : List Entry) (s r : ℕ) → operand_at dual registers (map plain es) s r ≡ operand_at dual registers es s r
at-plain dual registers es s r = ap (λ l. operand_behind dual registers l r) (older-plain s es) ∙ behind-plain dual registers (older_than s es) r

source-plain : (dual : Bool) (registers : List ℕ) (es : List Entry) (o : Option ℕ) → source_behind dual registers (map plain es) o ≡ source_behind dual registers es o
source-plain dual registers es None = refl
source-plain dual registers es (Some r) = behind-plain dual registers es r

-- ---- execution

held-plain : (k : Kind) (es : List Entry) → is_held_back k (map plain es) ≡ is_held_back k es
held-plain row.Load es = any-map is_store plain (λ x. refl) es
held-plain row.Control es = any-map is_pending plain pending-plain es
held-plain row.Alu es = refl
held-plain row.Store es = refl
held-plain row.Fence es = refl
held-plain row.Stop es = refl

module _ (dual : Bool) (registers : List ℕ) where
  execute_kind-plain : (es : List Entry) (k : EntryKind) → may_execute_kind dual registers (map plain es) k ≡ may_execute_kind dual registers es k
  execute_kind-plain es (Local i) =
      ap₂ (λ a b. a && not b)
      (ap₂ (λ a b. is_here a && is_here b) (source-plain dual registers es (sources_of i).0) (source-plain dual registers es (sources_of i).1))
      (held-plain (kind_of i) es)
  execute_kind-plain es Unknown = refl
  execute_kind-plain es Nowhere = refl

  ready-plain : (older es : List Entry) → ready_behind dual registers (map plain older) (map plain es) ≡ option_map plain (ready_behind dual registers older es)
  ready-plain older [] = refl
  ready-plain older (e ∷ es) =
      ap (λ b. if not (e.done || is_stopping e) && b then Some (plain e) else ready_behind dual registers (map plain older ++ plain e ∷ []) (map plain es)) (execute_kind-plain older e.kind)
      ∙ ap (λ l. if may_execute dual registers older e then Some (plain e) else ready_behind dual registers l (map plain es)) (sym (map-append plain older (e ∷ []))) ∙ go (may_execute dual registers older e) (ready-plain (older ++ e ∷ []) es)
    where
      go : (b : Bool) → ready_behind dual registers (map plain (older ++ e ∷ [])) (map plain es) ≡ option_map plain (ready_behind dual registers (older ++ e ∷ []) es)
          → (if b then Some (plain e) else ready_behind dual registers (map plain (older ++ e ∷ [])) (map plain es)) ≡ option_map plain (if b then Some e else ready_behind dual registers (older ++ e ∷ []) es)
      go true h = refl
      go false h = h

module _ (w : Core) where
  value-plain : (e : Entry) (o : Option ℕ) → source_value (plain_core w) (plain e) o ≡ source_value w e o
  value-plain e o =
      ap (λ l. value_or_zero (source_behind w.params.dual_write w.registers l o)) (older-plain e.seq w.flight)
      ∙ ap value_or_zero (source-plain w.params.dual_write w.registers (older_than e.seq w.flight) o)

  executed-plain : (e : Entry) (k : EntryKind) → executed_kind (plain_core w) (plain e) k ≡ option_map plain_executed (executed_kind w e k)
  executed-plain e (Local i) =
      ap₂ (λ a b. Some (record { entry = plain e; outcome = executed w.memory (record { pc = e.pc; word = e.word }) i a b })) (value-plain e (sources_of i).0) (value-plain e (sources_of i).1)
  executed-plain e Unknown = refl
  executed-plain e Nowhere = refl

  execution-plain : (es : List Entry) → execution (plain_core w) (map plain es) ≡ option_map plain_executed (execution w es)
  execution-plain es = ap (option_and_then (executed_entry (plain_core w))) (ready-plain w.params.dual_write w.registers [] es) ∙ go (ready_oldest w.params.dual_write w.registers es)
    where
      go : (o : Option Entry) → option_and_then (executed_entry (plain_core w)) (option_map plain o) ≡ option_map plain_executed (option_and_then (executed_entry w) o)
      go None = refl
      go (Some e) = executed-plain e e.kind

-- ---- cuts

any_hit-plain : (o : Option Store) (es : List Entry) → is_any_hit o (map plain es) ≡ is_any_hit o es
any_hit-plain None es = refl
any_hit-plain (Some store) es = any-map (is_hit store) plain (λ x. refl) es

store_cut-plain : (o : Option Entry) (es : List Entry) → store_cut (option_map plain o) (map plain es) ≡ store_cut o es
store_cut-plain None es = refl
store_cut-plain (Some e) es = ap (λ b. if b then Some (record { keep = 1; target = following e.pc }) else None) (any_hit-plain e.store es)

transfer-plain : (e : Entry) (o : Stepped) (es : List Entry) → transfer_cut (plain e) o (map plain es) ≡ transfer_cut e o es
transfer-plain e (Retired line) es = ap (λ n. if is_control e && not (line.next == e.predicted) then Some (record { keep = n; target = line.next }) else None) (count-plain e.seq es)
transfer-plain e (Stop cause) es = refl

control-plain : (o : Option Executed) (es : List Entry) → control_cut (option_map plain_executed o) (map plain es) ≡ control_cut o es
control-plain None es = refl
control-plain (Some x) es = transfer-plain x.entry x.outcome es

gone-plain : (o : Option Cut) (es : List Entry) → gone_by o (map plain es) ≡ map plain (gone_by o es)
gone-plain None es = refl
gone-plain (Some cut) es = drop-map plain cut.keep es

-- ---- the channels

offer-plain : (es : List Entry) → offer_in (map plain es) ≡ option_map plain (offer_in es)
offer-plain es = find-map is_open plain open-plain es

presented-plain : (split : Bool) (o : Option Entry) (es : List Entry) → presented_entry split (option_map plain o) (map plain es) ≡ option_map plain (presented_entry split o es)
presented-plain true o es = find-map is_waiting plain waiting-plain es
presented-plain false o es = refl

module _ (w : Core) where
  half-plain : (e : Entry) (lane : ℕ) (half : Half) → half_of (plain_core w) (plain e) lane half ≡ half_of w e lane half
  half-plain e lane half = ap (λ v. if has_half w.params e.word lane half && not (is_late w e && not (lane == 0)) then v else NotYet) (go (half_register (source_field e.word lane) half))
    where
      go : (o : Option ℕ) → option_map_or (operand_at w.params.dual_write w.registers (map plain w.flight) e.seq) o (Here 0) ≡ option_map_or (operand_at w.params.dual_write w.registers w.flight e.seq) o (Here 0)
      go None = refl
      go (Some r) = at-plain w.params.dual_write w.registers w.flight e.seq r

  abbrev flag : (ℕ → Half → Operand) → ℕ → Half → ℕ
  flag h lane half = if is_here (h lane half) then flag_of (bit_of w.params lane half) else 0

  abbrev shown : (ℕ → Half → Operand) → ℕ → ℕ
  shown h lane = lane_with (value_or_zero (h lane Low)) (value_or_zero (h lane High))

  presentation-plain : (e : Entry) → presentation_of (plain_core w) (plain e) ≡ plain_presented (presentation_of w e)
  presentation-plain e = ap by (λ i lane half. half-plain e lane half i)
    where
      by : (ℕ → Half → Operand) → Presented
      by h = record {
        entry = plain e;
        rs_valid = union_of (flag h 0 Low ∷ flag h 0 High ∷ flag h 1 Low ∷ flag h 1 High ∷ flag h 2 Low ∷ flag h 2 High ∷ []);
        lanes = shown h 0 ∷ shown h 1 ∷ shown h 2 ∷ [];
      }

  present-plain : (o : Option Entry) (es : List Entry) → present_in (plain_core w) (option_map plain o) (map plain es) ≡ option_map plain_presented (present_in w o es)
  present-plain o es = ap (option_map (presentation_of (plain_core w))) (presented-plain w.params.split o es) ∙ go (presented_entry w.params.split o es)
    where
      go : (o : Option Entry) → option_map (presentation_of (plain_core w)) (option_map plain o) ≡ option_map plain_presented (option_map (presentation_of w) o)
      go None = refl
      go (Some e) = ap Some (presentation-plain e)

pending_in-plain : (es : List Entry) → find is_pending (map plain es) ≡ option_map plain (find is_pending es)
pending_in-plain es = find-map is_pending plain pending-plain es

kill-plain : (gone : List Entry) (o : Option Entry) → kill_among (map plain gone) (option_map plain o) ≡ option_map plain (kill_among gone o)
kill-plain gone o = ap₂ option_or (pending_in-plain gone) (go o) ∙ or-map plain (find is_pending gone) (option_and_then (among gone) o)
  where
    go : (o : Option Entry) → option_and_then (among (map plain gone)) (option_map plain o) ≡ option_map plain (option_and_then (among gone) o)
    go None = refl
    go (Some e) = find-map (has_seq e.seq) plain (λ x. refl) gone

behind_safe-plain : (es : List Entry) → behind_safe (map plain es) ≡ map plain (behind_safe es)
behind_safe-plain [] = refl
behind_safe-plain (e ∷ es) = ap₂ (λ b l. plain e ∷ (if b then l else [])) (safe-plain e) (behind_safe-plain es) ∙ ap (λ l. plain e ∷ l) (go (is_safe e))
  where
    go : (b : Bool) → (if b then map plain (behind_safe es) else []) ≡ map plain (if b then behind_safe es else [])
    go true = refl
    go false = refl

release-plain : (o : Option Cut) (es : List Entry) → release_in o (map plain es) ≡ option_map plain (release_in o es)
release-plain None es = ap (λ l. last_or None (filter is_undecided l)) (behind_safe-plain es) ∙ youngest-map is_undecided plain undecided-plain (behind_safe es)
release-plain (Some cut) es = refl

-- ---- all of them

retirement-plain : (es : List Entry) → retirement (map plain es) ≡ option_map plain (retirement es)
retirement-plain [] = refl
retirement-plain (e ∷ es) = go e.done
  where
    go : (b : Bool) → (if b then Some (plain e) else None) ≡ option_map plain (if b then Some e else None)
    go true = refl
    go false = refl

stop-plain : (es : List Entry) → stop_at (map plain es) ≡ stop_at es
stop-plain [] = refl
stop-plain (e ∷ es) = refl

stay-plain : (es : List Entry) → stay_with (youngest_released (map plain es)) (map plain es) ≡ stay_with (youngest_released es) es
stay-plain es = ap (λ o. stay_with o (map plain es)) (youngest-map (λ e. e.released) plain (λ x. refl) es) ∙ go (youngest_released es)
  where
    go : (o : Option Entry) → stay_with (option_map plain o) (map plain es) ≡ stay_with o es
    go None = refl
    go (Some e) = count-plain e.seq es

module _ (w : Core) where
  abbrev w' : Core
  w' = plain_core w

  abbrev es : List Entry
  es = w.flight

  abbrev es' : List Entry
  es' = map plain w.flight

  with-plain : (r : Option Entry) (x : Option Executed) (c : Option Cut) → choices_with w' (option_map plain r) (option_map plain_executed x) c ≡ plain_choices (choices_with w r x c)
  with-plain r x c = λ i. record {
    stop = None;
    retire = option_map plain r;
    execute = option_map plain_executed x;
    cut = c;
    drain = None;
    offer = offer-plain es i;
    present = present i;
    kill = kill i;
    release = release-plain c es i;
    dispatch = dispatch i;
  }
    where
      present : present_in w' (offer_in es') es' ≡ option_map plain_presented (present_in w (offer_in es) es)
      present = ap (λ o. present_in w' o es') (offer-plain es) ∙ present-plain w (offer_in es) es

      kill : kill_among (gone_by c es') (offer_in es') ≡ option_map plain (kill_among (gone_by c es) (offer_in es))
      kill = ap₂ kill_among (gone-plain c es) (offer-plain es) ∙ kill-plain (gone_by c es) (offer_in es)

      dispatch : may_dispatch w' c ≡ may_dispatch w c
      dispatch = ap₂ (λ n b. nat_lt n w.window && (not b && is_none c)) (length-map es plain) (any-map is_stopping plain (λ x. refl) es)

  running-plain : choices_running w' ≡ plain_choices (choices_running w)
  running-plain = (λ i. choices_with w' (retirement-plain es i) (execute i) (cut i)) ∙ with-plain retire now (option_or hit (control_cut now es))
    where
      retire : Option Entry
      retire = retirement es

      hit : Option Cut
      hit = store_cut retire (drop 1 es)

      now : Option Executed
      now = if is_some hit then None else execution w es

      hits : store_cut (retirement es') (drop 1 es') ≡ hit
      hits = ap₂ store_cut (retirement-plain es) (drop-map plain 1 es) ∙ store_cut-plain retire (drop 1 es)

      execute : (if is_some (store_cut (retirement es') (drop 1 es')) then None else execution w' es') ≡ option_map plain_executed now
      execute = ap₂ (λ (h : Option Cut) (x : Option Executed). if is_some h then None else x) hits (execution-plain w es) ∙ go (is_some hit)
        where
          go : (b : Bool) → (if b then None else option_map plain_executed (execution w es)) ≡ option_map plain_executed (if b then None else execution w es)
          go true = refl
          go false = refl

      cut : option_or (store_cut (retirement es') (drop 1 es')) (control_cut (if is_some (store_cut (retirement es') (drop 1 es')) then None else execution w' es') es') ≡ option_or hit (control_cut now es)
      cut = ap₂ option_or hits (ap (λ x. control_cut x es') execute ∙ control-plain now es)

  draining-plain : (stay : ℕ) → choices_draining w' stay ≡ plain_choices (choices_draining w stay)
  draining-plain stay = λ i. record {
    stop = None;
    retire = retire i;
    execute = execute i;
    cut = None;
    drain = None;
    offer = None;
    present = present i;
    kill = None;
    release = None;
    dispatch = false;
  }
    where
      retire : retirement (take stay es') ≡ option_map plain (retirement (take stay es))
      retire = ap retirement (take-map plain stay es) ∙ retirement-plain (take stay es)

      execute : execution w' (take stay es') ≡ option_map plain_executed (execution w (take stay es))
      execute = ap (execution w') (take-map plain stay es) ∙ execution-plain w (take stay es)

      present : present_in w' None (take stay es') ≡ option_map plain_presented (present_in w None (take stay es))
      present = ap (present_in w' None) (take-map plain stay es) ∙ present-plain w None (take stay es)

  begins-plain : (stay : ℕ) → choices_drain_begins w' stay ≡ plain_choices (choices_drain_begins w stay)
  begins-plain stay = ap₂ (λ (ch : Choices) (k : Option Entry). record ch { drain = Some stay; kill = k }) (draining-plain stay) (ap (find is_pending) (drop-map plain stay es) ∙ pending_in-plain (drop stay es))

  pub choices-plain : choices (plain_core w) ≡ plain_choices (choices w)
  choices-plain = go w.mode
    where
      by : (o : Option StopCause) → choices_by w' o ≡ plain_choices (choices_by w o)
      by None = running-plain
      by (Some cause) = ap (λ k. record no_choices { stop = Some cause; kill = k }) (pending_in-plain es)

      go : (mode : Mode) → choices_in w' mode ≡ plain_choices (choices_in w mode)
      go Running = ap (choices_by w') (stop-plain es) ∙ by (stop_at es)
      go DrainBegins = ap (choices_drain_begins w') (stay-plain es) ∙ begins-plain (stay_with (youngest_released es) es)
      go Draining = ap (choices_draining w') (length-map es plain) ∙ draining-plain (length es)

-- ---- ids

pub free-plain : (es : List Entry) → free_id (map plain es) ≡ free_id es
free-plain es =
    ap (λ n. unwrap_or (find (λ id. not (list_any (holds_id id) (map plain es))) (range_with_len 0 (n + 1))) 0) (length-map es plain)
    ∙ (λ i. unwrap_or (find (λ id. not (any-map (holds_id id) plain (λ x. refl) es i)) (range_with_len 0 (length es + 1))) 0)
