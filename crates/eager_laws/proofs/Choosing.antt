-- What a cycle chooses, by whether the core runs.
use Rattle.std.proofs.Common.{◌≡◌, ◌<◌, ◌&&◌, ◌+◌, ◌-◌, ◌^◌, ◌++◌, ℕ, zero, suc, Bool, true, false, cond, not, List, [], ◌∷◌, map, length, drop, Option, Some, None, refl, sym, ap, ◌∙◌, subst, arith}
use Rattle.std.specs.Prelude.{is_some, is_none, nat_lt}
use Rattle.std.specs.Option.{option_or, option_map}
use Rattle.std.specs.List.{list_any, range_with_len}
use Rattle.std.proofs.lemmas.Bool.{ltb-true, lt-ltb}
use Rattle.rv32_table.specs.Word.{wrapped}
use Rattle.xif_drive.specs.Predictors.{following}
use Rattle.inorder_machine.specs.declared.line.Store.{Store}
use Rattle.inorder_machine.specs.declared.stop.StopCause.{StopCause}
use Rattle.cycle_spec.specs.declared.choices.Choices.{Choices}
use Rattle.cycle_spec.specs.declared.choices.Executed.{Executed}
use Rattle.cycle_spec.specs.declared.choices.Mode.{Mode}
use Rattle.cycle_spec.specs.declared.choices.Mode.TheVariants.{Running, DrainBegins, Draining}
use Rattle.cycle_spec.specs.declared.entry.Entry.{Entry}
use Rattle.cycle_spec.specs.declared.log.Cut.{Cut}
use Rattle.cycle_spec.specs.Flight.{is_stopping}
use Rattle.cycle_spec.specs.State.{Core}
use Rattle.cycle_spec.specs.Choices.{stop_at, retirement, execution, is_in_word, is_hit, is_any_hit, store_cut, control_cut, choices_running, choices_by, choices_in, choices}
use Rattle.cycle_spec.specs.Core.{line_of}
use Rattle.cycle_lists.proofs.Tests.{and-left, and-right, not-in, some-is}
use Rattle.cycle_lists.proofs.Places.{any-at}
use Rattle.eager_laws.specs.Flights.{Told, told_of}
use Rattle.eager_laws.specs.Eager.{Touches, IsCutByStore}
use Rattle.eager_laws.proofs.Views.{told-append}

-- nothing is dispatched, offered or cut
pub record IsQuiet (ch : Choices) : Type 0 where
  pub dispatch : ch.dispatch ≡ false
  pub offer : ch.offer ≡ None
  pub cut : ch.cut ≡ None

pub data Way (w : Core) : Type 0 where
  Runs : w.mode ≡ Running → (choices w).stop ≡ None → choices w ≡ choices_running w → Way w
  Stops : (cause : StopCause) → (choices w).stop ≡ Some cause → (choices w).retire ≡ None → IsQuiet (choices w) → Way w
  Drains : (w.mode ≡ Running → ⊥) → (choices w).stop ≡ None → IsQuiet (choices w) → Way w

pub way : (w : Core) → Way w
way w = go w.mode refl
  where
    by : w.mode ≡ Running → (o : Option StopCause) → stop_at w.flight ≡ o → Way w
    by r None q = let e : choices w ≡ choices_running w = ap (choices_in w) r ∙ ap (choices_by w) q in Runs r (ap (λ c. c.stop) e) e
    by r (Some cause) q =
        let e : choices w ≡ choices_by w (Some cause) = ap (choices_in w) r ∙ ap (choices_by w) q in
        Stops cause (ap (λ c. c.stop) e) (ap (λ c. c.retire) e) (record { dispatch = ap (λ c. c.dispatch) e; offer = ap (λ c. c.offer) e; cut = ap (λ c. c.cut) e })

    other : (m : Mode) → w.mode ≡ m → (m ≡ Running → ⊥) → (choices_in w m).stop ≡ None → IsQuiet (choices_in w m) → Way w
    other m e n z q = Drains (λ r. n (sym e ∙ r)) (ap (λ k. (choices_in w k).stop) e ∙ z) (subst (λ k. IsQuiet (choices_in w k)) (sym e) q)

    go : (m : Mode) → w.mode ≡ m → Way w
    go Running e = by e (stop_at w.flight) refl
    go DrainBegins e = other DrainBegins e (λ r. cc) refl (record { dispatch = refl; offer = refl; cut = refl })
    go Draining e = other Draining e (λ r. cc) refl (record { dispatch = refl; offer = refl; cut = refl })

-- ---- a dispatch

pub record HasRoom (w : Core) : Type 0 where
  pub room : length w.flight < w.window
  pub free : list_any is_stopping w.flight ≡ false
  pub uncut : (choices w).cut ≡ None

none-is : {A : Type 0} (o : Option A) → is_none o ≡ true → o ≡ None
none-is None h = refl
none-is (Some x) h = cc

dispatch-is : (w : Core) → choices w ≡ choices_running w → (choices w).dispatch ≡ (nat_lt (length w.flight) w.window && (not (list_any is_stopping w.flight) && is_none (choices w).cut))
dispatch-is w e = ap (λ c. c.dispatch) e ∙ ap (λ c. nat_lt (length w.flight) w.window && (not (list_any is_stopping w.flight) && is_none c.cut)) (sym e)

pub room-of : (w : Core) → choices w ≡ choices_running w → (choices w).dispatch ≡ true → HasRoom w
room-of w e h =
    let all = sym (dispatch-is w e) ∙ h in
    let rest = and-right (nat_lt (length w.flight) w.window) (not (list_any is_stopping w.flight) && is_none (choices w).cut) all in
    record {
      room = ltb-true (length w.flight) w.window (and-left (nat_lt (length w.flight) w.window) (not (list_any is_stopping w.flight) && is_none (choices w).cut) all);
      free = not-in (list_any is_stopping w.flight) (and-left (not (list_any is_stopping w.flight)) (is_none (choices w).cut) rest);
      uncut = none-is (choices w).cut (and-right (not (list_any is_stopping w.flight)) (is_none (choices w).cut) rest);
    }

-- with room and no cut it comes, unless an entry stops
pub dispatch-when : (w : Core) → choices w ≡ choices_running w → length w.flight < w.window → (choices w).cut ≡ None → (choices w).dispatch ≡ not (list_any is_stopping w.flight)
dispatch-when w e l c =
    dispatch-is w e
    ∙ ap (λ t. t && (not (list_any is_stopping w.flight) && is_none (choices w).cut)) (lt-ltb (length w.flight) w.window l)
    ∙ ap (λ o. not (list_any is_stopping w.flight) && is_none o) c
    ∙ last (not (list_any is_stopping w.flight))
  where
    last : (b : Bool) → (b && true) ≡ b
    last true = refl
    last false = refl

-- ---- where a cut comes from

abbrev hit_of : Core → Option Cut
hit_of w = store_cut (retirement w.flight) (drop 1 w.flight)

pub data Origin (w : Core) (c : Cut) : Type 0 where
  OfStore : store_cut (retirement w.flight) (drop 1 w.flight) ≡ Some c → Origin w c
  OfTransfer : (x : Executed) → execution w w.flight ≡ Some x → control_cut (Some x) w.flight ≡ Some c → Origin w c

pub cut-from : (w : Core) (c : Cut) → choices w ≡ choices_running w → (choices w).cut ≡ Some c → Origin w c
cut-from w c e h = go (hit_of w) refl (sym (ap (λ k. k.cut) e) ∙ h)
  where
    by : (o : Option Executed) → execution w w.flight ≡ o → control_cut o w.flight ≡ Some c → Origin w c
    by None q k = cc
    by (Some x) q k = OfTransfer x q k

    go : (o : Option Cut) → hit_of w ≡ o → option_or o (control_cut (cond (is_some o) None (execution w w.flight)) w.flight) ≡ Some c → Origin w c
    go (Some d) q k = OfStore (q ∙ k)
    go None q k = by (execution w w.flight) refl k

-- ---- a cut by a store

below : (start n : ℕ) (front : List ℕ) (k : ℕ) (back : List ℕ) → range_with_len start n ≡ front ++ k ∷ back → k < start + n
below start zero [] k back h = cc
below start zero (x ∷ front) k back h = cc
below start (suc n) [] k back h = let same : start ≡ k = cc in omega (arith, same)
below start (suc n) (x ∷ front) k back h =
    let rest : range_with_len (start + 1) n ≡ front ++ k ∷ back = cc in
    let less = below (start + 1) n front k back rest in
    omega (arith, less)

in-word : (pc address : ℕ) → pc < 2 ^ 32 → wrapped address ≡ wrapped (pc + wrapped (address + 2 ^ 32 - pc))
in-word pc address h = omega (arith, h)

touches : (store : Store) (e : Entry) → is_hit store e ≡ true → Touches store e.pc
touches store e h =
    let a = any-at (λ k. is_in_word e.pc (store.addr + k)) (range_with_len 0 store.width) h in
    record {
      byte = a.one;
      of_store = let less = below 0 store.width a.front a.one a.back a.here in omega (arith, less);
      place = wrapped (store.addr + a.one + 2 ^ 32 - e.pc);
      of_word = ltb-true (wrapped (store.addr + a.one + 2 ^ 32 - e.pc)) 4 a.passes;
      same = λ small. in-word e.pc (store.addr + a.one) small;
    }

pub store-cut : (es : List Entry) (c : Cut) (cycle : Told) → cycle.log.retired ≡ option_map line_of (retirement es) → store_cut (retirement es) (drop 1 es) ≡ Some c → IsCutByStore (map told_of es) cycle c
store-cut [] c cycle r h = cc
store-cut (e ∷ es) c cycle r h = go e.done refl r h
  where
    by : cycle.log.retired ≡ Some (line_of e) → (store : Store) → e.store ≡ Some store → (b : Bool) → list_any (is_hit store) es ≡ b → cond b (Some (record { keep = 1; target = following e.pc })) None ≡ Some c → IsCutByStore (map told_of (e ∷ es)) cycle c
    by k store s true q t =
        let same : record { keep = 1; target = following e.pc } ≡ c = some-is (record { keep = 1; target = following e.pc }) c t in
        let a = any-at (is_hit store) es q in
        record {
          line = line_of e;
          retires = k;
          store = store;
          stores = s;
          first = told_of e;
          between = map told_of a.front;
          touched = told_of a.one;
          younger = map told_of a.back;
          here = ap (λ l. told_of e ∷ map told_of l) a.here ∙ ap (λ l. told_of e ∷ l) (told-append a.front (a.one ∷ a.back));
          oldest = refl;
          touches = touches store a.one a.passes;
          keep = ap (λ d. d.keep) (sym same);
          target = ap (λ d. d.target) (sym same);
        }
    by k store s false q t = cc

    stores : cycle.log.retired ≡ Some (line_of e) → (o : Option Store) → e.store ≡ o → cond (is_any_hit o es) (Some (record { keep = 1; target = following e.pc })) None ≡ Some c → IsCutByStore (map told_of (e ∷ es)) cycle c
    stores k None s t = cc
    stores k (Some store) s t = by k store s (list_any (is_hit store) es) refl t

    go : (d : Bool) → e.done ≡ d → cycle.log.retired ≡ option_map line_of (cond d (Some e) None) → store_cut (cond d (Some e) None) es ≡ Some c → IsCutByStore (map told_of (e ∷ es)) cycle c
    go true d k t = stores k e.store refl t
    go false d k t = cc
