-- What is known of a cycle of the core beside a coprocessor that keeps its rules, for what stays of
-- the registers that it presents.
use Rattle.std.proofs.Common.{◌≡◌, ◌++◌, ◌%◌, ℕ, zero, suc, Bool, true, false, if◌then◌else◌, Option, Some, None, List, [], ◌∷◌, take, length, refl, sym, ap, ◌∙◌, subst}
use Rattle.std.specs.Prelude.{IfSome}
use Rattle.std.specs.Option.{option_map}
use Rattle.rv32_table.specs.Instr.{rd_field}
use Rattle.inorder_machine.specs.declared.stop.StopCause.{StopCause}
use Rattle.xif_signals.specs.declared.bus.Bus.{Bus}
use Rattle.xif_signals.specs.declared.bus.CopOut.{CopOut}
use Rattle.xif_signals.specs.Known.{has_flag}
use Rattle.xif_session.specs.Facts.{Past}
use Rattle.xif_session.specs.Legal.{EngineKeeps}
use Rattle.xif_session.proofs.Options.{no_true}
use Rattle.cycle_spec.specs.declared.choices.Choices.{Choices}
use Rattle.cycle_spec.specs.declared.choices.Executed.{Executed}
use Rattle.cycle_spec.specs.declared.choices.Mode.{Mode}
use Rattle.cycle_spec.specs.declared.choices.Mode.TheVariants.{Running, DrainBegins, Draining}
use Rattle.cycle_spec.specs.declared.choices.Presented.{Presented}
use Rattle.cycle_spec.specs.declared.entry.Entry.{Entry}
use Rattle.cycle_spec.specs.Flight.{is_open, youngest_released}
use Rattle.cycle_spec.specs.State.{Core}
use Rattle.cycle_spec.specs.Choices.{stop_at, retirement, presentation_of, presented_entry, offer_in, choices, choices_by, choices_in, stay_with}
use Rattle.cycle_spec.specs.Core.{kept_entries, word_in}
use Rattle.cycle_spec.specs.Cycle.{Machines}
use Rattle.cycle_lists.specs.Lists.{Each, Pairs, FirstAt}
use Rattle.cycle_lists.specs.Order.{Before}
use Rattle.cycle_lists.proofs.Every.{Each-from, Each-at}
use Rattle.cycle_lists.proofs.Order.{start-kept}
use Rattle.cycle_paired.specs.Paired.{IsEntry, Paired}
use Rattle.cycle_paired.proofs.Facts.{only, open-undone}
use Rattle.cycle_paired.proofs.Executing.{Execs}
use Rattle.cycle_paired.proofs.Choosing.{Sound}
use Rattle.trace_laws.specs.Driven.{bus_with, seen_with}
use Rattle.trace_laws.proofs.CoreChosen.{Chosen}
use Rattle.trace_laws.proofs.Paths.{Fit, Finishing, Executing, Heads, IsOffer, Answers}
use Rattle.trace_laws.proofs.Stable.{Known}

-- ---- the choices

heads-retirement : (es : List Entry) → Heads (retirement es) es
heads-retirement [] = tt
heads-retirement (e ∷ es) = go e.done refl
  where
    go : (t : Bool) → e.done ≡ t → Heads (if t then Some e else None) (e ∷ es)
    go true q = (q, refl)
    go false q = tt

heads-stay : (n : ℕ) (es : List Entry) → Heads (retirement (take n es)) es
heads-stay zero es = tt
heads-stay (suc n) [] = tt
heads-stay (suc n) (e ∷ es) = go e.done refl
  where
    go : (t : Bool) → e.done ≡ t → Heads (if t then Some e else None) (e ∷ es)
    go true q = (q, refl)
    go false q = tt

heads : (w : Core) → Heads (choices w).retire w.flight
heads w = go w.mode
  where
    by : (o : Option StopCause) → Heads (choices_by w o).retire w.flight
    by None = heads-retirement w.flight
    by (Some cause) = tt

    go : (mode : Mode) → Heads (choices_in w mode).retire w.flight
    go Running = by (stop_at w.flight)
    go DrainBegins = heads-stay (stay_with (youngest_released w.flight) w.flight) w.flight
    go Draining = heads-stay (length w.flight) w.flight

-- what is presented is that of an entry
pub presented-is : (w : Core) (x : Presented) → (choices w).present ≡ Some x → x ≡ presentation_of w x.entry
presented-is w x h = go w.mode h
  where
    same : (o : Option Entry) → option_map (presentation_of w) o ≡ Some x → x ≡ presentation_of w x.entry
    same None q = cc
    same (Some e) q = let is : presentation_of w e ≡ x = some_is (presentation_of w e) x q in sym is ∙ ap (λ y. presentation_of w y.entry) is
      where
        some_is : (a b : Presented) → Some a ≡ Some b → a ≡ b
        some_is a b q = cc

    by : (o : Option StopCause) → (choices_by w o).present ≡ Some x → x ≡ presentation_of w x.entry
    by None q = same (presented_entry w.params.split (offer_in w.flight) w.flight) q
    by (Some cause) q = cc

    go : (mode : Mode) → (choices_in w mode).present ≡ Some x → x ≡ presentation_of w x.entry
    go Running q = by (stop_at w.flight) q
    go DrainBegins q = same (presented_entry w.params.split None (take (stay_with (youngest_released w.flight) w.flight) w.flight)) q
    go Draining q = same (presented_entry w.params.split None (take (length w.flight) w.flight)) q

-- ---- the cycle

executing-all : (o : Option Executed) (es : List Entry) → IfSome o (λ x. Each (Execs x.entry.seq x.outcome) es) → Each (Executing o) es
executing-all None [] h = tt
executing-all None (e ∷ es) h = (tt, executing-all None es tt)
executing-all (Some x) es h = h

module _ (hart : ℕ) (m : Machines) (p : Past) (cop : CopOut) (k : Paired hart m) (c : Chosen m.core.params.split m.core.flight (choices m.core)) (so : Sound m.core.params.split m.core.flight (choices m.core)) (e : EngineKeeps m.engine.params p (bus_with hart m.core cop)) where
  abbrev bus : Bus
  bus = seen_with m.core cop

  abbrev ch : Choices
  ch = choices m.core

  abbrev dual : Bool
  dual = m.core.params.dual_write

  dual-is : m.engine.params.dual_write ≡ dual
  dual-is = ap (λ x. x.dual_write) (sym k.params)

  answers : Answers bus dual
  answers i f = go bus.issue_accept refl
    where
      go : (a : Bool) → bus.issue_accept ≡ a → (dual ≡ true) × (rd_field bus.issue_instr % 2 ≡ 0)
      go true a = let pair = e.i4 i a f in (sym dual-is ∙ pair.dual_write, pair.even)
      go false a = let none : bus.issue_writeback ≡ 0 = e.i3 i a in no_true (has_flag 0 1) (sym (ap (λ n. has_flag n 1) none) ∙ f) refl

  offers : IfSome ch.offer (λ e. Each (λ x. x.seq ≡ e.seq → IsOffer bus dual x) m.core.flight)
  offers = go ch.offer refl c.offer
    where
      go : (o : Option Entry) → ch.offer ≡ o → IfSome o (FirstAt is_open m.core.flight) → IfSome o (λ e. Each (λ x. x.seq ≡ e.seq → IsOffer bus dual x) m.core.flight)
      go None h f = tt
      go (Some e) h f =
          let own : IsOffer bus dual e = record { open_is = f.passes; undone = open-undone e (Each-at IsEntry m.core.flight f.older e f.younger f.here k.entries) f.passes; word = ap word_in h } in
          subst (Each (λ x. x.seq ≡ e.seq → IsOffer bus dual x)) (sym f.here)
          (Each-from (λ x. x.seq ≡ e.seq → x ≡ e) (λ x. x.seq ≡ e.seq → IsOffer bus dual x) (f.older ++ e ∷ f.younger) (λ x s q. subst (IsOffer bus dual) (sym (s q)) own) (only f.older e f.younger (subst (Pairs Before) f.here k.order.pairs)))

  pub known : Each (Finishing bus) (kept_entries ch bus m.core.flight) → Each (Fit dual) m.core.flight → length m.core.registers ≡ 32 → Known m.core ch bus
  known finishing fit count = record {
    kept = start-kept m.core k.order;
    fit = fit;
    offers = offers;
    answers = answers;
    finishing = finishing;
    executing = executing-all ch.execute m.core.flight so.execute;
    head = heads m.core;
    count = count;
  }
