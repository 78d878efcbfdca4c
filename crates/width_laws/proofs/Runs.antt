-- Each bus of a run fits its widths.
use Rattle.std.proofs.Common.{◌≡◌, ◌||◌, ℕ, zero, suc, Bool, true, false, List, [], ◌∷◌, reverse, replicate, refl, sym, ◌∙◌, subst}
use Rattle.std.specs.List.{All}
use Rattle.std.proofs.lemmas.Nat.{pow_pos}
use Rattle.std.proofs.lemmas.List.{reverse-append}
use Rattle.std.proofs.lemmas.List.Elements.{All-nil, All-push, All-head, All-tail}
use Rattle.xif_base.specs.declared.params.Params.{Params}
use Rattle.xif_signals.specs.Bus.{FitsWidths}
use Rattle.cycle_spec.specs.State.{Core}
use Rattle.cycle_spec.specs.Cycle.{bus_at}
use Rattle.cycle_spec.specs.Run.{Setup, Meaning, Progress, start, next, unless, cycles_until, is_stopped, is_empty, drain_limit, with_drain, drained, progress_of, run_of}
use Rattle.cycle_lists.specs.Lists.{Each}
use Rattle.width_laws.specs.Ranges.{HasRanges}
use Rattle.width_laws.proofs.Memories.{IsByte}
use Rattle.width_laws.proofs.Operands.{IsWord}
use Rattle.width_laws.proofs.Uses.{new-fits}
use Rattle.width_laws.proofs.Buses.{FitsMachines, bus-fits, cycle-fits, params-after, drain-fits}

-- ---- lists

pub each-of : {A : Type 0} (P : A → Type 0) (xs : List A) → All P xs → Each P xs
each-of P [] a = tt
each-of P (x ∷ xs) a = (All-head P x xs a, each-of P xs (All-tail P x xs a))

pub all-reversed : {A : Type 0} (P : A → Type 0) (xs : List A) → Each P xs → All P (reverse xs)
all-reversed P [] a = All-nil P
all-reversed P (x ∷ xs) a = subst (All P) (sym (reverse-append (x ∷ []) xs)) (All-push P (reverse xs) x (all-reversed P xs a.1) a.0)

registers-zero : (n : ℕ) → Each IsWord (replicate n 0)
registers-zero zero = tt
registers-zero (suc n) = (pow_pos 32, registers-zero n)

-- ---- between two cycles

record Goes {T : Type 0} (p : Params) (q : Progress T) : Type 0 where
  machines : FitsMachines q.machines
  params : q.machines.core.params ≡ p
  buses : Each (FitsWidths p) q.buses

goes-next : {T : Type 0} (p : Params) (meaning : Meaning T) (q : Progress T) → Goes p q → Goes p (next meaning q)
goes-next p meaning q g = record {
  machines = cycle-fits 0 q.machines g.machines (meaning.answer q.predictor) (pow_pos q.machines.core.params.hartid_width);
  params = params-after q.machines 0 (meaning.answer q.predictor) ∙ g.params;
  buses = (
    subst (λ ps. FitsWidths ps (bus_at q.machines 0)) g.params (bus-fits 0 q.machines g.machines (pow_pos q.machines.core.params.hartid_width)),
    g.buses,
  );
}

goes-until : {T : Type 0} (p : Params) (meaning : Meaning T) (test : Core → Bool) (n : ℕ) (q : Progress T) → Goes p q → Goes p (cycles_until meaning test n q)
goes-until p meaning test zero q g = g
goes-until p meaning test (suc n) q g = go (test q.machines.core) (goes-until p meaning test n (next meaning q) (goes-next p meaning q g))
  where
    go : (t : Bool) → Goes p (cycles_until meaning test n (next meaning q)) → Goes p (unless t q (λ r. cycles_until meaning test n (next meaning r)))
    go true h = g
    go false h = h

goes-drained : {T : Type 0} (p : Params) (meaning : Meaning T) (limit : ℕ) (q : Progress T) → Goes p q → Goes p (drained meaning limit q)
goes-drained p meaning limit q g = go (is_stopped q.machines.core || is_empty q.machines.core)
  where
    go : (t : Bool) → Goes p (unless t q (λ r. cycles_until meaning is_empty limit (with_drain r)))
    go true = g
    go false = goes-until p meaning is_empty limit (with_drain q) (record { machines = drain-fits q.machines g.machines; params = g.params; buses = g.buses })

goes-start : {T : Type 0} (setup : Setup) (predictor : T) → HasRanges setup → Goes setup.params (start setup predictor)
goes-start setup predictor h = record {
  machines = record {
    range = h.params;
    same = refl;
    core = record { ids = h.ids; registers = registers-zero 32; memory = each-of IsByte setup.memory.bytes h.bytes; entries = tt };
    engine = new-fits setup.params setup.set setup.script h.set;
  };
  params = refl;
  buses = tt;
}

pub widths : {T : Type 0} (meaning : Meaning T) (setup : Setup) (predictor : T) → HasRanges setup → All (FitsWidths setup.params) (run_of meaning setup predictor).buses
widths meaning setup predictor h =
    let g = goes-drained setup.params meaning (drain_limit setup) (cycles_until meaning is_stopped setup.budget (start setup predictor))
    (goes-until setup.params meaning is_stopped setup.budget (start setup predictor) (goes-start setup predictor h)) in
    all-reversed (FitsWidths setup.params) (progress_of meaning setup predictor).buses g.buses
