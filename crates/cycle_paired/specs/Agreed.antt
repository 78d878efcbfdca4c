-- Core and engine count the register transactions alike: one that is for an entry has the same
-- number and age for both sides.
use Rattle.std.specs.Prelude.{◌≡◌, ℕ, List, [], ◌∷◌, ⊤}
use Rattle.cycle_spec.specs.declared.entry.Entry.{Entry}
use Rattle.cycle_spec.specs.declared.turn.Transactions.{Transactions}
use Rattle.cycle_spec.specs.declared.use_of.Use.{Use}
use Rattle.cycle_spec.specs.Turns.{turn_of, begun_in}
use Rattle.cycle_spec.specs.Cycle.{Machines}
use Rattle.cycle_paired.specs.Paired.{live_entries, live_uses, Paired}

-- the turn that a transaction would have now, by the number of its entry for the core and by the
-- start of its use for the engine, and how many would have begun
pub record SameTurn (core engine : Transactions) (seq start : ℕ) : Type 0 where
  pub turn : turn_of core seq ≡ turn_of engine start
  pub begun : begun_in core.waiting core.begun seq ≡ begun_in engine.waiting engine.begun start

-- of each entry and the use beside it
abbrev pub AllPairs : (ℕ → ℕ → Type 0) → List Entry → List Use → Type 0
AllPairs R [] [] = ⊤
AllPairs R [] (u ∷ us) = ⊥
AllPairs R (e ∷ es) [] = ⊥
AllPairs R (e ∷ es) (u ∷ us) = R e.seq u.start × AllPairs R es us

-- they are paired, and count alike
pub record Agreed (hart : ℕ) (m : Machines) : Type 0 where
  pub paired : Paired hart m
  pub begun : m.core.register_turns.begun ≡ m.engine.register_turns.begun
  pub pairs
      : AllPairs (SameTurn m.core.register_turns m.engine.register_turns)
      (live_entries m.core.flight) (live_uses paired.answered m.engine.uses)
