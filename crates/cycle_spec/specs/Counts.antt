-- How far the counts of core and engine go. Internal: conditions of the code, which counts in 64
-- bits; nothing here has to be believed.
use Rattle.std.specs.Prelude.{◌<◌, ◌≤◌, ◌^◌, ℕ, IfSome}
use Rattle.cycle_spec.specs.declared.turn.Transactions.{Transactions}
use Rattle.cycle_spec.specs.State.{Core}

-- a channel's transactions can be counted on
pub record CanCountOn (ts : Transactions) : Type 0 where
  pub begun : ts.begun < 2 ^ 63
  pub age : IfSome ts.waiting (λ t. t.turn.age < 2 ^ 63)

-- no more of them began, and none is older, than there were cycles
pub record AreCountedBy (cycle : ℕ) (ts : Transactions) : Type 0 where
  pub begun : ts.begun ≤ cycle
  pub age : IfSome ts.waiting (λ t. t.turn.age ≤ cycle)

-- no count of a core is above that of the cycles
pub record IsCountedBy (cycle : ℕ) (w : Core) : Type 0 where
  pub dispatches : w.next_seq ≤ cycle
  pub registers : AreCountedBy cycle w.register_turns
  pub results : AreCountedBy cycle w.result_turns
