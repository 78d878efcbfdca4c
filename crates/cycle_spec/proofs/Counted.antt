-- No count of a channel's transactions is above that of the cycles.
use Rattle.std.proofs.Common.{◌≤◌, ◌+◌, ◌==◌, if◌then◌else◌, ℕ, Bool, true, false, Option, Some, None, IfSome, arith}
use Rattle.cycle_spec.specs.declared.turn.Transaction.{Transaction}
use Rattle.cycle_spec.specs.declared.turn.Transactions.{Transactions}
use Rattle.cycle_spec.specs.Turns.{turn_in, begun_in, aged, transactions_after, no_transactions}
use Rattle.cycle_spec.specs.Counts.{AreCountedBy}

pub none_counted : AreCountedBy 0 no_transactions
none_counted = record { begun = omega arith; age = tt }

pub after_counted : (cycle : ℕ) (ts : Transactions) (owner : Option ℕ) (ready : Bool) → AreCountedBy cycle ts → AreCountedBy (cycle + 1) (transactions_after ts owner ready)
after_counted cycle ts None ready c = record { begun = omega (arith, c.begun); age = tt }
after_counted cycle ts (Some owner) ready c = record { begun = began ts.waiting; age = waits ready ts.waiting c.age }
  where
    began : (w : Option Transaction) → begun_in w ts.begun owner ≤ cycle + 1
    began None = omega (arith, c.begun)
    began (Some t) = on (t.owner == owner)
      where
        on : (same : Bool) → (if same then ts.begun else ts.begun + 1) ≤ cycle + 1
        on true = omega (arith, c.begun)
        on false = omega (arith, c.begun)

    waits : (ready : Bool) (w : Option Transaction) → IfSome w (λ t. t.turn.age ≤ cycle) → IfSome {T = Transaction} (if ready then None else Some (record { owner = owner; turn = aged (turn_in w ts.begun owner) })) (λ t. t.turn.age ≤ cycle + 1)
    waits true w h = tt
    waits false None h = omega arith
    waits false (Some t) h = on (t.owner == owner)
      where
        on : (same : Bool) → (if same then t.turn else record { number = ts.begun; age = 0 }).age + 1 ≤ cycle + 1
        on true = omega arith
        on false = omega arith
