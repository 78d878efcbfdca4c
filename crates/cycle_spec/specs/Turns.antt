-- The transactions of a channel, counted, and whether one is past the delay that a script gives it.
use Rattle.std.specs.Prelude.{ℕ, ◌+◌, ◌==◌, nat_le, Bool, if◌then◌else◌, Option, Some, None, List}
use Rattle.xif_drive.specs.Scripts.{delay_of}
use Rattle.cycle_spec.specs.declared.turn.Turn.{Turn}
use Rattle.cycle_spec.specs.declared.turn.Transaction.{Transaction}
use Rattle.cycle_spec.specs.declared.turn.Transactions.{Transactions}

-- none began yet
abbrev pub no_transactions : Transactions
no_transactions = record { waiting = None; begun = 0 }

abbrev pub turn_in : Option Transaction → (begun owner : ℕ) → Turn
turn_in None begun owner = record { number = begun; age = 0 }
turn_in (Some t) begun owner =
    if t.owner == owner then t.turn else record { number = begun; age = 0 }

-- The turn of a cycle that is for an owner: the transaction that waits for its handshake goes on if
-- it is for the same one, and else another begins.
abbrev pub turn_of : Transactions → (owner : ℕ) → Turn
turn_of ts owner = turn_in ts.waiting ts.begun owner

abbrev pub begun_in : Option Transaction → (begun owner : ℕ) → ℕ
begun_in None begun owner = begun + 1
begun_in (Some t) begun owner = if t.owner == owner then begun else begun + 1

abbrev pub aged : Turn → Turn
aged t = record t { age = t.age + 1 }

-- after a cycle in which the channel's valid is 1, with this ready
abbrev pub transactions_with : Transactions → (owner : ℕ) → (ready : Bool) → Transactions
transactions_with ts owner ready = record {
  waiting =
      if ready then None else Some (record { owner = owner; turn = aged (turn_of ts owner) });
  begun = begun_in ts.waiting ts.begun owner;
}

-- after a cycle: whom the channel was for, if its valid is 1, and its ready
abbrev pub transactions_after : Transactions → (owner : Option ℕ) → (ready : Bool) → Transactions
transactions_after ts None ready = record ts { waiting = None }
transactions_after ts (Some owner) ready = transactions_with ts owner ready

-- a transaction has waited for as many cycles as its delay
abbrev pub is_past : (delays : List ℕ) → Turn → Bool
is_past delays t = nat_le (delay_of delays t.number) t.age
