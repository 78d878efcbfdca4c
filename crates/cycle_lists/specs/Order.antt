-- The order of what a core keeps: numbers rise, and the ids of unknown words differ.
use Rattle.std.specs.Prelude.{◌≡◌, ◌<◌, ℕ, true}
use Rattle.cycle_spec.specs.declared.entry.Entry.{Entry}
use Rattle.cycle_spec.specs.Flight.{is_unknown}
use Rattle.cycle_spec.specs.State.{Core}
use Rattle.cycle_lists.specs.Lists.{Each, Pairs}

-- an entry and a younger one
pub record Before (x y : Entry) : Type 0 where
  pub rises : x.seq < y.seq
  pub apart : is_unknown x ≡ true → is_unknown y ≡ true → x.id ≡ y.id → ⊥

-- an entry doesn't hold an id
pub record IsFree (id : ℕ) (e : Entry) : Type 0 where
  pub other : is_unknown e ≡ true → e.id ≡ id → ⊥

-- the entries in flight are in order, and the number of the next dispatch is above all of theirs
pub record InOrder (w : Core) : Type 0 where
  pub pairs : Pairs Before w.flight
  pub below : Each (λ e. e.seq < w.next_seq) w.flight
