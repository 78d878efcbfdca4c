-- Events of the machine that runs ahead, one after another.
use Rattle.std.specs.Prelude.{List}
use Rattle.inorder_machine.specs.Machine.{Extension}
use Rattle.ahead_spec.specs.World.{World, Event, run}
use Rattle.ahead_spec.specs.Guards.{MayRun}

-- Events that may happen lead from here to where something holds.
pub record Becomes (x : Extension) (P : World → Type 0) (w : World) : Type 0 where
  pub events : List Event
  pub may : MayRun x w events
  pub there : P (run x w events)
