use Rattle.std.proofs.Common.{◌≡◌, Some}
use Rattle.coproc_config.specs.State.{IsStateOf}
use Rattle.inorder_machine.specs.Machine.{Extension}
use Rattle.inorder_machine.specs.After.{after}
use Rattle.inorder_machine.proofs.machine.Machine.advance.Given as goal

abbrev pub invariant-loop-retired : goal.invariant-loop-retired
invariant-loop-retired l =
    let x : Extension = record { set = l.set; params = l.params } in
    record {
      reached : after x l.retired l.fn.self ≡ Some l.self;
      units : IsStateOf l.set l.self.units;
    }
