-- What the beginning of a drain leaves as it is.
use Rattle.std.proofs.Common.{◌≡◌, ◌==◌, Bool, true, false, if◌then◌else◌, refl}
use Rattle.xif_sim.specs.Simulating.{Simulating, with_drain, turned}

pub turned-params : (s : Simulating) → (turned s).machines.core.params ≡ s.machines.core.params
turned-params s = go s.is_draining (s.left == 0)
  where
    go : (d z : Bool) → (if d then s else if z then with_drain s else s).machines.core.params ≡ s.machines.core.params
    go true z = refl
    go false true = refl
    go false false = refl
