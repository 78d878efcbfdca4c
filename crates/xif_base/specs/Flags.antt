-- The bits of the sets of register flags (CV-X-IF 1.0.0, `register_read` of the issue response and
-- `rs_valid` of the register interface).
use Rattle.std.specs.Prelude.{◌+◌, ℕ, if◌then◌else◌, Option, Some, None, min, nat_lt}
use Rattle.xif_base.specs.declared.params.Params.{Params}

-- The bit of a lane's low half. The lanes below X_DUALREAD have two bits each, and the others one.
abbrev pub even_bit : Params → ℕ → ℕ
even_bit p lane = lane + min lane p.dual_read

-- the bit of a lane's high half, which only the lanes below X_DUALREAD have
abbrev pub odd_bit : Params → ℕ → Option ℕ
odd_bit p lane = if nat_lt lane p.dual_read then Some (even_bit p lane + 1) else None
