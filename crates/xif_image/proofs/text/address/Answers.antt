use Rattle.std.proofs.Common.{arith}
use Rattle.xif_image.proofs.Items.{hex_room}
use Rattle.xif_image.proofs.text.address.Goals as goal

pub overflow_mul-number : goal.overflow_mul-number
overflow_mul-number c = omega (arith, hex_room c.loop-digit.number c.loop-digit.digit-index c.loop-digit.invariant.small (omega arith))

pub overflow_add-number : goal.overflow_add-number
overflow_add-number c =
    let digit = c.in_ok-number.ensures.value in
    omega (arith, hex_room c.loop-digit.number c.loop-digit.digit-index c.loop-digit.invariant.small (omega arith), digit.0, digit.1)
