use Rattle.std.proofs.Common.{◌≡◌, ◌<◌, ◌^◌, drop, Some, None, if◌then◌else◌}
use Rattle.std.specs.Str.Parse.{digits_value_after}
use Rattle.xif_image.specs.Text.{are_digits, address_in}
use Rattle.xif_image.proofs.text.address.Given as goal

abbrev pub invariant-loop-digit : goal.invariant-loop-digit
invariant-loop-digit l = record {
  small : l.number < 16 ^ l.digit-index;
  rest : (if are_digits (drop l.digit-index l.digits) then Some (digits_value_after 16 l.number (drop l.digit-index l.digits)) else None) ≡ address_in l.digits;
}
