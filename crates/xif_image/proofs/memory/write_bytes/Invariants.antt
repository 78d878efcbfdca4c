use Rattle.std.proofs.Common.{◌≡◌, drop}
use Rattle.xif_image.specs.Image.{bytes_after}
use Rattle.xif_image.proofs.memory.write_bytes.Given as goal

abbrev pub invariant-loop-byte : goal.invariant-loop-byte
invariant-loop-byte l = bytes_after l.base l.bytes (drop l.byte-index l.image) ≡ bytes_after l.base l.fn.bytes l.image
