use Rattle.xif_image.proofs.HexText.{text_image-hex}
use Rattle.xif_image.proofs.laws.bytes_in_hex_are_an_image.Goals as goal

pub returns : goal.returns
returns c = text_image-hex
