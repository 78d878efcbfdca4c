use Rattle.xif_image.proofs.Parts.{text-parts, parted}
use Rattle.xif_image.proofs.laws.a_text_is_read_by_its_parts.Goals as goal

pub returns : goal.returns
returns c = record { parts = parted; read = text-parts }
