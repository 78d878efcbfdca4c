use Rattle.xif_image.proofs.Stores.{loaded-stored, loaded-apart}
use Rattle.xif_image.proofs.laws.a_store_is_loaded_again.Goals as goal

pub returns : goal.returns
returns c = record { there = loaded-stored; elsewhere = loaded-apart }
