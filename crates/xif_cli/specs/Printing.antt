-- How printing can fail. Internal: what the contracts of private functions cite; nothing here has
-- to be believed.
use Rattle.std.specs.Prelude.{◌≡◌, ◌⊎◌}
use Rattle.xif_base.specs.declared.outside.Which.TheVariants as which
use Rattle.xif_cli.specs.declared.status.Status.{Status}
use Rattle.xif_cli.specs.declared.status.Status.TheVariants.{WriteFault, NoMemory}

-- what printing a text can fail with
abbrev pub IsPrintFail : Status → Type 0
IsPrintFail status = (status ≡ WriteFault which.Output) ⊎ (status ≡ NoMemory)
