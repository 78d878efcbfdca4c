-- What stands of the files and of the output after a call of the program.
use Rattle.std.specs.Prelude.{◌≡◌, ◌⊎◌, ℕ, List, Option, Some}
use Rattle.xif_base.specs.Files.{Files}
use Rattle.xif_base.specs.Output.{grown, GrowsByFront}
use Rattle.xif_base.specs.declared.outside.Which.{Which}
use Rattle.xif_base.specs.declared.outside.Which.TheVariants.{Output}
use Rattle.xif_targets.specs.Targets.{written, StopsAtFile}
use Rattle.xif_cli.specs.declared.answer.End.{End}
use Rattle.xif_cli.specs.Outcome.{Answer}

-- An answer that is meant ends so. Its files are written, and its text is printed.
pub record IsDone (IsMeant : Answer → Type 0) (end : End) (before : Files) (after : Option Files)
    (put_before put_after : Option (List ℕ)) : Type 0 where
  pub answer : Answer
  pub is_meant : IsMeant answer
  pub ends : answer.end ≡ end
  pub files : after ≡ Some (written answer.targets before)
  pub output : put_after ≡ grown put_before answer.printed

-- The writing of an answer stops in one of its files, and nothing is printed; or all of its files
-- are written, and a front of its text is printed.
abbrev pub StopsIn : (w : Which) (answer : Answer) (before after : Files)
    (put_before put_after : Option (List ℕ)) → Type 0
StopsIn w answer before after put_before put_after =
    (StopsAtFile w answer.targets before after × (put_after ≡ put_before))
    ⊎ ((w ≡ Output) × ((after ≡ written answer.targets before)
    × GrowsByFront put_before put_after answer.printed))

-- likewise, of files that are reported
pub record StopsAt (w : Which) (answer : Answer) (before : Files) (after : Option Files)
    (put_before put_after : Option (List ℕ)) : Type 0 where
  pub left : Files
  pub reported : after ≡ Some left
  pub stops : StopsIn w answer before left put_before put_after

-- likewise, of an answer that is meant
pub record IsBrokenOff (IsMeant : Answer → Type 0) (w : Which) (before : Files)
    (after : Option Files) (put_before put_after : Option (List ℕ)) : Type 0 where
  pub answer : Answer
  pub is_meant : IsMeant answer
  pub stops : StopsAt w answer before after put_before put_after
