use Rattle.std.proofs.Common.{◌≡◌, ◌≤◌, ◌<◌, ℕ, List, ◌-◌, length, vec_len}
use Rattle.xif_base.specs.Files.{HasBytes}
use Rattle.xif_base.proofs.Fronts.{IsFront}
use Rattle.xif_base.proofs.pieces.read_pieces.Given as goal

-- a prefix of the file was taken
abbrev pub invariant-pieces : goal.invariant-pieces
invariant-pieces g l = record {
  taken : (text : List ℕ) × (g.T.Intake.takes l.fn.intake text l.intake × ((length text ≡ l.at) × ((bytes : List ℕ) → HasBytes (g.S.Shelf.files l.fn.shelf) l.name bytes → IsFront text bytes)));
  within : l.at ≤ l.limit;
  space : l.limit - l.at < g.T.Intake.room l.intake;
  room : vec_len l.room ≡ 65536;
  uncounted : g.S.Shelf.fetch_faults l.shelf ≡ g.S.Shelf.fetch_faults l.fn.shelf;
  writes : g.S.Shelf.write_faults l.shelf ≡ g.S.Shelf.write_faults l.fn.shelf;
  files : g.S.Shelf.files l.shelf ≡ g.S.Shelf.files l.fn.shelf;
  faultless : g.S.Shelf.faultless l.fn.shelf → g.S.Shelf.faultless l.shelf;
}

abbrev pub decreases-pieces : goal.decreases-pieces
decreases-pieces g l = l.limit - l.at
