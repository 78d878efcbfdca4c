use Rattle.std.proofs.Common.{rules, subst, sym}
use Rattle.flight_table.specs.Older.{IsOlder}
use Rattle.flight_table.proofs.search.ready_among.Goals as goal

pub loop-index-init : goal.loop-index-init
loop-index-init c = record { rest = search rules; older = c.none-older.ensures c.args.dual_write c.args.file.now }

pub loop-index-preserved : goal.loop-index-preserved
loop-index-preserved c = record {
  rest = search rules;
  older =
      subst (λ es. IsOlder c.args.dual_write c.args.file.now es c.note.new.self) (sym c.entry_within-entry.ensures.older)
      (c.note.ensures c.args.file.now _ c.loop-index.invariant.older);
}
