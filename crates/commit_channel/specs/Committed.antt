-- Internal: what a commit is by the answer of the table of uses, and which issue transaction stays
-- open behind it.
use Rattle.std.specs.Prelude.{if◌then◌else◌, Option, Some, None}
use Rattle.xif_base.specs.declared.params.Key.{Key}
use Rattle.xif_signals.specs.declared.rule.Rule.{Rule}
use Rattle.xif_signals.specs.declared.rule.Rule.TheVariants.{C1, C2, C3}
use Rattle.xif_session.specs.Facts.{has_killed}
use Rattle.xif_uses.specs.declared.table.Decided.{Decided}
use Rattle.xif_uses.specs.declared.table.Decided.TheVariants.{Taken, Repeat, WasKilled, WasReleased, NoUse, OutOfOrder}
use Rattle.xif_uses.specs.Table.{Table, facts_in}

-- the rule that a commit breaks
abbrev pub broken_rule : Decided → Option Rule
broken_rule Taken = None
broken_rule Repeat = None
broken_rule NoUse = Some C1
broken_rule WasKilled = Some C2
broken_rule WasReleased = Some C3
broken_rule OutOfOrder = Some C3

-- a transaction that waits, unless its use was killed
abbrev pub still_open : Table → Option Key → Option Key
still_open table None = None
still_open table (Some key) = if has_killed (facts_in table key) then None else Some key
