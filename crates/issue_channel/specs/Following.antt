-- Which session the issue side and the table of uses follow, between two cycles and within one.
use Rattle.std.specs.Prelude.{◌≡◌, ℕ, true, if◌then◌else◌, Option, None, List, ◌++◌, IsTrue, IfSome, IsSomeAnd}
use Rattle.xif_base.specs.declared.params.Key.{Key}
use Rattle.xif_base.specs.declared.params.Params.{Params}
use Rattle.xif_signals.specs.declared.bus.Bus.{Bus}
use Rattle.xif_signals.specs.declared.rule.Rule.{Rule}
use Rattle.xif_session.specs.Facts.{Past, Facts, issue_key, register_key, has_killed, named, answered_on, given_on, now}
use Rattle.xif_session.specs.Tests.{issue_rules, register_rules}
use Rattle.xif_uses.specs.Handshake.{waiting_key}
use Rattle.xif_uses.specs.Table.{Table, IsKey, Represents, StartsBefore, NoneLater, use_of}

-- what contracts see of the issue side
pub record Following : Type 0 where
  pub params : Params
  -- the keys of the issue transaction and of the register transaction that may continue
  pub issue : Option Key
  pub register : Option Key
  -- the bus of the last cycle
  pub last : Bus

-- the transactions of a bus that wait for ready
abbrev pub waiting_issue : Bus → Option Key
waiting_issue b = waiting_key b.issue_valid b.issue_ready (issue_key b)

abbrev pub waiting_register : Bus → Option Key
waiting_register b = waiting_key b.register_valid b.register_ready (register_key b)

-- the issue transaction of a bus that may continue: it waits, and its use wasn't killed
abbrev pub open_issue : Facts → Bus → Option Key
open_issue facts b = if has_killed (facts (issue_key b)) then None else waiting_issue b

-- ---- what the side keeps

-- The side has this last bus, with its register transaction, and this issue transaction is open.
pub record Keeps (side : Following) (params : Params) (last : Bus) (issue : Option Key)
    : Type 0 where
  pub same : side.params ≡ params
  pub before : side.last ≡ last
  pub registers : side.register ≡ waiting_register last
  pub offered : side.issue ≡ issue

-- Between two cycles the side and the table have what came before.
pub record Follows (side : Following) (table : Table) (params : Params) (p : Past) : Type 0 where
  pub facts : Represents table params p.facts
  pub keeps : Keeps side params p.last (open_issue p.facts p.last)

-- Behind the issue and register rules of a cycle they have its starts, responses and operands.
pub record HasIssued (side : Following) (table : Table) (params : Params) (p : Past) (b : Bus)
    : Type 0 where
  pub facts : Represents table params (given_on b (answered_on b (named p b)))
  pub keeps : Keeps side params b (waiting_issue b)

-- Behind the commit rules they have its decision too.
pub record HasDecided (side : Following) (table : Table) (params : Params) (p : Past) (b : Bus)
    : Type 0 where
  pub facts : Represents table params (now p b)
  pub keeps : Keeps side params b (open_issue (now p b) b)

-- ---- what the calls of the side need

-- the latest use of a key of the interface is still offered, and it started last
pub record IsOpen (table : Table) (key : Key) : Type 0 where
  pub inside : IsKey table.params key
  pub ongoing : IsSomeAnd (use_of table key) (λ latest. latest.ongoing ≡ true)
  pub newest : IfSome (use_of table key) (λ latest. NoneLater table latest.start)

-- They are ready for a cycle: uses started before it, and the transaction that may continue is open.
pub record IsReady (side : Following) (table : Table) (cycle : ℕ) : Type 0 where
  pub same : side.params ≡ table.params
  pub starts : StartsBefore table cycle
  pub offered : IfSome side.issue (IsOpen table)

-- the use that is offered in a cycle started last
abbrev pub OffersNewest : Table → Bus → Type 0
OffersNewest table b =
    IsTrue b.issue_valid
    → IfSome (use_of table (issue_key b)) (λ latest. NoneLater table latest.start)

-- ---- the rules of the side, in the order in which they are judged

abbrev pub side_rules : List Rule
side_rules = issue_rules ++ register_rules
