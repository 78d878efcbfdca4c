-- Which history a judge represents.
use Rattle.std.specs.Prelude.{◌≡◌, ℕ, List, length, Option, Some, None, Result, Ok, Err}
use Rattle.xif_base.specs.declared.params.Params.{Params}
use Rattle.xif_signals.specs.declared.sample.Quad.{Quad}
use Rattle.xif_signals.specs.declared.bus.Bus.{Bus}
use Rattle.xif_session.specs.Facts.{Past}
use Rattle.xif_uses.specs.Table.{Table}
use Rattle.issue_channel.specs.Following.{Following, Follows, IsReady}
use Rattle.xif_judge.specs.declared.verdict.Fault.{Fault}
use Rattle.xif_judge.specs.declared.verdict.Verdict.{Verdict}
use Rattle.xif_judge.specs.Rules.{past_at}
use Rattle.xif_judge.specs.Histories.{first_fault}

-- ---- a session

-- what contracts see of a judge of a session
pub record SessionJudging : Type 0 where
  -- of each key its latest use
  pub uses : Table
  -- what the issue side keeps
  pub issue : Following
  -- the bus of the last cycle, which the result side keeps
  pub last : Bus
  -- how many cycles of the session it has judged
  pub cycles : ℕ

-- It has what came before a cycle.
pub record HasFollowed (session : SessionJudging) (params : Params) (p : Past) : Type 0 where
  pub follows : Follows session.issue session.uses params p
  pub last : session.last ≡ p.last
  pub cycles : session.cycles ≡ p.cycle

-- It can judge the next cycle.
pub record CanJudge (session : SessionJudging) (params : Params) : Type 0 where
  pub same : session.uses.params ≡ params
  pub ready : IsReady session.issue session.uses session.cycles

-- ---- a history

-- what contracts see of a judge
pub record Judging : Type 0 where
  pub params : Params
  -- how many cycles it has judged
  pub cycles : ℕ
  -- the first fault so far
  pub verdict : Option Verdict
  -- what it keeps of the session, while there is no fault
  pub session : SessionJudging

-- A judge by these parameters represents a history, the newest sample first.
pub record Represents (judge : Judging) (params : Params) (history : List (List Quad))
    : Type 0 where
  pub same : judge.params ≡ params
  pub cycles : judge.cycles ≡ length history
  pub verdict : judge.verdict ≡ first_fault params history
  pub session : judge.verdict ≡ None → HasFollowed judge.session params (past_at params history)

-- what a judge returns by the first fault so far
abbrev pub answer_of : Option Verdict → Result Unit Verdict
answer_of None = Ok tt
answer_of (Some verdict) = Err verdict

-- and what the judging of a cycle returns by the cycle's fault
abbrev pub fault_answer : Option Fault → Result Unit Fault
fault_answer None = Ok tt
fault_answer (Some fault) = Err fault
