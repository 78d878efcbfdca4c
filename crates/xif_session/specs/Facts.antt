-- What the buses of a session say of each key: its latest use. A key is a pair of hartid and id,
-- and a use is one instruction that is offered under it (CV-X-IF 1.0.0, "Identification"). A
-- session is a list of buses, one a cycle, the newest first.
use Rattle.std.specs.Prelude.{ℕ, ◌+◌, ◌==◌, ◌&&◌, ◌||◌, not, nat_le, Bool, true, false, if◌then◌else◌, Option, Some, None, is_some, List, [], ◌∷◌}
use Rattle.std.specs.Option.{option_map, option_map_or}
use Rattle.xif_base.specs.declared.params.Key.{Key}
use Rattle.xif_signals.specs.declared.bus.Bus.{Bus}
use Rattle.xif_signals.specs.declared.rule.Channel.TheVariants.{Issue, Register, Commit, Result as ResultChannel}
use Rattle.xif_signals.specs.Channels.{key_of}
use Rattle.xif_session.specs.declared.fact.Response.{Response}
use Rattle.xif_session.specs.declared.fact.Decision.{Decision}
use Rattle.xif_session.specs.declared.fact.Decision.TheVariants.{Undecided, Released, Killed}
use Rattle.xif_session.specs.declared.fact.Fact.{Fact}

-- ---- keys and handshakes

abbrev pub same_key : Key → Key → Bool
same_key a b = (a.hart == b.hart) && (a.id == b.id)

abbrev pub issue_key : Bus → Key
issue_key b = key_of b Issue

abbrev pub register_key : Bus → Key
register_key b = key_of b Register

abbrev pub commit_key : Bus → Key
commit_key b = key_of b Commit

abbrev pub result_key : Bus → Key
result_key b = key_of b ResultChannel

-- a transaction is accepted in a cycle in which valid and ready are 1 (CV-X-IF 1.0.0, "Handshake
-- rules")
abbrev pub is_issued : Bus → Bool
is_issued b = b.issue_valid && b.issue_ready

abbrev pub is_given : Bus → Bool
is_given b = b.register_valid && b.register_ready

abbrev pub is_taken : Bus → Bool
is_taken b = b.result_valid && b.result_ready

-- and waits for the next cycle where ready is 0
abbrev pub issue_waits : Bus → Bool
issue_waits b = b.issue_valid && not b.issue_ready

abbrev pub register_waits : Bus → Bool
register_waits b = b.register_valid && not b.register_ready

abbrev pub result_waits : Bus → Bool
result_waits b = b.result_valid && not b.result_ready

-- ---- one use

abbrev pub is_undecided : Decision → Bool
is_undecided Undecided = true
is_undecided Released = false
is_undecided Killed = false

abbrev pub is_released : Decision → Bool
is_released Undecided = false
is_released Released = true
is_released Killed = false

abbrev pub is_killed : Decision → Bool
is_killed Undecided = false
is_killed Released = false
is_killed Killed = true

abbrev pub is_accepted : Option Response → Bool
is_accepted None = false
is_accepted (Some response) = response.accept

abbrev pub is_refused : Option Response → Bool
is_refused None = false
is_refused (Some response) = not response.accept

-- ---- the latest use of a key, if there is one

abbrev pub has_killed : Option Fact → Bool
has_killed None = false
has_killed (Some fact) = is_killed fact.decision

-- accepted, and neither killed nor finished
abbrev pub is_running : Option Fact → Bool
is_running None = false
is_running (Some fact) = is_accepted fact.response && not (is_killed fact.decision || fact.finished)

-- refused, and undecided
abbrev pub is_held : Option Fact → Bool
is_held None = false
is_held (Some fact) = is_refused fact.response && is_undecided fact.decision

-- In flight: the key may not be used again. In profile 2 a refused use keeps its key until it is
-- decided.
abbrev pub is_in_flight : ℕ → Option Fact → Bool
is_in_flight profile found = is_running found || (is_held found && (profile == 2))

-- answered, accepted or refused, and undecided
abbrev pub is_pending : Option Fact → Bool
is_pending None = false
is_pending (Some fact) = is_some fact.response && is_undecided fact.decision

-- ---- the session so far

-- of each key its latest use
abbrev pub Facts : Type 0
Facts = Key → Option Fact

-- what came before a cycle: how many cycles, the bus of the last one, and the latest use of each
-- key
pub record Past : Type 0 where
  pub cycle : ℕ
  pub last : Bus
  pub facts : Facts

-- a bus on which no channel is valid: before the first cycle
abbrev pub idle_bus : Bus
idle_bus = record {
  issue_valid = false;
  issue_ready = false;
  issue_hartid = 0;
  issue_id = 0;
  issue_instr = 0;
  issue_accept = false;
  issue_writeback = 0;
  issue_register_read = 0;
  register_valid = false;
  register_ready = false;
  register_hartid = 0;
  register_id = 0;
  register_rs0 = 0;
  register_rs1 = 0;
  register_rs2 = 0;
  register_rs_valid = 0;
  commit_valid = false;
  commit_hartid = 0;
  commit_id = 0;
  commit_kill = false;
  result_valid = false;
  result_ready = false;
  result_hartid = 0;
  result_id = 0;
  result_data = 0;
  result_rd = 0;
  result_we = 0;
}

-- The issue transaction of the last cycle continues: it waited, its key is offered again, and its
-- use wasn't killed.
abbrev pub issue_continues : Past → Bus → Bool
issue_continues p b =
    issue_waits p.last
    && (b.issue_valid && (same_key (issue_key p.last) (issue_key b)
    && not (has_killed (p.facts (issue_key b)))))

-- Else an offer starts a use.
abbrev pub is_start : Past → Bus → Bool
is_start p b = b.issue_valid && not (issue_continues p b)

abbrev pub starts_key : Past → Bus → Key → Bool
starts_key p b key = is_start p b && same_key (issue_key b) key

-- The register transaction of the last cycle continues: it waited, and it is for the same key and
-- the same use.
abbrev pub register_continues : Past → Bus → Bool
register_continues p b =
    register_waits p.last
    && (b.register_valid
    && (same_key (register_key p.last) (register_key b) && not (starts_key p b (register_key b))))

-- ---- the changes of the facts, by the keys that they are for

-- a use starts
abbrev pub new_fact : (cycle instr : ℕ) → Fact
new_fact cycle instr = record {
  start = cycle;
  instr = instr;
  response = None;
  operands = None;
  decision = Undecided;
  finished = false;
}

abbrev pub started : (Key → Bool) → (cycle instr : ℕ) → Facts → Facts
started is_for cycle instr facts key = if is_for key then Some (new_fact cycle instr) else facts key

-- a use is answered
abbrev pub with_response : Bool → Response → Fact → Fact
with_response test response fact =
    record fact { response = if test then Some response else fact.response }

abbrev pub answered : (Key → Bool) → Response → Facts → Facts
answered is_for response facts key = option_map (with_response (is_for key) response) (facts key)

-- a use gets its operands
abbrev pub with_operands : Bool → ℕ → Fact → Fact
with_operands test flags fact =
    record fact { operands = if test then Some (record { 0 = flags }) else fact.operands }

abbrev pub given : (Key → Bool) → ℕ → Facts → Facts
given is_for flags facts key = option_map (with_operands (is_for key) flags) (facts key)

-- A commit decides the undecided uses of a hart: a kill the named one and those that started later,
-- a release the named one and those that started earlier.
abbrev pub is_covered : (kill : Bool) (named start : ℕ) → Bool
is_covered kill named start = if kill then nat_le named start else nat_le start named

abbrev pub verdict_of : Bool → Decision
verdict_of kill = if kill then Killed else Released

abbrev pub decision_after : Bool → Bool → Decision → Decision
decision_after test kill decision =
    if test && is_undecided decision then verdict_of kill else decision

abbrev pub with_decision : Bool → (named : ℕ) → (kill : Bool) → Fact → Fact
with_decision of_hart named kill fact = record fact {
  decision = decision_after (of_hart && is_covered kill named fact.start) kill fact.decision;
}

abbrev pub decided : (hart named : ℕ) → (kill : Bool) → Facts → Facts
decided hart named kill facts key =
    option_map (with_decision (hart == key.hart) named kill) (facts key)

-- A commit that isn't effective decides nothing.
abbrev pub decided_from : Option ℕ → (hart : ℕ) → (kill : Bool) → Facts → Facts
decided_from None hart kill facts = facts
decided_from (Some start) hart kill facts = decided hart start kill facts

-- a use ends with its result
abbrev pub with_end : Bool → Fact → Fact
with_end test fact = record fact { finished = fact.finished || test }

abbrev pub ended : (Key → Bool) → Facts → Facts
ended is_for facts key = option_map (with_end (is_for key)) (facts key)

-- ---- the changes of a cycle

-- The latest use by this cycle: with the one that starts in it, and what was said of it before the
-- cycle.
abbrev pub named : Past → Bus → Facts
named p b = started (starts_key p b) p.cycle b.issue_instr p.facts

-- the answer at the issue handshake
abbrev pub response_on : Bus → Response
response_on b = record {
  accept = b.issue_accept;
  writeback = record { 0 = b.issue_writeback };
  register_read = record { 0 = b.issue_register_read };
}

abbrev pub answered_on : Bus → Facts → Facts
answered_on b = answered (λ key. is_issued b && same_key (issue_key b) key) (response_on b)

abbrev pub given_on : Bus → Facts → Facts
given_on b = given (λ key. is_given b && same_key (register_key b) key) b.register_rs_valid

-- A commit is effective where the use that it names is undecided: the start of that use.
abbrev pub undecided_start : Option Fact → Option ℕ
undecided_start None = None
undecided_start (Some fact) = if is_undecided fact.decision then Some fact.start else None

abbrev pub effective_start : Past → Bus → Option ℕ
effective_start p b = if b.commit_valid then undecided_start (named p b (commit_key b)) else None

abbrev pub decided_on : Bus → Option ℕ → Facts → Facts
decided_on b start = decided_from start b.commit_hartid b.commit_kill

-- The latest use by this cycle, with all that is said of it by the cycle, but for its end.
abbrev pub now : Past → Bus → Facts
now p b = decided_on b (effective_start p b) (given_on b (answered_on b (named p b)))

abbrev pub ended_on : Bus → Facts → Facts
ended_on b = ended (λ key. is_taken b && same_key (result_key b) key)

-- ---- the session after a cycle

abbrev pub past_after : Past → Bus → Past
past_after p b = record { cycle = p.cycle + 1; last = b; facts = ended_on b (now p b) }

-- before the first cycle
abbrev pub no_past : Past
no_past = record { cycle = 0; last = idle_bus; facts = λ key. None }

abbrev pub past_of : List Bus → Past
past_of [] = no_past
past_of (b ∷ session) = past_after (past_of session) b
