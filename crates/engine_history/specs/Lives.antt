-- The history of a session: every use that was ever started, and in which cycle what happened to
-- it. A session is a list of buses, one a cycle, the newest first; so is its history. A use is one
-- instruction that is offered under a key (CV-X-IF 1.0.0, "Identification"). Cycles are counted
-- from the first one of the session.
use Rattle.std.specs.Prelude.{ℕ, ◌≡◌, ◌<◌, ◌==◌, ◌&&◌, not, Bool, false, if◌then◌else◌, Option, Some, None, is_none, IfSome, List, [], ◌∷◌, map, find, filter, length}
use Rattle.std.specs.Option.{option_map, option_map_or}
use Rattle.xif_base.specs.declared.params.Key.{Key}
use Rattle.xif_signals.specs.declared.bus.Bus.{Bus}
use Rattle.xif_session.specs.declared.fact.Response.{Response}
use Rattle.xif_session.specs.Facts.{same_key, issue_key, register_key, commit_key, result_key, is_issued, is_given, is_taken, issue_waits, is_covered, response_on}
use Rattle.xif_session.specs.Uses.{last_bus}

-- ---- one use

-- what the coprocessors answered at its issue handshake
pub record Answer : Type 0 where
  pub cycle : ℕ
  pub response : Response
  -- the word on the channel
  pub word : ℕ
  -- how many uses were accepted before it
  pub number : ℕ

-- the lanes at its register handshake, and which halves of them were valid
pub record Operands : Type 0 where
  pub cycle : ℕ
  pub lanes : List ℕ
  pub valid : ℕ

-- the effective commit that decided about it
pub record Verdict : Type 0 where
  pub cycle : ℕ
  pub kill : Bool

pub record Life : Type 0 where
  pub key : Key
  -- the cycle in which its issue transaction starts, and the word that is offered then
  pub start : ℕ
  pub word : ℕ
  pub answer : Option Answer
  pub operands : Option Operands
  pub verdict : Option Verdict
  -- the cycle of its result handshake
  pub finish : Option ℕ

abbrev pub new_life : Key → (start word : ℕ) → Life
new_life key start word = record {
  key = key;
  start = start;
  word = word;
  answer = None;
  operands = None;
  verdict = None;
  finish = None;
}

abbrev pub is_of : Key → Life → Bool
is_of key l = same_key l.key key

abbrev pub is_accepted : Life → Bool
is_accepted l = option_map_or (λ a. a.response.accept) l.answer false

abbrev pub is_killed : Life → Bool
is_killed l = option_map_or (λ v. v.kill) l.verdict false

abbrev pub is_released : Life → Bool
is_released l = option_map_or (λ v. not v.kill) l.verdict false

-- ---- what a key names

-- the latest use of a key
abbrev pub latest : Key → List Life → Option Life
latest key ls = find (is_of key) ls

abbrev pub start_of : Key → List Life → Option ℕ
start_of key ls = option_map (λ l. l.start) (latest key ls)

-- ---- what happens in a cycle

-- The issue transaction of the last cycle goes on: it waited for its handshake, its key is offered
-- again, and its use wasn't killed.
abbrev pub goes_on : (last : Bus) → Bus → List Life → Bool
goes_on last b ls =
    issue_waits last
    && (b.issue_valid && (same_key (issue_key last) (issue_key b)
    && not (option_map_or is_killed (latest (issue_key b) ls) false)))

-- Else an offer starts a use.
abbrev pub starts : (last : Bus) → Bus → List Life → Bool
starts last b ls = b.issue_valid && not (goes_on last b ls)

abbrev pub with_start : (cycle : ℕ) → (last : Bus) → Bus → List Life → List Life
with_start cycle last b ls =
    if starts last b ls then new_life (issue_key b) cycle b.issue_instr ∷ ls else ls

-- a change of the use that started in a cycle: no two start in one
abbrev pub change_if : Bool → (Life → Life) → Life → Life
change_if test change l = if test then change l else l

abbrev pub at_start : Option ℕ → (Life → Life) → List Life → List Life
at_start None change ls = ls
at_start (Some start) change ls = map (λ l. change_if (l.start == start) change l) ls

-- at the issue handshake the use is answered
abbrev pub answer_on : (cycle number : ℕ) → Bus → Answer
answer_on cycle number b = record {
  cycle = cycle;
  response = response_on b;
  word = b.issue_instr;
  number = number;
}

abbrev pub accepted_in : List Life → ℕ
accepted_in ls = length (filter is_accepted ls)

abbrev pub answered : (cycle : ℕ) → Bus → List Life → List Life
answered cycle b ls =
    if is_issued b
    then at_start (start_of (issue_key b) ls)
    (λ l. record l { answer = Some (answer_on cycle (accepted_in ls) b) }) ls
    else ls

-- at the register handshake it has its registers
abbrev pub lanes_on : Bus → List ℕ
lanes_on b = b.register_rs0 ∷ b.register_rs1 ∷ b.register_rs2 ∷ []

abbrev pub operands_on : (cycle : ℕ) → Bus → Operands
operands_on cycle b = record {
  cycle = cycle;
  lanes = lanes_on b;
  valid = b.register_rs_valid;
}

abbrev pub given : (cycle : ℕ) → Bus → List Life → List Life
given cycle b ls =
    if is_given b
    then at_start (start_of (register_key b) ls)
    (λ l. record l { operands = Some (operands_on cycle b) }) ls
    else ls

-- A commit that names an undecided use decides about the undecided uses of its hart: a kill about
-- that use and those that started later, a release about it and those that started earlier.
abbrev pub is_in_group : (kill : Bool) → (named : Life) → Life → Bool
is_in_group kill named l =
    is_none l.verdict && ((l.key.hart == named.key.hart) && is_covered kill named.start l.start)

abbrev pub decided_by : (cycle : ℕ) → (kill : Bool) → Option Life → List Life → List Life
decided_by cycle kill None ls = ls
decided_by cycle kill (Some named) ls =
    if is_none named.verdict
    then map (λ l. change_if (is_in_group kill named l)
    (λ l. record l { verdict = Some (record { cycle = cycle; kill = kill }) }) l) ls
    else ls

abbrev pub decided : (cycle : ℕ) → Bus → List Life → List Life
decided cycle b ls =
    if b.commit_valid then decided_by cycle b.commit_kill (latest (commit_key b) ls) ls else ls

-- at the result handshake it is finished
abbrev pub finished : (cycle : ℕ) → Bus → List Life → List Life
finished cycle b ls =
    if is_taken b
    then at_start (start_of (result_key b) ls) (λ l. record l { finish = Some cycle }) ls
    else ls

-- ---- the history

-- in a cycle, by what the bus names in the history with the use that starts
abbrev pub changed : (cycle : ℕ) → Bus → List Life → List Life
changed cycle b ls = finished cycle b (decided cycle b (given cycle b (answered cycle b ls)))

abbrev pub lives_after : (cycle : ℕ) → (last : Bus) → Bus → List Life → List Life
lives_after cycle last b ls = changed cycle b (with_start cycle last b ls)

abbrev pub lives_of : List Bus → List Life
lives_of [] = []
lives_of (b ∷ session) = lives_after (length session) (last_bus session) b (lives_of session)

-- with the use that starts in the next cycle
abbrev pub lives_with : List Bus → Bus → List Life
lives_with session b = with_start (length session) (last_bus session) b (lives_of session)

-- ---- laws over histories

-- the issue handshakes of these uses came before a cycle
abbrev pub AnsweredBefore : (cycle : ℕ) → List Life → Type 0
AnsweredBefore cycle [] = Unit {0}
AnsweredBefore cycle (l ∷ ls) =
    IfSome l.answer (λ a. a.cycle < cycle) × AnsweredBefore cycle ls

-- A use that was answered was so behind each older one, and its number is that of the older uses
-- that were accepted.
pub record IsInOrder (a : Answer) (older : List Life) : Type 0 where
  pub behind : AnsweredBefore a.cycle older
  pub number_is : a.number ≡ accepted_in older

abbrev pub AnswersAreInOrder : List Life → Type 0
AnswersAreInOrder [] = Unit {0}
AnswersAreInOrder (l ∷ older) =
    IfSome l.answer (λ a. IsInOrder a older) × AnswersAreInOrder older

abbrev pub without_killed : List Life → List Life
without_killed ls = filter (λ l. not (is_killed l)) ls
