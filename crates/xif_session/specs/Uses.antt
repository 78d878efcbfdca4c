-- All uses of a session, the newest first, older uses of a key among them: a second view, over the
-- whole list. `facts_law` says that the latest uses that `Facts` keeps are those of this list, and
-- that I2 and C3 ask for no more.
use Rattle.std.specs.Prelude.{ℕ, ◌≡◌, ◌<◌, ◌≤◌, ◌^◌, ◌==◌, ◌&&◌, not, Bool, true, false, if◌then◌else◌, Option, Some, None, List, [], ◌∷◌, map, length, IsTrue}
use Rattle.xif_base.specs.declared.params.Key.{Key}
use Rattle.xif_base.specs.declared.params.Params.{Params}
use Rattle.xif_signals.specs.declared.bus.Bus.{Bus}
use Rattle.xif_session.specs.declared.fact.Fact.{Fact}
use Rattle.xif_session.specs.Facts.{same_key, issue_key, register_key, commit_key, result_key, is_issued, is_given, is_taken, issue_waits, has_killed, is_in_flight, is_pending, idle_bus, new_fact, with_response, with_operands, with_decision, with_end, response_on, undecided_start}

-- a use, and what is said of it
pub record Use : Type 0 where
  pub key : Key
  pub fact : Fact

-- the latest use of a key
abbrev pub latest : List Use → Key → Option Fact
latest [] key = None
latest (use' ∷ uses) key = if same_key use'.key key then Some use'.fact else latest uses key

abbrev pub last_bus : List Bus → Bus
last_bus [] = idle_bus
last_bus (b ∷ session) = b

-- the issue transaction of the last bus continues: the latest use of its key wasn't killed
abbrev pub continues : (last : Bus) → List Use → Bus → Bool
continues last uses b =
    issue_waits last
    && (b.issue_valid && (same_key (issue_key last) (issue_key b)
    && not (has_killed (latest uses (issue_key b)))))

abbrev pub with_start : (cycle : ℕ) (last : Bus) → Bus → List Use → List Use
with_start cycle last b uses =
    if b.issue_valid && not (continues last uses b)
    then record { key = issue_key b; fact = new_fact cycle b.issue_instr } ∷ uses
    else uses

-- a change of the latest use of a key
abbrev pub change_latest : Key → (Fact → Fact) → List Use → List Use
change_latest key change [] = []
change_latest key change (use' ∷ uses) =
    if same_key use'.key key
    then record use' { fact = change use'.fact } ∷ uses
    else use' ∷ change_latest key change uses

abbrev pub with_answer : Bus → List Use → List Use
with_answer b uses =
    if is_issued b then change_latest (issue_key b) (with_response true (response_on b)) uses
    else uses

abbrev pub with_registers : Bus → List Use → List Use
with_registers b uses =
    if is_given b
    then change_latest (register_key b) (with_operands true b.register_rs_valid) uses
    else uses

-- an effective commit decides every undecided use of the hart from the named one on, or up to it
abbrev pub decide_use : Bus → (start : ℕ) → Use → Use
decide_use b start use' =
    record use' {
      fact = with_decision (b.commit_hartid == use'.key.hart) start b.commit_kill use'.fact;
    }

abbrev pub with_commit : Bus → Option ℕ → List Use → List Use
with_commit b None uses = uses
with_commit b (Some start) uses = map (decide_use b start) uses

abbrev pub effective_in : Bus → List Use → Option ℕ
effective_in b uses = if b.commit_valid then undecided_start (latest uses (commit_key b)) else None

abbrev pub with_result : Bus → List Use → List Use
with_result b uses = if is_taken b then change_latest (result_key b) (with_end true) uses else uses

abbrev pub uses_after : (cycle : ℕ) (last : Bus) → Bus → List Use → List Use
uses_after cycle last b uses =
    let named = with_start cycle last b uses in
    with_result b (with_commit b (effective_in b named) (with_registers b (with_answer b named)))

abbrev pub uses_of : List Bus → List Use
uses_of [] = []
uses_of (b ∷ session) = uses_after (length session) (last_bus session) b (uses_of session)

-- no use of a key is in flight, an older one neither
abbrev pub none_in_flight : (profile : ℕ) → List Use → Key → Bool
none_in_flight profile [] key = true
none_in_flight profile (use' ∷ uses) key =
    not (same_key use'.key key && is_in_flight profile (Some use'.fact))
    && none_in_flight profile uses key

-- the uses of a session with the one that a bus starts
abbrev pub uses_with : List Bus → Bus → List Use
uses_with session b = with_start (length session) (last_bus session) b (uses_of session)

-- No use of a hart that started before this cycle was answered and is undecided, an older use of a
-- key neither.
abbrev pub NoneOlder : Params → List Use → (hart start : ℕ) → Type 0
NoneOlder params [] hart start = Unit {0}
NoneOlder params (use' ∷ uses) hart start =
    (use'.key.hart ≡ hart → use'.key.id < 2 ^ params.id_width
    → IsTrue (is_pending (Some use'.fact)) → start ≤ use'.fact.start)
    × NoneOlder params uses hart start
