-- What the history tells of the engine's state.
use Rattle.std.specs.Prelude.{ℕ, ◌==◌, ◌&&◌, not, max, Bool, false, if◌then◌else◌, Option, Some, None, is_some, List, [], ◌∷◌, ◌++◌, filter}
use Rattle.std.specs.Option.{option_map, option_map_or}
use Rattle.xif_base.specs.declared.params.Key.{Key}
use Rattle.xif_base.specs.declared.params.Params.{Params}
use Rattle.coproc_config.specs.declared.accept.Hit.{Hit}
use Rattle.coproc_config.specs.Set.{UnitTable}
use Rattle.coproc_config.specs.Accept.{hit_of}
use Rattle.coproc_config.specs.State.{zeros}
use Rattle.coproc_config.specs.Apply.{Outcome}
use Rattle.xif_session.specs.declared.fact.Decision.{Decision}
use Rattle.xif_session.specs.declared.fact.Decision.TheVariants.{Undecided}
use Rattle.xif_session.specs.declared.fact.Fact.{Fact}
use Rattle.xif_session.specs.Facts.{same_key, verdict_of}
use Rattle.xif_session.specs.Uses.{Use as SessionUse}
use Rattle.cycle_spec.specs.declared.use_of.Use.{Use}
use Rattle.cycle_spec.specs.Engine.{outcome_by}
use Rattle.engine_history.specs.Lives.{Life, Answer, Verdict, is_accepted, is_killed}

-- ---- the fields of a use

-- the entry that takes its word, once it is accepted
abbrev pub hit_by : Params → List UnitTable → Answer → Option Hit
hit_by params set a = if a.response.accept then hit_of set params a.word else None

abbrev pub hit_told : Params → List UnitTable → Option Answer → Option Hit
hit_told params set None = None
hit_told params set (Some a) = hit_by params set a

abbrev pub decision_told : Option Verdict → Decision
decision_told None = Undecided
decision_told (Some v) = verdict_of v.kill

-- all but its end and what the units made of it
abbrev pub use_told : Params → List UnitTable → Life → Use
use_told params set l = record {
  key = l.key;
  start = l.start;
  word = l.word;
  hit = hit_told params set l.answer;
  order = option_map_or (λ a. a.number) l.answer 0;
  given = is_some l.operands;
  lanes = option_map_or (λ o. o.lanes) l.operands (0 ∷ 0 ∷ 0 ∷ []);
  decision = decision_told l.verdict;
  finished = false;
  ready = None;
  result = 0;
}

-- a use without its end and without what the units made of it
abbrev pub plain : Use → Use
plain u = record u { finished = false; ready = None; result = 0 }

-- ---- the latest use of each key, in the order of their starts, the oldest first

abbrev pub others : Key → List Use → List Use
others key us = filter (λ u. not (same_key u.key key)) us

abbrev pub latest_uses : List Use → List Use
latest_uses [] = []
latest_uses (u ∷ older) = others u.key (latest_uses older) ++ u ∷ []

-- ---- the ready cycle

-- the later of two cycles, once both are there
abbrev pub later : Option ℕ → Option ℕ → Option ℕ
later None other = None
later (Some a) None = None
later (Some a) (Some b) = Some (max a b)

-- the cycle of the issue handshake
abbrev pub answer_cycle : Life → Option ℕ
answer_cycle l = option_map (λ a. a.cycle) l.answer

-- the cycle of the register handshake; a use that reads no register waits for none
abbrev pub reads : Life → Bool
reads l = not (option_map_or (λ a. a.response.register_read.0) l.answer 0 == 0)

abbrev pub operands_cycle : Life → Option ℕ
operands_cycle l = if reads l then option_map (λ o. o.cycle) l.operands else Some 0

-- the cycle of the release
abbrev pub release_by : Option Verdict → Option ℕ
release_by None = None
release_by (Some v) = if v.kill then None else Some v.cycle

-- the cycle with which a use has all that it waits for on its own
abbrev pub complete_cycle : Life → Option ℕ
complete_cycle l = later (answer_cycle l) (later (operands_cycle l) (release_by l.verdict))

-- an accepted use of a hart that isn't killed: it counts for the younger ones
abbrev pub counts : (hart : ℕ) → Life → Bool
counts hart l = (l.key.hart == hart) && (is_accepted l && not (is_killed l))

-- the cycle with which all of them are complete
abbrev pub all_complete : (hart : ℕ) → List Life → Option ℕ
all_complete hart [] = Some 0
all_complete hart (l ∷ older) =
    if counts hart l then later (complete_cycle l) (all_complete hart older)
    else all_complete hart older

-- The ready cycle of a use: it and all older ones of its hart that count are complete. No killed
-- use is ready, and none that wasn't accepted.
abbrev pub ready_cycle : Life → (older : List Life) → Option ℕ
ready_cycle l older =
    if counts l.key.hart l then later (complete_cycle l) (all_complete l.key.hart older) else None

abbrev pub is_ready : Life → (older : List Life) → Bool
is_ready l older = is_some (ready_cycle l older)

-- the cycle with which all uses of a hart that count are ready: `uses_law` says that it is the one
-- with which all of them are complete
abbrev pub all_ready : (hart : ℕ) → List Life → Option ℕ
all_ready hart [] = Some 0
all_ready hart (l ∷ older) =
    if counts hart l then later (ready_cycle l older) (all_ready hart older)
    else all_ready hart older

-- ---- the accumulators

-- what the entry that takes a use makes of the accumulators
abbrev pub outcome_told : Params → List UnitTable → List (List ℕ) → Life → Outcome
outcome_told params set state l =
    outcome_by set (hit_told params set l.answer) state (use_told params set l).lanes

-- the accumulators of a hart after its ready uses, in the order of their issue handshakes
abbrev pub units_told : Params → List UnitTable → (hart : ℕ) → List Life → List (List ℕ)
units_told params set hart [] = zeros set
units_told params set hart (l ∷ older) =
    if (l.key.hart == hart) && is_ready l older
    then (outcome_told params set (units_told params set hart older) l).state
    else units_told params set hart older

-- ---- a use, with its end and what the units made of it

abbrev pub result_told : Params → List UnitTable → Life → (older : List Life) → ℕ
result_told params set l older =
    if is_ready l older
    then (outcome_told params set (units_told params set l.key.hart older) l).result
    else 0

abbrev pub whole_use : Params → List UnitTable → Life → (older : List Life) → Use
whole_use params set l older = record (use_told params set l) {
  finished = is_some l.finish;
  ready = ready_cycle l older;
  result = result_told params set l older;
}

abbrev pub whole_uses : Params → List UnitTable → List Life → List Use
whole_uses params set [] = []
whole_uses params set (l ∷ older) = whole_use params set l older ∷ whole_uses params set older

-- ---- a use, as the rules of a session see it

abbrev pub fact_told : Life → Fact
fact_told l = record {
  start = l.start;
  instr = l.word;
  response = option_map (λ a. a.response) l.answer;
  operands = option_map (λ o. record { 0 = o.valid }) l.operands;
  decision = decision_told l.verdict;
  finished = is_some l.finish;
}

abbrev pub session_use : Life → SessionUse
session_use l = record { key = l.key; fact = fact_told l }
