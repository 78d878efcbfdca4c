-- The transactions that the engine counts are those of the channels.
use Rattle.std.proofs.Common.{if◌then◌else◌, ◌≡◌, ◌+◌, ◌==◌, ◌&&◌, ℕ, suc, Bool, true, false, Option, Some, None, List, [], ◌∷◌, drop, length, refl, sym, ap, ap₂, ◌∙◌, subst, arith}
use Rattle.std.proofs.lemmas.Bool.{eqb-true, eq-eqb, ne_eqb}
use Rattle.xif_base.specs.declared.params.Params.{Params}
use Rattle.coproc_config.specs.Set.{UnitTable}
use Rattle.xif_drive.specs.Scripts.{Lists}
use Rattle.xif_signals.specs.declared.bus.Bus.{Bus}
use Rattle.xif_session.specs.Facts.{issue_key, register_key}
use Rattle.xif_session.specs.Uses.{last_bus}
use Rattle.cycle_spec.specs.declared.turn.Transaction.{Transaction}
use Rattle.cycle_spec.specs.declared.turn.Transactions.{Transactions}
use Rattle.cycle_spec.specs.Turns.{no_transactions, turn_in, turn_of, begun_in, aged, transactions_after}
use Rattle.cycle_spec.specs.State.{Engine}
use Rattle.cycle_spec.specs.Engine as spec
use Rattle.engine_history.specs.Lives.{lives_of, lives_with}
use Rattle.engine_history.specs.Runs.{cpu_of, engine_of, IsDriven}
use Rattle.engine_history.specs.Channels.{Beat, waits_for, waited, begun, turn_for, named_start, owner_in, issue_beats, register_beats}
use Rattle.engine_history.proofs.Fields.{start_named, started, IsTold}
use Rattle.engine_history.proofs.Kept.{sound, told}

-- the transaction that waits after these cycles
abbrev waiting_in : Option ℕ → (ready : Bool) → List Beat → Option Transaction
waiting_in None ready older = None
waiting_in (Some o) ready older = if ready then None else Some (record { owner = o; turn = turn_for o (record { owner = Some o; ready = ready } ∷ older) })

abbrev waiting_told : List Beat → Option Transaction
waiting_told [] = None
waiting_told (beat ∷ older) = waiting_in beat.owner beat.ready older

pub record IsCount (ts : Transactions) (beats : List Beat) : Type 0 where
  pub begun_is : ts.begun ≡ begun beats
  pub waiting_is : ts.waiting ≡ waiting_told beats

and_false : (a : Bool) → (a && false) ≡ false
and_false true = refl
and_false false = refl

-- where the last cycle doesn't wait for a use, a transaction for it begins
fresh : (owner : ℕ) (beat : Beat) (older : List Beat) → waits_for owner beat ≡ false → record { number = begun (beat ∷ older); age = 0 } ≡ turn_for owner (beat ∷ older)
fresh owner beat older h = ap (λ t. record { number = begun (drop (if t then waited owner older + 1 else 0) (beat ∷ older)); age = if t then waited owner older + 1 else 0 }) (sym h)

pub turn_same : (ts : Transactions) (beats : List Beat) → IsCount ts beats → (owner : ℕ) → turn_of ts owner ≡ turn_for owner beats
turn_same ts [] c owner = ap₂ (λ w n. turn_in w n owner) c.waiting_is c.begun_is
turn_same ts (beat ∷ older) c owner = ap₂ (λ w n. turn_in w n owner) c.waiting_is c.begun_is ∙ go beat.owner beat.ready
  where
    go : (o : Option ℕ) (ready : Bool) → turn_in (waiting_in o ready older) (begun (record { owner = o; ready = ready } ∷ older)) owner ≡ turn_for owner (record { owner = o; ready = ready } ∷ older)
    go None ready = refl
    go (Some o) true = fresh owner (record { owner = Some o; ready = true }) older (and_false (o == owner))
    go (Some o) false = on (o == owner) refl
      where
        beats : List Beat
        beats = record { owner = Some o; ready = false } ∷ older

        on : (t : Bool) → (o == owner) ≡ t → (if t then turn_for o beats else record { number = begun beats; age = 0 }) ≡ turn_for owner beats
        on true q = ap (λ x. turn_for x beats) (eqb-true o owner q)
        on false q = fresh owner (record { owner = Some o; ready = false }) older (ap (λ t. t && true) q)

pub count_none : IsCount no_transactions []
count_none = record { begun_is = refl; waiting_is = refl }

not_zero : (n : ℕ) → (n + 1 == 0) ≡ false
not_zero n = ne_eqb (n + 1) 0 (λ q. omega (arith, q))

zero_if : (t : Bool) (n k : ℕ) → t ≡ false → ((if t then n + 1 else 0) == 0) ≡ true
zero_if true n k h = cc
zero_if false n k h = refl

begun_same : (beats : List Beat) (owner : ℕ) → begun_in (waiting_told beats) (begun beats) owner ≡ (if waited owner beats == 0 then begun beats + 1 else begun beats)
begun_same [] owner = refl
begun_same (beat ∷ older) owner = go beat.owner beat.ready
  where
    go : (o : Option ℕ) (ready : Bool) → begun_in (waiting_in o ready older) (begun (record { owner = o; ready = ready } ∷ older)) owner
        ≡ (if waited owner (record { owner = o; ready = ready } ∷ older) == 0 then begun (record { owner = o; ready = ready } ∷ older) + 1 else begun (record { owner = o; ready = ready } ∷ older))
    go None ready = refl
    go (Some o) true = ap (λ t. if t then begun (record { owner = Some o; ready = true } ∷ older) + 1 else begun (record { owner = Some o; ready = true } ∷ older)) (sym (zero_if ((o == owner) && false) (waited owner older) 0 (and_false (o == owner))))
    go (Some o) false = on (o == owner)
      where
        n : ℕ
        n = begun (record { owner = Some o; ready = false } ∷ older)

        on : (t : Bool) → (if t then n else n + 1) ≡ (if (if t && true then waited owner older + 1 else 0) == 0 then n + 1 else n)
        on true = ap (λ t. if t then n + 1 else n) (sym (not_zero (waited owner older)))
        on false = refl

-- a transaction goes on, or begins
aged_same : (owner : ℕ) (older : List Beat) → aged (turn_for owner older) ≡ turn_for owner (record { owner = Some owner; ready = false } ∷ older)
aged_same owner older =
    ap (λ xs. record { number = begun xs; age = waited owner older + 1 }) (sym (dropped (waited owner older) _ older))
    ∙ ap (λ t. record { number = begun (drop (if t && true then waited owner older + 1 else 0) (record { owner = Some owner; ready = false } ∷ older)); age = if t && true then waited owner older + 1 else 0 }) (sym (eq-eqb owner owner refl))
  where
    dropped : (n : ℕ) (x : Beat) (xs : List Beat) → drop (n + 1) (x ∷ xs) ≡ drop n xs
    dropped n x xs = let q : n + 1 ≡ suc n = omega arith in ap (λ k. drop k (x ∷ xs)) q

pub count_after : (ts : Transactions) (beats : List Beat) (owner : Option ℕ) (ready : Bool) → IsCount ts beats → IsCount (transactions_after ts owner ready) (record { owner = owner; ready = ready } ∷ beats)
count_after ts beats None ready c = record { begun_is = c.begun_is; waiting_is = refl }
count_after ts beats (Some o) ready c = record {
  begun_is = ap₂ (λ w n. begun_in w n o) c.waiting_is c.begun_is ∙ begun_same beats o;
  waiting_is = go ready;
}
  where
    go : (ready : Bool) → (if ready then None else Some (record { owner = o; turn = aged (turn_of ts o) })) ≡ waiting_in (Some o) ready beats
    go true = refl
    go false = ap (λ t. Some (record { owner = o; turn = t })) (ap aged (turn_same ts beats c o) ∙ aged_same o beats)

-- ---- the channels of a session

pub issue_counted : (params : Params) (set : List UnitTable) (script : Lists) (session : List Bus) → IsDriven params set script session → IsCount (engine_of params set script session).issue_turns (issue_beats session)
issue_counted params set script [] d = count_none
issue_counted params set script (b ∷ session) d =
    subst (λ o. IsCount (engine_of params set script (b ∷ session)).issue_turns (record { owner = o; ready = b.issue_ready } ∷ issue_beats session)) (owners b.issue_valid)
    (count_after e.issue_turns (issue_beats session) (spec.owner_if b.issue_valid (spec.issue_start e (cpu_of b))) b.issue_ready (issue_counted params set script session d.1))
  where
    e : Engine
    e = engine_of params set script session

    m : IsTold params set (length session) (last_bus session) (lives_of session) e
    m = told params set script session d.1

    owners : (v : Bool) → spec.owner_if v (spec.issue_start e (cpu_of b)) ≡ owner_in v (issue_key b) session b
    owners true =
        ap Some (start_named params set (spec.started_uses e (cpu_of b)) (lives_with session b) (started params set (length session) (last_bus session) b (lives_of session) e m (sound session)) (issue_key b) e.cycle
        ∙ ap (named_start (issue_key b) (lives_with session b)) m.cycle_is)
    owners false = refl

pub register_counted : (params : Params) (set : List UnitTable) (script : Lists) (session : List Bus) → IsDriven params set script session → IsCount (engine_of params set script session).register_turns (register_beats session)
register_counted params set script [] d = count_none
register_counted params set script (b ∷ session) d =
    subst (λ o. IsCount (engine_of params set script (b ∷ session)).register_turns (record { owner = o; ready = b.register_ready } ∷ register_beats session)) (owners b.register_valid)
    (count_after e.register_turns (register_beats session) (spec.owner_if b.register_valid (spec.register_start e (cpu_of b))) b.register_ready (register_counted params set script session d.1))
  where
    e : Engine
    e = engine_of params set script session

    m : IsTold params set (length session) (last_bus session) (lives_of session) e
    m = told params set script session d.1

    owners : (v : Bool) → spec.owner_if v (spec.register_start e (cpu_of b)) ≡ owner_in v (register_key b) session b
    owners true =
        ap Some (start_named params set (spec.started_uses e (cpu_of b)) (lives_with session b) (started params set (length session) (last_bus session) b (lives_of session) e m (sound session)) (register_key b) e.cycle
        ∙ ap (named_start (register_key b) (lives_with session b)) m.cycle_is)
    owners false = refl
