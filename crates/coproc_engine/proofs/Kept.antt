-- What the steps keep: the keys of the uses, and that each hit is in the set.
use Rattle.std.proofs.Common.{if◌then◌else◌, ◌≡◌, ◌<◌, ◌≤◌, ◌^◌, ◌+◌, ◌∷◌, ◌&&◌, Bool, true, false, ℕ, not, Option, Some, None, IfSome, IsTrue, List, [], map, filter, refl, sym, ap, ap₂, ◌∙◌, subst}
use Rattle.std.proofs.lemmas.List.Elements.{All-map, All-weaker, All-filter, All-push}
use Rattle.coproc_config.specs.declared.accept.Hit.{Hit}
use Rattle.coproc_config.specs.Set.{UnitTable}
use Rattle.coproc_config.specs.Accept.{entry_at, HasFlagsOf}
use Rattle.coproc_config.specs.Table.{result_bits}
use Rattle.xif_base.specs.declared.params.Params.{Params}
use Rattle.xif_signals.specs.declared.bus.CpuOut.{CpuOut}
use Rattle.xif_signals.specs.declared.bus.CopOut.{CopOut}
use Rattle.xif_signals.specs.declared.bus.CpuIn.{CpuIn}
use Rattle.xif_session.specs.Facts.{is_undecided}
use Rattle.cycle_spec.specs.declared.use_of.Use.{Use}
use Rattle.cycle_spec.specs.State.{Engine}
use Rattle.cycle_spec.specs.Engine as spec
use Rattle.coproc_engine.specs.Fits.{HasWritesOf, HasEntry, HaveEntries, IsNarrow, AreNarrow, IsKey, AreKeys, keys_of}
use Rattle.coproc_engine.proofs.Keys.{keys-start}

-- ---- a change of each use

keys-map : (f : Use → Use) (us : List Use) → ((u : Use) → (f u).key ≡ u.key) → keys_of (map f us) ≡ keys_of us
keys-map f [] h = refl
keys-map f (u ∷ us) h = ap₂ (λ k ks. k ∷ ks) (h u) (keys-map f us h)

entries-map : (set : List UnitTable) (f : Use → Use) (us : List Use) → ((u : Use) → HasEntry set u → HasEntry set (f u)) → HaveEntries set us → HaveEntries set (map f us)
entries-map set f us h a = All-map (HasEntry set) f us (All-weaker (HasEntry set) (λ u. HasEntry set (f u)) h us a)

-- both are kept from one list to another
record Keeps (set : List UnitTable) (us now : List Use) : Type 0 where
  keys : keys_of now ≡ keys_of us
  entries : HaveEntries set us → HaveEntries set now
  narrow : (flags bits : ℕ) → AreNarrow flags bits us → AreNarrow flags bits now

same : (set : List UnitTable) (us : List Use) → Keeps set us us
same set us = record { keys = refl; entries = λ a. a; narrow = λ flags bits a. a }

narrow-map : (f : Use → Use) (us : List Use) → ((u : Use) → (f u).hit ≡ u.hit) → ((u : Use) → (f u).result ≡ u.result) → (flags bits : ℕ) → AreNarrow flags bits us → AreNarrow flags bits (map f us)
narrow-map f us h r flags bits a = All-map (IsNarrow flags bits) f us (All-weaker (IsNarrow flags bits) (λ u. IsNarrow flags bits (f u)) one us a)
  where
    one : (u : Use) → IsNarrow flags bits u → IsNarrow flags bits (f u)
    one u n = record {
      writes = subst (λ hit. spec.writeback_of hit < 2 ^ flags) (sym (h u)) n.writes;
      width = subst (λ hit. result_bits (spec.writeback_of hit) ≤ bits) (sym (h u)) n.width;
      result = subst (λ value. value < 2 ^ bits) (sym (r u)) n.result;
    }

by_map : (set : List UnitTable) (f : Use → Use) (us : List Use) → ((u : Use) → (f u).key ≡ u.key) → ((u : Use) → HasEntry set u → HasEntry set (f u)) → ((u : Use) → (f u).hit ≡ u.hit) → ((u : Use) → (f u).result ≡ u.result) → Keeps set us (map f us)
by_map set f us h k hit result = record {
  keys = keys-map f us h;
  entries = entries-map set f us k;
  narrow = narrow-map f us hit result;
}

-- ---- the steps

answered-keys : (start : ℕ) (hit : Option Hit) (order : ℕ) (cpu : CpuOut) (cop : CopOut) (us : List Use) → keys_of (spec.answer_step start hit order cpu cop us) ≡ keys_of us
answered-keys start hit order cpu cop us = go (cpu.issue_valid && cop.issue_ready)
  where
    go : (t : Bool) → keys_of (if t then map (spec.with_answer start hit order) us else us) ≡ keys_of us
    go true = keys-map (spec.with_answer start hit order) us (λ u. refl)
    go false = refl

pub answer-entries : (set : List UnitTable) (start : ℕ) (hit : Option Hit) (order : ℕ) (us : List Use) → IfSome hit (λ h. HasWritesOf (entry_at set h) h) → HaveEntries set us → HaveEntries set (map (spec.with_answer start hit order) us)
answer-entries set start hit order us h = entries-map set (spec.with_answer start hit order) us (λ u. one u (spec.has_start start u))
  where
    one : (u : Use) → (t : Bool) → HasEntry set u → IfSome (if t then hit else u.hit) (λ h. HasWritesOf (entry_at set h) h)
    one u true a = h
    one u false a = a

given : (set : List UnitTable) (cpu : CpuOut) (cop : CopOut) (us : List Use) → Keeps set us (spec.given_step cpu cop us)
given set cpu cop us = go (cpu.register_valid && cop.register_ready) (spec.latest (spec.register_key cpu) us)
  where
    go : (t : Bool) (found : Option Use) → Keeps set us (if t then spec.given_to found (spec.lanes_on cpu) us else us)
    go true None = same set us
    go true (Some u) = by_map set (spec.with_operands u.start (spec.lanes_on cpu)) us (λ u. refl) (λ u a. a) (λ u. refl) (λ u. refl)
    go false found = same set us

decided : (set : List UnitTable) (cpu : CpuOut) (us : List Use) → Keeps set us (spec.decide_step cpu us)
decided set cpu us = go cpu.commit_valid (spec.latest (spec.commit_key cpu) us)
  where
    named_by : (named : Use) (t : Bool) → Keeps set us (if t then map (spec.with_decision cpu.commit_kill named) us else us)
    named_by named true = by_map set (spec.with_decision cpu.commit_kill named) us (λ u. refl) (λ u a. a) (λ u. refl) (λ u. refl)
    named_by named false = same set us

    go : (t : Bool) (found : Option Use) → Keeps set us (if t then spec.decided_by cpu.commit_kill found us else us)
    go true None = same set us
    go true (Some named) = named_by named (is_undecided named.decision)
    go false found = same set us

ended : (set : List UnitTable) (offered : Option Use) (cop : CopOut) (input : CpuIn) (us : List Use) → Keeps set us (spec.end_step offered cop input us)
ended set offered cop input us = go (cop.result_valid && input.result_ready) offered
  where
    go : (t : Bool) (found : Option Use) → Keeps set us (if t then spec.ended found us else us)
    go true None = same set us
    go true (Some u) = by_map set (spec.with_end u.start) us (λ u. refl) (λ u a. a) (λ u. refl) (λ u. refl)
    go false found = same set us

then_also : (set : List UnitTable) (us now next : List Use) → Keeps set us now → Keeps set now next → Keeps set us next
then_also set us now next a b = record {
  keys = b.keys ∙ a.keys;
  entries = λ e. b.entries (a.entries e);
  narrow = λ flags bits n. b.narrow flags bits (a.narrow flags bits n);
}

pub started-entries : (set : List UnitTable) (e : Engine) (cpu : CpuOut) → HaveEntries set e.uses → HaveEntries set (spec.started_uses e cpu)
started-entries set e cpu a = go (spec.starts e cpu)
  where
    u : Use
    u = spec.new_use (spec.issue_key cpu) e.cycle cpu.issue_instr

    go : (t : Bool) → HaveEntries set (if t then spec.with_start u e.uses else e.uses)
    go true = All-push (HasEntry set) (filter (λ other. not (spec.has_key u.key other)) e.uses) u (All-filter (λ other. not (spec.has_key u.key other)) (HasEntry set) e.uses a) tt
    go false = a

rest : (e : Engine) (cpu : CpuOut) (cop : CopOut) (input : CpuIn) → Keeps e.set (spec.answered_uses e cpu cop) (spec.ended_uses e cpu cop input)
rest e cpu cop input =
    then_also e.set _ (spec.decided_uses e cpu cop) _
    (then_also e.set _ (spec.given_uses e cpu cop) _
    (given e.set cpu cop (spec.answered_uses e cpu cop))
    (decided e.set cpu (spec.given_uses e cpu cop)))
    (ended e.set (spec.offered_use e) cop input (spec.decided_uses e cpu cop))

-- up to the result handshake
ended-keys : (e : Engine) (cpu : CpuOut) (cop : CopOut) (input : CpuIn) → keys_of (spec.ended_uses e cpu cop input) ≡ keys_of (spec.started_uses e cpu)
ended-keys e cpu cop input =
    (rest e cpu cop input).keys
    ∙ answered-keys (spec.issue_start e cpu) (spec.offered_hit e cpu) e.accepted cpu cop (spec.started_uses e cpu)

pub ended-entries : (e : Engine) (cpu : CpuOut) (cop : CopOut) (input : CpuIn) → HaveEntries e.set (spec.answered_uses e cpu cop) → HaveEntries e.set (spec.ended_uses e cpu cop input)
ended-entries e cpu cop input a = (rest e cpu cop input).entries a

pub ended-narrow : (e : Engine) (cpu : CpuOut) (cop : CopOut) (input : CpuIn) (flags bits : ℕ) → AreNarrow flags bits (spec.answered_uses e cpu cop) → AreNarrow flags bits (spec.ended_uses e cpu cop input)
ended-narrow e cpu cop input flags bits n = (rest e cpu cop input).narrow flags bits n

-- ---- the uses that are ready

ready-keys : (set : List UnitTable) (cycle hart : ℕ) (state : List (List ℕ)) (us : List Use) → keys_of (spec.ready_uses set cycle hart state us) ≡ keys_of us
ready-keys set cycle hart state [] = refl
ready-keys set cycle hart state (u ∷ us) =
    go (not (spec.is_next hart u)) (spec.is_complete u) (ready-keys set cycle hart state us) (ready-keys set cycle hart (spec.outcome_of set state u).state us)
  where
    passed : List Use
    passed = spec.ready_uses set cycle hart state us

    applied : List Use
    applied = spec.ready_uses set cycle hart (spec.outcome_of set state u).state us

    go : (s t : Bool) → keys_of passed ≡ keys_of us → keys_of applied ≡ keys_of us → keys_of (if s then u ∷ passed else if t then spec.with_ready cycle (spec.outcome_of set state u).result u ∷ applied else u ∷ us) ≡ u.key ∷ keys_of us
    go true t p a = ap (λ ks. u.key ∷ ks) p
    go false true p a = ap (λ ks. u.key ∷ ks) a
    go false false p a = refl

harts-keys : (set : List UnitTable) (cycle hart : ℕ) (states : List (List (List ℕ))) (us : List Use) → keys_of (spec.ready_in_harts set cycle hart states us) ≡ keys_of us
harts-keys set cycle hart [] us = refl
harts-keys set cycle hart (state ∷ states) us =
    harts-keys set cycle (hart + 1) states (spec.ready_uses set cycle hart state us) ∙ ready-keys set cycle hart state us

-- ---- the keys, with the use that starts

starts-valid : (valid goes : Bool) → IsTrue (valid && not goes) → IsTrue valid
starts-valid true goes h = refl
starts-valid false goes h = h

pub offered-valid : (e : Engine) (cpu : CpuOut) (t : Bool) → t ≡ spec.starts e cpu → IsTrue t → IsTrue cpu.issue_valid
offered-valid e cpu t is h = starts-valid cpu.issue_valid (spec.goes_on e cpu) (subst (λ t. IsTrue t) is h)

started-keys : (e : Engine) (cpu : CpuOut) → AreKeys e.params (keys_of e.uses) → (IsTrue cpu.issue_valid → IsKey e.params (spec.issue_key cpu)) → AreKeys e.params (keys_of (spec.started_uses e cpu))
started-keys e cpu k i = go (spec.starts e cpu) refl
  where
    go : (t : Bool) → spec.starts e cpu ≡ t → AreKeys e.params (keys_of (if t then spec.with_start (spec.new_use (spec.issue_key cpu) e.cycle cpu.issue_instr) e.uses else e.uses))
    go true h = keys-start e.params (spec.new_use (spec.issue_key cpu) e.cycle cpu.issue_instr) e.uses k (i (offered-valid e cpu true (sym h) refl))
    go false h = k

pub settled-keys : (e : Engine) (cpu : CpuOut) (cop : CopOut) (input : CpuIn) → AreKeys e.params (keys_of e.uses) → (IsTrue cpu.issue_valid → IsKey e.params (spec.issue_key cpu)) → AreKeys e.params (keys_of (spec.settled_uses e cpu cop input))
settled-keys e cpu cop input k i =
    subst (AreKeys e.params)
    (sym (harts-keys e.set e.cycle 0 e.units (spec.ended_uses e cpu cop input) ∙ ended-keys e cpu cop input))
    (started-keys e cpu k i)

-- ---- the entry of a hit

pub hit-entry : (set : List UnitTable) (p : Params) (word : ℕ) (hit : Option Hit) → IfSome hit (λ h. HasFlagsOf (entry_at set h) p word h) → IfSome hit (λ h. HasWritesOf (entry_at set h) h)
hit-entry set p word None f = tt
hit-entry set p word (Some h) f = record { entry = f.entry; there = f.there; writes = f.writes }
