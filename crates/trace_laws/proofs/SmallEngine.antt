-- A result of which the high half is written has 64 bits, and so has each accumulator: each cycle
-- of the engine keeps this.
use Rattle.std.proofs.Common.{◌≡◌, ◌<◌, ◌+◌, ◌^◌, ◌==◌, ◌&&◌, not, ℕ, ℤ, pos, negsuc, Bool, true, false, if◌then◌else◌, Option, Some, None, List, [], ◌∷◌, map, filter, refl, sym, ap, ◌∙◌, subst, arith, lit<}
use Rattle.std.specs.Prelude.{is_some, IfSome, slice_index, slice_set, replicate}
use Rattle.std.specs.List.{list_any}
use Rattle.std.proofs.lemmas.Bool.{eqb-true}
use Rattle.std.proofs.lemmas.Nat.{mod_below, mul-lt}
use Rattle.std.proofs.lemmas.List.Elements.{All-replicate, recursion_from_All}
use Rattle.xif_base.specs.declared.params.Key.{Key}
use Rattle.xif_base.specs.declared.params.Params.{Params}
use Rattle.coproc_config.specs.declared.accept.Hit.{Hit}
use Rattle.coproc_config.specs.declared.operation.Entry.{Entry}
use Rattle.coproc_config.specs.declared.operation.Op.{Op}
use Rattle.coproc_config.specs.declared.operation.Op.TheVariants.{AccClear, AccAdd, AccMac, AccSwap, PairAdd, PairMul, PairRead}
use Rattle.coproc_config.specs.declared.operation.Reads.{Reads}
use Rattle.coproc_config.specs.declared.operation.Names.{Names}
use Rattle.coproc_config.specs.declared.operation.Names.TheVariants as names
use Rattle.coproc_config.specs.Bits.{low_half, modulo_64}
use Rattle.coproc_config.specs.Table.{Inputs, operation_line, lanes_read, write_flags}
use Rattle.coproc_config.specs.Set.{UnitTable}
use Rattle.coproc_config.specs.Accept.{hit_of, entry_at}
use Rattle.coproc_config.specs.State.{zeros, accumulators_of, accumulator_of}
use Rattle.coproc_config.specs.Apply.{low_read, inputs, Outcome, with_named, applied_by, applied}
use Rattle.xif_drive.specs.Scripts.{Lists}
use Rattle.xif_signals.specs.Known.{has_flag}
use Rattle.xif_signals.specs.declared.bus.CpuOut.{CpuOut}
use Rattle.xif_signals.specs.declared.bus.CopOut.{CopOut}
use Rattle.xif_signals.specs.declared.bus.CpuIn.{CpuIn}
use Rattle.xif_session.specs.Facts.{Past, named, is_undecided}
use Rattle.xif_session.proofs.Options.{same_some, both-true}
use Rattle.cycle_spec.specs.declared.use_of.Use.{Use}
use Rattle.cycle_spec.specs.State.{Engine, new_engine}
use Rattle.cycle_spec.specs.Engine as engine
use Rattle.cycle_spec.specs.Engine.{has_key, has_start, latest, writeback_of, issue_start, issue_ready, offered_hit, offered_by, offered_use, is_due, use_or, new_use, starts, with_start, start_step, started_uses, engine_drive, with_answer, answer_step, with_operands, lanes_on, given_to, given_step, with_decision, decided_by, decide_step, with_end, ended, end_step, outcome_by, outcome_of, is_next, is_complete, with_ready, ready_uses, units_behind, ready_in_harts, units_in_harts, answered_uses, given_uses, decided_uses, ended_uses, engine_clock}
use Rattle.cycle_lists.specs.Lists.{Each}
use Rattle.cycle_lists.proofs.Every.{Each-from, Each-map, Each-map2, Each-push, Each-filter, Each-at}
use Rattle.cycle_lists.proofs.Places.{first-at}
use Rattle.ahead_laws.proofs.Hits.{hit-flags}
use Rattle.trace_laws.specs.Driven.{bus_beside}
use Rattle.trace_laws.proofs.EngineTold.{Orderly, fact_of, Told, EngineTold, not-none}
use Rattle.trace_laws.proofs.EngineSteps.{no_hit}
use Rattle.trace_laws.proofs.EngineCycle as turn
use Rattle.trace_laws.proofs.SmallCore.{IsWide, HighSmall, Each-or, Each-set}

abbrev pub SmallStates : List (List ℕ) → Type 0
SmallStates state = Each (Each IsWide) state

-- a hit has the flags of what the operation of its entry writes
abbrev pub Flagged : List UnitTable → Hit → Type 0
Flagged set hit = (entry : Entry) → entry_at set hit ≡ Some entry → hit.writeback.0 ≡ write_flags (operation_line entry.op).writes

pub record SmallUse (set : List UnitTable) (u : Use) : Type 0 where
  pub flagged : IfSome u.hit (Flagged set)
  pub result : HighSmall (writeback_of u.hit) u.result
  pub unready : u.ready ≡ None → u.result ≡ 0

pub record SmallEngine (e : Engine) : Type 0 where
  pub uses : Each (SmallUse e.set) e.uses
  pub units : Each SmallStates e.units

-- ---- an operation

wide-zero : IsWide 0
wide-zero = lit< tt

wide-integer : (z : ℤ) → IsWide (modulo_64 z)
wide-integer (pos n) = mod_below n 18446744073709551616 (lit< tt)
wide-integer (negsuc n) = omega arith

-- what it leaves in its accumulator
accumulator-wide : (op : Op) (x : Inputs) → x.a < 2 ^ 32 → IsWide x.q → IsWide ((operation_line op).accumulator x)
accumulator-wide AccClear x a q = wide-zero
accumulator-wide AccAdd x a q = mod_below (x.q + x.a) 18446744073709551616 (lit< tt)
accumulator-wide AccMac x a q = wide-integer _
accumulator-wide AccSwap x a q = omega (arith, a)
accumulator-wide op x a q = q

-- its result, where it writes a pair
result-wide : (op : Op) (x : Inputs) → x.a < 2 ^ 32 → x.b < 2 ^ 32 → IsWide x.q → HighSmall (write_flags (operation_line op).writes) ((operation_line op).result x)
result-wide PairAdd x a b q h = mod_below _ 18446744073709551616 (lit< tt)
result-wide PairMul x a b q h = mul-lt x.a x.b 4294967296 4294967296 a b
result-wide PairRead x a b q h = q
result-wide op x a b q h = absurd cc

low-small : (reads : Reads) (lanes : List ℕ) (lane : ℕ) → low_read reads lanes lane < 2 ^ 32
low-small reads lanes lane = go (list_any (λ other. other == lane) (lanes_read reads))
  where
    go : (t : Bool) → (if t then low_half (slice_index lanes lane) else 0) < 2 ^ 32
    go true = mod_below (slice_index lanes lane) 4294967296 (lit< tt)
    go false = lit< tt

pub record SmallOutcome (flags : ℕ) (o : Outcome) : Type 0 where
  pub result : HighSmall flags o.result
  pub state : SmallStates o.state

applied-small : (set : List UnitTable) (hit : Hit) (state : List (List ℕ)) (lanes : List ℕ) → Flagged set hit → SmallStates state → SmallOutcome hit.writeback.0 (applied set hit state lanes)
applied-small set hit state lanes f s = go (entry_at set hit) refl
  where
    own : Each IsWide (accumulators_of state hit.unit)
    own = Each-or (Each IsWide) state hit.unit [] tt s

    accumulator : (acc : ℕ) → IsWide (accumulator_of state hit.unit acc)
    accumulator acc = Each-or IsWide (accumulators_of state hit.unit) acc 0 wide-zero own

    after : (n : Names) (acc value : ℕ) → IsWide value → SmallStates (with_named n state hit.unit acc value)
    after names.Accumulator acc value w = Each-set (Each IsWide) state hit.unit (slice_set (accumulators_of state hit.unit) acc value) (Each-set IsWide (accumulators_of state hit.unit) acc value w own) s
    after names.Field acc value w = s
    after names.Nothing acc value w = s

    go : (o : Option Entry) → entry_at set hit ≡ o → SmallOutcome hit.writeback.0 (applied_by o hit.unit state lanes)
    go None q = record { result = λ h. wide-zero; state = s }
    go (Some e) q =
        let x = inputs e (accumulator_of state hit.unit e.acc) lanes in
        let a = low-small (operation_line e.op).reads lanes 0 in
        let b = low-small (operation_line e.op).reads lanes 1 in
        let w = accumulator e.acc in
        record {
          result = λ h. result-wide e.op x a b w (ap (λ n. has_flag n 1) (sym (f e q)) ∙ h);
          state = after (operation_line e.op).names e.acc ((operation_line e.op).accumulator x) (accumulator-wide e.op x a w);
        }

outcome-small : (set : List UnitTable) (state : List (List ℕ)) (u : Use) → SmallUse set u → SmallStates state → SmallOutcome (writeback_of u.hit) (outcome_of set state u)
outcome-small set state u f s = go u.hit f.flagged
  where
    go : (o : Option Hit) → IfSome o (Flagged set) → SmallOutcome (writeback_of o) (outcome_by set o state u.lanes)
    go None f = record { result = λ h. wide-zero; state = s }
    go (Some hit) f = applied-small set hit state u.lanes f s

-- ---- the uses of a hart become ready

module _ (set : List UnitTable) (cycle : ℕ) where
  ready-small : (hart : ℕ) (state : List (List ℕ)) (us : List Use) → SmallStates state → Each (SmallUse set) us → Each (SmallUse set) (ready_uses set cycle hart state us)
  ready-small hart state [] s h = tt
  ready-small hart state (u ∷ us) s h =
      go (not (is_next hart u)) (is_complete u) (ready-small hart state us s h.1) (ready-small hart (outcome_of set state u).state us o.state h.1)
    where
      o : SmallOutcome (writeback_of u.hit) (outcome_of set state u)
      o = outcome-small set state u h.0 s

      done : SmallUse set (with_ready cycle (outcome_of set state u).result u)
      done = record { flagged = h.0.flagged; result = o.result; unready = λ q. cc }

      go : (passed complete : Bool) → Each (SmallUse set) (ready_uses set cycle hart state us) → Each (SmallUse set) (ready_uses set cycle hart (outcome_of set state u).state us)
          → Each (SmallUse set) (if passed then u ∷ ready_uses set cycle hart state us else if complete then with_ready cycle (outcome_of set state u).result u ∷ ready_uses set cycle hart (outcome_of set state u).state us else u ∷ us)
      go true c k l = (h.0, k)
      go false true k l = (done, l)
      go false false k l = h

  units-small : (test : Use → Bool) (hart : ℕ) (state : List (List ℕ)) (us : List Use) → SmallStates state → Each (SmallUse set) us → SmallStates (units_behind set test hart state us)
  units-small test hart state [] s h = s
  units-small test hart state (u ∷ us) s h =
      go (not (is_next hart u)) (test u) (units-small test hart state us s h.1) (units-small test hart (outcome_of set state u).state us (outcome-small set state u h.0 s).state h.1)
    where
      go : (passed t : Bool) → SmallStates (units_behind set test hart state us) → SmallStates (units_behind set test hart (outcome_of set state u).state us)
          → SmallStates (if passed then units_behind set test hart state us else if t then units_behind set test hart (outcome_of set state u).state us else state)
      go true c k l = k
      go false true k l = l
      go false false k l = s

  ready-harts : (hart : ℕ) (states : List (List (List ℕ))) (us : List Use) → Each SmallStates states → Each (SmallUse set) us → Each (SmallUse set) (ready_in_harts set cycle hart states us)
  ready-harts hart [] us s h = h
  ready-harts hart (state ∷ states) us s h = ready-harts (hart + 1) states (ready_uses set cycle hart state us) s.1 (ready-small hart state us s.0 h)

  units-harts : (hart : ℕ) (states : List (List (List ℕ))) (us : List Use) → Each SmallStates states → Each (SmallUse set) us → Each SmallStates (units_in_harts set hart states us)
  units-harts hart [] us s h = tt
  units-harts hart (state ∷ states) us s h = (units-small is_complete hart state us s.0 h, units-harts (hart + 1) states us s.1 h)

-- ---- what the result channel shows

no_use-small : (set : List UnitTable) (key : Key) (start word : ℕ) → SmallUse set (new_use key start word)
no_use-small set key start word = record { flagged = tt; result = λ h. wide-zero; unready = λ q. refl }

pub offered-small : (e : Engine) → SmallEngine e → HighSmall (writeback_of (use_or (offered_use e)).hit) (use_or (offered_use e)).result
offered-small e s = go (offered_use e) refl
  where
    found : (w : Option ℕ) (u : Use) → offered_by w e.script.result e.cycle e.uses ≡ Some u → SmallUse e.set u
    found None u q = let f = first-at (is_due e.script.result e.cycle) e.uses u q in Each-at (SmallUse e.set) e.uses f.older u f.younger f.here s.uses
    found (Some start) u q = let f = first-at (has_start start) e.uses u q in Each-at (SmallUse e.set) e.uses f.older u f.younger f.here s.uses

    go : (o : Option Use) → offered_use e ≡ o → HighSmall (writeback_of (use_or o).hit) (use_or o).result
    go None q = λ h. wide-zero
    go (Some u) q = (found e.result_waiting u q).result

-- ---- a cycle

hit-flagged : (set : List UnitTable) (params : Params) (word : ℕ) → IfSome (hit_of set params word) (Flagged set)
hit-flagged set params word = go (hit_of set params word) refl
  where
    go : (o : Option Hit) → hit_of set params word ≡ o → IfSome o (Flagged set)
    go None q = tt
    go (Some hit) q = λ entry there.
        let f = hit-flags set params word hit q in
        f.writes ∙ ap (λ x. write_flags (operation_line x.op).writes) (some-is f.entry entry (sym f.there ∙ there))
      where
        some-is : (x y : Entry) → Some x ≡ Some y → x ≡ y
        some-is x y h = cc

module _ (e : Engine) (p : Past) (cpu : CpuOut) (input : CpuIn) (t : EngineTold e e.params.num_harts p) (k : Orderly e.params p (bus_beside e cpu input)) (s : SmallEngine e) where
  abbrev cop : CopOut
  cop = engine_drive e cpu

  abbrev P : Use → Type 0
  P = SmallUse e.set

  started : Each P (started_uses e cpu)
  started = go (starts e cpu)
    where
      go : (b : Bool) → Each P (start_step b cpu e.cycle e.uses)
      go false = s.uses
      go true =
          let u = new_use (engine.issue_key cpu) e.cycle cpu.issue_instr in
          Each-push P (filter (λ other. not (has_key u.key other)) e.uses) u (Each-filter P (λ other. not (has_key u.key other)) e.uses s.uses) (no_use-small e.set (engine.issue_key cpu) e.cycle cpu.issue_instr)

  -- what is answered isn't ready
  unready : cpu.issue_valid ≡ true → Each (λ u. u.start ≡ issue_start e cpu → u.ready ≡ None) (started_uses e cpu)
  unready v =
      Each-from (Told (named p (bus_beside e cpu input)) e.params.num_harts) (λ u. u.start ≡ issue_start e cpu → u.ready ≡ None) (started_uses e cpu) (λ u x q. one u x q) (turn.told_started e p cpu input t k)
    where
      one : (u : Use) → Told (named p (bus_beside e cpu input)) e.params.num_harts u → u.start ≡ issue_start e cpu → u.ready ≡ None
      one u x q =
          let o = turn.offered e p cpu input t k v in
          let a = (turn.started_stage e p cpu input t k).apart in
          let key : engine.issue_key cpu ≡ u.key = a.unique (engine.issue_key cpu) u.key o.fact (fact_of u x.response x.flags) o.there x.is_fact (o.start_is ∙ sym q) in
          let same : o.fact ≡ fact_of u x.response x.flags = same_some (named p (bus_beside e cpu input) (engine.issue_key cpu)) o.fact _ o.there (ap (named p (bus_beside e cpu input)) key ∙ x.is_fact) in
          let hit : u.hit ≡ None = no_hit x.response u.hit (sym (ap (λ f. f.response) same) ∙ o.response) x.answered in
          by u.ready (λ r. not-none u.hit hit (x.computed r).accepted)
        where
          by : (o : Option ℕ) → (is_some o ≡ true → ⊥) → o ≡ None
          by None h = refl
          by (Some c) h = absurd (h refl)

  answer-one : (u : Use) → P u → (u.start ≡ issue_start e cpu → u.ready ≡ None) → P (with_answer (issue_start e cpu) (offered_hit e cpu) e.accepted u)
  answer-one u h r = go (has_start (issue_start e cpu) u) refl
    where
      go : (b : Bool) → has_start (issue_start e cpu) u ≡ b → P (record u { hit = if b then offered_hit e cpu else u.hit; order = if b then e.accepted else u.order })
      go true q =
          let none : u.result ≡ 0 = h.unready (r (eqb-true u.start (issue_start e cpu) q)) in
          record { flagged = hit-flagged e.set e.params cpu.issue_instr; result = λ f. subst IsWide (sym none) wide-zero; unready = h.unready }
      go false q = record { flagged = h.flagged; result = h.result; unready = h.unready }

  answered : Each P (answered_uses e cpu cop)
  answered = go (cpu.issue_valid && cop.issue_ready) refl
    where
      go : (b : Bool) → (cpu.issue_valid && cop.issue_ready) ≡ b → Each P (if b then map (with_answer (issue_start e cpu) (offered_hit e cpu) e.accepted) (started_uses e cpu) else started_uses e cpu)
      go false q = started
      go true q =
          Each-map2 P (λ u. u.start ≡ issue_start e cpu → u.ready ≡ None) P (with_answer (issue_start e cpu) (offered_hit e cpu) e.accepted) (started_uses e cpu) answer-one started
          (unready (both-true cpu.issue_valid cop.issue_ready q).0)

  -- a change that leaves hit, result and readiness
  changed : (f : Use → Use) (us : List Use) → ((u : Use) → (f u).hit ≡ u.hit) → ((u : Use) → (f u).result ≡ u.result) → ((u : Use) → (f u).ready ≡ u.ready) → Each P us → Each P (map f us)
  changed f us a b c h =
      Each-map P P f us (λ u x. record {
        flagged = subst (λ o. IfSome o (Flagged e.set)) (sym (a u)) x.flagged;
        result = λ g. subst IsWide (sym (b u)) (x.result (ap (λ o. has_flag (writeback_of o) 1) (sym (a u)) ∙ g));
        unready = λ q. b u ∙ x.unready (sym (c u) ∙ q);
      }) h

  given : Each P (given_uses e cpu cop)
  given = go (cpu.register_valid && cop.register_ready)
    where
      to : (o : Option Use) → Each P (given_to o (lanes_on cpu) (answered_uses e cpu cop))
      to None = answered
      to (Some u) = changed (with_operands u.start (lanes_on cpu)) (answered_uses e cpu cop) (λ v. refl) (λ v. refl) (λ v. refl) answered

      go : (b : Bool) → Each P (if b then given_to (latest (engine.register_key cpu) (answered_uses e cpu cop)) (lanes_on cpu) (answered_uses e cpu cop) else answered_uses e cpu cop)
      go false = answered
      go true = to (latest (engine.register_key cpu) (answered_uses e cpu cop))

  decided : Each P (decided_uses e cpu cop)
  decided = go cpu.commit_valid
    where
      each : (b : Bool) (u : Use) → Each P (if b then map (with_decision cpu.commit_kill u) (given_uses e cpu cop) else given_uses e cpu cop)
      each false u = given
      each true u = changed (with_decision cpu.commit_kill u) (given_uses e cpu cop) (λ v. refl) (λ v. refl) (λ v. refl) given

      by : (o : Option Use) → Each P (decided_by cpu.commit_kill o (given_uses e cpu cop))
      by None = given
      by (Some u) = each (is_undecided u.decision) u

      go : (b : Bool) → Each P (if b then decided_by cpu.commit_kill (latest (engine.commit_key cpu) (given_uses e cpu cop)) (given_uses e cpu cop) else given_uses e cpu cop)
      go false = given
      go true = by (latest (engine.commit_key cpu) (given_uses e cpu cop))

  ended-each : Each P (ended_uses e cpu cop input)
  ended-each = go (cop.result_valid && input.result_ready)
    where
      by : (o : Option Use) → Each P (ended o (decided_uses e cpu cop))
      by None = decided
      by (Some u) = changed (with_end u.start) (decided_uses e cpu cop) (λ v. refl) (λ v. refl) (λ v. refl) decided

      go : (b : Bool) → Each P (if b then ended (offered_use e) (decided_uses e cpu cop) else decided_uses e cpu cop)
      go false = decided
      go true = by (offered_use e)

  pub engine-small : SmallEngine (engine_clock e cpu (engine_drive e cpu) input)
  engine-small = record {
    uses = ready-harts e.set e.cycle 0 e.units (ended_uses e cpu cop input) s.units ended-each;
    units = units-harts e.set e.cycle 0 e.units (ended_uses e cpu cop input) s.units ended-each;
  }

-- ---- before the first cycle

zeros-small : (set : List UnitTable) → SmallStates (zeros set)
zeros-small [] = tt
zeros-small (unit ∷ set) = (recursion_from_All IsWide (replicate unit.accumulators 0) (All-replicate IsWide unit.accumulators 0 wide-zero), zeros-small set)

pub new-small : (params : Params) (set : List UnitTable) (script : Lists) → SmallEngine (new_engine params set script)
new-small params set script = record { uses = tt; units = recursion_from_All SmallStates (replicate params.num_harts (zeros set)) (All-replicate SmallStates params.num_harts (zeros set) (zeros-small set)) }
