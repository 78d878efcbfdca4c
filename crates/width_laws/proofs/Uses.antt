-- What the coprocessors drive fits its signals, and a cycle keeps it so.
use Rattle.std.proofs.Common.{◌≡◌, ◌<◌, ◌≤◌, ◌+◌, ◌/◌, ◌^◌, ◌==◌, ◌&&◌, ◌⊎◌, inl, inr, ℕ, zero, suc, Bool, true, false, if◌then◌else◌, not, List, [], ◌∷◌, map, filter, Option, Some, None, IfSome, refl, sym, subst, arith}
use Rattle.std.specs.Prelude.{replicate}
use Rattle.std.proofs.lemmas.Nat.{pow_pos}
use Rattle.std.proofs.Math.Nat.{mod-lt, pow-le-pow_right}
use Rattle.rv32_table.specs.Instr.{rd_field}
use Rattle.xif_base.specs.declared.params.Params.{Params}
use Rattle.xif_base.specs.Params.{IsInRange}
use Rattle.xif_drive.specs.Scripts.{Lists}
use Rattle.xif_signals.specs.declared.bus.CpuOut.{CpuOut}
use Rattle.xif_signals.specs.declared.bus.CopOut.{CopOut}
use Rattle.xif_signals.specs.declared.bus.CpuIn.{CpuIn}
use Rattle.xif_signals.specs.declared.signal.Signal.TheVariants.{IssueWriteback, IssueRegisterRead, ResultHartid, ResultId, ResultData, ResultRd, ResultWe}
use Rattle.xif_signals.specs.Signal.{width_of}
use Rattle.coproc_config.specs.declared.accept.Hit.{Hit}
use Rattle.coproc_config.specs.declared.operation.Entry.{Entry}
use Rattle.coproc_config.specs.Set.{UnitTable}
use Rattle.coproc_config.specs.Check.{has_field, IsLawful}
use Rattle.coproc_config.specs.Accept.{entry_at, hit_of, HasFlagsOf, IsAllowed}
use Rattle.coproc_config.specs.Apply.{applied_by}
use Rattle.coproc_config.specs.State.{zeros}
use Rattle.coproc_config.specs.Table.{operation_line, write_flags, result_bits}
use Rattle.cycle_spec.specs.declared.use_of.Use.{Use}
use Rattle.cycle_spec.specs.State.{Engine, new_engine}
use Rattle.cycle_spec.specs.Engine as spec
use Rattle.cycle_spec.specs.Engine.{writeback_of, register_read_of}
use Rattle.cycle_lists.specs.Lists.{Each}
use Rattle.cycle_lists.proofs.Every.{Each-map, Each-push, Each-filter}
use Rattle.ahead_laws.proofs.Hits.{hit-flags, hit-allowed}
use Rattle.width_laws.proofs.Table.{IsState, FitsOutcome, outcome-fits, field-named, state-zeros}
use Rattle.width_laws.proofs.Chosen.{find-is}

pub record FitsCop (p : Params) (o : CopOut) : Type 0 where
  pub issue_writeback : o.issue_writeback < 2 ^ width_of IssueWriteback p
  pub issue_register_read : o.issue_register_read < 2 ^ width_of IssueRegisterRead p
  pub result_hartid : o.result_hartid < 2 ^ width_of ResultHartid p
  pub result_id : o.result_id < 2 ^ width_of ResultId p
  pub result_data : o.result_data < 2 ^ width_of ResultData p
  pub result_rd : o.result_rd < 2 ^ width_of ResultRd p
  pub result_we : o.result_we < 2 ^ width_of ResultWe p

-- ---- a hit

-- the entry that a hit names is there, and what it writes fits the result channel
pub record FitsHit (p : Params) (set : List UnitTable) (hit : Hit) : Type 0 where
  pub entry : Entry
  pub there : entry_at set hit ≡ Some entry
  pub writes : hit.writeback.0 ≡ write_flags (operation_line entry.op).writes
  pub field : has_field (operation_line entry.op).names entry.low entry.len ≡ true
  pub flags : hit.writeback.0 < 2 ^ width_of ResultWe p
  pub width : result_bits hit.writeback.0 ≤ p.rfw_width

fewer-bits : (n few bits : ℕ) → n < 2 ^ few → few ≤ bits → n < 2 ^ bits
fewer-bits n few bits l h =
    let p : 2 ^ few ≤ 2 ^ bits = pow-le-pow_right (omega arith) h in
    omega (arith, l, p)

port-bits : (width : ℕ) → (width ≡ 32) ⊎ (width ≡ 64) → 32 ≤ width
port-bits width (inl e) = omega (arith, e)
port-bits width (inr e) = omega (arith, e)

record FitsFlags (p : Params) (flags : ℕ) : Type 0 where
  writes : flags < 2 ^ width_of ResultWe p
  width : result_bits flags ≤ p.rfw_width

flags-fit : (p : Params) (flags : ℕ) → IsInRange p → (flags ≡ 0) ⊎ ((flags ≡ 1) ⊎ (flags ≡ 3)) → (flags ≡ 3 → p.dual_write ≡ true) → FitsFlags p flags
flags-fit p flags r (inl e) d = subst (FitsFlags p) (sym e) (record { writes = pow_pos (width_of ResultWe p); width = omega arith })
flags-fit p flags r (inr (inl e)) d = subst (FitsFlags p) (sym e) (record {
  writes = fewer-bits 1 1 (width_of ResultWe p) (omega arith) (omega arith);
  width = port-bits p.rfw_width r.rfw_width;
})
flags-fit p flags r (inr (inr e)) d = subst (FitsFlags p) (sym e) (record {
  writes = subst (λ dual. 3 < 2 ^ (1 + (if dual then 1 else 0))) (sym (d e)) (omega arith);
  width = subst (λ width. 64 ≤ width) (sym (r.rfw_pairs (d e))) (omega arith);
})

hit-fits : (p : Params) (set : List UnitTable) (word : ℕ) (hit : Hit) → IsInRange p → IsLawful set → hit_of set p word ≡ Some hit → FitsHit p set hit
hit-fits p set word hit r lawful h =
    let f : HasFlagsOf (entry_at set hit) p word hit = hit-flags set p word hit h in
    let a : IsAllowed p word hit = hit-allowed set p word hit r h in
    let w : FitsFlags p hit.writeback.0 = flags-fit p hit.writeback.0 r a.writes (λ e. (a.write_pairs e).0) in
    record {
      entry = f.entry;
      there = f.there;
      writes = f.writes;
      field = field-named set hit f.entry lawful f.there;
      flags = w.writes;
      width = w.width;
    }

-- the answer to a word
record FitsAnswer (p : Params) (set : List UnitTable) (hit : Option Hit) : Type 0 where
  hit_fits : IfSome hit (FitsHit p set)
  writeback : writeback_of hit < 2 ^ width_of ResultWe p
  register_read : register_read_of hit < 2 ^ (p.num_rs + p.dual_read)

no-answer : (p : Params) (set : List UnitTable) → FitsAnswer p set None
no-answer p set = record { hit_fits = tt; writeback = pow_pos (width_of ResultWe p); register_read = pow_pos (p.num_rs + p.dual_read) }

answer-fits : (p : Params) (set : List UnitTable) (word : ℕ) → IsInRange p → IsLawful set → FitsAnswer p set (hit_of set p word)
answer-fits p set word r lawful = go (hit_of set p word) refl
  where
    go : (o : Option Hit) → hit_of set p word ≡ o → FitsAnswer p set o
    go None e = no-answer p set
    go (Some hit) e =
        let f : FitsHit p set hit = hit-fits p set word hit r lawful e in
        record { hit_fits = f; writeback = f.flags; register_read = (hit-allowed set p word hit r e).reads }

-- ---- a use

pub record FitsUse (p : Params) (set : List UnitTable) (u : Use) : Type 0 where
  pub hart : u.key.hart < 2 ^ p.hartid_width
  pub id : u.key.id < 2 ^ p.id_width
  pub hit : IfSome u.hit (FitsHit p set)
  pub result : u.result < 2 ^ p.rfw_width

pub record FitsEngine (e : Engine) : Type 0 where
  pub set : IsLawful e.set
  pub uses : Each (FitsUse e.params e.set) e.uses
  pub units : Each IsState e.units

outcome-by : (p : Params) (set : List UnitTable) (hit : Option Hit) (state : List (List ℕ)) (lanes : List ℕ) → IfSome hit (FitsHit p set) → IsState state → FitsOutcome p.rfw_width (spec.outcome_by set hit state lanes)
outcome-by p set None state lanes h s = record { result = pow_pos p.rfw_width; state = s }
outcome-by p set (Some hit) state lanes h s =
    let o = outcome-fits h.entry hit.unit state lanes h.field s in
    let bits : result_bits (write_flags (operation_line h.entry.op).writes) ≤ p.rfw_width = subst (λ n. result_bits n ≤ p.rfw_width) h.writes h.width in
    subst (λ named. FitsOutcome p.rfw_width (applied_by named hit.unit state lanes)) (sym h.there)
    (record { result = fewer-bits _ (result_bits (write_flags (operation_line h.entry.op).writes)) p.rfw_width o.result bits; state = o.state })

module _ (p : Params) (set : List UnitTable) where
  abbrev P : Use → Type 0
  P = FitsUse p set

  started : (t : Bool) (cpu : CpuOut) (cycle : ℕ) (us : List Use) → cpu.issue_hartid < 2 ^ p.hartid_width → cpu.issue_id < 2 ^ p.id_width → Each P us → Each P (spec.start_step t cpu cycle us)
  started false cpu cycle us h i a = a
  started true cpu cycle us h i a =
      let u = spec.new_use (spec.issue_key cpu) cycle cpu.issue_instr in
      Each-push P (filter (λ other. not (spec.has_key u.key other)) us) u (Each-filter P (λ other. not (spec.has_key u.key other)) us a)
      (record { hart = h; id = i; hit = tt; result = pow_pos p.rfw_width })

  answered : (t : Bool) (start : ℕ) (hit : Option Hit) (order : ℕ) (us : List Use) → IfSome hit (FitsHit p set) → Each P us → Each P (if t then map (spec.with_answer start hit order) us else us)
  answered false start hit order us h a = a
  answered true start hit order us h a = Each-map P P (spec.with_answer start hit order) us (λ u k. record { hart = k.hart; id = k.id; hit = one (spec.has_start start u) u.hit k.hit; result = k.result }) a
    where
      one : (t : Bool) (old : Option Hit) → IfSome old (FitsHit p set) → IfSome (if t then hit else old) (FitsHit p set)
      one true old k = h
      one false old k = k

  given : (t : Bool) (o : Option Use) (lanes : List ℕ) (us : List Use) → Each P us → Each P (if t then spec.given_to o lanes us else us)
  given false o lanes us a = a
  given true None lanes us a = a
  given true (Some named) lanes us a = Each-map P P (spec.with_operands named.start lanes) us (λ u k. record { hart = k.hart; id = k.id; hit = k.hit; result = k.result }) a

  decided : (t kill : Bool) (o : Option Use) (us : List Use) → Each P us → Each P (if t then spec.decided_by kill o us else us)
  decided false kill o us a = a
  decided true kill None us a = a
  decided true kill (Some named) us a = go (Rattle.xif_session.specs.Facts.is_undecided named.decision)
    where
      go : (t : Bool) → Each P (if t then map (spec.with_decision kill named) us else us)
      go true = Each-map P P (spec.with_decision kill named) us (λ u k. record { hart = k.hart; id = k.id; hit = k.hit; result = k.result }) a
      go false = a

  ended : (t : Bool) (o : Option Use) (us : List Use) → Each P us → Each P (if t then spec.ended o us else us)
  ended false o us a = a
  ended true None us a = a
  ended true (Some named) us a = Each-map P P (spec.with_end named.start) us (λ u k. record { hart = k.hart; id = k.id; hit = k.hit; result = k.result }) a

  -- ---- those that are ready

  ready : (cycle hart : ℕ) (state : List (List ℕ)) (us : List Use) → IsState state → Each P us → Each P (spec.ready_uses set cycle hart state us)
  ready cycle hart state [] s a = tt
  ready cycle hart state (u ∷ us) s a =
      let o = outcome-by p set u.hit state u.lanes a.0.hit s in
      go (not (spec.is_next hart u)) (spec.is_complete u) (ready cycle hart state us s a.1)
      (ready cycle hart (spec.outcome_of set state u).state us o.state a.1)
      (record { hart = a.0.hart; id = a.0.id; hit = a.0.hit; result = o.result })
    where
      go : (t c : Bool) → Each P (spec.ready_uses set cycle hart state us) → Each P (spec.ready_uses set cycle hart (spec.outcome_of set state u).state us)
          → P (spec.with_ready cycle (spec.outcome_of set state u).result u)
          → Each P (if t then u ∷ spec.ready_uses set cycle hart state us else if c then spec.with_ready cycle (spec.outcome_of set state u).result u ∷ spec.ready_uses set cycle hart (spec.outcome_of set state u).state us else u ∷ us)
      go true c h k n = (a.0, h)
      go false true h k n = (n, k)
      go false false h k n = (a.0, a.1)

  behind : (test : Use → Bool) (hart : ℕ) (state : List (List ℕ)) (us : List Use) → IsState state → Each P us → IsState (spec.units_behind set test hart state us)
  behind test hart state [] s a = s
  behind test hart state (u ∷ us) s a =
      let o = outcome-by p set u.hit state u.lanes a.0.hit s in
      go (not (spec.is_next hart u)) (test u) (behind test hart state us s a.1) (behind test hart (spec.outcome_of set state u).state us o.state a.1)
    where
      go : (t c : Bool) → IsState (spec.units_behind set test hart state us) → IsState (spec.units_behind set test hart (spec.outcome_of set state u).state us)
          → IsState (if t then spec.units_behind set test hart state us else if c then spec.units_behind set test hart (spec.outcome_of set state u).state us else state)
      go true c h k = h
      go false true h k = k
      go false false h k = s

  ready-harts : (cycle hart : ℕ) (states : List (List (List ℕ))) (us : List Use) → Each IsState states → Each P us → Each P (spec.ready_in_harts set cycle hart states us)
  ready-harts cycle hart [] us s a = a
  ready-harts cycle hart (state ∷ states) us s a = ready-harts cycle (hart + 1) states (spec.ready_uses set cycle hart state us) s.1 (ready cycle hart state us s.0 a)

  units-harts : (hart : ℕ) (states : List (List (List ℕ))) (us : List Use) → Each IsState states → Each P us → Each IsState (spec.units_in_harts set hart states us)
  units-harts hart [] us s a = tt
  units-harts hart (state ∷ states) us s a = (behind spec.is_complete hart state us s.0 a, units-harts (hart + 1) states us s.1 a)

-- ---- a cycle

pub engine-fits : (e : Engine) (cpu : CpuOut) (cop : CopOut) (input : CpuIn) → IsInRange e.params → cpu.issue_hartid < 2 ^ e.params.hartid_width → cpu.issue_id < 2 ^ e.params.id_width → FitsEngine e → FitsEngine (spec.engine_clock e cpu cop input)
engine-fits e cpu cop input r h i f =
    let p = e.params in
    let set = e.set in
    let s0 = started p set (spec.starts e cpu) cpu e.cycle e.uses h i f.uses in
    let s1 = answered p set (cpu.issue_valid && cop.issue_ready) (spec.issue_start e cpu) (spec.offered_hit e cpu) e.accepted (spec.started_uses e cpu) (answer-fits p set cpu.issue_instr r f.set).hit_fits s0 in
    let s2 = given p set (cpu.register_valid && cop.register_ready) (spec.latest (spec.register_key cpu) (spec.answered_uses e cpu cop)) (spec.lanes_on cpu) (spec.answered_uses e cpu cop) s1 in
    let s3 = decided p set cpu.commit_valid cpu.commit_kill (spec.latest (spec.commit_key cpu) (spec.given_uses e cpu cop)) (spec.given_uses e cpu cop) s2 in
    let s4 = ended p set (cop.result_valid && input.result_ready) (spec.offered_use e) (spec.decided_uses e cpu cop) s3 in
    record {
      set = f.set;
      uses = ready-harts p set e.cycle 0 e.units (spec.ended_uses e cpu cop input) f.units s4;
      units = units-harts p set 0 e.units (spec.ended_uses e cpu cop input) f.units s4;
    }

-- ---- what is driven

offered : (e : Engine) (waiting : Option ℕ) (us : List Use) → Each (FitsUse e.params e.set) us → IfSome (spec.offered_by waiting e.script.result e.cycle us) (FitsUse e.params e.set)
offered e None us a = find-is (FitsUse e.params e.set) (spec.is_due e.script.result e.cycle) us a
offered e (Some start) us a = find-is (FitsUse e.params e.set) (spec.has_start start) us a

record FitsOffer (p : Params) (u : Use) : Type 0 where
  hart : u.key.hart < 2 ^ p.hartid_width
  id : u.key.id < 2 ^ p.id_width
  result : u.result < 2 ^ p.rfw_width
  writes : writeback_of u.hit < 2 ^ width_of ResultWe p

flags-of : (p : Params) (set : List UnitTable) (hit : Option Hit) → IfSome hit (FitsHit p set) → writeback_of hit < 2 ^ width_of ResultWe p
flags-of p set None h = pow_pos (width_of ResultWe p)
flags-of p set (Some hit) h = h.flags

offer-fits : (p : Params) (set : List UnitTable) (o : Option Use) → IfSome o (FitsUse p set) → FitsOffer p (spec.use_or o)
offer-fits p set None h = record {
  hart = pow_pos p.hartid_width;
  id = pow_pos p.id_width;
  result = pow_pos p.rfw_width;
  writes = pow_pos (width_of ResultWe p);
}
offer-fits p set (Some u) h = record { hart = h.hart; id = h.id; result = h.result; writes = flags-of p set u.hit h.hit }

rd-fits : (writes : Bool) (word : ℕ) → (if writes then 0 else rd_field word) < 2 ^ 5
rd-fits true word = omega arith
rd-fits false word = mod-lt (word / 2 ^ 7) (omega arith)

response-fits : (p : Params) (set : List UnitTable) (t : Bool) (hit : Option Hit) → FitsAnswer p set hit → FitsAnswer p set (if t then hit else None)
response-fits p set true hit h = h
response-fits p set false hit h = no-answer p set

pub cop-fits : (e : Engine) (cpu : CpuOut) → IsInRange e.params → FitsEngine e → FitsCop e.params (spec.engine_drive e cpu)
cop-fits e cpu r f =
    let answer : FitsAnswer e.params e.set (spec.response_hit e cpu) = response-fits e.params e.set (spec.issue_ready e cpu) (spec.offered_hit e cpu) (answer-fits e.params e.set cpu.issue_instr r f.set) in
    let u : FitsOffer e.params (spec.use_or (spec.offered_use e)) = offer-fits e.params e.set (spec.offered_use e) (offered e e.result_waiting e.uses f.uses) in
    record {
      issue_writeback = answer.writeback;
      issue_register_read = answer.register_read;
      result_hartid = u.hart;
      result_id = u.id;
      result_data = u.result;
      result_rd = rd-fits (writeback_of (spec.use_or (spec.offered_use e)).hit == 0) (spec.use_or (spec.offered_use e)).word;
      result_we = u.writes;
    }

-- before the first cycle
all-zeros : (n : ℕ) (set : List UnitTable) → Each IsState (replicate n (zeros set))
all-zeros zero set = tt
all-zeros (suc n) set = (state-zeros set, all-zeros n set)

pub new-fits : (p : Params) (set : List UnitTable) (script : Lists) → IsLawful set → FitsEngine (new_engine p set script)
new-fits p set script lawful = record { set = lawful; uses = tt; units = all-zeros p.num_harts set }
