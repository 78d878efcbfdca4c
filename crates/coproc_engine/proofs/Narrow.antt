-- What a use writes, and its result, fit the signals of the result channel; and so does all that is
-- driven.
use Rattle.std.proofs.Common.{◌≡◌, ◌<◌, ◌≤◌, ◌+◌, ◌/◌, ◌^◌, ◌==◌, ◌⊎◌, inl, inr, ℕ, Bool, true, false, not, if◌then◌else◌, List, [], ◌∷◌, length, get_or, All, find, filter, map, Option, None, Some, IfSome, refl, sym, subst, arith}
use Rattle.std.proofs.lemmas.Nat.{pow_pos}
use Rattle.std.proofs.lemmas.List.{length-map}
use Rattle.std.proofs.Math.ListN.{get_or-map}
use Rattle.std.proofs.lemmas.List.Elements.{All-head, All-tail, All-map, All-weaker, All-filter, All-push}
use Rattle.std.proofs.Math.Nat.{mod-lt, pow-le-pow_right}
use Rattle.rv32_table.specs.Instr.{rd_field}
use Rattle.xif_base.specs.declared.params.Params.{Params}
use Rattle.xif_base.specs.Params.{IsInRange}
use Rattle.xif_signals.specs.declared.bus.CpuOut.{CpuOut}
use Rattle.xif_signals.specs.declared.signal.Signal.TheVariants.{ResultData, ResultWe}
use Rattle.xif_signals.specs.Signal.{width_of}
use Rattle.coproc_config.specs.declared.accept.Hit.{Hit}
use Rattle.coproc_config.specs.Accept.{IsAllowed}
use Rattle.coproc_config.specs.Table.{result_bits}
use Rattle.cycle_spec.specs.declared.use_of.Use.{Use}
use Rattle.cycle_spec.specs.State.{Engine}
use Rattle.cycle_spec.specs.Engine as spec
use Rattle.cycle_spec.specs.Engine.{writeback_of}
use Rattle.coproc_engine.specs.Drives.{FitsCopOut}
use Rattle.coproc_engine.specs.Fits.{IsKey, IsNarrow, AreNarrow, FitsResult, keys_of}

-- ---- a use that starts, and one that is ready

new-narrow : (flags bits : ℕ) (u : Use) → u.hit ≡ None → u.result ≡ 0 → IsNarrow flags bits u
new-narrow flags bits u h r = record {
  writes = subst (λ hit. writeback_of hit < 2 ^ flags) (sym h) (pow_pos flags);
  width = subst (λ hit. result_bits (writeback_of hit) ≤ bits) (sym h) (omega arith);
  result = subst (λ n. n < 2 ^ bits) (sym r) (pow_pos bits);
}

pub started-narrow : (flags bits : ℕ) (e : Engine) (cpu : CpuOut) → AreNarrow flags bits e.uses → AreNarrow flags bits (spec.started_uses e cpu)
started-narrow flags bits e cpu a = go (spec.starts e cpu)
  where
    u : Use
    u = spec.new_use (spec.issue_key cpu) e.cycle cpu.issue_instr

    go : (t : Bool) → AreNarrow flags bits (if t then spec.with_start u e.uses else e.uses)
    go true = All-push (IsNarrow flags bits) (filter (λ other. not (spec.has_key u.key other)) e.uses) u (All-filter (λ other. not (spec.has_key u.key other)) (IsNarrow flags bits) e.uses a) (new-narrow flags bits u refl refl)
    go false = a

-- a number of fewer bits
pub fewer-bits : (n few bits : ℕ) → n < 2 ^ few → few ≤ bits → n < 2 ^ bits
fewer-bits n few bits l h =
    let p : 2 ^ few ≤ 2 ^ bits = pow-le-pow_right (omega arith) h in
    omega (arith, l, p)

pub ready-narrow : (flags bits cycle n : ℕ) (u : Use) → n < 2 ^ result_bits (writeback_of u.hit) → IsNarrow flags bits u → IsNarrow flags bits (spec.with_ready cycle n u)
ready-narrow flags bits cycle n u l h = record {
  writes = h.writes;
  width = h.width;
  result = fewer-bits n (result_bits (writeback_of u.hit)) bits l h.width;
}

-- ---- the answer

-- what an allowed hit writes, and how many bits its result may have
record AnswersWithin (p : Params) (flags : ℕ) : Type 0 where
  writes : flags < 2 ^ width_of ResultWe p
  width : result_bits flags ≤ width_of ResultData p

port-bits : (width : ℕ) → (width ≡ 32) ⊎ (width ≡ 64) → 32 ≤ width
port-bits width (inl e) = omega (arith, e)
port-bits width (inr e) = omega (arith, e)

within-by : (p : Params) (flags : ℕ) → IsInRange p → (flags ≡ 0) ⊎ ((flags ≡ 1) ⊎ (flags ≡ 3)) → (flags ≡ 3 → p.dual_write ≡ true) → AnswersWithin p flags
within-by p flags r (inl e) d = subst (AnswersWithin p) (sym e) (record { writes = pow_pos (width_of ResultWe p); width = omega arith })
within-by p flags r (inr (inl e)) d = subst (AnswersWithin p) (sym e) (record {
  writes = fewer-bits 1 1 (width_of ResultWe p) (omega arith) (omega arith);
  width = port-bits p.rfw_width r.rfw_width;
})
within-by p flags r (inr (inr e)) d = subst (AnswersWithin p) (sym e) (record {
  writes = subst (λ dual. 3 < 2 ^ (1 + (if dual then 1 else 0))) (sym (d e)) (omega arith);
  width = subst (λ width. 64 ≤ width) (sym (r.rfw_pairs (d e))) (omega arith);
})

allowed-within : (p : Params) (word : ℕ) (hit : Hit) → IsInRange p → IsAllowed p word hit → AnswersWithin p hit.writeback.0
allowed-within p word hit r a = within-by p hit.writeback.0 r a.writes (λ e. (a.write_pairs e).0)

pub answer-narrow : (p : Params) (word start : ℕ) (hit : Option Hit) (order : ℕ) (us : List Use) → IsInRange p → IfSome hit (IsAllowed p word) → AreNarrow (width_of ResultWe p) (width_of ResultData p) us → AreNarrow (width_of ResultWe p) (width_of ResultData p) (map (spec.with_answer start hit order) us)
answer-narrow p word start hit order us r a n =
    All-map Fits (spec.with_answer start hit order) us (All-weaker Fits (λ u. Fits (spec.with_answer start hit order u)) (λ u. one u (spec.has_start start u) hit a) us n)
  where
    Fits : Use → Type 0
    Fits = IsNarrow (width_of ResultWe p) (width_of ResultData p)

    one : (u : Use) (t : Bool) (hit : Option Hit) → IfSome hit (IsAllowed p word) → Fits u → Fits (record u { hit = if t then hit else u.hit; order = if t then order else u.order })
    one u true None a h = record { writes = pow_pos (width_of ResultWe p); width = omega arith; result = h.result }
    one u true (Some hit) a h =
        let w : AnswersWithin p hit.writeback.0 = allowed-within p word hit r a in
        record { writes = w.writes; width = w.width; result = h.result }
    one u false hit a h = record { writes = h.writes; width = h.width; result = h.result }

-- ---- what is driven

find-fits : {X : Type 0} (P : X → Type 0) (test : X → Bool) (xs : List X) → All P xs → IfSome (find test xs) P
find-fits P test [] a = tt
find-fits P test (x ∷ xs) a = go (test x) (All-head P x xs a) (find-fits P test xs (All-tail P x xs a))
  where
    go : (t : Bool) → P x → IfSome (find test xs) P → IfSome (if t then Some x else find test xs) P
    go true h rest = h
    go false h rest = rest

pub offered-fits : (P : Use → Type 0) (waiting : Option ℕ) (delays : List ℕ) (cycle : ℕ) (us : List Use) → All P us → IfSome (spec.offered_by waiting delays cycle us) P
offered-fits P None delays cycle us a = find-fits P (spec.is_due delays cycle) us a
offered-fits P (Some start) delays cycle us a = find-fits P (spec.has_start start) us a

-- uses whose keys are those of the interface, and that are narrow
pub both-fit : (p : Params) (us : List Use) → All (IsKey p) (keys_of us) → AreNarrow (width_of ResultWe p) (width_of ResultData p) us → All (FitsResult p) us
both-fit p us k n = λ i d l. record { key = key i d l; narrow = n i d l }
  where
    key : (i : ℕ) (d : Use) → i < length us → IsKey p (get_or us i d).key
    key i d l = subst (IsKey p) (get_or-map (λ (u : Use). u.key) us i d) (k i d.key (subst (λ n. i < n) (sym (length-map us (λ (u : Use). u.key))) l))

record FitsAnswer (p : Params) (hit : Option Hit) : Type 0 where
  writeback : writeback_of hit < 2 ^ width_of ResultWe p
  register_read : spec.register_read_of hit < 2 ^ (p.num_rs + p.dual_read)

answer-fits : (p : Params) (word : ℕ) (hit : Option Hit) → IsInRange p → IfSome hit (IsAllowed p word) → FitsAnswer p hit
answer-fits p word None r a = record { writeback = pow_pos (width_of ResultWe p); register_read = pow_pos (p.num_rs + p.dual_read) }
answer-fits p word (Some hit) r a = record { writeback = (allowed-within p word hit r a).writes; register_read = a.reads }

record FitsUse (p : Params) (u : Use) : Type 0 where
  hart : u.key.hart < 2 ^ p.hartid_width
  id : u.key.id < 2 ^ p.id_width
  result : u.result < 2 ^ p.rfw_width
  writes : writeback_of u.hit < 2 ^ width_of ResultWe p

use-fits : (p : Params) (offered : Option Use) → IsInRange p → IfSome offered (FitsResult p) → FitsUse p (spec.use_or offered)
use-fits p None r f = record {
  hart = pow_pos p.hartid_width;
  id = pow_pos p.id_width;
  result = pow_pos p.rfw_width;
  writes = pow_pos (width_of ResultWe p);
}
use-fits p (Some u) r f = record {
  hart = omega (arith, f.key.hart, r.hartids);
  id = f.key.id;
  result = f.narrow.result;
  writes = f.narrow.writes;
}

rd-fits : (writes : Bool) (word : ℕ) → (if writes then 0 else rd_field word) < 2 ^ 5
rd-fits true word = omega arith
rd-fits false word = mod-lt (word / 2 ^ 7) (omega arith)

pub cop-fits : (p : Params) (word : ℕ) (issue_ready : Bool) (hit : Option Hit) (register_ready : Bool) (offered : Option Use) → IsInRange p → IfSome hit (IsAllowed p word) → IfSome offered (FitsResult p) → FitsCopOut p (spec.cop_out issue_ready hit register_ready offered)
cop-fits p word issue_ready hit register_ready offered r a f =
    let answer : FitsAnswer p hit = answer-fits p word hit r a in
    let u : FitsUse p (spec.use_or offered) = use-fits p offered r f in
    record {
      issue_writeback = answer.writeback;
      issue_register_read = answer.register_read;
      result_hartid = u.hart;
      result_id = u.id;
      result_data = u.result;
      result_rd = rd-fits (writeback_of (spec.use_or offered).hit == 0) (spec.use_or offered).word;
      result_we = u.writes;
    }
