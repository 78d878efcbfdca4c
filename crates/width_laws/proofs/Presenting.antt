-- What the core drives fits its signals.
use Rattle.std.proofs.Common.{◌≡◌, ◌<◌, ◌≤◌, ◌+◌, ◌^◌, ◌==◌, ◌&&◌, ℕ, Bool, true, false, if◌then◌else◌, not, ⊎_elim, Option, Some, None, IfSome, nat_lt, refl, sym, subst, arith}
use Rattle.std.specs.Prelude.{bit_or, slice_index}
use Rattle.std.specs.Option.{option_or, option_map_or}
use Rattle.std.proofs.lemmas.Bool.{cases_eq, eq-eqb, ne_eqb, ltb-true}
use Rattle.std.proofs.lemmas.Nat.{pow_pos, or_lt}
use Rattle.std.proofs.Math.Pow.{pow-lt}
use Rattle.rv32_table.specs.Instr.{source_field}
use Rattle.xif_base.specs.declared.params.Params.{Params}
use Rattle.xif_base.specs.Params.{IsInRange}
use Rattle.xif_base.specs.Flags.{even_bit}
use Rattle.coproc_config.specs.Accept.{flag_of}
use Rattle.inorder_machine.specs.declared.units.Half.{Half}
use Rattle.inorder_machine.specs.declared.units.Half.TheVariants.{Low, High}
use Rattle.inorder_machine.specs.Units.{bit_of, half_register}
use Rattle.xif_signals.specs.declared.bus.CpuOut.{CpuOut}
use Rattle.xif_signals.specs.declared.signal.Signal.TheVariants.{IssueId, IssueInstr, RegisterId, RegisterRs0, RegisterRs1, RegisterRs2, RegisterRsValid, CommitId}
use Rattle.xif_signals.specs.Signal.{width_of}
use Rattle.cycle_spec.specs.declared.choices.Choices.{Choices}
use Rattle.cycle_spec.specs.declared.choices.Presented.{Presented}
use Rattle.cycle_spec.specs.declared.entry.Entry.{Entry}
use Rattle.cycle_spec.specs.declared.entry.Operand.{Operand}
use Rattle.cycle_spec.specs.declared.entry.Operand.TheVariants.{Here, NotYet}
use Rattle.cycle_spec.specs.Flight.{operand_at, is_here, value_or_zero}
use Rattle.cycle_spec.specs.State.{Core}
use Rattle.cycle_spec.specs.Choices.{choices, is_late, has_half, half_value, half_of, half_flag, flags_of, lane_of, presentation_of}
use Rattle.cycle_spec.specs.Core.{core_drive, id_in, word_in, presented_id, presented_lane, presented_flags}
use Rattle.cycle_lists.proofs.Tests.{and-left}
use Rattle.width_laws.proofs.Operands.{FitsEntry, FitsCore, at-word}
use Rattle.width_laws.proofs.Chosen.{AreChosen, chosen}

-- what a core drives, but for the harts, which it knows as 0
pub record FitsCpu (p : Params) (o : CpuOut) : Type 0 where
  pub issue_id : o.issue_id < 2 ^ width_of IssueId p
  pub issue_instr : o.issue_instr < 2 ^ width_of IssueInstr p
  pub register_id : o.register_id < 2 ^ width_of RegisterId p
  pub register_rs0 : o.register_rs0 < 2 ^ width_of RegisterRs0 p
  pub register_rs1 : o.register_rs1 < 2 ^ width_of RegisterRs1 p
  pub register_rs2 : o.register_rs2 < 2 ^ width_of RegisterRs2 p
  pub register_rs_valid : o.register_rs_valid < 2 ^ width_of RegisterRsValid p
  pub commit_id : o.commit_id < 2 ^ width_of CommitId p

-- ---- a half of a lane

module _ (w : Core) (e : Entry) (f : FitsCore w) where
  value-word : (lane : ℕ) (half : Half) → value_or_zero (half_value w e lane half) < 2 ^ 32
  value-word lane half = go (half_register (source_field e.word lane) half)
    where
      go : (o : Option ℕ) → value_or_zero (option_map_or (operand_at w.params.dual_write w.registers w.flight e.seq) o (Here 0)) < 2 ^ 32
      go None = pow_pos 32
      go (Some r) = at-word w.params.id_width w.params.dual_write w.registers w.flight e.seq r f.registers f.entries

  half-word : (lane : ℕ) (half : Half) → value_or_zero (half_of w e lane half) < 2 ^ 32
  half-word lane half = go (has_half w.params e.word lane half && not (is_late w e && not (lane == 0)))
    where
      go : (t : Bool) → value_or_zero (if t then half_value w e lane half else NotYet) < 2 ^ 32
      go true = value-word lane half
      go false = pow_pos 32

  -- a half that is here is one that the lane has
  here-has : (lane : ℕ) (half : Half) → is_here (half_of w e lane half) ≡ true → has_half w.params e.word lane half ≡ true
  here-has lane half h = go (has_half w.params e.word lane half) refl h
    where
      go : (t : Bool) → has_half w.params e.word lane half ≡ t → is_here (if t && not (is_late w e && not (lane == 0)) then half_value w e lane half else NotYet) ≡ true → t ≡ true
      go true q k = refl
      go false q k = cc

  low-there : (lane : ℕ) → is_here (half_of w e lane Low) ≡ true → lane < w.params.num_rs
  low-there lane h = ltb-true lane w.params.num_rs (here-has lane Low h)

  high-there : (lane : ℕ) → is_here (half_of w e lane High) ≡ true → lane < w.params.dual_read
  high-there lane h = ltb-true lane w.params.dual_read (and-left _ _ (here-has lane High h))

  absent : (o : Operand) (lane lanes : ℕ) → (is_here o ≡ true → lane < lanes) → lanes ≤ lane → value_or_zero o ≡ 0
  absent (Here value) lane lanes h l = absurd (omega (arith, h refl, l))
  absent NotYet lane lanes h l = refl

  -- ---- a lane

  lane-none : (lane : ℕ) → IsInRange w.params → w.params.num_rs ≤ lane → lane_of w e lane ≡ 0
  lane-none lane r l =
      let low = absent (half_of w e lane Low) lane w.params.num_rs (low-there lane) l in
      let high = absent (half_of w e lane High) lane w.params.dual_read (high-there lane) (omega (arith, l, r.dual_read)) in
      omega (arith, low, high)

  lane-fits : (lane : ℕ) → IsInRange w.params → lane_of w e lane < 2 ^ w.params.rfr_width
  lane-fits lane r =
      let low = half-word lane Low in
      let high = half-word lane High in
      ⊎_elim
      (λ q. subst (λ k. lane_of w e lane < 2 ^ k) (sym q) (omega (arith, low, alone q)))
      (λ q. subst (λ k. lane_of w e lane < 2 ^ k) (sym q) (omega (arith, low, high)))
      r.rfr_width
    where
      single : (o : Operand) → (is_here o ≡ true → lane < w.params.dual_read) → w.params.rfr_width ≡ 32 → value_or_zero o ≡ 0
      single (Here value) h q =
          let l : lane < w.params.dual_read = h refl in
          let wide : w.params.rfr_width ≡ 64 = r.rfr_pairs (omega (arith, l)) in
          absurd (omega (arith, q, wide))
      single NotYet h q = refl

      alone : w.params.rfr_width ≡ 32 → value_or_zero (half_of w e lane High) ≡ 0
      alone q = single (half_of w e lane High) (high-there lane) q

  -- ---- the flags

  flag-fits : (lane : ℕ) (half : Half) → IsInRange w.params → half_flag w e lane half < 2 ^ (w.params.num_rs + w.params.dual_read)
  flag-fits lane half r = by half (is_here (half_of w e lane half)) refl
    where
      n : ℕ
      n = w.params.num_rs + w.params.dual_read

      few : (a b : ℕ) → Rattle.std.specs.Prelude.min a b ≤ b
      few a b = omega arith

      odd : (t : Bool) → t ≡ true → lane < w.params.dual_read → flag_of (if t then Some (even_bit w.params lane + 1) else None) < 2 ^ n
      odd true q l = pow-lt (omega (arith, l, few lane w.params.dual_read, r.dual_read))
      odd false q l = cc

      by : (half : Half) (t : Bool) → is_here (half_of w e lane half) ≡ t → (if t then flag_of (bit_of w.params lane half) else 0) < 2 ^ n
      by half false q = pow_pos n
      by Low true q = let l : lane < w.params.num_rs = low-there lane q in pow-lt (omega (arith, l, few lane w.params.dual_read))
      by High true q =
          let l : lane < w.params.dual_read = high-there lane q in
          odd (nat_lt lane w.params.dual_read) (and-left _ _ (here-has lane High q)) l

  flags-fit : IsInRange w.params → flags_of w e < 2 ^ (w.params.num_rs + w.params.dual_read)
  flags-fit r =
      let n = w.params.num_rs + w.params.dual_read in
      let h = λ (lane : ℕ) (half : Half). flag-fits lane half r in
      let u1 = or_lt n 0 _ (pow_pos n) (h 0 Low) in
      let u2 = or_lt n _ _ u1 (h 0 High) in
      let u3 = or_lt n _ _ u2 (h 1 Low) in
      let u4 = or_lt n _ _ u3 (h 1 High) in
      let u5 = or_lt n _ _ u4 (h 2 Low) in
      or_lt n _ _ u5 (h 2 High)

-- ---- what is presented

record FitsPresented (p : Params) (x : Presented) : Type 0 where
  id : x.entry.id < 2 ^ p.id_width
  rs0 : slice_index x.lanes 0 < 2 ^ width_of RegisterRs0 p
  rs1 : slice_index x.lanes 1 < 2 ^ width_of RegisterRs1 p
  rs2 : slice_index x.lanes 2 < 2 ^ width_of RegisterRs2 p
  rs_valid : x.rs_valid < 2 ^ width_of RegisterRsValid p

third : (n lanes width : ℕ) → lanes ≤ 3 → n < 2 ^ width → (lanes ≤ 2 → n ≡ 0) → n < 2 ^ (if lanes == 3 then width else 0)
third n lanes width few fits none =
    ⊎_elim
    (λ q. subst (λ t. n < 2 ^ (if t then width else 0)) (sym (eq-eqb lanes 3 q)) fits)
    (λ q. subst (λ t. n < 2 ^ (if t then width else 0)) (sym (ne_eqb lanes 3 q)) (omega (arith, none (omega (arith, few, q)))))
    (cases_eq lanes 3)

presentation-fits : (w : Core) (e : Entry) → IsInRange w.params → FitsCore w → FitsEntry w.params.id_width e → FitsPresented w.params (presentation_of w e)
presentation-fits w e r f h = record {
  id = h.id;
  rs0 = lane-fits w e f 0 r;
  rs1 = lane-fits w e f 1 r;
  rs2 = third (lane_of w e 2) w.params.num_rs w.params.rfr_width r.num_rs.1 (lane-fits w e f 2 r) (λ l. lane-none w e f 2 r l);
  rs_valid = flags-fit w e f r;
}

record Carries (p : Params) (o : Option Presented) : Type 0 where
  id : presented_id o < 2 ^ p.id_width
  rs0 : presented_lane 0 o < 2 ^ width_of RegisterRs0 p
  rs1 : presented_lane 1 o < 2 ^ width_of RegisterRs1 p
  rs2 : presented_lane 2 o < 2 ^ width_of RegisterRs2 p
  rs_valid : presented_flags o < 2 ^ width_of RegisterRsValid p

carries : (w : Core) (o : Option Presented) → IsInRange w.params → FitsCore w → IfSome o (λ x. FitsEntry w.params.id_width x.entry × (x ≡ presentation_of w x.entry)) → Carries w.params o
carries w None r f h = record {
  id = pow_pos w.params.id_width;
  rs0 = pow_pos (width_of RegisterRs0 w.params);
  rs1 = pow_pos (width_of RegisterRs1 w.params);
  rs2 = pow_pos (width_of RegisterRs2 w.params);
  rs_valid = pow_pos (width_of RegisterRsValid w.params);
}
carries w (Some x) r f h =
    let g : FitsPresented w.params x = subst (FitsPresented w.params) (sym h.1) (presentation-fits w x.entry r f h.0) in
    record { id = g.id; rs0 = g.rs0; rs1 = g.rs1; rs2 = g.rs2; rs_valid = g.rs_valid }

id-fits : (n : ℕ) (o : Option Entry) → IfSome o (FitsEntry n) → id_in o < 2 ^ n
id-fits n None h = pow_pos n
id-fits n (Some e) h = h.id

word-fits : (n : ℕ) (o : Option Entry) → IfSome o (FitsEntry n) → word_in o < 2 ^ 32
word-fits n None h = pow_pos 32
word-fits n (Some e) h = h.word

pub drive-fits : (w : Core) → IsInRange w.params → FitsCore w → FitsCpu w.params (core_drive w)
drive-fits w r f =
    let ch : Choices = choices w in
    let c : AreChosen w (FitsEntry w.params.id_width) ch = chosen w f in
    let x : Carries w.params ch.present = carries w ch.present r f c.present in
    record {
      issue_id = id-fits w.params.id_width ch.offer c.offer;
      issue_instr = word-fits w.params.id_width ch.offer c.offer;
      register_id = x.id;
      register_rs0 = x.rs0;
      register_rs1 = x.rs1;
      register_rs2 = x.rs2;
      register_rs_valid = x.rs_valid;
      commit_id = id-fits w.params.id_width (option_or ch.kill ch.release) c.commit;
    }
