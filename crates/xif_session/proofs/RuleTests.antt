-- Each rule's test passes if and only if the rule holds.
use Rattle.std.proofs.Common.{◌≡◌, ◌≢◌, ◌<◌, ◌≤◌, ◌/◌, ◌%◌, ◌^◌, ◌==◌, ◌&&◌, ◌↔◌, not, ℕ, zero, suc, Bool, true, false, if◌then◌else◌, Option, Some, None, refl, sym, ap, ◌∙◌, arith, inl, inr}
use Rattle.std.specs.Prelude.{◌⊎◌, nat_lt, nat_le, is_none, is_some, find, min, IsTrue, IsSomeAnd, IfSome, bit_and}
use Rattle.std.specs.Int.{bit_at}
use Rattle.std.specs.Option.{option_map, option_map_or}
use Rattle.std.proofs.lemmas.Bool.{eqb-true, eqb-false, eq-eqb}
use Rattle.std.proofs.lemmas.Bool.Decides.{nat_tests}
use Rattle.std.proofs.lemmas.Nat.Bits.{bit_at_and, bit_at-lt, same_from_bits}
use Rattle.rv32_table.specs.Instr.{rd_field, source_field}
use Rattle.xif_base.specs.declared.params.Params.{Params}
use Rattle.xif_base.specs.declared.flags.ReadFlags.{ReadFlags}
use Rattle.xif_base.specs.Flags.{even_bit, odd_bit}
use Rattle.xif_base.specs.Params.{IsInRange}
use Rattle.xif_signals.specs.declared.bus.Bus.{Bus}
use Rattle.xif_signals.specs.declared.rule.Channel.{Channel}
use Rattle.xif_signals.specs.declared.rule.Channel.TheVariants.{Issue, Register, Commit, Result as ResultChannel}
use Rattle.xif_signals.specs.declared.rule.Rule.{Rule}
use Rattle.xif_signals.specs.declared.rule.Rule.TheVariants.{K1, K2, H1, I1, I2, I3, I4, I5, G1, G2, G3, G4, G5, C1, C2, C3, R1, R2, R3, R4, R5, R6}
use Rattle.xif_signals.specs.Channels.{channels, valid_of, key_of}
use Rattle.xif_signals.specs.Known.{when, has_flag}
use Rattle.xif_session.specs.declared.fact.Response.{Response}
use Rattle.xif_session.specs.declared.fact.Fact.{Fact}
use Rattle.xif_session.specs.Facts.{Past, Facts, same_key, issue_key, register_key, commit_key, result_key, is_issued, is_given, result_waits, is_accepted, is_killed, is_released, is_in_flight, is_pending, issue_continues, is_start, register_continues, named, effective_start, now}
use Rattle.xif_session.specs.Rules as rules
use Rattle.xif_session.specs.Rules.{IsWithin, HasOperands, NoneBefore, MayFinish, SameHalves, SameResult, lane_value, low_half, high_half}
use Rattle.xif_session.specs.Legal.{Holds}
use Rattle.xif_session.specs.Tests as tests
use Rattle.xif_session.specs.Tests.{each_lane, is_within, has_odd_flag, has_operands, none_before, keeps, lost_channel, has_hart}
use Rattle.xif_session.proofs.Options.{both-true, and-true, no_true, when_in, when_out, not_in, not_out, bit_in, bit_out, lt_in, lt_out, le_in, le_out, if_in, if_out, is_in, is_out, none_in, none_out, key_is, key_same}

-- ---- sets of flags

bit_below : (n i : ℕ) → (bit_at n i == 1) ≡ false → bit_at n i ≡ 0
bit_below n i h = let small = bit_at-lt n i in let other : bit_at n i ≢ 1 = eqb-false (bit_at n i) 1 h in omega arith

pub within_in : (read flags : ℕ) → is_within read flags ≡ true → IsWithin read flags
within_in read flags h i f =
    let e : bit_and flags read ≡ read = eqb-true (bit_and flags read) read h in
    let one : bit_at read i ≡ 1 = eqb-true (bit_at read i) 1 f in
    let m : min (bit_at flags i) (bit_at read i) ≡ bit_at read i = sym (bit_at_and flags read i) ∙ ap (λ n. bit_at n i) e in
    let small = bit_at-lt flags i in
    eq-eqb (bit_at flags i) 1 (omega arith)

pub within_out : (read flags : ℕ) → IsWithin read flags → is_within read flags ≡ true
within_out read flags h = eq-eqb (bit_and flags read) read (same_from_bits (bit_and flags read) read (λ i. bit_at_and flags read i ∙ go i (has_flag read i) refl))
  where
    go : (i : ℕ) (t : Bool) → has_flag read i ≡ t → min (bit_at flags i) (bit_at read i) ≡ bit_at read i
    go i true q =
        let one : bit_at read i ≡ 1 = eqb-true (bit_at read i) 1 q in
        let two : bit_at flags i ≡ 1 = eqb-true (bit_at flags i) 1 (h i q) in
        omega arith
    go i false q = let none : bit_at read i ≡ 0 = bit_below read i q in omega arith

operands_in : (r : Option Response) (o : Option ReadFlags) → has_operands r o ≡ true → HasOperands r o
operands_in r None h = tt
operands_in None (Some flags) h = tt
operands_in (Some x) (Some flags) h = λ a. within_in x.register_read.0 flags.0 (when_in x.accept (is_within x.register_read.0 flags.0) h a)

operands_out : (r : Option Response) (o : Option ReadFlags) → HasOperands r o → has_operands r o ≡ true
operands_out r None h = refl
operands_out None (Some flags) h = refl
operands_out (Some x) (Some flags) h = when_out x.accept (is_within x.register_read.0 flags.0) (λ a. within_out x.register_read.0 flags.0 (h a))

-- ---- lanes

lanes_in : (params : Params) (test : ℕ → Bool) → params.num_rs ≤ 3 → each_lane params test ≡ true → (lane : ℕ) → lane < params.num_rs → test lane ≡ true
lanes_in params test small h lane inside =
    let x = both-true (test 0) _ h in
    let y = both-true (test 1) _ x.1 in
    go lane inside x.0 y.0 (when_in (params.num_rs == 3) (test 2) y.1)
  where
    go : (lane : ℕ) → lane < params.num_rs → test 0 ≡ true → test 1 ≡ true → ((params.num_rs == 3) ≡ true → test 2 ≡ true) → test lane ≡ true
    go zero i a b c = a
    go (suc zero) i a b c = b
    go (suc (suc zero)) i a b c = c (eq-eqb params.num_rs 3 (omega arith))
    go (suc (suc (suc n))) i a b c = absurd (omega arith)

lanes_out : (params : Params) (test : ℕ → Bool) → 2 ≤ params.num_rs → ((lane : ℕ) → lane < params.num_rs → test lane ≡ true) → each_lane params test ≡ true
lanes_out params test two h =
    and-true (test 0) _ (h 0 (omega arith)) (and-true (test 1) _ (h 1 (omega arith))
    (when_out (params.num_rs == 3) (test 2) (λ q. let three : params.num_rs ≡ 3 = eqb-true params.num_rs 3 q in h 2 (omega arith))))

-- the flag of the high half of a lane
odd_in : (params : Params) (flags lane bit : ℕ) → odd_bit params lane ≡ Some bit → has_odd_flag params flags lane ≡ has_flag flags bit
odd_in params flags lane bit e = ap (λ o. option_map_or (has_flag flags) o false) e

odd_out : (params : Params) (flags lane : ℕ) → has_odd_flag params flags lane ≡ true → (bit : ℕ) × ((odd_bit params lane ≡ Some bit) × (has_flag flags bit ≡ true))
odd_out params flags lane h = go (odd_bit params lane) refl h
  where
    go : (o : Option ℕ) → odd_bit params lane ≡ o → option_map_or (has_flag flags) o false ≡ true → (bit : ℕ) × ((odd_bit params lane ≡ Some bit) × (has_flag flags bit ≡ true))
    go None e h = cc
    go (Some bit) e h = (bit, (e, h))

halves_in : (params : Params) (flags : ℕ) (before after : Bus) (lane : ℕ) → tests.same_halves params flags before after lane ≡ true → SameHalves params flags before after lane
halves_in params flags before after lane h =
    let x = both-true (when (has_flag flags (even_bit params lane)) (low_half (lane_value after lane) == low_half (lane_value before lane))) _ h in
    record {
      low = λ f. eqb-true (low_half (lane_value after lane)) (low_half (lane_value before lane)) (when_in (has_flag flags (even_bit params lane)) _ x.0 f);
      high = λ bit e f. eqb-true (high_half (lane_value after lane)) (high_half (lane_value before lane)) (when_in (has_odd_flag params flags lane) _ x.1 (odd_in params flags lane bit e ∙ f));
    }

halves_out : (params : Params) (flags : ℕ) (before after : Bus) (lane : ℕ) → SameHalves params flags before after lane → tests.same_halves params flags before after lane ≡ true
halves_out params flags before after lane s =
    and-true _ _ (when_out (has_flag flags (even_bit params lane)) _ (λ f. eq-eqb (low_half (lane_value after lane)) (low_half (lane_value before lane)) (s.low f)))
    (when_out (has_odd_flag params flags lane) _ (λ f.
    let o = odd_out params flags lane f in
    eq-eqb (high_half (lane_value after lane)) (high_half (lane_value before lane)) (s.high o.0 o.1.0 o.1.1)))

-- ---- H1

hart_in : (valid : Bool) (hart count : ℕ) → not (when valid (nat_lt hart count)) ≡ false → IsTrue valid → hart < count
hart_in true hart count e v = grind (arith, nat_tests)
hart_in false hart count e v = absurd (cc)

hart_out : (valid : Bool) (hart count : ℕ) → (IsTrue valid → hart < count) → not (when valid (nat_lt hart count)) ≡ false
hart_out true hart count f = let below : hart < count = f refl in grind (arith, nat_tests)
hart_out false hart count f = refl

pub record NoneOf (a b c d : Bool) : Type 0 where
  pub first : a ≡ false
  pub second : b ≡ false
  pub third : c ≡ false
  pub fourth : d ≡ false

none_of : {X : Type 0} (a b c d : Bool) (w x y z : X) → is_none (if a then Some w else (if b then Some x else (if c then Some y else (if d then Some z else None)))) ≡ true → NoneOf a b c d
none_of true b c d w x y z e = absurd (cc)
none_of false true c d w x y z e = absurd (cc)
none_of false false true d w x y z e = absurd (cc)
none_of false false false true w x y z e = absurd (cc)
none_of false false false false w x y z e = record { first = refl; second = refl; third = refl; fourth = refl }

of_none : {X : Type 0} (a b c d : Bool) (w x y z : X) → NoneOf a b c d → is_none (if a then Some w else (if b then Some x else (if c then Some y else (if d then Some z else None)))) ≡ true
of_none a b c d w x y z n = rw (n.first, n.second, n.third, n.fourth) refl

abbrev out : Params → Bus → Channel → Bool
out params b channel = not (has_hart params b channel)

H1_in : (params : Params) (b : Bus) → NoneOf (out params b Issue) (out params b Register) (out params b Commit) (out params b ResultChannel) → rules.HoldsH1 params b
H1_in params b n Issue = hart_in b.issue_valid b.issue_hartid params.num_harts n.first
H1_in params b n Register = hart_in b.register_valid b.register_hartid params.num_harts n.second
H1_in params b n Commit = hart_in b.commit_valid b.commit_hartid params.num_harts n.third
H1_in params b n ResultChannel = hart_in b.result_valid b.result_hartid params.num_harts n.fourth

H1_test : (params : Params) (b : Bus) → rules.HoldsH1 params b → (channel : Channel) → out params b channel ≡ false
H1_test params b h channel = hart_out (valid_of b channel) (key_of b channel).hart params.num_harts (h channel)

rule_H1 : (params : Params) (b : Bus) → (is_none (lost_channel params b) ≡ true) ↔ rules.HoldsH1 params b
rule_H1 params b = (
  λ e. H1_in params b (none_of (out params b Issue) (out params b Register) (out params b Commit) (out params b ResultChannel) Issue Register Commit ResultChannel e),
  λ h. of_none (out params b Issue) (out params b Register) (out params b Commit) (out params b ResultChannel) Issue Register Commit ResultChannel (record {
    first = H1_test params b h Issue;
    second = H1_test params b h Register;
    third = H1_test params b h Commit;
    fourth = H1_test params b h ResultChannel;
  }),
)

-- ---- the issue rules

rule_I1 : (p : Past) (b : Bus) → (tests.keeps_I1 p b ≡ true) ↔ rules.HoldsI1 p b
rule_I1 p b = (
  λ h c. eqb-true b.issue_instr p.last.issue_instr (when_in (issue_continues p b) _ h c),
  λ k. when_out (issue_continues p b) _ (λ c. eq-eqb b.issue_instr p.last.issue_instr (k c)),
)

rule_I2 : (params : Params) (p : Past) (b : Bus) → (tests.keeps_I2 params p b ≡ true) ↔ rules.HoldsI2 params p b
rule_I2 params p b = (
  λ h s. not_in (is_in_flight params.profile (p.facts (issue_key b))) (when_in (is_start p b) _ h s),
  λ k. when_out (is_start p b) _ (λ s. not_out (is_in_flight params.profile (p.facts (issue_key b))) (k s)),
)

rule_I3 : (b : Bus) → (tests.keeps_I3 b ≡ true) ↔ rules.HoldsI3 b
rule_I3 b = (
  λ h i a. eqb-true b.issue_writeback 0 (when_in (is_issued b && not b.issue_accept) _ h (and-true (is_issued b) _ i (not_out b.issue_accept a))),
  λ k. when_out (is_issued b && not b.issue_accept) _ (λ x. let y = both-true (is_issued b) _ x in eq-eqb b.issue_writeback 0 (k y.0 (not_in b.issue_accept y.1))),
)

rule_I4 : (params : Params) (b : Bus) → (tests.keeps_I4 params b ≡ true) ↔ rules.HoldsI4 params b
rule_I4 params b = (
  λ h i a f.
      let x = both-true params.dual_write _ (when_in (is_issued b && (b.issue_accept && has_flag b.issue_writeback 1)) _ h (and-true (is_issued b) _ i (and-true b.issue_accept _ a f))) in
      record { dual_write = x.0; even = eqb-true (rd_field b.issue_instr % 2) 0 x.1 },
  λ k. when_out (is_issued b && (b.issue_accept && has_flag b.issue_writeback 1)) _ (λ x.
      let y = both-true (is_issued b) _ x in
      let z = both-true b.issue_accept _ y.1 in
      let r = k y.0 z.0 z.1 in
      and-true params.dual_write _ r.dual_write (eq-eqb (rd_field b.issue_instr % 2) 0 r.even)),
)

rule_I5 : (params : Params) (b : Bus) → IsInRange params → (tests.keeps_I5 params b ≡ true) ↔ rules.HoldsI5 params b
rule_I5 params b r = (
  λ h i a lane bit inside e f.
      eqb-true (source_field b.issue_instr lane % 2) 0 (when_in (has_odd_flag params b.issue_register_read lane) _
      (lanes_in params (λ lane. when (has_odd_flag params b.issue_register_read lane) (source_field b.issue_instr lane % 2 == 0)) r.num_rs.1
      (when_in (is_issued b && b.issue_accept) _ h (and-true (is_issued b) _ i a)) lane inside)
      (odd_in params b.issue_register_read lane bit e ∙ f)),
  λ k. when_out (is_issued b && b.issue_accept) _ (λ x.
      let y = both-true (is_issued b) _ x in
      lanes_out params (λ lane. when (has_odd_flag params b.issue_register_read lane) (source_field b.issue_instr lane % 2 == 0)) r.num_rs.0 (λ lane inside.
      when_out (has_odd_flag params b.issue_register_read lane) _ (λ f.
      let o = odd_out params b.issue_register_read lane f in
      eq-eqb (source_field b.issue_instr lane % 2) 0 (k y.0 y.1 lane o.0 inside o.1.0 o.1.1)))),
)

-- ---- the register rules

rule_G1 : (params : Params) (b : Bus) → (tests.keeps_G1 params b ≡ true) ↔ rules.HoldsG1 params b
rule_G1 params b = (
  λ h.
      let whole : params.split ≡ false → (tests.same_bit b.register_valid b.issue_valid && when b.issue_valid (tests.same_bit b.register_ready b.issue_ready && same_key (register_key b) (issue_key b))) ≡ true = λ s. when_in (not params.split) _ h (not_out params.split s) in
      let rest : params.split ≡ false → b.issue_valid ≡ true → (tests.same_bit b.register_ready b.issue_ready && same_key (register_key b) (issue_key b)) ≡ true = λ s v. when_in b.issue_valid _ (both-true (tests.same_bit b.register_valid b.issue_valid) _ (whole s)).1 v in
      record {
        core = record {
          valid = λ s. bit_in b.register_valid b.issue_valid (both-true (tests.same_bit b.register_valid b.issue_valid) _ (whole s)).0;
          key = λ s v. key_is (register_key b) (issue_key b) (both-true (tests.same_bit b.register_ready b.issue_ready) _ (rest s v)).1;
        };
        engine = λ s v w. bit_in b.register_ready b.issue_ready (both-true (tests.same_bit b.register_ready b.issue_ready) _ (rest s v)).0;
      },
  λ k. when_out (not params.split) _ (λ x.
      let s = not_in params.split x in
      and-true _ _ (bit_out b.register_valid b.issue_valid (k.core.valid s))
      (when_out b.issue_valid _ (λ v. and-true _ _ (bit_out b.register_ready b.issue_ready (k.engine s v (k.core.valid s ∙ v))) (key_same (register_key b) (issue_key b) (k.core.key s v))))),
)

rule_G2 : (p : Past) (b : Bus) → (tests.keeps_G2 p b ≡ true) ↔ rules.HoldsG2 p b
rule_G2 p b = (
  λ h v. is_in (λ f. is_none f.operands) (λ f. f.operands ≡ None) (named p b (register_key b)) (λ f k. none_in f.operands k) (when_in b.register_valid _ h v),
  λ k. when_out b.register_valid _ (λ v. is_out (λ f. is_none f.operands) (λ f. f.operands ≡ None) (named p b (register_key b)) (λ f q. none_out f.operands q) (k v)),
)

rule_G3 : (p : Past) (b : Bus) → (tests.keeps_G3 p b ≡ true) ↔ rules.HoldsG3 p b
rule_G3 p b = (
  λ h c. within_in p.last.register_rs_valid b.register_rs_valid (when_in (register_continues p b) _ h c),
  λ k. when_out (register_continues p b) _ (λ c. within_out p.last.register_rs_valid b.register_rs_valid (k c)),
)

rule_G4 : (params : Params) (p : Past) (b : Bus) → IsInRange params → (tests.keeps_G4 params p b ≡ true) ↔ rules.HoldsG4 params p b
rule_G4 params p b r = (
  λ h c lane inside. halves_in params p.last.register_rs_valid p.last b lane
      (lanes_in params (tests.same_halves params p.last.register_rs_valid p.last b) r.num_rs.1 (when_in (register_continues p b) _ h c) lane inside),
  λ k. when_out (register_continues p b) _ (λ c. lanes_out params (tests.same_halves params p.last.register_rs_valid p.last b) r.num_rs.0
      (λ lane inside. halves_out params p.last.register_rs_valid p.last b lane (k c lane inside))),
)

pub rule_G5_issue : (p : Past) (b : Bus) → (tests.keeps_G5_issue p b ≡ true) ↔ rules.HoldsG5Issue p b
rule_G5_issue p b = (
  λ h i. if_in (λ f. has_operands f.response f.operands) (λ f. HasOperands f.response f.operands) (now p b (issue_key b)) (λ f k. operands_in f.response f.operands k) (when_in (is_issued b) _ h i),
  λ k. when_out (is_issued b) _ (λ i. if_out (λ f. has_operands f.response f.operands) (λ f. HasOperands f.response f.operands) (now p b (issue_key b)) (λ f q. operands_out f.response f.operands q) (k i)),
)

rule_G5_register : (p : Past) (b : Bus) → (tests.keeps_G5_register p b ≡ true) ↔ rules.HoldsG5Register p b
rule_G5_register p b = (
  λ h i. if_in (λ f. has_operands f.response f.operands) (λ f. HasOperands f.response f.operands) (now p b (register_key b)) (λ f k. operands_in f.response f.operands k) (when_in (is_given b) _ h i),
  λ k. when_out (is_given b) _ (λ i. if_out (λ f. has_operands f.response f.operands) (λ f. HasOperands f.response f.operands) (now p b (register_key b)) (λ f q. operands_out f.response f.operands q) (k i)),
)

rule_G5 : (p : Past) (b : Bus) → ((tests.keeps_G5_issue p b && tests.keeps_G5_register p b) ≡ true) ↔ rules.HoldsG5 p b
rule_G5 p b = (
  λ h. let x = both-true (tests.keeps_G5_issue p b) _ h in record { issue = (rule_G5_issue p b).0 x.0; register = (rule_G5_register p b).0 x.1 },
  λ k. and-true _ _ ((rule_G5_issue p b).1 k.issue) ((rule_G5_register p b).1 k.register),
)

-- ---- the commit rules

rule_C1 : (p : Past) (b : Bus) → (tests.keeps_C1 p b ≡ true) ↔ rules.HoldsC1 p b
rule_C1 p b = (
  λ h v. when_in b.commit_valid _ h v,
  λ k. when_out b.commit_valid _ k,
)

rule_C2 : (p : Past) (b : Bus) → (tests.keeps_C2 p b ≡ true) ↔ rules.HoldsC2 p b
rule_C2 p b = (
  λ h v k. if_in (λ f. not (is_killed f.decision)) (λ f. is_killed f.decision ≡ false) (named p b (commit_key b)) (λ f q. not_in (is_killed f.decision) q)
      (when_in (b.commit_valid && not b.commit_kill) _ h (and-true b.commit_valid _ v (not_out b.commit_kill k))),
  λ k. when_out (b.commit_valid && not b.commit_kill) _ (λ x.
      let y = both-true b.commit_valid _ x in
      if_out (λ f. not (is_killed f.decision)) (λ f. is_killed f.decision ≡ false) (named p b (commit_key b)) (λ f q. not_out (is_killed f.decision) q) (k y.0 (not_in b.commit_kill y.1))),
)

pub before_in : (params : Params) (facts : Facts) (hart start bound : ℕ) → none_before facts hart start bound ≡ true
    → (id : ℕ) (f : Fact) → id < bound → facts (record { hart = hart; id = id }) ≡ Some f → IsTrue (is_pending (Some f)) → start ≤ f.start
before_in params facts hart start zero h id f below e w = absurd (omega arith)
before_in params facts hart start (suc n) h id f below e w =
    let parts = both-true (tests.if_use (λ f. when (is_pending (Some f)) (nat_le start f.start)) (facts (record { hart = hart; id = n }))) _ h in
    go (id == n) refl parts.0 (λ inside. before_in params facts hart start n parts.1 id f inside e w)
  where
    less : (a b : ℕ) → a < suc b → a ≢ b → a < b
    less a b l ne = grind (arith, nat_tests)

    go : (t : Bool) → (id == n) ≡ t → tests.if_use (λ f. when (is_pending (Some f)) (nat_le start f.start)) (facts (record { hart = hart; id = n })) ≡ true → (id < n → start ≤ f.start) → start ≤ f.start
    go true q here r =
        let same : facts (record { hart = hart; id = n }) ≡ Some f = ap (λ i. facts (record { hart = hart; id = i })) (sym (eqb-true id n q)) ∙ e in
        le_in start f.start (when_in (is_pending (Some f)) _ (sym (ap (tests.if_use (λ f. when (is_pending (Some f)) (nat_le start f.start))) same) ∙ here) w)
    go false q here r = r (less id n below (eqb-false id n q))

pub before_out : (facts : Facts) (hart start bound : ℕ)
    → ((id : ℕ) (f : Fact) → id < bound → facts (record { hart = hart; id = id }) ≡ Some f → IsTrue (is_pending (Some f)) → start ≤ f.start) → none_before facts hart start bound ≡ true
before_out facts hart start zero h = refl
before_out facts hart start (suc n) h =
    and-true _ _ (one (facts (record { hart = hart; id = n })) (λ f e w. h n f (omega arith) e w)) (before_out facts hart start n (λ id f below e w. h id f (omega arith) e w))
  where
    one : (o : Option Fact) → ((f : Fact) → o ≡ Some f → IsTrue (is_pending (Some f)) → start ≤ f.start) → tests.if_use (λ f. when (is_pending (Some f)) (nat_le start f.start)) o ≡ true
    one None g = refl
    one (Some f) g = when_out (is_pending (Some f)) _ (λ w. le_out start f.start (g f refl w))

order_in : (params : Params) (p : Past) (b : Bus) → tests.is_in_order params p b ≡ true → (start : ℕ) → effective_start p b ≡ Some start → NoneBefore params (named p b) b.commit_hartid start
order_in params p b h start e id f below k w =
    before_in params (named p b) b.commit_hartid start (2 ^ params.id_width)
    (sym (ap (λ o. option_map_or (λ start. none_before (named p b) b.commit_hartid start (2 ^ params.id_width)) o true) e) ∙ h) id f below k w

order_out : (params : Params) (p : Past) (b : Bus) → ((start : ℕ) → effective_start p b ≡ Some start → NoneBefore params (named p b) b.commit_hartid start) → tests.is_in_order params p b ≡ true
order_out params p b k = go (effective_start p b) (λ start q. k start q)
  where
    go : (o : Option ℕ) → ((start : ℕ) → o ≡ Some start → NoneBefore params (named p b) b.commit_hartid start)
        → option_map_or (λ start. none_before (named p b) b.commit_hartid start (2 ^ params.id_width)) o true ≡ true
    go None g = refl
    go (Some start) g = before_out (named p b) b.commit_hartid start (2 ^ params.id_width) (λ id f below e w. g start refl id f below e w)

rule_C3 : (params : Params) (p : Past) (b : Bus) → (tests.keeps_C3 params p b ≡ true) ↔ rules.HoldsC3 params p b
rule_C3 params p b = (
  λ h.
      let x = both-true (when (b.commit_valid && b.commit_kill) (tests.if_use (λ f. not (is_released f.decision)) (named p b (commit_key b)))) _ h in
      record {
        unreleased = λ v k. if_in (λ f. not (is_released f.decision)) (λ f. is_released f.decision ≡ false) (named p b (commit_key b)) (λ f q. not_in (is_released f.decision) q)
            (when_in (b.commit_valid && b.commit_kill) _ x.0 (and-true b.commit_valid _ v k));
        in_order = λ q k start e. order_in params p b (when_in ((params.profile == 2) && b.commit_kill) _ x.1 (and-true (params.profile == 2) _ (eq-eqb params.profile 2 q) k)) start e;
      },
  λ k. and-true _ _
      (when_out (b.commit_valid && b.commit_kill) _ (λ x.
      let y = both-true b.commit_valid _ x in
      if_out (λ f. not (is_released f.decision)) (λ f. is_released f.decision ≡ false) (named p b (commit_key b)) (λ f q. not_out (is_released f.decision) q) (k.unreleased y.0 y.1)))
      (when_out ((params.profile == 2) && b.commit_kill) _ (λ x.
      let y = both-true (params.profile == 2) _ x in
      order_out params p b (λ start e. k.in_order (eqb-true params.profile 2 y.0) y.1 start e))),
)

-- ---- the result rules

rule_R1 : (p : Past) (b : Bus) → (tests.keeps_R1 p b ≡ true) ↔ rules.HoldsR1 p b
rule_R1 p b = (
  λ h w. when_in (result_waits p.last) _ h w,
  λ k. when_out (result_waits p.last) _ k,
)

result_in : (x y : Bus) → tests.is_same_result x y ≡ true → SameResult x y
result_in x y h =
    let a = both-true (same_key (result_key y) (result_key x) && (y.result_we == x.result_we)) _ h in
    let k = both-true (same_key (result_key y) (result_key x)) _ a.0 in
    let c = both-true (when (not (y.result_we == 0)) (y.result_rd == x.result_rd)) _ a.1 in
    let d = both-true (when (has_flag y.result_we 0) (low_half y.result_data == low_half x.result_data)) _ c.1 in
    record {
      key = key_is (result_key y) (result_key x) k.0;
      we = eqb-true y.result_we x.result_we k.1;
      rd = λ z. eqb-true y.result_rd x.result_rd (when_in (not (y.result_we == 0)) _ c.0 (not_out (y.result_we == 0) z));
      low = λ f. eqb-true (low_half y.result_data) (low_half x.result_data) (when_in (has_flag y.result_we 0) _ d.0 f);
      high = λ f. eqb-true (high_half y.result_data) (high_half x.result_data) (when_in (has_flag y.result_we 1) _ d.1 f);
    }

result_out : (x y : Bus) → SameResult x y → tests.is_same_result x y ≡ true
result_out x y s =
    and-true _ _ (and-true _ _ (key_same (result_key y) (result_key x) s.key) (eq-eqb y.result_we x.result_we s.we))
    (and-true _ _ (when_out (not (y.result_we == 0)) _ (λ z. eq-eqb y.result_rd x.result_rd (s.rd (not_in (y.result_we == 0) z))))
    (and-true _ _ (when_out (has_flag y.result_we 0) _ (λ f. eq-eqb (low_half y.result_data) (low_half x.result_data) (s.low f)))
    (when_out (has_flag y.result_we 1) _ (λ f. eq-eqb (high_half y.result_data) (high_half x.result_data) (s.high f)))))

rule_R2 : (p : Past) (b : Bus) → (tests.keeps_R2 p b ≡ true) ↔ rules.HoldsR2 p b
rule_R2 p b = (
  λ h w. result_in p.last b (when_in (result_waits p.last) _ h w),
  λ k. when_out (result_waits p.last) _ (λ w. result_out p.last b (k w)),
)

finish_in : (f : Fact) → tests.may_finish f ≡ true → MayFinish f
finish_in f h =
    let x = both-true (is_accepted f.response) _ h in
    let y = both-true (is_released f.decision) _ x.1 in
    record { accepted = x.0; released = y.0; unfinished = not_in f.finished y.1 }

finish_out : (f : Fact) → MayFinish f → tests.may_finish f ≡ true
finish_out f m = and-true _ _ m.accepted (and-true _ _ m.released (not_out f.finished m.unfinished))

rule_R3 : (p : Past) (b : Bus) → (tests.keeps_R3 p b ≡ true) ↔ rules.HoldsR3 p b
rule_R3 p b = (
  λ h v. is_in tests.may_finish MayFinish (now p b (result_key b)) finish_in (when_in b.result_valid _ h v),
  λ k. when_out b.result_valid _ (λ v. is_out tests.may_finish MayFinish (now p b (result_key b)) finish_out (k v)),
)

rule_R4 : (p : Past) (b : Bus) → (tests.keeps_R4 p b ≡ true) ↔ rules.HoldsR4 p b
rule_R4 p b = (
  λ h v. if_in (λ f. when (not (rules.read_of f.response == 0)) (is_some f.operands)) (λ f. (rules.read_of f.response == 0) ≡ false → IsTrue (is_some f.operands)) (now p b (result_key b))
      (λ f k z. when_in (not (rules.read_of f.response == 0)) _ k (not_out (rules.read_of f.response == 0) z)) (when_in b.result_valid _ h v),
  λ k. when_out b.result_valid _ (λ v. if_out (λ f. when (not (rules.read_of f.response == 0)) (is_some f.operands)) (λ f. (rules.read_of f.response == 0) ≡ false → IsTrue (is_some f.operands)) (now p b (result_key b))
      (λ f g. when_out (not (rules.read_of f.response == 0)) _ (λ z. g (not_in (rules.read_of f.response == 0) z))) (k v)),
)

rule_R5 : (p : Past) (b : Bus) → (tests.keeps_R5 p b ≡ true) ↔ rules.HoldsR5 p b
rule_R5 p b = (
  λ h v. if_in (λ f. b.result_we == rules.writeback_of f.response) (λ f. b.result_we ≡ rules.writeback_of f.response) (now p b (result_key b)) (λ f k. eqb-true b.result_we (rules.writeback_of f.response) k) (when_in b.result_valid _ h v),
  λ k. when_out b.result_valid _ (λ v. if_out (λ f. b.result_we == rules.writeback_of f.response) (λ f. b.result_we ≡ rules.writeback_of f.response) (now p b (result_key b)) (λ f q. eq-eqb b.result_we (rules.writeback_of f.response) q) (k v)),
)

rule_R6 : (p : Past) (b : Bus) → (tests.keeps_R6 p b ≡ true) ↔ rules.HoldsR6 p b
rule_R6 p b = (
  λ h v z. if_in (λ f. b.result_rd == rd_field f.instr) (λ f. b.result_rd ≡ rd_field f.instr) (now p b (result_key b)) (λ f k. eqb-true b.result_rd (rd_field f.instr) k)
      (when_in (b.result_valid && not (b.result_we == 0)) _ h (and-true b.result_valid _ v (not_out (b.result_we == 0) z))),
  λ k. when_out (b.result_valid && not (b.result_we == 0)) _ (λ x.
      let y = both-true b.result_valid _ x in
      if_out (λ f. b.result_rd == rd_field f.instr) (λ f. b.result_rd ≡ rd_field f.instr) (now p b (result_key b)) (λ f q. eq-eqb b.result_rd (rd_field f.instr) q) (k y.0 (not_in (b.result_we == 0) y.1))),
)

-- ---- all of them

pub rule_test : (params : Params) (rule : Rule) (p : Past) (b : Bus) → IsInRange params → (keeps params rule p b ≡ true) ↔ Holds params rule p b
rule_test params K1 p b r = (λ h. tt, λ h. refl)
rule_test params K2 p b r = (λ h. tt, λ h. refl)
rule_test params H1 p b r = rule_H1 params b
rule_test params I1 p b r = rule_I1 p b
rule_test params I2 p b r = rule_I2 params p b
rule_test params I3 p b r = rule_I3 b
rule_test params I4 p b r = rule_I4 params b
rule_test params I5 p b r = rule_I5 params b r
rule_test params G1 p b r = rule_G1 params b
rule_test params G2 p b r = rule_G2 p b
rule_test params G3 p b r = rule_G3 p b
rule_test params G4 p b r = rule_G4 params p b r
rule_test params G5 p b r = rule_G5 p b
rule_test params C1 p b r = rule_C1 p b
rule_test params C2 p b r = rule_C2 p b
rule_test params C3 p b r = rule_C3 params p b
rule_test params R1 p b r = rule_R1 p b
rule_test params R2 p b r = rule_R2 p b
rule_test params R3 p b r = rule_R3 p b
rule_test params R4 p b r = rule_R4 p b
rule_test params R5 p b r = rule_R5 p b
rule_test params R6 p b r = rule_R6 p b
