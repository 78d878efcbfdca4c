-- While a register transaction waits, what it shows stays.
use Rattle.std.proofs.Common.{◌≡◌, ◌<◌, ◌+◌, ◌++◌, ◌*◌, ◌^◌, ℕ, zero, suc, Bool, true, false, Option, Some, None, List, ◌∷◌, length, slice_index, refl, sym, ap, ◌∙◌, subst, arith}
use Rattle.std.specs.Prelude.{IfSome}
use Rattle.std.specs.Option.{option_map_or}
use Rattle.xif_base.specs.Params.{IsInRange}
use Rattle.xif_base.specs.Flags.{odd_bit, even_bit}
use Rattle.inorder_machine.specs.declared.units.Half.{Half}
use Rattle.inorder_machine.specs.declared.units.Half.TheVariants.{Low, High}
use Rattle.xif_signals.specs.declared.bus.Bus.{Bus}
use Rattle.xif_signals.specs.Known.{has_flag}
use Rattle.xif_session.specs.Facts.{Past, same_key, register_key, register_waits, register_continues}
use Rattle.xif_session.specs.Rules.{IsWithin, HoldsG3, HoldsG4, lane_value, low_half, high_half}
use Rattle.xif_session.proofs.Options.{both-true, key_is}
use Rattle.cycle_spec.specs.declared.choices.Choices.{Choices}
use Rattle.cycle_spec.specs.declared.choices.Presented.{Presented}
use Rattle.cycle_spec.specs.declared.entry.Entry.{Entry}
use Rattle.cycle_spec.specs.declared.entry.Operand.{Operand}
use Rattle.cycle_spec.specs.declared.entry.Operand.TheVariants.{Here, NotYet}
use Rattle.cycle_spec.specs.Flight.{is_unknown, is_open, is_here, value_or_zero}
use Rattle.cycle_spec.specs.State.{Core}
use Rattle.cycle_spec.specs.Choices.{choices, half_of, flags_of, lane_of, presentation_of}
use Rattle.cycle_spec.specs.Core.{presented_id, presented_flags, presented_lane}
use Rattle.cycle_spec.specs.Cycle.{Machines, bus_at}
use Rattle.cycle_lists.specs.Lists.{Each, FirstAt}
use Rattle.cycle_lists.proofs.Every.{Each-at}
use Rattle.cycle_paired.specs.Paired.{IsEntry, Paired}
use Rattle.cycle_paired.proofs.Facts.{open-unknown, waiting-accepted, accepted-some}
use Rattle.cycle_paired.proofs.Choosing.{Presents}
use Rattle.ahead_laws.proofs.Presenting.{set-here, flags_of_halves}
use Rattle.trace_laws.proofs.CoreChosen.{Chosen}
use Rattle.trace_laws.proofs.CoreRules.{some_case}
use Rattle.trace_laws.proofs.Flags.{flags-within, low-of, high-of}
use Rattle.trace_laws.proofs.Paths.{Fit}
use Rattle.trace_laws.proofs.Presents.{presented-is}
use Rattle.trace_laws.proofs.SmallCore.{SmallCore, half-small}

-- each half that was there for one entry is there for another, with the same value
abbrev pub Grows : Core → Entry → Core → Entry → Type 0
Grows before entry w x = (lane : ℕ) (half : Half) (v : ℕ) → half_of before entry lane half ≡ Here v → half_of w x lane half ≡ Here v

-- what the register channel showed
pub record Shown (w : Core) (last : Bus) : Type 0 where
  pub before : Core
  pub entry : Entry
  pub params_are : before.params ≡ w.params
  pub flags : last.register_rs_valid ≡ flags_of before entry
  pub lanes : (lane : ℕ) → lane < 3 → lane_value last lane ≡ lane_of before entry lane
  pub small : (lane : ℕ) (half : Half) → value_or_zero (half_of before entry lane half) < 2 ^ 32
  pub stays : Each (λ x. is_unknown x ≡ true → x.id ≡ last.register_id → Grows before entry w x) w.flight

pub record Operands (w : Core) (p : Past) : Type 0 where
  pub fit : Each (Fit w.params.dual_write) w.flight
  pub count : length w.registers ≡ 32
  pub shown : register_waits p.last ≡ true → Shown w p.last

-- ---- the rules

here-some : (o : Operand) (P : Type 0) → is_here o ≡ true → ((v : ℕ) → o ≡ Here v → P) → P
here-some (Here v) P h k = k v refl
here-some NotYet P h k = cc

grown-here : (before : Core) (entry : Entry) (w : Core) (x : Entry) → Grows before entry w x → (lane : ℕ) (half : Half) → is_here (half_of before entry lane half) ≡ true → is_here (half_of w x lane half) ≡ true
grown-here before entry w x g lane half h = here-some (half_of before entry lane half) (is_here (half_of w x lane half) ≡ true) h (λ v q. ap is_here (g lane half v q))

-- the entry that is presented
pub record PresentedAt (w : Core) (x : Presented) : Type 0 where
  pub older : List Entry
  pub younger : List Entry
  pub here : w.flight ≡ older ++ x.entry ∷ younger
  pub unknown : is_unknown x.entry ≡ true
  pub is_it : x ≡ presentation_of w x.entry

module _ (hart : ℕ) (m : Machines) (p : Past) (k : Paired hart m) (c : Chosen m.core.params.split m.core.flight (choices m.core)) where
  abbrev bus : Bus
  bus = bus_at m hart

  abbrev ch : Choices
  ch = choices m.core

  pub presented_at : (x : Presented) → ch.present ≡ Some x → PresentedAt m.core x
  presented_at x h = go m.core.params.split (subst (Presents m.core.params.split m.core.flight ch.offer) h c.present)
    where
      by_offer : (o : Option Entry) → IfSome o (FirstAt is_open m.core.flight) → Presents false m.core.flight o (Some x) → PresentedAt m.core x
      by_offer None f q = absurd q
      by_offer (Some e) f q =
          record { older = f.older; younger = f.younger; here = f.here ∙ ap (λ y. f.older ++ y ∷ f.younger) (sym q); unknown = ap is_unknown q ∙ open-unknown e f.passes; is_it = presented-is m.core x h }

      go : (s : Bool) → Presents s m.core.flight ch.offer (Some x) → PresentedAt m.core x
      go true f =
          let ok = Each-at IsEntry m.core.flight f.older x.entry f.younger f.here k.entries in
          record { older = f.older; younger = f.younger; here = f.here; unknown = ok.answered (accepted-some x.entry.response (waiting-accepted x.entry f.passes)); is_it = presented-is m.core x h }
      go false q = by_offer ch.offer c.offer q

  -- what is shown of it
  pub shown-flags : (x : Presented) → ch.present ≡ Some x → bus.register_rs_valid ≡ flags_of m.core x.entry
  shown-flags x h = ap presented_flags h ∙ ap (λ y. y.rs_valid) (presented_at x h).is_it

  pub shown-lanes : (x : Presented) → ch.present ≡ Some x → (lane : ℕ) → lane < 3 → lane_value bus lane ≡ lane_of m.core x.entry lane
  shown-lanes x h lane l = go lane l
    where
      at : (n : ℕ) → presented_lane n ch.present ≡ slice_index (presentation_of m.core x.entry).lanes n
      at n = ap (presented_lane n) h ∙ ap (λ y. slice_index y.lanes n) (presented_at x h).is_it

      go : (lane : ℕ) → lane < 3 → lane_value bus lane ≡ lane_of m.core x.entry lane
      go zero l = at 0
      go (suc zero) l = at 1
      go (suc (suc zero)) l = at 2
      go (suc (suc (suc n))) l = absurd (omega arith)

  -- the transaction that goes on is for an entry that shows at least what was shown
  record Continued (s : Shown m.core p.last) : Type 0 where
    pub one : Presented
    pub there : ch.present ≡ Some one
    pub grows : Grows s.before s.entry m.core one.entry

  continued : (s : Shown m.core p.last) → register_continues p bus ≡ true → Continued s
  continued s h =
      let h1 = (both-true (register_waits p.last) _ h).1 in
      let h2 = both-true bus.register_valid _ h1 in
      let key = key_is (register_key p.last) (register_key bus) (both-true (same_key (register_key p.last) (register_key bus)) _ h2.1).0 in
      some_case ch.present (Continued s) h2.0 (λ x q.
      let at = presented_at x q in
      let id : x.entry.id ≡ p.last.register_id = sym (ap presented_id q) ∙ ap (λ y. y.id) (sym key) in
      record { one = x; there = q; grows = Each-at (λ x. is_unknown x ≡ true → x.id ≡ p.last.register_id → Grows s.before s.entry m.core x) m.core.flight at.older x.entry at.younger at.here s.stays at.unknown id })

  pub keeps_g3 : Operands m.core p → HoldsG3 p bus
  keeps_g3 o h =
      let s = o.shown (both-true (register_waits p.last) _ h).0 in
      let x = continued s h in
      subst (λ f. IsWithin f bus.register_rs_valid) (sym s.flags)
      (subst (IsWithin (flags_of s.before s.entry)) (sym (shown-flags x.one x.there))
      (subst (λ q. IsWithin (flags_of s.before s.entry) (flags_of_halves q (λ n h. is_here (half_of m.core x.one.entry n h)))) s.params_are
      (flags-within s.before.params (λ n h. is_here (half_of s.before s.entry n h)) (λ n h. is_here (half_of m.core x.one.entry n h)) (grown-here s.before s.entry m.core x.one.entry x.grows))))

  keeps_low : IsInRange m.core.params → Operands m.core p → register_continues p bus ≡ true → (lane : ℕ) → lane < m.core.params.num_rs → has_flag p.last.register_rs_valid (even_bit m.core.params lane) ≡ true → low_half (lane_value bus lane) ≡ low_half (lane_value p.last lane)
  keeps_low range o h lane l f =
      let s = o.shown (both-true (register_waits p.last) _ h).0 in
      let x = continued s h in
      let small : lane < 3 = omega (arith, l, range.num_rs) in
      let set : has_flag (flags_of s.before s.entry) (even_bit s.before.params lane) ≡ true = ap (λ n. has_flag n (even_bit s.before.params lane)) (sym s.flags) ∙ ap (λ q. has_flag p.last.register_rs_valid (even_bit q lane)) s.params_are ∙ f in
      let here = set-here s.before.params (λ n h. is_here (half_of s.before s.entry n h)) (subst IsInRange (sym s.params_are) range) lane Low small set in
      here-some (half_of s.before s.entry lane Low) (low_half (lane_value bus lane) ≡ low_half (lane_value p.last lane)) here (λ v q.
      ap low_half (shown-lanes x.one x.there lane small) ∙ ap (λ y. low_half (value_or_zero y + 2 ^ 32 * value_or_zero (half_of m.core x.one.entry lane High))) (x.grows lane Low v q)
      ∙ low-of v (value_or_zero (half_of m.core x.one.entry lane High)) (value_or_zero (half_of s.before s.entry lane High))
      ∙ ap (λ y. low_half (value_or_zero y + 2 ^ 32 * value_or_zero (half_of s.before s.entry lane High))) (sym q) ∙ ap low_half (sym (s.lanes lane small)))

  keeps_high : IsInRange m.core.params → SmallCore m.core → Operands m.core p → register_continues p bus ≡ true → (lane bit : ℕ) → lane < m.core.params.num_rs → odd_bit m.core.params lane ≡ Some bit → has_flag p.last.register_rs_valid bit ≡ true
      → high_half (lane_value bus lane) ≡ high_half (lane_value p.last lane)
  keeps_high range words o h lane bit l b f =
      let s = o.shown (both-true (register_waits p.last) _ h).0 in
      let x = continued s h in
      let small : lane < 3 = omega (arith, l, range.num_rs) in
      let flags = flags_of s.before s.entry in
      let set : option_map_or (has_flag flags) (odd_bit s.before.params lane) false ≡ true =
      ap (λ q. option_map_or (has_flag flags) (odd_bit q lane) false) s.params_are ∙ ap (λ z. option_map_or (has_flag flags) z false) b ∙ ap (λ n. has_flag n bit) (sym s.flags) ∙ f in
      let here = set-here s.before.params (λ n h. is_here (half_of s.before s.entry n h)) (subst IsInRange (sym s.params_are) range) lane High small set in
      here-some (half_of s.before s.entry lane High) (high_half (lane_value bus lane) ≡ high_half (lane_value p.last lane)) here (λ v q.
      ap high_half (shown-lanes x.one x.there lane small)
      ∙ high-of (value_or_zero (half_of m.core x.one.entry lane Low)) (value_or_zero (half_of m.core x.one.entry lane High)) (half-small m.core x.one.entry words lane Low)
      ∙ ap value_or_zero (x.grows lane High v q) ∙ ap value_or_zero (sym q)
      ∙ sym (high-of (value_or_zero (half_of s.before s.entry lane Low)) (value_or_zero (half_of s.before s.entry lane High)) (s.small lane Low))
      ∙ ap high_half (sym (s.lanes lane small)))

  pub keeps_g4 : IsInRange m.core.params → SmallCore m.core → Operands m.core p → HoldsG4 m.core.params p bus
  keeps_g4 range words o h lane l = record {
    low = keeps_low range o h lane l;
    high = λ bit b f. keeps_high range words o h lane bit l b f;
  }
