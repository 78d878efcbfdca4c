-- What is sent on the register channel is what the word reads.
use Rattle.std.proofs.Common.{◌≡◌, ◌==◌, ◌&&◌, ◌++◌, ℕ, Bool, true, false, cond, not, List, [], ◌∷◌, map, Option, Some, None, refl, sym, ap, ◌∙◌, subst, arith}
use Rattle.std.specs.Prelude.{IfSome, slice_index, bit_and}
use Rattle.std.proofs.lemmas.Bool.{eq-eqb}
use Rattle.std.proofs.lemmas.Nat.{and_le_r}
use Rattle.xif_base.specs.Params.{IsInRange}
use Rattle.coproc_config.specs.declared.accept.Hit.{Hit}
use Rattle.coproc_config.specs.Set.{UnitTable}
use Rattle.inorder_machine.specs.Machine.{Extension, State}
use Rattle.xif_signals.specs.declared.bus.CpuOut.{CpuOut}
use Rattle.xif_session.specs.Facts.{is_killed}
use Rattle.xif_session.specs.Tests.{is_within}
use Rattle.cycle_spec.specs.declared.choices.Presented.{Presented}
use Rattle.cycle_spec.specs.declared.entry.Entry.{Entry}
use Rattle.cycle_spec.specs.declared.entry.Operand.TheVariants.{Here}
use Rattle.cycle_spec.specs.declared.use_of.Use.{Use}
use Rattle.cycle_spec.specs.Flight.{is_unknown_kind, is_unknown, value_or_zero, with_sent}
use Rattle.cycle_spec.specs.Turns.{turn_of, is_past}
use Rattle.cycle_spec.specs.State.{Core, Engine}
use Rattle.cycle_spec.specs.Choices.{half_of, flags_of, lane_of, presentation_of}
use Rattle.cycle_spec.specs.Core.{presented_lane}
use Rattle.cycle_spec.specs.Engine.{has_key, is_accepted, register_read_of, latest, may_answer, may_take, given_to, issue_ready, issue_start, offered_hit, register_ready, register_use, register_start}
use Rattle.cycle_lists.specs.Lists.{Each, Pairs}
use Rattle.cycle_lists.specs.Order.{Before}
use Rattle.cycle_lists.proofs.Tests.{and-left, and-right}
use Rattle.cycle_lists.proofs.Every.{Each-at}
use Rattle.cycle_lists.proofs.Places.{last-found}
use Rattle.std.proofs.lemmas.Bool.{eqb-true}
use Rattle.cycle_paired.specs.Paired.{is_live, IsEntry, Older}
use Rattle.cycle_paired.proofs.Cycling.{sent_entries, sent_uses}
use Rattle.ahead_spec.specs.Operands.{word_hit, halves_read, half_behind}
use Rattle.ahead_spec.specs.World.{World}
use Rattle.ahead_laws.proofs.Presenting.{presented}
use Rattle.cycle_events.specs.Becomes.{Becomes}
use Rattle.cycle_events.specs.Shown.{Tied, Left, Shows}
use Rattle.cycle_events.proofs.Moving.{stays, item-at}
use Rattle.cycle_events.proofs.Tying.{Tie}
use Rattle.cycle_events.proofs.Sent.{CarryRead, sent}
use Rattle.cycle_events.proofs.Wide.{AllWide, wide-at, half-wide}
use Rattle.cycle_events.proofs.Chosen.{older-of}

-- the words of coprocessors, with the parameters of a core
abbrev pub ext : Core → List UnitTable → Extension
ext w set = record { set = set; params = w.params }

-- ---- what the engine takes

within-zero : (flags : ℕ) → is_within 0 flags ≡ true
within-zero flags = eq-eqb (bit_and flags 0) 0 (omega (arith, and_le_r flags 0))

taken-within : (o : Option Use) (flags read : ℕ) → may_take o flags ≡ true → ((u : Use) → o ≡ Some u → register_read_of u.hit ≡ read) → is_within read flags ≡ true
taken-within None flags read h k = cc
taken-within (Some u) flags read h k =
    let r = and-right (is_accepted u) (not (is_killed u.decision) && is_within (register_read_of u.hit) flags) h in
    ap (λ n. is_within n flags) (sym (k u refl)) ∙ and-right (not (is_killed u.decision)) (is_within (register_read_of u.hit) flags) r

-- with split, the registers of a use that waits for them
pub within-split : (e : Engine) (cpu : CpuOut) (read : ℕ) → e.params.split ≡ true → register_ready e cpu ≡ true → ((u : Use) → register_use e cpu ≡ Some u → register_read_of u.hit ≡ read) → is_within read cpu.register_rs_valid ≡ true
within-split e cpu read s h k =
    let past = is_past e.script.register (turn_of e.register_turns (register_start e cpu)) in
    let take = may_take (register_use e cpu) cpu.register_rs_valid in
    let a : (cpu.register_valid && (past && take)) ≡ true = sym (ap (λ b. cond b (cpu.register_valid && (past && take)) (issue_ready e cpu)) s) ∙ h in
    taken-within (register_use e cpu) cpu.register_rs_valid read (and-right past take (and-right cpu.register_valid (past && take) a)) k

answer-within : (o : Option Hit) (flags : ℕ) → may_answer false o flags ≡ true → is_within (register_read_of o) flags ≡ true
answer-within None flags h = within-zero flags
answer-within (Some hit) flags h = h

-- without it, those of the word that is offered
pub within-unsplit : (e : Engine) (cpu : CpuOut) → e.params.split ≡ false → register_ready e cpu ≡ true → is_within (register_read_of (offered_hit e cpu)) cpu.register_rs_valid ≡ true
within-unsplit e cpu s h =
    let past = is_past e.script.issue (turn_of e.issue_turns (issue_start e cpu)) in
    let may = λ (b : Bool). may_answer b (offered_hit e cpu) cpu.register_rs_valid in
    let ready : issue_ready e cpu ≡ true = sym (ap (λ b. cond b (cpu.register_valid && (is_past e.script.register (turn_of e.register_turns (register_start e cpu)) && may_take (register_use e cpu) cpu.register_rs_valid)) (issue_ready e cpu)) s) ∙ h in
    let a = and-right past (may e.params.split) (and-right cpu.issue_valid (past && may e.params.split) ready) in
    answer-within (offered_hit e cpu) cpu.register_rs_valid (sym (ap may s) ∙ a)

-- the named use is that of a live word
pub named-hit : (x : Extension) (start : State) (hart : ℕ) (left : Left) (at : ℕ) (w : World) (es older : List Entry) (q : Entry) (younger : List Entry) (us : List Use) (u : Use) → es ≡ older ++ q ∷ younger → is_live q ≡ true
    → Shows x start hart left es us at w → latest (record { hart = hart; id = q.id }) us ≡ Some u → register_read_of u.hit ≡ halves_read x q.word
named-hit x start hart left at w es older q younger us u h l m e =
    let i = item-at w.flight older q younger (m.entries_are ∙ h) in
    let f = last-found (has_key (record { hart = hart; id = q.id })) us u e in
    let own = eqb-true u.key.hart hart (and-left (u.key.hart == hart) (u.key.id == q.id) f.passes) in
    let id = eqb-true u.key.id q.id (and-right (u.key.hart == hart) (u.key.id == q.id) f.passes) in
    let tied = Each-at (Tied x hart us) w.flight i.front i.item i.back i.here m.tied in
    let tie = Each-at (Tie x hart i.item) us f.older u f.younger f.here tied (ap is_live i.entry_is ∙ l) own (id ∙ ap (λ d. d.id) (sym i.entry_is)) in
    ap register_read_of (tie.hit_is ∙ ap (λ d. word_hit x d.word) i.entry_is)

-- ---- the lanes

pub lanes-carry : (w : Core) (set : List UnitTable) (older : List Entry) (q : Entry) (younger older1 : List Entry) (lanes : List ℕ) → IsInRange w.params → w.flight ≡ older ++ q ∷ younger → Pairs Before w.flight
    → AllWide true w.params.dual_write older older1 → lanes ≡ lane_of w q 0 ∷ lane_of w q 1 ∷ lane_of w q 2 ∷ [] → is_within (halves_read (ext w set) q.word) (flags_of w q) ≡ true → CarryRead (ext w set) w.registers older1 q.word lanes
lanes-carry w set older q younger older1 lanes range h b a l within = record {
  halves = λ lane half. value_or_zero (half_of w q lane half);
  lanes_are = l;
  read = λ lane half r.
      half-wide true w.params.dual_write w.registers older older1 q.word lane half (value_or_zero (half_of w q lane half)) a
      (subst (λ es. half_behind w.params.dual_write w.registers es q.word lane half ≡ Here (value_or_zero (half_of w q lane half))) (older-of w.flight older q younger h b) (presented w q (halves_read (ext w set) q.word) lane half range within r));
}

-- the entry whose registers are presented
pub record PlaceAt (es : List Entry) (q : Entry) : Type 0 where
  pub older : List Entry
  pub younger : List Entry
  pub here : es ≡ older ++ q ∷ younger
  pub unknown : is_unknown q ≡ true

abbrev pub Reaches : (w : Core) → List UnitTable → (given : Bool) → Option Presented → Type 0
Reaches w set b None = b ≡ true → ⊥
Reaches w set b (Some p) = b ≡ true → is_within (halves_read (ext w set) p.entry.word) (flags_of w p.entry) ≡ true

pub sending : (w : Core) (set : List UnitTable) (start : State) (hart : ℕ) (left : Left) (at : ℕ) (v : World) (b : Bool) (o : Option Presented) (lanes : List ℕ) (es : List Entry) (us : List Use)
    → IsInRange w.params → left.registers ≡ w.registers → Pairs Before w.flight → IfSome o (λ p. PlaceAt w.flight p.entry) → IfSome o (λ p. p ≡ presentation_of w p.entry) → lanes ≡ presented_lane 0 o ∷ presented_lane 1 o ∷ presented_lane 2 o ∷ []
    → Reaches w set b o → AllWide true w.params.dual_write w.flight es → Pairs Before es → Each IsEntry es → Pairs Older us
    → Shows (ext w set) start hart left es us at v → Becomes (ext w set) (Shows (ext w set) start hart left (sent_entries b o es) (sent_uses hart b o lanes us) at) v
sending w set start hart left at v t None lanes es us range regs b0 place shows l within a b ok older m = by t within
  where
    by : (t : Bool) → Reaches w set t None → Becomes (ext w set) (Shows (ext w set) start hart left (sent_entries t None es) (sent_uses hart t None lanes us) at) v
    by false k = stays (ext w set) (Shows (ext w set) start hart left es us at) v m
    by true k = absurd (k refl)
sending w set start hart left at v t (Some p) lanes es us range regs b0 place shows l within a b ok older m =
    let x = ext w set in
    let q = p.entry in
    let r = wide-at true w.params.dual_write place.older q place.younger es (subst (λ fs. AllWide true w.params.dual_write fs es) place.here a) in
    let z = r.entry in
    let lanes_are : lanes ≡ lane_of w q 0 ∷ lane_of w q 1 ∷ lane_of w q 2 ∷ [] = l ∙ ap (λ d. slice_index d.lanes 0 ∷ slice_index d.lanes 1 ∷ slice_index d.lanes 2 ∷ []) shows in
    let carry = λ (g : t ≡ true). subst (λ n. CarryRead x left.registers r.older n lanes) (sym r.wide.word) (subst (λ n. CarryRead x n r.older q.word lanes) (sym regs) (lanes-carry w set place.older q place.younger r.older lanes range place.here b0 r.olders lanes_are (within g))) in
    let done = sent x start hart left at v t lanes es r.older z r.younger us range r.here b ok (ap is_unknown_kind r.wide.kind ∙ place.unknown) older carry m in
    let one : Becomes x (Shows x start hart left (cond t (map (with_sent q.seq) es) es) (cond t (given_to (latest (record { hart = hart; id = z.id }) us) lanes us) us) at) v =
    subst (λ n. Becomes x (Shows x start hart left (cond t (map (with_sent n) es) es) (cond t (given_to (latest (record { hart = hart; id = z.id }) us) lanes us) us) at) v) r.wide.seq done in
    subst (λ n. Becomes x (Shows x start hart left (cond t (map (with_sent q.seq) es) es) (cond t (given_to (latest (record { hart = hart; id = n }) us) lanes us) us) at) v) r.wide.id one
