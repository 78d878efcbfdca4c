-- The steps of a cycle up to the commit leave the uses of every hart that no channel names.
use Rattle.std.proofs.Common.{if◌then◌else◌, ◌≡◌, ◌≢◌, ◌<◌, ◌++◌, ◌==◌, ◌&&◌, ◌||◌, not, ℕ, Bool, true, false, Option, Some, None, List, [], ◌∷◌, map, filter, refl, sym, ap, ◌∙◌, subst, arith, append-nil}
use Rattle.std.specs.Option.{option_map_or}
use Rattle.std.proofs.lemmas.Bool.{eqb-true, ne_eqb}
use Rattle.coproc_config.specs.declared.accept.Hit.{Hit}
use Rattle.xif_signals.specs.declared.bus.CpuOut.{CpuOut}
use Rattle.xif_signals.specs.declared.bus.CopOut.{CopOut}
use Rattle.xif_session.specs.Facts.{is_undecided, is_covered, decision_after}
use Rattle.cycle_spec.specs.declared.use_of.Use.{Use}
use Rattle.cycle_spec.specs.State.{Engine}
use Rattle.cycle_spec.specs.Engine.{has_key, issue_key, register_key, commit_key, latest, new_use, start_step, starts, started_uses, issue_start, offered_hit, with_answer, with_operands, given_to, given_step, lanes_on, with_decision, decided_by, decide_step, answered_uses, given_uses, decided_uses}
use Rattle.cycle_lists.specs.Lists.{Each, Pairs}
use Rattle.cycle_lists.proofs.Tests.{and-left, or-false, false-or}
use Rattle.cycle_lists.proofs.Every.{each, Each-from, Each-filter, Each-passed, Each-unfilter}
use Rattle.cycle_lists.proofs.Filters.{filter-append, filter-gone, filter-all, filter-swap}
use Rattle.cycle_lists.proofs.Places.{last-found}
use Rattle.cycle_paired.specs.Paired.{Older}
use Rattle.hart_laws.specs.Harts.{is_of}
use Rattle.hart_laws.proofs.Lists.{of-map, other-starts}
use Rattle.hart_laws.proofs.Steady.{Steady, grew-started, grew-answered}

-- no channel of the core names the hart
pub record Spares (hart : ℕ) (cpu : CpuOut) : Type 0 where
  pub issue : cpu.issue_valid ≡ true → cpu.issue_hartid ≢ hart
  pub register : cpu.register_valid ≡ true → cpu.register_hartid ≢ hart
  pub commit : cpu.commit_valid ≡ true → cpu.commit_hartid ≢ hart

-- the use that a key names is of the hart of the key
named-hart : (hart key_hart id : ℕ) (us : List Use) (u : Use) → key_hart ≢ hart → latest (record { hart = key_hart; id = id }) us ≡ Some u → u.key.hart ≢ hart
named-hart hart key_hart id us u n e q =
    let l = last-found (has_key (record { hart = key_hart; id = id })) us u e in
    n (sym (eqb-true u.key.hart key_hart (and-left (u.key.hart == key_hart) (u.key.id == id) l.passes)) ∙ q)

-- and no use of another hart starts with it
named-start : (hart key_hart id : ℕ) (us : List Use) (u : Use) → Pairs Older us → key_hart ≢ hart → latest (record { hart = key_hart; id = id }) us ≡ Some u → Each (λ v. is_of hart v ≡ true → (v.start == u.start) ≡ false) us
named-start hart key_hart id us u o n e =
    let l = last-found (has_key (record { hart = key_hart; id = id })) us u e in
    other-starts hart us l.older u l.younger o l.here (named-hart hart key_hart id us u n e)

-- ---- the start of a use

of-started : (hart : ℕ) (s : Bool) (cpu : CpuOut) (cycle : ℕ) (us : List Use) → (s ≡ true → cpu.issue_hartid ≢ hart) → filter (is_of hart) (start_step s cpu cycle us) ≡ filter (is_of hart) us
of-started hart false cpu cycle us n = refl
of-started hart true cpu cycle us n =
    filter-append (is_of hart) (filter others us) (new ∷ [])
    ∙ ap (λ xs. filter (is_of hart) (filter others us) ++ xs) (filter-gone (is_of hart) new [] (ne_eqb cpu.issue_hartid hart (n refl)))
    ∙ append-nil (filter (is_of hart) (filter others us))
    ∙ filter-swap (is_of hart) others us
    ∙ filter-all others (filter (is_of hart) us) (Each-from (λ u. is_of hart u ≡ true) (λ u. others u ≡ true) (filter (is_of hart) us) (λ u p. ap not (apart u p)) (Each-passed (is_of hart) us))
  where
    new : Use
    new = new_use (issue_key cpu) cycle cpu.issue_instr

    others : Use → Bool
    others = λ other. not (has_key (issue_key cpu) other)

    apart : (u : Use) → is_of hart u ≡ true → has_key (issue_key cpu) u ≡ false
    apart u p = false-or (has_key (issue_key cpu) u)
        (λ t. n refl (sym (eqb-true u.key.hart cpu.issue_hartid (and-left (u.key.hart == cpu.issue_hartid) (u.key.id == cpu.issue_id) t)) ∙ eqb-true u.key.hart hart p))

-- ---- the answer

answer-same : (start : ℕ) (hit : Option Hit) (order : ℕ) (u : Use) → (u.start == start) ≡ false → with_answer start hit order u ≡ u
answer-same start hit order u e = ap {B = Use} (λ t. record u { hit = if t then hit else u.hit; order = if t then order else u.order }) e

of-answered : (hart : ℕ) (e : Engine) (cpu : CpuOut) (cop : CopOut) → Steady e → Spares hart cpu → filter (is_of hart) (answered_uses e cpu cop) ≡ filter (is_of hart) e.uses
of-answered hart e cpu cop k s = go cpu.issue_valid cop.issue_ready refl
  where
    started : List Use
    started = started_uses e cpu

    same : filter (is_of hart) started ≡ filter (is_of hart) e.uses
    same = of-started hart (starts e cpu) cpu e.cycle e.uses (λ t. s.issue (and-left cpu.issue_valid _ t))

    -- those of the hart started before this cycle
    earlier : Each (λ v. is_of hart v ≡ true → (v.start == e.cycle) ≡ false) started
    earlier = Each-from (λ v. is_of hart v ≡ true → v.start < e.cycle) (λ v. is_of hart v ≡ true → (v.start == e.cycle) ≡ false) started
        (λ v h p. let l = h p in ne_eqb v.start e.cycle (λ q. omega (arith, l, q)))
        (Each-unfilter (λ v. v.start < e.cycle) (is_of hart) started (subst (Each (λ v. v.start < e.cycle)) (sym same) (Each-filter (λ v. v.start < e.cycle) (is_of hart) e.uses k.below)))

    by : (o : Option Use) → latest (issue_key cpu) started ≡ o → cpu.issue_valid ≡ true → Each (λ v. is_of hart v ≡ true → (v.start == issue_start e cpu) ≡ false) started
    by None q v = subst (λ n. Each (λ v. is_of hart v ≡ true → (v.start == n) ≡ false) started) (sym (ap (λ o. option_map_or (λ (u : Use). u.start) o e.cycle) q)) earlier
    by (Some u) q v = subst (λ n. Each (λ v. is_of hart v ≡ true → (v.start == n) ≡ false) started) (sym (ap (λ o. option_map_or (λ (u : Use). u.start) o e.cycle) q))
        (named-start hart cpu.issue_hartid cpu.issue_id started u (grew-started e cpu k).older (s.issue v) q)

    go : (v r : Bool) → cpu.issue_valid ≡ v → filter (is_of hart) (if v && r then map (with_answer (issue_start e cpu) (offered_hit e cpu) e.accepted) started else started) ≡ filter (is_of hart) e.uses
    go true true q =
        of-map hart (with_answer (issue_start e cpu) (offered_hit e cpu) e.accepted) started (λ u. refl)
        (Each-from (λ v. is_of hart v ≡ true → (v.start == issue_start e cpu) ≡ false) (λ v. is_of hart v ≡ true → with_answer (issue_start e cpu) (offered_hit e cpu) e.accepted v ≡ v) started
        (λ v h p. answer-same (issue_start e cpu) (offered_hit e cpu) e.accepted v (h p)) (by (latest (issue_key cpu) started) refl q))
        ∙ same
    go true false q = same
    go false r q = same

-- ---- the registers

operands-same : (start : ℕ) (lanes : List ℕ) (u : Use) → (u.start == start) ≡ false → with_operands start lanes u ≡ u
operands-same start lanes u e =
    ap {B = Use} (λ t. record u { given = u.given || t; lanes = if t then lanes else u.lanes }) e
    ∙ ap {B = Use} (λ g. record u { given = g }) (or-false u.given)

of-given : (hart : ℕ) (cpu : CpuOut) (cop : CopOut) (us : List Use) → Pairs Older us → Spares hart cpu → filter (is_of hart) (given_step cpu cop us) ≡ filter (is_of hart) us
of-given hart cpu cop us o s = go cpu.register_valid cop.register_ready refl (latest (register_key cpu) us) refl
  where
    go : (v r : Bool) → cpu.register_valid ≡ v → (found : Option Use) → latest (register_key cpu) us ≡ found → filter (is_of hart) (if v && r then given_to found (lanes_on cpu) us else us) ≡ filter (is_of hart) us
    go true true q None f = refl
    go true true q (Some u) f =
        of-map hart (with_operands u.start (lanes_on cpu)) us (λ x. refl)
        (Each-from (λ v. is_of hart v ≡ true → (v.start == u.start) ≡ false) (λ v. is_of hart v ≡ true → with_operands u.start (lanes_on cpu) v ≡ v) us
        (λ v h p. operands-same u.start (lanes_on cpu) v (h p)) (named-start hart cpu.register_hartid cpu.register_id us u o (s.register q) f))
    go true false q found f = refl
    go false r q found f = refl

-- ---- the commit

decision-same : (hart : ℕ) (kill : Bool) (named u : Use) → named.key.hart ≢ hart → is_of hart u ≡ true → with_decision kill named u ≡ u
decision-same hart kill named u n p =
    ap {B = Use} (λ t. record u { decision = decision_after (t && is_covered kill named.start u.start) kill u.decision })
    (ne_eqb u.key.hart named.key.hart (λ q. n (sym q ∙ eqb-true u.key.hart hart p)))

of-decided : (hart : ℕ) (cpu : CpuOut) (us : List Use) → Spares hart cpu → filter (is_of hart) (decide_step cpu us) ≡ filter (is_of hart) us
of-decided hart cpu us s = go cpu.commit_valid refl (latest (commit_key cpu) us) refl
  where
    by : (u : Use) (t : Bool) → u.key.hart ≢ hart → filter (is_of hart) (if t then map (with_decision cpu.commit_kill u) us else us) ≡ filter (is_of hart) us
    by u true n = of-map hart (with_decision cpu.commit_kill u) us (λ x. refl)
        (each (λ v. is_of hart v ≡ true → with_decision cpu.commit_kill u v ≡ v) us (λ v p. decision-same hart cpu.commit_kill u v n p))
    by u false n = refl

    go : (v : Bool) → cpu.commit_valid ≡ v → (found : Option Use) → latest (commit_key cpu) us ≡ found → filter (is_of hart) (if v then decided_by cpu.commit_kill found us else us) ≡ filter (is_of hart) us
    go true q None f = refl
    go true q (Some u) f = by u (is_undecided u.decision) (named-hart hart cpu.commit_hartid cpu.commit_id us u (s.commit q) f)
    go false q found f = refl

-- ---- up to the commit

pub of-steps : (hart : ℕ) (e : Engine) (cpu : CpuOut) (cop : CopOut) → Steady e → Spares hart cpu → filter (is_of hart) (decided_uses e cpu cop) ≡ filter (is_of hart) e.uses
of-steps hart e cpu cop k s =
    of-decided hart cpu (given_uses e cpu cop) s
    ∙ of-given hart cpu cop (answered_uses e cpu cop) (grew-answered e cpu cop k).older s
    ∙ of-answered hart e cpu cop k s
