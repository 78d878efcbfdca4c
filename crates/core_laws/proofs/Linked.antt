-- Which starts had their issue handshake, after a cycle, is what the facts say.
use Rattle.std.proofs.Common.{◌≡◌, ◌==◌, ◌&&◌, not, ℕ, Bool, true, false, if◌then◌else◌, Option, Some, None, refl, sym, ap, ◌∙◌}
use Rattle.std.specs.Prelude.{is_some}
use Rattle.std.proofs.lemmas.Bool.{eqb-true, eqb-false}
use Rattle.xif_base.specs.declared.params.Key.{Key}
use Rattle.xif_signals.specs.declared.bus.Bus.{Bus}
use Rattle.xif_signals.specs.declared.bus.CpuOut.{CpuOut}
use Rattle.xif_signals.specs.declared.bus.CopOut.{CopOut}
use Rattle.xif_signals.specs.declared.bus.CpuIn.{CpuIn}
use Rattle.xif_signals.specs.Bus.{join_of}
use Rattle.xif_session.specs.declared.fact.Response.{Response}
use Rattle.xif_session.specs.declared.fact.Fact.{Fact}
use Rattle.xif_session.specs.Facts.{Past, past_after, same_key, issue_key, is_issued, is_start, issue_continues, starts_key, named, answered_on, with_response, response_on}
use Rattle.xif_session.proofs.Options.{was_of, same_some, key_is, key_same}
use Rattle.cycle_spec.specs.State.{Engine}
use Rattle.cycle_spec.specs.Engine.{issue_start}
use Rattle.cycle_lists.proofs.Tests.{false-or}
use Rattle.cycle_paired.proofs.Answering.{mark}
use Rattle.trace_laws.proofs.Apart.{Apart, named-apart}
use Rattle.trace_laws.proofs.EngineTold.{Orderly, EngineTold}
use Rattle.trace_laws.proofs.EngineSteps.{named_other, Offered}
use Rattle.trace_laws.proofs.EngineCycle.{seen, seen_some, seen_after}
use Rattle.trace_laws.proofs.CoreRules.{Linked}
use Rattle.core_laws.proofs.Told as told
use Rattle.core_laws.proofs.Told.{quiet}

-- with those of a cycle
abbrev pub marked_by : Engine → CpuOut → CopOut → (ℕ → Bool) → ℕ → Bool
marked_by e cpu cop answered start =
    if cpu.issue_valid then mark (issue_start e cpu) (cpu.issue_valid && cop.issue_ready) answered start else answered start

module _ (e : Engine) (p : Past) (cpu : CpuOut) (cop : CopOut) (input : CpuIn) (t : EngineTold e e.params.num_harts (quiet p)) (k : Orderly e.params p (join_of cpu cop input)) (answered : ℕ → Bool) (l : Linked answered p.facts) where
  abbrev bus : Bus
  bus = join_of cpu cop input

  apart : Apart p.cycle p.facts
  apart = record { below = t.apart.below; unique = t.apart.unique }

  record Before_answer (key : Key) (f : Fact) : Type 0 where
    fact : Fact
    there : named p bus key ≡ Some fact
    start_is : fact.start ≡ f.start
    response_is : (if is_issued bus && same_key (issue_key bus) key then Some (response_on bus) else fact.response) ≡ f.response

  before_answer : (key : Key) (f : Fact) → (past_after p bus).facts key ≡ Some f → Before_answer key f
  before_answer key f q =
      let x = seen_some (answered_on bus (named p bus) key) f.start f.instr f.response (sym (seen_after p bus key) ∙ ap seen q) in
      let w = was_of (with_response (is_issued bus && same_key (issue_key bus) key) (response_on bus)) (named p bus key) x.fact x.there in
      record { fact = w.was; there = w.there; start_is = ap (λ y. y.start) w.becomes ∙ x.start_is; response_is = ap (λ y. y.response) w.becomes ∙ x.response_is }

  -- of another use than the one that is offered
  older : (key : Key) (f : Fact) (b : Before_answer key f) → (is_issued bus && same_key (issue_key bus) key) ≡ false → starts_key p bus key ≡ false → answered f.start ≡ is_some f.response
  older key f b test start =
      ap answered (sym b.start_is) ∙ l key b.fact (sym (named_other p bus key start) ∙ b.there)
      ∙ ap is_some (ap (λ x. if x then Some (response_on bus) else b.fact.response) (sym test) ∙ b.response_is)

  newest : (key : Key) (f : Fact) (b : Before_answer key f) → Offered (named p bus) (issue_key bus) (issue_start e cpu) cpu.issue_instr → (b.fact.start == issue_start e cpu) ≡ true → is_issued bus ≡ is_some f.response
  newest key f b o s =
      let same : issue_key bus ≡ key = (named-apart p bus apart).unique (issue_key bus) key o.fact b.fact o.there b.there (o.start_is ∙ sym (eqb-true b.fact.start (issue_start e cpu) s)) in
      let fact : o.fact ≡ b.fact = same_some (named p bus key) o.fact b.fact (ap (named p bus) (sym same) ∙ o.there) b.there in
      by (is_issued bus) (same_key (issue_key bus) key) b.fact.response (key_same (issue_key bus) key same) (sym (ap (λ x. x.response) fact) ∙ o.response) ∙ ap is_some b.response_is
    where
      by : (i x : Bool) (r : Option Response) → x ≡ true → r ≡ None → i ≡ is_some (if i && x then Some (response_on bus) else r)
      by true true r h n = refl
      by true false r h n = cc
      by false x r h n = sym (ap is_some n)

  and_no : (x y : Bool) → y ≡ false → (x && y) ≡ false
  and_no true y h = h
  and_no false y h = refl

  linked_by : (key : Key) (f : Fact) → Before_answer key f → marked_by e cpu cop answered f.start ≡ is_some f.response
  linked_by key f b = go cpu.issue_valid refl
    where
      other : (o : Offered (named p bus) (issue_key bus) (issue_start e cpu) cpu.issue_instr) → (b.fact.start == issue_start e cpu) ≡ false → same_key (issue_key bus) key ≡ false
      other o s = false-or (same_key (issue_key bus) key) (λ h.
          let fact : o.fact ≡ b.fact = same_some (named p bus key) o.fact b.fact (ap (named p bus) (sym (key_is (issue_key bus) key h)) ∙ o.there) b.there in
          eqb-false b.fact.start (issue_start e cpu) s (sym (ap (λ x. x.start) fact) ∙ o.start_is))

      by_start : (v : cpu.issue_valid ≡ true) (s : Bool) → (b.fact.start == issue_start e cpu) ≡ s → mark (issue_start e cpu) (cpu.issue_valid && cop.issue_ready) answered f.start ≡ is_some f.response
      by_start v true s =
          ap (λ x. if x then cpu.issue_valid && cop.issue_ready else answered f.start) (ap (λ n. n == issue_start e cpu) (sym b.start_is) ∙ s)
          ∙ newest key f b (told.offered e p cpu cop input t k v) s
      by_start v false s =
          let no = other (told.offered e p cpu cop input t k v) s in
          ap (λ x. if x then cpu.issue_valid && cop.issue_ready else answered f.start) (ap (λ n. n == issue_start e cpu) (sym b.start_is) ∙ s)
          ∙ older key f b (and_no (is_issued bus) (same_key (issue_key bus) key) no) (and_no (is_start p bus) (same_key (issue_key bus) key) no)

      go : (v : Bool) → cpu.issue_valid ≡ v → (if v then mark (issue_start e cpu) (cpu.issue_valid && cop.issue_ready) answered f.start else answered f.start) ≡ is_some f.response
      go true v = by_start v (b.fact.start == issue_start e cpu) refl
      go false v =
          older key f b (ap (λ x. (x && cop.issue_ready) && same_key (issue_key bus) key) v) (ap (λ x. (x && not (issue_continues p bus)) && same_key (issue_key bus) key) v)

  pub linked_after : (after : ℕ → Bool) → ((start : ℕ) → after start ≡ marked_by e cpu cop answered start) → Linked after (past_after p bus).facts
  linked_after after m key f q = m f.start ∙ linked_by key f (before_answer key f q)
