-- Of every session: uses start before the cycle, and no two of them in one cycle.
use Rattle.std.proofs.Common.{◌≡◌, ◌<◌, ◌+◌, ◌==◌, ◌&&◌, ℕ, Bool, true, false, if◌then◌else◌, Option, Some, None, List, [], ◌∷◌, refl, sym, ap, ◌∙◌, subst, arith}
use Rattle.std.specs.Option.{option_map}
use Rattle.xif_base.specs.declared.params.Key.{Key}
use Rattle.xif_signals.specs.declared.bus.Bus.{Bus}
use Rattle.xif_session.specs.declared.fact.Fact.{Fact}
use Rattle.xif_session.specs.Facts.{Facts, Past, past_of, is_start, starts_key, issue_key, register_key, result_key, same_key, is_issued, is_given, is_taken, new_fact, named, answered_on, given_on, decided_on, ended_on, effective_start, with_response, with_operands, with_decision, with_end, response_on}
use Rattle.xif_session.proofs.Options.{was_of, same_some, both-true, key_is}

-- starts lie before a cycle, and differ
pub record Apart (n : ℕ) (facts : Facts) : Type 0 where
  pub below : (k : Key) (f : Fact) → facts k ≡ Some f → f.start < n
  pub unique : (k j : Key) (f g : Fact) → facts k ≡ Some f → facts j ≡ Some g → f.start ≡ g.start → k ≡ j

-- a change of each use that leaves its start
mapped : (n : ℕ) (facts : Facts) (g : Key → Fact → Fact) → ((k : Key) (f : Fact) → (g k f).start ≡ f.start) → Apart n facts → Apart n (λ k. option_map (g k) (facts k))
mapped n facts g same a = record {
  below = λ k f e.
      let w = was_of (g k) (facts k) f e in
      subst (λ m. m < n) (sym (same k w.was) ∙ ap (λ x. x.start) w.becomes) (a.below k w.was w.there);
  unique = λ k j f h e d q.
      let w = was_of (g k) (facts k) f e in
      let v = was_of (g j) (facts j) h d in
      a.unique k j w.was v.was w.there v.there (sym (same k w.was) ∙ ap (λ x. x.start) w.becomes ∙ q ∙ sym (ap (λ x. x.start) v.becomes) ∙ same j v.was);
}

pub named-apart : (p : Past) (b : Bus) → Apart p.cycle p.facts → Apart (p.cycle + 1) (named p b)
named-apart p b a = record {
  below = λ k f e. low (starts_key p b k) (p.facts k) f e (λ h. a.below k f h);
  unique = λ k j f g e d q. two k j (starts_key p b k) (starts_key p b j) refl refl f g e d q;
}
  where
    new : Fact
    new = new_fact p.cycle b.issue_instr

    low : (t : Bool) (o : Option Fact) (f : Fact) → (if t then Some new else o) ≡ Some f → (o ≡ Some f → f.start < p.cycle) → f.start < p.cycle + 1
    low true o f e h = let s : p.cycle ≡ f.start = ap (λ x. x.start) (same_some (Some new) new f refl e) in omega arith
    low false o f e h = let l = h e in omega arith

    two : (k j : Key) (t r : Bool) → starts_key p b k ≡ t → starts_key p b j ≡ r → (f g : Fact) → (if t then Some new else p.facts k) ≡ Some f → (if r then Some new else p.facts j) ≡ Some g → f.start ≡ g.start → k ≡ j
    two k j true true u v f g e d q = sym (key_is (issue_key b) k (both-true (is_start p b) _ u).1) ∙ key_is (issue_key b) j (both-true (is_start p b) _ v).1
    two k j true false u v f g e d q =
        let s : p.cycle ≡ f.start = ap (λ x. x.start) (same_some (Some new) new f refl e) in
        let l = a.below j g d in
        absurd (omega arith)
    two k j false true u v f g e d q =
        let s : p.cycle ≡ g.start = ap (λ x. x.start) (same_some (Some new) new g refl d) in
        let l = a.below k f e in
        absurd (omega arith)
    two k j false false u v f g e d q = a.unique k j f g e d q

pub answered-apart : (n : ℕ) (b : Bus) (facts : Facts) → Apart n facts → Apart n (answered_on b facts)
answered-apart n b facts a = mapped n facts (λ k. with_response (is_issued b && same_key (issue_key b) k) (response_on b)) (λ k f. refl) a

pub given-apart : (n : ℕ) (b : Bus) (facts : Facts) → Apart n facts → Apart n (given_on b facts)
given-apart n b facts a = mapped n facts (λ k. with_operands (is_given b && same_key (register_key b) k) b.register_rs_valid) (λ k f. refl) a

pub decided-apart : (n : ℕ) (start : Option ℕ) (b : Bus) (facts : Facts) → Apart n facts → Apart n (decided_on b start facts)
decided-apart n None b facts a = record { below = a.below; unique = a.unique }
decided-apart n (Some s) b facts a = mapped n facts (λ k. with_decision (b.commit_hartid == k.hart) s b.commit_kill) (λ k f. refl) a

pub ended-apart : (n : ℕ) (b : Bus) (facts : Facts) → Apart n facts → Apart n (ended_on b facts)
ended-apart n b facts a = mapped n facts (λ k. with_end (is_taken b && same_key (result_key b) k)) (λ k f. refl) a

pub past-apart : (session : List Bus) → Apart (past_of session).cycle (past_of session).facts
past-apart [] = record { below = λ k f e. cc; unique = λ k j f g e d q. cc }
past-apart (b ∷ session) =
    let p = past_of session in
    let n = p.cycle + 1 in
    ended-apart n b _ (decided-apart n (effective_start p b) b _ (given-apart n b _ (answered-apart n b _ (named-apart p b (past-apart session)))))
