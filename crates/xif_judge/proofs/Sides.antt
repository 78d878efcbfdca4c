-- The sides of the judge, one after another, judge the rules of a bus.
use Rattle.std.proofs.Common.{◌≡◌, ◌<◌, ◌≤◌, ◌&&◌, not, ℕ, Bool, true, false, List, [], ◌∷◌, ◌++◌, Option, Some, None, Ok, Err, refl, sym, ap, ◌∙◌, subst, inl, inr}
use Rattle.std.specs.Prelude.{◌⊎◌, if◌then◌else◌, find, Result, IsTrue, IfSome, IsSomeAnd}
use Rattle.std.specs.Option.{option_map}
use Rattle.xif_base.specs.declared.params.Key.{Key}
use Rattle.xif_base.specs.declared.params.Params.{Params}
use Rattle.xif_signals.specs.declared.bus.Bus.{Bus}
use Rattle.xif_signals.specs.declared.rule.Channel.TheVariants.{Commit, Result as ResultChannel}
use Rattle.xif_signals.specs.declared.rule.Rule.{Rule}
use Rattle.xif_signals.specs.declared.rule.Rule.TheVariants.{H1}
use Rattle.xif_signals.specs.Bus.{FitsWidths}
use Rattle.xif_session.specs.declared.fact.Fact.{Fact}
use Rattle.xif_session.specs.declared.fault.Fault.{Fault}
use Rattle.xif_session.specs.Facts.{Past, past_after, now, ended_on, same_key, issue_key, commit_key, result_key, is_taken, has_killed}
use Rattle.xif_session.specs.Facts as session
use Rattle.xif_session.specs.Rules.{HoldsH1}
use Rattle.xif_session.specs.Tests.{keeps, fault_of, first_fault_in, bus_rules, commit_rules, result_rules, bus_fault, answer_of}
use Rattle.xif_session.proofs.Options.{key_is}
use Rattle.xif_uses.specs.declared.entry.Use.{Use}
use Rattle.xif_uses.specs.Table.{Table, IsKey, Represents, Sets, NoneLater, use_of, with_end}
use Rattle.issue_channel.specs.Following.{Following, Follows, HasDecided, IsOpen, IsReady, waiting_issue, side_rules}

-- ---- the first fault of two lists of rules

abbrev pub Answer : Type 0
Answer = Result (Unit {0}) Fault

module _ (params : Params) (p : Past) (b : Bus) where
  abbrev pub of_rules : List Rule → Answer
  of_rules rules = answer_of (first_fault_in rules params p b)

  abbrev fails : Rule → Bool
  fails rule = not (keeps params rule p b)

  abbrev place : Rule → Fault
  place rule = fault_of params rule p b

  err_more : (xs ys : List Rule) (fault : Fault) → of_rules xs ≡ Err fault → of_rules (xs ++ ys) ≡ Err fault
  err_more [] ys fault e = cc
  err_more (x ∷ xs) ys fault e = go (fails x) e (err_more xs ys fault)
    where
      go : (t : Bool) → answer_of (option_map place (if t then Some x else find fails xs)) ≡ Err fault
          → (answer_of (option_map place (find fails xs)) ≡ Err fault → answer_of (option_map place (find fails (xs ++ ys))) ≡ Err fault)
          → answer_of (option_map place (if t then Some x else find fails (xs ++ ys))) ≡ Err fault
      go true e k = e
      go false e k = k e

  ok_more : (xs ys : List Rule) → of_rules xs ≡ Ok tt → of_rules (xs ++ ys) ≡ of_rules ys
  ok_more [] ys e = refl
  ok_more (x ∷ xs) ys e = go (fails x) e (ok_more xs ys)
    where
      go : (t : Bool) → answer_of (option_map place (if t then Some x else find fails xs)) ≡ Ok tt
          → (answer_of (option_map place (find fails xs)) ≡ Ok tt → answer_of (option_map place (find fails (xs ++ ys))) ≡ of_rules ys)
          → answer_of (option_map place (if t then Some x else find fails (xs ++ ys))) ≡ of_rules ys
      go true e k = cc
      go false e k = k e

  -- what a side returned, and what is left to judge
  abbrev behind_commit : List Rule
  behind_commit = result_rules

  abbrev behind_issue : List Rule
  behind_issue = commit_rules ++ result_rules

  abbrev behind_harts : List Rule
  behind_harts = side_rules ++ behind_issue

  left_by_harts : of_rules (H1 ∷ []) ≡ Ok tt → of_rules bus_rules ≡ of_rules behind_harts
  left_by_harts e = ok_more (H1 ∷ []) behind_harts e

  left_by_issue : of_rules (H1 ∷ []) ≡ Ok tt → of_rules side_rules ≡ Ok tt → of_rules bus_rules ≡ of_rules behind_issue
  left_by_issue e f = left_by_harts e ∙ ok_more side_rules behind_issue f

  left_by_commit : of_rules (H1 ∷ []) ≡ Ok tt → of_rules side_rules ≡ Ok tt → of_rules commit_rules ≡ Ok tt → of_rules bus_rules ≡ of_rules behind_commit
  left_by_commit e f g = left_by_issue e f ∙ ok_more commit_rules behind_commit g

  pub fault_of_harts : (fault : Fault) → of_rules (H1 ∷ []) ≡ Err fault → Err fault ≡ answer_of (bus_fault params p b)
  fault_of_harts fault e = sym (err_more (H1 ∷ []) behind_harts fault e)

  pub fault_of_issue : (fault : Fault) → of_rules (H1 ∷ []) ≡ Ok tt → of_rules side_rules ≡ Err fault → Err fault ≡ answer_of (bus_fault params p b)
  fault_of_issue fault e f = sym (left_by_harts e ∙ err_more side_rules behind_issue fault f)

  pub fault_of_commit : (fault : Fault) → of_rules (H1 ∷ []) ≡ Ok tt → of_rules side_rules ≡ Ok tt → of_rules commit_rules ≡ Err fault → Err fault ≡ answer_of (bus_fault params p b)
  fault_of_commit fault e f g = sym (left_by_issue e f ∙ err_more commit_rules behind_commit fault g)

  -- the result side is the last
  pub answer_of_result : of_rules (H1 ∷ []) ≡ Ok tt → of_rules side_rules ≡ Ok tt → of_rules commit_rules ≡ Ok tt → (answer : Answer) → answer ≡ of_rules result_rules → answer ≡ answer_of (bus_fault params p b)
  answer_of_result e f g answer h = h ∙ sym (left_by_commit e f g)

-- ---- the keys of a bus

pub commit_inside : (params other : Params) (b : Bus) → other ≡ params → FitsWidths params b → HoldsH1 params b → IsTrue b.commit_valid → IsKey other (commit_key b)
commit_inside params other b same fits harts valid =
    subst (λ (x : Params). IsKey x (commit_key b)) (sym same) (record { hart = harts Commit valid; id = fits.commit_id })

pub result_inside : (params other : Params) (b : Bus) → other ≡ params → FitsWidths params b → HoldsH1 params b → IsTrue b.result_valid → IsKey other (result_key b)
result_inside params other b same fits harts valid =
    subst (λ (x : Params). IsKey x (result_key b)) (sym same) (record { hart = harts ResultChannel valid; id = fits.result_id })

-- ---- behind the result side

killed_end : (t : Bool) (found : Option Fact) → has_killed found ≡ has_killed (option_map (session.with_end t) found)
killed_end t None = refl
killed_end t (Some fact) = refl

pub follows_after : (side : Following) (decided table : Table) (params : Params) (p : Past) (b : Bus)
    → HasDecided side decided params p b → Represents table params (past_after p b).facts → Follows side table params (past_after p b)
follows_after side decided table params p b d f = record {
  facts = f;
  keeps = record {
    same = d.keeps.same;
    before = d.keeps.before;
    registers = d.keeps.registers;
    offered = d.keeps.offered ∙ ap (λ t. if t then None else waiting_issue b) (killed_end (is_taken b && same_key (result_key b) (issue_key b)) (now p b (issue_key b)));
  };
}

-- a use is as it was, or it has ended
abbrev Stays : Option Use → Option Use → Type 0
Stays old new = (new ≡ old) ⊎ (new ≡ option_map with_end old)

if_stays : (Q : Use → Type 0) (old new : Option Use) → ((entry : Use) → Q entry → Q (with_end entry)) → Stays old new → IfSome old Q → IfSome new Q
if_stays Q old new k (inl e) h = subst (λ o. IfSome o Q) (sym e) h
if_stays Q old new k (inr e) h = subst (λ o. IfSome o Q) (sym e) (go old h)
  where
    go : (o : Option Use) → IfSome o Q → IfSome (option_map with_end o) Q
    go None h = tt
    go (Some entry) h = k entry h

is_stays : (Q : Use → Type 0) (old new : Option Use) → ((entry : Use) → Q entry → Q (with_end entry)) → Stays old new → IsSomeAnd old Q → IsSomeAnd new Q
is_stays Q old new k (inl e) h = subst (λ o. IsSomeAnd o Q) (sym e) h
is_stays Q old new k (inr e) h = subst (λ o. IsSomeAnd o Q) (sym e) (go old h)
  where
    go : (o : Option Use) → IsSomeAnd o Q → IsSomeAnd (option_map with_end o) Q
    go None h = absurd h
    go (Some entry) h = k entry h

module _ (side : Following) (old new : Table) (cycle : ℕ) (key : Key) (s : Sets old new key (option_map with_end (use_of old key))) (r : IsReady side old cycle) where
  stays : (k : Key) → IsKey old.params k → Stays (use_of old k) (use_of new k)
  stays k inside = go (same_key key k) refl
    where
      go : (t : Bool) → same_key key k ≡ t → Stays (use_of old k) (use_of new k)
      go true e = inr (subst (λ (x : Key). use_of new x ≡ option_map with_end (use_of old x)) (key_is key k e) s.latest)
      go false e = inl (s.others k inside e)

  was_key : (k : Key) → IsKey new.params k → IsKey old.params k
  was_key k inside = subst (λ params. IsKey params k) s.params inside

  none_later : (start : ℕ) → NoneLater old start → NoneLater new start
  none_later start h k inside =
      if_stays (λ entry. entry.start ≤ start) (use_of old k) (use_of new k) (λ entry below. below) (stays k (was_key k inside)) (h k (was_key k inside))

  is_open : (k : Key) → IsOpen old k → IsOpen new k
  is_open k o = record {
    inside = subst (λ params. IsKey params k) (sym s.params) o.inside;
    ongoing = is_stays (λ entry. entry.ongoing ≡ true) (use_of old k) (use_of new k) (λ entry open'. open') (stays k o.inside) o.ongoing;
    newest = if_stays (λ entry. NoneLater new entry.start) (use_of old k) (use_of new k) (λ entry later. later) (stays k o.inside) (later (use_of old k) o.newest);
  }
    where
      later : (found : Option Use) → IfSome found (λ entry. NoneLater old entry.start) → IfSome found (λ entry. NoneLater new entry.start)
      later None h = tt
      later (Some entry) h = none_later entry.start h

  if_open : (offered : Option Key) → IfSome offered (IsOpen old) → IfSome offered (IsOpen new)
  if_open None h = tt
  if_open (Some k) h = is_open k h

  ready_by : IsReady side new cycle
  ready_by = record {
    same = r.same ∙ sym s.params;
    starts = λ k inside.
        if_stays (λ entry. entry.start < cycle) (use_of old k) (use_of new k) (λ entry below. below) (stays k (was_key k inside)) (r.starts k (was_key k inside));
    offered = if_open side.issue r.offered;
  }

pub ready_after : (side : Following) (old new : Table) (cycle : ℕ) (b : Bus)
    → (IsTrue (is_taken b) → Sets old new (result_key b) (option_map with_end (use_of old (result_key b))))
    → (is_taken b ≡ false → new ≡ old)
    → IsReady side old cycle → IsReady side new cycle
ready_after side old new cycle b taken kept r = go (is_taken b) refl
  where
    go : (t : Bool) → is_taken b ≡ t → IsReady side new cycle
    go true e = ready_by side old new cycle (result_key b) (taken e) r
    go false e = subst (λ (table : Table). IsReady side table cycle) (sym (kept e)) r
