-- The fault of a cycle against the rules.
use Rattle.std.proofs.Common.{◌≡◌, ◌<◌, ◌≤◌, ℕ, Bool, true, false, cond, List, Option, Some, None, Ok, refl, sym, ap, ◌∙◌, subst, arith, inl, inr}
use Rattle.std.specs.Prelude.{◌↔◌, ◌⊎◌, IsTrue}
use Rattle.std.specs.Option.{option_map}
use Rattle.std.proofs.lemmas.Bool.{cases_lt}
use Rattle.std.proofs.lemmas.Option.{none-some}
use Rattle.xif_base.specs.declared.params.Params.{Params}
use Rattle.xif_base.specs.Params.{IsInRange}
use Rattle.xif_signals.specs.declared.sample.Quad.{Quad}
use Rattle.xif_signals.specs.declared.bus.Bus.{Bus}
use Rattle.xif_signals.specs.declared.rule.Channel.{Channel}
use Rattle.xif_signals.specs.declared.rule.Rule.{Rule}
use Rattle.xif_signals.specs.declared.rule.Rule.TheVariants.{K1, K2}
use Rattle.xif_signals.specs.Bus.{bus_of}
use Rattle.xif_signals.specs.Channels.{first_failing_channel}
use Rattle.xif_signals.specs.Quad.{is_in_session}
use Rattle.xif_signals.specs.Known.{holds_k1, holds_k2, known_by, known_of}
use Rattle.xif_signals.proofs.Channels.{none_failing}
use Rattle.xif_session.specs.declared.fault.Fault.{Fault as BusFault}
use Rattle.xif_session.specs.Facts.{Past}
use Rattle.xif_session.specs.Legal.{Holds, IsBefore, rule_number}
use Rattle.xif_session.specs.Tests.{fault_of, bus_fault}
use Rattle.xif_session.proofs.Places.{none_holds, first_fails, same_number}
use Rattle.xif_judge.specs.declared.verdict.Fault.{Fault}
use Rattle.xif_judge.specs.Rules.{HoldsK1, HoldsK2, HoldsAt, past_at}
use Rattle.xif_judge.specs.Faults.{unknown_at, with_key, reported, fault_by, fault_now}

-- a fault is that of a cycle
pub record IsFault (params : Params) (older : List (List Quad)) (sample : List Quad) (fault : Fault) : Type 0 where
  pub within : IsTrue (is_in_session sample params)
  pub fails : ¬ HoldsAt params fault.rule older sample
  pub earlier : (rule : Rule) → IsBefore rule fault.rule → HoldsAt params rule older sample
  pub place : reported params fault.rule older sample ≡ Some fault

-- a rule that fails at a channel doesn't hold
not_all : (test : Channel → Bool) (channel : Channel) → first_failing_channel test ≡ Some channel → ¬ ((c : Channel) → IsTrue (test c))
not_all test channel e = λ all. none-some channel (sym ((none_failing test).1 all) ∙ e)

no_less : (n : ℕ) → n < 0 → ⊥
no_less n h = absurd (omega arith)

is_zero : (n : ℕ) → n < 1 → n ≡ 0
is_zero n h = omega arith

mapped_none : {A B : Type 0} (f : A → B) (o : Option A) → option_map f o ≡ None → o ≡ None
mapped_none f None e = refl
mapped_none f (Some x) e = cc

some_is : {A : Type 0} (x y : A) → Some x ≡ Some y → x ≡ y
some_is x y e = cc

false_true : {A : Type 0} → false ≡ true → A
false_true e = cc

module _ (params : Params) (older : List (List Quad)) (sample : List Quad) (range : IsInRange params) where
  abbrev before : Past
  before = past_at params older

  abbrev bus : Bus
  bus = bus_of sample params

  abbrev AllHold : Type 0
  AllHold = (rule : Rule) → HoldsAt params rule older sample

  -- ---- a rule of the bus is one of the cycle

  of_bus : (rule : Rule) → HoldsK1 params sample → HoldsK2 params sample → Holds params rule before bus → HoldsAt params rule older sample
  of_bus K1 k1 k2 h = k1
  of_bus K2 k1 k2 h = k2
  of_bus rule k1 k2 h = h

  to_bus : (rule : Rule) → HoldsAt params rule older sample → Holds params rule before bus
  to_bus K1 h = tt
  to_bus K2 h = tt
  to_bus rule h = h

  place_of_bus : (rule : Rule) → ¬ Holds params rule before bus → reported params rule older sample ≡ Some (with_key (fault_of params rule before bus))
  place_of_bus K1 n = absurd (n tt)
  place_of_bus K2 n = absurd (n tt)
  place_of_bus rule n = refl

  -- ---- K1, K2 and the bus, where K1 and K2 fail first at these channels

  abbrev by_rules : Option Channel → Option Channel → Option Fault
  by_rules first second = fault_by params before (known_by K1 first (known_by K2 second (Ok bus)))

  all_by : (first second : Option Channel) → first_failing_channel (holds_k1 sample params) ≡ first → first_failing_channel (holds_k2 sample params) ≡ second
      → by_rules first second ≡ None → AllHold
  all_by None None e f none = λ rule.
      of_bus rule ((none_failing (holds_k1 sample params)).0 e) ((none_failing (holds_k2 sample params)).0 f)
      ((none_holds params before bus range).0 (mapped_none with_key (bus_fault params before bus) none) rule)
  all_by None (Some channel) e f none = cc
  all_by (Some channel) second e f none = cc

  bus_case : (found : Option BusFault) (fault : Fault) → HoldsK1 params sample → HoldsK2 params sample → IsTrue (is_in_session sample params)
      → bus_fault params before bus ≡ found → option_map with_key found ≡ Some fault → IsFault params older sample fault
  bus_case None fault k1 k2 within e q = cc
  bus_case (Some other) fault k1 k2 within e q =
      let first = (first_fails params before bus range other).0 e in
      let same : with_key other ≡ fault = some_is _ _ q in
      subst (IsFault params older sample) same (record {
        within = within;
        fails = λ h. first.fails (to_bus other.rule h);
        earlier = λ rule l. of_bus rule k1 k2 (first.earlier rule l);
        place = place_of_bus other.rule first.fails ∙ ap (λ f. Some (with_key f)) (sym first.place);
      })

  fault_case : (first second : Option Channel) (fault : Fault) → IsTrue (is_in_session sample params)
      → first_failing_channel (holds_k1 sample params) ≡ first → first_failing_channel (holds_k2 sample params) ≡ second
      → by_rules first second ≡ Some fault → IsFault params older sample fault
  fault_case (Some channel) second fault within e f q =
      subst (IsFault params older sample) (some_is _ _ q) (record {
        within = within;
        fails = not_all (holds_k1 sample params) channel e;
        earlier = λ rule l. absurd (no_less (rule_number rule) l);
        place = ap (option_map (unknown_at K1)) e;
      })
  fault_case None (Some channel) fault within e f q =
      subst (IsFault params older sample) (some_is _ _ q) (record {
        within = within;
        fails = not_all (holds_k2 sample params) channel f;
        earlier = λ rule l.
            subst (λ r. HoldsAt params r older sample) (sym (same_number rule K1 (is_zero (rule_number rule) l)))
            ((none_failing (holds_k1 sample params)).0 e);
        place = ap (option_map (unknown_at K2)) f;
      })
  fault_case None None fault within e f q =
      bus_case (bus_fault params before bus) fault
      ((none_failing (holds_k1 sample params)).0 e) ((none_failing (holds_k2 sample params)).0 f) within refl q

  none_where_all : AllHold → fault_by params before (known_of sample params) ≡ None
  none_where_all all =
      rw ((none_failing (holds_k1 sample params)).1 (all K1), (none_failing (holds_k2 sample params)).1 (all K2))
      (ap (option_map with_key) ((none_holds params before bus range).1 (λ rule. to_bus rule (all rule))))

  -- ---- in and out of session

  none_by : (b : Bool) → (cond b (fault_by params before (known_of sample params)) None ≡ None) ↔ (IsTrue b → AllHold)
  none_by true = (
    λ none within. all_by (first_failing_channel (holds_k1 sample params)) (first_failing_channel (holds_k2 sample params)) refl refl none,
    λ all. none_where_all (all refl),
  )
  none_by false = (λ none within. false_true within, λ all. refl)

  -- a cycle has no fault exactly where it is in no session, or every rule holds in it
  pub now_none : (fault_now params older sample ≡ None) ↔ (IsTrue (is_in_session sample params) → AllHold)
  now_none = none_by (is_in_session sample params)

  fault_in : (b : Bool) (fault : Fault) → is_in_session sample params ≡ b → cond b (fault_by params before (known_of sample params)) None ≡ Some fault → IsFault params older sample fault
  fault_in true fault e q =
      fault_case (first_failing_channel (holds_k1 sample params)) (first_failing_channel (holds_k2 sample params)) fault e refl refl q
  fault_in false fault e q = cc

  -- two faults of a cycle are of one rule
  one_rule : (a b : Fault) → IsFault params older sample a → IsFault params older sample b → a.rule ≡ b.rule
  one_rule a b f g = go (cases_lt (rule_number a.rule) (rule_number b.rule)) (cases_lt (rule_number b.rule) (rule_number a.rule))
    where
      go : (rule_number a.rule < rule_number b.rule) ⊎ (rule_number b.rule ≤ rule_number a.rule) → (rule_number b.rule < rule_number a.rule) ⊎ (rule_number a.rule ≤ rule_number b.rule) → a.rule ≡ b.rule
      go (inl l) k = absurd (f.fails (g.earlier a.rule l))
      go (inr l) (inl k) = absurd (g.fails (f.earlier b.rule k))
      go (inr l) (inr k) = same_number a.rule b.rule (omega arith)

  one_fault : (a b : Fault) → IsFault params older sample a → IsFault params older sample b → a ≡ b
  one_fault a b f g =
      some_is a b (sym f.place ∙ ap (λ rule. reported params rule older sample) (one_rule a b f g) ∙ g.place)

  is_found : (found : Option Fault) (fault : Fault) → fault_now params older sample ≡ found → IsFault params older sample fault → found ≡ Some fault
  is_found None fault e f = absurd (f.fails (now_none.0 e f.within fault.rule))
  is_found (Some other) fault e f = ap Some (one_fault other fault (fault_in (is_in_session sample params) other refl e) f)

  -- and else the fault of the first rule that fails
  pub now_fault : (fault : Fault) → (fault_now params older sample ≡ Some fault) ↔ IsFault params older sample fault
  now_fault fault = (
    λ e. fault_in (is_in_session sample params) fault refl e,
    λ f. is_found (fault_now params older sample) fault refl f,
  )
