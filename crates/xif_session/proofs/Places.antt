-- The first fault of a cycle: its rule fails, and every rule before it holds.
use Rattle.std.proofs.Common.{◌≡◌, ◌<◌, ◌≤◌, ◌+◌, ◌&&◌, ◌↔◌, not, ℕ, Bool, true, false, if◌then◌else◌, Option, Some, None, List, [], ◌∷◌, refl, sym, ap, ◌∙◌, subst, arith, inl, inr}
use Rattle.std.specs.Prelude.{◌⊎◌, find, nat_le, slice_get}
use Rattle.std.specs.Option.{option_map, option_map_or}
use Rattle.std.proofs.lemmas.Bool.{cases_lt}
use Rattle.xif_base.specs.declared.params.Params.{Params}
use Rattle.xif_base.specs.Params.{IsInRange}
use Rattle.xif_signals.specs.declared.bus.Bus.{Bus}
use Rattle.xif_signals.specs.declared.rule.Channel.{Channel}
use Rattle.xif_signals.specs.declared.rule.Channel.TheVariants.{Issue}
use Rattle.xif_signals.specs.declared.rule.Rule.{Rule}
use Rattle.xif_signals.specs.declared.rule.Rule.TheVariants.{K1, K2, H1, I1, I2, I3, I4, I5, G1, G2, G3, G4, G5, C1, C2, C3, R1, R2, R3, R4, R5, R6}
use Rattle.xif_session.specs.declared.fault.Fault.{Fault}
use Rattle.xif_session.specs.Facts.{Past}
use Rattle.xif_session.specs.Legal.{Holds, HoldsAll, rule_number}
use Rattle.xif_session.specs.Tests.{keeps, lost_channel, fault_on, fault_of, bus_rules, bus_fault, IsFirstFault}
use Rattle.xif_session.proofs.Options.{both-true, no_true, le_in}
use Rattle.xif_session.proofs.RuleTests.{rule_test}

abbrev pub Member : Rule → List Rule → Type 0
Member rule [] = ⊥
Member rule (r ∷ rs) = (rule ≡ r) ⊎ Member rule rs

-- the numbers of a list rise, from this one on
abbrev rises : ℕ → List Rule → Bool
rises n [] = true
rises n (r ∷ rs) = nat_le n (rule_number r) && rises (rule_number r + 1) rs

-- ---- of any list

above : (n : ℕ) (rules : List Rule) → rises n rules ≡ true → (rule : Rule) → Member rule rules → n ≤ rule_number rule
above n [] h rule m = absurd m
above n (r ∷ rs) h rule m =
    let x = both-true (nat_le n (rule_number r)) _ h in
    go m (le_in n (rule_number r) x.0) (λ k. above (rule_number r + 1) rs x.1 rule k)
  where
    go : (rule ≡ r) ⊎ Member rule rs → n ≤ rule_number r → (Member rule rs → rule_number r + 1 ≤ rule_number rule) → n ≤ rule_number rule
    go (inl q) l k = let e : rule_number rule ≡ rule_number r = ap rule_number q in omega arith
    go (inr m) l k = let e = k m in omega arith

found : (fails : Rule → Bool) (rules : List Rule) (rule : Rule) → find fails rules ≡ Some rule → fails rule ≡ true
found fails [] rule e = cc
found fails (r ∷ rs) rule e = go (fails r) refl e (λ k. found fails rs rule k)
  where
    go : (t : Bool) → fails r ≡ t → (if t then Some r else find fails rs) ≡ Some rule → (find fails rs ≡ Some rule → fails rule ≡ true) → fails rule ≡ true
    go true q e k = let same : r ≡ rule = cc in ap fails (sym same) ∙ q
    go false q e k = k e

first_of : (fails : Rule → Bool) (n : ℕ) (rules : List Rule) (rule : Rule) → rises n rules ≡ true → find fails rules ≡ Some rule
    → (earlier : Rule) → Member earlier rules → rule_number earlier < rule_number rule → fails earlier ≡ false
first_of fails n [] rule h e earlier m l = cc
first_of fails n (r ∷ rs) rule h e earlier m l =
    let x = both-true (nat_le n (rule_number r)) _ h in
    go (fails r) refl e m (λ k. above (rule_number r + 1) rs x.1 earlier k) (λ k j. first_of fails (rule_number r + 1) rs rule x.1 k earlier j l)
  where
    go : (t : Bool) → fails r ≡ t → (if t then Some r else find fails rs) ≡ Some rule → (earlier ≡ r) ⊎ Member earlier rs
        → (Member earlier rs → rule_number r + 1 ≤ rule_number earlier)
        → (find fails rs ≡ Some rule → Member earlier rs → fails earlier ≡ false) → fails earlier ≡ false
    go true q e (inl s) a k =
        let same : r ≡ rule = cc in
        let x : rule_number earlier ≡ rule_number r = ap rule_number s in
        let y : rule_number r ≡ rule_number rule = ap rule_number same in
        absurd (omega arith)
    go true q e (inr m) a k =
        let same : r ≡ rule = cc in
        let y : rule_number r ≡ rule_number rule = ap rule_number same in
        let z = a m in
        absurd (omega arith)
    go false q e (inl s) a k = ap fails s ∙ q
    go false q e (inr m) a k = k e m

all_of : (fails : Rule → Bool) (rules : List Rule) → find fails rules ≡ None → (rule : Rule) → Member rule rules → fails rule ≡ false
all_of fails [] e rule m = absurd m
all_of fails (r ∷ rs) e rule m = go (fails r) refl e m (λ k j. all_of fails rs k rule j)
  where
    go : (t : Bool) → fails r ≡ t → (if t then Some r else find fails rs) ≡ None → (rule ≡ r) ⊎ Member rule rs
        → (find fails rs ≡ None → Member rule rs → fails rule ≡ false) → fails rule ≡ false
    go true q e m k = cc
    go false q e (inl s) k = ap fails s ∙ q
    go false q e (inr m) k = k e m

none_of : (fails : Rule → Bool) (rules : List Rule) → ((rule : Rule) → Member rule rules → fails rule ≡ false) → find fails rules ≡ None
none_of fails [] h = refl
none_of fails (r ∷ rs) h = go (fails r) refl (none_of fails rs (λ rule m. h rule (inr m)))
  where
    go : (t : Bool) → fails r ≡ t → find fails rs ≡ None → (if t then Some r else find fails rs) ≡ None
    go true q k = no_true (fails r) q (h r (inl refl))
    go false q k = k

-- ---- of the rules of a bus

abbrev IsOfBus : Rule → Type 0
IsOfBus K1 = ⊥
IsOfBus K2 = ⊥
IsOfBus rule = Unit {0}

member : (rule : Rule) → IsOfBus rule → Member rule bus_rules
member K1 n = absurd n
member K2 n = absurd n
member H1 n = inl refl
member I1 n = inr (inl refl)
member I2 n = inr (inr (inl refl))
member I3 n = inr (inr (inr (inl refl)))
member I4 n = inr (inr (inr (inr (inl refl))))
member I5 n = inr (inr (inr (inr (inr (inl refl)))))
member G1 n = inr (inr (inr (inr (inr (inr (inl refl))))))
member G2 n = inr (inr (inr (inr (inr (inr (inr (inl refl)))))))
member G3 n = inr (inr (inr (inr (inr (inr (inr (inr (inl refl))))))))
member G4 n = inr (inr (inr (inr (inr (inr (inr (inr (inr (inl refl)))))))))
member G5 n = inr (inr (inr (inr (inr (inr (inr (inr (inr (inr (inl refl))))))))))
member C1 n = inr (inr (inr (inr (inr (inr (inr (inr (inr (inr (inr (inl refl)))))))))))
member C2 n = inr (inr (inr (inr (inr (inr (inr (inr (inr (inr (inr (inr (inl refl))))))))))))
member C3 n = inr (inr (inr (inr (inr (inr (inr (inr (inr (inr (inr (inr (inr (inl refl)))))))))))))
member R1 n = inr (inr (inr (inr (inr (inr (inr (inr (inr (inr (inr (inr (inr (inr (inl refl))))))))))))))
member R2 n = inr (inr (inr (inr (inr (inr (inr (inr (inr (inr (inr (inr (inr (inr (inr (inl refl)))))))))))))))
member R3 n = inr (inr (inr (inr (inr (inr (inr (inr (inr (inr (inr (inr (inr (inr (inr (inr (inl refl))))))))))))))))
member R4 n = inr (inr (inr (inr (inr (inr (inr (inr (inr (inr (inr (inr (inr (inr (inr (inr (inr (inl refl)))))))))))))))))
member R5 n = inr (inr (inr (inr (inr (inr (inr (inr (inr (inr (inr (inr (inr (inr (inr (inr (inr (inr (inl refl))))))))))))))))))
member R6 n = inr (inr (inr (inr (inr (inr (inr (inr (inr (inr (inr (inr (inr (inr (inr (inr (inr (inr (inr (inl refl)))))))))))))))))))

-- a rule that isn't about known bits alone
of_bus : (rule : Rule) → (IsOfBus rule) ⊎ ((rule ≡ K1) ⊎ (rule ≡ K2))
of_bus K1 = inr (inl refl)
of_bus K2 = inr (inr refl)
of_bus H1 = inl tt
of_bus I1 = inl tt
of_bus I2 = inl tt
of_bus I3 = inl tt
of_bus I4 = inl tt
of_bus I5 = inl tt
of_bus G1 = inl tt
of_bus G2 = inl tt
of_bus G3 = inl tt
of_bus G4 = inl tt
of_bus G5 = inl tt
of_bus C1 = inl tt
of_bus C2 = inl tt
of_bus C3 = inl tt
of_bus R1 = inl tt
of_bus R2 = inl tt
of_bus R3 = inl tt
of_bus R4 = inl tt
of_bus R5 = inl tt
of_bus R6 = inl tt

abbrev all_rules : List Rule
all_rules = K1 ∷ K2 ∷ H1 ∷ I1 ∷ I2 ∷ I3 ∷ I4 ∷ I5 ∷ G1 ∷ G2 ∷ G3 ∷ G4 ∷ G5 ∷ C1 ∷ C2 ∷ C3 ∷ R1 ∷ R2 ∷ R3 ∷ R4 ∷ R5 ∷ R6 ∷ []

at_number : (rule : Rule) → slice_get all_rules (rule_number rule) ≡ Some rule
at_number K1 = refl
at_number K2 = refl
at_number H1 = refl
at_number I1 = refl
at_number I2 = refl
at_number I3 = refl
at_number I4 = refl
at_number I5 = refl
at_number G1 = refl
at_number G2 = refl
at_number G3 = refl
at_number G4 = refl
at_number G5 = refl
at_number C1 = refl
at_number C2 = refl
at_number C3 = refl
at_number R1 = refl
at_number R2 = refl
at_number R3 = refl
at_number R4 = refl
at_number R5 = refl
at_number R6 = refl

some_is : {A : Type 0} (x y : A) → Some x ≡ Some y → x ≡ y
some_is x y h = cc

-- rules of one number are one
pub same_number : (a b : Rule) → rule_number a ≡ rule_number b → a ≡ b
same_number a b e = some_is a b (sym (at_number a) ∙ ap (slice_get all_rules) e ∙ at_number b)

module _ (params : Params) (p : Past) (b : Bus) (range : IsInRange params) where
  abbrev fails : Rule → Bool
  fails rule = not (keeps params rule p b)

  holds : (rule : Rule) → fails rule ≡ false → Holds params rule p b
  holds rule e = (rule_test params rule p b range).0 (back (keeps params rule p b) e)
    where
      back : (t : Bool) → not t ≡ false → t ≡ true
      back true h = refl
      back false h = cc

  kept : (rule : Rule) → Holds params rule p b → fails rule ≡ false
  kept rule h = ap not ((rule_test params rule p b range).1 h)

  holds_all : ((rule : Rule) → Member rule bus_rules → fails rule ≡ false) → (rule : Rule) → Holds params rule p b
  holds_all h rule = go (of_bus rule)
    where
      go : (IsOfBus rule) ⊎ ((rule ≡ K1) ⊎ (rule ≡ K2)) → Holds params rule p b
      go (inl n) = holds rule (h rule (member rule n))
      go (inr (inl e)) = subst (λ r. Holds params r p b) (sym e) tt
      go (inr (inr e)) = subst (λ r. Holds params r p b) (sym e) tt

  mapped_none : (o : Option Rule) → option_map (λ rule. fault_of params rule p b) o ≡ None → o ≡ None
  mapped_none None e = refl
  mapped_none (Some x) e = cc

  pub none_holds : (bus_fault params p b ≡ None) ↔ HoldsAll params p b
  none_holds = (
    λ e. holds_all (all_of fails bus_rules (mapped_none (find fails bus_rules) e)),
    λ h. ap (option_map (λ rule. fault_of params rule p b)) (none_of fails bus_rules (λ rule m. kept rule (h rule))),
  )

  place : (rule : Rule) → (fault_of params rule p b).rule ≡ rule
  place H1 = at_channel (lost_channel params b)
    where
      at_channel : (o : Option Channel) → (option_map_or (λ channel. fault_on H1 channel b) o (fault_on H1 Issue b)).rule ≡ H1
      at_channel None = refl
      at_channel (Some channel) = refl
  place K1 = refl
  place K2 = refl
  place I1 = refl
  place I2 = refl
  place I3 = refl
  place I4 = refl
  place I5 = refl
  place G1 = refl
  place G2 = refl
  place G3 = refl
  place G4 = refl
  place G5 = refl
  place C1 = refl
  place C2 = refl
  place C3 = refl
  place R1 = refl
  place R2 = refl
  place R3 = refl
  place R4 = refl
  place R5 = refl
  place R6 = refl

  of_found : (o : Option Rule) (fault : Fault) → find fails bus_rules ≡ o → option_map (λ rule. fault_of params rule p b) o ≡ Some fault → IsFirstFault params p b fault
  of_found None fault e q = cc
  of_found (Some rule) fault e q =
      let same : fault_of params rule p b ≡ fault = some_is _ _ q in
      let by : rule ≡ fault.rule = sym (place rule) ∙ ap (λ f. f.rule) same in
      record {
        fails = λ h. no_true (fails rule) (found fails bus_rules rule e) (kept rule (subst (λ r. Holds params r p b) (sym by) h));
        earlier = λ other l. before other (subst (λ r. rule_number other < rule_number r) (sym by) l);
        place = sym same ∙ ap (λ r. fault_of params r p b) by;
      }
    where
      before : (other : Rule) → rule_number other < rule_number rule → Holds params other p b
      before other l = go (of_bus other)
        where
          go : (IsOfBus other) ⊎ ((other ≡ K1) ⊎ (other ≡ K2)) → Holds params other p b
          go (inl n) = holds other (first_of fails 0 bus_rules rule refl e other (member other n) l)
          go (inr (inl q)) = subst (λ r. Holds params r p b) (sym q) tt
          go (inr (inr q)) = subst (λ r. Holds params r p b) (sym q) tt

  one_first : (x y : Fault) → IsFirstFault params p b x → IsFirstFault params p b y → x ≡ y
  one_first x y f g = go (cases_lt (rule_number x.rule) (rule_number y.rule)) (cases_lt (rule_number y.rule) (rule_number x.rule))
    where
      go : (rule_number x.rule < rule_number y.rule) ⊎ (rule_number y.rule ≤ rule_number x.rule) → (rule_number y.rule < rule_number x.rule) ⊎ (rule_number x.rule ≤ rule_number y.rule) → x ≡ y
      go (inl l) k = absurd (f.fails (g.earlier x.rule l))
      go (inr l) (inl k) = absurd (g.fails (f.earlier y.rule k))
      go (inr l) (inr k) =
          let same : x.rule ≡ y.rule = same_number x.rule y.rule (omega arith) in
          f.place ∙ ap (λ r. fault_of params r p b) same ∙ sym g.place

  is_found : (o : Option Fault) (fault : Fault) → bus_fault params p b ≡ o → IsFirstFault params p b fault → o ≡ Some fault
  is_found None fault e f = absurd (f.fails (none_holds.0 e fault.rule))
  is_found (Some other) fault e f = ap Some (one_first other fault (of_found (find fails bus_rules) other refl e) f)

  pub first_fails : (fault : Fault) → (bus_fault params p b ≡ Some fault) ↔ IsFirstFault params p b fault
  first_fails fault = (
    λ e. of_found (find fails bus_rules) fault refl e,
    λ f. is_found (bus_fault params p b) fault refl f,
  )
