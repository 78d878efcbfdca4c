-- After each cycle every use that could be ready is: the next use of a hart isn't complete.
use Rattle.std.proofs.Common.{if◌then◌else◌, ◌≡◌, ◌≢◌, ◌<◌, ◌+◌, ◌==◌, ◌&&◌, not, ℕ, suc, zero, Bool, true, false, List, [], ◌∷◌, length, map, filter, refl, sym, ap, ap₂, ◌∙◌, arith}
use Rattle.std.specs.Prelude.{is_none}
use Rattle.std.proofs.lemmas.Bool.{eqb-true, eq-eqb}
use Rattle.std.proofs.lemmas.Bool.Decides.{nat_tests}
use Rattle.coproc_config.specs.Set.{UnitTable}
use Rattle.xif_session.specs.Facts.{is_killed}
use Rattle.cycle_spec.specs.declared.use_of.Use.{Use}
use Rattle.cycle_spec.specs.Engine.{is_accepted, is_complete, outcome_of, is_next, with_ready, ready_uses, units_behind, ready_in_harts}
use Rattle.cycle_lists.proofs.Tests.{not-both}
use Rattle.hart_laws.specs.Harts.{is_of}

abbrev pub is_settled : ℕ → List Use → Bool
is_settled h [] = true
is_settled h (u ∷ us) = if is_next h u then not (is_complete u) else is_settled h us

-- ---- then the units change nothing

pub settled-uses : (set : List UnitTable) (cycle h : ℕ) (st : List (List ℕ)) (us : List Use) → is_settled h us ≡ true → ready_uses set cycle h st us ≡ us
settled-uses set cycle h st [] s = refl
settled-uses set cycle h st (u ∷ us) s = go (is_next h u) (is_complete u) s (λ k. settled-uses set cycle h st us k)
  where
    go : (a b : Bool) → (if a then not b else is_settled h us) ≡ true → (is_settled h us ≡ true → ready_uses set cycle h st us ≡ us)
        → (if not a then u ∷ ready_uses set cycle h st us else if b then with_ready cycle (outcome_of set st u).result u ∷ ready_uses set cycle h (outcome_of set st u).state us else u ∷ us) ≡ u ∷ us
    go true true s r = cc
    go true false s r = refl
    go false b s r = ap (λ xs. u ∷ xs) (r s)

pub settled-units : (set : List UnitTable) (h : ℕ) (st : List (List ℕ)) (us : List Use) → is_settled h us ≡ true → units_behind set is_complete h st us ≡ st
settled-units set h st [] s = refl
settled-units set h st (u ∷ us) s = go (is_next h u) (is_complete u) s (λ k. settled-units set h st us k)
  where
    go : (a b : Bool) → (if a then not b else is_settled h us) ≡ true → (is_settled h us ≡ true → units_behind set is_complete h st us ≡ st)
        → (if not a then units_behind set is_complete h st us else if b then units_behind set is_complete h (outcome_of set st u).state us else st) ≡ st
    go true true s r = cc
    go true false s r = refl
    go false b s r = r s

-- ---- the units settle the uses of a hart, and leave those of the others

ready-once : (cycle result h : ℕ) (u : Use) → is_next h (with_ready cycle result u) ≡ false
ready-once cycle result h u = go (u.key.hart == h) (is_accepted u) (not (is_killed u.decision))
  where
    go : (a b c : Bool) → (a && (b && (c && false))) ≡ false
    go true true true = refl
    go true true false = refl
    go true false c = refl
    go false b c = refl

ready-settled : (set : List UnitTable) (cycle h : ℕ) (st : List (List ℕ)) (us : List Use) → is_settled h (ready_uses set cycle h st us) ≡ true
ready-settled set cycle h st [] = refl
ready-settled set cycle h st (u ∷ us) = go (is_next h u) (is_complete u) refl refl (ready-settled set cycle h st us) (ready-settled set cycle h (outcome_of set st u).state us)
  where
    now : Use
    now = with_ready cycle (outcome_of set st u).result u

    later : List Use
    later = ready_uses set cycle h (outcome_of set st u).state us

    go : (a b : Bool) → is_next h u ≡ a → is_complete u ≡ b → is_settled h (ready_uses set cycle h st us) ≡ true → is_settled h later ≡ true
        → is_settled h (if not a then u ∷ ready_uses set cycle h st us else if b then now ∷ later else u ∷ us) ≡ true
    go true true p q x y = ap (λ t. if t then not (is_complete u) else is_settled h later) (ready-once cycle (outcome_of set st u).result h u) ∙ y
    go true false p q x y = ap₂ (λ s t. if s then not t else is_settled h us) p q
    go false b p q x y = ap (λ t. if t then not (is_complete u) else is_settled h (ready_uses set cycle h st us)) p ∙ x

-- the next use of a hart is of no other
next-own : (g h : ℕ) (u : Use) → g ≢ h → is_next g u ≡ true → is_of h u ≡ false
next-own g h u n k = grind (arith, nat_tests)

not-next : (h : ℕ) (u : Use) → is_of h u ≡ false → is_next h u ≡ false
not-next h u k = ap (λ t. t && (is_accepted u && (not (is_killed u.decision) && is_none u.ready))) k

pub other-settled : (set : List UnitTable) (cycle g h : ℕ) (st : List (List ℕ)) (us : List Use) → g ≢ h → is_settled h (ready_uses set cycle g st us) ≡ is_settled h us
other-settled set cycle g h st [] n = refl
other-settled set cycle g h st (u ∷ us) n = go (is_next g u) (is_complete u) refl (other-settled set cycle g h st us n) (other-settled set cycle g h (outcome_of set st u).state us n)
  where
    now : Use
    now = with_ready cycle (outcome_of set st u).result u

    later : List Use
    later = ready_uses set cycle g (outcome_of set st u).state us

    go : (a b : Bool) → is_next g u ≡ a → is_settled h (ready_uses set cycle g st us) ≡ is_settled h us → is_settled h later ≡ is_settled h us
        → is_settled h (if not a then u ∷ ready_uses set cycle g st us else if b then now ∷ later else u ∷ us) ≡ is_settled h (u ∷ us)
    go true true p x y =
        ap (λ t. if t then not (is_complete u) else is_settled h later) (ready-once cycle (outcome_of set st u).result h u) ∙ y
        ∙ ap (λ t. if t then not (is_complete u) else is_settled h us) (sym (not-next h u (next-own g h u n p)))
    go true false p x y = refl
    go false b p x y = ap (λ s. if is_next h u then not (is_complete u) else s) x

pub of-ready : (set : List UnitTable) (cycle g h : ℕ) (st : List (List ℕ)) (us : List Use) → g ≢ h → filter (is_of h) (ready_uses set cycle g st us) ≡ filter (is_of h) us
of-ready set cycle g h st [] n = refl
of-ready set cycle g h st (u ∷ us) n = go (is_next g u) (is_complete u) refl (of-ready set cycle g h st us n) (of-ready set cycle g h (outcome_of set st u).state us n)
  where
    now : Use
    now = with_ready cycle (outcome_of set st u).result u

    later : List Use
    later = ready_uses set cycle g (outcome_of set st u).state us

    go : (a b : Bool) → is_next g u ≡ a → filter (is_of h) (ready_uses set cycle g st us) ≡ filter (is_of h) us → filter (is_of h) later ≡ filter (is_of h) us
        → filter (is_of h) (if not a then u ∷ ready_uses set cycle g st us else if b then now ∷ later else u ∷ us) ≡ filter (is_of h) (u ∷ us)
    go true true p x y =
        let gone : is_of h u ≡ false = next-own g h u n p in
        ap (λ t. if t then now ∷ filter (is_of h) later else filter (is_of h) later) gone ∙ y ∙ ap (λ t. if t then u ∷ filter (is_of h) us else filter (is_of h) us) (sym gone)
    go true false p x y = refl
    go false b p x y = ap (λ xs. if is_of h u then u ∷ xs else xs) x

-- ---- in all harts

-- what is settled stays so
keep-settled : (set : List UnitTable) (cycle k h : ℕ) (states : List (List (List ℕ))) (us : List Use) → is_settled h us ≡ true → is_settled h (ready_in_harts set cycle k states us) ≡ true
keep-settled set cycle k h [] us s = s
keep-settled set cycle k h (st ∷ states) us s = keep-settled set cycle (k + 1) h states (ready_uses set cycle k st us) (go (k == h) refl)
  where
    go : (t : Bool) → (k == h) ≡ t → is_settled h (ready_uses set cycle k st us) ≡ true
    go true e = ap (λ g. is_settled h (ready_uses set cycle g st us)) (eqb-true k h e) ∙ ready-settled set cycle h st us
    go false e = other-settled set cycle k h st us (λ q. not-both (k == h) e (eq-eqb k h q)) ∙ s

harts-settled : (set : List UnitTable) (cycle k i : ℕ) (states : List (List (List ℕ))) (us : List Use) → i < length states → is_settled (k + i) (ready_in_harts set cycle k states us) ≡ true
harts-settled set cycle k i [] us l = absurd (omega (arith, l))
harts-settled set cycle k zero (st ∷ states) us l =
    let z : k ≡ k + 0 = omega arith in
    ap (λ h. is_settled h (ready_in_harts set cycle (k + 1) states (ready_uses set cycle k st us))) (sym z)
    ∙ keep-settled set cycle (k + 1) k states (ready_uses set cycle k st us) (ready-settled set cycle k st us)
harts-settled set cycle k (suc i) (st ∷ states) us l =
    let z : k + 1 + i ≡ k + suc i = omega arith in
    ap (λ h. is_settled h (ready_in_harts set cycle (k + 1) states (ready_uses set cycle k st us))) (sym z)
    ∙ harts-settled set cycle (k + 1) i states (ready_uses set cycle k st us) (omega (arith, l))

pub all-settled : (set : List UnitTable) (cycle h : ℕ) (states : List (List (List ℕ))) (us : List Use) → h < length states → is_settled h (ready_in_harts set cycle 0 states us) ≡ true
all-settled set cycle h states us l =
    let z : 0 + h ≡ h = omega arith in
    ap (λ g. is_settled g (ready_in_harts set cycle 0 states us)) (sym z) ∙ harts-settled set cycle 0 h states us l

-- the units leave the settled uses of a hart
of-from : (set : List UnitTable) (cycle k h : ℕ) (states : List (List (List ℕ))) (us : List Use) → ((i : ℕ) → i < length states → k + i ≡ h → is_settled h us ≡ true) → filter (is_of h) (ready_in_harts set cycle k states us) ≡ filter (is_of h) us
of-from set cycle k h [] us s = refl
of-from set cycle k h (st ∷ states) us s =
    go (k == h) refl (λ vs e. of-from set cycle (k + 1) h states vs (λ i l q. e ∙ s (suc i) (omega (arith, l)) (omega (arith, q))))
  where
    go : (t : Bool) → (k == h) ≡ t → ((vs : List Use) → is_settled h vs ≡ is_settled h us → filter (is_of h) (ready_in_harts set cycle (k + 1) states vs) ≡ filter (is_of h) vs)
        → filter (is_of h) (ready_in_harts set cycle (k + 1) states (ready_uses set cycle k st us)) ≡ filter (is_of h) us
    go true e rest =
        let q : k ≡ h = eqb-true k h e in
        let here : is_settled k us ≡ true = ap (λ g. is_settled g us) q ∙ s zero (omega arith) (omega (arith, q)) in
        ap (λ vs. filter (is_of h) (ready_in_harts set cycle (k + 1) states vs)) (settled-uses set cycle k st us here) ∙ rest us refl
    go false e rest =
        let n : k ≢ h = λ q. not-both (k == h) e (eq-eqb k h q) in
        rest (ready_uses set cycle k st us) (other-settled set cycle k h st us n) ∙ of-ready set cycle k h st us n

pub of-harts : (set : List UnitTable) (cycle h : ℕ) (states : List (List (List ℕ))) (us : List Use) → (h < length states → is_settled h us ≡ true) → filter (is_of h) (ready_in_harts set cycle 0 states us) ≡ filter (is_of h) us
of-harts set cycle h states us s = of-from set cycle 0 h states us (λ i l q. s (omega (arith, l, q)))

-- ---- it is a fact of the hart's own uses, and not of their ends

pub of-settled : (h : ℕ) (us : List Use) → is_settled h (filter (is_of h) us) ≡ is_settled h us
of-settled h [] = refl
of-settled h (u ∷ us) = go (is_of h u) refl (of-settled h us)
  where
    go : (t : Bool) → is_of h u ≡ t → is_settled h (filter (is_of h) us) ≡ is_settled h us → is_settled h (if t then u ∷ filter (is_of h) us else filter (is_of h) us) ≡ is_settled h (u ∷ us)
    go true e r = ap (λ s. if is_next h u then not (is_complete u) else s) r
    go false e r = r ∙ ap (λ t. if t then not (is_complete u) else is_settled h us) (sym (not-next h u e))

pub map-settled : (h : ℕ) (f : Use → Use) (us : List Use) → ((u : Use) → is_next h (f u) ≡ is_next h u) → ((u : Use) → is_complete (f u) ≡ is_complete u) → is_settled h (map f us) ≡ is_settled h us
map-settled h f [] n c = refl
map-settled h f (u ∷ us) n c =
    ap₂ (λ a b. if a then not b else is_settled h (map f us)) (n u) (c u)
    ∙ ap (λ s. if is_next h u then not (is_complete u) else s) (map-settled h f us n c)
