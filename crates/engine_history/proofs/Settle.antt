-- The units, over a list of uses: one more use at its end, and uses of a key that are left out.
use Rattle.std.proofs.Common.{if◌then◌else◌, ◌≡◌, ◌++◌, ◌+◌, ◌==◌, ◌<◌, ◌&&◌, ◌||◌, not, ℕ, suc, zero, Bool, true, false, List, [], ◌∷◌, length, refl, sym, ap, ap₂, ◌∙◌, subst, arith}
use Rattle.std.specs.Prelude.{is_none, slice_index_or}
use Rattle.std.specs.List.{list_any}
use Rattle.std.proofs.lemmas.Bool.{ne_eqb}
use Rattle.std.proofs.lemmas.Bool.Decides.{nat_tests}
use Rattle.xif_base.specs.declared.params.Key.{Key}
use Rattle.coproc_config.specs.Set.{UnitTable}
use Rattle.xif_session.specs.Facts.{same_key, is_killed}
use Rattle.cycle_spec.specs.declared.use_of.Use.{Use}
use Rattle.cycle_spec.specs.Engine.{is_accepted, is_complete, outcome_of, is_next, with_ready, ready_uses, units_behind, ready_in_harts, units_in_harts}
use Rattle.engine_history.specs.Told.{others}

-- the next use of a hart, which isn't complete, holds back the younger ones
abbrev pub waits_in : ℕ → Use → Bool
waits_in h u = is_next h u && not (is_complete u)

abbrev pub blocked : ℕ → List Use → Bool
blocked h us = list_any (waits_in h) us

-- a use behind others is ready now
abbrev pub is_due : ℕ → List Use → Use → Bool
is_due h us u = is_next h u && (is_complete u && not (blocked h us))

abbrev pub ready_one : List UnitTable → (cycle h : ℕ) → List (List ℕ) → List Use → Use → Use
ready_one set cycle h st us u = if is_due h us u then with_ready cycle (outcome_of set (units_behind set is_complete h st us) u).result u else u

-- ---- one more use

pub push_ready : (set : List UnitTable) (cycle h : ℕ) (st : List (List ℕ)) (us : List Use) (u : Use) → ready_uses set cycle h st (us ++ u ∷ []) ≡ ready_uses set cycle h st us ++ ready_one set cycle h st us u ∷ []
push_ready set cycle h st [] u = go (is_next h u) (is_complete u)
  where
    now : Use
    now = with_ready cycle (outcome_of set st u).result u

    go : (s t : Bool) → (if not s then u ∷ [] else if t then now ∷ [] else u ∷ []) ≡ (if s && (t && true) then now else u) ∷ []
    go true true = refl
    go true false = refl
    go false t = refl
push_ready set cycle h st (x ∷ us) u =
    go (is_next h x) (is_complete x) (push_ready set cycle h st us u) (push_ready set cycle h (outcome_of set st x).state us u)
  where
    now : Use
    now = with_ready cycle (outcome_of set st x).result x

    later : List (List ℕ)
    later = (outcome_of set st x).state

    one : List (List ℕ) → Bool → Use
    one st b = if is_next h u && (is_complete u && not b) then with_ready cycle (outcome_of set st u).result u else u

    none : (a b : Bool) → (a && (b && false)) ≡ false
    none true true = refl
    none true false = refl
    none false b = refl

    go : (s t : Bool) → ready_uses set cycle h st (us ++ u ∷ []) ≡ ready_uses set cycle h st us ++ one (units_behind set is_complete h st us) (blocked h us) ∷ []
        → ready_uses set cycle h later (us ++ u ∷ []) ≡ ready_uses set cycle h later us ++ one (units_behind set is_complete h later us) (blocked h us) ∷ []
        → (if not s then x ∷ ready_uses set cycle h st (us ++ u ∷ []) else if t then now ∷ ready_uses set cycle h later (us ++ u ∷ []) else x ∷ (us ++ u ∷ []))
        ≡ (if not s then x ∷ ready_uses set cycle h st us else if t then now ∷ ready_uses set cycle h later us else x ∷ us)
        ++ one (if not s then units_behind set is_complete h st us else if t then units_behind set is_complete h later us else st) ((s && not t) || blocked h us) ∷ []
    go true true p q = ap (λ xs. now ∷ xs) q
    go true false p q = ap (λ t. x ∷ us ++ (if t then with_ready cycle (outcome_of set st u).result u else u) ∷ []) (sym (none (is_next h u) (is_complete u)))
    go false t p q = ap (λ xs. x ∷ xs) p

pub push_units : (set : List UnitTable) (h : ℕ) (st : List (List ℕ)) (us : List Use) (u : Use) → units_behind set is_complete h st (us ++ u ∷ [])
    ≡ (if is_due h us u then (outcome_of set (units_behind set is_complete h st us) u).state else units_behind set is_complete h st us)
push_units set h st [] u = go (is_next h u) (is_complete u)
  where
    go : (s t : Bool) → (if not s then st else if t then (outcome_of set st u).state else st) ≡ (if s && (t && true) then (outcome_of set st u).state else st)
    go true true = refl
    go true false = refl
    go false t = refl
push_units set h st (x ∷ us) u =
    go (is_next h x) (is_complete x) (push_units set h st us u) (push_units set h (outcome_of set st x).state us u)
  where
    later : List (List ℕ)
    later = (outcome_of set st x).state

    one : List (List ℕ) → Bool → List (List ℕ)
    one st b = if is_next h u && (is_complete u && not b) then (outcome_of set st u).state else st

    none : (a b : Bool) → (a && (b && false)) ≡ false
    none true true = refl
    none true false = refl
    none false b = refl

    go : (s t : Bool) → units_behind set is_complete h st (us ++ u ∷ []) ≡ one (units_behind set is_complete h st us) (blocked h us)
        → units_behind set is_complete h later (us ++ u ∷ []) ≡ one (units_behind set is_complete h later us) (blocked h us)
        → (if not s then units_behind set is_complete h st (us ++ u ∷ []) else if t then units_behind set is_complete h later (us ++ u ∷ []) else st)
        ≡ one (if not s then units_behind set is_complete h st us else if t then units_behind set is_complete h later us else st) ((s && not t) || blocked h us)
    go true true p q = q
    go true false p q = ap (λ t. if t then (outcome_of set st u).state else st) (sym (none (is_next h u) (is_complete u)))
    go false t p q = p

-- ---- the uses of a key that are passed over

abbrev pub Passed : ℕ → Key → List Use → Type 0
Passed h key [] = Unit {0}
Passed h key (u ∷ us) = (same_key u.key key ≡ true → is_next h u ≡ false) × Passed h key us

pub drop_blocked : (h : ℕ) (key : Key) (us : List Use) → Passed h key us → blocked h (others key us) ≡ blocked h us
drop_blocked h key [] p = refl
drop_blocked h key (u ∷ us) p = go (same_key u.key key) p.0 (drop_blocked h key us p.1)
  where
    go : (t : Bool) → (t ≡ true → is_next h u ≡ false) → blocked h (others key us) ≡ blocked h us → blocked h (if not t then u ∷ others key us else others key us) ≡ (waits_in h u || blocked h us)
    go true n r = r ∙ ap (λ s. (s && not (is_complete u)) || blocked h us) (sym (n refl))
    go false n r = ap (λ b. waits_in h u || b) r

pub drop_units : (set : List UnitTable) (h : ℕ) (key : Key) (st : List (List ℕ)) (us : List Use) → Passed h key us → units_behind set is_complete h st (others key us) ≡ units_behind set is_complete h st us
drop_units set h key st [] p = refl
drop_units set h key st (u ∷ us) p = go (same_key u.key key) p.0 (drop_units set h key st us p.1) (drop_units set h key (outcome_of set st u).state us p.1)
  where
    later : List (List ℕ)
    later = (outcome_of set st u).state

    go : (t : Bool) → (t ≡ true → is_next h u ≡ false) → units_behind set is_complete h st (others key us) ≡ units_behind set is_complete h st us
        → units_behind set is_complete h later (others key us) ≡ units_behind set is_complete h later us
        → units_behind set is_complete h st (if not t then u ∷ others key us else others key us) ≡ (if not (is_next h u) then units_behind set is_complete h st us else if is_complete u then units_behind set is_complete h later us else st)
    go true n r q = r ∙ ap (λ s. if not s then units_behind set is_complete h st us else if is_complete u then units_behind set is_complete h later us else st) (sym (n refl))
    go false n r q = ap₂ (λ xs ys. if not (is_next h u) then xs else if is_complete u then ys else st) r q

pub drop_ready : (set : List UnitTable) (cycle h : ℕ) (key : Key) (st : List (List ℕ)) (us : List Use) → Passed h key us → ready_uses set cycle h st (others key us) ≡ others key (ready_uses set cycle h st us)
drop_ready set cycle h key st [] p = refl
drop_ready set cycle h key st (u ∷ us) p = go (same_key u.key key) refl p.0 (drop_ready set cycle h key st us p.1) (drop_ready set cycle h key (outcome_of set st u).state us p.1)
  where
    later : List (List ℕ)
    later = (outcome_of set st u).state

    now : Use
    now = with_ready cycle (outcome_of set st u).result u

    go : (t : Bool) → same_key u.key key ≡ t → (t ≡ true → is_next h u ≡ false) → ready_uses set cycle h st (others key us) ≡ others key (ready_uses set cycle h st us)
        → ready_uses set cycle h later (others key us) ≡ others key (ready_uses set cycle h later us)
        → ready_uses set cycle h st (if not t then u ∷ others key us else others key us)
        ≡ others key (if not (is_next h u) then u ∷ ready_uses set cycle h st us else if is_complete u then now ∷ ready_uses set cycle h later us else u ∷ us)
    go true k n r q =
        r ∙ ap (λ t. if not t then u ∷ others key (ready_uses set cycle h st us) else others key (ready_uses set cycle h st us)) (sym k)
        ∙ ap (λ s. others key (if not s then u ∷ ready_uses set cycle h st us else if is_complete u then now ∷ ready_uses set cycle h later us else u ∷ us)) (sym (n refl))
    go false k n r q = on (is_next h u) (is_complete u)
      where
        keep : (v : Use) (us : List Use) → v.key ≡ u.key → v ∷ others key us ≡ others key (v ∷ us)
        keep v us e = ap (λ t. if not t then v ∷ others key us else others key us) (sym (ap (λ x. same_key x key) e ∙ k))

        on : (s t : Bool) → (if not s then u ∷ ready_uses set cycle h st (others key us) else if t then now ∷ ready_uses set cycle h later (others key us) else u ∷ others key us)
            ≡ others key (if not s then u ∷ ready_uses set cycle h st us else if t then now ∷ ready_uses set cycle h later us else u ∷ us)
        on true true = ap (λ xs. now ∷ xs) q ∙ keep now (ready_uses set cycle h later us) refl
        on true false = keep u us refl
        on false t = ap (λ xs. u ∷ xs) r ∙ keep u (ready_uses set cycle h st us) refl

-- what is passed over stays so
pub passed_ready : (set : List UnitTable) (cycle g h : ℕ) (key : Key) (st : List (List ℕ)) (us : List Use) → Passed h key us → Passed h key (ready_uses set cycle g st us)
passed_ready set cycle g h key st [] p = tt
passed_ready set cycle g h key st (u ∷ us) p = go (is_next g u) (is_complete u) (passed_ready set cycle g h key st us p.1) (passed_ready set cycle g h key (outcome_of set st u).state us p.1)
  where
    later : List (List ℕ)
    later = (outcome_of set st u).state

    now : Use
    now = with_ready cycle (outcome_of set st u).result u

    over : (a b c : Bool) → (a && (b && (c && false))) ≡ false
    over true true true = refl
    over true true false = refl
    over true false c = refl
    over false b c = refl

    go : (s t : Bool) → Passed h key (ready_uses set cycle g st us) → Passed h key (ready_uses set cycle g later us)
        → Passed h key (if not s then u ∷ ready_uses set cycle g st us else if t then now ∷ ready_uses set cycle g later us else u ∷ us)
    go true true a b = (λ k. over (u.key.hart == h) (is_accepted u) (not (is_killed u.decision)), b)
    go true false a b = (p.0, p.1)
    go false t a b = (p.0, a)

pub drop_harts : (set : List UnitTable) (cycle h : ℕ) (key : Key) (states : List (List (List ℕ))) (us : List Use) → ((g : ℕ) → Passed g key us) → ready_in_harts set cycle h states (others key us) ≡ others key (ready_in_harts set cycle h states us)
drop_harts set cycle h key [] us p = refl
drop_harts set cycle h key (st ∷ states) us p =
    ap (ready_in_harts set cycle (h + 1) states) (drop_ready set cycle h key st us (p h))
    ∙ drop_harts set cycle (h + 1) key states (ready_uses set cycle h st us) (λ g. passed_ready set cycle h g key st us (p g))

-- ---- one more use, in all harts

abbrev one_from : List UnitTable → (cycle h : ℕ) → List (List (List ℕ)) → List Use → Use → Use
one_from set cycle h [] us u = u
one_from set cycle h (st ∷ states) us u = one_from set cycle (h + 1) states (ready_uses set cycle h st us) (ready_one set cycle h st us u)

push_harts : (set : List UnitTable) (cycle h : ℕ) (states : List (List (List ℕ))) (us : List Use) (u : Use) → ready_in_harts set cycle h states (us ++ u ∷ []) ≡ ready_in_harts set cycle h states us ++ one_from set cycle h states us u ∷ []
push_harts set cycle h [] us u = refl
push_harts set cycle h (st ∷ states) us u =
    ap (ready_in_harts set cycle (h + 1) states) (push_ready set cycle h st us u)
    ∙ push_harts set cycle (h + 1) states (ready_uses set cycle h st us) (ready_one set cycle h st us u)

-- a use of another hart
not_due : (set : List UnitTable) (cycle h : ℕ) (st : List (List ℕ)) (us : List Use) (u : Use) → (u.key.hart == h) ≡ false → ready_one set cycle h st us u ≡ u
not_due set cycle h st us u n = ap (λ t. if (t && (is_accepted u && (not (is_killed u.decision) && is_none u.ready))) && (is_complete u && not (blocked h us)) then with_ready cycle (outcome_of set (units_behind set is_complete h st us) u).result u else u) n

one_hart : (set : List UnitTable) (cycle h : ℕ) (st : List (List ℕ)) (us : List Use) (u : Use) → (ready_one set cycle h st us u).key ≡ u.key
one_hart set cycle h st us u = go (is_due h us u)
  where
    go : (t : Bool) → (if t then with_ready cycle (outcome_of set (units_behind set is_complete h st us) u).result u else u).key ≡ u.key
    go true = refl
    go false = refl

one_low : (set : List UnitTable) (cycle h : ℕ) (states : List (List (List ℕ))) (us : List Use) (u : Use) → u.key.hart < h → one_from set cycle h states us u ≡ u
one_low set cycle h [] us u l = refl
one_low set cycle h (st ∷ states) us u l =
    ap (one_from set cycle (h + 1) states (ready_uses set cycle h st us)) (not_due set cycle h st us u (ne_eqb u.key.hart h (λ q. omega (arith, l, q))))
    ∙ one_low set cycle (h + 1) states (ready_uses set cycle h st us) u (omega (arith, l))

other_units : (set : List UnitTable) (cycle g h : ℕ) (s t : List (List ℕ)) (us : List Use) → g < h → units_behind set is_complete h t (ready_uses set cycle g s us) ≡ units_behind set is_complete h t us
other_units set cycle g h s t [] l = refl
other_units set cycle g h s t (u ∷ us) l =
    let passed = other_units set cycle g h s t us l in
    let applied = other_units set cycle g h s (outcome_of set t u).state us l in
    let ready = other_units set cycle g h (outcome_of set s u).state t us l in
    grind (arith, nat_tests)

other_blocked : (set : List UnitTable) (cycle g h : ℕ) (s : List (List ℕ)) (us : List Use) → g < h → blocked h (ready_uses set cycle g s us) ≡ blocked h us
other_blocked set cycle g h s [] l = refl
other_blocked set cycle g h s (u ∷ us) l =
    let passed = other_blocked set cycle g h s us l in
    let ready = other_blocked set cycle g h (outcome_of set s u).state us l in
    grind (arith, nat_tests)

other_one : (set : List UnitTable) (cycle g h : ℕ) (s t : List (List ℕ)) (us : List Use) (u : Use) → g < h → ready_one set cycle h t (ready_uses set cycle g s us) u ≡ ready_one set cycle h t us u
other_one set cycle g h s t us u l =
    ap₂ (λ b st. if is_next h u && (is_complete u && not b) then with_ready cycle (outcome_of set st u).result u else u) (other_blocked set cycle g h s us l) (other_units set cycle g h s t us l)

one_at : (set : List UnitTable) (cycle h i : ℕ) (states : List (List (List ℕ))) (us : List Use) (u : Use) → u.key.hart ≡ h + i → i < length states
    → one_from set cycle h states us u ≡ ready_one set cycle (h + i) (slice_index_or states i []) us u
one_at set cycle h i [] us u q l = absurd (omega (arith, l))
one_at set cycle h zero (st ∷ states) us u q l =
    one_low set cycle (h + 1) states (ready_uses set cycle h st us) (ready_one set cycle h st us u) (subst (λ (k : Key). k.hart < h + 1) (sym (one_hart set cycle h st us u)) (omega (arith, q)))
    ∙ (let z : h ≡ h + 0 = omega arith in ap (λ k. ready_one set cycle k st us u) z)
one_at set cycle h (suc i) (st ∷ states) us u q l =
    let z : h + 1 + i ≡ h + suc i = omega arith in
    ap (one_from set cycle (h + 1) states (ready_uses set cycle h st us)) (not_due set cycle h st us u (ne_eqb u.key.hart h (λ e. omega (arith, q, e))))
    ∙ one_at set cycle (h + 1) i states (ready_uses set cycle h st us) u (omega (arith, q)) (omega (arith, l))
    ∙ ap (λ k. ready_one set cycle k (slice_index_or states i []) (ready_uses set cycle h st us) u) z
    ∙ other_one set cycle h (h + suc i) st (slice_index_or states i []) us u (omega arith)

-- one more use of a hart that there is
pub push_at : (set : List UnitTable) (cycle : ℕ) (states : List (List (List ℕ))) (us : List Use) (u : Use) → u.key.hart < length states
    → ready_in_harts set cycle 0 states (us ++ u ∷ []) ≡ ready_in_harts set cycle 0 states us ++ ready_one set cycle u.key.hart (slice_index_or states u.key.hart []) us u ∷ []
push_at set cycle states us u l =
    let z : 0 + u.key.hart ≡ u.key.hart = omega arith in
    push_harts set cycle 0 states us u
    ∙ ap (λ v. ready_in_harts set cycle 0 states us ++ v ∷ []) (one_at set cycle 0 u.key.hart states us u (sym z) l ∙ ap (λ k. ready_one set cycle k (slice_index_or states u.key.hart []) us u) z)

-- ---- the accumulators of each hart

pub units_length : (set : List UnitTable) (h : ℕ) (states : List (List (List ℕ))) (us : List Use) → length (units_in_harts set h states us) ≡ length states
units_length set h [] us = refl
units_length set h (st ∷ states) us = let r = units_length set (h + 1) states us in omega (arith, r)

units_from : (set : List UnitTable) (h i : ℕ) (states : List (List (List ℕ))) (us : List Use) → i < length states → slice_index_or (units_in_harts set h states us) i [] ≡ units_behind set is_complete (h + i) (slice_index_or states i []) us
units_from set h i [] us l = absurd (omega (arith, l))
units_from set h zero (st ∷ states) us l = let z : h ≡ h + 0 = omega arith in ap (λ k. units_behind set is_complete k st us) z
units_from set h (suc i) (st ∷ states) us l =
    let z : h + 1 + i ≡ h + suc i = omega arith in
    units_from set (h + 1) i states us (omega (arith, l)) ∙ ap (λ k. units_behind set is_complete k (slice_index_or states i []) us) z

pub units_at : (set : List UnitTable) (i : ℕ) (states : List (List (List ℕ))) (us : List Use) → i < length states → slice_index_or (units_in_harts set 0 states us) i [] ≡ units_behind set is_complete i (slice_index_or states i []) us
units_at set i states us l = let z : 0 + i ≡ i = omega arith in units_from set 0 i states us l ∙ ap (λ k. units_behind set is_complete k (slice_index_or states i []) us) z
