-- The uses of one hart in a list of uses, and the use at one place among the others.
use Rattle.std.proofs.Common.{if◌then◌else◌, ◌≡◌, ◌≢◌, ◌++◌, ◌==◌, ◌&&◌, ℕ, Bool, true, false, List, [], ◌∷◌, map, filter, refl, sym, ap, ap₂, ◌∙◌, subst, arith}
use Rattle.std.proofs.lemmas.Bool.{eqb-true, eq-eqb, ne_eqb}
use Rattle.xif_base.specs.declared.params.Key.{Key}
use Rattle.xif_session.specs.Facts.{same_key}
use Rattle.cycle_spec.specs.declared.use_of.Use.{Use}
use Rattle.cycle_lists.specs.Lists.{Each, Pairs}
use Rattle.cycle_lists.proofs.Tests.{and-left, and-right, false-or}
use Rattle.cycle_lists.proofs.Every.{Each-append, Each-from, Pairs-older, Pairs-younger}
use Rattle.cycle_paired.specs.Paired.{Older}
use Rattle.hart_laws.specs.Harts.{is_of}

-- ---- what is done to each use

-- a change that leaves the uses of a hart
pub of-map : (hart : ℕ) (f : Use → Use) (us : List Use) → ((u : Use) → (f u).key ≡ u.key) → Each (λ u. is_of hart u ≡ true → f u ≡ u) us → filter (is_of hart) (map f us) ≡ filter (is_of hart) us
of-map hart f [] k h = refl
of-map hart f (u ∷ us) k h =
    ap (λ (q : Key). if q.hart == hart then f u ∷ filter (is_of hart) (map f us) else filter (is_of hart) (map f us)) (k u)
    ∙ go (is_of hart u) refl (of-map hart f us k h.1)
  where
    go : (t : Bool) → is_of hart u ≡ t → filter (is_of hart) (map f us) ≡ filter (is_of hart) us → (if t then f u ∷ filter (is_of hart) (map f us) else filter (is_of hart) (map f us)) ≡ (if t then u ∷ filter (is_of hart) us else filter (is_of hart) us)
    go true e r = ap₂ (λ x xs. x ∷ xs) (h.0 e) r
    go false e r = r

-- two changes that agree on each use
pub map-agree : (f g : Use → Use) (us : List Use) → Each (λ u. f u ≡ g u) us → map f us ≡ map g us
map-agree f g [] h = refl
map-agree f g (u ∷ us) h = ap₂ (λ x xs. x ∷ xs) h.0 (map-agree f g us h.1)

-- ---- one use, and the others

hart-is : (hart : ℕ) (u : Use) → is_of hart u ≡ true → u.key.hart ≡ hart
hart-is hart u h = eqb-true u.key.hart hart h

-- of each that starts with it, being it
pub one-start : (P : Use → Type 0) (us front : List Use) (u : Use) (back : List Use) → Pairs Older us → us ≡ front ++ u ∷ back → P u → Each (λ v. v.start ≡ u.start → P v) us
one-start P us front u back o here p =
    let pairs : Pairs Older (front ++ u ∷ back) = subst (Pairs Older) here o in
    subst (Each (λ v. v.start ≡ u.start → P v)) (sym here)
    (Each-append (λ v. v.start ≡ u.start → P v) front (u ∷ back)
    (Each-from (λ x. Older x u) (λ v. v.start ≡ u.start → P v) front (λ v r q. let l = r.rises in absurd (omega (arith, l, q))) (Pairs-older Older front u back pairs)) (
      λ q. p,
      Each-from (Older u) (λ v. v.start ≡ u.start → P v) back (λ v r q. let l = r.rises in absurd (omega (arith, l, q))) (Pairs-younger Older front u back pairs),
    ))

-- no use of another hart starts with it
pub other-starts : (hart : ℕ) (us front : List Use) (u : Use) (back : List Use) → Pairs Older us → us ≡ front ++ u ∷ back → u.key.hart ≢ hart → Each (λ v. is_of hart v ≡ true → (v.start == u.start) ≡ false) us
other-starts hart us front u back o here n =
    Each-from (λ v. v.start ≡ u.start → v.key.hart ≢ hart) (λ v. is_of hart v ≡ true → (v.start == u.start) ≡ false) us
    (λ v k t. ne_eqb v.start u.start (λ q. k q (hart-is hart v t)))
    (one-start (λ v. v.key.hart ≢ hart) us front u back o here n)

same-in : (a b : Key) → same_key a b ≡ true → (a.hart ≡ b.hart) × (a.id ≡ b.id)
same-in a b h = (eqb-true a.hart b.hart (and-left (a.hart == b.hart) (a.id == b.id) h), eqb-true a.id b.id (and-right (a.hart == b.hart) (a.id == b.id) h))

same-itself : (a : Key) → same_key a a ≡ true
same-itself a = ap₂ (λ x y. x && y) (eq-eqb a.hart a.hart refl) (eq-eqb a.id a.id refl)

-- what starts with it is what has its key
pub same-use : (us front : List Use) (u : Use) (back : List Use) → Pairs Older us → us ≡ front ++ u ∷ back → Each (λ v. (v.start == u.start) ≡ same_key v.key u.key) us
same-use us front u back o here =
    let pairs : Pairs Older (front ++ u ∷ back) = subst (Pairs Older) here o in
    let P = λ (v : Use). (v.start == u.start) ≡ same_key v.key u.key in
    subst (Each P) (sym here)
    (Each-append P front (u ∷ back)
    (Each-from (λ x. Older x u) P front (λ v r. before v r) (Pairs-older Older front u back pairs)) (
      eq-eqb u.start u.start refl ∙ sym (same-itself u.key),
      Each-from (Older u) P back (λ v r. behind v r) (Pairs-younger Older front u back pairs),
    ))
  where
    before : (v : Use) → Older v u → (v.start == u.start) ≡ same_key v.key u.key
    before v r =
        let l = r.rises in
        ne_eqb v.start u.start (λ q. omega (arith, l, q))
        ∙ sym (false-or (same_key v.key u.key) (λ t. r.apart (same-in v.key u.key t).0 (same-in v.key u.key t).1))

    behind : (v : Use) → Older u v → (v.start == u.start) ≡ same_key v.key u.key
    behind v r =
        let l = r.rises in
        ne_eqb v.start u.start (λ q. omega (arith, l, q))
        ∙ sym (false-or (same_key v.key u.key) (λ t. r.apart (sym (same-in v.key u.key t).0) (sym (same-in v.key u.key t).1)))
