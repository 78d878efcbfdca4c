-- What the lanes carry fits their signals.
use Rattle.std.proofs.Common.{◌≡◌, ◌<◌, ◌≤◌, ◌^◌, ◌==◌, ℕ, true, if◌then◌else◌, ⊎_elim, refl, sym, subst, arith}
use Rattle.std.proofs.lemmas.Bool.{cases_eq, eq-eqb, ne_eqb}
use Rattle.xif_base.specs.declared.params.Params.{Params}
use Rattle.xif_base.specs.Params.{IsInRange}
use Rattle.cycle_spec.specs.declared.entry.Operand.{Operand}
use Rattle.cycle_spec.specs.declared.entry.Operand.TheVariants.{Here, NotYet}
use Rattle.cycle_spec.specs.Flight.{is_here, value_or_zero}

-- a half that no lane has is 0
pub unread : (lanes lane : ℕ) (o : Operand) → (is_here o ≡ true → lane < lanes) → lanes ≤ lane → value_or_zero o ≡ 0
unread lanes lane (Here value) h l = absurd (omega (arith, h refl, l))
unread lanes lane NotYet h l = refl

-- only a lane of 64 bits carries a high half
pub port : (p : Params) (lane n : ℕ) (high : Operand) → IsInRange p → (is_here high ≡ true → lane < p.dual_read) → n < 2 ^ 64 → (value_or_zero high ≡ 0 → n < 2 ^ 32) → n < 2 ^ p.rfr_width
port p lane n high r h pair single =
    ⊎_elim
    (λ q. subst (λ k. n < 2 ^ k) (sym q) (single (alone high h q)))
    (λ q. subst (λ k. n < 2 ^ k) (sym q) pair)
    r.rfr_width
  where
    alone : (o : Operand) → (is_here o ≡ true → lane < p.dual_read) → p.rfr_width ≡ 32 → value_or_zero o ≡ 0
    alone (Here value) h q =
        let l : lane < p.dual_read = h refl in
        let wide : p.rfr_width ≡ 64 = r.rfr_pairs (omega (arith, l)) in
        absurd (omega (arith, q, wide))
    alone NotYet h q = refl

-- the third lane is there or not
pub third : (n lanes width : ℕ) → lanes ≤ 3 → n < 2 ^ width → (lanes ≤ 2 → n ≡ 0) → n < 2 ^ (if lanes == 3 then width else 0)
third n lanes width few fits none =
    ⊎_elim
    (λ q. subst (λ t. n < 2 ^ (if t then width else 0)) (sym (eq-eqb lanes 3 q)) fits)
    (λ q. subst (λ t. n < 2 ^ (if t then width else 0)) (sym (ne_eqb lanes 3 q)) (omega (arith, none (omega (arith, few, q)))))
    (cases_eq lanes 3)
