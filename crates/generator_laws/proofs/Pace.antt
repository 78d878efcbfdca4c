-- The delays of a seed are small, so that the budget is enough.
use Rattle.std.proofs.Common.{◌≤◌, ◌+◌, ◌*◌, ◌/◌, ◌++◌, ℕ, List, [], ◌∷◌, max, arith}
use Rattle.std.specs.List.{fold, AllByRecursion}
use Rattle.std.proofs.Math.Nat.{mul-le-mul_left}
use Rattle.std.proofs.lemmas.Nat.{le-div}
use Rattle.xif_drive.specs.Scripts.{largest_of}
use Rattle.generator.specs.Generated.{drawn, four_drawn, fourth_state, script_of, budget_of}

abbrev AtMost : (n : ℕ) → List ℕ → Type 0
AtMost n = AllByRecursion (λ d. d ≤ n)

max-small : (a b n : ℕ) → a ≤ n → b ≤ n → max a b ≤ n
max-small a b n h k = omega (arith, h, k)

fold-small : (n a : ℕ) (ds : List ℕ) → a ≤ n → AtMost n ds → fold max a ds ≤ n
fold-small n a [] h all = h
fold-small n a (d ∷ ds) h all = fold-small n (max a d) ds (max-small a d n h all.0) all.1

both-small : (n : ℕ) (ds es : List ℕ) → AtMost n ds → AtMost n es → AtMost n (ds ++ es)
both-small n [] es h k = k
both-small n (d ∷ ds) es h k = (h.0, both-small n ds es h.1 k)

drawn-small : (s : ℕ) → drawn s ≤ 3
drawn-small s = omega arith

four-small : (s : ℕ) → AtMost 3 (four_drawn s)
four-small s = (drawn-small _, (drawn-small _, (drawn-small _, (drawn-small _, tt))))

pub delays-small : (seed : ℕ) → largest_of (script_of seed) ≤ 3
delays-small seed =
    let s1 : ℕ = fourth_state seed in
    let s2 : ℕ = fourth_state s1 in
    let s3 : ℕ = fourth_state s2 in
    let s4 : ℕ = fourth_state s3 in
    fold-small 3 0 (four_drawn seed ++ four_drawn s1 ++ four_drawn s2 ++ four_drawn s3 ++ four_drawn s4) (omega arith)
    (both-small 3 (four_drawn seed) (four_drawn s1 ++ four_drawn s2 ++ four_drawn s3 ++ four_drawn s4) (four-small seed)
    (both-small 3 (four_drawn s1) (four_drawn s2 ++ four_drawn s3 ++ four_drawn s4) (four-small s1)
    (both-small 3 (four_drawn s2) (four_drawn s3 ++ four_drawn s4) (four-small s2)
    (both-small 3 (four_drawn s3) (four_drawn s4) (four-small s3) (four-small s4)))))

-- the budget is enough for two more than there are
pub budget-enough : (count d : ℕ) → d ≤ 3 → 3 * count + 8 ≤ budget_of count / (8 * d + 40)
budget-enough count d h =
    let pace : 8 * d + 40 ≤ 64 = omega arith in
    let all : (3 * count + 8) * (8 * d + 40) ≤ (3 * count + 8) * 64 = mul-le-mul_left (3 * count + 8) pace in
    le-div (3 * count + 8) (budget_of count) (8 * d + 40) (omega arith) (omega arith)

pub cycles-few : (count d n : ℕ) → d ≤ 3 → n ≤ (3 * count + 6 + 1) * (8 * d + 40) → n ≤ 64 * (3 * count + 7)
cycles-few count d n h k =
    let pace : 8 * d + 40 ≤ 64 = omega arith in
    let all : (3 * count + 6 + 1) * (8 * d + 40) ≤ (3 * count + 6 + 1) * 64 = mul-le-mul_left (3 * count + 6 + 1) pace in
    omega arith
