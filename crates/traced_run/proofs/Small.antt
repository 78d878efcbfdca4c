-- A lawful setup has few cycles.
use Rattle.std.proofs.Common.{◌≡◌, ◌≤◌, ◌+◌, ◌*◌, ◌^◌, ℕ, List, [], ◌∷◌, ◌++◌, max, fold, refl, sym, ap, subst, ◌∙◌, arith}
use Rattle.xif_drive.specs.Scripts.{Lists, IsLawful, greatest, largest_of}
use Rattle.cycle_spec.specs.Run.{Setup, drain_limit}
use Rattle.xif_sim.specs.Setup.{IsLawfulSetup}
use Rattle.xif_sim.specs.Simulating.{begun, cycles_left}

-- the greatest of a list and some other numbers
with-other : (n a b : ℕ) (xs : List ℕ) → a ≤ n → fold max b xs ≤ n → fold max (max b a) xs ≤ n
with-other n a b [] h k = omega (arith, h, k)
with-other n a b (x ∷ xs) h k =
    let same : max (max b a) x ≡ max (max b x) a = omega arith in
    subst (λ m. fold max m xs ≤ n) (sym same) (with-other n a (max b x) xs h k)

both : (n b : ℕ) (xs ys : List ℕ) → fold max b xs ≤ n → fold max 0 ys ≤ n → fold max b (xs ++ ys) ≤ n
both n b [] ys h k =
    let same : max 0 b ≡ b = omega arith in
    subst (λ m. fold max m ys ≤ n) same (with-other n b 0 ys h k)
both n b (x ∷ xs) ys h k = both n (max b x) xs ys h k

script-small : (s : Lists) → IsLawful s → largest_of s ≤ 200
script-small s l =
    both 200 0 (s.issue ++ s.register ++ s.operand ++ s.result) s.take
    (both 200 0 (s.issue ++ s.register ++ s.operand) s.result
    (both 200 0 (s.issue ++ s.register) s.operand
    (both 200 0 s.issue s.register l.issue.small l.register.small) l.operand.small) l.result.small) l.take.small

product-small : (a b : ℕ) → a ≤ 32 → b ≤ 1640 → a * b ≤ 52480
product-small a b h k = grind (arith, h, k)

pub few-cycles : (s : Setup) → IsLawfulSetup s → cycles_left (begun s) ≤ 2 ^ 32
few-cycles s l =
    let largest = script-small s.script l.script in
    let drain : drain_limit s ≤ 52480 = product-small s.window (8 * largest_of s.script + 40) l.window.1 (omega (arith, largest)) in
    omega (arith, drain, l.budget.1)
