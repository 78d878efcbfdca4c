-- The in-order machine from the first instruction of the program to its last.
use Rattle.std.proofs.Common.{◌≡◌, ◌≤◌, ◌<◌, ◌+◌, ◌-◌, ◌*◌, ◌/◌, ◌%◌, ◌^◌, ◌++◌, ℕ, zero, suc, List, length, get_or, replicate, Some, refl, sym, ap, ◌∙◌, subst, arith, lit<}
use Rattle.std.specs.Int.{w32, to_le_bytes}
use Rattle.std.specs.List.{flat_map, AllByRecursion}
use Rattle.std.proofs.Math.Nat.{mul-le-mul}
use Rattle.xif_image.specs.Region.{Region, word_at}
use Rattle.inorder_machine.specs.declared.line.Stepped.TheVariants.{Stop}
use Rattle.inorder_machine.specs.declared.stop.StopCause.TheVariants.{Ecall}
use Rattle.inorder_machine.specs.Machine.{State, next_step}
use Rattle.inorder_machine.specs.After.{next_state, after}
use Rattle.inorder_machine.proofs.Retirements.{after-more}
use Rattle.generator.specs.Generated.{lui_word, addi_word, upper_bits, lower_bits, program_of, program_bytes, memory_of}
use Rattle.generator_laws.proofs.Words.{parts-add, upper-small, lower-small, lui-small, addi-small, word-there, region}
use Rattle.generator_laws.proofs.Steps.{extension, machine, load-upper-x1, load-lower-x1, load-upper-x2, load-lower-x2, accumulates, counts-down, branches-back, branches-on, reads-low, reads-high, calls}

-- the words of the program lie in memory
pub record Holds (seed count : ℕ) (m : Region) : Type 0 where
  pub w0 : word_at m 0 ≡ Some (lui_word 1 (upper_bits count))
  pub w1 : word_at m 4 ≡ Some (addi_word 1 (lower_bits count))
  pub w2 : word_at m 8 ≡ Some (lui_word 2 (upper_bits seed))
  pub w3 : word_at m 12 ≡ Some (addi_word 2 (lower_bits seed))
  pub w4 : word_at m 16 ≡ Some 65547
  pub w5 : word_at m 20 ≡ Some 4293951635
  pub w6 : word_at m 24 ≡ Some 4261453027
  pub w7 : word_at m 28 ≡ Some 8587
  pub w8 : word_at m 32 ≡ Some 25099
  pub w9 : word_at m 36 ≡ Some 115

-- the machine comes to a state in so many steps
abbrev Comes : (n : ℕ) → (s t : State) → Type 0
Comes n s t = after extension n s ≡ Some t

one-more : (n : ℕ) (s t u : State) → Comes n s t → next_state extension t ≡ Some u → Comes (n + 1) s u
one-more n s t u come step = after-more extension n s t come ∙ step

abbrev pub start : Region → State
start m = machine m 0 0 0 0 0 0

loaded-both : (seed count : ℕ) (m : Region) → seed < 2 ^ 32 → count < 2 ^ 32 → Holds seed count m → Comes 4 (start m) (machine m 16 count seed 0 0 0)
loaded-both seed count m hs hc h =
    let t1 : State = machine m 4 (2 ^ 12 * upper_bits count) 0 0 0 0 in
    let t2 : State = machine m 8 count 0 0 0 0 in
    let t3 : State = machine m 12 count (2 ^ 12 * upper_bits seed) 0 0 0 in
    let t4 : State = machine m 16 count seed 0 0 0 in
    let s1 : Comes 1 (start m) t1 = one-more 0 (start m) (start m) t1 refl (load-upper-x1 extension m (upper_bits count) (upper-small count) h.w0) in
    let s2 : Comes 2 (start m) t2 =
    one-more 1 (start m) t1 t2 s1
    (load-lower-x1 extension m (2 ^ 12 * upper_bits count) (lower_bits count) (lower-small count) h.w1 ∙ ap (λ v. Some (machine m 8 v 0 0 0 0)) (parts-add count hc))
    in
    let s3 : Comes 3 (start m) t3 = one-more 2 (start m) t2 t3 s2 (load-upper-x2 extension m count (upper_bits seed) (upper-small seed) h.w2) in
    one-more 3 (start m) t3 t4 s3
    (load-lower-x2 extension m count (2 ^ 12 * upper_bits seed) (lower_bits seed) (lower-small seed) h.w3 ∙ ap (λ v. Some (machine m 16 count v 0 0 0)) (parts-add seed hs))

-- a round, up to its branch
round : (seed count : ℕ) (m : Region) (s : State) (n k sum : ℕ) → seed < 2 ^ 32 → k + 1 < 2 ^ 32 → sum + seed < 2 ^ 64 → Holds seed count m
    → Comes n s (machine m 16 (k + 1) seed 0 0 sum) → Comes (n + 2) s (machine m 24 k seed 0 0 (sum + seed))
round seed count m s n k sum hs hk hsum h come =
    let t1 : State = machine m 20 (k + 1) seed 0 0 (sum + seed) in
    let t2 : State = machine m 24 k seed 0 0 (sum + seed) in
    let s1 : Comes (n + 1) s t1 = one-more n s (machine m 16 (k + 1) seed 0 0 sum) t1 come (accumulates m (k + 1) seed sum hs hsum h.w4) in
    let s2 : Comes (n + 1 + 1) s t2 = one-more (n + 1) s t1 t2 s1 (counts-down extension m k seed (sum + seed) hk h.w5) in
    let two : n + 1 + 1 ≡ n + 2 = omega arith in
    subst (λ j. Comes j s t2) two s2

-- so many rounds and one more
rounds : (seed count : ℕ) (m : Region) (s : State) → seed < 2 ^ 32 → Holds seed count m → (k n sum : ℕ) → k + 1 < 2 ^ 32 → sum + (k + 1) * seed < 2 ^ 64
    → Comes n s (machine m 16 (k + 1) seed 0 0 sum) → Comes (n + 3 * (k + 1)) s (machine m 28 0 seed 0 0 (sum + (k + 1) * seed))
rounds seed count m s hs h zero n sum hk hsum come =
    let once : (0 + 1) * seed ≡ seed = omega arith in
    let step : Comes (n + 2) s (machine m 24 0 seed 0 0 (sum + seed)) = round seed count m s n 0 sum hs hk (omega arith) h come in
    let out : Comes (n + 2 + 1) s (machine m 28 0 seed 0 0 (sum + seed)) =
    one-more (n + 2) s (machine m 24 0 seed 0 0 (sum + seed)) (machine m 28 0 seed 0 0 (sum + seed)) step (branches-on extension m seed (sum + seed) h.w6)
    in
    let three : n + 2 + 1 ≡ n + 3 = omega arith in
    subst (λ j. Comes j s (machine m 28 0 seed 0 0 (sum + (0 + 1) * seed))) three (subst (λ v. Comes (n + 2 + 1) s (machine m 28 0 seed 0 0 (sum + v))) (sym once) out)
rounds seed count m s hs h (suc k) n sum hk hsum come =
    let more : (suc k + 1) * seed ≡ seed + (k + 1) * seed = grind arith in
    let step : Comes (n + 2) s (machine m 24 (suc k) seed 0 0 (sum + seed)) = round seed count m s n (suc k) sum hs hk (omega arith) h come in
    let same : suc k ≡ k + 1 = omega arith in
    let at : Comes (n + 2) s (machine m 24 (k + 1) seed 0 0 (sum + seed)) = subst (λ j. Comes (n + 2) s (machine m 24 j seed 0 0 (sum + seed))) same step in
    let back : Comes (n + 2 + 1) s (machine m 16 (k + 1) seed 0 0 (sum + seed)) =
    one-more (n + 2) s (machine m 24 (k + 1) seed 0 0 (sum + seed)) (machine m 16 (k + 1) seed 0 0 (sum + seed)) at (branches-back extension m k seed (sum + seed) h.w6)
    in
    let rest : Comes (n + 2 + 1 + 3 * (k + 1)) s (machine m 28 0 seed 0 0 (sum + seed + (k + 1) * seed)) =
    rounds seed count m s hs h k (n + 2 + 1) (sum + seed) (omega arith) (omega arith) back
    in
    let steps : n + 2 + 1 + 3 * (k + 1) ≡ n + 3 * (suc k + 1) = omega arith in
    let total : sum + seed + (k + 1) * seed ≡ sum + (suc k + 1) * seed = omega arith in
    subst (λ j. Comes j s (machine m 28 0 seed 0 0 (sum + (suc k + 1) * seed))) steps (subst (λ v. Comes (n + 2 + 1 + 3 * (k + 1)) s (machine m 28 0 seed 0 0 v)) total rest)

-- the last state, whose instruction is the ECALL
abbrev pub last : (seed count : ℕ) → Region → State
last seed count m = machine m 36 0 seed (count * seed % 2 ^ 32) (count * seed / 2 ^ 32) (count * seed)

pub comes-to-the-last : (seed count : ℕ) (m : Region) → seed < 2 ^ 32 → count < 2 ^ 32 → 0 < count → count * seed < 2 ^ 64 → Holds seed count m → after extension (3 * count + 6) (start m) ≡ Some (last seed count m)
comes-to-the-last seed count m hs hc some small h =
    let k : ℕ = count - 1 in
    let is : k + 1 ≡ count = omega arith in
    let begun : Comes 4 (start m) (machine m 16 (k + 1) seed 0 0 0) = subst (λ j. Comes 4 (start m) (machine m 16 j seed 0 0 0)) (sym is) (loaded-both seed count m hs hc h) in
    let bound : 0 + (k + 1) * seed < 2 ^ 64 = subst (λ j. 0 + j * seed < 2 ^ 64) (sym is) (omega arith) in
    let around : Comes (4 + 3 * (k + 1)) (start m) (machine m 28 0 seed 0 0 (0 + (k + 1) * seed)) =
    rounds seed count m (start m) hs h k 4 0 (omega arith) bound begun
    in
    let counted : Comes (4 + 3 * count) (start m) (machine m 28 0 seed 0 0 (0 + count * seed)) =
    subst (λ j. Comes (4 + 3 * j) (start m) (machine m 28 0 seed 0 0 (0 + j * seed))) is around
    in
    let total : 0 + count * seed ≡ count * seed = omega arith in
    let sum : Comes (4 + 3 * count) (start m) (machine m 28 0 seed 0 0 (count * seed)) =
    subst (λ v. Comes (4 + 3 * count) (start m) (machine m 28 0 seed 0 0 v)) total counted
    in
    let low : Comes (4 + 3 * count + 1) (start m) (machine m 32 0 seed (count * seed % 2 ^ 32) 0 (count * seed)) =
    one-more (4 + 3 * count) (start m) (machine m 28 0 seed 0 0 (count * seed)) (machine m 32 0 seed (count * seed % 2 ^ 32) 0 (count * seed)) sum
    (reads-low m 0 seed (count * seed) h.w7)
    in
    let high : Comes (4 + 3 * count + 1 + 1) (start m) (last seed count m) =
    one-more (4 + 3 * count + 1) (start m) (machine m 32 0 seed (count * seed % 2 ^ 32) 0 (count * seed)) (last seed count m) low
    (reads-high m 0 seed (count * seed % 2 ^ 32) (count * seed) small h.w8)
    in
    let steps : 4 + 3 * count + 1 + 1 ≡ 3 * count + 6 = omega arith in
    subst (λ j. Comes j (start m) (last seed count m)) steps high

pub stops-at-the-last : (seed count : ℕ) (m : Region) → Holds seed count m → next_step extension (last seed count m) ≡ Stop Ecall
stops-at-the-last seed count m h = calls extension m 0 seed (count * seed % 2 ^ 32) (count * seed / 2 ^ 32) (count * seed) h.w9

-- ---- where the program lies

words-small : (seed count : ℕ) → AllByRecursion (λ w. w < 2 ^ 32) (program_of seed count)
words-small seed count =
    let c0 = lui-small 1 (upper_bits count) (omega arith) (upper-small count) in
    let c1 = addi-small 1 (lower_bits count) (omega arith) (lower-small count) in
    let s0 = lui-small 2 (upper_bits seed) (omega arith) (upper-small seed) in
    let s1 = addi-small 2 (lower_bits seed) (omega arith) (lower-small seed) in
    (c0, (c1, (s0, (s1, (lit< tt, (lit< tt, (lit< tt, (lit< tt, (lit< tt, (lit< tt, tt))))))))))

holds-in : (seed count : ℕ) (rest : List ℕ) → Holds seed count (region (flat_map (to_le_bytes w32) (program_of seed count) ++ rest))
holds-in seed count rest = record {
  w0 = there 0 (omega arith);
  w1 = there 1 (omega arith);
  w2 = there 2 (omega arith);
  w3 = there 3 (omega arith);
  w4 = there 4 (omega arith);
  w5 = there 5 (omega arith);
  w6 = there 6 (omega arith);
  w7 = there 7 (omega arith);
  w8 = there 8 (omega arith);
  w9 = there 9 (omega arith);
}
  where
    there : (i : ℕ) → i < 10 → word_at (region (flat_map (to_le_bytes w32) (program_of seed count) ++ rest)) (4 * i) ≡ Some (get_or (program_of seed count) i 0)
    there i h = word-there (program_of seed count) rest i (words-small seed count) h

pub holds : (seed count : ℕ) → Holds seed count (memory_of seed count)
holds seed count = holds-in seed count (replicate (4096 - length (program_bytes seed count)) 0)

pub product-small : (seed count : ℕ) → seed < 2 ^ 32 → count < 2 ^ 32 → count * seed < 2 ^ 64
product-small seed count h k =
    let product : count * seed ≤ (2 ^ 32 - 1) * (2 ^ 32 - 1) =
    mul-le-mul {n₁ = count} {m₁ = seed} {n₂ = 2 ^ 32 - 1} {m₂ = 2 ^ 32 - 1} (omega arith) (omega arith)
    in
    omega arith
