-- The lines of registers, one more at a time.
use Rattle.std.proofs.Common.{◌≡◌, ◌≤◌, ◌+◌, ◌-◌, ◌++◌, ◌==◌, ℕ, suc, List, [], sym, ap, ◌∙◌, refl, arith, append_assoc, append-nil}
use Rattle.std.specs.List.{range_with_len, flat_map}
use Rattle.std.specs.Prelude.{slice_index}
use Rattle.std.proofs.lemmas.Bool.Decides.{nat_tests}
use Rattle.inorder_machine.specs.Machine.{register_in}
use Rattle.xif_cli.specs.Report.{register_line, register_lines}
use Rattle.xif_cli.proofs.MemoryLines.{flat_map-from}

-- the lines of the registers from 1 on below a number
pub lines_below : List ℕ → ℕ → List ℕ
lines_below registers n = flat_map (λ i. register_line i (register_in registers i)) (range_with_len 1 (n - 1))

-- none of them are written at first
pub below-none : (registers text : List ℕ) → text ≡ text ++ lines_below registers 1
unfolding lines_below
below-none registers text = sym (append-nil text)

pub below-more : (registers : List ℕ) (n : ℕ) → 1 ≤ n → lines_below registers (n + 1) ≡ lines_below registers n ++ register_line n (register_in registers n)
unfolding lines_below
below-more registers n h =
    let line : ℕ → List ℕ = λ i. register_line i (register_in registers i) in
    let less : n + 1 - 1 ≡ n - 1 + 1 = omega (arith, h) in
    let same : 1 + (n - 1) ≡ n = omega (arith, h) in
    ap (λ k. flat_map line (range_with_len 1 k)) less ∙ flat_map-from line 1 (n - 1)
    ∙ ap (λ k. flat_map line (range_with_len 1 (n - 1)) ++ line k) same

-- the value of a register that isn't x0
pub register-is : (registers : List ℕ) (n : ℕ) → 1 ≤ n → slice_index registers n ≡ register_in registers n
register-is registers n h = grind (arith, nat_tests)

-- a line more is written
pub written-more : (registers old before now : List ℕ) (n value : ℕ) → 1 ≤ n
    → before ≡ old ++ lines_below registers n → now ≡ before ++ register_line n value → value ≡ register_in registers n
    → now ≡ old ++ lines_below registers (n + 1)
written-more registers old before now n value h so_far pushed is =
    pushed ∙ ap (λ v. before ++ register_line n v) is
    ∙ ap (λ text. text ++ register_line n (register_in registers n)) so_far
    ∙ append_assoc old (lines_below registers n) (register_line n (register_in registers n))
    ∙ ap (λ lines. old ++ lines) (sym (below-more registers n h))

-- those below 32 are all
pub written-all : (registers old now : List ℕ) (n : ℕ) → n ≡ 32 → now ≡ old ++ lines_below registers n → now ≡ old ++ register_lines registers
unfolding lines_below register_lines
written-all registers old now n end is = is ∙ ap (λ k. old ++ flat_map (λ i. register_line i (register_in registers i)) (range_with_len 1 (k - 1))) end
