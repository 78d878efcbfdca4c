-- Drawn delays are small, so that a script of them is lawful.
use Rattle.std.proofs.Common.{◌≡◌, ◌≤◌, ◌<◌, ◌%◌, ◌/◌, ℕ, List, [], ◌∷◌, length, max, refl, ap, ◌∙◌, arith}
use Rattle.xif_drive.specs.Scripts.{Lists, IsLawfulList, IsLawful}
use Rattle.generator.specs.Generated.{next_state, drawn, four_drawn, fourth_state, script_of}

max-small : (a b n : ℕ) → a ≤ n → b ≤ n → max a b ≤ n
max-small a b n h k = omega (arith, h, k)

drawn-small : (s : ℕ) → drawn s ≤ 200
drawn-small s = omega arith

four-lawful : (s : ℕ) → IsLawfulList (four_drawn s)
four-lawful s = record {
  some = omega arith;
  short = omega arith;
  small = max-small _ _ 200 (max-small _ _ 200 (max-small _ _ 200 (max-small _ _ 200 (omega arith) (drawn-small _)) (drawn-small _)) (drawn-small _)) (drawn-small _);
}

pub script-lawful : (seed : ℕ) → IsLawful (script_of seed)
script-lawful seed = record {
  issue = four-lawful _;
  register = four-lawful _;
  operand = four-lawful _;
  result = four-lawful _;
  take = four-lawful _;
}

abbrev lists : (a b c d e : List ℕ) → Lists
lists a b c d e = record { issue = a; register = b; operand = c; result = d; take = e }

-- the lists that are drawn one after the other
pub script-is : (seed s1 s2 s3 s4 : ℕ) (a b c d e : List ℕ)
    → a ≡ four_drawn seed → s1 ≡ fourth_state seed
    → b ≡ four_drawn s1 → s2 ≡ fourth_state s1
    → c ≡ four_drawn s2 → s3 ≡ fourth_state s2
    → d ≡ four_drawn s3 → s4 ≡ fourth_state s3
    → e ≡ four_drawn s4
    → lists a b c d e ≡ script_of seed
script-is seed s1 s2 s3 s4 a b c d e ea h1 eb h2 ec h3 ed h4 ee =
    let k2 = h2 ∙ ap fourth_state h1 in
    let k3 = h3 ∙ ap fourth_state k2 in
    let k4 = h4 ∙ ap fourth_state k3 in
    λ i. lists (ea i) ((eb ∙ ap four_drawn h1) i) ((ec ∙ ap four_drawn k2) i) ((ed ∙ ap four_drawn k3) i) ((ee ∙ ap four_drawn k4) i)
