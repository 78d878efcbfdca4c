-- A store that hits no byte of a word leaves the word.
use Rattle.std.proofs.Common.{◌≡◌, ◌<◌, ◌≤◌, ◌+◌, ◌-◌, ◌%◌, ◌^◌, ◌==◌, ◌&&◌, ◌||◌, ◌⊎◌, ℕ, zero, suc, Bool, true, false, Option, Some, None, Result, Ok, Err, refl, sym, ap, subst, ◌∙◌, inl, inr, ⊎_elim, arith, if◌then◌else◌}
use Rattle.std.specs.List.{list_any, range_with_len}
use Rattle.std.specs.Int.{w32, from_le_bytes}
use Rattle.std.proofs.lemmas.Bool.{cases_lt, lt-ltb}
use Rattle.rv32_table.specs.Word.{wrapped}
use Rattle.xif_image.specs.Region.{Region, IsWidth, is_inside, fault_of, unless, bytes_at, loaded, word_at, stored}
use Rattle.xif_image.specs.declared.memory.MemFault.{MemFault}
use Rattle.xif_image.specs.declared.memory.MemFault.TheVariants.{Outside}
use Rattle.xif_image.proofs.Stores.{loaded-apart}
use Rattle.inorder_machine.specs.declared.line.Store.{Store}
use Rattle.cycle_spec.specs.Choices.{is_in_word}

-- a word is what is loaded there
abbrev ok_of : Result ℕ MemFault → Option ℕ
ok_of (Ok v) = Some v
ok_of (Err e) = None

aligned : (even inside : Bool) (v : ℕ) → (if even && inside then Some v else None) ≡ (if even then ok_of (if inside then Ok v else Err Outside) else None)
aligned true true v = refl
aligned true false v = refl
aligned false inside v = refl

-- what a load makes of a test
abbrev loaded_by : Bool → ℕ → Result ℕ MemFault
loaded_by inside v = unless (if inside then None else Some Outside) v

unless-test : (inside : Bool) (v : ℕ) → loaded_by inside v ≡ (if inside then Ok v else Err Outside)
unless-test true v = refl
unless-test false v = refl

word-loaded : (m : Region) (pc : ℕ) → word_at m pc ≡ (if pc % 4 == 0 then ok_of (loaded m pc 4) else None)
word-loaded m pc =
    let v = from_le_bytes w32 (bytes_at m pc 4) in
    aligned (pc % 4 == 0) (is_inside m pc 4) v ∙ sym (ap (λ r. if pc % 4 == 0 then ok_of r else None) (unless-test (is_inside m pc 4) v))

-- a store that reaches into a word hits it
abbrev IsMissed : ℕ → ℕ → ℕ → Type 0
IsMissed pc address width = list_any (λ k. is_in_word pc (address + k)) (range_with_len 0 width) ≡ false

hit-here : (pc address k : ℕ) → pc ≤ address + k → address + k < pc + 4 → is_in_word pc (address + k) ≡ true
hit-here pc address k low high =
    let near : wrapped (address + k + 2 ^ 32 - pc) < 4 = omega (arith, low, high) in
    lt-ltb (wrapped (address + k + 2 ^ 32 - pc)) 4 near

or-left : (a b : Bool) → (a || b) ≡ false → a ≡ false
or-left true b h = absurd cc
or-left false b h = refl

or-right : (a b : Bool) → (a || b) ≡ false → b ≡ false
or-right true b h = absurd cc
or-right false b h = h

none-passes : (test : ℕ → Bool) (from n k : ℕ) → k < n → list_any test (range_with_len from n) ≡ false → test (from + k) ≡ false
none-passes test from zero k h m = absurd (omega (arith, h))
none-passes test from (suc n) zero h m =
    let same : from + 0 ≡ from = omega arith in
    ap test same ∙ or-left (test from) (list_any test (range_with_len (from + 1) n)) m
none-passes test from (suc n) (suc k) h m =
    let same : from + suc k ≡ from + 1 + k = omega arith in
    ap test same ∙ none-passes test (from + 1) n k (omega (arith, h)) (or-right (test from) (list_any test (range_with_len (from + 1) n)) m)

missed-here : (pc address width k : ℕ) → k < width → IsMissed pc address width → is_in_word pc (address + k) ≡ false
missed-here pc address width k h m =
    let same : 0 + k ≡ k = omega arith in
    subst (λ n. is_in_word pc (address + n) ≡ false) same (none-passes (λ n. is_in_word pc (address + n)) 0 width k h m)

apart : (pc address width : ℕ) → IsWidth width → IsMissed pc address width → (pc + 4 ≤ address) ⊎ (address + width ≤ pc)
apart pc address width w m =
    ⊎_elim
    (λ (near : address < pc + 4).
    ⊎_elim
    (λ (over : pc < address + width). absurd (meets near over))
    (λ (past : address + width ≤ pc). inr past)
    (cases_lt pc (address + width)))
    (λ (past : pc + 4 ≤ address). inl past)
    (cases_lt address (pc + 4))
  where
    some : 0 < width
    some = go w
      where
        go : IsWidth width → 0 < width
        go (inl e) = omega (arith, e)
        go (inr (inl e)) = omega (arith, e)
        go (inr (inr e)) = omega (arith, e)

    clash : (k : ℕ) → k < width → pc ≤ address + k → address + k < pc + 4 → ⊥
    clash k h low high = no (sym (missed-here pc address width k h m) ∙ hit-here pc address k low high)
      where
        no : false ≡ true → ⊥
        no e = cc

    meets : address < pc + 4 → pc < address + width → ⊥
    meets near over =
        ⊎_elim
        (λ (before : address < pc). clash (pc - address) (omega (arith, before, over)) (omega (arith, before)) (omega (arith, before)))
        (λ (at : pc ≤ address). clash 0 some (omega (arith, at)) (omega (arith, near)))
        (cases_lt address pc)

pub word-stays : (m : Region) (store : Store) (pc : ℕ) → IsWidth store.width → fault_of m store.addr store.width ≡ None → IsMissed pc store.addr store.width → word_at (stored m store.addr store.width store.value) pc ≡ word_at m pc
word-stays m store pc w f h =
    word-loaded (stored m store.addr store.width store.value) pc
    ∙ ap (λ r. if pc % 4 == 0 then ok_of r else None) (loaded-apart m store.addr store.width store.value pc 4 w f (apart pc store.addr store.width w h))
    ∙ sym (word-loaded m pc)
