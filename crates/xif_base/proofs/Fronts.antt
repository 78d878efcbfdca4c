-- Prefixes of a list that grow by pieces.
use Rattle.std.proofs.Common.{◌≡◌, ◌≤◌, ◌<◌, ◌+◌, ◌-◌, ℕ, List, ◌++◌, length, take, drop, Option, Some, None, arith, sym, ◌∙◌, ap, refl, append_assoc}
use Rattle.std.proofs.Math.Seq.{take-add}
use Rattle.std.proofs.lemmas.Grind.{common_steps}
use Rattle.xif_base.specs.Files.{Copies}
use Rattle.xif_base.specs.Output.{grown}

-- these items are a prefix of the bytes
pub record IsFront (items bytes : List ℕ) : Type 0 where
  pub short : length items ≤ length bytes
  pub same : items ≡ take (length items) bytes

-- a prefix grows by what was copied from behind it
pub IsFront-append : (items bytes buf : List ℕ) (at n : ℕ) → at ≡ length items → IsFront items bytes → Copies bytes at n buf → n ≤ length buf → IsFront (items ++ take n buf) bytes
IsFront-append items bytes buf at n behind front copied within =
    let len : length (items ++ take n buf) ≡ length items + n = grind (arith, common_steps) in
    record {
      short = omega (arith, len, copied.inside, front.short);
      same =
          ap (λ xs. xs ++ take n buf) front.same
          ∙ ap (λ xs. take (length items) bytes ++ xs) (copied.same ∙ ap (λ k. take n (drop k bytes)) behind)
          ∙ sym (take-add (length items) n bytes)
          ∙ ap (λ k. take k bytes) (sym len);
    }

-- a prefix behind which nothing can be copied is the whole
pub IsFront-end : (items bytes buf : List ℕ) (at n : ℕ) → at ≡ length items → IsFront items bytes → Copies bytes at n buf → n ≡ 0 → 0 < length buf → items ≡ bytes
IsFront-end items bytes buf at n behind front copied none room =
    let end : length bytes ≤ length items = omega (arith, copied.some none room, behind) in
    front.same ∙ grind (arith, common_steps)

-- reported bytes that grew twice grew once, by both pieces
pub grown-grown : (told : Option (List ℕ)) (xs ys : List ℕ) → grown (grown told xs) ys ≡ grown told (xs ++ ys)
grown-grown None xs ys = refl
grown-grown (Some bytes) xs ys = ap Some (append_assoc bytes xs ys)

-- reported bytes that grew by a prefix, and then by some of what is behind it, grew by a longer one
pub grown-take : (told : Option (List ℕ)) (bytes : List ℕ) (n k : ℕ) → grown (grown told (take n bytes)) (take k (drop n bytes)) ≡ grown told (take (n + k) bytes)
grown-take told bytes n k = grown-grown told (take n bytes) (take k (drop n bytes)) ∙ ap (grown told) (sym (take-add n k bytes))

-- the same of the slice `bytes[n..]`
pub grown-slice : (told : Option (List ℕ)) (bytes : List ℕ) (n k : ℕ) → grown (grown told (take n bytes)) (take k (take (length bytes - n) (drop n bytes))) ≡ grown told (take (n + k) bytes)
grown-slice told bytes n k =
    let all : take (length bytes - n) (drop n bytes) ≡ drop n bytes = grind (arith, common_steps) in
    ap (λ rest. grown (grown told (take n bytes)) (take k rest)) all ∙ grown-take told bytes n k
