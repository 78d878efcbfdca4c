-- A text of words between spaces, up to the end of a line, has one reading.
use Rattle.std.proofs.Common.{◌≡◌, ◌≤◌, ◌++◌, ℕ, List, [], ◌∷◌, refl, sym, ◌∙◌, append_assoc, arith}
use Rattle.run_log.proofs.Numerals.{IsInner}

-- a text that begins with a space or with the end of a line
abbrev pub IsOutside : List ℕ → Type 0
IsOutside [] = ⊥
IsOutside (b ∷ bs) = b ≤ 32

pub head_same : (x y : ℕ) (s t : List ℕ) → x ∷ s ≡ y ∷ t → x ≡ y
head_same x y s t e = cc

pub tail_same : (x y : ℕ) (s t : List ℕ) → x ∷ s ≡ y ∷ t → s ≡ t
tail_same x y s t e = cc

pub cons_same : {A : Type 0} (x y : A) (s t : List A) → x ≡ y → s ≡ t → x ∷ s ≡ y ∷ t
cons_same x y s t e f = cc

-- a word ends where its bytes do
pub word_apart : (a b r q : List ℕ) → IsInner a → IsInner b → IsOutside r → IsOutside q → a ++ r ≡ b ++ q → (a ≡ b) × (r ≡ q)
word_apart [] [] r q i j l m e = (refl, e)
word_apart [] (y ∷ b) [] q i j l m e = absurd l
word_apart [] (y ∷ b) (x ∷ r) q i j l m e =
    let same : x ≡ y = head_same x y r (b ++ q) e in
    absurd (omega (arith, same, l, j.0))
word_apart (x ∷ a) [] r [] i j l m e = absurd m
word_apart (x ∷ a) [] r (y ∷ q) i j l m e =
    let same : x ≡ y = head_same x y (a ++ r) q e in
    absurd (omega (arith, same, m, i.0))
word_apart (x ∷ a) (y ∷ b) r q i j l m e =
    let rest = word_apart a b r q i.1 j.1 l m (tail_same x y (a ++ r) (b ++ q) e) in
    (cons_same x y a b (head_same x y (a ++ r) (b ++ q) e) rest.0, rest.1)

-- words, each behind a space, and the end of the line
abbrev pub behind : List (List ℕ) → List ℕ
behind [] = 10 ∷ []
behind (w ∷ ws) = 32 ∷ (w ++ behind ws)

abbrev pub AreInner : List (List ℕ) → Type 0
AreInner [] = Unit {0}
AreInner (w ∷ ws) = IsInner w × AreInner ws

pub outside-behind : (ws : List (List ℕ)) (s : List ℕ) → IsOutside (behind ws ++ s)
outside-behind [] s = omega arith
outside-behind (w ∷ ws) s = omega arith

pub behind_apart : (ws vs : List (List ℕ)) (s t : List ℕ) → AreInner ws → AreInner vs → behind ws ++ s ≡ behind vs ++ t → (ws ≡ vs) × (s ≡ t)
behind_apart [] [] s t i j e = (refl, tail_same 10 10 s t e)
behind_apart [] (v ∷ vs) s t i j e =
    let same : 10 ≡ 32 = head_same 10 32 s ((v ++ behind vs) ++ t) e in
    absurd (omega (arith, same))
behind_apart (w ∷ ws) [] s t i j e =
    let same : 32 ≡ 10 = head_same 32 10 ((w ++ behind ws) ++ s) t e in
    absurd (omega (arith, same))
behind_apart (w ∷ ws) (v ∷ vs) s t i j e =
    let flat : w ++ (behind ws ++ s) ≡ v ++ (behind vs ++ t) =
    sym (append_assoc w (behind ws) s)
    ∙ tail_same 32 32 ((w ++ behind ws) ++ s) ((v ++ behind vs) ++ t) e
    ∙ append_assoc v (behind vs) t in
    let first = word_apart w v (behind ws ++ s) (behind vs ++ t) i.0 j.0 (outside-behind ws s) (outside-behind vs t) flat in
    let rest = behind_apart ws vs s t i.1 j.1 first.1 in
    (cons_same w v ws vs first.0 rest.0, rest.1)
