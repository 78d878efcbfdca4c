-- What holds of each element of a list, and of each two of them.
use Rattle.std.specs.Prelude.{◌≡◌, Bool, true, false, List, [], ◌∷◌, ◌++◌, ⊤, filter}
use Rattle.std.specs.List.{AllByRecursion}

-- of each element
abbrev pub Each : {A : Type 0} → (A → Type 0) → List A → Type 0
Each P xs = AllByRecursion P xs

-- of each element and each one behind it
abbrev pub Pairs : {A : Type 0} → (A → A → Type 0) → List A → Type 0
Pairs R [] = ⊤
Pairs R (x ∷ xs) = Each (R x) xs × Pairs R xs

-- An element of a list is the first that passes a test.
pub record FirstAt {A : Type 0} (test : A → Bool) (xs : List A) (x : A) : Type 0 where
  pub older : List A
  pub younger : List A
  pub here : xs ≡ older ++ x ∷ younger
  pub passes : test x ≡ true
  pub others : Each (λ y. test y ≡ false) older

-- An element of a list is the last that passes a test.
pub record LastAt {A : Type 0} (test : A → Bool) (xs : List A) (x : A) : Type 0 where
  pub older : List A
  pub younger : List A
  pub here : xs ≡ older ++ x ∷ younger
  pub passes : test x ≡ true
  pub others : Each (λ y. test y ≡ false) younger

-- An element of a filtered list stands in the list, with what is before and behind it.
pub record Unfiltered {A : Type 0} (test : A → Bool) (xs fs : List A) (y : A) (gs : List A)
    : Type 0 where
  pub front : List A
  pub back : List A
  pub here : xs ≡ front ++ y ∷ back
  pub fronts : filter test front ≡ fs
  pub backs : filter test back ≡ gs
