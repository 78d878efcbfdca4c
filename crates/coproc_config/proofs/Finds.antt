-- The first element that passes a test, among those that a numbered list makes.
use Rattle.std.proofs.Common.{◌≡◌, ◌≤◌, ◌+◌, ℕ, Bool, List, length, Option, Some, None, slice_get, refl, ap, ◌∙◌}
use Rattle.std.specs.List.{find}
use Rattle.std.specs.Option.{option_map, option_or}
use Rattle.std.proofs.lemmas.List.Folds.{find-append}
use Rattle.coproc_config.proofs.Checks.{made_from, made_from-found, made_from-end}

or_none : {A B : Type 0} (g : A → B) (a b : Option A) → option_map g a ≡ None → option_map g (option_or a b) ≡ option_map g b
or_none g None b h = refl
or_none g (Some x) b h = cc

or_some : {A B : Type 0} (g : A → B) (a b : Option A) (y : B) → option_map g a ≡ Some y → option_map g (option_or a b) ≡ Some y
or_some g None b y h = cc
or_some g (Some x) b y h = h

pub missed : {X A B : Type 0} (g : A → B) (p : A → Bool) (f : ℕ × X → List A) (xs : List X) (i : ℕ) (x : X) → slice_get xs i ≡ Some x → option_map g (find p (f (i, x))) ≡ None → option_map g (find p (made_from f i xs)) ≡ option_map g (find p (made_from f (i + 1) xs))
missed g p f xs i x h none =
    ap (λ ys. option_map g (find p ys)) (made_from-found f xs i x h)
    ∙ ap (option_map g) (find-append p (f (i, x)) (made_from f (i + 1) xs))
    ∙ or_none g (find p (f (i, x))) (find p (made_from f (i + 1) xs)) none

pub met : {X A B : Type 0} (g : A → B) (p : A → Bool) (f : ℕ × X → List A) (xs : List X) (i : ℕ) (x : X) (y : B) → slice_get xs i ≡ Some x → option_map g (find p (f (i, x))) ≡ Some y → option_map g (find p (made_from f i xs)) ≡ Some y
met g p f xs i x y h some =
    ap (λ ys. option_map g (find p ys)) (made_from-found f xs i x h)
    ∙ ap (option_map g) (find-append p (f (i, x)) (made_from f (i + 1) xs))
    ∙ or_some g (find p (f (i, x))) (find p (made_from f (i + 1) xs)) y some

pub nowhere : {X A B : Type 0} (g : A → B) (p : A → Bool) (f : ℕ × X → List A) (xs : List X) (i : ℕ) → length xs ≤ i → option_map g (find p (made_from f i xs)) ≡ None
nowhere g p f xs i h = ap (λ ys. option_map g (find p ys)) (made_from-end f xs i h)
