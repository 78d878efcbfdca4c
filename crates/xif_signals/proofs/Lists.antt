-- A list that is filled from its front.
use Rattle.std.proofs.Common.{◌≡◌, ◌+◌, ◌<◌, ℕ, List, [], ◌∷◌, ◌++◌, length, map, take, set, get_or, sym, ◌∙◌, ap}
use Rattle.std.proofs.lemmas.List.{take_more_set, map_more}

-- item i is put behind the first i
pub map_more_set : {X Y : Type 0} (f : X → Y) (xs : List X) (ys : List Y) (i : ℕ) (d : X) (y : Y) → i < length xs → i < length ys → take i ys ≡ map f (take i xs) → y ≡ f (get_or xs i d) → take (i + 1) (set ys i y) ≡ map f (take (i + 1) xs)
map_more_set f xs ys i d y in_xs in_ys so_far item =
    take_more_set ys i y in_ys ∙ ap (λ l. l ++ y ∷ []) so_far ∙ ap (λ z. map f (take i xs) ++ z ∷ []) item
    ∙ sym (map_more f xs i d in_xs)
