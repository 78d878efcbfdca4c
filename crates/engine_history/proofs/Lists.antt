-- The latest use of each key, in the list of all uses.
use Rattle.std.proofs.Common.{if◌then◌else◌, ◌≡◌, ◌++◌, ◌||◌, not, Bool, true, false, Option, Some, None, List, [], ◌∷◌, map, filter, find, refl, sym, ap, ◌∙◌}
use Rattle.std.specs.Option.{option_map_or}
use Rattle.std.specs.List.{last_or, list_any}
use Rattle.std.proofs.lemmas.List.{map-append}
use Rattle.std.proofs.lemmas.List.Elements.{filter-append}
use Rattle.xif_base.specs.declared.params.Key.{Key}
use Rattle.xif_session.specs.Facts.{same_key}
use Rattle.xif_session.proofs.Options.{key_is, key_same, no_true}
use Rattle.cycle_spec.specs.declared.use_of.Use.{Use}
use Rattle.cycle_spec.specs.Engine.{has_key, latest}
use Rattle.engine_history.specs.Told.{others, latest_uses}

-- ---- the others of a key

-- a change that keeps keys
pub map_others : (f : Use → Use) → ((u : Use) → (f u).key ≡ u.key) → (key : Key) (us : List Use) → map f (others key us) ≡ others key (map f us)
map_others f k key [] = refl
map_others f k key (u ∷ us) = go (same_key u.key key) (same_key (f u).key key) (ap (λ x. same_key x key) (k u)) (map_others f k key us)
  where
    go : (s t : Bool) → t ≡ s → map f (others key us) ≡ others key (map f us)
        → map f (if not s then u ∷ others key us else others key us) ≡ (if not t then f u ∷ others key (map f us) else others key (map f us))
    go true true q r = r
    go false false q r = ap (λ xs. f u ∷ xs) r
    go true false q r = absurd (cc)
    go false true q r = absurd (cc)

pub map_latest : (f : Use → Use) → ((u : Use) → (f u).key ≡ u.key) → (us : List Use) → map f (latest_uses us) ≡ latest_uses (map f us)
map_latest f k [] = refl
map_latest f k (u ∷ us) =
    map-append f (others u.key (latest_uses us)) (u ∷ [])
    ∙ ap (λ xs. xs ++ f u ∷ []) (map_others f k u.key (latest_uses us) ∙ ap (λ xs. others u.key xs) (map_latest f k us) ∙ ap (λ x. others x (latest_uses (map f us))) (sym (k u)))

-- ---- what a key names

last-push : (d : Option Use) (us : List Use) (u : Use) → last_or d (us ++ u ∷ []) ≡ Some u
last-push d [] u = refl
last-push d (x ∷ us) u = last-push (Some x) us u

filter-push : (p : Use → Bool) (us : List Use) (u : Use) → filter p (us ++ u ∷ []) ≡ filter p us ++ (if p u then u ∷ [] else [])
filter-push p us u = filter-append p us (u ∷ [])

append_nil : (us : List Use) → us ++ [] ≡ us
append_nil [] = refl
append_nil (u ∷ us) = ap (λ xs. u ∷ xs) (append_nil us)

-- the uses of a key are not among those of another one that are left out
filter-others : (key other : Key) (us : List Use) → same_key other key ≡ false → filter (has_key key) (others other us) ≡ filter (has_key key) us
filter-others key other [] n = refl
filter-others key other (u ∷ us) n = go (same_key u.key other) (same_key u.key key) refl refl (filter-others key other us n)
  where
    go : (s t : Bool) → same_key u.key other ≡ s → same_key u.key key ≡ t → filter (has_key key) (others other us) ≡ filter (has_key key) us
        → filter (has_key key) (if not s then u ∷ others other us else others other us) ≡ (if t then u ∷ filter (has_key key) us else filter (has_key key) us)
    go true true p q r = no_true (same_key other key) (key_same other key (sym (key_is u.key other p) ∙ key_is u.key key q)) n
    go true false p q r = r
    go false t p q r = ap (λ xs. if same_key u.key key then u ∷ xs else xs) r ∙ ap (λ x. if x then u ∷ filter (has_key key) us else filter (has_key key) us) q

pub latest_is : (key : Key) (us : List Use) → latest key (latest_uses us) ≡ find (has_key key) us
latest_is key [] = refl
latest_is key (u ∷ us) = ap (λ xs. last_or None xs) (filter-push (has_key key) (others u.key (latest_uses us)) u) ∙ go (same_key u.key key) refl (latest_is key us)
  where
    go : (t : Bool) → same_key u.key key ≡ t → latest key (latest_uses us) ≡ find (has_key key) us
        → last_or None (filter (has_key key) (others u.key (latest_uses us)) ++ (if t then u ∷ [] else [])) ≡ (if t then Some u else find (has_key key) us)
    go true q r = last-push None (filter (has_key key) (others u.key (latest_uses us))) u
    go false q r = ap (λ xs. last_or None xs) (append_nil (filter (has_key key) (others u.key (latest_uses us))) ∙ filter-others key u.key (latest_uses us) q) ∙ r

-- ---- a test that only a use of a key passes

pub any-push : (p : Use → Bool) (us : List Use) (u : Use) → list_any p (us ++ u ∷ []) ≡ (list_any p us || p u)
any-push p [] u = go (p u)
  where
    go : (t : Bool) → (t || false) ≡ t
    go true = refl
    go false = refl
any-push p (x ∷ us) u = ap (λ t. p x || t) (any-push p us u) ∙ go (p x) (list_any p us) (p u)
  where
    go : (a b c : Bool) → (a || (b || c)) ≡ ((a || b) || c)
    go true b c = refl
    go false b c = refl

-- no use passes that isn't of the key
none_of : (p : Use → Bool) (key : Key) → ((u : Use) → same_key u.key key ≡ false → p u ≡ false) → (us : List Use) → list_any p (others key us) ≡ false
none_of p key h [] = refl
none_of p key h (u ∷ us) = go (same_key u.key key) refl (none_of p key h us)
  where
    go : (t : Bool) → same_key u.key key ≡ t → list_any p (others key us) ≡ false → list_any p (if not t then u ∷ others key us else others key us) ≡ false
    go true q r = r
    go false q r = ap (λ t. t || list_any p (others key us)) (h u q) ∙ r

any_others : (p : Use → Bool) (key other : Key) → ((u : Use) → same_key u.key key ≡ false → p u ≡ false) → same_key other key ≡ false → (us : List Use) → list_any p (others other us) ≡ list_any p us
any_others p key other h n [] = refl
any_others p key other h n (u ∷ us) = go (same_key u.key other) refl (any_others p key other h n us)
  where
    go : (t : Bool) → same_key u.key other ≡ t → list_any p (others other us) ≡ list_any p us → list_any p (if not t then u ∷ others other us else others other us) ≡ (p u || list_any p us)
    go true q r = r ∙ ap (λ t. t || list_any p us) (sym (h u (ap (λ x. same_key x key) (key_is u.key other q) ∙ n)))
    go false q r = ap (λ t. p u || t) r

pub any_latest : (p : Use → Bool) (key : Key) → ((u : Use) → same_key u.key key ≡ false → p u ≡ false) → (us : List Use) → list_any p (latest_uses us) ≡ option_map_or p (find (has_key key) us) false
any_latest p key h [] = refl
any_latest p key h (u ∷ us) = any-push p (others u.key (latest_uses us)) u ∙ go (same_key u.key key) refl (any_latest p key h us)
  where
    or_false : (t : Bool) → (t || false) ≡ t
    or_false true = refl
    or_false false = refl

    go : (t : Bool) → same_key u.key key ≡ t → list_any p (latest_uses us) ≡ option_map_or p (find (has_key key) us) false
        → (list_any p (others u.key (latest_uses us)) || p u) ≡ option_map_or p (if t then Some u else find (has_key key) us) false
    go true q r = ap (λ x. list_any p (others x (latest_uses us)) || p u) (key_is u.key key q) ∙ ap (λ t. t || p u) (none_of p key h (latest_uses us))
    go false q r = ap (λ t. list_any p (others u.key (latest_uses us)) || t) (h u q) ∙ or_false (list_any p (others u.key (latest_uses us))) ∙ any_others p key u.key h q (latest_uses us) ∙ r
