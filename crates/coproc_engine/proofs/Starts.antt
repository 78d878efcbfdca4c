-- The start of the latest use of a key, use by use.
use Rattle.std.proofs.Common.{◌≡◌, ◌<◌, ◌+◌, ℕ, suc, Bool, true, false, if◌then◌else◌, Some, None, List, [], ◌∷◌, length, drop, get_or, filter, refl, sym, ap, ◌∙◌, arith, drop-cons}
use Rattle.std.specs.List.{last_or}
use Rattle.std.specs.Option.{option_map_or}
use Rattle.xif_base.specs.declared.params.Key.{Key}
use Rattle.cycle_spec.specs.declared.use_of.Use.{Use}
use Rattle.cycle_spec.specs.Engine.{has_key, start_of}

irrelevant : (u : Use) (us : List Use) (c d : ℕ) → option_map_or (λ (x : Use). x.start) (last_or (Some u) us) c ≡ option_map_or (λ (x : Use). x.start) (last_or (Some u) us) d
irrelevant u [] c d = refl
irrelevant u (x ∷ us) c d = irrelevant x us c d

behind : (u : Use) (us : List Use) (c : ℕ) → option_map_or (λ (x : Use). x.start) (last_or (Some u) us) c ≡ option_map_or (λ (x : Use). x.start) (last_or None us) u.start
behind u [] c = refl
behind u (x ∷ us) c = irrelevant x us c u.start

-- behind the first use it is looked for with its start, or without one
start_next : (key : Key) (u : Use) (us : List Use) (c : ℕ) → start_of key (u ∷ us) c ≡ (if has_key key u then start_of key us u.start else start_of key us c)
start_next key u us c = go (has_key key u) refl
  where
    go : (t : Bool) → has_key key u ≡ t → start_of key (u ∷ us) c ≡ (if t then start_of key us u.start else start_of key us c)
    go true q = ap (λ t. option_map_or (λ (x : Use). x.start) (last_or None (if t then u ∷ filter (has_key key) us else filter (has_key key) us)) c) q ∙ behind u (filter (has_key key) us) c
    go false q = ap (λ t. option_map_or (λ (x : Use). x.start) (last_or None (if t then u ∷ filter (has_key key) us else filter (has_key key) us)) c) q

first : (us : List Use) (i : ℕ) (d : Use) → i < length us → drop i us ≡ get_or us i d ∷ drop (i + 1) us
first us i d lt =
    let next : suc i ≡ i + 1 = omega arith in
    drop-cons us i d lt ∙ ap (λ n. get_or us i d ∷ drop n us) next

-- a use of the key at an index, and one of another key
pub start_hit : (key : Key) (us : List Use) (i c start : ℕ) (d : Use) → i < length us → start ≡ (get_or us i d).start → has_key key (get_or us i d) ≡ true → start_of key (drop i us) c ≡ start_of key (drop (i + 1) us) start
start_hit key us i c start d lt is own =
    let u = get_or us i d in
    let rest = drop (i + 1) us in
    ap (λ xs. start_of key xs c) (first us i d lt) ∙ start_next key u rest c
    ∙ ap (λ t. if t then start_of key rest u.start else start_of key rest c) own ∙ ap (start_of key rest) (sym is)

pub start_miss : (key : Key) (us : List Use) (i c start : ℕ) (d : Use) → i < length us → start ≡ c → has_key key (get_or us i d) ≡ false → start_of key (drop i us) c ≡ start_of key (drop (i + 1) us) start
start_miss key us i c start d lt is other =
    let u = get_or us i d in
    let rest = drop (i + 1) us in
    ap (λ xs. start_of key xs c) (first us i d lt) ∙ start_next key u rest c
    ∙ ap (λ t. if t then start_of key rest u.start else start_of key rest c) other ∙ ap (start_of key rest) (sym is)
