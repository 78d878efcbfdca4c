-- The use whose result is offered: it is ready, and the latest of its key.
use Rattle.std.proofs.Common.{if◌then◌else◌, ◌≡◌, ◌⊎◌, inl, inr, ◌++◌, ◌==◌, ◌<◌, ◌&&◌, ◌||◌, not, ℕ, Bool, true, false, Option, Some, None, IfSome, List, [], ◌∷◌, find, refl, sym, ap, ap₂, ◌∙◌, subst, arith}
use Rattle.std.specs.Prelude.{is_some}
use Rattle.std.specs.Option.{option_map, option_map_or}
use Rattle.std.proofs.lemmas.Bool.{eqb-true}
use Rattle.xif_base.specs.declared.params.Key.{Key}
use Rattle.xif_base.specs.declared.params.Params.{Params}
use Rattle.coproc_config.specs.Set.{UnitTable}
use Rattle.xif_signals.specs.declared.bus.Bus.{Bus}
use Rattle.xif_session.specs.Facts.{same_key, issue_key}
use Rattle.xif_session.proofs.Options.{key_is, key_same, no_true, both-true, and-true}
use Rattle.cycle_spec.specs.declared.use_of.Use.{Use}
use Rattle.cycle_spec.specs.State.{Engine}
use Rattle.cycle_spec.specs.Engine as spec
use Rattle.engine_history.specs.Lives.{Life, new_life, is_accepted, is_killed, latest, start_of, starts, with_start}
use Rattle.engine_history.specs.Told.{others, latest_uses, later, complete_cycle, all_complete, counts, is_ready, whole_use, whole_uses}
use Rattle.engine_history.proofs.Keep.{Rising, rising_up}
use Rattle.engine_history.proofs.Cycle.{latest_below}

-- ---- each use of the list is the latest of its key

In : Use → List Use → Type 0
In u [] = ⊥
In u (x ∷ us) = (u ≡ x) ⊎ In u us

record FoundIn (p : Use → Bool) (u : Use) (us : List Use) : Type 0 where
  there : In u us
  passes : p u ≡ true

find_in : (p : Use → Bool) (us : List Use) (u : Use) → find p us ≡ Some u → FoundIn p u us
unfolding In
find_in p [] u q = absurd (cc)
find_in p (x ∷ us) u q = go (p x) refl q (λ k. find_in p us u k)
  where
    some_is : (a b : Use) → Some a ≡ Some b → a ≡ b
    some_is a b h = cc

    go : (t : Bool) → p x ≡ t → (if t then Some x else find p us) ≡ Some u → (find p us ≡ Some u → FoundIn p u us) → FoundIn p u (x ∷ us)
    go true k q ih = let e : u ≡ x = some_is u x (sym q) in record { there = inl e; passes = ap p e ∙ k }
    go false k q ih = let f = ih q in record { there = inr f.there; passes = f.passes }

in_push : (u x : Use) (us : List Use) → In u (us ++ x ∷ []) → In u us ⊎ (u ≡ x)
unfolding In
in_push u x [] (inl q) = inr q
in_push u x [] (inr h) = absurd h
in_push u x (y ∷ us) (inl q) = inl (inl q)
in_push u x (y ∷ us) (inr h) = go (in_push u x us h)
  where
    go : In u us ⊎ (u ≡ x) → In u (y ∷ us) ⊎ (u ≡ x)
    go (inl h) = inl (inr h)
    go (inr q) = inr q

in_others : (u : Use) (key : Key) (us : List Use) → In u (others key us) → In u us × (same_key u.key key ≡ false)
unfolding In
in_others u key [] h = absurd h
in_others u key (x ∷ us) h = go (same_key x.key key) refl h (λ k. in_others u key us k)
  where
    go : (t : Bool) → same_key x.key key ≡ t → In u (if not t then x ∷ others key us else others key us) → (In u (others key us) → In u us × (same_key u.key key ≡ false)) → In u (x ∷ us) × (same_key u.key key ≡ false)
    go true q h ih = let i = ih h in (inr i.0, i.1)
    go false q (inl e) ih = (inl e, ap (λ (y : Use). same_key y.key key) e ∙ q)
    go false q (inr h) ih = let i = ih h in (inr i.0, i.1)

in_latest : (u : Use) (us : List Use) → In u (latest_uses us) → find (spec.has_key u.key) us ≡ Some u
unfolding In
in_latest u [] h = absurd h
in_latest u (x ∷ us) h = go (in_push u x (others x.key (latest_uses us)) h) (λ k. in_latest u us k)
  where
    low : (t : Bool) → t ≡ false → (if t then Some x else find (spec.has_key u.key) us) ≡ find (spec.has_key u.key) us
    low true q = absurd (cc)
    low false q = refl

    go : In u (others x.key (latest_uses us)) ⊎ (u ≡ x) → (In u (latest_uses us) → find (spec.has_key u.key) us ≡ Some u) → (if same_key x.key u.key then Some x else find (spec.has_key u.key) us) ≡ Some u
    go (inl h) ih =
        let i = in_others u x.key (latest_uses us) h in
        low (same_key x.key u.key) (apart (same_key x.key u.key) refl i.1) ∙ ih i.0
      where
        apart : (t : Bool) → same_key x.key u.key ≡ t → same_key u.key x.key ≡ false → same_key x.key u.key ≡ false
        apart true q n = absurd (no_true (same_key u.key x.key) (key_same u.key x.key (sym (key_is x.key u.key q))) n)
        apart false q n = q
    go (inr q) ih = ap (λ t. if t then Some x else find (spec.has_key u.key) us) (key_same x.key u.key (ap (λ (y : Use). y.key) (sym q))) ∙ ap Some (sym q)

-- ---- its place in the history

-- each use, with the older ones
abbrev pub EachAt : (Life → List Life → Type 0) → List Life → Type 0
EachAt P [] = Unit {0}
EachAt P (l ∷ ls) = P l ls × EachAt P ls

-- a use with the older ones is there
Place : Life → List Life → List Life → Type 0
Place l older [] = ⊥
Place l older (x ∷ xs) = ((x ≡ l) × (xs ≡ older)) ⊎ Place l older xs

at_place : (P : Life → List Life → Type 0) (l : Life) (older ls : List Life) → Place l older ls → EachAt P ls → P l older
unfolding Place
at_place P l older [] h e = absurd h
at_place P l older (x ∷ xs) (inl h) e = subst (λ y. P y older) h.0 (subst (P x) h.1 e.0)
at_place P l older (x ∷ xs) (inr h) e = at_place P l older xs h e.1

-- it alone has the start
abbrev pub IsOnly : Life → List Life → Life → List Life → Type 0
IsOnly life older x xs = x.start ≡ life.start → (x ≡ life) × (xs ≡ older)

record FoundAt (params : Params) (set : List UnitTable) (key : Key) (u : Use) (ls : List Life) : Type 0 where
  life : Life
  older : List Life
  latest_is : latest key ls ≡ Some life
  use_is : u ≡ whole_use params set life older
  only : EachAt (IsOnly life older) ls
  place : Place life older ls

none_with : (life : Life) (older : List Life) (bound : ℕ) (ls : List Life) → Rising bound ls → bound ≡ life.start → EachAt (IsOnly life older) ls
none_with life older bound [] r q = tt
none_with life older bound (l ∷ ls) r q = (λ s. absurd (let k = r.0 in omega (arith, k, q, s)), none_with life older bound ls (rising_up l.start bound ls (let k = r.0 in omega (arith, k)) r.1) q)

found_at : (params : Params) (set : List UnitTable) (key : Key) (u : Use) (bound : ℕ) (ls : List Life) → Rising bound ls → find (spec.has_key key) (whole_uses params set ls) ≡ Some u → FoundAt params set key u ls
unfolding Place
found_at params set key u bound [] r q = absurd (cc)
found_at params set key u bound (l ∷ ls) r q = go (same_key l.key key) refl q (λ k. found_at params set key u l.start ls r.1 k)
  where
    some_is : (a b : Use) → Some a ≡ Some b → a ≡ b
    some_is a b h = cc

    go : (t : Bool) → same_key l.key key ≡ t → (if t then Some (whole_use params set l ls) else find (spec.has_key key) (whole_uses params set ls)) ≡ Some u
        → (find (spec.has_key key) (whole_uses params set ls) ≡ Some u → FoundAt params set key u ls) → FoundAt params set key u (l ∷ ls)
    go true k q ih = record {
      life = l;
      older = ls;
      latest_is = ap (λ t. if t then Some l else latest key ls) k;
      use_is = sym (some_is (whole_use params set l ls) u q);
      only = (λ s. (refl, refl), none_with l ls l.start ls r.1 refl);
      place = inl (refl, refl);
    }
    go false k q ih =
        let f = ih q in
        let low = latest_below key l.start ls f.life r.1 f.latest_is in
        record {
          life = f.life;
          older = f.older;
          latest_is = ap (λ t. if t then Some l else latest key ls) k ∙ f.latest_is;
          use_is = f.use_is;
          only = (λ s. absurd (omega (arith, low, s)), f.only);
          place = inr f.place;
        }

-- ---- the use that is offered

-- a use by its start: it is ready, and has given no result
abbrev pub WaitsAt : ℕ → Life → List Life → Type 0
WaitsAt start x xs = x.start ≡ start → (is_ready x xs ≡ true) × (x.finish ≡ None)

abbrev pub Waits : ℕ → List Life → Type 0
Waits start ls = EachAt (WaitsAt start) ls

-- accepted, and neither killed nor finished
abbrev pub is_running : Life → Bool
is_running l = is_accepted l && not (is_killed l || is_some l.finish)

pub record IsOffered (params : Params) (set : List UnitTable) (bound : ℕ) (ls : List Life) (u : Use) : Type 0 where
  pub life : Life
  pub latest_is : latest u.key ls ≡ Some life
  pub start_is : life.start ≡ u.start
  pub below : u.start < bound
  pub runs : is_running life ≡ true
  pub waits : Waits u.start ls

counts_runs : (hart : ℕ) (l : Life) → counts hart l ≡ true → l.finish ≡ None → is_running l ≡ true
counts_runs hart l c f =
    let x = both-true (is_accepted l) _ (both-true (l.key.hart == hart) _ c).1 in
    and-true (is_accepted l) _ x.0 (ap (λ o. not (is_killed l || is_some o)) f ∙ ap not (or_false (is_killed l)) ∙ x.1)
  where
    or_false : (t : Bool) → (t || false) ≡ t
    or_false true = refl
    or_false false = refl

ready_counts : (l : Life) (older : List Life) → is_ready l older ≡ true → counts l.key.hart l ≡ true
ready_counts l older h = go (counts l.key.hart l) refl h
  where
    go : (t : Bool) → counts l.key.hart l ≡ t → is_some (if t then later (complete_cycle l) (all_complete l.key.hart older) else None) ≡ true → counts l.key.hart l ≡ true
    go true q h = q
    go false q h = cc

offered_at : (params : Params) (set : List UnitTable) (bound : ℕ) (ls : List Life) (u : Use) → Rising bound ls → (f : FoundAt params set u.key u ls) → is_ready f.life f.older ≡ true → f.life.finish ≡ None → IsOffered params set bound ls u
offered_at params set bound ls u r f ready fresh =
    let start : f.life.start ≡ u.start = ap (λ (x : Use). x.start) (sym f.use_is) in
    record {
      life = f.life;
      latest_is = f.latest_is;
      start_is = start;
      below = subst (λ n. n < bound) start (latest_below u.key bound ls f.life r f.latest_is);
      runs = counts_runs f.life.key.hart f.life (ready_counts f.life f.older ready) fresh;
      waits = each ls f.only start;
    }
  where
    each : (ls : List Life) → EachAt (IsOnly f.life f.older) ls → f.life.start ≡ u.start → Waits u.start ls
    each [] e s = tt
    each (x ∷ xs) e s = (λ q. let is = e.0 (q ∙ sym s) in (ap₂ is_ready is.0 is.1 ∙ ready, ap (λ (y : Life). y.finish) is.0 ∙ fresh), each xs e.1 s)

pub offered_is : (params : Params) (set : List UnitTable) (bound : ℕ) (ls : List Life) (e : Engine) (u : Use) → Rising bound ls → e.uses ≡ latest_uses (whole_uses params set ls) → IfSome e.result_waiting (λ s. Waits s ls)
    → spec.offered_use e ≡ Some u → IsOffered params set bound ls u
offered_is params set bound ls e u r us w h = go e.result_waiting w h
  where
    found : (p : Use → Bool) → find p e.uses ≡ Some u → FoundAt params set u.key u ls × (p u ≡ true)
    found p q =
        let x = find_in p (latest_uses (whole_uses params set ls)) u (ap (find p) (sym us) ∙ q) in
        (found_at params set u.key u bound ls r (in_latest u (whole_uses params set ls) x.there), x.passes)

    low : (t : Bool) → not t ≡ true → t ≡ false
    low true h = cc
    low false h = refl

    none_of : {A : Type 0} (o : Option A) → is_some o ≡ false → o ≡ None
    none_of None h = refl
    none_of (Some x) h = cc

    past : (o : Option ℕ) (d c : ℕ) → spec.is_past_ready d c o ≡ true → is_some o ≡ true
    past None d c h = cc
    past (Some n) d c h = refl

    go : (o : Option ℕ) → IfSome o (λ s. Waits s ls) → spec.offered_by o e.script.result e.cycle e.uses ≡ Some u → IsOffered params set bound ls u
    go None w q =
        let f = found (spec.is_due e.script.result e.cycle) q in
        let x = both-true (not u.finished) _ f.1 in
        offered_at params set bound ls u r f.0
        (ap (λ (v : Use). is_some v.ready) (sym f.0.use_is) ∙ past u.ready _ e.cycle x.1)
        (none_of f.0.life.finish (ap (λ (v : Use). v.finished) (sym f.0.use_is) ∙ low u.finished x.0))
    go (Some s) w q =
        let f = found (spec.has_start s) q in
        let start : f.0.life.start ≡ s = ap (λ (v : Use). v.start) (sym f.0.use_is) ∙ eqb-true u.start s f.1 in
        let both = at_place (WaitsAt s) f.0.life f.0.older ls f.0.place w start in
        offered_at params set bound ls u r f.0 both.0 both.1

-- ---- it is still the latest of its key where a use starts

pub offered_named : (params : Params) (set : List UnitTable) (cycle : ℕ) (last b : Bus) (ls : List Life) (u : Use) → IsOffered params set cycle ls u → (starts last b ls ≡ true → option_map_or is_running (latest (issue_key b) ls) false ≡ false)
    → start_of u.key (with_start cycle last b ls) ≡ Some u.start
offered_named params set cycle last b ls u o free = go (starts last b ls) refl
  where
    was : start_of u.key ls ≡ Some u.start
    was = ap (option_map (λ (l : Life). l.start)) o.latest_is ∙ ap Some o.start_is

    other : (t : Bool) → same_key (issue_key b) u.key ≡ t → starts last b ls ≡ true → option_map (λ (l : Life). l.start) (if t then Some (new_life (issue_key b) cycle b.issue_instr) else latest u.key ls) ≡ Some u.start
    other true k s =
        no_true (is_running o.life) o.runs
        (sym (ap (λ o. option_map_or is_running o false) (ap (λ x. latest x ls) (key_is (issue_key b) u.key k) ∙ o.latest_is)) ∙ free s)
    other false k s = was

    go : (t : Bool) → starts last b ls ≡ t → start_of u.key (if t then new_life (issue_key b) cycle b.issue_instr ∷ ls else ls) ≡ Some u.start
    go true s = other (same_key (issue_key b) u.key) refl s
    go false s = was

pub waits_named : (cycle start : ℕ) (last b : Bus) (ls : List Life) → start < cycle → Waits start ls → Waits start (with_start cycle last b ls)
waits_named cycle start last b ls l w = go (starts last b ls)
  where
    go : (t : Bool) → Waits start (if t then new_life (issue_key b) cycle b.issue_instr ∷ ls else ls)
    go true = (λ q. absurd (omega (arith, l, q)), w)
    go false = w
