-- The uses of the instructions in flight, and the states along these.
use Rattle.std.proofs.Common.{◌≡◌, ◌&&◌, ◌++◌, not, if◌then◌else◌, ℕ, Bool, true, false, Option, Some, None, IfSome, List, [], ◌∷◌, map, filter, take, reverse, refl, sym, ap, ap₂, ◌∙◌, subst, append-nil}
use Rattle.std.specs.Prelude.{⊤}
use Rattle.std.specs.Option.{option_map}
use Rattle.std.specs.List.{filter_map, cons_option}
use Rattle.std.proofs.lemmas.List.{reverse-append}
use Rattle.xif_session.specs.Facts.{is_accepted as is_response_accepted}
use Rattle.inorder_machine.specs.Machine.{Extension, State}
use Rattle.cycle_spec.specs.declared.entry.Entry.{Entry}
use Rattle.cycle_lists.specs.Lists.{Each}
use Rattle.cycle_lists.proofs.Filters.{filter-append}
use Rattle.ahead_spec.specs.Walk.{Item, entries, stepped, Walked}
use Rattle.engine_history.specs.Lives.{Life, is_accepted, is_killed, latest}

-- ---- the use of an instruction in flight

abbrev pub life_at : List Life → Entry → Option Life
life_at ls e = if is_response_accepted e.response then latest (record { hart = 0; id = e.id }) ls else None

-- those of the accepted ones, the oldest first
abbrev pub flying : List Life → List Entry → List Life
flying ls es = filter_map (life_at ls) es

abbrev pub is_counted : Life → Bool
is_counted l = is_accepted l && not (is_killed l)

-- ---- lists

pub reverse-cons : {A : Type 0} (x : A) (xs : List A) → reverse (x ∷ xs) ≡ reverse xs ++ x ∷ []
reverse-cons x xs = reverse-append (x ∷ []) xs

pub map-appended : {A B : Type 0} (f : A → B) (xs ys : List A) → map f (xs ++ ys) ≡ map f xs ++ map f ys
map-appended f [] ys = refl
map-appended f (x ∷ xs) ys = ap (λ l. f x ∷ l) (map-appended f xs ys)

pub map-reversed : {A : Type 0} (f : A → A) (xs : List A) → map f (reverse xs) ≡ reverse (map f xs)
map-reversed f [] = refl
map-reversed f (x ∷ xs) = ap (map f) (reverse-cons x xs) ∙ map-appended f (reverse xs) (x ∷ []) ∙ ap (λ l. l ++ f x ∷ []) (map-reversed f xs) ∙ sym (reverse-cons (f x) (map f xs))

pub filter-reversed : {A : Type 0} (p : A → Bool) (xs : List A) → filter p (reverse xs) ≡ reverse (filter p xs)
filter-reversed p [] = refl
filter-reversed p (x ∷ xs) = ap (filter p) (reverse-cons x xs) ∙ filter-append p (reverse xs) (x ∷ []) ∙ ap (λ l. l ++ filter p (x ∷ [])) (filter-reversed p xs) ∙ go (p x)
  where
    go : (t : Bool) → reverse (filter p xs) ++ (if t then x ∷ [] else []) ≡ reverse (if t then x ∷ filter p xs else filter p xs)
    go true = sym (reverse-cons x (filter p xs))
    go false = append-nil (reverse (filter p xs))

pub filter-mapped : {A : Type 0} (p : A → Bool) (f : A → A) (xs : List A) → filter p (map f xs) ≡ map f (filter (λ x. p (f x)) xs)
filter-mapped p f [] = refl
filter-mapped p f (x ∷ xs) = ap (λ l. if p (f x) then f x ∷ l else l) (filter-mapped p f xs) ∙ go (p (f x))
  where
    go : (t : Bool) → (if t then f x ∷ map f (filter (λ x. p (f x)) xs) else map f (filter (λ x. p (f x)) xs)) ≡ map f (if t then x ∷ filter (λ x. p (f x)) xs else filter (λ x. p (f x)) xs)
    go true = refl
    go false = refl

-- a test by two
pub filter-both : {A : Type 0} (p q : A → Bool) (xs : List A) → filter (λ x. p x && q x) xs ≡ filter q (filter p xs)
filter-both p q [] = refl
filter-both p q (x ∷ xs) = ap (λ l. if p x && q x then x ∷ l else l) (filter-both p q xs) ∙ go (p x)
  where
    go : (t : Bool) → (if t && q x then x ∷ filter q (filter p xs) else filter q (filter p xs)) ≡ filter q (if t then x ∷ filter p xs else filter p xs)
    go true = refl
    go false = refl

-- what passes one test passes the other
pub filter-within : {A : Type 0} (p q : A → Bool) (xs : List A) → Each (λ x. p x ≡ true → q x ≡ true) xs → filter p (filter q xs) ≡ filter p xs
filter-within p q [] h = refl
filter-within p q (x ∷ xs) h = go (q x) (p x) refl refl (filter-within p q xs h.1)
  where
    go : (t s : Bool) → q x ≡ t → p x ≡ s → filter p (filter q xs) ≡ filter p xs → filter p (if t then x ∷ filter q xs else filter q xs) ≡ (if s then x ∷ filter p xs else filter p xs)
    go true s a b k = ap (λ z. if z then x ∷ filter p (filter q xs) else filter p (filter q xs)) b ∙ ap (λ l. if s then x ∷ l else l) k
    go false true a b k = absurd (let z : false ≡ true = sym a ∙ h.0 b in cc)
    go false false a b k = k

mapped-cons : {B : Type 0} (f : B → B) (o : Option B) (xs : List B) → map f (cons_option o xs) ≡ cons_option (option_map f o) (map f xs)
mapped-cons f None xs = refl
mapped-cons f (Some y) xs = refl

pub map-filtered : {A B : Type 0} (h : A → Option B) (f : B → B) (xs : List A) → map f (filter_map h xs) ≡ filter_map (λ x. option_map f (h x)) xs
map-filtered h f [] = refl
map-filtered h f (x ∷ xs) = mapped-cons f (h x) (filter_map h xs) ∙ ap (cons_option (option_map f (h x))) (map-filtered h f xs)

pub filtered-map : {A B : Type 0} (h : A → Option B) (g : A → A) (xs : List A) → filter_map h (map g xs) ≡ filter_map (λ x. h (g x)) xs
filtered-map h g [] = refl
filtered-map h g (x ∷ xs) = ap (cons_option (h (g x))) (filtered-map h g xs)

pub filtered-same : {A B : Type 0} (h k : A → Option B) (xs : List A) → Each (λ x. h x ≡ k x) xs → filter_map h xs ≡ filter_map k xs
filtered-same h k [] e = refl
filtered-same h k (x ∷ xs) e = ap₂ cons_option e.0 (filtered-same h k xs e.1)

pub filtered-none : {A B : Type 0} (h : A → Option B) (xs : List A) → Each (λ x. h x ≡ None) xs → filter_map h xs ≡ []
filtered-none h [] e = refl
filtered-none h (x ∷ xs) e = ap (λ o. cons_option o (filter_map h xs)) e.0 ∙ filtered-none h xs e.1

cons-each : {B : Type 0} (P : B → Type 0) (o : Option B) (ys : List B) → Each P (cons_option o ys) → IfSome o P × Each P ys
cons-each P None ys e = (tt, e)
cons-each P (Some y) ys e = e

each-cons : {B : Type 0} (P : B → Type 0) (o : Option B) (ys : List B) → IfSome o P → Each P ys → Each P (cons_option o ys)
each-cons P None ys k e = e
each-cons P (Some y) ys k e = (k, e)

-- a fact of what is chosen
pub chosen-each : {A B : Type 0} (P : B → Type 0) (h : A → Option B) (xs : List A) → Each P (filter_map h xs) → Each (λ x. IfSome (h x) P) xs
chosen-each P h [] e = tt
chosen-each P h (x ∷ xs) e = let c = cons-each P (h x) (filter_map h xs) e in (c.0, chosen-each P h xs c.1)

pub each-chosen : {A B : Type 0} (P : B → Type 0) (h : A → Option B) (xs : List A) → Each (λ x. IfSome (h x) P) xs → Each P (filter_map h xs)
each-chosen P h [] e = tt
each-chosen P h (x ∷ xs) e = each-cons P (h x) (filter_map h xs) e.0 (each-chosen P h xs e.1)

-- ---- states along instructions in flight

abbrev pub behind : Extension → State → Entry → State
behind x s e = stepped x s e.pc e.kind e.word

abbrev pub Walk : Extension → (State → Entry → Type 0) → State → List Entry → Type 0
Walk x P s [] = ⊤
Walk x P s (e ∷ es) = P s e × Walk x P (behind x s e) es

pub walk-both : (x : Extension) (P Q R : State → Entry → Type 0) (es : List Entry) (s : State) → ((s : State) (e : Entry) → P s e → Q s e → R s e) → Walk x P s es → Walk x Q s es → Walk x R s es
walk-both x P Q R [] s f p q = tt
walk-both x P Q R (e ∷ es) s f p q = (f s e p.0 q.0, walk-both x P Q R es (behind x s e) f p.1 q.1)

pub walk-each : (x : Extension) (Q : Entry → Type 0) (es : List Entry) (s : State) → Each Q es → Walk x (λ s e. Q e) s es
walk-each x Q [] s h = tt
walk-each x Q (e ∷ es) s h = (h.0, walk-each x Q es (behind x s e) h.1)

pub walk-items : (x : Extension) (P : State → Item → Type 0) (T : Item → Type 0) (Q : State → Entry → Type 0) (ys : List Item) (s : State) → ((s : State) (y : Item) → P s y → T y → Q s y.entry) → Walked x P s ys → Each T ys → Walk x Q s (entries ys)
walk-items x P T Q [] s f p t = tt
walk-items x P T Q (y ∷ ys) s f p t = (f s y p.0 t.0, walk-items x P T Q ys (behind x s y.entry) f p.1 t.1)

pub walk-take : (x : Extension) (P : State → Entry → Type 0) (k : ℕ) (es : List Entry) (s : State) → Walk x P s es → Walk x P s (take k es)
walk-take x P Rattle.std.specs.Prelude.zero es s h = tt
walk-take x P (Rattle.std.specs.Prelude.suc k) [] s h = tt
walk-take x P (Rattle.std.specs.Prelude.suc k) (e ∷ es) s h = (h.0, walk-take x P k es (behind x s e) h.1)

-- a change of entries that keeps their places
pub record KeepsPlace (g : Entry → Entry) : Type 0 where
  pub pc : (e : Entry) → (g e).pc ≡ e.pc
  pub kind : (e : Entry) → (g e).kind ≡ e.kind
  pub word : (e : Entry) → (g e).word ≡ e.word

pub behind-same : (x : Extension) (g : Entry → Entry) (s : State) (e : Entry) → KeepsPlace g → behind x s (g e) ≡ behind x s e
behind-same x g s e k = ap (λ p. stepped x s p (g e).kind (g e).word) (k.pc e) ∙ ap (λ q. stepped x s e.pc q (g e).word) (k.kind e) ∙ ap (stepped x s e.pc e.kind) (k.word e)

pub walk-map : (x : Extension) (P Q : State → Entry → Type 0) (g : Entry → Entry) (es : List Entry) (s : State) → KeepsPlace g → ((s : State) (e : Entry) → P s e → Q s (g e)) → Walk x P s es → Walk x Q s (map g es)
walk-map x P Q g [] s k f h = tt
walk-map x P Q g (e ∷ es) s k f h = (f s e h.0, subst (λ t. Walk x Q t (map g es)) (sym (behind-same x g s e k)) (walk-map x P Q g es (behind x s e) k f h.1))

pub walk-push : (x : Extension) (Q : State → Entry → Type 0) (es : List Entry) (e : Entry) (s : State) → ((s : State) → Q s e) → Walk x Q s es → Walk x Q s (es ++ e ∷ [])
walk-push x Q [] e s f h = (f s, tt)
walk-push x Q (y ∷ es) e s f h = (h.0, walk-push x Q es e (behind x s y) f h.1)
