-- A walk along the instructions in flight, and the path of their addresses.
use Rattle.std.proofs.Common.{◌≡◌, ℕ, List, [], ◌∷◌, ◌++◌, sym, ap, ◌∙◌, subst}
use Rattle.std.specs.List.{AllByRecursion}
use Rattle.inorder_machine.specs.Machine.{Extension, State}
use Rattle.ahead_spec.specs.Walk.{Item, stepped, along, Walked, leads_to, IsPath, path_end}

-- an item in the place of another
pub record SamePlace (y z : Item) : Type 0 where
  pub pc : z.entry.pc ≡ y.entry.pc
  pub kind : z.entry.kind ≡ y.entry.kind
  pub word : z.entry.word ≡ y.entry.word

pub same_step : (x : Extension) (s : State) (y z : Item) → SamePlace y z → stepped x s y.entry.pc y.entry.kind y.entry.word ≡ stepped x s z.entry.pc z.entry.kind z.entry.word
same_step x s y z p = sym (ap (λ n. stepped x s n z.entry.kind z.entry.word) p.pc ∙ ap (λ n. stepped x s y.entry.pc n z.entry.word) p.kind ∙ ap (λ n. stepped x s y.entry.pc y.entry.kind n) p.word)

module _ (x : Extension) (P : State → Item → Type 0) where
  pub walked-front : (ys zs : List Item) (s : State) → Walked x P s (ys ++ zs) → Walked x P s ys
  walked-front [] zs s h = tt
  walked-front (y ∷ ys) zs s h = (h.0, walked-front ys zs (stepped x s y.entry.pc y.entry.kind y.entry.word) h.1)

  pub walked-at : (ys : List Item) (z : Item) (zs : List Item) (s : State) → Walked x P s (ys ++ z ∷ zs) → P (along x s ys) z
  walked-at [] z zs s h = h.0
  walked-at (y ∷ ys) z zs s h = walked-at ys z zs (stepped x s y.entry.pc y.entry.kind y.entry.word) h.1

  pub walked-replaced : (ys : List Item) (y z : Item) (zs : List Item) (s : State) → SamePlace y z → P (along x s ys) z → Walked x P s (ys ++ y ∷ zs) → Walked x P s (ys ++ z ∷ zs)
  walked-replaced [] y z zs s p n h = (n, subst (λ t. Walked x P t zs) (same_step x s y z p) h.1)
  walked-replaced (o ∷ ys) y z zs s p n h = (h.0, walked-replaced ys y z zs (stepped x s o.entry.pc o.entry.kind o.entry.word) p n h.1)

  pub walked-push : (ys : List Item) (z : Item) (s : State) → P (along x s ys) z → Walked x P s ys → Walked x P s (ys ++ z ∷ [])
  walked-push [] z s n h = (n, tt)
  walked-push (y ∷ ys) z s n h = (h.0, walked-push ys z (stepped x s y.entry.pc y.entry.kind y.entry.word) n h.1)

  -- with another fact of each
  pub walked-both : (Q R : Item → Type 0) (ys : List Item) (s : State) → ((t : State) (y : Item) → P t y → Q y → R y) → Walked x P s ys → AllByRecursion Q ys → AllByRecursion R ys
  walked-both Q R [] s f h k = tt
  walked-both Q R (y ∷ ys) s f h k = (f s y h.0 k.0, walked-both Q R ys (stepped x s y.entry.pc y.entry.kind y.entry.word) f h.1 k.1)

  -- what holds of each in whatever state
  pub walked-each : (Q : Item → Type 0) (ys : List Item) (s : State) → ((t : State) (y : Item) → P t y → Q y) → Walked x P s ys → AllByRecursion Q ys
  walked-each Q [] s f h = tt
  walked-each Q (y ∷ ys) s f h = (f s y h.0, walked-each Q ys (stepped x s y.entry.pc y.entry.kind y.entry.word) f h.1)

-- the path

pub path-front : (ys zs : List Item) (from : ℕ) → IsPath from (ys ++ zs) → IsPath from ys
path-front [] zs from h = tt
path-front (y ∷ ys) zs from h = (h.0, path-front ys zs (leads_to y.entry) h.1)

pub path-at : (ys : List Item) (z : Item) (zs : List Item) (from : ℕ) → IsPath from (ys ++ z ∷ zs) → IsPath (leads_to z.entry) zs
path-at [] z zs from h = h.1
path-at (y ∷ ys) z zs from h = path-at ys z zs (leads_to y.entry) h.1

pub path-replaced : (ys : List Item) (y z : Item) (zs : List Item) (from : ℕ) → z.entry.pc ≡ y.entry.pc → IsPath (leads_to z.entry) zs → IsPath from (ys ++ y ∷ zs) → IsPath from (ys ++ z ∷ zs)
path-replaced [] y z zs from p c h = (p ∙ h.0, c)
path-replaced (o ∷ ys) y z zs from p c h = (h.0, path-replaced ys y z zs (leads_to o.entry) p c h.1)

pub path-push : (ys : List Item) (z : Item) (from : ℕ) → z.entry.pc ≡ path_end from ys → IsPath from ys → IsPath from (ys ++ z ∷ [])
path-push [] z from p h = (p, tt)
path-push (y ∷ ys) z from p h = (h.0, path-push ys z (leads_to y.entry) p h.1)
