-- Starts that stay, and the open use.
use Rattle.std.proofs.Common.{◌≡◌, ◌<◌, ◌≤◌, ℕ, Bool, true, false, Option, Some, None, refl, sym, ap, ◌∙◌, subst}
use Rattle.std.specs.Prelude.{IfSome, IsSomeAnd}
use Rattle.std.specs.Option.{option_map}
use Rattle.xif_base.specs.declared.params.Key.{Key}
use Rattle.xif_session.specs.Facts.{same_key}
use Rattle.xif_session.proofs.Options.{key_is}
use Rattle.xif_uses.specs.declared.entry.Use.{Use}
use Rattle.xif_uses.specs.Table.{Table, IsKey, Sets, StartsBefore, NoneLater, use_of}
use Rattle.issue_channel.specs.Following.{IsOpen}
use Rattle.issue_channel.specs.Steps.{SameStarts}

abbrev start_in : Option Use → Option ℕ
start_in found = option_map (λ latest. latest.start) found

-- what holds of a start holds of the same start
some_same : (P : ℕ → Type 0) (x y : Option Use) → start_in x ≡ start_in y → IfSome y (λ latest. P latest.start) → IfSome x (λ latest. P latest.start)
some_same P None y q h = tt
some_same P (Some u) None q h = cc
some_same P (Some u) (Some v) q h = let e : v.start ≡ u.start = cc in subst P e h

map_some : (P Q : ℕ → Type 0) (x : Option Use) → ((s : ℕ) → P s → Q s) → IfSome x (λ latest. P latest.start) → IfSome x (λ latest. Q latest.start)
map_some P Q None g h = tt
map_some P Q (Some u) g h = g u.start h

pub same_trans : (a b c : Table) → SameStarts a b → SameStarts b c → SameStarts a c
same_trans a b c s t = record {
  params = t.params ∙ s.params;
  starts = λ key k. t.starts key (subst (λ q. IsKey q key) (sym s.params) k) ∙ s.starts key k;
}

pub before_same : (old new : Table) (cycle : ℕ) → SameStarts old new → StartsBefore old cycle → StartsBefore new cycle
before_same old new cycle s h key k =
    let k' = subst (λ q. IsKey q key) s.params k in some_same (λ n. n < cycle) (use_of new key) (use_of old key) (s.starts key k') (h key k')

later_same : (old new : Table) (start : ℕ) → SameStarts old new → NoneLater old start → NoneLater new start
later_same old new start s h key k =
    let k' = subst (λ q. IsKey q key) s.params k in some_same (λ n. n ≤ start) (use_of new key) (use_of old key) (s.starts key k') (h key k')

pub newest_same : (old new : Table) (key : Key) → SameStarts old new → IsKey old.params key → IfSome (use_of old key) (λ latest. NoneLater old latest.start) → IfSome (use_of new key) (λ latest. NoneLater new latest.start)
newest_same old new key s k h =
    some_same (λ n. NoneLater new n) (use_of new key) (use_of old key) (s.starts key k)
    (map_some (λ n. NoneLater old n) (λ n. NoneLater new n) (use_of old key) (λ n. later_same old new n s) h)

-- a change that leaves start and transaction alone
pub open_same : (old new : Table) (changed key : Key) (f : Use → Use) → Sets old new changed (option_map f (use_of old changed)) → ((u : Use) → (f u).ongoing ≡ u.ongoing) → SameStarts old new
    → IsOpen old key → IsOpen new key
open_same old new changed key f s g t h = record {
  inside = subst (λ q. IsKey q key) (sym s.params) h.inside;
  ongoing = go (same_key changed key) refl;
  newest = newest_same old new key t h.inside h.newest;
}
  where
    mapped : (x : Option Use) → IsSomeAnd x (λ latest. latest.ongoing ≡ true) → IsSomeAnd (option_map f x) (λ latest. latest.ongoing ≡ true)
    mapped None h = h
    mapped (Some u) h = g u ∙ h

    go : (t : Bool) → same_key changed key ≡ t → IsSomeAnd (use_of new key) (λ latest. latest.ongoing ≡ true)
    go true q =
        let e : changed ≡ key = key_is changed key q in
        subst (λ o. IsSomeAnd o (λ latest. latest.ongoing ≡ true)) (sym (ap (use_of new) (sym e) ∙ s.latest ∙ ap (λ k. option_map f (use_of old k)) e)) (mapped (use_of old key) h.ongoing)
    go false q = subst (λ o. IsSomeAnd o (λ latest. latest.ongoing ≡ true)) (sym (s.others key h.inside q)) h.ongoing

-- a change of the use of one key, of which something holds
pub some_set : (P : Use → Type 0) (old new : Table) (changed key : Key) (f : Use → Use) → Sets old new changed (option_map f (use_of old changed)) → ((u : Use) → P u → P (f u))
    → IsKey old.params key → IsSomeAnd (use_of old key) P → IsSomeAnd (use_of new key) P
some_set P old new changed key f s g k h = go (same_key changed key) refl
  where
    mapped : (x : Option Use) → IsSomeAnd x P → IsSomeAnd (option_map f x) P
    mapped None h = h
    mapped (Some u) h = g u h

    go : (t : Bool) → same_key changed key ≡ t → IsSomeAnd (use_of new key) P
    go true q =
        let e : changed ≡ key = key_is changed key q in
        subst (λ o. IsSomeAnd o P) (sym (ap (use_of new) (sym e) ∙ s.latest ∙ ap (λ k. option_map f (use_of old k)) e)) (mapped (use_of old key) h)
    go false q = subst (λ o. IsSomeAnd o P) (sym (s.others key k q)) h

pub same_set : (old new : Table) (changed : Key) (f : Use → Use) → Sets old new changed (option_map f (use_of old changed)) → ((u : Use) → (f u).start ≡ u.start) → SameStarts old new
same_set old new changed f s g = record { params = s.params; starts = λ key k. go key k (same_key changed key) refl }
  where
    mapped : (x : Option Use) → start_in (option_map f x) ≡ start_in x
    mapped None = refl
    mapped (Some u) = ap Some (g u)

    go : (key : Key) → IsKey old.params key → (t : Bool) → same_key changed key ≡ t → start_in (use_of new key) ≡ start_in (use_of old key)
    go key k true q =
        let e : changed ≡ key = key_is changed key q in
        ap start_in (ap (use_of new) (sym e) ∙ s.latest ∙ ap (λ k. option_map f (use_of old k)) e) ∙ mapped (use_of old key)
    go key k false q = ap start_in (s.others key k q)
