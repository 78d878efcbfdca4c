-- What instructions and their uses know of each other, under the changes of uses.
use Rattle.std.proofs.Common.{◌≡◌, ◌≢◌, ◌++◌, ℕ, true, false, List, [], ◌∷◌, map, Some, refl, sym, ap, ◌∙◌, subst, append_assoc, arith}
use Rattle.inorder_machine.specs.Machine.{Extension}
use Rattle.cycle_spec.specs.declared.entry.Entry.{Entry}
use Rattle.cycle_spec.specs.declared.use_of.Use.{Use}
use Rattle.cycle_spec.specs.Flight.{is_unknown}
use Rattle.cycle_spec.specs.Engine.{latest}
use Rattle.cycle_lists.specs.Lists.{Each, Pairs}
use Rattle.cycle_lists.specs.Order.{Before}
use Rattle.cycle_lists.proofs.Tests.{not-both}
use Rattle.cycle_lists.proofs.Every.{Each-from, Each-map, Each-both, Each-append, Each-front, Each-back, Pairs-older, Pairs-younger}
use Rattle.cycle_paired.specs.Paired.{is_live, IsEntry, Older}
use Rattle.cycle_paired.proofs.Facts.{live-unknown}
use Rattle.cycle_paired.proofs.Matching.{latest-at}
use Rattle.ahead_spec.specs.Walk.{Item}
use Rattle.ahead_spec.specs.Operands.{word_hit}
use Rattle.cycle_events.specs.Shown.{shown, IsUseOf, Tied}

-- ---- lists

-- what holds wherever a list is split holds of each
splits : {A : Type 0} (P : A → Type 0) (zs xs : List A) → ((front : List A) (y : A) (back : List A) → zs ++ xs ≡ front ++ y ∷ back → P y) → Each P xs
splits P zs [] k = tt
splits P zs (x ∷ xs) k = (k zs x xs refl, splits P (zs ++ x ∷ []) xs (λ f y b h. k f y b (sym (append_assoc zs (x ∷ []) xs) ∙ h)))

pub each-split : {A : Type 0} (P : A → Type 0) (xs : List A) → ((front : List A) (y : A) (back : List A) → xs ≡ front ++ y ∷ back → P y) → Each P xs
each-split P xs k = splits P [] xs k

-- each use is the latest of its key
pub each-latest : (hart id : ℕ) (us : List Use) → Pairs Older us → Each (λ u. u.key.hart ≡ hart → u.key.id ≡ id → latest (record { hart = hart; id = id }) us ≡ Some u) us
each-latest hart id us o =
    each-split (λ u. u.key.hart ≡ hart → u.key.id ≡ id → latest (record { hart = hart; id = id }) us ≡ Some u) us
    (λ f u b h a i. ap (latest (record { hart = hart; id = id })) h ∙ latest-at f u b hart id a i (Pairs-younger Older f u b (subst (Pairs Older) h o)))

-- the only use of a start
pub each-start : (us front : List Use) (u : Use) (back : List Use) → us ≡ front ++ u ∷ back → Pairs Older us → Each (λ v. v.start ≡ u.start → v ≡ u) us
each-start us front u back h o =
    let o' : Pairs Older (front ++ u ∷ back) = subst (Pairs Older) h o in
    subst (Each (λ v. v.start ≡ u.start → v ≡ u)) (sym h)
    (Each-append (λ v. v.start ≡ u.start → v ≡ u) front (u ∷ back)
    (Each-from (λ v. Older v u) (λ v. v.start ≡ u.start → v ≡ u) front (λ v k q. absurd (let r = k.rises in omega arith)) (Pairs-older Older front u back o'))
    ((λ q. refl), Each-from (Older u) (λ v. v.start ≡ u.start → v ≡ u) back (λ v k q. absurd (let r = k.rises in omega arith)) (Pairs-younger Older front u back o')))

-- ---- uses that keep what is known

pub record SameUse (u v : Use) : Type 0 where
  pub key : v.key ≡ u.key
  pub hit : v.hit ≡ u.hit
  pub given : v.given ≡ u.given
  pub lanes : v.lanes ≡ u.lanes
  pub ready : v.ready ≡ u.ready
  pub result : v.result ≡ u.result

pub is-same : (x : Extension) (y : Item) (u v : Use) → SameUse u v → IsUseOf x y u → IsUseOf x y v
is-same x y u v s k = record {
  hit_is = s.hit ∙ k.hit_is;
  sent_is = λ g. k.sent_is (sym s.given ∙ g) ∙ ap Some (sym s.lanes);
  result_is = k.result_is ∙ ap (λ r. shown r u.result) (sym s.ready) ∙ ap (shown v.ready) (sym s.result);
}

-- what is said of one use
abbrev pub Tie : (x : Extension) → (hart : ℕ) → Item → Use → Type 0
Tie x hart y u = is_live y.entry ≡ true → u.key.hart ≡ hart → u.key.id ≡ y.entry.id → IsUseOf x y u

pub tie-same : (x : Extension) (hart : ℕ) (y : Item) (u v : Use) → SameUse u v → Tie x hart y u → Tie x hart y v
tie-same x hart y u v s k l h i = is-same x y u v s (k l (ap (λ q. q.hart) (sym s.key) ∙ h) (ap (λ q. q.id) (sym s.key) ∙ i))

pub tied-map : (x : Extension) (hart : ℕ) (g : Use → Use) (us : List Use) (y : Item) → ((u : Use) → SameUse u (g u)) → Tied x hart us y → Tied x hart (map g us) y
tied-map x hart g us y k h = Each-map (Tie x hart y) (Tie x hart y) g us (λ u t. tie-same x hart y u (g u) (k u) t) h

pub all-tied-map : (x : Extension) (hart : ℕ) (g : Use → Use) (us : List Use) (ys : List Item) → ((u : Use) → SameUse u (g u)) → Each (Tied x hart us) ys → Each (Tied x hart (map g us)) ys
all-tied-map x hart g us ys k h = Each-from (Tied x hart us) (Tied x hart (map g us)) ys (λ y t. tied-map x hart g us y k t) h

-- an item that keeps what is known, with another entry
pub record SameItem (y z : Item) : Type 0 where
  pub live : is_live z.entry ≡ true → is_live y.entry ≡ true
  pub id : z.entry.id ≡ y.entry.id
  pub word : z.entry.word ≡ y.entry.word
  pub sent : z.sent ≡ y.sent
  pub result : z.result ≡ y.result

pub tied-item : (x : Extension) (hart : ℕ) (us : List Use) (y z : Item) → SameItem y z → Tied x hart us y → Tied x hart us z
tied-item x hart us y z s h = Each-from (Tie x hart y) (Tie x hart z) us (λ u t l a i. moved u (t (s.live l) a (i ∙ s.id))) h
  where
    moved : (u : Use) → IsUseOf x y u → IsUseOf x z u
    moved u k = record {
      hit_is = k.hit_is ∙ ap (word_hit x) (sym s.word);
      sent_is = λ g. s.sent ∙ k.sent_is g;
      result_is = s.result ∙ k.result_is;
    }

-- an item that isn't live is tied to nothing
pub tied-dead : (x : Extension) (hart : ℕ) (us : List Use) (y : Item) → is_live y.entry ≡ false → Tied x hart us y
tied-dead x hart us y d = each-split (Tie x hart y) us (λ f u b h l a i. absurd (not-both (is_live y.entry) d l))

-- ---- ids

-- the ids of live entries around an unknown word differ from its own
pub record OtherIds (older : List Entry) (e : Entry) (younger : List Entry) : Type 0 where
  pub front : Each (λ y. is_live y ≡ true → y.id ≢ e.id) older
  pub back : Each (λ y. is_live y ≡ true → y.id ≢ e.id) younger

pub other-ids-at : (older : List Entry) (e : Entry) (younger : List Entry) → Pairs Before (older ++ e ∷ younger) → Each IsEntry (older ++ e ∷ younger) → is_unknown e ≡ true → OtherIds older e younger
other-ids-at older e younger b ok u = record {
  front = Each-both (λ y. Before y e) IsEntry (λ y. is_live y ≡ true → y.id ≢ e.id) older (λ y k o l q. k.apart (live-unknown y o l) u q) (Pairs-older Before older e younger b) (Each-front IsEntry older (e ∷ younger) ok);
  back = Each-both (Before e) IsEntry (λ y. is_live y ≡ true → y.id ≢ e.id) younger (λ y k o l q. k.apart u (live-unknown y o l) (sym q)) (Pairs-younger Before older e younger b) (Each-back IsEntry older (e ∷ younger) ok).1;
}
