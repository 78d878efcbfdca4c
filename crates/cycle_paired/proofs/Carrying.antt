-- What the changes of uses leave: starts, keys, words, and results that are there.
use Rattle.std.proofs.Common.{◌≡◌, ◌<◌, ◌++◌, ℕ, Bool, true, false, List, ◌∷◌, map, filter, Option, refl, sym, ap, ◌∙◌, subst, append_assoc}
use Rattle.std.specs.Prelude.{IsSome, is_some}
use Rattle.std.proofs.lemmas.List.{map-append}
use Rattle.coproc_config.specs.declared.accept.Hit.{Hit}
use Rattle.cycle_spec.specs.declared.use_of.Use.{Use}
use Rattle.cycle_spec.specs.Engine.{with_answer, with_operands, with_decision}
use Rattle.cycle_lists.specs.Lists.{Each, Pairs}
use Rattle.cycle_lists.proofs.Every.{Each-map, Pairs-map}
use Rattle.cycle_lists.proofs.Filters.{filter-at}
use Rattle.cycle_paired.specs.Paired.{Older}

-- a change of uses that leaves what names them, and what is ready
pub record LeavesUse (f : Use → Use) : Type 0 where
  pub start : (u : Use) → (f u).start ≡ u.start
  pub key : (u : Use) → (f u).key ≡ u.key
  pub word : (u : Use) → (f u).word ≡ u.word
  pub result : (u : Use) → (f u).result ≡ u.result
  pub ready : (u : Use) → (f u).ready ≡ u.ready
  pub finished : (u : Use) → (f u).finished ≡ u.finished

pub leaves-answer : (start : ℕ) (hit : Option Hit) (order : ℕ) → LeavesUse (with_answer start hit order)
leaves-answer start hit order = record { start = λ u. refl; key = λ u. refl; word = λ u. refl; result = λ u. refl; ready = λ u. refl; finished = λ u. refl }

pub leaves-operands : (start : ℕ) (lanes : List ℕ) → LeavesUse (with_operands start lanes)
leaves-operands start lanes = record { start = λ u. refl; key = λ u. refl; word = λ u. refl; result = λ u. refl; ready = λ u. refl; finished = λ u. refl }

pub leaves-decision : (kill : Bool) (named : Use) → LeavesUse (with_decision kill named)
leaves-decision kill named = record { start = λ u. refl; key = λ u. refl; word = λ u. refl; result = λ u. refl; ready = λ u. refl; finished = λ u. refl }

-- ---- order

pub older-kept : (f : Use → Use) → ((u : Use) → (f u).start ≡ u.start) → ((u : Use) → (f u).key ≡ u.key) → (x y : Use) → Older x y → Older (f x) (f y)
older-kept f s k x y o = record {
  rises = subst (λ n. n < (f y).start) (sym (s x)) (subst (λ n. x.start < n) (sym (s y)) o.rises);
  apart = λ h i. o.apart (ap (λ q. q.hart) (sym (k x)) ∙ h ∙ ap (λ q. q.hart) (k y)) (ap (λ q. q.id) (sym (k x)) ∙ i ∙ ap (λ q. q.id) (k y));
}

pub older-map : (f : Use → Use) (us : List Use) → LeavesUse f → Pairs Older us → Pairs Older (map f us)
older-map f us l h = Pairs-map Older f us (λ x y o. older-kept f l.start l.key x y o) h

pub below-map : (f : Use → Use) (c : ℕ) (us : List Use) → LeavesUse f → Each (λ u. u.start < c) us → Each (λ u. u.start < c) (map f us)
below-map f c us l h = Each-map (λ u. u.start < c) (λ u. u.start < c) f us (λ u k. subst (λ n. n < c) (sym (l.start u)) k) h

-- ---- a result that is there

-- A use stands in a list, with its result. All but what the steps of a cycle may change is the same.
pub record Carries (u : Use) (us : List Use) : Type 0 where
  pub front : List Use
  pub carried : Use
  pub back : List Use
  pub here : us ≡ front ++ carried ∷ back
  pub start : carried.start ≡ u.start
  pub key : carried.key ≡ u.key
  pub word : carried.word ≡ u.word
  pub hit : carried.hit ≡ u.hit
  pub result : carried.result ≡ u.result
  pub ready : IsSome carried.ready
  pub unfinished : carried.finished ≡ false

pub carries-map : (u : Use) (f : Use → Use) (us : List Use) → LeavesUse f → (c : Carries u us) → (f c.carried).hit ≡ c.carried.hit → Carries u (map f us)
carries-map u f us l c h = record {
  front = map f c.front;
  carried = f c.carried;
  back = map f c.back;
  here = ap (map f) c.here ∙ map-append f c.front (c.carried ∷ c.back);
  start = l.start c.carried ∙ c.start;
  key = l.key c.carried ∙ c.key;
  word = l.word c.carried ∙ c.word;
  hit = h ∙ c.hit;
  result = l.result c.carried ∙ c.result;
  ready = ap is_some (l.ready c.carried) ∙ c.ready;
  unfinished = l.finished c.carried ∙ c.unfinished;
}

pub carries-filter : (u : Use) (test : Use → Bool) (us : List Use) (c : Carries u us) → test c.carried ≡ true → Carries u (filter test us)
carries-filter u test us c k = record {
  front = filter test c.front;
  carried = c.carried;
  back = filter test c.back;
  here = ap (filter test) c.here ∙ filter-at test c.front c.carried c.back k;
  start = c.start;
  key = c.key;
  word = c.word;
  hit = c.hit;
  result = c.result;
  ready = c.ready;
  unfinished = c.unfinished;
}

pub carries-push : (u : Use) (us vs : List Use) → Carries u us → Carries u (us ++ vs)
carries-push u us vs c = record {
  front = c.front;
  carried = c.carried;
  back = c.back ++ vs;
  here = ap (λ l. l ++ vs) c.here ∙ append_assoc c.front (c.carried ∷ c.back) vs;
  start = c.start;
  key = c.key;
  word = c.word;
  hit = c.hit;
  result = c.result;
  ready = c.ready;
  unfinished = c.unfinished;
}
