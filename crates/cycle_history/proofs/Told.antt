-- What the history tells of the instructions in flight that had their issue handshake.
use Rattle.std.proofs.Common.{◌≡◌, ◌&&◌, ◌++◌, not, if◌then◌else◌, ℕ, Bool, true, false, Option, Some, None, List, [], ◌∷◌, refl, sym, ap, ◌∙◌, subst}
use Rattle.std.specs.Prelude.{is_some, find, IfSome}
use Rattle.std.specs.Option.{option_map_or}
use Rattle.xif_base.specs.declared.params.Key.{Key}
use Rattle.xif_base.specs.declared.params.Params.{Params}
use Rattle.coproc_config.specs.Set.{UnitTable}
use Rattle.xif_session.specs.Facts as facts
use Rattle.xif_session.specs.Facts.{same_key, verdict_of}
use Rattle.cycle_spec.specs.declared.entry.Entry.{Entry}
use Rattle.cycle_spec.specs.declared.use_of.Use.{Use}
use Rattle.cycle_spec.specs.Engine as spec
use Rattle.cycle_spec.specs.Cycle.{Machines}
use Rattle.cycle_lists.specs.Lists.{Each}
use Rattle.cycle_lists.proofs.Tests.{some-is}
use Rattle.cycle_lists.proofs.Every.{Each-at}
use Rattle.cycle_lists.proofs.Places.{last-found}
use Rattle.cycle_paired.specs.Paired.{is_live, live_entries, is_live_use, decision_of, Alike, IsUse, Paired}
use Rattle.cycle_paired.proofs.Facts.{accepted-answered}
use Rattle.cycle_paired.proofs.Matching.{found}
use Rattle.trace_laws.proofs.CoreRules.{each_live}
use Rattle.engine_history.specs.Lives.{Life, Verdict, is_accepted, is_killed, is_released, latest}
use Rattle.engine_history.specs.Told.{decision_told, latest_uses, whole_use, whole_uses}
use Rattle.engine_history.proofs.Lists.{latest_is}
use Rattle.engine_history.proofs.Tests.{killed_told}
use Rattle.engine_history.proofs.Units.{IsAnswer, accepted_told}

-- ---- a use that the engine keeps, and its life

pub record WholeAt (params : Params) (set : List UnitTable) (key : Key) (ls : List Life) (u : Use) : Type 0 where
  pub life : Life
  pub older : List Life
  pub latest_is : latest key ls ≡ Some life
  pub use_is : u ≡ whole_use params set life older

whole-found : (params : Params) (set : List UnitTable) (key : Key) (ls : List Life) (u : Use) → find (spec.has_key key) (whole_uses params set ls) ≡ Some u → WholeAt params set key ls u
whole-found params set key [] u h = cc
whole-found params set key (l ∷ ls) u h = go (same_key l.key key) refl h (λ k. whole-found params set key ls u k)
  where
    go : (t : Bool) → same_key l.key key ≡ t → (if t then Some (whole_use params set l ls) else find (spec.has_key key) (whole_uses params set ls)) ≡ Some u
        → (find (spec.has_key key) (whole_uses params set ls) ≡ Some u → WholeAt params set key ls u) → WholeAt params set key (l ∷ ls) u
    go true q h ih = record { life = l; older = ls; latest_is = ap (λ t. if t then Some l else latest key ls) q; use_is = sym (some-is (whole_use params set l ls) u h) }
    go false q h ih = let r = ih h in record { life = r.life; older = r.older; latest_is = ap (λ t. if t then Some l else latest key ls) q ∙ r.latest_is; use_is = r.use_is }

pub whole-at : (params : Params) (set : List UnitTable) (key : Key) (ls : List Life) (us : List Use) (u : Use) → us ≡ latest_uses (whole_uses params set ls) → spec.latest key us ≡ Some u → WholeAt params set key ls u
whole-at params set key ls us u e h = whole-found params set key ls u (sym (latest_is key (whole_uses params set ls)) ∙ ap (spec.latest key) (sym e) ∙ h)

-- a life, and the use that the engine keeps
pub record UseAt (params : Params) (set : List UnitTable) (key : Key) (us : List Use) (l : Life) : Type 0 where
  pub older : List Life
  pub is_it : spec.latest key us ≡ Some (whole_use params set l older)

use-found : (params : Params) (set : List UnitTable) (key : Key) (ls : List Life) (l : Life) → latest key ls ≡ Some l → (older : List Life) × (find (spec.has_key key) (whole_uses params set ls) ≡ Some (whole_use params set l older))
use-found params set key [] l h = cc
use-found params set key (x ∷ ls) l h = go (same_key x.key key) refl h (λ k. use-found params set key ls l k)
  where
    go : (t : Bool) → same_key x.key key ≡ t → (if t then Some x else latest key ls) ≡ Some l → (latest key ls ≡ Some l → (older : List Life) × (find (spec.has_key key) (whole_uses params set ls) ≡ Some (whole_use params set l older)))
        → (older : List Life) × ((if same_key x.key key then Some (whole_use params set x ls) else find (spec.has_key key) (whole_uses params set ls)) ≡ Some (whole_use params set l older))
    go true q h ih = (ls, ap (λ t. if t then Some (whole_use params set x ls) else find (spec.has_key key) (whole_uses params set ls)) q ∙ ap (λ y. Some (whole_use params set y ls)) (some-is x l h))
    go false q h ih = let r = ih h in (r.0, ap (λ t. if t then Some (whole_use params set x ls) else find (spec.has_key key) (whole_uses params set ls)) q ∙ r.1)

pub use-at : (params : Params) (set : List UnitTable) (key : Key) (ls : List Life) (us : List Use) (l : Life) → us ≡ latest_uses (whole_uses params set ls) → latest key ls ≡ Some l → UseAt params set key us l
use-at params set key ls us l e h =
    let r = use-found params set key ls l h in
    record { older = r.0; is_it = ap (spec.latest key) e ∙ latest_is key (whole_uses params set ls) ∙ r.1 }

-- ---- fields

released-told : (v : Option Verdict) → facts.is_released (decision_told v) ≡ option_map_or (λ (v : Verdict). not v.kill) v false
released-told None = refl
released-told (Some v) = go v.kill
  where
    go : (k : Bool) → facts.is_released (verdict_of k) ≡ not k
    go true = refl
    go false = refl

decided-killed : (r : Bool) → facts.is_killed (decision_of r) ≡ false
decided-killed true = refl
decided-killed false = refl

decided-released : (r : Bool) → facts.is_released (decision_of r) ≡ r
decided-released true = refl
decided-released false = refl

-- ---- an entry that waits, and its life

pub record LiveLife (params : Params) (set : List UnitTable) (ls : List Life) (us : List Use) (e : Entry) : Type 0 where
  pub life : Life
  pub older : List Life
  pub latest_is : latest (record { hart = 0; id = e.id }) ls ≡ Some life
  pub front : List Use
  pub use' : Use
  pub back : List Use
  pub here : us ≡ front ++ use' ∷ back
  pub use_is : use' ≡ whole_use params set life older
  pub alike : Alike 0 e use'
  pub unfinished : use'.finished ≡ false

unended : (a k f : Bool) → (a && (not k && not f)) ≡ true → f ≡ false
unended true false false h = refl
unended true false true h = cc
unended true true f h = cc
unended false k f h = cc

live-at : (params : Params) (set : List UnitTable) (ls : List Life) (m : Machines) (k : Paired 0 m) → m.engine.uses ≡ latest_uses (whole_uses params set ls) → (older : List Entry) (e : Entry) (younger : List Entry) → m.core.flight ≡ older ++ e ∷ younger → is_live e ≡ true
    → LiveLife params set ls m.engine.uses e
live-at params set ls m k us older e younger h l =
    let f = found 0 k.answered older e younger m.engine.uses l k.older (subst (λ es. Rattle.cycle_paired.specs.Paired.Match 0 (live_entries es) (Rattle.cycle_paired.specs.Paired.live_uses k.answered m.engine.uses)) h k.match) in
    let w = whole-at params set (record { hart = 0; id = e.id }) ls m.engine.uses f.partner us f.is_it in
    record {
      life = w.life;
      older = w.older;
      latest_is = w.latest_is;
      front = f.front;
      use' = f.partner;
      back = f.back;
      here = f.here;
      use_is = w.use_is;
      alike = f.alike;
      unfinished = unended (k.answered f.partner.start) (facts.is_killed f.partner.decision) f.partner.finished f.live_is;
    }

-- a fact of each place of a list
pub at-each : {A : Type 0} (P : A → Type 0) (front xs : List A) → ((older : List A) (x : A) (younger : List A) → front ++ xs ≡ older ++ x ∷ younger → P x) → Each P xs
at-each P front [] h = tt
at-each P front (x ∷ xs) h = (h front x xs refl, at-each P (front ++ x ∷ []) xs (λ older y younger q. h older y younger (sym (Rattle.std.proofs.Common.append_assoc front (x ∷ []) xs) ∙ q)))

pub all-live : (params : Params) (set : List UnitTable) (ls : List Life) (m : Machines) (k : Paired 0 m) → m.engine.uses ≡ latest_uses (whole_uses params set ls) → Each (λ e. is_live e ≡ true → LiveLife params set ls m.engine.uses e) m.core.flight
all-live params set ls m k us = at-each (λ e. is_live e ≡ true → LiveLife params set ls m.engine.uses e) [] m.core.flight (λ older e younger q l. live-at params set ls m k us older e younger q l)

pub live-killed : (params : Params) (set : List UnitTable) (ls : List Life) (us : List Use) (e : Entry) (l : LiveLife params set ls us e) → is_killed l.life ≡ false
live-killed params set ls us e l = sym (killed_told l.life.verdict) ∙ ap (λ (u : Use). facts.is_killed u.decision) (sym l.use_is) ∙ ap facts.is_killed l.alike.decision ∙ decided-killed e.released

pub live-released : (params : Params) (set : List UnitTable) (ls : List Life) (us : List Use) (e : Entry) (l : LiveLife params set ls us e) → is_released l.life ≡ e.released
live-released params set ls us e l = sym (released-told l.life.verdict) ∙ ap (λ (u : Use). facts.is_released u.decision) (sym l.use_is) ∙ ap facts.is_released l.alike.decision ∙ decided-released e.released

pub live-word : (params : Params) (set : List UnitTable) (ls : List Life) (us : List Use) (e : Entry) (l : LiveLife params set ls us e) → l.life.word ≡ e.word
live-word params set ls us e l = ap (λ (u : Use). u.word) (sym l.use_is) ∙ l.alike.word

-- ---- a life that waits, and its entry

-- where no entry that waits has its id, the latest use of a key of the core isn't accepted, or is killed or finished
pub no-live : (params : Params) (set : List UnitTable) (ls : List Life) (m : Machines) (k : Paired 0 m) (id : ℕ) (l : Life) → m.engine.uses ≡ latest_uses (whole_uses params set ls) → latest (record { hart = 0; id = id }) ls ≡ Some l → IfSome l.answer (IsAnswer params set)
    → is_accepted l ≡ true → is_killed l ≡ false → l.finish ≡ None → Each (λ e. e.id ≡ id → ⊥) (live_entries m.core.flight) → ⊥
no-live params set ls m k id l us h ok a d f none =
    let key : Key = record { hart = 0; id = id } in
    let w = use-at params set key ls m.engine.uses l us h in
    let u = whole_use params set l w.older in
    let p = last-found (spec.has_key key) m.engine.uses u w.is_it in
    let use' = Each-at (IsUse k.answered) m.engine.uses p.older u p.younger p.here k.uses in
    let answered = accepted-answered k.answered u use' (accepted_told params set l.answer ok ∙ a) in
    let live : is_live_use k.answered u ≡ true = test (k.answered u.start) (facts.is_killed u.decision) u.finished answered (killed_told l.verdict ∙ d) (ap is_some f) in
    let each' = each_live 0 m k (λ e. e.id ≡ id → ⊥) (λ v. v.key.id ≡ id → ⊥) (λ e v y n i. n (sym y.id ∙ i)) none in
    Each-at (λ v. is_live_use k.answered v ≡ true → v.key.id ≡ id → ⊥) m.engine.uses p.older u p.younger p.here each' live (ap (λ (q : Key). q.id) (Rattle.xif_session.proofs.Options.key_is u.key key p.passes))
  where
    test : (a k f : Bool) → a ≡ true → k ≡ false → f ≡ false → (a && (not k && not f)) ≡ true
    test true false false h i j = refl
    test true false true h i j = cc
    test true true f h i j = cc
    test false k f h i j = cc
