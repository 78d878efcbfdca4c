-- A release, and the result of a released word, keep what holds of the machine that runs ahead.
use Rattle.std.proofs.Common.{◌≡◌, ◌⊎◌, ◌&&◌, ◌||◌, ℕ, Bool, true, false, Option, Some, None, is_some, is_none, IsSome, List, [], ◌∷◌, ◌++◌, map, refl, sym, ap, subst, ◌∙◌, inl, inr, if◌then◌else◌}
use Rattle.std.specs.List.{AllByRecursion}
use Rattle.xif_base.specs.Params.{IsInRange}
use Rattle.xif_image.specs.Region.{Region}
use Rattle.inorder_machine.specs.Machine.{Extension, State}
use Rattle.xif_session.specs.declared.fact.Response.{Response}
use Rattle.xif_session.specs.Facts.{is_accepted}
use Rattle.cycle_spec.specs.declared.entry.Entry.{Entry}
use Rattle.cycle_spec.specs.Flight.{is_unknown_kind, is_unknown, is_open, is_safe}
use Rattle.ahead_spec.specs.Walk.{Item, stepped, along, Walked, leads_to, IsPath}
use Rattle.ahead_spec.specs.Operands.{word_hit, halves_read, CarriesOperands, applied_to, unit_step}
use Rattle.ahead_spec.specs.World.{World, Spot, whole, with_item, released_of, released_item, Releases, Applies, happens}
use Rattle.ahead_spec.specs.Guards.{MayRelease, MayApply}
use Rattle.ahead_spec.specs.Pairs.{Pairs}
use Rattle.ahead_spec.specs.Invariant.{Agrees, InOrder, is_use, is_waiting_use, units_at, RunsAhead}
use Rattle.ahead_laws.proofs.Lists.{all-from, all-both, pairs-replaced, not_both, and_left, and_right, and_false, false_or, none_unless}
use Rattle.ahead_laws.proofs.Walks.{SamePlace, walked-both, walked-replaced, path-at, path-replaced}
use Rattle.ahead_laws.proofs.Carried.{carried-same, carries-nothing}
use Rattle.ahead_laws.proofs.Uses.{use-units, IsIdle, units_at-idle, units_at-passed}
use Rattle.ahead_laws.proofs.Agreeing.{agrees-released, agrees-applied, accepted-response, accepted-taken}
use Rattle.ahead_laws.proofs.Safe.{safe-same}
use Rattle.ahead_laws.proofs.Keeping.{other-flight, at-spot, agrees-at, agree-older, order-older, order-younger}

-- ---- a release

released-safe : (y : Item) → is_safe (released_item y).entry ≡ is_safe y.entry
released-safe y = safe-same y.entry (released_of y.entry) refl refl refl refl

released-true : (e : Entry) → is_accepted e.response ≡ true → (released_of e).released ≡ true
released-true e h = go e.released
  where
    go : (b : Bool) → (b || is_accepted e.response) ≡ true
    go true = refl
    go false = h

path-released : (ys : List Item) (z : Item) (zs : List Item) (from : ℕ) → IsPath from (ys ++ z ∷ zs) → IsPath from (map released_item ys ++ released_item z ∷ zs)
path-released [] z zs from h = h
path-released (y ∷ ys) z zs from h = (h.0, path-released ys z zs (leads_to y.entry) h.1)

walked-released : (x : Extension) (memory : Region) (ys : List Item) (z : Item) (zs : List Item) (s : State) → Walked x (Agrees x memory) s (ys ++ z ∷ zs) → Walked x (Agrees x memory) s (map released_item ys ++ released_item z ∷ zs)
walked-released x memory [] z zs s h = (agrees-released x memory s z h.0, h.1)
walked-released x memory (y ∷ ys) z zs s h =
    (agrees-released x memory s y h.0, walked-released x memory ys z zs (stepped x s y.entry.pc y.entry.kind y.entry.word) h.1)

units_at-released : (x : Extension) (ys : List Item) (z : Item) (zs : List Item) (s : State) → units_at x s (map released_item ys ++ released_item z ∷ zs) ≡ units_at x s (ys ++ z ∷ zs)
units_at-released x [] z zs s = refl
units_at-released x (y ∷ ys) z zs s =
    ap (λ u. if is_waiting_use x y then s.units else u) (units_at-released x ys z zs (stepped x s y.entry.pc y.entry.kind y.entry.word))

order-released : (y z z' : Item) → is_safe y.entry ≡ true → z'.result ≡ z.result → z'.entry.response ≡ z.entry.response → InOrder y z → InOrder (released_item y) z'
order-released y z z' safe a b o = record {
  safe = λ h. released-safe y ∙ safe;
  released = λ h k. released-true y.entry k;
  computed = λ h k. o.computed (subst IsSome a h) k;
  answered = λ h. o.answered (subst IsSome b h);
}

all-released : (y : Item) (ys : List Item) (z : Item) (zs : List Item) → is_safe y.entry ≡ true → AllByRecursion (InOrder y) (ys ++ z ∷ zs) → AllByRecursion (InOrder (released_item y)) (map released_item ys ++ released_item z ∷ zs)
all-released y [] z zs safe h =
    (order-released y z (released_item z) safe refl refl h.0, all-from (InOrder y) (InOrder (released_item y)) zs (λ o. order-released y o o safe refl refl) h.1)
all-released y (o ∷ ys) z zs safe h = (order-released y o (released_item o) safe refl refl h.0, all-released y ys z zs safe h.1)

pairs-released : (ys : List Item) (z : Item) (zs : List Item) → is_accepted z.entry.response ≡ true → AllByRecursion (λ y. is_safe y.entry ≡ true) ys → Pairs InOrder (ys ++ z ∷ zs) → Pairs InOrder (map released_item ys ++ released_item z ∷ zs)
pairs-released [] z zs a safe h = (
  all-from (InOrder z) (InOrder (released_item z)) zs (λ o k. record { safe = λ t. released-safe z ∙ k.safe t; released = λ t q. released-true z.entry a; computed = k.computed; answered = k.answered }) h.0,
  h.1,
)
pairs-released (y ∷ ys) z zs a safe h = (all-released y ys z zs safe.0 h.0, pairs-released ys z zs a safe.1 h.1)

pub keeps-release : (x : Extension) (start : State) (w : World) (p : Spot) → MayRelease w p → RunsAhead x start w → RunsAhead x start (happens x w (Releases p))
keeps-release x start w p m r =
    let t = at-spot x start w p r m.here in
    other-flight x start w (map released_item p.older ++ released_item p.item ∷ p.younger) r
    (path-released p.older p.item p.younger r.now.pc t.path)
    (walked-released x r.now.memory p.older p.item p.younger r.now t.agree)
    (pairs-released p.older p.item p.younger m.accepted m.safe t.in_order)
    (units_at-released x p.older p.item p.younger r.now ∙ sym (ap (units_at x r.now) m.here))

-- ---- a result

-- an older instruction is no use whose result isn't computed
passed : (x : Extension) (memory : Region) (s : State) (y z : Item) → Agrees x memory s y → InOrder y z → IsSome z.entry.response → (is_accepted y.entry.response ≡ true → IsSome y.result) → is_waiting_use x y ≡ false
passed x memory s y z g o answered computed = false_or (is_waiting_use x y) no
  where
    has-result : (q : Option ℕ) → is_none q ≡ true → is_some q ≡ true → ⊥
    has-result None n h = cc
    has-result (Some v) n h = cc

    by : (q : Option Response) → y.entry.response ≡ q → is_unknown y.entry ≡ true → is_some (word_hit x y.entry.word) ≡ true → is_none y.result ≡ true → ⊥
    by None e u t n = not_both (is_open y.entry) (o.answered answered) (ap (λ b. b && is_none y.entry.response) u ∙ ap is_none e)
    by (Some response) e u t n =
        let same = (g.response_is response e).1 in
        has-result y.result n (computed (ap is_accepted e ∙ ap (λ a. a.accept) same ∙ t))

    no : is_waiting_use x y ≡ true → ⊥
    no h =
        let named = and_left (is_use x y.entry.kind y.entry.word) (is_none y.result) h in
        by y.entry.response refl (and_left (is_unknown y.entry) (is_some (word_hit x y.entry.word)) named) (and_right (is_unknown y.entry) (is_some (word_hit x y.entry.word)) named)
        (and_right (is_use x y.entry.kind y.entry.word) (is_none y.result) h)

-- lanes that were sent carry what the word reads
lanes-carry : (x : Extension) (memory : Region) (s : State) (y : Item) (lanes : List ℕ) → Agrees x memory s y
    → (y.sent ≡ Some lanes) ⊎ ((halves_read x y.entry.word ≡ 0) × (lanes ≡ 0 ∷ 0 ∷ 0 ∷ [])) → CarriesOperands x s y.entry.word lanes
lanes-carry x memory s y lanes g (inl e) = g.sent_is lanes e
lanes-carry x memory s y lanes g (inr n) = carries-nothing x s y.entry.word lanes n.0 (λ lane half. 0) n.1

younger-idle : (y : Item) (ys : List Item) → AllByRecursion (InOrder y) ys → y.result ≡ None → is_accepted y.entry.response ≡ true → AllByRecursion IsIdle ys
younger-idle y ys h n a = all-from (InOrder y) IsIdle ys (λ z o. none_unless z.result (λ k. no (subst IsSome n (o.computed k a)))) h
  where
    no : is_some {T = ℕ} None ≡ true → ⊥
    no h = cc

pub keeps-apply : (x : Extension) (start : State) (w : World) (p : Spot) (lanes : List ℕ) → IsInRange x.params → MayApply x w p lanes → RunsAhead x start w → RunsAhead x start (happens x w (Applies p lanes))
keeps-apply x start w p lanes range m r =
    let s = along x r.now p.older in
    let y = p.item in
    let out = applied_to x y.entry.word w.units lanes in
    let z : Item = record y { result = Some out.result } in
    let t = at-spot x start w p r m.here in
    let g = agrees-at x start w p r m.here in
    let accepted = g.released_is m.released in
    let taken = accepted-taken x r.now.memory s y accepted g in
    let response = accepted-response y.entry.response accepted in
    let answered : IsSome y.entry.response = ap is_some response.1 in
    let older = order-older x start w p r m.here in
    let pass = walked-both x (Agrees x r.now.memory) (λ o. InOrder o y × (is_accepted o.entry.response ≡ true → IsSome o.result)) (λ o. is_waiting_use x o ≡ false) p.older r.now (λ q o a k. passed x r.now.memory q o y a k.0 answered k.1) (agree-older x start w p r m.here)
    (all-both (λ o. InOrder o y) (λ o. is_accepted o.entry.response ≡ true → IsSome o.result) (λ o. InOrder o y × (is_accepted o.entry.response ≡ true → IsSome o.result)) p.older (λ o a b. (a, b)) older m.applied) in
    let named : is_use x y.entry.kind y.entry.word ≡ true = ap (λ k. is_unknown_kind k && is_some (word_hit x y.entry.word)) taken.0 ∙ ap is_some taken.1.1 in
    let waits : is_waiting_use x y ≡ true = ap (λ b. b && is_none y.result) named ∙ ap is_none m.is_new in
    let behind = stepped x s y.entry.pc y.entry.kind y.entry.word in
    let here : units_at x r.now (whole p) ≡ s.units = units_at-passed x p.older (y ∷ p.younger) r.now pass ∙ ap (λ b. if b then s.units else units_at x behind p.younger) waits in
    let units : w.units ≡ s.units = t.units_are ∙ here in
    let same : out ≡ unit_step x s y.entry.word =
    ap (λ u. applied_to x y.entry.word u lanes) units ∙ carried-same x s y.entry.word s.units lanes range (lanes-carry x r.now.memory s y lanes g m.lanes_are) in
    let good = agrees-applied x r.now.memory s y out.result m.released (ap (λ o. o.result) same) g in
    let younger = order-younger x start w p r m.here in
    let idle = younger-idle y p.younger younger m.is_new accepted in
    let place : SamePlace y z = record { pc = refl; kind = refl; word = refl } in
    let walked = walked-replaced x (Agrees x r.now.memory) p.older y z p.younger r.now place good t.agree in
    let rest : Walked x (Agrees x r.now.memory) behind p.younger = walked-behind x (Agrees x r.now.memory) p.older y p.younger r.now t.agree in
    let forward : units_at x r.now (with_item p z) ≡ out.state =
    units_at-passed x p.older (z ∷ p.younger) r.now pass
    ∙ ap (λ b. if b then s.units else units_at x behind p.younger) (and_false (is_use x y.entry.kind y.entry.word))
    ∙ units_at-idle x r.now.memory p.younger behind rest idle
    ∙ use-units x r.now.memory s y taken.1.0 g taken.0 taken.1.1
    ∙ sym (ap (λ o. o.state) same) in
    record {
      now = r.now;
      arrived = r.arrived;
      lines_are = r.lines_are;
      pc_is = r.pc_is;
      registers_are = r.registers_are;
      memory_is = r.memory_is;
      count = r.count;
      path = path-replaced p.older y z p.younger r.now.pc refl (path-at p.older y p.younger r.now.pc t.path) t.path;
      agree = walked;
      in_order = pairs-replaced InOrder p.older y z p.younger t.in_order
          (all-both (λ o. InOrder o y) (λ o. is_accepted o.entry.response ≡ true → IsSome o.result) (λ o. InOrder o z) p.older (λ o k a. record { safe = k.safe; released = k.released; computed = λ _. a; answered = k.answered }) older m.applied)
          (all-from (InOrder y) (InOrder z) p.younger (λ o k. record { safe = k.safe; released = k.released; computed = λ _ _. refl; answered = k.answered }) younger);
      units_are = sym forward;
    }
  where
    walked-behind : (x : Extension) (P : State → Item → Type 0) (ys : List Item) (z : Item) (zs : List Item) (s : State) → Walked x P s (ys ++ z ∷ zs) → Walked x P (stepped x (along x s ys) z.entry.pc z.entry.kind z.entry.word) zs
    walked-behind x P [] z zs s h = h.1
    walked-behind x P (y ∷ ys) z zs s h = walked-behind x P ys z zs (stepped x s y.entry.pc y.entry.kind y.entry.word) h.1
