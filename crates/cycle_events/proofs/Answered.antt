-- The answer to the word that is offered is an event.
use Rattle.std.proofs.Common.{◌≡◌, ◌≢◌, ◌==◌, ◌++◌, ℕ, Bool, true, false, cond, List, ◌∷◌, map, Option, Some, None, refl, sym, ap, ◌∙◌, subst}
use Rattle.std.specs.Prelude.{IsSome}
use Rattle.std.proofs.lemmas.Bool.{eqb-true, eq-eqb, ne_eqb}
use Rattle.xif_base.specs.Params.{IsInRange}
use Rattle.coproc_config.specs.declared.accept.Hit.{Hit}
use Rattle.inorder_machine.specs.Machine.{Extension, State}
use Rattle.xif_session.specs.declared.fact.Response.{Response}
use Rattle.cycle_spec.specs.declared.entry.Entry.{Entry}
use Rattle.cycle_spec.specs.declared.use_of.Use.{Use}
use Rattle.cycle_spec.specs.Flight.{is_open, with_response}
use Rattle.cycle_spec.specs.Engine.{with_answer}
use Rattle.cycle_lists.specs.Lists.{Each, Pairs, FirstAt}
use Rattle.cycle_lists.specs.Order.{Before}
use Rattle.cycle_lists.proofs.Tests.{not-both}
use Rattle.cycle_lists.proofs.Every.{Each-both, Each-map, Each-at, Each-front, Each-back, Each-append}
use Rattle.cycle_paired.specs.Paired.{is_live, IsEntry}
use Rattle.cycle_paired.proofs.Facts.{open-unreleased}
use Rattle.ahead_spec.specs.Walk.{Item, entries, path_end}
use Rattle.ahead_spec.specs.Operands.{word_hit, response_of}
use Rattle.ahead_spec.specs.World.{World, Spot, answered_with, with_entry, Answers}
use Rattle.ahead_spec.specs.Guards.{MayAnswer}
use Rattle.ahead_laws.proofs.Keeping.{agrees-at}
use Rattle.ahead_laws.proofs.EntryChanges.{with_response-here, with_response-other}
use Rattle.cycle_events.specs.Becomes.{Becomes}
use Rattle.cycle_events.specs.Shown.{shown, IsUseOf, Tied, Left, Shows}
use Rattle.cycle_events.proofs.Moving.{stays, to-items, item-at, path-same, entries-swap, swap}
use Rattle.cycle_events.proofs.Tying.{Tie}

-- what is known of each use where a word is offered: only the offered one has its key, and it had no
-- handshake
pub record IsOffer (hart : ℕ) (p : Entry) (s : ℕ) (u : Use) : Type 0 where
  pub id : u.start ≡ s → u.key.id ≡ p.id
  pub start : u.key.hart ≡ hart → u.key.id ≡ p.id → u.start ≡ s
  pub not_given : u.start ≡ s → u.given ≡ false
  pub unready : u.start ≡ s → u.ready ≡ None

-- an item that isn't the answered one
tied-other : (x : Extension) (hart : ℕ) (p : Entry) (s : ℕ) (hit : Option Hit) (order : ℕ) (us : List Use) (y : Item) → Each (IsOffer hart p s) us → (is_live y.entry ≡ true → y.entry.id ≢ p.id) → Tied x hart us y → Tied x hart (map (with_answer s hit order) us) y
tied-other x hart p s hit order us y o n t =
    Each-map (λ u. IsOffer hart p s u × Tie x hart y u) (Tie x hart y) (with_answer s hit order) us (λ u k l h i. go u k l h i (u.start == s) refl)
    (Each-both (IsOffer hart p s) (Tie x hart y) (λ u. IsOffer hart p s u × Tie x hart y u) us (λ u a b. (a, b)) o t)
  where
    go : (u : Use) → IsOffer hart p s u × Tie x hart y u → is_live y.entry ≡ true → u.key.hart ≡ hart → u.key.id ≡ y.entry.id → (b : Bool) → (u.start == s) ≡ b → IsUseOf x y (record u { hit = cond b hit u.hit; order = cond b order u.order })
    go u k l h i true q = absurd (n l (sym i ∙ k.0.id (eqb-true u.start s q)))
    go u k l h i false q = let r = k.1 l h i in record { hit_is = r.hit_is; sent_is = r.sent_is; result_is = r.result_is }

-- and the answered one
tied-new : (x : Extension) (hart : ℕ) (p : Entry) (s : ℕ) (hit : Option Hit) (order : ℕ) (us : List Use) (z : Item) → Each (IsOffer hart p s) us → z.entry.id ≡ p.id → hit ≡ word_hit x z.entry.word → z.result ≡ None → Tied x hart (map (with_answer s hit order) us) z
tied-new x hart p s hit order us z o i h r = Each-map (IsOffer hart p s) (Tie x hart z) (with_answer s hit order) us made o
  where
    made : (u : Use) → IsOffer hart p s u → Tie x hart z (with_answer s hit order u)
    made u k l a j =
        let q : u.start ≡ s = k.start a (j ∙ i) in
        record {
          hit_is = ap (λ b. cond b hit u.hit) (eq-eqb u.start s q) ∙ h;
          sent_is = λ g. absurd (not-both u.given (k.not_given q) g);
          result_is = r ∙ sym (ap (λ o. shown o u.result) (k.unready q));
        }

none-from : (o : Option ℕ) → (IsSome o → ⊥) → o ≡ None
none-from None h = refl
none-from (Some v) h = absurd (h refl)

pub answered : (x : Extension) (start : State) (hart : ℕ) (left : Left) (at : ℕ) (w : World) (t : Bool) (r : Response) (p : Entry) (s : ℕ) (hit : Option Hit) (order : ℕ) (es : List Entry) (us : List Use)
    → IsInRange x.params → FirstAt is_open es p → Pairs Before es → Each IsEntry es → Each (λ e. is_live e ≡ true → e.id ≢ p.id) es → r ≡ response_of (word_hit x p.word) → hit ≡ word_hit x p.word → Each (IsOffer hart p s) us
    → Shows x start hart left es us at w
    → Becomes x (Shows x start hart left (cond t (map (with_response p.seq r) es) es) (cond t (map (with_answer s hit order) us) us) at) w
answered x start hart left at w false r p s hit order es us range f b ok ids e h o m = stays x (Shows x start hart left es us at) w m
answered x start hart left at w true r p s hit order es us range f b ok ids e h o m =
    let q = item-at w.flight f.older p f.younger (m.entries_are ∙ f.here) in
    let y = q.item in
    let spot : Spot = record { older = q.front; item = y; younger = q.back } in
    let z : Item = with_entry y (answered_with (response_of (word_hit x y.entry.word)) y.entry) in
    let may : MayAnswer w spot = record {
      here = q.here;
      unanswered = ap is_open q.entry_is ∙ f.passes;
      answered = to-items (λ e. is_open e ≡ false) q.front (subst (Each (λ e. is_open e ≡ false)) (sym q.fronts) f.others);
    } in
    let okp = Each-at IsEntry es f.older p f.younger f.here ok in
    let unreleased : y.entry.released ≡ true → ⊥ = λ k. open-unreleased p okp f.passes (ap (λ d. d.released) (sym q.entry_is) ∙ k) in
    let agrees = agrees-at x start w spot m.runs q.here in
    let none : y.result ≡ None = none-from y.result (λ k. unreleased (agrees.result_when k)) in
    let seq : y.entry.seq ≡ p.seq = ap (λ d. d.seq) q.entry_is in
    let change : z.entry ≡ with_response p.seq r y.entry =
    ap (λ v. answered_with v y.entry) (ap (λ d. response_of (word_hit x d.word)) q.entry_is ∙ sym e) ∙ sym (with_response-here y.entry r) ∙ ap (λ n. with_response n r y.entry) seq in
    let others = λ (d : Entry) (n : d.seq ≢ y.entry.seq). with_response-other p.seq d r (ne_eqb d.seq p.seq (λ k. n (k ∙ sym seq))) in
    let fs_is = entries-swap (with_response p.seq r) es spot z (ap entries (sym q.here) ∙ m.entries_are) b others change in
    let tied0 : Each (Tied x hart us) (q.front ++ y ∷ q.back) = subst (Each (Tied x hart us)) q.here m.tied in
    let ids0 : Each (λ i. is_live i.entry ≡ true → i.entry.id ≢ p.id) (q.front ++ y ∷ q.back) =
    subst (Each (λ i. is_live i.entry ≡ true → i.entry.id ≢ p.id)) q.here (to-items (λ e. is_live e ≡ true → e.id ≢ p.id) w.flight (subst (Each (λ e. is_live e ≡ true → e.id ≢ p.id)) (sym m.entries_are) ids)) in
    let vs = map (with_answer s hit order) us in
    let moved = Each-both (λ i. is_live i.entry ≡ true → i.entry.id ≢ p.id) (Tied x hart us) (Tied x hart vs) (q.front ++ y ∷ q.back) (λ i a k. tied-other x hart p s hit order us i o a k) ids0 tied0 in
    let new = tied-new x hart p s hit order us z o (ap (λ d. d.id) q.entry_is) (h ∙ ap (λ d. word_hit x d.word) (sym q.entry_is)) none in
    swap x start hart left es (map (with_response p.seq r) es) us vs at at w spot z (Answers spot) range m may refl fs_is
    (path-same w.pc q.front y z q.back refl ∙ sym (ap (path_end w.pc) q.here) ∙ m.leads)
    (Each-append (Tied x hart vs) q.front (z ∷ q.back) (Each-front (Tied x hart vs) q.front (y ∷ q.back) moved) (new, (Each-back (Tied x hart vs) q.front (y ∷ q.back) moved).1))
