-- A result, on both sides.
use Rattle.std.proofs.Common.{◌≡◌, ◌≢◌, ◌<◌, ◌==◌, ◌&&◌, ◌||◌, ◌++◌, ℕ, Bool, true, false, cond, not, List, ◌∷◌, map, Some, refl, sym, ap, ◌∙◌, subst}
use Rattle.std.specs.Prelude.{find, is_some}
use Rattle.std.proofs.lemmas.Bool.{eq-eqb, ne_eqb}
use Rattle.inorder_machine.specs.declared.line.Write.{Write}
use Rattle.xif_session.specs.Facts.{is_released, is_killed}
use Rattle.cycle_spec.specs.declared.entry.Entry.{Entry}
use Rattle.cycle_spec.specs.declared.entry.EntryKind.{EntryKind}
use Rattle.cycle_spec.specs.declared.entry.EntryKind.TheVariants.{Local, Unknown, Nowhere}
use Rattle.cycle_spec.specs.declared.use_of.Use.{Use}
use Rattle.cycle_spec.specs.Flight.{is_unknown, is_unknown_kind, is_open, is_stopping, is_safe_kind, reads_registers, holds_id, with_result}
use Rattle.cycle_spec.specs.Engine.{register_read_of, with_end}
use Rattle.cycle_lists.specs.Lists.{Each, Pairs}
use Rattle.cycle_lists.specs.Order.{Before}
use Rattle.cycle_lists.proofs.Tests.{and-false, or-false, or-true, not-both}
use Rattle.cycle_lists.proofs.Every.{Each-from, Each-map, Each-here, Each-at, Each-passed, Each-replaced, Pairs-map, Pairs-replaced, Pairs-older, Pairs-younger}
use Rattle.cycle_lists.proofs.Filters.{filter-at, filter-past, unfilter}
use Rattle.cycle_lists.proofs.Places.{find-at, map-at}
use Rattle.cycle_lists.proofs.Order.{mapped, leaves-result}
use Rattle.cycle_paired.specs.Paired.{is_live, live_entries, is_live_use, live_uses, decision_of, Alike, Match, IsEntry, Behind, IsReady, IsUse, Older}
use Rattle.cycle_paired.proofs.Facts.{Joint, live-closed, done-dead, ready-live, accepted-answered, other-numbers}
use Rattle.cycle_paired.proofs.Matching.{Match-append, joined, change-use}
use Rattle.cycle_paired.proofs.Carrying.{Carries, older-kept}

abbrev pub finished : Write → Entry → Entry
finished w e = record e { done = true; write = w }

abbrev pub ended_use : Use → Use
ended_use u = record u { finished = true }

result-other : (s : ℕ) (w : Write) (e : Entry) → e.seq ≢ s → with_result s w e ≡ e
result-other s w e n = ap (λ t. record e { done = e.done || t; write = cond t w e.write }) (ne_eqb e.seq s n) ∙ ap (λ b. record e { done = b }) (or-false e.done)

result-same : (w : Write) (e : Entry) → with_result e.seq w e ≡ finished w e
result-same w e = ap (λ t. record e { done = e.done || t; write = cond t w e.write }) (eq-eqb e.seq e.seq refl) ∙ ap (λ b. record e { done = b; write = w }) (or-true e.done)

pub result-at : (w : Write) (older younger : List Entry) (e : Entry) → Pairs Before (older ++ e ∷ younger) → map (with_result e.seq w) (older ++ e ∷ younger) ≡ older ++ finished w e ∷ younger
result-at w older younger e h =
    let o = other-numbers older e younger h in
    let k = λ (y : Entry) (n : y.seq ≢ e.seq). result-other e.seq w y n in
    map-at (with_result e.seq w) older e younger (Each-from (λ y. y.seq ≢ e.seq) (λ y. with_result e.seq w y ≡ y) older k o.0) (Each-from (λ y. y.seq ≢ e.seq) (λ y. with_result e.seq w y ≡ y) younger k o.1)
    ∙ ap (λ y. older ++ y ∷ younger) (result-same w e)

end-other : (s : ℕ) (u : Use) → u.start ≢ s → with_end s u ≡ u
end-other s u n = ap (λ t. record u { finished = u.finished || t }) (ne_eqb u.start s n) ∙ ap (λ b. record u { finished = b }) (or-false u.finished)

end-same : (s : ℕ) (u : Use) → u.start ≡ s → with_end s u ≡ ended_use u
end-same s u h = ap (λ t. record u { finished = u.finished || t }) (eq-eqb u.start s h) ∙ ap (λ b. record u { finished = b }) (or-true u.finished)

pub end-at : (s : ℕ) (xs : List Use) (u : Use) (ys : List Use) → u.start ≡ s → Pairs Older (xs ++ u ∷ ys) → map (with_end s) (xs ++ u ∷ ys) ≡ xs ++ ended_use u ∷ ys
end-at s xs u ys q h = change-use (with_end s) xs u ys (λ x n. end-other s x (λ e. n (e ∙ sym q))) h ∙ ap (λ y. xs ++ y ∷ ys) (end-same s u q)

pub finished-safe : (k : EntryKind) (w : Write) (e : Entry) → is_unknown_kind k ≡ true → is_safe_kind k (finished w e) ≡ is_safe_kind k e
finished-safe (Local i) w e h = cc
finished-safe Unknown w e h = refl
finished-safe Nowhere w e h = refl

-- a use with its result had its registers, or reads none
nothing-waits : (a r s g : Bool) → s ≡ g → (g || r) ≡ true → ((a && not r) && not s) ≡ false
nothing-waits true true s g h k = refl
nothing-waits false r s g h k = refl
nothing-waits true false true g h k = refl
nothing-waits true false false true h k = cc
nothing-waits true false false false h k = cc

was-released : (r : Bool) → is_released (decision_of r) ≡ true → r ≡ true
was-released true h = refl
was-released false h = cc

entry-finished : (w : Write) (hart : ℕ) (e : Entry) (u : Use) → IsEntry e → is_live e ≡ true → Alike hart e u → IsReady u → IsEntry (finished w e)
entry-finished w hart e u ok l a r = record {
  answered = ok.answered;
  released = ok.released;
  done_released = λ _ _. was-released e.released (ap is_released (sym a.decision) ∙ r.released);
  done_given = λ _ _. ap (λ o. reads_registers o && not e.operands_sent) a.response ∙ nothing-waits (is_some u.hit) (register_read_of u.hit == 0) e.operands_sent u.given (sym a.given) r.operands;
  unsent = λ h. absurd (not-both (is_open e) (live-closed e l) h);
  stores = ok.stores;
  stops = ok.stops;
  refused = ok.refused;
}

pub other-id : (id : ℕ) (x e : Entry) → Before x e → is_unknown e ≡ true → e.id ≡ id → holds_id id x ≡ false
other-id id x e b u h = go (is_unknown x) refl
  where
    go : (k : Bool) → is_unknown x ≡ k → (k && (x.id == id)) ≡ false
    go true q = ne_eqb x.id id (λ i. b.apart q u (i ∙ sym h))
    go false q = refl

-- the entry of a use whose result is taken
pub record Finished (hart n id c : ℕ) (answered : ℕ → Bool) (u : Use) (es : List Entry) (us : List Use) : Type 0 where
  pub older : List Entry
  pub entry : Entry
  pub younger : List Entry
  pub here : es ≡ older ++ entry ∷ younger
  pub found : find (holds_id u.key.id) es ≡ Some entry
  pub partner : Use
  pub alike : Alike hart entry partner
  pub live_is : is_live entry ≡ true
  pub hart_is : u.key.hart ≡ hart
  pub word_is : entry.word ≡ u.word
  pub hit_is : partner.hit ≡ u.hit
  pub result_is : partner.result ≡ u.result
  pub joint : (w : Write) → Joint hart n id c answered (map (with_result entry.seq w) es) (map (with_end u.start) us)

pub finishing : (hart n id c : ℕ) (answered : ℕ → Bool) (u : Use) (es : List Entry) (us : List Use) → Carries u us → Joint hart n id c answered es us → Finished hart n id c answered u es us
finishing hart n id c answered u es us k j =
    let v = k.carried in
    let s = u.start in
    let pairs : Pairs Older (k.front ++ v ∷ k.back) = subst (Pairs Older) k.here j.older in
    let uses : Each (IsUse answered) (k.front ++ v ∷ k.back) = subst (Each (IsUse answered)) k.here j.uses in
    let use_ok = Each-here (IsUse answered) k.front v k.back uses in
    let r = use_ok.ready k.ready in
    let yes = accepted-answered answered v use_ok r.accepted in
    let live = ready-live answered v use_ok k.ready k.unfinished in
    let live_is : live_uses answered us ≡ live_uses answered k.front ++ v ∷ live_uses answered k.back = ap (live_uses answered) k.here ∙ filter-at (is_live_use answered) k.front v k.back live in
    let d = joined hart (live_entries es) (live_uses answered k.front) v (live_uses answered k.back) (subst (Match hart (live_entries es)) live_is j.match) in
    let f = unfilter is_live es d.older d.entry d.younger d.here in
    let p = d.entry in
    let before : Pairs Before (f.front ++ p ∷ f.back) = subst (Pairs Before) f.here j.kept.pairs in
    let oks : Each IsEntry (f.front ++ p ∷ f.back) = subst (Each IsEntry) f.here j.entries in
    let behind : Pairs Behind (f.front ++ p ∷ f.back) = subst (Pairs Behind) f.here j.behind in
    let l = Each-at (λ e. is_live e ≡ true) (live_entries es) d.older p d.younger d.here (Each-passed is_live es) in
    let same_id : p.id ≡ u.key.id = sym d.alike.id ∙ ap (λ q. q.id) k.key in
    let olders = Each-from (λ x. Before x p) (λ x. holds_id u.key.id x ≡ false) f.front (λ x b. other-id u.key.id x p b d.alike.unknown same_id) (Pairs-older Before f.front p f.back before) in
    let holds : holds_id u.key.id p ≡ true = rw (d.alike.unknown, eq-eqb p.id u.key.id same_id) refl in
    let us_is : map (with_end s) us ≡ k.front ++ ended_use v ∷ k.back = ap (map (with_end s)) k.here ∙ end-at s k.front v k.back k.start pairs in
    let gone : is_live_use answered (ended_use v) ≡ false = ap (λ b. answered v.start && b) (and-false (not (is_killed v.decision))) ∙ and-false (answered v.start) in
    record {
      older = f.front;
      entry = p;
      younger = f.back;
      here = f.here;
      found = ap (find (holds_id u.key.id)) f.here ∙ find-at (holds_id u.key.id) f.front p f.back olders holds;
      partner = v;
      alike = d.alike;
      live_is = l;
      hart_is = ap (λ q. q.hart) (sym k.key) ∙ d.alike.hart_is;
      word_is = sym d.alike.word ∙ k.word;
      hit_is = k.hit;
      result_is = k.result;
      joint = λ w.
          let q = finished w p in
          let es_is : map (with_result p.seq w) es ≡ f.front ++ q ∷ f.back = ap (map (with_result p.seq w)) f.here ∙ result-at w f.front f.back p before in
          let left : live_entries (f.front ++ q ∷ f.back) ≡ live_entries f.front ++ live_entries f.back = filter-past is_live f.front q f.back (done-dead q refl) in
          let right : live_uses answered (map (with_end s) us) ≡ live_uses answered k.front ++ live_uses answered k.back = ap (live_uses answered) us_is ∙ filter-past (is_live_use answered) k.front (ended_use v) k.back gone in
          let m1 : Match hart (live_entries f.front) (live_uses answered k.front) = subst (λ x. Match hart x (live_uses answered k.front)) (sym f.fronts) d.lefts in
          let m2 : Match hart (live_entries f.back) (live_uses answered k.back) = subst (λ x. Match hart x (live_uses answered k.back)) (sym f.backs) d.rights in
          let m : Match hart (live_entries (f.front ++ q ∷ f.back)) (live_uses answered (map (with_end s) us)) = rw (left, right) (Match-append hart (live_entries f.front) (live_entries f.back) (live_uses answered k.front) (live_uses answered k.back) m1 m2) in
          record {
            kept = mapped n id (with_result p.seq w) es (leaves-result p.seq w) j.kept;
            entries = subst (Each IsEntry) (sym es_is) (Each-replaced IsEntry f.front p q f.back oks (entry-finished w hart p v (Each-here IsEntry f.front p f.back oks) l d.alike r));
            behind = subst (Pairs Behind) (sym es_is)
                (Pairs-replaced Behind f.front p q f.back behind
                (Each-from (λ y. Behind y p) (λ y. Behind y q) f.front (λ y k. record { safe = k.safe; answered = k.answered }) (Pairs-older Behind f.front p f.back behind))
                (Each-from (Behind p) (Behind q) f.back (λ y k. record { safe = λ r. ap (λ t. not (is_stopping p) && t) (finished-safe p.kind w p d.alike.unknown) ∙ k.safe r; answered = k.answered }) (Pairs-younger Behind f.front p f.back behind)));
            below = Each-map (λ u. u.start < c) (λ u. u.start < c) (with_end s) us (λ x h. h) j.below;
            uses = subst (Each (IsUse answered)) (sym us_is) (Each-replaced (IsUse answered) k.front v (ended_use v) k.back uses
                (record { unanswered = λ h. absurd (not-both (answered v.start) h yes); ready = λ h. let z = use_ok.ready h in record { accepted = z.accepted; released = z.released; operands = z.operands } }));
            older = Pairs-map Older (with_end s) us (λ x y o. older-kept (with_end s) (λ _. refl) (λ _. refl) x y o) j.older;
            match = subst (λ x. Match hart (live_entries x) (live_uses answered (map (with_end s) us))) (sym es_is) m;
          };
    }
