-- The answer to the word that is offered, on both sides.
use Rattle.std.proofs.Common.{◌≡◌, ◌≢◌, ◌<◌, ◌==◌, ◌&&◌, ◌++◌, ℕ, Bool, true, false, cond, not, List, [], ◌∷◌, map, Option, Some, None, refl, sym, ap, ◌∙◌, subst, arith, append-nil}
use Rattle.std.specs.Prelude.{is_some, IsSome}
use Rattle.std.proofs.lemmas.Bool.{eq-eqb, ne_eqb}
use Rattle.coproc_config.specs.declared.accept.Hit.{Hit}
use Rattle.inorder_machine.specs.declared.stop.StopCause.TheVariants.{Illegal}
use Rattle.xif_session.specs.declared.fact.Response.{Response}
use Rattle.xif_session.specs.declared.fact.Decision.TheVariants.{Undecided}
use Rattle.xif_session.specs.Facts.{is_refused, is_killed}
use Rattle.cycle_spec.specs.declared.entry.Entry.{Entry}
use Rattle.cycle_spec.specs.declared.use_of.Use.{Use}
use Rattle.cycle_spec.specs.Flight.{is_open, is_safe, is_stopping, with_response}
use Rattle.cycle_spec.specs.Engine.{with_answer}
use Rattle.cycle_lists.specs.Lists.{Each, Pairs, FirstAt}
use Rattle.cycle_lists.specs.Order.{Before}
use Rattle.cycle_lists.proofs.Tests.{not-both, false-or}
use Rattle.cycle_lists.proofs.Every.{Each-from, Each-both, Each-here, Each-push, Each-replaced, Pairs-push, Pairs-replaced, Pairs-older, Pairs-younger}
use Rattle.cycle_lists.proofs.Filters.{filter-at, filter-past, filter-none, filter-same}
use Rattle.cycle_lists.proofs.Places.{map-at}
use Rattle.cycle_lists.proofs.Order.{mapped, leaves-response}
use Rattle.cycle_paired.specs.Paired.{is_live, live_entries, is_live_use, live_uses, response_of, decision_of, Alike, Match, IsEntry, Behind, IsUnanswered, IsUse, Older}
use Rattle.cycle_paired.proofs.Facts.{Joint, open-unknown, open-none, open-dead, open-undone, open-unsafe, open-unreleased, some-closed, behind-open, other-numbers}
use Rattle.cycle_paired.proofs.Matching.{Match-append, change-use}

-- ---- the starts that had their handshake

-- with one more start of which it is known
abbrev pub mark : (start : ℕ) → (test : Bool) → (ℕ → Bool) → ℕ → Bool
mark s t answered k = cond (k == s) t (answered k)

pub mark-other : (s : ℕ) (t : Bool) (answered : ℕ → Bool) (k : ℕ) → k ≢ s → mark s t answered k ≡ answered k
mark-other s t answered k n = ap (λ b. cond b t (answered k)) (ne_eqb k s n)

pub mark-same : (s : ℕ) (t : Bool) (answered : ℕ → Bool) (k : ℕ) → k ≡ s → mark s t answered k ≡ t
mark-same s t answered k h = ap (λ b. cond b t (answered k)) (eq-eqb k s h)

mark-use : (s : ℕ) (t : Bool) (answered : ℕ → Bool) (u : Use) → u.start ≢ s → IsUse answered u → IsUse (mark s t answered) u
mark-use s t answered u n ok = record { unanswered = λ h. ok.unanswered (sym (mark-other s t answered u.start n) ∙ h); ready = ok.ready }

pub mark-uses : (s : ℕ) (t : Bool) (answered : ℕ → Bool) (us : List Use) → Each (λ u. u.start ≢ s) us → Each (IsUse answered) us → Each (IsUse (mark s t answered)) us
mark-uses s t answered us n ok = Each-both (λ u. u.start ≢ s) (IsUse answered) (IsUse (mark s t answered)) us (λ u h k. mark-use s t answered u h k) n ok

pub mark-live : (s : ℕ) (t : Bool) (answered : ℕ → Bool) (us : List Use) → Each (λ u. u.start ≢ s) us → live_uses (mark s t answered) us ≡ live_uses answered us
mark-live s t answered us n =
    filter-same (is_live_use (mark s t answered)) (is_live_use answered) us
    (Each-from (λ u. u.start ≢ s) (λ u. is_live_use (mark s t answered) u ≡ is_live_use answered u) us (λ u h. ap (λ b. b && (not (is_killed u.decision) && not u.finished)) (mark-other s t answered u.start h)) n)

-- ---- the offered word and its use

-- In the course of a cycle: t tells whether there was a handshake.
pub record Offered (hart : ℕ) (p : Entry) (s : ℕ) (t : Bool) (answered : ℕ → Bool) (es : List Entry) (us : List Use) : Type 0 where
  pub older : List Entry
  pub entry : Entry
  pub younger : List Entry
  pub here : es ≡ older ++ entry ∷ younger
  pub front : List Use
  pub new : Use
  pub there : us ≡ front ++ new ∷ []
  pub seq : entry.seq ≡ p.seq
  pub entry_id : entry.id ≡ p.id
  pub entry_word : entry.word ≡ p.word
  pub hart_is : new.key.hart ≡ hart
  pub id_is : new.key.id ≡ p.id
  pub word_is : new.word ≡ p.word
  pub start : new.start ≡ s
  pub undecided : new.decision ≡ Undecided
  pub marked : answered s ≡ t
  pub live : is_live entry ≡ t
  pub use_live : is_live_use answered new ≡ t
  pub opened : t ≡ false → is_open entry ≡ true
  pub others : Each (λ x. is_open x ≡ false) older

pub record Answered (hart n id c : ℕ) (p : Entry) (s : ℕ) (t : Bool) (answered : ℕ → Bool) (es : List Entry) (us : List Use) : Type 0 where
  pub joint : Joint hart n id c answered es us
  pub offered : Offered hart p s t answered es us

-- ---- the changes

abbrev pub with_answered : Response → Entry → Entry
with_answered x e = record e { response = Some x; stop = cond (not x.accept) (Some Illegal) e.stop }

abbrev pub answered_use : Option Hit → (order : ℕ) → Use → Use
answered_use hit order u = record u { hit = hit; order = order }

pub response-other : (s : ℕ) (x : Response) (e : Entry) → e.seq ≢ s → with_response s x e ≡ e
response-other s x e n = ap (λ t. record e { response = cond t (Some x) e.response; stop = cond (t && not x.accept) (Some Illegal) e.stop }) (ne_eqb e.seq s n)

response-same : (x : Response) (e : Entry) → with_response e.seq x e ≡ with_answered x e
response-same x e = ap (λ t. record e { response = cond t (Some x) e.response; stop = cond (t && not x.accept) (Some Illegal) e.stop }) (eq-eqb e.seq e.seq refl)

pub response-at : (x : Response) (older younger : List Entry) (e : Entry) → Pairs Before (older ++ e ∷ younger) → map (with_response e.seq x) (older ++ e ∷ younger) ≡ older ++ with_answered x e ∷ younger
response-at x older younger e h =
    let o = other-numbers older e younger h in
    let k = λ (y : Entry) (n : y.seq ≢ e.seq). response-other e.seq x y n in
    map-at (with_response e.seq x) older e younger (Each-from (λ y. y.seq ≢ e.seq) (λ y. with_response e.seq x y ≡ y) older k o.0) (Each-from (λ y. y.seq ≢ e.seq) (λ y. with_response e.seq x y ≡ y) younger k o.1)
    ∙ ap (λ y. older ++ y ∷ younger) (response-same x e)

answer-other : (s : ℕ) (hit : Option Hit) (order : ℕ) (u : Use) → u.start ≢ s → with_answer s hit order u ≡ u
answer-other s hit order u n = ap (λ t. record u { hit = cond t hit u.hit; order = cond t order u.order }) (ne_eqb u.start s n)

answer-same : (hit : Option Hit) (order : ℕ) (u : Use) → with_answer u.start hit order u ≡ answered_use hit order u
answer-same hit order u = ap (λ t. record u { hit = cond t hit u.hit; order = cond t order u.order }) (eq-eqb u.start u.start refl)

pub answer-at : (hit : Option Hit) (order : ℕ) (xs : List Use) (u : Use) (ys : List Use) → Pairs Older (xs ++ u ∷ ys) → map (with_answer u.start hit order) (xs ++ u ∷ ys) ≡ xs ++ answered_use hit order u ∷ ys
answer-at hit order xs u ys h = change-use (with_answer u.start hit order) xs u ys (λ x n. answer-other u.start hit order x n) h ∙ ap (λ y. xs ++ y ∷ ys) (answer-same hit order u)

-- ---- what the steps need of each

entry-answered : (x : Response) (p : Entry) → IsEntry p → is_open p ≡ true → IsEntry (with_answered x p)
entry-answered x p ok o = record {
  answered = λ h. open-unknown p o;
  released = λ r. absurd (open-unreleased p ok o r);
  done_released = ok.done_released;
  done_given = λ u d. absurd (open-unreleased p ok o (ok.done_released u d));
  unsent = λ h. absurd (not-both (is_open (with_answered x p)) (some-closed (with_answered x p) refl) h);
  stores = ok.stores;
  stops = λ h. stopping (not x.accept) (ok.stops h);
  refused = λ u h. by-answer x.accept h;
}
  where
    none-not_refused : (r : Option Response) → is_some r ≡ false → is_refused r ≡ false
    none-not_refused None h = refl
    none-not_refused (Some r) h = cc

    by-answer : (t : Bool) → is_some (cond (not t) (Some Illegal) p.stop) ≡ true → not t ≡ true
    by-answer true h = absurd (not-both (is_refused p.response) (none-not_refused p.response (open-none p o)) (ok.refused (open-unknown p o) h))
    by-answer false h = refl

    stopping : (t : Bool) → is_stopping p ≡ true → is_some (cond t (Some Illegal) p.stop) ≡ true
    stopping true h = refl
    stopping false h = h

behind-answered : (x : Response) (older : List Entry) (p : Entry) (younger : List Entry) → is_open p ≡ true → Each (λ y. is_open y ≡ false) older → Pairs Behind (older ++ p ∷ younger) → Pairs Behind (older ++ with_answered x p ∷ younger)
behind-answered x older p younger o others b =
    Pairs-replaced Behind older p (with_answered x p) younger b
    (Each-both (λ y. Behind y p) (λ y. is_open y ≡ false) (λ y. Behind y (with_answered x p)) older (λ y k n. record { safe = k.safe; answered = λ h. n }) (Pairs-older Behind older p younger b) others)
    (Each-from (Behind p) (Behind (with_answered x p)) younger (λ y k. record { safe = λ r. absurd (not-both (is_safe p) (open-unsafe p o) (k.safe r)); answered = λ h. some-closed (with_answered x p) refl }) (Pairs-younger Behind older p younger b))

alike-answered : (hart : ℕ) (hit : Option Hit) (order : ℕ) (p : Entry) (u : Use) → IsEntry p → is_open p ≡ true → IsUnanswered u → u.decision ≡ Undecided → u.key.hart ≡ hart → u.key.id ≡ p.id → u.word ≡ p.word
    → Alike hart (with_answered (response_of hit) p) (answered_use hit order u)
alike-answered hart hit order p u ok o fresh d h i w = record {
  unknown = open-unknown p o;
  hart_is = h;
  id = i;
  word = w;
  response = refl;
  given = fresh.not_given ∙ sym (ok.unsent o);
  decision = d ∙ sym (ap decision_of (false-or p.released (λ r. open-unreleased p ok o r)));
}

match-answered : (hart : ℕ) (answered : ℕ → Bool) (older : List Entry) (q : Entry) (younger : List Entry) (front : List Use) (v : Use) → is_live q ≡ true → is_live_use answered v ≡ true → Alike hart q v → live_entries younger ≡ []
    → Match hart (live_entries older) (live_uses answered front) → Match hart (live_entries (older ++ q ∷ younger)) (live_uses answered (front ++ v ∷ []))
match-answered hart answered older q younger front v l t a n m =
    let left : live_entries (older ++ q ∷ younger) ≡ live_entries older ++ q ∷ [] = filter-at is_live older q younger l ∙ ap (λ x. live_entries older ++ q ∷ x) n in
    let right : live_uses answered (front ++ v ∷ []) ≡ live_uses answered front ++ v ∷ [] = filter-at (is_live_use answered) front v [] t in
    rw (left, right) (Match-append hart (live_entries older) (q ∷ []) (live_uses answered front) (v ∷ []) m (a, tt))

-- without the answer, the pairs are those of the older entries
match-open : (hart : ℕ) (older : List Entry) (p : Entry) (younger : List Entry) (us : List Use) → is_live p ≡ false → live_entries younger ≡ [] → Match hart (live_entries (older ++ p ∷ younger)) us → Match hart (live_entries older) us
match-open hart older p younger us l n m =
    let left : live_entries (older ++ p ∷ younger) ≡ live_entries older = filter-past is_live older p younger l ∙ ap (λ x. live_entries older ++ x) n ∙ append-nil (live_entries older) in
    subst (λ l. Match hart l us) left m

-- ---- the step

-- the new use, before it is answered
pub record IsNew (hart c : ℕ) (p : Entry) (front : List Use) (v : Use) : Type 0 where
  pub before : Each (λ x. Older x v) front
  pub recent : v.start < c
  pub unanswered : IsUnanswered v
  pub unready : IsSome v.ready → ⊥
  pub undecided : v.decision ≡ Undecided
  pub hart_is : v.key.hart ≡ hart
  pub id_is : v.key.id ≡ p.id
  pub word_is : v.word ≡ p.word

other-front : (front : List Use) (v : Use) → Each (λ x. Older x v) front → Each (λ x. x.start ≢ v.start) front
other-front front v b = Each-from (λ x. Older x v) (λ x. x.start ≢ v.start) front (λ x o q. let r = o.rises in absurd (omega arith)) b

new-live : (answered : ℕ → Bool) (v : Use) (t : Bool) → v.decision ≡ Undecided → v.finished ≡ false → answered v.start ≡ t → is_live_use answered v ≡ t
new-live answered v t d f h =
    ap (λ b. b && (not (is_killed v.decision) && not v.finished)) h ∙ ap (λ x. t && (not (is_killed x) && not v.finished)) d ∙ ap (λ x. t && not x) f ∙ and-true t
  where
    and-true : (b : Bool) → (b && true) ≡ b
    and-true true = refl
    and-true false = refl

unanswered-step : (hart n id c : ℕ) (answered : ℕ → Bool) (es : List Entry) (p : Entry) (front : List Use) (v : Use) → FirstAt is_open es p → Joint hart n id c answered es front → IsNew hart c p front v
    → Answered hart n id c p v.start false (mark v.start false answered) es (front ++ v ∷ [])
unanswered-step hart n id c answered es p front v f j w =
    let g = mark v.start false answered in
    let other = other-front front v w.before in
    let no : g v.start ≡ false = mark-same v.start false answered v.start refl in
    let dead = new-live g v false w.undecided w.unanswered.unfinished no in
    let same : live_uses g (front ++ v ∷ []) ≡ live_uses answered front = filter-past (is_live_use g) front v [] dead ∙ append-nil (live_uses g front) ∙ mark-live v.start false answered front other in
    record {
      joint = record {
        kept = j.kept;
        entries = j.entries;
        behind = j.behind;
        below = Each-push (λ u. u.start < c) front v j.below w.recent;
        uses = Each-push (IsUse g) front v (mark-uses v.start false answered front other j.uses) (record { unanswered = λ h. w.unanswered; ready = λ r. absurd (w.unready r) });
        older = Pairs-push Older front v j.older w.before;
        match = subst (Match hart (live_entries es)) (sym same) j.match;
      };
      offered = record {
        older = f.older;
        entry = p;
        younger = f.younger;
        here = f.here;
        front = front;
        new = v;
        there = refl;
        seq = refl;
        entry_id = refl;
        entry_word = refl;
        hart_is = w.hart_is;
        id_is = w.id_is;
        word_is = w.word_is;
        start = refl;
        undecided = w.undecided;
        marked = no;
        live = open-dead p f.passes;
        use_live = dead;
        opened = λ h. f.passes;
        others = f.others;
      };
    }

answered-step : (hit : Option Hit) (order hart n id c : ℕ) (answered : ℕ → Bool) (es : List Entry) (p : Entry) (front : List Use) (v : Use) → FirstAt is_open es p → Joint hart n id c answered es front → IsNew hart c p front v
    → Answered hart n id c p v.start true (mark v.start true answered) (map (with_response p.seq (response_of hit)) es) (map (with_answer v.start hit order) (front ++ v ∷ []))
answered-step hit order hart n id c answered es p front v f j w =
    let o = f.passes in
    let x = response_of hit in
    let g = mark v.start true answered in
    let q = with_answered x p in
    let u = answered_use hit order v in
    let before : Pairs Before (f.older ++ p ∷ f.younger) = subst (Pairs Before) f.here j.kept.pairs in
    let oks : Each IsEntry (f.older ++ p ∷ f.younger) = subst (Each IsEntry) f.here j.entries in
    let behind : Pairs Behind (f.older ++ p ∷ f.younger) = subst (Pairs Behind) f.here j.behind in
    let ok = Each-here IsEntry f.older p f.younger oks in
    let pairs : Pairs Older (front ++ v ∷ []) = Pairs-push Older front v j.older w.before in
    let es_is : map (with_response p.seq x) es ≡ f.older ++ q ∷ f.younger = ap (map (with_response p.seq x)) f.here ∙ response-at x f.older f.younger p before in
    let us_is : map (with_answer v.start hit order) (front ++ v ∷ []) ≡ front ++ u ∷ [] = answer-at hit order front v [] pairs in
    let none = filter-none is_live f.younger (behind-open f.older p f.younger behind o) in
    let other = other-front front v w.before in
    let yes : g v.start ≡ true = mark-same v.start true answered v.start refl in
    let use_live : is_live_use g u ≡ true = new-live g v true w.undecided w.unanswered.unfinished yes in
    let live : is_live q ≡ true = ap not (open-undone p ok o) in
    let m0 : Match hart (live_entries (f.older ++ p ∷ f.younger)) (live_uses answered front) = subst (λ l. Match hart (live_entries l) (live_uses answered front)) f.here j.match in
    let m1 = match-open hart f.older p f.younger (live_uses answered front) (open-dead p o) none m0 in
    let m2 : Match hart (live_entries f.older) (live_uses g front) = subst (Match hart (live_entries f.older)) (sym (mark-live v.start true answered front other)) m1 in
    let alike = alike-answered hart hit order p v ok o w.unanswered w.undecided w.hart_is w.id_is w.word_is in
    let joint : Joint hart n id c g (map (with_response p.seq x) es) (front ++ u ∷ []) = record {
      kept = mapped n id (with_response p.seq x) es (leaves-response p.seq x) j.kept;
      entries = subst (Each IsEntry) (sym es_is) (Each-replaced IsEntry f.older p q f.younger oks (entry-answered x p ok o));
      behind = subst (Pairs Behind) (sym es_is) (behind-answered x f.older p f.younger o f.others behind);
      below = Each-push (λ u. u.start < c) front u j.below w.recent;
      uses = Each-push (IsUse g) front u (mark-uses v.start true answered front other j.uses) (record { unanswered = λ h. absurd (not-both (g v.start) h yes); ready = λ r. absurd (w.unready r) });
      older = Pairs-push Older front u j.older (Each-from (λ y. Older y v) (λ y. Older y u) front (λ y k. record { rises = k.rises; apart = k.apart }) w.before);
      match = subst (λ l. Match hart (live_entries l) (live_uses g (front ++ u ∷ []))) (sym es_is) (match-answered hart g f.older q f.younger front u live use_live alike none m2);
    } in
    record {
      joint = subst (Joint hart n id c g (map (with_response p.seq x) es)) (sym us_is) joint;
      offered = record {
        older = f.older;
        entry = q;
        younger = f.younger;
        here = es_is;
        front = front;
        new = u;
        there = us_is;
        seq = refl;
        entry_id = refl;
        entry_word = refl;
        hart_is = w.hart_is;
        id_is = w.id_is;
        word_is = w.word_is;
        start = refl;
        undecided = w.undecided;
        marked = yes;
        live = live;
        use_live = use_live;
        opened = λ h. cc;
        others = f.others;
      };
    }

pub answering : (t : Bool) (hit : Option Hit) (order hart n id c : ℕ) (answered : ℕ → Bool) (es : List Entry) (p : Entry) (front : List Use) (v : Use) → FirstAt is_open es p → Joint hart n id c answered es front → IsNew hart c p front v
    → Answered hart n id c p v.start t (mark v.start t answered) (cond t (map (with_response p.seq (response_of hit)) es) es) (cond t (map (with_answer v.start hit order) (front ++ v ∷ [])) (front ++ v ∷ []))
answering true hit order hart n id c answered es p front v f j w = answered-step hit order hart n id c answered es p front v f j w
answering false hit order hart n id c answered es p front v f j w = unanswered-step hart n id c answered es p front v f j w
