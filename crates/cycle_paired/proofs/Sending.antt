-- The registers of an instruction, on both sides.
use Rattle.std.proofs.Common.{◌≡◌, ◌≢◌, ◌&&◌, ◌||◌, ◌++◌, ℕ, Bool, true, false, cond, not, List, [], ◌∷◌, map, Option, Some, None, refl, sym, ap, ◌∙◌, subst}
use Rattle.std.proofs.lemmas.Bool.{eq-eqb, ne_eqb}
use Rattle.std.proofs.lemmas.List.{map-append}
use Rattle.cycle_spec.specs.declared.entry.Entry.{Entry}
use Rattle.cycle_spec.specs.declared.entry.EntryKind.{EntryKind}
use Rattle.cycle_spec.specs.declared.entry.EntryKind.TheVariants.{Local, Unknown, Nowhere}
use Rattle.cycle_spec.specs.declared.use_of.Use.{Use}
use Rattle.cycle_spec.specs.Flight.{is_open, is_safe_kind, is_stopping, reads_registers, with_sent}
use Rattle.cycle_spec.specs.Engine.{latest, with_operands, given_to}
use Rattle.cycle_lists.specs.Lists.{Each, Pairs}
use Rattle.cycle_lists.specs.Order.{Before}
use Rattle.cycle_lists.proofs.Tests.{and-false, or-false, or-true, not-both}
use Rattle.cycle_lists.proofs.Every.{Each-from, Each-map, Each-here, Each-replaced, Pairs-replaced, Pairs-older, Pairs-younger}
use Rattle.cycle_lists.proofs.Filters.{filter-at}
use Rattle.cycle_lists.proofs.Places.{map-at}
use Rattle.cycle_lists.proofs.Order.{mapped, leaves-sent}
use Rattle.cycle_paired.specs.Paired.{is_live, live_entries, is_live_use, live_uses, Alike, Match, IsEntry, Behind, IsUse, Older}
use Rattle.cycle_paired.proofs.Facts.{Joint, live-closed, live_use-answered, other-numbers}
use Rattle.cycle_paired.proofs.Matching.{Match-append, found, change-use}
use Rattle.cycle_paired.proofs.Carrying.{older-map, below-map, leaves-operands}
use Rattle.cycle_paired.proofs.Answering.{Offered}

abbrev pub sent : Entry → Entry
sent e = record e { operands_sent = true }

abbrev pub given : List ℕ → Use → Use
given lanes u = record u { given = true; lanes = lanes }

sent-other : (s : ℕ) (e : Entry) → e.seq ≢ s → with_sent s e ≡ e
sent-other s e n = ap (λ t. record e { operands_sent = e.operands_sent || t }) (ne_eqb e.seq s n) ∙ ap (λ t. record e { operands_sent = t }) (or-false e.operands_sent)

sent-same : (e : Entry) → with_sent e.seq e ≡ sent e
sent-same e = ap (λ t. record e { operands_sent = e.operands_sent || t }) (eq-eqb e.seq e.seq refl) ∙ ap (λ t. record e { operands_sent = t }) (or-true e.operands_sent)

pub sent-at : (older younger : List Entry) (e : Entry) → Pairs Before (older ++ e ∷ younger) → map (with_sent e.seq) (older ++ e ∷ younger) ≡ older ++ sent e ∷ younger
sent-at older younger e h =
    let o = other-numbers older e younger h in
    let k = λ (y : Entry) (n : y.seq ≢ e.seq). sent-other e.seq y n in
    map-at (with_sent e.seq) older e younger (Each-from (λ y. y.seq ≢ e.seq) (λ y. with_sent e.seq y ≡ y) older k o.0) (Each-from (λ y. y.seq ≢ e.seq) (λ y. with_sent e.seq y ≡ y) younger k o.1)
    ∙ ap (λ y. older ++ y ∷ younger) (sent-same e)

given-other : (s : ℕ) (lanes : List ℕ) (u : Use) → u.start ≢ s → with_operands s lanes u ≡ u
given-other s lanes u n = ap (λ t. record u { given = u.given || t; lanes = cond t lanes u.lanes }) (ne_eqb u.start s n) ∙ ap (λ b. record u { given = b }) (or-false u.given)

given-same : (lanes : List ℕ) (u : Use) → with_operands u.start lanes u ≡ given lanes u
given-same lanes u = ap (λ t. record u { given = u.given || t; lanes = cond t lanes u.lanes }) (eq-eqb u.start u.start refl) ∙ ap (λ b. record u { given = b; lanes = lanes }) (or-true u.given)

pub given-at : (lanes : List ℕ) (xs : List Use) (u : Use) (ys : List Use) → Pairs Older (xs ++ u ∷ ys) → map (with_operands u.start lanes) (xs ++ u ∷ ys) ≡ xs ++ given lanes u ∷ ys
given-at lanes xs u ys h = change-use (with_operands u.start lanes) xs u ys (λ x n. given-other u.start lanes x n) h ∙ ap (λ y. xs ++ y ∷ ys) (given-same lanes u)

-- an entry with its registers is as safe as without
sent-safe : (k : EntryKind) (e : Entry) → is_safe_kind k (sent e) ≡ is_safe_kind k e
sent-safe (Local i) e = refl
sent-safe Unknown e = refl
sent-safe Nowhere e = refl

entry-sent : (e : Entry) → IsEntry e → is_open e ≡ false → IsEntry (sent e)
entry-sent e ok n = record {
  answered = ok.answered;
  released = ok.released;
  done_released = ok.done_released;
  done_given = λ u d. and-false (reads_registers e.response);
  unsent = λ h. absurd (not-both (is_open e) n h);
  stores = ok.stores;
  stops = ok.stops;
  refused = ok.refused;
}

use-given : (lanes : List ℕ) (answered : ℕ → Bool) (u : Use) → IsUse answered u → answered u.start ≡ true → IsUse answered (given lanes u)
use-given lanes answered u ok a = record {
  unanswered = λ h. absurd (not-both (answered u.start) h a);
  ready = λ h. let r = ok.ready h in record { accepted = r.accepted; released = r.released; operands = refl };
}

-- the registers of a live entry
sent-step : (lanes : List ℕ) (hart n id c : ℕ) (answered : ℕ → Bool) (es older : List Entry) (p : Entry) (younger : List Entry) (us : List Use) → es ≡ older ++ p ∷ younger → is_live p ≡ true → Joint hart n id c answered es us
    → Joint hart n id c answered (map (with_sent p.seq) es) (given_to (latest (record { hart = hart; id = p.id }) us) lanes us)
sent-step lanes hart n id c answered es older p younger us he l j =
    let f = found hart answered older p younger us l j.older (subst (λ x. Match hart (live_entries x) (live_uses answered us)) he j.match) in
    let u = f.partner in
    let q = sent p in
    let v = given lanes u in
    let a = f.alike in
    let alike : Alike hart q v = record { unknown = a.unknown; hart_is = a.hart_is; id = a.id; word = a.word; response = a.response; given = refl; decision = a.decision } in
    let before : Pairs Before (older ++ p ∷ younger) = subst (Pairs Before) he j.kept.pairs in
    let oks : Each IsEntry (older ++ p ∷ younger) = subst (Each IsEntry) he j.entries in
    let behind : Pairs Behind (older ++ p ∷ younger) = subst (Pairs Behind) he j.behind in
    let pairs : Pairs Older (f.front ++ u ∷ f.back) = subst (Pairs Older) f.here j.older in
    let uses : Each (IsUse answered) (f.front ++ u ∷ f.back) = subst (Each (IsUse answered)) f.here j.uses in
    let es_is : map (with_sent p.seq) es ≡ older ++ q ∷ younger = ap (map (with_sent p.seq)) he ∙ sent-at older younger p before in
    let us_is : map (with_operands u.start lanes) us ≡ f.front ++ v ∷ f.back = ap (map (with_operands u.start lanes)) f.here ∙ given-at lanes f.front u f.back pairs in
    let m : Match hart (live_entries (older ++ q ∷ younger)) (live_uses answered (f.front ++ v ∷ f.back)) =
    rw (filter-at is_live older q younger l, filter-at (is_live_use answered) f.front v f.back f.live_is) (Match-append hart (live_entries older) (q ∷ live_entries younger) (live_uses answered f.front) (v ∷ live_uses answered f.back) f.lefts (alike, f.rights)) in
    let joint : Joint hart n id c answered (map (with_sent p.seq) es) (map (with_operands u.start lanes) us) = record {
      kept = mapped n id (with_sent p.seq) es (leaves-sent p.seq) j.kept;
      entries = subst (Each IsEntry) (sym es_is) (Each-replaced IsEntry older p q younger oks (entry-sent p (Each-here IsEntry older p younger oks) (live-closed p l)));
      behind = subst (Pairs Behind) (sym es_is)
          (Pairs-replaced Behind older p q younger behind
          (Each-from (λ y. Behind y p) (λ y. Behind y q) older (λ y k. record { safe = k.safe; answered = k.answered }) (Pairs-older Behind older p younger behind))
          (Each-from (Behind p) (Behind q) younger (λ y k. record { safe = λ r. ap (λ t. not (is_stopping p) && t) (sent-safe p.kind p) ∙ k.safe r; answered = k.answered }) (Pairs-younger Behind older p younger behind)));
      below = below-map (with_operands u.start lanes) c us (leaves-operands u.start lanes) j.below;
      uses = subst (Each (IsUse answered)) (sym us_is) (Each-replaced (IsUse answered) f.front u v f.back uses (use-given lanes answered u (Each-here (IsUse answered) f.front u f.back uses) (live_use-answered answered u f.live_is)));
      older = older-map (with_operands u.start lanes) us (leaves-operands u.start lanes) j.older;
      match = subst (λ l. Match hart (live_entries l) (live_uses answered (map (with_operands u.start lanes) us))) (sym es_is) (subst (λ l. Match hart (live_entries (older ++ q ∷ younger)) (live_uses answered l)) (sym us_is) m);
    } in
    subst (λ o. Joint hart n id c answered (map (with_sent p.seq) es) (given_to o lanes us)) (sym f.is_it) joint

pub sending : (t : Bool) (lanes : List ℕ) (hart n id c : ℕ) (answered : ℕ → Bool) (es older : List Entry) (p : Entry) (younger : List Entry) (us : List Use) → es ≡ older ++ p ∷ younger → (t ≡ true → is_live p ≡ true) → Joint hart n id c answered es us
    → Joint hart n id c answered (cond t (map (with_sent p.seq) es) es) (cond t (given_to (latest (record { hart = hart; id = p.id }) us) lanes us) us)
sending true lanes hart n id c answered es older p younger us he l j = sent-step lanes hart n id c answered es older p younger us he (l refl) j
sending false lanes hart n id c answered es older p younger us he l j = j

-- the offered word stays what it is
offered-mapped : (k m : ℕ) (lanes : List ℕ) (hart : ℕ) (p : Entry) (s : ℕ) (t : Bool) (answered : ℕ → Bool) (es : List Entry) (us : List Use) → Offered hart p s t answered es us → Offered hart p s t answered (map (with_sent k) es) (map (with_operands m lanes) us)
offered-mapped k m lanes hart p s t answered es us o = record {
  older = map (with_sent k) o.older;
  entry = with_sent k o.entry;
  younger = map (with_sent k) o.younger;
  here = ap (map (with_sent k)) o.here ∙ map-append (with_sent k) o.older (o.entry ∷ o.younger);
  front = map (with_operands m lanes) o.front;
  new = with_operands m lanes o.new;
  there = ap (map (with_operands m lanes)) o.there ∙ map-append (with_operands m lanes) o.front (o.new ∷ []);
  seq = o.seq;
  entry_id = o.entry_id;
  entry_word = o.entry_word;
  hart_is = o.hart_is;
  id_is = o.id_is;
  word_is = o.word_is;
  start = o.start;
  undecided = o.undecided;
  marked = o.marked;
  live = o.live;
  use_live = o.use_live;
  opened = o.opened;
  others = Each-map (λ x. is_open x ≡ false) (λ x. is_open x ≡ false) (with_sent k) o.older (λ x h. h) o.others;
}

offered-entries : (k : ℕ) (hart : ℕ) (p : Entry) (s : ℕ) (t : Bool) (answered : ℕ → Bool) (es : List Entry) (us : List Use) → Offered hart p s t answered es us → Offered hart p s t answered (map (with_sent k) es) us
offered-entries k hart p s t answered es us o = record {
  older = map (with_sent k) o.older;
  entry = with_sent k o.entry;
  younger = map (with_sent k) o.younger;
  here = ap (map (with_sent k)) o.here ∙ map-append (with_sent k) o.older (o.entry ∷ o.younger);
  front = o.front;
  new = o.new;
  there = o.there;
  seq = o.seq;
  entry_id = o.entry_id;
  entry_word = o.entry_word;
  hart_is = o.hart_is;
  id_is = o.id_is;
  word_is = o.word_is;
  start = o.start;
  undecided = o.undecided;
  marked = o.marked;
  live = o.live;
  use_live = o.use_live;
  opened = o.opened;
  others = Each-map (λ x. is_open x ≡ false) (λ x. is_open x ≡ false) (with_sent k) o.older (λ x h. h) o.others;
}

pub offered-sent : (b : Bool) (k : ℕ) (lanes : List ℕ) (x : Option Use) (hart : ℕ) (p : Entry) (s : ℕ) (t : Bool) (answered : ℕ → Bool) (es : List Entry) (us : List Use) → Offered hart p s t answered es us
    → Offered hart p s t answered (cond b (map (with_sent k) es) es) (cond b (given_to x lanes us) us)
offered-sent false k lanes x hart p s t answered es us o = o
offered-sent true k lanes None hart p s t answered es us o = offered-entries k hart p s t answered es us o
offered-sent true k lanes (Some u) hart p s t answered es us o = offered-mapped k u.start lanes hart p s t answered es us o
