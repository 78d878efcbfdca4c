-- A release and a cut are events.
use Rattle.std.proofs.Common.{◌≡◌, ◌<◌, ◌||◌, ◌++◌, ℕ, Bool, true, false, cond, List, [], ◌∷◌, map, take, drop, Option, Some, None, refl, sym, ap, ◌∙◌, subst, arith}
use Rattle.std.specs.Prelude.{is_some}
use Rattle.std.specs.Option.{option_or}
use Rattle.std.proofs.lemmas.List.{map-append, take-append-drop}
use Rattle.xif_base.specs.Params.{IsInRange}
use Rattle.inorder_machine.specs.Machine.{Extension, State}
use Rattle.xif_session.specs.Facts.{is_accepted, is_undecided}
use Rattle.cycle_spec.specs.declared.entry.Entry.{Entry}
use Rattle.cycle_spec.specs.declared.use_of.Use.{Use}
use Rattle.cycle_spec.specs.Flight.{is_safe, with_release}
use Rattle.cycle_spec.specs.Core.{id_in}
use Rattle.cycle_spec.specs.Engine.{latest, with_decision, decided_by}
use Rattle.cycle_spec.specs.Cycle.{hart_if}
use Rattle.cycle_lists.specs.Lists.{Each, Pairs}
use Rattle.cycle_lists.specs.Order.{Before}
use Rattle.cycle_lists.proofs.Tests.{le-out, le-above}
use Rattle.cycle_lists.proofs.Every.{Each-from, Each-append, Each-front, Each-back, Each-take, Pairs-older, Pairs-younger}
use Rattle.cycle_paired.proofs.Deciding.{decided_for}
use Rattle.ahead_spec.specs.Walk.{Item, entries, leads_to, path_end}
use Rattle.ahead_spec.specs.World.{World, Spot, released_of, released_item, Releases, Drops}
use Rattle.ahead_spec.specs.Guards.{MayRelease, MayDrop}
use Rattle.ahead_laws.proofs.Retiring.{keeps}
use Rattle.ahead_laws.proofs.EntryChanges.{with_release-older, with_release-younger}
use Rattle.cycle_events.specs.Becomes.{Becomes}
use Rattle.cycle_events.specs.Shown.{Tied, Left, Shows}
use Rattle.cycle_events.proofs.Moving.{event, entries-append, entries-take, entries-drop, to-items, item-at, path-same, end_of, end-of}
use Rattle.cycle_events.proofs.Tying.{all-tied-map, tied-item}

-- ---- the uses

pub tied-decided : (x : Extension) (hart h : ℕ) (kill release : Option Entry) (us : List Use) (ys : List Item) → Each (Tied x hart us) ys → Each (Tied x hart (decided_for h kill release us)) ys
tied-decided x hart h kill release us ys t = go (is_some kill || is_some release) (latest (record { hart = hart_if (is_some kill || is_some release) h; id = id_in (option_or kill release) }) us)
  where
    by : (v : Use) (b : Bool) → Each (Tied x hart (cond b (map (with_decision (is_some kill) v) us) us)) ys
    by v true = all-tied-map x hart (with_decision (is_some kill) v) us ys (λ u. record { key = refl; hit = refl; given = refl; lanes = refl; ready = refl; result = refl }) t
    by v false = t

    go : (b : Bool) (o : Option Use) → Each (Tied x hart (cond b (decided_by (is_some kill) o us) us)) ys
    go false o = t
    go true None = t
    go true (Some v) = by v (is_undecided v.decision)

-- ---- a release

entries-older : (s : ℕ) (ys : List Item) → Each (λ e. e.seq < s) (entries ys) → entries (map released_item ys) ≡ map (with_release s) (entries ys)
entries-older s [] h = refl
entries-older s (y ∷ ys) h =
    ap (λ e. e ∷ entries (map released_item ys)) (sym (with_release-older s y.entry (le-out y.entry.seq s (let l = h.0 in omega arith)))) ∙ ap (λ l. with_release s y.entry ∷ l) (entries-older s ys h.1)

entries-younger : (s : ℕ) (es : List Entry) → Each (λ e. s < e.seq) es → es ≡ map (with_release s) es
entries-younger s [] h = refl
entries-younger s (e ∷ es) h = ap (λ d. d ∷ es) (sym (with_release-younger s e (le-above e.seq s h.0))) ∙ ap (λ l. with_release s e ∷ l) (entries-younger s es h.1)

path-released : (from : ℕ) (ys zs : List Item) → path_end from (map released_item ys ++ zs) ≡ path_end from (ys ++ zs)
path-released from [] zs = refl
path-released from (y ∷ ys) zs = path-released (leads_to y.entry) ys zs

tied-released : (x : Extension) (hart : ℕ) (us : List Use) (y : Item) → Tied x hart us y → Tied x hart us (released_item y)
tied-released x hart us y t = tied-item x hart us y (released_item y) (record { live = λ h. h; id = refl; word = refl; sent = refl; result = refl }) t

tied-all_released : (x : Extension) (hart : ℕ) (us : List Use) (ys : List Item) → Each (Tied x hart us) ys → Each (Tied x hart us) (map released_item ys)
tied-all_released x hart us [] t = tt
tied-all_released x hart us (y ∷ ys) t = (tied-released x hart us y t.0, tied-all_released x hart us ys t.1)

pub released : (x : Extension) (start : State) (hart : ℕ) (left : Left) (at : ℕ) (w : World) (s : ℕ) (es older : List Entry) (e : Entry) (younger : List Entry) (us vs : List Use)
    → IsInRange x.params → es ≡ older ++ e ∷ younger → e.seq ≡ s → Pairs Before es → is_accepted e.response ≡ true → Each (λ d. is_safe d ≡ true) older
    → ((ys : List Item) → Each (Tied x hart us) ys → Each (Tied x hart vs) ys)
    → Shows x start hart left es us at w → Becomes x (Shows x start hart left (map (with_release s) es) vs at) w
released x start hart left at w s es older e younger us vs range h seq b a safe tie m =
    let q = item-at w.flight older e younger (m.entries_are ∙ h) in
    let y = q.item in
    let spot : Spot = record { older = q.front; item = y; younger = q.back } in
    let may : MayRelease w spot = record {
      here = q.here;
      accepted = ap (λ d. is_accepted d.response) q.entry_is ∙ a;
      safe = to-items (λ d. is_safe d ≡ true) q.front (subst (Each (λ d. is_safe d ≡ true)) (sym q.fronts) safe);
    } in
    let b' : Pairs Before (older ++ e ∷ younger) = subst (Pairs Before) h b in
    let low = Each-from (λ d. Before d e) (λ d. d.seq < s) older (λ d k. let r = k.rises in omega arith) (Pairs-older Before older e younger b') in
    let high = Each-from (Before e) (λ d. s < d.seq) younger (λ d k. let r = k.rises in omega arith) (Pairs-younger Before older e younger b') in
    let here : y.entry.seq ≡ s = ap (λ d. d.seq) q.entry_is ∙ seq in
    let fs = map released_item q.front ++ released_item y ∷ q.back in
    let fs_is : entries fs ≡ map (with_release s) es =
    entries-append (map released_item q.front) (released_item y ∷ q.back)
    ∙ ap (λ l. l ++ released_of y.entry ∷ entries q.back) (entries-older s q.front (subst (Each (λ d. d.seq < s)) (sym q.fronts) low))
    ∙ ap (λ d. map (with_release s) (entries q.front) ++ d ∷ entries q.back) (sym (with_release-older s y.entry (le-out y.entry.seq s (omega arith))))
    ∙ ap (λ l. map (with_release s) (entries q.front) ++ with_release s y.entry ∷ l) (entries-younger s (entries q.back) (subst (Each (λ d. s < d.seq)) (sym q.backs) high))
    ∙ sym (map-append (with_release s) (entries q.front) (y.entry ∷ entries q.back)) ∙ ap (map (with_release s)) (sym (entries-append q.front (y ∷ q.back)) ∙ ap entries (sym q.here) ∙ m.entries_are) in
    let tied0 : Each (Tied x hart us) (q.front ++ y ∷ q.back) = subst (Each (Tied x hart us)) q.here m.tied in
    let rest = Each-back (Tied x hart us) q.front (y ∷ q.back) tied0 in
    event x (Shows x start hart left (map (with_release s) es) vs at) w (Releases spot) may (record {
      runs = keeps x start w (Releases spot) range may m.runs;
      left_is = m.left_is;
      entries_are = fs_is;
      leads = path-released w.pc q.front (released_item y ∷ q.back) ∙ path-same w.pc q.front y (released_item y) q.back refl ∙ sym (ap (path_end w.pc) q.here) ∙ m.leads;
      tied = tie fs (Each-append (Tied x hart us) (map released_item q.front) (released_item y ∷ q.back)
          (tied-all_released x hart us q.front (Each-front (Tied x hart us) q.front (y ∷ q.back) tied0)) (tied-released x hart us y rest.0, rest.1));
    })

-- ---- a cut

pub cut : (x : Extension) (start : State) (hart : ℕ) (left : Left) (at : ℕ) (w : World) (k : ℕ) (es : List Entry) (us vs : List Use)
    → IsInRange x.params → Each (λ e. e.released ≡ false) (drop k es) → ((ys : List Item) → Each (Tied x hart us) ys → Each (Tied x hart vs) ys)
    → Shows x start hart left es us at w → Becomes x (Shows x start hart left (take k es) vs (end_of left.pc (take k es))) w
cut x start hart left at w k es us vs range un tie m =
    let kept = take k w.flight in
    let gone = drop k w.flight in
    let gone_is : entries gone ≡ drop k es = entries-drop k w.flight ∙ ap (drop k) m.entries_are in
    let kept_is : entries kept ≡ take k es = entries-take k w.flight ∙ ap (take k) m.entries_are in
    let may : MayDrop w kept gone = record { here = sym (take-append-drop k w.flight); unreleased = to-items (λ e. e.released ≡ false) gone (subst (Each (λ e. e.released ≡ false)) (sym gone_is) un) } in
    event x (Shows x start hart left (take k es) vs (end_of left.pc (take k es))) w (Drops kept gone) may (record {
      runs = keeps x start w (Drops kept gone) range may m.runs;
      left_is = m.left_is;
      entries_are = kept_is;
      leads = end-of w.pc kept ∙ ap (λ l. end_of l.pc (entries kept)) m.left_is ∙ ap (end_of left.pc) kept_is;
      tied = tie kept (Each-take (Tied x hart us) k w.flight m.tied);
    })

-- the uses alone
pub told : (x : Extension) (start : State) (hart : ℕ) (left : Left) (at : ℕ) (w : World) (es : List Entry) (us vs : List Use) → ((ys : List Item) → Each (Tied x hart us) ys → Each (Tied x hart vs) ys) → Shows x start hart left es us at w → Shows x start hart left es vs at w
told x start hart left at w es us vs tie m = record { runs = m.runs; left_is = m.left_is; entries_are = m.entries_are; leads = m.leads; tied = tie w.flight m.tied }
