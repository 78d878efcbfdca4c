-- Events one after another, and what an event at one place leaves.
use Rattle.std.proofs.Common.{◌≡◌, ◌≢◌, ◌++◌, ℕ, zero, suc, List, [], ◌∷◌, map, take, drop, refl, sym, ap, ◌∙◌, subst}
use Rattle.xif_base.specs.Params.{IsInRange}
use Rattle.inorder_machine.specs.Machine.{Extension, State}
use Rattle.cycle_spec.specs.declared.entry.Entry.{Entry}
use Rattle.cycle_spec.specs.declared.use_of.Use.{Use}
use Rattle.cycle_lists.specs.Lists.{Each, Pairs}
use Rattle.cycle_lists.specs.Order.{Before}
use Rattle.cycle_lists.proofs.Every.{Each-from}
use Rattle.cycle_lists.proofs.Places.{map-at}
use Rattle.cycle_paired.proofs.Facts.{other-numbers}
use Rattle.ahead_spec.specs.Walk.{Item, entries, leads_to, path_end}
use Rattle.ahead_spec.specs.World.{World, Spot, whole, with_item, with_flight, Event, happens, run}
use Rattle.ahead_spec.specs.Guards.{May, MayRun}
use Rattle.ahead_spec.specs.Invariant.{RunsAhead}
use Rattle.ahead_laws.proofs.Retiring.{keeps}
use Rattle.cycle_events.specs.Becomes.{Becomes}
use Rattle.cycle_events.specs.Shown.{Tied, Left, Shows}

-- ---- lists of events

may-append : (x : Extension) (es fs : List Event) (w : World) → MayRun x w es → MayRun x (run x w es) fs → MayRun x w (es ++ fs)
may-append x [] fs w m k = k
may-append x (e ∷ es) fs w m k = (m.0, may-append x es fs (happens x w e) m.1 k)

run-append : (x : Extension) (es fs : List Event) (w : World) → run x w (es ++ fs) ≡ run x (run x w es) fs
run-append x [] fs w = refl
run-append x (e ∷ es) fs w = run-append x es fs (happens x w e)

pub stays : (x : Extension) (P : World → Type 0) (w : World) → P w → Becomes x P w
stays x P w h = record { events = []; may = tt; there = h }

pub event : (x : Extension) (P : World → Type 0) (w : World) (e : Event) → May x w e → P (happens x w e) → Becomes x P w
event x P w e m h = record { events = e ∷ []; may = (m, tt); there = h }

pub next : (x : Extension) (P Q : World → Type 0) (w : World) → Becomes x P w → ((v : World) → P v → Becomes x Q v) → Becomes x Q w
next x P Q w b k =
    let v = run x w b.events in
    let c = k v b.there in
    record {
      events = b.events ++ c.events;
      may = may-append x b.events c.events w b.may c.may;
      there = subst Q (sym (run-append x b.events c.events w)) c.there;
    }

-- ---- items and their entries

pub entries-append : (ys zs : List Item) → entries (ys ++ zs) ≡ entries ys ++ entries zs
entries-append [] zs = refl
entries-append (y ∷ ys) zs = ap (λ l. y.entry ∷ l) (entries-append ys zs)

pub entries-take : (k : ℕ) (ys : List Item) → entries (take k ys) ≡ take k (entries ys)
entries-take zero ys = refl
entries-take (suc k) [] = refl
entries-take (suc k) (y ∷ ys) = ap (λ l. y.entry ∷ l) (entries-take k ys)

pub entries-drop : (k : ℕ) (ys : List Item) → entries (drop k ys) ≡ drop k (entries ys)
entries-drop zero ys = refl
entries-drop (suc k) [] = refl
entries-drop (suc k) (y ∷ ys) = entries-drop k ys

pub to-items : (P : Entry → Type 0) (ys : List Item) → Each P (entries ys) → Each (λ y. P y.entry) ys
to-items P [] h = tt
to-items P (y ∷ ys) h = (h.0, to-items P ys h.1)

pub to-entries : (P : Entry → Type 0) (ys : List Item) → Each (λ y. P y.entry) ys → Each P (entries ys)
to-entries P [] h = tt
to-entries P (y ∷ ys) h = (h.0, to-entries P ys h.1)

-- an entry among those of items
pub record ItemAt (ys : List Item) (older : List Entry) (e : Entry) (younger : List Entry) : Type 0 where
  pub front : List Item
  pub item : Item
  pub back : List Item
  pub here : ys ≡ front ++ item ∷ back
  pub entry_is : item.entry ≡ e
  pub fronts : entries front ≡ older
  pub backs : entries back ≡ younger

pub item-at : (ys : List Item) (older : List Entry) (e : Entry) (younger : List Entry) → entries ys ≡ older ++ e ∷ younger → ItemAt ys older e younger
item-at [] [] e younger h = cc
item-at [] (o ∷ older) e younger h = cc
item-at (y ∷ ys) [] e younger h =
    let hd : y.entry ≡ e = cc in
    let tl : entries ys ≡ younger = cc in
    record { front = []; item = y; back = ys; here = refl; entry_is = hd; fronts = refl; backs = tl }
item-at (y ∷ ys) (o ∷ older) e younger h =
    let hd : y.entry ≡ o = cc in
    let tl : entries ys ≡ older ++ e ∷ younger = cc in
    let r = item-at ys older e younger tl in
    record {
      front = y ∷ r.front;
      item = r.item;
      back = r.back;
      here = ap (λ l. y ∷ l) r.here;
      entry_is = r.entry_is;
      fronts = ap (λ z. z ∷ entries r.front) hd ∙ ap (λ l. o ∷ l) r.fronts;
      backs = r.backs;
    }

-- ---- the end of the path

pub path-same : (from : ℕ) (ys : List Item) (y z : Item) (zs : List Item) → leads_to z.entry ≡ leads_to y.entry → path_end from (ys ++ z ∷ zs) ≡ path_end from (ys ++ y ∷ zs)
path-same from [] y z zs h = ap (λ n. path_end n zs) h
path-same from (o ∷ ys) y z zs h = path-same (leads_to o.entry) ys y z zs h

pub path-last : (from : ℕ) (ys : List Item) (z : Item) → path_end from (ys ++ z ∷ []) ≡ leads_to z.entry
path-last from [] z = refl
path-last from (o ∷ ys) z = path-last (leads_to o.entry) ys z

-- the same of the entries
abbrev pub end_of : (from : ℕ) → List Entry → ℕ
end_of from [] = from
end_of from (e ∷ es) = end_of (leads_to e) es

pub end-of : (from : ℕ) (ys : List Item) → path_end from ys ≡ end_of from (entries ys)
end-of from [] = refl
end-of from (y ∷ ys) = end-of (leads_to y.entry) ys

-- ---- an event that changes one item

-- a change by the number is a change of one entry
pub entries-swap : (f : Entry → Entry) (es : List Entry) (p : Spot) (z : Item) → entries (whole p) ≡ es → Pairs Before es → ((e : Entry) → e.seq ≢ p.item.entry.seq → f e ≡ e) → z.entry ≡ f p.item.entry → entries (with_item p z) ≡ map f es
entries-swap f es p z h b k q =
    let e = p.item.entry in
    let split : entries (whole p) ≡ entries p.older ++ e ∷ entries p.younger = entries-append p.older (p.item ∷ p.younger) in
    let b' : Pairs Before (entries p.older ++ e ∷ entries p.younger) = subst (Pairs Before) (sym h ∙ split) b in
    let o = other-numbers (entries p.older) e (entries p.younger) b' in
    let same = Each-from (λ y. y.seq ≢ e.seq) (λ y. f y ≡ y) (entries p.older) k o.0 in
    let rest = Each-from (λ y. y.seq ≢ e.seq) (λ y. f y ≡ y) (entries p.younger) k o.1 in
    entries-append p.older (z ∷ p.younger) ∙ ap (λ y. entries p.older ++ y ∷ entries p.younger) q
    ∙ sym (ap (map f) (sym h ∙ split) ∙ map-at f (entries p.older) e (entries p.younger) same rest)

pub swap : (x : Extension) (start : State) (hart : ℕ) (left : Left) (es fs : List Entry) (us vs : List Use) (at to : ℕ) (w : World) (p : Spot) (z : Item) (e : Event)
    → IsInRange x.params → Shows x start hart left es us at w → May x w e → happens x w e ≡ with_flight w (with_item p z) → entries (with_item p z) ≡ fs → path_end w.pc (with_item p z) ≡ to → Each (Tied x hart vs) (with_item p z)
    → Becomes x (Shows x start hart left fs vs to) w
swap x start hart left es fs us vs at to w p z e range s m same fs_is to_is tied =
    event x (Shows x start hart left fs vs to) w e m
    (subst (Shows x start hart left fs vs to) (sym same) (record {
      runs = subst (RunsAhead x start) same (keeps x start w e range m s.runs);
      left_is = s.left_is;
      entries_are = fs_is;
      leads = to_is;
      tied = tied;
    }))
