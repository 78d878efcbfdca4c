-- The register handshake is an event.
use Rattle.std.proofs.Common.{◌≡◌, ◌≢◌, ◌==◌, ◌||◌, ◌++◌, ℕ, Bool, true, false, cond, IsTrue, List, ◌∷◌, map, Option, Some, None, refl, sym, ap, ◌∙◌, subst}
use Rattle.std.proofs.lemmas.Bool.{eqb-true, eq-eqb, ne_eqb}
use Rattle.xif_base.specs.Params.{IsInRange}
use Rattle.inorder_machine.specs.declared.units.Half.{Half}
use Rattle.inorder_machine.specs.Machine.{Extension, State}
use Rattle.inorder_machine.specs.Units.{is_read}
use Rattle.cycle_spec.specs.declared.entry.Entry.{Entry}
use Rattle.cycle_spec.specs.declared.entry.Operand.TheVariants.{Here}
use Rattle.cycle_spec.specs.declared.use_of.Use.{Use}
use Rattle.cycle_spec.specs.Flight.{is_unknown, with_sent}
use Rattle.cycle_spec.specs.Engine.{has_key, latest, with_operands, given_to}
use Rattle.cycle_lists.specs.Lists.{Each, Pairs}
use Rattle.cycle_lists.specs.Order.{Before}
use Rattle.cycle_lists.proofs.Tests.{and-right, some-is, none-some}
use Rattle.cycle_lists.proofs.Every.{each, Each-from, Each-both, Each-map, Each-append, Each-front, Each-back}
use Rattle.cycle_lists.proofs.Places.{last-found}
use Rattle.cycle_paired.specs.Paired.{is_live, IsEntry, Older}
use Rattle.ahead_spec.specs.Walk.{Item, entries, path_end}
use Rattle.ahead_spec.specs.Operands.{halves_read, lanes_of, half_behind}
use Rattle.ahead_spec.specs.World.{World, Spot, sent_of, Sends}
use Rattle.ahead_spec.specs.Guards.{MaySend}
use Rattle.ahead_laws.proofs.EntryChanges.{with_sent-here, with_sent-other}
use Rattle.cycle_events.specs.Becomes.{Becomes}
use Rattle.cycle_events.specs.Shown.{IsUseOf, Tied, Left, Shows}
use Rattle.cycle_events.proofs.Moving.{stays, to-items, item-at, path-same, entries-swap, swap}
use Rattle.cycle_events.proofs.Tying.{each-latest, each-start, Tie, other-ids-at}

-- what is known of each use where the latest of a key is named
record IsNamed (hart id : ℕ) (o : Option Use) (u : Use) : Type 0 where
  it : u.key.hart ≡ hart → u.key.id ≡ id → o ≡ Some u
  id_is : (v : Use) → o ≡ Some v → u.start ≡ v.start → u.key.id ≡ id

named : (hart id : ℕ) (us : List Use) → Pairs Older us → Each (IsNamed hart id (latest (record { hart = hart; id = id }) us)) us
named hart id us older = go (latest (record { hart = hart; id = id }) us) refl
  where
    Same : Option Use → Use → Type 0
    Same o u = (v : Use) → o ≡ Some v → u.start ≡ v.start → u.key.id ≡ id

    starts : (o : Option Use) → latest (record { hart = hart; id = id }) us ≡ o → Each (Same o) us
    starts None h = each (Same None) us (λ u v q s. absurd (none-some None v refl q))
    starts (Some v) h =
        let f = last-found (has_key (record { hart = hart; id = id })) us v h in
        Each-from (λ u. u.start ≡ v.start → u ≡ v) (Same (Some v)) us
        (λ u k v' q s. ap (λ z. z.key.id) (k (s ∙ ap (λ z. z.start) (sym (some-is v v' q)))) ∙ eqb-true v.key.id id (and-right (v.key.hart == hart) (v.key.id == id) f.passes))
        (each-start us f.older v f.younger f.here older)

    go : (o : Option Use) → latest (record { hart = hart; id = id }) us ≡ o → Each (IsNamed hart id (latest (record { hart = hart; id = id }) us)) us
    go o h = subst (λ p. Each (IsNamed hart id p) us) (sym h)
        (Each-both (λ u. u.key.hart ≡ hart → u.key.id ≡ id → o ≡ Some u) (Same o) (IsNamed hart id o) us (λ u a b. record { it = a; id_is = b })
        (subst (λ p. Each (λ u. u.key.hart ≡ hart → u.key.id ≡ id → p ≡ Some u) us) h (each-latest hart id us older)) (starts o h))

-- an item other than the one whose registers are sent
tied-other : (x : Extension) (hart id : ℕ) (o : Option Use) (lanes : List ℕ) (us : List Use) (y : Item) → Each (IsNamed hart id o) us → (is_live y.entry ≡ true → y.entry.id ≢ id) → Tied x hart us y → Tied x hart (given_to o lanes us) y
tied-other x hart id None lanes us y n k t = t
tied-other x hart id (Some v) lanes us y n k t =
    Each-map (λ u. IsNamed hart id (Some v) u × Tie x hart y u) (Tie x hart y) (with_operands v.start lanes) us (λ u a l h i. go u a l h i (u.start == v.start) refl)
    (Each-both (IsNamed hart id (Some v)) (Tie x hart y) (λ u. IsNamed hart id (Some v) u × Tie x hart y u) us (λ u a b. (a, b)) n t)
  where
    go : (u : Use) → IsNamed hart id (Some v) u × Tie x hart y u → is_live y.entry ≡ true → u.key.hart ≡ hart → u.key.id ≡ y.entry.id → (b : Bool) → (u.start == v.start) ≡ b → IsUseOf x y (record u { given = u.given || b; lanes = cond b lanes u.lanes })
    go u a l h i true q = absurd (k l (sym i ∙ a.0.id_is v refl (eqb-true u.start v.start q)))
    go u a l h i false q = let r = a.1 l h i in record { hit_is = r.hit_is; sent_is = λ g. r.sent_is (sym (or-false u.given) ∙ g); result_is = r.result_is }
      where
        or-false : (b : Bool) → (b || false) ≡ b
        or-false true = refl
        or-false false = refl

-- and that one
tied-sent : (x : Extension) (hart : ℕ) (o : Option Use) (lanes : List ℕ) (us : List Use) (y : Item) → Each (IsNamed hart y.entry.id o) us → Tied x hart us y → Tied x hart (given_to o lanes us) (record y { entry = sent_of y.entry; sent = Some lanes })
tied-sent x hart None lanes us y n t =
    Each-both (IsNamed hart y.entry.id None) (Tie x hart y) (Tie x hart (record y { entry = sent_of y.entry; sent = Some lanes })) us (λ u a b l h i. absurd (none-some None u refl (a.it h i))) n t
tied-sent x hart (Some v) lanes us y n t =
    Each-map (λ u. IsNamed hart y.entry.id (Some v) u × Tie x hart y u) (Tie x hart (record y { entry = sent_of y.entry; sent = Some lanes })) (with_operands v.start lanes) us (λ u a l h i. made u a l h i)
    (Each-both (IsNamed hart y.entry.id (Some v)) (Tie x hart y) (λ u. IsNamed hart y.entry.id (Some v) u × Tie x hart y u) us (λ u a b. (a, b)) n t)
  where
    made : (u : Use) → IsNamed hart y.entry.id (Some v) u × Tie x hart y u → is_live y.entry ≡ true → u.key.hart ≡ hart → u.key.id ≡ y.entry.id → IsUseOf x (record y { entry = sent_of y.entry; sent = Some lanes }) (with_operands v.start lanes u)
    made u a l h i =
        let q : u.start ≡ v.start = ap (λ z. z.start) (sym (some-is v u (a.0.it h i))) in
        let r = a.1 l h i in
        record { hit_is = r.hit_is; sent_is = λ g. ap (λ b. Some (cond b lanes u.lanes)) (sym (eq-eqb u.start v.start q)); result_is = r.result_is }

-- lanes that carry what a word reads behind older entries
pub record CarryRead (x : Extension) (registers : List ℕ) (older : List Entry) (word : ℕ) (lanes : List ℕ) : Type 0 where
  pub halves : (lane : ℕ) → Half → ℕ
  pub lanes_are : lanes ≡ lanes_of halves
  pub read : (lane : ℕ) → (half : Half) → IsTrue (is_read x.params (halves_read x word) lane half) → half_behind x.params.dual_write registers older word lane half ≡ Here (halves lane half)

pub sent : (x : Extension) (start : State) (hart : ℕ) (left : Left) (at : ℕ) (w : World) (t : Bool) (lanes : List ℕ) (es older : List Entry) (e : Entry) (younger : List Entry) (us : List Use)
    → IsInRange x.params → es ≡ older ++ e ∷ younger → Pairs Before es → Each IsEntry es → is_unknown e ≡ true → Pairs Older us → (t ≡ true → CarryRead x left.registers older e.word lanes)
    → Shows x start hart left es us at w
    → Becomes x (Shows x start hart left (cond t (map (with_sent e.seq) es) es) (cond t (given_to (latest (record { hart = hart; id = e.id }) us) lanes us) us) at) w
sent x start hart left at w false lanes es older e younger us range h b ok u o c m = stays x (Shows x start hart left es us at) w m
sent x start hart left at w true lanes es older e younger us range h b ok u o c m =
    let q = item-at w.flight older e younger (m.entries_are ∙ h) in
    let y = q.item in
    let k = c refl in
    let name = latest (record { hart = hart; id = e.id }) us in
    let vs = given_to name lanes us in
    let spot : Spot = record { older = q.front; item = y; younger = q.back } in
    let z : Item = record y { entry = sent_of y.entry; sent = Some lanes } in
    let registers : w.registers ≡ left.registers = ap (λ l. l.registers) m.left_is in
    let may : MaySend x w spot lanes = record {
      here = q.here;
      halves = k.halves;
      lanes_are = k.lanes_are;
      read = λ lane half r.
          ap (λ g. half_behind x.params.dual_write g (entries q.front) y.entry.word lane half) registers ∙ ap (λ l. half_behind x.params.dual_write left.registers l y.entry.word lane half) q.fronts
          ∙ ap (λ d. half_behind x.params.dual_write left.registers older d.word lane half) q.entry_is
          ∙ k.read lane half (subst (λ d. IsTrue (is_read x.params (halves_read x d.word) lane half)) q.entry_is r);
    } in
    let seq : y.entry.seq ≡ e.seq = ap (λ d. d.seq) q.entry_is in
    let id : y.entry.id ≡ e.id = ap (λ d. d.id) q.entry_is in
    let change : z.entry ≡ with_sent e.seq y.entry = sym (with_sent-here y.entry) ∙ ap (λ n. with_sent n y.entry) seq in
    let others = λ (d : Entry) (n : d.seq ≢ y.entry.seq). with_sent-other e.seq d (ne_eqb d.seq e.seq (λ r. n (r ∙ sym seq))) in
    let fs_is = entries-swap (with_sent e.seq) es spot z (ap entries (sym q.here) ∙ m.entries_are) b others change in
    let tied0 : Each (Tied x hart us) (q.front ++ y ∷ q.back) = subst (Each (Tied x hart us)) q.here m.tied in
    let names = named hart e.id us o in
    let ids = other-ids-at older e younger (subst (Pairs Before) h b) (subst (Each IsEntry) h ok) u in
    let P = λ (d : Entry). is_live d ≡ true → d.id ≢ e.id in
    let front = Each-both (λ i. P i.entry) (Tied x hart us) (Tied x hart vs) q.front (λ i a r. tied-other x hart e.id name lanes us i names a r) (to-items P q.front (subst (Each P) (sym q.fronts) ids.front)) (Each-front (Tied x hart us) q.front (y ∷ q.back) tied0) in
    let back = Each-both (λ i. P i.entry) (Tied x hart us) (Tied x hart vs) q.back (λ i a r. tied-other x hart e.id name lanes us i names a r) (to-items P q.back (subst (Each P) (sym q.backs) ids.back)) (Each-back (Tied x hart us) q.front (y ∷ q.back) tied0).1 in
    let new = tied-sent x hart name lanes us y (subst (λ n. Each (IsNamed hart n name) us) (sym id) names) (Each-back (Tied x hart us) q.front (y ∷ q.back) tied0).0 in
    swap x start hart left es (map (with_sent e.seq) es) us vs at at w spot z (Sends spot lanes) range m may refl fs_is
    (path-same w.pc q.front y z q.back refl ∙ sym (ap (path_end w.pc) q.here) ∙ m.leads)
    (Each-append (Tied x hart vs) q.front (z ∷ q.back) front (new, back))
