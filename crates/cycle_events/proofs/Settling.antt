-- The second half of a cycle, behind its commit: each step of it is an event.
use Rattle.std.proofs.Common.{◌≡◌, ◌⊎◌, ◌==◌, ◌+◌, ℕ, Bool, true, false, cond, List, [], ◌∷◌, map, drop, Option, Some, None, refl, sym, ap, ◌∙◌, subst, inl, inr}
use Rattle.std.specs.Prelude.{is_some, IfSome}
use Rattle.std.specs.List.{list_any, range_with_len}
use Rattle.std.proofs.lemmas.Bool.{eqb-true}
use Rattle.xif_base.specs.Params.{IsInRange}
use Rattle.coproc_config.specs.Set.{UnitTable}
use Rattle.xif_image.specs.Region.{Region}
use Rattle.xif_drive.specs.Predictors.{following}
use Rattle.inorder_machine.specs.declared.line.Store.{Store}
use Rattle.inorder_machine.specs.declared.line.Stepped.{Stepped}
use Rattle.inorder_machine.specs.declared.line.Stepped.TheVariants.{Retired, Stop}
use Rattle.inorder_machine.specs.Execute.{executed}
use Rattle.inorder_machine.specs.Machine.{Extension, State, register_of}
use Rattle.cycle_spec.specs.declared.choices.Choices.{Choices}
use Rattle.cycle_spec.specs.declared.choices.Executed.{Executed}
use Rattle.cycle_spec.specs.declared.choices.Mode.{Mode}
use Rattle.cycle_spec.specs.declared.choices.Mode.TheVariants.{Running, DrainBegins, Draining}
use Rattle.cycle_spec.specs.declared.entry.Entry.{Entry}
use Rattle.cycle_spec.specs.declared.entry.EntryKind.{EntryKind}
use Rattle.cycle_spec.specs.declared.entry.EntryKind.TheVariants.{Local, Unknown, Nowhere}
use Rattle.cycle_spec.specs.declared.use_of.Use.{Use}
use Rattle.cycle_spec.specs.Flight.{is_unknown, is_unknown_kind, is_row, is_store_row, is_store, is_control_row, holds_id, with_outcome}
use Rattle.cycle_spec.specs.State.{Core}
use Rattle.cycle_spec.specs.Choices.{is_in_word}
use Rattle.cycle_spec.specs.Core.{line_of, execute_step, retire_step, ahead_behind}
use Rattle.cycle_lists.specs.Lists.{Each, Pairs}
use Rattle.cycle_lists.specs.Order.{Before}
use Rattle.cycle_lists.proofs.Tests.{and-right}
use Rattle.cycle_lists.proofs.Every.{Each-here}
use Rattle.cycle_lists.proofs.Places.{first-at}
use Rattle.cycle_paired.proofs.Facts.{Joint}
use Rattle.cycle_paired.proofs.Carrying.{Carries}
use Rattle.cycle_paired.proofs.Finishing.{finishing}
use Rattle.cycle_paired.proofs.Executing.{Execs}
use Rattle.cycle_paired.proofs.Lasting.{result_with, result_entries, result_uses}
use Rattle.cycle_paired.proofs.Cycling.{result_write}
use Rattle.ahead_spec.specs.Walk.{Item, outcome}
use Rattle.ahead_spec.specs.World.{World}
use Rattle.ahead_spec.specs.Invariant.{Agrees}
use Rattle.ahead_laws.proofs.Walks.{walked-each}
use Rattle.ahead_laws.proofs.Rows.{straight}
use Rattle.ahead_laws.proofs.Outcomes.{entry-outcome-local, outcome-nowhere}
use Rattle.cycle_events.specs.Becomes.{Becomes}
use Rattle.cycle_events.specs.Shown.{Left, Shows, IsCalm}
use Rattle.cycle_events.proofs.Moving.{stays, to-entries, end_of}
use Rattle.cycle_events.proofs.Finished.{finished}
use Rattle.cycle_events.proofs.Executed.{Reads, Route, executes}
use Rattle.cycle_events.proofs.Retired.{Missed, left_after, retires}
use Rattle.cycle_events.proofs.Wide.{Wide, AllWide, wide-at, Each-wide, source-wide, all-same, all-outcome}
use Rattle.cycle_events.proofs.Chosen.{kept, GoesOn, LeadsOn, ReadsAt, RetiresAt, Ends, Plain, Stored, Turned, IsChosen}
use Rattle.cycle_events.proofs.Presented.{ext}

-- ---- what the walk says of each entry

goes-on : (x : Extension) (memory : Region) (s : State) (y : Item) → Agrees x memory s y → GoesOn y.entry
goes-on x memory s y g = record { predicted = g.predicted_is; next = λ c d. go y.entry.kind refl c d }
  where
    stop-line : {c : _} → Stop c ≡ Retired (line_of y.entry) → ⊥
    stop-line k = cc

    go : (k : EntryKind) → y.entry.kind ≡ k → is_row is_control_row y.entry.kind ≡ false → y.entry.done ≡ true → y.entry.next ≡ following y.entry.pc
    go (Local i) e c d = straight s.memory (record { pc = y.entry.pc; word = y.entry.word }) i (register_of s i.rs1) (register_of s i.rs2) (line_of y.entry) (sym (ap (is_row is_control_row) e) ∙ c) (sym (entry-outcome-local x memory s y i g e) ∙ g.done_is d)
    go Unknown e c d = g.next_is (ap is_unknown_kind e)
    go Nowhere e c d = absurd (stop-line (sym (ap (λ q. outcome x s y.entry.pc q y.entry.word) e ∙ outcome-nowhere x s y.entry.pc y.entry.word) ∙ g.done_is d))

pub all-go : (x : Extension) (start : State) (hart : ℕ) (left : Left) (at : ℕ) (es : List Entry) (us : List Use) (w : World) → Shows x start hart left es us at w → Each GoesOn es
all-go x start hart left at es us w m =
    subst (Each GoesOn) m.entries_are (to-entries GoesOn w.flight (walked-each x (Agrees x m.runs.now.memory) (λ y. GoesOn y.entry) w.flight m.runs.now (λ s y g. goes-on x m.runs.now.memory s y g) m.runs.agree))

-- ---- the result

pub resulting : (x : Extension) (start : State) (hart : ℕ) (left : Left) (at : ℕ) (w : World) (n id c : ℕ) (answered : ℕ → Bool) (es : List Entry) (us : List Use) (o : Option Use) (ready : Bool) → IsInRange x.params → Joint hart n id c answered es us → IfSome o (λ u. Carries u us)
    → Shows x start hart left es us at w → Becomes x (Shows x start hart left (result_entries o ready (result_write o) es) (result_uses o ready us) at) w
resulting x start hart left at w n id c answered es us None ready range j k m = stays x (Shows x start hart left es us at) w m
resulting x start hart left at w n id c answered es us (Some u) false range j k m = stays x (Shows x start hart left es us at) w m
resulting x start hart left at w n id c answered es us (Some u) true range j k m =
    let f = finishing hart n id c answered u es us k j in
    let p = f.entry in
    let own : p.id ≡ u.key.id = eqb-true p.id u.key.id (and-right (is_unknown p) (p.id == u.key.id) (first-at (holds_id u.key.id) es p f.found).passes) in
    let done = finished x start hart left at w u es f.older p f.younger us range f.here j.kept.pairs f.live_is f.alike.unknown own f.hart_is k m in
    subst (λ q. Becomes x (Shows x start hart left (result_with q (result_write (Some u)) es) (result_uses (Some u) true us) at) w) (sym f.found) done

-- ---- the execution

-- where it leads
pub record RunsTo (w : Core) (es : List Entry) (at to : ℕ) (x : Executed) : Type 0 where
  pub place : ReadsAt w es x
  pub route : Route x.outcome x.entry place.younger at to

abbrev pub ExecutesTo : (w : Core) → List Entry → (at to : ℕ) → Option Executed → Type 0
ExecutesTo w es at to None = to ≡ at
ExecutesTo w es at to (Some x) = RunsTo w es at to x

route-wide : (o : Stepped) (e f : Entry) (ys zs : List Entry) (at to : ℕ) (dual : Bool) → f.predicted ≡ e.predicted → AllWide true dual ys zs → Route o e ys at to → Route o f zs at to
route-wide (Stop cause) e f ys zs at to dual p a r = r
route-wide (Retired line) e f ys zs at to dual p a r = go r
  where
    nil : (ys zs : List Entry) → AllWide true dual ys zs → ys ≡ [] → zs ≡ []
    nil [] [] a h = refl
    nil [] (z ∷ zs) a h = absurd a
    nil (y ∷ ys) zs a h = cc

    go : ((line.next ≡ e.predicted) × (to ≡ at)) ⊎ ((ys ≡ []) × (to ≡ line.next)) → ((line.next ≡ f.predicted) × (to ≡ at)) ⊎ ((zs ≡ []) × (to ≡ line.next))
    go (inl k) = inl (k.0 ∙ sym p, k.1)
    go (inr k) = inr (nil ys zs a k.0, k.1)

reads-wide : (dual : Bool) (registers : List ℕ) (memory : Region) (xs ys : List Entry) (e f : Entry) (o : Stepped) → AllWide true dual xs ys → Wide true dual e f → f.done ≡ false → Reads dual registers memory xs e o → Reads dual registers memory ys f o
reads-wide dual registers memory xs ys e f o a w d r = record {
  instr = r.instr;
  kind_is = w.kind ∙ r.kind_is;
  not_done = d;
  not_stopping = ap is_some (w.stop refl (ap is_unknown_kind r.kind_is)) ∙ r.not_stopping;
  a = r.a;
  b = r.b;
  rs1 = source-wide true dual registers xs ys _ r.a a r.rs1;
  rs2 = source-wide true dual registers xs ys _ r.b a r.rs2;
  stores = λ l. Each-wide true dual (λ y. is_store y ≡ false) (λ y. is_store y ≡ false) xs ys (λ y z q h. ap (is_row is_store_row) q.kind ∙ h) a (r.stores l);
  outcome_is = ap (λ p. executed memory (record { pc = p; word = f.word }) r.instr r.a r.b) w.pc
      ∙ ap (λ p. executed memory (record { pc = e.pc; word = p }) r.instr r.a r.b) w.word ∙ r.outcome_is;
}

pub executing : (w : Core) (set : List UnitTable) (start : State) (hart : ℕ) (left : Left) (at to : ℕ) (v : World) (base es : List Entry) (us : List Use) (o : Option Executed) → IsInRange w.params → left.registers ≡ w.registers → left.memory ≡ w.memory
    → AllWide true w.params.dual_write base es → Pairs Before es → IfSome o (λ x. Each (Execs x.entry.seq x.outcome) es) → ExecutesTo w base at to o
    → Shows (ext w set) start hart left es us at v → Becomes (ext w set) (Shows (ext w set) start hart left (execute_step o es) us to) v
executing w set start hart left at to v base es us None range regs mem a b x r m = subst (λ n. Becomes (ext w set) (Shows (ext w set) start hart left es us n) v) (sym r) (stays (ext w set) (Shows (ext w set) start hart left es us at) v m)
executing w set start hart left at to v base es us (Some x) range regs mem a b ex r m =
    let dual = w.params.dual_write in
    let p = r.place in
    let k = wide-at true dual p.older x.entry p.younger es (subst (λ l. AllWide true dual l es) p.here a) in
    let f = k.entry in
    let e = Each-here (Execs x.entry.seq x.outcome) k.older f k.younger (subst (Each (Execs x.entry.seq x.outcome)) k.here ex) k.wide.seq in
    let reads0 = reads-wide dual w.registers w.memory p.older k.older x.entry f x.outcome k.olders k.wide e.not_done p.reads in
    let reads = subst (λ g. Reads dual g left.memory k.older f x.outcome) (sym regs) (subst (λ g. Reads dual w.registers g k.older f x.outcome) (sym mem) reads0) in
    let route = route-wide x.outcome x.entry f p.younger k.younger at to dual k.wide.predicted k.youngers r.route in
    let done = executes (ext w set) start hart left at to v x.outcome es k.older f k.younger us range k.here b reads route m in
    subst (λ n. Becomes (ext w set) (Shows (ext w set) start hart left (map (with_outcome n x.outcome) es) us to) v) k.wide.seq done

pub wide-executed : (dual : Bool) (o : Option Executed) (es : List Entry) → IfSome o (λ x. Each (Execs x.entry.seq x.outcome) es) → AllWide false dual es (execute_step o es)
wide-executed dual None es h = all-same false dual es
wide-executed dual (Some x) es h = all-outcome dual x.entry.seq x.outcome es h

-- ---- where the path ends

pub record Routed (w : Core) (ch : Choices) (at0 at : ℕ) : Type 0 where
  pub to : ℕ
  pub runs : ExecutesTo w (kept ch w.flight) at to ch.execute
  pub ends : w.mode ≡ Running → at0 ≡ w.ahead → to ≡ ahead_behind ch.cut w.ahead

leads-to : (w : Core) (es : List Entry) (at : ℕ) (o : Option Executed) → IfSome o (ReadsAt w es) → IfSome o LeadsOn → ExecutesTo w es at at o
leads-to w es at None r l = refl
leads-to w es at (Some x) r l = record { place = r; route = go x.outcome refl }
  where
    go : (o : Stepped) → x.outcome ≡ o → Route o x.entry r.younger at at
    go (Retired line) h = inl (l line h, refl)
    go (Stop cause) h = refl

-- after a cut by a store, the only entry that is left
stored-end : (dual : Bool) (pc : ℕ) (e : Entry) (es : List Entry) → AllWide true dual (e ∷ []) es → e.done ≡ true → end_of pc es ≡ e.next
stored-end dual pc e [] a d = absurd a
stored-end dual pc e (f ∷ []) a d = let k = a.0.fixed d in ap (λ b. cond b f.next f.predicted) k.0 ∙ ap (λ l. l.next) k.1
stored-end dual pc e (f ∷ (g ∷ es)) a d = absurd a.1

pub routed : (w : Core) (ch : Choices) (pc at0 : ℕ) (es : List Entry) → IsChosen w ch → AllWide true w.params.dual_write (kept ch w.flight) es → (ch.cut ≡ None → ch.drain ≡ None → end_of pc es ≡ at0) → Routed w ch at0 (end_of pc es)
routed w ch pc at0 es ct a plain = go w.mode refl
  where
    at : ℕ
    at = end_of pc es

    drained : (w.mode ≡ Running → ⊥) → Routed w ch at0 at
    drained idle = record { to = at; runs = leads-to w (kept ch w.flight) at ch.execute ct.execute (ct.leads idle); ends = λ r. absurd (idle r) }

    run : Ends w ch → Routed w ch at0 at
    run (Plain c d l) = record { to = at; runs = leads-to w (kept ch w.flight) at ch.execute ct.execute l; ends = λ r k. plain c d ∙ k ∙ sym (ap (λ o. ahead_behind o w.ahead) c) }
    run (Stored c e cut here none done target) = record {
      to = at;
      runs = subst (ExecutesTo w (kept ch w.flight) at at) (sym none) refl;
      ends = λ r k. stored-end w.params.dual_write pc e es (subst (λ l. AllWide true w.params.dual_write l es) here a) done ∙ sym target ∙ sym (ap (λ o. ahead_behind o w.ahead) cut);
    }
    run (Turned c x r line cut execute nil outcome target) = record {
      to = c.target;
      runs = subst (ExecutesTo w (kept ch w.flight) at c.target) (sym execute) (record { place = r; route = subst (λ o. Route o x.entry r.younger at c.target) (sym outcome) (inr (nil, target)) });
      ends = λ q k. sym (ap (λ o. ahead_behind o w.ahead) cut);
    }

    go : (m : Mode) → w.mode ≡ m → Routed w ch at0 at
    go Running h = run (ct.ends h)
    go DrainBegins h = drained (λ r. drains (sym h ∙ r))
      where
        drains : DrainBegins ≡ Running → ⊥
        drains k = cc
    go Draining h = drained (λ r. drains (sym h ∙ r))
      where
        drains : Draining ≡ Running → ⊥
        drains k = cc

-- ---- the retirement

abbrev pub left_retired : Option Entry → Left → Left
left_retired None left = left
left_retired (Some e) left = left_after left (line_of e)

missed-wide : (dual : Bool) (store : Option Store) (x y : Entry) → Wide false dual x y → Missed store x → Missed store y
missed-wide dual None x y w h = tt
missed-wide dual (Some s) x y w h = ap (λ p. list_any (λ k. is_in_word p (s.addr + k)) (range_with_len 0 s.width)) w.pc ∙ h

-- the first of the entries
record HeadWide (dual : Bool) (e : Entry) (rest es : List Entry) : Type 0 where
  entry : Entry
  tail : List Entry
  here : es ≡ entry ∷ tail
  wide : Wide false dual e entry
  wides : AllWide false dual rest tail

head-wide : (dual : Bool) (e : Entry) (rest es : List Entry) → AllWide false dual (e ∷ rest) es → HeadWide dual e rest es
head-wide dual e rest [] a = absurd a
head-wide dual e rest (y ∷ ys) a = record { entry = y; tail = ys; here = refl; wide = a.0; wides = a.1 }

pub retiring : (x : Extension) (start : State) (hart : ℕ) (left : Left) (at : ℕ) (v : World) (w : Core) (ch : Choices) (dual : Bool) (es : List Entry) (us : List Use) (o : Option Entry) → IsInRange x.params → AllWide false dual (kept ch w.flight) es → IfSome o (RetiresAt w ch)
    → Shows x start hart left es us at v → Becomes x (Shows x start hart (left_retired o left) (retire_step o es) us at) v
retiring x start hart left at v w ch dual es us None range a r m = stays x (Shows x start hart left es us at) v m
retiring x start hart left at v w ch dual es us (Some e) range a r m =
    let k = head-wide dual e r.rest es (subst (λ l. AllWide false dual l es) r.here a) in
    let f = k.wide.fixed r.done in
    let missed = Each-wide false dual (Missed e.store) (Missed e.store) r.rest k.tail (λ y z q h. missed-wide dual e.store y z q h) k.wides r.missed in
    let done = retires x start hart left at v (line_of e) k.entry k.tail us range f.0 f.1 missed (subst (λ l. Shows x start hart left l us at v) k.here m) in
    subst (λ l. Becomes x (Shows x start hart (left_after left (line_of e)) (drop 1 l) us at) v) (sym k.here) done

-- in a drain it stays calm
calm-wide : (dual : Bool) (x y : Entry) → Wide false dual x y → IsCalm x → IsCalm y
calm-wide dual x y w c = record { no_store = ap (is_row is_store_row) w.kind ∙ c.no_store; control = λ h. (w.fixed (c.control (sym (ap (is_row is_control_row) w.kind) ∙ h))).0 }

pub calm-settled : (dual : Bool) (xs ys : List Entry) (o : Option Entry) → AllWide false dual xs ys → Each IsCalm xs → Each IsCalm (retire_step o ys)
calm-settled dual xs ys o a c = go o (Each-wide false dual IsCalm IsCalm xs ys (λ x y w k. calm-wide dual x y w k) a c)
  where
    go : (o : Option Entry) → Each IsCalm ys → Each IsCalm (retire_step o ys)
    go None k = k
    go (Some e) k = rest ys k
      where
        rest : (zs : List Entry) → Each IsCalm zs → Each IsCalm (drop 1 zs)
        rest [] k = tt
        rest (z ∷ zs) k = k.1
