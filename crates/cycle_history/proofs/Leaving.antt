-- The uses of the instructions that stay aren't killed, and those of the ones that go are.
use Rattle.std.proofs.Common.{◌≡◌, ◌<◌, ◌==◌, ◌&&◌, ◌++◌, not, if◌then◌else◌, ℕ, Bool, true, false, Option, Some, None, IfSome, List, [], ◌∷◌, filter, length, refl, sym, ap, ◌∙◌, arith, append-nil}
use Rattle.std.specs.Prelude.{is_some, ⊤}
use Rattle.std.specs.Option.{option_map, option_map_or}
use Rattle.std.specs.List.{filter_map}
use Rattle.std.proofs.lemmas.List.Elements.{filter_map-append}
use Rattle.std.proofs.lemmas.Bool.{eqb-true}
use Rattle.xif_base.specs.declared.params.Key.{Key}
use Rattle.xif_base.specs.declared.params.Params.{Params}
use Rattle.coproc_config.specs.Set.{UnitTable}
use Rattle.inorder_machine.specs.Machine.{Extension}
use Rattle.xif_signals.specs.declared.bus.Bus.{Bus}
use Rattle.xif_session.specs.Facts.{issue_key, result_key, is_taken}
use Rattle.xif_session.specs.Uses.{last_bus}
use Rattle.cycle_spec.specs.declared.entry.Entry.{Entry}
use Rattle.cycle_spec.specs.State.{Engine}
use Rattle.cycle_spec.specs.Cycle.{Machines}
use Rattle.cycle_lists.specs.Lists.{Each}
use Rattle.cycle_lists.proofs.Tests.{and-left, and-right, and-both, not-both, same-some}
use Rattle.cycle_lists.proofs.Every.{each, Each-from, Each-at}
use Rattle.cycle_lists.proofs.Filters.{filter-append, filter-all, filter-none}
use Rattle.cycle_paired.specs.Paired.{is_live, live_entries, is_live_use, IsEntry, IsUse, Paired}
use Rattle.cycle_paired.proofs.Facts.{accepted-some, ready-live}
use Rattle.cycle_paired.proofs.Lasting.{carried-at}
use Rattle.trace_laws.proofs.CoreRules.{each_live}
use Rattle.engine_history.specs.Lives.{Life, Answer, new_life, is_of, is_accepted, is_killed, is_released, latest, start_of, starts, lives_of, lives_with}
use Rattle.engine_history.specs.Channels.{is_for}
use Rattle.engine_history.specs.Told.{is_ready, ready_cycle, latest_uses, whole_uses}
use Rattle.engine_history.proofs.Keep.{Rising, rising}
use Rattle.engine_history.proofs.Ready.{ready_is}
use Rattle.engine_history.proofs.Cycle.{latest_below}
use Rattle.engine_history.proofs.Offered.{EachAt}
use Rattle.engine_history.proofs.Units.{IsAnswer, AllAnswers}
use Rattle.cycle_history.specs.Uses.{is_kept}
use Rattle.cycle_history.proofs.Change.{latest-grown}
use Rattle.cycle_history.proofs.Told.{LiveLife, live-released, no-live}
use Rattle.cycle_history.proofs.Results.{Cycle, grow, lives-after, names, finish-other, ResultLife, result-life, each-latest, ready-released}
use Rattle.cycle_history.proofs.Entering.{Seat, Old, New}
use Rattle.cycle_history.proofs.Flying.{life_at}

-- ---- the only use with a start

each-below : (bound : ℕ) (ls : List Life) → Rising bound ls → Each (λ l. l.start < bound) ls
each-below bound [] r = tt
each-below bound (l ∷ ls) r = (r.0, Each-from (λ y. y.start < l.start) (λ y. y.start < bound) ls (λ y h. let k = r.0 in omega (arith, h, k)) (each-below l.start ls r.1))

only-start : (key : Key) (bound : ℕ) (ls : List Life) (x : Life) → Rising bound ls → latest key ls ≡ Some x → Each (λ l. l.start ≡ x.start → l ≡ x) ls
only-start key bound [] x r q = tt
only-start key bound (l ∷ ls) x r q = go (is_of key l) q (λ k. only-start key l.start ls x r.1 k)
  where
    some-is : (l x : Life) → Some l ≡ Some x → l ≡ x
    some-is l x h = cc

    go : (t : Bool) → (if t then Some l else latest key ls) ≡ Some x → (latest key ls ≡ Some x → Each (λ l. l.start ≡ x.start → l ≡ x) ls) → (l.start ≡ x.start → l ≡ x) × Each (λ l. l.start ≡ x.start → l ≡ x) ls
    go true q ih =
        let same = some-is l x q in
        (λ s. same, Each-from (λ y. y.start < l.start) (λ y. y.start ≡ x.start → y ≡ x) ls (λ y h s. absurd (let z : l.start ≡ x.start = ap (λ (v : Life). v.start) same in omega (arith, h, s, z))) (each-below l.start ls r.1))
    go false q ih = let low = latest_below key l.start ls x r.1 q in (λ s. absurd (omega (arith, low, s)), ih q)

only-with : (session : List Bus) (b : Bus) (key : Key) (x : Life) → latest key (lives_of session) ≡ Some x → Each (λ l. l.start ≡ x.start → l ≡ x) (lives_with session b)
only-with session b key x q = go (starts (last_bus session) b (lives_of session))
  where
    go : (t : Bool) → Each (λ l. l.start ≡ x.start → l ≡ x) (if t then new_life (issue_key b) (length session) b.issue_instr ∷ lives_of session else lives_of session)
    go true = (λ s. absurd (let low = latest_below key (length session) (lives_of session) x (rising session) q in omega (arith, low, s)), only-start key (length session) (lives_of session) x (rising session) q)
    go false = only-start key (length session) (lives_of session) x (rising session) q

-- ---- what is finished is kept

ready-accepted : (l : Life) (older : List Life) → is_ready l older ≡ true → is_accepted l ≡ true
ready-accepted l older h = go (ready_cycle l older) refl h
  where
    go : (o : Option ℕ) → ready_cycle l older ≡ o → is_some o ≡ true → is_accepted l ≡ true
    go None q h = cc
    go (Some m) q h = and-left (is_accepted l) (not (is_killed l)) (and-right (l.key.hart == l.key.hart) (is_accepted l && not (is_killed l)) (ready_is l older m q).counts_is)

abbrev Ended : Life → List Life → Type 0
Ended x xs = is_some x.finish ≡ true → is_ready x xs ≡ true

ended-kept : (ls : List Life) → EachAt Ended ls → Each (λ l. is_some l.finish ≡ true → is_kept l ≡ true) ls
ended-kept [] h = tt
ended-kept (l ∷ ls) h = (λ f. and-both (is_accepted l) (is_released l) (ready-accepted l ls (h.0 f)) (ready-released l ls (h.0 f)), ended-kept ls h.1)

with-ended : (session : List Bus) (b : Bus) → Each (λ l. is_some l.finish ≡ true → is_kept l ≡ true) (lives_of session) → Each (λ l. is_some l.finish ≡ true → is_kept l ≡ true) (lives_with session b)
with-ended session b h = go (starts (last_bus session) b (lives_of session))
  where
    go : (t : Bool) → Each (λ l. is_some l.finish ≡ true → is_kept l ≡ true) (if t then new_life (issue_key b) (length session) b.issue_instr ∷ lives_of session else lives_of session)
    go true = (λ f. cc, h)
    go false = h

result-kept : (params : Params) (set : List UnitTable) (session : List Bus) (b : Bus) (e : Engine) (r : ResultLife params set session b e) → is_kept r.life ≡ true
result-kept params set session b e r = and-both (is_accepted r.life) (is_released r.life) r.accepted r.released

pub finished-kept : (params : Params) (set : List UnitTable) (session : List Bus) (b : Bus) (e : Engine) → Cycle params set session b e → Each (λ l. is_some (grow session b l).finish ≡ true → is_kept l ≡ true) (lives_with session b)
finished-kept params set session b e c =
    go (is_taken b) refl (with-ended session b (ended-kept (lives_of session) c.both.kept_is.ended))
  where
    other : (l : Life) → names session b l ≡ false → (is_some l.finish ≡ true → is_kept l ≡ true) → is_some (grow session b l).finish ≡ true → is_kept l ≡ true
    other l n h f = h (sym (ap is_some (finish-other session b l n)) ∙ f)

    go : (t : Bool) → is_taken b ≡ t → Each (λ l. is_some l.finish ≡ true → is_kept l ≡ true) (lives_with session b) → Each (λ l. is_some (grow session b l).finish ≡ true → is_kept l ≡ true) (lives_with session b)
    go false q h = Each-from (λ l. is_some l.finish ≡ true → is_kept l ≡ true) (λ l. is_some (grow session b l).finish ≡ true → is_kept l ≡ true) (lives_with session b) (λ l k f. other l (ap (λ t. t && is_for l.start (start_of (result_key b) (lives_with session b))) q) k f) h
    go true q h =
        let r = result-life params set session b e c q in
        let only = only-with session b r.use'.key r.life r.latest_is in
        Rattle.cycle_lists.proofs.Every.Each-both (λ l. is_some l.finish ≡ true → is_kept l ≡ true) (λ l. l.start ≡ r.life.start → l ≡ r.life) (λ l. is_some (grow session b l).finish ≡ true → is_kept l ≡ true) (lives_with session b)
        (λ l k o f. one r l k o f (names session b l) refl) h only
      where
        one : (r : ResultLife params set session b e) (l : Life) → (is_some l.finish ≡ true → is_kept l ≡ true) → (l.start ≡ r.life.start → l ≡ r.life) → is_some (grow session b l).finish ≡ true → (n : Bool) → names session b l ≡ n → is_kept l ≡ true
        one r l k o f true n =
            let same : l ≡ r.life = o (sym (eqb-true r.life.start l.start (sym (ap (is_for l.start) r.named) ∙ and-right (is_taken b) (is_for l.start (start_of (result_key b) (lives_with session b))) n))) in
            ap is_kept same ∙ result-kept params set session b e r
        one r l k o f false n = other l n k f

-- ---- the entry of a result

-- the use whose result is offered is one of the core's
pub result-key : (x : Extension) (session : List Bus) (b : Bus) (m : Machines) (k : Paired 0 m) (r : ResultLife x.params x.set session b m.engine) (id : ℕ) → b.result_id ≡ id → r.use'.key ≡ record { hart = 0; id = id }
result-key x session b m k r id h =
    let en = m.engine in
    let own = carried-at en.result_waiting en.script.result en.cycle en.uses r.use' k.results r.offered in
    let v = own.carried in
    let is_use = Each-at (IsUse k.answered) en.uses own.front v own.back own.here k.uses in
    let live = ready-live k.answered v is_use own.ready own.unfinished in
    let harts = each_live 0 m k (λ e. ⊤) (λ u. u.key.hart ≡ 0) (λ e u a t. a.hart_is) (each (λ e. ⊤) (live_entries m.core.flight) (λ e. tt)) in
    let hart : v.key.hart ≡ 0 = Each-at (λ u. is_live_use k.answered u ≡ true → u.key.hart ≡ 0) en.uses own.front v own.back own.here harts live in
    key-of r.use'.key (ap (λ (q : Key). q.hart) (sym own.key) ∙ hart) (ap (λ (q : Key). q.id) (sym r.key_is) ∙ h)
  where
    key-of : (q : Key) → q.hart ≡ 0 → q.id ≡ id → q ≡ record { hart = 0; id = id }
    key-of q a c = ap (λ z. record { hart = z; id = q.id }) a ∙ ap (λ z. record { hart = 0; id = z }) c

-- its latest use, with the one that starts, is the one that ends
pub result-own : (params : Params) (set : List UnitTable) (session : List Bus) (b : Bus) (e : Engine) (r : ResultLife params set session b e) (id : ℕ) (l : Life) → r.use'.key ≡ record { hart = 0; id = id } → latest (record { hart = 0; id = id }) (lives_with session b) ≡ Some l → l ≡ r.life
result-own params set session b e r id l key h =
    let named : latest (result_key b) (lives_with session b) ≡ Some l = ap (λ q. latest q (lives_with session b)) (r.key_is ∙ key) ∙ h in
    let start : l.start ≡ r.life.start = some-is l.start r.life.start (sym (ap (option_map (λ (v : Life). v.start)) named) ∙ r.named) in
    each-latest (λ v. v.start ≡ r.life.start → v ≡ r.life) (result_key b) (lives_with session b) l (only-with session b r.use'.key r.life r.latest_is) named start
  where
    some-is : (a c : ℕ) → Some a ≡ Some c → a ≡ c
    some-is a c h = cc

-- ---- a use that had its result

pub record KeptLife (session : List Bus) (e : Entry) : Type 0 where
  pub life : Life
  pub latest_is : latest (record { hart = 0; id = e.id }) (lives_of session) ≡ Some life
  pub kept : is_kept life ≡ true

pub kept-unkilled : (l : Life) → is_kept l ≡ true → is_killed l ≡ false
kept-unkilled l h = go l.verdict (and-right (is_accepted l) (is_released l) h)
  where
    low : (t : Bool) → not t ≡ true → t ≡ false
    low true h = cc
    low false h = refl

    go : (o : Option Rattle.engine_history.specs.Lives.Verdict) → option_map_or (λ (v : Rattle.engine_history.specs.Lives.Verdict). not v.kill) o false ≡ true → option_map_or (λ (v : Rattle.engine_history.specs.Lives.Verdict). v.kill) o false ≡ false
    go None h = cc
    go (Some v) h = low v.kill h

unaccepted : (l : Life) → l.answer ≡ None → is_kept l ≡ true → ⊥
unaccepted l h k = no (sym (ap (λ o. option_map_or (λ (a : Answer). a.response.accept) o false) h) ∙ and-left (is_accepted l) (is_released l) k)
  where
    no : false ≡ true → ⊥
    no h = cc

pub after-latest : (session : List Bus) (b : Bus) (key : Key) (l : Life) → latest key (lives_with session b) ≡ Some l → latest key (lives_of (b ∷ session)) ≡ Some (grow session b l)
after-latest session b key l h = ap (latest key) (lives-after session b) ∙ latest-grown (length session) b (lives_with session b) key ∙ ap (option_map (grow session b)) h

-- the uses of an instruction that goes
pub gone-killed : (params : Params) (set : List UnitTable) (session : List Bus) (b : Bus) (m : Machines) → Cycle params set session b m.engine → (m' : Machines) (k' : Paired 0 m') → m'.engine.uses ≡ latest_uses (whole_uses params set (lives_of (b ∷ session))) → AllAnswers params set (lives_of (b ∷ session))
    → (e : Entry) (l : Life) → Seat session b e → latest (record { hart = 0; id = e.id }) (lives_with session b) ≡ Some l → is_accepted (grow session b l) ≡ true → IsEntry e → e.released ≡ false → (is_live e ≡ true → LiveLife params set (lives_of session) m.engine.uses e)
    → Each (λ v. v.id ≡ e.id → ⊥) (live_entries m'.core.flight) → is_killed (grow session b l) ≡ true
gone-killed params set session b m c m' k' us answers e l seat at a ok un live none = go (is_killed (grow session b l)) refl
  where
    next : latest (record { hart = 0; id = e.id }) (lives_of (b ∷ session)) ≡ Some (grow session b l)
    next = after-latest session b (record { hart = 0; id = e.id }) l at

    each-answer : (ls : List Life) → AllAnswers params set ls → Each (λ l. IfSome l.answer (IsAnswer params set)) ls
    each-answer [] h = tt
    each-answer (l ∷ ls) h = (h.0, each-answer ls h.1)

    kept-gone : is_kept l ≡ true → Seat session b e → ⊥
    kept-gone k (New h open' q) = unaccepted l (ap (λ (v : Life). v.answer) (same-some (latest (record { hart = 0; id = e.id }) (lives_with session b)) l h.head at q) ∙ h.none) k
    kept-gone k (Old r q) = by e.done refl
      where
        by : (t : Bool) → e.done ≡ t → ⊥
        by true d = not-both e.released un (ok.done_released (ok.answered (accepted-some e.response r)) d)
        by false d =
            let v = live (and-both (is_some e.response) (not e.done) (accepted-some e.response r) (ap not d)) in
            let same : v.life ≡ l = same-some (latest (record { hart = 0; id = e.id }) (lives_of session)) v.life l v.latest_is (sym q ∙ at) in
            not-both (is_released l) (ap is_released (sym same) ∙ live-released params set (lives_of session) m.engine.uses e v ∙ un) (and-right (is_accepted l) (is_released l) k)

    go : (t : Bool) → is_killed (grow session b l) ≡ t → t ≡ true
    go true q = refl
    go false q = absurd (ends (grow session b l).finish refl)
      where
        ends : (o : Option ℕ) → (grow session b l).finish ≡ o → ⊥
        ends None f = no-live params set (lives_of (b ∷ session)) m' k' e.id (grow session b l) us next (each-latest (λ l. IfSome l.answer (IsAnswer params set)) (record { hart = 0; id = e.id }) (lives_of (b ∷ session)) (grow session b l) (each-answer (lives_of (b ∷ session)) answers) next) a q f none
        ends (Some t) f = kept-gone (each-latest (λ l. is_some (grow session b l).finish ≡ true → is_kept l ≡ true) (record { hart = 0; id = e.id }) (lives_with session b) l (finished-kept params set session b m.engine c) at (ap is_some f)) seat

-- ---- the list of both

pub parted : (uk : Life → Bool) (h : Entry → Option Life) (fl K G : List Entry) → fl ≡ K ++ G → Each (λ e. IfSome (h e) (λ l. uk l ≡ true)) K → Each (λ e. IfSome (h e) (λ l. uk l ≡ false)) G → filter uk (filter_map h fl) ≡ filter_map h K
parted uk h fl K G here stay go =
    ap (λ z. filter uk (filter_map h z)) here ∙ ap (filter uk) (filter_map-append h K G) ∙ filter-append uk (filter_map h K) (filter_map h G)
    ∙ ap (λ z. z ++ filter uk (filter_map h G)) (filter-all uk (filter_map h K) (Rattle.cycle_history.proofs.Flying.each-chosen (λ l. uk l ≡ true) h K stay))
    ∙ ap (λ z. filter_map h K ++ z) (filter-none uk (filter_map h G) (Rattle.cycle_history.proofs.Flying.each-chosen (λ l. uk l ≡ false) h G go))
    ∙ append-nil (filter_map h K)
