-- The result handshakes of a session: each is for a released use that had none.
use Rattle.std.proofs.Common.{◌≡◌, ◌<◌, ◌+◌, ◌==◌, ◌&&◌, ◌||◌, not, if◌then◌else◌, ℕ, Bool, true, false, Option, Some, None, IfSome, List, [], ◌∷◌, map, filter, length, refl, sym, ap, ◌∙◌, subst, arith}
use Rattle.std.specs.Prelude.{is_some}
use Rattle.std.specs.Option.{option_map, option_map_or}
use Rattle.std.specs.List.{list_any}
use Rattle.std.proofs.lemmas.Bool.{eq-eqb, ne_eqb}
use Rattle.std.proofs.lemmas.Bool.Decides.{nat_tests}
use Rattle.xif_base.specs.declared.params.Key.{Key}
use Rattle.xif_base.specs.declared.params.Params.{Params}
use Rattle.coproc_config.specs.Set.{UnitTable}
use Rattle.xif_signals.specs.declared.bus.Bus.{Bus}
use Rattle.xif_signals.specs.declared.bus.CopOut.{CopOut}
use Rattle.xif_session.specs.Facts.{issue_key, result_key, is_taken}
use Rattle.xif_session.specs.Uses.{last_bus}
use Rattle.cycle_spec.specs.declared.use_of.Use.{Use}
use Rattle.cycle_spec.specs.Engine as spec
use Rattle.cycle_spec.specs.State.{Engine}
use Rattle.cycle_lists.specs.Lists.{Each}
use Rattle.cycle_lists.proofs.Tests.{and-left, and-right, and-both, not-both, or-left, or-right}
use Rattle.cycle_lists.proofs.Every.{Each-from, Each-at, Each-map}
use Rattle.cycle_lists.proofs.Places.{first-at}
use Rattle.engine_history.specs.Lives.{Life, Answer, Verdict, new_life, is_of, is_accepted, is_killed, is_released, latest, start_of, starts, with_start, lives_of, lives_with, changed}
use Rattle.engine_history.specs.Channels.{is_for}
use Rattle.engine_history.specs.Runs.{cpu_of, cop_of}
use Rattle.engine_history.specs.Told.{is_ready, ready_cycle}
use Rattle.engine_history.proofs.Keep.{Rising, rising, rising_start, head_with}
use Rattle.engine_history.proofs.Ready.{ready_is, complete_released}
use Rattle.engine_history.proofs.Cycle.{latest_below, changed_grown}
use Rattle.engine_history.proofs.Offered.{EachAt, WaitsAt, offered_is, offered_named}
use Rattle.engine_history.proofs.Ordered.{IsOrderlyCycle, IsBoth}
use Rattle.cycle_history.specs.Uses.{Result, results_of, is_result_of, results_for, is_kept, kept_uses}
use Rattle.cycle_history.proofs.Change.{one, Judged, Stays, Comes, Kept, grown, grown-start, grown-verdict, grown-finish, grown-kept, changed-map, with_finish}

-- ---- a cycle of an engine beside an orderly core

pub record Cycle (params : Params) (set : List UnitTable) (session : List Bus) (b : Bus) (e : Engine) : Type 0 where
  pub both : IsBoth params set (length session) (last_bus session) (lives_of session) e
  pub driven : cop_of b ≡ spec.engine_drive e (cpu_of b)
  pub orderly : IsOrderlyCycle params (length session) (last_bus session) b (lives_of session)

-- what the cycle makes of a use
abbrev pub grow : List Bus → Bus → Life → Life
grow session b = grown (length session) b (lives_with session b)

pub lives-after : (session : List Bus) (b : Bus) → lives_of (b ∷ session) ≡ map (grow session b) (lives_with session b)
lives-after session b = changed-map (length session) b (lives_with session b)

pub rising-with : (session : List Bus) (b : Bus) → Rising (length session + 1) (lives_with session b)
rising-with session b = rising_start (length session) (last_bus session) b (lives_of session) (rising session)

pub cycle-grown : (params : Params) (set : List UnitTable) (session : List Bus) (b : Bus) (e : Engine) → Cycle params set session b e
    → Rattle.engine_history.proofs.Grown.Grown (length session) (lives_with session b) (map (grow session b) (lives_with session b))
cycle-grown params set session b e c =
    subst (Rattle.engine_history.proofs.Grown.Grown (length session) (lives_with session b)) (changed-map (length session) b (lives_with session b))
    (changed_grown (length session) (length session + 1) b (lives_with session b) (rising-with session b) (λ v. head_with session b v) c.orderly.once)

pub cycle-kept : (params : Params) (set : List UnitTable) (session : List Bus) (b : Bus) (e : Engine) → Cycle params set session b e → Each (λ l. Kept l (grow session b l)) (lives_with session b)
cycle-kept params set session b e c = grown-kept (length session) (grow session b) (lives_with session b) (cycle-grown params set session b e c)

-- ---- results of a use

pub results-start : (l n : Life) (session : List Bus) → l.start ≡ n.start → results_for l session ≡ results_for n session
results-start l n session h = ap (λ s. filter (λ (r : Result). is_for s r.owner) (results_of session)) h

abbrev pub names : List Bus → Bus → Life → Bool
names session b l = is_taken b && is_for l.start (start_of (result_key b) (lives_with session b))

abbrev pub result_on : List Bus → Bus → Result
result_on session b = record { owner = start_of (result_key b) (lives_with session b); bus = b }

pub results-on : (l : Life) (session : List Bus) (b : Bus) → results_for l (b ∷ session) ≡ (if names session b l then result_on session b ∷ results_for l session else results_for l session)
results-on l session b = go (is_taken b)
  where
    go : (t : Bool) → filter (is_result_of l) (if t then result_on session b ∷ results_of session else results_of session)
        ≡ (if t && is_for l.start (start_of (result_key b) (lives_with session b)) then result_on session b ∷ results_for l session else results_for l session)
    go true = refl
    go false = refl

turned : (a b : ℕ) → (a == b) ≡ (b == a)
turned a b = grind (arith, nat_tests)

-- the use that it names is finished by it, and each other one stays
pub finish-named : (session : List Bus) (b : Bus) (l : Life) → names session b l ≡ true → (grow session b l).finish ≡ Some (length session)
unfolding with_finish
finish-named session b l h = grown-finish (length session) b (lives_with session b) l ∙ go (is_taken b) (start_of (result_key b) (lives_with session b)) h
  where
    by : (t : Bool) → t ≡ true → (Rattle.engine_history.specs.Lives.change_if t (with_finish (length session)) l).finish ≡ Some (length session)
    by true h = refl
    by false h = cc

    go : (t : Bool) (o : Option ℕ) → (t && is_for l.start o) ≡ true → (one t o (with_finish (length session)) l).finish ≡ Some (length session)
    go false o h = cc
    go true None h = cc
    go true (Some s) h = by (l.start == s) (turned l.start s ∙ h)

pub finish-other : (session : List Bus) (b : Bus) (l : Life) → names session b l ≡ false → (grow session b l).finish ≡ l.finish
unfolding with_finish
finish-other session b l h = grown-finish (length session) b (lives_with session b) l ∙ go (is_taken b) (start_of (result_key b) (lives_with session b)) h
  where
    by : (t : Bool) → t ≡ false → (Rattle.engine_history.specs.Lives.change_if t (with_finish (length session)) l).finish ≡ l.finish
    by true h = cc
    by false h = refl

    go : (t : Bool) (o : Option ℕ) → (t && is_for l.start o) ≡ false → (one t o (with_finish (length session)) l).finish ≡ l.finish
    go false o h = refl
    go true None h = refl
    go true (Some s) h = by (l.start == s) (turned l.start s ∙ h)

-- ---- a use that isn't finished had none

owners-below : (session : List Bus) → Each (λ (r : Result). IfSome r.owner (λ s. s < length session)) (results_of session)
owners-below [] = tt
owners-below (b ∷ session) = go (is_taken b) (Each-from (λ (r : Result). IfSome r.owner (λ s. s < length session)) (λ (r : Result). IfSome r.owner (λ s. s < length (b ∷ session))) (results_of session) up (owners-below session))
  where
    up : (r : Result) → IfSome r.owner (λ s. s < length session) → IfSome r.owner (λ s. s < length (b ∷ session))
    up r h = by r.owner h
      where
        by : (o : Option ℕ) → IfSome o (λ s. s < length session) → IfSome o (λ s. s < length (b ∷ session))
        by None h = tt
        by (Some s) h = omega (arith, h)

    owner : (o : Option Life) → latest (result_key b) (lives_with session b) ≡ o → IfSome (option_map (λ (l : Life). l.start) o) (λ s. s < length (b ∷ session))
    owner None h = tt
    owner (Some l) h = let x = latest_below (result_key b) (length session + 1) (lives_with session b) l (rising-with session b) h in omega (arith, x)

    go : (t : Bool) → Each (λ (r : Result). IfSome r.owner (λ s. s < length (b ∷ session))) (results_of session) → Each (λ (r : Result). IfSome r.owner (λ s. s < length (b ∷ session))) (if t then result_on session b ∷ results_of session else results_of session)
    go true older = (owner (latest (result_key b) (lives_with session b)) refl, older)
    go false older = older

none-above : (s : ℕ) (rs : List Result) → Each (λ (r : Result). IfSome r.owner (λ k. k < s)) rs → filter (λ (r : Result). is_for s r.owner) rs ≡ []
none-above s [] h = refl
none-above s (r ∷ rs) h = ap (λ t. if t then r ∷ filter (λ (r : Result). is_for s r.owner) rs else filter (λ (r : Result). is_for s r.owner) rs) (go r.owner h.0) ∙ none-above s rs h.1
  where
    go : (o : Option ℕ) → IfSome o (λ k. k < s) → is_for s o ≡ false
    go None h = refl
    go (Some k) h = ne_eqb k s (λ q. absurd (omega (arith, h, q)))

abbrev pub HasNoResult : List Bus → Life → Type 0
HasNoResult session l = l.finish ≡ None → results_for l session ≡ []

-- with the use that starts in the next cycle
with-none : (session : List Bus) (b : Bus) → Each (HasNoResult session) (lives_of session) → Each (HasNoResult session) (lives_with session b)
with-none session b h = go (starts (last_bus session) b (lives_of session))
  where
    go : (t : Bool) → Each (HasNoResult session) (if t then new_life (issue_key b) (length session) b.issue_instr ∷ lives_of session else lives_of session)
    go true = (λ q. none-above (length session) (results_of session) (owners-below session), h)
    go false = h

pub unfinished-none : (session : List Bus) → Each (HasNoResult session) (lives_of session)
unfinished-none [] = tt
unfinished-none (b ∷ session) =
    subst (Each (HasNoResult (b ∷ session))) (sym (lives-after session b))
    (Each-map (HasNoResult session) (HasNoResult (b ∷ session)) (grow session b) (lives_with session b) (λ l h q. by l h q (names session b l) refl) (with-none session b (unfinished-none session)))
  where
    some-none : (n : ℕ) → Some n ≡ None → ⊥
    some-none n h = cc

    by : (l : Life) → HasNoResult session l → (grow session b l).finish ≡ None → (t : Bool) → names session b l ≡ t → results_for (grow session b l) (b ∷ session) ≡ []
    by l h q true n = absurd (some-none (length session) (sym (finish-named session b l n) ∙ q))
    by l h q false n =
        results-start (grow session b l) l (b ∷ session) (grown-start (length session) b (lives_with session b) l) ∙ results-on l session b
        ∙ ap (λ t. if t then result_on session b ∷ results_for l session else results_for l session) n ∙ h (sym (finish-other session b l n) ∙ q)

-- ---- the use that a result handshake names

pub record ResultLife (params : Params) (set : List UnitTable) (session : List Bus) (b : Bus) (e : Engine) : Type 0 where
  pub use' : Use
  pub offered : spec.offered_use e ≡ Some use'
  pub key_is : result_key b ≡ use'.key
  pub life : Life
  pub latest_is : latest use'.key (lives_of session) ≡ Some life
  pub named : start_of (result_key b) (lives_with session b) ≡ Some life.start
  pub unfinished : life.finish ≡ None
  pub accepted : is_accepted life ≡ true
  pub released : is_released life ≡ true

record Older (P : Life → List Life → Type 0) (l : Life) : Type 0 where
  older : List Life
  holds : P l older

at-latest : (P : Life → List Life → Type 0) (key : Key) (ls : List Life) (l : Life) → EachAt P ls → latest key ls ≡ Some l → Older P l
at-latest P key [] l h q = cc
at-latest P key (x ∷ ls) l h q = go (is_of key x) q (λ k. at-latest P key ls l h.1 k)
  where
    some-is : (x l : Life) → Some x ≡ Some l → x ≡ l
    some-is x l q = cc

    go : (t : Bool) → (if t then Some x else latest key ls) ≡ Some l → (latest key ls ≡ Some l → Older P l) → Older P l
    go true q ih = subst (Older P) (some-is x l q) (record { older = ls; holds = h.0 })
    go false q ih = ih q

pub ready-released : (l : Life) (older : List Life) → is_ready l older ≡ true → is_released l ≡ true
ready-released l older h = go (ready_cycle l older) refl h
  where
    go : (o : Option ℕ) → ready_cycle l older ≡ o → is_some o ≡ true → is_released l ≡ true
    go None q h = cc
    go (Some m) q h = let x = (ready_is l older m q).later_are in complete_released l x.one x.one_is

runs-accepted : (a k f : Bool) → (a && not (k || f)) ≡ true → (a ≡ true) × (f ≡ false)
runs-accepted true false false h = (refl, refl)
runs-accepted true false true h = cc
runs-accepted true true f h = cc
runs-accepted false k f h = cc

pub none-is : {A : Type 0} (o : Option A) → is_some o ≡ false → o ≡ None
none-is None h = refl
none-is (Some x) h = cc

pub result-life : (params : Params) (set : List UnitTable) (session : List Bus) (b : Bus) (e : Engine) → Cycle params set session b e → is_taken b ≡ true → ResultLife params set session b e
result-life params set session b e c t = go (spec.offered_use e) refl
  where
    valid : b.result_valid ≡ is_some (spec.offered_use e)
    valid = ap (λ (o : CopOut). o.result_valid) c.driven

    go : (o : Option Use) → spec.offered_use e ≡ o → ResultLife params set session b e
    go None q = absurd (not-both b.result_valid (valid ∙ ap is_some q) (and-left b.result_valid b.result_ready t))
    go (Some u) q =
        let ls = lives_of session in
        let i = offered_is params set (length session) ls e u (rising session) c.both.whole_is.uses_are c.both.whole_is.waits q in
        let key : result_key b ≡ u.key = ap (λ (o : CopOut). record { hart = o.result_hartid; id = o.result_id }) c.driven ∙ ap (λ o. (spec.use_or o).key) q in
        let r = at-latest (WaitsAt u.start) u.key ls i.life i.waits i.latest_is in
        let run = runs-accepted (is_accepted i.life) (is_killed i.life) (is_some i.life.finish) i.runs in
        record {
          use' = u;
          offered = q;
          key_is = key;
          life = i.life;
          latest_is = i.latest_is;
          named = ap (λ k. start_of k (lives_with session b)) key ∙ offered_named params set (length session) (last_bus session) b ls u i c.orderly.free ∙ ap Some (sym i.start_is);
          unfinished = none-is i.life.finish run.1;
          accepted = run.0;
          released = ready-released i.life r.older (r.holds i.start_is).0;
        }

-- a fact of each use, at the latest of a key
pub each-latest : (P : Life → Type 0) (key : Key) (ls : List Life) (l : Life) → Each P ls → latest key ls ≡ Some l → P l
each-latest P key ls l h q = let f = first-at (is_of key) ls l q in Each-at P ls f.older l f.younger f.here h

-- ---- what had its result has no other

pub names-none : (params : Params) (set : List UnitTable) (session : List Bus) (b : Bus) (e : Engine) → Cycle params set session b e → (l : Life) (r : Result) → results_for l session ≡ r ∷ [] → names session b l ≡ false
names-none params set session b e c l r h = go (is_taken b) refl
  where
    cons-nil : (r : Result) (rs : List Result) → r ∷ rs ≡ [] → ⊥
    cons-nil r rs h = cc

    go : (t : Bool) → is_taken b ≡ t → (t && is_for l.start (start_of (result_key b) (lives_with session b))) ≡ false
    go false q = refl
    go true q =
        let x = result-life params set session b e c q in
        let none = each-latest (HasNoResult session) x.use'.key (lives_of session) x.life (unfinished-none session) x.latest_is x.unfinished in
        ap (is_for l.start) x.named ∙ ne_eqb x.life.start l.start (λ same. cons-nil r [] (sym h ∙ results-start l x.life session (sym same) ∙ none))

pub results-stay : (params : Params) (set : List UnitTable) (session : List Bus) (b : Bus) (e : Engine) → Cycle params set session b e → (l : Life) (r : Result) → results_for l session ≡ r ∷ []
    → results_for (grow session b l) (b ∷ session) ≡ r ∷ []
results-stay params set session b e c l r h =
    results-start (grow session b l) l (b ∷ session) (grown-start (length session) b (lives_with session b) l) ∙ results-on l session b
    ∙ ap (λ t. if t then result_on session b ∷ results_for l session else results_for l session) (names-none params set session b e c l r h) ∙ h

-- ---- each result handshake is for a use that is accepted and released

abbrev pub Owned : List Bus → Result → Type 0
Owned session r = list_any (λ l. is_result_of l r) (kept_uses session) ≡ true

pub kept-stays : (session : List Bus) (b : Bus) (l : Life) → Kept l (grow session b l) → is_kept l ≡ true → is_kept (grow session b l) ≡ true
kept-stays session b l k h =
    let n = grow session b l in
    let a = and-left (is_accepted l) (is_released l) h in
    and-both (is_accepted n) (is_released n) (ap (λ o. option_map_or (λ (a : Answer). a.response.accept) o false) (k.answer (some l.answer a)) ∙ a)
    (by (grown-verdict (length session) b (lives_with session b) l) (and-right (is_accepted l) (is_released l) h))
  where
    some : (o : Option Answer) → option_map_or (λ (a : Answer). a.response.accept) o false ≡ true → is_some o ≡ true
    some None h = cc
    some (Some a) h = refl

    none : (o : Option Verdict) → o ≡ None → option_map_or (λ (v : Verdict). not v.kill) o false ≡ true → ⊥
    none None q h = cc
    none (Some v) q h = cc

    by : Judged b.commit_valid b.commit_kill l.verdict (grow session b l).verdict → is_released l ≡ true → is_released (grow session b l) ≡ true
    by (Stays q) r = ap (λ o. option_map_or (λ (v : Verdict). not v.kill) o false) q ∙ r
    by (Comes v was t kill now) r = absurd (none l.verdict was r)

any-on : (test : Life → Bool) (f : Life → Life) (ls : List Life) → ((l : Life) → test (f l) ≡ test l) → Each (λ l. is_kept l ≡ true → is_kept (f l) ≡ true) ls → list_any test (filter is_kept ls) ≡ true → list_any test (filter is_kept (map f ls)) ≡ true
any-on test f [] same k h = h
any-on test f (l ∷ ls) same k h = go (is_kept l) (is_kept (f l)) (test l) k.0 h (any-on test f ls same k.1)
  where
    go : (a c t : Bool) → (a ≡ true → c ≡ true) → list_any test (if a then l ∷ filter is_kept ls else filter is_kept ls) ≡ true → (list_any test (filter is_kept ls) ≡ true → list_any test (filter is_kept (map f ls)) ≡ true)
        → list_any test (if c then f l ∷ filter is_kept (map f ls) else filter is_kept (map f ls)) ≡ true
    go true true t k h ih = more (test l) (test (f l)) (same l) h ih
      where
        more : (t s : Bool) → s ≡ t → (t || list_any test (filter is_kept ls)) ≡ true → (list_any test (filter is_kept ls) ≡ true → list_any test (filter is_kept (map f ls)) ≡ true) → (s || list_any test (filter is_kept (map f ls))) ≡ true
        more true s q h ih = or-left s (list_any test (filter is_kept (map f ls))) q
        more false s q h ih = or-right s (list_any test (filter is_kept (map f ls))) (ih h)
    go true false t k h ih = absurd (let z = k refl in cc)
    go false true t k h ih = or-right (test (f l)) (list_any test (filter is_kept (map f ls))) (ih h)
    go false false t k h ih = ih h

with-kept : (session : List Bus) (b : Bus) → filter is_kept (lives_with session b) ≡ filter is_kept (lives_of session)
with-kept session b = go (starts (last_bus session) b (lives_of session))
  where
    go : (t : Bool) → filter is_kept (if t then new_life (issue_key b) (length session) b.issue_instr ∷ lives_of session else lives_of session) ≡ filter is_kept (lives_of session)
    go true = refl
    go false = refl

-- a use that is kept is found by its start
found-kept : (key : Key) (ls : List Life) (l : Life) (r : Result) → latest key ls ≡ Some l → is_kept l ≡ true → is_result_of l r ≡ true → list_any (λ x. is_result_of x r) (filter is_kept ls) ≡ true
found-kept key [] l r q k t = cc
found-kept key (x ∷ ls) l r q k t = go (is_of key x) q (λ z. found-kept key ls l r z k t)
  where
    some-is : (x l : Life) → Some x ≡ Some l → l ≡ x
    some-is x l q = cc

    here : (a : Bool) → a ≡ true → is_result_of x r ≡ true → list_any (λ x. is_result_of x r) (if a then x ∷ filter is_kept ls else filter is_kept ls) ≡ true
    here true q t = or-left (is_result_of x r) (list_any (λ x. is_result_of x r) (filter is_kept ls)) t
    here false q t = cc

    there : (a : Bool) → list_any (λ x. is_result_of x r) (filter is_kept ls) ≡ true → list_any (λ x. is_result_of x r) (if a then x ∷ filter is_kept ls else filter is_kept ls) ≡ true
    there true h = or-right (is_result_of x r) (list_any (λ x. is_result_of x r) (filter is_kept ls)) h
    there false h = h

    go : (t : Bool) → (if t then Some x else latest key ls) ≡ Some l → (latest key ls ≡ Some l → list_any (λ x. is_result_of x r) (filter is_kept ls) ≡ true) → list_any (λ x. is_result_of x r) (filter is_kept (x ∷ ls)) ≡ true
    go true q ih = let e = some-is x l q in here (is_kept x) (ap is_kept (sym e) ∙ k) (ap (λ z. is_result_of z r) (sym e) ∙ t)
    go false q ih = there (is_kept x) (ih q)

pub owned-on : (params : Params) (set : List UnitTable) (session : List Bus) (b : Bus) (e : Engine) → Cycle params set session b e → Each (Owned session) (results_of session) → Each (Owned (b ∷ session)) (results_of (b ∷ session))
owned-on params set session b e c h = go (is_taken b) refl
  where
    on : (r : Result) → list_any (λ l. is_result_of l r) (filter is_kept (lives_of session)) ≡ true → Owned (b ∷ session) r
    on r k =
        subst (λ ls. list_any (λ l. is_result_of l r) (filter is_kept ls) ≡ true) (sym (lives-after session b))
        (any-on (λ l. is_result_of l r) (grow session b) (lives_with session b) (λ l. ap (λ s. is_for s r.owner) (grown-start (length session) b (lives_with session b) l))
        (Each-from (λ l. Kept l (grow session b l)) (λ l. is_kept l ≡ true → is_kept (grow session b l) ≡ true) (lives_with session b) (λ l k. kept-stays session b l k) (cycle-kept params set session b e c))
        (ap (list_any (λ l. is_result_of l r)) (with-kept session b) ∙ k))

    older : Each (Owned (b ∷ session)) (results_of session)
    older = Each-from (Owned session) (Owned (b ∷ session)) (results_of session) on h

    go : (t : Bool) → is_taken b ≡ t → Each (Owned (b ∷ session)) (if t then result_on session b ∷ results_of session else results_of session)
    go false q = older
    go true q =
        let x = result-life params set session b e c q in (
          on (result_on session b) (found-kept x.use'.key (lives_of session) x.life (result_on session b) x.latest_is (and-both (is_accepted x.life) (is_released x.life) x.accepted x.released)
              (ap (is_for x.life.start) x.named ∙ eq-eqb x.life.start x.life.start refl)),
          older,
        )
