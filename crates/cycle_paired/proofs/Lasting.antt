-- The last steps of a cycle: result, execution, retirement, dispatch, units.
use Rattle.std.proofs.Common.{◌≡◌, ◌<◌, ◌==◌, ◌&&◌, ◌||◌, ◌++◌, ℕ, Bool, true, false, cond, not, List, [], ◌∷◌, map, drop, Option, Some, None, refl, sym, ap, ◌∙◌, subst, arith}
use Rattle.std.specs.Prelude.{find, is_some, IsSome, IfSome}
use Rattle.std.specs.Option.{option_map}
use Rattle.std.proofs.lemmas.Bool.{eqb-true, ne_eqb}
use Rattle.inorder_machine.specs.declared.line.Write.{Write}
use Rattle.inorder_machine.specs.declared.line.Stepped.{Stepped}
use Rattle.inorder_machine.specs.declared.line.Stepped.TheVariants.{Retired, Stop}
use Rattle.xif_drive.specs.Scripts.{delay_of}
use Rattle.cycle_spec.specs.declared.choices.Executed.{Executed}
use Rattle.cycle_spec.specs.declared.entry.Entry.{Entry}
use Rattle.cycle_spec.specs.declared.use_of.Use.{Use}
use Rattle.cycle_spec.specs.Flight.{is_unknown, is_unknown_kind, holds_id, with_result, with_outcome}
use Rattle.cycle_spec.specs.Core.{execute_step, retire_step, entry_at, with_dispatch}
use Rattle.cycle_spec.specs.Engine.{has_start, is_past_ready, is_due, offered_by, use_or, with_end, ended}
use Rattle.cycle_lists.specs.Lists.{Each, Pairs}
use Rattle.cycle_lists.specs.Order.{Before}
use Rattle.cycle_lists.proofs.Tests.{and-left, and-right, not-both, not-in, or-false}
use Rattle.cycle_lists.proofs.Every.{each, Each-append, Each-from, Each-map, Each-map2, Each-at, Pairs-older, Pairs-younger}
use Rattle.cycle_lists.proofs.Places.{first-at}
use Rattle.cycle_paired.specs.Paired.{live_entries, live_uses, Match, IsEntry, Behind, IsUse, Older, open_word, Offers, HasResult}
use Rattle.cycle_paired.proofs.Facts.{Joint, open_word-map, only}
use Rattle.cycle_paired.proofs.Carrying.{Carries}
use Rattle.cycle_paired.proofs.Finishing.{finishing}
use Rattle.cycle_paired.proofs.Executing.{Execs, executing}
use Rattle.cycle_paired.proofs.Applying.{AllReadied, all-below, all-uses, all-older, all-match, all-offers, all-results}
use Rattle.cycle_paired.proofs.Ending.{HeadDone, retiring, open_word-rest, dispatching, open_word-push}
use Rattle.cycle_paired.proofs.Deciding.{Decided}

-- where a cycle has got to after its commit, with what executes, what retires, and the start of the
-- use whose result waits
pub record Late (v : Bool) (s : ℕ) (t : Bool) (hart n id c : ℕ) (answered : ℕ → Bool) (x : Option Executed) (r : Option Entry) (waiting : Option ℕ) (es : List Entry) (us : List Use) : Type 0 where
  pub joint : Joint hart n id c answered es us
  pub execs : IfSome x (λ x. Each (Execs x.entry.seq x.outcome) es)
  pub head : IfSome r (λ e. HeadDone es)
  pub offers : v ≡ true → t ≡ false → Each (Offers answered hart es s) us
  pub results : IfSome waiting (λ start. Each (HasResult start) us)

offers-moved : (answered : ℕ → Bool) (hart s : ℕ) (es fs : List Entry) (us : List Use) → open_word fs ≡ open_word es → Each (Offers answered hart es s) us → Each (Offers answered hart fs s) us
offers-moved answered hart s es fs us e h =
    Each-from (Offers answered hart es s) (Offers answered hart fs s) us (λ u k. record { latest = k.latest; own = λ q. let w = k.own q in record { waits = w.waits; not_released = w.not_released; offered = λ a b. e ∙ w.offered a b } }) h

head-if : (r : Option Entry) (es fs : List Entry) → (HeadDone es → HeadDone fs) → IfSome r (λ e. HeadDone es) → IfSome r (λ e. HeadDone fs)
head-if None es fs f h = tt
head-if (Some e) es fs f h = f h

-- ---- the result that is offered is there

past-some : (delay cycle : ℕ) (r : Option ℕ) → is_past_ready delay cycle r ≡ true → IsSome r
past-some delay cycle None h = cc
past-some delay cycle (Some k) h = refl

pub carried-at : (waiting : Option ℕ) (delays : List ℕ) (cycle : ℕ) (us : List Use) (u : Use) → IfSome waiting (λ start. Each (HasResult start) us) → offered_by waiting delays cycle us ≡ Some u → Carries u us
carried-at None delays cycle us u h e =
    let f = first-at (is_due delays cycle) us u e in
    record {
      front = f.older;
      carried = u;
      back = f.younger;
      here = f.here;
      start = refl;
      key = refl;
      word = refl;
      hit = refl;
      result = refl;
      ready = past-some (delay_of delays u.order) cycle u.ready (and-right (not u.finished) (is_past_ready (delay_of delays u.order) cycle u.ready) f.passes);
      unfinished = not-in u.finished (and-left (not u.finished) (is_past_ready (delay_of delays u.order) cycle u.ready) f.passes);
    }
carried-at (Some s) delays cycle us u h e =
    let f = first-at (has_start s) us u e in
    let q : u.start ≡ s = eqb-true u.start s f.passes in
    let k = Each-at (HasResult s) us f.older u f.younger f.here h in
    record { front = f.older; carried = u; back = f.younger; here = f.here; start = refl; key = refl; word = refl; hit = refl; result = refl; ready = k.ready q; unfinished = k.unfinished q }

-- the only use of its start is the carried one
results-of : (u : Use) (us : List Use) (k : Carries u us) → Pairs Older us → Each (HasResult u.start) us
results-of u us k pairs =
    let v = k.carried in
    let pairs' : Pairs Older (k.front ++ v ∷ k.back) = subst (Pairs Older) k.here pairs in
    subst (Each (HasResult u.start)) (sym k.here)
    (Each-append (HasResult u.start) k.front (v ∷ k.back)
    (Each-from (λ x. Older x v) (HasResult u.start) k.front
    (λ y o. record { ready = λ q. absurd (let l = o.rises in let s = k.start in omega arith); unfinished = λ q. absurd (let l = o.rises in let s = k.start in omega arith) }) (Pairs-older Older k.front v k.back pairs')) (
      record { ready = λ q. k.ready; unfinished = λ q. k.unfinished },
      Each-from (Older v) (HasResult u.start) k.back
          (λ y o. record { ready = λ q. absurd (let l = o.rises in let s = k.start in omega arith); unfinished = λ q. absurd (let l = o.rises in let s = k.start in omega arith) }) (Pairs-younger Older k.front v k.back pairs'),
    ))

-- ---- the result

-- from the commit on
pub late-decided : (v : Bool) (s : ℕ) (t : Bool) (hart n id c : ℕ) (answered : ℕ → Bool) (x : Option Executed) (r : Option Entry) (fl es : List Entry) (us0 us : List Use) → Decided v s t hart n id c answered fl es us0 us
    → IfSome x (λ x. Each (Execs x.entry.seq x.outcome) fl) → IfSome r (λ e. HeadDone fl) → Late v s t hart n id c answered x r None es us
late-decided v s t hart n id c answered x r fl es us0 us k e h = record {
  joint = k.joint;
  execs = moved x e;
  head = head-if r fl es k.head h;
  offers = k.offers;
  results = tt;
}
  where
    moved : (x : Option Executed) → IfSome x (λ x. Each (Execs x.entry.seq x.outcome) fl) → IfSome x (λ x. Each (Execs x.entry.seq x.outcome) es)
    moved None z = tt
    moved (Some y) z = k.execs y.entry.seq y.outcome z

late-waiting : (v : Bool) (s : ℕ) (t : Bool) (hart n id c : ℕ) (answered : ℕ → Bool) (x : Option Executed) (r : Option Entry) (waiting : Option ℕ) (es : List Entry) (us : List Use) → Late v s t hart n id c answered x r None es us
    → IfSome waiting (λ start. Each (HasResult start) us) → Late v s t hart n id c answered x r waiting es us
late-waiting v s t hart n id c answered x r waiting es us l h = record { joint = l.joint; execs = l.execs; head = l.head; offers = l.offers; results = h }

head-result : (s : ℕ) (w : Write) (es : List Entry) → HeadDone es → HeadDone (map (with_result s w) es)
head-result s w [] h = tt
head-result s w (e ∷ es) h = ap (λ b. b || (e.seq == s)) h

result-word : (s : ℕ) (w : Write) (es : List Entry) → open_word (map (with_result s w) es) ≡ open_word es
result-word s w es = open_word-map (with_result s w) es (each _ es (λ x. record { test = refl; id = refl; word = refl }))

exec-result : (k : ℕ) (o : Stepped) (p : Entry) (w : Write) (y : Entry) → is_unknown p ≡ true → Execs k o y → (y.seq ≡ p.seq → y ≡ p) → Execs k o (with_result p.seq w y)
exec-result k o p w y u x one q =
    let e = x q in
    let ne : y.seq ≡ p.seq → ⊥ = λ z. not-both (is_unknown p) (ap is_unknown (sym (one z)) ∙ ap is_unknown_kind e.kind_is) u in
    record { instr = e.instr; kind_is = e.kind_is; not_done = ap (λ b. y.done || b) (ne_eqb y.seq p.seq ne) ∙ or-false y.done ∙ e.not_done; memory = e.memory; at_word = e.at_word; a = e.a; b = e.b; is_it = e.is_it }

execs-result : (p : Entry) (w : Write) (es : List Entry) (x : Option Executed) → is_unknown p ≡ true → Each (λ y. y.seq ≡ p.seq → y ≡ p) es → IfSome x (λ x. Each (Execs x.entry.seq x.outcome) es) → IfSome x (λ x. Each (Execs x.entry.seq x.outcome) (map (with_result p.seq w) es))
execs-result p w es None u l h = tt
execs-result p w es (Some x) u l h =
    Each-map2 (Execs x.entry.seq x.outcome) (λ y. y.seq ≡ p.seq → y ≡ p) (Execs x.entry.seq x.outcome) (with_result p.seq w) es (λ y a b. exec-result x.entry.seq x.outcome p w y u a b) h l

offers-ended : (answered : ℕ → Bool) (hart s k : ℕ) (es : List Entry) (us : List Use) → Each (Offers answered hart es s) us → Each (Offers answered hart es s) (map (with_end k) us)
offers-ended answered hart s k es us h =
    Each-map (Offers answered hart es s) (Offers answered hart es s) (with_end k) us (λ u o. record { latest = o.latest; own = λ q. let w = o.own q in record { waits = w.waits; not_released = w.not_released; offered = w.offered } }) h

-- the entry that an id names is done with what the result writes
abbrev pub result_with : Option Entry → (Entry → Write) → List Entry → List Entry
result_with None w es = es
result_with (Some e) w es = map (with_result e.seq (w e)) es

abbrev pub result_entries : Option Use → (ready : Bool) → (Entry → Write) → List Entry → List Entry
result_entries o ready w es = cond (is_some o && ready) (result_with (find (holds_id (use_or o).key.id) es) w es) es

abbrev pub result_uses : Option Use → (ready : Bool) → List Use → List Use
result_uses o ready us = cond (is_some o && ready) (ended o us) us

abbrev pub waiting_after : Option Use → (ready : Bool) → Option ℕ
waiting_after o ready = cond ready None (option_map (λ u. u.start) o)

taken-result : (v : Bool) (s : ℕ) (t : Bool) (hart n id c : ℕ) (answered : ℕ → Bool) (x : Option Executed) (r : Option Entry) (es : List Entry) (us : List Use) (u : Use) (w : Entry → Write) → Late v s t hart n id c answered x r None es us → Carries u us
    → Late v s t hart n id c answered x r None (result_with (find (holds_id u.key.id) es) w es) (map (with_end u.start) us)
taken-result v s t hart n id c answered x r es us u w l k =
    let f = finishing hart n id c answered u es us k l.joint in
    let p = f.entry in
    let es' = map (with_result p.seq (w p)) es in
    let us' = map (with_end u.start) us in
    let lonely : Each (λ y. y.seq ≡ p.seq → y ≡ p) es = subst (Each (λ y. y.seq ≡ p.seq → y ≡ p)) (sym f.here) (only f.older p f.younger (subst (Pairs Before) f.here l.joint.kept.pairs)) in
    let done : Late v s t hart n id c answered x r None es' us' = record {
      joint = f.joint (w p);
      execs = execs-result p (w p) es x f.alike.unknown lonely l.execs;
      head = head-if r es es' (head-result p.seq (w p) es) l.head;
      offers = λ a b. offers-moved answered hart s es es' us' (result-word p.seq (w p) es) (offers-ended answered hart s u.start es us (l.offers a b));
      results = tt;
    } in
    subst (λ o. Late v s t hart n id c answered x r None (result_with o w es) us') (sym f.found) done

pub late-result : (ready v : Bool) (s : ℕ) (t : Bool) (hart n id c : ℕ) (answered : ℕ → Bool) (x : Option Executed) (r : Option Entry) (es : List Entry) (us : List Use) (o : Option Use) (w : Entry → Write) → Late v s t hart n id c answered x r None es us → IfSome o (λ u. Carries u us)
    → Late v s t hart n id c answered x r (waiting_after o ready) (result_entries o ready w es) (result_uses o ready us)
late-result true v s t hart n id c answered x r es us None w l k = l
late-result false v s t hart n id c answered x r es us None w l k = l
late-result true v s t hart n id c answered x r es us (Some u) w l k = taken-result v s t hart n id c answered x r es us u w l k
late-result false v s t hart n id c answered x r es us (Some u) w l k = late-waiting v s t hart n id c answered x r (Some u.start) es us l (results-of u us k l.joint.older)

-- ---- execution and retirement

head-outcome : (s : ℕ) (o : Stepped) (es : List Entry) → HeadDone es → HeadDone (map (with_outcome s o) es)
head-outcome s o [] h = tt
head-outcome s (Retired line) (e ∷ es) h = ap (λ b. b || (e.seq == s)) h
head-outcome s (Stop cause) (e ∷ es) h = h

outcome-word : (s : ℕ) (o : Stepped) (es : List Entry) → open_word (map (with_outcome s o) es) ≡ open_word es
outcome-word s (Retired line) es = open_word-map (with_outcome s (Retired line)) es (each _ es (λ x. record { test = refl; id = refl; word = refl }))
outcome-word s (Stop cause) es = open_word-map (with_outcome s (Stop cause)) es (each _ es (λ x. record { test = refl; id = refl; word = refl }))

pub late-executed : (v : Bool) (s : ℕ) (t : Bool) (hart n id c : ℕ) (answered : ℕ → Bool) (x : Option Executed) (r : Option Entry) (waiting : Option ℕ) (es : List Entry) (us : List Use) → Late v s t hart n id c answered x r waiting es us → Late v s t hart n id c answered None r waiting (execute_step x es) us
late-executed v s t hart n id c answered None r waiting es us l = record { joint = l.joint; execs = tt; head = l.head; offers = l.offers; results = l.results }
late-executed v s t hart n id c answered (Some x) r waiting es us l =
    let k = x.entry.seq in
    record {
      joint = executing k x.outcome hart n id c answered es us l.execs l.joint;
      execs = tt;
      head = head-if r es (map (with_outcome k x.outcome) es) (head-outcome k x.outcome es) l.head;
      offers = λ a b. offers-moved answered hart s es (map (with_outcome k x.outcome) es) us (outcome-word k x.outcome es) (l.offers a b);
      results = l.results;
    }

pub late-retired : (v : Bool) (s : ℕ) (t : Bool) (hart n id c : ℕ) (answered : ℕ → Bool) (r : Option Entry) (waiting : Option ℕ) (es : List Entry) (us : List Use) → Late v s t hart n id c answered None r waiting es us → Late v s t hart n id c answered None None waiting (retire_step r es) us
late-retired v s t hart n id c answered None waiting es us l = record { joint = l.joint; execs = tt; head = tt; offers = l.offers; results = l.results }
late-retired v s t hart n id c answered (Some r) waiting es us l = record {
  joint = retiring hart n id c answered es us l.head l.joint;
  execs = tt;
  head = tt;
  offers = λ a b. offers-moved answered hart s es (drop 1 es) us (open_word-rest es l.head l.joint.entries) (l.offers a b);
  results = l.results;
}

-- ---- the end of the cycle

pub record Last (v : Bool) (s : ℕ) (t : Bool) (hart c : ℕ) (answered : ℕ → Bool) (waiting : Option ℕ) (es : List Entry) (us : List Use) : Type 0 where
  pub entries : Each IsEntry es
  pub behind : Pairs Behind es
  pub below : Each (λ u. u.start < c) us
  pub uses : Each (IsUse answered) us
  pub older : Pairs Older us
  pub match : Match hart (live_entries es) (live_uses answered us)
  pub offers : v ≡ true → t ≡ false → Each (Offers answered hart es s) us
  pub results : IfSome waiting (λ start. Each (HasResult start) us)

last-applied : (v : Bool) (s : ℕ) (t : Bool) (hart n id c : ℕ) (answered : ℕ → Bool) (waiting : Option ℕ) (es : List Entry) (us vs : List Use) → AllReadied us vs → Late v s t hart n id c answered None None waiting es us → Last v s t hart c answered waiting es vs
last-applied v s t hart n id c answered waiting es us vs a l = record {
  entries = l.joint.entries;
  behind = l.joint.behind;
  below = all-below c us vs a l.joint.below;
  uses = all-uses answered us vs a l.joint.uses;
  older = all-older us vs a l.joint.older;
  match = all-match hart answered (live_entries es) us vs a l.joint.match;
  offers = λ p q. all-offers answered hart es s us vs a (l.offers p q);
  results = results waiting l.results;
}
  where
    results : (o : Option ℕ) → IfSome o (λ start. Each (HasResult start) us) → IfSome o (λ start. Each (HasResult start) vs)
    results None h = tt
    results (Some k) h = all-results k us vs a h

last-pushed : (answer : ℕ → ℕ → ℕ) (n id pc : ℕ) (word : Option ℕ) (b v : Bool) (s : ℕ) (t : Bool) (hart c : ℕ) (answered : ℕ → Bool) (waiting : Option ℕ) (es : List Entry) (us : List Use) → Last v s t hart c answered waiting es us
    → Last v s t hart c answered waiting (with_dispatch (cond b (Some (entry_at answer n id pc word)) None) es) us
last-pushed answer n id pc word false v s t hart c answered waiting es us l = l
last-pushed answer n id pc word true v s t hart c answered waiting es us l =
    let new = entry_at answer n id pc word in
    let p = dispatching answer n id pc word hart answered es us l.entries l.behind l.match in
    record {
      entries = p.entries;
      behind = p.behind;
      below = l.below;
      uses = l.uses;
      older = l.older;
      match = p.match;
      offers = λ a b. Each-from (Offers answered hart es s) (Offers answered hart (es ++ new ∷ []) s) us
          (λ u k. record { latest = k.latest; own = λ q. let w = k.own q in record { waits = w.waits; not_released = w.not_released; offered = λ x y. open_word-push es new (u.key.id, u.word) (w.offered x y) } }) (l.offers a b);
      results = l.results;
    }

pub late-last : (answer : ℕ → ℕ → ℕ) (m new_id pc : ℕ) (word : Option ℕ) (b v : Bool) (s : ℕ) (t : Bool) (hart n id c : ℕ) (answered : ℕ → Bool) (waiting : Option ℕ) (es : List Entry) (us vs : List Use) → AllReadied us vs → Late v s t hart n id c answered None None waiting es us
    → Last v s t hart c answered waiting (with_dispatch (cond b (Some (entry_at answer m new_id pc word)) None) es) vs
late-last answer m new_id pc word b v s t hart n id c answered waiting es us vs a l = last-pushed answer m new_id pc word b v s t hart c answered waiting es vs (last-applied v s t hart n id c answered waiting es us vs a l)
