-- What core and engine keep of themselves in every cycle, beside their pairing.
use Rattle.std.proofs.Common.{◌≡◌, ◌<◌, ◌≤◌, ◌==◌, ◌&&◌, ◌||◌, ◌++◌, ℕ, Bool, true, false, cond, not, List, [], ◌∷◌, map, Option, Some, None, refl, sym, ap, ◌∙◌, subst, arith}
use Rattle.std.specs.Prelude.{find, is_some, nat_le, IfSome, ⊤}
use Rattle.std.proofs.lemmas.Bool.{eqb-true, false≢true}
use Rattle.xif_base.specs.declared.params.Params.{Params}
use Rattle.coproc_config.specs.Set.{UnitTable}
use Rattle.coproc_config.specs.Accept.{hit_of}
use Rattle.inorder_machine.specs.declared.line.Stepped.{Stepped}
use Rattle.inorder_machine.specs.declared.line.Stepped.TheVariants.{Retired, Stop}
use Rattle.inorder_machine.specs.declared.stop.StopCause.{StopCause}
use Rattle.inorder_machine.specs.declared.stop.StopCause.TheVariants.{Illegal}
use Rattle.xif_signals.specs.declared.bus.Bus.{Bus}
use Rattle.xif_session.specs.Facts.{is_issued, is_given, is_taken, is_accepted, is_refused, response_on}
use Rattle.cycle_spec.specs.declared.choices.Choices.{Choices}
use Rattle.cycle_spec.specs.declared.choices.Executed.{Executed}
use Rattle.cycle_spec.specs.declared.choices.Presented.{Presented}
use Rattle.cycle_spec.specs.declared.entry.Entry.{Entry}
use Rattle.cycle_spec.specs.declared.entry.EntryKind.{EntryKind}
use Rattle.cycle_spec.specs.declared.entry.EntryKind.TheVariants.{Local, Unknown, Nowhere}
use Rattle.cycle_spec.specs.declared.log.Cut.{Cut}
use Rattle.cycle_spec.specs.Flight.{holds_id, is_open, is_stopping, is_safe, with_response, with_sent, with_release, with_result, with_outcome, kind_at, stop_by}
use Rattle.cycle_spec.specs.Core.{response_on_offer, response_step, sent_on_present, sent_step, release_step, cut_step, drain_step, result_for, result_step, execute_step, retire_step, sent_entries, kept_entries, settled_entries, with_dispatch, entry_at}
use Rattle.cycle_lists.specs.Lists.{Each, Pairs, FirstAt}
use Rattle.cycle_lists.specs.Order.{Before}
use Rattle.cycle_lists.proofs.Tests.{and-left, not-both, or-left, or-right, or-cases, and-both, le-in, le-out}
use Rattle.cycle_lists.proofs.Every.{Each-map, Each-map2, Each-take, Each-drop, Each-push, Pairs-map, Pairs-map1, Pairs-take, Pairs-drop, Pairs-push, Pairs-both, each}
use Rattle.cycle_paired.specs.Paired.{response_of, Behind}
use Rattle.cycle_paired.proofs.Facts.{only, open-unsafe}
use Rattle.pace_laws.proofs.Steps.{Goes, goes-sent, goes-release, goes-result, goes-outcome}

-- ---- one entry

-- a word nowhere and a refused one stop the machine, and a response is that of the units
pub record IsSteady (set : List UnitTable) (p : Params) (e : Entry) : Type 0 where
  pub nowhere : e.kind ≡ Nowhere → is_stopping e ≡ true
  pub refused : is_refused e.response ≡ true → is_stopping e ≡ true
  pub answer : IfSome e.response (λ r. r ≡ response_of (hit_of set p e.word))

steady-goes : (set : List UnitTable) (p : Params) (e f : Entry) → Goes e f → IsSteady set p e → IsSteady set p f
steady-goes set p e f g s = record {
  nowhere = λ k. g.stopping (s.nowhere (sym g.kind ∙ k));
  refused = λ r. g.stopping (s.refused (ap is_refused (sym g.response) ∙ r));
  answer = subst (λ o. IfSome o (λ r. r ≡ response_of (hit_of set p f.word))) (sym g.response) (subst (λ w. IfSome e.response (λ r. r ≡ response_of (hit_of set p w))) (sym g.word) s.answer);
}

-- ---- of each entry, through the steps behind the answer

each-mapped : (P : Entry → Type 0) (g : Entry → Entry) (es : List Entry) → ((e f : Entry) → Goes e f → P e → P f) → ((e : Entry) → Goes e (g e)) → Each P es → Each P (map g es)
each-mapped P g es k l h = Each-map P P g es (λ e p. k e (g e) (l e) p) h

pub each-sent : (P : Entry → Type 0) (present : Option Presented) (b : Bus) (es : List Entry) → ((e f : Entry) → Goes e f → P e → P f) → Each P es → Each P (sent_step present b es)
each-sent P present b es k h = go (is_given b) present
  where
    go : (t : Bool) (o : Option Presented) → Each P (cond t (sent_on_present o es) es)
    go false o = h
    go true None = h
    go true (Some x) = each-mapped P (with_sent x.entry.seq) es k (goes-sent x.entry.seq) h

each-released : (P : Entry → Type 0) (o : Option Entry) (es : List Entry) → ((e f : Entry) → Goes e f → P e → P f) → Each P es → Each P (release_step o es)
each-released P None es k h = h
each-released P (Some p) es k h = each-mapped P (with_release p.seq) es k (goes-release p.seq) h

each-cut : (P : Entry → Type 0) (o : Option Cut) (es : List Entry) → Each P es → Each P (cut_step o es)
each-cut P None es h = h
each-cut P (Some c) es h = Each-take P c.keep es h

each-drained : (P : Entry → Type 0) (o : Option ℕ) (es : List Entry) → Each P es → Each P (drain_step o es)
each-drained P None es h = h
each-drained P (Some k) es h = Each-take P k es h

each-result : (P : Entry → Type 0) (b : Bus) (es : List Entry) → ((e f : Entry) → Goes e f → P e → P f) → Each P es → Each P (result_step b es)
each-result P b es k h = go (is_taken b) (find (holds_id b.result_id) es)
  where
    go : (t : Bool) (o : Option Entry) → Each P (cond t (result_for o b es) es)
    go false o = h
    go true None = h
    go true (Some p) = each-mapped P (with_result p.seq _) es k (goes-result p.seq _) h

each-executed : (P : Entry → Type 0) (o : Option Executed) (es : List Entry) → ((e f : Entry) → Goes e f → P e → P f) → Each P es → Each P (execute_step o es)
each-executed P None es k h = h
each-executed P (Some x) es k h = each-mapped P (with_outcome x.entry.seq x.outcome) es k (goes-outcome x.entry.seq x.outcome) h

each-retired : (P : Entry → Type 0) (o : Option Entry) (es : List Entry) → Each P es → Each P (retire_step o es)
each-retired P None es h = h
each-retired P (Some e) es h = Each-drop P 1 es h

-- from the handshake of the registers on
pub each-late : (P : Entry → Type 0) (ch : Choices) (b : Bus) (es : List Entry) → ((e f : Entry) → Goes e f → P e → P f) → Each P (sent_entries ch b es) → Each P (settled_entries ch b es)
each-late P ch b es k h =
    each-retired P ch.retire _ (each-executed P ch.execute _ k (each-result P b _ k (each-drained P ch.drain _ (each-cut P ch.cut _ (each-released P ch.release _ k h)))))

-- ---- the answer

-- the bus has the units' answer to the word that is offered
pub record AnswersFor (set : List UnitTable) (p : Params) (offer : Option Entry) (b : Bus) : Type 0 where
  pub answer : (e : Entry) → offer ≡ Some e → is_issued b ≡ true → response_on b ≡ response_of (hit_of set p e.word)

steady-answered : (set : List UnitTable) (p : Params) (offer : Option Entry) (b : Bus) (es : List Entry) → AnswersFor set p offer b → IfSome offer (FirstAt is_open es) → Pairs Before es → Each (IsSteady set p) es → Each (IsSteady set p) (response_step offer b es)
steady-answered set p offer b es a f pairs h = go (is_issued b) offer refl refl f
  where
    one : (e : Entry) → response_on b ≡ response_of (hit_of set p e.word) → (x : Entry) → IsSteady set p x → (x.seq ≡ e.seq → x ≡ e) → IsSteady set p (with_response e.seq (response_on b) x)
    one e r x s q = by (x.seq == e.seq) refl
      where
        by : (t : Bool) → (x.seq == e.seq) ≡ t → IsSteady set p (record x { response = cond t (Some (response_on b)) x.response; stop = cond (t && not (response_on b).accept) (Some Illegal) x.stop })
        by false n = record { nowhere = s.nowhere; refused = s.refused; answer = s.answer }
        by true y =
            let same = q (eqb-true x.seq e.seq y) in
            record {
              nowhere = λ k. stops ((response_on b).accept) x.stop (s.nowhere k);
              refused = λ k. refuses ((response_on b).accept) x.stop k;
              answer = r ∙ ap (λ z. response_of (hit_of set p z.word)) (sym same);
            }
          where
            stops : (c : Bool) (o : Option StopCause) → is_some o ≡ true → is_some (cond (not c) (Some Illegal) o) ≡ true
            stops true o k = k
            stops false o k = refl

            refuses : (c : Bool) (o : Option StopCause) → not c ≡ true → is_some (cond (not c) (Some Illegal) o) ≡ true
            refuses true o k = cc
            refuses false o k = refl

    go : (t : Bool) (o : Option Entry) → is_issued b ≡ t → offer ≡ o → IfSome o (FirstAt is_open es) → Each (IsSteady set p) (cond t (response_on_offer o b es) es)
    go false o i q f = h
    go true None i q f = h
    go true (Some e) i q f =
        Each-map2 (IsSteady set p) (λ x. x.seq ≡ e.seq → x ≡ e) (IsSteady set p) (with_response e.seq (response_on b)) es (one e (a.answer e q i)) h
        (subst (Each (λ x. x.seq ≡ e.seq → x ≡ e)) (sym f.here) (only f.older e f.younger (subst (Pairs Before) f.here pairs)))

new-steady : (set : List UnitTable) (p : Params) (answer : ℕ → ℕ → ℕ) (n id pc : ℕ) (word : Option ℕ) → IsSteady set p (entry_at answer n id pc word)
new-steady set p answer n id pc None = record { nowhere = λ k. refl; refused = λ r. cc; answer = tt }
new-steady set p answer n id pc (Some w) = record { nowhere = λ k. nowhere (kind_at (Some w)) k; refused = λ r. cc; answer = tt }
  where
    nowhere : (k : EntryKind) → k ≡ Nowhere → is_some (stop_by k) ≡ true
    nowhere (Local i) q = cc
    nowhere Unknown q = cc
    nowhere Nowhere q = refl

pub steady-settled : (set : List UnitTable) (p : Params) (ch : Choices) (b : Bus) (es : List Entry) → AnswersFor set p ch.offer b → IfSome ch.offer (FirstAt is_open es) → Pairs Before es → Each (IsSteady set p) es → Each (IsSteady set p) (settled_entries ch b es)
steady-settled set p ch b es a f pairs h =
    each-late (IsSteady set p) ch b es (steady-goes set p) (each-sent (IsSteady set p) ch.present b _ (steady-goes set p) (steady-answered set p ch.offer b es a f pairs h))

pub steady-pushed : (set : List UnitTable) (p : Params) (answer : ℕ → ℕ → ℕ) (n id pc : ℕ) (word : Option ℕ) (t : Bool) (es : List Entry) → Each (IsSteady set p) es → Each (IsSteady set p) (with_dispatch (cond t (Some (entry_at answer n id pc word)) None) es)
steady-pushed set p answer n id pc word false es h = h
steady-pushed set p answer n id pc word true es h = Each-push (IsSteady set p) es (entry_at answer n id pc word) h (new-steady set p answer n id pc word)

-- ---- releases are in order

-- a released use and an older one
abbrev pub Shields : Entry → Entry → Type 0
Shields x y = y.released ≡ true → is_accepted x.response ≡ true → x.released ≡ true

shields-mapped : (g : Entry → Entry) (es : List Entry) → ((e : Entry) → (g e).released ≡ e.released) → ((e : Entry) → (g e).response ≡ e.response) → Pairs Shields es → Pairs Shields (map g es)
shields-mapped g es r a h = Pairs-map Shields g es (λ x y s i j. r x ∙ s (sym (r y) ∙ i) (ap is_accepted (sym (a x)) ∙ j)) h

-- An older entry is safe where a use is released, and so it has had its answer.
shields-answered : (offer : Option Entry) (b : Bus) (es : List Entry) → IfSome offer (FirstAt is_open es) → Pairs Before es → Pairs Behind es → Pairs Shields es → Pairs Shields (response_step offer b es)
shields-answered offer b es f pairs behind h = go (is_issued b) offer f
  where
    one : (e : Entry) → is_open e ≡ true → (x y : Entry) → (x.seq ≡ e.seq → x ≡ e) → Behind x y × Shields x y → Shields (with_response e.seq (response_on b) x) (with_response e.seq (response_on b) y)
    one e o x y q s i j = by (x.seq == e.seq) refl j
      where
        by : (t : Bool) → (x.seq == e.seq) ≡ t → is_accepted (cond t (Some (response_on b)) x.response) ≡ true → x.released ≡ true
        by false n k = s.1 i k
        by true n k = absurd (not-both (is_safe x) (ap is_safe (q (eqb-true x.seq e.seq n)) ∙ open-unsafe e o) (s.0.safe i))

    go : (t : Bool) (o : Option Entry) → IfSome o (FirstAt is_open es) → Pairs Shields (cond t (response_on_offer o b es) es)
    go false o f = h
    go true None f = h
    go true (Some e) f =
        Pairs-map1 (λ x y. Behind x y × Shields x y) Shields (λ x. x.seq ≡ e.seq → x ≡ e) (with_response e.seq (response_on b)) es (λ x y p q s. one e f.passes x y p s)
        (subst (Each (λ x. x.seq ≡ e.seq → x ≡ e)) (sym f.here) (only f.older e f.younger (subst (Pairs Before) f.here pairs))) (Pairs-both Behind Shields (λ x y. Behind x y × Shields x y) es (λ x y a c. (a, c)) behind h)

shields-sent : (present : Option Presented) (b : Bus) (es : List Entry) → Pairs Shields es → Pairs Shields (sent_step present b es)
shields-sent present b es h = go (is_given b) present
  where
    go : (t : Bool) (o : Option Presented) → Pairs Shields (cond t (sent_on_present o es) es)
    go false o = h
    go true None = h
    go true (Some x) = shields-mapped (with_sent x.entry.seq) es (λ e. refl) (λ e. refl) h

release-one : (k : ℕ) (x y : Entry) → Before x y → Shields x y → Shields (with_release k x) (with_release k y)
release-one k x y b s i a = or-cases y.released (nat_le y.seq k && is_accepted y.response) ((x.released || (nat_le x.seq k && is_accepted x.response)) ≡ true) i
    (λ r. or-left x.released (nat_le x.seq k && is_accepted x.response) (s r a))
    (λ r. or-right x.released (nat_le x.seq k && is_accepted x.response) (and-both (nat_le x.seq k) (is_accepted x.response) (le-out x.seq k (below (le-in y.seq k (and-left (nat_le y.seq k) (is_accepted y.response) r)) b.rises)) a))
  where
    below : y.seq ≤ k → x.seq < y.seq → x.seq ≤ k
    below l m = omega arith

shields-released : (o : Option Entry) (es : List Entry) → Pairs Before es → Pairs Shields es → Pairs Shields (release_step o es)
shields-released None es b h = h
shields-released (Some p) es b h =
    Pairs-map1 (λ x y. Before x y × Shields x y) Shields (λ x. ⊤) (with_release p.seq) es (λ x y _ _ s. release-one p.seq x y s.0 s.1) (each (λ x. ⊤) es (λ x. tt)) (Pairs-both Before Shields (λ x y. Before x y × Shields x y) es (λ x y a c. (a, c)) b h)

pairs-cut : (R : Entry → Entry → Type 0) (o : Option Cut) (es : List Entry) → Pairs R es → Pairs R (cut_step o es)
pairs-cut R None es h = h
pairs-cut R (Some c) es h = Pairs-take R c.keep es h

pairs-drained : (R : Entry → Entry → Type 0) (o : Option ℕ) (es : List Entry) → Pairs R es → Pairs R (drain_step o es)
pairs-drained R None es h = h
pairs-drained R (Some k) es h = Pairs-take R k es h

shields-result : (b : Bus) (es : List Entry) → Pairs Shields es → Pairs Shields (result_step b es)
shields-result b es h = go (is_taken b) (find (holds_id b.result_id) es)
  where
    go : (t : Bool) (o : Option Entry) → Pairs Shields (cond t (result_for o b es) es)
    go false o = h
    go true None = h
    go true (Some p) = shields-mapped (with_result p.seq _) es (λ e. refl) (λ e. refl) h

outcome-released : (k : ℕ) (o : Stepped) (e : Entry) → (with_outcome k o e).released ≡ e.released
outcome-released k (Retired line) e = refl
outcome-released k (Stop cause) e = refl

shields-executed : (o : Option Executed) (es : List Entry) → Pairs Shields es → Pairs Shields (execute_step o es)
shields-executed None es h = h
shields-executed (Some x) es h = shields-mapped (with_outcome x.entry.seq x.outcome) es (outcome-released x.entry.seq x.outcome) (λ e. (goes-outcome x.entry.seq x.outcome e).response) h

pairs-retired : (R : Entry → Entry → Type 0) (o : Option Entry) (es : List Entry) → Pairs R es → Pairs R (retire_step o es)
pairs-retired R None es h = h
pairs-retired R (Some e) es h = Pairs-drop R 1 es h

pub shields-settled : (ch : Choices) (b : Bus) (es : List Entry) → IfSome ch.offer (FirstAt is_open es) → Pairs Before es → Pairs Behind es → Pairs Before (sent_entries ch b es) → Pairs Shields es → Pairs Shields (settled_entries ch b es)
shields-settled ch b es f before behind later h =
    pairs-retired Shields ch.retire _ (shields-executed ch.execute _ (shields-result b _ (pairs-drained Shields ch.drain _ (pairs-cut Shields ch.cut _ (shields-released ch.release _ later (shields-sent ch.present b _ (shields-answered ch.offer b es f before behind h)))))))

pub shields-pushed : (answer : ℕ → ℕ → ℕ) (n id pc : ℕ) (word : Option ℕ) (t : Bool) (es : List Entry) → Pairs Shields es → Pairs Shields (with_dispatch (cond t (Some (entry_at answer n id pc word)) None) es)
shields-pushed answer n id pc word false es h = h
shields-pushed answer n id pc word true es h = Pairs-push Shields es (entry_at answer n id pc word) h (each (λ x. Shields x (entry_at answer n id pc word)) es (λ x i j. absurd (false≢true i)))

-- ---- in a drain the youngest entry is released

abbrev pub LastIs : Entry → List Entry → Type 0
LastIs x [] = x.released ≡ true
LastIs x (y ∷ ys) = LastIs y ys

abbrev pub LastReleased : List Entry → Type 0
LastReleased [] = ⊤
LastReleased (x ∷ xs) = LastIs x xs

last-tail : (x : Entry) (xs : List Entry) → LastIs x xs → LastReleased xs
last-tail x [] h = tt
last-tail x (y ∷ ys) h = h

last-mapped : (g : Entry → Entry) (es : List Entry) → ((e : Entry) → e.released ≡ true → (g e).released ≡ true) → LastReleased es → LastReleased (map g es)
last-mapped g [] k h = tt
last-mapped g (e ∷ es) k h = go e es h
  where
    go : (x : Entry) (xs : List Entry) → LastIs x xs → LastIs (g x) (map g xs)
    go x [] h = k x h
    go x (y ∷ ys) h = go y ys h

last-result : (b : Bus) (es : List Entry) → LastReleased es → LastReleased (result_step b es)
last-result b es h = go (is_taken b) (find (holds_id b.result_id) es)
  where
    go : (t : Bool) (o : Option Entry) → LastReleased (cond t (result_for o b es) es)
    go false o = h
    go true None = h
    go true (Some p) = last-mapped (with_result p.seq _) es (λ e r. r) h

last-executed : (o : Option Executed) (es : List Entry) → LastReleased es → LastReleased (execute_step o es)
last-executed None es h = h
last-executed (Some x) es h = last-mapped (with_outcome x.entry.seq x.outcome) es (λ e r. outcome-released x.entry.seq x.outcome e ∙ r) h

last-retired : (o : Option Entry) (es : List Entry) → LastReleased es → LastReleased (retire_step o es)
last-retired None es h = h
last-retired (Some e) [] h = tt
last-retired (Some e) (x ∷ xs) h = last-tail x xs h

-- from the cut on
pub last-late : (ch : Choices) (b : Bus) (es : List Entry) → LastReleased (kept_entries ch b es) → LastReleased (settled_entries ch b es)
last-late ch b es h = last-retired ch.retire _ (last-executed ch.execute _ (last-result b (kept_entries ch b es) h))

-- up to it, where nothing is offered, cut or released
pub last-sent : (present : Option Presented) (b : Bus) (es : List Entry) → LastReleased es → LastReleased (sent_step present b es)
last-sent present b es h = go (is_given b) present
  where
    go : (t : Bool) (o : Option Presented) → LastReleased (cond t (sent_on_present o es) es)
    go false o = h
    go true None = h
    go true (Some x) = last-mapped (with_sent x.entry.seq) es (λ e r. r) h

-- the entries that stay
pub last-taken : (xs : List Entry) (p : Entry) → p.released ≡ true → LastReleased (xs ++ p ∷ [])
last-taken [] p h = h
last-taken (x ∷ []) p h = h
last-taken (x ∷ y ∷ ys) p h = last-taken (y ∷ ys) p h
