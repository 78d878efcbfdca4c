-- Each step of a cycle keeps the order of the entries.
use Rattle.std.proofs.Common.{◌≡◌, ◌<◌, ◌+◌, ◌++◌, ℕ, Bool, true, false, cond, List, [], ◌∷◌, map, take, drop, Option, Some, None, refl, sym, ◌∙◌, subst, arith}
use Rattle.std.specs.Prelude.{find}
use Rattle.xif_base.specs.declared.params.Params.{Params}
use Rattle.xif_image.specs.Region.{Region, word_at}
use Rattle.xif_drive.specs.Scripts.{Lists}
use Rattle.inorder_machine.specs.declared.line.Stepped.{Stepped}
use Rattle.inorder_machine.specs.declared.line.Stepped.TheVariants.{Retired, Stop}
use Rattle.inorder_machine.specs.declared.line.Write.{Write}
use Rattle.xif_signals.specs.declared.bus.Bus.{Bus}
use Rattle.xif_session.specs.declared.fact.Response.{Response}
use Rattle.xif_session.specs.Facts.{is_issued, is_given, is_taken, response_on}
use Rattle.cycle_spec.specs.declared.choices.Choices.{Choices}
use Rattle.cycle_spec.specs.declared.choices.Executed.{Executed}
use Rattle.cycle_spec.specs.declared.choices.Presented.{Presented}
use Rattle.cycle_spec.specs.declared.entry.Entry.{Entry}
use Rattle.cycle_spec.specs.declared.log.Cut.{Cut}
use Rattle.cycle_spec.specs.Flight.{is_unknown, is_unknown_kind, holds_id, with_response, with_sent, with_release, with_result, with_outcome, kind_at, free_id}
use Rattle.cycle_spec.specs.State.{Core, new_core}
use Rattle.cycle_spec.specs.Choices.{choices}
use Rattle.cycle_spec.specs.Core.{response_on_offer, response_step, sent_on_present, sent_step, release_step, cut_step, drain_step, result_for, result_step, execute_step, retire_step, settled_entries, ahead_behind, memory_behind, entry_at, with_dispatch, seq_after, core_after, core_clock, drain_begun, resumed}
use Rattle.cycle_lists.specs.Lists.{Each, Pairs}
use Rattle.cycle_lists.specs.Order.{Before, IsFree, InOrder}
use Rattle.cycle_lists.proofs.Free.{free}
use Rattle.cycle_lists.proofs.Every.{Each-from, Each-map, Each-take, Each-drop, Each-push, Pairs-map, Pairs-take, Pairs-drop, Pairs-push}

-- what the steps keep: the order, a bound on the numbers, and an id that is free
pub record Kept (n id : ℕ) (es : List Entry) : Type 0 where
  pub pairs : Pairs Before es
  pub below : Each (λ e. e.seq < n) es
  pub free : Each (IsFree id) es

-- a change that leaves number, kind and id
pub record Leaves (f : Entry → Entry) : Type 0 where
  pub seq : (e : Entry) → (f e).seq ≡ e.seq
  pub kind : (e : Entry) → (f e).kind ≡ e.kind
  pub id : (e : Entry) → (f e).id ≡ e.id

before-left : (f : Entry → Entry) → Leaves f → (x y : Entry) → Before x y → Before (f x) (f y)
before-left f l x y b =
    let r : x.seq < y.seq = b.rises in
    let p : (f x).seq ≡ x.seq = l.seq x in
    let q : (f y).seq ≡ y.seq = l.seq y in
    record {
      rises = omega arith;
      apart = λ u v e. b.apart (subst (λ k. is_unknown_kind k ≡ true) (l.kind x) u) (subst (λ k. is_unknown_kind k ≡ true) (l.kind y) v) (sym (l.id x) ∙ e ∙ l.id y);
    }

free-left : (id : ℕ) (f : Entry → Entry) → Leaves f → (x : Entry) → IsFree id x → IsFree id (f x)
free-left id f l x h = record { other = λ u e. h.other (subst (λ k. is_unknown_kind k ≡ true) (l.kind x) u) (sym (l.id x) ∙ e) }

pub mapped : (n id : ℕ) (f : Entry → Entry) (es : List Entry) → Leaves f → Kept n id es → Kept n id (map f es)
mapped n id f es l k = record {
  pairs = Pairs-map Before f es (λ x y b. before-left f l x y b) k.pairs;
  below = Each-map (λ e. e.seq < n) (λ e. e.seq < n) f es (λ x h. subst (λ s. s < n) (sym (l.seq x)) h) k.below;
  free = Each-map (IsFree id) (IsFree id) f es (λ x h. free-left id f l x h) k.free;
}

pub taken : (n id k : ℕ) (es : List Entry) → Kept n id es → Kept n id (take k es)
taken n id k es h = record {
  pairs = Pairs-take Before k es h.pairs;
  below = Each-take (λ e. e.seq < n) k es h.below;
  free = Each-take (IsFree id) k es h.free;
}

pub dropped : (n id k : ℕ) (es : List Entry) → Kept n id es → Kept n id (drop k es)
dropped n id k es h = record {
  pairs = Pairs-drop Before k es h.pairs;
  below = Each-drop (λ e. e.seq < n) k es h.below;
  free = Each-drop (IsFree id) k es h.free;
}

-- ---- the changes of an entry

pub leaves-response : (s : ℕ) (r : Response) → Leaves (with_response s r)
leaves-response s r = record { seq = λ e. refl; kind = λ e. refl; id = λ e. refl }

pub leaves-sent : (s : ℕ) → Leaves (with_sent s)
leaves-sent s = record { seq = λ e. refl; kind = λ e. refl; id = λ e. refl }

pub leaves-release : (s : ℕ) → Leaves (with_release s)
leaves-release s = record { seq = λ e. refl; kind = λ e. refl; id = λ e. refl }

pub leaves-result : (s : ℕ) (w : Write) → Leaves (with_result s w)
leaves-result s w = record { seq = λ e. refl; kind = λ e. refl; id = λ e. refl }

pub leaves-outcome : (s : ℕ) (o : Stepped) → Leaves (with_outcome s o)
leaves-outcome s (Retired line) = record { seq = λ e. refl; kind = λ e. refl; id = λ e. refl }
leaves-outcome s (Stop cause) = record { seq = λ e. refl; kind = λ e. refl; id = λ e. refl }

-- ---- the steps

pub response-kept : (n id : ℕ) (o : Option Entry) (b : Bus) (es : List Entry) → Kept n id es → Kept n id (response_step o b es)
response-kept n id o b es k = go (is_issued b) o
  where
    go : (t : Bool) (o : Option Entry) → Kept n id (cond t (response_on_offer o b es) es)
    go false o = k
    go true None = k
    go true (Some e) = mapped n id (with_response e.seq (response_on b)) es (leaves-response e.seq (response_on b)) k

pub sent-kept : (n id : ℕ) (o : Option Presented) (b : Bus) (es : List Entry) → Kept n id es → Kept n id (sent_step o b es)
sent-kept n id o b es k = go (is_given b) o
  where
    go : (t : Bool) (o : Option Presented) → Kept n id (cond t (sent_on_present o es) es)
    go false o = k
    go true None = k
    go true (Some x) = mapped n id (with_sent x.entry.seq) es (leaves-sent x.entry.seq) k

pub release-kept : (n id : ℕ) (o : Option Entry) (es : List Entry) → Kept n id es → Kept n id (release_step o es)
release-kept n id None es k = k
release-kept n id (Some e) es k = mapped n id (with_release e.seq) es (leaves-release e.seq) k

pub cut-kept : (n id : ℕ) (o : Option Cut) (es : List Entry) → Kept n id es → Kept n id (cut_step o es)
cut-kept n id None es k = k
cut-kept n id (Some c) es k = taken n id c.keep es k

pub drain-kept : (n id : ℕ) (o : Option ℕ) (es : List Entry) → Kept n id es → Kept n id (drain_step o es)
drain-kept n id None es k = k
drain-kept n id (Some stay) es k = taken n id stay es k

pub result-kept : (n id : ℕ) (b : Bus) (es : List Entry) → Kept n id es → Kept n id (result_step b es)
result-kept n id b es k = go (is_taken b) (find (holds_id b.result_id) es)
  where
    go : (t : Bool) (o : Option Entry) → Kept n id (cond t (result_for o b es) es)
    go false o = k
    go true None = k
    go true (Some e) = mapped n id (with_result e.seq _) es (leaves-result e.seq _) k

pub execute-kept : (n id : ℕ) (o : Option Executed) (es : List Entry) → Kept n id es → Kept n id (execute_step o es)
execute-kept n id None es k = k
execute-kept n id (Some x) es k = mapped n id (with_outcome x.entry.seq x.outcome) es (leaves-outcome x.entry.seq x.outcome) k

pub retire-kept : (n id : ℕ) (o : Option Entry) (es : List Entry) → Kept n id es → Kept n id (retire_step o es)
retire-kept n id None es k = k
retire-kept n id (Some e) es k = dropped n id 1 es k

pub settled-kept : (n id : ℕ) (ch : Choices) (b : Bus) (es : List Entry) → Kept n id es → Kept n id (settled_entries ch b es)
settled-kept n id ch b es k =
    retire-kept n id ch.retire _ (execute-kept n id ch.execute _ (result-kept n id b _
    (drain-kept n id ch.drain _ (cut-kept n id ch.cut _ (release-kept n id ch.release _
    (sent-kept n id ch.present b _ (response-kept n id ch.offer b es k)))))))

-- ---- a new entry

-- it stands behind what has settled
joined : (answer : ℕ → ℕ → ℕ) (n id pc : ℕ) (word : Option ℕ) (es : List Entry) → Kept n id es → Pairs Before (es ++ entry_at answer n id pc word ∷ [])
joined answer n id pc word es k =
    let new = entry_at answer n id pc word in
    Pairs-push Before es new k.pairs (each es k.below k.free)
  where
    apart_by : (b : Bool) (x : Entry) → IsFree id x → is_unknown x ≡ true → b ≡ true → x.id ≡ cond b id 0 → ⊥
    apart_by true x f u e q = f.other u q
    apart_by false x f u e q = cc

    each : (xs : List Entry) → Each (λ e. e.seq < n) xs → Each (IsFree id) xs → Each (λ x. Before x (entry_at answer n id pc word)) xs
    each [] b f = tt
    each (x ∷ xs) b f = (record { rises = b.0; apart = λ u v q. apart_by (is_unknown_kind (kind_at word)) x f.0 u v q }, each xs b.1 f.1)

-- the entries with a new one, if there is one
pub record Ordered (n : ℕ) (es : List Entry) : Type 0 where
  pub pairs : Pairs Before es
  pub below : Each (λ e. e.seq < n) es

appended : (answer : ℕ → ℕ → ℕ) (n id pc : ℕ) (word : Option ℕ) (es : List Entry) (t : Bool) → Kept n id es
    → Ordered (seq_after (cond t (Some (entry_at answer n id pc word)) None) n) (with_dispatch (cond t (Some (entry_at answer n id pc word)) None) es)
appended answer n id pc word es false k = record { pairs = k.pairs; below = k.below }
appended answer n id pc word es true k = record {
  pairs = joined answer n id pc word es k;
  below = Each-push (λ e. e.seq < n + 1) es (entry_at answer n id pc word) (Each-from (λ e. e.seq < n) (λ e. e.seq < n + 1) es (λ x h. omega arith) k.below) (omega arith);
}

-- ---- a cycle

pub start-kept : (w : Core) → InOrder w → Kept w.next_seq (free_id w.flight) w.flight
start-kept w o = record { pairs = o.pairs; below = o.below; free = (free w.flight).each }

pub core-kept : (answer : ℕ → ℕ → ℕ) (w : Core) (ch : Choices) (b : Bus) → InOrder w → InOrder (core_after answer w ch b)
core-kept answer w ch b o =
    let pc = ahead_behind ch.cut w.ahead in
    let k = settled-kept w.next_seq (free_id w.flight) ch b w.flight (start-kept w o) in
    let a = appended answer w.next_seq (free_id w.flight) pc (word_at (memory_behind ch.retire w.memory) pc) (settled_entries ch b w.flight) ch.dispatch k in
    record { pairs = a.pairs; below = a.below }

pub clock-kept : (answer : ℕ → ℕ → ℕ) (w : Core) (b : Bus) → InOrder w → InOrder (core_clock answer w b)
clock-kept answer w b o = core-kept answer w (choices w) b o

pub new-kept : (params : Params) (script : Lists) (window : ℕ) (memory : Region) (entry : ℕ) → InOrder (new_core params script window memory entry)
new-kept params script window memory entry = record { pairs = tt; below = tt }

pub begun-kept : (w : Core) → InOrder w → InOrder (drain_begun w)
begun-kept w o = record { pairs = o.pairs; below = o.below }

pub resumed-kept : (w : Core) → InOrder w → InOrder (resumed w)
resumed-kept w o = record { pairs = o.pairs; below = o.below }
