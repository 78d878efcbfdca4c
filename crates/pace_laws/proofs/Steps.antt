-- What a cycle does to the oldest entry where it doesn't retire.
use Rattle.std.proofs.Common.{◌≡◌, ◌≢◌, ◌<◌, ◌≤◌, ◌==◌, ◌&&◌, ◌||◌, ◌++◌, ℕ, zero, suc, Bool, true, false, cond, List, [], ◌∷◌, map, take, Option, Some, None, refl, sym, ap, ◌∙◌, arith}
use Rattle.std.specs.Prelude.{find, is_some, nat_le, IfSome}
use Rattle.std.proofs.lemmas.Bool.{eq-eqb, ne_eqb, le-leb}
use Rattle.rv32_table.specs.Instr.{rd_field}
use Rattle.inorder_machine.specs.Units.{unit_write}
use Rattle.inorder_machine.specs.declared.line.Write.{Write}
use Rattle.inorder_machine.specs.declared.line.Stepped.{Stepped}
use Rattle.inorder_machine.specs.declared.line.Stepped.TheVariants.{Retired, Stop}
use Rattle.xif_signals.specs.declared.bus.Bus.{Bus}
use Rattle.xif_session.specs.Facts.{is_issued, is_given, is_taken, is_accepted, response_on}
use Rattle.cycle_spec.specs.declared.choices.Choices.{Choices}
use Rattle.cycle_spec.specs.declared.choices.Executed.{Executed}
use Rattle.cycle_spec.specs.declared.choices.Presented.{Presented}
use Rattle.cycle_spec.specs.declared.entry.Entry.{Entry}
use Rattle.cycle_spec.specs.declared.log.Cut.{Cut}
use Rattle.cycle_spec.specs.Flight.{has_seq, holds_id, is_stopping, with_response, with_sent, with_release, with_result, with_outcome}
use Rattle.cycle_spec.specs.Core.{response_on_offer, response_step, sent_on_present, sent_step, release_step, cut_step, drain_step, result_for, result_step, execute_step, retire_step, kept_entries, settled_entries, with_dispatch}
use Rattle.cycle_lists.proofs.Tests.{or-left, or-right}
use Rattle.pace_laws.specs.Measure.{is_over}

-- what the steps behind the answer leave of an entry
pub record Goes (e f : Entry) : Type 0 where
  pub seq : f.seq ≡ e.seq
  pub kind : f.kind ≡ e.kind
  pub id : f.id ≡ e.id
  pub word : f.word ≡ e.word
  pub response : f.response ≡ e.response
  pub sent : e.operands_sent ≡ true → f.operands_sent ≡ true
  pub released : e.released ≡ true → f.released ≡ true
  pub done : e.done ≡ true → f.done ≡ true
  pub stopping : is_stopping e ≡ true → is_stopping f ≡ true

pub goes-same : (e : Entry) → Goes e e
goes-same e = record { seq = refl; kind = refl; id = refl; word = refl; response = refl; sent = λ h. h; released = λ h. h; done = λ h. h; stopping = λ h. h }

pub goes-then : (e f g : Entry) → Goes e f → Goes f g → Goes e g
goes-then e f g p q = record {
  seq = q.seq ∙ p.seq;
  kind = q.kind ∙ p.kind;
  id = q.id ∙ p.id;
  word = q.word ∙ p.word;
  response = q.response ∙ p.response;
  sent = λ h. q.sent (p.sent h);
  released = λ h. q.released (p.released h);
  done = λ h. q.done (p.done h);
  stopping = λ h. q.stopping (p.stopping h);
}

pub goes-sent : (k : ℕ) (e : Entry) → Goes e (with_sent k e)
goes-sent k e = record { seq = refl; kind = refl; id = refl; word = refl; response = refl; sent = λ h. or-left e.operands_sent (has_seq k e) h; released = λ h. h; done = λ h. h; stopping = λ h. h }

pub goes-release : (k : ℕ) (e : Entry) → Goes e (with_release k e)
goes-release k e = record { seq = refl; kind = refl; id = refl; word = refl; response = refl; sent = λ h. h; released = λ h. or-left e.released (nat_le e.seq k && is_accepted e.response) h; done = λ h. h; stopping = λ h. h }

pub goes-result : (k : ℕ) (w : Write) (e : Entry) → Goes e (with_result k w e)
goes-result k w e = record { seq = refl; kind = refl; id = refl; word = refl; response = refl; sent = λ h. h; released = λ h. h; done = λ h. or-left e.done (has_seq k e) h; stopping = λ h. h }

pub goes-outcome : (k : ℕ) (o : Stepped) (e : Entry) → Goes e (with_outcome k o e)
goes-outcome k (Retired line) e = record { seq = refl; kind = refl; id = refl; word = refl; response = refl; sent = λ h. h; released = λ h. h; done = λ h. or-left e.done (has_seq k e) h; stopping = λ h. h }
goes-outcome k (Stop cause) e = record { seq = refl; kind = refl; id = refl; word = refl; response = refl; sent = λ h. h; released = λ h. h; done = λ h. h; stopping = λ h. stays (has_seq k e) h }
  where
    stays : (t : Bool) → is_some e.stop ≡ true → is_some (cond t (Some cause) e.stop) ≡ true
    stays true h = refl
    stays false h = h

-- an entry is the first of a list
pub record Leads (es : List Entry) (e : Entry) : Type 0 where
  pub younger : List Entry
  pub here : es ≡ e ∷ younger

-- ---- each step

pub leads-map : (g : Entry → Entry) (es : List Entry) (e : Entry) → Leads es e → Leads (map g es) (g e)
leads-map g es e l = record { younger = map g l.younger; here = ap (map g) l.here }

pub leads-take : (n : ℕ) (es : List Entry) (e : Entry) → Leads es e → 0 < n → Leads (take n es) e
leads-take zero es e l h = absurd (omega arith)
leads-take (suc n) es e l h = record { younger = take n l.younger; here = ap (take (suc n)) l.here }

-- the answer
abbrev pub answer_one : Option Entry → Bus → Entry → Entry
answer_one None b e = e
answer_one (Some p) b e = with_response p.seq (response_on b) e

abbrev pub answered_one : Option Entry → Bus → Entry → Entry
answered_one offer b e = cond (is_issued b) (answer_one offer b e) e

pub lead-answered : (offer : Option Entry) (b : Bus) (es : List Entry) (e : Entry) → Leads es e → Leads (response_step offer b es) (answered_one offer b e)
lead-answered offer b es e l = go (is_issued b) offer
  where
    go : (t : Bool) (o : Option Entry) → Leads (cond t (response_on_offer o b es) es) (cond t (answer_one o b e) e)
    go false o = l
    go true None = l
    go true (Some p) = leads-map (with_response p.seq (response_on b)) es e l

-- the registers
abbrev pub sent_to : Option Presented → Entry → Entry
sent_to None e = e
sent_to (Some x) e = with_sent x.entry.seq e

abbrev pub sent_one : Option Presented → Bus → Entry → Entry
sent_one present b e = cond (is_given b) (sent_to present e) e

lead-sent : (present : Option Presented) (b : Bus) (es : List Entry) (e : Entry) → Leads es e → Leads (sent_step present b es) (sent_one present b e)
lead-sent present b es e l = go (is_given b) present
  where
    go : (t : Bool) (o : Option Presented) → Leads (cond t (sent_on_present o es) es) (cond t (sent_to o e) e)
    go false o = l
    go true None = l
    go true (Some x) = leads-map (with_sent x.entry.seq) es e l

-- the release
abbrev pub released_one : Option Entry → Entry → Entry
released_one None e = e
released_one (Some p) e = with_release p.seq e

lead-released : (release : Option Entry) (es : List Entry) (e : Entry) → Leads es e → Leads (release_step release es) (released_one release e)
lead-released None es e l = l
lead-released (Some p) es e l = leads-map (with_release p.seq) es e l

-- the cut and the drain
abbrev pub Spares : Option Cut → Option ℕ → Type 0
Spares cut drain = IfSome cut (λ c. 0 < c.keep) × IfSome drain (λ stay. 0 < stay)

lead-cut : (cut : Option Cut) (es : List Entry) (e : Entry) → IfSome cut (λ c. 0 < c.keep) → Leads es e → Leads (cut_step cut es) e
lead-cut None es e h l = l
lead-cut (Some c) es e h l = leads-take c.keep es e l h

lead-drain : (drain : Option ℕ) (es : List Entry) (e : Entry) → IfSome drain (λ stay. 0 < stay) → Leads es e → Leads (drain_step drain es) e
lead-drain None es e h l = l
lead-drain (Some stay) es e h l = leads-take stay es e l h

-- the result, by the entry that it is for
abbrev pub result_to : Option Entry → Bus → Entry → Entry
result_to None b e = e
result_to (Some p) b e = with_result p.seq (unit_write (rd_field p.word) b.result_we b.result_data) e

abbrev pub result_one : Option Entry → Bus → Entry → Entry
result_one for' b e = cond (is_taken b) (result_to for' b e) e

lead-result : (b : Bus) (es : List Entry) (e : Entry) → Leads es e → Leads (result_step b es) (result_one (find (holds_id b.result_id) es) b e)
lead-result b es e l = go (is_taken b) (find (holds_id b.result_id) es)
  where
    go : (t : Bool) (o : Option Entry) → Leads (cond t (result_for o b es) es) (cond t (result_to o b e) e)
    go false o = l
    go true None = l
    go true (Some p) = leads-map (with_result p.seq (unit_write (rd_field p.word) b.result_we b.result_data)) es e l

-- the execution
abbrev pub executed_one : Option Executed → Entry → Entry
executed_one None e = e
executed_one (Some x) e = with_outcome x.entry.seq x.outcome e

lead-executed : (execute : Option Executed) (es : List Entry) (e : Entry) → Leads es e → Leads (execute_step execute es) (executed_one execute e)
lead-executed None es e l = l
lead-executed (Some x) es e l = leads-map (with_outcome x.entry.seq x.outcome) es e l

lead-retired : (retire : Option Entry) (es : List Entry) (e : Entry) → retire ≡ None → Leads es e → Leads (retire_step retire es) e
lead-retired None es e h l = l
lead-retired (Some p) es e h l = cc

-- ---- all steps

-- up to the release
abbrev pub kept_one : Choices → Bus → Entry → Entry
kept_one ch b e = released_one ch.release (sent_one ch.present b (answered_one ch.offer b e))

abbrev pub moved : Choices → Bus → Option Entry → Entry → Entry
moved ch b for' e = executed_one ch.execute (result_one for' b (kept_one ch b e))

-- whom the result is for
abbrev pub for_result : Choices → Bus → List Entry → Option Entry
for_result ch b es = find (holds_id b.result_id) (kept_entries ch b es)

pub lead-kept : (ch : Choices) (b : Bus) (es : List Entry) (e : Entry) → Leads es e → Spares ch.cut ch.drain → Leads (kept_entries ch b es) (kept_one ch b e)
lead-kept ch b es e l s =
    lead-drain ch.drain _ _ s.1 (lead-cut ch.cut _ _ s.0 (lead-released ch.release _ _ (lead-sent ch.present b _ _ (lead-answered ch.offer b es e l))))

pub lead-settled : (ch : Choices) (b : Bus) (es : List Entry) (e : Entry) → Leads es e → Spares ch.cut ch.drain → ch.retire ≡ None → Leads (settled_entries ch b es) (moved ch b (for_result ch b es) e)
lead-settled ch b es e l s r =
    lead-retired ch.retire _ _ r (lead-executed ch.execute _ _ (lead-result b (kept_entries ch b es) (kept_one ch b e) (lead-kept ch b es e l s)))

pub lead-dispatched : (new : Option Entry) (es : List Entry) (e : Entry) → Leads es e → Leads (with_dispatch new es) e
lead-dispatched None es e l = l
lead-dispatched (Some x) es e l = record { younger = l.younger ++ x ∷ []; here = ap (λ k. k ++ x ∷ []) l.here }

-- ---- what the steps behind the answer leave

sent-goes : (present : Option Presented) (b : Bus) (e : Entry) → Goes e (sent_one present b e)
sent-goes present b e = go (is_given b) present
  where
    go : (t : Bool) (o : Option Presented) → Goes e (cond t (sent_to o e) e)
    go false o = goes-same e
    go true None = goes-same e
    go true (Some x) = goes-sent x.entry.seq e

released-goes : (release : Option Entry) (e : Entry) → Goes e (released_one release e)
released-goes None e = goes-same e
released-goes (Some p) e = goes-release p.seq e

result-goes : (for' : Option Entry) (b : Bus) (e : Entry) → Goes e (result_one for' b e)
result-goes for' b e = go (is_taken b) for'
  where
    go : (t : Bool) (o : Option Entry) → Goes e (cond t (result_to o b e) e)
    go false o = goes-same e
    go true None = goes-same e
    go true (Some p) = goes-result p.seq (unit_write (rd_field p.word) b.result_we b.result_data) e

executed-goes : (execute : Option Executed) (e : Entry) → Goes e (executed_one execute e)
executed-goes None e = goes-same e
executed-goes (Some x) e = goes-outcome x.entry.seq x.outcome e

-- what the answer leaves
pub record Answers (e f : Entry) : Type 0 where
  pub seq : f.seq ≡ e.seq
  pub kind : f.kind ≡ e.kind
  pub id : f.id ≡ e.id
  pub word : f.word ≡ e.word
  pub sent : f.operands_sent ≡ e.operands_sent
  pub released : f.released ≡ e.released
  pub done : f.done ≡ e.done

pub answered-leaves : (offer : Option Entry) (b : Bus) (e : Entry) → Answers e (answered_one offer b e)
answered-leaves offer b e = go (is_issued b) offer
  where
    go : (t : Bool) (o : Option Entry) → Answers e (cond t (answer_one o b e) e)
    go false o = record { seq = refl; kind = refl; id = refl; word = refl; sent = refl; released = refl; done = refl }
    go true None = record { seq = refl; kind = refl; id = refl; word = refl; sent = refl; released = refl; done = refl }
    go true (Some p) = record { seq = refl; kind = refl; id = refl; word = refl; sent = refl; released = refl; done = refl }

pub kept-goes : (ch : Choices) (b : Bus) (e : Entry) → Goes (answered_one ch.offer b e) (kept_one ch b e)
kept-goes ch b e =
    let e1 = answered_one ch.offer b e in
    let e2 = sent_one ch.present b e1 in
    goes-then e1 e2 (kept_one ch b e) (sent-goes ch.present b e1) (released-goes ch.release e2)

pub late-goes : (ch : Choices) (b : Bus) (for' : Option Entry) (e : Entry) → Goes (kept_one ch b e) (moved ch b for' e)
late-goes ch b for' e =
    let e3 = kept_one ch b e in
    let e4 = result_one for' b e3 in
    goes-then e3 e4 (moved ch b for' e) (result-goes for' b e3) (executed-goes ch.execute e4)

pub moved-goes : (ch : Choices) (b : Bus) (for' : Option Entry) (e : Entry) → Goes (answered_one ch.offer b e) (moved ch b for' e)
moved-goes ch b for' e = goes-then (answered_one ch.offer b e) (kept_one ch b e) (moved ch b for' e) (kept-goes ch b e) (late-goes ch b for' e)

-- ---- what they do to it

pub seq-is : (ch : Choices) (b : Bus) (for' : Option Entry) (e : Entry) → (moved ch b for' e).seq ≡ e.seq
seq-is ch b for' e = (moved-goes ch b for' e).seq ∙ (answered-leaves ch.offer b e).seq

-- no answer, or one for another entry
pub response-stays : (ch : Choices) (b : Bus) (for' : Option Entry) (e : Entry) → IfSome ch.offer (λ p. p.seq ≢ e.seq) → (moved ch b for' e).response ≡ e.response
response-stays ch b for' e h = (moved-goes ch b for' e).response ∙ go (is_issued b) ch.offer h
  where
    go : (t : Bool) (o : Option Entry) → IfSome o (λ p. p.seq ≢ e.seq) → (cond t (answer_one o b e) e).response ≡ e.response
    go false o n = refl
    go true None n = refl
    go true (Some p) n = ap (λ c. cond c (Some (response_on b)) e.response) (ne_eqb e.seq p.seq (λ q. n (sym q)))

pub response-waits : (ch : Choices) (b : Bus) (for' : Option Entry) (e : Entry) → is_issued b ≡ false → (moved ch b for' e).response ≡ e.response
response-waits ch b for' e h = (moved-goes ch b for' e).response ∙ ap (λ t. (cond t (answer_one ch.offer b e) e).response) h

pub response-comes : (ch : Choices) (b : Bus) (for' : Option Entry) (e : Entry) → ch.offer ≡ Some e → is_issued b ≡ true → (moved ch b for' e).response ≡ Some (response_on b)
response-comes ch b for' e h i =
    (moved-goes ch b for' e).response ∙ ap (λ t. (cond t (answer_one ch.offer b e) e).response) i ∙ ap (λ o. (answer_one o b e).response) h
    ∙ ap (λ c. cond c (Some (response_on b)) e.response) (eq-eqb e.seq e.seq refl)

pub sent-comes : (ch : Choices) (b : Bus) (for' : Option Entry) (e : Entry) (x : Presented) → ch.present ≡ Some x → x.entry.seq ≡ e.seq → is_given b ≡ true → (moved ch b for' e).operands_sent ≡ true
sent-comes ch b for' e x h k g =
    let e1 = answered_one ch.offer b e in
    let e2 = sent_one ch.present b e1 in
    let s : e2.operands_sent ≡ true = ap (λ t. (cond t (sent_to ch.present e1) e1).operands_sent) g ∙ ap (λ o. (sent_to o e1).operands_sent) h ∙ or-right e1.operands_sent (e1.seq == x.entry.seq) (eq-eqb e1.seq x.entry.seq ((answered-leaves ch.offer b e).seq ∙ sym k)) in
    (late-goes ch b for' e).sent ((released-goes ch.release e2).sent s)

pub sent-stays : (ch : Choices) (b : Bus) (for' : Option Entry) (e : Entry) → e.operands_sent ≡ true → (moved ch b for' e).operands_sent ≡ true
sent-stays ch b for' e h = (moved-goes ch b for' e).sent ((answered-leaves ch.offer b e).sent ∙ h)

pub released-stays : (ch : Choices) (b : Bus) (for' : Option Entry) (e : Entry) → e.released ≡ true → (moved ch b for' e).released ≡ true
released-stays ch b for' e h = (moved-goes ch b for' e).released ((answered-leaves ch.offer b e).released ∙ h)

-- a release that names it or a younger one
pub release-comes : (ch : Choices) (b : Bus) (for' : Option Entry) (e p : Entry) → ch.release ≡ Some p → e.seq ≤ p.seq → is_accepted (answered_one ch.offer b e).response ≡ true → (moved ch b for' e).released ≡ true
release-comes ch b for' e p h l a =
    let e1 = answered_one ch.offer b e in
    let e2 = sent_one ch.present b e1 in
    let g = sent-goes ch.present b e1 in
    let at : nat_le e2.seq p.seq ≡ true = ap (λ n. nat_le n p.seq) (g.seq ∙ (answered-leaves ch.offer b e).seq) ∙ le-leb e.seq p.seq l in
    let r : (released_one ch.release e2).released ≡ true = ap (λ o. (released_one o e2).released) h ∙ or-right e2.released (nat_le e2.seq p.seq && is_accepted e2.response) (ap (λ t. t && is_accepted e2.response) at ∙ ap is_accepted g.response ∙ a) in
    (late-goes ch b for' e).released r

pub done-comes : (ch : Choices) (b : Bus) (e p : Entry) → p.seq ≡ e.seq → is_taken b ≡ true → (moved ch b (Some p) e).done ≡ true
done-comes ch b e p h t =
    let e3 = kept_one ch b e in
    let s : e3.seq ≡ e.seq = (kept-goes ch b e).seq ∙ (answered-leaves ch.offer b e).seq in
    (executed-goes ch.execute (result_one (Some p) b e3)).done (ap (λ c. (cond c (result_to (Some p) b e3) e3).done) t ∙ or-right e3.done (e3.seq == p.seq) (eq-eqb e3.seq p.seq (s ∙ sym h)))

outcome-over : (k : ℕ) (o : Stepped) (e : Entry) → e.seq ≡ k → is_over (with_outcome k o e) ≡ true
outcome-over k (Retired line) e h = or-left (e.done || has_seq k e) (is_stopping e) (or-right e.done (e.seq == k) (eq-eqb e.seq k h))
outcome-over k (Stop cause) e h = or-right e.done (is_some (cond (has_seq k e) (Some cause) e.stop)) (ap (λ t. is_some (cond t (Some cause) e.stop)) (eq-eqb e.seq k h))

pub over-comes : (ch : Choices) (b : Bus) (for' : Option Entry) (e : Entry) (x : Executed) → ch.execute ≡ Some x → x.entry.seq ≡ e.seq → is_over (moved ch b for' e) ≡ true
over-comes ch b for' e x h k =
    let e3 = kept_one ch b e in
    let e4 = result_one for' b e3 in
    let s : e4.seq ≡ x.entry.seq = (result-goes for' b e3).seq ∙ (kept-goes ch b e).seq ∙ (answered-leaves ch.offer b e).seq ∙ sym k in
    ap (λ o. is_over (executed_one o e4)) h ∙ outcome-over x.entry.seq x.outcome e4 s
