-- A refused word is known to stop the machine.
use Rattle.std.proofs.Common.{◌≡◌, ◌&&◌, ℕ, Bool, true, false, cond, not, List, Option, Some, None, refl}
use Rattle.std.specs.Prelude.{is_some, find}
use Rattle.inorder_machine.specs.declared.line.Stepped.{Stepped}
use Rattle.inorder_machine.specs.declared.line.Stepped.TheVariants.{Retired, Stop}
use Rattle.inorder_machine.specs.declared.stop.StopCause.{StopCause}
use Rattle.inorder_machine.specs.declared.stop.StopCause.TheVariants.{Illegal}
use Rattle.xif_signals.specs.declared.bus.Bus.{Bus}
use Rattle.xif_session.specs.declared.fact.Response.{Response}
use Rattle.xif_session.specs.Facts.{is_refused, is_issued, is_given, is_taken, response_on}
use Rattle.cycle_spec.specs.declared.choices.Choices.{Choices}
use Rattle.cycle_spec.specs.declared.choices.Executed.{Executed}
use Rattle.cycle_spec.specs.declared.choices.Presented.{Presented}
use Rattle.cycle_spec.specs.declared.entry.Entry.{Entry}
use Rattle.cycle_spec.specs.declared.log.Cut.{Cut}
use Rattle.cycle_spec.specs.Flight.{is_stopping, has_seq, holds_id, with_response, with_sent, with_release, with_result, with_outcome}
use Rattle.cycle_spec.specs.Core.{response_on_offer, response_step, sent_on_present, sent_step, release_step, cut_step, drain_step, result_for, result_step, execute_step, retire_step, settled_entries, entry_at, with_dispatch}
use Rattle.cycle_lists.specs.Lists.{Each}
use Rattle.cycle_lists.proofs.Every.{Each-map, Each-take, Each-drop, Each-push}

pub record Refuses (e : Entry) : Type 0 where
  pub stops : is_refused e.response ≡ true → is_stopping e ≡ true

-- ---- the changes of an entry

response-by : (r : Response) (o : Option Response) (stop : Option StopCause) (t : Bool) → (is_refused o ≡ true → is_some stop ≡ true) → is_refused (cond t (Some r) o) ≡ true → is_some (cond (t && not r.accept) (Some Illegal) stop) ≡ true
response-by r o stop false f h = f h
response-by r o stop true f h = go r.accept h
  where
    go : (a : Bool) → not a ≡ true → is_some (cond (not a) (Some Illegal) stop) ≡ true
    go true k = cc
    go false k = refl

refuses-response : (s : ℕ) (r : Response) (e : Entry) → Refuses e → Refuses (with_response s r e)
refuses-response s r e h = record { stops = response-by r e.response e.stop (has_seq s e) h.stops }

stop-by : (cause : StopCause) (stop : Option StopCause) (t : Bool) → is_some stop ≡ true → is_some (cond t (Some cause) stop) ≡ true
stop-by cause stop false h = h
stop-by cause stop true h = refl

refuses-outcome : (s : ℕ) (o : Stepped) (e : Entry) → Refuses e → Refuses (with_outcome s o e)
refuses-outcome s (Retired line) e h = record { stops = h.stops }
refuses-outcome s (Stop cause) e h = record { stops = λ r. stop-by cause e.stop (has_seq s e) (h.stops r) }

-- ---- the steps

after-response : (o : Option Entry) (b : Bus) (es : List Entry) → Each Refuses es → Each Refuses (response_step o b es)
after-response o b es h = go (is_issued b) o
  where
    go : (t : Bool) (o : Option Entry) → Each Refuses (cond t (response_on_offer o b es) es)
    go false o = h
    go true None = h
    go true (Some e) = Each-map Refuses Refuses (with_response e.seq (response_on b)) es (refuses-response e.seq (response_on b)) h

after-sent : (o : Option Presented) (b : Bus) (es : List Entry) → Each Refuses es → Each Refuses (sent_step o b es)
after-sent o b es h = go (is_given b) o
  where
    go : (t : Bool) (o : Option Presented) → Each Refuses (cond t (sent_on_present o es) es)
    go false o = h
    go true None = h
    go true (Some x) = Each-map Refuses Refuses (with_sent x.entry.seq) es (λ e k. record { stops = k.stops }) h

after-release : (o : Option Entry) (es : List Entry) → Each Refuses es → Each Refuses (release_step o es)
after-release None es h = h
after-release (Some e) es h = Each-map Refuses Refuses (with_release e.seq) es (λ e k. record { stops = k.stops }) h

after-cut : (o : Option Cut) (es : List Entry) → Each Refuses es → Each Refuses (cut_step o es)
after-cut None es h = h
after-cut (Some c) es h = Each-take Refuses c.keep es h

after-drain : (o : Option ℕ) (es : List Entry) → Each Refuses es → Each Refuses (drain_step o es)
after-drain None es h = h
after-drain (Some stay) es h = Each-take Refuses stay es h

after-result : (b : Bus) (es : List Entry) → Each Refuses es → Each Refuses (result_step b es)
after-result b es h = go (is_taken b) (find (holds_id b.result_id) es)
  where
    go : (t : Bool) (o : Option Entry) → Each Refuses (cond t (result_for o b es) es)
    go false o = h
    go true None = h
    go true (Some e) = Each-map Refuses Refuses (with_result e.seq _) es (λ e k. record { stops = k.stops }) h

after-execute : (o : Option Executed) (es : List Entry) → Each Refuses es → Each Refuses (execute_step o es)
after-execute None es h = h
after-execute (Some x) es h = Each-map Refuses Refuses (with_outcome x.entry.seq x.outcome) es (refuses-outcome x.entry.seq x.outcome) h

after-retire : (o : Option Entry) (es : List Entry) → Each Refuses es → Each Refuses (retire_step o es)
after-retire None es h = h
after-retire (Some e) es h = Each-drop Refuses 1 es h

pub refuses-settled : (ch : Choices) (b : Bus) (es : List Entry) → Each Refuses es → Each Refuses (settled_entries ch b es)
refuses-settled ch b es h =
    after-retire ch.retire _ (after-execute ch.execute _ (after-result b _ (after-drain ch.drain _ (after-cut ch.cut _
    (after-release ch.release _ (after-sent ch.present b _ (after-response ch.offer b es h)))))))

pub refuses-dispatch : (answer : ℕ → ℕ → ℕ) (seq id pc : ℕ) (word : Option ℕ) (t : Bool) (es : List Entry) → Each Refuses es → Each Refuses (with_dispatch (cond t (Some (entry_at answer seq id pc word)) None) es)
refuses-dispatch answer seq id pc word false es h = h
refuses-dispatch answer seq id pc word true es h = Each-push Refuses es (entry_at answer seq id pc word) h (record { stops = λ k. cc })
