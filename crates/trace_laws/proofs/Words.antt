-- No step of a cycle changes the word of an entry.
use Rattle.std.proofs.Common.{◌≡◌, ℕ, Bool, true, false, if◌then◌else◌, Option, Some, None, List, map}
use Rattle.std.specs.Prelude.{find}
use Rattle.inorder_machine.specs.declared.line.Stepped.{Stepped}
use Rattle.inorder_machine.specs.declared.line.Stepped.TheVariants.{Retired, Stop}
use Rattle.xif_signals.specs.declared.bus.Bus.{Bus}
use Rattle.xif_session.specs.Facts.{is_issued, is_given, is_taken, response_on}
use Rattle.cycle_spec.specs.declared.choices.Choices.{Choices}
use Rattle.cycle_spec.specs.declared.choices.Executed.{Executed}
use Rattle.cycle_spec.specs.declared.choices.Presented.{Presented}
use Rattle.cycle_spec.specs.declared.entry.Entry.{Entry}
use Rattle.cycle_spec.specs.declared.log.Cut.{Cut}
use Rattle.cycle_spec.specs.Flight.{holds_id, with_response, with_sent, with_release, with_result, with_outcome}
use Rattle.cycle_spec.specs.Core.{response_on_offer, sent_on_present, release_step, cut_step, drain_step, result_for, execute_step, retire_step, answered_entries, sent_entries, released_entries, kept_entries, finished_entries, executed_entries, settled_entries}
use Rattle.cycle_lists.specs.Lists.{Each}
use Rattle.cycle_lists.proofs.Every.{Each-map, Each-take, Each-drop}

-- the entry of a number has a word
abbrev pub Worded : (seq word : ℕ) → Entry → Type 0
Worded seq word e = e.seq ≡ seq → e.word ≡ word

module _ (seq word : ℕ) where
  abbrev P : Entry → Type 0
  P = Worded seq word

  mapped : (f : Entry → Entry) (es : List Entry) → ((x : Entry) → P x → P (f x)) → Each P es → Each P (map f es)
  mapped f es k h = Each-map P P f es k h

  answered : (t : Bool) (o : Option Entry) (b : Bus) (es : List Entry) → Each P es → Each P (if t then response_on_offer o b es else es)
  answered false o b es h = h
  answered true None b es h = h
  answered true (Some e) b es h = mapped (with_response e.seq (response_on b)) es (λ x k. k) h

  sent : (t : Bool) (o : Option Presented) (es : List Entry) → Each P es → Each P (if t then sent_on_present o es else es)
  sent false o es h = h
  sent true None es h = h
  sent true (Some x) es h = mapped (with_sent x.entry.seq) es (λ x k. k) h

  released : (o : Option Entry) (es : List Entry) → Each P es → Each P (release_step o es)
  released None es h = h
  released (Some e) es h = mapped (with_release e.seq) es (λ x k. k) h

  cut : (o : Option Cut) (es : List Entry) → Each P es → Each P (cut_step o es)
  cut None es h = h
  cut (Some c) es h = Each-take P c.keep es h

  drained : (o : Option ℕ) (es : List Entry) → Each P es → Each P (drain_step o es)
  drained None es h = h
  drained (Some n) es h = Each-take P n es h

  finished : (t : Bool) (o : Option Entry) (b : Bus) (es : List Entry) → Each P es → Each P (if t then result_for o b es else es)
  finished false o b es h = h
  finished true None b es h = h
  finished true (Some e) b es h = mapped (with_result e.seq _) es (λ x k. k) h

  executed : (o : Option Executed) (es : List Entry) → Each P es → Each P (execute_step o es)
  executed None es h = h
  executed (Some x) es h = go x.outcome
    where
      go : (o : Stepped) → Each P (map (with_outcome x.entry.seq o) es)
      go (Retired line) = mapped (with_outcome x.entry.seq (Retired line)) es (λ x k. k) h
      go (Stop cause) = mapped (with_outcome x.entry.seq (Stop cause)) es (λ x k. k) h

  retired : (o : Option Entry) (es : List Entry) → Each P es → Each P (retire_step o es)
  retired None es h = h
  retired (Some e) es h = Each-drop P 1 es h

  pub words : (ch : Choices) (b : Bus) (es : List Entry) → Each P es → Each P (settled_entries ch b es)
  words ch b es h =
      retired ch.retire (executed_entries ch b es) (executed ch.execute (finished_entries ch b es)
      (finished (is_taken b) (find (holds_id b.result_id) (kept_entries ch b es)) b (kept_entries ch b es)
      (drained ch.drain (cut_step ch.cut (released_entries ch b es)) (cut ch.cut (released_entries ch b es)
      (released ch.release (sent_entries ch b es) (sent (is_given b) ch.present (answered_entries ch b es)
      (answered (is_issued b) ch.offer b es h)))))))
