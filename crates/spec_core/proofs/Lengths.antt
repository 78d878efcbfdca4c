-- The steps of a cycle add no entry.
use Rattle.std.proofs.Common.{◌≡◌, ◌≤◌, ℕ, Bool, true, false, List, length, Option, Some, None, refl, arith}
use Rattle.std.proofs.lemmas.Grind.{common_steps}
use Rattle.std.proofs.lemmas.List.{length-map}
use Rattle.std.specs.Prelude.{find}
use Rattle.xif_session.specs.Facts.{is_issued, is_given, is_taken}
use Rattle.xif_signals.specs.declared.bus.Bus.{Bus}
use Rattle.cycle_spec.specs.declared.choices.Choices.{Choices}
use Rattle.cycle_spec.specs.declared.choices.Executed.{Executed}
use Rattle.cycle_spec.specs.declared.choices.Presented.{Presented}
use Rattle.cycle_spec.specs.declared.entry.Entry.{Entry}
use Rattle.cycle_spec.specs.declared.log.Cut.{Cut}
use Rattle.cycle_spec.specs.Flight.{holds_id}
use Rattle.cycle_spec.specs.Core.{response_on_offer, response_step, sent_on_present, sent_step, release_step, cut_step, drain_step, result_for, result_step, execute_step, retire_step, answered_entries, sent_entries, released_entries, kept_entries, finished_entries, executed_entries, settled_entries}
use Rattle.std.proofs.Common.{if◌then◌else◌}

response-length : (offer : Option Entry) (b : Bus) (es : List Entry) → length (response_step offer b es) ≡ length es
response-length offer b es = go (is_issued b) offer
  where
    go : (t : Bool) (offer : Option Entry) → length (if t then response_on_offer offer b es else es) ≡ length es
    go false offer = refl
    go true None = refl
    go true (Some e) = length-map es _

sent-length : (present : Option Presented) (b : Bus) (es : List Entry) → length (sent_step present b es) ≡ length es
sent-length present b es = go (is_given b) present
  where
    go : (t : Bool) (present : Option Presented) → length (if t then sent_on_present present es else es) ≡ length es
    go false present = refl
    go true None = refl
    go true (Some x) = length-map es _

release-length : (release : Option Entry) (es : List Entry) → length (release_step release es) ≡ length es
release-length None es = refl
release-length (Some e) es = length-map es _

cut-length : (cut : Option Cut) (es : List Entry) → length (cut_step cut es) ≤ length es
cut-length None es = omega arith
cut-length (Some cut) es = grind (arith, common_steps)

drain-length : (drain : Option ℕ) (es : List Entry) → length (drain_step drain es) ≤ length es
drain-length None es = omega arith
drain-length (Some stay) es = grind (arith, common_steps)

result-length : (b : Bus) (es : List Entry) → length (result_step b es) ≡ length es
result-length b es = go (is_taken b) (find (holds_id b.result_id) es)
  where
    go : (t : Bool) (found : Option Entry) → length (if t then result_for found b es else es) ≡ length es
    go false found = refl
    go true None = refl
    go true (Some e) = length-map es _

execute-length : (execute : Option Executed) (es : List Entry) → length (execute_step execute es) ≡ length es
execute-length None es = refl
execute-length (Some x) es = length-map es _

retire-length : (retire : Option Entry) (es : List Entry) → length (retire_step retire es) ≤ length es
retire-length None es = omega arith
retire-length (Some e) es = grind (arith, common_steps)

pub settled-length : (ch : Choices) (b : Bus) (es : List Entry) → length (settled_entries ch b es) ≤ length es
settled-length ch b es =
    omega (
      arith,
      response-length ch.offer b es,
      sent-length ch.present b (answered_entries ch b es),
      release-length ch.release (sent_entries ch b es),
      cut-length ch.cut (released_entries ch b es),
      drain-length ch.drain (cut_step ch.cut (released_entries ch b es)),
      result-length b (kept_entries ch b es),
      execute-length ch.execute (finished_entries ch b es),
      retire-length ch.retire (executed_entries ch b es),
    )
