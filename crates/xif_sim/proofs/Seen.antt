-- What the core sees of a bus: no hart.
use Rattle.std.proofs.Common.{◌≡◌, ℕ, List, Option, Some, None, find, if◌then◌else◌, refl, sym, ap, ◌∙◌}
use Rattle.xif_signals.specs.declared.bus.Bus.{Bus}
use Rattle.xif_signals.specs.declared.bus.CpuOut.{CpuOut}
use Rattle.xif_signals.specs.declared.bus.CopOut.{CopOut}
use Rattle.xif_signals.specs.declared.bus.CpuIn.{CpuIn}
use Rattle.xif_signals.specs.Bus.{join_of}
use Rattle.cycle_spec.specs.declared.choices.Choices.{Choices}
use Rattle.cycle_spec.specs.declared.choices.Presented.{Presented}
use Rattle.cycle_spec.specs.declared.entry.Entry.{Entry}
use Rattle.xif_session.specs.Facts.{is_issued, is_taken}
use Rattle.cycle_spec.specs.State.{Core}
use Rattle.cycle_spec.specs.Choices.{choices}
use Rattle.cycle_spec.specs.Core.{response_on_offer, result_for, response_step, sent_step, release_step, cut_step, drain_step, result_step, execute_step, retire_step, settled_entries, with_dispatch, dispatch_of, core_after, core_clock}
use Rattle.cycle_spec.specs.Flight.{holds_id}
use Rattle.cycle_spec.specs.Cycle.{for_hart, for_core}

-- a bus without its harts
abbrev no_harts : Bus → Bus
no_harts b = record b { issue_hartid = 0; register_hartid = 0; commit_hartid = 0; result_hartid = 0 }

responded : (offer : Option Entry) (b : Bus) (es : List Entry) → response_step offer b es ≡ response_step offer (no_harts b) es
responded offer b es = ap (λ xs. if is_issued b then xs else es) (by_offer offer)
  where
    by_offer : (o : Option Entry) → response_on_offer o b es ≡ response_on_offer o (no_harts b) es
    by_offer None = refl
    by_offer (Some e) = refl

sent : (present : Option Presented) (b : Bus) (es : List Entry) → sent_step present b es ≡ sent_step present (no_harts b) es
sent present b es = refl

finished : (b : Bus) (es : List Entry) → result_step b es ≡ result_step (no_harts b) es
finished b es = ap (λ xs. if is_taken b then xs else es) (by_holder (find (holds_id b.result_id) es))
  where
    by_holder : (o : Option Entry) → result_for o b es ≡ result_for o (no_harts b) es
    by_holder None = refl
    by_holder (Some e) = refl

settled : (ch : Choices) (b : Bus) (es : List Entry) → settled_entries ch b es ≡ settled_entries ch (no_harts b) es
settled ch b es =
    let bare = no_harts b in
    let answered = response_step ch.offer bare es in
    let given = sent_step ch.present bare answered in
    ap (λ xs. retire_step ch.retire (execute_step ch.execute (result_step b (drain_step ch.drain (cut_step ch.cut (release_step ch.release (sent_step ch.present b xs))))))) (responded ch.offer b es)
    ∙ ap (λ xs. retire_step ch.retire (execute_step ch.execute (result_step b (drain_step ch.drain (cut_step ch.cut (release_step ch.release xs)))))) (sent ch.present b answered)
    ∙ ap (λ xs. retire_step ch.retire (execute_step ch.execute xs)) (finished b (drain_step ch.drain (cut_step ch.cut (release_step ch.release given))))

bare_after : (answer : (pc word : ℕ) → ℕ) (w : Core) (ch : Choices) (b : Bus) → core_after answer w ch b ≡ core_after answer w ch (no_harts b)
bare_after answer w ch b =
    ap (λ (es : List Entry). record (core_after answer w ch b) { flight = with_dispatch (dispatch_of answer w ch) es }) (settled ch b w.flight)

same_after : (answer : (pc word : ℕ) → ℕ) (w : Core) (ch : Choices) (a b : Bus) → no_harts a ≡ no_harts b → core_after answer w ch a ≡ core_after answer w ch b
same_after answer w ch a b same = bare_after answer w ch a ∙ ap (core_after answer w ch) same ∙ sym (bare_after answer w ch b)

pub core_sees : (answer : (pc word : ℕ) → ℕ) (w : Core) (hart : ℕ) (cpu : CpuOut) (cop : CopOut) (input : CpuIn)
    → core_clock answer w (join_of (for_hart hart cpu) cop input) ≡ core_clock answer w (join_of cpu (for_core cop) input)
core_sees answer w hart cpu cop input = same_after answer w (choices w) (join_of (for_hart hart cpu) cop input) (join_of cpu (for_core cop) input) refl
