-- The steps of a cycle, as the definitions and as the lemmas have them.
use Rattle.std.proofs.Common.{◌≡◌, ◌&&◌, ℕ, Bool, true, false, cond, List, Option, Some, None, refl, ap, ◌∙◌}
use Rattle.std.specs.Prelude.{find, IfSome}
use Rattle.rv32_table.specs.Instr.{rd_field}
use Rattle.inorder_machine.specs.declared.line.Write.{Write}
use Rattle.inorder_machine.specs.Units.{unit_write}
use Rattle.xif_signals.specs.declared.bus.Bus.{Bus}
use Rattle.xif_session.specs.declared.fact.Response.{Response}
use Rattle.xif_session.specs.Facts.{is_issued, is_given, is_taken, response_on}
use Rattle.cycle_spec.specs.declared.choices.Choices.{Choices}
use Rattle.cycle_spec.specs.declared.choices.Presented.{Presented}
use Rattle.cycle_spec.specs.declared.entry.Entry.{Entry}
use Rattle.cycle_spec.specs.declared.turn.Transactions.{Transactions}
use Rattle.cycle_spec.specs.Flight.{holds_id}
use Rattle.cycle_spec.specs.Turns.{transactions_after}
use Rattle.cycle_spec.specs.Core.{response_on_offer, response_step, sent_on_present, sent_step, release_step, cut_step, drain_step, result_for, result_step, execute_step, retire_step, settled_entries}
use Rattle.cycle_spec.specs.Engine.{owner_if}
use Rattle.cycle_paired.proofs.Lasting.{result_with}
use Rattle.cycle_paired.proofs.Cycling.{answer_on, sent_entries}

-- ---- the core

answer-same : (o : Option Entry) (b : Bus) (es : List Entry) → response_on_offer o b es ≡ answer_on o (response_on b) es
answer-same None b es = refl
answer-same (Some p) b es = refl

response-same : (o : Option Entry) (b : Bus) (t : Bool) (r : Response) (es : List Entry) → is_issued b ≡ t → response_on b ≡ r → response_step o b es ≡ cond t (answer_on o r es) es
response-same o b t r es h k = ap (λ x. cond x (response_on_offer o b es) es) h ∙ ap (λ l. cond t l es) (answer-same o b es) ∙ ap (λ x. cond t (answer_on o x es) es) k

sent-same : (o : Option Presented) (b : Bus) (t : Bool) (es : List Entry) → is_given b ≡ t → sent_step o b es ≡ sent_entries t o es
sent-same o b t es h = ap (λ x. cond x (sent_on_present o es) es) h

abbrev pub writes : (we data' : ℕ) → Entry → Write
writes we data' x = unit_write (rd_field x.word) we data'

with-same : (o : Option Entry) (b : Bus) (es : List Entry) → result_for o b es ≡ result_with o (writes b.result_we b.result_data) es
with-same None b es = refl
with-same (Some p) b es = refl

-- what a bus says of its result channel
pub record ResultOn (b : Bus) (t : Bool) (id we data' : ℕ) : Type 0 where
  pub taken : is_taken b ≡ t
  pub id_is : b.result_id ≡ id
  pub we_is : b.result_we ≡ we
  pub data_is : b.result_data ≡ data'

result-same : (b : Bus) (t : Bool) (id we data' : ℕ) (es : List Entry) → ResultOn b t id we data' → result_step b es ≡ cond t (result_with (find (holds_id id) es) (writes we data') es) es
result-same b t id we data' es h =
    ap (λ x. cond x (result_for (find (holds_id b.result_id) es) b es) es) h.taken
    ∙ ap (λ l. cond t l es) (with-same (find (holds_id b.result_id) es) b es)
    ∙ ap (λ i. cond t (result_with (find (holds_id i) es) (writes b.result_we b.result_data) es) es) h.id_is
    ∙ ap (λ i. cond t (result_with (find (holds_id id) es) (writes i b.result_data) es) es) h.we_is
    ∙ ap (λ i. cond t (result_with (find (holds_id id) es) (writes we i) es) es) h.data_is

abbrev pub half_for : Choices → (issued : Bool) → Response → (given : Bool) → List Entry → List Entry
half_for ch ti r tg es = drain_step ch.drain (cut_step ch.cut (release_step ch.release (sent_entries tg ch.present (cond ti (answer_on ch.offer r es) es))))

abbrev pub settled_for : Choices → (taken : Bool) → (id we data' : ℕ) → List Entry → List Entry
settled_for ch tr id we data' es = retire_step ch.retire (execute_step ch.execute (cond tr (result_with (find (holds_id id) es) (writes we data') es) es))

pub settled-is : (ch : Choices) (b : Bus) (ti : Bool) (r : Response) (tg tr : Bool) (id we data' : ℕ) (es : List Entry) → is_issued b ≡ ti → response_on b ≡ r → is_given b ≡ tg → ResultOn b tr id we data'
    → settled_entries ch b es ≡ settled_for ch tr id we data' (half_for ch ti r tg es)
settled-is ch b ti r tg tr id we data' es h k g q =
    let first : sent_step ch.present b (response_step ch.offer b es) ≡ sent_entries tg ch.present (cond ti (answer_on ch.offer r es) es) =
    ap (sent_step ch.present b) (response-same ch.offer b ti r es h k) ∙ sent-same ch.present b tg (cond ti (answer_on ch.offer r es) es) g in
    ap (λ l. retire_step ch.retire (execute_step ch.execute (result_step b (drain_step ch.drain (cut_step ch.cut (release_step ch.release l)))))) first
    ∙ ap (λ l. retire_step ch.retire (execute_step ch.execute l)) (result-same b tr id we data' (half_for ch ti r tg es) q)

-- ---- the engine

-- the issue transaction that waits is that of the use that was offered
pub waits-for : (P : ℕ → Type 0) (ts : Transactions) (valid ready : Bool) (s : ℕ) → (valid ≡ true → (valid && ready) ≡ false → P s) → IfSome (transactions_after ts (owner_if valid s) ready).waiting (λ t. P t.owner)
waits-for P ts true true s h = tt
waits-for P ts true false s h = h refl refl
waits-for P ts false ready s h = tt
