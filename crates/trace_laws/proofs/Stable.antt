-- Over a cycle what is there for an instruction in flight stays.
use Rattle.std.proofs.Common.{◌≡◌, ◌≢◌, ◌<◌, ◌++◌, ◌==◌, ◌||◌, ℕ, Bool, true, false, if◌then◌else◌, Option, Some, None, List, [], ◌∷◌, length, refl, sym, ap, ◌∙◌, subst, arith}
use Rattle.std.specs.Prelude.{find, IfSome}
use Rattle.std.proofs.lemmas.Bool.{eqb-true}
use Rattle.rv32_table.specs.declared.instr.Instr.{Instr}
use Rattle.rv32_table.specs.Instr.{rd_field, decoded}
use Rattle.xif_image.specs.Region.{word_at}
use Rattle.inorder_machine.specs.Machine.{registers_after}
use Rattle.inorder_machine.specs.Units.{unit_write}
use Rattle.xif_signals.specs.declared.bus.Bus.{Bus}
use Rattle.xif_session.specs.Facts.{is_issued, is_given, is_taken, response_on}
use Rattle.cycle_spec.specs.declared.choices.Choices.{Choices}
use Rattle.cycle_spec.specs.declared.choices.Executed.{Executed}
use Rattle.cycle_spec.specs.declared.choices.Presented.{Presented}
use Rattle.cycle_spec.specs.declared.entry.Entry.{Entry}
use Rattle.cycle_spec.specs.declared.entry.EntryKind.TheVariants.{Local}
use Rattle.cycle_spec.specs.declared.log.Cut.{Cut}
use Rattle.cycle_spec.specs.Flight.{is_unknown, is_unknown_kind, has_seq, holds_id, kind_at, kind_by, free_id, with_response, with_sent, with_release, with_result, with_outcome}
use Rattle.cycle_spec.specs.State.{Core}
use Rattle.cycle_spec.specs.Core.{response_on_offer, sent_on_present, release_step, cut_step, drain_step, result_for, execute_step, retire_step, answered_entries, sent_entries, released_entries, kept_entries, finished_entries, executed_entries, settled_entries, registers_behind, memory_behind, ahead_behind, word_or_zero, with_dispatch, dispatch_of, next_entry}
use Rattle.cycle_lists.specs.Lists.{Each, Pairs}
use Rattle.cycle_lists.specs.Order.{Before}
use Rattle.cycle_lists.proofs.Tests.{and-left, and-right, false-or, or-false}
use Rattle.cycle_lists.proofs.Every.{each, Each-both, Each-at, Each-push}
use Rattle.cycle_lists.proofs.Order.{Kept, leaves-response, leaves-sent, leaves-release, leaves-result, leaves-outcome}
use Rattle.cycle_lists.proofs.Places.{first-at}
use Rattle.cycle_paired.proofs.Facts.{only}
use Rattle.trace_laws.proofs.Views.{Stays, stays-same, stays-then, stays-retired, stays-push}
use Rattle.trace_laws.proofs.Paths.{Fit, Finishing, Executing, executing-same, Heads, Path, path-map, path-weaker, path-take, plain, fit-same, IsOffer, Answers, steady-answer, fit-answer, steady-result, fit-result, steady-outcome, fit-outcome}

-- what is known of a cycle
pub record Known (w : Core) (ch : Choices) (b : Bus) : Type 0 where
  pub kept : Kept w.next_seq (free_id w.flight) w.flight
  pub fit : Each (Fit w.params.dual_write) w.flight
  pub offers : IfSome ch.offer (λ e. Each (λ x. x.seq ≡ e.seq → IsOffer b w.params.dual_write x) w.flight)
  pub answers : Answers b w.params.dual_write
  pub finishing : Each (Finishing b) (kept_entries ch b w.flight)
  pub executing : Each (Executing ch.execute) w.flight
  pub head : Heads ch.retire w.flight
  pub count : length w.registers ≡ 32

-- an entry before what executes is done
abbrev Early : Bool → Option Executed → Entry → Type 0
Early dual o x = Fit dual x × Executing o x

always : (P : Entry → Type 0) (es : List Entry) → ((x : Entry) → P x) → Each P es
always P es k = each P es k

known-local : (x : Entry) (i : Instr) → x.kind ≡ Local i → is_unknown x ≡ true → ⊥
known-local x i k u = let bad : false ≡ true = sym (ap is_unknown_kind k) ∙ u in cc

module _ (w : Core) (ch : Choices) (b : Bus) (s : ℕ) (k : Known w ch b) where
  abbrev dual : Bool
  dual = w.params.dual_write

  abbrev Through : (Entry → Type 0) → List Entry → Type 0
  Through Q es = Path dual s w.next_seq (free_id w.flight) w.registers w.flight ch.retire Q es

  begun : Through (Early dual ch.execute) w.flight
  begun = record {
    stays = stays-same dual s w.registers w.flight;
    kept = k.kept;
    facts = Each-both (Fit dual) (Executing ch.execute) (Early dual ch.execute) w.flight (λ x f r. (f, r)) k.fit k.executing;
    head = k.head;
  }

  answered : Through (Early dual ch.execute) (answered_entries ch b w.flight)
  answered = go (is_issued b) refl ch.offer k.offers
    where
      go : (t : Bool) → is_issued b ≡ t → (o : Option Entry) → IfSome o (λ e. Each (λ x. x.seq ≡ e.seq → IsOffer b dual x) w.flight) → Through (Early dual ch.execute) (if t then response_on_offer o b w.flight else w.flight)
      go false i o h = begun
      go true i None h = begun
      go true i (Some e) h =
          path-map dual s w.next_seq (free_id w.flight) w.registers w.flight ch.retire (Early dual ch.execute) (Early dual ch.execute) (λ x. x.seq ≡ e.seq → IsOffer b dual x) (with_response e.seq (response_on b)) w.flight (leaves-response e.seq (response_on b)) h
          (λ x q o. (steady-answer dual e.seq b x i k.answers o, (fit-answer dual e.seq b x i k.answers o q.0, executing-same ch.execute x (with_response e.seq (response_on b) x) refl refl refl q.1))) begun

  -- a change that leaves all of it
  plainly : (f : Entry → Entry) (x : Entry) → (f x).seq ≡ x.seq → (f x).kind ≡ x.kind → (f x).response ≡ x.response → (f x).word ≡ x.word → (f x).done ≡ x.done → (f x).write ≡ x.write → Early dual ch.execute x → Early dual ch.execute (f x)
  plainly f x a c r wd d t q = (fit-same dual x (f x) c r wd d t q.0, executing-same ch.execute x (f x) a c d q.1)

  sent : Through (Early dual ch.execute) (sent_entries ch b w.flight)
  sent = go (is_given b) ch.present
    where
      go : (t : Bool) (o : Option Presented) → Through (Early dual ch.execute) (if t then sent_on_present o (answered_entries ch b w.flight) else answered_entries ch b w.flight)
      go false o = answered
      go true None = answered
      go true (Some y) =
          path-map dual s w.next_seq (free_id w.flight) w.registers w.flight ch.retire (Early dual ch.execute) (Early dual ch.execute) (λ x. Unit {0}) (with_sent y.entry.seq) (answered_entries ch b w.flight) (leaves-sent y.entry.seq) (always (λ x. Unit {0}) (answered_entries ch b w.flight) (λ x. tt))
          (λ x q o. (plain dual (with_sent y.entry.seq) x refl refl refl refl refl, plainly (with_sent y.entry.seq) x refl refl refl refl refl refl q)) answered

  released : Through (Early dual ch.execute) (released_entries ch b w.flight)
  released = go ch.release
    where
      go : (o : Option Entry) → Through (Early dual ch.execute) (release_step o (sent_entries ch b w.flight))
      go None = sent
      go (Some e) =
          path-map dual s w.next_seq (free_id w.flight) w.registers w.flight ch.retire (Early dual ch.execute) (Early dual ch.execute) (λ x. Unit {0}) (with_release e.seq) (sent_entries ch b w.flight) (leaves-release e.seq) (always (λ x. Unit {0}) (sent_entries ch b w.flight) (λ x. tt))
          (λ x q o. (plain dual (with_release e.seq) x refl refl refl refl refl, plainly (with_release e.seq) x refl refl refl refl refl refl q)) sent

  cut : (o : Option Cut) (es : List Entry) → Through (Early dual ch.execute) es → Through (Early dual ch.execute) (cut_step o es)
  cut None es p = p
  cut (Some c) es p = path-take dual s w.next_seq (free_id w.flight) w.registers w.flight ch.retire (Early dual ch.execute) c.keep es p

  drained : (o : Option ℕ) (es : List Entry) → Through (Early dual ch.execute) es → Through (Early dual ch.execute) (drain_step o es)
  drained None es p = p
  drained (Some n) es p = path-take dual s w.next_seq (free_id w.flight) w.registers w.flight ch.retire (Early dual ch.execute) n es p

  stay : Through (Early dual ch.execute) (kept_entries ch b w.flight)
  stay = drained ch.drain (cut_step ch.cut (released_entries ch b w.flight)) (cut ch.cut (released_entries ch b w.flight) released)

  finished : Through (Early dual ch.execute) (finished_entries ch b w.flight)
  finished = go (is_taken b) refl (find (holds_id b.result_id) (kept_entries ch b w.flight)) refl
    where
      executing : (y : Entry) → is_unknown y ≡ true → (x : Entry) → (x.seq ≡ y.seq → x ≡ y) → (o : Option Executed) → Executing o x → Executing o (with_result y.seq (unit_write (rd_field y.word) b.result_we b.result_data) x)
      executing y u x one None e = tt
      executing y u x one (Some z) e = λ q.
          let old = e q in
          let apart : has_seq y.seq x ≡ false = false-or (has_seq y.seq x) (λ t. known-local x old.instr old.kind_is (ap is_unknown (one (eqb-true x.seq y.seq t)) ∙ u)) in
          record { instr = old.instr; kind_is = old.kind_is; not_done = ap (λ t. x.done || t) apart ∙ or-false x.done ∙ old.not_done; memory = old.memory; at_word = old.at_word; a = old.a; b = old.b; is_it = old.is_it }

      go : (t : Bool) → is_taken b ≡ t → (o : Option Entry) → find (holds_id b.result_id) (kept_entries ch b w.flight) ≡ o → Through (Early dual ch.execute) (if t then result_for o b (kept_entries ch b w.flight) else kept_entries ch b w.flight)
      go false i o f = stay
      go true i None f = stay
      go true i (Some y) f =
          let at = first-at (holds_id b.result_id) (kept_entries ch b w.flight) y f in
          let u = and-left (is_unknown y) (y.id == b.result_id) at.passes in
          let fin = Each-at (Finishing b) (kept_entries ch b w.flight) at.older y at.younger at.here k.finishing i u (eqb-true y.id b.result_id (and-right (is_unknown y) (y.id == b.result_id) at.passes)) in
          let ones : Each (λ x. x.seq ≡ y.seq → x ≡ y) (kept_entries ch b w.flight) = subst (Each (λ x. x.seq ≡ y.seq → x ≡ y)) (sym at.here) (only at.older y at.younger (subst (Pairs Before) at.here stay.kept.pairs)) in
          path-map dual s w.next_seq (free_id w.flight) w.registers w.flight ch.retire (Early dual ch.execute) (Early dual ch.execute) (λ x. x.seq ≡ y.seq → x ≡ y) (with_result y.seq (unit_write (rd_field y.word) b.result_we b.result_data)) (kept_entries ch b w.flight) (leaves-result y.seq _) ones
          (λ x e one. (steady-result dual b y u fin x one, (fit-result dual b y u fin x one e.0, executing y u x one ch.execute e.1))) stay

  executed : Through (Fit dual) (executed_entries ch b w.flight)
  executed = go ch.execute finished
    where
      go : (o : Option Executed) → Through (Early dual o) (finished_entries ch b w.flight) → Through (Fit dual) (execute_step o (finished_entries ch b w.flight))
      go None p = path-weaker dual s w.next_seq (free_id w.flight) w.registers w.flight ch.retire (Early dual None) (Fit dual) (finished_entries ch b w.flight) (λ x q. q.0) p
      go (Some y) p =
          path-map dual s w.next_seq (free_id w.flight) w.registers w.flight ch.retire (Early dual (Some y)) (Fit dual) (λ x. Unit {0}) (with_outcome y.entry.seq y.outcome) (finished_entries ch b w.flight) (leaves-outcome y.entry.seq y.outcome) (always (λ x. Unit {0}) (finished_entries ch b w.flight) (λ x. tt))
          (λ x q o. (steady-outcome dual y.entry.seq y.outcome x q.1, fit-outcome dual y.entry.seq y.outcome x q.1 q.0)) p

  -- ---- retirement and dispatch

  pub record Settled (registers : List ℕ) (es : List Entry) : Type 0 where
    pub stays : Stays dual s w.registers w.flight registers es
    pub facts : Each (Fit dual) es

  settled : Settled (registers_behind ch.retire w.registers) (settled_entries ch b w.flight)
  settled = go ch.retire (executed_entries ch b w.flight) executed.stays executed.facts executed.kept.pairs executed.head
    where
      go : (o : Option Entry) (es : List Entry) → Stays dual s w.registers w.flight w.registers es → Each (Fit dual) es → Pairs Before es → Heads o es → Settled (registers_behind o w.registers) (retire_step o es)
      go None es st f p h = record { stays = st; facts = f }
      go (Some e) [] st f p h = record { stays = record { there = λ t. cc; view = λ t. cc }; facts = tt }
      go (Some e) (x ∷ xs) st f p h =
          let gone : Stays dual s w.registers (x ∷ xs) (registers_after w.registers x.write) xs = stays-retired dual s w.registers x xs k.count (f.0.wrote h.0) p.0 in
          record {
            stays = stays-then dual s w.registers w.flight w.registers (x ∷ xs) (registers_after w.registers e.write) xs st (subst (λ z. Stays dual s w.registers (x ∷ xs) (registers_after w.registers z) xs) h.1 gone);
            facts = f.1;
          }

  fit-new : (answer : ℕ → ℕ → ℕ) → Fit dual (next_entry answer w ch)
  fit-new answer = record {
    even = λ r q h. cc;
    row = λ i q. by (word_at (memory_behind ch.retire w.memory) (ahead_behind ch.cut w.ahead)) i q;
    wrote = λ h. cc;
  }
    where
      by_row : (o : Option Instr) (i : Instr) → kind_by o ≡ Local i → o ≡ Some i
      by_row None i q = cc
      by_row (Some j) i q = cc

      by : (o : Option ℕ) (i : Instr) → kind_at o ≡ Local i → decoded (word_or_zero o) ≡ Some i
      by None i q = cc
      by (Some word) i q = by_row (decoded word) i q

  pub cycled : (answer : ℕ → ℕ → ℕ) → s < w.next_seq → Settled (registers_behind ch.retire w.registers) (with_dispatch (dispatch_of answer w ch) (settled_entries ch b w.flight))
  cycled answer below = go ch.dispatch
    where
      apart : w.next_seq ≢ s
      apart q = omega (arith, q, below)

      go : (t : Bool) → Settled (registers_behind ch.retire w.registers) (with_dispatch (if t then Some (next_entry answer w ch) else None) (settled_entries ch b w.flight))
      go false = settled
      go true = record {
        stays = stays-then dual s w.registers w.flight (registers_behind ch.retire w.registers) (settled_entries ch b w.flight) (registers_behind ch.retire w.registers) (settled_entries ch b w.flight ++ next_entry answer w ch ∷ [])
            settled.stays (stays-push dual s (registers_behind ch.retire w.registers) (settled_entries ch b w.flight) (next_entry answer w ch) apart);
        facts = Each-push (Fit dual) (settled_entries ch b w.flight) (next_entry answer w ch) settled.facts (fit-new answer);
      }

  -- what is done goes on to write what it may write
  pub fitted : (answer : ℕ → ℕ → ℕ) → Each (Fit dual) (with_dispatch (dispatch_of answer w ch) (settled_entries ch b w.flight))
  fitted answer = go ch.dispatch
    where
      go : (t : Bool) → Each (Fit dual) (with_dispatch (if t then Some (next_entry answer w ch) else None) (settled_entries ch b w.flight))
      go false = settled.facts
      go true = Each-push (Fit dual) (settled_entries ch b w.flight) (next_entry answer w ch) settled.facts (fit-new answer)
