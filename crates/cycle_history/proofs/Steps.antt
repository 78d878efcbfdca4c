-- What a cycle makes of each instruction in flight, by one function.
use Rattle.std.proofs.Common.{◌≡◌, ◌⊎◌, inl, inr, ◌||◌, if◌then◌else◌, ℕ, Bool, true, false, Option, Some, None, List, [], ◌∷◌, map, take, find, refl, sym, ap, ◌∙◌}
use Rattle.std.proofs.lemmas.Bool.{eqb-true}
use Rattle.rv32_table.specs.Instr.{rd_field}
use Rattle.inorder_machine.specs.declared.line.Write.{Write}
use Rattle.inorder_machine.specs.declared.line.Stepped.{Stepped}
use Rattle.inorder_machine.specs.declared.line.Stepped.TheVariants.{Retired, Stop}
use Rattle.inorder_machine.specs.Units.{unit_write}
use Rattle.xif_signals.specs.declared.bus.Bus.{Bus}
use Rattle.xif_session.specs.declared.fact.Response.{Response}
use Rattle.xif_session.specs.Facts.{is_issued, is_given, is_taken, response_on}
use Rattle.cycle_spec.specs.declared.choices.Choices.{Choices}
use Rattle.cycle_spec.specs.declared.choices.Executed.{Executed}
use Rattle.cycle_spec.specs.declared.choices.Presented.{Presented}
use Rattle.cycle_spec.specs.declared.entry.Entry.{Entry}
use Rattle.cycle_spec.specs.declared.log.Cut.{Cut}
use Rattle.cycle_spec.specs.Flight.{holds_id, has_seq, with_response, with_sent, with_release, with_result, with_outcome}
use Rattle.cycle_lists.proofs.Tests.{or-left}
use Rattle.cycle_history.proofs.Flying.{KeepsPlace}
use Rattle.cycle_spec.specs.Core.{response_step, sent_step, release_step, cut_step, drain_step, result_step, execute_step, retire_step, kept_entries, settled_entries}

-- a change, if there is something to change by
abbrev pub by_some : {A : Type 0} → Bool → Option A → (A → Entry → Entry) → Entry → Entry
by_some false o change e = e
by_some true None change e = e
by_some true (Some a) change e = change a e

pub some-keeps : {A B : Type 0} (g : Entry → B) (t : Bool) (o : Option A) (change : A → Entry → Entry) (e : Entry) → ((a : A) → g (change a e) ≡ g e) → g (by_some t o change e) ≡ g e
some-keeps g false o change e h = refl
some-keeps g true None change e h = refl
some-keeps g true (Some a) change e h = h a

-- the steps up to the cut
abbrev pub first_change : Choices → Bus → Entry → Entry
first_change ch b e =
    by_some true ch.release (λ p. with_release p.seq)
    (by_some (is_given b) ch.present (λ x. with_sent x.entry.seq)
    (by_some (is_issued b) ch.offer (λ p. with_response p.seq (response_on b)) e))

abbrev pub cutting : Choices → List Entry → List Entry
cutting ch es = drain_step ch.drain (cut_step ch.cut es)

-- and those behind it; the entry of a result is found among those that stay
abbrev pub result_entry : Choices → Bus → List Entry → Option Entry
result_entry ch b es = find (holds_id b.result_id) (kept_entries ch b es)

abbrev pub whole_change : Choices → Bus → List Entry → Entry → Entry
whole_change ch b es e =
    by_some true ch.execute (λ x. with_outcome x.entry.seq x.outcome)
    (by_some (is_taken b) (result_entry ch b es) (λ p. with_result p.seq (unit_write (rd_field p.word) b.result_we b.result_data)) (first_change ch b e))

-- ---- as maps

itself : (es : List Entry) → map (λ e. e) es ≡ es
itself [] = refl
itself (e ∷ es) = ap (λ l. e ∷ l) (itself es)

on : (f g : Entry → Entry) (es : List Entry) → map g (map f es) ≡ map (λ e. g (f e)) es
on f g [] = refl
on f g (e ∷ es) = ap (λ l. g (f e) ∷ l) (on f g es)

responses : (o : Option Entry) (b : Bus) (es : List Entry) → response_step o b es ≡ map (by_some (is_issued b) o (λ p. with_response p.seq (response_on b))) es
responses o b es = go (is_issued b) o
  where
    go : (t : Bool) (o : Option Entry) → (if t then Rattle.cycle_spec.specs.Core.response_on_offer o b es else es) ≡ map (by_some t o (λ p. with_response p.seq (response_on b))) es
    go false o = sym (itself es)
    go true None = sym (itself es)
    go true (Some p) = refl

sents : (o : Option Presented) (b : Bus) (es : List Entry) → sent_step o b es ≡ map (by_some (is_given b) o (λ x. with_sent x.entry.seq)) es
sents o b es = go (is_given b) o
  where
    go : (t : Bool) (o : Option Presented) → (if t then Rattle.cycle_spec.specs.Core.sent_on_present o es else es) ≡ map (by_some t o (λ x. with_sent x.entry.seq)) es
    go false o = sym (itself es)
    go true None = sym (itself es)
    go true (Some x) = refl

releases : (o : Option Entry) (es : List Entry) → release_step o es ≡ map (by_some true o (λ p. with_release p.seq)) es
releases None es = sym (itself es)
releases (Some p) es = refl

results : (q : Option Entry) (b : Bus) (es : List Entry) → (if is_taken b then Rattle.cycle_spec.specs.Core.result_for q b es else es) ≡ map (by_some (is_taken b) q (λ p. with_result p.seq (unit_write (rd_field p.word) b.result_we b.result_data))) es
results q b es = go (is_taken b) q
  where
    go : (t : Bool) (q : Option Entry) → (if t then Rattle.cycle_spec.specs.Core.result_for q b es else es) ≡ map (by_some t q (λ p. with_result p.seq (unit_write (rd_field p.word) b.result_we b.result_data))) es
    go false q = sym (itself es)
    go true None = sym (itself es)
    go true (Some p) = refl

executes : (o : Option Executed) (es : List Entry) → execute_step o es ≡ map (by_some true o (λ x. with_outcome x.entry.seq x.outcome)) es
executes None es = sym (itself es)
executes (Some x) es = refl

take-mapped : (f : Entry → Entry) (k : ℕ) (es : List Entry) → take k (map f es) ≡ map f (take k es)
take-mapped f k es = Rattle.std.proofs.lemmas.List.take-map f k es

cut-mapped : (f : Entry → Entry) (ch : Choices) (es : List Entry) → cutting ch (map f es) ≡ map f (cutting ch es)
cut-mapped f ch es = go ch.drain ch.cut
  where
    cut : (c : Option Cut) → cut_step c (map f es) ≡ map f (cut_step c es)
    cut None = refl
    cut (Some c) = take-mapped f c.keep es

    go : (d : Option ℕ) (c : Option Cut) → drain_step d (cut_step c (map f es)) ≡ map f (drain_step d (cut_step c es))
    go None c = cut c
    go (Some k) c = ap (take k) (cut c) ∙ take-mapped f k (cut_step c es)

pub kept-map : (ch : Choices) (b : Bus) (es : List Entry) → kept_entries ch b es ≡ map (first_change ch b) (cutting ch es)
kept-map ch b es =
    let f1 = by_some (is_issued b) ch.offer (λ (p : Entry). with_response p.seq (response_on b)) in
    let f2 = by_some (is_given b) ch.present (λ (x : Presented). with_sent x.entry.seq) in
    let f3 = by_some true ch.release (λ (p : Entry). with_release p.seq) in
    let one = responses ch.offer b es in
    let two = sents ch.present b (response_step ch.offer b es) ∙ ap (map f2) one ∙ on f1 f2 es in
    let three = releases ch.release (sent_step ch.present b (response_step ch.offer b es)) ∙ ap (map f3) two ∙ on (λ e. f2 (f1 e)) f3 es in
    ap (cutting ch) three ∙ cut-mapped (first_change ch b) ch es

pub settled-map : (ch : Choices) (b : Bus) (es : List Entry) → settled_entries ch b es ≡ retire_step ch.retire (map (whole_change ch b es) (cutting ch es))
settled-map ch b es =
    let q = result_entry ch b es in
    let f1 = by_some (is_taken b) q (λ (p : Entry). with_result p.seq (unit_write (rd_field p.word) b.result_we b.result_data)) in
    let f2 = by_some true ch.execute (λ (x : Executed). with_outcome x.entry.seq x.outcome) in
    let first = results q b (kept_entries ch b es) ∙ ap (map f1) (kept-map ch b es) ∙ on (first_change ch b) f1 (cutting ch es) in
    ap (retire_step ch.retire) (executes ch.execute (result_step b (kept_entries ch b es)) ∙ ap (map f2) first ∙ on (λ e. f1 (first_change ch b e)) f2 (cutting ch es))

-- ---- what they keep

outcome-keeps : {B : Type 0} (g : Entry → B) (s : ℕ) (o : Stepped) (e : Entry) → ((l : _) → g (Rattle.cycle_spec.specs.Flight.with_line s l e) ≡ g e) → ((c : _) → g (Rattle.cycle_spec.specs.Flight.with_stop s c e) ≡ g e) → g (with_outcome s o e) ≡ g e
outcome-keeps g s (Retired l) e p q = p l
outcome-keeps g s (Stop c) e p q = q c

-- up to the cut, behind the response
abbrev response_change : Choices → Bus → Entry → Entry
response_change ch b e = by_some (is_issued b) ch.offer (λ (p : Entry). with_response p.seq (response_on b)) e

abbrev sent_change : Choices → Bus → Entry → Entry
sent_change ch b e = by_some (is_given b) ch.present (λ (x : Presented). with_sent x.entry.seq) (response_change ch b e)

first-behind : {B : Type 0} (g : Entry → B) (ch : Choices) (b : Bus) (e : Entry) → ((s : ℕ) (e : Entry) → g (with_sent s e) ≡ g e) → ((s : ℕ) (e : Entry) → g (with_release s e) ≡ g e) → g (first_change ch b e) ≡ g (response_change ch b e)
first-behind g ch b e p q =
    some-keeps g true ch.release (λ (p : Entry). with_release p.seq) (sent_change ch b e) (λ a. q a.seq (sent_change ch b e))
    ∙ some-keeps g (is_given b) ch.present (λ (x : Presented). with_sent x.entry.seq) (response_change ch b e) (λ a. p a.entry.seq (response_change ch b e))

pub first-keeps : {B : Type 0} (g : Entry → B) (ch : Choices) (b : Bus) (e : Entry) → ((s : ℕ) (r : Response) (e : Entry) → g (with_response s r e) ≡ g e) → ((s : ℕ) (e : Entry) → g (with_sent s e) ≡ g e) → ((s : ℕ) (e : Entry) → g (with_release s e) ≡ g e)
    → g (first_change ch b e) ≡ g e
first-keeps g ch b e r p q = first-behind g ch b e p q ∙ some-keeps g (is_issued b) ch.offer (λ (p : Entry). with_response p.seq (response_on b)) e (λ a. r a.seq (response_on b) e)

-- the whole
abbrev result_change : Choices → Bus → List Entry → Entry → Entry
result_change ch b es e = by_some (is_taken b) (result_entry ch b es) (λ (p : Entry). with_result p.seq (unit_write (rd_field p.word) b.result_we b.result_data)) (first_change ch b e)

pub whole-keeps : {B : Type 0} (g : Entry → B) (ch : Choices) (b : Bus) (es : List Entry) (e : Entry) → ((s : ℕ) (w : Write) (e : Entry) → g (with_result s w e) ≡ g e) → ((s : ℕ) (o : Stepped) (e : Entry) → g (with_outcome s o e) ≡ g e) → g (whole_change ch b es e) ≡ g (first_change ch b e)
whole-keeps g ch b es e p q =
    some-keeps g true ch.execute (λ (x : Executed). with_outcome x.entry.seq x.outcome) (result_change ch b es e) (λ a. q a.entry.seq a.outcome (result_change ch b es e))
    ∙ some-keeps g (is_taken b) (result_entry ch b es) (λ (p : Entry). with_result p.seq (unit_write (rd_field p.word) b.result_we b.result_data)) (first_change ch b e)
    (λ a. p a.seq (unit_write (rd_field a.word) b.result_we b.result_data) (first_change ch b e))

pub whole-id : (ch : Choices) (b : Bus) (es : List Entry) (e : Entry) → (whole_change ch b es e).id ≡ e.id
whole-id ch b es e = whole-keeps (λ e. e.id) ch b es e (λ s w e. refl) (λ s o e. outcome-keeps (λ e. e.id) s o e (λ l. refl) (λ c. refl)) ∙ first-keeps (λ e. e.id) ch b e (λ s r e. refl) (λ s e. refl) (λ s e. refl)

pub first-id : (ch : Choices) (b : Bus) (e : Entry) → (first_change ch b e).id ≡ e.id
first-id ch b e = first-keeps (λ e. e.id) ch b e (λ s r e. refl) (λ s e. refl) (λ s e. refl)

pub first-seq : (ch : Choices) (b : Bus) (e : Entry) → (first_change ch b e).seq ≡ e.seq
first-seq ch b e = first-keeps (λ e. e.seq) ch b e (λ s r e. refl) (λ s e. refl) (λ s e. refl)

pub first-done : (ch : Choices) (b : Bus) (e : Entry) → (first_change ch b e).done ≡ e.done
first-done ch b e = first-keeps (λ e. e.done) ch b e (λ s r e. refl) (λ s e. refl) (λ s e. refl)

pub first-kind : (ch : Choices) (b : Bus) (e : Entry) → (first_change ch b e).kind ≡ e.kind
first-kind ch b e = first-keeps (λ e. e.kind) ch b e (λ s r e. refl) (λ s e. refl) (λ s e. refl)

pub keeps-place : (ch : Choices) (b : Bus) (es : List Entry) → KeepsPlace (whole_change ch b es)
keeps-place ch b es = record {
  pc = λ e. whole-keeps (λ e. e.pc) ch b es e (λ s w e. refl) (λ s o e. outcome-keeps (λ e. e.pc) s o e (λ l. refl) (λ c. refl)) ∙ first-keeps (λ e. e.pc) ch b e (λ s r e. refl) (λ s e. refl) (λ s e. refl);
  kind = λ e. whole-keeps (λ e. e.kind) ch b es e (λ s w e. refl) (λ s o e. outcome-keeps (λ e. e.kind) s o e (λ l. refl) (λ c. refl)) ∙ first-kind ch b e;
  word = λ e. whole-keeps (λ e. e.word) ch b es e (λ s w e. refl) (λ s o e. outcome-keeps (λ e. e.word) s o e (λ l. refl) (λ c. refl)) ∙ first-keeps (λ e. e.word) ch b e (λ s r e. refl) (λ s e. refl) (λ s e. refl);
}

pub whole-response : (ch : Choices) (b : Bus) (es : List Entry) (e : Entry) → (whole_change ch b es e).response ≡ (first_change ch b e).response
whole-response ch b es e = whole-keeps (λ e. e.response) ch b es e (λ s w e. refl) (λ s o e. outcome-keeps (λ e. e.response) s o e (λ l. refl) (λ c. refl))

pub first-response : (ch : Choices) (b : Bus) (e : Entry) → (first_change ch b e).response ≡ (response_change ch b e).response
first-response ch b e = first-behind (λ e. e.response) ch b e (λ s e. refl) (λ s e. refl)

-- it is done with a result, or as an instruction of RV32IM, if it wasn't
pub data Doing (ch : Choices) (b : Bus) (es : List Entry) (e : Entry) : Type 0 where
  Was : e.done ≡ true → Doing ch b es e
  Given : (p : Entry) → is_taken b ≡ true → result_entry ch b es ≡ Some p → e.seq ≡ p.seq → Doing ch b es e
  Executes : (x : Executed) → ch.execute ≡ Some x → e.seq ≡ x.entry.seq → Doing ch b es e

pub whole-done : (ch : Choices) (b : Bus) (es : List Entry) (e : Entry) → (whole_change ch b es e).done ≡ true → Doing ch b es e
whole-done ch b es e h = outer ch.execute refl h
  where
    seq : (result_change ch b es e).seq ≡ e.seq
    seq = some-keeps (λ e. e.seq) (is_taken b) (result_entry ch b es) (λ (p : Entry). with_result p.seq (unit_write (rd_field p.word) b.result_we b.result_data)) (first_change ch b e) (λ a. refl) ∙ first-seq ch b e

    either : (a c : Bool) → (a || c) ≡ true → (a ≡ true) ⊎ (c ≡ true)
    either true c h = inl refl
    either false c h = inr h

    inner : (t : Bool) (q : Option Entry) → is_taken b ≡ t → result_entry ch b es ≡ q → (by_some t q (λ (p : Entry). with_result p.seq (unit_write (rd_field p.word) b.result_we b.result_data)) (first_change ch b e)).done ≡ true → Doing ch b es e
    inner false q a r k = Was (sym (first-done ch b e) ∙ k)
    inner true None a r k = Was (sym (first-done ch b e) ∙ k)
    inner true (Some p) a r k = on (either (first_change ch b e).done (has_seq p.seq (first_change ch b e)) k)
      where
        on : ((first_change ch b e).done ≡ true) ⊎ (has_seq p.seq (first_change ch b e) ≡ true) → Doing ch b es e
        on (inl z) = Was (sym (first-done ch b e) ∙ z)
        on (inr z) = Given p a r (sym (first-seq ch b e) ∙ eqb-true (first_change ch b e).seq p.seq z)

    back : (result_change ch b es e).done ≡ true → Doing ch b es e
    back k = inner (is_taken b) (result_entry ch b es) refl refl k

    stepped : (x : Executed) (o : Stepped) → ch.execute ≡ Some x → (with_outcome x.entry.seq o (result_change ch b es e)).done ≡ true → Doing ch b es e
    stepped x (Retired l) q k = on (either (result_change ch b es e).done (has_seq x.entry.seq (result_change ch b es e)) k)
      where
        on : ((result_change ch b es e).done ≡ true) ⊎ (has_seq x.entry.seq (result_change ch b es e) ≡ true) → Doing ch b es e
        on (inl z) = back z
        on (inr z) = Executes x q (sym seq ∙ eqb-true (result_change ch b es e).seq x.entry.seq z)
    stepped x (Stop c) q k = back k

    outer : (o : Option Executed) → ch.execute ≡ o → (by_some true o (λ (x : Executed). with_outcome x.entry.seq x.outcome) (result_change ch b es e)).done ≡ true → Doing ch b es e
    outer None q k = back k
    outer (Some x) q k = stepped x x.outcome q k

-- what is done stays done
pub done-stays : (ch : Choices) (b : Bus) (es : List Entry) (e : Entry) → e.done ≡ true → (whole_change ch b es e).done ≡ true
done-stays ch b es e h = outer ch.execute
  where
    first : (first_change ch b e).done ≡ true
    first = first-done ch b e ∙ h

    inner : (t : Bool) (q : Option Entry) → (by_some t q (λ (p : Entry). with_result p.seq (unit_write (rd_field p.word) b.result_we b.result_data)) (first_change ch b e)).done ≡ true
    inner false q = first
    inner true None = first
    inner true (Some p) = or-left (first_change ch b e).done (has_seq p.seq (first_change ch b e)) first

    middle : (result_change ch b es e).done ≡ true
    middle = inner (is_taken b) (result_entry ch b es)

    stepped : (s : ℕ) (o : Stepped) → (with_outcome s o (result_change ch b es e)).done ≡ true
    stepped s (Retired l) = or-left (result_change ch b es e).done (has_seq s (result_change ch b es e)) middle
    stepped s (Stop c) = middle

    outer : (o : Option Executed) → (by_some true o (λ (x : Executed). with_outcome x.entry.seq x.outcome) (result_change ch b es e)).done ≡ true
    outer None = middle
    outer (Some x) = stepped x.entry.seq x.outcome
