-- What an event makes of an entry is what a cycle makes of the entry of that number.
use Rattle.std.proofs.Common.{◌≡◌, ◌&&◌, ◌||◌, ℕ, Bool, true, false, not, nat_le, Option, Some, refl, ap, ◌∙◌, if◌then◌else◌}
use Rattle.std.proofs.lemmas.Bool.{eq-eqb}
use Rattle.inorder_machine.specs.declared.line.Retire.{Retire}
use Rattle.inorder_machine.specs.declared.line.Write.{Write}
use Rattle.inorder_machine.specs.declared.stop.StopCause.{StopCause}
use Rattle.inorder_machine.specs.declared.stop.StopCause.TheVariants.{Illegal}
use Rattle.xif_session.specs.declared.fact.Response.{Response}
use Rattle.xif_session.specs.Facts.{is_accepted}
use Rattle.cycle_spec.specs.declared.entry.Entry.{Entry}
use Rattle.cycle_spec.specs.Flight.{has_seq, with_response, with_sent, with_release, with_result, with_line, with_stop}
use Rattle.ahead_spec.specs.World.{executed_with, halted_with, answered_with, sent_of, released_of, finished_with}

here : (e : Entry) → has_seq e.seq e ≡ true
here e = eq-eqb e.seq e.seq refl

-- the changes by their tests

response_by : Bool → Response → Entry → Entry
response_by t r e = record e {
  response = if t then Some r else e.response;
  stop = if t && not r.accept then Some Illegal else e.stop;
}

line_by : Bool → Retire → Entry → Entry
line_by t l e = record e {
  done = e.done || t;
  write = if t then l.write else e.write;
  store = if t then l.store else e.store;
  next = if t then l.next else e.next;
}

result_by : Bool → Write → Entry → Entry
result_by t w e = record e { done = e.done || t; write = if t then w else e.write }

or_true : (b : Bool) → (b || true) ≡ true
or_true true = refl
or_true false = refl

or_false : (b : Bool) → (b || false) ≡ b
or_false true = refl
or_false false = refl

accepted-stop : (accept : Bool) (stop : Option StopCause) → (if not accept then Some Illegal else stop) ≡ (if accept then stop else Some Illegal)
accepted-stop true stop = refl
accepted-stop false stop = refl

-- ---- the entry of the number

pub with_response-here : (e : Entry) (r : Response) → with_response e.seq r e ≡ answered_with r e
unfolding response_by
with_response-here e r =
    ap (λ t. response_by t r e) (here e) ∙ ap (λ s. record e { response = Some r; stop = s }) (accepted-stop r.accept e.stop)

pub with_sent-here : (e : Entry) → with_sent e.seq e ≡ sent_of e
with_sent-here e = ap (λ t. record e { operands_sent = e.operands_sent || t }) (here e) ∙ ap (λ t. record e { operands_sent = t }) (or_true e.operands_sent)

pub with_line-here : (e : Entry) (l : Retire) → with_line e.seq l e ≡ executed_with l e
unfolding line_by
with_line-here e l =
    ap (λ t. line_by t l e) (here e) ∙ ap (λ d. record e { done = d; write = l.write; store = l.store; next = l.next }) (or_true e.done)

pub with_stop-here : (e : Entry) (c : StopCause) → with_stop e.seq c e ≡ halted_with c e
with_stop-here e c = ap (λ t. record e { stop = if t then Some c else e.stop }) (here e)

pub with_result-here : (e : Entry) (w : Write) → with_result e.seq w e ≡ finished_with w e
unfolding result_by
with_result-here e w = ap (λ t. result_by t w e) (here e) ∙ ap (λ d. record e { done = d; write = w }) (or_true e.done)

-- a release is for all up to a number
pub with_release-older : (seq : ℕ) (e : Entry) → nat_le e.seq seq ≡ true → with_release seq e ≡ released_of e
with_release-older seq e h = ap (λ t. record e { released = e.released || (t && is_accepted e.response) }) h

-- ---- another entry

pub with_response-other : (seq : ℕ) (e : Entry) (r : Response) → has_seq seq e ≡ false → with_response seq r e ≡ e
unfolding response_by
with_response-other seq e r h = ap (λ t. response_by t r e) h

pub with_sent-other : (seq : ℕ) (e : Entry) → has_seq seq e ≡ false → with_sent seq e ≡ e
with_sent-other seq e h = ap (λ t. record e { operands_sent = e.operands_sent || t }) h ∙ ap (λ t. record e { operands_sent = t }) (or_false e.operands_sent)

pub with_line-other : (seq : ℕ) (e : Entry) (l : Retire) → has_seq seq e ≡ false → with_line seq l e ≡ e
unfolding line_by
with_line-other seq e l h = ap (λ t. line_by t l e) h ∙ ap (λ d. record e { done = d }) (or_false e.done)

pub with_stop-other : (seq : ℕ) (e : Entry) (c : StopCause) → has_seq seq e ≡ false → with_stop seq c e ≡ e
with_stop-other seq e c h = ap (λ t. record e { stop = if t then Some c else e.stop }) h

pub with_result-other : (seq : ℕ) (e : Entry) (w : Write) → has_seq seq e ≡ false → with_result seq w e ≡ e
unfolding result_by
with_result-other seq e w h = ap (λ t. result_by t w e) h ∙ ap (λ d. record e { done = d }) (or_false e.done)

pub with_release-younger : (seq : ℕ) (e : Entry) → nat_le e.seq seq ≡ false → with_release seq e ≡ e
with_release-younger seq e h = ap (λ t. record e { released = e.released || (t && is_accepted e.response) }) h ∙ ap (λ t. record e { released = t }) (or_false e.released)
