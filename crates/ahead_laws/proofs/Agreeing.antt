-- What each event makes of its instruction agrees with the in-order machine.
use Rattle.std.proofs.Common.{◌≡◌, ◌||◌, ℕ, Bool, true, false, Option, Some, None, is_some, is_none, List, refl, sym, ap, subst, ◌∙◌, if◌then◌else◌}
use Rattle.rv32_table.specs.declared.instr.Instr.{Instr}
use Rattle.rv32_table.specs.Instr.{decoded}
use Rattle.xif_drive.specs.Predictors.{following}
use Rattle.xif_image.specs.Region.{Region, word_at}
use Rattle.coproc_config.specs.declared.accept.Hit.{Hit}
use Rattle.inorder_machine.specs.declared.line.Retire.{Retire}
use Rattle.inorder_machine.specs.declared.line.Store.{Store}
use Rattle.inorder_machine.specs.declared.line.Stepped.TheVariants.{Retired, Stop}
use Rattle.inorder_machine.specs.declared.stop.StopCause.{StopCause}
use Rattle.inorder_machine.specs.declared.stop.StopCause.TheVariants.{Illegal, FetchOutside}
use Rattle.inorder_machine.specs.Execute.{executed}
use Rattle.inorder_machine.specs.Machine.{Extension, State, register_of}
use Rattle.xif_session.specs.declared.fact.Response.{Response}
use Rattle.xif_session.specs.Facts.{is_accepted}
use Rattle.cycle_spec.specs.declared.entry.Entry.{Entry}
use Rattle.cycle_spec.specs.declared.entry.EntryKind.{EntryKind}
use Rattle.cycle_spec.specs.declared.entry.EntryKind.TheVariants.{Local, Unknown}
use Rattle.cycle_spec.specs.Flight.{is_unknown_kind, is_unknown, is_open, stop_by, kind_by, kind_at}
use Rattle.cycle_spec.specs.Core.{word_or_zero, line_of, entry_at}
use Rattle.ahead_spec.specs.Walk.{Item, outcome}
use Rattle.ahead_spec.specs.Operands.{word_hit, response_of, CarriesOperands, unit_step}
use Rattle.ahead_spec.specs.World.{executed_with, halted_with, answered_with, sent_of, finished_with, with_entry, released_item, result_write}
use Rattle.ahead_spec.specs.Invariant.{Agrees}
use Rattle.ahead_laws.proofs.Lists.{not_both, and_left, and_right, not_some}
use Rattle.ahead_laws.proofs.Rows.{always-stops}
use Rattle.ahead_laws.proofs.Outcomes.{unknown-kind, outcome-local, outcome-nowhere, outcome-place, outcome-taken, outcome-refused, entry-unknown, entry-outcome-local}

false_true : false ≡ true → ⊥
false_true h = cc

-- ---- a dispatch

stops-decoded : (x : Extension) (s : State) (pc word : ℕ) (c : StopCause) (o : Option Instr) → decoded word ≡ o → stop_by (kind_by o) ≡ Some c → outcome x s pc (kind_by o) word ≡ Stop c
stops-decoded x s pc word c None e h = absurd (not_some c h)
stops-decoded x s pc word c (Some i) e h =
    outcome-local x s pc i word e ∙ always-stops s.memory (record { pc = pc; word = word }) i (register_of s i.rs1) (register_of s i.rs2) c h

stops-fetched : (x : Extension) (s : State) (pc : ℕ) (c : StopCause) (o : Option ℕ) → stop_by (kind_at o) ≡ Some c → outcome x s pc (kind_at o) (word_or_zero o) ≡ Stop c
stops-fetched x s pc c None h = let same : FetchOutside ≡ c = cc in outcome-nowhere x s pc 0 ∙ ap Stop same
stops-fetched x s pc c (Some word) h = stops-decoded x s pc word c (decoded word) refl h

pub agrees-dispatched : (x : Extension) (memory : Region) (s : State) (answer : ℕ → ℕ → ℕ) (seq id pc : ℕ) → Agrees x memory s (record { entry = entry_at answer seq id pc (word_at memory pc); sent = None; result = None })
agrees-dispatched x memory s answer seq id pc = record {
  kind_is = refl;
  word_is = refl;
  predicted_is = λ h. ap (λ b. if b then answer pc (word_or_zero (word_at memory pc)) else following pc) h;
  next_is = λ h. refl;
  store_is = λ h. refl;
  response_is = λ response h. absurd (not_some response h);
  sent_is = λ lanes h. absurd (not_some lanes h);
  released_is = λ h. absurd (false_true h);
  result_is = λ result h. absurd (not_some result h);
  result_when = λ h. absurd (false_true h);
  done_is = λ h. absurd (false_true h);
  done_when = λ h. absurd (false_true h);
  stop_is = λ c h. stops-fetched x s pc c (word_at memory pc) h;
  stop_when = λ c h. ap is_some h;
}

-- ---- an execution

local-not_unknown : (k : EntryKind) (i : Instr) → k ≡ Local i → is_unknown_kind k ≡ true → ⊥
local-not_unknown k i e h = not_both (is_unknown_kind k) (ap is_unknown_kind e) h

line-here : (x : Extension) (s : State) (y : Item) (l : Retire) → outcome x s y.entry.pc y.entry.kind y.entry.word ≡ Retired l → l ≡ line_of (executed_with l y.entry)
line-here x s y l h =
    let p = outcome-place x s y.entry.pc y.entry.kind y.entry.word l h in
    ap (λ n. record { pc = n; word = l.word; next = l.next; write = l.write; store = l.store }) p.0
    ∙ ap (λ n. record { pc = y.entry.pc; word = n; next = l.next; write = l.write; store = l.store }) p.1

pub agrees-executed : (x : Extension) (memory : Region) (s : State) (y : Item) (i : Instr) (l : Retire) → y.entry.kind ≡ Local i
    → executed s.memory (record { pc = y.entry.pc; word = y.entry.word }) i (register_of s i.rs1) (register_of s i.rs2) ≡ Retired l → Agrees x memory s y → Agrees x memory s (with_entry y (executed_with l y.entry))
agrees-executed x memory s y i l k e g =
    let retires : outcome x s y.entry.pc y.entry.kind y.entry.word ≡ Retired l = entry-outcome-local x memory s y i g k ∙ e in
    record {
      kind_is = g.kind_is;
      word_is = g.word_is;
      predicted_is = g.predicted_is;
      next_is = λ u. absurd (local-not_unknown y.entry.kind i k u);
      store_is = λ u. absurd (local-not_unknown y.entry.kind i k u);
      response_is = g.response_is;
      sent_is = g.sent_is;
      released_is = g.released_is;
      result_is = g.result_is;
      result_when = g.result_when;
      done_is = λ _. retires ∙ ap Retired (line-here x s y l retires);
      done_when = λ _ u. absurd (local-not_unknown y.entry.kind i k u);
      stop_is = g.stop_is;
      stop_when = g.stop_when;
    }

pub agrees-halted : (x : Extension) (memory : Region) (s : State) (y : Item) (i : Instr) (c : StopCause) → y.entry.kind ≡ Local i
    → executed s.memory (record { pc = y.entry.pc; word = y.entry.word }) i (register_of s i.rs1) (register_of s i.rs2) ≡ Stop c → Agrees x memory s y → Agrees x memory s (with_entry y (halted_with c y.entry))
agrees-halted x memory s y i c k e g = record {
  kind_is = g.kind_is;
  word_is = g.word_is;
  predicted_is = g.predicted_is;
  next_is = g.next_is;
  store_is = g.store_is;
  response_is = g.response_is;
  sent_is = g.sent_is;
  released_is = g.released_is;
  result_is = g.result_is;
  result_when = g.result_when;
  done_is = g.done_is;
  done_when = g.done_when;
  stop_is = λ d h. let same : c ≡ d = cc in entry-outcome-local x memory s y i g k ∙ e ∙ ap Stop same;
  stop_when = λ d h. refl;
}

-- ---- an answer

pub open-unknown : (e : Entry) → is_open e ≡ true → e.kind ≡ Unknown
open-unknown e h = unknown-kind e.kind (and_left (is_unknown e) (is_none e.response) h)

pub none-is : {A : Type 0} (o : Option A) → is_none o ≡ true → o ≡ None
none-is None h = refl
none-is (Some v) h = absurd cc

pub open-unanswered : (e : Entry) → is_open e ≡ true → e.response ≡ None
open-unanswered e h = none-is e.response (and_right (is_unknown e) (is_none e.response) h)

pub unanswered-accepts : (o : Option Response) → o ≡ None → is_accepted o ≡ true → ⊥
unanswered-accepts o e h = false_true (sym (ap is_accepted e) ∙ h)

answered-stop : (x : Extension) (memory : Region) (s : State) (y : Item) (o : Option Hit) (c : StopCause) → word_hit x y.entry.word ≡ o → y.entry.kind ≡ Unknown → Agrees x memory s y
    → (if is_some o then y.entry.stop else Some Illegal) ≡ Some c → outcome x s y.entry.pc y.entry.kind y.entry.word ≡ Stop c
answered-stop x memory s y None c e u g h =
    let same : Illegal ≡ c = cc in
    ap (λ q. outcome x s y.entry.pc q y.entry.word) u ∙ outcome-refused x s y.entry.pc y.entry.word (entry-unknown x memory s y g u) e ∙ ap Stop same
answered-stop x memory s y (Some hit) c e u g h = g.stop_is c h

pub agrees-answered : (x : Extension) (memory : Region) (s : State) (y : Item) → is_open y.entry ≡ true → Agrees x memory s y → Agrees x memory s (with_entry y (answered_with (response_of (word_hit x y.entry.word)) y.entry))
agrees-answered x memory s y o g =
    let u = open-unknown y.entry o in
    record {
      kind_is = g.kind_is;
      word_is = g.word_is;
      predicted_is = g.predicted_is;
      next_is = g.next_is;
      store_is = g.store_is;
      response_is = λ r h. (ap is_unknown_kind u, (let same : response_of (word_hit x y.entry.word) ≡ r = cc in sym same));
      sent_is = g.sent_is;
      released_is = λ h. absurd (unanswered-accepts y.entry.response (open-unanswered y.entry o) (g.released_is h));
      result_is = g.result_is;
      result_when = g.result_when;
      done_is = g.done_is;
      done_when = g.done_when;
      stop_is = λ c h. answered-stop x memory s y (word_hit x y.entry.word) c refl u g h;
      stop_when = λ c h. absurd (not_some c (sym (ap stop_by u) ∙ h));
    }

-- ---- a register handshake

pub agrees-sent : (x : Extension) (memory : Region) (s : State) (y : Item) (lanes : List ℕ) → CarriesOperands x s y.entry.word lanes → Agrees x memory s y → Agrees x memory s (record y { entry = sent_of y.entry; sent = Some lanes })
agrees-sent x memory s y lanes c g = record {
  kind_is = g.kind_is;
  word_is = g.word_is;
  predicted_is = g.predicted_is;
  next_is = g.next_is;
  store_is = g.store_is;
  response_is = g.response_is;
  sent_is = λ others h. let same : lanes ≡ others = cc in subst (CarriesOperands x s y.entry.word) same c;
  released_is = g.released_is;
  result_is = g.result_is;
  result_when = g.result_when;
  done_is = g.done_is;
  done_when = g.done_when;
  stop_is = g.stop_is;
  stop_when = g.stop_when;
}

-- ---- a release

pub agrees-released : (x : Extension) (memory : Region) (s : State) (y : Item) → Agrees x memory s y → Agrees x memory s (released_item y)
agrees-released x memory s y g = record {
  kind_is = g.kind_is;
  word_is = g.word_is;
  predicted_is = g.predicted_is;
  next_is = g.next_is;
  store_is = g.store_is;
  response_is = g.response_is;
  sent_is = g.sent_is;
  released_is = λ h. by y.entry.released h g.released_is;
  result_is = g.result_is;
  result_when = λ h. still y.entry.released (g.result_when h);
  done_is = g.done_is;
  done_when = g.done_when;
  stop_is = g.stop_is;
  stop_when = g.stop_when;
}
  where
    still : (b : Bool) → b ≡ true → (b || is_accepted y.entry.response) ≡ true
    still true h = refl
    still false h = absurd (false_true h)

    by : (b : Bool) → (b || is_accepted y.entry.response) ≡ true → (b ≡ true → is_accepted y.entry.response ≡ true) → is_accepted y.entry.response ≡ true
    by true h k = k refl
    by false h k = h

-- ---- a result

pub agrees-applied : (x : Extension) (memory : Region) (s : State) (y : Item) (result : ℕ) → y.entry.released ≡ true → result ≡ (unit_step x s y.entry.word).result → Agrees x memory s y → Agrees x memory s (record y { result = Some result })
agrees-applied x memory s y result r e g = record {
  kind_is = g.kind_is;
  word_is = g.word_is;
  predicted_is = g.predicted_is;
  next_is = g.next_is;
  store_is = g.store_is;
  response_is = g.response_is;
  sent_is = g.sent_is;
  released_is = g.released_is;
  result_is = λ v h. let same : result ≡ v = cc in sym same ∙ e;
  result_when = λ _. r;
  done_is = g.done_is;
  done_when = λ _ _. refl;
  stop_is = g.stop_is;
  stop_when = g.stop_when;
}

pub accepted-response : (o : Option Response) → is_accepted o ≡ true → (r : Response) × (o ≡ Some r)
accepted-response None h = absurd (false_true h)
accepted-response (Some r) h = (r, refl)

accepted-hit : (o : Option Hit) (r : Response) → r.accept ≡ true → r ≡ response_of o → (hit : Hit) × (o ≡ Some hit)
accepted-hit None r a e = absurd (not_both r.accept (ap (λ q. q.accept) e) a)
accepted-hit (Some hit) r a e = (hit, refl)

-- an accepted word is taken by a unit
pub accepted-taken : (x : Extension) (memory : Region) (s : State) (y : Item) → is_accepted y.entry.response ≡ true → Agrees x memory s y → (y.entry.kind ≡ Unknown) × ((hit : Hit) × (word_hit x y.entry.word ≡ Some hit))
accepted-taken x memory s y a g =
    let r = accepted-response y.entry.response a in
    let is = g.response_is r.0 r.1 in
    (unknown-kind y.entry.kind is.0, accepted-hit (word_hit x y.entry.word) r.0 (sym (ap is_accepted r.1) ∙ a) is.1)

abbrev line_with : Extension → Item → (next result : ℕ) → Option Store → Retire
line_with x y next result store = record {
  pc = y.entry.pc;
  word = y.entry.word;
  next = next;
  write = result_write x y.entry.word result;
  store = store;
}

pub agrees-finished : (x : Extension) (memory : Region) (s : State) (y : Item) (result : ℕ) → y.result ≡ Some result → Agrees x memory s y → Agrees x memory s (with_entry y (finished_with (result_write x y.entry.word result) y.entry))
agrees-finished x memory s y result e g =
    let taken = accepted-taken x memory s y (g.released_is (g.result_when (ap is_some e))) g in
    let u = taken.0 in
    let unknown : is_unknown y.entry ≡ true = ap is_unknown_kind u in
    record {
      kind_is = g.kind_is;
      word_is = g.word_is;
      predicted_is = g.predicted_is;
      next_is = g.next_is;
      store_is = g.store_is;
      response_is = g.response_is;
      sent_is = g.sent_is;
      released_is = g.released_is;
      result_is = g.result_is;
      result_when = g.result_when;
      done_is = λ _.
          ap (λ q. outcome x s y.entry.pc q y.entry.word) u
          ∙ outcome-taken x s y.entry.pc y.entry.word taken.1.0 (entry-unknown x memory s y g u) taken.1.1
          ∙ ap (λ n. Retired (line_with x y n (unit_step x s y.entry.word).result None)) (sym (g.next_is unknown))
          ∙ ap (λ v. Retired (line_with x y y.entry.next v None)) (sym (g.result_is result e))
          ∙ ap (λ t. Retired (line_with x y y.entry.next result t)) (sym (g.store_is unknown));
      done_when = λ _ _. ap is_some e;
      stop_is = g.stop_is;
      stop_when = g.stop_when;
    }

-- ---- another memory, with the same word at its address

pub agrees-memory : (x : Extension) (memory other : Region) (s : State) (y : Item) → word_at other y.entry.pc ≡ word_at memory y.entry.pc → Agrees x memory s y → Agrees x other s y
agrees-memory x memory other s y e g = record {
  kind_is = g.kind_is ∙ ap kind_at (sym e);
  word_is = g.word_is ∙ ap word_or_zero (sym e);
  predicted_is = g.predicted_is;
  next_is = g.next_is;
  store_is = g.store_is;
  response_is = g.response_is;
  sent_is = g.sent_is;
  released_is = g.released_is;
  result_is = g.result_is;
  result_when = g.result_when;
  done_is = g.done_is;
  done_when = g.done_when;
  stop_is = g.stop_is;
  stop_when = g.stop_when;
}
