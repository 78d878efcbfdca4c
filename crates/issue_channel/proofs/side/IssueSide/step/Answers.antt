use Rattle.std.proofs.Common.{◌≡◌, ◌∙◌, ◌+◌, sym, ap, subst, refl, rules}
use Rattle.std.specs.Prelude.{Err, IfSome}
use Rattle.xif_session.specs.Facts.{issue_key, named}
use Rattle.xif_uses.specs.Handshake.{waiting_key, phase_of}
use Rattle.issue_channel.specs.Following.{IsOpen, OffersNewest}
use Rattle.issue_channel.specs.contracts.side.IssueSide.{the_view}
use Rattle.issue_channel.proofs.Opens.{before_same}
use Rattle.issue_channel.proofs.Step.{keys_of, keys_at, starts_valid, phase_follows, issue_answer, register_answer, whole_issue, whole_register, whole_last, open_begun, open_still, newest_given, on_ok}
use Rattle.issue_channel.proofs.side.IssueSide.step.Goals as goal

pub check_issue-requires-clause-key : goal.check_issue-requires-clause-key
check_issue-requires-clause-key c s =
    (keys_of c.args.uses.now.params c.args.bus.now c.requires.widths c.requires.harts).issue (starts_valid c.self.inside.issue c.args.bus.now.issue_valid c.key-key.result c.step-phase.result c.step-phase.ensures.phase s)

pub note_start-requires-clause-key : goal.note_start-requires-clause-key
note_start-requires-clause-key c s =
    (keys_at c.args.uses.now.params c.note_retraction.new.uses.params c.args.bus.now c.requires.widths c.requires.harts c.note_retraction.ensures.starts.params).issue
    (starts_valid c.self.inside.issue c.args.bus.now.issue_valid c.key-key.result c.step-phase.result c.step-phase.ensures.phase s)

pub check_register-requires-clause-keys : goal.check_register-requires-clause-keys
check_register-requires-clause-keys c =
    keys_at c.args.uses.now.params c.note_start.new.uses.params c.args.bus.now c.requires.widths c.requires.harts (c.note_start.ensures.params ∙ c.note_retraction.ensures.starts.params)

pub note_response-requires-clause-keys : goal.note_response-requires-clause-keys
note_response-requires-clause-keys c =
    keys_at c.args.uses.now.params c.note_start.new.uses.params c.args.bus.now c.requires.widths c.requires.harts (c.note_start.ensures.params ∙ c.note_retraction.ensures.starts.params)

pub note_operands-requires-clause-keys : goal.note_operands-requires-clause-keys
note_operands-requires-clause-keys c =
    keys_at c.args.uses.now.params c.note_response.new.uses.params c.args.bus.now c.requires.widths c.requires.harts
    (c.note_response.ensures.starts.params ∙ c.note_start.ensures.params ∙ c.note_retraction.ensures.starts.params)

pub check_operands-requires : goal.check_operands-requires
check_operands-requires c =
    keys_at c.args.uses.now.params c.note_operands.new.uses.params c.args.bus.now c.requires.widths c.requires.harts
    (c.note_operands.ensures.starts.params ∙ c.note_response.ensures.starts.params ∙ c.note_start.ensures.params ∙ c.note_retraction.ensures.starts.params)

pub returns-in_err-check_issue-clause-fault : goal.returns-in_err-check_issue-clause-fault
returns-in_err-check_issue-clause-fault c params p f n =
    let b = c.args.bus.now in
    let seen = the_view c.self.inside in
    let e : c.from_residual.result ≡ Err c.in_err-check_issue.field-0.0 = search rules in
    let ph = phase_follows seen c.args.self.now c.args.uses.now params p b c.key-key.result c.step-phase.result c.self.view_is f c.key-key.ensures c.step-phase.ensures.phase in
    e
    ∙ whole_issue params p b c.check_issue.result c.in_err-check_issue.field-0.0
    (issue_answer seen c.args.self.now c.args.uses.now params p b c.step-phase.result c.check_issue.result c.self.view_is f ph c.check_issue.ensures) c.in_err-check_issue.was

pub returns-in_err-check_register-clause-fault : goal.returns-in_err-check_register-clause-fault
returns-in_err-check_register-clause-fault c params p f n =
    let b = c.args.bus.now in
    let seen = the_view c.self.inside in
    let e : c.from_residual-in_err-check_register.result ≡ Err c.in_err-check_register.field-0.0 = search rules in
    let ph = phase_follows seen c.args.self.now c.args.uses.now params p b c.key-key.result c.step-phase.result c.self.view_is f c.key-key.ensures c.step-phase.ensures.phase in
    let r = c.note_start.ensures.facts params p n ph (c.note_retraction.ensures.facts params p.facts f.facts) in
    let q = c.continues_register-continues.ensures.test p (ap (λ s. s.register) c.self.view_is ∙ f.keeps.registers) ph in
    e
    ∙ whole_register params p b c.check_issue.result c.in_ok-check_issue.field-0 c.check_register.result c.in_err-check_register.field-0.0
    (issue_answer seen c.args.self.now c.args.uses.now params p b c.step-phase.result c.check_issue.result c.self.view_is f ph c.check_issue.ensures) c.in_ok-check_issue.was
    (register_answer seen c.args.self.now c.args.uses.now c.note_start.new.uses params p b c.continues_register-continues.result c.check_register.result c.self.view_is f r q c.check_register.ensures.fault) c.in_err-check_register.was

pub returns-clause-fault : goal.returns-clause-fault
returns-clause-fault c params p f n =
    let b = c.args.bus.now in
    let seen = the_view c.self.inside in
    let ph = phase_follows seen c.args.self.now c.args.uses.now params p b c.key-key.result c.step-phase.result c.self.view_is f c.key-key.ensures c.step-phase.ensures.phase in
    let r = c.note_start.ensures.facts params p n ph (c.note_retraction.ensures.facts params p.facts f.facts) in
    let q = c.continues_register-continues.ensures.test p (ap (λ s. s.register) c.self.view_is ∙ f.keeps.registers) ph in
    whole_last params p b c.check_issue.result c.in_ok-check_issue.field-0 c.check_register.result c.in_ok-check_register.field-0 c.check_operands.result
    (issue_answer seen c.args.self.now c.args.uses.now params p b c.step-phase.result c.check_issue.result c.self.view_is f ph c.check_issue.ensures) c.in_ok-check_issue.was
    (register_answer seen c.args.self.now c.args.uses.now c.note_start.new.uses params p b c.continues_register-continues.result c.check_register.result c.self.view_is f r q c.check_register.ensures.fault) c.in_ok-check_register.was
    (c.check_operands.ensures params p (c.note_operands.ensures.facts params _ (c.note_response.ensures.facts params (named p b) r)))

pub returns-clause-follows : goal.returns-clause-follows
returns-clause-follows c params p f n =
    let b = c.args.bus.now in
    let seen = the_view c.self.inside in
    let ph = phase_follows seen c.args.self.now c.args.uses.now params p b c.key-key.result c.step-phase.result c.self.view_is f c.key-key.ensures c.step-phase.ensures.phase in
    let r = c.note_start.ensures.facts params p n ph (c.note_retraction.ensures.facts params p.facts f.facts) in
    on_ok c.check_operands.result _
    (record {
      facts = c.note_operands.ensures.facts params _ (c.note_response.ensures.facts params (named p b) r);
      keeps = record {
        same = ap (λ s. s.params) c.self.view_is ∙ f.keeps.same;
        before = refl;
        registers = c.continues_register-continues.ensures.waiting;
        offered = c.step-phase.ensures.waiting ∙ ap (waiting_key b.issue_valid b.issue_ready) c.key-key.ensures;
      };
    })

pub returns-clause-ready : goal.returns-clause-ready
returns-clause-ready c =
    let b = c.args.bus.now in
    let seen = the_view c.self.inside in
    let before : IfSome c.self.inside.issue (IsOpen c.args.uses.now) = subst (λ s. IfSome s.issue (IsOpen c.args.uses.now)) (sym c.self.view_is) c.requires.ready.offered in
    let phase = c.step-phase.ensures.phase ∙ ap (λ key. phase_of c.self.inside.issue b.issue_valid key) c.key-key.ensures in
    let begun = open_begun c.args.uses.now c.note_retraction.new.uses c.note_start.new.uses c.self.inside.issue b.issue_valid (issue_key b) c.step-phase.result
    before phase c.note_retraction.ensures.kept c.note_start.ensures.kept c.note_start.ensures.offered in
    on_ok c.check_operands.result _
    (record {
      same = ap (λ s. s.params) c.self.view_is ∙ c.requires.ready.same
          ∙ sym (c.note_operands.ensures.starts.params ∙ c.note_response.ensures.starts.params ∙ c.note_start.ensures.params ∙ c.note_retraction.ensures.starts.params);
      starts = before_same c.note_response.new.uses c.note_operands.new.uses (c.args.cycle + 1) c.note_operands.ensures.starts
          (before_same c.note_start.new.uses c.note_response.new.uses (c.args.cycle + 1) c.note_response.ensures.starts c.note_start.ensures.earlier);
      offered = open_still c.note_start.new.uses c.note_response.new.uses c.note_operands.new.uses b.issue_valid b.issue_ready (issue_key b) c.step-phase.new.self
          begun c.note_response.ensures.kept c.note_operands.ensures.offered (c.step-phase.ensures.waiting ∙ ap (waiting_key b.issue_valid b.issue_ready) c.key-key.ensures);
    })

pub returns-clause-newest : goal.returns-clause-newest
returns-clause-newest c =
    let b = c.args.bus.now in
    let before : IfSome c.self.inside.issue (IsOpen c.args.uses.now) = subst (λ s. IfSome s.issue (IsOpen c.args.uses.now)) (sym c.self.view_is) c.requires.ready.offered in
    let phase = c.step-phase.ensures.phase ∙ ap (λ key. phase_of c.self.inside.issue b.issue_valid key) c.key-key.ensures in
    let begun = open_begun c.args.uses.now c.note_retraction.new.uses c.note_start.new.uses c.self.inside.issue b.issue_valid (issue_key b) c.step-phase.result
    before phase c.note_retraction.ensures.kept c.note_start.ensures.kept c.note_start.ensures.offered in
    on_ok c.check_operands.result (OffersNewest c.note_operands.new.uses b)
    (newest_given c.note_start.new.uses c.note_response.new.uses c.note_operands.new.uses b c.note_response.ensures.starts c.note_operands.ensures.starts begun)
