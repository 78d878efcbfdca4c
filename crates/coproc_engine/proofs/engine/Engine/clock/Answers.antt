use Rattle.std.proofs.Common.{List, ◌+◌, ap, rules, arith, ap₂, ◌≡◌, ◌<◌, ◌≤◌, length, subst, sym, ◌∙◌, filter, not, option_copied, vec_capacity, IsTrue, All}
use Rattle.xif_signals.specs.declared.signal.Signal.TheVariants.{ResultData, ResultWe}
use Rattle.xif_signals.specs.Signal.{width_of}
use Rattle.coproc_config.specs.Accept.{hit_of}
use Rattle.coproc_config.specs.State.{IsStateOf}
use Rattle.std.proofs.lemmas.List.{with_items_is, length-map}
use Rattle.std.specs.Vec.{with_items}
use Rattle.cycle_spec.specs.declared.use_of.Use.{Use}
use Rattle.cycle_spec.specs.State.{Engine}
use Rattle.cycle_spec.specs.Engine as spec
use Rattle.cycle_spec.specs.Turns.{transactions_after}
use Rattle.cycle_spec.specs.Counts.{AreCountedBy}
use Rattle.coproc_engine.specs.Fits.{IsKey, IsCounted, AreKeys, AreUnits, AreUses, AreNarrow, HaveEntries, ahead_in_harts, keys_of, room_of}
use Rattle.cycle_spec.proofs.Counted.{after_counted}
use Rattle.coproc_engine.proofs.Counted.{accepted_counted}
use Rattle.coproc_engine.proofs.Keys.{room-left, fit}
use Rattle.coproc_engine.proofs.Kept.{offered-valid, started-entries, ended-entries, ended-narrow, settled-keys}
use Rattle.coproc_engine.proofs.Narrow.{started-narrow}
use Rattle.coproc_engine.proofs.engine.Engine.clock.Goals as goal

pub start_step-requires : goal.start_step-requires
start_step-requires c = record {
  room = λ started.
      let valid : IsTrue c.args.cpu.now.issue_valid = offered-valid c.args.self.now c.args.cpu.now c.starts-starts.result c.starts-starts.ensures started in
      let key : IsKey c.self.inside.params (spec.issue_key c.args.cpu.now) = subst (λ (e : Engine). IsKey e.params (spec.issue_key c.args.cpu.now)) (sym c.self.view_is) (c.requires.key valid) in
      let fits : room_of c.self.inside.params ≤ vec_capacity c.self.inside.uses = c.self.invariant.1.1.0.fits in
      let left : length (filter (λ other. not (spec.has_key (spec.issue_key c.args.cpu.now) other)) c.self.inside.uses.items) < room_of c.self.inside.params = room-left c.self.inside.params (spec.issue_key c.args.cpu.now) c.self.inside.uses.items c.self.invariant.1.1.0.keys key in
      omega arith;
}

pub settle-requires-clause-entries : goal.settle-requires-clause-entries
settle-requires-clause-entries c =
    let e : Engine = c.args.self.now in
    let cpu = c.args.cpu.now in
    let x = c.self.inside in
    let cop = c.args.cop.now in
    let input = c.args.input.now in
    let started : c.as_mut_slice-uses.result.now ≡ spec.started_uses e cpu = search rules in
    let answered : c.answer_step.new.uses ≡ spec.answered_uses e cpu cop =
    c.answer_step.ensures.uses
    ∙ ap₂ (λ start us. spec.answer_step start (hit_of x.set x.params cpu.issue_instr) x.accepted cpu cop us) c.issue_start-issue_start.ensures started
    ∙ ap (λ (y : Engine). spec.answer_step (spec.issue_start e cpu) (spec.offered_hit y cpu) y.accepted cpu cop (spec.started_uses e cpu)) c.self.view_is in
    let given : c.given_step.new.uses ≡ spec.given_uses e cpu cop = c.given_step.ensures ∙ ap (spec.given_step cpu cop) answered in
    let decided : c.decide_step.new.uses ≡ spec.decided_uses e cpu cop = c.decide_step.ensures ∙ ap (spec.decide_step cpu) given in
    let ended : c.end_step.new.uses ≡ spec.ended_uses e cpu cop input =
    c.end_step.ensures (option_copied c.offered_use.result) (c.start_of-offered.ensures)
    ∙ ap₂ (λ offered us. spec.end_step offered cop input us) c.offered_use.ensures.value decided in
    let entries : HaveEntries e.set e.uses = subst (λ (x : Engine). HaveEntries x.set x.uses) c.self.view_is c.self.invariant.1.1.0.entries in
    let begun : HaveEntries x.set c.as_mut_slice-uses.result.now =
    subst (λ us. HaveEntries x.set us) (sym started)
    (subst (λ (y : Engine). HaveEntries y.set (spec.started_uses e cpu)) (sym c.self.view_is) (started-entries e.set e cpu entries)) in
    let behind : HaveEntries e.set (spec.answered_uses e cpu c.args.cop.now) =
    subst (λ (y : Engine). HaveEntries y.set (spec.answered_uses e cpu c.args.cop.now)) c.self.view_is
    (subst (λ us. HaveEntries x.set us) answered (c.answer_step.ensures.entries begun)) in
    subst (λ us. HaveEntries x.set us) (sym ended)
    (subst (λ (y : Engine). HaveEntries y.set (spec.ended_uses e cpu c.args.cop.now c.args.input.now)) (sym c.self.view_is)
    (ended-entries e cpu c.args.cop.now c.args.input.now behind))

pub invariant_of-self : goal.invariant_of-self
invariant_of-self c =
    let e : Engine = c.args.self.now in
    let cpu = c.args.cpu.now in
    let x = c.self.inside in
    let keys : AreKeys e.params (keys_of e.uses) = subst (λ (x : Engine). AreKeys x.params (keys_of x.uses)) c.self.view_is c.self.invariant.1.1.0.keys in
    let cop = c.args.cop.now in
    let input = c.args.input.now in
    let started : c.as_mut_slice-uses.result.now ≡ spec.started_uses e cpu = search rules in
    let answered : c.answer_step.new.uses ≡ spec.answered_uses e cpu cop =
    c.answer_step.ensures.uses
    ∙ ap₂ (λ start us. spec.answer_step start (hit_of x.set x.params cpu.issue_instr) x.accepted cpu cop us) c.issue_start-issue_start.ensures started
    ∙ ap (λ (y : Engine). spec.answer_step (spec.issue_start e cpu) (spec.offered_hit y cpu) y.accepted cpu cop (spec.started_uses e cpu)) c.self.view_is in
    let given : c.given_step.new.uses ≡ spec.given_uses e cpu cop = c.given_step.ensures ∙ ap (spec.given_step cpu cop) answered in
    let decided : c.decide_step.new.uses ≡ spec.decided_uses e cpu cop = c.decide_step.ensures ∙ ap (spec.decide_step cpu) given in
    let ended : c.end_step.new.uses ≡ spec.ended_uses e cpu cop input =
    c.end_step.ensures (option_copied c.offered_use.result) (c.start_of-offered.ensures)
    ∙ ap₂ (λ offered us. spec.end_step offered cop input us) c.offered_use.ensures.value decided in
    let at : c.deref_mut.result.now ≡ x.units.items = search rules in
    let settled_are : c.settle.new.uses ≡ spec.settled_uses e cpu cop input =
    c.settle.ensures.uses
    ∙ ap₂ (λ units us. spec.ready_in_harts x.set x.cycle 0 units us) at ended
    ∙ ap (λ (y : Engine). spec.ready_in_harts y.set y.cycle 0 y.units (spec.ended_uses e cpu cop input)) c.self.view_is in
    let settled : AreKeys x.params (keys_of c.settle.new.uses) =
    subst (λ us. AreKeys x.params (keys_of us)) (sym settled_are)
    (subst (λ (y : Engine). AreKeys y.params (keys_of (spec.settled_uses e cpu c.args.cop.now c.args.input.now))) (sym c.self.view_is)
    (settled-keys e cpu c.args.cop.now c.args.input.now keys c.requires.key)) in
    let fits : room_of x.params ≤ vec_capacity c.start_step.new.uses = omega (arith, c.self.invariant.1.1.0.fits, c.start_step.ensures.capacity) in
    let units : length c.settle.new.units ≡ x.units.len = search rules in
    let uses : length c.settle.new.uses ≡ c.start_step.new.uses.len = search rules in
    let states : All (IsStateOf x.set) c.settle.new.units = c.settle.ensures.fits in
    let entries : HaveEntries x.set c.settle.new.uses = c.settle.ensures.kept in
    let flags = width_of ResultWe x.params in
    let bits = width_of ResultData x.params in
    let was_narrow : AreNarrow flags bits e.uses = subst (λ (y : Engine). AreNarrow flags bits y.uses) c.self.view_is c.self.invariant.1.1.0.narrow in
    let started_narrow : AreNarrow flags bits c.as_mut_slice-uses.result.now = subst (AreNarrow flags bits) (sym started) (started-narrow flags bits e cpu was_narrow) in
    let answered_narrow : AreNarrow flags bits (spec.answered_uses e cpu cop) = subst (AreNarrow flags bits) answered (c.answer_step.ensures.narrow started_narrow) in
    let ended_narrow : AreNarrow flags bits c.end_step.new.uses = subst (AreNarrow flags bits) (sym ended) (ended-narrow e cpu cop input flags bits answered_narrow) in
    let narrow : AreNarrow flags bits c.settle.new.uses = c.settle.ensures.narrow flags bits ended_narrow in
    let units_are : (with_items x.units c.settle.new.units).items ≡ c.settle.new.units = with_items_is x.units c.settle.new.units units in
    let uses_are : (with_items c.start_step.new.uses c.settle.new.uses).items ≡ c.settle.new.uses = with_items_is c.start_step.new.uses c.settle.new.uses uses in
    let ahead : length c.look_ahead.new.ahead ≡ x.ahead.len = search rules in
    let ahead_are : (with_items x.ahead c.look_ahead.new.ahead).items ≡ c.look_ahead.new.ahead = with_items_is x.ahead c.look_ahead.new.ahead ahead in
    let looked : c.look_ahead.new.ahead ≡ ahead_in_harts x.set 0 c.settle.new.units c.settle.new.uses = search rules in
    let counts : IsCounted x.cycle x.accepted x.issue_turns x.register_turns = c.self.invariant.1.1.1.1.1 in
    let counted : c.accepted_after-self-inside.result ≤ x.cycle + 1 =
    subst (λ n. n ≤ x.cycle + 1) (sym c.accepted_after-self-inside.ensures) (accepted_counted x.cycle x.accepted cpu c.args.cop.now counts.uses) in
    let issues : AreCountedBy (x.cycle + 1) c.transactions_after-self-inside.result =
    subst (AreCountedBy (x.cycle + 1)) (sym c.transactions_after-self-inside.ensures) (after_counted x.cycle x.issue_turns c.owner_if.result c.args.cop.now.issue_ready counts.issues) in
    let registers : AreCountedBy (x.cycle + 1) c.transactions_after-self-inside-2.result =
    subst (AreCountedBy (x.cycle + 1)) (sym c.transactions_after-self-inside-2.ensures) (after_counted x.cycle x.register_turns c.register_owner-register_owner.result c.args.cop.now.register_ready counts.registers) in
    let fit : All (IsStateOf x.set) c.look_ahead.new.ahead = c.look_ahead.ensures.fits in (
      c.self.invariant.0,
      (
        subst (λ states. AreUnits x.params x.set states) (sym units_are)
            (record { harts = units ∙ x.units.ok.0 ∙ c.self.invariant.1.0.harts; states = states }),
        (
          subst (λ us. AreUses x.params x.set us (vec_capacity c.start_step.new.uses)) (sym uses_are)
              (record { entries = entries; narrow = narrow; keys = settled; fits = fits }),
          (
            subst (λ states. AreUnits x.params x.set states) (sym ahead_are)
                (record { harts = ahead ∙ x.ahead.ok.0 ∙ c.self.invariant.1.1.1.0.harts; states = fit }),
            (
              ahead_are ∙ looked ∙ sym (ap₂ (λ states us. ahead_in_harts x.set 0 states us) units_are uses_are),
              record { uses = counted; issues = issues; registers = registers },
            ),
          ),
        ),
      ),
    )

pub returns-clause-after : goal.returns-clause-after
returns-clause-after c =
    let e : Engine = c.args.self.now in
    let cpu = c.args.cpu.now in
    let x = c.self.inside in
    let v = c.self.view_is in
    let cop = c.args.cop.now in
    let input = c.args.input.now in
    let started : c.as_mut_slice-uses.result.now ≡ spec.started_uses e cpu = search rules in
    let answered : c.answer_step.new.uses ≡ spec.answered_uses e cpu cop =
    c.answer_step.ensures.uses
    ∙ ap₂ (λ start us. spec.answer_step start (hit_of x.set x.params cpu.issue_instr) x.accepted cpu cop us) c.issue_start-issue_start.ensures started
    ∙ ap (λ (y : Engine). spec.answer_step (spec.issue_start e cpu) (spec.offered_hit y cpu) y.accepted cpu cop (spec.started_uses e cpu)) c.self.view_is in
    let given : c.given_step.new.uses ≡ spec.given_uses e cpu cop = c.given_step.ensures ∙ ap (spec.given_step cpu cop) answered in
    let decided : c.decide_step.new.uses ≡ spec.decided_uses e cpu cop = c.decide_step.ensures ∙ ap (spec.decide_step cpu) given in
    let ended : c.end_step.new.uses ≡ spec.ended_uses e cpu cop input =
    c.end_step.ensures (option_copied c.offered_use.result) (c.start_of-offered.ensures)
    ∙ ap₂ (λ offered us. spec.end_step offered cop input us) c.offered_use.ensures.value decided in
    let at : c.deref_mut.result.now ≡ x.units.items = search rules in
    let settled_are : c.settle.new.uses ≡ spec.settled_uses e cpu cop input =
    c.settle.ensures.uses
    ∙ ap₂ (λ units us. spec.ready_in_harts x.set x.cycle 0 units us) at ended
    ∙ ap (λ (y : Engine). spec.ready_in_harts y.set y.cycle 0 y.units (spec.ended_uses e cpu cop input)) c.self.view_is in
    let units : length c.settle.new.units ≡ x.units.len = search rules in
    let uses : length c.settle.new.uses ≡ c.start_step.new.uses.len = search rules in
    let uses_are : (with_items c.start_step.new.uses c.settle.new.uses).items ≡ spec.settled_uses e cpu cop input =
    with_items_is c.start_step.new.uses c.settle.new.uses uses ∙ settled_are in
    let units_are : (with_items x.units c.settle.new.units).items ≡ spec.units_in_harts e.set 0 e.units (spec.ended_uses e cpu cop input) =
    with_items_is x.units c.settle.new.units units
    ∙ c.settle.ensures.units
    ∙ ap₂ (λ units us. spec.units_in_harts x.set 0 units us) at ended
    ∙ ap (λ (y : Engine). spec.units_in_harts y.set 0 y.units (spec.ended_uses e cpu cop input)) v in
    let accepted : c.accepted_after-self-inside.result ≡ spec.accepted_after e.accepted cpu cop =
    c.accepted_after-self-inside.ensures ∙ ap (λ (y : Engine). spec.accepted_after y.accepted cpu cop) v in
    let issue : c.owner_if.result ≡ spec.owner_if cpu.issue_valid (spec.issue_start e cpu) =
    c.owner_if.ensures ∙ ap (spec.owner_if cpu.issue_valid) c.issue_start-issue_start.ensures in
    let issues : c.transactions_after-self-inside.result ≡ transactions_after e.issue_turns (spec.owner_if cpu.issue_valid (spec.issue_start e cpu)) cop.issue_ready =
    c.transactions_after-self-inside.ensures
    ∙ ap (λ owner. transactions_after x.issue_turns owner cop.issue_ready) issue
    ∙ ap (λ (y : Engine). transactions_after y.issue_turns (spec.owner_if cpu.issue_valid (spec.issue_start e cpu)) cop.issue_ready) v in
    let register : c.register_owner-register_owner.result ≡ spec.owner_if cpu.register_valid (spec.register_start e cpu) =
    c.register_owner-register_owner.ensures in
    let registers : c.transactions_after-self-inside-2.result ≡ transactions_after e.register_turns (spec.owner_if cpu.register_valid (spec.register_start e cpu)) cop.register_ready =
    c.transactions_after-self-inside-2.ensures
    ∙ ap (λ owner. transactions_after x.register_turns owner cop.register_ready) register
    ∙ ap (λ (y : Engine). transactions_after y.register_turns (spec.owner_if cpu.register_valid (spec.register_start e cpu)) cop.register_ready) v in
    let waiting : c.result_waiting_after-self-inside.result ≡ spec.result_waiting_after (spec.offered_use e) input =
    c.result_waiting_after-self-inside.ensures (option_copied c.offered_use.result) (c.start_of-offered.ensures)
    ∙ ap (λ offered. spec.result_waiting_after offered input) c.offered_use.ensures.value in
    λ i. record {
      params = (v i).params;
      set = (v i).set;
      script = (v i).script;
      cycle = (v i).cycle + 1;
      uses = uses_are i;
      accepted = accepted i;
      units = units_are i;
      issue_turns = issues i;
      register_turns = registers i;
      result_waiting = waiting i;
    }

pub returns-clause-few : goal.returns-clause-few
returns-clause-few c =
    let x = c.self.inside in
    let us : List Use = (with_items c.start_step.new.uses c.settle.new.uses).items in
    let few : length us ≤ room_of x.params =
    subst (λ n. n ≤ room_of x.params) (length-map us (λ (u : Use). u.key)) (fit x.params (keys_of us) (invariant_of-self c).1.1.0.keys) in
    subst (λ (y : Engine). length us ≤ room_of y.params) c.self.view_is few
