use Rattle.std.proofs.Common.{◌∙◌, ap, rules, ◌≡◌, ◌≤◌, [], subst, sym, vec_capacity}
use Rattle.coproc_config.specs.Check.{IsLawful as IsLawfulSet}
use Rattle.xif_drive.specs.Scripts.{IsLawful as IsLawfulScript}
use Rattle.coproc_engine.specs.Fits.{AreUnits, AreUses, ahead_in_harts, room_of}
use Rattle.coproc_engine.proofs.Counted.{new_counted}
use Rattle.coproc_engine.proofs.New.{no_uses, new_units, new_ahead}
use Rattle.coproc_engine.proofs.engine.Engine.new.Goals as goal

pub invariant_of-result : goal.invariant_of-result
invariant_of-result c =
    let params = c.args.params.now in
    let set : c.in_ok-copy.field-0 ≡ c.args.set.now = c.in_ok-copy.ensures in
    let script : c.in_ok-copy-2.field-0 ≡ c.args.script.now = c.in_ok-copy-2.ensures in
    let none : c.in_ok-with_capacity.field-0.items ≡ [] = search rules in
    let room : room_of params ≤ vec_capacity c.in_ok-with_capacity.field-0 = search rules in
    let units : AreUnits params c.args.set.now c.in_ok-new_units.field-0.items = new_units params c.args.set.now c.in_ok-new_units.field-0.items c.in_ok-new_units.ensures.zeros c.in_ok-new_units.ensures.states in
    let ahead : AreUnits params c.args.set.now c.in_ok-new_units-2.field-0.items = new_units params c.args.set.now c.in_ok-new_units-2.field-0.items c.in_ok-new_units-2.ensures.zeros c.in_ok-new_units-2.ensures.states in (
      record {
        in_range = c.requires.params;
        lawful_set = subst IsLawfulSet (sym set) c.requires.set;
        lawful_script = subst IsLawfulScript (sym script) c.requires.script;
      },
      (
        subst (λ s. AreUnits params s c.in_ok-new_units.field-0.items) (sym set) units,
        (
          subst (λ us. AreUses params c.in_ok-copy.field-0 us (vec_capacity c.in_ok-with_capacity.field-0)) (sym none) (no_uses params c.in_ok-copy.field-0 _ room),
          (
            subst (λ s. AreUnits params s c.in_ok-new_units-2.field-0.items) (sym set) ahead,
            (
              c.in_ok-new_units-2.ensures.zeros ∙ sym c.in_ok-new_units.ensures.zeros
                  ∙ new_ahead c.in_ok-copy.field-0 0 c.in_ok-new_units.field-0.items
                  ∙ ap (λ us. ahead_in_harts c.in_ok-copy.field-0 0 c.in_ok-new_units.field-0.items us) (sym none),
              new_counted,
            ),
          ),
        ),
      ),
    )
