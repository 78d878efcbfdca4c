use Rattle.std.proofs.Common.{◌≡◌, ◌∷◌, [], ◌∙◌, rules}
use Rattle.std.specs.Prelude.{Err}
use Rattle.xif_signals.specs.declared.rule.Rule.TheVariants.{G1, G2, G3, G4}
use Rattle.issue_channel.proofs.Chains.{passes, fails, ends}
use Rattle.issue_channel.proofs.register_rules.check_register.Goals as goal

pub returns-in_err-check-clause-fault : goal.returns-in_err-check-clause-fault
returns-in_err-check-clause-fault c p l q r =
    let e : c.from_residual-in_err-check.result ≡ Err c.in_err-check.field-0.0 = search rules in
    let b = c.args.bus.now in
    let params = c.args.params.now in
    e
    ∙ fails G2 (G3 ∷ G4 ∷ []) params p b c.keeps_g2.result c.check.result c.in_err-check.field-0.0 (c.keeps_g2.ensures.test params p r) c.check.ensures c.in_err-check.was
    ∙ passes G1 (G2 ∷ G3 ∷ G4 ∷ []) params p b c.keeps_g1.result c.check_by_key.result c.in_ok-check_by_key.field-0 c.keeps_g1.ensures c.check_by_key.ensures c.in_ok-check_by_key.was

pub returns-in_err-check-2-clause-fault : goal.returns-in_err-check-2-clause-fault
returns-in_err-check-2-clause-fault c p l q r =
    let e : c.from_residual-in_err-check-2.result ≡ Err c.in_err-check-2.field-0.0 = search rules in
    let b = c.args.bus.now in
    let params = c.args.params.now in
    e
    ∙ fails G3 (G4 ∷ []) params p b c.keeps_g3.result c.check-2.result c.in_err-check-2.field-0.0 (c.keeps_g3.ensures p l q) c.check-2.ensures c.in_err-check-2.was
    ∙ passes G2 (G3 ∷ G4 ∷ []) params p b c.keeps_g2.result c.check.result c.in_ok-check.field-0 (c.keeps_g2.ensures.test params p r) c.check.ensures c.in_ok-check.was
    ∙ passes G1 (G2 ∷ G3 ∷ G4 ∷ []) params p b c.keeps_g1.result c.check_by_key.result c.in_ok-check_by_key.field-0 c.keeps_g1.ensures c.check_by_key.ensures c.in_ok-check_by_key.was

pub returns-clause-fault : goal.returns-clause-fault
returns-clause-fault c p l q r =
    let b = c.args.bus.now in
    let params = c.args.params.now in
    ends G4 params p b c.keeps_g4.result c.check-3.result (c.keeps_g4.ensures p l q) c.check-3.ensures
    ∙ passes G3 (G4 ∷ []) params p b c.keeps_g3.result c.check-2.result c.in_ok-check-2.field-0 (c.keeps_g3.ensures p l q) c.check-2.ensures c.in_ok-check-2.was
    ∙ passes G2 (G3 ∷ G4 ∷ []) params p b c.keeps_g2.result c.check.result c.in_ok-check.field-0 (c.keeps_g2.ensures.test params p r) c.check.ensures c.in_ok-check.was
    ∙ passes G1 (G2 ∷ G3 ∷ G4 ∷ []) params p b c.keeps_g1.result c.check_by_key.result c.in_ok-check_by_key.field-0 c.keeps_g1.ensures c.check_by_key.ensures c.in_ok-check_by_key.was
