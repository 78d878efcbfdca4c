use Rattle.std.proofs.Common.{◌≡◌, ◌∙◌, [], ◌∷◌, sym, refl, arith}
use Rattle.std.specs.Prelude.{Err}
use Rattle.std.proofs.lemmas.Grind.{common_steps}
use Rattle.xif_signals.specs.declared.rule.Rule.TheVariants.{R1, R2, R3, R4, R5, R6}
use Rattle.xif_uses.proofs.Faults.{holds, fails, ends}
use Rattle.result_channel.proofs.side.judge.Goals as goal

pub returns-in_err-check-3-clause-fault : goal.returns-in_err-check-3-clause-fault
returns-in_err-check-3-clause-fault c params p l r =
    let b = c.args.bus.now in
    let e : c.from_residual-in_err-check-3.result ≡ Err c.in_err-check-3.field-0.0 = grind (arith, common_steps) in
    e ∙ sym (
    holds params p b R1 (R2 ∷ R3 ∷ R4 ∷ R5 ∷ R6 ∷ []) _ _ _ (c.keeps_r1.ensures p l) c.check.ensures c.in_ok-check.was
    ∙ holds params p b R2 (R3 ∷ R4 ∷ R5 ∷ R6 ∷ []) _ _ _ (c.keeps_r2.ensures p l) c.check-2.ensures c.in_ok-check-2.was
    ∙ fails params p b R3 (R4 ∷ R5 ∷ R6 ∷ []) _ _ _ c.in_err-check-3.field-0.0 (c.keeps_r3.ensures.test params p r) refl c.check-3.ensures c.in_err-check-3.was
    )

pub returns-in_err-check-4-clause-fault : goal.returns-in_err-check-4-clause-fault
returns-in_err-check-4-clause-fault c params p l r =
    let b = c.args.bus.now in
    let e : c.from_residual-in_err-check-4.result ≡ Err c.in_err-check-4.field-0.0 = grind (arith, common_steps) in
    e ∙ sym (
    holds params p b R1 (R2 ∷ R3 ∷ R4 ∷ R5 ∷ R6 ∷ []) _ _ _ (c.keeps_r1.ensures p l) c.check.ensures c.in_ok-check.was
    ∙ holds params p b R2 (R3 ∷ R4 ∷ R5 ∷ R6 ∷ []) _ _ _ (c.keeps_r2.ensures p l) c.check-2.ensures c.in_ok-check-2.was
    ∙ holds params p b R3 (R4 ∷ R5 ∷ R6 ∷ []) _ _ _ (c.keeps_r3.ensures.test params p r) c.check-3.ensures c.in_ok-check-3.was
    ∙ fails params p b R4 (R5 ∷ R6 ∷ []) _ _ _ c.in_err-check-4.field-0.0 (c.keeps_r4.ensures params p r) refl c.check-4.ensures c.in_err-check-4.was
    )

pub returns-in_err-check-5-clause-fault : goal.returns-in_err-check-5-clause-fault
returns-in_err-check-5-clause-fault c params p l r =
    let b = c.args.bus.now in
    let e : c.from_residual-in_err-check-5.result ≡ Err c.in_err-check-5.field-0.0 = grind (arith, common_steps) in
    e ∙ sym (
    holds params p b R1 (R2 ∷ R3 ∷ R4 ∷ R5 ∷ R6 ∷ []) _ _ _ (c.keeps_r1.ensures p l) c.check.ensures c.in_ok-check.was
    ∙ holds params p b R2 (R3 ∷ R4 ∷ R5 ∷ R6 ∷ []) _ _ _ (c.keeps_r2.ensures p l) c.check-2.ensures c.in_ok-check-2.was
    ∙ holds params p b R3 (R4 ∷ R5 ∷ R6 ∷ []) _ _ _ (c.keeps_r3.ensures.test params p r) c.check-3.ensures c.in_ok-check-3.was
    ∙ holds params p b R4 (R5 ∷ R6 ∷ []) _ _ _ (c.keeps_r4.ensures params p r) c.check-4.ensures c.in_ok-check-4.was
    ∙ fails params p b R5 (R6 ∷ []) _ _ _ c.in_err-check-5.field-0.0 (c.keeps_r5.ensures params p r) refl c.check-5.ensures c.in_err-check-5.was
    )

pub returns-clause-fault : goal.returns-clause-fault
returns-clause-fault c params p l r =
    let b = c.args.bus.now in
    sym (
    holds params p b R1 (R2 ∷ R3 ∷ R4 ∷ R5 ∷ R6 ∷ []) _ _ _ (c.keeps_r1.ensures p l) c.check.ensures c.in_ok-check.was
    ∙ holds params p b R2 (R3 ∷ R4 ∷ R5 ∷ R6 ∷ []) _ _ _ (c.keeps_r2.ensures p l) c.check-2.ensures c.in_ok-check-2.was
    ∙ holds params p b R3 (R4 ∷ R5 ∷ R6 ∷ []) _ _ _ (c.keeps_r3.ensures.test params p r) c.check-3.ensures c.in_ok-check-3.was
    ∙ holds params p b R4 (R5 ∷ R6 ∷ []) _ _ _ (c.keeps_r4.ensures params p r) c.check-4.ensures c.in_ok-check-4.was
    ∙ holds params p b R5 (R6 ∷ []) _ _ _ (c.keeps_r5.ensures params p r) c.check-5.ensures c.in_ok-check-5.was
    ∙ ends params p b R6 _ _ _ (c.keeps_r6.ensures params p r) refl c.check-6.ensures
    )
