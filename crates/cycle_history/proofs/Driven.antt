-- Each issue handshake has the response of the units to its word.
use Rattle.std.proofs.Common.{◌≡◌, ◌&&◌, Bool, true, false, if◌then◌else◌, None, List, [], ◌∷◌, sym, ap, ◌∙◌}
use Rattle.xif_base.specs.declared.params.Params.{Params}
use Rattle.coproc_config.specs.Set.{UnitTable}
use Rattle.xif_drive.specs.Scripts.{Lists}
use Rattle.xif_signals.specs.declared.bus.Bus.{Bus}
use Rattle.xif_signals.specs.declared.bus.CopOut.{CopOut}
use Rattle.xif_session.specs.declared.fact.Response.{Response}
use Rattle.xif_session.specs.Facts.{is_issued, response_on}
use Rattle.inorder_machine.specs.Machine.{Extension}
use Rattle.cycle_spec.specs.State.{Engine}
use Rattle.cycle_spec.specs.Engine as spec
use Rattle.cycle_lists.specs.Lists.{Each}
use Rattle.ahead_spec.specs.Operands.{word_hit, response_of}
use Rattle.engine_history.specs.Runs.{cpu_of, cop_of, engine_of, IsDriven}
use Rattle.engine_history.proofs.Kept.{told}

response_cop : CopOut → Response
response_cop c = record {
  accept = c.issue_accept;
  writeback = record { 0 = c.issue_writeback };
  register_read = record { 0 = c.issue_register_read };
}

pub one-answer : (x : Extension) (b : Bus) (e : Engine) → e.params ≡ x.params → e.set ≡ x.set → cop_of b ≡ spec.engine_drive e (cpu_of b) → is_issued b ≡ true → response_on b ≡ response_of (word_hit x b.issue_instr)
unfolding response_cop
one-answer x b e p s d i =
    let ready : b.issue_ready ≡ spec.issue_ready e (cpu_of b) = ap (λ (c : CopOut). c.issue_ready) d in
    let on : spec.issue_ready e (cpu_of b) ≡ true = sym ready ∙ right b.issue_valid b.issue_ready i in
    let hit : spec.response_hit e (cpu_of b) ≡ spec.offered_hit e (cpu_of b) = ap (λ t. if t then spec.offered_hit e (cpu_of b) else None) on in
    let same : extension-of e ≡ x = same-extension e p s in
    ap response_cop d ∙ ap response_of hit ∙ ap (λ (y : Extension). response_of (word_hit y b.issue_instr)) same
  where
    right : (v r : Bool) → (v && r) ≡ true → r ≡ true
    right true r h = h
    right false r h = cc

    extension-of : Engine → Extension
    extension-of e = record { set = e.set; params = e.params }

    same-extension : (e : Engine) → e.params ≡ x.params → e.set ≡ x.set → extension-of e ≡ x
    same-extension e p s = ap (λ q. record { set = e.set; params = q }) p ∙ ap (λ q. record { set = q; params = x.params }) s

pub answers-driven : (params : Params) (set : List UnitTable) (script : Lists) (session : List Bus) → IsDriven params set script session
    → Each (λ b. is_issued b ≡ true → response_on b ≡ response_of (word_hit (record { set = set; params = params }) b.issue_instr)) session
answers-driven params set script [] d = tt
answers-driven params set script (b ∷ session) d =
    let t = told params set script session d.1 in
    (λ i. one-answer (record { set = set; params = params }) b (engine_of params set script session) t.params_is t.set_is d.0 i, answers-driven params set script session d.1)
