-- What the core owes, said of the history.
use Rattle.std.proofs.Common.{◌≡◌, ◌&&◌, ◌||◌, not, Bool, true, false, Option, Some, None, List, [], ◌∷◌, length, refl, sym, ap, ap₂, ◌∙◌, subst}
use Rattle.std.specs.Prelude.{is_some, IsSomeAnd}
use Rattle.std.specs.Option.{option_map, option_map_or}
use Rattle.xif_base.specs.declared.params.Params.{Params}
use Rattle.xif_base.specs.declared.flags.ReadFlags.{ReadFlags}
use Rattle.xif_base.specs.Params.{IsInRange}
use Rattle.coproc_config.specs.Set.{UnitTable}
use Rattle.xif_drive.specs.Scripts.{Lists}
use Rattle.xif_signals.specs.declared.bus.Bus.{Bus}
use Rattle.xif_signals.specs.declared.rule.Channel.TheVariants.{Issue}
use Rattle.xif_session.specs.Facts.{past_of, issue_key, register_key, is_given, is_in_flight, is_running as runs, is_held, named, is_start, verdict_of}
use Rattle.xif_session.specs.Facts as facts
use Rattle.xif_session.specs.Rules.{HasHart, HoldsI2, HoldsG2}
use Rattle.xif_session.specs.Uses.{last_bus}
use Rattle.engine_history.specs.Lives.{Life, Answer, Operands, latest, lives_of, lives_with}
use Rattle.engine_history.specs.Runs.{IsOrderly, IsDriven, engine_of}
use Rattle.engine_history.specs.Told.{fact_told}
use Rattle.engine_history.proofs.Tests.{killed_told}
use Rattle.engine_history.proofs.Offered.{is_running}
use Rattle.engine_history.proofs.Ordered.{IsOrderlyCycle, AllOrderly, IsBoth, both_told}
use Rattle.engine_history.proofs.Session.{facts_are, starts_are, named_are}

accepted_told : (a : Option Answer) → facts.is_accepted (option_map (λ (a : Answer). a.response) a) ≡ option_map_or (λ (a : Answer). a.response.accept) a false
accepted_told None = refl
accepted_told (Some a) = refl

running_told : (o : Option Life) → runs (option_map fact_told o) ≡ option_map_or is_running o false
running_told None = refl
running_told (Some l) = ap₂ (λ a k. a && not (k || is_some l.finish)) (accepted_told l.answer) (killed_told l.verdict)

left : (a b : Bool) → (a || b) ≡ false → a ≡ false
left true b h = cc
left false b h = refl

no_operands : (o : Option Life) → IsSomeAnd (option_map fact_told o) (λ fact. fact.operands ≡ None) → option_map_or (λ (l : Life). is_some l.operands) o false ≡ false
no_operands None h = absurd h
no_operands (Some l) h = go l.operands h
  where
    go : (o : Option Operands) → option_map {U = ReadFlags} (λ (o : Operands). record { 0 = o.valid }) o ≡ None → is_some o ≡ false
    go None h = refl
    go (Some o) h = cc

one_cycle : (params : Params) (session : List Bus) (b : Bus) → HasHart params b Issue → HoldsI2 params (past_of session) b → HoldsG2 (past_of session) b → IsOrderlyCycle params (length session) (last_bus session) b (lives_of session)
one_cycle params session b h1 i2 g2 = record {
  hart = λ s. h1 (valid b.issue_valid _ s);
  free = λ s. sym (running_told (latest (issue_key b) (lives_of session))) ∙ ap runs (sym (facts_are session (issue_key b))) ∙ left _ _ (i2 (starts_are session b ∙ s));
  once = λ g. no_operands (latest (register_key b) (lives_with session b)) (subst (λ o. IsSomeAnd o (λ fact. fact.operands ≡ None)) (named_are session b (register_key b)) (g2 (valid b.register_valid _ g)));
}
  where
    valid : (v x : Bool) → (v && x) ≡ true → v ≡ true
    valid true x h = refl
    valid false x h = cc

pub all_orderly : (params : Params) (session : List Bus) → IsOrderly params session → AllOrderly params session
all_orderly params [] o = tt
all_orderly params (b ∷ session) o =
    (one_cycle params session b o.harts.0 o.keys.0 o.registers.0, all_orderly params session (record { harts = o.harts.1; keys = o.keys.1; registers = o.registers.1 }))

-- beside an orderly core
pub orderly_told : (params : Params) (set : List UnitTable) (script : Lists) (session : List Bus) → IsInRange params → IsDriven params set script session → IsOrderly params session
    → IsBoth params set (length session) (last_bus session) (lives_of session) (engine_of params set script session)
orderly_told params set script session range d o = both_told params set script session range d (all_orderly params session o)
