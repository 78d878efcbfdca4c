-- The cycle of a sample, of which the judge of the session judged the bus.
use Rattle.std.proofs.Common.{◌≡◌, true, cond, List, [], ◌∷◌, Option, Some, None, Ok, Err, refl, sym, ap, ◌∙◌, subst}
use Rattle.std.specs.Option.{option_map}
use Rattle.xif_base.specs.declared.params.Params.{Params}
use Rattle.xif_signals.specs.declared.sample.Quad.{Quad}
use Rattle.xif_signals.specs.declared.bus.Bus.{Bus}
use Rattle.xif_signals.specs.declared.rule.Channel.{Channel}
use Rattle.xif_signals.specs.declared.rule.Rule.TheVariants.{K1, K2}
use Rattle.xif_signals.specs.Bus.{bus_of}
use Rattle.xif_signals.specs.Channels.{first_failing_channel}
use Rattle.xif_signals.specs.Quad.{is_in_session}
use Rattle.xif_signals.specs.Known.{holds_k1, holds_k2, known_by, known_of}
use Rattle.xif_session.specs.declared.fault.Fault.{Fault as BusFault}
use Rattle.xif_session.specs.Facts.{Past, past_of, past_after}
use Rattle.xif_session.specs.Tests.{bus_fault, answer_of}
use Rattle.xif_judge.specs.Rules.{session_of, past_at}
use Rattle.xif_judge.specs.Faults.{with_key, fault_by, fault_now}
use Rattle.xif_judge.specs.Judging.{SessionJudging, HasFollowed, fault_answer}

keyed_err : (found : Option BusFault) (fault : BusFault) → answer_of found ≡ Err fault → fault_answer (option_map with_key found) ≡ Err (with_key fault)
keyed_err None fault e = cc
keyed_err (Some other) fault e = cc

keyed_ok : (found : Option BusFault) → answer_of found ≡ Ok tt → fault_answer (option_map with_key found) ≡ Ok tt
keyed_ok None e = refl
keyed_ok (Some other) e = cc

known_is : (sample : List Quad) (params : Params) (first second : Option Channel) (bus : Bus) → known_by K1 first (known_by K2 second (Ok (bus_of sample params))) ≡ Ok bus → bus_of sample params ≡ bus
known_is sample params None None bus e = cc
known_is sample params None (Some channel) bus e = cc
known_is sample params (Some channel) second bus e = cc

module _ (params : Params) (older : List (List Quad)) (sample : List Quad) (bus : Bus) (within : is_in_session sample params ≡ true) (known : known_of sample params ≡ Ok bus) where
  now_is : fault_now params older sample ≡ option_map with_key (bus_fault params (past_at params older) bus)
  now_is =
      ap (λ t. cond t (fault_by params (past_at params older) (known_of sample params)) None) within
      ∙ ap (fault_by params (past_at params older)) known

  pub cycle_err : (fault : BusFault) → Err fault ≡ answer_of (bus_fault params (past_at params older) bus) → Err (with_key fault) ≡ fault_answer (fault_now params older sample)
  cycle_err fault e =
      sym (ap fault_answer now_is ∙ keyed_err (bus_fault params (past_at params older) bus) fault (sym e))

  pub cycle_ok : Ok tt ≡ answer_of (bus_fault params (past_at params older) bus) → Ok tt ≡ fault_answer (fault_now params older sample)
  cycle_ok e = sym (ap fault_answer now_is ∙ keyed_ok (bus_fault params (past_at params older) bus) (sym e))

  past_is : past_at params (sample ∷ older) ≡ past_after (past_at params older) bus
  past_is =
      ap (λ t. past_of (cond t (bus_of sample params ∷ session_of params older) [])) within
      ∙ ap (past_after (past_at params older)) (known_is sample params (first_failing_channel (holds_k1 sample params)) (first_failing_channel (holds_k2 sample params)) bus known)

  pub cycle_followed : (session : SessionJudging) → HasFollowed session params (past_after (past_at params older) bus) → HasFollowed session params (past_at params (sample ∷ older))
  cycle_followed session h = subst (λ (p : Past). HasFollowed session params p) (sym past_is) h
