-- The fault of a cycle: the first rule that fails in it, with the channel and the key that are
-- reported.
use Rattle.std.specs.Prelude.{◌≡◌, if◌then◌else◌, List, Option, Some, None, IsSomeAnd, Result, Ok, Err}
use Rattle.std.specs.Option.{option_map}
use Rattle.xif_base.specs.declared.params.Params.{Params}
use Rattle.xif_signals.specs.declared.sample.Quad.{Quad}
use Rattle.xif_signals.specs.declared.bus.Bus.{Bus}
use Rattle.xif_signals.specs.declared.rule.Channel.{Channel}
use Rattle.xif_signals.specs.declared.rule.Rule.{Rule}
use Rattle.xif_signals.specs.declared.rule.Rule.TheVariants.{K1, K2}
use Rattle.xif_signals.specs.declared.rule.Unknown.{Unknown}
use Rattle.xif_signals.specs.Quad.{is_in_session}
use Rattle.xif_signals.specs.Bus.{bus_of}
use Rattle.xif_signals.specs.Channels.{first_failing_channel}
use Rattle.xif_signals.specs.Known.{holds_k1, holds_k2, known_of}
use Rattle.xif_session.specs.declared.fault.Fault.{Fault as BusFault}
use Rattle.xif_session.specs.Facts.{Past}
use Rattle.xif_session.specs.Tests.{fault_of, bus_fault}
use Rattle.xif_judge.specs.declared.verdict.Fault.{Fault}
use Rattle.xif_judge.specs.Rules.{past_at}

-- a fault of unknown bits has no key
abbrev pub unknown_at : Rule → Channel → Fault
unknown_at rule channel = record { rule = rule; channel = channel; key = None }

-- that of a bus has one
abbrev pub with_key : BusFault → Fault
with_key fault = record { rule = fault.rule; channel = fault.channel; key = Some fault.key }

-- What is reported of a rule that fails in a cycle. K1 and K2 report the first channel at which
-- they fail.
abbrev pub reported : Params → Rule → (older : List (List Quad)) → List Quad → Option Fault
reported params K1 older sample =
    option_map (unknown_at K1) (first_failing_channel (holds_k1 sample params))
reported params K2 older sample =
    option_map (unknown_at K2) (first_failing_channel (holds_k2 sample params))
reported params rule older sample =
    Some (with_key (fault_of params rule (past_at params older) (bus_of sample params)))

-- the fault of K1 or K2, else that of the bus
abbrev pub fault_by : Params → Past → Result Bus Unknown → Option Fault
fault_by params p (Err unknown) = Some (unknown_at unknown.rule unknown.channel)
fault_by params p (Ok bus) = option_map with_key (bus_fault params p bus)

-- The fault of a cycle. A cycle that is in no session has none.
abbrev pub fault_now : Params → (older : List (List Quad)) → List Quad → Option Fault
fault_now params older sample =
    if is_in_session sample params
    then fault_by params (past_at params older) (known_of sample params) else None

-- there is a fault, and it is that of this rule
abbrev pub Reports : Option Fault → Rule → Type 0
Reports found rule = IsSomeAnd found (λ fault. fault.rule ≡ rule)
