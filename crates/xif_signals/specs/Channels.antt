-- The four channels (CV-X-IF 1.0.0, "Issue interface", "Register interface", "Commit interface",
-- "Result interface"): valid and key of each in a cycle, and the first at which a test fails.
use Rattle.std.specs.Prelude.{Bool, not, List, [], ◌∷◌, find, Option}
use Rattle.xif_base.specs.declared.params.Key.{Key}
use Rattle.xif_signals.specs.declared.bus.Bus.{Bus}
use Rattle.xif_signals.specs.declared.rule.Channel.{Channel}
use Rattle.xif_signals.specs.declared.rule.Channel.TheVariants.{Issue, Register, Commit, Result as ResultChannel}

-- in the order in which each rule is judged
abbrev pub channels : List Channel
channels = Issue ∷ Register ∷ Commit ∷ ResultChannel ∷ []

-- the first channel, in that order, at which a test fails
abbrev pub first_failing_channel : (Channel → Bool) → Option Channel
first_failing_channel test = find (λ channel. not (test channel)) channels

-- whether a channel carries something (CV-X-IF 1.0.0, "Handshake rules")
abbrev pub valid_of : Bus → Channel → Bool
valid_of bus Issue = bus.issue_valid
valid_of bus Register = bus.register_valid
valid_of bus Commit = bus.commit_valid
valid_of bus ResultChannel = bus.result_valid

-- hartid and id of what it carries (CV-X-IF 1.0.0, "Identification")
abbrev pub key_of : Bus → Channel → Key
key_of bus Issue = record { hart = bus.issue_hartid; id = bus.issue_id }
key_of bus Register = record { hart = bus.register_hartid; id = bus.register_id }
key_of bus Commit = record { hart = bus.commit_hartid; id = bus.commit_id }
key_of bus ResultChannel = record { hart = bus.result_hartid; id = bus.result_id }
