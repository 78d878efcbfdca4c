-- The first channel at which a test fails, and the channels at which it holds.
use Rattle.std.proofs.Common.{◌≡◌, Bool, true, false, not, cond, None, Some, refl}
use Rattle.std.specs.Prelude.{◌↔◌, IsTrue}
use Rattle.xif_signals.specs.declared.rule.Channel.{Channel}
use Rattle.xif_signals.specs.declared.rule.Channel.TheVariants.{Issue, Register, Commit, Result as ResultChannel}
use Rattle.xif_signals.specs.Channels.{first_failing_channel}

pub none_fails : (test : Channel → Bool) → ((channel : Channel) → IsTrue (test channel)) → first_failing_channel test ≡ None
none_fails test all = rw (all Issue, all Register, all Commit, all ResultChannel) refl

-- it holds at all four
pub record AllHold (a b c d : Bool) : Type 0 where
  pub issue : a ≡ true
  pub register : b ≡ true
  pub commit : c ≡ true
  pub outcome : d ≡ true

all_hold : {X : Type 0} (a b c d : Bool) (w x y z : X)
    → cond (not a) (Some w) (cond (not b) (Some x) (cond (not c) (Some y) (cond (not d) (Some z) None))) ≡ None → AllHold a b c d
all_hold false b c d w x y z e = absurd (cc)
all_hold true false c d w x y z e = absurd (cc)
all_hold true true false d w x y z e = absurd (cc)
all_hold true true true false w x y z e = absurd (cc)
all_hold true true true true w x y z e = record { issue = refl; register = refl; commit = refl; outcome = refl }

holds_at : (test : Channel → Bool) → AllHold (test Issue) (test Register) (test Commit) (test ResultChannel) → (channel : Channel) → IsTrue (test channel)
holds_at test h Issue = h.issue
holds_at test h Register = h.register
holds_at test h Commit = h.commit
holds_at test h ResultChannel = h.outcome

pub none_failing : (test : Channel → Bool) → (first_failing_channel test ≡ None) ↔ ((channel : Channel) → IsTrue (test channel))
none_failing test = (
  λ none. holds_at test (all_hold (test Issue) (test Register) (test Commit) (test ResultChannel) Issue Register Commit ResultChannel none),
  λ all. none_fails test all,
)
