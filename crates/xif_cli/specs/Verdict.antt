-- What `judge` prints.
use Rattle.std.specs.Prelude.{ℕ, List, ◌++◌, Option, Some, None}
use Rattle.std.specs.Fmt.{decimal}
use Rattle.xif_base.specs.declared.params.Key.{Key}
use Rattle.xif_signals.specs.declared.rule.Channel.{Channel}
use Rattle.xif_signals.specs.declared.rule.Channel.TheVariants as channel
use Rattle.xif_signals.specs.declared.rule.Rule.{Rule}
use Rattle.xif_signals.specs.declared.rule.Rule.TheVariants.{K1, K2, H1, I1, I2, I3, I4, I5, G1, G2, G3, G4, G5, C1, C2, C3, R1, R2, R3, R4, R5, R6}
use Rattle.xif_judge.specs.declared.verdict.Verdict.{Verdict}
use Rattle.waveform_judge.specs.declared.judged.Judged.{Judged}
use Rattle.xif_cli.specs.declared.answer.End.{End}
use Rattle.xif_cli.specs.declared.answer.End.TheVariants.{Done, Illegal}
use lib.Chars.{codes}

-- the word for a channel
abbrev pub channel_word : Channel → List ℕ
channel_word channel.Issue = codes "issue"
channel_word channel.Register = codes "register"
channel_word channel.Commit = codes "commit"
channel_word channel.Result = codes "result"

-- the name of a rule
abbrev pub rule_word : Rule → List ℕ
rule_word K1 = codes "K1"
rule_word K2 = codes "K2"
rule_word H1 = codes "H1"
rule_word I1 = codes "I1"
rule_word I2 = codes "I2"
rule_word I3 = codes "I3"
rule_word I4 = codes "I4"
rule_word I5 = codes "I5"
rule_word G1 = codes "G1"
rule_word G2 = codes "G2"
rule_word G3 = codes "G3"
rule_word G4 = codes "G4"
rule_word G5 = codes "G5"
rule_word C1 = codes "C1"
rule_word C2 = codes "C2"
rule_word C3 = codes "C3"
rule_word R1 = codes "R1"
rule_word R2 = codes "R2"
rule_word R3 = codes "R3"
rule_word R4 = codes "R4"
rule_word R5 = codes "R5"
rule_word R6 = codes "R6"

-- hart and id, where the fault has them
abbrev pub key_words : Option Key → List ℕ
key_words None = codes "hart=- id=-"
key_words (Some key) = codes "hart=" ++ decimal key.hart ++ codes " id=" ++ decimal key.id

-- the line of a first fault
abbrev pub verdict_line : Verdict → List ℕ
verdict_line v =
    codes "illegal cycle=" ++ decimal v.cycle ++ codes " rule=" ++ rule_word v.rule
    ++ codes " channel=" ++ channel_word v.channel
    ++ codes " " ++ key_words v.key ++ codes "\n"

-- the line of so many cycles without a fault
abbrev pub legal_line : ℕ → List ℕ
legal_line cycles = codes "legal cycles=" ++ decimal cycles ++ codes "\n"

-- what is printed of so many cycles, of which the first fault is this one, if there is one
abbrev pub text_by : ℕ → Option Verdict → List ℕ
text_by cycles None = legal_line cycles
text_by cycles (Some verdict) = verdict_line verdict

-- what is printed of a waveform
abbrev pub judged_text : Judged → List ℕ
judged_text judged = text_by judged.cycles judged.verdict

-- how a command ends that found this first fault, or none
abbrev pub end_by : Option Verdict → End
end_by None = Done
end_by (Some verdict) = Illegal

-- how the command ends
abbrev pub judged_end : Judged → End
judged_end judged = end_by judged.verdict
