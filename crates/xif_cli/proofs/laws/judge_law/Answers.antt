use Rattle.xif_cli.proofs.Judged.{answers_legal, answers_first}
use Rattle.xif_cli.proofs.laws.judge_law.Goals as goal

pub returns-clause-legal : goal.returns-clause-legal
returns-clause-legal c = λ find name waveform job history names. answers_legal find name waveform job history names

pub returns-clause-illegal : goal.returns-clause-illegal
returns-clause-illegal c = λ find name waveform job history names fails. answers_first find name waveform job history names fails
