use Rattle.command_laws.proofs.Verdicts.{judged}
use Rattle.command_laws.proofs.laws.trace_is_judged_legal.Goals as goal

pub returns : goal.returns
returns c = λ run_words judge_words before after job answer bytes runs means keeps judges. judged run_words judge_words before after job answer bytes runs means keeps judges
