use Rattle.command_laws.proofs.Calls.{prints}
use Rattle.command_laws.proofs.laws.judge_after_run_prints_legal.Goals as goal

pub returns : goal.returns
returns c = λ run_words judge_words before left later after job end report verdict bytes runs ran same judges called.
    prints run_words judge_words before left later after job end report verdict bytes runs ran same judges called
