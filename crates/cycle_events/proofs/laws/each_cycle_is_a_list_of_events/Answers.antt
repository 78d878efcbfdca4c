use Rattle.cycle_events.proofs.Cycled.{cycled}
use Rattle.cycle_events.proofs.Stopping.{stop-leaves}
use Rattle.cycle_events.proofs.Between.{start-shown, drain-shown, resumed-shown}
use Rattle.cycle_events.proofs.laws.each_cycle_is_a_list_of_events.Goals as goal

pub returns-clause-start : goal.returns-clause-start
returns-clause-start c = λ hart s. start-shown hart s

pub returns-clause-cycle : goal.returns-clause-cycle
returns-clause-cycle c = λ start hart retired m answer w range k z s. cycled start hart retired answer m w range k z s

pub returns-clause-drain : goal.returns-clause-drain
returns-clause-drain c = λ start hart retired m w s. drain-shown start hart retired m w s

pub returns-clause-resumed : goal.returns-clause-resumed
returns-clause-resumed c = λ start hart retired m w e s. resumed-shown start hart retired m w e s

pub returns-clause-stop : goal.returns-clause-stop
returns-clause-stop c = λ start hart retired m answer w cause k h s. stop-leaves start hart retired answer m w cause k h s
