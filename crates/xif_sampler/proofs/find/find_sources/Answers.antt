use Rattle.std.specs.Prelude.{List}
use Rattle.std.proofs.Common.{subst}
use Rattle.xif_signals.specs.declared.signal.Signal.{Signal}
use Rattle.xif_sampler.specs.Places.{source_of, sources_along, sources_of, FindsAs}
use Rattle.xif_sampler.proofs.find.find_sources.Goals as goal

pub returns-clause-found : goal.returns-clause-found
unfolding sources_of
returns-clause-found c =
    let P : List Signal → Type 0 = λ ss. FindsAs c.find_along.result (sources_along (source_of c.args.map.now c.args.variables.now c.args.params.now) ss) in
    subst P c.all.ensures c.find_along.ensures.found
