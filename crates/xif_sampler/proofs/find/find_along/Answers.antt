use Rattle.std.proofs.Common.{◌≤◌, ◌∙◌, refl, arith, length-set}
use Rattle.std.proofs.lemmas.Result.{err_from_is_err_and}
use Rattle.xif_signals.specs.declared.signal.Signal.TheVariants.{Clk}
use Rattle.xif_sampler.specs.Places.{source_of}
use Rattle.xif_sampler.specs.declared.source.Source.TheVariants.{Fixed}
use Rattle.xif_sampler.specs.Steps.{bits_taken}
use Rattle.xif_sampler.proofs.Lists.{each_set, each_replicate}
use Rattle.xif_sampler.proofs.Sources.{found_more, gives_fault}
use Rattle.xif_sampler.proofs.find.find_along.Goals as goal

pub returns-in_err-sources-clause-found : goal.returns-in_err-sources-clause-found
returns-in_err-sources-clause-found c =
    let i = c.loop-i in
    let p = err_from_is_err_and c.from_residual.result c.from_residual.ensures.1 in
    rw (p.1, p.2) (gives_fault (source_of c.args.map.now c.args.variables.now c.args.params.now) c.args.signals.now i.sources i.i Clk c.in_err-sources.field-0.0 (omega arith) i.invariant.found c.in_err-sources.ensures.found)

pub loop-i-preserved : goal.loop-i-preserved
loop-i-preserved c =
    let i = c.loop-i in
    record {
      count = length-set i.sources i.i c.in_ok-sources.field-0 ∙ i.invariant.count;
      found = found_more (source_of c.args.map.now c.args.variables.now c.args.params.now) c.args.signals.now i.sources i.i Clk c.in_ok-sources.field-0 (omega arith) (omega arith) i.invariant.found c.in_ok-sources.ensures.found;
      within = each_set (λ x. bits_taken x ≤ 64) i.sources i.i c.in_ok-sources.field-0 (Fixed 0) (omega arith) i.invariant.within c.in_ok-sources.ensures.within;
    }

pub loop-i-init : goal.loop-i-init
loop-i-init c = record {
  count = refl;
  found = refl;
  within = each_replicate (λ x. bits_taken x ≤ 64) 29 (Fixed 0) (omega arith);
}
