use Rattle.std.proofs.Common.{◌-◌, length, take, drop, arith, ap, ◌∙◌}
use Rattle.xif_base.specs.Output.{grown}
use Rattle.xif_base.proofs.Fronts.{grown-slice}
use Rattle.xif_base.proofs.write.put_all.Goals as goal

pub loop-done-preserved : goal.loop-done-preserved
loop-done-preserved g c =
    let before = c.loop-done.invariant in
    let call = c.in_ok-done.ensures in
    let done = c.loop-done.done in
    let count = c.in_ok-done.field-0 in
    let bytes = c.args.bytes.now in
    record {
      within = omega (arith, call.bound);
      put = call.bytes ∙ ap (λ told. grown told (take count (take (length bytes - done) (drop done bytes)))) before.put ∙ grown-slice (g.O.Out.put_bytes c.args.out.now) bytes done count;
      uncounted = call.uncounted (grind arith) ∙ before.uncounted;
      faultless = λ none. call.counts.stays_faultless (before.faultless none);
    }
