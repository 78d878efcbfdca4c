use Rattle.std.proofs.Common.{◌∙◌, sym, ap, arith, length, length-set, get_or}
use Rattle.toml.specs.Data.{get_member}
use Rattle.xif_signals.specs.Signal.{signal_number}
use Rattle.xif_signals.specs.declared.signal.Signal.TheVariants.{Clk}
use Rattle.xif_job.specs.FieldTable.{place_in}
use Rattle.xif_job.specs.Tables.{members}
use Rattle.xif_job.proofs.Places.{placed}
use Rattle.xif_job.proofs.Table.{number_at}
use Rattle.xif_job.proofs.map.read_places.Goals as goal

pub loop-signal-preserved : goal.loop-signal-preserved
loop-signal-preserved c =
    let i = c.loop-signal.signal-index in
    let ss = c.all-signals.result in
    let s = get_or ss i Clk in
    let x = c.in_ok-read_place.field-0 in
    let all = c.all-signals.ensures in
    let count = ap length all in
    let here = ap (place_in c.args.params.now s) (sym (c.find-found.ensures ∙ ap (λ n. get_member n (members c.args.table)) c.name.ensures)) ∙ c.in_ok-read_place.ensures in
    rw c.set.ensures record {
      all = all;
      count = length-set c.loop-signal.map (signal_number s) x ∙ c.loop-signal.invariant.count;
      so_far = placed c.args.params.now (members c.args.table) ss c.loop-signal.map i (signal_number s) Clk x _ (omega arith) (omega arith)
          (number_at ss i Clk all count (omega arith)) here c.loop-signal.invariant.so_far;
    }
