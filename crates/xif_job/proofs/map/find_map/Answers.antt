use Rattle.std.specs.Prelude.{List, ℕ, Option, codes, map}
use Rattle.std.proofs.Common.{subst}
use Rattle.toml.specs.Data.{Data, get_member}
use Rattle.toml.specs.View.{table_view}
use Rattle.xif_signals.specs.declared.signal.Signal.TheVariants.{Clk}
use Rattle.xif_job.specs.declared.field.Field.TheVariants.{Map}
use Rattle.xif_job.specs.Outcome.{ReadsAs}
use Rattle.xif_job.specs.Readers.{table_in}
use Rattle.xif_job.specs.Tables.{members}
use Rattle.xif_job.proofs.map.find_map.Goals as goal

pub returns : goal.returns
returns c =
    let P : List (List ℕ) → Type 0 = λ ns. ReadsAs members c.table.result (table_in (Map Clk) ns (get_member (codes "map") (table_view c.args.top.now))) in
    let Q : Option Data → Type 0 = λ d. ReadsAs members c.table.result (table_in (Map Clk) (map (λ n. n.now) c.names-names.result) d) in
    subst P c.names-names.ensures (subst Q c.find-found.ensures c.table.ensures)
