use Rattle.std.proofs.Common.{◌≡◌, ℕ, true, false, cond, [], ◌∷◌, Some, None, sym, ap, ◌∙◌}
use Rattle.std.specs.Option.{option_map}
use Rattle.coproc_config.specs.declared.accept.Hit.{Hit}
use Rattle.coproc_config.specs.Set.{UnitTable, place_of}
use Rattle.coproc_config.specs.Accept.{takes, hit_at, read_flags}
use Rattle.coproc_config.specs.Table.{write_flags}
use Rattle.coproc_config.proofs.Finds.{missed, met}
use Rattle.coproc_config.proofs.Hits.{hit-same}
use Rattle.coproc_config.proofs.set.Unit.accept.Goals as goal

pub returns-then-takes-clause-first : goal.returns-then-takes-clause-first
returns-then-takes-clause-first c =
    let p = c.args.params.now in
    let unit : ℕ × UnitTable = (c.args.unit, c.args.self.now) in
    let row = c.get-entry.result.now in
    let place = place_of unit (c.loop-i.i, row) in
    let hit : Hit = record { unit = c.args.unit; entry = c.loop-i.i; register_read = c.read_flags.result; writeback = c.write_flags.result } in
    let same : hit ≡ hit_at p place = hit-same c.args.unit c.loop-i.i c.read_flags.result c.write_flags.result _ _ (c.read_flags.ensures ∙ ap (read_flags p) c.reads.ensures) (c.write_flags.ensures ∙ ap write_flags c.writes.ensures) in
    let yes : takes p c.args.word row ≡ true = sym c.if-takes.ensures.takes in
    let found : option_map (hit_at p) (cond (takes p c.args.word row) (Some place) None) ≡ Some hit = ap (λ b. option_map (hit_at p) (cond b (Some place) None)) yes ∙ ap Some (sym same) in
    sym (c.loop-i.invariant ∙ met (hit_at p) (λ place. takes p c.args.word place.row) (λ entry. place_of unit entry ∷ []) c.args.self.now.entries c.loop-i.i row hit c.get-entry.ensures found)

pub loop-i-preserved : goal.loop-i-preserved
loop-i-preserved c =
    let p = c.args.params.now in
    let unit : ℕ × UnitTable = (c.args.unit, c.args.self.now) in
    let row = c.get-entry.result.now in
    let place = place_of unit (c.loop-i.i, row) in
    let no : takes p c.args.word row ≡ false = sym c.if-takes.ensures.takes in
    let none : option_map (hit_at p) (cond (takes p c.args.word row) (Some place) None) ≡ None = ap (λ b. option_map (hit_at p) (cond b (Some place) None)) no in
    c.loop-i.invariant ∙ missed (hit_at p) (λ place. takes p c.args.word place.row) (λ entry. place_of unit entry ∷ []) c.args.self.now.entries c.loop-i.i row c.get-entry.ensures none

pub returns-then-takes-clause-flags : goal.returns-then-takes-clause-flags
returns-then-takes-clause-flags c = record {
  entry = c.get-entry.result.now;
  there = c.get-entry.ensures;
  taken = sym c.if-takes.ensures.takes;
  reads = c.read_flags.ensures ∙ ap (read_flags c.args.params.now) c.reads.ensures;
  writes = c.write_flags.ensures ∙ ap write_flags c.writes.ensures;
}
