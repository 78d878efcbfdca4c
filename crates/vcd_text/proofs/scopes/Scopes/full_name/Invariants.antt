use Rattle.std.proofs.Common.{◌≡◌, ◌++◌, drop, string_bytes}
use Rattle.vcd_text.specs.Codes.{full_name}
use Rattle.vcd_text.proofs.scopes.Scopes.full_name.Given as goal

abbrev pub invariant-loop-scope : goal.invariant-loop-scope
invariant-loop-scope l = string_bytes l.full ++ full_name (drop l.scope-index l.scope-items) l.name ≡ full_name l.scope-items l.name
