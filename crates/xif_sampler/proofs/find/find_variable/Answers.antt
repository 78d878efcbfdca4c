use Rattle.std.proofs.Common.{◌≡◌, true, ◌+◌, ◌∙◌, ap, sym, arith, take, drop, bytes_eq}
use Rattle.std.specs.Option.{option_map}
use Rattle.xif_sampler.specs.Places.{variable_of, named}
use Rattle.xif_sampler.proofs.Named.{so_far, named_whole, other_meant}
use Rattle.xif_sampler.proofs.find.find_variable.Goals as goal

pub returns-then-first-variable : goal.returns-then-first-variable
returns-then-first-variable c =
    let i = c.loop-variable.variable-index in
    let vs = c.args.variables.now in
    let name = c.args.name.now in
    let is_named : bytes_eq c.variable-item.result.name name ≡ true = sym c.has_name.ensures ∙ c.if-has_name.true in
    ap (variable_of c.args.signal) (named_whole name vs i c.variable-item.result (omega arith) c.variable-item.is is_named)
    ∙ other_meant c.args.signal (named name (take i vs)) c.in-Some.first.now c.variable-item.result (named name (drop (i + 1) vs))
    (c.loop-variable.invariant ∙ ap (λ o. so_far c.args.signal (option_map (λ v. v.now) o)) c.in-Some.is) c.if-first-variable.true
