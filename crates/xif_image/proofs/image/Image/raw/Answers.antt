use Rattle.std.proofs.Common.{◌≡◌, ◌+◌, ◌++◌, Result, Ok, [], ◌∷◌, List, get_or, drop, ap, sym, ◌∙◌, inr, arith, below_more}
use Rattle.std.proofs.lemmas.Grind.{common_steps}
use Rattle.std.proofs.lemmas.List.Elements.{All-push}
use Rattle.xif_image.specs.declared.image.ByteAt.{ByteAt}
use Rattle.xif_image.specs.declared.image.ImageFault.{ImageFault}
use Rattle.xif_image.specs.Image.{Placement, bytes_from, IsWithin, unless_outside}
use Rattle.xif_image.proofs.Outsides.{none_outside, some_outside}
use Rattle.xif_image.proofs.Rows.{bytes_from-more}
use Rattle.xif_image.proofs.image.Image.raw.Goals as goal

pub loop-at-preserved : goal.loop-at-preserved
loop-at-preserved c =
    let i = c.loop-at.at in
    let bytes = c.args.bytes.now in
    let pushed : c.push.new.self.items ≡ c.loop-at.placed.items ++ record { address = c.args.load + i; value = get_or bytes i 0 } ∷ [] =
    c.in_ok-push.ensures.items
    ∙ ap (λ a. c.loop-at.placed.items ++ record { address = a; value = get_or bytes i 0 } ∷ []) c.in-Some.ensures.1 in
    record {
      rest = ap (λ items. items ++ bytes_from (c.args.load + (i + 1)) (drop (i + 1) bytes)) pushed
          ∙ bytes_from-more c.args.load bytes i c.loop-at.placed.items (bytes_from c.args.load bytes) c.loop-at-test.true c.loop-at.invariant.rest;
      before = below_more _ _ c.loop-at.invariant.before c.in-Some.ensures.0;
      within = rw pushed (All-push (λ b. IsWithin c.args.base c.args.size b.address) _ _ c.loop-at.invariant.within c.in-Some.ensures.0);
    }

pub returns-in_default-clause-exact_fault : goal.returns-in_default-clause-exact_fault
returns-in_default-clause-exact_fault c =
    let image : Placement = record { base = c.args.base; size = c.args.size; bytes = bytes_from c.args.load c.args.bytes.now } in
    inr (ap (unless_outside image) (some_outside c.args.base c.args.size c.args.load c.loop-at.at c.args.bytes.now (record {
      there = c.loop-at-test.true;
      outside = c.in_default.ensures;
      before = c.loop-at.invariant.before;
    })))

pub returns-clause-exact : goal.returns-clause-exact
returns-clause-exact c =
    let bytes = bytes_from c.args.load c.args.bytes.now in
    let image : Placement = record { base = c.args.base; size = c.args.size; bytes = bytes } in
    let all : c.loop-at.placed.items ≡ bytes = grind (arith, common_steps) in
    ap (unless_outside image) (none_outside c.args.base c.args.size c.args.load c.args.bytes.now (λ i h. c.loop-at.invariant.before i (omega (arith, h))))
    ∙ ap (λ (placed : List ByteAt). let r : Result Placement ImageFault = Ok (record { base = c.args.base; size = c.args.size; bytes = placed }) in r) (sym all)
