use Rattle.std.proofs.Common.{◌≡◌, ◌+◌, ◌-◌, ◌++◌, [], ◌∷◌, take, drop, Some, arith, ap, sym, ◌∙◌}
use Rattle.std.proofs.lemmas.List.Elements.{All-push}
use Rattle.xif_image.specs.declared.image.ByteAt.{ByteAt}
use Rattle.xif_image.specs.Image.{IsWithin}
use Rattle.xif_image.specs.Text.{Token, tokens_from, placed_by}
use Rattle.xif_image.proofs.Places.{with_front, byte_step}
use Rattle.xif_image.proofs.text.read.Goals as goal

pub loop-start-preserved : goal.loop-start-preserved
loop-start-preserved c =
    let bytes = c.args.bytes.now in
    let base = c.args.base in
    let size = c.args.size in
    let load = c.loop-start.load in
    let count = c.loop-start.count in
    let placed = c.loop-start.placed.items in
    let address = c.in-Some-address_of.ensures in
    let byte : ByteAt = record { address = load + count; value = c.in-Some-Byte.value } in
    let token : Token = record { at = c.in-Some.start; bytes = take (c.in-Some.end - c.in-Some.start) (drop c.in-Some.start bytes) } in
    let tokens = tokens_from c.in-Some.end 0 (drop c.in-Some.end bytes) in
    let pushed : c.push.new.self.items ≡ placed ++ byte ∷ [] =
    c.in_ok-push-in-Some-Byte.ensures.items ∙ ap (λ a. placed ++ record { address = a; value = c.in-Some-Byte.value } ∷ []) address.1 in
    let so_far = ap (λ ts. with_front placed (placed_by base size (load + count) ts)) (sym c.in-Some.ensures.token) ∙ c.loop-start.invariant.rest in
    record {
      inside = omega (arith, c.in-Some.ensures.within);
      within = rw pushed (All-push (λ b. IsWithin base size b.address) placed byte c.loop-start.invariant.within address.0);
      rest = ap (λ items. with_front items (placed_by base size (load + (count + 1)) tokens)) pushed
          ∙ byte_step base size load count c.in-Some-Byte.value token tokens placed _ (sym c.item_of.ensures ∙ c.in-Some-Byte.is ∙ ap Some c.in-Some-Byte.field-0-is) address.0 so_far;
    }
