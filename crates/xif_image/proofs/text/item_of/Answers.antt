use Rattle.std.proofs.Common.{◌≡◌, true, false, is_ok, is_some, ap, sym, ◌∙◌}
use Rattle.std.proofs.lemmas.Bool.{cond-true, cond-false}
use Rattle.std.specs.Option.{option_map}
use Rattle.xif_image.specs.declared.text.Item.TheVariants.{Byte}
use Rattle.xif_image.proofs.Items.{byte_read, item_of_byte}
use Rattle.xif_image.proofs.text.item_of.Goals as goal

pub returns-in_err-ok : goal.returns-in_err-ok
returns-in_err-ok c =
    let refused : is_ok c.decode_to_slice.result ≡ false = sym c.ok.ensures.variant ∙ ap is_some c.in_err-ok.was in
    c.from_residual-in_err-ok.ensures
    ∙ sym (item_of_byte c.args.token.now c.in_default.ensures.cases
    ∙ ap (option_map Byte) (byte_read c.args.token.now c.decode_to_slice.result c.decode_to_slice.new.out c.decode_to_slice.ensures.value ∙ cond-false _ _ _ refused))

pub returns : goal.returns
returns c =
    let read : is_ok c.decode_to_slice.result ≡ true = sym c.ok.ensures.variant ∙ ap is_some c.in_ok-ok.was in
    sym (item_of_byte c.args.token.now c.in_default.ensures.cases
    ∙ ap (option_map Byte) (byte_read c.args.token.now c.decode_to_slice.result c.decode_to_slice.new.out c.decode_to_slice.ensures.value ∙ cond-true _ _ _ read))
