-- The samples of a history of items, the newest first.
use Rattle.std.specs.Prelude.{List, [], ◌∷◌, ◌++◌}
use Rattle.std.specs.Option.{option_to_list}
use Rattle.xif_signals.specs.declared.sample.Quad.{Quad}
use Rattle.vcd_text.specs.declared.item.Item.{Item}
use Rattle.xif_sampler.specs.declared.source.Source.{Source}
use Rattle.xif_sampler.specs.Samples.{answer_to}

-- those of the instants that a greater time ended
abbrev pub newest : List Source → List Item → List (List Quad)
newest sources [] = []
newest sources (item ∷ h) = option_to_list (answer_to sources h item) ++ newest sources h
