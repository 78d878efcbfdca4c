-- The table of the signals, by their numbers.
use Rattle.std.proofs.Common.{◌≡◌, ◌<◌, ℕ, List, map, length, get_or, refl, sym, ap, ◌∙◌, arith, zero-add}
use Rattle.std.specs.List.{range_with_len}
use Rattle.std.proofs.lemmas.List.{get_or-map}
use Rattle.std.proofs.lemmas.List.FromFn.{get_or-range_with_len}
use Rattle.xif_signals.specs.declared.signal.Signal.{Signal}
use Rattle.xif_signals.specs.Signal.{signals, signal_number}

numbers : map signal_number signals ≡ range_with_len 0 29
numbers = refl

-- signal i of the table has number i
pub number_at : (ss : List Signal) (i : ℕ) (s : Signal) → ss ≡ signals → length ss ≡ 29 → i < 29 → signal_number (get_or ss i s) ≡ i
number_at ss i s e n h =
    let inside : i < length ss = omega arith in
    sym (get_or-map signal_number ss i s 0 inside) ∙ ap (λ l. get_or (map signal_number l) i 0) e
    ∙ ap (λ l. get_or l i 0) numbers ∙ get_or-range_with_len 0 29 i 0 h ∙ zero-add i
