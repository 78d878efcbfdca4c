-- A text has no more items than bytes.
use Rattle.std.proofs.Common.{◌+◌, ◌≤◌, ℕ, Bool, true, false, cond, List, [], ◌∷◌, ◌++◌, length, Option, Some, None, Result, Ok, Err, arith}
use Rattle.std.specs.List.{fold}
use Rattle.std.specs.Option.{option_to_list}
use Rattle.std.proofs.lemmas.List.{length-append}
use Rattle.vcd_text.specs.declared.fault.VcdFault.{VcdFault}
use Rattle.vcd_text.specs.declared.item.Item.{Item}
use Rattle.vcd_text.specs.declared.state.State.{State}
use Rattle.vcd_text.specs.Words.{is_white}
use Rattle.vcd_text.specs.Tokens.{Token, token_before, complete}
use Rattle.vcd_text.specs.Grammar.{Step, step}
use Rattle.vcd_text.specs.Reading.{Read, from, start, go, go_from, moved, read_so_far}

one_more : (o : Option Item) → length (option_to_list o) ≤ 1
one_more None = omega arith
one_more (Some y) = omega arith

moved_few : (r : Read) (s : Step) → length (moved r s).items ≤ length r.items + 1
moved_few r (Ok x) = omega (arith, one_more x.1, length-append r.items (option_to_list x.1))
moved_few r (Err f) = omega arith

go_few_from : (r : Read) (s : Result State VcdFault) (t : Token) → length (go_from r s t).items ≤ length r.items + 1
go_few_from r (Ok s) t = moved_few r (step s t)
go_few_from r (Err f) t = omega arith

fold_few : (ts : List Token) (r : Read) → length (fold go r ts).items ≤ length r.items + length ts
fold_few [] r = omega arith
fold_few (t ∷ ts) r = omega (arith, fold_few ts (go r t), go_few_from r r.state t)

before_few : (at : ℕ) (run : List ℕ) → length (token_before at run) ≤ 1
before_few at [] = omega arith
before_few at (b ∷ bs) = omega arith

complete_by : (white : Bool) (run text : List ℕ) (b at : ℕ) → length (complete [] (at + 1) text) ≤ length text → length (complete (run ++ b ∷ []) (at + 1) text) ≤ length text
    → length (cond white (token_before at run ++ complete [] (at + 1) text) (complete (run ++ b ∷ []) (at + 1) text)) ≤ length text + 1
complete_by true run text b at e f = omega (arith, e, before_few at run, length-append (token_before at run) (complete [] (at + 1) text))
complete_by false run text b at e f = omega (arith, f)

complete_few : (text run : List ℕ) (at : ℕ) → length (complete run at text) ≤ length text
complete_few [] run at = omega arith
complete_few (b ∷ text) run at =
    omega (arith, complete_by (is_white b) run text b at (complete_few text [] (at + 1)) (complete_few text (run ++ b ∷ []) (at + 1)))

pub items_few : (text : List ℕ) → length (read_so_far text).items ≤ length text
items_few text = omega (arith, fold_few (complete [] 0 text) (from start), complete_few text [] 0)
