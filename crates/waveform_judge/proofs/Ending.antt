-- What a judge of waveforms makes of the end of a text.
use Rattle.std.proofs.Common.{◌≡◌, ◌∙◌, ◌<◌, ◌≤◌, ◌+◌, ◌-◌, ◌^◌, ℕ, false, List, [], ◌∷◌, ◌++◌, length, Option, Some, None, Result, Ok, Err, refl, sym, ap, subst, arith, inl, inr}
use Rattle.std.proofs.lemmas.List.{append-nil, length-append}
use Rattle.xif_base.specs.declared.params.Params.{Params}
use Rattle.vcd_text.specs.declared.declaration.Variable.{Variable}
use Rattle.vcd_text.specs.declared.fault.FeedFail.{FeedFail}
use Rattle.vcd_text.specs.declared.fault.FeedFail.TheVariants as feed
use Rattle.vcd_text.specs.declared.fault.VcdFault.{VcdFault}
use Rattle.vcd_text.specs.declared.item.Item.{Item}
use Rattle.vcd_text.specs.declared.state.State.{State}
use Rattle.vcd_text.specs.Reading.{Reading, reading_of, reading_by, read_whole, ends, fault_at_end}
use Rattle.vcd_text.specs.Reader as reader
use Rattle.vcd_text.specs.Tokens.{ended}
use Rattle.xif_sampler.specs.declared.fault.MapFault.{MapFault}
use Rattle.xif_sampler.specs.declared.place.Place.{Place}
use Rattle.waveform_judge.specs.declared.judged.Judged.{Judged}
use Rattle.waveform_judge.specs.declared.judged.JudgeFail.TheVariants.{Vcd}
use Rattle.waveform_judge.specs.Judged.{judged_as, judged_in, judged_of, with_map_fault, fail_of, IsFail}
use Rattle.waveform_judge.specs.Represented.{ItemJudging, HasTaken, HasRead, variables_of}
use Rattle.waveform_judge.proofs.Counts.{items_few}
use Rattle.waveform_judge.proofs.Feeding.{Answer, Stays, Takes, cycles_few}
use Rattle.waveform_judge.proofs.Taking.{few_cycles}

-- ---- a text that has a reading

items_by : (variables : List Variable) (items : List Item) (o : Option VcdFault) (r : Reading) → reading_by variables items o ≡ Ok r → items ≡ r.items
items_by variables items None r e = cc
items_by variables items (Some f) r e = cc

items_from : (items : List Item) (s : Result State VcdFault) (end : ℕ) (r : Reading) → ends items s end ≡ Ok r → items ≡ r.items
items_from items (Ok s) end r e = items_by s.variables items (fault_at_end end s) r e
items_from items (Err f) end r e = cc

-- it has as few items as bytes
few_read : (text : List ℕ) (r : Reading) → reading_of text ≡ Ok r → length text < 2 ^ 32 → length r.items ≤ 2 ^ 32
few_read text r e small =
    omega (arith, small, items_few (ended text), length-append text (32 ∷ []), ap length (items_from (read_whole text).items (read_whole text).state (length text) r e))

-- the reader returned the reading of the text, and its items were taken
pub record Ends (y : ItemJudging) (map : List Place) (params : Params) (text : List ℕ) : Type 0 where
  pub reading : Reading
  pub reads : reading_of text ≡ Ok reading
  pub took : HasTaken y map params reading.variables reading.items

abbrev pub Closes : reader.Progress → reader.Progress → Answer → Type 0
Closes old new answer = (text : List ℕ) (taken : List Item) → reader.Represents old text taken → reader.Closed new text taken answer

variables_are : (r : reader.Progress) (variables : List Variable) → r.has_failed ≡ false → r.read.variables ≡ Some variables → variables_of r ≡ Some variables
variables_are r variables alive some = rw alive some

size_of : (old : reader.Progress) (text : List ℕ) (n : ℕ) → old.size ≡ n → n ≡ length text → old.size < 2 ^ 32 → length text < 2 ^ 32
size_of old text n e f small = omega (arith, e, f, small)

some_of : (o : Option (List Variable)) (vs ws : List Variable) → o ≡ Some vs → o ≡ Some ws → vs ≡ ws
some_of o vs ws e f = cc

pub end_good : (old r s : reader.Progress) (x y : ItemJudging) (map : List Place) (params : Params) (text : List ℕ) → HasRead old x map params text
    → Closes old r (Ok tt) → Stays old r (Ok tt)
    → ((vs : List Variable) → old.read.variables ≡ Some vs → r.has_failed ≡ false → r.read.variables ≡ Some vs)
    → r.has_failed ≡ false → Takes r x s y (Ok tt) → Ends y map params text
end_good old r s x y map params text (inl d) closed fault declared alive takes =
    let c = closed text [] d.reader in
    let reading : Reading = record { variables = c.0; items = r.read.items } in
    record {
      reading = reading;
      reads = c.2;
      took = (takes.0.1 map params c.0 d.items (variables_are r c.0 alive c.1)).0;
    }
end_good old r s x y map params text (inr (inl (variables, (taken, g)))) closed fault declared alive takes =
    let c = closed text taken g.reader in
    let some = declared variables g.some alive in
    let same : c.0 ≡ variables = some_of r.read.variables c.0 variables c.1 some in
    let reading : Reading = record { variables = c.0; items = taken ++ r.read.items } in
    let took = (takes.1 map params variables taken g.items (variables_are r variables alive some)).0 in
    record {
      reading = reading;
      reads = c.2;
      took = subst (λ (vs : List Variable). HasTaken y map params vs (taken ++ r.read.items)) (sym same) took;
    }
end_good old r s x y map params text (inr (inr (f, p))) closed fault declared alive takes =
    let no = (fault f p.reader).0 in cc

-- few cycles were judged, and few items wait
pub end_room : (old r : reader.Progress) (x : ItemJudging) (map : List Place) (params : Params) (text : List ℕ) → HasRead old x map params text
    → Closes old r (Ok tt) → Stays old r (Ok tt) → old.size < 2 ^ 32 → x.judge.cycles + length r.read.items < 2 ^ 64 - 1
end_room old r x map params text (inl d) closed fault small =
    let c = closed text [] d.reader in
    let reading : Reading = record { variables = c.0; items = r.read.items } in
    let none : x.judge.cycles ≡ 0 = d.items.judged.cycles in
    cycles_few x [] r.read.items (omega (arith, none)) (few_read text reading c.2 (size_of old text (length text) (d.reader.run d.good).size refl small))
end_room old r x map params text (inr (inl (variables, (taken, g)))) closed fault small =
    let c = closed text taken g.reader in
    let reading : Reading = record { variables = c.0; items = taken ++ r.read.items } in
    cycles_few x taken r.read.items (few_cycles x map params variables taken g.items) (few_read text reading c.2 (size_of old text (length text) (g.reader.run g.good).size refl small))
end_room old r x map params text (inr (inr (f, p))) closed fault small =
    let no = (fault f p.reader).0 in cc

judged_read : (map : List Place) (params : Params) (text : List ℕ) (r : Reading) → reading_of text ≡ Ok r → judged_of map params text ≡ with_map_fault (judged_in map params r.variables r.items)
unfolding judged_of
judged_read map params text r e = ap (judged_as map params) e

judged_bad : (map : List Place) (params : Params) (text : List ℕ) (f : VcdFault) → reading_of text ≡ Err f → judged_of map params text ≡ Err (Vcd f)
unfolding judged_of
judged_bad map params text f e = ap (judged_as map params) e

-- the answer for the items is that for the text
pub ends_judged : (y : ItemJudging) (map : List Place) (params : Params) (text : List ℕ) (result : Result Judged MapFault) → Ends y map params text
    → ((m : List Place) (p : Params) (variables : List Variable) (items : List Item) → HasTaken y m p variables items → result ≡ judged_in m p variables items)
    → judged_of map params text ≡ with_map_fault result
ends_judged y map params text result e finish =
    judged_read map params text e.reading e.reads ∙ ap with_map_fault (sym (finish map params e.reading.variables e.reading.items e.took))

-- ---- a text that has none

closed_bad : (old r : reader.Progress) (text : List ℕ) (taken : List Item) (answer : Answer) (f : VcdFault) → answer ≡ Err (feed.Vcd f) → Closes old r answer → reader.Represents old text taken → reading_of text ≡ Err f
closed_bad old r text taken answer f e closed stands = (subst (λ (a : Answer). reader.Closed r text taken a) e (closed text taken stands)).0

fault_is : (f g : VcdFault) (answer : Answer) → answer ≡ Err (feed.Vcd f) → answer ≡ Err (feed.Vcd g) → g ≡ f
fault_is f g answer e d = cc

read_bad : (old r : reader.Progress) (x : ItemJudging) (map : List Place) (params : Params) (text : List ℕ) (answer : Answer) (f : VcdFault) → answer ≡ Err (feed.Vcd f) → HasRead old x map params text
    → Closes old r answer → Stays old r answer → reading_of text ≡ Err f
read_bad old r x map params text answer f e (inl d) closed fault = closed_bad old r text [] answer f e closed d.reader
read_bad old r x map params text answer f e (inr (inl (variables, (taken, g)))) closed fault = closed_bad old r text taken answer f e closed g.reader
read_bad old r x map params text answer f e (inr (inr (g, p))) closed fault =
    ap reading_of (sym (append-nil text)) ∙ p.always [] ∙ ap Err (fault_is f g answer e (fault g p.reader).0)

pub end_bad : (old r : reader.Progress) (x : ItemJudging) (map : List Place) (params : Params) (text : List ℕ) (answer : Answer) (fail : FeedFail) → answer ≡ Err fail → HasRead old x map params text
    → Closes old r answer → Stays old r answer → IsFail (judged_of map params text) (fail_of fail)
end_bad old r x map params text answer (feed.Vcd f) e stands closed fault = inr (judged_bad map params text f (read_bad old r x map params text answer f e stands closed fault))
end_bad old r x map params text answer feed.NoMemory e stands closed fault = inl refl
