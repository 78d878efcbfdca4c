-- What a judge of waveforms makes of a piece of a text.
use Rattle.std.proofs.Common.{◌≡◌, ◌∙◌, ◌<◌, ◌≤◌, ◌+◌, ◌-◌, ◌^◌, ℕ, false, List, [], ◌++◌, length, Option, Some, None, Result, Ok, Err, refl, sym, ap, subst, append_assoc, arith, inl, inr}
use Rattle.std.specs.Prelude.{IsOk, OnOk}
use Rattle.std.proofs.lemmas.List.{append-nil, length-append}
use Rattle.std.proofs.lemmas.Result.{on_ok_weaker}
use Rattle.xif_base.specs.declared.outside.NoMemory.{NoMemory}
use Rattle.xif_base.specs.declared.params.Params.{Params}
use Rattle.vcd_text.specs.declared.declaration.Variable.{Variable}
use Rattle.vcd_text.specs.declared.fault.FeedFail.{FeedFail}
use Rattle.vcd_text.specs.declared.fault.FeedFail.TheVariants.{Vcd}
use Rattle.vcd_text.specs.declared.fault.VcdFault.{VcdFault}
use Rattle.vcd_text.specs.declared.item.Item.{Item}
use Rattle.vcd_text.specs.declared.state.State.{State}
use Rattle.vcd_text.specs.Reading.{Read, read_so_far, reading_of}
use Rattle.vcd_text.specs.Reader as reader
use Rattle.vcd_text.proofs.Texts.{fault_of_front}
use Rattle.xif_sampler.specs.declared.place.Place.{Place}
use Rattle.waveform_judge.specs.Represented.{ItemJudging, Waits, HasTaken, Declares, Continues, HasRead, variables_of, drained}
use Rattle.waveform_judge.proofs.Counts.{items_few}
use Rattle.waveform_judge.proofs.Taking.{few_cycles}

-- what the reader answered to a piece
abbrev pub Answer : Type 0
Answer = Result (Unit {0}) FeedFail

abbrev pub Feeds : reader.Progress → reader.Progress → List ℕ → Answer → Type 0
Feeds old new piece answer = (text : List ℕ) (taken : List Item) → reader.Represents old text taken → reader.Fed new (text ++ piece) taken answer

abbrev pub Stays : reader.Progress → reader.Progress → Answer → Type 0
Stays old new answer = (f : VcdFault) → reader.IsFaulty old f → (answer ≡ Err (Vcd f)) × (new ≡ old)

-- ---- a reader of a text

state_of : (r : reader.Progress) (text : List ℕ) (taken : List Item) → reader.Represents r text taken → r.read.state ≡ (read_so_far text).state
state_of r text taken s = ap (λ (x : Read). x.state) s.read

good_of : (r : reader.Progress) (text : List ℕ) (taken : List Item) → reader.Represents r text taken → IsOk (read_so_far text).state → IsOk r.read.state
good_of r text taken s good = subst (λ (x : Result State VcdFault). IsOk x) (sym (state_of r text taken s)) good

variables_are : (r : reader.Progress) (text : List ℕ) (taken : List Item) → reader.Represents r text taken → variables_of r ≡ r.read.variables
variables_are r text taken s = rw s.alive refl

-- a text of fewer than 2^32 bytes has as few items
pub few_of : (r : reader.Progress) (text : List ℕ) (taken : List Item) → reader.Represents r text taken → IsOk r.read.state → r.size < 2 ^ 32 → length (taken ++ r.read.items) ≤ 2 ^ 32
few_of r text taken s good small =
    omega (arith, small, items_few text, ap (λ (x : Read). length x.items) s.read, (s.run good).size)

pub drained_read : (r : reader.Progress) (text : List ℕ) (taken : List Item) → reader.Represents r text taken → reader.Represents (drained r) text (taken ++ r.read.items)
drained_read r text taken s = record {
  alive = s.alive;
  read = ap (λ l. record r.read { items = l }) (append-nil (taken ++ r.read.items)) ∙ s.read;
  run = λ good. record { size = (s.run good).size; run = (s.run good).run };
}

-- ---- a piece that has no fault

abbrev pub Takes : reader.Progress → ItemJudging → reader.Progress → ItemJudging → Result Unit NoMemory → Type 0
Takes r x s y result =
    (((map : List Place) (params : Params) → Waits x map params → variables_of r ≡ None → OnOk result (Waits y map params × (s ≡ r)))
    × ((map : List Place) (params : Params) (variables : List Variable) → Waits x map params → variables_of r ≡ Some variables
    → OnOk result (HasTaken y map params variables r.read.items × (s ≡ drained r))))
    × ((map : List Place) (params : Params) (variables : List Variable) (taken : List Item) → HasTaken x map params variables taken → variables_of r ≡ Some variables
    → OnOk result (HasTaken y map params variables (taken ++ r.read.items) × (s ≡ drained r)))

goes_on : (r s : reader.Progress) (y : ItemJudging) (map : List Place) (params : Params) (text : List ℕ) (variables : List Variable) (taken : List Item) → reader.Represents r text taken → IsOk r.read.state
    → r.read.variables ≡ Some variables → HasTaken y map params variables (taken ++ r.read.items) × (s ≡ drained r) → HasRead s y map params text
goes_on r s y map params text variables taken stands good some p =
    let now : Continues (drained r) y map params text variables (taken ++ r.read.items) = record {
      reader = drained_read r text taken stands;
      good = good;
      some = some;
      items = p.0;
      rest = refl;
    } in
    inr (inl (variables, (taken ++ r.read.items, subst (λ (x : reader.Progress). Continues x y map params text variables (taken ++ r.read.items)) (sym p.1) now)))

waits_on : (r s : reader.Progress) (y : ItemJudging) (map : List Place) (params : Params) (text : List ℕ) → reader.Represents r text [] → IsOk r.read.state → r.read.variables ≡ None → Waits y map params × (s ≡ r)
    → HasRead s y map params text
waits_on r s y map params text stands good none p =
    let now : Declares r y map params text = record { reader = stands; good = good; none = none; items = p.0 } in
    inl (subst (λ (x : reader.Progress). Declares x y map params text) (sym p.1) now)

declares_on : (o : Option (List Variable)) (r s : reader.Progress) (x y : ItemJudging) (result : Result Unit NoMemory) (map : List Place) (params : Params) (text : List ℕ) → r.read.variables ≡ o
    → reader.Represents r text [] → IsOk r.read.state → Waits x map params → Takes r x s y result → OnOk result (HasRead s y map params text)
declares_on None r s x y result map params text e stands good waits takes =
    on_ok_weaker result (waits_on r s y map params text stands good e) (takes.0.0 map params waits (variables_are r text [] stands ∙ e))
declares_on (Some variables) r s x y result map params text e stands good waits takes =
    on_ok_weaker result (goes_on r s y map params text variables [] stands good e)
    (takes.0.1 map params variables waits (variables_are r text [] stands ∙ e))

pub feed_good : (old r s : reader.Progress) (x y : ItemJudging) (result : Result Unit NoMemory) (map : List Place) (params : Params) (text piece : List ℕ) → HasRead old x map params text
    → Feeds old r piece (Ok tt) → Stays old r (Ok tt)
    → ((vs : List Variable) → old.read.variables ≡ Some vs → r.has_failed ≡ false → r.read.variables ≡ Some vs)
    → Takes r x s y result → OnOk result (HasRead s y map params (text ++ piece))
feed_good old r s x y result map params text piece (inl d) fed fault declared takes =
    let now = fed text [] d.reader in
    declares_on r.read.variables r s x y result map params (text ++ piece) refl now.0 (good_of r (text ++ piece) [] now.0 now.1) d.items takes
feed_good old r s x y result map params text piece (inr (inl (variables, (taken, g)))) fed fault declared takes =
    let now = fed text taken g.reader in
    let good = good_of r (text ++ piece) taken now.0 now.1 in
    let some = declared variables g.some now.0.alive in
    on_ok_weaker result (goes_on r s y map params (text ++ piece) variables taken now.0 good some)
    (takes.1 map params variables taken g.items (variables_are r (text ++ piece) taken now.0 ∙ some))
feed_good old r s x y result map params text piece (inr (inr (f, p))) fed fault declared takes =
    let no = (fault f p.reader).0 in cc

-- few cycles were judged, and few items wait
pub cycles_few : (x : ItemJudging) (taken waiting : List Item) → x.judge.cycles ≤ length taken → length (taken ++ waiting) ≤ 2 ^ 32 → x.judge.cycles + length waiting < 2 ^ 64 - 1
cycles_few x taken waiting some few = omega (arith, some, few, length-append taken waiting)

pub feed_room : (old r : reader.Progress) (x : ItemJudging) (map : List Place) (params : Params) (text piece : List ℕ) → HasRead old x map params text
    → Feeds old r piece (Ok tt) → Stays old r (Ok tt) → r.size < 2 ^ 32 → x.judge.cycles + length r.read.items < 2 ^ 64 - 1
feed_room old r x map params text piece (inl d) fed fault small =
    let now = fed text [] d.reader in
    let none : x.judge.cycles ≡ 0 = d.items.judged.cycles in
    cycles_few x [] r.read.items (omega (arith, none)) (few_of r (text ++ piece) [] now.0 (good_of r (text ++ piece) [] now.0 now.1) small)
feed_room old r x map params text piece (inr (inl (variables, (taken, g)))) fed fault small =
    let now = fed text taken g.reader in
    cycles_few x taken r.read.items (few_cycles x map params variables taken g.items) (few_of r (text ++ piece) taken now.0 (good_of r (text ++ piece) taken now.0 now.1) small)
feed_room old r x map params text piece (inr (inr (f, p))) fed fault small =
    let no = (fault f p.reader).0 in cc

-- ---- a piece that has one

fails : (r : reader.Progress) (x : ItemJudging) (map : List Place) (params : Params) (text : List ℕ) (taken : List Item) (f : VcdFault) → reader.Represents r text taken × ((read_so_far text).state ≡ Err f)
    → HasRead r x map params text
fails r x map params text taken f p =
    inr (inr (f, record { reader = record { alive = p.0.alive; fault = state_of r text taken p.0 ∙ p.1 }; always = λ more. fault_of_front text more f p.1 }))

fed_bad : (old r : reader.Progress) (piece text : List ℕ) (taken : List Item) (answer : Answer) (f : VcdFault) → answer ≡ Err (Vcd f) → Feeds old r piece answer → reader.Represents old text taken
    → reader.Represents r (text ++ piece) taken × ((read_so_far (text ++ piece)).state ≡ Err f)
fed_bad old r piece text taken answer f e fed stands = subst (λ (a : Answer). reader.Fed r (text ++ piece) taken a) e (fed text taken stands)

pub feed_bad : (old r : reader.Progress) (x : ItemJudging) (map : List Place) (params : Params) (text piece : List ℕ) (answer : Answer) (f : VcdFault) → answer ≡ Err (Vcd f) → HasRead old x map params text
    → Feeds old r piece answer → Stays old r answer → HasRead r x map params (text ++ piece)
feed_bad old r x map params text piece answer f e (inl d) fed fault = fails r x map params (text ++ piece) [] f (fed_bad old r piece text [] answer f e fed d.reader)
feed_bad old r x map params text piece answer f e (inr (inl (variables, (taken, g)))) fed fault = fails r x map params (text ++ piece) taken f (fed_bad old r piece text taken answer f e fed g.reader)
feed_bad old r x map params text piece answer f e (inr (inr (g, p))) fed fault =
    let same = (fault g p.reader).1 in
    inr (inr (
      g,
      record {
        reader = subst (λ (y : reader.Progress). reader.IsFaulty y g) (sym same) p.reader;
        always = λ more. ap reading_of (append_assoc text piece more) ∙ p.always (piece ++ more);
      },
    ))
