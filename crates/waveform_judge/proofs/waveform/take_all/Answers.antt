use Rattle.std.proofs.Common.{◌∙◌, List, [], ◌∷◌, ◌++◌, length, sym, ap, subst, arith}
use Rattle.vcd_text.specs.declared.item.Item.{Item}
use Rattle.vcd_text.specs.Reader as reader
use Rattle.waveform_judge.proofs.Draining.{Gone, gone_more, same_more, shorter}
use Rattle.waveform_judge.proofs.waveform.take_all.Goals as goal

pub loop-item-preserved : goal.loop-item-preserved
loop-item-preserved c =
    let i = c.loop-item in
    let start = c.args.reader.now in
    let gone = i.invariant.gone.0 in
    let item = c.in-Some.item in
    let new = c.take_one.new.items in
    let P : reader.Progress → Type 0 = λ r. (gone : List Item) × Gone start c.args.items.now r.read.items new gone in
    record {
      gone = subst P (sym c.take.ensures.rest)
          (gone ++ item ∷ [], gone_more start i.reader c.args.items.now i.items new gone item i.invariant.gone.1 (sym c.in-Some.is ∙ c.take.ensures.item) c.take_one.ensures.taken);
      room =
          let less = shorter i.reader item (sym c.in-Some.is ∙ c.take.ensures.item) in
          let rest = ap (λ (r : reader.Progress). length r.read.items) c.take.ensures.rest in
          omega (arith, i.invariant.room, less, rest, c.take_one.ensures.cycles);
      reader = same_more start i.reader c.take.new.self i.invariant.reader c.take.ensures.rest;
    }
