use Rattle.std.proofs.Common.{List, ◌++◌, take, reverse, sym, ap, subst, ◌∙◌, arith}
use Rattle.std.specs.Prelude.{filter_map}
use Rattle.std.specs.Option.{option_to_list}
use Rattle.std.proofs.lemmas.List.{take_all}
use Rattle.vcd_text.specs.declared.item.Item.{Item}
use Rattle.xif_sampler.specs.Samples.{ended, sample_at}
use Rattle.xif_sampler.specs.Keeping.{Represents}
use Rattle.xif_sampler.proofs.Instants.{ended_more, ended_all, reverse_more}
use Rattle.xif_sampler.proofs.items.sample_all.Goals as goal

pub loop-item-preserved : goal.loop-item-preserved
loop-item-preserved c =
    let i = c.loop-item in
    let items = c.args.items.now in
    let item = c.item-item.result in
    let h = reverse (take i.item-index items) in
    let next = reverse_more items i.item-index item (omega arith) c.item-item.is in
    record {
      represents = λ sources p.
          let P : List Item → Type 0 = λ g. Represents c.take.new.self sources g in
          subst P (sym next) (c.take.ensures.represents sources h (i.invariant.represents sources p));
      so_far = λ sources p.
          c.in_ok-push.ensures
          ∙ ap (λ l. l ++ option_to_list c.take.result) (i.invariant.so_far sources p)
          ∙ ap (λ o. filter_map (sample_at sources) (ended h) ++ option_to_list o) (c.take.ensures.sample sources h (i.invariant.represents sources p))
          ∙ sym (ended_more sources h item)
          ∙ ap (λ g. filter_map (sample_at sources) (ended g)) (sym next);
    }

pub returns : goal.returns
returns c = λ sources p.
    let i = c.loop-item in
    let items = c.args.items.now in
    let h = reverse (take i.item-index items) in
    let all = ap reverse (take_all i.item-index items (omega arith)) in
    c.in_ok-push-2.ensures
    ∙ ap (λ l. l ++ option_to_list c.finish.result) (i.invariant.so_far sources p)
    ∙ ap (λ o. filter_map (sample_at sources) (ended h) ++ option_to_list o) (c.finish.ensures.sample sources h (i.invariant.represents sources p))
    ∙ ap (λ g. filter_map (sample_at sources) (ended g) ++ option_to_list (sample_at sources g)) all
    ∙ sym (ended_all sources items)
