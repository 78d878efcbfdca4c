use Rattle.std.proofs.Common.{◌≡◌, ◌≤◌, ◌+◌, List, length}
use Rattle.vcd_text.specs.declared.item.Item.{Item}
use Rattle.waveform_judge.proofs.Draining.{Gone}
use Rattle.waveform_judge.proofs.waveform.take_all.Given as goal

abbrev pub invariant-loop-item : goal.invariant-loop-item
invariant-loop-item l = record {
  gone : (gone : List Item) × Gone l.fn.reader l.fn.items l.reader.read.items l.items gone;
  room : l.items.judge.cycles + length l.reader.read.items ≤ l.fn.items.judge.cycles + length l.fn.reader.read.items;
  reader : l.reader ≡ record l.fn.reader { read = record l.fn.reader.read { items = l.reader.read.items } };
}

abbrev pub decreases-loop-item : goal.decreases-loop-item
decreases-loop-item l = length l.reader.read.items
