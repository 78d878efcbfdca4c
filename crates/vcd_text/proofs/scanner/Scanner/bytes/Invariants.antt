use Rattle.std.proofs.Common.{◌≤◌, ◌+◌, ◌++◌, ℕ, List, [], length}
use Rattle.vcd_text.specs.declared.item.Item.{Item}
use Rattle.vcd_text.specs.declared.scanner.Scanner.{Scanner}
use Rattle.vcd_text.specs.Scanner.{Represents, HasRoom, read_by}
use Rattle.vcd_text.specs.Sound.{Onward}
use Rattle.vcd_text.proofs.scanner.Scanner.bytes.Given as goal

-- a scanner that takes the rest takes the piece
abbrev pub invariant-loop-rest : goal.invariant-loop-rest
invariant-loop-rest l = record {
  size : l.self.size + length l.rest ≤ l.fn.self.size + length l.piece;
  codes : HasRoom l.self;
  onward : Onward (read_by l.fn.self []) (read_by l.self []);
  follows : (new : Scanner) (taken : List Item) → ((text : List ℕ) → Represents l.self text taken → Represents new (text ++ l.rest) taken)
      → (text : List ℕ) → Represents l.fn.self text taken → Represents new (text ++ l.piece) taken;
}

abbrev pub decreases-loop-rest : goal.decreases-loop-rest
decreases-loop-rest l = length l.rest
