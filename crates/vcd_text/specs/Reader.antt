-- Which text a reader represents, and what its calls return.
use Rattle.std.specs.Prelude.{◌≡◌, ℕ, Bool, true, false, if◌then◌else◌, List, [], ◌++◌, length, drop, Some, Result, Ok, Err, IsOk}
use Rattle.vcd_text.specs.declared.declaration.Variable.{Variable}
use Rattle.vcd_text.specs.declared.fault.FeedFail.{FeedFail}
use Rattle.vcd_text.specs.declared.fault.FeedFail.TheVariants.{Vcd, NoMemory}
use Rattle.vcd_text.specs.declared.fault.VcdFault.{VcdFault}
use Rattle.vcd_text.specs.declared.item.Item.{Item}
use Rattle.vcd_text.specs.Tokens.{rest}
use Rattle.vcd_text.specs.Reading.{Read, read_so_far, read_whole, reading_of}

-- what a reader holds
pub record Progress : Type 0 where
  -- how many bytes it took in
  pub size : ℕ
  -- the bytes of the token that is open
  pub run : List ℕ
  -- what it read, with the items that are still to be taken
  pub read : Read
  -- it ran out of memory
  pub has_failed : Bool
  -- the text ended, and has a reading
  pub is_closed : Bool

-- what was read, with the items that were taken
abbrev pub with_taken : List Item → Read → Read
with_taken taken r = record r { items = taken ++ r.items }

-- the token that is open, and where it ends
pub record OpenAt (p : Progress) (text : List ℕ) : Type 0 where
  pub size : p.size ≡ length text
  pub run : p.run ≡ rest [] text

-- the reader read this text, and these items were taken from it
pub record Represents (p : Progress) (text : List ℕ) (taken : List Item) : Type 0 where
  pub alive : p.has_failed ≡ false
  pub read : with_taken taken p.read ≡ read_so_far text
  -- what follows a fault isn't looked at
  pub run : IsOk p.read.state → OpenAt p text

-- a fault was reported
pub record IsFaulty (p : Progress) (f : VcdFault) : Type 0 where
  pub alive : p.has_failed ≡ false
  pub fault : p.read.state ≡ Err f

-- a reader after `feed` returned: the result is about the complete tokens of the text so far
abbrev pub Fed : Progress → List ℕ → List Item → Result Unit FeedFail → Type 0
Fed new text taken (Ok u) = Represents new text taken × IsOk (read_so_far text).state
Fed new text taken (Err (Vcd f)) =
    Represents new text taken × ((read_so_far text).state ≡ Err f)
Fed new text taken (Err NoMemory) = new.has_failed ≡ true

-- a reader after `close` returned: the result is about the whole text
abbrev pub Closed : Progress → List ℕ → List Item → Result Unit FeedFail → Type 0
Closed new text taken (Ok u) =
    (vs : List Variable) × (new.read.variables ≡ Some vs)
    × (reading_of text ≡ Ok (record { variables = vs; items = taken ++ new.read.items }))
Closed new text taken (Err (Vcd f)) =
    (reading_of text ≡ Err f) × (taken ++ new.read.items ≡ (read_whole text).items)
Closed new text taken (Err NoMemory) = new.has_failed ≡ true

-- the first item is taken, unless the reader ran out of memory
abbrev pub after_take : Progress → Progress
after_take p =
    record p {
      read = record p.read { items = if p.has_failed then p.read.items else drop 1 p.read.items };
    }
