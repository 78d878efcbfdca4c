-- What the tokens of a text say together, and what a whole text says.
use Rattle.std.specs.Prelude.{ℕ, Bool, false, if◌then◌else◌, List, [], ◌++◌, length, Option, Some, None, Result, Ok, Err}
use Rattle.std.specs.List.{fold}
use Rattle.std.specs.Option.{option_to_list}
use Rattle.vcd_text.specs.declared.declaration.Variable.{Variable}
use Rattle.vcd_text.specs.declared.item.Item.{Item}
use Rattle.vcd_text.specs.declared.state.Part.{Part}
use Rattle.vcd_text.specs.declared.state.Part.TheVariants.{Nothing, Block, Skipped, Vector, Passed}
use Rattle.vcd_text.specs.declared.state.State.{State}
use Rattle.vcd_text.specs.declared.fault.VcdCause.TheVariants.{OpenBlock, NoDefinitionsEnd}
use Rattle.vcd_text.specs.declared.fault.VcdFault.{VcdFault}
use Rattle.vcd_text.specs.Tokens.{Token, complete, ended}
use Rattle.vcd_text.specs.Grammar.{Step, step}

-- what was read: the items, the variables once all are declared, and the state or the fault
pub record Read : Type 0 where
  pub items : List Item
  pub variables : Option (List Variable)
  pub state : Result State VcdFault

-- the variables of a state whose declarations are complete
abbrev pub declared_by : State → Option (List Variable)
declared_by s = if s.is_declared then Some s.variables else None

abbrev pub moved : Read → Step → Read
moved r (Ok x) =
    record { items = r.items ++ option_to_list x.1; variables = declared_by x.0; state = Ok x.0 }
moved r (Err f) = record r { state = Err f }

-- the next token is read, where there is no fault before it
abbrev pub go_from : Read → Result State VcdFault → Token → Read
go_from r (Ok s) t = moved r (step s t)
go_from r (Err f) t = r

abbrev pub go : Read → Token → Read
go r t = go_from r r.state t

-- what is read from a state on, before any token
abbrev pub from : State → Read
from s = record { items = []; variables = declared_by s; state = Ok s }

-- where a text begins
abbrev pub start : State
start =
    record {
      scopes = [];
      codes = [];
      variables = [];
      is_declared = false;
      time = 0;
      part = Nothing;
    }

-- what the complete tokens of a text so far say
abbrev pub read_so_far : List ℕ → Read
read_so_far text = fold go (from start) (complete [] 0 text)

-- the fault of a text that ends at an offset: what is open, or the declarations that aren't
-- complete
abbrev pub fault_in : Part → Bool → ℕ → Option VcdFault
fault_in Nothing is_declared end =
    if is_declared then None else Some (record { at = end; cause = NoDefinitionsEnd })
fault_in (Block at k words) is_declared end = Some (record { at = at; cause = OpenBlock })
fault_in (Skipped at) is_declared end = Some (record { at = at; cause = OpenBlock })
fault_in (Vector at ds) is_declared end = Some (record { at = at; cause = OpenBlock })
fault_in (Passed at) is_declared end = Some (record { at = at; cause = OpenBlock })

abbrev pub fault_at_end : ℕ → State → Option VcdFault
fault_at_end end s = fault_in s.part s.is_declared end

-- what a whole text says: the variables that it declares and its items
pub record Reading : Type 0 where
  pub variables : List Variable
  pub items : List Item

abbrev pub reading_by : List Variable → List Item → Option VcdFault → Result Reading VcdFault
reading_by vs items None = Ok (record { variables = vs; items = items })
reading_by vs items (Some f) = Err f

-- the text ends, at an offset
abbrev pub ends : List Item → Result State VcdFault → ℕ → Result Reading VcdFault
ends items (Ok s) end = reading_by s.variables items (fault_at_end end s)
ends items (Err f) end = Err f

-- what is read of a whole text
abbrev pub read_whole : List ℕ → Read
read_whole text = read_so_far (ended text)

-- what a whole text says, or its one fault
abbrev pub reading_of : List ℕ → Result Reading VcdFault
reading_of text = ends (read_whole text).items (read_whole text).state (length text)
