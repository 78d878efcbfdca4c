-- Internal: what the contracts of private functions cite; nothing here has to be believed. Which
-- text a scanner represents.
use Rattle.std.specs.Prelude.{◌≡◌, ◌+◌, ◌<◌, ◌≤◌, ℕ, Bool, true, if◌then◌else◌, List, [], ◌∷◌, ◌++◌, take, length, slice_index_or, Option, Some, None, Result, Ok, Err}
use Rattle.std.specs.List.{fold, list_all}
use Rattle.vcd_text.specs.declared.fault.VcdFault.{VcdFault}
use Rattle.vcd_text.specs.declared.item.Item.{Item}
use Rattle.vcd_text.specs.declared.scanner.Scanner.{Scanner}
use Rattle.vcd_text.specs.declared.state.State.{State}
use Rattle.vcd_text.specs.Words.{is_white, is_ink}
use Rattle.vcd_text.specs.Tokens.{Token, rest, complete, token_before}
use Rattle.vcd_text.specs.Reading.{Read, go, declared_by, read_so_far}
use Rattle.vcd_text.specs.Reader.{Progress}

abbrev pub outcome : State → Option VcdFault → Result State VcdFault
outcome s None = Ok s
outcome s (Some f) = Err f

-- what a scanner read, behind these items
abbrev pub read_by : Scanner → List Item → Read
read_by s taken =
    record {
      items = taken ++ s.items.items;
      variables = declared_by s.state;
      state = outcome s.state s.fault;
    }

-- the scanner took in this text, and these items were taken from it
pub record Represents (s : Scanner) (text : List ℕ) (taken : List Item) : Type 0 where
  pub read : read_by s taken ≡ read_so_far text
  pub size : s.fault ≡ None → s.size ≡ length text
  pub run : s.fault ≡ None → s.run.items ≡ rest [] text

-- what a byte does where there is no fault before it
pub record Steps (old new : Scanner) (b : ℕ) : Type 0 where
  pub size : new.size ≡ old.size + 1
  pub run : new.run.items ≡ (if is_white b then [] else old.run.items ++ b ∷ [])
  pub read : (taken : List Item) → read_by new taken ≡ (if is_white b
      then fold go (read_by old taken) (token_before old.size old.run.items) else read_by old taken)

-- the bytes begin with a word of so many bytes and white space
pub record IsWholeWord (n : ℕ) (bytes : List ℕ) : Type 0 where
  pub within : n < length bytes
  pub ink : list_all is_ink (take n bytes) ≡ true
  pub white : is_white (slice_index_or bytes n 0) ≡ true

-- a token that ends before an offset, and those of some bytes behind it and white space
abbrev pub tokens_of : ℕ → List ℕ → List ℕ → List Token
tokens_of end token more = token_before end token ++ complete [] (end + 1) more

-- what a token, white space and some bytes behind it do, where no token is open and there is no
-- fault before them
pub record TakesTokens (old new : Scanner) (token more : List ℕ) : Type 0 where
  pub size : new.size ≡ old.size + length token + 1 + length more
  pub run : new.run.items ≡ []
  pub whole : rest [] more ≡ []
  pub read : (taken : List Item) →
      read_by new taken ≡ fold go (read_by old taken) (tokens_of (old.size + length token) token more)

-- each code took a byte at least, and so does the token that is open
abbrev pub HasRoom : Scanner → Type 0
HasRoom s = length s.state.codes + length s.run.items ≤ s.size

-- what a reader over a scanner holds
abbrev pub progress_of : Scanner → Bool → Bool → Progress
progress_of s has_failed is_closed =
    record {
      size = s.size;
      run = s.run.items;
      read = read_by s [];
      has_failed = has_failed;
      is_closed = is_closed;
    }
