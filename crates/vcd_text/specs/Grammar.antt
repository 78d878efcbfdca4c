-- The reader's automaton over the grammar of `Phrases`: each token takes the reading from one state
-- to the next, or is the fault. The contracts of the code cite it. That it reads as the grammar
-- says is `grammar_law`.
use Rattle.std.specs.Prelude.{ℕ, ◌-◌, ◌==◌, ◌&&◌, true, codes, if◌then◌else◌, nat_le, nat_lt, List, [], ◌∷◌, ◌++◌, length, take, Option, Some, None, Result, Ok, Err}
use Rattle.std.specs.Str.{is_utf8}
use Rattle.vcd_text.specs.declared.digit.Digit.{Digit}
use Rattle.vcd_text.specs.declared.item.Item.{Item}
use Rattle.vcd_text.specs.declared.item.Item.TheVariants.{Time, Change}
use Rattle.vcd_text.specs.declared.keyword.Keyword.{Keyword}
use Rattle.vcd_text.specs.declared.keyword.Keyword.TheVariants.{Scope, Upscope, Var, EndDefinitions, End, Dump, Other}
use Rattle.vcd_text.specs.declared.state.Part.{Part}
use Rattle.vcd_text.specs.declared.state.Part.TheVariants.{Nothing, Block, Skipped, Vector, Passed}
use Rattle.vcd_text.specs.declared.state.State.{State}
use Rattle.vcd_text.specs.declared.fault.VcdCause.{VcdCause}
use Rattle.vcd_text.specs.declared.fault.VcdCause.TheVariants.{BadToken, BadVar, SizeDiffers, UnknownCode, TooWide, BadTime, TimeBack}
use Rattle.vcd_text.specs.declared.fault.VcdFault.{VcdFault}
use Rattle.vcd_text.specs.Words.{number_sign, dollar_sign, is_one_of, number, digit, digits, keyword, is_command, is_end, is_code}
use Rattle.vcd_text.specs.Tokens.{Token}
use Rattle.vcd_text.specs.Codes.{Code, code_from, full_name}

-- the next state, and the item that a token completes; or the fault
abbrev pub Step : Type 0
Step = Result (State × Option Item) VcdFault

abbrev pub fault : VcdCause → ℕ → Step
fault cause at = Err (record { at = at; cause = cause })

abbrev pub goes : State → Step
goes s = Ok (s, None)

-- the state with another open part
abbrev pub with_part : State → Part → State
with_part s part = record s { part = part }

-- ---- declarations (18.2.3). The offset is that of the block's first token.

abbrev pub declared : State → List ℕ → ℕ → ℕ → List Code → State
declared s name code size cs =
    record s {
      codes = cs;
      variables =
          s.variables ++ record { name = full_name s.scopes name; code = code; size = size } ∷ [];
    }

-- a new code has the next number
abbrev pub var_at : State → ℕ → List ℕ → ℕ → List ℕ → Option (ℕ × ℕ) → Step
var_at s at text size name None =
    goes (
    declared s name (length s.codes) size (s.codes ++ record { text = text; size = size } ∷ [])
    )
var_at s at text size name (Some known) =
    if known.1 == size then goes (declared s name known.0 size s.codes) else fault SizeDiffers at

abbrev pub var_sized : State → ℕ → List ℕ → List ℕ → Option ℕ → Step
var_sized s at text name None = fault BadVar at
var_sized s at text name (Some size) =
    if (nat_le size 1048576 && is_code text) && is_utf8 name
    then var_at s at text size name (code_from 0 text s.codes)
    else fault BadVar at

-- a type, a size in bits, a code, a name, and more
abbrev pub var : State → ℕ → List (List ℕ) → Step
var s at (kind ∷ size ∷ text ∷ name ∷ more) = var_sized s at text name (number size)
var s at _ = fault BadVar at

-- a type, a name, and more; at most 64 scopes are open
abbrev pub scope : State → ℕ → List (List ℕ) → Step
scope s at (kind ∷ name ∷ more) =
    if nat_lt (length s.scopes) 64 && is_utf8 name
    then goes (record s { scopes = s.scopes ++ name ∷ [] }) else fault BadToken at
scope s at _ = fault BadToken at

abbrev pub upscope : State → ℕ → Step
upscope s at =
    if length s.scopes == 0 then fault BadToken at
    else goes (record s { scopes = take (length s.scopes - 1) s.scopes })

-- a block whose end came
abbrev pub block : State → ℕ → Keyword → List (List ℕ) → Step
block s at Scope words = scope s at words
block s at Upscope words = upscope s at
block s at Var words = var s at words
block s at EndDefinitions words = goes (record s { is_declared = true })
block s at _ words = goes s

-- a block begins; one that declares nothing is skipped
abbrev pub opened : State → ℕ → Keyword → Step
opened s at End = fault BadToken at
opened s at Dump = goes (with_part s (Skipped at))
opened s at Other = goes (with_part s (Skipped at))
opened s at k = goes (with_part s (Block at k []))

-- a token among the declarations, outside a block
abbrev pub declaration : State → Token → Step
declaration s t =
    if is_command t.text then opened s t.at (keyword t.text) else fault BadToken t.at

-- the words of a block that are looked at
abbrev pub kept : List (List ℕ) → List ℕ → List (List ℕ)
kept words text = if nat_lt (length words) 4 then words ++ text ∷ [] else words

-- ---- the body (18.2.1, 18.2.2)

abbrev pub change_of : State → ℕ → ℕ → List Digit → Option (ℕ × ℕ) → Step
change_of s at code_at digits None = fault UnknownCode code_at
change_of s at code_at digits (Some known) =
    if nat_le (length digits) known.1 then Ok (s, Some (Change known.0 digits))
    else fault TooWide at

-- a change at an offset, of a code at an offset
abbrev pub change : State → ℕ → List Digit → ℕ → List ℕ → Step
change s at digits code_at text = change_of s at code_at digits (code_from 0 text s.codes)

abbrev pub time_of : State → ℕ → Option ℕ → Step
time_of s at None = fault BadTime at
time_of s at (Some t) =
    if nat_le s.time t then Ok (record s { time = t }, Some (Time t)) else fault TimeBack at

-- a digit and its code in one token
abbrev pub scalar : State → ℕ → Option Digit → List ℕ → Step
scalar s at None text = fault BadToken at
scalar s at (Some d) [] = fault BadToken at
scalar s at (Some d) (b ∷ bs) = change s at (d ∷ []) at (b ∷ bs)

-- digits, whose code is the next token
abbrev pub vector : State → ℕ → Option (List Digit) → Step
vector s at None = fault BadToken at
vector s at (Some []) = fault BadToken at
vector s at (Some (d ∷ ds)) = goes (with_part s (Vector at (d ∷ ds)))

-- a command of the body: the dumps and their ends are passed over, and other blocks skipped
abbrev pub command : State → ℕ → Keyword → Step
command s at End = goes s
command s at Dump = goes s
command s at Other = goes (with_part s (Skipped at))
command s at _ = fault BadToken at

-- a token of the body, outside a part
abbrev pub body : State → ℕ → List ℕ → Step
body s at [] = fault BadToken at
body s at (b ∷ bs) =
    if b == number_sign then time_of s at (number bs) else (
    if is_one_of (codes "bB") b then vector s at (digits bs) else (
    if is_one_of (codes "rRsS") b then goes (with_part s (Passed at)) else (
    if b == dollar_sign then command s at (keyword (b ∷ bs))
    else scalar s at (digit b) bs)))

-- ---- one token

-- in an open part; the state has none open
abbrev pub in_part : Part → State → Token → Step
in_part Nothing s t = if s.is_declared then body s t.at t.text else declaration s t
in_part (Block at k words) s t =
    if is_end t.text then block s at k words
    else goes (with_part s (Block at k (kept words t.text)))
in_part (Skipped at) s t = if is_end t.text then goes s else goes (with_part s (Skipped at))
in_part (Vector at ds) s t = change s at ds t.at t.text
in_part (Passed at) s t = goes s

abbrev pub step : State → Token → Step
step s t = in_part s.part (with_part s Nothing) t
