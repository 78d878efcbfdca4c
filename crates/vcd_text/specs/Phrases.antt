-- The grammar of waveforms (IEEE 1364-2005, clause 18), beside the standard's own. The tokens of a
-- text are a row of phrases: each is of one production, and well formed in the context that the
-- phrases before it make. `grammar_law` says that texts are read so: what a text says is what its
-- phrases say, and its fault is that of the first phrase that isn't well formed.
use Rattle.std.specs.Prelude.{◌≡◌, ◌⊎◌, ⊤, ℕ, ◌-◌, ◌==◌, ◌&&◌, ◌||◌, Bool, true, false, not, if◌then◌else◌, nat_le, nat_lt, unwrap_or, List, [], ◌∷◌, ◌++◌, map, length, take, Option, Some, None, Ok, Err, codes}
use Rattle.std.specs.List.{flat_map, list_all}
use Rattle.std.specs.Option.{option_map, option_to_list}
use Rattle.std.specs.Str.{is_utf8}
use Rattle.xif_base.specs.Checks.{first_failing}
use Rattle.vcd_text.specs.declared.declaration.Variable.{Variable}
use Rattle.vcd_text.specs.declared.digit.Digit.{Digit}
use Rattle.vcd_text.specs.declared.fault.VcdCause.{VcdCause}
use Rattle.vcd_text.specs.declared.fault.VcdCause.TheVariants.{BadToken, OpenBlock, BadVar, SizeDiffers, UnknownCode, TooWide, BadTime, TimeBack, NoDefinitionsEnd}
use Rattle.vcd_text.specs.declared.fault.VcdFault.{VcdFault}
use Rattle.vcd_text.specs.declared.item.Item.{Item}
use Rattle.vcd_text.specs.declared.item.Item.TheVariants.{Time, Change}
use Rattle.vcd_text.specs.declared.keyword.Keyword.{Keyword}
use Rattle.vcd_text.specs.declared.keyword.Keyword.TheVariants.{Scope, Upscope, Var, EndDefinitions, End, Dump, Other}
use Rattle.vcd_text.specs.Words.{number_sign, dollar_sign, is_one_of, number, digit, digits, keyword, is_command, is_end, is_code}
use Rattle.vcd_text.specs.Tokens.{Token, complete, ended}
use Rattle.vcd_text.specs.Codes.{Code, code_from, full_name}
use Rattle.vcd_text.specs.Reading.{Reading}

-- ---- productions (18.2.1)

-- What a production leaves open is given by its words or its bytes. A block is
-- declaration_command ::= declaration_keyword [ command_text ] $end.
pub data Phrase : Type 0 where
  -- $scope scope_type scope_identifier $end. Beyond the standard: more words are passed over.
  ScopeBlock : (words : List (List ℕ)) → Phrase
  -- $upscope $end
  UpscopeBlock : (words : List (List ℕ)) → Phrase
  -- $var var_type size identifier_code reference $end. Beyond the standard: more words are passed
  -- over.
  VarBlock : (words : List (List ℕ)) → Phrase
  -- $enddefinitions $end
  EndDefinitionsBlock : (words : List (List ℕ)) → Phrase
  -- $comment, $date, $timescale and $version, in the body too. Beyond the standard: any other
  -- keyword.
  OtherBlock : (first : List ℕ) (words : List (List ℕ)) → Phrase
  -- simulation_time ::= # decimal_number
  SimulationTime : (number : List ℕ) → Phrase
  -- scalar_value_change ::= value identifier_code
  ScalarChange : (value : ℕ) (code : List ℕ) → Phrase
  -- vector_value_change ::= b binary_number identifier_code, or B
  VectorChange : (letter : ℕ) (number code : List ℕ) → Phrase
  -- vector_value_change ::= r real_number identifier_code, or R. Beyond the standard: s and S, for
  -- strings. Neither the value nor the code is looked at.
  PassedChange : (letter : ℕ) (value code : List ℕ) → Phrase
  -- simulation_keyword, and the $end behind its changes. Beyond the standard: they needn't come in
  -- pairs.
  SimulationKeyword : (word : List ℕ) → Phrase
  -- a token that begins none of these
  StrayToken : (word : List ℕ) → Phrase

abbrev pub block_tokens : List ℕ → List (List ℕ) → List (List ℕ)
block_tokens first words = first ∷ (words ++ codes "$end" ∷ [])

-- the tokens of a phrase
abbrev pub tokens_of : Phrase → List (List ℕ)
tokens_of (ScopeBlock words) = block_tokens (codes "$scope") words
tokens_of (UpscopeBlock words) = block_tokens (codes "$upscope") words
tokens_of (VarBlock words) = block_tokens (codes "$var") words
tokens_of (EndDefinitionsBlock words) = block_tokens (codes "$enddefinitions") words
tokens_of (OtherBlock first words) = block_tokens first words
tokens_of (SimulationTime number) = (number_sign ∷ number) ∷ []
tokens_of (ScalarChange value code) = (value ∷ code) ∷ []
tokens_of (VectorChange letter number code) = (letter ∷ number) ∷ code ∷ []
tokens_of (PassedChange letter value code) = (letter ∷ value) ∷ code ∷ []
tokens_of (SimulationKeyword word) = word ∷ []
tokens_of (StrayToken word) = word ∷ []

-- ---- contexts

-- what phrases have declared, opened and reached
pub record Context : Type 0 where
  -- the names of the open scopes, the outermost first
  pub scopes : List (List ℕ)
  -- identifier codes with their sizes, by first declaration
  pub codes : List Code
  pub variables : List Variable
  -- $enddefinitions was among them
  pub is_declared : Bool
  -- the last simulation time
  pub time : ℕ

-- before any phrase
abbrev pub first_context : Context
first_context = record { scopes = []; codes = []; variables = []; is_declared = false; time = 0 }

-- ---- which phrases may stand where, and the forms of their tokens

-- the keyword of a block that only says something to people, among the declarations or in the body
abbrev pub is_other : Bool → Keyword → Bool
is_other is_declared Other = true
is_other is_declared Dump = not is_declared
is_other is_declared _ = false

-- the keyword of a block among the declarations that declares something
abbrev pub is_declaring : Keyword → Bool
is_declaring Scope = true
is_declaring Upscope = true
is_declaring Var = true
is_declaring EndDefinitions = true
is_declaring _ = false

-- a keyword that stands by itself in the body
abbrev pub is_simulation_keyword : Keyword → Bool
is_simulation_keyword Dump = true
is_simulation_keyword End = true
is_simulation_keyword _ = false

-- one digit at least
abbrev pub has_digits : Option (List Digit) → Bool
has_digits (Some (d ∷ ds)) = true
has_digits _ = false

-- a digit, and one byte at least
abbrev pub has_digit_and_code : Option Digit → List ℕ → Bool
has_digit_and_code (Some d) (b ∷ bs) = true
has_digit_and_code _ _ = false

-- a first token that opens a block
abbrev pub opens_block : Bool → List ℕ → Bool
opens_block is_declared word =
    is_command word
    && (is_other is_declared (keyword word) || (not is_declared && is_declaring (keyword word)))

-- a first token of a change whose code is the next token
abbrev pub opens_change : List ℕ → Bool
opens_change [] = false
opens_change (b ∷ bs) =
    if is_one_of (codes "bB") b then has_digits (digits bs) else is_one_of (codes "rRsS") b

-- a token that is a phrase by itself, but for a stray one
abbrev pub is_single : List ℕ → Bool
is_single [] = false
is_single (b ∷ bs) =
    if b == number_sign then true else (
    if b == dollar_sign then is_simulation_keyword (keyword (b ∷ bs))
    else has_digit_and_code (digit b) bs)

-- a token that begins no phrase
abbrev pub is_stray : Bool → List ℕ → Bool
is_stray is_declared word =
    not (opens_block is_declared word) && not (is_declared && (opens_change word || is_single word))

-- the words of a block are those before its $end
abbrev pub are_block_words : List (List ℕ) → Bool
are_block_words words = list_all (λ word. not (is_end word)) words

-- a phrase's tokens have its form, and it may stand where the declarations are complete or aren't
abbrev pub HasForm : Bool → Phrase → Type 0
HasForm is_declared (ScopeBlock words) = (is_declared ≡ false) × (are_block_words words ≡ true)
HasForm is_declared (UpscopeBlock words) = (is_declared ≡ false) × (are_block_words words ≡ true)
HasForm is_declared (VarBlock words) = (is_declared ≡ false) × (are_block_words words ≡ true)
HasForm is_declared (EndDefinitionsBlock words) =
    (is_declared ≡ false) × (are_block_words words ≡ true)
HasForm is_declared (OtherBlock first words) =
    (is_command first ≡ true) × (is_other is_declared (keyword first) ≡ true)
    × (are_block_words words ≡ true)
HasForm is_declared (SimulationTime number) = is_declared ≡ true
HasForm is_declared (ScalarChange value code) =
    (is_declared ≡ true) × (has_digit_and_code (digit value) code ≡ true)
HasForm is_declared (VectorChange letter number code) =
    (is_declared ≡ true) × (is_one_of (codes "bB") letter ≡ true)
    × (has_digits (digits number) ≡ true)
HasForm is_declared (PassedChange letter value code) =
    (is_declared ≡ true) × (is_one_of (codes "rRsS") letter ≡ true)
HasForm is_declared (SimulationKeyword word) =
    (is_declared ≡ true) × (is_command word ≡ true) × (is_simulation_keyword (keyword word) ≡ true)
HasForm is_declared (StrayToken word) = is_stray is_declared word ≡ true

-- ---- what a phrase demands of its context, in order, and the cause where it isn't so

-- at most 64 scopes are open, and a name is UTF-8 (both are this reader's)
abbrev pub scope_demands : Context → List (List ℕ) → List (Bool × VcdCause)
scope_demands c (kind ∷ name ∷ more) =
    (nat_lt (length c.scopes) 64, BadToken) ∷ (is_utf8 name, BadToken) ∷ []
scope_demands c words = (false, BadToken) ∷ []

-- a code that was declared has this size
abbrev pub has_size : ℕ → Option (ℕ × ℕ) → Bool
has_size size None = true
has_size size (Some known) = known.1 == size

-- a size is at most 1,048,576 bits, and a name is UTF-8 (both are this reader's)
abbrev pub var_demands : Context → Option ℕ → List ℕ → List ℕ → List (Bool × VcdCause)
var_demands c None code name = (false, BadVar) ∷ []
var_demands c (Some size) code name =
    (nat_le size 1048576, BadVar) ∷ (is_code code, BadVar) ∷ (is_utf8 name, BadVar)
    ∷ (has_size size (code_from 0 code c.codes), SizeDiffers) ∷ []

abbrev pub var_block_demands : Context → List (List ℕ) → List (Bool × VcdCause)
var_block_demands c (kind ∷ size ∷ code ∷ name ∷ more) = var_demands c (number size) code name
var_block_demands c words = (false, BadVar) ∷ []

-- the code of a change is declared, and has as many bits as the change has digits, or more
abbrev pub change_demands : List Digit → Option (ℕ × ℕ) → List (Bool × VcdCause)
change_demands ds None = (false, UnknownCode) ∷ []
change_demands ds (Some known) = (nat_le (length ds) known.1, TooWide) ∷ []

-- a time is a number below 2^64, and no less than the last one
abbrev pub time_demands : Context → Option ℕ → List (Bool × VcdCause)
time_demands c None = (false, BadTime) ∷ []
time_demands c (Some time) = (nat_le c.time time, TimeBack) ∷ []

-- the digits of a value
abbrev pub value_of : List ℕ → List Digit
value_of bytes = unwrap_or (digits bytes) []

abbrev pub demands : Context → Phrase → List (Bool × VcdCause)
demands c (ScopeBlock words) = scope_demands c words
demands c (UpscopeBlock words) = (not (length c.scopes == 0), BadToken) ∷ []
demands c (VarBlock words) = var_block_demands c words
demands c (SimulationTime digits) = time_demands c (number digits)
demands c (ScalarChange value code) =
    change_demands (value_of (value ∷ [])) (code_from 0 code c.codes)
demands c (VectorChange letter number code) =
    change_demands (value_of number) (code_from 0 code c.codes)
demands c (StrayToken word) = (false, BadToken) ∷ []
demands c _ = []

-- ---- what a phrase makes of its context, and what it says

-- A variable's full name is those of the open scopes and its own, joined by full stops. A new code
-- gets the next number.
abbrev pub with_variable : Context → ℕ → List ℕ → List ℕ → Option (ℕ × ℕ) → Context
with_variable c size code name None =
    record c {
      codes = c.codes ++ record { text = code; size = size } ∷ [];
      variables =
          c.variables
          ++ record { name = full_name c.scopes name; code = length c.codes; size = size } ∷ [];
    }
with_variable c size code name (Some known) =
    record c {
      variables =
          c.variables
          ++ record { name = full_name c.scopes name; code = known.0; size = size } ∷ [];
    }

abbrev pub after_var : Context → List (List ℕ) → Context
after_var c (kind ∷ size ∷ code ∷ name ∷ more) =
    with_variable c (unwrap_or (number size) 0) code name (code_from 0 code c.codes)
after_var c words = c

abbrev pub after_scope : Context → List (List ℕ) → Context
after_scope c (kind ∷ name ∷ more) = record c { scopes = c.scopes ++ name ∷ [] }
after_scope c words = c

abbrev pub after : Context → Phrase → Context
after c (ScopeBlock words) = after_scope c words
after c (UpscopeBlock words) = record c { scopes = take (length c.scopes - 1) c.scopes }
after c (VarBlock words) = after_var c words
after c (EndDefinitionsBlock words) = record c { is_declared = true }
after c (SimulationTime digits) = record c { time = unwrap_or (number digits) c.time }
after c _ = c

abbrev pub change_said : List Digit → Option (ℕ × ℕ) → Option Item
change_said ds known = option_map (λ k. Change k.0 ds) known

abbrev pub says : Context → Phrase → Option Item
says c (SimulationTime digits) = option_map (λ time. Time time) (number digits)
says c (ScalarChange value code) = change_said (value_of (value ∷ [])) (code_from 0 code c.codes)
says c (VectorChange letter number code) = change_said (value_of number) (code_from 0 code c.codes)
says c _ = None

-- ---- rows of phrases

-- a phrase, and its tokens in a text
pub record PlacedPhrase : Type 0 where
  pub phrase : Phrase
  pub tokens : List Token

-- these are a phrase's tokens, and it may stand here
pub record IsPhrase (c : Context) (p : PlacedPhrase) : Type 0 where
  pub spelled : map (λ (t : Token). t.text) p.tokens ≡ tokens_of p.phrase
  pub form : HasForm c.is_declared p.phrase

-- and it has what it demands
pub record IsWellFormed (c : Context) (p : PlacedPhrase) : Type 0 where
  pub phrase : IsPhrase c p
  pub met : first_failing (demands c p.phrase) ≡ Ok tt

abbrev pub AreWellFormed : Context → List PlacedPhrase → Type 0
AreWellFormed c [] = ⊤
AreWellFormed c (p ∷ ps) = IsWellFormed c p × AreWellFormed (after c p.phrase) ps

abbrev pub after_all : Context → List PlacedPhrase → Context
after_all c [] = c
after_all c (p ∷ ps) = after_all (after c p.phrase) ps

abbrev pub all_say : Context → List PlacedPhrase → List Item
all_say c [] = []
all_say c (p ∷ ps) = option_to_list (says c p.phrase) ++ all_say (after c p.phrase) ps

abbrev pub tokens_in : List PlacedPhrase → List Token
tokens_in ps = flat_map (λ (p : PlacedPhrase). p.tokens) ps

-- ---- texts

abbrev pub tokens_of_text : List ℕ → List Token
tokens_of_text text = complete [] 0 (ended text)

-- a text is a row of well-formed phrases, $enddefinitions among them, which say this
pub record IsRowOf (text : List ℕ) (row : List PlacedPhrase) (r : Reading) : Type 0 where
  pub tokens : tokens_of_text text ≡ tokens_in row
  pub formed : AreWellFormed first_context row
  pub declared : (after_all first_context row).is_declared ≡ true
  pub said : r ≡ record {
    variables = (after_all first_context row).variables;
    items = all_say first_context row;
  }

-- an undeclared code is reported at its token, and all else at the phrase's first token
abbrev pub fault_place : VcdCause → List Token → ℕ
fault_place UnknownCode (first ∷ code ∷ more) = code.at
fault_place cause (first ∷ more) = first.at
fault_place cause [] = 0

-- a phrase follows that isn't well formed
pub record IsIllFormed (c : Context) (rest : List Token) (f : VcdFault) : Type 0 where
  pub next : PlacedPhrase
  pub more : List Token
  pub tokens : rest ≡ next.tokens ++ more
  pub phrase : IsPhrase c next
  pub cause : first_failing (demands c next.phrase) ≡ Err f.cause
  pub at : f.at ≡ fault_place f.cause next.tokens

-- a block without its $end
abbrev pub LacksEnd : Context → Token → List Token → Type 0
LacksEnd c first words =
    (opens_block c.is_declared first.text ≡ true)
    × (are_block_words (map (λ (t : Token). t.text) words) ≡ true)

-- a change without its code
abbrev pub LacksCode : Context → Token → List Token → Type 0
LacksCode c first words =
    (c.is_declared ≡ true) × (opens_change first.text ≡ true) × (words ≡ [])

-- a phrase is begun whose last token is missing
pub record IsUnfinished (c : Context) (rest : List Token) (f : VcdFault) : Type 0 where
  pub first : Token
  pub words : List Token
  pub tokens : rest ≡ first ∷ words
  pub lacks : LacksEnd c first words ⊎ LacksCode c first words
  pub fault : f ≡ record { at = first.at; cause = OpenBlock }

-- nothing follows, but the declarations aren't complete
pub record IsUndeclared (c : Context) (rest : List Token) (end : ℕ) (f : VcdFault) : Type 0 where
  pub tokens : rest ≡ []
  pub not : c.is_declared ≡ false
  pub fault : f ≡ record { at = end; cause = NoDefinitionsEnd }

-- what is wrong with tokens that begin with no well-formed phrase, in a text that ends at an offset
abbrev pub HasFault : Context → List Token → ℕ → VcdFault → Type 0
HasFault c rest end f =
    IsIllFormed c rest f ⊎ (IsUnfinished c rest f ⊎ IsUndeclared c rest end f)

-- behind a row of well-formed phrases a text has this fault
pub record FailsBehind (text : List ℕ) (row : List PlacedPhrase) (f : VcdFault) : Type 0 where
  pub rest : List Token
  pub tokens : tokens_of_text text ≡ tokens_in row ++ rest
  pub formed : AreWellFormed first_context row
  pub fault : HasFault (after_all first_context row) rest (length text) f
