-- What single tokens are.
use Rattle.std.specs.Prelude.{ℕ, ◌+◌, ◌-◌, ◌*◌, ◌^◌, ◌==◌, ◌&&◌, ◌||◌, Bool, false, not, if◌then◌else◌, nat_le, nat_lt, List, [], ◌∷◌, length, Option, Some, None, codes}
use Rattle.std.specs.List.{list_all, list_any}
use Rattle.std.specs.Str.{bytes_eq}
use Rattle.vcd_text.specs.declared.digit.Digit.{Digit}
use Rattle.vcd_text.specs.declared.digit.Digit.TheVariants.{Zero, One, X, Z}
use Rattle.vcd_text.specs.declared.keyword.Keyword.{Keyword}
use Rattle.vcd_text.specs.declared.keyword.Keyword.TheVariants.{Scope, Upscope, Var, EndDefinitions, End, Dump, Other}

-- ---- bytes by their characters

-- the byte of a character
abbrev pub byte_of : List ℕ → ℕ
byte_of [] = 0
byte_of (b ∷ bs) = b

abbrev pub is_one_of : List ℕ → ℕ → Bool
is_one_of bytes b = list_any (λ byte. b == byte) bytes

-- `#` begins a simulation time
abbrev pub number_sign : ℕ
number_sign = byte_of (codes "#")

-- `$` begins a keyword
abbrev pub dollar_sign : ℕ
dollar_sign = byte_of (codes "$")

-- `.` stands between the names of scopes and a variable's own
abbrev pub full_stop : ℕ
full_stop = byte_of (codes ".")

abbrev pub space : ℕ
space = byte_of (codes " ")

abbrev pub line_feed : ℕ
line_feed = byte_of (codes "\n")

-- `0`
abbrev pub zero_digit : ℕ
zero_digit = byte_of (codes "0")

-- from `0` to `9`
abbrev pub is_decimal : ℕ → Bool
is_decimal b = nat_le zero_digit b && nat_le b (byte_of (codes "9"))

-- ---- white space

-- space, tab, line feed, vertical tab, form feed, carriage return
abbrev pub is_white : ℕ → Bool
is_white b = (b == space) || (nat_le 9 b && nat_le b 13)

abbrev pub is_ink : ℕ → Bool
is_ink b = not (is_white b)

-- the number that decimal digits write behind a number, where it is below 2^64
abbrev pub number_after : ℕ → List ℕ → Option ℕ
number_after n [] = Some n
number_after n (b ∷ bs) =
    if is_decimal b && nat_lt (n * 10 + (b - zero_digit)) (2 ^ 64)
    then number_after (n * 10 + (b - zero_digit)) bs else None

-- the number that one or more decimal digits write, where it is below 2^64
abbrev pub number : List ℕ → Option ℕ
number [] = None
number (b ∷ bs) = number_after 0 (b ∷ bs)

-- the digit of a value (18.2.1)
abbrev pub digit : ℕ → Option Digit
digit b =
    if b == zero_digit then Some Zero else (
    if b == byte_of (codes "1") then Some One else (
    if is_one_of (codes "xX") b then Some X else (
    if is_one_of (codes "zZ") b then Some Z else None)))

abbrev pub with_digit : Option Digit → Option (List Digit) → Option (List Digit)
with_digit (Some d) (Some ds) = Some (d ∷ ds)
with_digit _ _ = None

-- the digits of a value, where each byte is one
abbrev pub digits : List ℕ → Option (List Digit)
digits [] = Some []
digits (b ∷ bs) = with_digit (digit b) (digits bs)

-- the keyword commands by name (18.2.3)
abbrev pub keyword : List ℕ → Keyword
keyword w =
    if bytes_eq w (codes "$scope") then Scope else (
    if bytes_eq w (codes "$upscope") then Upscope else (
    if bytes_eq w (codes "$var") then Var else (
    if bytes_eq w (codes "$enddefinitions") then EndDefinitions else (
    if bytes_eq w (codes "$end") then End else (
    if bytes_eq w (codes "$dumpvars") then Dump else (
    if bytes_eq w (codes "$dumpall") then Dump else (
    if bytes_eq w (codes "$dumpon") then Dump else (
    if bytes_eq w (codes "$dumpoff") then Dump else Other))))))))

abbrev pub is_end : List ℕ → Bool
is_end w = bytes_eq w (codes "$end")

-- a command begins with $
abbrev pub is_command : List ℕ → Bool
is_command [] = false
is_command (b ∷ bs) = b == dollar_sign

-- from ! to ~
abbrev pub is_code_character : ℕ → Bool
is_code_character b = nat_le (byte_of (codes "!")) b && nat_le b (byte_of (codes "~"))

-- an identifier code is 1 to 64 characters from ! to ~ (18.2.1; the length is a limit of this
-- reader)
abbrev pub is_code : List ℕ → Bool
is_code w = (nat_le 1 (length w) && nat_le (length w) 64) && list_all is_code_character w
