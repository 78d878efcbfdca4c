-- The kinds of fields. Each says what is read where a value, or nothing, stands at a field's name,
-- and which fault is reported where it can't be read.
use Rattle.std.specs.Prelude.{◌≤◌, ◌&&◌, ◌||◌, ◌%◌, ◌==◌, ℕ, suc, pos, negsuc, Bool, true, if◌then◌else◌, List, [], ◌∷◌, length, Option, Some, None, is_some, Result, Ok, Err, nat_lt, codes, ⊤}
use Rattle.std.specs.Option.{ok_or}
use Rattle.std.specs.Str.{bytes_eq}
use Rattle.std.specs.List.{list_any}
use Rattle.toml.specs.Data.{Data, integer, Items, no_items, item, Members, no_members, member, as_str, as_integer, as_array, as_table, get_member}
use Rattle.xif_base.specs.Params.{within}
use Rattle.xif_job.specs.declared.field.Field.{Field}
use Rattle.xif_job.specs.declared.field.JobFault.{JobFault}
use Rattle.xif_job.specs.declared.field.JobFault.TheVariants.{MissingField, WrongKind, OutOfRange, UnknownField}
use Rattle.xif_job.specs.declared.readers.Absent.{Absent}
use Rattle.xif_job.specs.declared.readers.Absent.TheVariants.{Default, Missing}
use Rattle.xif_job.specs.declared.readers.Range.{Range}
use Rattle.xif_job.specs.Outcome.{◌>>=◌, unless, where_absent}
use Prim.Native.String.{String}

-- what stands at a name of a table, if anything
infix 60 ◌at◌
abbrev pub ◌at◌ : Members → String → Option Data
table at name = get_member (codes name) table

-- the integers from low to high
infix 4 ◌to◌
abbrev pub ◌to◌ : ℕ → ℕ → Range
low to high = record { low = low; high = high }

abbrev pub is_in : Range → ℕ → Bool
is_in range n = within range.low range.high n

abbrev pub IsIn : Range → ℕ → Type 0
IsIn range n = (range.low ≤ n) × (n ≤ range.high)

-- a default is in the range of its field
abbrev pub HasDefaultIn : Range → Absent ℕ → Type 0
HasDefaultIn range (Default n) = IsIn range n
HasDefaultIn range Missing = ⊤

-- a test of a value, which is out of its field's range where it fails
abbrev pub demand : Field → Bool → Result Unit JobFault
demand field test = unless test (OutOfRange field)

-- what a value is as one of a kind, if it is of that kind
abbrev pub of_kind : {A : Type 0} → Field → Option A → Result A JobFault
of_kind field found = ok_or found (WrongKind field)

-- an integer in a range
abbrev pub integer_in : Field → Range → Data → Result ℕ JobFault
integer_in field range (integer (pos n)) = if is_in range n then Ok n else Err (OutOfRange field)
integer_in field range (integer (negsuc n)) = Err (OutOfRange field)
integer_in field range _ = Err (WrongKind field)

-- an integer in a range, or what the field is where it is absent
abbrev pub number_in : Field → Range → Absent ℕ → Option Data → Result ℕ JobFault
number_in field range absent None = where_absent field absent
number_in field range absent (Some d) = integer_in field range d

-- such an integer that is a multiple of 4
abbrev pub word_in : Field → Range → Absent ℕ → Option Data → Result ℕ JobFault
word_in field range absent found =
    number_in field range absent found >>= λ n. demand field (n % 4 == 0) >>= λ _. Ok n

-- such an integer, or none
abbrev pub optional_in : Field → Range → Option Data → Result (Option ℕ) JobFault
optional_in field range None = Ok None
optional_in field range (Some d) = integer_in field range d >>= λ n. Ok (Some n)

-- the bits of a port, 32 or 64
abbrev pub port_width_in : Field → Absent ℕ → Option Data → Result ℕ JobFault
port_width_in field absent found =
    number_in field (32 to 64) absent found
    >>= λ n. demand field ((n == 32) || (n == 64)) >>= λ _. Ok n

-- a 0 or a 1
abbrev pub flag_in : Field → Absent ℕ → Option Data → Result Bool JobFault
flag_in field absent found = number_in field (0 to 1) absent found >>= λ n. Ok (n == 1)

-- a text that isn't empty, or what the field is where it is absent
abbrev pub text_in : Field → Absent (List ℕ) → Option Data → Result (List ℕ) JobFault
text_in field absent None = where_absent field absent
text_in field absent (Some d) =
    of_kind field (as_str d) >>= λ text. demand field (nat_lt 0 (length text)) >>= λ _. Ok text

-- a text, which may be empty, and must be there
abbrev pub any_text_in : Field → Option Data → Result (List ℕ) JobFault
any_text_in field found = ok_or found (MissingField field) >>= λ d. of_kind field (as_str d)

-- what a word means
abbrev pub meaning : {A : Type 0} → List (List ℕ × A) → List ℕ → Option A
meaning [] text = None
meaning (word ∷ words) text = if bytes_eq word.0 text then Some word.1 else meaning words text

-- a text that is one of some words, each with its meaning
abbrev pub choice_in
    : {A : Type 0} → Field → List (List ℕ × A) → Absent A → Option Data → Result A JobFault
choice_in field words absent None = where_absent field absent
choice_in field words absent (Some d) =
    of_kind field (as_str d) >>= λ text. ok_or (meaning words text) (OutOfRange field)

-- the items of an array, each read in its turn
abbrev pub each : {A : Type 0} → (Data → Result A JobFault) → Items → Result (List A) JobFault
each read no_items = Ok []
each read (item d ds) = read d >>= λ x. each read ds >>= λ xs. Ok (x ∷ xs)

abbrev pub are_integers : Items → Bool
are_integers no_items = true
are_integers (item d ds) = is_some (as_integer d) && are_integers ds

abbrev pub count : Items → ℕ
count no_items = 0
count (item d ds) = suc (count ds)

-- So many integers, each in a range. The kinds of all are tested first, then how many there are,
-- then the ranges.
abbrev pub integers_in : Field → Range → Range → Items → Result (List ℕ) JobFault
integers_in field counts range ds =
    unless (are_integers ds) (WrongKind field) >>= λ _.
    demand field (is_in counts (count ds)) >>= λ _.
    each (integer_in field range) ds

-- an array of so many such integers
abbrev pub numbers_in
    : Field → Range → Range → Absent (List ℕ) → Option Data → Result (List ℕ) JobFault
numbers_in field counts range absent None = where_absent field absent
numbers_in field counts range absent (Some d) =
    of_kind field (as_array d) >>= integers_in field counts range

-- an array of any number of integers, each in a range, whose kinds are all tested first
abbrev pub list_in : Field → Range → Absent (List ℕ) → Option Data → Result (List ℕ) JobFault
list_in field range absent None = where_absent field absent
list_in field range absent (Some d) =
    of_kind field (as_array d) >>= λ ds.
    unless (are_integers ds) (WrongKind field) >>= λ _.
    each (integer_in field range) ds

-- the items of an array: none where it is absent
abbrev pub array_in : Field → Option Data → Result Items JobFault
array_in field None = Ok no_items
array_in field (Some d) = of_kind field (as_array d)

-- each name of a table is one of these
abbrev pub are_known : List (List ℕ) → Members → Bool
are_known names no_members = true
are_known names (member k d ms) = list_any (λ n. bytes_eq n k) names && are_known names ms

-- A table with no other names than these. Another kind of value is reported at the field. An absent
-- table is empty.
abbrev pub table_in : Field → List (List ℕ) → Option Data → Result Members JobFault
table_in field names None = Ok no_members
table_in field names (Some d) =
    of_kind field (as_table d) >>= λ ms. unless (are_known names ms) UnknownField >>= λ _. Ok ms
