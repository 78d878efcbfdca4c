-- Where the bits of each signal come from, by a map and the variables that a waveform declares.
use Rattle.std.specs.Prelude.{◌≡◌, ⊤, ◌+◌, ◌-◌, ◌==◌, ◌&&◌, ◌||◌, ℕ, Bool, not, if◌then◌else◌, nat_lt, nat_le, List, [], ◌∷◌, ◌++◌, filter, replicate, slice_index_or, codes, bytes_eq, Option, Some, None, Result, Ok, Err}
use Rattle.std.specs.List.{list_all, list_any}
use Rattle.xif_base.specs.declared.params.Params.{Params}
use Rattle.xif_signals.specs.declared.signal.Signal.{Signal}
use Rattle.xif_signals.specs.declared.signal.Signal.TheVariants.{RstN}
use Rattle.xif_signals.specs.Signal.{signals, signal_number, name_of, width_of}
use Rattle.vcd_text.specs.declared.declaration.Variable.{Variable}
use Rattle.xif_sampler.specs.declared.place.Place.{Place}
use Rattle.xif_sampler.specs.declared.place.Place.TheVariants.{Default, Variable as InVariable, Constant}
use Rattle.xif_sampler.specs.declared.fault.MapFault.{MapFault}
use Rattle.xif_sampler.specs.declared.fault.MapFault.TheVariants.{Missing, Ambiguous, Narrow}
use Rattle.xif_sampler.specs.declared.source.Source.{Source}
use Rattle.xif_sampler.specs.declared.source.Source.TheVariants.{Fixed, Bits}
use Rattle.xif_sampler.specs.declared.fault.MapFail.{MapFail}
use Rattle.xif_sampler.specs.declared.fault.MapFail.TheVariants.{Map, NoMemory}

-- the place of a signal, by the list of all places in the order of the table
abbrev pub place_at : List Place → Signal → Place
place_at map s = slice_index_or map (signal_number s) Default

-- the map of `SignalMap::new`
abbrev pub defaults : List Place
defaults = replicate 29 Default

-- the variables of a name
abbrev pub named : List ℕ → List Variable → List Variable
named name variables = filter (λ v. bytes_eq v.name name) variables

-- whether there is one
abbrev pub has_named : List ℕ → List Variable → Bool
has_named name variables = list_any (λ v. bytes_eq v.name name) variables

-- The variable that is meant by those of one name: they have one code.
abbrev pub variable_of : Signal → List Variable → Result Variable MapFault
variable_of s [] = Err (Missing s)
variable_of s (v ∷ vs) =
    if list_all (λ w. w.code == v.code) vs then Ok v else Err (Ambiguous s)

-- Whether a variable of a size lacks one of `width` bits from `low` on, or `high` is no bit of it,
-- or `high` is below the last of them.
abbrev pub is_narrow : ℕ → ℕ → Option ℕ → ℕ → Bool
is_narrow size low None width = nat_lt size (low + width)
is_narrow size low (Some high) width =
    nat_lt size (low + width) || nat_le size high || nat_lt high (low + width - 1)

-- the bits that a signal takes of a variable
abbrev pub bits_of : Signal → ℕ → ℕ → Option ℕ → Result Variable MapFault → Result Source MapFault
bits_of s width low high (Ok v) =
    if is_narrow v.size low high width then Err (Narrow s) else Ok (Bits v.code low width)
bits_of s width low high (Err fault) = Err fault

abbrev pub bits_named : List Variable → Signal → ℕ → List ℕ → ℕ → Option ℕ → Result Source MapFault
bits_named variables s width name low high =
    bits_of s width low high (variable_of s (named name variables))

abbrev pub default_name : Signal → List ℕ
default_name s = codes "xif." ++ name_of s

-- the reset, where no variable has its default name
abbrev pub is_reset_left_out : List Variable → Signal → Bool
is_reset_left_out variables s =
    signal_number s == signal_number RstN && not (has_named (default_name s) variables)

-- where a signal of some bits is found
abbrev pub source_in : List Variable → Signal → ℕ → Place → Result Source MapFault
source_in variables s width (Constant value) = Ok (Fixed value)
source_in variables s width (InVariable name low high) = bits_named variables s width name low high
source_in variables s width Default =
    if is_reset_left_out variables s then Ok (Fixed 1)
    else bits_named variables s width (default_name s) 0 None

-- Where the bits of a signal come from. One that the parameters leave out is 0, whatever the map
-- says.
abbrev pub source_of : List Place → List Variable → Params → Signal → Result Source MapFault
source_of map variables p s =
    if width_of s p == 0 then Ok (Fixed 0)
    else source_in variables s (width_of s p) (place_at map s)

-- the sources in a row, or the first fault
abbrev pub with_next : Result Source MapFault → Result (List Source) MapFault
    → Result (List Source) MapFault
with_next (Err fault) rest = Err fault
with_next (Ok source) (Err fault) = Err fault
with_next (Ok source) (Ok sources) = Ok (source ∷ sources)

abbrev pub sources_along : (Signal → Result Source MapFault) → List Signal
    → Result (List Source) MapFault
sources_along source [] = Ok []
sources_along source (s ∷ ss) = with_next (source s) (sources_along source ss)

-- Where the bits of all signals come from, in the order of the table, or the fault of the first
-- signal in that order that has one.
unfoldable pub sources_of : List Place → List Variable → Params → Result (List Source) MapFault
sources_of map variables p = sources_along (source_of map variables p) signals

-- An answer is the sources, or the fault, that are meant. Out of memory is free.
abbrev pub FindsAs : {A : Type 0} → Result A MapFail → Result A MapFault → Type 0
FindsAs (Ok found) meant = meant ≡ Ok found
FindsAs (Err (Map fault)) meant = meant ≡ Err fault
FindsAs (Err NoMemory) meant = ⊤
