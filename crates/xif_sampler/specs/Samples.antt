-- The instants of a waveform, and its samples. A history is a list of items, the newest first.
use Rattle.std.specs.Prelude.{◌==◌, ◌&&◌, ℕ, Bool, if◌then◌else◌, nat_lt, max, List, [], ◌∷◌, ◌++◌, map, drop, reverse, filter_map, slice_index_or, Option, Some, None}
use Rattle.std.specs.Result.{result_unwrap_or}
use Rattle.xif_base.specs.declared.params.Params.{Params}
use Rattle.xif_signals.specs.declared.sample.Quad.{Quad}
use Rattle.xif_signals.specs.Quad.{known_quad}
use Rattle.vcd_text.specs.declared.declaration.Variable.{Variable}
use Rattle.vcd_text.specs.declared.digit.Digit.{Digit}
use Rattle.vcd_text.specs.declared.item.Item.{Item}
use Rattle.vcd_text.specs.declared.item.Item.TheVariants.{Time, Change}
use Rattle.xif_sampler.specs.declared.place.Place.{Place}
use Rattle.xif_sampler.specs.declared.source.Source.{Source}
use Rattle.xif_sampler.specs.declared.source.Source.TheVariants.{Fixed, Bits}
use Rattle.xif_sampler.specs.Digits.{quad_from}
use Rattle.xif_sampler.specs.Places.{sources_of}

-- ---- values

-- the digits of the last change of a code, none where there is no change
abbrev pub last_digits : ℕ → List Item → List Digit
last_digits code [] = []
last_digits code (Change c digits ∷ h) =
    if c == code then digits else last_digits code h
last_digits code (Time t ∷ h) = last_digits code h

-- the bits of a signal
abbrev pub quad_by : List Item → Source → Quad
quad_by h (Fixed value) = known_quad value
quad_by h (Bits code low width) = quad_from (last_digits code h) low width

-- ---- instants: all changes of equal times are one

-- the time of the instant that a history ends in; what comes before the first time is at time 0
abbrev pub time_of : List Item → ℕ
time_of [] = 0
time_of (Time t ∷ h) = max t (time_of h)
time_of (Change code digits ∷ h) = time_of h

-- what was before the instant that a history ends in: a greater time begins an instant
abbrev pub before : List Item → List Item
before [] = []
before (Time t ∷ h) = if nat_lt (time_of h) t then h else before h
before (Change code digits ∷ h) = before h

-- the histories up to the ends of the instants that a greater time ended, the oldest instant first
abbrev pub ended : List Item → List (List Item)
ended [] = []
ended (Time t ∷ h) = if nat_lt (time_of h) t then ended h ++ h ∷ [] else ended h
ended (Change code digits ∷ h) = ended h

-- those and the last one, which the end of the waveform ends
abbrev pub instants : List Item → List (List Item)
instants h = ended h ++ h ∷ []

-- ---- samples, where `sources` has the source of each signal in the order of the table, the
-- clock's first

abbrev pub is_number : ℕ → Quad → Bool
is_number n q = q.value == n && q.unknown == 0

abbrev pub clock_of : List Source → Source
clock_of sources = slice_index_or sources 0 (Fixed 0)

-- the clock was 0 before the instant that a history ends in, and is 1 after it
abbrev pub rises : List Source → List Item → Bool
rises sources h =
    is_number 0 (quad_by (before h) (clock_of sources))
    && is_number 1 (quad_by h (clock_of sources))

-- the sample of an instant in which the clock rises: the values from before it, of all signals but
-- the clock
abbrev pub sample_at : List Source → List Item → Option (List Quad)
sample_at sources h =
    if rises sources h then Some (map (quad_by (before h)) (drop 1 sources)) else None

-- the sample that a time ends an instant with, if it does
abbrev pub sample_by : List Source → List Item → ℕ → Option (List Quad)
sample_by sources h t = if nat_lt (time_of h) t then sample_at sources h else None

-- the sample that an item ends an instant with, if it does
abbrev pub answer_to : List Source → List Item → Item → Option (List Quad)
answer_to sources h (Time t) = sample_by sources h t
answer_to sources h (Change code digits) = None

-- the samples of items, the oldest item first
abbrev pub samples_by : List Source → List Item → List (List Quad)
samples_by sources items = filter_map (sample_at sources) (instants (reverse items))

-- The samples of the items of a waveform, the oldest item first, by a map that fits its variables.
abbrev pub samples_of : List Place → List Variable → Params → List Item → List (List Quad)
samples_of map variables p items =
    samples_by (result_unwrap_or (sources_of map variables p) []) items
