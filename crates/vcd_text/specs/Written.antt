-- The text of a list of buses (IEEE 1364-2005, clause 18): a header, and the changes of each cycle.
-- And what it says: its variables, and its times and changes.
use Rattle.std.specs.Prelude.{ℕ, ◌+◌, ◌*◌, ◌==◌, Bool, false, if◌then◌else◌, nat_lt, List, [], ◌∷◌, ◌++◌, map, filter, drop, Option, Some, None, codes}
use Rattle.std.specs.List.{flat_map}
use Rattle.std.specs.Int.Digits.{digits_of}
use Rattle.xif_base.specs.declared.params.Params.{Params}
use Rattle.xif_signals.specs.declared.signal.Signal.{Signal}
use Rattle.xif_signals.specs.declared.bus.Bus.{Bus}
use Rattle.xif_signals.specs.declared.sample.Quad.{Quad}
use Rattle.xif_signals.specs.Signal.{signals, code_of, name_of, width_of}
use Rattle.xif_signals.specs.Quad.{quad_of}
use Rattle.xif_signals.specs.Bus.{sample_of}
use Rattle.vcd_text.specs.Words.{zero_digit, space, line_feed, number_sign}
use Rattle.vcd_text.specs.declared.digit.Digit.{Digit}
use Rattle.vcd_text.specs.declared.digit.Digit.TheVariants.{Zero, One}
use Rattle.vcd_text.specs.declared.declaration.Variable.{Variable}
use Rattle.vcd_text.specs.declared.item.Item.{Item}
use Rattle.vcd_text.specs.declared.item.Item.TheVariants.{Time, Change}

-- ---- the lines

-- a number's digits without leading zeros, and 0 for 0
abbrev pub numeral : ℕ → ℕ → List ℕ
numeral base n = if n == 0 then zero_digit ∷ [] else map (λ d. zero_digit + d) (digits_of base n)

-- a word and the space behind it, and the last word of a line and the line end behind it
abbrev pub with_space : List ℕ → List ℕ
with_space w = w ++ space ∷ []

abbrev pub with_line_end : List ℕ → List ℕ
with_line_end w = w ++ line_feed ∷ []

-- `$var wire WIDTH CODE NAME $end`
abbrev pub var_line : Params → Signal → List ℕ
var_line p s =
    with_space (codes "$var") ++ (with_space (codes "wire")
    ++ (with_space (numeral 10 (width_of s p)) ++ (with_space (code_of s)
    ++ (with_space (name_of s) ++ with_line_end (codes "$end")))))

abbrev pub time_line : ℕ → List ℕ
time_line t = with_line_end (number_sign ∷ numeral 10 t)

-- a digit and the code for one bit, else `b`, the digits, and the code
abbrev pub change_line : ℕ → List ℕ → ℕ → List ℕ
change_line width code value =
    if width == 1 then with_line_end ((zero_digit + value) ∷ code)
    else with_space (codes "b" ++ numeral 2 value) ++ with_line_end code

-- the clock, whose code is `!`
abbrev pub clock_line : ℕ → List ℕ
clock_line value = with_line_end ((zero_digit + value) ∷ codes "!")

-- ---- the text

-- the signals of a list that the parameters don't leave out
abbrev pub wires : Params → List Signal → List Signal
wires p ss = filter (λ s. nat_lt 0 (width_of s p)) ss

unfoldable pub wires_of : Params → List Signal
wires_of p = wires p signals

-- those but for the clock
unfoldable pub data_wires_of : Params → List Signal
data_wires_of p = wires p (drop 1 signals)

-- the value of a signal other than the clock in a sample
abbrev pub value_in : List Quad → Signal → ℕ
value_in q s = (quad_of q s).value

-- a signal has the value that it had in the last cycle, of which there is none before the first
abbrev pub is_same : Option (List Quad) → List Quad → Signal → Bool
is_same None b s = false
is_same (Some a) b s = value_in a s == value_in b s

-- the line of a signal, where its value changed
abbrev pub changed_line : Params → Option (List Quad) → List Quad → Signal → List ℕ
changed_line p a b s =
    if is_same a b s then [] else change_line (width_of s p) (code_of s) (value_in b s)

abbrev pub header_text : Params → List ℕ
header_text p =
    codes "$timescale 1 ns $end\n" ++ (codes "$scope module xif $end\n"
    ++ (flat_map (var_line p) (wires_of p)
    ++ (codes "$upscope $end\n" ++ codes "$enddefinitions $end\n")))

-- cycle c with its sample, behind a cycle with sample a: its changes stand at time 10c, and the
-- clock rises at 10c + 5
abbrev pub cycle_text : Params → ℕ → Option (List Quad) → List Quad → List ℕ
cycle_text p c a b =
    time_line (10 * c) ++ (clock_line 0 ++ (flat_map (changed_line p a b) (data_wires_of p)
    ++ (time_line (10 * c + 5) ++ clock_line 1)))

-- behind c cycles
abbrev pub end_text : ℕ → List ℕ
end_text c = time_line (10 * c) ++ clock_line 0

-- the cycles from cycle c on, behind a cycle with sample a, and the end
abbrev pub cycles_text : Params → ℕ → Option (List Quad) → List Bus → List ℕ
cycles_text p c a [] = end_text c
cycles_text p c a (b ∷ bs) =
    cycle_text p c a (sample_of b) ++ cycles_text p (c + 1) (Some (sample_of b)) bs

-- the text of a list of buses, the first cycle first
abbrev pub vcd_text_of : Params → List Bus → List ℕ
vcd_text_of p buses = header_text p ++ cycles_text p 0 None buses

-- ---- what it says

-- the variables of signals, the first of which has this place among the codes
abbrev pub variables_from : Params → ℕ → List Signal → List Variable
variables_from p k [] = []
variables_from p k (s ∷ ss) =
    record { name = codes "xif." ++ name_of s; code = k; size = width_of s p }
    ∷ variables_from p (k + 1) ss

abbrev pub written_variables : Params → List Variable
written_variables p = variables_from p 0 (wires_of p)

-- the digits of a number in base 2, the leftmost first
abbrev pub bit_digit : ℕ → Digit
bit_digit bit = if bit == 0 then Zero else One

abbrev pub bits : ℕ → List Digit
bits n = if n == 0 then Zero ∷ [] else map bit_digit (digits_of 2 n)

-- the changes of signals, the first of which has this place among the codes
abbrev pub change_items : Option (List Quad) → List Quad → ℕ → List Signal → List Item
change_items a b k [] = []
change_items a b k (s ∷ ss) =
    (if is_same a b s then [] else Change k (bits (value_in b s)) ∷ [])
    ++ change_items a b (k + 1) ss

abbrev pub cycle_items : Params → ℕ → Option (List Quad) → List Quad → List Item
cycle_items p c a b =
    Time (10 * c) ∷ Change 0 (bits 0) ∷ (change_items a b 1 (data_wires_of p)
    ++ (Time (10 * c + 5) ∷ Change 0 (bits 1) ∷ []))

abbrev pub cycles_items : Params → ℕ → Option (List Quad) → List Bus → List Item
cycles_items p c a [] = Time (10 * c) ∷ Change 0 (bits 0) ∷ []
cycles_items p c a (b ∷ bs) =
    cycle_items p c a (sample_of b) ++ cycles_items p (c + 1) (Some (sample_of b)) bs

abbrev pub written_items : Params → List Bus → List Item
written_items p buses = cycles_items p 0 None buses
