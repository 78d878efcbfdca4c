-- The columns of the table are those that results and accumulators call for.
use Rattle.std.proofs.Common.{◌≡◌, ◌≤◌, ◌<◌, ◌==◌, ◌&&◌, ◌^◌, ℕ, Bool, true, false, List, [], ◌∷◌, refl, ap, arith, lit<, lit≤}
use Rattle.std.specs.List.{AllByRecursion}
use Rattle.std.proofs.lemmas.Bool.Decides.{nat_tests}
use Rattle.coproc_config.specs.declared.operation.Op.{Op}
use Rattle.coproc_config.specs.declared.operation.Op.TheVariants.{ExtractU, ExtractS, Insert, Reverse, Ones, Merge, AccClear, AccAdd, AccMac, AccReadLow, AccReadHigh, AccSwap, PairAdd, PairMul, PairRead, PairSum}
use Rattle.coproc_config.specs.declared.operation.Writes.TheVariants as writes
use Rattle.coproc_config.specs.declared.operation.Names.TheVariants as names
use Rattle.coproc_config.specs.declared.operation.Entry.{Entry}
use Rattle.coproc_config.specs.Bits.{reversed, ones, merged}
use Rattle.coproc_config.specs.Table.{Inputs, lanes_read, pairs_read, operation_line}
use Rattle.coproc_config.specs.Check.{has_field}
use Rattle.coproc_config.specs.State.{accumulator_of}
use Rattle.coproc_config.specs.Apply.{Outcome, inputs, operation_outcome}
use Rattle.coproc_config.specs.Laws.{with_low, with_high, Use, LowCounts, HighCounts, Reaches, IgnoresAccumulator, IgnoresField}

-- bit 1 is the bit field, and accumulator 0 the accumulator
abbrev entry_of : Op → Entry
entry_of op = record { mask = 0; matched = 0; op = op; acc = 0; low = 1; len = 1 }

named : (op : Op) → has_field (operation_line op).names 1 1 ≡ true
named ExtractU = refl
named op = refl

abbrev used : (op : Op) → ℕ → Use op
used op q = record { entry = entry_of op; is_of = refl; field = named op; state = (q ∷ []) ∷ [] }

abbrev same : Outcome → Outcome → Bool
same x y = (x.result == y.result) && (accumulator_of x.state 0 0 == accumulator_of y.state 0 0)

same-itself : (n m : ℕ) → ((n == n) && (m == m)) ≡ true
same-itself n m = grind (arith, nat_tests)

different : (x y : Outcome) → same x y ≡ false → ¬ (x ≡ y)
different x y apart e =
    let yes : same x x ≡ true = same-itself x.result (accumulator_of x.state 0 0) in
    let other : same x x ≡ same x y = ap (same x) e in
    absurd cc

low_by : (op : Op) (n q half : ℕ) (lanes : List ℕ)
    → same (operation_outcome (entry_of op) 0 ((q ∷ []) ∷ []) lanes) (operation_outcome (entry_of op) 0 ((q ∷ []) ∷ []) (with_low lanes n half)) ≡ false
    → LowCounts op n
low_by op n q half lanes h = record { used = used op q; lanes = lanes; half = half; differs = different _ _ h }

high_by : (op : Op) (n q half : ℕ) (lanes : List ℕ)
    → same (operation_outcome (entry_of op) 0 ((q ∷ []) ∷ []) lanes) (operation_outcome (entry_of op) 0 ((q ∷ []) ∷ []) (with_high lanes n half)) ≡ false
    → HighCounts op n
high_by op n q half lanes h = record { used = used op q; lanes = lanes; half = half; differs = different _ _ h }

-- lanes of these numbers
abbrev three : ℕ → ℕ → ℕ → List ℕ
three a b c = a ∷ b ∷ c ∷ []

pub low-counts : (op : Op) → AllByRecursion (LowCounts op) (lanes_read (operation_line op).reads)
unfolding reversed ones merged
low-counts ExtractU = (low_by ExtractU 0 0 2 (three 0 0 0) refl, tt)
low-counts ExtractS = (low_by ExtractS 0 0 2 (three 0 0 0) refl, tt)
low-counts Insert = (low_by Insert 0 0 1 (three 0 0 0) refl, (low_by Insert 1 0 1 (three 0 0 0) refl, tt))
low-counts Reverse = (low_by Reverse 0 0 1 (three 0 0 0) refl, tt)
low-counts Ones = (low_by Ones 0 0 1 (three 0 0 0) refl, tt)
low-counts Merge = (
  low_by Merge 0 0 1 (three 0 0 1) refl,
  (low_by Merge 1 0 1 (three 0 0 0) refl, (low_by Merge 2 0 1 (three 1 0 0) refl, tt)),
)
low-counts AccClear = tt
low-counts AccAdd = (low_by AccAdd 0 0 1 (three 0 0 0) refl, tt)
low-counts AccMac = (low_by AccMac 0 0 1 (three 0 1 0) refl, (low_by AccMac 1 0 1 (three 1 0 0) refl, tt))
low-counts AccReadLow = tt
low-counts AccReadHigh = tt
low-counts AccSwap = (low_by AccSwap 0 0 1 (three 0 0 0) refl, tt)
low-counts PairAdd = (low_by PairAdd 0 0 1 (three 0 0 0) refl, (low_by PairAdd 1 0 1 (three 0 0 0) refl, tt))
low-counts PairMul = (low_by PairMul 0 0 1 (three 0 1 0) refl, (low_by PairMul 1 0 1 (three 1 0 0) refl, tt))
low-counts PairRead = tt
low-counts PairSum = (low_by PairSum 0 0 1 (three 0 0 0) refl, tt)

pub high-counts : (op : Op) → AllByRecursion (HighCounts op) (pairs_read (operation_line op).reads)
high-counts PairAdd = (high_by PairAdd 0 0 1 (three 0 0 0) refl, (high_by PairAdd 1 0 1 (three 0 0 0) refl, tt))
high-counts PairSum = (high_by PairSum 0 0 1 (three 0 0 0) refl, tt)
high-counts op = tt

reach : (op : Op) (least q : ℕ) (lanes : List ℕ) → q < 2 ^ 64 → least ≤ (operation_line op).result (inputs (entry_of op) q lanes) → Reaches op least
reach op least q lanes w h = record { entry = entry_of op; is_of = refl; q = q; wide = w; lanes = lanes; reached = h }

pub one-needed : (op : Op) → (operation_line op).writes ≡ writes.One → Reaches op 1
unfolding reversed ones merged
one-needed ExtractU h = reach ExtractU 1 0 (three 2 0 0) (lit< tt) (lit≤ tt)
one-needed ExtractS h = reach ExtractS 1 0 (three 2 0 0) (lit< tt) (lit≤ tt)
one-needed Insert h = reach Insert 1 0 (three 1 0 0) (lit< tt) (lit≤ tt)
one-needed Reverse h = reach Reverse 1 0 (three 1 0 0) (lit< tt) (lit≤ tt)
one-needed Ones h = reach Ones 1 0 (three 1 0 0) (lit< tt) (lit≤ tt)
one-needed Merge h = reach Merge 1 0 (three 1 0 1) (lit< tt) (lit≤ tt)
one-needed AccReadLow h = reach AccReadLow 1 1 (three 0 0 0) (lit< tt) (lit≤ tt)
one-needed AccReadHigh h = reach AccReadHigh 1 (2 ^ 32) (three 0 0 0) (lit< tt) (lit≤ tt)
one-needed AccSwap h = reach AccSwap 1 1 (three 0 0 0) (lit< tt) (lit≤ tt)
one-needed PairSum h = reach PairSum 1 0 (three 1 0 0) (lit< tt) (lit≤ tt)
one-needed op h = absurd cc

pub pair-needed : (op : Op) → (operation_line op).writes ≡ writes.Pair → Reaches op (2 ^ 32)
pair-needed PairAdd h = reach PairAdd (2 ^ 32) 0 (three (2 ^ 32) 0 0) (lit< tt) (lit≤ tt)
pair-needed PairMul h = reach PairMul (2 ^ 32) 0 (three (2 ^ 16) (2 ^ 16) 0) (lit< tt) (lit≤ tt)
pair-needed PairRead h = reach PairRead (2 ^ 32) (2 ^ 32) (three 0 0 0) (lit< tt) (lit≤ tt)
pair-needed op h = absurd cc

pub none-written : (op : Op) → (operation_line op).writes ≡ writes.Nothing → (x : Inputs) → (operation_line op).result x ≡ 0
none-written AccClear h x = refl
none-written AccAdd h x = refl
none-written AccMac h x = refl
none-written op h x = absurd cc

pub accumulator-ignored : (op : Op) → ¬ ((operation_line op).names ≡ names.Accumulator) → IgnoresAccumulator (operation_line op)
accumulator-ignored AccClear h = absurd (h refl)
accumulator-ignored AccAdd h = absurd (h refl)
accumulator-ignored AccMac h = absurd (h refl)
accumulator-ignored AccReadLow h = absurd (h refl)
accumulator-ignored AccReadHigh h = absurd (h refl)
accumulator-ignored AccSwap h = absurd (h refl)
accumulator-ignored PairRead h = absurd (h refl)
accumulator-ignored op h = record { result = λ x q. refl; accumulator = λ x. refl }

pub field-ignored : (op : Op) → ¬ ((operation_line op).names ≡ names.Field) → IgnoresField (operation_line op)
field-ignored ExtractU h = absurd (h refl)
field-ignored ExtractS h = absurd (h refl)
field-ignored Insert h = absurd (h refl)
field-ignored op h = record { result = λ x low len. refl; accumulator = λ x low len. refl }
