-- Internal: what the contracts of private functions cite, of what an item does to the values that a
-- sampler keeps. Nothing here has to be believed.
use Rattle.std.specs.Prelude.{◌≡◌, ◌==◌, ◌&&◌, ◌≤◌, ◌<◌, ℕ, Bool, true, false, if◌then◌else◌, List, drop, length, slice_index_or, Option, Some, None}
use Rattle.xif_signals.specs.declared.sample.Quad.{Quad}
use Rattle.xif_signals.specs.Quad.{known_quad}
use Rattle.vcd_text.specs.declared.digit.Digit.{Digit}
use Rattle.xif_sampler.specs.declared.source.Source.{Source}
use Rattle.xif_sampler.specs.declared.source.Source.TheVariants.{Fixed, Bits}
use Rattle.xif_sampler.specs.declared.source.Readers.{Readers}
use Rattle.xif_sampler.specs.Digits.{quad_from}
use Rattle.xif_sampler.specs.Samples.{is_number}

abbrev pub source_at : List Source → ℕ → Source
source_at sources i = slice_index_or sources i (Fixed 0)

-- how many bits are taken
abbrev pub bits_taken : Source → ℕ
bits_taken (Fixed value) = 0
bits_taken (Bits code low width) = width

abbrev pub AreWithin : ℕ → List Source → Type 0
AreWithin most sources = (i : ℕ) → bits_taken (source_at sources i) ≤ most

-- whether a source has bits of a code
abbrev pub is_of : ℕ → Source → Bool
is_of code (Fixed value) = false
is_of code (Bits c low width) = code == c

-- the readers of a code among those of all codes; past them there are none
abbrev pub readers_at : List Readers → ℕ → Readers
readers_at readers code = slice_index_or readers code (record { from = 29; to = 0 })

-- signal i is among them
pub record IsAmong (r : Readers) (i : ℕ) : Type 0 where
  pub low : r.from ≤ i
  pub high : i < r.to

-- all signals that take bits of a code are
abbrev pub Covers : Readers → List Source → ℕ → Type 0
Covers r sources code =
    (i : ℕ) → i < length sources → is_of code (source_at sources i) ≡ true → IsAmong r i

pub record AreReaders (sources : List Source) (readers : List Readers) : Type 0 where
  pub covers : (code : ℕ) → Covers (readers_at readers code) sources code
  pub inside : (code : ℕ) → (readers_at readers code).to ≤ 29

-- the bits of a signal after a change
abbrev pub changed : ℕ → List Digit → Source → Quad → Quad
changed code digits (Fixed value) q = q
changed code digits (Bits c low width) q =
    if code == c then quad_from digits low width else q

-- the sample of an instant, by the values of all signals before it and after it
abbrev pub sample_between : List Quad → List Quad → Option (List Quad)
sample_between was now =
    if is_number 0 (slice_index_or was 0 (known_quad 0))
    && is_number 1 (slice_index_or now 0 (known_quad 0)) then Some (drop 1 was) else None
