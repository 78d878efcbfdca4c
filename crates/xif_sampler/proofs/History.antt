-- What a change does to the values of the signals.
use Rattle.std.proofs.Common.{◌≡◌, ◌<◌, ◌==◌, ℕ, Bool, true, false, cond, List, ◌∷◌, map, length, get_or, refl, sym, ap, ◌∙◌, arith}
use Rattle.std.proofs.lemmas.List.{ext_get_or, get_or-map, length-map}
use Rattle.xif_signals.specs.declared.sample.Quad.{Quad}
use Rattle.xif_signals.specs.Quad.{known_quad}
use Rattle.vcd_text.specs.declared.digit.Digit.{Digit}
use Rattle.vcd_text.specs.declared.item.Item.{Item}
use Rattle.vcd_text.specs.declared.item.Item.TheVariants.{Change}
use Rattle.xif_sampler.specs.declared.source.Source.{Source}
use Rattle.xif_sampler.specs.declared.source.Source.TheVariants.{Fixed, Bits}
use Rattle.xif_sampler.specs.declared.source.Readers.{Readers}
use Rattle.xif_sampler.specs.Digits.{quad_from}
use Rattle.xif_sampler.specs.Samples.{quad_by, last_digits}
use Rattle.xif_sampler.specs.Steps.{source_at, is_of, changed, IsAmong, Covers}

changed_by : (b : Bool) (ds last : List Digit) (low width : ℕ) → cond b (quad_from ds low width) (quad_from last low width) ≡ quad_from (cond b ds last) low width
changed_by true ds last low width = refl
changed_by false ds last low width = refl

changed_is : (s : Source) (h : List Item) (code : ℕ) (ds : List Digit) → changed code ds s (quad_by h s) ≡ quad_by (Change code ds ∷ h) s
changed_is (Fixed n) h code ds = refl
changed_is (Bits c low width) h code ds = changed_by (code == c) ds (last_digits c h) low width

-- each value is brought up to date
pub read : (sources : List Source) (h : List Item) (code : ℕ) (ds : List Digit) (old new : List Quad) → length sources ≡ 29 → length new ≡ 29 → old ≡ map (quad_by h) sources
    → ((k : ℕ) → k < 29 → get_or new k (known_quad 0) ≡ changed code ds (source_at sources k) (get_or old k (known_quad 0)))
    → new ≡ map (quad_by (Change code ds ∷ h)) sources
read sources h code ds old new m n e p =
    let f : Source → Quad = quad_by (Change code ds ∷ h) in
    let count : length new ≡ length (map f sources) = n ∙ sym m ∙ sym (length-map sources f) in
    ext_get_or (known_quad 0) new (map f sources) count (λ k inside.
    let low : k < 29 = omega arith in
    let within : k < length sources = omega arith in
    p k low ∙ ap (λ l. changed code ds (source_at sources k) (get_or l k (known_quad 0))) e
    ∙ ap (changed code ds (source_at sources k)) (get_or-map (quad_by h) sources k (Fixed 0) (known_quad 0) within)
    ∙ changed_is (source_at sources k) h code ds
    ∙ sym (get_or-map f sources k (Fixed 0) (known_quad 0) within))

-- a signal that takes no bits of a code keeps its value
other_by : (s : Source) (code : ℕ) (ds : List Digit) (q : Quad) → is_of code s ≡ false → changed code ds s q ≡ q
other_by (Fixed n) code ds q e = refl
other_by (Bits c low width) code ds q e = rw e refl

uncovered_by : (r : Readers) (sources : List Source) (code i : ℕ) (b : Bool) → is_of code (source_at sources i) ≡ b → Covers r sources code → i < length sources → (IsAmong r i → ⊥)
    → is_of code (source_at sources i) ≡ false
uncovered_by r sources code i false e p inside n = e
uncovered_by r sources code i true e p inside n = absurd (n (p i inside e))

-- so does one that isn't among the readers
pub uncovered : (r : Readers) (sources : List Source) (code i : ℕ) (ds : List Digit) (q : Quad) → Covers r sources code → i < length sources → (IsAmong r i → ⊥) → changed code ds (source_at sources i) q ≡ q
uncovered r sources code i ds q p inside n =
    other_by (source_at sources i) code ds q (uncovered_by r sources code i (is_of code (source_at sources i)) refl p inside n)
