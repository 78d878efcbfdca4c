-- What the holes of a format write.
use Rattle.std.proofs.Common.{ℕ, List, [], ◌++◌, ◌≡◌, ◌-◌, ◌^◌, false, ap, arith, length, replicate}
use Rattle.std.specs.Fmt.{char_count, padded_integral, format_spec}
use Rattle.std.proofs.lemmas.List.{append-nil}

-- what a hole of so many figures, filled with zeros, writes
pub zero_padded : (count : ℕ) (figures : List ℕ) → padded_integral (format_spec 32 0 4 count (2 ^ 64 - 1)) false [] figures ≡ replicate (count - length figures) 48 ++ figures
unfolding padded_integral char_count
zero_padded count figures =
    let width : count - length figures - 0 - 0 ≡ count - length figures = omega arith in
    rw width (ap (λ t. replicate (count - length figures) 48 ++ t) (append-nil figures))
