-- How a judge of waveforms takes pieces of a text.
use Rattle.std.specs.Prelude.{◌≡◌, ◌≤◌, ◌+◌, ℕ, List, ◌++◌, length}
use Rattle.std.proofs.Common.{arith, subst, append_assoc}
use Rattle.std.proofs.lemmas.List.{length-append}
use Rattle.xif_base.specs.declared.params.Params.{Params}
use Rattle.xif_sampler.specs.declared.place.Place.{Place}
use Rattle.waveform_judge.specs.Represented.{WaveformJudging, Represents}

-- By taking these bytes a judge becomes another: where it represented a text, it represents the
-- text with the bytes appended.
pub record Takes (old : WaveformJudging) (bytes : List ℕ) (new : WaveformJudging) : Type 0 where
  pub represents : (map : List Place) (params : Params) (text : List ℕ) →
      Represents old map params text → Represents new map params (text ++ bytes)
  pub size : new.reader.size ≤ old.reader.size + length bytes

-- to take two pieces one after the other is to take them as one
pub takes_both : (old between new : WaveformJudging) (first second : List ℕ) →
    Takes old first between → Takes between second new → Takes old (first ++ second) new
takes_both old between new first second one other =
    let both : length (first ++ second) ≡ length first + length second =
    length-append first second in
    record {
      represents = λ map params text p.
          let Reads : List ℕ → Type 0 = λ all. Represents new map params all in
          let first_read = one.represents map params text p in
          let all_read = other.represents map params (text ++ first) first_read in
          subst Reads (append_assoc text first second) all_read;
      size = omega (arith, both, one.size, other.size);
    }
