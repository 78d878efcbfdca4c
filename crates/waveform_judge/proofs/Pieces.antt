-- A text that is read piece by piece.
use Rattle.std.proofs.Common.{◌≡◌, ◌≤◌, ◌+◌, ◌∙◌, ◌==◌, ℕ, true, List, [], ◌++◌, length, take, drop, Result, Ok, Err, sym, ap, append_assoc}
use Rattle.std.specs.Prelude.{OnOk}
use Rattle.std.proofs.lemmas.Bool.{eqb-true}
use Rattle.std.proofs.lemmas.List.{append-nil, nil_from_length, take-append-drop}
use Rattle.xif_base.specs.declared.outside.NoMemory.{NoMemory}
use Rattle.xif_base.specs.declared.params.Params.{Params}
use Rattle.xif_sampler.specs.declared.place.Place.{Place}
use Rattle.waveform_judge.specs.Represented.{WaveformJudging, Represents}
use Rattle.waveform_judge.specs.Taking.{Takes}

-- the next piece is behind those before it
pub front_more : (n : ℕ) (front piece more rest text : List ℕ) → piece ≡ take n rest → more ≡ drop n rest → front ++ rest ≡ text → (front ++ piece) ++ more ≡ text
front_more n front piece more rest text e f g =
    append_assoc front piece more ∙ ap (λ l. front ++ l) (ap (λ p. p ++ more) e ∙ ap (λ m. take n rest ++ m) f ∙ take-append-drop n rest) ∙ g

-- behind the last one nothing is left
pub front_all : (front rest text : List ℕ) → true ≡ (length rest == 0) → front ++ rest ≡ text → front ≡ text
front_all front rest text e g =
    let none : rest ≡ [] = nil_from_length rest (eqb-true (length rest) 0 (sym e)) in
    sym (append-nil front) ∙ sym (ap (λ l. front ++ l) none) ∙ g

-- a piece that is fed is taken
pub fed_taken : (old new : WaveformJudging) (piece : List ℕ) (result : Result Unit NoMemory)
    → ((map : List Place) (params : Params) (text : List ℕ) → Represents old map params text → OnOk result (Represents new map params (text ++ piece)))
    → new.reader.size ≤ old.reader.size + length piece → OnOk result (Takes old piece new)
fed_taken old new piece (Ok u) reads size = record { represents = reads; size = size }
fed_taken old new piece (Err n) reads size = tt
