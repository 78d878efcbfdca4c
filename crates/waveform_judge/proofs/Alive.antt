-- A judge that isn't out of memory has read some text.
use Rattle.std.proofs.Common.{◌≡◌, ◌<◌, ◌-◌, ◌+◌, ◌^◌, ℕ, false, List, [], ◌++◌, length, Result, Ok, Err}
use Rattle.std.specs.Prelude.{is_err, OnOk}
use Rattle.std.proofs.Math.Logic.{∥∥₁_map, ∥∥₁_elim}
use denote.Struct.Props.{props}
use Rattle.xif_base.specs.declared.outside.NoMemory.{NoMemory}
use Rattle.xif_base.specs.declared.params.Params.{Params}
use Rattle.xif_sampler.specs.declared.place.Place.{Place}
use Rattle.vcd_text.specs.Reader as reader
use Rattle.waveform_judge.specs.Represented.{ItemJudging, HasRead, HasReadSome}
use Rattle.waveform_judge.proofs.Feeding.{Feeds, Stays, feed_room}
use Rattle.waveform_judge.proofs.Ending.{Closes, end_room}

pub some_start : (r : reader.Progress) (x : ItemJudging) (map : List Place) (params : Params) → HasRead r x map params [] → ∥ HasReadSome r x ∥₁
some_start r x map params start = ∣ (map, (params, ([], start))) ∣₁

pub some_feed_room : (old r : reader.Progress) (x : ItemJudging) (piece : List ℕ) → ∥ HasReadSome old x ∥₁ → Feeds old r piece (Ok tt) → Stays old r (Ok tt) → r.size < 2 ^ 32
    → x.judge.cycles + length r.read.items < 2 ^ 64 - 1
some_feed_room old r x piece some fed fault small =
    ∥∥₁_elim some (search props) (λ s. feed_room old r x s.0 s.1.0 s.1.1.0 piece s.1.1.1 fed fault small)

pub some_end_room : (old r : reader.Progress) (x : ItemJudging) → ∥ HasReadSome old x ∥₁ → Closes old r (Ok tt) → Stays old r (Ok tt) → old.size < 2 ^ 32
    → x.judge.cycles + length r.read.items < 2 ^ 64 - 1
some_end_room old r x some closed fault small =
    ∥∥₁_elim some (search props) (λ s. end_room old r x s.0 s.1.0 s.1.1.0 s.1.1.1 closed fault small)

pub some_more : (old new : reader.Progress) (x y : ItemJudging) (piece : List ℕ) (result : Result Unit NoMemory)
    → ((map : List Place) (params : Params) (text : List ℕ) → HasRead old x map params text → OnOk result (HasRead new y map params (text ++ piece)))
    → ∥ HasReadSome old x ∥₁ → is_err result ≡ false → ∥ HasReadSome new y ∥₁
some_more old new x y piece (Ok u) reads some e =
    ∥∥₁_map some (λ s. (s.0, (s.1.0, (s.1.1.0 ++ piece, reads s.0 s.1.0 s.1.1.0 s.1.1.1))))
some_more old new x y piece (Err n) reads some e = absurd (cc)
