-- The tokens of a text: runs of bytes between white space, and where each begins.
use Rattle.std.specs.Prelude.{ℕ, ◌+◌, ◌-◌, if◌then◌else◌, List, [], ◌∷◌, ◌++◌, length}
use Rattle.vcd_text.specs.Words.{is_white, space}

-- a token, and its offset in bytes from the text's start
pub record Token : Type 0 where
  pub at : ℕ
  pub text : List ℕ

-- a run of bytes that ends before an offset, where it isn't empty
abbrev pub token_before : ℕ → List ℕ → List Token
token_before at [] = []
token_before at (b ∷ bs) = record { at = at - length (b ∷ bs); text = b ∷ bs } ∷ []

-- the tokens behind which white space stands, from an offset on, where a run of bytes is open
abbrev pub complete : List ℕ → ℕ → List ℕ → List Token
complete run at [] = []
complete run at (b ∷ bs) =
    if is_white b then token_before at run ++ complete [] (at + 1) bs
    else complete (run ++ b ∷ []) (at + 1) bs

-- the run that is open at the end
abbrev pub rest : List ℕ → List ℕ → List ℕ
rest run [] = run
rest run (b ∷ bs) = if is_white b then rest [] bs else rest (run ++ b ∷ []) bs

-- the end of a text ends a token as white space does
abbrev pub ended : List ℕ → List ℕ
ended text = text ++ space ∷ []
