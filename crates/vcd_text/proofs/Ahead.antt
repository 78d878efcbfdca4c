-- A vector and its code in one step.
use Rattle.std.proofs.Common.{◌≡◌, ◌<◌, ◌+◌, ◌-◌, ℕ, true, cond, true≢false, subst, List, [], ◌∷◌, ◌++◌, length, take, drop, get_or, drop-cons, take-add, refl, sym, ap, ◌∙◌, arith, Option, None, Some, Result, Ok, Err, ◌⊎◌, inl, inr}
use Rattle.std.proofs.lemmas.Bool.Decides.{nat_tests}
use Rattle.std.proofs.lemmas.List.{append-nil, length-take-le}
use Rattle.vcd_text.specs.declared.digit.Digit.{Digit}
use Rattle.vcd_text.specs.declared.item.Item.{Item}
use Rattle.vcd_text.specs.declared.state.Part.TheVariants.{Nothing}
use Rattle.vcd_text.specs.declared.state.State.{State}
use Rattle.vcd_text.specs.declared.stop.Stop.{Stop}
use Rattle.vcd_text.specs.declared.stop.Stop.TheVariants.{NoMemory, Fault}
use Rattle.vcd_text.specs.Words.{digit, digits, with_digit}
use Rattle.vcd_text.specs.Tokens.{Token, token_before, complete, rest}
use Rattle.vcd_text.specs.Grammar.{with_part, in_part, body, declaration, vector, change, step}
use Rattle.vcd_text.specs.Reading.{moved, go}
use Rattle.vcd_text.specs.Scanner.{IsWholeWord, tokens_of}
use Rattle.vcd_text.specs.Steps.{StepsTo, ReadsTo, IsVector, begins_vector, read_to}
use Rattle.vcd_text.proofs.Texts.{complete-append, rest-append}
use Rattle.vcd_text.proofs.Following.{complete-ink, rest-ink, complete-push, rest-push}

-- ---- one token

pub reads-one : (old new : State) (result : Result (Option Item) Stop) (t : Token) → StepsTo old new result (step old t) → ReadsTo old new result (t ∷ [])
reads-one old new (Ok item) t h = (λ items. ap (moved (read_to items old)) h.0, h.1)
reads-one old new (Err NoMemory) t h = tt
reads-one old new (Err (Fault f)) t h = (λ items. ap (moved (read_to items old)) h.0, h.1)

-- ---- a vector and its code

letter : (b : ℕ) → begins_vector (b ∷ []) ≡ true → (b ≡ 98) ⊎ (b ≡ 66)
letter b h = grind (arith, nat_tests)

body-vector : (s : State) (at b : ℕ) (bs : List ℕ) → (b ≡ 98) ⊎ (b ≡ 66) → body s at (b ∷ bs) ≡ vector s at (digits bs)
body-vector s at b bs (inl e) = rw e refl
body-vector s at b bs (inr e) = rw e refl

no_part : (s : State) → s.part ≡ Nothing → with_part s Nothing ≡ s
no_part s e = ap (with_part s) (sym e)

step-vector : (s : State) (at b : ℕ) (bs : List ℕ) → IsVector s (b ∷ bs) → step s (record { at = at; text = b ∷ bs }) ≡ vector s at (digits bs)
step-vector s at b bs h =
    let t : Token = record { at = at; text = b ∷ bs } in
    ap (λ p. in_part p (with_part s Nothing) t) h.part
    ∙ ap (λ s. in_part Nothing s t) (no_part s h.part)
    ∙ ap (λ d. cond d (body s at (b ∷ bs)) (declaration s t)) h.declared
    ∙ body-vector s at b bs (letter b h.letter)

both-by : (old : State) (result : Result (Option Item) Stop) (t c : Token) (ds : List Digit) → 0 < length ds → old.part ≡ Nothing → step old t ≡ vector old t.at (Some ds)
    → StepsTo old old result (change old t.at ds c.at c.text) → ReadsTo old old result (t ∷ c ∷ [])
both-by old result t c [] some part is h = absurd (omega (arith, some))
both-by old (Ok item) t c (d ∷ ds) some part is h = (
  λ items.
      ap (λ x. go (moved (read_to items old) x) c) is
      ∙ ap (λ s. moved (read_to (items ++ []) s) (change s t.at (d ∷ ds) c.at c.text)) (no_part old part)
      ∙ ap (λ xs. moved (read_to xs old) (change old t.at (d ∷ ds) c.at c.text)) (append-nil items)
      ∙ ap (moved (read_to items old)) h.0,
  h.1,
)
both-by old (Err NoMemory) t c ds some part is h = tt
both-by old (Err (Fault f)) t c (d ∷ ds) some part is h = (
  λ items.
      ap (λ x. go (moved (read_to items old) x) c) is
      ∙ ap (λ s. moved (read_to (items ++ []) s) (change s t.at (d ∷ ds) c.at c.text)) (no_part old part)
      ∙ ap (λ xs. moved (read_to xs old) (change old t.at (d ∷ ds) c.at c.text)) (append-nil items)
      ∙ ap (moved (read_to items old)) h.0,
  h.1,
)

some-digits_by : (d : Option Digit) (more : Option (List Digit)) (ds : List Digit) → with_digit d more ≡ Some ds → 0 < length ds
some-digits_by None more ds e = cc
some-digits_by (Some d) None ds e = cc
some-digits_by (Some d) (Some more) [] e = cc
some-digits_by (Some d) (Some more) (x ∷ xs) e = omega arith

pub some-digits : (bytes : List ℕ) (ds : List Digit) → 0 < length bytes → digits bytes ≡ Some ds → 0 < length ds
some-digits [] ds h e = absurd (omega (arith, h))
some-digits (b ∷ bs) ds h e = some-digits_by (digit b) (digits bs) ds e

-- ---- a word and white space

word-split : (bytes : List ℕ) (n : ℕ) → n < length bytes → take (n + 1) bytes ≡ take n bytes ++ get_or bytes n 0 ∷ []
word-split bytes n h = take-add n 1 bytes ∙ ap (λ xs. take n bytes ++ take 1 xs) (drop-cons bytes n 0 h)

-- nothing is open behind it
pub word-closed : (bytes : List ℕ) (n : ℕ) → IsWholeWord n bytes → rest [] (take (n + 1) bytes) ≡ []
word-closed bytes n h =
    ap (rest []) (word-split bytes n h.within) ∙ rest-append [] (take n bytes) (get_or bytes n 0 ∷ []) ∙ rest-push (rest [] (take n bytes)) (get_or bytes n 0) true h.white

before-cons : (at : ℕ) (word : List ℕ) → 0 < length word → token_before (at + length word) word ≡ record { at = at; text = word } ∷ []
before-cons at [] h = absurd (omega (arith, h))
before-cons at (b ∷ bs) h =
    let same : at + length (b ∷ bs) - length (b ∷ bs) ≡ at = omega arith in
    ap (token_at (b ∷ bs)) same
  where
    token_at : List ℕ → ℕ → List Token
    token_at word n = record { at = n; text = word } ∷ []

-- it is a token
pub word-token : (bytes : List ℕ) (n at : ℕ) → 0 < n → IsWholeWord n bytes → complete [] at (take (n + 1) bytes) ≡ record { at = at; text = take n bytes } ∷ []
word-token bytes n at some h =
    let long : length (take n bytes) ≡ n = length-take-le n bytes (omega (arith, h.within)) in
    ap (complete [] at) (word-split bytes n h.within)
    ∙ complete-append [] at (take n bytes) (get_or bytes n 0 ∷ [])
    ∙ ap (λ ts. ts ++ complete (rest [] (take n bytes)) (at + length (take n bytes)) (get_or bytes n 0 ∷ [])) (complete-ink [] at (take n bytes) h.ink)
    ∙ ap (λ run. complete run (at + length (take n bytes)) (get_or bytes n 0 ∷ [])) (rest-ink [] (take n bytes) h.ink)
    ∙ complete-push (take n bytes) (at + length (take n bytes)) (get_or bytes n 0) true h.white
    ∙ before-cons at (take n bytes) (omega (arith, some, long))

-- ---- both tokens, where they are there

pub reads-ahead : (old : State) (result : Result (Option Item) Stop) (end n : ℕ) (token tail : List ℕ) (ds : List Digit) → 0 < n → IsVector old token → IsWholeWord n tail
    → digits (drop 1 token) ≡ Some ds → 0 < length ds
    → StepsTo old old result (change old (end - length token) ds (end + 1) (take n tail))
    → ReadsTo old old result (tokens_of end token (take (n + 1) tail))
reads-ahead old result end n [] tail ds some v w e l h = absurd (true≢false (sym v.letter))
reads-ahead old result end n (b ∷ bs) tail ds some v w e l h =
    let t : Token = record { at = end - length (b ∷ bs); text = b ∷ bs } in
    let c : Token = record { at = end + 1; text = take n tail } in
    subst (λ ts. ReadsTo old old result (t ∷ ts)) (sym (word-token tail n (end + 1) some w))
    (both-by old result t c ds l v.part (step-vector old (end - length (b ∷ bs)) b bs v ∙ ap (vector old (end - length (b ∷ bs))) e) h)
