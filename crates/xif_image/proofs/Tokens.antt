-- The tokens of a text, one by one.
use Rattle.std.proofs.Common.{◌≡◌, ◌<◌, ◌+◌, ◌-◌, ℕ, zero, suc, Bool, false, List, [], ◌∷◌, length, get_or, take, drop, refl, ap, sym, ◌∙◌, arith, add-zero, length-drop, nat_lt, if◌then◌else◌}
use Rattle.std.proofs.lemmas.Bool.{cond-true, lt-ltb}
use Rattle.std.proofs.lemmas.List.{drop_more, take_rest, drop-drop}
use Rattle.xif_image.specs.Text.{length_before, blank_length, token_length, Token, tokens_from}

-- the test fails at the first byte
length_before_next : (test : List ℕ → Bool) (b : ℕ) (bs : List ℕ) → test (b ∷ bs) ≡ false → length_before test (b ∷ bs) ≡ length_before test bs + 1
length_before_next test b bs h = rw h refl

-- The bytes from an index on, as a call takes them, are `take (length bytes - i) (drop i bytes)`.

-- the test fails at an index
pub length_before_more : (test : List ℕ → Bool) (bytes : List ℕ) (i : ℕ) → i < length bytes → test (take (length bytes - i) (drop i bytes)) ≡ false → length_before test (drop i bytes) ≡ length_before test (drop (i + 1) bytes) + 1
length_before_more test bytes i h fails =
    let e : drop i bytes ≡ get_or bytes i 0 ∷ drop (i + 1) bytes = drop_more bytes i 0 h in
    ap (length_before test) e ∙ length_before_next test (get_or bytes i 0) (drop (i + 1) bytes) (sym (ap test (take_rest bytes i ∙ e)) ∙ fails)

-- bytes that belong to what stands before them
tokens_passed : (at passed : ℕ) (bytes : List ℕ) → tokens_from at passed bytes ≡ tokens_from (at + passed) 0 (drop passed bytes)
tokens_passed at zero bytes = ap (λ n. tokens_from n 0 bytes) (sym (add-zero at))
tokens_passed at (suc passed) [] = refl
tokens_passed at (suc passed) (b ∷ bs) =
    let next : at + 1 + passed ≡ at + suc passed = omega arith in
    tokens_passed (at + 1) passed bs ∙ ap (λ n. tokens_from n 0 (drop passed bs)) next

-- what stands at the front takes one byte or more
tokens_after : (at n b : ℕ) (bs : List ℕ) → 0 < n → tokens_from (at + 1) (n - 1) bs ≡ tokens_from (at + n) 0 (drop n (b ∷ bs))
tokens_after at zero b bs h = absurd (omega (arith, h))
tokens_after at (suc n) b bs h =
    let less : suc n - 1 ≡ n = omega arith in
    let next : at + 1 + n ≡ at + suc n = omega arith in
    ap (λ m. tokens_from (at + 1) m bs) less ∙ tokens_passed (at + 1) n bs ∙ ap (λ m. tokens_from m 0 (drop n bs)) next

-- white space or a comment is at the front
pub tokens_blank : (at : ℕ) (bytes : List ℕ) → 0 < length bytes → 0 < blank_length bytes → tokens_from at 0 bytes ≡ tokens_from (at + blank_length bytes) 0 (drop (blank_length bytes) bytes)
tokens_blank at [] some h = absurd (omega (arith, some))
tokens_blank at (b ∷ bs) some h =
    cond-true (nat_lt 0 (blank_length (b ∷ bs))) (tokens_from (at + 1) (blank_length (b ∷ bs) - 1) bs) _ (lt-ltb 0 (blank_length (b ∷ bs)) h)
    ∙ tokens_after at (blank_length (b ∷ bs)) b bs h

-- a token is at the front
pub tokens_token : (at : ℕ) (bytes : List ℕ) → 0 < length bytes → blank_length bytes ≡ 0 → tokens_from at 0 bytes ≡ record { at = at; bytes = take (token_length bytes) bytes } ∷ tokens_from (at + token_length bytes) 0 (drop (token_length bytes) bytes)
tokens_token at [] some h = absurd (omega (arith, some))
tokens_token at (b ∷ bs) some h =
    let token : Token = record { at = at; bytes = take (token_length (b ∷ bs)) (b ∷ bs) } in
    let front = λ (n : ℕ). if nat_lt 0 n then tokens_from (at + 1) (n - 1) bs else token ∷ tokens_from (at + 1) (token_length (b ∷ bs) - 1) bs in
    let first : front (blank_length (b ∷ bs)) ≡ front 0 = ap front h in
    first ∙ ap (λ tokens. token ∷ tokens) (tokens_after at (token_length (b ∷ bs)) b bs (omega arith))

-- the reader passes white space or a comment
pub blank_step : (bytes : List ℕ) (start blank : ℕ) → start < length bytes → blank ≡ blank_length (take (length bytes - start) (drop start bytes)) → 0 < blank
    → tokens_from start 0 (drop start bytes) ≡ tokens_from (start + blank) 0 (drop (start + blank) bytes)
blank_step bytes start blank inside is some =
    let here : blank ≡ blank_length (drop start bytes) = is ∙ ap blank_length (take_rest bytes start) in
    let left : 0 < length (drop start bytes) = omega (arith, length-drop start bytes) in
    tokens_blank start (drop start bytes) left (rw here at some)
    ∙ ap (λ n. tokens_from (start + n) 0 (drop n (drop start bytes))) (sym here)
    ∙ ap (tokens_from (start + blank) 0) (drop-drop blank start bytes)

-- the reader takes a token
pub token_step : (bytes : List ℕ) (start blank long : ℕ) → start < length bytes → blank ≡ blank_length (take (length bytes - start) (drop start bytes)) → blank ≡ 0
    → long ≡ token_length (take (length bytes - start) (drop start bytes))
    → tokens_from start 0 (drop start bytes)
    ≡ record { at = start; bytes = take (start + long - start) (drop start bytes) } ∷ tokens_from (start + long) 0 (drop (start + long) bytes)
token_step bytes start blank long inside blank_is empty long_is =
    let here : blank_length (drop start bytes) ≡ 0 = ap blank_length (sym (take_rest bytes start)) ∙ sym blank_is ∙ empty in
    let left : 0 < length (drop start bytes) = omega (arith, length-drop start bytes) in
    let taken : token_length (drop start bytes) ≡ long = ap token_length (sym (take_rest bytes start)) ∙ sym long_is in
    let same : long ≡ start + long - start = omega arith in
    let with : ℕ → ℕ → List ℕ → List Token = λ n m rest. record { at = start; bytes = take n (drop start bytes) } ∷ tokens_from (start + m) 0 rest in
    tokens_token start (drop start bytes) left here
    ∙ ap (λ n. with n n (drop n (drop start bytes))) taken
    ∙ ap (with long long) (drop-drop long start bytes)
    ∙ ap (λ n. with n long (drop (start + long) bytes)) same
