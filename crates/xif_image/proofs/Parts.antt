-- A text is read by its parts.
use Rattle.std.proofs.Common.{◌≡◌, ◌<◌, ◌≤◌, ◌==◌, ◌+◌, ◌⊎◌, ℕ, zero, suc, Bool, true, false, not, List, [], ◌∷◌, ◌++◌, length, take, drop, codes, refl, sym, ap, subst, inl, inr, ◌∙◌, add-one, append_assoc, length-append, arith}
use Rattle.std.specs.Prelude.{position, unwrap_or}
use Rattle.std.specs.List.{list_all}
use Rattle.std.proofs.lemmas.List.{take_at, drop_at}
use Rattle.std.proofs.lemmas.Bool.{and_parts}
use Rattle.std.proofs.lemmas.Bool.Decides.{nat_tests}
use Rattle.xif_image.specs.Text.{line_feed, is_white, begins, length_before, blank_length, ends_token, token_length, Token, tokens_from, placed_by, image_or_empty, text_image}
use Rattle.xif_image.specs.Grammar.{Part, White, LineComment, BlockComment, Word, part_bytes, spelled, is_open, begins_word, runs_on, EndsLine, IsWord, IsPart, AreParts, words_from, parts_image}
use Rattle.xif_image.proofs.Tokens.{tokens_blank, tokens_token}
use Rattle.xif_image.proofs.HexText.{slash, blank-white}

abbrev star : ℕ
star = 42

-- the line feed behind a comment
line-end : (inner rest : List ℕ) → list_all (λ b. not (b == line_feed)) inner ≡ true → EndsLine rest
    → unwrap_or (position (λ b. b == line_feed) (inner ++ rest)) (length (inner ++ rest)) ≡ length inner
line-end [] rest h (inl e) = rw e refl
line-end [] [] h (inr e) = refl
line-end [] (b ∷ bs) h (inr e) = grind (arith, nat_tests)
line-end (b ∷ bs) rest h e =
    let both = and_parts (not (b == line_feed)) (list_all (λ b. not (b == line_feed)) bs) h in
    let after = line-end bs rest both.1 e in
    grind (arith, nat_tests)

-- no `*/` is found where there is none
open-length : (bytes : List ℕ) → is_open bytes ≡ true → length_before (begins (codes "*/")) bytes ≡ length bytes
open-length [] h = refl
open-length (b ∷ bs) h =
    let both = and_parts (not (begins (codes "*/") (b ∷ bs))) (is_open bs) h in
    let after = open-length bs both.1 in
    grind (arith, nat_tests)

-- the first `*/` is the one behind what a comment holds
closed-length : (inner rest : List ℕ) → is_open inner ≡ true → length_before (begins (codes "*/")) (inner ++ (codes "*/" ++ rest)) ≡ length inner
closed-length [] rest h = refl
closed-length (b ∷ []) rest h = grind (arith, nat_tests)
closed-length (b ∷ d ∷ bs) rest h =
    let both = and_parts (not (begins (codes "*/") (b ∷ d ∷ bs))) (is_open (d ∷ bs)) h in
    let after = closed-length (d ∷ bs) rest both.1 in
    grind (arith, nat_tests)

-- a word goes up to its end
word-length : (others rest : List ℕ) → runs_on others rest ≡ true → ends_token rest ≡ true → length_before ends_token (others ++ rest) ≡ length others
word-length [] [] h e = refl
word-length [] (r ∷ rs) h e = rw e refl
word-length (b ∷ bs) rest h e =
    let both = and_parts (not (ends_token (b ∷ (bs ++ rest)))) (runs_on bs rest) h in
    let after = word-length bs rest both.1 e in
    grind (arith, nat_tests)

-- no white space and no comment where a word begins
word-blank : (b : ℕ) (bs : List ℕ) → begins_word (b ∷ bs) ≡ true → blank_length (b ∷ bs) ≡ 0
word-blank b bs h =
    let none : is_open (drop 1 bs) ≡ true → length_before (begins (codes "*/")) (drop 1 bs) ≡ length (drop 1 bs) = open-length (drop 1 bs) in
    grind (arith, nat_tests)

-- white space and comments have the length of their part
blank-line : (inner rest : List ℕ) → list_all (λ b. not (b == line_feed)) inner ≡ true → EndsLine rest
    → blank_length (codes "//" ++ (inner ++ rest)) ≡ length (codes "//" ++ inner)
blank-line inner rest h e =
    let after = line-end inner rest h e in
    grind (arith, nat_tests)

blank-block : (inner rest : List ℕ) → is_open inner ≡ true
    → blank_length (codes "/*" ++ (inner ++ (codes "*/" ++ rest))) ≡ length (codes "/*" ++ (inner ++ codes "*/"))
blank-block inner rest h =
    let after = closed-length inner rest h in
    let long : length (inner ++ (codes "*/" ++ rest)) ≡ length inner + (2 + length rest) = length-append inner (codes "*/" ++ rest) ∙ grind arith in
    let part : length (inner ++ codes "*/") ≡ length inner + 2 = length-append inner (codes "*/") in
    grind (arith, nat_tests)

-- white space or a comment at the front is passed over
passed : (at : ℕ) (front rest : List ℕ) → 0 < length front → blank_length (front ++ rest) ≡ length front
    → tokens_from at 0 (front ++ rest) ≡ tokens_from (at + length front) 0 rest
passed at front rest some e =
    let left : 0 < length (front ++ rest) = omega (arith, some, length-append front rest) in
    let more : 0 < blank_length (front ++ rest) = omega (arith, some, e) in
    tokens_blank at (front ++ rest) left more
    ∙ ap (λ n. tokens_from (at + n) 0 (drop n (front ++ rest))) e
    ∙ ap (λ xs. tokens_from (at + length front) 0 xs) (drop_at front rest (length front) refl)

-- a word at the front is a token
word-read : (at b : ℕ) (others rest : List ℕ) → IsWord b others rest
    → tokens_from at 0 (b ∷ (others ++ rest)) ≡ record { at = at; bytes = b ∷ others } ∷ tokens_from (at + length (b ∷ others)) 0 rest
word-read at b others rest w =
    let long : token_length (b ∷ (others ++ rest)) ≡ suc (length others) = ap (λ n. n + 1) (word-length others rest w.whole w.ended) ∙ add-one (length others) in
    let token : List ℕ → Token = λ bytes. record { at = at; bytes = bytes } in
    tokens_token at (b ∷ (others ++ rest)) (omega arith) (word-blank b (others ++ rest) w.begun)
    ∙ ap (λ n. token (take n (b ∷ (others ++ rest))) ∷ tokens_from (at + n) 0 (drop n (b ∷ (others ++ rest)))) long
    ∙ ap (λ front. token (b ∷ front) ∷ tokens_from (at + suc (length others)) 0 (drop (length others) (others ++ rest))) (take_at others rest (length others) refl)
    ∙ ap (λ left. token (b ∷ others) ∷ tokens_from (at + suc (length others)) 0 left) (drop_at others rest (length others) refl)

-- the tokens of parts are the words among them
tokens-parts : (at : ℕ) (parts : List Part) → AreParts parts → tokens_from at 0 (spelled parts) ≡ words_from at parts
tokens-parts at [] h = refl
tokens-parts at (White b ∷ parts) h =
    passed at (b ∷ []) (spelled parts) (omega arith) (blank-white b (spelled parts) h.0) ∙ tokens-parts (at + length (b ∷ [])) parts h.1
tokens-parts at (LineComment inner ∷ parts) h =
    passed at (codes "//" ++ inner) (spelled parts) (omega arith) (blank-line inner (spelled parts) h.0.0 h.0.1)
    ∙ tokens-parts (at + length (codes "//" ++ inner)) parts h.1
tokens-parts at (BlockComment inner ∷ parts) h =
    passed at (codes "/*" ++ (inner ++ codes "*/")) (spelled parts) (omega arith)
    (ap (λ xs. blank_length (codes "/*" ++ xs)) (append_assoc inner (codes "*/") (spelled parts)) ∙ blank-block inner (spelled parts) h.0)
    ∙ tokens-parts (at + length (codes "/*" ++ (inner ++ codes "*/"))) parts h.1
tokens-parts at (Word b others ∷ parts) h =
    word-read at b others (spelled parts) h.0
    ∙ ap (λ tokens. record { at = at; bytes = b ∷ others } ∷ tokens) (tokens-parts (at + length (b ∷ others)) parts h.1)

pub text-parts : (base size : ℕ) (parts : List Part) → AreParts parts → text_image base size (spelled parts) ≡ parts_image base size parts
text-parts base size parts h = ap (λ tokens. image_or_empty base size (placed_by base size base tokens)) (tokens-parts 0 parts h)

-- a line at the front of bytes
record Line (bytes : List ℕ) : Type 0 where
  pub inner : List ℕ
  pub rest : List ℕ
  pub same : inner ++ rest ≡ bytes
  pub none : list_all (λ b. not (b == line_feed)) inner ≡ true
  pub ends : EndsLine rest

line_step : (b : ℕ) (bs : List ℕ) (t : Bool) → (b == line_feed) ≡ t → Line bs → Line (b ∷ bs)
line_step b bs true e l = record { inner = []; rest = b ∷ bs; same = refl; none = refl; ends = inr (grind (arith, nat_tests)) }
line_step b bs false e l = record {
  inner = b ∷ l.inner;
  rest = l.rest;
  same = ap (λ xs. b ∷ xs) l.same;
  none = rw (e, l.none) refl;
  ends = l.ends;
}

line_of : (bytes : List ℕ) → Line bytes
line_of [] = record { inner = []; rest = []; same = refl; none = refl; ends = inl refl }
line_of (b ∷ bs) = line_step b bs (b == line_feed) refl (line_of bs)

-- two bytes at the front
two-front : (x y b : ℕ) (bs : List ℕ) → begins (x ∷ y ∷ []) (b ∷ bs) ≡ true → x ∷ y ∷ drop 1 bs ≡ b ∷ bs
two-front x y b [] e = absurd (grind (arith, nat_tests))
two-front x y b (d ∷ ds) e =
    let first : x ≡ b = grind (arith, nat_tests) in
    let second : y ≡ d = grind (arith, nat_tests) in
    cc

-- bytes up to the first `*/`
record Block (bytes : List ℕ) : Type 0 where
  pub inner : List ℕ
  pub rest : List ℕ
  pub same : inner ++ (codes "*/" ++ rest) ≡ bytes
  pub none : is_open inner ≡ true

begins-front : (b : ℕ) (inner rest bs : List ℕ) → inner ++ (codes "*/" ++ rest) ≡ bs → begins (codes "*/") (b ∷ bs) ≡ false → begins (codes "*/") (b ∷ inner) ≡ false
begins-front b [] rest bs same e = grind (arith, nat_tests)
begins-front b (d ∷ ds) rest bs same e =
    let whole : begins (codes "*/") (b ∷ d ∷ (ds ++ (codes "*/" ++ rest))) ≡ false = ap (λ xs. begins (codes "*/") (b ∷ xs)) same ∙ e in
    grind (arith, nat_tests)

block_step : (b : ℕ) (bs : List ℕ) (t : Bool) → begins (codes "*/") (b ∷ bs) ≡ t → ((is_open bs ≡ true) ⊎ Block bs) → ((is_open (b ∷ bs) ≡ true) ⊎ Block (b ∷ bs))
block_step b bs true e x = inr (record { inner = []; rest = drop 1 bs; same = two-front star slash b bs e; none = refl })
block_step b bs false e (inl none) = inl (rw (e, none) refl)
block_step b bs false e (inr k) = inr (record {
  inner = b ∷ k.inner;
  rest = k.rest;
  same = ap (λ xs. b ∷ xs) k.same;
  none = rw (begins-front b k.inner k.rest bs k.same e, k.none) refl;
})

block_of : (bytes : List ℕ) → (is_open bytes ≡ true) ⊎ Block bytes
block_of [] = inl refl
block_of (b ∷ bs) = block_step b bs (begins (codes "*/") (b ∷ bs)) refl (block_of bs)

-- bytes up to the end of a word
record Run (bytes : List ℕ) : Type 0 where
  pub others : List ℕ
  pub rest : List ℕ
  pub same : others ++ rest ≡ bytes
  pub whole : runs_on others rest ≡ true
  pub ended : ends_token rest ≡ true

run_step : (b : ℕ) (bs : List ℕ) (t : Bool) → ends_token (b ∷ bs) ≡ t → Run bs → Run (b ∷ bs)
run_step b bs true e r = record { others = []; rest = b ∷ bs; same = refl; whole = refl; ended = e }
run_step b bs false e r =
    let on : ends_token (b ∷ (r.others ++ r.rest)) ≡ false = ap (λ xs. ends_token (b ∷ xs)) r.same ∙ e in
    record {
      others = b ∷ r.others;
      rest = r.rest;
      same = ap (λ xs. b ∷ xs) r.same;
      whole = rw (on, r.whole) refl;
      ended = r.ended;
    }

run_of : (bytes : List ℕ) → Run bytes
run_of [] = record { others = []; rest = []; same = refl; whole = refl; ended = refl }
run_of (b ∷ bs) = run_step b bs (ends_token (b ∷ bs)) refl (run_of bs)

-- the part at the front of a text
record Front (text : List ℕ) : Type 0 where
  pub part : Part
  pub rest : List ℕ
  pub same : part_bytes part ++ rest ≡ text
  pub is : IsPart part rest

word_front : (b : ℕ) (bs : List ℕ) → begins_word (b ∷ bs) ≡ true → Front (b ∷ bs)
word_front b bs h =
    let r = run_of bs in
    record {
      part = Word b r.others;
      rest = r.rest;
      same = ap (λ xs. b ∷ xs) r.same;
      is = record { begun = ap (λ xs. begins_word (b ∷ xs)) r.same ∙ h; whole = r.whole; ended = r.ended };
    }

block_front : (b : ℕ) (bs : List ℕ) → is_white b ≡ false → begins (codes "//") (b ∷ bs) ≡ false → begins (codes "/*") (b ∷ bs) ≡ true
    → ((is_open (drop 1 bs) ≡ true) ⊎ Block (drop 1 bs)) → Front (b ∷ bs)
block_front b bs w l e (inl none) = word_front b bs (rw (w, l, e, none) refl)
block_front b bs w l e (inr k) = record {
  part = BlockComment k.inner;
  rest = k.rest;
  same = ap (λ xs. slash ∷ star ∷ xs) (append_assoc k.inner (codes "*/") k.rest ∙ k.same) ∙ two-front slash star b bs e;
  is = k.none;
}

front_by : (b : ℕ) (bs : List ℕ) (w l c : Bool) → is_white b ≡ w → begins (codes "//") (b ∷ bs) ≡ l → begins (codes "/*") (b ∷ bs) ≡ c → Front (b ∷ bs)
front_by b bs true l c v e f = record { part = White b; rest = bs; same = refl; is = v }
front_by b bs false true c v e f =
    let line = line_of (drop 1 bs) in
    record {
      part = LineComment line.inner;
      rest = line.rest;
      same = ap (λ xs. slash ∷ slash ∷ xs) line.same ∙ two-front slash slash b bs e;
      is = (line.none, line.ends);
    }
front_by b bs false false true v e f = block_front b bs v e f (block_of (drop 1 bs))
front_by b bs false false false v e f = word_front b bs (rw (v, e, f) refl)

part-some : (part : Part) → 0 < length (part_bytes part)
part-some (White b) = omega arith
part-some (LineComment inner) = omega arith
part-some (BlockComment inner) = omega arith
part-some (Word b others) = omega arith

parts_of : (n : ℕ) (text : List ℕ) → length text ≤ n → (parts : List Part) × AreParts parts × (spelled parts ≡ text)
parts_of n [] h = ([], tt, refl)
parts_of zero (b ∷ bs) h = absurd (omega (arith, h))
parts_of (suc n) (b ∷ bs) h =
    let front : Front (b ∷ bs) = front_by b bs (is_white b) (begins (codes "//") (b ∷ bs)) (begins (codes "/*") (b ∷ bs)) refl refl refl in
    let less : length front.rest ≤ n = omega (arith, h, part-some front.part, length-append (part_bytes front.part) front.rest, ap length front.same) in
    let more = parts_of n front.rest less in (
      front.part ∷ more.0,
      (subst (IsPart front.part) (sym more.2) front.is, more.1),
      ap (λ xs. part_bytes front.part ++ xs) more.2 ∙ front.same,
    )

-- each text has parts
pub parted : (text : List ℕ) → (parts : List Part) × AreParts parts × (spelled parts ≡ text)
parted text = parts_of (length text) text (omega arith)
