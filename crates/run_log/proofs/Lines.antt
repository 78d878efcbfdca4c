-- A line is read back from its words.
use Rattle.std.proofs.Common.{◌≡◌, ◌<◌, ◌++◌, ◌^◌, ◌==◌, ℕ, List, [], ◌∷◌, Option, Some, None, if◌then◌else◌, get_or, drop, refl, sym, ap, ◌∙◌, append_assoc, arith}
use Rattle.std.specs.Fmt.{decimal}
use Rattle.std.specs.Str.Parse.{digits_value}
use Rattle.inorder_machine.specs.declared.stop.StopCause.{StopCause}
use Rattle.inorder_machine.specs.declared.stop.StopCause.TheVariants.{Ecall, Ebreak, Illegal, FetchOutside, LoadOutside, StoreOutside, TargetMisaligned}
use Rattle.run_log.specs.declared.line.Line.{Line}
use Rattle.run_log.specs.declared.line.Line.TheVariants as line
use Rattle.run_log.specs.Words.{hex_word, cause_word}
use Rattle.run_log.specs.Log.{word_words, line_text}
use Rattle.run_log.specs.Told.{IsWord, IsByte, IsIn}
use Rattle.run_log.proofs.Numerals.{IsInner, inner-append, inner-decimal, value-decimal, hex_value, inner-hex_word, value-hex_word}
use Rattle.run_log.proofs.Sentences.{behind, AreInner, outside-behind, word_apart, behind_apart}
use lib.Chars.{codes}

-- the numbers of a line are of their types
abbrev pub IsLine : Line → Type 0
IsLine (line.Retire pc word) = IsWord pc × IsWord word
IsLine (line.Write register value) = (register < 2 ^ 16) × IsWord value
IsLine (line.Store address width value) = IsWord address × (IsByte width × IsWord value)
IsLine (line.Cut keep target) = IsByte keep × IsWord target
IsLine (line.Dispatch pc word) = IsWord pc × IsIn IsWord word
IsLine (line.Drain keep) = IsByte keep
IsLine (line.Stop cause pc) = IsWord pc

-- the words of a line behind the number of its cycle
abbrev words_of : Line → List (List ℕ)
words_of (line.Retire pc word) = codes "retire" ∷ hex_word pc ∷ hex_word word ∷ []
words_of (line.Write register value) = codes "write" ∷ (codes "x" ++ decimal register) ∷ hex_word value ∷ []
words_of (line.Store address width value) = codes "store" ∷ hex_word address ∷ decimal width ∷ hex_word value ∷ []
words_of (line.Cut keep target) = codes "cut" ∷ decimal keep ∷ hex_word target ∷ []
words_of (line.Dispatch pc word) = codes "dispatch" ∷ hex_word pc ∷ word_words word ∷ []
words_of (line.Drain keep) = codes "drain" ∷ decimal keep ∷ []
words_of (line.Stop cause pc) = codes "stop" ∷ cause_word cause ∷ hex_word pc ∷ []

-- ---- the words of a line have no spaces

inner-cause : (cause : StopCause) → IsInner (cause_word cause)
inner-cause Ecall = search arith
inner-cause Ebreak = search arith
inner-cause Illegal = search arith
inner-cause FetchOutside = search arith
inner-cause LoadOutside = search arith
inner-cause StoreOutside = search arith
inner-cause TargetMisaligned = search arith

inner-word : (word : Option ℕ) → IsIn IsWord word → IsInner (word_words word)
inner-word None h = search arith
inner-word (Some word) h = inner-hex_word word h

inner-words : (l : Line) → IsLine l → AreInner (words_of l)
inner-words (line.Retire pc word) h = (search arith, (inner-hex_word pc h.0, (inner-hex_word word h.1, tt)))
inner-words (line.Write register value) h =
    (search arith, (inner-append (codes "x") (decimal register) (search arith) (inner-decimal register (omega (arith, h.0))), (inner-hex_word value h.1, tt)))
inner-words (line.Store address width value) h =
    (search arith, (inner-hex_word address h.0, (inner-decimal width (omega (arith, h.1.0)), (inner-hex_word value h.1.1, tt))))
inner-words (line.Cut keep target) h = (search arith, (inner-decimal keep (omega (arith, h.0)), (inner-hex_word target h.1, tt)))
inner-words (line.Dispatch pc word) h = (search arith, (inner-hex_word pc h.0, (inner-word word h.1, tt)))
inner-words (line.Drain keep) h = (search arith, (inner-decimal keep (omega (arith, h)), tt))
inner-words (line.Stop cause pc) h = (search arith, (inner-cause cause, (inner-hex_word pc h, tt)))

-- ---- a line is its words

-- a line of one, two or three words behind its kind
one : (c k a : List ℕ) → c ++ 32 ∷ [] ++ (k ++ a) ++ 10 ∷ [] ≡ c ++ (32 ∷ (k ++ (a ++ 10 ∷ [])))
one c k a = search append_assoc

two : (c k a b : List ℕ) → c ++ 32 ∷ [] ++ (k ++ a ++ 32 ∷ [] ++ b) ++ 10 ∷ [] ≡ c ++ (32 ∷ (k ++ (a ++ (32 ∷ (b ++ 10 ∷ [])))))
two c k a b = search append_assoc

three : (c k a b d : List ℕ) → c ++ 32 ∷ [] ++ (k ++ a ++ 32 ∷ [] ++ b ++ 32 ∷ [] ++ d) ++ 10 ∷ [] ≡ c ++ (32 ∷ (k ++ (a ++ (32 ∷ (b ++ (32 ∷ (d ++ 10 ∷ [])))))))
three c k a b d = search append_assoc

pub line-words : (cycle : ℕ) (l : Line) → line_text cycle l ≡ decimal cycle ++ behind (words_of l)
line-words cycle (line.Retire pc word) = two (decimal cycle) (codes "retire ") (hex_word pc) (hex_word word)
line-words cycle (line.Write register value) = two (decimal cycle) (codes "write x") (decimal register) (hex_word value)
line-words cycle (line.Store address width value) = three (decimal cycle) (codes "store ") (hex_word address) (decimal width) (hex_word value)
line-words cycle (line.Cut keep target) = two (decimal cycle) (codes "cut ") (decimal keep) (hex_word target)
line-words cycle (line.Dispatch pc word) = two (decimal cycle) (codes "dispatch ") (hex_word pc) (word_words word)
line-words cycle (line.Drain keep) = one (decimal cycle) (codes "drain ") (decimal keep)
line-words cycle (line.Stop cause pc) = two (decimal cycle) (codes "stop ") (cause_word cause) (hex_word pc)

-- ---- reading

abbrev byte_at : List ℕ → ℕ → ℕ
byte_at w i = get_or w i 0

abbrev number : List ℕ → ℕ
number w = digits_value 10 w

abbrev cause_by : List ℕ → StopCause
cause_by w =
    if byte_at w 0 == 101 then (if byte_at w 1 == 99 then Ecall else Ebreak) else
    if byte_at w 0 == 105 then Illegal else
    if byte_at w 0 == 102 then FetchOutside else
    if byte_at w 0 == 108 then LoadOutside else
    if byte_at w 0 == 115 then StoreOutside else TargetMisaligned

cause-read : (cause : StopCause) → cause_by (cause_word cause) ≡ cause
cause-read Ecall = refl
cause-read Ebreak = refl
cause-read Illegal = refl
cause-read FetchOutside = refl
cause-read LoadOutside = refl
cause-read StoreOutside = refl
cause-read TargetMisaligned = refl

abbrev word_by : List ℕ → Option ℕ
word_by w = if byte_at w 0 == 110 then None else Some (hex_value w)

word-read : (word : Option ℕ) → IsIn IsWord word → word_by (word_words word) ≡ word
word-read None h = refl
word-read (Some word) h = ap Some (value-hex_word word h)

abbrev line_by_bytes : (first second fourth : ℕ) (a b c : List ℕ) → Line
line_by_bytes first second fourth a b c =
    if first == 114 then line.Retire (hex_value a) (hex_value b) else
    if first == 119 then line.Write (number (drop 1 a)) (hex_value b) else
    if first == 99 then line.Cut (number a) (hex_value b) else
    if first == 100 then (if second == 105 then line.Dispatch (hex_value a) (word_by b) else line.Drain (number a)) else
    if fourth == 114 then line.Store (hex_value a) (number b) (hex_value c) else
    line.Stop (cause_by a) (hex_value b)

abbrev line_by : List (List ℕ) → Line
line_by ws =
    let kind : List ℕ = get_or ws 0 [] in
    line_by_bytes (byte_at kind 0) (byte_at kind 1) (byte_at kind 3) (get_or ws 1 []) (get_or ws 2 []) (get_or ws 3 [])

line-read : (l : Line) → IsLine l → line_by (words_of l) ≡ l
line-read (line.Retire pc word) h =
    ap (λ n. line.Retire n (hex_value (hex_word word))) (value-hex_word pc h.0) ∙ ap (line.Retire pc) (value-hex_word word h.1)
line-read (line.Write register value) h =
    ap (λ n. line.Write n (hex_value (hex_word value))) (value-decimal register (omega (arith, h.0))) ∙ ap (line.Write register) (value-hex_word value h.1)
line-read (line.Store address width value) h =
    ap (λ n. line.Store n (number (decimal width)) (hex_value (hex_word value))) (value-hex_word address h.0)
    ∙ ap (λ n. line.Store address n (hex_value (hex_word value))) (value-decimal width (omega (arith, h.1.0)))
    ∙ ap (line.Store address width) (value-hex_word value h.1.1)
line-read (line.Cut keep target) h =
    ap (λ n. line.Cut n (hex_value (hex_word target))) (value-decimal keep (omega (arith, h.0))) ∙ ap (line.Cut keep) (value-hex_word target h.1)
line-read (line.Dispatch pc word) h =
    ap (λ n. line.Dispatch n (word_by (word_words word))) (value-hex_word pc h.0) ∙ ap (line.Dispatch pc) (word-read word h.1)
line-read (line.Drain keep) h = ap line.Drain (value-decimal keep (omega (arith, h)))
line-read (line.Stop cause pc) h =
    ap (λ x. line.Stop x (hex_value (hex_word pc))) (cause-read cause) ∙ ap (line.Stop cause) (value-hex_word pc h)

-- ---- texts

-- the text of a line is not empty
pub line_some : (cycle : ℕ) (l : Line) (s : List ℕ) → [] ≡ line_text cycle l ++ s → ⊥
line_some cycle l s e = go (decimal cycle) (words_of l) (e ∙ ap (λ t. t ++ s) (line-words cycle l))
  where
    go : (a : List ℕ) (ws : List (List ℕ)) → [] ≡ (a ++ behind ws) ++ s → ⊥
    go [] [] e = cc
    go [] (w ∷ ws) e = cc
    go (x ∷ a) ws e = cc

-- two texts that begin with lines begin with the same line
pub lines_apart : (c d : ℕ) (l m : Line) (s t : List ℕ) → c < 2 ^ 64 → d < 2 ^ 64 → IsLine l → IsLine m → line_text c l ++ s ≡ line_text d m ++ t → (c ≡ d) × ((l ≡ m) × (s ≡ t))
lines_apart c d l m s t small-c small-d is-l is-m e =
    let flat : decimal c ++ (behind (words_of l) ++ s) ≡ decimal d ++ (behind (words_of m) ++ t) =
    sym (append_assoc (decimal c) (behind (words_of l)) s)
    ∙ ap (λ x. x ++ s) (sym (line-words c l))
    ∙ e
    ∙ ap (λ x. x ++ t) (line-words d m)
    ∙ append_assoc (decimal d) (behind (words_of m)) t in
    let first = word_apart (decimal c) (decimal d) (behind (words_of l) ++ s) (behind (words_of m) ++ t) (inner-decimal c small-c) (inner-decimal d small-d)
    (outside-behind (words_of l) s) (outside-behind (words_of m) t) flat in
    let rest = behind_apart (words_of l) (words_of m) s t (inner-words l is-l) (inner-words m is-m) first.1 in (
      sym (value-decimal c small-c) ∙ ap number first.0 ∙ value-decimal d small-d,
      (sym (line-read l is-l) ∙ ap line_by rest.0 ∙ line-read m is-m, rest.1),
    )
