-- The text of a log tells what is printed of each cycle.
use Rattle.std.proofs.Common.{◌≡◌, ◌<◌, ◌≤◌, ◌+◌, ◌^◌, ◌++◌, ℕ, suc, List, [], ◌∷◌, length, map, All, refl, sym, ap, ◌∙◌, arith}
use Rattle.std.specs.List.{flat_map}
use Rattle.std.proofs.lemmas.Grind.{flat_map-append}
use Rattle.cycle_spec.specs.declared.log.CycleLog.{CycleLog}
use Rattle.run_log.specs.declared.line.Line.{Line}
use Rattle.run_log.specs.Log.{line_text, lines_text, lines_of, text_from, text_of}
use Rattle.run_log.specs.Told.{IsLog, told_of}
use Rattle.run_log.proofs.Lines.{IsLine, line_some, lines_apart}
use Rattle.run_log.proofs.Numbered.{AreUpTo, AreAbove, above-append, parts_apart}
use Rattle.run_log.proofs.Parts.{AreLines, lines-are, log-told}

-- ---- the lines of all cycles, each with the number of its cycle

abbrev Numbered : Type 0
Numbered = ℕ × Line

abbrev with_number : ℕ → Line → Numbered
with_number c l = (c, l)

abbrev numbered : ℕ → List Line → List Numbered
numbered c ls = map (with_number c) ls

abbrev all_lines : ℕ → List CycleLog → List Numbered
all_lines c [] = []
all_lines c (log ∷ logs) = numbered c (lines_of log) ++ all_lines (c + 1) logs

abbrev numbered_text : Numbered → List ℕ
numbered_text l = line_text l.0 l.1

cycle-numbered : (c : ℕ) (ls : List Line) → lines_text c ls ≡ flat_map numbered_text (numbered c ls)
cycle-numbered c [] = refl
cycle-numbered c (l ∷ ls) = ap (λ t. line_text c l ++ t) (cycle-numbered c ls)

text-numbered : (c : ℕ) (logs : List CycleLog) → text_from c logs ≡ flat_map numbered_text (all_lines c logs)
text-numbered c [] = refl
text-numbered c (log ∷ logs) =
    ap (λ t. t ++ text_from (c + 1) logs) (cycle-numbered c (lines_of log))
    ∙ ap (λ t. flat_map numbered_text (numbered c (lines_of log)) ++ t) (text-numbered (c + 1) logs)
    ∙ sym (flat_map-append numbered_text (numbered c (lines_of log)) (all_lines (c + 1) logs))

-- ---- the text tells the lines

abbrev AreNumbered : List Numbered → Type 0
AreNumbered [] = Unit {0}
AreNumbered (l ∷ ls) = ((l.0 < 2 ^ 64) × IsLine l.1) × AreNumbered ls

numbered-append : (ls ms : List Numbered) → AreNumbered ls → AreNumbered ms → AreNumbered (ls ++ ms)
numbered-append [] ms i j = j
numbered-append (l ∷ ls) ms i j = (i.0, numbered-append ls ms i.1 j)

numbered-are : (c : ℕ) (ls : List Line) → c < 2 ^ 64 → AreLines ls → AreNumbered (numbered c ls)
numbered-are c [] h i = tt
numbered-are c (l ∷ ls) h i = ((h, i.0), numbered-are c ls h i.1)

abbrev AreLogs : List CycleLog → Type 0
AreLogs [] = Unit {0}
AreLogs (log ∷ logs) = IsLog log × AreLogs logs

all-are : (c : ℕ) (logs : List CycleLog) → c + length logs ≤ 2 ^ 64 → AreLogs logs → AreNumbered (all_lines c logs)
all-are c [] h i = tt
all-are c (log ∷ logs) h i =
    numbered-append (numbered c (lines_of log)) (all_lines (c + 1) logs)
    (numbered-are c (lines_of log) (omega (arith, h)) (lines-are log i.0))
    (all-are (c + 1) logs (omega (arith, h)) i.1)

pair_same : (c d : ℕ) (l m : Line) (ls ms : List Numbered) → c ≡ d → l ≡ m → ls ≡ ms → with_number c l ∷ ls ≡ with_number d m ∷ ms
pair_same c d l m ls ms e f g = cc

texts_apart : (ls ms : List Numbered) → AreNumbered ls → AreNumbered ms → flat_map numbered_text ls ≡ flat_map numbered_text ms → ls ≡ ms
texts_apart [] [] i j e = refl
texts_apart [] (m ∷ ms) i j e = absurd (line_some m.0 m.1 (flat_map numbered_text ms) e)
texts_apart (l ∷ ls) [] i j e = absurd (line_some l.0 l.1 (flat_map numbered_text ls) (sym e))
texts_apart (l ∷ ls) (m ∷ ms) i j e =
    let first = lines_apart l.0 m.0 l.1 m.1 (flat_map numbered_text ls) (flat_map numbered_text ms) i.0.0 j.0.0 i.0.1 j.0.1 e in
    pair_same l.0 m.0 l.1 m.1 ls ms first.0 first.1.0 (texts_apart ls ms i.1 j.1 first.1.1)

-- ---- the lines tell the cycles

abbrev number_of : Numbered → ℕ
number_of l = l.0

numbered-up_to : (c : ℕ) (ls : List Line) → AreUpTo number_of c (numbered c ls)
numbered-up_to c [] = tt
numbered-up_to c (l ∷ ls) = (omega arith, numbered-up_to c ls)

numbered-above : (k c : ℕ) (ls : List Line) → k < c → AreAbove number_of k (numbered c ls)
numbered-above k c [] h = tt
numbered-above k c (l ∷ ls) h = (h, numbered-above k c ls h)

all-above : (k c : ℕ) (logs : List CycleLog) → k < c → AreAbove number_of k (all_lines c logs)
all-above k c [] h = tt
all-above k c (log ∷ logs) h =
    above-append number_of k (numbered c (lines_of log)) (all_lines (c + 1) logs) (numbered-above k c (lines_of log) h) (all-above k (c + 1) logs (omega (arith, h)))

without_number : (c : ℕ) (ls : List Line) → map (λ l. l.1) (numbered c ls) ≡ ls
without_number c [] = refl
without_number c (l ∷ ls) = ap (λ t. l ∷ t) (without_number c ls)

told_cons : (a b : CycleLog) (xs ys : List CycleLog) → told_of a ≡ told_of b → map told_of xs ≡ map told_of ys → map told_of (a ∷ xs) ≡ map told_of (b ∷ ys)
told_cons a b xs ys e f = cc

cycles-told : (c : ℕ) (xs ys : List CycleLog) → length xs ≡ length ys → AreLogs xs → AreLogs ys → all_lines c xs ≡ all_lines c ys → map told_of xs ≡ map told_of ys
cycles-told c [] [] n i j e = refl
cycles-told c [] (b ∷ ys) n i j e = absurd (omega (arith, n))
cycles-told c (a ∷ xs) [] n i j e = absurd (omega (arith, n))
cycles-told c (a ∷ xs) (b ∷ ys) n i j e =
    let parts = parts_apart number_of c (numbered c (lines_of a)) (numbered c (lines_of b)) (all_lines (c + 1) xs) (all_lines (c + 1) ys)
    (numbered-up_to c (lines_of a)) (numbered-up_to c (lines_of b)) (all-above c (c + 1) xs (omega arith)) (all-above c (c + 1) ys (omega arith)) e in
    let lines : lines_of a ≡ lines_of b = sym (without_number c (lines_of a)) ∙ ap (map (λ l. l.1)) parts.0 ∙ without_number c (lines_of b) in
    told_cons a b xs ys (log-told a b i.0 j.0 lines) (cycles-told (c + 1) xs ys (omega (arith, n)) i.1 j.1 parts.1)

-- ---- the law

logs-are : (logs : List CycleLog) → All IsLog logs → AreLogs logs
logs-are [] h = tt
logs-are (log ∷ logs) h = (h 0 log (omega arith), logs-are logs (λ k d less. h (suc k) d (omega (arith, less))))

pub text-told : (one other : List CycleLog) → length one ≡ length other → length one < 2 ^ 64 → All IsLog one → All IsLog other → text_of one ≡ text_of other
    → map told_of one ≡ map told_of other
text-told one other same short i j e =
    let is = logs-are one i in
    let js = logs-are other j in
    let lines : all_lines 0 one ≡ all_lines 0 other =
    texts_apart (all_lines 0 one) (all_lines 0 other) (all-are 0 one (omega (arith, short)) is) (all-are 0 other (omega (arith, short, same)) js)
    (sym (text-numbered 0 one) ∙ e ∙ text-numbered 0 other) in
    cycles-told 0 one other same is js lines
