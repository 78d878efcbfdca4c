-- The words that the in-order machine comes to are those of the retired instructions.
use Rattle.std.proofs.Common.{◌≡◌, ◌++◌, if◌then◌else◌, ℕ, zero, suc, Bool, true, false, Option, Some, None, List, [], ◌∷◌, map, filter, length, reverse, refl, sym, ap, ◌∙◌}
use Rattle.std.specs.Prelude.{is_none}
use Rattle.std.specs.Option.{option_and_then}
use Rattle.rv32_table.specs.Instr.{decoded}
use Rattle.xif_image.specs.Region.{word_at}
use Rattle.inorder_machine.specs.declared.line.Retire.{Retire}
use Rattle.inorder_machine.specs.declared.line.Stepped.{Stepped}
use Rattle.inorder_machine.specs.declared.line.Stepped.TheVariants.{Retired, Stop}
use Rattle.inorder_machine.specs.Machine.{Extension, State, outcome_at, fetched_outcome}
use Rattle.inorder_machine.specs.After.{state_if_retired, next_state, after}
use Rattle.cycle_spec.specs.declared.entry.EntryKind.TheVariants.{Unknown}
use Rattle.cycle_lists.proofs.Filters.{filter-append}
use Rattle.ahead_spec.specs.Walk.{outcome}
use Rattle.ahead_spec.specs.Refines.{line_in, line_from, lines}
use Rattle.ahead_laws.proofs.Outcomes.{outcome-place}
use Rattle.cycle_history.specs.Words.{UnitWord, word_in, next_word, unit_words, words_in}
use Rattle.cycle_history.proofs.Flying.{map-appended, filter-reversed}

abbrev word_of : UnitWord → ℕ
word_of w = w.word

no-state : (s : State) → None ≡ Some s → ⊥
no-state s h = cc

words-appended : (xs ys : List Retire) → words_in (xs ++ ys) ≡ words_in xs ++ words_in ys
words-appended xs ys =
    ap (map (λ (l : Retire). l.word)) (filter-append (λ (l : Retire). is_none (decoded l.word)) xs ys)
    ∙ map-appended (λ (l : Retire). l.word) (filter (λ (l : Retire). is_none (decoded l.word)) xs) (filter (λ (l : Retire). is_none (decoded l.word)) ys)

-- the line of a word has the word
line-word : (x : Extension) (t : State) (w : ℕ) (l : Retire) → outcome_at x t (record { pc = t.pc; word = w }) ≡ Retired l → l.word ≡ w
unfolding outcome
line-word x t w l h = (outcome-place x t t.pc Unknown w l h).1

-- the next instruction, which retires
next-words : (x : Extension) (t now : State) → next_state x t ≡ Some now → map word_of (next_word (Some t)) ≡ words_in (line_from x (Some t))
next-words x t now h = go (word_at t.memory t.pc) h
  where
    own : (w : ℕ) (o : Stepped) → outcome_at x t (record { pc = t.pc; word = w }) ≡ o → state_if_retired x t o ≡ Some now → map word_of (word_in t (Some w)) ≡ words_in (line_in o)
    own w (Stop c) q k = absurd (no-state now k)
    own w (Retired l) q k = by (is_none (decoded w)) ∙ ap (λ v. if is_none (decoded v) then v ∷ [] else []) (sym (line-word x t w l q)) ∙ back (is_none (decoded l.word))
      where
        by : (b : Bool) → map word_of (if b then record { word = w; state = t } ∷ [] else []) ≡ (if b then w ∷ [] else [])
        by true = refl
        by false = refl

        back : (b : Bool) → (if b then l.word ∷ [] else []) ≡ map (λ (l : Retire). l.word) (if b then l ∷ [] else [])
        back true = refl
        back false = refl

    go : (o : Option ℕ) → state_if_retired x t (fetched_outcome x t o) ≡ Some now → map word_of (word_in t o) ≡ words_in (line_in (fetched_outcome x t o))
    go None k = absurd (no-state now k)
    go (Some w) k = own w (outcome_at x t (record { pc = t.pc; word = w })) refl k

words-are : (x : Extension) (n : ℕ) (s now : State) → after x n s ≡ Some now → map word_of (unit_words x n s) ≡ words_in (lines x n s)
words-are x zero s now h = refl
words-are x (suc n) s now h = go (after x n s) h (λ t k. words-are x n s t k) refl
  where
    go : (o : Option State) → option_and_then (next_state x) o ≡ Some now → ((t : State) → after x n s ≡ Some t → map word_of (unit_words x n s) ≡ words_in (lines x n s)) → after x n s ≡ o
        → map word_of (next_word o ++ unit_words x n s) ≡ words_in (line_from x o ++ lines x n s)
    go None k ih q = absurd (no-state now k)
    go (Some t) k ih q =
        map-appended word_of (next_word (Some t)) (unit_words x n s) ∙ ap (λ z. z ++ map word_of (unit_words x n s)) (next-words x t now k) ∙ ap (λ z. words_in (line_from x (Some t)) ++ z) (ih t q)
        ∙ sym (words-appended (line_from x (Some t)) (lines x n s))

map-turned : (xs : List Retire) → map (λ (l : Retire). l.word) (reverse xs) ≡ reverse (map (λ (l : Retire). l.word) xs)
map-turned [] = refl
map-turned (l ∷ xs) =
    ap (map (λ (l : Retire). l.word)) (Rattle.cycle_history.proofs.Flying.reverse-cons l xs) ∙ map-appended (λ (l : Retire). l.word) (reverse xs) (l ∷ []) ∙ ap (λ z. z ++ l.word ∷ []) (map-turned xs)
    ∙ sym (Rattle.cycle_history.proofs.Flying.reverse-cons l.word (map (λ (l : Retire). l.word) xs))

pub retired-words : (x : Extension) (s now : State) (retired : List Retire) → after x (length retired) s ≡ Some now → retired ≡ reverse (lines x (length retired) s) → words_in retired ≡ reverse (map (λ w. w.word) (unit_words x (length retired) s))
retired-words x s now retired h q =
    let n = length retired in
    ap words_in q ∙ ap (map (λ (l : Retire). l.word)) (filter-reversed (λ (l : Retire). is_none (decoded l.word)) (lines x n s))
    ∙ map-turned (filter (λ (l : Retire). is_none (decoded l.word)) (lines x n s)) ∙ ap reverse (sym (words-are x n s now h))
