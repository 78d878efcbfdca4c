-- Uses are answered in the order of their starts.
use Rattle.std.proofs.Common.{if◌then◌else◌, ◌≡◌, ◌+◌, ◌<◌, ◌&&◌, ℕ, Bool, true, false, Option, Some, None, IfSome, List, [], ◌∷◌, map, filter, length, refl, sym, ap, ap₂, ◌∙◌, subst, arith}
use Rattle.std.specs.Option.{option_map_or}
use Rattle.std.proofs.lemmas.Bool.{eq-eqb}
use Rattle.xif_signals.specs.declared.bus.Bus.{Bus}
use Rattle.xif_session.specs.Facts.{issue_key, is_issued}
use Rattle.xif_session.specs.Uses.{last_bus}
use Rattle.engine_history.specs.Lives.{Life, Answer, new_life, is_accepted, start_of, starts, with_start, change_if, at_start, answer_on, accepted_in, answered, changed, lives_of, lives_with, AnsweredBefore, IsInOrder, AnswersAreInOrder}
use Rattle.engine_history.proofs.Keep.{Rising, HeadWaits, KeepsAnswers, rising, rising_start, head_named, head_waits, head_start, older_same, behind_is}

record InOrder (cycle : ℕ) (ls : List Life) : Type 0 where
  before : AnsweredBefore cycle ls
  order : AnswersAreInOrder ls

-- ---- where answers stay

accepted_map : (f : Life → Life) → ((l : Life) → (f l).answer ≡ l.answer) → (ls : List Life) → accepted_in (map f ls) ≡ accepted_in ls
accepted_map f h [] = refl
accepted_map f h (l ∷ ls) =
    ap (λ a. length (if option_map_or (λ (a : Answer). a.response.accept) a false then f l ∷ filter is_accepted (map f ls) else filter is_accepted (map f ls))) (h l)
    ∙ go (is_accepted l) (accepted_map f h ls)
  where
    go : (t : Bool) → accepted_in (map f ls) ≡ accepted_in ls → length (if t then f l ∷ filter is_accepted (map f ls) else filter is_accepted (map f ls)) ≡ length (if t then l ∷ filter is_accepted ls else filter is_accepted ls)
    go true r = omega (arith, r)
    go false r = r

before_map : (f : Life → Life) → ((l : Life) → (f l).answer ≡ l.answer) → (cycle : ℕ) (ls : List Life) → AnsweredBefore cycle ls → AnsweredBefore cycle (map f ls)
before_map f h cycle [] b = tt
before_map f h cycle (l ∷ ls) b = (subst (λ o. IfSome o (λ a. a.cycle < cycle)) (sym (h l)) b.0, before_map f h cycle ls b.1)

order_map : (f : Life → Life) → ((l : Life) → (f l).answer ≡ l.answer) → (ls : List Life) → AnswersAreInOrder ls → AnswersAreInOrder (map f ls)
order_map f h [] o = tt
order_map f h (l ∷ ls) o = (subst (λ o. IfSome o (λ a. IsInOrder a (map f ls))) (sym (h l)) (go l.answer o.0), order_map f h ls o.1)
  where
    go : (a : Option Answer) → IfSome a (λ a. IsInOrder a ls) → IfSome a (λ a. IsInOrder a (map f ls))
    go None o = tt
    go (Some a) o = record { behind = before_map f h a.cycle ls o.behind; number_is = o.number_is ∙ sym (accepted_map f h ls) }

before_up : (cycle : ℕ) (ls : List Life) → AnsweredBefore cycle ls → AnsweredBefore (cycle + 1) ls
before_up cycle [] b = tt
before_up cycle (l ∷ ls) b = (go l.answer b.0, before_up cycle ls b.1)
  where
    go : (a : Option Answer) → IfSome a (λ a. a.cycle < cycle) → IfSome a (λ a. a.cycle < cycle + 1)
    go None b = tt
    go (Some a) b = omega (arith, b)

-- ---- a cycle

start_order : (cycle : ℕ) (last b : Bus) (ls : List Life) → InOrder cycle ls → InOrder cycle (with_start cycle last b ls)
start_order cycle last b ls o = go (starts last b ls)
  where
    go : (t : Bool) → InOrder cycle (if t then new_life (issue_key b) cycle b.issue_instr ∷ ls else ls)
    go true = record { before = (tt, o.before); order = (tt, o.order) }
    go false = o

-- a use that isn't answered isn't accepted
accepted_head : (l : Life) (older : List Life) → l.answer ≡ None → accepted_in (l ∷ older) ≡ accepted_in older
accepted_head l older n = ap (λ a. length (if option_map_or (λ (a : Answer). a.response.accept) a false then l ∷ filter is_accepted older else filter is_accepted older)) n

answer_order : (cycle bound : ℕ) (b : Bus) (ls : List Life) → Rising bound ls → (b.issue_valid ≡ true → HeadWaits (issue_key b) ls) → InOrder cycle ls → InOrder (cycle + 1) (answered cycle b ls)
answer_order cycle bound b ls r h o = go (is_issued b) refl ls r h o
  where
    f : ℕ → Life → Life
    f k l = record l { answer = Some (answer_on cycle k b) }

    valid : (v y : Bool) → (v && y) ≡ true → v ≡ true
    valid true y h = refl
    valid false y h = cc

    go : (t : Bool) → is_issued b ≡ t → (ls : List Life) → Rising bound ls → (b.issue_valid ≡ true → HeadWaits (issue_key b) ls) → InOrder cycle ls
        → InOrder (cycle + 1) (if t then at_start (start_of (issue_key b) ls) (f (accepted_in ls)) ls else ls)
    go true q [] r h o = absurd (h (valid b.issue_valid b.issue_ready q))
    go true q (l ∷ older) r h o =
        let w = h (valid b.issue_valid b.issue_ready q) in
        let k = accepted_in (l ∷ older) in
        subst (InOrder (cycle + 1))
        (sym (ap (λ o. at_start o (f k) (l ∷ older)) (head_start (issue_key b) l older w.0) ∙ ap₂ (λ t xs. change_if t (f k) l ∷ xs) (eq-eqb l.start l.start refl) (older_same l.start (f k) older r.1)))
        (record {
          before = (omega arith, before_up cycle older o.before.1);
          order = (record { behind = o.before.1; number_is = accepted_head l older w.1 }, o.order.1);
        })
    go false q ls r h o = record { before = before_up cycle ls o.before; order = o.order }

in_order : (session : List Bus) → InOrder (length session) (lives_of session)
in_order [] = record { before = tt; order = tt }
in_order (b ∷ session) =
    let n : length session + 1 ≡ length (b ∷ session) = omega arith in
    subst (λ k. InOrder k (lives_of (b ∷ session))) n
    (subst (InOrder (cycle + 1)) (sym k.changed.is)
    (after (done (in_order session))))
  where
    cycle : ℕ
    cycle = length session

    named : List Life
    named = lives_with session b

    x : List Life
    x = answered cycle b named

    k : KeepsAnswers x (changed cycle b named)
    k = behind_is cycle b x

    after : InOrder (cycle + 1) x → InOrder (cycle + 1) (map k.changed.change x)
    after o = record { before = before_map k.changed.change k.answer (cycle + 1) x o.before; order = order_map k.changed.change k.answer x o.order }

    done : InOrder cycle (lives_of session) → InOrder (cycle + 1) x
    done o =
        answer_order cycle (cycle + 1) b named (rising_start cycle (last_bus session) b (lives_of session) (rising session)) (head_named cycle (last_bus session) b (lives_of session) (head_waits session))
        (start_order cycle (last_bus session) b (lives_of session) o)

pub answers_in_order : (session : List Bus) → AnswersAreInOrder (lives_of session)
answers_in_order session = (in_order session).order
