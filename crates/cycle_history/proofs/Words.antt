-- A use is answered for the word with which it started.
use Rattle.std.proofs.Common.{◌≡◌, ◌&&◌, ◌==◌, not, if◌then◌else◌, ℕ, Bool, true, false, Option, Some, None, IfSome, List, [], ◌∷◌, map, length, refl, sym, ap, ◌∙◌, subst}
use Rattle.xif_signals.specs.declared.bus.Bus.{Bus}
use Rattle.xif_session.specs.Facts.{past_of, issue_key, is_issued, issue_waits, issue_continues}
use Rattle.xif_session.specs.Rules.{HoldsI1}
use Rattle.xif_session.specs.Uses.{last_bus}
use Rattle.cycle_lists.specs.Lists.{Each}
use Rattle.cycle_lists.proofs.Tests.{and-left}
use Rattle.engine_history.specs.Lives.{Life, Answer, new_life, start_of, starts, with_start, answer_on, accepted_in, lives_of, lives_with}
use Rattle.engine_history.proofs.Grown.{Old, Each2, Grown}
use Rattle.engine_history.proofs.Session.{starts_are}
use Rattle.cycle_history.proofs.Change.{one, grown, grown-word, grown-answer, with_answer}
use Rattle.cycle_history.proofs.Results.{grow, lives-after}

abbrev pub HasWord : Life → Type 0
HasWord l = IfSome l.answer (λ a. a.word ≡ l.word)

abbrev HeadWord : ℕ → List Life → Type 0
HeadWord word [] = ⊥
HeadWord word (l ∷ ls) = l.word ≡ word

pub record Words (session : List Bus) : Type 0 where
  pub words : Each HasWord (lives_of session)
  pub waits : issue_waits (last_bus session) ≡ true → HeadWord (last_bus session).issue_instr (lives_of session)

last-is : (session : List Bus) → (past_of session).last ≡ last_bus session
last-is [] = refl
last-is (b ∷ session) = refl

-- the use on the channel has the word that is offered
head-word : (session : List Bus) (b : Bus) → Words session → HoldsI1 (past_of session) b → b.issue_valid ≡ true → HeadWord b.issue_instr (lives_with session b)
head-word session b w i v = go (starts (last_bus session) b (lives_of session)) refl
  where
    on : (v c : Bool) → v ≡ true → (v && not c) ≡ false → c ≡ true
    on true true q h = refl
    on true false q h = cc
    on false c q h = cc

    go : (t : Bool) → starts (last_bus session) b (lives_of session) ≡ t → HeadWord b.issue_instr (if t then new_life (issue_key b) (length session) b.issue_instr ∷ lives_of session else lives_of session)
    go true q = refl
    go false q =
        let c = on b.issue_valid (issue_continues (past_of session) b) v (starts_are session b ∙ q) in
        let waits : issue_waits (last_bus session) ≡ true = ap issue_waits (sym (last-is session)) ∙ and-left (issue_waits (past_of session).last) _ c in
        subst (λ n. HeadWord n (lives_of session)) (ap (λ (l : Bus). l.issue_instr) (sym (last-is session)) ∙ sym (i c)) (w.waits waits)

olds-word : (cycle : ℕ) (f : Life → Life) (ls : List Life) → ((l : Life) → (f l).word ≡ l.word) → Each2 (Old cycle) ls (map f ls) → Each HasWord ls → Each HasWord (map f ls)
olds-word cycle f [] k g h = tt
olds-word cycle f (l ∷ ls) k g h = (subst (λ o. IfSome o (λ (a : Answer). a.word ≡ (f l).word)) (sym g.0.same) (subst (λ n. IfSome l.answer (λ (a : Answer). a.word ≡ n)) (sym (k l)) h.0), olds-word cycle f ls k g.1 h.1)

with-words : (session : List Bus) (b : Bus) → Each HasWord (lives_of session) → Each HasWord (lives_with session b)
with-words session b h = go (starts (last_bus session) b (lives_of session))
  where
    go : (t : Bool) → Each HasWord (if t then new_life (issue_key b) (length session) b.issue_instr ∷ lives_of session else lives_of session)
    go true = (tt, h)
    go false = h

-- the answer of a cycle has the word on the bus
answer-word : (cycle number : ℕ) (b : Bus) (o : Option ℕ) (l : Life) → HasWord l → (is_issued b ≡ true → l.word ≡ b.issue_instr) → IfSome (one (is_issued b) o (with_answer cycle number b) l).answer (λ (a : Answer). a.word ≡ l.word)
unfolding with_answer
answer-word cycle number b o l h w = go (is_issued b) o w
  where
    by : (t : Bool) → (b.issue_instr ≡ l.word) → IfSome (Rattle.engine_history.specs.Lives.change_if t (with_answer cycle number b) l).answer (λ (a : Answer). a.word ≡ l.word)
    by true q = q
    by false q = h

    go : (t : Bool) (o : Option ℕ) → (t ≡ true → l.word ≡ b.issue_instr) → IfSome (one t o (with_answer cycle number b) l).answer (λ (a : Answer). a.word ≡ l.word)
    go false o w = h
    go true None w = h
    go true (Some s) w = by (l.start == s) (sym (w refl))

words-after : (cycle : ℕ) (b : Bus) (us ls : List Life) → (b.issue_valid ≡ true → HeadWord b.issue_instr ls) → Grown cycle ls (map (grown cycle b us) ls) → Each HasWord ls → Each HasWord (map (grown cycle b us) ls)
words-after cycle b us [] v g h = tt
words-after cycle b us (l ∷ ls) v g h = (
  subst (λ o. IfSome o (λ (a : Answer). a.word ≡ (grown cycle b us l).word)) (sym (grown-answer cycle b us l))
      (subst (λ n. IfSome (one (is_issued b) (start_of (issue_key b) us) (with_answer cycle (accepted_in us) b) l).answer (λ (a : Answer). a.word ≡ n)) (sym (grown-word cycle b us l))
      (answer-word cycle (accepted_in us) b (start_of (issue_key b) us) l h.0 (λ i. v (and-left b.issue_valid b.issue_ready i)))),
  olds-word cycle (grown cycle b us) ls (grown-word cycle b us) g.1 h.1,
)

pub words-on : (session : List Bus) (b : Bus) → Words session → HoldsI1 (past_of session) b → Grown (length session) (lives_with session b) (map (grow session b) (lives_with session b)) → Words (b ∷ session)
words-on session b w i g = record {
  words = subst (Each HasWord) (sym (lives-after session b)) (words-after (length session) b (lives_with session b) (lives_with session b) (head-word session b w i) g (with-words session b w.words));
  waits = λ q. subst (HeadWord b.issue_instr) (sym (lives-after session b)) (head (lives_with session b) (head-word session b w i (and-left b.issue_valid (not b.issue_ready) q)));
}
  where
    head : (ls : List Life) → HeadWord b.issue_instr ls → HeadWord b.issue_instr (map (grow session b) ls)
    head [] h = h
    head (l ∷ ls) h = grown-word (length session) b (lives_with session b) l ∙ h

pub words-none : Words []
words-none = record { words = tt; waits = λ h. cc }
