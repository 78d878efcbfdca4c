-- What holds of the history of every session: starts rise, and a use that waits for its answer is
-- the last that started.
use Rattle.std.proofs.Common.{if◌then◌else◌, ◌≡◌, ◌<◌, ◌+◌, ◌==◌, ◌&&◌, not, ℕ, Bool, true, false, Option, Some, None, List, [], ◌∷◌, map, length, refl, sym, ap, ap₂, ◌∙◌, subst, arith}
use Rattle.std.specs.Prelude.{is_none}
use Rattle.std.specs.Option.{option_map}
use Rattle.std.proofs.lemmas.Bool.{ne_eqb}
use Rattle.xif_base.specs.declared.params.Key.{Key}
use Rattle.xif_signals.specs.declared.bus.Bus.{Bus}
use Rattle.xif_session.specs.Facts.{same_key, issue_key, register_key, commit_key, result_key, is_issued, is_given, is_taken, issue_waits}
use Rattle.xif_session.specs.Uses.{last_bus}
use Rattle.xif_session.proofs.Options.{key_is, key_same, both-true}
use Rattle.engine_history.specs.Lives.{Life, new_life, latest, start_of, goes_on, starts, with_start, change_if, at_start, answer_on, accepted_in, answered, operands_on, given, is_in_group, decided_by, decided, finished, changed, lives_after, lives_of, lives_with}

-- ---- starts rise

abbrev pub Rising : ℕ → List Life → Type 0
Rising bound [] = Unit {0}
Rising bound (l ∷ older) = (l.start < bound) × Rising l.start older

pub rising_up : (a b : ℕ) (ls : List Life) → a < b + 1 → Rising a ls → Rising b ls
rising_up a b [] h r = tt
rising_up a b (l ∷ older) h r = (omega (arith, h, r.0), r.1)

-- a change that keeps starts
rising_map : (f : Life → Life) → ((l : Life) → (f l).start ≡ l.start) → (bound : ℕ) (ls : List Life) → Rising bound ls → Rising bound (map f ls)
rising_map f k bound [] r = tt
rising_map f k bound (l ∷ older) r =
    (subst (λ n. n < bound) (sym (k l)) r.0, subst (λ n. Rising n (map f older)) (sym (k l)) (rising_map f k l.start older r.1))

-- ---- a change of each use, that keeps what a use is

pub record Keeps (f : Life → Life) : Type 0 where
  pub key : (l : Life) → (f l).key ≡ l.key
  pub start : (l : Life) → (f l).start ≡ l.start
  pub word : (l : Life) → (f l).word ≡ l.word

-- a list is another one with such a change of each use
pub record IsChanged (ls now : List Life) : Type 0 where
  pub change : Life → Life
  pub keeps : Keeps change
  pub is : now ≡ map change ls

map_id : (ls : List Life) → ls ≡ map (λ l. l) ls
map_id [] = refl
map_id (l ∷ ls) = ap (λ xs. l ∷ xs) (map_id ls)

map_twice : (f g : Life → Life) (ls : List Life) → map g (map f ls) ≡ map (λ l. g (f l)) ls
map_twice f g [] = refl
map_twice f g (l ∷ ls) = ap (λ xs. g (f l) ∷ xs) (map_twice f g ls)

abbrev same : (ls : List Life) → IsChanged ls ls
same ls = record { change = λ l. l; keeps = record { key = λ l. refl; start = λ l. refl; word = λ l. refl }; is = map_id ls }

abbrev and_then : (ls now next : List Life) → IsChanged ls now → IsChanged now next → IsChanged ls next
and_then ls now next a b = record {
  change = λ l. b.change (a.change l);
  keeps = record {
    key = λ l. b.keeps.key (a.change l) ∙ a.keeps.key l;
    start = λ l. b.keeps.start (a.change l) ∙ a.keeps.start l;
    word = λ l. b.keeps.word (a.change l) ∙ a.keeps.word l;
  };
  is = b.is ∙ ap (map b.change) a.is ∙ map_twice a.change b.change ls;
}

change_keeps : (test : Life → Bool) (f : Life → Life) → Keeps f → Keeps (λ l. change_if (test l) f l)
change_keeps test f k = record {
  key = λ l. on_key (test l) l;
  start = λ l. on_start (test l) l;
  word = λ l. on_word (test l) l;
}
  where
    on_key : (t : Bool) (l : Life) → (change_if t f l).key ≡ l.key
    on_key true l = k.key l
    on_key false l = refl

    on_start : (t : Bool) (l : Life) → (change_if t f l).start ≡ l.start
    on_start true l = k.start l
    on_start false l = refl

    on_word : (t : Bool) (l : Life) → (change_if t f l).word ≡ l.word
    on_word true l = k.word l
    on_word false l = refl

abbrev by_test : (test : Life → Bool) (f : Life → Life) → Keeps f → (ls : List Life) → IsChanged ls (map (λ l. change_if (test l) f l) ls)
by_test test f k ls = record { change = λ l. change_if (test l) f l; keeps = change_keeps test f k; is = refl }

abbrev at : (o : Option ℕ) (f : Life → Life) → Keeps f → (ls : List Life) → IsChanged ls (at_start o f ls)
at None f k ls = same ls
at (Some s) f k ls = by_test (λ l. l.start == s) f k ls

-- ---- each step is one

pub answered_is : (cycle : ℕ) (b : Bus) (ls : List Life) → IsChanged ls (answered cycle b ls)
answered_is cycle b ls = go (is_issued b)
  where
    f : Life → Life
    f l = record l { answer = Some (answer_on cycle (accepted_in ls) b) }

    go : (t : Bool) → IsChanged ls (if t then at_start (start_of (issue_key b) ls) f ls else ls)
    go true = at (start_of (issue_key b) ls) f (record { key = λ l. refl; start = λ l. refl; word = λ l. refl }) ls
    go false = same ls

-- one that keeps answers too
pub record KeepsAnswers (ls now : List Life) : Type 0 where
  pub changed : IsChanged ls now
  pub answer : (l : Life) → (changed.change l).answer ≡ l.answer

pub given_is : (cycle : ℕ) (b : Bus) (ls : List Life) → KeepsAnswers ls (given cycle b ls)
given_is cycle b ls = go (is_given b) (start_of (register_key b) ls)
  where
    f : Life → Life
    f l = record l { operands = Some (operands_on cycle b) }

    on : (t : Bool) (l : Life) → (change_if t f l).answer ≡ l.answer
    on true l = refl
    on false l = refl

    go : (t : Bool) (o : Option ℕ) → KeepsAnswers ls (if t then at_start o f ls else ls)
    go true None = record { changed = same ls; answer = λ l. refl }
    go true (Some s) = record { changed = at (Some s) f (record { key = λ l. refl; start = λ l. refl; word = λ l. refl }) ls; answer = λ l. on (l.start == s) l }
    go false o = record { changed = same ls; answer = λ l. refl }

pub decided_is : (cycle : ℕ) (b : Bus) (ls : List Life) → KeepsAnswers ls (decided cycle b ls)
decided_is cycle b ls = go b.commit_valid (latest (commit_key b) ls)
  where
    f : Life → Life
    f l = record l { verdict = Some (record { cycle = cycle; kill = b.commit_kill }) }

    on : (t : Bool) (l : Life) → (change_if t f l).answer ≡ l.answer
    on true l = refl
    on false l = refl

    in_group : (named : Life) (t : Bool) → KeepsAnswers ls (if t then map (λ l. change_if (is_in_group b.commit_kill named l) f l) ls else ls)
    in_group named true = record { changed = by_test (is_in_group b.commit_kill named) f (record { key = λ l. refl; start = λ l. refl; word = λ l. refl }) ls; answer = λ l. on (is_in_group b.commit_kill named l) l }
    in_group named false = record { changed = same ls; answer = λ l. refl }

    go : (t : Bool) (o : Option Life) → KeepsAnswers ls (if t then decided_by cycle b.commit_kill o ls else ls)
    go true None = record { changed = same ls; answer = λ l. refl }
    go true (Some named) = in_group named (is_none named.verdict)
    go false o = record { changed = same ls; answer = λ l. refl }

pub finished_is : (cycle : ℕ) (b : Bus) (ls : List Life) → KeepsAnswers ls (finished cycle b ls)
finished_is cycle b ls = go (is_taken b) (start_of (result_key b) ls)
  where
    f : Life → Life
    f l = record l { finish = Some cycle }

    on : (t : Bool) (l : Life) → (change_if t f l).answer ≡ l.answer
    on true l = refl
    on false l = refl

    go : (t : Bool) (o : Option ℕ) → KeepsAnswers ls (if t then at_start o f ls else ls)
    go true None = record { changed = same ls; answer = λ l. refl }
    go true (Some s) = record { changed = at (Some s) f (record { key = λ l. refl; start = λ l. refl; word = λ l. refl }) ls; answer = λ l. on (l.start == s) l }
    go false o = record { changed = same ls; answer = λ l. refl }

-- behind the answer
pub behind_is : (cycle : ℕ) (b : Bus) (ls : List Life) → KeepsAnswers ls (finished cycle b (decided cycle b (given cycle b ls)))
behind_is cycle b ls =
    let x = given_is cycle b ls in
    let y = decided_is cycle b (given cycle b ls) in
    let z = finished_is cycle b (decided cycle b (given cycle b ls)) in
    record {
      changed = and_then ls (decided cycle b (given cycle b ls)) _ (and_then ls (given cycle b ls) _ x.changed y.changed) z.changed;
      answer = λ l. z.answer (y.changed.change (x.changed.change l)) ∙ y.answer (x.changed.change l) ∙ x.answer l;
    }

pub changed_is : (cycle : ℕ) (b : Bus) (ls : List Life) → IsChanged ls (changed cycle b ls)
changed_is cycle b ls = and_then ls (answered cycle b ls) _ (answered_is cycle b ls) (behind_is cycle b (answered cycle b ls)).changed

-- ---- so starts rise

pub rising_changed : (bound : ℕ) (ls now : List Life) → IsChanged ls now → Rising bound ls → Rising bound now
rising_changed bound ls now c r = subst (Rising bound) (sym c.is) (rising_map c.change c.keeps.start bound ls r)

pub rising_start : (cycle : ℕ) (last b : Bus) (ls : List Life) → Rising cycle ls → Rising (cycle + 1) (with_start cycle last b ls)
rising_start cycle last b ls r = go (starts last b ls)
  where
    go : (t : Bool) → Rising (cycle + 1) (if t then new_life (issue_key b) cycle b.issue_instr ∷ ls else ls)
    go true = (omega arith, r)
    go false = rising_up cycle (cycle + 1) ls (omega arith) r

pub rising : (session : List Bus) → Rising (length session) (lives_of session)
rising [] = tt
rising (b ∷ session) =
    let n : length session + 1 ≡ length (b ∷ session) = omega arith in
    subst (λ k. Rising k (lives_of (b ∷ session))) n
    (rising_changed (length session + 1) (lives_with session b) _ (changed_is (length session) b (lives_with session b))
    (rising_start (length session) (last_bus session) b (lives_of session) (rising session)))

-- ---- a use that waits for its answer is the last that started

abbrev pub HeadWaits : Key → List Life → Type 0
HeadWaits key [] = ⊥
HeadWaits key (l ∷ older) = (same_key l.key key ≡ true) × (l.answer ≡ None)

head_changed : (key : Key) (ls now : List Life) → KeepsAnswers ls now → HeadWaits key ls → HeadWaits key now
head_changed key ls now c h = subst (HeadWaits key) (sym c.changed.is) (go ls h)
  where
    go : (ls : List Life) → HeadWaits key ls → HeadWaits key (map c.changed.change ls)
    go [] h = h
    go (l ∷ older) h = (ap (λ k. same_key k key) (c.changed.keeps.key l) ∙ h.0, c.answer l ∙ h.1)

on_if : (v g : Bool) → v ≡ true → (v && not g) ≡ false → g ≡ true
on_if true true v h = refl
on_if true false v h = cc
on_if false g v h = cc

-- the use on the issue channel
pub head_named : (cycle : ℕ) (last b : Bus) (ls : List Life) → (issue_waits last ≡ true → HeadWaits (issue_key last) ls) → b.issue_valid ≡ true → HeadWaits (issue_key b) (with_start cycle last b ls)
head_named cycle last b ls w v = go (starts last b ls) refl
  where
    go : (t : Bool) → starts last b ls ≡ t → HeadWaits (issue_key b) (if t then new_life (issue_key b) cycle b.issue_instr ∷ ls else ls)
    go true q = (key_same (issue_key b) (issue_key b) refl, refl)
    go false q =
        let on = both-true (issue_waits last) _ (on_if b.issue_valid (goes_on last b ls) v q) in
        let keys = both-true b.issue_valid _ on.1 in
        let same = both-true (same_key (issue_key last) (issue_key b)) _ keys.1 in
        subst (λ k. HeadWaits k ls) (key_is (issue_key last) (issue_key b) same.0) (w on.0)

no_wait : (b : Bus) → issue_waits b ≡ true → (b.issue_valid ≡ true) × (is_issued b ≡ false)
no_wait b h = go b.issue_valid b.issue_ready h
  where
    go : (v r : Bool) → (v && not r) ≡ true → (v ≡ true) × ((v && r) ≡ false)
    go true true h = cc
    go true false h = (refl, refl)
    go false r h = cc

pub head_after : (cycle : ℕ) (last b : Bus) (ls : List Life) → (issue_waits last ≡ true → HeadWaits (issue_key last) ls) → issue_waits b ≡ true → HeadWaits (issue_key b) (lives_after cycle last b ls)
head_after cycle last b ls w h =
    let on = no_wait b h in
    let named = with_start cycle last b ls in
    let kept : answered cycle b named ≡ named = ap (λ t. if t then at_start (start_of (issue_key b) named) (λ l. record l { answer = Some (answer_on cycle (accepted_in named) b) }) named else named) on.1 in
    head_changed (issue_key b) (answered cycle b named) _ (behind_is cycle b (answered cycle b named)) (subst (HeadWaits (issue_key b)) (sym kept) (head_named cycle last b ls w on.0))

pub head_waits : (session : List Bus) → issue_waits (last_bus session) ≡ true → HeadWaits (issue_key (last_bus session)) (lives_of session)
head_waits [] h = absurd (cc)
head_waits (b ∷ session) h = head_after (length session) (last_bus session) b (lives_of session) (head_waits session) h

pub head_with : (session : List Bus) (b : Bus) → b.issue_valid ≡ true → HeadWaits (issue_key b) (lives_with session b)
head_with session b v = head_named (length session) (last_bus session) b (lives_of session) (head_waits session) v

-- ---- by its start the last use alone is changed

pub head_start : (key : Key) (l : Life) (older : List Life) → same_key l.key key ≡ true → start_of key (l ∷ older) ≡ Some l.start
head_start key l older k = ap (λ t. option_map (λ (x : Life). x.start) (if t then Some l else latest key older)) k

pub older_same : (bound : ℕ) (f : Life → Life) (ls : List Life) → Rising bound ls → map (λ l. change_if (l.start == bound) f l) ls ≡ ls
older_same bound f [] r = refl
older_same bound f (l ∷ older) r =
    ap₂ (λ x xs. x ∷ xs) (ap (λ t. change_if t f l) (ne_eqb l.start bound (λ q. below l.start bound q r.0)))
    (older_same bound f older (rising_up l.start bound older (let h = r.0 in omega arith) r.1))
  where
    below : (a b : ℕ) → a ≡ b → a < b → ⊥
    below a b q h = let z : b < b = subst (λ n. n < b) q h in omega arith

-- ---- what a key names is kept

pub latest_map : (f : Life → Life) → Keeps f → (key : Key) (ls : List Life) → latest key (map f ls) ≡ option_map f (latest key ls)
latest_map f k key [] = refl
latest_map f k key (l ∷ ls) = ap (λ x. if same_key x key then Some (f l) else latest key (map f ls)) (k.key l) ∙ go (same_key l.key key) (latest_map f k key ls)
  where
    go : (t : Bool) → latest key (map f ls) ≡ option_map f (latest key ls) → (if t then Some (f l) else latest key (map f ls)) ≡ option_map f (if t then Some l else latest key ls)
    go true r = refl
    go false r = r

pub start_changed : (ls now : List Life) → IsChanged ls now → (key : Key) → start_of key now ≡ start_of key ls
start_changed ls now c key = ap (start_of key) c.is ∙ ap (option_map (λ (l : Life). l.start)) (latest_map c.change c.keeps key ls) ∙ go (latest key ls)
  where
    go : (o : Option Life) → option_map (λ (l : Life). l.start) (option_map c.change o) ≡ option_map (λ (l : Life). l.start) o
    go None = refl
    go (Some l) = ap Some (c.keeps.start l)
