-- A scanner that takes one byte more.
use Rattle.std.proofs.Common.{◌≡◌, ◌+◌, ℕ, Bool, true, false, cond, List, [], ◌∷◌, ◌++◌, length, refl, sym, ap, ◌∙◌, append_assoc, arith, Option, None, Some, not, ◌&&◌, true≢false, take, drop}
use Rattle.std.specs.List.{fold, list_all}
use Rattle.std.proofs.lemmas.List.{append-nil, length-append, take-append-drop, nil_from_length}
use Rattle.vcd_text.specs.declared.fault.VcdFault.{VcdFault}
use Rattle.vcd_text.specs.declared.item.Item.{Item}
use Rattle.vcd_text.specs.declared.scanner.Scanner.{Scanner}
use Rattle.vcd_text.specs.Words.{is_white, is_ink}
use Rattle.vcd_text.specs.Tokens.{Token, rest, complete, token_before}
use Rattle.vcd_text.specs.Reading.{Read, go, read_so_far}
use Rattle.vcd_text.specs.Scanner.{Represents, Steps, TakesTokens, outcome, read_by}
use Rattle.vcd_text.proofs.Texts.{fold-append, rest-append, read_so_far-append, faulty_front}

-- what one more byte completes
pub complete-push : (run : List ℕ) (at b : ℕ) (w : Bool) → is_white b ≡ w → complete run at (b ∷ []) ≡ cond w (token_before at run) []
complete-push run at b true e = rw e (append-nil (token_before at run))
complete-push run at b false e = rw e refl

pub rest-push : (run : List ℕ) (b : ℕ) (w : Bool) → is_white b ≡ w → rest run (b ∷ []) ≡ cond w [] (run ++ b ∷ [])
rest-push run b true e = rw e refl
rest-push run b false e = rw e refl

fold-cond : (r : Read) (w : Bool) (ts : List Token) → fold go r (cond w ts []) ≡ cond w (fold go r ts) r
fold-cond r true ts = refl
fold-cond r false ts = refl

pub read_so_far-push : (text : List ℕ) (b : ℕ) → read_so_far (text ++ b ∷ []) ≡ cond (is_white b) (fold go (read_so_far text) (token_before (length text) (rest [] text))) (read_so_far text)
read_so_far-push text b =
    read_so_far-append text (b ∷ [])
    ∙ ap (fold go (read_so_far text)) (complete-push (rest [] text) (length text) b (is_white b) refl)
    ∙ fold-cond (read_so_far text) (is_white b) (token_before (length text) (rest [] text))

-- where there is no fault there is none
pub none-left : (o : Option VcdFault) → ((f : VcdFault) → o ≡ Some f → ⊥) → o ≡ None
none-left None h = refl
none-left (Some f) h = absurd (h f refl)

pub follows-push : (old new : Scanner) (b : ℕ) (text : List ℕ) (taken : List Item) → old.fault ≡ None → Steps old new b → Represents old text taken → Represents new (text ++ b ∷ []) taken
follows-push old new b text taken none s h =
    let size : old.size ≡ length text = h.size none in
    let run : old.run.items ≡ rest [] text = h.run none in
    record {
      read =
          s.read taken
          ∙ ap (λ r. cond (is_white b) (fold go r (token_before old.size old.run.items)) r) h.read
          ∙ ap (λ n. cond (is_white b) (fold go (read_so_far text) (token_before n old.run.items)) (read_so_far text)) size
          ∙ ap (λ x. cond (is_white b) (fold go (read_so_far text) (token_before (length text) x)) (read_so_far text)) run
          ∙ sym (read_so_far-push text b);
      size = λ _. omega (arith, s.size, size, length-append text (b ∷ []));
      run = λ _. s.run ∙ ap (λ x. cond (is_white b) [] (x ++ b ∷ [])) run ∙ sym (rest-push (rest [] text) b (is_white b) refl) ∙ sym (rest-append [] text (b ∷ []));
    }

-- what a scanner says of the text so far
pub state-is : (s : Scanner) (text : List ℕ) (taken : List Item) (o : Option VcdFault) → s.fault ≡ o → Represents s text taken → (read_so_far text).state ≡ outcome s.state o
state-is s text taken o e h = sym (ap (λ (x : Read). x.state) h.read) ∙ ap (outcome s.state) e

-- behind a fault nothing changes
pub follows-faulty : (s : Scanner) (f : VcdFault) (text more : List ℕ) (taken : List Item) → s.fault ≡ Some f → Represents s text taken → Represents s (text ++ more) taken
follows-faulty s f text more taken e h =
    let none : Option VcdFault = None in
    record {
      read = h.read ∙ sym (faulty_front text more f (state-is s text taken (Some f) e h));
      size = λ no. let not : none ≡ Some f = sym no ∙ e in cc;
      run = λ no. let not : none ≡ Some f = sym no ∙ e in cc;
    }

-- ---- bytes that aren't white space

inked : (b : ℕ) (bs : List ℕ) → list_all is_ink (b ∷ bs) ≡ true → (is_white b ≡ false) × (list_all is_ink bs ≡ true)
inked b bs h = by (is_white b) refl
  where
    by : (w : Bool) → is_white b ≡ w → (is_white b ≡ false) × (list_all is_ink bs ≡ true)
    by true e = absurd (true≢false (sym h ∙ ap (λ w. not w && list_all is_ink bs) e))
    by false e = (e, sym (ap (λ w. not w && list_all is_ink bs) e) ∙ h)

pub complete-ink : (run : List ℕ) (at : ℕ) (word : List ℕ) → list_all is_ink word ≡ true → complete run at word ≡ []
complete-ink run at [] h = refl
complete-ink run at (b ∷ bs) h = let k = inked b bs h in rw k.0 (complete-ink (run ++ b ∷ []) (at + 1) bs k.1)

pub rest-ink : (run word : List ℕ) → list_all is_ink word ≡ true → rest run word ≡ run ++ word
rest-ink run [] h = sym (append-nil run)
rest-ink run (b ∷ bs) h = let k = inked b bs h in rw k.0 (rest-ink (run ++ b ∷ []) bs k.1 ∙ append_assoc run (b ∷ []) bs)

read_so_far-ink : (text word : List ℕ) → list_all is_ink word ≡ true → read_so_far (text ++ word) ≡ read_so_far text
read_so_far-ink text word h = read_so_far-append text word ∙ ap (fold go (read_so_far text)) (complete-ink (rest [] text) (length text) word h)

pub follows-word : (old new : Scanner) (text word : List ℕ) (taken : List Item) → old.fault ≡ None → list_all is_ink word ≡ true
    → new.size ≡ old.size + length word → new.run.items ≡ old.run.items ++ word → read_by new taken ≡ read_by old taken
    → Represents old text taken → Represents new (text ++ word) taken
follows-word old new text word taken none ink size run read h = record {
  read = read ∙ h.read ∙ sym (read_so_far-ink text word ink);
  size = λ _. omega (arith, size, h.size none, length-append text word);
  run = λ _. run ∙ ap (λ x. x ++ word) (h.run none) ∙ sym (rest-ink (rest [] text) word ink) ∙ sym (rest-append [] text word);
}

-- a token, white space, and some bytes that end in white space
pub follows-tokens : (old new : Scanner) (b : ℕ) (text token more : List ℕ) (taken : List Item) → old.fault ≡ None → old.run.items ≡ [] → list_all is_ink token ≡ true → is_white b ≡ true
    → TakesTokens old new token more → Represents old text taken → Represents new (text ++ token ++ b ∷ [] ++ more) taken
follows-tokens old new b text token more taken none empty ink white s h =
    let front = text ++ token ++ b ∷ [] in
    let size : old.size + length token ≡ length (text ++ token) = omega (arith, h.size none, length-append text token) in
    let run : token ≡ rest [] (text ++ token) =
    ap (λ x. x ++ token) (sym empty ∙ h.run none) ∙ sym (rest-ink (rest [] text) token ink) ∙ sym (rest-append [] text token) in
    let closed : rest [] front ≡ [] = rest-append [] (text ++ token) (b ∷ []) ∙ rest-push (rest [] (text ++ token)) b true white in
    let end : length front ≡ old.size + length token + 1 = omega (arith, size, length-append (text ++ token) (b ∷ [])) in
    let first : fold go (read_by old taken) (token_before (old.size + length token) token) ≡ read_so_far front =
    ap (λ r. fold go r (token_before (old.size + length token) token)) (h.read ∙ sym (read_so_far-ink text token ink))
    ∙ ap (λ n. fold go (read_so_far (text ++ token)) (token_before n token)) size
    ∙ ap (λ x. fold go (read_so_far (text ++ token)) (token_before (length (text ++ token)) x)) run
    ∙ sym (read_so_far-push (text ++ token) b ∙ ap (λ w. cond w (fold go (read_so_far (text ++ token)) (token_before (length (text ++ token)) (rest [] (text ++ token)))) (read_so_far (text ++ token))) white) in
    record {
      read =
          s.read taken
          ∙ fold-append go (read_by old taken) (token_before (old.size + length token) token) (complete [] (old.size + length token + 1) more)
          ∙ ap (λ r. fold go r (complete [] (old.size + length token + 1) more)) first
          ∙ ap (λ n. fold go (read_so_far front) (complete [] n more)) (sym end)
          ∙ ap (λ x. fold go (read_so_far front) (complete x (length front) more)) (sym closed)
          ∙ sym (read_so_far-append front more);
      size = λ _. omega (arith, s.size, size, length-append front more, length-append (text ++ token) (b ∷ []));
      run = λ _. s.run ∙ sym (rest-append [] front more ∙ ap (λ x. rest x more) closed ∙ s.whole);
    }

-- ---- a list in pieces

pub parts_again : (rest word more tail last : List ℕ) (n b k : ℕ) → word ≡ take n rest → more ≡ drop n rest → more ≡ b ∷ tail → last ≡ drop k tail
    → (text : List ℕ) → text ++ word ++ b ∷ [] ++ take k tail ++ last ≡ text ++ rest
parts_again rest word more tail last n b k w m e l text =
    append_assoc (text ++ word ++ b ∷ []) (take k tail) last ∙ ap (λ x. text ++ word ++ b ∷ [] ++ (take k tail ++ x)) l ∙ ap (λ x. text ++ word ++ b ∷ [] ++ x) (take-append-drop k tail)
    ∙ append_assoc (text ++ word) (b ∷ []) tail ∙ append_assoc text word (b ∷ tail)
    ∙ ap (λ x. text ++ (word ++ x)) (sym e ∙ m) ∙ ap (λ x. text ++ (x ++ drop n rest)) w ∙ ap (λ x. text ++ x) (take-append-drop n rest)

pub one_part : (rest word more : List ℕ) (n : ℕ) → word ≡ take n rest → more ≡ drop n rest → length more ≡ 0 → word ≡ rest
one_part rest word more n w m e =
    sym (append-nil word) ∙ ap (λ x. word ++ x) (sym (nil_from_length more e) ∙ m) ∙ ap (λ x. x ++ drop n rest) w ∙ take-append-drop n rest
