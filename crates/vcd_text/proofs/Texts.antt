-- The tokens of a text in two pieces, and what they say.
use Rattle.std.proofs.Common.{◌≡◌, ◌+◌, ℕ, Bool, true, false, List, [], ◌∷◌, ◌++◌, length, refl, sym, ap, ◌∙◌, append_assoc, arith, Result, Err}
use Rattle.std.specs.List.{fold}
use Rattle.vcd_text.specs.declared.fault.VcdFault.{VcdFault}
use Rattle.vcd_text.specs.declared.state.State.{State}
use Rattle.vcd_text.specs.Words.{is_white}
use Rattle.vcd_text.specs.Tokens.{Token, token_before, complete, rest, ended}
use Rattle.vcd_text.specs.Reading.{Read, go, go_from, from, start, read_so_far, read_whole, reading_of, ends}

pub fold-append : {A B : Type 0} (f : B → A → B) (b : B) (xs ys : List A) → fold f b (xs ++ ys) ≡ fold f (fold f b xs) ys
fold-append f b [] ys = refl
fold-append f b (x ∷ xs) ys = fold-append f (f b x) xs ys

-- each by the two induction hypotheses and the value of the test
complete-append_by : (run : List ℕ) (at b : ℕ) (xs ys : List ℕ) (w : Bool) → is_white b ≡ w
    → (complete [] (at + 1) (xs ++ ys) ≡ complete [] (at + 1) xs ++ complete (rest [] xs) (at + 1 + length xs) ys)
    → (complete (run ++ b ∷ []) (at + 1) (xs ++ ys) ≡ complete (run ++ b ∷ []) (at + 1) xs ++ complete (rest (run ++ b ∷ []) xs) (at + 1 + length xs) ys)
    → complete run at (b ∷ (xs ++ ys)) ≡ complete run at (b ∷ xs) ++ complete (rest run (b ∷ xs)) (at + length (b ∷ xs)) ys
complete-append_by run at b xs ys true e h k =
    rw e (ap (λ ts. token_before at run ++ ts) (h ∙ ap (λ n. complete [] (at + 1) xs ++ complete (rest [] xs) n ys) (omega arith))
    ∙ sym (append_assoc (token_before at run) (complete [] (at + 1) xs) (complete (rest [] xs) (at + length (b ∷ xs)) ys)))
complete-append_by run at b xs ys false e h k =
    rw e (k ∙ ap (λ n. complete (run ++ b ∷ []) (at + 1) xs ++ complete (rest (run ++ b ∷ []) xs) n ys) (omega arith))

pub complete-append : (run : List ℕ) (at : ℕ) (xs ys : List ℕ) → complete run at (xs ++ ys) ≡ complete run at xs ++ complete (rest run xs) (at + length xs) ys
complete-append run at [] ys = ap (λ n. complete run n ys) (omega arith)
complete-append run at (b ∷ xs) ys = complete-append_by run at b xs ys (is_white b) refl (complete-append [] (at + 1) xs ys) (complete-append (run ++ b ∷ []) (at + 1) xs ys)

rest-append_by : (run : List ℕ) (b : ℕ) (xs ys : List ℕ) (w : Bool) → is_white b ≡ w
    → (rest [] (xs ++ ys) ≡ rest (rest [] xs) ys)
    → (rest (run ++ b ∷ []) (xs ++ ys) ≡ rest (rest (run ++ b ∷ []) xs) ys)
    → rest run (b ∷ (xs ++ ys)) ≡ rest (rest run (b ∷ xs)) ys
rest-append_by run b xs ys true e h k = rw e h
rest-append_by run b xs ys false e h k = rw e k

pub rest-append : (run xs ys : List ℕ) → rest run (xs ++ ys) ≡ rest (rest run xs) ys
rest-append run [] ys = refl
rest-append run (b ∷ xs) ys = rest-append_by run b xs ys (is_white b) refl (rest-append [] xs ys) (rest-append (run ++ b ∷ []) xs ys)

-- what a text in two pieces says
pub read_so_far-append : (xs ys : List ℕ) → read_so_far (xs ++ ys) ≡ fold go (read_so_far xs) (complete (rest [] xs) (length xs) ys)
read_so_far-append xs ys =
    ap (fold go (from start)) (complete-append [] 0 xs ys ∙ ap (λ n. complete [] 0 xs ++ complete (rest [] xs) n ys) (omega arith))
    ∙ fold-append go (from start) (complete [] 0 xs) (complete (rest [] xs) (length xs) ys)

-- a fault stays, and so do the items before it
pub stuck : (r : Read) (f : VcdFault) (ts : List Token) → r.state ≡ Err f → fold go r ts ≡ r
stuck r f [] e = refl
stuck r f (t ∷ ts) e = ap (λ (s : Result State VcdFault). fold go (go_from r s t) ts) e ∙ stuck r f ts e

pub faulty_front : (text more : List ℕ) (f : VcdFault) → (read_so_far text).state ≡ Err f → read_so_far (text ++ more) ≡ read_so_far text
faulty_front text more f e = read_so_far-append text more ∙ stuck (read_so_far text) f (complete (rest [] text) (length text) more) e

-- no text that begins so is read: the fault of its front is its fault
pub fault_of_front : (text more : List ℕ) (f : VcdFault) → (read_so_far text).state ≡ Err f → reading_of (text ++ more) ≡ Err f
fault_of_front text more f e =
    let whole : read_whole (text ++ more) ≡ read_so_far text = ap read_so_far (append_assoc text more (32 ∷ [])) ∙ faulty_front text (ended more) f e in
    ap (λ (r : Read). ends r.items r.state (length (text ++ more))) whole ∙ ap (λ s. ends (read_so_far text).items s (length (text ++ more))) e
