-- What a piece of text says, from a state on, where it begins and ends between tokens.
use Rattle.std.proofs.Common.{◌≡◌, ◌+◌, ◌<◌, ◌≤◌, ℕ, Bool, true, false, not, ◌&&◌, List, [], ◌∷◌, ◌++◌, length, Option, Result, Ok, Err, refl, sym, ap, ◌∙◌, append_assoc, arith, subst}
use Rattle.std.specs.List.{fold, list_all}
use Rattle.std.specs.Option.{option_to_list}
use Rattle.std.proofs.lemmas.List.{append-nil}
use Rattle.std.proofs.lemmas.Bool.Decides.{nat_tests}
use Rattle.vcd_text.specs.declared.item.Item.{Item}
use Rattle.vcd_text.specs.declared.state.State.{State}
use Rattle.vcd_text.specs.declared.fault.VcdFault.{VcdFault}
use Rattle.vcd_text.specs.Words.{is_white}
use Rattle.vcd_text.specs.Tokens.{Token, rest, complete, token_before, ended}
use Rattle.vcd_text.specs.Grammar.{Step, step}
use Rattle.vcd_text.specs.Reading.{Read, declared_by, moved, go_from, go, from}
use Rattle.vcd_text.proofs.Texts.{fold-append, complete-append, rest-append}

-- these items were read, up to this state
abbrev pub said : State → List Item → Read
said s items = record { items = items; variables = declared_by s; state = Ok s }

pub record Says (at : ℕ) (s : State) (text : List ℕ) (t : State) (items : List Item) : Type 0 where
  pub whole : rest [] text ≡ []
  pub read : fold go (from s) (complete [] at text) ≡ said t items

-- ---- items that stand before

abbrev prepend : List Item → Read → Read
prepend front r = record { items = front ++ r.items; variables = r.variables; state = r.state }

frame_moved : (front : List Item) (r : Read) (x : Step) → moved (prepend front r) x ≡ prepend front (moved r x)
frame_moved front r (Ok x) = ap (λ (is : List Item). said x.0 is) (append_assoc front r.items (option_to_list x.1))
frame_moved front r (Err f) = refl

frame_step : (front : List Item) (r : Read) (state : Result State VcdFault) (t : Token) → go_from (prepend front r) state t ≡ prepend front (go_from r state t)
frame_step front r (Ok s) t = frame_moved front r (step s t)
frame_step front r (Err f) t = refl

frame : (front : List Item) (r : Read) (ts : List Token) → fold go (prepend front r) ts ≡ prepend front (fold go r ts)
frame front r [] = refl
frame front r (t ∷ ts) = ap (λ x. fold go x ts) (frame_step front r r.state t) ∙ frame front (go r t) ts

-- ---- one piece behind another

pub says-nothing : (at : ℕ) (s : State) → Says at s [] s []
says-nothing at s = record { whole = refl; read = refl }

pub says-then : (at : ℕ) (s m t : State) (xs ys : List ℕ) (is js : List Item) → Says at s xs m is → Says (at + length xs) m ys t js → Says at s (xs ++ ys) t (is ++ js)
says-then at s m t xs ys is js p q = record {
  whole = rest-append [] xs ys ∙ ap (λ r. rest r ys) p.whole ∙ q.whole;
  read =
      let ts = complete [] (at + length xs) ys in
      ap (fold go (from s)) (complete-append [] at xs ys ∙ ap (λ r. complete [] at xs ++ complete r (at + length xs) ys) p.whole)
      ∙ fold-append go (from s) (complete [] at xs) ts
      ∙ ap (λ r. fold go r ts) (p.read ∙ ap (said m) (sym (append-nil is)))
      ∙ frame is (from m) ts
      ∙ ap (prepend is) q.read;
}

pub says-to : (at : ℕ) (s t u : State) (text : List ℕ) (is : List Item) → t ≡ u → Says at s text t is → Says at s text u is
says-to at s t u text is e h = subst (λ v. Says at s text v is) e h

-- a text that ends between tokens has no more tokens than those that are complete
pub says-whole : (s t : State) (text : List ℕ) (is : List Item) → Says 0 s text t is → fold go (from s) (complete [] 0 (ended text)) ≡ said t is
says-whole s t text is h =
    let e : complete [] 0 (ended text) ≡ complete [] 0 text = complete-append [] 0 text (32 ∷ []) ∙ ap (λ r. complete [] 0 text ++ complete r (0 + length text) (32 ∷ [])) h.whole ∙ append-nil (complete [] 0 text) in
    ap (fold go (from s)) e ∙ h.read

-- ---- one word

pub record IsWord (w : List ℕ) : Type 0 where
  pub some : 0 < length w
  pub inked : list_all (λ b. not (is_white b)) w ≡ true

pub white_no : (n : ℕ) → 33 ≤ n → is_white n ≡ false
white_no n h = grind (arith, nat_tests)

pub word-cons : (b : ℕ) (w : List ℕ) → 33 ≤ b → IsWord w → IsWord (b ∷ w)
word-cons b w h k = record { some = omega arith; inked = rw (white_no b h) k.inked }

pub word-one : (b : ℕ) → 33 ≤ b → IsWord (b ∷ [])
word-one b h = record { some = omega arith; inked = rw (white_no b h) refl }

both : (x y : Bool) → (not x && y) ≡ true → (x ≡ false) × (y ≡ true)
both true y e = cc
both false y e = (refl, e)

complete-word : (run : List ℕ) (at : ℕ) (w : List ℕ) (b : ℕ) → list_all (λ b. not (is_white b)) w ≡ true → is_white b ≡ true → complete run at (w ++ b ∷ []) ≡ token_before (at + length w) (run ++ w)
complete-word run at [] b h e = rw e (append-nil (token_before at run) ∙ ap (λ n. token_before n run) (omega arith) ∙ ap (token_before (at + 0)) (sym (append-nil run)))
complete-word run at (c ∷ w) b h e =
    let k = both (is_white c) (list_all (λ b. not (is_white b)) w) h in
    rw k.0 (complete-word (run ++ c ∷ []) (at + 1) w b k.1 e ∙ ap (λ n. token_before n ((run ++ c ∷ []) ++ w)) (omega arith) ∙ ap (token_before (at + length (c ∷ w))) (append_assoc run (c ∷ []) w))

rest-word : (run w : List ℕ) (b : ℕ) → list_all (λ b. not (is_white b)) w ≡ true → is_white b ≡ true → rest run (w ++ b ∷ []) ≡ []
rest-word run [] b h e = rw e refl
rest-word run (c ∷ w) b h e =
    let k = both (is_white c) (list_all (λ b. not (is_white b)) w) h in
    rw k.0 (rest-word (run ++ c ∷ []) w b k.1 e)

token-is : (at : ℕ) (w : List ℕ) → 0 < length w → token_before (at + length w) w ≡ record { at = at; text = w } ∷ []
token-is at [] h = absurd (omega arith)
token-is at (b ∷ w) h = ap (λ (n : ℕ). record { at = n; text = b ∷ w } ∷ []) (omega arith)

pub says-word : (at : ℕ) (s t : State) (w : List ℕ) (b : ℕ) (item : Option Item) → IsWord w → is_white b ≡ true → step s (record { at = at; text = w }) ≡ Ok (t, item) → Says at s (w ++ b ∷ []) t (option_to_list item)
says-word at s t w b item h e g = record {
  whole = rest-word [] w b h.inked e;
  read = ap (fold go (from s)) (complete-word [] at w b h.inked e ∙ token-is at w h.some) ∙ ap (moved (from s)) g;
}
