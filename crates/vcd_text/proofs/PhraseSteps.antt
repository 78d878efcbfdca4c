-- What the tokens of a phrase do to the state of a reader.
use Rattle.std.proofs.Common.{◌≡◌, ◌⊎◌, ℕ, ◌-◌, ◌==◌, ◌&&◌, ◌||◌, Bool, true, false, not, cond, nat_le, nat_lt, List, [], ◌∷◌, ◌++◌, map, length, take, Option, Some, None, Result, Ok, Err, inl, inr, refl, sym, ap, ◌∙◌, subst}
use Rattle.std.specs.Prelude.{unwrap_or, codes}
use Rattle.std.specs.List.{fold}
use Rattle.std.specs.Option.{option_map}
use Rattle.std.specs.Str.{bytes_eq, is_utf8}
use Rattle.std.proofs.lemmas.Bool.{eqb-true}
use Rattle.std.proofs.lemmas.List.{append-nil}
use Rattle.std.proofs.lemmas.Slice.Eq.{bytes_eq-Decides}
use Rattle.xif_base.specs.Checks.{first_failing}
use Rattle.vcd_text.specs.declared.digit.Digit.{Digit}
use Rattle.vcd_text.specs.declared.fault.VcdCause.{VcdCause}
use Rattle.vcd_text.specs.declared.fault.VcdCause.TheVariants.{BadToken, BadVar, SizeDiffers, UnknownCode, TooWide, TimeBack}
use Rattle.vcd_text.specs.declared.item.Item.{Item}
use Rattle.vcd_text.specs.declared.item.Item.TheVariants.{Time, Change}
use Rattle.vcd_text.specs.declared.keyword.Keyword.{Keyword}
use Rattle.vcd_text.specs.declared.keyword.Keyword.TheVariants.{Scope, Upscope, Var, EndDefinitions, End, Dump, Other}
use Rattle.vcd_text.specs.declared.state.Part.{Part}
use Rattle.vcd_text.specs.declared.state.Part.TheVariants.{Nothing, Block, Skipped, Vector, Passed}
use Rattle.vcd_text.specs.declared.state.State.{State}
use Rattle.vcd_text.specs.Words.{number, digit, digits, with_digit, keyword, is_command, is_end, is_code, is_one_of, number_sign, dollar_sign}
use Rattle.vcd_text.specs.Tokens.{Token}
use Rattle.vcd_text.specs.Codes.{code_from}
use Rattle.vcd_text.specs.Grammar.{Step, fault, goes, with_part, change_of, time_of, scalar, vector, command, body, var_at, var_sized, var, scope, upscope, block, opened, declaration, kept, step}
use Rattle.vcd_text.specs.Reading.{go, moved}
use Rattle.vcd_text.specs.Phrases.{Phrase, ScopeBlock, UpscopeBlock, VarBlock, SimulationTime, ScalarChange, Context, is_other, is_declaring, is_simulation_keyword, has_digits, has_digit_and_code, opens_block, opens_change, is_single, is_stray, are_block_words, has_size, var_demands, change_demands, time_demands, value_of, demands, with_variable, after, change_said, says, fault_place}
use Rattle.vcd_text.proofs.Texts.{fold-append}
use Rattle.vcd_text.proofs.Says.{said}

-- the state between phrases
abbrev pub state_of : Context → State
state_of c = record { scopes = c.scopes; codes = c.codes; variables = c.variables; is_declared = c.is_declared; time = c.time; part = Nothing }

abbrev pub texts : List Token → List (List ℕ)
texts ts = map (λ (t : Token). t.text) ts

-- what a phrase does by its demands: it is taken, or a fault
abbrev pub outcome : Context → Phrase → List Token → Result Unit VcdCause → Step
outcome c p ts (Ok u) = Ok (state_of (after c p), says c p)
outcome c p ts (Err cause) = Err (record { at = fault_place cause ts; cause = cause })

-- ---- tests

pub both : (x y : Bool) → (x && y) ≡ true → (x ≡ true) × (y ≡ true)
both true y e = (refl, e)
both false y e = absurd cc

pub negated : (x : Bool) → not x ≡ true → x ≡ false
negated true e = absurd cc
negated false e = refl

pub one_of_two : (x y b : ℕ) → is_one_of (x ∷ y ∷ []) b ≡ true → (b ≡ x) ⊎ (b ≡ y)
one_of_two x y b h = by (b == x) (b == y) refl refl h
  where
    by : (p q : Bool) → (b == x) ≡ p → (b == y) ≡ q → (p || (q || false)) ≡ true → (b ≡ x) ⊎ (b ≡ y)
    by true q e f h = inl (eqb-true b x e)
    by false true e f h = inr (eqb-true b y f)
    by false false e f h = absurd cc

pub one_of_four : (w x y z b : ℕ) → is_one_of (w ∷ x ∷ y ∷ z ∷ []) b ≡ true → ((b ≡ w) ⊎ (b ≡ x)) ⊎ ((b ≡ y) ⊎ (b ≡ z))
one_of_four w x y z b h = by (b == w) (b == x) (b == y) (b == z) refl refl refl refl h
  where
    by : (p q r s : Bool) → (b == w) ≡ p → (b == x) ≡ q → (b == y) ≡ r → (b == z) ≡ s → (p || (q || (r || (s || false)))) ≡ true
        → ((b ≡ w) ⊎ (b ≡ x)) ⊎ ((b ≡ y) ⊎ (b ≡ z))
    by true q r s e f g h t = inl (inl (eqb-true b w e))
    by false true r s e f g h t = inl (inr (eqb-true b x f))
    by false false true s e f g h t = inr (inl (eqb-true b y g))
    by false false false true e f g h t = inr (inr (eqb-true b z h))
    by false false false false e f g h t = absurd cc

-- ---- a token

-- a token that says nothing yet
pub quiet : (items : List Item) (s n : State) (t : Token) → step s t ≡ goes n → go (said s items) t ≡ said n items
quiet items s n t e = ap (moved (said s items)) e ∙ ap (said n) (append-nil items)

-- what is read doesn't depend on the part that was open
pub moved-open : (items : List Item) (s : State) (part : Part) (x : Step) → moved (said (with_part s part) items) x ≡ moved (said s items) x
moved-open items s part (Ok x) = refl
moved-open items s part (Err f) = refl

pub step-declares : (c : Context) (t : Token) → c.is_declared ≡ false → step (state_of c) t ≡ declaration (state_of c) t
step-declares c t d = ap (λ b. cond b (body (state_of c) t.at t.text) (declaration (state_of c) t)) d

pub step-body : (c : Context) (t : Token) (w : List ℕ) → c.is_declared ≡ true → t.text ≡ w → step (state_of c) t ≡ body (state_of c) t.at w
step-body c t w d x = ap (λ b. cond b (body (state_of c) t.at t.text) (declaration (state_of c) t)) d ∙ ap (body (state_of c) t.at) x

-- ---- blocks

abbrev pub kept_all : List (List ℕ) → List (List ℕ) → List (List ℕ)
kept_all words [] = words
kept_all words (w ∷ ws) = kept_all (kept words w) ws

pub in_block : (items : List Item) (s : State) (at : ℕ) (k : Keyword) (words : List (List ℕ)) (ts : List Token) → are_block_words (texts ts) ≡ true
    → fold go (said (with_part s (Block at k words)) items) ts ≡ said (with_part s (Block at k (kept_all words (texts ts)))) items
in_block items s at k words [] h = refl
in_block items s at k words (t ∷ ts) h =
    let e = both (not (is_end t.text)) (are_block_words (texts ts)) h in
    let one : step (with_part s (Block at k words)) t ≡ goes (with_part s (Block at k (kept words t.text))) =
    ap (λ b. cond b (block (with_part s Nothing) at k words) (goes (with_part s (Block at k (kept words t.text))))) (negated (is_end t.text) e.0) in
    ap (λ r. fold go r ts) (quiet items (with_part s (Block at k words)) (with_part s (Block at k (kept words t.text))) t one)
    ∙ in_block items s at k (kept words t.text) ts e.1

pub in_skipped : (items : List Item) (s : State) (at : ℕ) (ts : List Token) → are_block_words (texts ts) ≡ true
    → fold go (said (with_part s (Skipped at)) items) ts ≡ said (with_part s (Skipped at)) items
in_skipped items s at [] h = refl
in_skipped items s at (t ∷ ts) h =
    let e = both (not (is_end t.text)) (are_block_words (texts ts)) h in
    let one : step (with_part s (Skipped at)) t ≡ goes (with_part s (Skipped at)) =
    ap (λ b. cond b (goes (with_part s Nothing)) (goes (with_part s (Skipped at)))) (negated (is_end t.text) e.0) in
    ap (λ r. fold go r ts) (quiet items (with_part s (Skipped at)) (with_part s (Skipped at)) t one) ∙ in_skipped items s at ts e.1

kept_four : (a b c d : List ℕ) (ws : List (List ℕ)) → kept_all (a ∷ b ∷ c ∷ d ∷ []) ws ≡ a ∷ b ∷ c ∷ d ∷ []
kept_four a b c d [] = refl
kept_four a b c d (w ∷ ws) = kept_four a b c d ws

-- the first four words of a block are kept
kept_is : (ws : List (List ℕ)) → kept_all [] ws ≡ take 4 ws
kept_is [] = refl
kept_is (a ∷ []) = refl
kept_is (a ∷ b ∷ []) = refl
kept_is (a ∷ b ∷ c ∷ []) = refl
kept_is (a ∷ b ∷ c ∷ d ∷ ws) = kept_four a b c d ws

pub block-read : (items : List Item) (s : State) (t end : Token) (words : List Token) (k : Keyword) → step s t ≡ goes (with_part s (Block t.at k [])) → s.part ≡ Nothing
    → are_block_words (texts words) ≡ true → is_end end.text ≡ true
    → fold go (said s items) (t ∷ (words ++ end ∷ [])) ≡ moved (said s items) (block (with_part s Nothing) t.at k (take 4 (texts words)))
block-read items s t end words k e n h x =
    let open_state = with_part s (Block t.at k []) in
    let kept_state = with_part s (Block t.at k (kept_all [] (texts words))) in
    ap (λ r. fold go r (words ++ end ∷ [])) (quiet items s open_state t e)
    ∙ fold-append go (said open_state items) words (end ∷ [])
    ∙ ap (λ r. go r end) (in_block items s t.at k [] words h)
    ∙ ap (λ b. moved (said kept_state items) (cond b (block (with_part s Nothing) t.at k (kept_all [] (texts words))) (goes (with_part s (Block t.at k (kept (kept_all [] (texts words)) end.text)))))) x
    ∙ moved-open items s (Block t.at k (kept_all [] (texts words))) (block (with_part s Nothing) t.at k (kept_all [] (texts words)))
    ∙ ap (λ ws. moved (said s items) (block (with_part s Nothing) t.at k ws)) (kept_is (texts words))

pub skip-read : (items : List Item) (s : State) (t end : Token) (words : List Token) → step s t ≡ goes (with_part s (Skipped t.at))
    → are_block_words (texts words) ≡ true → is_end end.text ≡ true
    → fold go (said s items) (t ∷ (words ++ end ∷ [])) ≡ moved (said s items) (goes (with_part s Nothing))
skip-read items s t end words e h x =
    let open_state = with_part s (Skipped t.at) in
    ap (λ r. fold go r (words ++ end ∷ [])) (quiet items s open_state t e)
    ∙ fold-append go (said open_state items) words (end ∷ [])
    ∙ ap (λ r. go r end) (in_skipped items s t.at words h)
    ∙ ap (λ b. moved (said open_state items) (cond b (goes (with_part s Nothing)) (goes (with_part s (Skipped t.at))))) x
    ∙ moved-open items s (Skipped t.at) (goes (with_part s Nothing))

-- ---- what each block does

if_so : {A : Type 0} (b : Bool) (x y z : A) → (b ≡ true → x ≡ z) → (b ≡ false → y ≡ z) → cond b x y ≡ z
if_so true x y z h k = h refl
if_so false x y z h k = k refl

pub scope-is : (c : Context) (t : Token) (ts : List Token) (words : List (List ℕ))
    → scope (state_of c) t.at (take 4 words) ≡ outcome c (ScopeBlock words) (t ∷ ts) (first_failing (demands c (ScopeBlock words)))
scope-is c t ts [] = refl
scope-is c t ts (kind ∷ []) = refl
scope-is c t ts (kind ∷ name ∷ more) = by (nat_lt (length c.scopes) 64) (is_utf8 name)
  where
    by : (x y : Bool) → cond (x && y) (goes (record (state_of c) { scopes = c.scopes ++ name ∷ [] })) (fault BadToken t.at)
        ≡ outcome c (ScopeBlock (kind ∷ name ∷ more)) (t ∷ ts) (first_failing ((x, BadToken) ∷ (y, BadToken) ∷ []))
    by true true = refl
    by true false = refl
    by false y = refl

pub upscope-is : (c : Context) (t : Token) (ts : List Token) (words : List (List ℕ))
    → upscope (state_of c) t.at ≡ outcome c (UpscopeBlock words) (t ∷ ts) (first_failing (demands c (UpscopeBlock words)))
upscope-is c t ts words = by (length c.scopes == 0)
  where
    by : (x : Bool) → cond x (fault BadToken t.at) (goes (record (state_of c) { scopes = take (length c.scopes - 1) c.scopes }))
        ≡ outcome c (UpscopeBlock words) (t ∷ ts) (first_failing ((not x, BadToken) ∷ []))
    by true = refl
    by false = refl

var_at-is : (c : Context) (t : Token) (ts : List Token) (words : List (List ℕ)) (size : ℕ) (code name : List ℕ) (known : Option (ℕ × ℕ))
    → after c (VarBlock words) ≡ with_variable c size code name known
    → var_at (state_of c) t.at code size name known ≡ outcome c (VarBlock words) (t ∷ ts) (first_failing ((has_size size known, SizeDiffers) ∷ []))
var_at-is c t ts words size code name None e = ap (λ (n : Context). goes (state_of n)) (sym e)
var_at-is c t ts words size code name (Some known) e = by (known.1 == size)
  where
    by : (x : Bool) → cond x (goes (state_of (with_variable c size code name (Some known)))) (fault SizeDiffers t.at)
        ≡ outcome c (VarBlock words) (t ∷ ts) (first_failing ((x, SizeDiffers) ∷ []))
    by true = ap (λ (n : Context). goes (state_of n)) (sym e)
    by false = refl

var_sized-is : (c : Context) (t : Token) (ts : List Token) (words : List (List ℕ)) (code name : List ℕ) (o : Option ℕ)
    → after c (VarBlock words) ≡ with_variable c (unwrap_or o 0) code name (code_from 0 code c.codes)
    → var_sized (state_of c) t.at code name o ≡ outcome c (VarBlock words) (t ∷ ts) (first_failing (var_demands c o code name))
var_sized-is c t ts words code name None e = refl
var_sized-is c t ts words code name (Some size) e = by (nat_le size 1048576) (is_code code) (is_utf8 name)
  where
    known : Option (ℕ × ℕ)
    known = code_from 0 code c.codes

    by : (x y z : Bool) → cond ((x && y) && z) (var_at (state_of c) t.at code size name (code_from 0 code c.codes)) (fault BadVar t.at)
        ≡ outcome c (VarBlock words) (t ∷ ts) (first_failing ((x, BadVar) ∷ (y, BadVar) ∷ (z, BadVar) ∷ (has_size size (code_from 0 code c.codes), SizeDiffers) ∷ []))
    by true true true = var_at-is c t ts words size code name (code_from 0 code c.codes) e
    by true true false = refl
    by true false z = refl
    by false y z = refl

pub var-is : (c : Context) (t : Token) (ts : List Token) (words : List (List ℕ))
    → var (state_of c) t.at (take 4 words) ≡ outcome c (VarBlock words) (t ∷ ts) (first_failing (demands c (VarBlock words)))
var-is c t ts [] = refl
var-is c t ts (a ∷ []) = refl
var-is c t ts (a ∷ b ∷ []) = refl
var-is c t ts (a ∷ b ∷ d ∷ []) = refl
var-is c t ts (kind ∷ size ∷ code ∷ name ∷ more) = var_sized-is c t ts (kind ∷ size ∷ code ∷ name ∷ more) code name (number size) refl

-- ---- the words of a keyword

-- a declaring keyword is spelled so
abbrev pub Spelled : Keyword → List ℕ → Type 0
Spelled Scope w = w ≡ codes "$scope"
Spelled Upscope w = w ≡ codes "$upscope"
Spelled Var w = w ≡ codes "$var"
Spelled EndDefinitions w = w ≡ codes "$enddefinitions"
Spelled k w = Unit {0}

picked : (P : Keyword → Type 0) (b : Bool) (x y : Keyword) → (b ≡ true → P x) → (b ≡ false → P y) → P (cond b x y)
picked P true x y h k = h refl
picked P false x y h k = k refl

pub spelled : (w : List ℕ) → Spelled (keyword w) w
spelled w =
    let P : Keyword → Type 0 = λ k. Spelled k w in
    picked P (bytes_eq w (codes "$scope")) _ _ (λ e. (bytes_eq-Decides w (codes "$scope")).0 e) (λ _.
    picked P (bytes_eq w (codes "$upscope")) _ _ (λ e. (bytes_eq-Decides w (codes "$upscope")).0 e) (λ _.
    picked P (bytes_eq w (codes "$var")) _ _ (λ e. (bytes_eq-Decides w (codes "$var")).0 e) (λ _.
    picked P (bytes_eq w (codes "$enddefinitions")) _ _ (λ e. (bytes_eq-Decides w (codes "$enddefinitions")).0 e) (λ _.
    picked P (bytes_eq w (codes "$end")) _ _ (λ _. tt) (λ _.
    picked P (bytes_eq w (codes "$dumpvars")) _ _ (λ _. tt) (λ _.
    picked P (bytes_eq w (codes "$dumpall")) _ _ (λ _. tt) (λ _.
    picked P (bytes_eq w (codes "$dumpon")) _ _ (λ _. tt) (λ _.
    picked P (bytes_eq w (codes "$dumpoff")) _ _ (λ _. tt) (λ _. tt)))))))))

pub end-is : (w : List ℕ) → is_end w ≡ true → w ≡ codes "$end"
end-is w e = (bytes_eq-Decides w (codes "$end")).0 e

-- ---- tokens of the body

pub dollar-command : (s : State) (at : ℕ) (w : List ℕ) → is_command w ≡ true → body s at w ≡ command s at (keyword w)
dollar-command s at [] e = absurd cc
dollar-command s at (b ∷ bs) e =
    let P : ℕ → Type 0 = λ x. body s at (x ∷ bs) ≡ command s at (keyword (x ∷ bs)) in
    subst P (sym (eqb-true b dollar_sign e)) refl

skips-command : (s : State) (at : ℕ) (k : Keyword) → is_other true k ≡ true → command s at k ≡ goes (with_part s (Skipped at))
skips-command s at Other e = refl
skips-command s at Scope e = absurd cc
skips-command s at Upscope e = absurd cc
skips-command s at Var e = absurd cc
skips-command s at EndDefinitions e = absurd cc
skips-command s at End e = absurd cc
skips-command s at Dump e = absurd cc

skips-opened : (s : State) (at : ℕ) (k : Keyword) → is_other false k ≡ true → opened s at k ≡ goes (with_part s (Skipped at))
skips-opened s at Other e = refl
skips-opened s at Dump e = refl
skips-opened s at Scope e = absurd cc
skips-opened s at Upscope e = absurd cc
skips-opened s at Var e = absurd cc
skips-opened s at EndDefinitions e = absurd cc
skips-opened s at End e = absurd cc

pub other-step : (c : Context) (t : Token) (d : Bool) → c.is_declared ≡ d → is_command t.text ≡ true → is_other d (keyword t.text) ≡ true
    → step (state_of c) t ≡ goes (with_part (state_of c) (Skipped t.at))
other-step c t true e x o =
    step-body c t t.text e refl ∙ dollar-command (state_of c) t.at t.text x ∙ skips-command (state_of c) t.at (keyword t.text) o
other-step c t false e x o =
    step-declares c t e
    ∙ ap (λ b. cond b (opened (state_of c) t.at (keyword t.text)) (fault BadToken t.at)) x
    ∙ skips-opened (state_of c) t.at (keyword t.text) o

pub stands-command : (s : State) (at : ℕ) (k : Keyword) → is_simulation_keyword k ≡ true → command s at k ≡ goes s
stands-command s at Dump e = refl
stands-command s at End e = refl
stands-command s at Scope e = absurd cc
stands-command s at Upscope e = absurd cc
stands-command s at Var e = absurd cc
stands-command s at EndDefinitions e = absurd cc
stands-command s at Other e = absurd cc

pub time-is : (c : Context) (t : Token) (bytes : List ℕ) (o : Option ℕ) → number bytes ≡ o
    → time_of (state_of c) t.at o ≡ outcome c (SimulationTime bytes) (t ∷ []) (first_failing (time_demands c o))
time-is c t bytes None e = refl
time-is c t bytes (Some n) e = by (nat_le c.time n)
  where
    by : (x : Bool) → cond x (Ok (record (state_of c) { time = n }, Some (Time n))) (fault TimeBack t.at)
        ≡ outcome c (SimulationTime bytes) (t ∷ []) (first_failing ((x, TimeBack) ∷ []))
    by true = ap (λ (o : Option ℕ). Ok (state_of (record c { time = unwrap_or o c.time }), option_map (λ time. Time time) o)) (sym e)
    by false = refl

pub change-is : (c : Context) (p : Phrase) (ts : List Token) (at code_at : ℕ) (ds : List Digit) (known : Option (ℕ × ℕ))
    → says c p ≡ change_said ds known → after c p ≡ c → fault_place UnknownCode ts ≡ code_at → fault_place TooWide ts ≡ at
    → change_of (state_of c) at code_at ds known ≡ outcome c p ts (first_failing (change_demands ds known))
change-is c p ts at code_at ds None e f g h = ap (fault UnknownCode) (sym g)
change-is c p ts at code_at ds (Some known) e f g h = by (nat_le (length ds) known.1)
  where
    by : (x : Bool) → cond x (Ok (state_of c, Some (Change known.0 ds))) (fault TooWide at)
        ≡ outcome c p ts (first_failing ((x, TooWide) ∷ []))
    by true = ap (λ (n : Context). Ok (state_of n, Some (Change known.0 ds))) (sym f) ∙ ap (λ o. Ok (state_of (after c p), o)) (sym e)
    by false = ap (fault TooWide) (sym h)

-- a first byte that is a digit is no other first byte of a phrase
digit-no : (n b : ℕ) (bs : List ℕ) → b ≡ n → digit n ≡ None → has_digit_and_code (digit b) bs ≡ true → ⊥
digit-no n b bs e d h =
    let none : has_digit_and_code None bs ≡ true = sym (ap (λ o. has_digit_and_code o bs) (ap digit e ∙ d)) ∙ h in
    absurd cc

pub scalar-body : (s : State) (at b : ℕ) (bs : List ℕ) → has_digit_and_code (digit b) bs ≡ true → body s at (b ∷ bs) ≡ scalar s at (digit b) bs
scalar-body s at b bs h =
    if_so (b == number_sign) _ _ _ (λ e. absurd (digit-no 35 b bs (eqb-true b 35 e) refl h)) (λ _.
    if_so (is_one_of (codes "bB") b) _ _ _ (λ e. elim (one_of_two 98 66 b e) [
      | inl x ↦ absurd (digit-no 98 b bs x refl h)
      | inr x ↦ absurd (digit-no 66 b bs x refl h)
    ]) (λ _.
    if_so (is_one_of (codes "rRsS") b) _ _ _ (λ e. elim (one_of_four 114 82 115 83 b e) [
      | inl x ↦ elim x [ inl y ↦ absurd (digit-no 114 b bs y refl h) | inr y ↦ absurd (digit-no 82 b bs y refl h) ]
      | inr x ↦ elim x [ inl y ↦ absurd (digit-no 115 b bs y refl h) | inr y ↦ absurd (digit-no 83 b bs y refl h) ]
    ]) (λ _.
    if_so (b == dollar_sign) _ _ _ (λ e. absurd (digit-no 36 b bs (eqb-true b 36 e) refl h)) (λ _. refl))))

pub scalar-is : (c : Context) (t : Token) (value : ℕ) (code : List ℕ) (o : Option Digit) → digit value ≡ o → has_digit_and_code o code ≡ true
    → scalar (state_of c) t.at o code ≡ outcome c (ScalarChange value code) (t ∷ []) (first_failing (demands c (ScalarChange value code)))
scalar-is c t value code None e h = absurd cc
scalar-is c t value [] (Some d) e h = absurd cc
scalar-is c t value (b ∷ bs) (Some d) e h =
    let same : value_of (value ∷ []) ≡ d ∷ [] = ap (λ o. unwrap_or (with_digit o (Some [])) []) e in
    let known = code_from 0 (b ∷ bs) c.codes in
    let ts : List Token = t ∷ [] in
    change-is c (ScalarChange value (b ∷ bs)) ts t.at t.at (d ∷ []) known (ap (λ ds. change_said ds known) same) refl refl refl
    ∙ ap (λ ds. outcome c (ScalarChange value (b ∷ bs)) ts (first_failing (change_demands ds known))) (sym same)

pub vector-opens : (s : State) (at : ℕ) (o : Option (List Digit)) → has_digits o ≡ true → vector s at o ≡ goes (with_part s (Vector at (unwrap_or o [])))
vector-opens s at None h = absurd cc
vector-opens s at (Some []) h = absurd cc
vector-opens s at (Some (d ∷ ds)) h = refl

pub vector-body : (s : State) (at b : ℕ) (bs : List ℕ) → is_one_of (codes "bB") b ≡ true → body s at (b ∷ bs) ≡ vector s at (digits bs)
vector-body s at b bs h =
    let P : ℕ → Type 0 = λ x. body s at (x ∷ bs) ≡ vector s at (digits bs) in
    elim (one_of_two 98 66 b h) [ inl x ↦ subst P (sym x) refl | inr x ↦ subst P (sym x) refl ]

pub passed-body : (s : State) (at b : ℕ) (bs : List ℕ) → is_one_of (codes "rRsS") b ≡ true → body s at (b ∷ bs) ≡ goes (with_part s (Passed at))
passed-body s at b bs h =
    let P : ℕ → Type 0 = λ x. body s at (x ∷ bs) ≡ goes (with_part s (Passed at)) in
    elim (one_of_four 114 82 115 83 b h) [
      | inl x ↦ elim x [ inl y ↦ subst P (sym y) refl | inr y ↦ subst P (sym y) refl ]
      | inr x ↦ elim x [ inl y ↦ subst P (sym y) refl | inr y ↦ subst P (sym y) refl ]
    ]

-- ---- a stray token

then_is : {A : Type 0} (b : Bool) (x y z : A) → b ≡ true → cond b x y ≡ z → x ≡ z
then_is true x y z e h = h
then_is false x y z e h = absurd cc

else_is : {A : Type 0} (b : Bool) (x y z : A) → b ≡ false → cond b x y ≡ z → y ≡ z
else_is false x y z e h = h
else_is true x y z e h = absurd cc

neither : (x y : Bool) → (x || y) ≡ false → (x ≡ false) × (y ≡ false)
neither false y e = (refl, e)
neither true y e = absurd cc

stray-declared : (s : State) (at : ℕ) (x : Bool) (k : Keyword) → (x && (is_other false k || (true && is_declaring k))) ≡ false
    → cond x (opened s at k) (fault BadToken at) ≡ fault BadToken at
stray-declared s at false k h = refl
stray-declared s at true End h = refl
stray-declared s at true Scope h = absurd cc
stray-declared s at true Upscope h = absurd cc
stray-declared s at true Var h = absurd cc
stray-declared s at true EndDefinitions h = absurd cc
stray-declared s at true Dump h = absurd cc
stray-declared s at true Other h = absurd cc

stray-command : (s : State) (at : ℕ) (k : Keyword) → (is_other true k || false) ≡ false → is_simulation_keyword k ≡ false → command s at k ≡ fault BadToken at
stray-command s at Scope h e = refl
stray-command s at Upscope h e = refl
stray-command s at Var h e = refl
stray-command s at EndDefinitions h e = refl
stray-command s at End h e = absurd cc
stray-command s at Dump h e = absurd cc
stray-command s at Other h e = absurd cc

vector-no : (s : State) (at : ℕ) (o : Option (List Digit)) → has_digits o ≡ false → vector s at o ≡ fault BadToken at
vector-no s at None h = refl
vector-no s at (Some []) h = refl
vector-no s at (Some (d ∷ ds)) h = absurd cc

scalar-no : (s : State) (at : ℕ) (o : Option Digit) (bs : List ℕ) → has_digit_and_code o bs ≡ false → scalar s at o bs ≡ fault BadToken at
scalar-no s at None bs h = refl
scalar-no s at (Some d) [] h = refl
scalar-no s at (Some d) (b ∷ bs) h = absurd cc

stray-body : (s : State) (at : ℕ) (w : List ℕ) → opens_block true w ≡ false → opens_change w ≡ false → is_single w ≡ false → body s at w ≡ fault BadToken at
stray-body s at [] h f g = refl
stray-body s at (b ∷ bs) h f g =
    if_so (b == number_sign) _ _ _ (λ e. absurd (let no = then_is (b == number_sign) true _ false e g in cc)) (λ not_number.
    let g1 = else_is (b == number_sign) true _ false not_number g in
    if_so (is_one_of (codes "bB") b) _ _ _ (λ e. vector-no s at (digits bs) (then_is (is_one_of (codes "bB") b) _ _ false e f)) (λ not_vector.
    let f1 = else_is (is_one_of (codes "bB") b) _ _ false not_vector f in
    if_so (is_one_of (codes "rRsS") b) _ _ _ (λ e. absurd (let no : true ≡ false = sym e ∙ f1 in cc)) (λ _.
    if_so (b == dollar_sign) _ _ _
    (λ e. stray-command s at (keyword (b ∷ bs)) (sym (ap (λ x. x && (is_other true (keyword (b ∷ bs)) || false)) e) ∙ h) (then_is (b == dollar_sign) _ _ false e g1))
    (λ e. scalar-no s at (digit b) bs (else_is (b == dollar_sign) _ _ false e g1)))))

pub stray-step : (c : Context) (t : Token) (d : Bool) → c.is_declared ≡ d → is_stray d t.text ≡ true → step (state_of c) t ≡ fault BadToken t.at
stray-step c t false e h =
    let no = both (not (opens_block false t.text)) true h in
    step-declares c t e ∙ stray-declared (state_of c) t.at (is_command t.text) (keyword t.text) (negated (opens_block false t.text) no.0)
stray-step c t true e h =
    let no = both (not (opens_block true t.text)) (not (opens_change t.text || is_single t.text)) h in
    let more = neither (opens_change t.text) (is_single t.text) (negated (opens_change t.text || is_single t.text) no.1) in
    step-body c t t.text e refl ∙ stray-body (state_of c) t.at t.text (negated (opens_block true t.text) no.0) more.0 more.1
