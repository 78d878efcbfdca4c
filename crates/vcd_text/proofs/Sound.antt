-- What is read fits what was declared.
use Rattle.std.proofs.Common.{◌≡◌, ◌≤◌, ◌+◌, ◌==◌, ℕ, suc, zero, Bool, true, false, cond, nat_le, List, [], ◌∷◌, ◌++◌, length, get_or, refl, sym, ap, ◌∙◌, subst, arith, Option, None, Some, Ok, Err, true≢false, le_refl, lit≤}
use Rattle.std.specs.Prelude.{IsSomeAnd, IfSome, nat_lt, ◌&&◌, codes}
use Rattle.std.specs.Option.{option_map}
use Rattle.std.specs.Str.{bytes_eq, is_utf8}
use Rattle.std.proofs.lemmas.List.Elements.{All-push}
use Rattle.std.proofs.lemmas.Bool.{leb-true, eqb-true, eq-eqb}
use Rattle.std.proofs.lemmas.Bool.Decides.{nat_tests}
use Rattle.std.proofs.lemmas.Option.{slice_get_past}
use Rattle.vcd_text.specs.declared.declaration.Variable.{Variable}
use Rattle.vcd_text.specs.declared.digit.Digit.{Digit}
use Rattle.vcd_text.specs.declared.item.Item.{Item}
use Rattle.vcd_text.specs.declared.item.Item.TheVariants.{Time, Change}
use Rattle.vcd_text.specs.declared.keyword.Keyword.{Keyword}
use Rattle.vcd_text.specs.declared.keyword.Keyword.TheVariants.{Scope, Upscope, Var, EndDefinitions, End, Dump, Other}
use Rattle.vcd_text.specs.declared.state.Part.{Part}
use Rattle.vcd_text.specs.declared.state.Part.TheVariants.{Nothing, Block, Skipped, Vector, Passed}
use Rattle.vcd_text.specs.declared.state.State.{State}
use Rattle.vcd_text.specs.Codes.{Code, code_from, full_name}
use Rattle.vcd_text.specs.Tokens.{Token}
use Rattle.vcd_text.specs.Words.{number_sign, dollar_sign, is_one_of, number, digit, digits, keyword, is_command, is_end, is_code}
use Rattle.vcd_text.specs.Grammar.{Step, goes, with_part, change_of, change, time_of, scalar, vector, command, body, var_at, var_sized, var, scope, upscope, block, opened, kept, declared, in_part, step}
use Rattle.vcd_text.specs.Sizes.{size_of, AreConsistent, FitsDeclared}
use Rattle.vcd_text.specs.Sound.{size_at, IsPlaced, IsSound}

-- ---- what a step does

-- the last time is the item's, which is no less than the one before, or stays
abbrev pub Ascends : ℕ → ℕ → Option Item → Type 0
Ascends old new None = new ≡ old
Ascends old new (Some (Change code ds)) = new ≡ old
Ascends old new (Some (Time t)) = (old ≤ t) × (new ≡ t)

-- the next state is sound; once all is declared nothing more is, and an item fits; before there is none
pub record Goes (is_declared : Bool) (vs : List Variable) (time : ℕ) (n : State) (o : Option Item) : Type 0 where
  pub sound : IsSound n
  pub stays : is_declared ≡ true → (n.is_declared ≡ true) × (n.variables ≡ vs)
  pub none : is_declared ≡ false → o ≡ None
  pub fits : IfSome o (FitsDeclared vs)
  pub times : Ascends time n.time o

abbrev pub GoesOn : State → Step → Type 0
GoesOn s (Ok x) = Goes s.is_declared s.variables s.time x.0 x.1
GoesOn s (Err f) = Unit {0}

goes_if : (s : State) (b : Bool) (x y : Step) → (b ≡ true → GoesOn s x) → (b ≡ false → GoesOn s y) → GoesOn s (cond b x y)
goes_if s true x y h k = h refl
goes_if s false x y h k = k refl

-- a state without an item that declares nothing
goes_same : (s n : State) → IsSound n → n.is_declared ≡ s.is_declared → n.variables ≡ s.variables → n.time ≡ s.time → GoesOn s (goes n)
goes_same s n h e f t = record { sound = h; stays = λ d. (e ∙ d, f); none = λ _. refl; fits = tt; times = t }

goes_with : (s : State) (part : Part) → IsSound s → IsPlaced part s.is_declared → GoesOn s (goes (with_part s part))
goes_with s part h p = goes_same s (with_part s part) (record { consistent = h.consistent; sizes = h.sizes; placed = p }) refl refl refl

-- ---- codes and their sizes

-- what is found of a code is its place and its size
found_by : (text : List ℕ) (c : Code) (cs : List Code) (n : ℕ) (known : ℕ × ℕ) (b : Bool) → bytes_eq text c.text ≡ b
    → (code_from (n + 1) text cs ≡ Some known → (k : ℕ) × (known.0 ≡ n + 1 + k) × (size_at cs k ≡ Some known.1))
    → code_from n text (c ∷ cs) ≡ Some known → (k : ℕ) × (known.0 ≡ n + k) × (size_at (c ∷ cs) k ≡ Some known.1)
found_by text c cs n known true t rest h =
    let is : Some (n, c.size) ≡ Some known = sym (ap (λ b. cond b (Some (n, c.size)) (code_from (n + 1) text cs)) t) ∙ h in
    let same : (n, c.size) ≡ known = cc in
    (zero, sym (ap (λ x. x.0) same) ∙ omega arith, ap (λ x. Some x.1) same)
found_by text c cs n known false t rest h =
    let more = rest (sym (ap (λ b. cond b (Some (n, c.size)) (code_from (n + 1) text cs)) t) ∙ h) in
    (suc more.0, omega (arith, more.1), more.2)

found : (text : List ℕ) (cs : List Code) (n : ℕ) (known : ℕ × ℕ) → code_from n text cs ≡ Some known → (k : ℕ) × (known.0 ≡ n + k) × (size_at cs k ≡ Some known.1)
found text [] n known h = cc
found text (c ∷ cs) n known h = found_by text c cs n known (bytes_eq text c.text) refl (found text cs (n + 1) known) h

size-found : (s : State) (text : List ℕ) (known : ℕ × ℕ) → IsSound s → code_from 0 text s.codes ≡ Some known → size_of s.variables known.0 ≡ Some known.1
size-found s text known h e =
    let at = found text s.codes 0 known e in
    h.sizes known.0 ∙ ap (size_at s.codes) (omega (arith, at.1)) ∙ at.2

abbrev orelse : Option ℕ → Option ℕ → Option ℕ
orelse None b = b
orelse (Some a) b = Some a

size_of-push_by : (x : Variable) (vs : List Variable) (v : Variable) (code : ℕ) (b : Bool) → size_of (vs ++ v ∷ []) code ≡ orelse (size_of vs code) (size_of (v ∷ []) code)
    → cond b (Some x.size) (size_of (vs ++ v ∷ []) code) ≡ orelse (cond b (Some x.size) (size_of vs code)) (size_of (v ∷ []) code)
size_of-push_by x vs v code true e = refl
size_of-push_by x vs v code false e = e

size_of-push : (vs : List Variable) (v : Variable) (code : ℕ) → size_of (vs ++ v ∷ []) code ≡ orelse (size_of vs code) (size_of (v ∷ []) code)
size_of-push [] v code = refl
size_of-push (x ∷ vs) v code = size_of-push_by x vs v code (x.code == code) (size_of-push vs v code)

size_at-push : (cs : List Code) (c : Code) (code : ℕ) → size_at (cs ++ c ∷ []) code ≡ orelse (size_at cs code) (cond (length cs == code) (Some c.size) None)
size_at-push [] c zero = refl
size_at-push [] c (suc code) = grind (arith, nat_tests)
size_at-push (x ∷ cs) c zero = refl
size_at-push (x ∷ cs) c (suc code) =
    let same : (length cs == code) ≡ (length (x ∷ cs) == suc code) = grind (arith, nat_tests) in
    size_at-push cs c code ∙ ap (λ b. orelse (size_at cs code) (cond b (Some c.size) None)) same

size_at-past : (cs : List Code) (code : ℕ) → length cs ≤ code → size_at cs code ≡ None
size_at-past cs code h = ap (option_map (λ c. c.size)) (slice_get_past cs code h)

-- a variable more, whose code has the size that it says
consistent-push : (vs : List Variable) (v : Variable) → AreConsistent vs → orelse (size_of vs v.code) (Some v.size) ≡ Some v.size → AreConsistent (vs ++ v ∷ [])
consistent-push vs v h e =
    All-push (λ x. size_of (vs ++ v ∷ []) x.code ≡ Some x.size) vs v
    (λ k d lt. size_of-push vs v (get_or vs k d).code ∙ ap (λ o. orelse o (size_of (v ∷ []) (get_or vs k d).code)) (h k d lt))
    (size_of-push vs v v.code ∙ ap (λ b. orelse (size_of vs v.code) (cond b (Some v.size) None)) (eq-eqb v.code v.code refl) ∙ e)

-- ---- declarations

-- among the declarations nothing is read yet
goes_declared : (s : State) (name : List ℕ) (code size : ℕ) (cs : List Code) → s.is_declared ≡ false → IsPlaced s.part s.is_declared
    → AreConsistent (declared s name code size cs).variables → ((k : ℕ) → size_of (declared s name code size cs).variables k ≡ size_at cs k)
    → GoesOn s (goes (declared s name code size cs))
goes_declared s name code size cs not p h e = record {
  sound = record { consistent = h; sizes = e; placed = p };
  stays = λ d. absurd (true≢false (sym d ∙ not));
  none = λ _. refl;
  fits = tt;
  times = refl;
}

declared-sizes_by : (code k size : ℕ) (o : Option ℕ) (b : Bool) → (b ≡ true → o ≡ Some size) → orelse o (cond b (Some size) None) ≡ o
declared-sizes_by code k size (Some n) b h = refl
declared-sizes_by code k size None true h = sym (h refl)
declared-sizes_by code k size None false h = refl

var_at-goes : (s : State) (at : ℕ) (text : List ℕ) (size : ℕ) (name : List ℕ) (o : Option (ℕ × ℕ)) → IsSound s → s.is_declared ≡ false → code_from 0 text s.codes ≡ o → GoesOn s (var_at s at text size name o)
var_at-goes s at text size name None h not e =
    let code = length s.codes in
    let v : Variable = record { name = full_name s.scopes name; code = code; size = size } in
    let c : Code = record { text = text; size = size } in
    let new : size_of s.variables code ≡ None = h.sizes code ∙ size_at-past s.codes code (le_refl code) in
    goes_declared s name code size (s.codes ++ c ∷ []) not h.placed
    (consistent-push s.variables v h.consistent (ap (λ o. orelse o (Some size)) new))
    (λ k. size_of-push s.variables v k ∙ ap (λ o. orelse o (size_of (v ∷ []) k)) (h.sizes k) ∙ sym (size_at-push s.codes c k))
var_at-goes s at text size name (Some known) h not e =
    goes_if s (known.1 == size) _ _ (λ t.
    let same : known.1 ≡ size = eqb-true known.1 size t in
    let v : Variable = record { name = full_name s.scopes name; code = known.0; size = size } in
    let has : size_of s.variables known.0 ≡ Some size = size-found s text known h e ∙ ap Some same in
    goes_declared s name known.0 size s.codes not h.placed
    (consistent-push s.variables v h.consistent (ap (λ o. orelse o (Some size)) has))
    (λ k. size_of-push s.variables v k
    ∙ declared-sizes_by known.0 k size (size_of s.variables k) (known.0 == k) (λ at_k. ap (size_of s.variables) (sym (eqb-true known.0 k at_k)) ∙ has)
    ∙ h.sizes k)) (λ _. tt)

var_sized-goes : (s : State) (at : ℕ) (text name : List ℕ) (o : Option ℕ) → IsSound s → s.is_declared ≡ false → GoesOn s (var_sized s at text name o)
var_sized-goes s at text name None h not = tt
var_sized-goes s at text name (Some size) h not =
    goes_if s ((nat_le size 1048576 && is_code text) && is_utf8 name) _ _ (λ _. var_at-goes s at text size name (code_from 0 text s.codes) h not refl) (λ _. tt)

var-goes : (s : State) (at : ℕ) (words : List (List ℕ)) → IsSound s → s.is_declared ≡ false → GoesOn s (var s at words)
var-goes s at [] h not = tt
var-goes s at (a ∷ []) h not = tt
var-goes s at (a ∷ b ∷ []) h not = tt
var-goes s at (a ∷ b ∷ c ∷ []) h not = tt
var-goes s at (a ∷ size ∷ text ∷ name ∷ more) h not = var_sized-goes s at text name (number size) h not

scope-goes : (s : State) (at : ℕ) (words : List (List ℕ)) → IsSound s → GoesOn s (scope s at words)
scope-goes s at [] h = tt
scope-goes s at (a ∷ []) h = tt
scope-goes s at (a ∷ name ∷ more) h =
    goes_if s (nat_lt (length s.scopes) 64 && is_utf8 name) _ _
    (λ _. goes_same s _ (record { consistent = h.consistent; sizes = h.sizes; placed = h.placed }) refl refl refl) (λ _. tt)

upscope-goes : (s : State) (at : ℕ) → IsSound s → GoesOn s (upscope s at)
upscope-goes s at h =
    goes_if s (length s.scopes == 0) _ _ (λ _. tt)
    (λ _. goes_same s _ (record { consistent = h.consistent; sizes = h.sizes; placed = h.placed }) refl refl refl)

-- the declarations are complete
complete-goes : (s : State) → IsSound s → s.is_declared ≡ false → IsPlaced s.part true → GoesOn s (goes (record s { is_declared = true }))
complete-goes s h not p = record {
  sound = record { consistent = h.consistent; sizes = h.sizes; placed = p };
  stays = λ d. absurd (true≢false (sym d ∙ not));
  none = λ _. refl;
  fits = tt;
  times = refl;
}

block-goes : (s : State) (at : ℕ) (k : Keyword) (words : List (List ℕ)) → IsSound s → s.is_declared ≡ false → IsPlaced s.part true → GoesOn s (block s at k words)
block-goes s at Scope words h not p = scope-goes s at words h
block-goes s at Upscope words h not p = upscope-goes s at h
block-goes s at Var words h not p = var-goes s at words h not
block-goes s at EndDefinitions words h not p = complete-goes s h not p
block-goes s at End words h not p = goes_same s s h refl refl refl
block-goes s at Dump words h not p = goes_same s s h refl refl refl
block-goes s at Other words h not p = goes_same s s h refl refl refl

opened-goes : (s : State) (at : ℕ) (k : Keyword) → IsSound s → s.is_declared ≡ false → GoesOn s (opened s at k)
opened-goes s at Scope h not = goes_with s (Block at Scope []) h not
opened-goes s at Upscope h not = goes_with s (Block at Upscope []) h not
opened-goes s at Var h not = goes_with s (Block at Var []) h not
opened-goes s at EndDefinitions h not = goes_with s (Block at EndDefinitions []) h not
opened-goes s at End h not = tt
opened-goes s at Dump h not = goes_with s (Skipped at) h tt
opened-goes s at Other h not = goes_with s (Skipped at) h tt

-- ---- the body

change_of-goes : (s : State) (at code_at : ℕ) (ds : List Digit) (o : Option (ℕ × ℕ)) → IsSound s → s.is_declared ≡ true → 1 ≤ length ds
    → ((known : ℕ × ℕ) → o ≡ Some known → size_of s.variables known.0 ≡ Some known.1) → GoesOn s (change_of s at code_at ds o)
change_of-goes s at code_at ds None h ready some e = tt
change_of-goes s at code_at ds (Some known) h ready some e =
    goes_if s (nat_le (length ds) known.1) _ _ (λ t. record {
      sound = h;
      stays = λ d. (d, refl);
      none = λ not. absurd (true≢false (sym ready ∙ not));
      fits = subst (λ o. IsSomeAnd o (λ size. (1 ≤ length ds) × (length ds ≤ size))) (sym (e known refl)) (some, leb-true (length ds) known.1 t);
      times = refl;
    }) (λ _. tt)

change-goes : (s : State) (at : ℕ) (ds : List Digit) (code_at : ℕ) (text : List ℕ) → IsSound s → s.is_declared ≡ true → 1 ≤ length ds → GoesOn s (change s at ds code_at text)
change-goes s at ds code_at text h ready some = change_of-goes s at code_at ds (code_from 0 text s.codes) h ready some (λ known e. size-found s text known h e)

time_of-goes : (s : State) (at : ℕ) (o : Option ℕ) → IsSound s → s.is_declared ≡ true → GoesOn s (time_of s at o)
time_of-goes s at None h ready = tt
time_of-goes s at (Some t) h ready =
    goes_if s (nat_le s.time t) _ _ (λ later. record {
      sound = record { consistent = h.consistent; sizes = h.sizes; placed = h.placed };
      stays = λ d. (d, refl);
      none = λ not. absurd (true≢false (sym ready ∙ not));
      fits = tt;
      times = (leb-true s.time t later, refl);
    }) (λ _. tt)

scalar-goes : (s : State) (at : ℕ) (o : Option Digit) (text : List ℕ) → IsSound s → s.is_declared ≡ true → GoesOn s (scalar s at o text)
scalar-goes s at None text h ready = tt
scalar-goes s at (Some d) [] h ready = tt
scalar-goes s at (Some d) (b ∷ bs) h ready = change-goes s at (d ∷ []) at (b ∷ bs) h ready (lit≤ tt)

vector-goes : (s : State) (at : ℕ) (o : Option (List Digit)) → IsSound s → s.is_declared ≡ true → GoesOn s (vector s at o)
vector-goes s at None h ready = tt
vector-goes s at (Some []) h ready = tt
vector-goes s at (Some (d ∷ ds)) h ready = goes_with s (Vector at (d ∷ ds)) h (ready, omega arith)

command-goes : (s : State) (at : ℕ) (k : Keyword) → IsSound s → GoesOn s (command s at k)
command-goes s at Scope h = tt
command-goes s at Upscope h = tt
command-goes s at Var h = tt
command-goes s at EndDefinitions h = tt
command-goes s at End h = goes_same s s h refl refl refl
command-goes s at Dump h = goes_same s s h refl refl refl
command-goes s at Other h = goes_with s (Skipped at) h tt

body-goes : (s : State) (at : ℕ) (text : List ℕ) → IsSound s → s.is_declared ≡ true → GoesOn s (body s at text)
body-goes s at [] h ready = tt
body-goes s at (b ∷ bs) h ready =
    goes_if s (b == number_sign) _ _ (λ _. time_of-goes s at (number bs) h ready) (λ _.
    goes_if s (is_one_of (codes "bB") b) _ _ (λ _. vector-goes s at (digits bs) h ready) (λ _.
    goes_if s (is_one_of (codes "rRsS") b) _ _ (λ _. goes_with s (Passed at) h tt) (λ _.
    goes_if s (b == dollar_sign) _ _ (λ _. command-goes s at (keyword (b ∷ bs)) h) (λ _. scalar-goes s at (digit b) bs h ready))))

-- ---- one token

in_part-goes : (part : Part) (s : State) (t : Token) → IsSound s → IsPlaced part s.is_declared → ((d : Bool) → IsPlaced s.part d) → GoesOn s (in_part part s t)
in_part-goes Nothing s t h p clear =
    goes_if s s.is_declared _ _ (λ ready. body-goes s t.at t.text h ready)
    (λ not. goes_if s (is_command t.text) _ _ (λ _. opened-goes s t.at (keyword t.text) h not) (λ _. tt))
in_part-goes (Block at k words) s t h p clear =
    goes_if s (is_end t.text) _ _ (λ _. block-goes s at k words h p (clear true)) (λ _. goes_with s (Block at k (kept words t.text)) h p)
in_part-goes (Skipped at) s t h p clear = goes_if s (is_end t.text) _ _ (λ _. goes_same s s h refl refl refl) (λ _. goes_with s (Skipped at) h tt)
in_part-goes (Vector at ds) s t h p clear = change-goes s at ds t.at t.text h p.0 p.1
in_part-goes (Passed at) s t h p clear = goes_same s s h refl refl refl

pub step-goes : (s : State) (t : Token) → IsSound s → GoesOn (with_part s Nothing) (step s t)
step-goes s t h = in_part-goes s.part (with_part s Nothing) t (record { consistent = h.consistent; sizes = h.sizes; placed = tt }) h.placed (λ d. tt)
