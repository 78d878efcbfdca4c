-- What the header says.
use Rattle.std.proofs.Common.{◌≡◌, ◌+◌, ◌<◌, ◌≤◌, ◌==◌, ℕ, Bool, true, false, cond, List, [], ◌∷◌, ◌++◌, length, map, Some, None, refl, sym, ap, ◌∙◌, append_assoc, arith, lit≤}
use Rattle.std.specs.Prelude.{codes, nat_le}
use Rattle.std.specs.Str.{bytes_eq, is_utf8}
use Rattle.std.specs.List.{flat_map}
use Rattle.std.specs.Int.Digits.{digits_of}
use Rattle.std.proofs.lemmas.Bool.Decides.{nat_tests}
use Rattle.std.proofs.lemmas.List.{append-nil, length-append}
use Rattle.xif_base.specs.declared.params.Params.{Params}
use Rattle.xif_base.specs.Params.{IsInRange}
use Rattle.xif_signals.specs.declared.signal.Signal.{Signal}
use Rattle.xif_signals.specs.Signal.{signal_number, code_of, name_of, width_of}
use Rattle.vcd_text.specs.declared.keyword.Keyword.TheVariants.{Var}
use Rattle.vcd_text.specs.declared.state.Part.TheVariants.{Nothing, Block}
use Rattle.vcd_text.specs.declared.state.State.{State}
use Rattle.vcd_text.specs.declared.declaration.Variable.{Variable}
use Rattle.vcd_text.specs.Words.{is_end, is_code}
use Rattle.vcd_text.specs.Codes.{Code, code_from}
use Rattle.vcd_text.specs.Grammar.{goes, block, with_part, kept, var_sized, var_at}
use Rattle.vcd_text.specs.Written.{numeral, with_space, with_line_end, var_line, header_text, wires_of, variables_from}
use Rattle.vcd_text.proofs.CodeTable.{other_code, this_code}
use Rattle.vcd_text.proofs.Says.{Says, said, says-then, says-to, says-word, says-nothing}
use Rattle.vcd_text.proofs.Numerals.{numeral_word, number_numeral, some_digits}
use Rattle.vcd_text.proofs.SaidLines.{in_body}
use Rattle.vcd_text.proofs.Table.{utf8, IsPlain, is_declarable_lem, codes_same, width_fits, Rise}

abbrev scope_name : List ℕ
scope_name = codes "xif"

-- among the declarations, outside a part
abbrev pub declaring : List (List ℕ) → List Code → List Variable → State
declaring scopes cs vs = record { scopes = scopes; codes = cs; variables = vs; is_declared = false; time = 0; part = Nothing }

-- inside the scope
abbrev pub inside : List Code → List Variable → State
inside cs vs = declaring (scope_name ∷ []) cs vs

abbrev pub code : Params → Signal → Code
code p s = record { text = code_of s; size = width_of s p }

abbrev pub codes_of : Params → List Signal → List Code
codes_of p ss = map (code p) ss

abbrev variable : Params → ℕ → Signal → Variable
variable p k s = record { name = codes "xif." ++ name_of s; code = k; size = width_of s p }

says-timescale : (at : ℕ) → Says at (declaring [] [] []) (codes "$timescale 1 ns $end\n") (declaring [] [] []) []
says-timescale at = record { whole = refl; read = refl }

says-scope : (at : ℕ) → Says at (declaring [] [] []) (codes "$scope module xif $end\n") (inside [] []) []
says-scope at = let e : is_utf8 scope_name ≡ true = utf8 scope_name refl in record { whole = refl; read = rw e (refl {a = said (inside [] []) []}) }

says-upscope : (at : ℕ) (cs : List Code) (vs : List Variable) → Says at (inside cs vs) (codes "$upscope $end\n") (declaring [] cs vs) []
says-upscope at cs vs = record { whole = refl; read = refl }

says-end : (at : ℕ) (cs : List Code) (vs : List Variable) → Says at (declaring [] cs vs) (codes "$enddefinitions $end\n") (in_body cs vs 0) []
says-end at cs vs = record { whole = refl; read = refl }

-- ---- the size is a word that doesn't end a block

end_no : (b : ℕ) (w : List ℕ) → 48 ≤ b → is_end (b ∷ w) ≡ false
end_no b w h = grind (arith, nat_tests)

end_shown : (ds : List ℕ) → 0 < length ds → is_end (map (λ d. 48 + d) ds) ≡ false
end_shown [] h = absurd (omega arith)
end_shown (d ∷ ds) h = end_no (48 + d) (map (λ d. 48 + d) ds) (omega arith)

end_numeral_by : (n : ℕ) (x : Bool) → (n == 0) ≡ x → is_end (numeral 10 n) ≡ false
end_numeral_by n true e = rw e refl
end_numeral_by n false e = rw e (end_shown (digits_of 10 n) (some_digits 10 n (omega arith) (grind (arith, nat_tests))))

numeral_plain : (n : ℕ) → IsPlain (numeral 10 n)
numeral_plain n = record { word = numeral_word 10 n (lit≤ tt); ends = end_numeral_by n (n == 0) refl }

-- ---- one variable

abbrev in_var : State → ℕ → List (List ℕ) → State
in_var s at words = with_part s (Block at Var words)

-- a further word of a block
says-more : (at n : ℕ) (s : State) (words : List (List ℕ)) (w : List ℕ) → IsPlain w → Says n (in_var s at words) (with_space w) (in_var s at (kept words w)) []
says-more at n s words w h =
    says-word n (in_var s at words) (in_var s at (kept words w)) w 32 None h.word refl
    (ap (λ x. cond x (block (with_part s Nothing) at Var words) (goes (in_var s at (kept words w)))) h.ends)

small : (w : ℕ) → w ≤ 64 → nat_le w 1048576 ≡ true
small w h = grind (arith, nat_tests)

-- size, code and name may stand so
sized : (s : State) (at w : ℕ) (text name : List ℕ) → w ≤ 64 → is_code text ≡ true → is_utf8 name ≡ true → var_sized s at text name (Some w) ≡ var_at s at text w name (code_from 0 text s.codes)
sized s at w text name h c u = rw (small w h, c, u) refl

abbrev declared_as : Params → ℕ → Signal → List Code → List Variable → State
declared_as p k s cs vs = inside (cs ++ code p s ∷ []) (vs ++ variable p k s ∷ [])

declares : (p : Params) (cs : List Code) (vs : List Variable) (at k : ℕ) (s : Signal) → width_of s p ≤ 64 → length cs ≡ k → code_from 0 (code_of s) cs ≡ None
    → var_sized (inside cs vs) at (code_of s) (name_of s) (Some (width_of s p)) ≡ goes (declared_as p k s cs vs)
declares p cs vs at k s h l e =
    let d = is_declarable_lem s in
    sized (inside cs vs) at (width_of s p) (code_of s) (name_of s) h d.code_fits d.name_fits
    ∙ ap (var_at (inside cs vs) at (code_of s) (width_of s p) (name_of s)) e
    ∙ ap (λ (n : ℕ). goes (inside (cs ++ code p s ∷ []) (vs ++ variable p n s ∷ []))) l

says-var : (p : Params) (at : ℕ) (cs : List Code) (vs : List Variable) (k : ℕ) (s : Signal) → width_of s p ≤ 64 → length cs ≡ k → code_from 0 (code_of s) cs ≡ None
    → Says at (inside cs vs) (var_line p s) (declared_as p k s cs vs) []
says-var p at cs vs k sig h l e =
    let s = inside cs vs in
    let t = declared_as p k sig cs vs in
    let d = is_declarable_lem sig in
    let w = width_of sig p in
    let one = with_space (codes "$var") in
    let two = with_space (codes "wire") in
    let three = with_space (numeral 10 w) in
    let four = with_space (code_of sig) in
    let five = with_space (name_of sig) in
    let six = with_line_end (codes "$end") in
    let n1 = at + length one in
    let n2 = n1 + length two in
    let n3 = n2 + length three in
    let n4 = n3 + length four in
    let n5 = n4 + length five in
    let w1 : List (List ℕ) = codes "wire" ∷ [] in
    let w2 : List (List ℕ) = codes "wire" ∷ numeral 10 w ∷ [] in
    let w3 : List (List ℕ) = codes "wire" ∷ numeral 10 w ∷ code_of sig ∷ [] in
    let w4 : List (List ℕ) = codes "wire" ∷ numeral 10 w ∷ code_of sig ∷ name_of sig ∷ [] in
    let ends : Says n5 (in_var s at w4) six t [] =
    says-word n5 (in_var s at w4) t (codes "$end") 10 None (record { some = lit≤ tt; inked = refl }) refl
    (ap (var_sized s at (code_of sig) (name_of sig)) (number_numeral w (omega arith)) ∙ declares p cs vs at k sig h l e) in
    says-then at s (in_var s at []) t one (two ++ (three ++ (four ++ (five ++ six)))) [] [] (says-word at s (in_var s at []) (codes "$var") 32 None (record { some = lit≤ tt; inked = refl }) refl refl)
    (says-then n1 (in_var s at []) (in_var s at w1) t two (three ++ (four ++ (five ++ six))) [] [] (says-more at n1 s [] (codes "wire") (record { word = record { some = lit≤ tt; inked = refl }; ends = refl }))
    (says-then n2 (in_var s at w1) (in_var s at w2) t three (four ++ (five ++ six)) [] [] (says-more at n2 s w1 (numeral 10 w) (numeral_plain w))
    (says-then n3 (in_var s at w2) (in_var s at w3) t four (five ++ six) [] [] (says-more at n3 s w2 (code_of sig) d.code)
    (says-then n4 (in_var s at w3) (in_var s at w4) t five six [] [] (says-more at n4 s w3 (name_of sig) d.name) ends))))

-- ---- all variables

-- no code of a signal from a number on is among the codes
abbrev Fresh : ℕ → List Code → Type 0
Fresh n cs = (s : Signal) → n ≤ signal_number s → code_from 0 (code_of s) cs ≡ None

behind_by : (n : ℕ) (text : List ℕ) (c : Code) (cs ds : List Code) (x : Bool) → bytes_eq text c.text ≡ x → (code_from (n + 1) text cs ≡ None → code_from (n + 1) text (cs ++ ds) ≡ code_from (n + 1 + length cs) text ds) → code_from n text (c ∷ cs) ≡ None → code_from n text (c ∷ (cs ++ ds)) ≡ code_from (n + length (c ∷ cs)) text ds
behind_by n text c cs ds true g h e = absurd (let f = sym (this_code n text c cs g) ∙ e in cc)
behind_by n text c cs ds false g h e =
    other_code n text c (cs ++ ds) g ∙ h (sym (other_code n text c cs g) ∙ e) ∙ ap (λ m. code_from m text ds) (omega arith)

-- behind codes among which it isn't
behind : (n : ℕ) (text : List ℕ) (cs ds : List Code) → code_from n text cs ≡ None → code_from n text (cs ++ ds) ≡ code_from (n + length cs) text ds
behind n text [] ds e = ap (λ m. code_from m text ds) (omega arith)
behind n text (c ∷ cs) ds e = behind_by n text c cs ds (bytes_eq text c.text) refl (behind (n + 1) text cs ds) e

code_push : (text : List ℕ) (cs : List Code) (d : Code) → bytes_eq text d.text ≡ false → code_from 0 text cs ≡ None → code_from 0 text (cs ++ d ∷ []) ≡ None
code_push text cs d g e = behind 0 text cs (d ∷ []) e ∙ other_code (0 + length cs) text d [] g

apart : (m n : ℕ) → n + 1 ≤ m → (m == n) ≡ false
apart m n h = grind (arith, nat_tests)

fresh-push : (p : Params) (n : ℕ) (s : Signal) (cs : List Code) → n ≤ signal_number s → Fresh n cs → Fresh (signal_number s + 1) (cs ++ code p s ∷ [])
fresh-push p n s cs le h other above = code_push (code_of other) cs (code p s) (codes_same other s ∙ apart (signal_number other) (signal_number s) above) (h other (omega arith))

says-vars : (p : Params) → IsInRange p → (at : ℕ) (cs : List Code) (vs : List Variable) (k n : ℕ) (ss : List Signal) → length cs ≡ k → Rise n ss → Fresh n cs
    → Says at (inside cs vs) (flat_map (var_line p) ss) (inside (cs ++ codes_of p ss) (vs ++ variables_from p k ss)) []
says-vars p r at cs vs k n [] l rise fresh =
    says-to at _ _ _ [] [] (ap (λ (c : List Code). inside c vs) (sym (append-nil cs)) ∙ ap (inside (cs ++ [])) (sym (append-nil vs))) (says-nothing at (inside cs vs))
says-vars p r at cs vs k n (s ∷ ss) l rise fresh =
    let m = declared_as p k s cs vs in
    let t = inside ((cs ++ code p s ∷ []) ++ codes_of p ss) ((vs ++ variable p k s ∷ []) ++ variables_from p (k + 1) ss) in
    says-to at (inside cs vs) t _ (flat_map (var_line p) (s ∷ ss)) []
    (ap (λ (c : List Code). inside c ((vs ++ variable p k s ∷ []) ++ variables_from p (k + 1) ss)) (append_assoc cs (code p s ∷ []) (codes_of p ss))
    ∙ ap (inside (cs ++ codes_of p (s ∷ ss))) (append_assoc vs (variable p k s ∷ []) (variables_from p (k + 1) ss)))
    (says-then at (inside cs vs) m t (var_line p s) (flat_map (var_line p) ss) [] []
    (says-var p at cs vs k s (width_fits p r s) l (fresh s rise.0))
    (says-vars p r (at + length (var_line p s)) (cs ++ code p s ∷ []) (vs ++ variable p k s ∷ []) (k + 1) (signal_number s + 1) ss (omega (arith, length-append cs (code p s ∷ []))) rise.1 (fresh-push p n s cs rise.0 fresh)))

-- ---- the header

pub says-header : (p : Params) → IsInRange p → Rise 0 (wires_of p) → Says 0 (declaring [] [] []) (header_text p) (in_body (codes_of p (wires_of p)) (variables_from p 0 (wires_of p)) 0) []
says-header p r rise =
    let one = codes "$timescale 1 ns $end\n" in
    let two = codes "$scope module xif $end\n" in
    let three = flat_map (var_line p) (wires_of p) in
    let four = codes "$upscope $end\n" in
    let five = codes "$enddefinitions $end\n" in
    let cs = codes_of p (wires_of p) in
    let vs = variables_from p 0 (wires_of p) in
    let t = in_body cs vs 0 in
    let n1 = 0 + length one in
    let n2 = n1 + length two in
    let n3 = n2 + length three in
    let n4 = n3 + length four in
    says-then 0 (declaring [] [] []) (declaring [] [] []) t one (two ++ (three ++ (four ++ five))) [] [] (says-timescale 0)
    (says-then n1 (declaring [] [] []) (inside [] []) t two (three ++ (four ++ five)) [] [] (says-scope n1)
    (says-then n2 (inside [] []) (inside cs vs) t three (four ++ five) [] [] (says-vars p r n2 [] [] 0 0 (wires_of p) refl rise (λ s le. refl))
    (says-then n3 (inside cs vs) (declaring [] cs vs) t four five [] [] (says-upscope n3 cs vs) (says-end n4 cs vs))))

-- ---- a code is found at its place

-- signals are found from a place on
pub record FoundFirst (cs : List Code) (p : Params) (k : ℕ) (s : Signal) : Type 0 where
  pub place : code_from 0 (code_of s) cs ≡ Some (k, width_of s p)

abbrev pub Found : List Code → Params → ℕ → List Signal → Type 0
Found cs p k [] = Unit {0}
Found cs p k (s ∷ ss) = FoundFirst cs p k s × Found cs p (k + 1) ss

itself : (n : ℕ) → (n == n) ≡ true
itself n = grind (arith, nat_tests)

found_first : (p : Params) (cs : List Code) (s : Signal) (ds : List Code) → code_from 0 (code_of s) cs ≡ None → code_from 0 (code_of s) (cs ++ code p s ∷ ds) ≡ Some (length cs, width_of s p)
found_first p cs s ds e =
    behind 0 (code_of s) cs (code p s ∷ ds) e
    ∙ this_code (0 + length cs) (code_of s) (code p s) ds (codes_same s s ∙ itself (signal_number s))
    ∙ ap (λ (m : ℕ). Some (m, width_of s p)) (omega arith)

pub found_from : (p : Params) (cs all : List Code) (k n : ℕ) (ss : List Signal) → length cs ≡ k → Rise n ss → Fresh n cs → all ≡ cs ++ codes_of p ss → Found all p k ss
found_from p cs all k n [] l rise fresh e = tt
found_from p cs all k n (s ∷ ss) l rise fresh e = (
  record { place = ap (code_from 0 (code_of s)) e ∙ found_first p cs s (codes_of p ss) (fresh s rise.0) ∙ ap (λ (m : ℕ). Some (m, width_of s p)) l },
  found_from p (cs ++ code p s ∷ []) all (k + 1) (signal_number s + 1) ss (omega (arith, length-append cs (code p s ∷ []))) rise.1 (fresh-push p n s cs rise.0 fresh)
      (e ∙ sym (append_assoc cs (code p s ∷ []) (codes_of p ss))),
)

pub wires_found : (p : Params) → Rise 0 (wires_of p) → Found (codes_of p (wires_of p)) p 0 (wires_of p)
wires_found p rise = found_from p [] (codes_of p (wires_of p)) 0 0 (wires_of p) refl rise (λ s le. refl) refl
