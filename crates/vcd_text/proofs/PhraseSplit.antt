-- The tokens of every text are a row of well-formed phrases, or have a fault behind one.
use Rattle.std.proofs.Common.{◌≡◌, ◌⊎◌, ℕ, ◌&&◌, ◌||◌, ◌==◌, Bool, true, false, not, cond, List, [], ◌∷◌, ◌++◌, length, Result, Ok, Err, inl, inr, refl, sym, ap, ◌∙◌, subst, append_assoc}
use Rattle.std.specs.Prelude.{codes}
use Rattle.std.proofs.lemmas.Bool.{eqb-true}
use Rattle.std.proofs.lemmas.List.{append-nil, map-append}
use Rattle.xif_base.specs.Checks.{first_failing}
use Rattle.vcd_text.specs.declared.fault.VcdCause.{VcdCause}
use Rattle.vcd_text.specs.declared.fault.VcdCause.TheVariants.{OpenBlock, NoDefinitionsEnd}
use Rattle.vcd_text.specs.declared.fault.VcdFault.{VcdFault}
use Rattle.vcd_text.specs.declared.keyword.Keyword.{Keyword}
use Rattle.vcd_text.specs.declared.keyword.Keyword.TheVariants.{Scope, Upscope, Var, EndDefinitions, End, Dump, Other}
use Rattle.vcd_text.specs.Words.{digit, digits, keyword, is_command, is_end, is_one_of, number_sign, dollar_sign}
use Rattle.vcd_text.specs.Tokens.{Token}
use Rattle.vcd_text.specs.Reading.{Reading, reading_of}
use Rattle.vcd_text.specs.Phrases.{Phrase, ScopeBlock, UpscopeBlock, VarBlock, EndDefinitionsBlock, OtherBlock, SimulationTime, ScalarChange, VectorChange, PassedChange, SimulationKeyword, StrayToken, Context, HasForm, PlacedPhrase, IsPhrase, IsWellFormed, AreWellFormed, HasFault, IsRowOf, FailsBehind, tokens_of, block_tokens, is_other, is_declaring, is_simulation_keyword, has_digits, has_digit_and_code, opens_block, opens_change, is_single, are_block_words, demands, first_context, after, after_all, all_say, tokens_in, tokens_of_text, fault_place}
use Rattle.vcd_text.proofs.PhraseSteps.{texts, both, negated, Spelled, spelled, end-is}
use Rattle.vcd_text.proofs.PhraseReads.{either}
use Rattle.vcd_text.proofs.PhraseRows.{row-reading, row-fault}

-- ---- what a split of tokens is

record Whole (c : Context) (ts : List Token) : Type 0 where
  row : List PlacedPhrase
  tokens : ts ≡ tokens_in row
  formed : AreWellFormed c row
  declared : (after_all c row).is_declared ≡ true

record Stops (c : Context) (ts : List Token) (end : ℕ) : Type 0 where
  row : List PlacedPhrase
  rest : List Token
  f : VcdFault
  tokens : ts ≡ tokens_in row ++ rest
  formed : AreWellFormed c row
  fault : HasFault (after_all c row) rest end f

abbrev Splits : Context → List Token → ℕ → Type 0
Splits c ts end = Whole c ts ⊎ Stops c ts end

stops-here : (c : Context) (ts : List Token) (end : ℕ) (f : VcdFault) → HasFault c ts end f → Splits c ts end
stops-here c ts end f h = inr (record { row = []; rest = ts; f = f; tokens = refl; formed = tt; fault = h })

-- a well-formed phrase, and what follows it
splits-then : (c : Context) (p : PlacedPhrase) (ts : List Token) (end : ℕ) → IsWellFormed c p → Splits (after c p.phrase) ts end → Splits c (p.tokens ++ ts) end
splits-then c p ts end h (inl w) = inl (record {
  row = p ∷ w.row;
  tokens = ap (λ us. p.tokens ++ us) w.tokens;
  formed = (h, w.formed);
  declared = w.declared;
})
splits-then c p ts end h (inr s) = inr (record {
  row = p ∷ s.row;
  rest = s.rest;
  f = s.f;
  tokens = ap (λ us. p.tokens ++ us) s.tokens ∙ sym (append_assoc p.tokens (tokens_in s.row) s.rest);
  formed = (h, s.formed);
  fault = s.fault;
})

-- a phrase, well formed or not
splits-phrase : (c : Context) (p : PlacedPhrase) (ts : List Token) (end : ℕ) → IsPhrase c p → Splits (after c p.phrase) ts end → Splits c (p.tokens ++ ts) end
splits-phrase c p ts end h more = by (first_failing (demands c p.phrase)) refl
  where
    by : (r : Result Unit VcdCause) → first_failing (demands c p.phrase) ≡ r → Splits c (p.tokens ++ ts) end
    by (Ok u) e = splits-then c p ts end (record { phrase = h; met = e }) more
    by (Err cause) e =
        stops-here c (p.tokens ++ ts) end (record { at = fault_place cause p.tokens; cause = cause })
        (inl (record { next = p; more = ts; tokens = refl; phrase = h; cause = e; at = refl }))

-- ---- the forms of tokens

-- these are a phrase's tokens, and it may stand there
record Forms (is_declared : Bool) (words : List (List ℕ)) : Type 0 where
  phrase : Phrase
  spelled : words ≡ tokens_of phrase
  form : HasForm is_declared phrase

declaring-forms : (d : Bool) (w : List ℕ) (words : List (List ℕ)) (k : Keyword) → d ≡ false → Spelled k w → is_declaring k ≡ true → are_block_words words ≡ true → Forms d (block_tokens w words)
declaring-forms d w words Scope e s o h = record { phrase = ScopeBlock words; spelled = ap (λ x. block_tokens x words) s; form = (e, h) }
declaring-forms d w words Upscope e s o h = record { phrase = UpscopeBlock words; spelled = ap (λ x. block_tokens x words) s; form = (e, h) }
declaring-forms d w words Var e s o h = record { phrase = VarBlock words; spelled = ap (λ x. block_tokens x words) s; form = (e, h) }
declaring-forms d w words EndDefinitions e s o h = record { phrase = EndDefinitionsBlock words; spelled = ap (λ x. block_tokens x words) s; form = (e, h) }
declaring-forms d w words End e s o h = absurd cc
declaring-forms d w words Dump e s o h = absurd cc
declaring-forms d w words Other e s o h = absurd cc

block-forms : (d : Bool) (w : List ℕ) (words : List (List ℕ)) → opens_block d w ≡ true → are_block_words words ≡ true → Forms d (block_tokens w words)
block-forms d w words o h =
    let e = both (is_command w) (is_other d (keyword w) || (not d && is_declaring (keyword w))) o in
    elim (either (is_other d (keyword w)) (not d && is_declaring (keyword w)) e.1) as (λ _. Forms d (block_tokens w words)) [
      | inl other ↦ record { phrase = OtherBlock w words; spelled = refl; form = (e.0, other, h) }
      | inr declares ↦
          let x = both (not d) (is_declaring (keyword w)) declares in
          declaring-forms d w words (keyword w) (negated d x.0) (spelled w) x.1 h
    ]

change-forms : (d : Bool) (w code : List ℕ) → d ≡ true → opens_change w ≡ true → Forms d (w ∷ code ∷ [])
change-forms d [] code e o = absurd cc
change-forms d (b ∷ bs) code e o = by (is_one_of (codes "bB") b) refl o
  where
    by : (v : Bool) → is_one_of (codes "bB") b ≡ v → cond v (has_digits (digits bs)) (is_one_of (codes "rRsS") b) ≡ true → Forms d ((b ∷ bs) ∷ code ∷ [])
    by true x h = record { phrase = VectorChange b bs code; spelled = refl; form = (e, x, h) }
    by false x h = record { phrase = PassedChange b bs code; spelled = refl; form = (e, h) }

single-forms : (d : Bool) (w : List ℕ) → d ≡ true → is_single w ≡ true → Forms d (w ∷ [])
single-forms d [] e o = absurd cc
single-forms d (b ∷ bs) e o = by (b == number_sign) (b == dollar_sign) refl refl o
  where
    by : (x y : Bool) → (b == number_sign) ≡ x → (b == dollar_sign) ≡ y
        → cond x true (cond y (is_simulation_keyword (keyword (b ∷ bs))) (has_digit_and_code (digit b) bs)) ≡ true → Forms d ((b ∷ bs) ∷ [])
    by true y f g h = record { phrase = SimulationTime bs; spelled = ap (λ (n : ℕ). (n ∷ bs) ∷ []) (eqb-true b number_sign f); form = e }
    by false true f g h = record { phrase = SimulationKeyword (b ∷ bs); spelled = refl; form = (e, g, h) }
    by false false f g h = record { phrase = ScalarChange b bs; spelled = refl; form = (e, h) }

-- ---- one token more

-- what is open between tokens: nothing, a block and its words so far, or the first token of a change
data Pending : Type 0 where
  Idle : Pending
  InBlock : (first : Token) (words : List Token) → Pending
  InChange : (first : Token) → Pending

abbrev front_of : Pending → List Token
front_of Idle = []
front_of (InBlock first words) = first ∷ words
front_of (InChange first) = first ∷ []

abbrev IsPending : Context → Pending → Type 0
IsPending c Idle = Unit {0}
IsPending c (InBlock first words) = (opens_block c.is_declared first.text ≡ true) × (are_block_words (texts words) ≡ true)
IsPending c (InChange first) = (c.is_declared ≡ true) × (opens_change first.text ≡ true)

-- the tokens that follow, from any context and whatever is open
abbrev Follow : List Token → ℕ → Type 0
Follow ts end = (c : Context) (p : Pending) → IsPending c p → Splits c (front_of p ++ ts) end

of-form : (c : Context) (tokens ts : List Token) (end : ℕ) → Forms c.is_declared (texts tokens) → Follow ts end → Splits c (tokens ++ ts) end
of-form c tokens ts end f h =
    splits-phrase c (record { phrase = f.phrase; tokens = tokens }) ts end (record { spelled = f.spelled; form = f.form })
    (h (after c f.phrase) Idle tt)

stray-forms : (d : Bool) (w : List ℕ) → opens_block d w ≡ false → (d && (opens_change w || is_single w)) ≡ false → Forms d (w ∷ [])
stray-forms d w e f = record {
  phrase = StrayToken w;
  spelled = refl;
  form = ap (λ x. not x && not (d && (opens_change w || is_single w))) e ∙ ap (λ x. not false && not x) f;
}

splits-idle : (c : Context) (t : Token) (ts : List Token) (end : ℕ) → Follow ts end → Splits c (t ∷ ts) end
splits-idle c t ts end h = by (opens_block c.is_declared t.text) c.is_declared (opens_change t.text) (is_single t.text) refl refl refl refl
  where
    by : (o d x y : Bool) → opens_block c.is_declared t.text ≡ o → c.is_declared ≡ d → opens_change t.text ≡ x → is_single t.text ≡ y → Splits c (t ∷ ts) end
    by true d x y e f g k = h c (InBlock t []) (e, refl)
    by false true true y e f g k = h c (InChange t) (f, g)
    by false true false true e f g k = of-form c (t ∷ []) ts end (single-forms c.is_declared t.text f k) h
    by false true false false e f g k =
        of-form c (t ∷ []) ts end (stray-forms c.is_declared t.text e (ap (λ d. d && (opens_change t.text || is_single t.text)) f ∙ ap (λ x. x || is_single t.text) g ∙ k)) h
    by false false x y e f g k =
        of-form c (t ∷ []) ts end (stray-forms c.is_declared t.text e (ap (λ d. d && (opens_change t.text || is_single t.text)) f)) h

words-push : (words : List (List ℕ)) (w : List ℕ) → are_block_words words ≡ true → is_end w ≡ false → are_block_words (words ++ w ∷ []) ≡ true
words-push [] w h e = ap (λ x. not x && true) e
words-push (v ∷ words) w h e =
    let x = both (not (is_end v)) (are_block_words words) h in
    ap (λ y. y && are_block_words (words ++ w ∷ [])) x.0 ∙ words-push words w x.1 e

texts-push : (words : List Token) (t : Token) → texts (words ++ t ∷ []) ≡ texts words ++ t.text ∷ []
texts-push words t = map-append (λ (t : Token). t.text) words (t ∷ [])

splits-block : (c : Context) (first : Token) (words : List Token) (t : Token) (ts : List Token) (end : ℕ) → IsPending c (InBlock first words) → Follow ts end
    → Splits c (first ∷ (words ++ t ∷ ts)) end
splits-block c first words t ts end h next =
    subst (λ us. Splits c (first ∷ us) end) (append_assoc words (t ∷ []) ts) (by (is_end t.text) refl)
  where
    by : (x : Bool) → is_end t.text ≡ x → Splits c (first ∷ ((words ++ t ∷ []) ++ ts)) end
    by true e =
        let f = block-forms c.is_declared first.text (texts words) h.0 h.1 in
        let same : texts (first ∷ (words ++ t ∷ [])) ≡ block_tokens first.text (texts words) =
        ap (λ ws. first.text ∷ ws) (texts-push words t ∙ ap (λ w. texts words ++ w ∷ []) (end-is t.text e)) in
        of-form c (first ∷ (words ++ t ∷ [])) ts end (record { phrase = f.phrase; spelled = same ∙ f.spelled; form = f.form }) next
    by false e = next c (InBlock first (words ++ t ∷ [])) (h.0, ap are_block_words (texts-push words t) ∙ words-push (texts words) t.text h.1 e)

splits-next : (t : Token) (ts : List Token) (end : ℕ) → Follow ts end → Follow (t ∷ ts) end
splits-next t ts end h c Idle p = splits-idle c t ts end h
splits-next t ts end h c (InBlock first words) p = splits-block c first words t ts end p h
splits-next t ts end h c (InChange first) p = of-form c (first ∷ t ∷ []) ts end (change-forms c.is_declared first.text t.text p.0 p.1) h

splits-end : (end : ℕ) → Follow [] end
splits-end end c Idle p = by c.is_declared refl
  where
    by : (d : Bool) → c.is_declared ≡ d → Splits c [] end
    by true e = inl (record { row = []; tokens = refl; formed = tt; declared = e })
    by false e =
        stops-here c [] end (record { at = end; cause = NoDefinitionsEnd })
        (inr (inr (record { tokens = refl; not = e; fault = refl })))
splits-end end c (InBlock first words) p =
    stops-here c ((first ∷ words) ++ []) end (record { at = first.at; cause = OpenBlock })
    (inr (inl (record { first = first; words = words; tokens = append-nil (first ∷ words); lacks = inl (p.0, p.1); fault = refl })))
splits-end end c (InChange first) p =
    stops-here c (first ∷ []) end (record { at = first.at; cause = OpenBlock })
    (inr (inl (record { first = first; words = []; tokens = refl; lacks = inr (p.0, p.1, refl); fault = refl })))

splits : (ts : List Token) (end : ℕ) → Follow ts end
splits [] end = splits-end end
splits (t ∷ ts) end = splits-next t ts end (splits ts end)

-- ---- the law

split-of : (text : List ℕ) → Splits first_context (tokens_of_text text) (length text)
split-of text = splits (tokens_of_text text) (length text) first_context Idle tt

pub reading-row : (text : List ℕ) (r : Reading) → reading_of text ≡ Ok r → (row : List PlacedPhrase) × IsRowOf text row r
reading-row text r e = elim (split-of text) as (λ _. (row : List PlacedPhrase) × IsRowOf text row r) [
  | inl w ↦
      let read : Reading = record { variables = (after_all first_context w.row).variables; items = all_say first_context w.row } in
      let is = row-reading text w.row read (record { tokens = w.tokens; formed = w.formed; declared = w.declared; said = refl }) in
      let same : r ≡ read = cc in
      (w.row, record { tokens = w.tokens; formed = w.formed; declared = w.declared; said = same })
  | inr s ↦
      let is = row-fault text s.row s.f (record { rest = s.rest; tokens = s.tokens; formed = s.formed; fault = s.fault }) in
      absurd cc
]

pub fault-row : (text : List ℕ) (f : VcdFault) → reading_of text ≡ Err f → (row : List PlacedPhrase) × FailsBehind text row f
fault-row text f e = elim (split-of text) as (λ _. (row : List PlacedPhrase) × FailsBehind text row f) [
  | inl w ↦
      let read : Reading = record { variables = (after_all first_context w.row).variables; items = all_say first_context w.row } in
      let is = row-reading text w.row read (record { tokens = w.tokens; formed = w.formed; declared = w.declared; said = refl }) in
      absurd cc
  | inr s ↦
      let fails : FailsBehind text s.row s.f = record { rest = s.rest; tokens = s.tokens; formed = s.formed; fault = s.fault } in
      let is = row-fault text s.row s.f fails in
      let same : s.f ≡ f = cc in
      (s.row, subst (FailsBehind text s.row) same fails)
]
