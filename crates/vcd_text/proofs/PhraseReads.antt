-- The tokens of a whole phrase are read as the grammar says.
use Rattle.std.proofs.Common.{◌≡◌, ◌⊎◌, ℕ, ◌&&◌, ◌||◌, Bool, true, false, not, cond, List, [], ◌∷◌, ◌++◌, take, Some, inl, inr, refl, sym, ap, ◌∙◌, subst}
use Rattle.std.specs.Prelude.{unwrap_or, codes}
use Rattle.std.specs.List.{fold}
use Rattle.xif_base.specs.Checks.{first_failing}
use Rattle.vcd_text.specs.declared.fault.VcdCause.TheVariants.{BadToken, OpenBlock}
use Rattle.vcd_text.specs.declared.fault.VcdFault.{VcdFault}
use Rattle.vcd_text.specs.declared.item.Item.{Item}
use Rattle.vcd_text.specs.declared.keyword.Keyword.{Keyword}
use Rattle.vcd_text.specs.declared.keyword.Keyword.TheVariants.{Scope, Upscope, Var, EndDefinitions, End, Dump, Other}
use Rattle.vcd_text.specs.declared.state.Part.{Part}
use Rattle.vcd_text.specs.declared.state.Part.TheVariants.{Block, Skipped, Vector, Passed}
use Rattle.vcd_text.specs.declared.state.State.{State}
use Rattle.vcd_text.specs.Words.{number, digit, digits, keyword, is_command, is_end, is_one_of, number_sign}
use Rattle.vcd_text.specs.Tokens.{Token}
use Rattle.vcd_text.specs.Codes.{code_from}
use Rattle.vcd_text.specs.Grammar.{fault, goes, with_part, change, block, opened, declaration, in_part, step}
use Rattle.vcd_text.specs.Reading.{go, moved, fault_in}
use Rattle.vcd_text.specs.Phrases.{Phrase, ScopeBlock, UpscopeBlock, VarBlock, EndDefinitionsBlock, OtherBlock, SimulationTime, ScalarChange, VectorChange, PassedChange, SimulationKeyword, StrayToken, Context, HasForm, PlacedPhrase, IsPhrase, IsUnfinished, tokens_of, block_tokens, is_other, is_declaring, has_digits, opens_block, opens_change, is_stray, are_block_words, value_of, demands}
use Rattle.vcd_text.proofs.Says.{said}
use Rattle.vcd_text.proofs.PhraseSteps.{state_of, texts, outcome, both, negated, kept_all, quiet, moved-open, step-declares, step-body, in_block, in_skipped, block-read, skip-read, scope-is, upscope-is, var-is, dollar-command, other-step, stands-command, time-is, change-is, scalar-body, scalar-is, vector-opens, vector-body, passed-body, stray-step}

-- ---- the tokens of a phrase apart

split_one : (ts : List Token) (w : List ℕ) → texts ts ≡ w ∷ [] → (t : Token) × (ts ≡ t ∷ []) × (t.text ≡ w)
split_one [] w e = absurd cc
split_one (t ∷ []) w e = (t, refl, (cc))
split_one (t ∷ u ∷ ts) w e = absurd cc

split_two : (ts : List Token) (v w : List ℕ) → texts ts ≡ v ∷ w ∷ [] → (t : Token) × (u : Token) × (ts ≡ t ∷ u ∷ []) × (t.text ≡ v) × (u.text ≡ w)
split_two [] v w e = absurd cc
split_two (t ∷ ts) v w e =
    let more : texts ts ≡ w ∷ [] = cc in
    let s = split_one ts w more in
    (t, s.0, ap (λ us. t ∷ us) s.1, (cc), s.2)

split_end : (words : List (List ℕ)) (ts : List Token) (w : List ℕ) → texts ts ≡ words ++ w ∷ []
    → (mid : List Token) × (end : Token) × (ts ≡ mid ++ end ∷ []) × (texts mid ≡ words) × (end.text ≡ w)
split_end [] ts w e = let s = split_one ts w e in ([], s.0, s.1, refl, s.2)
split_end (v ∷ words) [] w e = absurd cc
split_end (v ∷ words) (t ∷ ts) w e =
    let more : texts ts ≡ words ++ w ∷ [] = cc in
    let same : t.text ≡ v = cc in
    let s = split_end words ts w more in
    (t ∷ s.0, s.1, ap (λ us. t ∷ us) s.2, ap (λ ws. t.text ∷ ws) s.3 ∙ ap (λ x. x ∷ words) same, s.4)

split_block : (ts : List Token) (first : List ℕ) (words : List (List ℕ)) → texts ts ≡ block_tokens first words
    → (t : Token) × (mid : List Token) × (end : Token) × (ts ≡ t ∷ (mid ++ end ∷ [])) × (t.text ≡ first) × (texts mid ≡ words) × (end.text ≡ codes "$end")
split_block [] first words e = absurd cc
split_block (t ∷ ts) first words e =
    let more : texts ts ≡ words ++ codes "$end" ∷ [] = cc in
    let same : t.text ≡ first = cc in
    let s = split_end words ts (codes "$end") more in
    (t, s.0, s.1, ap (λ us. t ∷ us) s.2, same, s.3, s.4)

-- ---- a phrase

-- tokens are read as a phrase's
abbrev IsReadSo : List Item → Context → Phrase → List Token → Type 0
IsReadSo items c p ts =
    fold go (said (state_of c) items) ts ≡ moved (said (state_of c) items) (outcome c p ts (first_failing (demands c p)))

block-phrase : (items : List Item) (c : Context) (p : Phrase) (ts : List Token) (first : List ℕ) (k : Keyword) (words : List (List ℕ))
    → (c.is_declared ≡ false) × (are_block_words words ≡ true) → texts ts ≡ block_tokens first words
    → ((s : State) (at : ℕ) → declaration s (record { at = at; text = first }) ≡ goes (with_part s (Block at k [])))
    → ((t : Token) (more : List Token) → block (state_of c) t.at k (take 4 words) ≡ outcome c p (t ∷ more) (first_failing (demands c p)))
    → IsReadSo items c p ts
block-phrase items c p ts first k words form e o h =
    let s = split_block ts first words e in
    let opens : step (state_of c) s.0 ≡ goes (with_part (state_of c) (Block s.0.at k [])) =
    step-declares c s.0 form.0 ∙ ap (λ w. declaration (state_of c) (record { at = s.0.at; text = w })) s.4 ∙ o (state_of c) s.0.at in
    subst (IsReadSo items c p) (sym s.3)
    (block-read items (state_of c) s.0 s.2 s.1 k opens refl (ap are_block_words s.5 ∙ form.1) (ap is_end s.6)
    ∙ ap (λ ws. moved (said (state_of c) items) (block (state_of c) s.0.at k (take 4 ws))) s.5
    ∙ ap (moved (said (state_of c) items)) (h s.0 (s.1 ++ s.2 ∷ [])))

single-phrase : (items : List Item) (c : Context) (p : Phrase) (ts : List Token) (w : List ℕ) → texts ts ≡ w ∷ []
    → ((t : Token) → t.text ≡ w → step (state_of c) t ≡ outcome c p (t ∷ []) (first_failing (demands c p))) → IsReadSo items c p ts
single-phrase items c p ts w e h =
    let s = split_one ts w e in
    subst (IsReadSo items c p) (sym s.1) (ap (moved (said (state_of c) items)) (h s.0 s.2))

pair-phrase : (items : List Item) (c : Context) (p : Phrase) (ts : List Token) (v w : List ℕ) (part : ℕ → Part) → texts ts ≡ v ∷ w ∷ []
    → ((t : Token) → t.text ≡ v → step (state_of c) t ≡ goes (with_part (state_of c) (part t.at)))
    → ((t u : Token) → u.text ≡ w → in_part (part t.at) (state_of c) u ≡ outcome c p (t ∷ u ∷ []) (first_failing (demands c p))) → IsReadSo items c p ts
pair-phrase items c p ts v w part e o h =
    let s = split_two ts v w e in
    let t = s.0 in
    let u = s.1 in
    subst (IsReadSo items c p) (sym s.2)
    (ap (λ r. go r u) (quiet items (state_of c) (with_part (state_of c) (part t.at)) t (o t s.3))
    ∙ moved-open items (state_of c) (part t.at) (in_part (part t.at) (state_of c) u)
    ∙ ap (moved (said (state_of c) items)) (h t u s.4))

other-phrase : (items : List Item) (c : Context) (ts : List Token) (first : List ℕ) (words : List (List ℕ)) → HasForm c.is_declared (OtherBlock first words)
    → texts ts ≡ block_tokens first words → IsReadSo items c (OtherBlock first words) ts
other-phrase items c ts first words form e =
    let s = split_block ts first words e in
    let opens : step (state_of c) s.0 ≡ goes (with_part (state_of c) (Skipped s.0.at)) =
    other-step c s.0 c.is_declared refl (ap is_command s.4 ∙ form.0) (ap (λ w. is_other c.is_declared (keyword w)) s.4 ∙ form.1) in
    subst (IsReadSo items c (OtherBlock first words)) (sym s.3)
    (skip-read items (state_of c) s.0 s.2 s.1 opens (ap are_block_words s.5 ∙ form.2) (ap is_end s.6))

phrase-read_by : (items : List Item) (c : Context) (p : Phrase) (ts : List Token) → texts ts ≡ tokens_of p → HasForm c.is_declared p → IsReadSo items c p ts
phrase-read_by items c (ScopeBlock words) ts e form =
    block-phrase items c (ScopeBlock words) ts (codes "$scope") Scope words form e (λ s at. refl) (λ t more. scope-is c t more words)
phrase-read_by items c (UpscopeBlock words) ts e form =
    block-phrase items c (UpscopeBlock words) ts (codes "$upscope") Upscope words form e (λ s at. refl) (λ t more. upscope-is c t more words)
phrase-read_by items c (VarBlock words) ts e form =
    block-phrase items c (VarBlock words) ts (codes "$var") Var words form e (λ s at. refl) (λ t more. var-is c t more words)
phrase-read_by items c (EndDefinitionsBlock words) ts e form =
    block-phrase items c (EndDefinitionsBlock words) ts (codes "$enddefinitions") EndDefinitions words form e (λ s at. refl) (λ t more. refl)
phrase-read_by items c (OtherBlock first words) ts e form = other-phrase items c ts first words form e
phrase-read_by items c (SimulationTime bytes) ts e form =
    single-phrase items c (SimulationTime bytes) ts (number_sign ∷ bytes) e
    (λ t x. step-body c t (number_sign ∷ bytes) form x ∙ time-is c t bytes (number bytes) refl)
phrase-read_by items c (ScalarChange value code) ts e form =
    single-phrase items c (ScalarChange value code) ts (value ∷ code) e
    (λ t x. step-body c t (value ∷ code) form.0 x ∙ scalar-body (state_of c) t.at value code form.1 ∙ scalar-is c t value code (digit value) refl form.1)
phrase-read_by items c (VectorChange letter bytes code) ts e form =
    pair-phrase items c (VectorChange letter bytes code) ts (letter ∷ bytes) code (λ at. Vector at (value_of bytes)) e
    (λ t x. step-body c t (letter ∷ bytes) form.0 x ∙ vector-body (state_of c) t.at letter bytes form.1 ∙ vector-opens (state_of c) t.at (digits bytes) form.2)
    (λ t u x. ap (λ w. change (state_of c) t.at (value_of bytes) u.at w) x
    ∙ change-is c (VectorChange letter bytes code) (t ∷ u ∷ []) t.at u.at (value_of bytes) (code_from 0 code c.codes) refl refl refl refl)
phrase-read_by items c (PassedChange letter value code) ts e form =
    pair-phrase items c (PassedChange letter value code) ts (letter ∷ value) code (λ at. Passed at) e
    (λ t x. step-body c t (letter ∷ value) form.0 x ∙ passed-body (state_of c) t.at letter value form.1) (λ t u x. refl)
phrase-read_by items c (SimulationKeyword word) ts e form =
    single-phrase items c (SimulationKeyword word) ts word e
    (λ t x. step-body c t word form.0 x ∙ dollar-command (state_of c) t.at word form.1 ∙ stands-command (state_of c) t.at (keyword word) form.2)
phrase-read_by items c (StrayToken word) ts e form =
    single-phrase items c (StrayToken word) ts word e
    (λ t x. stray-step c t c.is_declared refl (ap (is_stray c.is_declared) x ∙ form))

pub phrase-read : (items : List Item) (c : Context) (p : PlacedPhrase) → IsPhrase c p → IsReadSo items c p.phrase p.tokens
phrase-read items c p h = phrase-read_by items c p.phrase p.tokens h.spelled h.form

-- ---- a phrase whose end is missing

-- tokens leave a part open, which is a fault at an offset when the text ends
pub record LeavesOpen (items : List Item) (c : Context) (ts : List Token) (at : ℕ) : Type 0 where
  pub part : Part
  pub read : fold go (said (state_of c) items) ts ≡ said (with_part (state_of c) part) items
  pub fault : (is_declared : Bool) (end : ℕ) → fault_in part is_declared end ≡ Some (record { at = at; cause = OpenBlock })

declaring-opened : (s : State) (at : ℕ) (k : Keyword) → is_declaring k ≡ true → opened s at k ≡ goes (with_part s (Block at k []))
declaring-opened s at Scope e = refl
declaring-opened s at Upscope e = refl
declaring-opened s at Var e = refl
declaring-opened s at EndDefinitions e = refl
declaring-opened s at End e = absurd cc
declaring-opened s at Dump e = absurd cc
declaring-opened s at Other e = absurd cc

pub either : (x y : Bool) → (x || y) ≡ true → (x ≡ true) ⊎ (y ≡ true)
either true y e = inl refl
either false y e = inr e

block-open : (items : List Item) (c : Context) (t : Token) (words : List Token) → opens_block c.is_declared t.text ≡ true → are_block_words (texts words) ≡ true
    → LeavesOpen items c (t ∷ words) t.at
block-open items c t words o h =
    let s = state_of c in
    let k = keyword t.text in
    let e = both (is_command t.text) (is_other c.is_declared k || (not c.is_declared && is_declaring k)) o in
    elim (either (is_other c.is_declared k) (not c.is_declared && is_declaring k) e.1) as (λ _. LeavesOpen items c (t ∷ words) t.at) [
      | inl other ↦ record {
        part = Skipped t.at;
        read =
            ap (λ r. fold go r words) (quiet items s (with_part s (Skipped t.at)) t (other-step c t c.is_declared refl e.0 other))
            ∙ in_skipped items s t.at words h;
        fault = λ d end. refl;
      }
      | inr declares ↦
          let d = both (not c.is_declared) (is_declaring k) declares in
          let opens : step s t ≡ goes (with_part s (Block t.at k [])) =
          step-declares c t (negated c.is_declared d.0)
          ∙ ap (λ b. cond b (opened s t.at k) (fault BadToken t.at)) e.0
          ∙ declaring-opened s t.at k d.1 in
          record {
            part = Block t.at k (kept_all [] (texts words));
            read = ap (λ r. fold go r words) (quiet items s (with_part s (Block t.at k [])) t opens) ∙ in_block items s t.at k [] words h;
            fault = λ d end. refl;
          }
    ]

change-open_by : (items : List Item) (c : Context) (t : Token) (w : List ℕ) → c.is_declared ≡ true → t.text ≡ w → opens_change w ≡ true
    → LeavesOpen items c (t ∷ []) t.at
change-open_by items c t [] d x o = absurd cc
change-open_by items c t (b ∷ bs) d x o = by (is_one_of (codes "bB") b) refl o
  where
    by : (v : Bool) → is_one_of (codes "bB") b ≡ v → cond v (has_digits (digits bs)) (is_one_of (codes "rRsS") b) ≡ true → LeavesOpen items c (t ∷ []) t.at
    by true e h = record {
      part = Vector t.at (unwrap_or (digits bs) []);
      read =
          quiet items (state_of c) (with_part (state_of c) (Vector t.at (unwrap_or (digits bs) []))) t
          (step-body c t (b ∷ bs) d x ∙ vector-body (state_of c) t.at b bs e ∙ vector-opens (state_of c) t.at (digits bs) h);
      fault = λ d end. refl;
    }
    by false e h = record {
      part = Passed t.at;
      read =
          quiet items (state_of c) (with_part (state_of c) (Passed t.at)) t
          (step-body c t (b ∷ bs) d x ∙ passed-body (state_of c) t.at b bs h);
      fault = λ d end. refl;
    }

pub unfinished-open : (items : List Item) (c : Context) (rest : List Token) (f : VcdFault) → IsUnfinished c rest f → LeavesOpen items c rest f.at
unfinished-open items c rest f h =
    let at : f.at ≡ h.first.at = ap (λ (x : VcdFault). x.at) h.fault in
    subst (λ n. LeavesOpen items c rest n) (sym at)
    (subst (λ ts. LeavesOpen items c ts h.first.at) (sym h.tokens)
    (elim h.lacks as (λ _. LeavesOpen items c (h.first ∷ h.words) h.first.at) [
      | inl block ↦ block-open items c h.first h.words block.0 block.1
      | inr pair ↦ subst (λ ws. LeavesOpen items c (h.first ∷ ws) h.first.at) (sym pair.2) (change-open_by items c h.first h.first.text pair.0 refl pair.1)
    ]))
