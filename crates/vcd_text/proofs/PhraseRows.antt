-- Rows of phrases are read as they say, and their faults are the text's.
use Rattle.std.proofs.Common.{◌≡◌, ℕ, cond, List, [], ◌∷◌, ◌++◌, length, Some, None, Ok, Err, inl, inr, refl, sym, ap, ◌∙◌, append_assoc}
use Rattle.std.specs.List.{fold}
use Rattle.std.specs.Option.{option_to_list}
use Rattle.std.proofs.lemmas.List.{append-nil}
use Rattle.vcd_text.specs.declared.fault.VcdCause.TheVariants.{OpenBlock, NoDefinitionsEnd}
use Rattle.vcd_text.specs.declared.fault.VcdFault.{VcdFault}
use Rattle.vcd_text.specs.declared.item.Item.{Item}
use Rattle.vcd_text.specs.Tokens.{Token}
use Rattle.vcd_text.specs.Reading.{Read, Reading, go, moved, from, start, reading_of, reading_by, ends}
use Rattle.vcd_text.specs.Phrases.{Context, PlacedPhrase, IsRowOf, FailsBehind, IsIllFormed, AreWellFormed, first_context, after, says, after_all, all_say, tokens_in, tokens_of_text}
use Rattle.vcd_text.proofs.Texts.{fold-append, stuck}
use Rattle.vcd_text.proofs.Says.{said}
use Rattle.vcd_text.proofs.PhraseSteps.{state_of, outcome}
use Rattle.vcd_text.proofs.PhraseReads.{phrase-read, unfinished-open}

row-read : (items : List Item) (c : Context) (row : List PlacedPhrase) → AreWellFormed c row
    → fold go (said (state_of c) items) (tokens_in row) ≡ said (state_of (after_all c row)) (items ++ all_say c row)
row-read items c [] h = ap (said (state_of c)) (sym (append-nil items))
row-read items c (p ∷ ps) h =
    let next = after c p.phrase in
    let item = option_to_list (says c p.phrase) in
    fold-append go (said (state_of c) items) p.tokens (tokens_in ps)
    ∙ ap (λ r. fold go r (tokens_in ps))
    (phrase-read items c p h.0.phrase ∙ ap (λ d. moved (said (state_of c) items) (outcome c p.phrase p.tokens d)) h.0.met)
    ∙ row-read (items ++ item) next ps h.1
    ∙ ap (said (state_of (after_all next ps))) (append_assoc items item (all_say next ps))

pub row-reading : (text : List ℕ) (row : List PlacedPhrase) (r : Reading) → IsRowOf text row r → reading_of text ≡ Ok r
row-reading text row r h =
    let last = after_all first_context row in
    let items = all_say first_context row in
    let whole : fold go (from start) (tokens_of_text text) ≡ said (state_of last) items =
    ap (fold go (from start)) h.tokens ∙ row-read [] first_context row h.formed in
    ap (λ (r : Read). ends r.items r.state (length text)) whole
    ∙ ap (λ b. reading_by last.variables items (cond b None (Some (record { at = length text; cause = NoDefinitionsEnd })))) h.declared
    ∙ ap Ok (sym h.said)

-- a text is read up to what follows a row
row-then : (text : List ℕ) (row : List PlacedPhrase) (rest : List Token) → tokens_of_text text ≡ tokens_in row ++ rest → AreWellFormed first_context row
    → fold go (from start) (tokens_of_text text) ≡ fold go (said (state_of (after_all first_context row)) (all_say first_context row)) rest
row-then text row rest e h =
    ap (fold go (from start)) e ∙ fold-append go (from start) (tokens_in row) rest ∙ ap (λ r. fold go r rest) (row-read [] first_context row h)

ill-formed : (items : List Item) (c : Context) (rest : List Token) (f : VcdFault) → IsIllFormed c rest f
    → fold go (said (state_of c) items) rest ≡ moved (said (state_of c) items) (Err f)
ill-formed items c rest f h =
    let r = moved (said (state_of c) items) (Err f) in
    ap (fold go (said (state_of c) items)) h.tokens
    ∙ fold-append go (said (state_of c) items) h.next.tokens h.more
    ∙ ap (λ r. fold go r h.more)
    (phrase-read items c h.next h.phrase
    ∙ ap (λ d. moved (said (state_of c) items) (outcome c h.next.phrase h.next.tokens d)) h.cause
    ∙ ap (λ n. moved (said (state_of c) items) (Err (record { at = n; cause = f.cause }))) (sym h.at))
    ∙ stuck r f h.more refl

pub row-fault : (text : List ℕ) (row : List PlacedPhrase) (f : VcdFault) → FailsBehind text row f → reading_of text ≡ Err f
row-fault text row f h =
    let last = after_all first_context row in
    let items = all_say first_context row in
    let end = length text in
    let so_far = row-then text row h.rest h.tokens h.formed in
    elim h.fault as (λ _. reading_of text ≡ Err f) [
      | inl ill ↦ ap (λ (r : Read). ends r.items r.state end) (so_far ∙ ill-formed items last h.rest f ill)
      | inr other ↦ elim other as (λ _. reading_of text ≡ Err f) [
        | inl open_end ↦
            let o = unfinished-open items last h.rest f open_end in
            let is : record { at = f.at; cause = OpenBlock } ≡ f = ap (λ n. record { at = n; cause = OpenBlock }) (ap (λ (x : VcdFault). x.at) open_end.fault) ∙ sym open_end.fault in
            ap (λ (r : Read). ends r.items r.state end) (so_far ∙ o.read)
            ∙ ap (reading_by last.variables items) (o.fault last.is_declared end)
            ∙ ap Err is
        | inr missing ↦
            ap (λ (r : Read). ends r.items r.state end) (so_far ∙ ap (fold go (said (state_of last) items)) missing.tokens)
            ∙ ap (λ b. reading_by last.variables items (cond b None (Some (record { at = end; cause = NoDefinitionsEnd })))) missing.not
            ∙ ap Err (sym missing.fault)
      ]
    ]
