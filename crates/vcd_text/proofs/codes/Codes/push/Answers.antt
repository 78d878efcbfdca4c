use Rattle.std.proofs.Common.{◌≡◌, ◌++◌, [], ◌∷◌, map, length, None, sym, ap, ◌∙◌, subst, Vec, ℕ, arith}
use Rattle.std.specs.declared.alloc.Global.{Global}
use Rattle.std.specs.Str.{bytes_eq}
use Rattle.std.proofs.lemmas.List.{length-map, length-append}
use Rattle.indexmap.specs.IndexMap.{get}
use Rattle.indexmap.proofs.CallerLemmas.{insert_entry-new}
use Rattle.vcd_text.specs.Codes.{Code, code_from}
use Rattle.vcd_text.specs.ShortCodes.{place_of, found_at, with_found, HasShort}
use Rattle.vcd_text.proofs.CodeTable.{code_of, lookup-absent, map-append}
use Rattle.vcd_text.proofs.ShortCodes.{has_short-same, has_short-push}
use Rattle.vcd_text.proofs.codes.Codes.push.Goals as goal

-- the codes, with the new one
codes_are : (c : goal.After-note) → map code_of c.insert.new.self.entries ≡ map code_of c.self.inside.sizes.entries ++ record { text = c.args.text.now; size = c.args.size } ∷ []
codes_are c =
    let m = c.self.inside.sizes in
    let key = c.in_ok-from_slice.field-0 in
    let text : key.items ≡ c.args.text.now = c.in_ok-from_slice.ensures.items in
    let none : get (λ (x y : Vec ℕ Global). bytes_eq x.items y.items) m key ≡ None =
    lookup-absent key.items m.entries (ap (λ t. code_from 0 t (map code_of m.entries)) text ∙ ap (code_from 0 c.args.text.now) c.self.view_is ∙ c.requires.new) in
    ap (map code_of) (c.in_ok-insert.ensures.entries ∙ insert_entry-new (λ (x y : Vec ℕ Global). bytes_eq x.items y.items) m key c.args.size none)
    ∙ map-append m.entries (key, c.args.size)
    ∙ ap (λ t. map code_of m.entries ++ record { text = t; size = c.args.size } ∷ []) text

pub returns-clause-ok : goal.returns-clause-ok
returns-clause-ok c = codes_are c ∙ ap (λ cs. cs ++ record { text = c.args.text.now; size = c.args.size } ∷ []) c.self.view_is

pub invariant_of-self-2 : goal.invariant_of-self-2
invariant_of-self-2 c =
    let cs = map code_of c.self.inside.sizes.entries in
    let d : Code = record { text = c.args.text.now; size = c.args.size } in
    let none : code_from 0 c.args.text.now cs ≡ None = ap (code_from 0 c.args.text.now) c.self.view_is ∙ c.requires.new in
    let number : c.len-number.result ≡ length cs = c.len-number.ensures.len ∙ sym (length-map c.self.inside.sizes.entries code_of) in
    let before = c.make_room.new.places.items in
    let room : HasShort before cs = has_short-same c.self.inside.places.items before cs c.self.invariant.1 c.make_room.ensures.same in
    let noted : (k : ℕ) → found_at c.note.new.places.items k ≡ with_found (place_of c.args.text.now) (length cs, c.args.size) before k =
    λ k. c.note.ensures k ∙ ap (λ p. with_found p (c.len-number.result, c.args.size) before k) c.place_of-place.ensures.place
    ∙ ap (λ n. with_found (place_of c.args.text.now) (n, c.args.size) before k) number in
    let more : length c.insert.new.self.entries ≡ length (cs ++ d ∷ []) = sym (length-map c.insert.new.self.entries code_of) ∙ ap length (codes_are c) in
    let known : length cs ≡ length c.args.self.now = ap length c.self.view_is in
    (omega (arith, more, length-append cs (d ∷ []), known, c.requires.room), subst (HasShort c.note.new.places.items) (sym (codes_are c)) (has_short-push before c.note.new.places.items cs d room none c.place_of-place.ensures.bytes noted))
