-- What is told of an entry, and what each step of a cycle makes of it.
use Rattle.std.proofs.Common.{◌≡◌, ◌≢◌, ◌&&◌, ◌++◌, ℕ, zero, suc, Bool, true, false, cond, List, [], ◌∷◌, map, take, length, Option, Some, None, refl, sym, ap, ◌∙◌, subst, arith}
use Rattle.std.specs.Prelude.{is_some, is_none, find}
use Rattle.std.specs.Option.{option_map}
use Rattle.std.proofs.lemmas.Bool.{ne_eqb}
use Rattle.inorder_machine.specs.declared.line.Stepped.{Stepped}
use Rattle.inorder_machine.specs.declared.line.Stepped.TheVariants.{Retired, Stop}
use Rattle.xif_signals.specs.declared.bus.Bus.{Bus}
use Rattle.xif_session.specs.declared.fact.Response.{Response}
use Rattle.xif_session.specs.Facts.{is_given, is_taken, response_on}
use Rattle.cycle_spec.specs.declared.choices.Choices.{Choices}
use Rattle.cycle_spec.specs.declared.choices.Executed.{Executed}
use Rattle.cycle_spec.specs.declared.choices.Presented.{Presented}
use Rattle.cycle_spec.specs.declared.entry.Entry.{Entry}
use Rattle.cycle_spec.specs.declared.log.Cut.{Cut}
use Rattle.cycle_spec.specs.Flight.{is_unknown_kind, is_control, is_open, holds_id, with_response, with_sent, with_release, with_result, with_outcome, kind_at}
use Rattle.cycle_spec.specs.Core.{response_on_offer, response_step, sent_on_present, sent_step, release_step, cut_step, drain_step, result_for, result_step, execute_step, retire_step, settled_entries, word_of, word_or_zero, entry_at, with_dispatch, line_of, dispatch_line}
use Rattle.cycle_spec.specs.Run.{Meaning}
use Rattle.cycle_lists.specs.Lists.{Each, Pairs}
use Rattle.cycle_lists.specs.Order.{Before}
use Rattle.cycle_lists.proofs.Every.{Each-from}
use Rattle.cycle_lists.proofs.Places.{first-at, map-at}
use Rattle.cycle_paired.proofs.Facts.{other-numbers}
use Rattle.ahead_laws.proofs.Outcomes.{word_of-at}
use Rattle.ahead_laws.proofs.EntryChanges.{with_response-here, with_response-other}
use Rattle.eager_laws.specs.Flights.{is_transfer, prediction, awaits, answered, after_handshake, after_cut, after_drain, after_retirement, after_dispatch, told_of}

-- the word that is told tells the kind, and whether the instruction is a control transfer
pub record Tells (e : Entry) : Type 0 where
  pub kind_is : kind_at (word_of e.kind e.word) ≡ e.kind
  pub control : is_control e ≡ is_transfer (Some e.word)

pub awaits-told : (e : Entry) → Tells e → awaits (told_of e) ≡ is_open e
awaits-told e t = ap (λ k. is_unknown_kind k && is_none e.response) t.kind_is

pub find-told : (es : List Entry) → Each Tells es → find awaits (map told_of es) ≡ option_map told_of (find is_open es)
find-told [] t = refl
find-told (e ∷ es) t = ap (λ b. cond b (Some (told_of e)) (find awaits (map told_of es))) (awaits-told e t.0) ∙ go (is_open e) (find-told es t.1)
  where
    go : (b : Bool) → find awaits (map told_of es) ≡ option_map told_of (find is_open es) → cond b (Some (told_of e)) (find awaits (map told_of es)) ≡ option_map told_of (cond b (Some e) (find is_open es))
    go true h = refl
    go false h = h

-- ---- lists

pub told-append : (xs ys : List Entry) → map told_of (xs ++ ys) ≡ map told_of xs ++ map told_of ys
told-append [] ys = refl
told-append (x ∷ xs) ys = ap (λ l. told_of x ∷ l) (told-append xs ys)

pub told-take : (k : ℕ) (es : List Entry) → map told_of (take k es) ≡ take k (map told_of es)
told-take zero es = refl
told-take (suc k) [] = refl
told-take (suc k) (e ∷ es) = ap (λ l. told_of e ∷ l) (told-take k es)

pub told-length : (es : List Entry) → length (map told_of es) ≡ length es
told-length [] = refl
told-length (e ∷ es) = let n = told-length es in omega (arith, n)

told-same : (f : Entry → Entry) → ((e : Entry) → told_of (f e) ≡ told_of e) → (es : List Entry) → map told_of (map f es) ≡ map told_of es
told-same f h [] = refl
told-same f h (e ∷ es) = ap (λ y. y ∷ map told_of (map f es)) (h e) ∙ ap (λ l. told_of e ∷ l) (told-same f h es)

-- ---- a response

answered-at : (r : Response) (older : List Entry) (e : Entry) (younger : List Entry) → Each (λ x. is_open x ≡ false) older → is_open e ≡ true → Each Tells (older ++ e ∷ younger)
    → answered r (map told_of (older ++ e ∷ younger)) ≡ map told_of older ++ record (told_of e) { response = Some r } ∷ map told_of younger
answered-at r [] e younger n o t = ap (λ b. cond b (record (told_of e) { response = Some r } ∷ map told_of younger) (told_of e ∷ answered r (map told_of younger))) (awaits-told e t.0 ∙ o)
answered-at r (x ∷ xs) e younger n o t =
    ap (λ b. cond b (record (told_of x) { response = Some r } ∷ map told_of (xs ++ e ∷ younger)) (told_of x ∷ answered r (map told_of (xs ++ e ∷ younger)))) (awaits-told x t.0 ∙ n.0)
    ∙ ap (λ l. told_of x ∷ l) (answered-at r xs e younger n.1 o t.1)

others-stay : (r : Response) (s : ℕ) (xs : List Entry) → Each (λ x. x.seq ≢ s) xs → Each (λ x. with_response s r x ≡ x) xs
others-stay r s xs h = Each-from (λ x. x.seq ≢ s) (λ x. with_response s r x ≡ x) xs (λ x n. with_response-other s x r (ne_eqb x.seq s n)) h

response-told : (r : Response) (e : Entry) → told_of (with_response e.seq r e) ≡ record (told_of e) { response = Some r }
response-told r e = ap told_of (with_response-here e r)

told-answered : (r : Response) (es : List Entry) (e : Entry) → find is_open es ≡ Some e → Pairs Before es → Each Tells es → map told_of (map (with_response e.seq r) es) ≡ answered r (map told_of es)
told-answered r es e h b t =
    let f = first-at is_open es e h in
    let n = other-numbers f.older e f.younger (subst (Pairs Before) f.here b) in
    ap (λ l. map told_of (map (with_response e.seq r) l)) f.here
    ∙ ap (map told_of) (map-at (with_response e.seq r) f.older e f.younger (others-stay r e.seq f.older n.0) (others-stay r e.seq f.younger n.1))
    ∙ told-append f.older (with_response e.seq r e ∷ f.younger)
    ∙ ap (λ y. map told_of f.older ++ y ∷ map told_of f.younger) (response-told r e)
    ∙ sym (answered-at r f.older e f.younger f.others f.passes (subst (Each Tells) f.here t))
    ∙ sym (ap (λ l. answered r (map told_of l)) f.here)

-- what is offered is the oldest word that awaits its response
abbrev pub IsOldest : List Entry → Option Entry → Type 0
IsOldest es o = (e : Entry) → o ≡ Some e → find is_open es ≡ Some e

told-response : (b : Bus) (o : Option Entry) (es : List Entry) → b.issue_valid ≡ is_some o → IsOldest es o → Pairs Before es → Each Tells es → map told_of (response_step o b es) ≡ after_handshake b (map told_of es)
told-response b o es v k p t = go o refl b.issue_valid b.issue_ready v
  where
    go : (q : Option Entry) → o ≡ q → (valid ready : Bool) → valid ≡ is_some o → map told_of (cond (valid && ready) (response_on_offer o b es) es) ≡ cond (valid && ready) (answered (response_on b) (map told_of es)) (map told_of es)
    go q e false ready h = refl
    go q e true false h = refl
    go None e true true h = absurd (none (h ∙ ap is_some e))
      where
        none : true ≡ false → ⊥
        none k = cc
    go (Some x) e true true h = ap (λ z. map told_of (response_on_offer z b es)) e ∙ told-answered (response_on b) es x (k x e) p t

-- ---- the other steps

told-sent : (o : Option Presented) (b : Bus) (es : List Entry) → map told_of (sent_step o b es) ≡ map told_of es
told-sent o b es = go (is_given b) o
  where
    go : (t : Bool) (o : Option Presented) → map told_of (cond t (sent_on_present o es) es) ≡ map told_of es
    go false o = refl
    go true None = refl
    go true (Some x) = told-same (with_sent x.entry.seq) (λ e. refl) es

told-release : (o : Option Entry) (es : List Entry) → map told_of (release_step o es) ≡ map told_of es
told-release None es = refl
told-release (Some x) es = told-same (with_release x.seq) (λ e. refl) es

told-result : (b : Bus) (es : List Entry) → map told_of (result_step b es) ≡ map told_of es
told-result b es = go (is_taken b) (find (holds_id b.result_id) es)
  where
    go : (t : Bool) (o : Option Entry) → map told_of (cond t (result_for o b es) es) ≡ map told_of es
    go false o = refl
    go true None = refl
    go true (Some x) = told-same (with_result x.seq _) (λ e. refl) es

outcome-told : (s : ℕ) (o : Stepped) (e : Entry) → told_of (with_outcome s o e) ≡ told_of e
outcome-told s (Retired line) e = refl
outcome-told s (Stop cause) e = refl

told-execute : (o : Option Executed) (es : List Entry) → map told_of (execute_step o es) ≡ map told_of es
told-execute None es = refl
told-execute (Some x) es = told-same (with_outcome x.entry.seq x.outcome) (outcome-told x.entry.seq x.outcome) es

told-cut : (o : Option Cut) (es : List Entry) → map told_of (cut_step o es) ≡ after_cut o (map told_of es)
told-cut None es = refl
told-cut (Some c) es = told-take c.keep es

told-drain : (o : Option ℕ) (es : List Entry) → map told_of (drain_step o es) ≡ after_drain o (map told_of es)
told-drain None es = refl
told-drain (Some k) es = told-take k es

told-retire : (o : Option Entry) (es : List Entry) → map told_of (retire_step o es) ≡ after_retirement (option_map line_of o) (map told_of es)
told-retire None es = refl
told-retire (Some e) [] = refl
told-retire (Some e) (x ∷ xs) = refl

pub told-settled : (ch : Choices) (b : Bus) (es : List Entry) → b.issue_valid ≡ is_some ch.offer → IsOldest es ch.offer → Pairs Before es → Each Tells es
    → map told_of (settled_entries ch b es) ≡ after_retirement (option_map line_of ch.retire) (after_drain ch.drain (after_cut ch.cut (after_handshake b (map told_of es))))
told-settled ch b es v k p t =
    let answer = response_step ch.offer b es in
    let sent = sent_step ch.present b answer in
    let released = release_step ch.release sent in
    let front = cut_step ch.cut released in
    let stays = drain_step ch.drain front in
    let finished = result_step b stays in
    told-retire ch.retire (execute_step ch.execute finished)
    ∙ ap (after_retirement (option_map line_of ch.retire)) (
    told-execute ch.execute finished ∙ told-result b stays ∙ told-drain ch.drain front
    ∙ ap (after_drain ch.drain) (told-cut ch.cut released ∙ ap (after_cut ch.cut) (told-release ch.release sent ∙ told-sent ch.present b answer ∙ told-response b ch.offer es v k p t)))

-- ---- a dispatch

abbrev pub new_if : (t : Bool) → (answer : ℕ → ℕ → ℕ) → (seq id pc : ℕ) → Option ℕ → Option Entry
new_if t answer seq id pc word = cond t (Some (entry_at answer seq id pc word)) None

pub dispatch-word : (answer : ℕ → ℕ → ℕ) (seq id pc : ℕ) (word : Option ℕ) → (dispatch_line (entry_at answer seq id pc word)).word ≡ word
dispatch-word answer seq id pc word = word_of-at word

pub predicted-told : {P : Type 0} (meaning : Meaning P) (now : P) (seq id pc : ℕ) (word : Option ℕ)
    → (entry_at (meaning.answer now) seq id pc word).predicted ≡ prediction meaning now pc (word_of (kind_at word) (word_or_zero word))
predicted-told meaning now seq id pc word = ap (prediction meaning now pc) (sym (word_of-at word))

pub told-dispatch : {P : Type 0} (meaning : Meaning P) (now : P) (seq id pc : ℕ) (word : Option ℕ) (t : Bool) (es : List Entry)
    → map told_of (with_dispatch (new_if t (meaning.answer now) seq id pc word) es) ≡ after_dispatch meaning now (option_map dispatch_line (new_if t (meaning.answer now) seq id pc word)) (map told_of es)
told-dispatch meaning now seq id pc word false es = refl
told-dispatch meaning now seq id pc word true es =
    told-append es (entry_at (meaning.answer now) seq id pc word ∷ [])
    ∙ ap (λ n. map told_of es ++ record { pc = pc; word = word_of (kind_at word) (word_or_zero word); predicted = n; response = None } ∷ []) (predicted-told meaning now seq id pc word)
