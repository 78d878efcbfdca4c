-- What a cycle carries along of entries and uses, and small facts of each.
use Rattle.std.proofs.Common.{◌≡◌, ◌≢◌, ◌<◌, ◌==◌, ◌&&◌, ◌++◌, ℕ, Bool, true, false, cond, not, List, [], ◌∷◌, map, Option, Some, None, refl, sym, ap, ◌∙◌, arith}
use Rattle.std.specs.Prelude.{is_some, is_none, IsSome}
use Rattle.xif_session.specs.declared.fact.Decision.{Decision}
use Rattle.xif_session.specs.declared.fact.Decision.TheVariants.{Undecided, Released, Killed}
use Rattle.xif_session.specs.declared.fact.Response.{Response}
use Rattle.xif_session.specs.Facts.{is_accepted as is_response_accepted, is_released, is_killed}
use Rattle.cycle_spec.specs.declared.entry.Entry.{Entry}
use Rattle.cycle_spec.specs.declared.entry.EntryKind.{EntryKind}
use Rattle.cycle_spec.specs.declared.entry.EntryKind.TheVariants.{Local, Unknown, Nowhere}
use Rattle.cycle_spec.specs.declared.use_of.Use.{Use}
use Rattle.cycle_spec.specs.Flight.{is_unknown, is_unknown_kind, is_open, is_stopping, is_safe, is_safe_kind, is_waiting, reads_registers}
use Rattle.cycle_spec.specs.Engine.{is_accepted}
use Rattle.cycle_lists.specs.Lists.{Each, Pairs, FirstAt}
use Rattle.cycle_lists.specs.Order.{Before}
use Rattle.cycle_lists.proofs.Tests.{and-left, and-right, and-false, not-both, false-or, true-or, not-in, no-some}
use Rattle.cycle_lists.proofs.Every.{Each-from, Each-both, Each-front, Each-back, Each-append, Each-filter, Each-passed, Pairs-older, Pairs-younger}
use Rattle.cycle_lists.proofs.Order.{Kept}
use Rattle.cycle_paired.specs.Paired.{is_live, live_entries, is_live_use, live_uses, Match, IsEntry, Behind, IsUse, Older, open_word}

-- entries and uses in the course of a cycle
pub record Joint (hart n id c : ℕ) (answered : ℕ → Bool) (es : List Entry) (us : List Use) : Type 0 where
  pub kept : Kept n id es
  pub entries : Each IsEntry es
  pub behind : Pairs Behind es
  pub below : Each (λ u. u.start < c) us
  pub uses : Each (IsUse answered) us
  pub older : Pairs Older us
  pub match : Match hart (live_entries es) (live_uses answered us)

-- ---- entries

pub accepted-some : (o : Option Response) → is_response_accepted o ≡ true → is_some o ≡ true
accepted-some None h = cc
accepted-some (Some r) h = refl

pub none-refused : (o : Option Response) → is_some o ≡ false → is_response_accepted o ≡ false
none-refused None h = refl
none-refused (Some r) h = cc

pub live-some : (e : Entry) → is_live e ≡ true → is_some e.response ≡ true
live-some e h = and-left (is_some e.response) (not e.done) h

pub live-undone : (e : Entry) → is_live e ≡ true → e.done ≡ false
live-undone e h = not-in e.done (and-right (is_some e.response) (not e.done) h)

pub live-unknown : (e : Entry) → IsEntry e → is_live e ≡ true → is_unknown e ≡ true
live-unknown e ok h = ok.answered (live-some e h)

pub none-dead : (e : Entry) → is_some e.response ≡ false → is_live e ≡ false
none-dead e h = ap (λ t. t && not e.done) h

pub done-dead : (e : Entry) → e.done ≡ true → is_live e ≡ false
done-dead e h = ap (λ t. is_some e.response && not t) h ∙ and-false (is_some e.response)

pub open-unknown : (e : Entry) → is_open e ≡ true → is_unknown e ≡ true
open-unknown e h = and-left (is_unknown e) (is_none e.response) h

pub open-none : (e : Entry) → is_open e ≡ true → is_some e.response ≡ false
open-none e h = not-in (is_some e.response) (and-right (is_unknown e) (is_none e.response) h)

pub open-dead : (e : Entry) → is_open e ≡ true → is_live e ≡ false
open-dead e h = none-dead e (open-none e h)

pub some-closed : (e : Entry) → is_some e.response ≡ true → is_open e ≡ false
some-closed e h = ap (λ t. is_unknown e && not t) h ∙ and-false (is_unknown e)

pub live-closed : (e : Entry) → is_live e ≡ true → is_open e ≡ false
live-closed e h = some-closed e (live-some e h)

unsafe-kind : (k : EntryKind) (e : Entry) → is_unknown_kind k ≡ true → is_response_accepted e.response ≡ false → is_safe_kind k e ≡ false
unsafe-kind (Local i) e u h = cc
unsafe-kind Unknown e u h = h
unsafe-kind Nowhere e u h = refl

-- an unknown word that wasn't accepted isn't safe
pub refused-unsafe : (e : Entry) → is_unknown e ≡ true → is_response_accepted e.response ≡ false → is_safe e ≡ false
refused-unsafe e u h = ap (λ t. not (is_stopping e) && t) (unsafe-kind e.kind e u h) ∙ and-false (not (is_stopping e))

pub open-unsafe : (e : Entry) → is_open e ≡ true → is_safe e ≡ false
open-unsafe e h = refused-unsafe e (open-unknown e h) (none-refused e.response (open-none e h))

-- so a safe one was accepted
pub safe-accepted : (e : Entry) → is_unknown e ≡ true → is_safe e ≡ true → is_response_accepted e.response ≡ true
safe-accepted e u s = true-or (is_response_accepted e.response) (λ h. not-both (is_safe e) (refused-unsafe e u h) s)

pub open-unreleased : (e : Entry) → IsEntry e → is_open e ≡ true → e.released ≡ true → ⊥
open-unreleased e ok h r = not-both (is_response_accepted e.response) (none-refused e.response (open-none e h)) (ok.released r)

pub open-undone : (e : Entry) → IsEntry e → is_open e ≡ true → e.done ≡ false
open-undone e ok h = false-or e.done (λ d. open-unreleased e ok h (ok.done_released (open-unknown e h) d))

reads-accepted : (o : Option Response) → reads_registers o ≡ true → is_response_accepted o ≡ true
reads-accepted None h = cc
reads-accepted (Some r) h = and-left r.accept (not (r.register_read.0 == 0)) h

pub waiting-accepted : (e : Entry) → is_waiting e ≡ true → is_response_accepted e.response ≡ true
waiting-accepted e h = reads-accepted e.response (and-left (reads_registers e.response) (not e.operands_sent) h)

pub waiting-closed : (e : Entry) → is_waiting e ≡ true → is_open e ≡ false
waiting-closed e h = some-closed e (accepted-some e.response (waiting-accepted e h))

pub waiting-live : (e : Entry) → IsEntry e → is_waiting e ≡ true → is_live e ≡ true
waiting-live e ok h =
    let s = accepted-some e.response (waiting-accepted e h) in
    let d : e.done ≡ false = false-or e.done (λ d. not-both (is_waiting e) (ok.done_given (ok.answered s) d) h) in
    rw (s, d) refl

-- ---- the word that is offered

pub open_word-at : (xs : List Entry) (e : Entry) (ys : List Entry) → Each (λ x. is_open x ≡ false) xs → is_open e ≡ true → open_word (xs ++ e ∷ ys) ≡ Some (e.id, e.word)
open_word-at [] e ys h k = ap (λ t. cond t (Some (e.id, e.word)) (open_word ys)) k
open_word-at (x ∷ xs) e ys h k =
    ap (λ t. cond t (Some (x.id, x.word)) (open_word (xs ++ e ∷ ys))) h.0 ∙ open_word-at xs e ys h.1 k

pub open_word-first : (es : List Entry) (p : Entry) → FirstAt is_open es p → open_word es ≡ Some (p.id, p.word)
open_word-first es p f = ap open_word f.here ∙ open_word-at f.older p f.younger f.others f.passes

-- a change that leaves the test, the id and the word of an entry
pub record LeavesOpen (f : Entry → Entry) (e : Entry) : Type 0 where
  pub test : is_open (f e) ≡ is_open e
  pub id : (f e).id ≡ e.id
  pub word : (f e).word ≡ e.word

pub open_word-map : (f : Entry → Entry) (es : List Entry) → Each (LeavesOpen f) es → open_word (map f es) ≡ open_word es
open_word-map f [] h = refl
open_word-map f (e ∷ es) h =
    ap (λ t. cond t (Some ((f e).id, (f e).word)) (open_word (map f es))) h.0.test
    ∙ ap (λ i. cond (is_open e) (Some (i, (f e).word)) (open_word (map f es))) h.0.id
    ∙ ap (λ i. cond (is_open e) (Some (e.id, i)) (open_word (map f es))) h.0.word
    ∙ ap (λ r. cond (is_open e) (Some (e.id, e.word)) r) (open_word-map f es h.1)

-- behind an open entry nothing has a response
pub behind-open : (xs : List Entry) (p : Entry) (ys : List Entry) → Pairs Behind (xs ++ p ∷ ys) → is_open p ≡ true → Each (λ y. is_live y ≡ false) ys
behind-open xs p ys b o =
    Each-from (Behind p) (λ y. is_live y ≡ false) ys (λ y k. none-dead y (no-some y.response (λ h. not-both (is_open p) (k.answered h) o))) (Pairs-younger Behind xs p ys b)

-- the ids of live entries differ from that of an unknown word that isn't live
pub other-ids : (xs : List Entry) (p : Entry) (ys : List Entry) → Pairs Before (xs ++ p ∷ ys) → Each IsEntry (xs ++ p ∷ ys) → is_unknown p ≡ true → is_live p ≡ false → Each (λ e. e.id ≡ p.id → ⊥) (live_entries (xs ++ p ∷ ys))
other-ids xs p ys b ok u l =
    let P = λ (e : Entry). is_live e ≡ true → e.id ≡ p.id → ⊥ in
    let older = Each-both (λ x. Before x p) IsEntry P xs (λ x k o v q. k.apart (live-unknown x o v) u q) (Pairs-older Before xs p ys b) (Each-front IsEntry xs (p ∷ ys) ok) in
    let younger = Each-both (Before p) IsEntry P ys (λ y k o v q. k.apart u (live-unknown y o v) (sym q)) (Pairs-younger Before xs p ys b) (Each-back IsEntry xs (p ∷ ys) ok).1 in
    let all : Each P (xs ++ p ∷ ys) = Each-append P xs (p ∷ ys) older (λ v q. not-both (is_live p) l v, younger) in
    Each-both P (λ e. is_live e ≡ true) (λ e. e.id ≡ p.id → ⊥) (live_entries (xs ++ p ∷ ys)) (λ e h k. h k) (Each-filter P is_live (xs ++ p ∷ ys) all) (Each-passed is_live (xs ++ p ∷ ys))

-- the only entry with a number
pub only : (xs : List Entry) (e : Entry) (ys : List Entry) → Pairs Before (xs ++ e ∷ ys) → Each (λ x. x.seq ≡ e.seq → x ≡ e) (xs ++ e ∷ ys)
only xs e ys b =
    Each-append (λ x. x.seq ≡ e.seq → x ≡ e) xs (e ∷ ys)
    (Each-from (λ x. Before x e) (λ x. x.seq ≡ e.seq → x ≡ e) xs (λ x k q. let r = k.rises in absurd (omega arith)) (Pairs-older Before xs e ys b))
    (λ q. refl, Each-from (Before e) (λ x. x.seq ≡ e.seq → x ≡ e) ys (λ x k q. let r = k.rises in absurd (omega arith)) (Pairs-younger Before xs e ys b))

pub other-numbers : (xs : List Entry) (e : Entry) (ys : List Entry) → Pairs Before (xs ++ e ∷ ys) → Each (λ x. x.seq ≢ e.seq) xs × Each (λ x. x.seq ≢ e.seq) ys
other-numbers xs e ys b = (
  Each-from (λ x. Before x e) (λ x. x.seq ≢ e.seq) xs (λ x k q. let r = k.rises in absurd (omega arith)) (Pairs-older Before xs e ys b),
  Each-from (Before e) (λ x. x.seq ≢ e.seq) ys (λ x k q. let r = k.rises in absurd (omega arith)) (Pairs-younger Before xs e ys b),
)

-- ---- uses

pub live_use-answered : (answered : ℕ → Bool) (u : Use) → is_live_use answered u ≡ true → answered u.start ≡ true
live_use-answered answered u h = and-left (answered u.start) (not (is_killed u.decision) && not u.finished) h

pub accepted-answered : (answered : ℕ → Bool) (u : Use) → IsUse answered u → is_accepted u ≡ true → answered u.start ≡ true
accepted-answered answered u ok h = true-or (answered u.start) (λ n. not-both (is_accepted u) (ok.unanswered n).refused h)

pub unanswered-dead : (answered : ℕ → Bool) (u : Use) → answered u.start ≡ false → is_live_use answered u ≡ false
unanswered-dead answered u h = ap (λ t. t && (not (is_killed u.decision) && not u.finished)) h

pub released-unkilled : (d : Decision) → is_released d ≡ true → is_killed d ≡ false
released-unkilled Undecided h = cc
released-unkilled Released h = refl
released-unkilled Killed h = cc

-- a ready use that isn't finished is live
pub ready-live : (answered : ℕ → Bool) (u : Use) → IsUse answered u → IsSome u.ready → u.finished ≡ false → is_live_use answered u ≡ true
ready-live answered u ok r f =
    let q = ok.ready r in
    rw (accepted-answered answered u ok q.accepted, released-unkilled u.decision q.released, f) refl

pub other-starts : (xs : List Use) (u : Use) (ys : List Use) → Pairs Older (xs ++ u ∷ ys) → Each (λ x. x.start ≢ u.start) xs × Each (λ x. x.start ≢ u.start) ys
other-starts xs u ys b = (
  Each-from (λ x. Older x u) (λ x. x.start ≢ u.start) xs (λ x k q. let r = k.rises in absurd (omega arith)) (Pairs-older Older xs u ys b),
  Each-from (Older u) (λ x. x.start ≢ u.start) ys (λ x k q. let r = k.rises in absurd (omega arith)) (Pairs-younger Older xs u ys b),
)
