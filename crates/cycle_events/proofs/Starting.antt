-- The offer and its answer: what is known of the uses where a word is offered.
use Rattle.std.proofs.Common.{◌≡◌, ◌≢◌, ◌++◌, ℕ, Bool, true, false, cond, not, List, [], ◌∷◌, map, filter, Option, Some, None, refl, sym, ap, ◌∙◌, subst, arith}
use Rattle.std.specs.Prelude.{IsSome, IfSome}
use Rattle.std.specs.Option.{option_map_or}
use Rattle.xif_base.specs.Params.{IsInRange}
use Rattle.xif_base.specs.declared.params.Key.{Key}
use Rattle.coproc_config.specs.declared.accept.Hit.{Hit}
use Rattle.inorder_machine.specs.Machine.{Extension, State}
use Rattle.xif_signals.specs.declared.bus.CpuOut.{CpuOut}
use Rattle.cycle_spec.specs.declared.entry.Entry.{Entry}
use Rattle.cycle_spec.specs.declared.turn.Transaction.{Transaction}
use Rattle.cycle_spec.specs.declared.use_of.Use.{Use}
use Rattle.cycle_spec.specs.Flight.{is_open, with_response}
use Rattle.cycle_spec.specs.Engine.{has_key, issue_key, latest, start_of, new_use, with_start, with_answer}
use Rattle.cycle_lists.specs.Lists.{Each, Pairs, FirstAt}
use Rattle.cycle_lists.specs.Order.{Before}
use Rattle.cycle_lists.proofs.Every.{Each-from, Each-both, Each-append, Each-filter, Each-push}
use Rattle.cycle_paired.specs.Paired.{is_live, response_of, IsEntry, Older, Offers}
use Rattle.cycle_paired.proofs.Facts.{Joint, open-unknown, open-dead}
use Rattle.cycle_paired.proofs.Matching.{latest-at}
use Rattle.cycle_paired.proofs.Starting.{started_in, Started, OffersWord, starting}
use Rattle.cycle_lists.proofs.Tests.{not-both}
use Rattle.ahead_spec.specs.Walk.{Item}
use Rattle.ahead_spec.specs.Operands.{word_hit}
use Rattle.ahead_spec.specs.World.{World}
use Rattle.cycle_events.specs.Becomes.{Becomes}
use Rattle.cycle_events.specs.Shown.{Tied, IsHeld, Left, Shows}
use Rattle.cycle_events.proofs.Moving.{to-items}
use Rattle.cycle_events.proofs.Tying.{Tie, other-ids-at}
use Rattle.cycle_events.proofs.Answered.{IsOffer, answered}

-- the ids of live entries differ from the offered one
pub live-ids : (es : List Entry) (p : Entry) → FirstAt is_open es p → Pairs Before es → Each IsEntry es → Each (λ e. is_live e ≡ true → e.id ≢ p.id) es
live-ids es p f b ok =
    let k = other-ids-at f.older p f.younger (subst (Pairs Before) f.here b) (subst (Each IsEntry) f.here ok) (open-unknown p f.passes) in
    subst (Each (λ e. is_live e ≡ true → e.id ≢ p.id)) (sym f.here) (Each-append (λ e. is_live e ≡ true → e.id ≢ p.id) f.older (p ∷ f.younger) k.front ((λ l. absurd (not-both (is_live p) (open-dead p f.passes) l)), k.back))

-- ---- a new use

tied-start : (x : Extension) (hart : ℕ) (key : Key) (c word : ℕ) (b : Bool) (us : List Use) (y : Item) → (is_live y.entry ≡ true → y.entry.id ≢ key.id) → Tied x hart us y → Tied x hart (cond b (with_start (new_use key c word) us) us) y
tied-start x hart key c word false us y n t = t
tied-start x hart key c word true us y n t =
    Each-push (Tie x hart y) (filter (λ other. not (has_key key other)) us) (new_use key c word) (Each-filter (Tie x hart y) (λ other. not (has_key key other)) us t) (λ l h i. absurd (n l (sym i)))

pub held-start : (key : Key) (c word : ℕ) (b : Bool) (us : List Use) → Each IsHeld us → Each IsHeld (cond b (with_start (new_use key c word) us) us)
held-start key c word false us h = h
held-start key c word true us h =
    Each-push IsHeld (filter (λ other. not (has_key key other)) us) (new_use key c word) (Each-filter IsHeld (λ other. not (has_key key other)) us h) (record { lanes = λ g. refl; ended = λ q. cc })

none-from : (o : Option ℕ) → (IsSome o → ⊥) → o ≡ None
none-from None h = refl
none-from (Some v) h = absurd (h refl)

-- what is known of each use
offers-of : (hart n id c : ℕ) (answered : ℕ → Bool) (waiting : Option Transaction) (cpu : CpuOut) (es : List Entry) (p : Entry) (us : List Use) (a : Started hart n id c answered waiting cpu es p us) → Each (IsOffer hart p a.new.start) (started_in waiting cpu c us)
offers-of hart n id c answered waiting cpu es p us a =
    let v = a.new in
    subst (Each (IsOffer hart p v.start)) (sym a.here)
    (Each-push (IsOffer hart p v.start) a.front v
    (Each-from (λ u. Older u v) (IsOffer hart p v.start) a.front
    (λ u o. record {
      id = λ q. absurd (let r = o.rises in omega arith);
      start = λ h i. absurd (o.apart (h ∙ sym a.hart_is) (i ∙ sym a.id_is));
      not_given = λ q. absurd (let r = o.rises in omega arith);
      unready = λ q. absurd (let r = o.rises in omega arith);
    }) a.before)
    (record { id = λ q. a.id_is; start = λ h i. refl; not_given = λ q. a.unanswered.not_given; unready = λ q. none-from v.ready a.unready }))

start-is : (cpu : CpuOut) (c : ℕ) (us front : List Use) (new : Use) → us ≡ front ++ new ∷ [] → new.key.hart ≡ cpu.issue_hartid → new.key.id ≡ cpu.issue_id → start_of (issue_key cpu) us c ≡ new.start
start-is cpu c us front new h a b = ap (λ o. option_map_or (λ u. u.start) o c) (ap (latest (issue_key cpu)) h ∙ latest-at front new [] cpu.issue_hartid cpu.issue_id a b tt)

-- what is shown with the use that starts
pub started : (x : Extension) (start : State) (hart : ℕ) (left : Left) (at : ℕ) (w : World) (c : ℕ) (waiting : Option Transaction) (cpu : CpuOut) (es : List Entry) (p : Entry) (us : List Use)
    → OffersWord hart cpu p → Each (λ e. is_live e ≡ true → e.id ≢ p.id) es → Shows x start hart left es us at w → Shows x start hart left es (started_in waiting cpu c us) at w
started x start hart left at w c waiting cpu es p us o ids m =
    let items = to-items (λ e. is_live e ≡ true → e.id ≢ p.id) w.flight (subst (Each (λ e. is_live e ≡ true → e.id ≢ p.id)) (sym m.entries_are) ids) in
    record {
      runs = m.runs;
      left_is = m.left_is;
      entries_are = m.entries_are;
      leads = m.leads;
      tied = Each-both (λ y. is_live y.entry ≡ true → y.entry.id ≢ p.id) (Tied x hart us) (Tied x hart (started_in waiting cpu c us)) w.flight (λ y n t. tied-start x hart (issue_key cpu) c cpu.issue_instr _ us y (λ l q. n l (q ∙ o.id_is)) t) items m.tied;
    }

pub answering : (x : Extension) (start : State) (hart : ℕ) (left : Left) (at : ℕ) (w : World) (t : Bool) (hit : Option Hit) (order n id c : ℕ) (answered' : ℕ → Bool) (waiting : Option Transaction) (cpu : CpuOut) (es : List Entry) (p : Entry) (us : List Use)
    → IsInRange x.params → OffersWord hart cpu p → FirstAt is_open es p → IfSome waiting (λ t. Each (Offers answered' hart es t.owner) us) → Joint hart n id c answered' es us → hit ≡ word_hit x p.word
    → Shows x start hart left es (started_in waiting cpu c us) at w
    → Becomes x (Shows x start hart left (cond t (map (with_response p.seq (response_of hit)) es) es)
    (cond t (map (with_answer (start_of (issue_key cpu) (started_in waiting cpu c us) c) hit order) (started_in waiting cpu c us)) (started_in waiting cpu c us)) at) w
answering x start hart left at w t hit order n id c answered' waiting cpu es p us range o f k j h m =
    let a = starting hart n id c answered' waiting cpu es p us o f k j in
    let vs = started_in waiting cpu c us in
    let same : start_of (issue_key cpu) vs c ≡ a.new.start = start-is cpu c vs a.front a.new a.here (a.hart_is ∙ sym o.hart_is) (a.id_is ∙ sym o.id_is) in
    let offers = subst (λ s. Each (IsOffer hart p s) vs) (sym same) (offers-of hart n id c answered' waiting cpu es p us a) in
    answered x start hart left at w t (response_of hit) p (start_of (issue_key cpu) vs c) hit order es vs range f j.kept.pairs j.entries (live-ids es p f j.kept.pairs j.entries) (ap response_of h) h offers m

-- each use is held
pub held-answer : (t : Bool) (s : ℕ) (hit : Option Hit) (order : ℕ) (us : List Use) → Each IsHeld us → Each IsHeld (cond t (map (with_answer s hit order) us) us)
held-answer false s hit order us h = h
held-answer true s hit order us h = go us h
  where
    go : (us : List Use) → Each IsHeld us → Each IsHeld (map (with_answer s hit order) us)
    go [] h = tt
    go (u ∷ us) h = (record { lanes = h.0.lanes; ended = h.0.ended }, go us h.1)
