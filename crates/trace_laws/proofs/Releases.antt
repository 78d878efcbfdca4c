-- What was accepted before a released use is released: in every cycle.
use Rattle.std.proofs.Common.{◌≡◌, ◌<◌, ◌++◌, ◌&&◌, ◌||◌, ℕ, Bool, true, false, if◌then◌else◌, Option, Some, None, List, [], ◌∷◌, map, refl, sym, ap, ◌∙◌, subst, arith}
use Rattle.std.specs.Prelude.{find, IfSome, nat_le}
use Rattle.std.proofs.lemmas.Bool.{eqb-true}
use Rattle.inorder_machine.specs.declared.line.Stepped.{Stepped}
use Rattle.inorder_machine.specs.declared.line.Stepped.TheVariants.{Retired, Stop}
use Rattle.xif_signals.specs.declared.bus.Bus.{Bus}
use Rattle.xif_session.specs.declared.fact.Response.{Response}
use Rattle.xif_session.specs.Facts.{is_accepted, is_issued, is_given, is_taken, response_on}
use Rattle.cycle_spec.specs.declared.choices.Choices.{Choices}
use Rattle.cycle_spec.specs.declared.choices.Executed.{Executed}
use Rattle.cycle_spec.specs.declared.choices.Presented.{Presented}
use Rattle.cycle_spec.specs.declared.entry.Entry.{Entry}
use Rattle.cycle_spec.specs.declared.log.Cut.{Cut}
use Rattle.cycle_spec.specs.Flight.{is_open, is_safe, has_seq, holds_id, with_response, with_sent, with_release, with_result, with_outcome}
use Rattle.cycle_spec.specs.State.{Core}
use Rattle.cycle_spec.specs.Core.{response_on_offer, sent_on_present, release_step, cut_step, drain_step, result_for, execute_step, retire_step, answered_entries, sent_entries, released_entries, kept_entries, finished_entries, executed_entries, settled_entries, with_dispatch, dispatch_of, next_entry}
use Rattle.cycle_lists.specs.Lists.{Each, Pairs, FirstAt}
use Rattle.cycle_lists.specs.Order.{Before}
use Rattle.cycle_lists.proofs.Tests.{and-left, not-both, or-cases, or-left, or-right, and-both, le-in, le-out}
use Rattle.cycle_lists.proofs.Every.{each, Each-from, Pairs-map, Pairs-both, Pairs-take, Pairs-drop, Pairs-push}
use Rattle.cycle_paired.specs.Paired.{Behind}
use Rattle.cycle_paired.proofs.Facts.{only, open-unsafe}
use Rattle.trace_laws.proofs.CoreChosen.{InOrder}

-- with the numbers, which rise
abbrev Ranked : Entry → Entry → Type 0
Ranked x y = InOrder x y × (x.seq < y.seq)

-- ---- the issue handshake: of a word behind which nothing is released

abbrev Stands : ℕ → Entry → Entry → Type 0
Stands seq x y = Ranked x y × (Behind x y × (x.seq ≡ seq → is_open x ≡ true))

answer-pair : (seq : ℕ) (r : Response) (x y : Entry) → Stands seq x y → Ranked (with_response seq r x) (with_response seq r y)
answer-pair seq r x y s = (λ released accepted. go (has_seq seq x) refl released accepted, s.0.1)
  where
    go : (t : Bool) → has_seq seq x ≡ t → y.released ≡ true → is_accepted (if t then Some r else x.response) ≡ true → x.released ≡ true
    go true q released accepted = absurd (not-both (is_safe x) (open-unsafe x (s.1.1 (eqb-true x.seq seq q))) (s.1.0.safe released))
    go false q released accepted = s.0.0 released accepted

Pairs-each : {A : Type 0} (R S : A → A → Type 0) (P : A → Type 0) (xs : List A) → ((x y : A) → R x y → P x → S x y) → Pairs R xs → Each P xs → Pairs S xs
Pairs-each R S P [] k r h = tt
Pairs-each R S P (x ∷ xs) k r h = (Each-from (R x) (S x) xs (λ y a. k x y a h.0) r.0, Pairs-each R S P xs k r.1 h.1)

answered : (t : Bool) (o : Option Entry) (b : Bus) (es : List Entry) → Pairs Before es → Pairs Behind es → IfSome o (FirstAt is_open es) → Pairs Ranked es → Pairs Ranked (if t then response_on_offer o b es else es)
answered false o b es order behind f h = h
answered true None b es order behind f h = h
answered true (Some e) b es order behind f h =
    let places : Each (λ x. x.seq ≡ e.seq → is_open x ≡ true) es = subst (Each (λ x. x.seq ≡ e.seq → is_open x ≡ true)) (sym f.here)
    (Each-from (λ x. x.seq ≡ e.seq → x ≡ e) (λ x. x.seq ≡ e.seq → is_open x ≡ true) (f.older ++ e ∷ f.younger) (λ x k q. ap is_open (k q) ∙ f.passes) (only f.older e f.younger (subst (Pairs Before) f.here order))) in
    Pairs-map2 es (Pairs-each (λ x y. Ranked x y × Behind x y) (Stands e.seq) (λ x. x.seq ≡ e.seq → is_open x ≡ true) es (λ x y a c. (a.0, (a.1, c))) (Pairs-both Ranked Behind (λ x y. Ranked x y × Behind x y) es (λ x y a c. (a, c)) h behind) places)
  where
    Pairs-map2 : (xs : List Entry) → Pairs (Stands e.seq) xs → Pairs Ranked (map (with_response e.seq (response_on b)) xs)
    Pairs-map2 [] p = tt
    Pairs-map2 (x ∷ xs) p = (one xs p.0, Pairs-map2 xs p.1)
      where
        one : (ys : List Entry) → Each (Stands e.seq x) ys → Each (Ranked (with_response e.seq (response_on b) x)) (map (with_response e.seq (response_on b)) ys)
        one [] q = tt
        one (y ∷ ys) q = (answer-pair e.seq (response_on b) x y q.0, one ys q.1)

-- ---- the other steps

sent : (t : Bool) (o : Option Presented) (es : List Entry) → Pairs Ranked es → Pairs Ranked (if t then sent_on_present o es else es)
sent false o es h = h
sent true None es h = h
sent true (Some x) es h = Pairs-map Ranked (with_sent x.entry.seq) es (λ x y k. k) h

release-pair : (seq : ℕ) (x y : Entry) → Ranked x y → Ranked (with_release seq x) (with_release seq y)
release-pair seq x y r = (
  λ released accepted. or-cases y.released (nat_le y.seq seq && is_accepted y.response) ((x.released || (nat_le x.seq seq && is_accepted x.response)) ≡ true) released
      (λ q. or-left x.released _ (r.0 q accepted))
      (λ q. or-right x.released _ (and-both (nat_le x.seq seq) (is_accepted x.response) (le-out x.seq seq (let a = le-in y.seq seq (and-left (nat_le y.seq seq) (is_accepted y.response) q) in let l = r.1 in omega arith)) accepted)),
  r.1,
)

released : (o : Option Entry) (es : List Entry) → Pairs Ranked es → Pairs Ranked (release_step o es)
released None es h = h
released (Some e) es h = Pairs-map Ranked (with_release e.seq) es (release-pair e.seq) h

cut : (o : Option Cut) (es : List Entry) → Pairs Ranked es → Pairs Ranked (cut_step o es)
cut None es h = h
cut (Some c) es h = Pairs-take Ranked c.keep es h

drained : (o : Option ℕ) (es : List Entry) → Pairs Ranked es → Pairs Ranked (drain_step o es)
drained None es h = h
drained (Some n) es h = Pairs-take Ranked n es h

finished : (t : Bool) (o : Option Entry) (b : Bus) (es : List Entry) → Pairs Ranked es → Pairs Ranked (if t then result_for o b es else es)
finished false o b es h = h
finished true None b es h = h
finished true (Some e) b es h = Pairs-map Ranked (with_result e.seq _) es (λ x y k. k) h

executed : (o : Option Executed) (es : List Entry) → Pairs Ranked es → Pairs Ranked (execute_step o es)
executed None es h = h
executed (Some x) es h = go x.outcome
  where
    go : (o : Stepped) → Pairs Ranked (map (with_outcome x.entry.seq o) es)
    go (Retired line) = Pairs-map Ranked (with_outcome x.entry.seq (Retired line)) es (λ x y k. k) h
    go (Stop cause) = Pairs-map Ranked (with_outcome x.entry.seq (Stop cause)) es (λ x y k. k) h

retired : (o : Option Entry) (es : List Entry) → Pairs Ranked es → Pairs Ranked (retire_step o es)
retired None es h = h
retired (Some e) es h = Pairs-drop Ranked 1 es h

pub order_after : (answer : ℕ → ℕ → ℕ) (w : Core) (ch : Choices) (b : Bus) → Pairs Before w.flight → Pairs Behind w.flight → IfSome ch.offer (FirstAt is_open w.flight) → Pairs InOrder w.flight
    → Pairs InOrder (with_dispatch (dispatch_of answer w ch) (settled_entries ch b w.flight))
order_after answer w ch b order behind f h = dispatched ch.dispatch
  where
    start : Pairs Ranked w.flight
    start = Pairs-both InOrder Before Ranked w.flight (λ x y a c. (a, c.rises)) h order

    settled : Pairs Ranked (settled_entries ch b w.flight)
    settled =
        retired ch.retire (executed_entries ch b w.flight) (executed ch.execute (finished_entries ch b w.flight)
        (finished (is_taken b) (find (holds_id b.result_id) (kept_entries ch b w.flight)) b (kept_entries ch b w.flight)
        (drained ch.drain (cut_step ch.cut (released_entries ch b w.flight)) (cut ch.cut (released_entries ch b w.flight)
        (released ch.release (sent_entries ch b w.flight) (sent (is_given b) ch.present (answered_entries ch b w.flight)
        (answered (is_issued b) ch.offer b w.flight order behind f start)))))))

    plain : Pairs InOrder (settled_entries ch b w.flight)
    plain = Pairs-both Ranked Ranked InOrder (settled_entries ch b w.flight) (λ x y a c. a.0) settled settled

    dispatched : (t : Bool) → Pairs InOrder (with_dispatch (if t then Some (next_entry answer w ch) else None) (settled_entries ch b w.flight))
    dispatched false = plain
    dispatched true = Pairs-push InOrder (settled_entries ch b w.flight) (next_entry answer w ch) plain (each (λ x. InOrder x (next_entry answer w ch)) (settled_entries ch b w.flight) (λ x q. cc))
