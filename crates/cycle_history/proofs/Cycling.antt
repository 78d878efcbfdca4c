-- A cycle, up to its retirement: the accepted uses that aren't killed are those of before that
-- aren't killed in it, and the one that it accepts.
use Rattle.std.proofs.Common.{◌≡◌, ◌==◌, ◌&&◌, ◌++◌, not, if◌then◌else◌, ℕ, zero, suc, Bool, true, false, Option, Some, None, IfSome, List, [], ◌∷◌, map, filter, take, drop, length, reverse, refl, sym, ap, ◌∙◌, subst, append-nil, append_assoc}
use Rattle.std.specs.Prelude.{is_some}
use Rattle.std.specs.Option.{option_map_or}
use Rattle.std.proofs.lemmas.List.{reverse-append}
use Rattle.std.proofs.lemmas.Bool.{eqb-true}
use Rattle.inorder_machine.specs.Machine.{Extension, State}
use Rattle.xif_signals.specs.declared.bus.Bus.{Bus}
use Rattle.xif_session.specs.Facts.{issue_key, is_taken, is_accepted as is_response_accepted}
use Rattle.xif_session.specs.Uses.{last_bus}
use Rattle.cycle_spec.specs.declared.choices.Choices.{Choices}
use Rattle.cycle_spec.specs.declared.choices.Executed.{Executed}
use Rattle.cycle_spec.specs.declared.entry.Entry.{Entry}
use Rattle.cycle_spec.specs.Flight.{is_unknown, is_unknown_kind, is_open, holds_id}
use Rattle.cycle_spec.specs.Core.{retire_step, with_dispatch, kept_entries}
use Rattle.cycle_spec.specs.Core as core
use Rattle.cycle_spec.specs.Cycle.{Machines}
use Rattle.cycle_lists.specs.Lists.{Each, Pairs, FirstAt}
use Rattle.cycle_lists.specs.Order.{Before}
use Rattle.cycle_lists.proofs.Tests.{and-left, and-right, and-both, not-both, same-some, none-some}
use Rattle.cycle_lists.proofs.Every.{each, Each-from, Each-both, Each-at, Each-map, Each-front, Each-back}
use Rattle.cycle_lists.proofs.Places.{first-at}
use Rattle.cycle_paired.specs.Paired.{is_live, IsEntry, Paired}
use Rattle.cycle_paired.proofs.Facts.{accepted-some, open-undone, open-unknown, only}
use Rattle.cycle_paired.proofs.Choosing.{Unreleased, Way, Quiet, Releases, Cuts}
use Rattle.cycle_paired.proofs.Executing.{Execs}
use Rattle.engine_history.specs.Lives.{Life, Answer, Verdict, new_life, is_accepted, is_killed, is_released, latest, starts, lives_of, lives_with}
use Rattle.cycle_history.specs.Uses.{IsUseOf, is_kept}
use Rattle.cycle_history.proofs.Change.{Kept, Judged, Stays, Comes, newly, grown-verdict, accepted-split}
use Rattle.cycle_history.proofs.Told.{LiveLife, all-live, at-each}
use Rattle.cycle_history.proofs.Results.{Cycle, grow, lives-after, cycle-grown, cycle-kept, result-life, each-latest, kept-stays}
use Rattle.cycle_history.proofs.Words.{Words, HasWord}
use Rattle.cycle_history.proofs.Ends.{use-on, Served, new-use}
use Rattle.cycle_history.proofs.Flying.{life_at, flying, is_counted, Walk, walk-both, walk-each, walk-map, map-appended, map-reversed, filter-reversed, filter-mapped, filter-both, filter-within, map-filtered, filtered-map, filtered-same, chosen-each, reverse-cons}
use Rattle.cycle_history.proofs.Steps.{first_change, whole_change, cutting, result_entry, kept-map, first-id, first-seq, whole-id, whole-response, keeps-place, Doing, Was, Given, Executes, whole-done}
use Rattle.cycle_history.proofs.Entering.{Seat, Old, New, Offers, seats, answers-stay}
use Rattle.cycle_history.proofs.Leaving.{result-key, result-own, kept-unkilled, after-latest}
use Rattle.cycle_history.proofs.Past.{DoneUse, Done}

-- ---- lists

both : {A : Type 0} (P Q : A → Type 0) (xs : List A) → Each P xs → Each Q xs → Each (λ e. P e × Q e) xs
both P Q xs p q = Each-both P Q (λ e. P e × Q e) xs (λ e a b. (a, b)) p q

all-only : (fl : List Entry) → Pairs Before fl → Each (λ q. Each (λ e. e.seq ≡ q.seq → e ≡ q) fl) fl
all-only fl b = at-each (λ q. Each (λ e. e.seq ≡ q.seq → e ≡ q) fl) [] fl (λ older q younger h. subst (Each (λ e. e.seq ≡ q.seq → e ≡ q)) (sym h) (only older q younger (subst (Pairs Before) h b)))

taken-dropped : (k : ℕ) (es : List Entry) → es ≡ take k es ++ drop k es
taken-dropped zero es = refl
taken-dropped (suc k) [] = refl
taken-dropped (suc k) (e ∷ es) = ap (λ l. e ∷ l) (taken-dropped k es)

-- what stays, and what goes
pub record Parted (ch : Choices) (fl : List Entry) : Type 0 where
  pub gone : List Entry
  pub here : fl ≡ cutting ch fl ++ gone
  pub unreleased : Each Unreleased gone

pub parted-way : (ch : Choices) (fl : List Entry) → Way fl ch → Parted ch fl
parted-way ch fl (Quiet k q c d) = record { gone = []; here = sym (ap (λ z. core.drain_step z (core.cut_step ch.cut fl)) d ∙ ap (λ z. core.cut_step z fl) c) ∙ sym (append-nil (cutting ch fl)); unreleased = tt }
parted-way ch fl (Releases p k q c d w) = record { gone = []; here = sym (ap (λ z. core.drain_step z (core.cut_step ch.cut fl)) d ∙ ap (λ z. core.cut_step z fl) c) ∙ sym (append-nil (cutting ch fl)); unreleased = tt }
parted-way ch fl (Cuts k r h q un) = record { gone = drop k fl; here = taken-dropped k fl ∙ ap (λ z. z ++ drop k fl) (sym (h fl)); unreleased = un }

-- ---- what is known of each entry

pub record Known (x : Extension) (session : List Bus) (b : Bus) (m : Machines) (ch : Choices) (e : Entry) : Type 0 where
  pub ok : IsEntry e
  pub seat : is_response_accepted (first_change ch b e).response ≡ true → Seat session b e
  pub stays : is_response_accepted e.response ≡ true → (first_change ch b e).response ≡ e.response
  pub live : is_live e ≡ true → LiveLife x.params x.set (lives_of session) m.engine.uses e
  pub exec : (y : Executed) → ch.execute ≡ Some y → e.seq ≡ y.entry.seq → is_unknown e ≡ false
  pub result : (p : Entry) → result_entry ch b m.core.flight ≡ Some p → e.seq ≡ p.seq → b.result_id ≡ e.id

execs-known : (ch : Choices) (fl : List Entry) → IfSome ch.execute (λ x. Each (Execs x.entry.seq x.outcome) fl) → Each (λ e. (y : Executed) → ch.execute ≡ Some y → e.seq ≡ y.entry.seq → is_unknown e ≡ false) fl
execs-known ch fl h = go ch.execute refl h
  where
    go : (o : Option Executed) → ch.execute ≡ o → IfSome o (λ x. Each (Execs x.entry.seq x.outcome) fl) → Each (λ e. (y : Executed) → ch.execute ≡ Some y → e.seq ≡ y.entry.seq → is_unknown e ≡ false) fl
    go None q h = each (λ e. (y : Executed) → ch.execute ≡ Some y → e.seq ≡ y.entry.seq → is_unknown e ≡ false) fl (λ e y r s. absurd (none-some ch.execute y q r))
    go (Some z) q h =
        Each-from (Execs z.entry.seq z.outcome) (λ e. (y : Executed) → ch.execute ≡ Some y → e.seq ≡ y.entry.seq → is_unknown e ≡ false) fl
        (λ e k y r s. let same : z ≡ y = same-some ch.execute z y q r in ap is_unknown_kind (k (s ∙ ap (λ (v : Executed). v.entry.seq) (sym same))).kind_is) h

module _ (x : Extension) (start : State) (session : List Bus) (b : Bus) (m : Machines) (k : Paired 0 m) (c : Cycle x.params x.set session b m.engine) (ch : Choices) (offer : IfSome ch.offer (FirstAt is_open m.core.flight)) (exec : IfSome ch.execute (λ x. Each (Execs x.entry.seq x.outcome) m.core.flight)) (part : Parted ch m.core.flight) (offers : Offers ch b) where
  seq-ids : Each (λ p. Each (λ e. e.seq ≡ p.seq → e.id ≡ p.id) m.core.flight) (kept_entries ch b m.core.flight)
  seq-ids =
      let fl = m.core.flight in
      let P = λ (p : Entry). Each (λ e. e.seq ≡ p.seq → e.id ≡ p.id) fl in
      let all = all-only fl k.order.pairs in
      let stay : Each (λ q. Each (λ e. e.seq ≡ q.seq → e ≡ q) fl) (cutting ch fl) = Each-front (λ q. Each (λ e. e.seq ≡ q.seq → e ≡ q) fl) (cutting ch fl) part.gone (subst (Each (λ q. Each (λ e. e.seq ≡ q.seq → e ≡ q) fl)) part.here all) in
      subst (Each P) (sym (kept-map ch b fl))
      (Each-map (λ q. Each (λ e. e.seq ≡ q.seq → e ≡ q) fl) P (first_change ch b) (cutting ch fl)
      (λ q h. Each-from (λ e. e.seq ≡ q.seq → e ≡ q) (λ e. e.seq ≡ (first_change ch b q).seq → e.id ≡ (first_change ch b q).id) fl (λ e o s. ap (λ (v : Entry). v.id) (o (s ∙ first-seq ch b q)) ∙ sym (first-id ch b q)) h) stay)

  results-known : Each (λ e. (p : Entry) → result_entry ch b m.core.flight ≡ Some p → e.seq ≡ p.seq → b.result_id ≡ e.id) m.core.flight
  results-known = go (result_entry ch b m.core.flight) refl
    where
      go : (o : Option Entry) → result_entry ch b m.core.flight ≡ o → Each (λ e. (p : Entry) → result_entry ch b m.core.flight ≡ Some p → e.seq ≡ p.seq → b.result_id ≡ e.id) m.core.flight
      go None q = each (λ e. (p : Entry) → result_entry ch b m.core.flight ≡ Some p → e.seq ≡ p.seq → b.result_id ≡ e.id) m.core.flight (λ e p r s. absurd (none-some (result_entry ch b m.core.flight) p q r))
      go (Some z) q =
          let f = first-at (holds_id b.result_id) (kept_entries ch b m.core.flight) z q in
          let own : z.id ≡ b.result_id = eqb-true z.id b.result_id (and-right (is_unknown z) (z.id == b.result_id) f.passes) in
          Each-from (λ e. e.seq ≡ z.seq → e.id ≡ z.id) (λ e. (p : Entry) → result_entry ch b m.core.flight ≡ Some p → e.seq ≡ p.seq → b.result_id ≡ e.id) m.core.flight
          (λ e h p r s. let same : z ≡ p = same-some (result_entry ch b m.core.flight) z p q r in sym own ∙ sym (h (s ∙ ap (λ (v : Entry). v.seq) (sym same))))
          (Each-at (λ p. Each (λ e. e.seq ≡ p.seq → e.id ≡ p.id) m.core.flight) (kept_entries ch b m.core.flight) f.older z f.younger f.here seq-ids)

  pub all-known : Each (Known x session b m ch) m.core.flight
  all-known =
      let fl = m.core.flight in
      let A = IsEntry in
      let B = λ (e : Entry). is_response_accepted (first_change ch b e).response ≡ true → Seat session b e in
      let C = λ (e : Entry). is_response_accepted e.response ≡ true → (first_change ch b e).response ≡ e.response in
      let D = λ (e : Entry). is_live e ≡ true → LiveLife x.params x.set (lives_of session) m.engine.uses e in
      let E = λ (e : Entry). (y : Executed) → ch.execute ≡ Some y → e.seq ≡ y.entry.seq → is_unknown e ≡ false in
      let F = λ (e : Entry). (p : Entry) → result_entry ch b fl ≡ Some p → e.seq ≡ p.seq → b.result_id ≡ e.id in
      let bs = seats session b ch offers fl offer k.order.pairs k.behind k.entries in
      let cs = answers-stay session b ch offers fl offer k.order.pairs k.behind k.entries in
      let ds = all-live x.params x.set (lives_of session) m k c.both.whole_is.uses_are in
      let es = execs-known ch fl exec in
      Each-from (λ e. (A e × B e) × ((C e × D e) × (E e × F e))) (Known x session b m ch) fl (λ e h. record { ok = h.0.0; seat = h.0.1; stays = h.1.0.0; live = h.1.0.1; exec = h.1.1.0; result = h.1.1.1 })
      (both (λ e. A e × B e) (λ e. (C e × D e) × (E e × F e)) fl (both A B fl k.entries bs) (both (λ e. C e × D e) (λ e. E e × F e) fl (both C D fl cs ds) (both E F fl es results-known)))

  -- ---- uses that have their result

  next-done : (s : State) (e : Entry) (l : Life) → latest (record { hart = 0; id = e.id }) (lives_with session b) ≡ Some l → is_kept l ≡ true → IsUseOf x (b ∷ session) (grow session b l) (record { word = e.word; state = s }) → DoneUse x (b ∷ session) s (whole_change ch b m.core.flight e)
  next-done s e l at kept u =
      let g = whole_change ch b m.core.flight e in
      let f = each-latest (λ l. Kept l (grow session b l)) (record { hart = 0; id = e.id }) (lives_with session b) l (cycle-kept x.params x.set session b m.engine c) at in
      record {
        life = grow session b l;
        latest_is = ap (λ i. latest (record { hart = 0; id = i }) (lives_of (b ∷ session))) (whole-id ch b m.core.flight e) ∙ after-latest session b (record { hart = 0; id = e.id }) l at;
        kept = kept-stays session b l f kept;
        use' = subst (λ w. IsUseOf x (b ∷ session) (grow session b l) (record { word = w; state = s })) (sym ((keeps-place ch b m.core.flight).word e)) u;
      }

  no-answer : (l : Life) → l.answer ≡ None → is_accepted l ≡ true → ⊥
  no-answer l h a = no (sym (ap (λ o. option_map_or (λ (a : Answer). a.response.accept) o false) h) ∙ a)
    where
      no : false ≡ true → ⊥
      no h = cc

  pub done-next : Words session → (s : State) (e : Entry) → Known x session b m ch e → Done x session s e → (is_live e ≡ true → Served x m.engine.uses s e) → Done x (b ∷ session) s (whole_change ch b m.core.flight e)
  done-next words s e f done served d a =
      let first : is_response_accepted (first_change ch b e).response ≡ true = sym (ap is_response_accepted (whole-response ch b m.core.flight e)) ∙ a in
      by (f.seat first) (whole-done ch b m.core.flight e d)
    where
      was : (r : is_response_accepted e.response ≡ true) → latest (record { hart = 0; id = e.id }) (lives_with session b) ≡ latest (record { hart = 0; id = e.id }) (lives_of session) → e.done ≡ true → DoneUse x (b ∷ session) s (whole_change ch b m.core.flight e)
      was r q z =
          let v = done z r in
          let at = q ∙ v.latest_is in
          let kept = each-latest (λ l. Kept l (grow session b l)) (record { hart = 0; id = e.id }) (lives_with session b) v.life (cycle-kept x.params x.set session b m.engine c) at in
          next-done s e v.life at v.kept (use-on x session b m.engine c v.life (record { word = e.word; state = s }) (and-left (is_accepted v.life) (is_released v.life) v.kept) kept v.use')

      -- a result for it
      given : (r : is_response_accepted e.response ≡ true) → latest (record { hart = 0; id = e.id }) (lives_with session b) ≡ latest (record { hart = 0; id = e.id }) (lives_of session) → (p : Entry) → is_taken b ≡ true → result_entry ch b m.core.flight ≡ Some p → e.seq ≡ p.seq
          → (t : Bool) → e.done ≡ t → DoneUse x (b ∷ session) s (whole_change ch b m.core.flight e)
      given r q p t h z true y = was r q y
      given r q p t h z false y =
          let v = result-life x.params x.set session b m.engine c t in
          let key = result-key x session b m k v e.id (f.result p h z) in
          let at : latest (record { hart = 0; id = e.id }) (lives_with session b) ≡ Some v.life = q ∙ ap (λ i. latest i (lives_of session)) (sym key) ∙ v.latest_is in
          let live = and-both (is_some e.response) (not e.done) (accepted-some e.response r) (ap not y) in
          let kept = each-latest (λ l. Kept l (grow session b l)) (record { hart = 0; id = e.id }) (lives_with session b) v.life (cycle-kept x.params x.set session b m.engine c) at in
          let word = each-latest HasWord v.use'.key (lives_of session) v.life words.words v.latest_is in
          next-done s e v.life at (and-both (is_accepted v.life) (is_released v.life) v.accepted v.released) (new-use x session b m k c v t e s (f.live live) (served live) key word kept)

      by : Seat session b e → Doing ch b m.core.flight e → DoneUse x (b ∷ session) s (whole_change ch b m.core.flight e)
      by (Old r q) (Was z) = was r q z
      by (Old r q) (Given p t h z) = given r q p t h z e.done refl
      by (Old r q) (Executes y h z) = absurd (not-both (is_unknown e) (f.exec y h z) (f.ok.answered (accepted-some e.response r)))
      by (New h o q) (Was z) = absurd (not-both e.done (open-undone e f.ok o) z)
      by (New h o q) (Given p t r z) =
          let v = result-life x.params x.set session b m.engine c t in
          let key = result-key x session b m k v e.id (f.result p r z) in
          let same : h.head ≡ v.life = result-own x.params x.set session b m.engine v e.id h.head key q in
          absurd (no-answer h.head h.none (ap is_accepted same ∙ v.accepted))
      by (New h o q) (Executes y r z) = absurd (not-both (is_unknown e) (f.exec y r z) (open-unknown e o))

-- ---- what the cycle leaves of the uses

pub walk-front : (x : Extension) (P : State → Entry → Type 0) (xs ys : List Entry) (s : State) → Walk x P s (xs ++ ys) → Walk x P s xs
walk-front x P [] ys s h = tt
walk-front x P (e ∷ xs) ys s h = (h.0, walk-front x P xs ys (Rattle.cycle_history.proofs.Flying.behind x s e) h.1)

pub walk-forget : (x : Extension) (P : State → Entry → Type 0) (Q : Entry → Type 0) (es : List Entry) (s : State) → ((s : State) (e : Entry) → P s e → Q e) → Walk x P s es → Each Q es
walk-forget x P Q [] s f h = tt
walk-forget x P Q (e ∷ es) s f h = (f s e h.0, walk-forget x P Q es (Rattle.cycle_history.proofs.Flying.behind x s e) f h.1)

pub each-unreversed : {A : Type 0} (P : A → Type 0) (xs : List A) → Each P (reverse xs) → Each P xs
each-unreversed P [] h = tt
each-unreversed P (e ∷ xs) h =
    let h' = subst (Each P) (reverse-cons e xs) h in
    ((Each-back P (reverse xs) (e ∷ []) h').0, each-unreversed P xs (Each-front P (reverse xs) (e ∷ []) h'))

killed-stays : (session : List Bus) (b : Bus) (l : Life) → not (is_killed (grow session b l)) ≡ true → not (is_killed l) ≡ true
killed-stays session b l h = by (grown-verdict (length session) b (lives_with session b) l)
  where
    by : Judged b.commit_valid b.commit_kill l.verdict (grow session b l).verdict → not (is_killed l) ≡ true
    by (Stays q) = ap (λ o. not (option_map_or (λ (v : Verdict). v.kill) o false)) (sym q) ∙ h
    by (Comes v was t kill now) = ap (λ o. not (option_map_or (λ (v : Verdict). v.kill) o false)) was

with-accepted : (session : List Bus) (b : Bus) → filter is_accepted (lives_with session b) ≡ filter is_accepted (lives_of session)
with-accepted session b = go (starts (last_bus session) b (lives_of session))
  where
    go : (t : Bool) → filter is_accepted (if t then new_life (issue_key b) (length session) b.issue_instr ∷ lives_of session else lives_of session) ≡ filter is_accepted (lives_of session)
    go true = refl
    go false = refl

pub without : (session : List Bus) (b : Bus) (P : Life → Type 0) → Each P (lives_with session b) → Each P (lives_of session)
without session b P h = go (starts (last_bus session) b (lives_of session)) h
  where
    go : (t : Bool) → Each P (if t then new_life (issue_key b) (length session) b.issue_instr ∷ lives_of session else lives_of session) → Each P (lives_of session)
    go true h = h.1
    go false h = h

newly-one : (f : Life → Life) (ls : List Life) → reverse (newly f ls) ≡ newly f ls
newly-one f [] = refl
newly-one f (l ∷ ls) = go (not (is_accepted l) && is_accepted (f l))
  where
    go : (t : Bool) → reverse (if t then l ∷ [] else []) ≡ (if t then l ∷ [] else [])
    go true = refl
    go false = refl

pub newly-accepted : (f : Life → Life) (ls : List Life) → Each (λ l. is_accepted (f l) ≡ true) (newly f ls)
newly-accepted f [] = tt
newly-accepted f (l ∷ ls) = go (is_accepted l) (is_accepted (f l)) refl
  where
    go : (a t : Bool) → is_accepted (f l) ≡ t → Each (λ l. is_accepted (f l) ≡ true) (if not a && t then l ∷ [] else [])
    go true t q = tt
    go false true q = (q, tt)
    go false false q = tt

-- the accepted uses that aren't killed, after a cycle
pub counted-after : (params : Rattle.xif_base.specs.declared.params.Params.Params) (set : List Rattle.coproc_config.specs.Set.UnitTable) (session : List Bus) (b : Bus) (e : Rattle.cycle_spec.specs.State.Engine) → Cycle params set session b e → (F older : List Life)
    → filter is_counted (lives_of session) ≡ reverse F ++ older → Each (λ l. is_kept l ≡ true) older → Each (λ l. is_kept (grow session b l) ≡ true) older
    → filter is_counted (lives_of (b ∷ session)) ≡ reverse (map (grow session b) (filter (λ l. not (is_killed (grow session b l))) (F ++ newly (grow session b) (lives_with session b)))) ++ map (grow session b) older
counted-after params set session b e c F older split kept kept' =
    let ls1 = lives_with session b in
    let ls = lives_of session in
    let f = grow session b in
    let uk = λ (l : Life). not (is_killed (f l)) in
    let N = newly f ls1 in
    let A = filter is_accepted ls in
    let one : filter is_counted (lives_of (b ∷ session)) ≡ map f (filter uk (filter (λ l. is_accepted (f l)) ls1)) =
    ap (filter is_counted) (lives-after session b) ∙ filter-mapped is_counted f ls1 ∙ ap (map f) (filter-both (λ l. is_accepted (f l)) uk ls1) in
    let two : filter (λ l. is_accepted (f l)) ls1 ≡ N ++ A = accepted-split (length session) f ls1 (cycle-grown params set session b e c) ∙ ap (λ z. N ++ z) (with-accepted session b) in
    let counted : filter uk (filter is_counted ls) ≡ filter uk A =
    ap (filter uk) (filter-both is_accepted (λ l. not (is_killed l)) ls) ∙ filter-within uk (λ l. not (is_killed l)) A (each (λ l. uk l ≡ true → not (is_killed l) ≡ true) A (λ l. killed-stays session b l)) in
    let old : filter uk older ≡ older = Rattle.cycle_lists.proofs.Filters.filter-all uk older (Each-from (λ l. is_kept (f l) ≡ true) (λ l. uk l ≡ true) older (λ l h. ap not (kept-unkilled (f l) h)) kept') in
    let three : filter uk (N ++ A) ≡ filter uk (N ++ reverse F) ++ older =
    Rattle.cycle_lists.proofs.Filters.filter-append uk N A ∙ ap (λ z. filter uk N ++ z) (sym counted ∙ ap (filter uk) split ∙ Rattle.cycle_lists.proofs.Filters.filter-append uk (reverse F) older ∙ ap (λ z. filter uk (reverse F) ++ z) old)
    ∙ sym (append_assoc (filter uk N) (filter uk (reverse F)) older) ∙ ap (λ z. z ++ older) (sym (Rattle.cycle_lists.proofs.Filters.filter-append uk N (reverse F))) in
    let back : N ++ reverse F ≡ reverse (F ++ N) = ap (λ z. z ++ reverse F) (sym (newly-one f ls1)) ∙ sym (reverse-append F N) in
    one ∙ ap (λ z. map f (filter uk z)) two ∙ ap (map f) (three ∙ ap (λ z. filter uk z ++ older) back ∙ ap (λ z. z ++ older) (filter-reversed uk (F ++ N)))
    ∙ map-appended f (reverse (filter uk (F ++ N))) older ∙ ap (λ z. z ++ map f older) (map-reversed f (filter uk (F ++ N)))
