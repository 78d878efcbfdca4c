-- The uses of the instructions in flight, behind the answer of a cycle.
use Rattle.std.proofs.Common.{◌≡◌, ◌≢◌, ◌&&◌, ◌++◌, not, if◌then◌else◌, ℕ, Bool, true, false, Option, Some, None, IfSome, List, [], ◌∷◌, length, refl, sym, ap, ◌∙◌, subst, append-nil}
use Rattle.std.specs.Prelude.{is_some}
use Rattle.std.specs.Option.{option_map_or}
use Rattle.std.specs.List.{filter_map, cons_option}
use Rattle.std.proofs.lemmas.List.Elements.{filter_map-append}
use Rattle.std.proofs.lemmas.Bool.{eq-eqb, ne_eqb}
use Rattle.xif_base.specs.declared.params.Key.{Key}
use Rattle.xif_signals.specs.declared.bus.Bus.{Bus}
use Rattle.xif_session.specs.Facts.{same_key, issue_key, is_issued, issue_waits, response_on, is_accepted as is_response_accepted}
use Rattle.xif_session.specs.Uses.{last_bus}
use Rattle.xif_session.proofs.Options.{key_same}
use Rattle.cycle_spec.specs.declared.choices.Choices.{Choices}
use Rattle.cycle_spec.specs.declared.entry.Entry.{Entry}
use Rattle.cycle_spec.specs.Flight.{is_open, with_response}
use Rattle.cycle_lists.specs.Lists.{Each, Pairs, FirstAt}
use Rattle.cycle_lists.specs.Order.{Before}
use Rattle.cycle_lists.proofs.Tests.{and-left, and-right, not-in, not-both, no-some}
use Rattle.cycle_lists.proofs.Every.{each, Each-from, Each-both, Each-append, Each-front, Pairs-older, Pairs-younger}
use Rattle.cycle_paired.specs.Paired.{IsEntry, Behind}
use Rattle.cycle_paired.proofs.Facts.{accepted-some, none-refused, open-none, open-unknown, other-numbers}
use Rattle.engine_history.specs.Lives.{Life, Answer, new_life, is_accepted, is_killed, latest, start_of, goes_on, starts, lives_of, lives_with, change_if, accepted_in, answer_on}
use Rattle.engine_history.proofs.Keep.{HeadWaits, head_with, head_start}
use Rattle.cycle_history.proofs.Change.{one, newly, grown-answer, with_answer}
use Rattle.cycle_history.proofs.Results.{grow}
use Rattle.cycle_history.proofs.Flying.{life_at, flying, filtered-same, filtered-none}
use Rattle.cycle_history.proofs.Steps.{by_some, first_change, first-id, first-response}

-- ---- the use on the issue channel

pub record Head (session : List Bus) (b : Bus) : Type 0 where
  pub head : Life
  pub tail : List Life
  pub here : lives_with session b ≡ head ∷ tail
  pub key : same_key head.key (issue_key b) ≡ true
  pub none : head.answer ≡ None
  pub unkilled : is_killed head ≡ false

latest-head : (key : Key) (l : Life) (ls : List Life) → same_key l.key key ≡ true → latest key (l ∷ ls) ≡ Some l
latest-head key l ls h = ap (λ t. if t then Some l else latest key ls) h

pub head-of : (session : List Bus) (b : Bus) → b.issue_valid ≡ true → Head session b
head-of session b v = go (starts (last_bus session) b (lives_of session)) refl (head_with session b v)
  where
    waits : Bool
    waits = goes_on (last_bus session) b (lives_of session)

    on : (v c : Bool) → v ≡ true → (v && not c) ≡ false → c ≡ true
    on true true q h = refl
    on true false q h = cc
    on false c q h = cc

    old : (ls : List Life) → HeadWaits (issue_key b) ls → not (option_map_or is_killed (latest (issue_key b) ls) false) ≡ true → lives_with session b ≡ ls → Head session b
    old [] h k e = absurd h
    old (l ∷ ls) h k e =
        record { head = l; tail = ls; here = e; key = h.0; none = h.1; unkilled = ap (λ o. option_map_or is_killed o false) (sym (latest-head (issue_key b) l ls h.0)) ∙ not-in (option_map_or is_killed (latest (issue_key b) (l ∷ ls)) false) k }

    go : (t : Bool) → starts (last_bus session) b (lives_of session) ≡ t → HeadWaits (issue_key b) (lives_with session b) → Head session b
    go true q h =
        record { head = new_life (issue_key b) (length session) b.issue_instr; tail = lives_of session; here = ap (λ t. if t then new_life (issue_key b) (length session) b.issue_instr ∷ lives_of session else lives_of session) q; key = key_same (issue_key b) (issue_key b) refl; none = refl; unkilled = refl }
    go false q h =
        let same : lives_with session b ≡ lives_of session = ap (λ t. if t then new_life (issue_key b) (length session) b.issue_instr ∷ lives_of session else lives_of session) q in
        let g : waits ≡ true = on b.issue_valid waits v q in
        let g1 = and-right (issue_waits (last_bus session)) _ g in
        let g2 = and-right b.issue_valid _ g1 in
        let g3 = and-right (same_key (issue_key (last_bus session)) (issue_key b)) _ g2 in
        old (lives_of session) (subst (HeadWaits (issue_key b)) same h) g3 same

-- ---- what is newly accepted

pub newly-quiet : (session : List Bus) (b : Bus) → is_issued b ≡ false → newly (grow session b) (lives_with session b) ≡ []
newly-quiet session b i = go (lives_with session b)
  where
    still : (l : Life) → (grow session b l).answer ≡ l.answer
    still l = grown-answer (length session) b (lives_with session b) l ∙ ap (λ t. (one t (start_of (issue_key b) (lives_with session b)) (with_answer (length session) (accepted_in (lives_with session b)) b) l).answer) i

    none : (a : Bool) (l : Life) → (if not a && a then l ∷ [] else []) ≡ []
    none true l = refl
    none false l = refl

    go : (ls : List Life) → newly (grow session b) ls ≡ []
    go [] = refl
    go (l ∷ ls) = ap (λ o. if not (is_accepted l) && option_map_or (λ (a : Answer). a.response.accept) o false then l ∷ [] else []) (still l) ∙ none (is_accepted l) l

pub newly-issued : (session : List Bus) (b : Bus) (h : Head session b) → is_issued b ≡ true → newly (grow session b) (lives_with session b) ≡ (if b.issue_accept then h.head ∷ [] else [])
unfolding with_answer
newly-issued session b h i =
    let ls = lives_with session b in
    let l = h.head in
    let named : start_of (issue_key b) ls ≡ Some l.start = ap (start_of (issue_key b)) h.here ∙ head_start (issue_key b) l h.tail h.key in
    let answer : (grow session b l).answer ≡ Some (answer_on (length session) (accepted_in ls) b) =
    grown-answer (length session) b ls l ∙ ap (λ t. (one t (start_of (issue_key b) ls) (with_answer (length session) (accepted_in ls) b) l).answer) i
    ∙ ap (λ o. (one true o (with_answer (length session) (accepted_in ls) b) l).answer) named
    ∙ ap (λ t. (change_if t (with_answer (length session) (accepted_in ls) b) l).answer) (eq-eqb l.start l.start refl) in
    ap (newly (grow session b)) h.here
    ∙ ap (λ o. if not (option_map_or (λ (a : Answer). a.response.accept) o false) && is_accepted (grow session b l) then l ∷ [] else []) h.none
    ∙ ap (λ o. if option_map_or (λ (a : Answer). a.response.accept) o false then l ∷ [] else []) answer

-- ---- each instruction in flight

pub data Seat (session : List Bus) (b : Bus) (e : Entry) : Type 0 where
  Old : is_response_accepted e.response ≡ true → latest (record { hart = 0; id = e.id }) (lives_with session b) ≡ latest (record { hart = 0; id = e.id }) (lives_of session) → Seat session b e
  New : (h : Head session b) → is_open e ≡ true → latest (record { hart = 0; id = e.id }) (lives_with session b) ≡ Some h.head → Seat session b e

with-latest : (session : List Bus) (b : Bus) (key : Key) → (b.issue_valid ≡ true → same_key (issue_key b) key ≡ false) → latest key (lives_with session b) ≡ latest key (lives_of session)
with-latest session b key n = go (starts (last_bus session) b (lives_of session)) refl
  where
    go : (t : Bool) → starts (last_bus session) b (lives_of session) ≡ t → latest key (if t then new_life (issue_key b) (length session) b.issue_instr ∷ lives_of session else lives_of session) ≡ latest key (lives_of session)
    go true q = ap (λ t. if t then Some (new_life (issue_key b) (length session) b.issue_instr) else latest key (lives_of session)) (n (and-left b.issue_valid _ q))
    go false q = refl

-- the word on the issue channel is that of an entry
pub record Offers (ch : Choices) (b : Bus) : Type 0 where
  pub valid : b.issue_valid ≡ is_some ch.offer
  pub key : (p : Entry) → ch.offer ≡ Some p → issue_key b ≡ record { hart = 0; id = p.id }

other-key : (p q : ℕ) → (p ≡ q → ⊥) → same_key (record { hart = 0; id = p }) (record { hart = 0; id = q }) ≡ false
other-key p q n = ne_eqb p q n

-- an entry whose word isn't offered
pub record Apart (p e : Entry) : Type 0 where
  pub seq : e.seq ≢ p.seq
  pub id : is_response_accepted e.response ≡ true → e.id ≡ p.id → ⊥

module _ (session : List Bus) (b : Bus) (ch : Choices) (offers : Offers ch b) where
  response-other : (p e : Entry) → ch.offer ≡ Some p → Apart p e → (first_change ch b e).response ≡ e.response
  response-other p e o a = first-response ch b e ∙ ap (λ q. (by_some (is_issued b) q (λ (p : Entry). with_response p.seq (response_on b)) e).response) o ∙ go (is_issued b)
    where
      go : (t : Bool) → (by_some t (Some p) (λ (p : Entry). with_response p.seq (response_on b)) e).response ≡ e.response
      go true = ap (λ t. if t then Some (response_on b) else e.response) (ne_eqb e.seq p.seq a.seq)
      go false = refl

  response-none : (e : Entry) → ch.offer ≡ None → (first_change ch b e).response ≡ e.response
  response-none e o = first-response ch b e ∙ ap (λ q. (by_some (is_issued b) q (λ (p : Entry). with_response p.seq (response_on b)) e).response) o ∙ go (is_issued b)
    where
      go : (t : Bool) → (by_some t None (λ (p : Entry). with_response p.seq (response_on b)) e).response ≡ e.response
      go true = refl
      go false = refl

  response-own : (p : Entry) → ch.offer ≡ Some p → (first_change ch b p).response ≡ (if is_issued b then Some (response_on b) else p.response)
  response-own p o = first-response ch b p ∙ ap (λ q. (by_some (is_issued b) q (λ (p : Entry). with_response p.seq (response_on b)) p).response) o ∙ go (is_issued b)
    where
      go : (t : Bool) → (by_some t (Some p) (λ (q : Entry). with_response q.seq (response_on b)) p).response ≡ (if t then Some (response_on b) else p.response)
      go true = ap (λ t. if t then Some (response_on b) else p.response) (eq-eqb p.seq p.seq refl)
      go false = refl

  latest-other : (p e : Entry) → ch.offer ≡ Some p → Apart p e → is_response_accepted e.response ≡ true → latest (record { hart = 0; id = e.id }) (lives_with session b) ≡ latest (record { hart = 0; id = e.id }) (lives_of session)
  latest-other p e o a h = with-latest session b (record { hart = 0; id = e.id }) (λ v. ap (λ k. same_key k (record { hart = 0; id = e.id })) (offers.key p o) ∙ other-key p.id e.id (λ q. a.id h (sym q)))

  latest-none : (e : Entry) → ch.offer ≡ None → latest (record { hart = 0; id = e.id }) (lives_with session b) ≡ latest (record { hart = 0; id = e.id }) (lives_of session)
  latest-none e o = with-latest session b (record { hart = 0; id = e.id }) (λ v. absurd (not-both b.issue_valid (offers.valid ∙ ap is_some o) v))

  same-at : (e : Entry) → (first_change ch b e).response ≡ e.response → (is_response_accepted e.response ≡ true → latest (record { hart = 0; id = e.id }) (lives_with session b) ≡ latest (record { hart = 0; id = e.id }) (lives_of session))
      → life_at (lives_with session b) (first_change ch b e) ≡ life_at (lives_of session) e
  same-at e r l =
      ap (λ i. if is_response_accepted (first_change ch b e).response then latest (record { hart = 0; id = i }) (lives_with session b) else None) (first-id ch b e)
      ∙ ap (λ q. if is_response_accepted q then latest (record { hart = 0; id = e.id }) (lives_with session b) else None) r
      ∙ go (is_response_accepted e.response) l
    where
      go : (t : Bool) → (t ≡ true → latest (record { hart = 0; id = e.id }) (lives_with session b) ≡ latest (record { hart = 0; id = e.id }) (lives_of session))
          → (if t then latest (record { hart = 0; id = e.id }) (lives_with session b) else None) ≡ (if t then latest (record { hart = 0; id = e.id }) (lives_of session) else None)
      go true l = l refl
      go false l = refl

  -- the word that is offered
  latest-own : (p : Entry) (h : Head session b) → ch.offer ≡ Some p → latest (record { hart = 0; id = p.id }) (lives_with session b) ≡ Some h.head
  latest-own p h o = ap (λ k. latest k (lives_with session b)) (sym (offers.key p o)) ∙ ap (latest (issue_key b)) h.here ∙ latest-head (issue_key b) h.head h.tail h.key

  valid-own : (p : Entry) → ch.offer ≡ Some p → b.issue_valid ≡ true
  valid-own p o = offers.valid ∙ ap is_some o

  own-at : (p : Entry) → ch.offer ≡ Some p → is_open p ≡ true → cons_option (life_at (lives_with session b) (first_change ch b p)) [] ≡ newly (grow session b) (lives_with session b)
  own-at p o open' =
      let h = head-of session b (valid-own p o) in
      ap (λ i. cons_option (if is_response_accepted (first_change ch b p).response then latest (record { hart = 0; id = i }) (lives_with session b) else None) []) (first-id ch b p)
      ∙ ap (λ q. cons_option (if is_response_accepted q then latest (record { hart = 0; id = p.id }) (lives_with session b) else None) []) (response-own p o)
      ∙ ap (λ q. cons_option (if is_response_accepted (if is_issued b then Some (response_on b) else p.response) then q else None) []) (latest-own p h o)
      ∙ go h (is_issued b) refl
    where
      accept : (h : Head session b) (t : Bool) → cons_option (if t then Some h.head else None) [] ≡ (if t then h.head ∷ [] else [])
      accept h true = refl
      accept h false = refl

      go : (h : Head session b) (t : Bool) → is_issued b ≡ t → cons_option (if is_response_accepted (if t then Some (response_on b) else p.response) then Some h.head else None) [] ≡ newly (grow session b) (lives_with session b)
      go h true i = accept h b.issue_accept ∙ sym (newly-issued session b h i)
      go h false i = ap (λ t. cons_option (if t then Some h.head else None) []) (none-refused p.response (open-none p open')) ∙ sym (newly-quiet session b i)

  -- ---- all of them

  pub all-apart : (p : Entry) (fl : List Entry) (f : FirstAt is_open fl p) → Pairs Before fl → Pairs Behind fl → Each IsEntry fl → Each (Apart p) f.older × Each (λ e. Apart p e × (is_response_accepted e.response ≡ false)) f.younger
  all-apart p fl f before behind ok =
      let b' : Pairs Before (f.older ++ p ∷ f.younger) = subst (Pairs Before) f.here before in
      let h' : Pairs Behind (f.older ++ p ∷ f.younger) = subst (Pairs Behind) f.here behind in
      let ok' : Each IsEntry (f.older ++ p ∷ f.younger) = subst (Each IsEntry) f.here ok in
      let n = other-numbers f.older p f.younger b' in
      let u = open-unknown p f.passes in
      let unknown = λ (e : Entry) (i : IsEntry e) (a : is_response_accepted e.response ≡ true). i.answered (accepted-some e.response a) in
      let older1 = Each-both (λ x. Before x p) IsEntry (λ e. is_response_accepted e.response ≡ true → e.id ≡ p.id → ⊥) f.older (λ e k i a q. k.apart (unknown e i a) u q) (Pairs-older Before f.older p f.younger b') (Each-front IsEntry f.older (p ∷ f.younger) ok') in
      let younger1 = Each-from (Behind p) (λ e. is_response_accepted e.response ≡ false) f.younger (λ e k. none-refused e.response (no-some e.response (λ h. not-both (is_open p) (k.answered h) f.passes))) (Pairs-younger Behind f.older p f.younger h') in (
        Each-both (λ e. e.seq ≢ p.seq) (λ e. is_response_accepted e.response ≡ true → e.id ≡ p.id → ⊥) (Apart p) f.older (λ e s i. record { seq = s; id = i }) n.0 older1,
        Each-both (λ e. e.seq ≢ p.seq) (λ e. is_response_accepted e.response ≡ false) (λ e. Apart p e × (is_response_accepted e.response ≡ false)) f.younger (λ e s i. (record { seq = s; id = λ a. absurd (not-both (is_response_accepted e.response) i a) }, i)) n.1 younger1,
      )

  pub entered : (fl : List Entry) → IfSome ch.offer (FirstAt is_open fl) → Pairs Before fl → Pairs Behind fl → Each IsEntry fl
      → filter_map (λ e. life_at (lives_with session b) (first_change ch b e)) fl ≡ flying (lives_of session) fl ++ newly (grow session b) (lives_with session b)
  entered fl f before behind ok = go ch.offer refl f
    where
      go : (o : Option Entry) → ch.offer ≡ o → IfSome o (FirstAt is_open fl) → filter_map (λ e. life_at (lives_with session b) (first_change ch b e)) fl ≡ flying (lives_of session) fl ++ newly (grow session b) (lives_with session b)
      go None o f =
          filtered-same (λ e. life_at (lives_with session b) (first_change ch b e)) (life_at (lives_of session)) fl (each (λ e. life_at (lives_with session b) (first_change ch b e) ≡ life_at (lives_of session) e) fl (λ e. same-at e (response-none e o) (λ a. latest-none e o)))
          ∙ sym (append-nil (flying (lives_of session) fl))
          ∙ ap (λ n. flying (lives_of session) fl ++ n) (sym (newly-quiet session b (ap (λ t. t && b.issue_ready) (offers.valid ∙ ap is_some o))))
      go (Some p) o f =
          let h = λ (e : Entry). life_at (lives_with session b) (first_change ch b e) in
          let ls = lives_of session in
          let a = all-apart p fl f before behind ok in
          let older : filter_map h f.older ≡ flying ls f.older =
          filtered-same h (life_at ls) f.older (Each-from (Apart p) (λ e. h e ≡ life_at ls e) f.older (λ e k. same-at e (response-other p e o k) (λ t. latest-other p e o k t)) a.0) in
          let off = λ (e : Entry) (r : is_response_accepted e.response ≡ false). ap (λ t. if t then latest (record { hart = 0; id = e.id }) ls else None) r in
          let younger : filter_map h f.younger ≡ [] =
          filtered-none h f.younger (Each-from (λ e. Apart p e × (is_response_accepted e.response ≡ false)) (λ e. h e ≡ None) f.younger (λ e k. same-at e (response-other p e o k.0) (λ t. latest-other p e o k.0 t) ∙ off e k.1) a.1) in
          let younger' : flying ls f.younger ≡ [] = filtered-none (life_at ls) f.younger (Each-from (λ e. Apart p e × (is_response_accepted e.response ≡ false)) (λ e. life_at ls e ≡ None) f.younger (λ e k. off e k.1) a.1) in
          let own : life_at ls p ≡ None = off p (none-refused p.response (open-none p f.passes)) in
          let was : flying ls fl ≡ flying ls f.older = ap (flying ls) f.here ∙ filter_map-append (life_at ls) f.older (p ∷ f.younger) ∙ ap (λ z. flying ls f.older ++ cons_option z (flying ls f.younger)) own ∙ ap (λ z. flying ls f.older ++ z) younger' ∙ append-nil (flying ls f.older) in
          ap (filter_map h) f.here ∙ filter_map-append h f.older (p ∷ f.younger) ∙ ap (λ z. z ++ cons_option (h p) (filter_map h f.younger)) older
          ∙ ap (λ z. flying ls f.older ++ cons_option (h p) z) younger ∙ ap (λ z. flying ls f.older ++ z) (own-at p o f.passes)
          ∙ ap (λ z. z ++ newly (grow session b) (lives_with session b)) (sym was)

  pub seats : (fl : List Entry) → IfSome ch.offer (FirstAt is_open fl) → Pairs Before fl → Pairs Behind fl → Each IsEntry fl → Each (λ e. is_response_accepted (first_change ch b e).response ≡ true → Seat session b e) fl
  seats fl f before behind ok = go ch.offer refl f
    where
      go : (o : Option Entry) → ch.offer ≡ o → IfSome o (FirstAt is_open fl) → Each (λ e. is_response_accepted (first_change ch b e).response ≡ true → Seat session b e) fl
      go None o f = each (λ e. is_response_accepted (first_change ch b e).response ≡ true → Seat session b e) fl (λ e t. Old (sym (ap is_response_accepted (response-none e o)) ∙ t) (latest-none e o))
      go (Some p) o f =
          let S = λ (e : Entry). is_response_accepted (first_change ch b e).response ≡ true → Seat session b e in
          let a = all-apart p fl f before behind ok in
          let one = λ (e : Entry) (k : Apart p e) (t : is_response_accepted (first_change ch b e).response ≡ true). Old (sym (ap is_response_accepted (response-other p e o k)) ∙ t) (latest-other p e o k (sym (ap is_response_accepted (response-other p e o k)) ∙ t)) in
          let older = Each-from (Apart p) S f.older one a.0 in
          let younger = Each-from (λ e. Apart p e × (is_response_accepted e.response ≡ false)) S f.younger (λ e k. one e k.0) a.1 in
          let h = head-of session b (valid-own p o) in
          subst (Each S) (sym f.here) (Each-append S f.older (p ∷ f.younger) older (λ t. New h f.passes (latest-own p h o), younger))

  -- what was answered stays so
  pub answers-stay : (fl : List Entry) → IfSome ch.offer (FirstAt is_open fl) → Pairs Before fl → Pairs Behind fl → Each IsEntry fl → Each (λ e. is_response_accepted e.response ≡ true → (first_change ch b e).response ≡ e.response) fl
  answers-stay fl f before behind ok = go ch.offer refl f
    where
      go : (o : Option Entry) → ch.offer ≡ o → IfSome o (FirstAt is_open fl) → Each (λ e. is_response_accepted e.response ≡ true → (first_change ch b e).response ≡ e.response) fl
      go None o f = each (λ e. is_response_accepted e.response ≡ true → (first_change ch b e).response ≡ e.response) fl (λ e t. response-none e o)
      go (Some p) o f =
          let S = λ (e : Entry). is_response_accepted e.response ≡ true → (first_change ch b e).response ≡ e.response in
          let a = all-apart p fl f before behind ok in
          let older = Each-from (Apart p) S f.older (λ e k t. response-other p e o k) a.0 in
          let younger = Each-from (λ e. Apart p e × (is_response_accepted e.response ≡ false)) S f.younger (λ e k t. response-other p e o k.0) a.1 in
          subst (Each S) (sym f.here) (Each-append S f.older (p ∷ f.younger) older (λ t. absurd (not-both (is_response_accepted p.response) (none-refused p.response (open-none p f.passes)) t), younger))
