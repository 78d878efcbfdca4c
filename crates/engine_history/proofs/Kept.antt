-- So, in every session, the fields of the engine's uses are those of the history.
use Rattle.std.proofs.Common.{if◌then◌else◌, ◌≡◌, ◌+◌, ◌&&◌, not, ℕ, Bool, true, false, Option, Some, None, List, [], ◌∷◌, map, filter, length, refl, sym, ap, ap₂, ◌∙◌, subst, arith}
use Rattle.std.specs.Prelude.{is_some}
use Rattle.std.specs.Option.{option_map, option_map_or}
use Rattle.std.proofs.lemmas.Bool.{eq-eqb}
use Rattle.xif_base.specs.declared.params.Params.{Params}
use Rattle.coproc_config.specs.declared.accept.Hit.{Hit}
use Rattle.coproc_config.specs.Set.{UnitTable}
use Rattle.coproc_config.specs.Accept.{hit_of}
use Rattle.xif_drive.specs.Scripts.{Lists}
use Rattle.xif_signals.specs.declared.bus.Bus.{Bus}
use Rattle.xif_signals.specs.declared.bus.CopOut.{CopOut}
use Rattle.xif_session.specs.Facts.{same_key, issue_key, is_issued, issue_waits}
use Rattle.xif_session.specs.Uses.{last_bus}
use Rattle.cycle_spec.specs.declared.turn.Transaction.{Transaction}
use Rattle.cycle_spec.specs.Turns.{transactions_after}
use Rattle.cycle_spec.specs.State.{Engine}
use Rattle.cycle_spec.specs.Engine as spec
use Rattle.engine_history.specs.Lives.{Life, Answer, new_life, is_accepted, start_of, starts, with_start, change_if, at_start, answer_on, accepted_in, answered, given, decided, lives_after, lives_of, lives_with}
use Rattle.engine_history.specs.Runs.{cpu_of, cop_of, input_of, engine_of, IsDriven}
use Rattle.engine_history.specs.Channels.{named_start, acceptances, accepts}
use Rattle.engine_history.specs.Told.{hit_by, plain}
use Rattle.engine_history.proofs.Keep.{Rising, HeadWaits, KeepsAnswers, rising_start, rising, head_named, head_waits, head_start, older_same, start_changed, behind_is, changed_is}
use Rattle.engine_history.proofs.Plain.{harts_plain, end_plain}
use Rattle.engine_history.proofs.Fields.{told_uses, start_named, IsTold, IsSound, started, answer_both, given_both, decided_both, finished_both}

-- ---- how many were accepted

accepted_kept : (ls now : List Life) → KeepsAnswers ls now → accepted_in now ≡ accepted_in ls
accepted_kept ls now k = ap accepted_in k.changed.is ∙ go ls
  where
    go : (ls : List Life) → accepted_in (map k.changed.change ls) ≡ accepted_in ls
    go [] = refl
    go (l ∷ ls) = ap (λ a. length (if option_map_or (λ (a : Answer). a.response.accept) a false then k.changed.change l ∷ filter is_accepted (map k.changed.change ls) else filter is_accepted (map k.changed.change ls))) (k.answer l) ∙ on (is_accepted l) (go ls)
      where
        on : (t : Bool) → accepted_in (map k.changed.change ls) ≡ accepted_in ls
            → length (if t then k.changed.change l ∷ filter is_accepted (map k.changed.change ls) else filter is_accepted (map k.changed.change ls)) ≡ length (if t then l ∷ filter is_accepted ls else filter is_accepted ls)
        on true r = omega (arith, r)
        on false r = r

pub accepted_start : (cycle : ℕ) (last b : Bus) (ls : List Life) → accepted_in (with_start cycle last b ls) ≡ accepted_in ls
accepted_start cycle last b ls = go (starts last b ls)
  where
    go : (t : Bool) → accepted_in (if t then new_life (issue_key b) cycle b.issue_instr ∷ ls else ls) ≡ accepted_in ls
    go true = refl
    go false = refl

-- the answer is that of the last use
accepted_answered : (cycle bound : ℕ) (b : Bus) (ls : List Life) → Rising bound ls → (b.issue_valid ≡ true → HeadWaits (issue_key b) ls)
    → accepted_in (answered cycle b ls) ≡ (if b.issue_valid && (b.issue_ready && b.issue_accept) then accepted_in ls + 1 else accepted_in ls)
accepted_answered cycle bound b ls r h = go b.issue_valid b.issue_ready ls r h
  where
    f : ℕ → Life → Life
    f k l = record l { answer = Some (answer_on cycle k b) }

    head : (k : ℕ) (l : Life) (older : List Life) → Rising l.start older → same_key l.key (issue_key b) ≡ true → l.answer ≡ None
        → accepted_in (at_start (start_of (issue_key b) (l ∷ older)) (f k) (l ∷ older)) ≡ (if b.issue_accept then accepted_in (l ∷ older) + 1 else accepted_in (l ∷ older))
    head k l older r q n =
        ap (λ o. accepted_in (at_start o (f k) (l ∷ older))) (head_start (issue_key b) l older q)
        ∙ ap₂ (λ t xs. accepted_in (change_if t (f k) l ∷ xs)) (eq-eqb l.start l.start refl) (older_same l.start (f k) older r)
        ∙ on b.issue_accept
        ∙ ap (λ a. if b.issue_accept then length (if option_map_or (λ (a : Answer). a.response.accept) a false then l ∷ filter is_accepted older else filter is_accepted older) + 1 else length (if option_map_or (λ (a : Answer). a.response.accept) a false then l ∷ filter is_accepted older else filter is_accepted older)) (sym n)
      where
        on : (t : Bool) → length (if t then f k l ∷ filter is_accepted older else filter is_accepted older) ≡ (if t then accepted_in older + 1 else accepted_in older)
        on true = omega arith
        on false = refl

    go : (v y : Bool) (ls : List Life) → Rising bound ls → (v ≡ true → HeadWaits (issue_key b) ls)
        → accepted_in (if v && y then at_start (start_of (issue_key b) ls) (f (accepted_in ls)) ls else ls) ≡ (if v && (y && b.issue_accept) then accepted_in ls + 1 else accepted_in ls)
    go true true [] r h = absurd (h refl)
    go true true (l ∷ older) r h = head (accepted_in (l ∷ older)) l older r.1 (h refl).0 (h refl).1
    go true false ls r h = refl
    go false y ls r h = refl

-- ---- a cycle

-- the answer on the bus is the engine's
pub hit_driven : (params : Params) (set : List UnitTable) (cycle number : ℕ) (b : Bus) (e : Engine) → e.params ≡ params → e.set ≡ set → cop_of b ≡ spec.engine_drive e (cpu_of b) → is_issued b ≡ true
    → spec.offered_hit e (cpu_of b) ≡ hit_by params set (answer_on cycle number b)
hit_driven params set cycle number b e p s d i =
    let ready : b.issue_ready ≡ spec.issue_ready e (cpu_of b) = ap (λ (c : CopOut). c.issue_ready) d in
    let accept : b.issue_accept ≡ is_some (spec.response_hit e (cpu_of b)) = ap (λ (c : CopOut). c.issue_accept) d in
    let on : spec.issue_ready e (cpu_of b) ≡ true = sym ready ∙ right b.issue_valid b.issue_ready i in
    let hit : spec.response_hit e (cpu_of b) ≡ spec.offered_hit e (cpu_of b) = ap (λ t. if t then spec.offered_hit e (cpu_of b) else None) on in
    own (spec.offered_hit e (cpu_of b)) ∙ ap (λ t. if t then spec.offered_hit e (cpu_of b) else None) (sym (accept ∙ ap is_some hit))
    ∙ ap₂ (λ x y. if b.issue_accept then hit_of x y b.issue_instr else None) s p
  where
    right : (v r : Bool) → (v && r) ≡ true → r ≡ true
    right true r h = h
    right false r h = cc

    own : (o : Option Hit) → o ≡ (if is_some o then o else None)
    own None = refl
    own (Some x) = refl

-- the use on the issue channel
pub on_channel : (params : Params) (set : List UnitTable) (cycle : ℕ) (last b : Bus) (ls : List Life) (e : Engine) → IsTold params set cycle last ls e → IsSound cycle last ls → b.issue_valid ≡ true
    → start_of (issue_key b) (with_start cycle last b ls) ≡ Some (spec.issue_start e (cpu_of b))
on_channel params set cycle last b ls e m s v =
    go (with_start cycle last b ls) (head_named cycle last b ls s.waits v) (start_named params set (spec.started_uses e (cpu_of b)) (with_start cycle last b ls) (started params set cycle last b ls e m s) (issue_key b) e.cycle)
  where
    go : (ls : List Life) → HeadWaits (issue_key b) ls → spec.issue_start e (cpu_of b) ≡ named_start (issue_key b) ls e.cycle → start_of (issue_key b) ls ≡ Some (spec.issue_start e (cpu_of b))
    go [] h q = absurd h
    go (l ∷ older) h q =
        let is = head_start (issue_key b) l older h.0 in
        is ∙ ap Some (ap (λ o. option_map_or (λ s. s) o e.cycle) (sym is) ∙ sym q)

pub kept : (params : Params) (set : List UnitTable) (cycle : ℕ) (last b : Bus) (ls : List Life) (e : Engine) → IsTold params set cycle last ls e → IsSound cycle last ls
    → cop_of b ≡ spec.engine_drive e (cpu_of b)
    → IsTold params set (cycle + 1) b (lives_after cycle last b ls) (spec.engine_clock e (cpu_of b) (cop_of b) (input_of b))
kept params set cycle last b ls e m s d = record {
  params_is = m.params_is;
  set_is = m.set_is;
  cycle_is = ap (λ n. n + 1) m.cycle_is;
  uses_are =
      harts_plain e.set e.cycle 0 e.units (spec.ended_uses e (cpu_of b) (cop_of b) (input_of b))
      ∙ end_plain (spec.offered_use e) (cop_of b) (input_of b) (spec.decided_uses e (cpu_of b) (cop_of b))
      ∙ uses ∙ sym (finished_both params set cycle b (decided cycle b (given cycle b (answered cycle b named))));
  accepted_is =
      counted ∙ sym (accepted_answered cycle (cycle + 1) b named (rising_start cycle last b ls s.rises) (head_named cycle last b ls s.waits))
      ∙ sym (accepted_kept (answered cycle b named) _ (behind_is cycle b (answered cycle b named)));
  owner_is = owner b.issue_valid b.issue_ready refl ∙ ap (λ o. if issue_waits b then o else None) (sym (start_changed named _ (changed_is cycle b named) (issue_key b)));
}
  where
    named : List Life
    named = with_start cycle last b ls

    numbers : e.accepted ≡ accepted_in named
    numbers = m.accepted_is ∙ sym (accepted_start cycle last b ls)

    uses : map plain (spec.decided_uses e (cpu_of b) (cop_of b)) ≡ told_uses params set (decided cycle b (given cycle b (answered cycle b named)))
    uses =
        decided_both params set cycle b (spec.given_uses e (cpu_of b) (cop_of b)) (given cycle b (answered cycle b named))
        (given_both params set cycle b (spec.answered_uses e (cpu_of b) (cop_of b)) (answered cycle b named)
        (answer_both params set cycle b (spec.offered_hit e (cpu_of b)) (spec.issue_start e (cpu_of b)) e.accepted (spec.started_uses e (cpu_of b)) named
        (on_channel params set cycle last b ls e m s) numbers
        (hit_driven params set cycle e.accepted b e m.params_is m.set_is d)
        (started params set cycle last b ls e m s)))

    counted : spec.accepted_after e.accepted (cpu_of b) (cop_of b) ≡ (if b.issue_valid && (b.issue_ready && b.issue_accept) then accepted_in named + 1 else accepted_in named)
    counted = ap (λ n. if b.issue_valid && (b.issue_ready && b.issue_accept) then n + 1 else n) numbers

    owner : (v y : Bool) → b.issue_valid ≡ v → option_map (λ (t : Transaction). t.owner) (transactions_after e.issue_turns (spec.owner_if v (spec.issue_start e (cpu_of b))) y).waiting ≡ (if v && not y then start_of (issue_key b) named else None)
    owner true true q = refl
    owner true false q = sym (on_channel params set cycle last b ls e m s q)
    owner false y q = refl

-- ---- a session

pub sound : (session : List Bus) → IsSound (length session) (last_bus session) (lives_of session)
sound session = record { rises = rising session; waits = head_waits session }

pub told : (params : Params) (set : List UnitTable) (script : Lists) (session : List Bus) → IsDriven params set script session
    → IsTold params set (length session) (last_bus session) (lives_of session) (engine_of params set script session)
told params set script [] d = record { params_is = refl; set_is = refl; cycle_is = refl; uses_are = refl; accepted_is = refl; owner_is = refl }
told params set script (b ∷ session) d =
    let n : length session + 1 ≡ length (b ∷ session) = omega arith in
    subst (λ k. IsTold params set k b (lives_of (b ∷ session)) (engine_of params set script (b ∷ session))) n
    (kept params set (length session) (last_bus session) b (lives_of session) (engine_of params set script session) (told params set script session d.1) (sound session) d.0)

-- how many issue handshakes accepted a word
pub accepted_all : (session : List Bus) → accepted_in (lives_of session) ≡ acceptances session
accepted_all [] = refl
accepted_all (b ∷ session) =
    accepted_kept (answered (length session) b named) _ (behind_is (length session) b (answered (length session) b named))
    ∙ accepted_answered (length session) (length session + 1) b named (rising_start (length session) (last_bus session) b (lives_of session) (rising session)) (head_named (length session) (last_bus session) b (lives_of session) (head_waits session))
    ∙ go b.issue_valid b.issue_ready b.issue_accept (accepted_start (length session) (last_bus session) b (lives_of session) ∙ accepted_all session)
  where
    named : List Life
    named = lives_with session b

    go : (v y a : Bool) → accepted_in named ≡ acceptances session → (if v && (y && a) then accepted_in named + 1 else accepted_in named) ≡ length (if (v && y) && a then b ∷ filter accepts session else filter accepts session)
    go true true true q = omega (arith, q)
    go true true false q = q
    go true false a q = q
    go false y a q = q
