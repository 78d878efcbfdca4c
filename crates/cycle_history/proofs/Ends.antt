-- A use that has its result, and the word of the in-order machine that it is for.
use Rattle.std.proofs.Common.{◌≡◌, ◌⊎◌, inl, inr, ◌+◌, ◌*◌, ◌^◌, ◌%◌, ◌/◌, ◌==◌, ◌&&◌, ◌||◌, ◌++◌, if◌then◌else◌, ℕ, zero, suc, Bool, true, false, Option, Some, None, IfSome, List, [], ◌∷◌, length, refl, sym, ap, ◌∙◌, subst, arith}
use Rattle.std.specs.Prelude.{is_some, IsSome}
use Rattle.std.specs.Option.{option_map_or}
use Rattle.std.proofs.lemmas.Bool.{eqb-true, eq-eqb}
use Rattle.rv32_table.specs.Instr.{rd_field}
use Rattle.xif_signals.specs.declared.bus.Bus.{Bus}
use Rattle.xif_signals.specs.declared.bus.CopOut.{CopOut}
use Rattle.xif_session.specs.Facts.{is_taken, is_given}
use Rattle.inorder_machine.specs.declared.units.Half.{Half}
use Rattle.inorder_machine.specs.declared.units.Half.TheVariants.{Low, High}
use Rattle.inorder_machine.specs.Machine.{Extension, State}
use Rattle.cycle_spec.specs.declared.entry.Entry.{Entry}
use Rattle.cycle_spec.specs.declared.use_of.Use.{Use}
use Rattle.cycle_spec.specs.Engine as spec
use Rattle.cycle_spec.specs.Cycle.{Machines}
use Rattle.cycle_lists.specs.Lists.{Pairs}
use Rattle.cycle_lists.proofs.Tests.{same-some}
use Rattle.cycle_lists.proofs.Every.{Each-at, Pairs-younger}
use Rattle.cycle_paired.specs.Paired.{IsUse, Older, Paired}
use Rattle.cycle_paired.proofs.Lasting.{carried-at}
use Rattle.cycle_paired.proofs.Matching.{latest-at}
use Rattle.ahead_spec.specs.Operands.{word_hit, halves_read, lanes_of, CarriesOperands, unit_step}
use Rattle.ahead_laws.proofs.Carried.{carries-nothing}
use Rattle.engine_history.specs.Lives.{Life, Answer, Operands, lanes_on, operands_on, start_of, latest, lives_of, lives_with, is_accepted}
use Rattle.engine_history.specs.Channels.{is_for}
use Rattle.cycle_history.specs.Words.{UnitWord}
use Rattle.cycle_history.specs.Uses.{results_for, IsUseOf}
use Rattle.cycle_history.proofs.Change.{Kept, grown-word, grown-start, grown-operands}
use Rattle.cycle_history.proofs.Told.{LiveLife, live-word, whole-at}
use Rattle.cycle_history.proofs.Results.{Cycle, grow, results-start, result_on, results-on, names, HasNoResult, unfinished-none, ResultLife, each-latest, results-stay}
use Rattle.cycle_history.proofs.Words.{HasWord}

-- ---- lanes of a word that reads nothing

part : ℕ → Half → ℕ
part v Low = v % 2 ^ 32
part v High = v / 2 ^ 32

part-of : (a b c : ℕ) → ℕ → Half → ℕ
part-of a b c zero = part a
part-of a b c (suc zero) = part b
part-of a b c (suc (suc n)) = part c

halved : (v : ℕ) → v ≡ v % 2 ^ 32 + 2 ^ 32 * (v / 2 ^ 32)
halved v = omega arith

lanes-any : (b : Bus) → lanes_on b ≡ lanes_of (part-of b.register_rs0 b.register_rs1 b.register_rs2)
unfolding part part-of
lanes-any b =
    ap (λ v. v ∷ b.register_rs1 ∷ b.register_rs2 ∷ []) (halved b.register_rs0)
    ∙ ap (λ v. (b.register_rs0 % 2 ^ 32 + 2 ^ 32 * (b.register_rs0 / 2 ^ 32)) ∷ v ∷ b.register_rs2 ∷ []) (halved b.register_rs1)
    ∙ ap (λ v. (b.register_rs0 % 2 ^ 32 + 2 ^ 32 * (b.register_rs0 / 2 ^ 32)) ∷ (b.register_rs1 % 2 ^ 32 + 2 ^ 32 * (b.register_rs1 / 2 ^ 32)) ∷ v ∷ []) (halved b.register_rs2)

-- ---- all but the result

pub record Fits (x : Extension) (l : Life) (w : UnitWord) : Type 0 where
  pub word : l.word ≡ w.word
  pub answered : (a : Answer) → l.answer ≡ Some a → a.word ≡ w.word
  pub operands : (o : Operands) → l.operands ≡ Some o → CarriesOperands x w.state w.word o.lanes
  pub given : l.operands ≡ None → halves_read x w.word ≡ 0

fits-on : (x : Extension) (session : List Bus) (b : Bus) (l : Life) (w : UnitWord) → Fits x l w → is_some l.answer ≡ true → Kept l (grow session b l) → Fits x (grow session b l) w
fits-on x session b l w h a k =
    let n = grow session b l in
    record {
      word = grown-word (length session) b (lives_with session b) l ∙ h.word;
      answered = λ c q. h.answered c (sym (k.answer a) ∙ q);
      operands = λ o q. lanes o q l.operands refl (grown-operands (length session) b (lives_with session b) l);
      given = λ q. h.given (none l.operands refl q);
    }
  where
    some-none : {A : Type 0} (x : A) → Some x ≡ None → ⊥
    some-none x h = cc

    none : (o : Option Operands) → l.operands ≡ o → (grow session b l).operands ≡ None → l.operands ≡ None
    none None q r = q
    none (Some o) q r = absurd (some-none o (sym q ∙ sym (k.operands (ap is_some q)) ∙ r))

    some-is : (o v : Operands) → Some o ≡ Some v → o ≡ v
    some-is o v h = cc

    lanes : (o : Operands) → (grow session b l).operands ≡ Some o → (was : Option Operands) → l.operands ≡ was → ((grow session b l).operands ≡ l.operands) ⊎ ((grow session b l).operands ≡ Some (operands_on (length session) b))
        → CarriesOperands x w.state w.word o.lanes
    lanes o q (Some v) r g = h.operands o (sym (k.operands (ap is_some r)) ∙ q)
    lanes o q None r (inl g) = h.operands o (sym g ∙ q)
    lanes o q None r (inr g) =
        let same : o ≡ operands_on (length session) b = some-is o (operands_on (length session) b) (sym q ∙ g) in
        subst (λ (v : Operands). CarriesOperands x w.state w.word v.lanes) (sym same)
        (carries-nothing x w.state w.word (lanes_on b) (h.given r) (part-of b.register_rs0 b.register_rs1 b.register_rs2) (lanes-any b))

accepted-some : (l : Life) → is_accepted l ≡ true → is_some l.answer ≡ true
accepted-some l h = go l.answer h
  where
    go : (o : Option Answer) → option_map_or (λ (a : Answer). a.response.accept) o false ≡ true → is_some o ≡ true
    go None h = cc
    go (Some a) h = refl

-- ---- a use that had its result stays

pub use-on : (x : Extension) (session : List Bus) (b : Bus) (e : Rattle.cycle_spec.specs.State.Engine) → Cycle x.params x.set session b e → (l : Life) (w : UnitWord) → is_accepted l ≡ true → Kept l (grow session b l) → IsUseOf x session l w → IsUseOf x (b ∷ session) (grow session b l) w
use-on x session b e c l w a k h =
    let f = fits-on x session b l w (record { word = h.word; answered = h.answered; operands = h.operands; given = h.given }) (accepted-some l a) k in
    record {
      word = f.word;
      answered = f.answered;
      operands = f.operands;
      given = f.given;
      result = record { result = h.result.result; one = results-stay x.params x.set session b e c l h.result.result h.result.one; we = h.result.we; rd = h.result.rd; value = h.result.value };
    }

-- ---- a use that has its result now

-- what the engine has for an entry is what the in-order machine has in a state
pub record Serves (x : Extension) (s : State) (word : ℕ) (u : Use) : Type 0 where
  pub hit_is : u.hit ≡ word_hit x word
  pub lanes : u.given ≡ true → CarriesOperands x s word u.lanes
  pub result : IsSome u.ready → u.result ≡ (unit_step x s word).result

-- the use of an entry that waits serves it
abbrev pub Served : Extension → List Use → State → Entry → Type 0
Served x us s e = (front : List Use) (u : Use) (back : List Use) → us ≡ front ++ u ∷ back → u.key.hart ≡ 0 → u.key.id ≡ e.id → Serves x s e.word u

pub new-use : (x : Extension) (session : List Bus) (b : Bus) (m : Machines) (k : Paired 0 m) (c : Cycle x.params x.set session b m.engine) (r : ResultLife x.params x.set session b m.engine) → is_taken b ≡ true → (e : Entry) (s : State)
    → LiveLife x.params x.set (lives_of session) m.engine.uses e → Served x m.engine.uses s e → r.use'.key ≡ record { hart = 0; id = e.id } → HasWord r.life → Kept r.life (grow session b r.life)
    → IsUseOf x (b ∷ session) (grow session b r.life) (record { word = e.word; state = s })
new-use x session b m k c r t e s live served key word kept =
    let en = m.engine in
    let us = en.uses in
    let l = r.life in
    let w : UnitWord = record { word = e.word; state = s } in
    let u = r.use' in
    let own = carried-at en.result_waiting en.script.result en.cycle us u k.results r.offered in
    let v = own.carried in
    let hart : v.key.hart ≡ 0 = ap (λ q. q.hart) (own.key ∙ key) in
    let id : v.key.id ≡ e.id = ap (λ q. q.id) (own.key ∙ key) in
    let older : Pairs Older (own.front ++ v ∷ own.back) = subst (Pairs Older) own.here k.older in
    let at : spec.latest (record { hart = 0; id = e.id }) us ≡ Some v = ap (spec.latest (record { hart = 0; id = e.id })) own.here ∙ latest-at own.front v own.back 0 e.id hart id (Pairs-younger Older own.front v own.back older) in
    let found = whole-at x.params x.set (record { hart = 0; id = e.id }) (lives_of session) us v c.both.whole_is.uses_are at in
    let here : latest (record { hart = 0; id = e.id }) (lives_of session) ≡ Some l = ap (λ q. latest q (lives_of session)) (sym key) ∙ r.latest_is in
    let same : found.life ≡ l = same-some (latest (record { hart = 0; id = e.id }) (lives_of session)) found.life l found.latest_is here in
    let same' : live.life ≡ l = same-some (latest (record { hart = 0; id = e.id }) (lives_of session)) live.life l live.latest_is here in
    let word_is : l.word ≡ e.word = ap (λ (q : Life). q.word) (sym same') ∙ live-word x.params x.set (lives_of session) us e live in
    let serves = served own.front v own.back own.here hart id in
    let ready = (Each-at (IsUse k.answered) us own.front v own.back own.here k.uses).ready own.ready in
    let given_is : v.given ≡ is_some l.operands = ap (λ (q : Use). q.given) found.use_is ∙ ap (λ (q : Life). is_some q.operands) same in
    let lanes_are : v.lanes ≡ option_map_or (λ (o : Operands). o.lanes) l.operands (0 ∷ 0 ∷ 0 ∷ []) = ap (λ (q : Use). q.lanes) found.use_is ∙ ap (λ (q : Life). option_map_or (λ (o : Operands). o.lanes) q.operands (0 ∷ 0 ∷ 0 ∷ [])) same in
    let fits : Fits x l w = record {
      word = word_is;
      answered = λ a q. answered-word l.answer a q word ∙ word_is;
      operands = λ o q. subst (CarriesOperands x s e.word) (lanes_are ∙ ap (λ z. option_map_or (λ (o : Operands). o.lanes) z (0 ∷ 0 ∷ 0 ∷ [])) q) (serves.lanes (given_is ∙ ap is_some q));
      given = λ q. sym (ap spec.register_read_of serves.hit_is) ∙ reads-none v.given (spec.register_read_of v.hit) ready.operands (given_is ∙ ap is_some q);
    } in
    let done = fits-on x session b l w fits (accepted-some l r.accepted) kept in
    let we : b.result_we ≡ spec.writeback_of u.hit = ap (λ (o : CopOut). o.result_we) c.driven ∙ ap (λ o. spec.writeback_of (spec.use_or o).hit) r.offered in
    let hit : u.hit ≡ word_hit x e.word = sym own.hit ∙ serves.hit_is in
    let uword : u.word ≡ e.word = sym own.word ∙ ap (λ (q : Use). q.word) found.use_is ∙ ap (λ (q : Life). q.word) same ∙ word_is in
    record {
      word = done.word;
      answered = done.answered;
      operands = done.operands;
      given = done.given;
      result = record {
        result = result_on session b;
        one = results-start (grow session b l) l (b ∷ session) (grown-start (length session) b (lives_with session b) l) ∙ results-on l session b
            ∙ ap (λ q. if q then result_on session b ∷ results_for l session else results_for l session) (named-is ∙ eq-eqb l.start l.start refl)
            ∙ ap (λ q. result_on session b ∷ q) (each-latest (HasNoResult session) u.key (lives_of session) l (unfinished-none session) r.latest_is r.unfinished);
        we = we ∙ ap spec.writeback_of hit;
        rd = ap (λ (o : CopOut). o.result_rd) c.driven ∙ ap (λ o. if spec.writeback_of (spec.use_or o).hit == 0 then 0 else rd_field (spec.use_or o).word) r.offered
            ∙ ap (λ o. if spec.writeback_of o == 0 then 0 else rd_field u.word) hit ∙ ap (λ o. if spec.writeback_of (word_hit x e.word) == 0 then 0 else rd_field o) uword;
        value = ap (λ (o : CopOut). o.result_data) c.driven ∙ ap (λ o. (spec.use_or o).result) r.offered ∙ sym own.result ∙ serves.result own.ready;
      };
    }
  where
    named-is : names session b r.life ≡ (r.life.start == r.life.start)
    named-is = ap (λ q. q && is_for r.life.start (start_of (Rattle.xif_session.specs.Facts.result_key b) (lives_with session b))) t ∙ ap (is_for r.life.start) r.named

    answered-word : (o : Option Answer) (a : Answer) → o ≡ Some a → IfSome o (λ (a : Answer). a.word ≡ r.life.word) → a.word ≡ r.life.word
    answered-word None a q h = cc
    answered-word (Some c) a q h = subst (λ (z : Answer). z.word ≡ r.life.word) (some-is c a q) h
      where
        some-is : (c a : Answer) → Some c ≡ Some a → c ≡ a
        some-is c a h = cc

    reads-none : (g : Bool) (n : ℕ) → (g || (n == 0)) ≡ true → g ≡ false → n ≡ 0
    reads-none true n h q = cc
    reads-none false n h q = eqb-true n 0 h
