-- The rules don't speak of what is asked for of a refused word: they hold of a session if and only if
-- they hold of it once that is struck out.
use Rattle.std.proofs.Common.{◌≡◌, ◌+◌, ◌==◌, ◌&&◌, not, ℕ, Bool, true, false, if◌then◌else◌, Option, Some, None, List, [], ◌∷◌, map, refl, sym, ap, ap₂, ◌∙◌, subst}
use Rattle.std.specs.Prelude.{is_some, IfSome, IsSomeAnd}
use Rattle.std.specs.Option.{option_map}
use Rattle.rv32_table.specs.Instr.{rd_field}
use Rattle.xif_base.specs.declared.params.Key.{Key}
use Rattle.xif_base.specs.declared.params.Params.{Params}
use Rattle.xif_base.specs.declared.flags.ReadFlags.{ReadFlags}
use Rattle.xif_signals.specs.declared.bus.Bus.{Bus}
use Rattle.xif_signals.specs.Known.{has_flag}
use Rattle.xif_session.specs.declared.fact.Response.{Response}
use Rattle.xif_session.specs.declared.fact.Fact.{Fact}
use Rattle.xif_session.specs.Facts.{Facts, Past, past_of, past_after, same_key, issue_key, register_key, commit_key, result_key, is_issued, is_given, is_taken, is_released, is_killed, is_undecided, is_in_flight, is_pending, has_killed, issue_waits, register_waits, issue_continues, is_start, starts_key, register_continues, new_fact, with_response, with_operands, with_decision, with_end, named, response_on, answered_on, given_on, undecided_start, effective_start, decided_on, now, ended_on}
use Rattle.xif_session.specs.Rules.{IsWithin, HasOperands, MayFinish, NoneBefore, read_of, writeback_of}
use Rattle.xif_session.specs.Legal.{CoreKeeps, EngineKeeps, EachCycle}
use Rattle.core_laws.proofs.Plain.{plain_response, plain_answer, accepted-plain}
use Rattle.core_laws.proofs.PlainSteps.{plain_bus}

abbrev pub plain_fact : Fact → Fact
plain_fact f = record f { response = plain_answer f.response }

abbrev pub plain_facts : Facts → Facts
plain_facts facts = λ key. option_map plain_fact (facts key)

abbrev pub plain_past : Past → Past
plain_past p = record { cycle = p.cycle; last = plain_bus p.last; facts = plain_facts p.facts }

-- ---- transactions

killed-plain : (o : Option Fact) → has_killed (option_map plain_fact o) ≡ has_killed o
killed-plain None = refl
killed-plain (Some f) = refl

module _ (p : Past) (b : Bus) where
  abbrev q : Past
  q = plain_past p

  abbrev b' : Bus
  b' = plain_bus b

  continues-plain : issue_continues q b' ≡ issue_continues p b
  continues-plain = ap (λ t. issue_waits p.last && (b.issue_valid && (same_key (issue_key p.last) (issue_key b) && not t))) (killed-plain (p.facts (issue_key b)))

  start-plain : is_start q b' ≡ is_start p b
  start-plain = ap (λ t. b.issue_valid && not t) continues-plain

  gives-plain : register_continues q b' ≡ register_continues p b
  gives-plain =
      ap (λ t. register_waits p.last && (b.register_valid && (same_key (register_key p.last) (register_key b) && not (t && same_key (issue_key b) (register_key b))))) start-plain

  -- ---- the facts

  named-plain : named q b' ≡ plain_facts (named p b)
  named-plain = λ i key. (ap (λ t. if t && same_key (issue_key b) key then Some (new_fact p.cycle b.issue_instr) else option_map plain_fact (p.facts key)) start-plain ∙ go (starts_key p b key) (p.facts key)) i
    where
      go : (t : Bool) (o : Option Fact) → (if t then Some (new_fact p.cycle b.issue_instr) else option_map plain_fact o) ≡ option_map plain_fact (if t then Some (new_fact p.cycle b.issue_instr) else o)
      go true o = refl
      go false o = refl

  answered-plain : (facts : Facts) → answered_on b' (plain_facts facts) ≡ plain_facts (answered_on b facts)
  answered-plain facts = λ i key. go (is_issued b && same_key (issue_key b) key) (facts key) i
    where
      by : (t : Bool) (o : Option Response) → (if t then Some (plain_response (response_on b)) else plain_answer o) ≡ plain_answer (if t then Some (response_on b) else o)
      by true o = refl
      by false o = refl

      go : (t : Bool) (o : Option Fact) → option_map (with_response t (plain_response (response_on b))) (option_map plain_fact o) ≡ option_map plain_fact (option_map (with_response t (response_on b)) o)
      go t None = refl
      go t (Some f) = ap (λ r. Some (record f { response = r })) (by t f.response)

  given-plain : (facts : Facts) → given_on b' (plain_facts facts) ≡ plain_facts (given_on b facts)
  given-plain facts = λ i key. go (is_given b && same_key (register_key b) key) (facts key) i
    where
      go : (t : Bool) (o : Option Fact) → option_map (with_operands t b.register_rs_valid) (option_map plain_fact o) ≡ option_map plain_fact (option_map (with_operands t b.register_rs_valid) o)
      go t None = refl
      go t (Some f) = refl

  effective-plain : effective_start q b' ≡ effective_start p b
  effective-plain = ap (λ (facts : Facts). if b.commit_valid then undecided_start (facts (commit_key b)) else None) named-plain ∙ ap (λ o. if b.commit_valid then o else None) (go (named p b (commit_key b)))
    where
      go : (o : Option Fact) → undecided_start (option_map plain_fact o) ≡ undecided_start o
      go None = refl
      go (Some f) = refl

  decided-plain : (start : Option ℕ) (facts : Facts) → decided_on b' start (plain_facts facts) ≡ plain_facts (decided_on b start facts)
  decided-plain None facts = refl
  decided-plain (Some start) facts = λ i key. go (b.commit_hartid == key.hart) (facts key) i
    where
      go : (t : Bool) (o : Option Fact) → option_map (with_decision t start b.commit_kill) (option_map plain_fact o) ≡ option_map plain_fact (option_map (with_decision t start b.commit_kill) o)
      go t None = refl
      go t (Some f) = refl

  now-plain : now q b' ≡ plain_facts (now p b)
  now-plain =
      ap₂ (decided_on b') effective-plain (ap (λ facts. given_on b' (answered_on b' facts)) named-plain ∙ ap (given_on b') (answered-plain (named p b)) ∙ given-plain (answered_on b (named p b)))
      ∙ decided-plain (effective_start p b) (given_on b (answered_on b (named p b)))

  after-plain : past_after q b' ≡ plain_past (past_after p b)
  after-plain = ap (λ (facts : Facts). record { cycle = p.cycle + 1; last = b'; facts = facts }) (ap (ended_on b') now-plain ∙ (λ i key. go (is_taken b && same_key (result_key b) key) (now p b key) i))
    where
      go : (t : Bool) (o : Option Fact) → option_map (with_end t) (option_map plain_fact o) ≡ option_map plain_fact (option_map (with_end t) o)
      go t None = refl
      go t (Some f) = refl

  -- ---- the rules

  -- what is said of a use
  if-forth : (P Q : Fact → Type 0) → ((f : Fact) → P f → Q (plain_fact f)) → (o : Option Fact) → IfSome o P → IfSome (option_map plain_fact o) Q
  if-forth P Q k None h = tt
  if-forth P Q k (Some f) h = k f h

  if-back : (P : Fact → Type 0) → ((f : Fact) → P (plain_fact f) → P f) → (o : Option Fact) → IfSome (option_map plain_fact o) P → IfSome o P
  if-back P k None h = tt
  if-back P k (Some f) h = k f h

  and-forth : (P Q : Fact → Type 0) → ((f : Fact) → P f → Q (plain_fact f)) → (o : Option Fact) → IsSomeAnd o P → IsSomeAnd (option_map plain_fact o) Q
  and-forth P Q k None h = absurd h
  and-forth P Q k (Some f) h = k f h

  and-back : (P : Fact → Type 0) → ((f : Fact) → P (plain_fact f) → P f) → (o : Option Fact) → IsSomeAnd (option_map plain_fact o) P → IsSomeAnd o P
  and-back P k None h = absurd h
  and-back P k (Some f) h = k f h

  if-now : (P Q : Fact → Type 0) → ((f : Fact) → P f → Q (plain_fact f)) → (key : Key) → IfSome (now p b key) P → IfSome (now q b' key) Q
  if-now P Q k key h = subst (λ (facts : Facts). IfSome (facts key) Q) (sym now-plain) (if-forth P Q k (now p b key) h)

  if-named : (P : Fact → Type 0) → ((f : Fact) → P (plain_fact f) → P f) → (key : Key) → IfSome (named q b' key) P → IfSome (named p b key) P
  if-named P k key h = if-back P k (named p b key) (subst (λ (facts : Facts). IfSome (facts key) P) named-plain h)

  some-plain : (key : Key) → is_some (named q b' key) ≡ is_some (named p b key)
  some-plain key = ap (λ (facts : Facts). is_some (facts key)) named-plain ∙ go (named p b key)
    where
      go : (o : Option Fact) → is_some (option_map plain_fact o) ≡ is_some o
      go None = refl
      go (Some f) = refl

  in_flight-plain : (profile : ℕ) (o : Option Fact) → is_in_flight profile (option_map plain_fact o) ≡ is_in_flight profile o
  in_flight-plain profile None = refl
  in_flight-plain profile (Some f) = go f.response
    where
      go : (r : Option Response) → is_in_flight profile (Some (record f { response = plain_answer r })) ≡ is_in_flight profile (Some (record f { response = r }))
      go None = refl
      go (Some r) = refl

  pending-plain : (f : Fact) → is_pending (Some (plain_fact f)) ≡ is_pending (Some f)
  pending-plain f = ap (λ t. t && is_undecided f.decision) (go f.response)
    where
      go : (r : Option Response) → is_some (plain_answer r) ≡ is_some r
      go None = refl
      go (Some r) = refl

  before-back : (params : Params) (hart start : ℕ) → NoneBefore params (named q b') hart start → NoneBefore params (named p b) hart start
  before-back params hart start k id f l h y =
      k id (plain_fact f) l (ap (λ (facts : Facts). facts (record { hart = hart; id = id })) named-plain ∙ ap (option_map plain_fact) h) (pending-plain f ∙ y)

  pub core-back : (params : Params) → CoreKeeps params q b' → CoreKeeps params p b
  core-back params k = record {
    issue_hart = k.issue_hart;
    register_hart = k.register_hart;
    commit_hart = k.commit_hart;
    i1 = λ h. k.i1 (continues-plain ∙ h);
    i2 = λ h. sym (in_flight-plain params.profile (p.facts (issue_key b))) ∙ k.i2 (start-plain ∙ h);
    g1 = record { valid = k.g1.valid; key = k.g1.key };
    g2 = λ v. and-back (λ f. f.operands ≡ None) (λ f x. x) (named p b (register_key b)) (subst (λ (facts : Facts). IsSomeAnd (facts (register_key b)) (λ f. f.operands ≡ None)) named-plain (k.g2 v));
    g3 = λ h. k.g3 (gives-plain ∙ h);
    g4 = λ h lane l. let x = k.g4 (gives-plain ∙ h) lane l in record { low = x.low; high = x.high };
    c1 = λ v. sym (some-plain (commit_key b)) ∙ k.c1 v;
    c2 = λ v u. if-named (λ f. is_killed f.decision ≡ false) (λ f x. x) (commit_key b) (k.c2 v u);
    c3 = record {
      unreleased = λ v u. if-named (λ f. is_released f.decision ≡ false) (λ f x. x) (commit_key b) (k.c3.unreleased v u);
      in_order = λ two v start e. before-back params b.commit_hartid start (k.c3.in_order two v start (effective-plain ∙ e));
    };
  }

  operands-forth : (r : Option Response) (o : Option ReadFlags) → HasOperands r o → HasOperands (plain_answer r) o
  operands-forth None None h = h
  operands-forth (Some r) None h = h
  operands-forth None (Some flags) h = h
  operands-forth (Some r) (Some flags) h = λ a. subst (λ t. IsWithin (if t then r.register_read.0 else 0) flags.0) (sym a) (h a)

  reads-back : (r : Option Response) → (read_of (plain_answer r) == 0) ≡ false → (read_of r == 0) ≡ false
  reads-back None h = h
  reads-back (Some r) h = go r.accept h
    where
      go : (t : Bool) → ((if t then r.register_read.0 else 0) == 0) ≡ false → (r.register_read.0 == 0) ≡ false
      go true h = h
      go false h = absurd cc

  writes-plain : (r : Option Response) → writeback_of (plain_answer r) ≡ writeback_of r
  writes-plain None = refl
  writes-plain (Some r) = refl

  pub engine-forth : (params : Params) → EngineKeeps params p b → EngineKeeps params q b'
  engine-forth params k = record {
    result_hart = k.result_hart;
    i3 = k.i3;
    i4 = k.i4;
    i5 = λ h a lane bit l o f. k.i5 h a lane bit l o (ap (λ t. has_flag (if t then b.issue_register_read else 0) bit) (sym a) ∙ f);
    g1 = k.g1;
    g5 = record {
      issue = λ h. if-now (λ f. HasOperands f.response f.operands) (λ f. HasOperands f.response f.operands) (λ f x. operands-forth f.response f.operands x) (issue_key b) (k.g5.issue h);
      register = λ h. if-now (λ f. HasOperands f.response f.operands) (λ f. HasOperands f.response f.operands) (λ f x. operands-forth f.response f.operands x) (register_key b) (k.g5.register h);
    };
    r1 = k.r1;
    r2 = λ h. let x = k.r2 h in record { key = x.key; we = x.we; rd = x.rd; low = x.low; high = x.high };
    r3 = λ v. subst (λ (facts : Facts). IsSomeAnd (facts (result_key b)) MayFinish) (sym now-plain)
        (and-forth MayFinish MayFinish (λ f x. record { accepted = accepted-plain f.response ∙ x.accepted; released = x.released; unfinished = x.unfinished }) (now p b (result_key b)) (k.r3 v));
    r4 = λ v. if-now (λ f. (read_of f.response == 0) ≡ false → is_some f.operands ≡ true) (λ f. (read_of f.response == 0) ≡ false → is_some f.operands ≡ true) (λ f x h. x (reads-back f.response h)) (result_key b) (k.r4 v);
    r5 = λ v. if-now (λ f. b.result_we ≡ writeback_of f.response) (λ f. b.result_we ≡ writeback_of f.response) (λ f x. x ∙ sym (writes-plain f.response)) (result_key b) (k.r5 v);
    r6 = λ v z. if-now (λ f. b.result_rd ≡ rd_field f.instr) (λ f. b.result_rd ≡ rd_field f.instr) (λ f x. x) (result_key b) (k.r6 v z);
  }

-- ---- a session

pub past-plain : (session : List Bus) → past_of (map plain_bus session) ≡ plain_past (past_of session)
past-plain [] = refl
past-plain (b ∷ session) = ap (λ p. past_after p (plain_bus b)) (past-plain session) ∙ after-plain (past_of session) b

pub engine-plain : (params : Params) (session : List Bus) → EachCycle (EngineKeeps params) session → EachCycle (EngineKeeps params) (map plain_bus session)
engine-plain params [] k = tt
engine-plain params (b ∷ session) k = (subst (λ p. EngineKeeps params p (plain_bus b)) (sym (past-plain session)) (engine-forth (past_of session) b params k.0), engine-plain params session k.1)

pub core-unplain : (params : Params) (session : List Bus) → EachCycle (CoreKeeps params) (map plain_bus session) → EachCycle (CoreKeeps params) session
core-unplain params [] k = tt
core-unplain params (b ∷ session) k = (core-back (past_of session) b params (subst (λ p. CoreKeeps params p (plain_bus b)) (past-plain session) k.0), core-unplain params session k.1)
