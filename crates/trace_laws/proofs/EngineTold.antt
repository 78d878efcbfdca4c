-- What the engine keeps, against what the buses say: each use is the latest of its key, with the
-- facts of it, and each latest use of a key is kept.
use Rattle.std.proofs.Common.{◌≡◌, ◌<◌, ◌==◌, ℕ, Bool, true, false, if◌then◌else◌, Option, Some, None, List, refl, sym, ap, ◌∙◌}
use Rattle.std.specs.Prelude.{is_some}
use Rattle.std.specs.List.{list_any}
use Rattle.std.specs.Option.{option_map_or}
use Rattle.std.proofs.lemmas.Bool.{eqb-true, eqb-false}
use Rattle.rv32_table.specs.Instr.{rd_field}
use Rattle.xif_base.specs.declared.params.Key.{Key}
use Rattle.xif_base.specs.declared.params.Params.{Params}
use Rattle.xif_base.specs.declared.flags.ReadFlags.{ReadFlags}
use Rattle.coproc_config.specs.declared.accept.Hit.{Hit}
use Rattle.xif_signals.specs.declared.bus.Bus.{Bus}
use Rattle.xif_signals.specs.declared.rule.Channel.TheVariants.{Issue}
use Rattle.xif_session.specs.declared.fact.Response.{Response}
use Rattle.xif_session.specs.declared.fact.Fact.{Fact}
use Rattle.xif_session.specs.Facts.{Facts, Past, same_key, is_released, issue_key, result_key, issue_waits, result_waits}
use Rattle.xif_session.specs.Rules.{HasOperands, HasHart, HoldsI1, HoldsI2, HoldsG1Core}
use Rattle.xif_session.proofs.Options.{same_some, key_is, key_same, no_true}
use Rattle.cycle_spec.specs.declared.turn.Transaction.{Transaction}
use Rattle.cycle_spec.specs.declared.use_of.Use.{Use}
use Rattle.cycle_spec.specs.State.{Engine}
use Rattle.cycle_spec.specs.Engine.{has_key, has_start, latest, writeback_of, register_read_of, has_operands, start_of}
use Rattle.cycle_lists.specs.Lists.{Each}
use Rattle.cycle_lists.proofs.Every.{Each-at}
use Rattle.cycle_lists.proofs.Places.{last-found}
use Rattle.trace_laws.proofs.Apart.{Apart}
use Rattle.trace_laws.proofs.Uses.{none-last, Rises}

-- ---- one use

-- the issue response
abbrev pub answer : Option Hit → Response
answer hit = record {
  accept = is_some hit;
  writeback = record { 0 = writeback_of hit };
  register_read = record { 0 = register_read_of hit };
}

abbrev pub AnsweredBy : Option Response → Option Hit → Type 0
AnsweredBy None hit = hit ≡ None
AnsweredBy (Some response) hit = response ≡ answer hit

abbrev pub fact_of : Use → Option Response → Option ReadFlags → Fact
fact_of u response flags = record {
  start = u.start;
  instr = u.word;
  response = response;
  operands = flags;
  decision = u.decision;
  finished = u.finished;
}

-- a use that has its result may give it
pub record Computed (u : Use) : Type 0 where
  pub accepted : is_some u.hit ≡ true
  pub released : is_released u.decision ≡ true
  pub given : has_operands u ≡ true

pub record Told (facts : Facts) (harts : ℕ) (u : Use) : Type 0 where
  pub response : Option Response
  pub flags : Option ReadFlags
  pub is_fact : facts u.key ≡ Some (fact_of u response flags)
  pub answered : AnsweredBy response u.hit
  pub given : is_some flags ≡ u.given
  -- registers are given to answered uses alone, and all that are read
  pub given_after : is_some flags ≡ true → is_some response ≡ true
  pub within : HasOperands response flags
  pub computed : is_some u.ready ≡ true → Computed u
  pub ended : u.finished ≡ true → is_released u.decision ≡ true
  pub hart : u.key.hart < harts

-- the result channel shows a use
pub record Shows (b : Bus) (u : Use) : Type 0 where
  pub key : result_key b ≡ u.key
  pub value : b.result_data ≡ u.result
  pub rd : b.result_rd ≡ (if writeback_of u.hit == 0 then 0 else rd_field u.word)
  pub we : b.result_we ≡ writeback_of u.hit
  pub ready : is_some u.ready ≡ true
  pub unfinished : u.finished ≡ false

-- what is carried through a cycle: the facts of a use, and that the result channel shows the one
-- with a start
abbrev pub Kept : Facts → (harts : ℕ) → Bus → (start : ℕ) → (shows : Bool) → Use → Type 0
Kept facts harts b start shows u =
    Told facts harts u × (shows ≡ true → u.start ≡ start → Shows b u)

-- ---- all uses

-- the latest use of each key is kept
abbrev pub Covers : Facts → List Use → Type 0
Covers facts us = (key : Key) → is_some (facts key) ≡ true → list_any (has_key key) us ≡ true

pub record Stage (facts : Facts) (harts : ℕ) (b : Bus) (start : ℕ) (shows : Bool) (n : ℕ) (us : List Use) : Type 0 where
  pub each : Each (Kept facts harts b start shows) us
  pub covers : Covers facts us
  pub member : shows ≡ true → list_any (has_start start) us ≡ true
  pub rises : Rises n us
  pub apart : Apart n facts

-- ---- what the engine needs of a core in a cycle

pub record Orderly (params : Params) (p : Past) (b : Bus) : Type 0 where
  pub hart : HasHart params b Issue
  pub i1 : HoldsI1 p b
  pub i2 : HoldsI2 params p b
  pub g1 : HoldsG1Core params b

-- ---- what the engine keeps in every cycle

-- the issue transaction that may go on
pub record Waits (t : Transaction) (p : Past) : Type 0 where
  pub waits : issue_waits p.last ≡ true
  pub fact : Fact
  pub there : p.facts (issue_key p.last) ≡ Some fact
  pub start : fact.start ≡ t.owner
  pub word : fact.instr ≡ p.last.issue_instr
  pub response : fact.response ≡ None

abbrev pub IssueTold : Option Transaction → Past → Type 0
IssueTold None p = issue_waits p.last ≡ false
IssueTold (Some t) p = Waits t p

-- the result that waits for its handshake
pub record Holds (start : ℕ) (us : List Use) (p : Past) : Type 0 where
  pub waits : result_waits p.last ≡ true
  pub member : list_any (has_start start) us ≡ true
  pub shows : Each (λ u. u.start ≡ start → Shows p.last u) us

abbrev pub ResultTold : Option ℕ → List Use → Past → Type 0
ResultTold None us p = result_waits p.last ≡ false
ResultTold (Some start) us p = Holds start us p

pub record EngineTold (e : Engine) (harts : ℕ) (p : Past) : Type 0 where
  pub clock : e.cycle ≡ p.cycle
  pub each : Each (Told p.facts harts) e.uses
  pub covers : Covers p.facts e.uses
  pub rises : Rises p.cycle e.uses
  pub apart : Apart p.cycle p.facts
  pub issue : IssueTold e.issue_turns.waiting p
  pub result : ResultTold e.result_waiting e.uses p

-- ---- what a key names

abbrev pub Named : Facts → (harts : ℕ) → Key → Option Use → Type 0
Named facts harts key None = facts key ≡ None
Named facts harts key (Some u) = (u.key ≡ key) × Told facts harts u

pub latest_named : (facts : Facts) (harts : ℕ) (us : List Use) (key : Key) → Each (Told facts harts) us → Covers facts us → Named facts harts key (latest key us)
latest_named facts harts us key e c = go (latest key us) refl
  where
    none : (o : Option Fact) → facts key ≡ o → list_any (has_key key) us ≡ false → facts key ≡ None
    none None q n = q
    none (Some f) q n = no_true (list_any (has_key key) us) (c key (ap is_some q)) n

    go : (o : Option Use) → latest key us ≡ o → Named facts harts key o
    go None q = none (facts key) refl (none-last (has_key key) us q)
    go (Some u) q =
        let l = last-found (has_key key) us u q in
        (key_is u.key key l.passes, Each-at (Told facts harts) us l.older u l.younger l.here e)

-- the use of a key that has one
pub record Found (facts : Facts) (harts : ℕ) (us : List Use) (key : Key) (f : Fact) : Type 0 where
  pub one : Use
  pub is_latest : latest key us ≡ Some one
  pub key_is : one.key ≡ key
  pub told : Told facts harts one
  pub same : fact_of one told.response told.flags ≡ f

pub found : (facts : Facts) (harts : ℕ) (us : List Use) (key : Key) (f : Fact) → Each (Told facts harts) us → Covers facts us → facts key ≡ Some f → Found facts harts us key f
found facts harts us key f e c q = go (latest key us) refl (latest_named facts harts us key e c)
  where
    go : (o : Option Use) → latest key us ≡ o → Named facts harts key o → Found facts harts us key f
    go None l n = let bad : None ≡ Some f = sym n ∙ q in cc
    go (Some u) l n = record {
      one = u;
      is_latest = l;
      key_is = n.0;
      told = n.1;
      same = same_some (facts key) (fact_of u n.1.response n.1.flags) f (ap facts (sym n.0) ∙ n.1.is_fact) q;
    }

-- its start is that of the fact
pub start_found : (facts : Facts) (harts : ℕ) (us : List Use) (key : Key) (f : Fact) (cycle : ℕ) → Found facts harts us key f → start_of key us cycle ≡ f.start
start_found facts harts us key f cycle r = ap (λ (o : Option Use). option_map_or (λ u. u.start) o cycle) r.is_latest ∙ ap (λ x. x.start) r.same

-- the key of a kept use and its start say the same
pub same_test : (n : ℕ) (facts : Facts) (harts : ℕ) (key : Key) (f : Fact) (start : ℕ) (u : Use) → Apart n facts → facts key ≡ Some f → f.start ≡ start → Told facts harts u → same_key key u.key ≡ (u.start == start)
same_test n facts harts key f start u a q s t = go (same_key key u.key) (u.start == start) refl refl
  where
    go : (x y : Bool) → same_key key u.key ≡ x → (u.start == start) ≡ y → x ≡ y
    go true true k r = refl
    go false false k r = refl
    go true false k r =
        let same : f ≡ fact_of u t.response t.flags = same_some (facts key) f _ q (ap facts (key_is key u.key k) ∙ t.is_fact) in
        absurd (eqb-false u.start start r (sym (ap (λ x. x.start) same) ∙ s))
    go false true k r =
        no_true (same_key key u.key) (key_same key u.key (a.unique key u.key f (fact_of u t.response t.flags) q t.is_fact (s ∙ sym (eqb-true u.start start r)))) k

pub not-none : {A : Type 0} (o : Option A) → o ≡ None → is_some o ≡ true → ⊥
not-none None q h = cc
not-none (Some x) q h = cc

-- a use that is ready: what the facts say of it
pub record ReadyFact (facts : Facts) (u : Use) : Type 0 where
  pub flags : Option ReadFlags
  pub is_fact : facts u.key ≡ Some (fact_of u (Some (answer u.hit)) flags)
  pub given : is_some flags ≡ u.given
  pub computed : Computed u

pub ready_fact : (facts : Facts) (harts : ℕ) (u : Use) → Told facts harts u → is_some u.ready ≡ true → ReadyFact facts u
ready_fact facts harts u t r = go t.response t.is_fact t.answered
  where
    c : Computed u
    c = t.computed r

    go : (o : Option Response) → facts u.key ≡ Some (fact_of u o t.flags) → AnsweredBy o u.hit → ReadyFact facts u
    go None q a = absurd (not-none u.hit a c.accepted)
    go (Some x) q a = record {
      flags = t.flags;
      is_fact = q ∙ ap (λ y. Some (fact_of u (Some y) t.flags)) a;
      given = t.given;
      computed = c;
    }
