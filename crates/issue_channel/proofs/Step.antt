-- A cycle of the side: from the calls' clauses to those of `step`.
use Rattle.std.proofs.Common.{◌≡◌, ◌≢◌, ◌&&◌, Bool, true, false, if◌then◌else◌, Option, Some, None, [], ◌∷◌, refl, sym, ap, ◌∙◌, subst}
use Rattle.std.specs.Prelude.{IfSome, OnOk, Result, Ok, Err}
use Rattle.xif_base.specs.declared.params.Key.{Key}
use Rattle.xif_base.specs.declared.params.Params.{Params}
use Rattle.xif_signals.specs.declared.bus.Bus.{Bus}
use Rattle.xif_signals.specs.declared.rule.Channel.TheVariants.{Issue, Register}
use Rattle.xif_signals.specs.declared.rule.Rule.TheVariants.{G1, G2, G3, G4, G5}
use Rattle.xif_signals.specs.Bus.{FitsWidths}
use Rattle.xif_session.specs.declared.fault.Fault.{Fault}
use Rattle.xif_session.specs.Facts.{Past, issue_key, same_key, named, register_continues}
use Rattle.xif_session.specs.Rules.{HoldsH1}
use Rattle.xif_session.specs.Tests.{first_fault_in, answer_of, issue_rules, register_rules}
use Rattle.xif_session.proofs.Options.{key_is}
use Rattle.xif_uses.specs.declared.handshake.Phase.{Phase}
use Rattle.xif_uses.specs.declared.handshake.Phase.TheVariants.{Starts, Continues}
use Rattle.xif_uses.specs.Handshake.{waiting_key, phase_of}
use Rattle.xif_uses.specs.Table.{Table, Represents}
use Rattle.issue_channel.specs.Following.{Following, Follows, IsOpen, OffersNewest, side_rules}
use Rattle.issue_channel.specs.Steps.{issue_phase, HasKeys, SameStarts}
use Rattle.issue_channel.proofs.Phases.{phase_is}
use Rattle.issue_channel.proofs.Chains.{then_answer, parts}
use Rattle.issue_channel.proofs.Opens.{same_trans, newest_same}

-- ---- keys

pub keys_of : (params : Params) (b : Bus) → FitsWidths params b → HoldsH1 params b → HasKeys params b
keys_of params b w h = record {
  issue = λ v. record { hart = h Issue v; id = w.issue_id };
  register = λ v. record { hart = h Register v; id = w.register_id };
}

pub keys_at : (params now : Params) (b : Bus) → FitsWidths params b → HoldsH1 params b → now ≡ params → HasKeys now b
keys_at params now b w h e = subst (λ q. HasKeys q b) (sym e) (keys_of params b w h)

pub starts_valid : (waiting : Option Key) (valid : Bool) (key : Key) (phase : Phase) → phase ≡ phase_of waiting valid key → phase ≡ Starts → valid ≡ true
starts_valid waiting true key phase q s = refl
starts_valid waiting false key phase q s = cc

-- ---- the answers

pub phase_follows : (seen side : Following) (table : Table) (params : Params) (p : Past) (b : Bus) (key : Key) (phase : Phase)
    → seen ≡ side → Follows side table params p → key ≡ issue_key b → phase ≡ phase_of seen.issue b.issue_valid key → phase ≡ issue_phase p b
phase_follows seen side table params p b key phase q f k e =
    e ∙ ap (λ key. phase_of seen.issue b.issue_valid key) k
    ∙ ap (λ waiting. phase_of waiting b.issue_valid (issue_key b)) (ap (λ (s : Following). s.issue) q ∙ f.keeps.offered)
    ∙ phase_is p b

pub issue_answer : (seen side : Following) (table : Table) (params : Params) (p : Past) (b : Bus) (phase : Phase) (answer : Result Unit Fault)
    → seen ≡ side → Follows side table params p → phase ≡ issue_phase p b
    → ((p : Past) → p.last ≡ seen.last → phase ≡ issue_phase p b → Represents table seen.params p.facts → answer ≡ answer_of (first_fault_in issue_rules seen.params p b))
    → answer ≡ answer_of (first_fault_in issue_rules params p b)
issue_answer seen side table params p b phase answer q f e h =
    let same : seen.params ≡ params = ap (λ (s : Following). s.params) q ∙ f.keeps.same in
    h p (sym (ap (λ (s : Following). s.last) q ∙ f.keeps.before)) e (subst (λ q. Represents table q p.facts) (sym same) f.facts)
    ∙ ap (λ q. answer_of (first_fault_in issue_rules q p b)) same

pub register_answer : (seen side : Following) (table begun : Table) (params : Params) (p : Past) (b : Bus) (continues : Bool) (answer : Result Unit Fault)
    → seen ≡ side → Follows side table params p → Represents begun params (named p b) → continues ≡ register_continues p b
    → ((p : Past) → p.last ≡ seen.last → continues ≡ register_continues p b → Represents begun seen.params (named p b) → answer ≡ answer_of (first_fault_in (G1 ∷ G2 ∷ G3 ∷ G4 ∷ []) seen.params p b))
    → answer ≡ answer_of (first_fault_in (G1 ∷ G2 ∷ G3 ∷ G4 ∷ []) params p b)
register_answer seen side table begun params p b continues answer q f r e h =
    let same : seen.params ≡ params = ap (λ (s : Following). s.params) q ∙ f.keeps.same in
    h p (sym (ap (λ (s : Following). s.last) q ∙ f.keeps.before)) e (subst (λ q. Represents begun q (named p b)) (sym same) r)
    ∙ ap (λ q. answer_of (first_fault_in (G1 ∷ G2 ∷ G3 ∷ G4 ∷ []) q p b)) same

-- ---- the first fault of all rules of the side

then_by : (answer found given later : Result Unit Fault) → answer ≡ given → answer ≡ found → then_answer given later ≡ then_answer found later
then_by answer found given later a o = ap (λ r. then_answer r later) (sym a ∙ o)

pub whole_issue : (params : Params) (p : Past) (b : Bus) (answer : Result Unit Fault) (fault : Fault)
    → answer ≡ answer_of (first_fault_in issue_rules params p b) → answer ≡ Err fault → Err fault ≡ answer_of (first_fault_in side_rules params p b)
whole_issue params p b answer fault a o =
    sym (parts issue_rules register_rules params p b ∙ then_by answer (Err fault) (answer_of (first_fault_in issue_rules params p b)) (answer_of (first_fault_in register_rules params p b)) a o)

goes_on : (params : Params) (p : Past) (b : Bus) (answer : Result Unit Fault) (u : Unit)
    → answer ≡ answer_of (first_fault_in issue_rules params p b) → answer ≡ Ok u → answer_of (first_fault_in side_rules params p b) ≡ answer_of (first_fault_in register_rules params p b)
goes_on params p b answer u a o =
    parts issue_rules register_rules params p b ∙ then_by answer (Ok u) (answer_of (first_fault_in issue_rules params p b)) (answer_of (first_fault_in register_rules params p b)) a o

pub whole_register : (params : Params) (p : Past) (b : Bus) (first : Result Unit Fault) (u : Unit) (answer : Result Unit Fault) (fault : Fault)
    → first ≡ answer_of (first_fault_in issue_rules params p b) → first ≡ Ok u
    → answer ≡ answer_of (first_fault_in (G1 ∷ G2 ∷ G3 ∷ G4 ∷ []) params p b) → answer ≡ Err fault → Err fault ≡ answer_of (first_fault_in side_rules params p b)
whole_register params p b first u answer fault a o a' o' =
    sym (goes_on params p b first u a o ∙ parts (G1 ∷ G2 ∷ G3 ∷ G4 ∷ []) (G5 ∷ []) params p b
    ∙ then_by answer (Err fault) (answer_of (first_fault_in (G1 ∷ G2 ∷ G3 ∷ G4 ∷ []) params p b)) (answer_of (first_fault_in (G5 ∷ []) params p b)) a' o')

pub whole_last : (params : Params) (p : Past) (b : Bus) (first : Result Unit Fault) (u : Unit) (second : Result Unit Fault) (v : Unit) (answer : Result Unit Fault)
    → first ≡ answer_of (first_fault_in issue_rules params p b) → first ≡ Ok u
    → second ≡ answer_of (first_fault_in (G1 ∷ G2 ∷ G3 ∷ G4 ∷ []) params p b) → second ≡ Ok v
    → answer ≡ answer_of (first_fault_in (G5 ∷ []) params p b) → answer ≡ answer_of (first_fault_in side_rules params p b)
whole_last params p b first u second v answer a o a' o' e =
    e ∙ sym (goes_on params p b first u a o ∙ parts (G1 ∷ G2 ∷ G3 ∷ G4 ∷ []) (G5 ∷ []) params p b
    ∙ then_by second (Ok v) (answer_of (first_fault_in (G1 ∷ G2 ∷ G3 ∷ G4 ∷ []) params p b)) (answer_of (first_fault_in (G5 ∷ []) params p b)) a' o')

-- ---- the open use

pub open_begun : (old ended begun : Table) (waiting : Option Key) (valid : Bool) (key : Key) (phase : Phase)
    → IfSome waiting (IsOpen old) → phase ≡ phase_of waiting valid key
    → (phase ≡ Continues → ended ≡ old) → (phase ≢ Starts → begun ≡ ended) → (phase ≡ Starts → IsOpen begun key) → valid ≡ true → IsOpen begun key
open_begun old ended begun waiting false key phase h e r s n v = cc
open_begun old ended begun None true key phase h e r s n v = n e
open_begun old ended begun (Some last) true key phase h e r s n v = go (same_key last key) refl
  where
    apart : Continues ≢ Starts
    apart q = cc

    go : (t : Bool) → same_key last key ≡ t → IsOpen begun key
    go true q =
        let c : phase ≡ Continues = e ∙ ap (λ t. if t then Continues else Starts) q in
        let same : begun ≡ old = s (λ x. apart (sym c ∙ x)) ∙ r c in
        subst (λ t. IsOpen t key) (sym same) (subst (λ k. IsOpen old k) (key_is last key q) h)
    go false q = n (e ∙ ap (λ t. if t then Continues else Starts) q)

pub open_still : (begun answered given : Table) (valid ready : Bool) (key : Key) (waiting : Option Key)
    → (valid ≡ true → IsOpen begun key) → ((valid && ready) ≡ false → answered ≡ begun) → ((k : Key) → IsOpen answered k → IsOpen given k) → waiting ≡ waiting_key valid ready key → IfSome waiting (IsOpen given)
open_still begun answered given valid ready key waiting h k g e = subst (λ w. IfSome w (IsOpen given)) (sym e) (go valid ready h k)
  where
    go : (v r : Bool) → (v ≡ true → IsOpen begun key) → ((v && r) ≡ false → answered ≡ begun) → IfSome (waiting_key v r key) (IsOpen given)
    go false r h k = tt
    go true true h k = tt
    go true false h k = g key (subst (λ t. IsOpen t key) (sym (k refl)) (h refl))

pub newest_given : (begun answered given : Table) (b : Bus) → SameStarts begun answered → SameStarts answered given → (b.issue_valid ≡ true → IsOpen begun (issue_key b)) → OffersNewest given b
newest_given begun answered given b s t h v =
    newest_same begun given (issue_key b) (same_trans begun answered given s t) (h v).inside (h v).newest

pub on_ok : (answer : Result Unit Fault) (P : Type 0) → P → OnOk answer P
on_ok (Ok u) P h = h
on_ok (Err fault) P h = tt
