-- What no step of a cycle changes: number, kind and id of an entry, start and key of a use.
use Rattle.std.proofs.Common.{◌≡◌, ◌&&◌, ℕ, Bool, true, false, cond, not, List, map, filter, Option, Some, None, refl, sym, subst}
use Rattle.std.specs.Prelude.{find}
use Rattle.xif_base.specs.declared.params.Key.{Key}
use Rattle.coproc_config.specs.declared.accept.Hit.{Hit}
use Rattle.xif_signals.specs.declared.bus.Bus.{Bus}
use Rattle.xif_signals.specs.declared.bus.CpuOut.{CpuOut}
use Rattle.xif_signals.specs.declared.bus.CopOut.{CopOut}
use Rattle.xif_signals.specs.declared.bus.CpuIn.{CpuIn}
use Rattle.xif_session.specs.Facts.{is_issued, is_given, is_taken, response_on, is_undecided as is_decision_open}
use Rattle.cycle_spec.specs.declared.choices.Choices.{Choices}
use Rattle.cycle_spec.specs.declared.choices.Executed.{Executed}
use Rattle.cycle_spec.specs.declared.choices.Presented.{Presented}
use Rattle.cycle_spec.specs.declared.entry.Entry.{Entry}
use Rattle.cycle_spec.specs.declared.entry.EntryKind.{EntryKind}
use Rattle.cycle_spec.specs.declared.log.Cut.{Cut}
use Rattle.cycle_spec.specs.declared.use_of.Use.{Use}
use Rattle.cycle_spec.specs.Flight.{holds_id, with_response, with_sent, with_release, with_result, with_outcome}
use Rattle.cycle_spec.specs.State.{Engine}
use Rattle.cycle_spec.specs.Core.{response_on_offer, response_step, sent_on_present, sent_step, release_step, cut_step, drain_step, result_for, result_step, execute_step, retire_step, settled_entries}
use Rattle.cycle_spec.specs.Engine.{has_key, issue_key, register_key, commit_key, latest, new_use, start_step, started_uses, starts, with_answer, with_operands, given_to, lanes_on, with_decision, decided_by, with_end, ended, issue_start, offered_hit, answered_uses, given_uses, decided_uses, ended_uses, offered_use, settled_uses}
use Rattle.cycle_lists.specs.Lists.{Each}
use Rattle.cycle_lists.proofs.Every.{Each-map, Each-filter, Each-push, Each-take, Each-drop}
use Rattle.cycle_lists.proofs.Order.{Leaves, leaves-response, leaves-sent, leaves-release, leaves-result, leaves-outcome}
use Rattle.cycle_paired.proofs.Applying.{Each-readied, all-harts}

-- ---- entries

-- a fact of number, kind and id
abbrev pub Fixed : (ℕ → EntryKind → ℕ → Type 0) → Entry → Type 0
Fixed P e = P e.seq e.kind e.id

fixed-map : (P : ℕ → EntryKind → ℕ → Type 0) (f : Entry → Entry) (es : List Entry) → Leaves f → Each (Fixed P) es → Each (Fixed P) (map f es)
fixed-map P f es l h =
    Each-map (Fixed P) (Fixed P) f es (λ e k. subst (λ s. P s (f e).kind (f e).id) (sym (l.seq e)) (subst (λ s. P e.seq s (f e).id) (sym (l.kind e)) (subst (P e.seq e.kind) (sym (l.id e)) k))) h

fixed-response : (P : ℕ → EntryKind → ℕ → Type 0) (o : Option Entry) (b : Bus) (es : List Entry) → Each (Fixed P) es → Each (Fixed P) (response_step o b es)
fixed-response P o b es h = go (is_issued b) o
  where
    go : (t : Bool) (o : Option Entry) → Each (Fixed P) (cond t (response_on_offer o b es) es)
    go false o = h
    go true None = h
    go true (Some e) = fixed-map P (with_response e.seq (response_on b)) es (leaves-response e.seq (response_on b)) h

fixed-sent : (P : ℕ → EntryKind → ℕ → Type 0) (o : Option Presented) (b : Bus) (es : List Entry) → Each (Fixed P) es → Each (Fixed P) (sent_step o b es)
fixed-sent P o b es h = go (is_given b) o
  where
    go : (t : Bool) (o : Option Presented) → Each (Fixed P) (cond t (sent_on_present o es) es)
    go false o = h
    go true None = h
    go true (Some x) = fixed-map P (with_sent x.entry.seq) es (leaves-sent x.entry.seq) h

fixed-release : (P : ℕ → EntryKind → ℕ → Type 0) (o : Option Entry) (es : List Entry) → Each (Fixed P) es → Each (Fixed P) (release_step o es)
fixed-release P None es h = h
fixed-release P (Some e) es h = fixed-map P (with_release e.seq) es (leaves-release e.seq) h

fixed-cut : (P : ℕ → EntryKind → ℕ → Type 0) (o : Option Cut) (es : List Entry) → Each (Fixed P) es → Each (Fixed P) (cut_step o es)
fixed-cut P None es h = h
fixed-cut P (Some c) es h = Each-take (Fixed P) c.keep es h

fixed-drain : (P : ℕ → EntryKind → ℕ → Type 0) (o : Option ℕ) (es : List Entry) → Each (Fixed P) es → Each (Fixed P) (drain_step o es)
fixed-drain P None es h = h
fixed-drain P (Some k) es h = Each-take (Fixed P) k es h

fixed-result : (P : ℕ → EntryKind → ℕ → Type 0) (b : Bus) (es : List Entry) → Each (Fixed P) es → Each (Fixed P) (result_step b es)
fixed-result P b es h = go (is_taken b) (find (holds_id b.result_id) es)
  where
    go : (t : Bool) (o : Option Entry) → Each (Fixed P) (cond t (result_for o b es) es)
    go false o = h
    go true None = h
    go true (Some e) = fixed-map P (with_result e.seq _) es (leaves-result e.seq _) h

fixed-execute : (P : ℕ → EntryKind → ℕ → Type 0) (o : Option Executed) (es : List Entry) → Each (Fixed P) es → Each (Fixed P) (execute_step o es)
fixed-execute P None es h = h
fixed-execute P (Some x) es h = fixed-map P (with_outcome x.entry.seq x.outcome) es (leaves-outcome x.entry.seq x.outcome) h

fixed-retire : (P : ℕ → EntryKind → ℕ → Type 0) (o : Option Entry) (es : List Entry) → Each (Fixed P) es → Each (Fixed P) (retire_step o es)
fixed-retire P None es h = h
fixed-retire P (Some e) es h = Each-drop (Fixed P) 1 es h

pub fixed-settled : (P : ℕ → EntryKind → ℕ → Type 0) (ch : Choices) (b : Bus) (es : List Entry) → Each (Fixed P) es → Each (Fixed P) (settled_entries ch b es)
fixed-settled P ch b es h =
    fixed-retire P ch.retire _ (fixed-execute P ch.execute _ (fixed-result P b _ (fixed-drain P ch.drain _ (fixed-cut P ch.cut _ (fixed-release P ch.release _ (fixed-sent P ch.present b _ (fixed-response P ch.offer b es h)))))))

-- ---- uses

-- a fact of start and key
abbrev pub Named : (ℕ → Key → Type 0) → Use → Type 0
Named P u = P u.start u.key

named-start : (P : ℕ → Key → Type 0) (b : Bool) (cpu : CpuOut) (c : ℕ) (us : List Use) → (b ≡ true → P c (issue_key cpu)) → Each (Named P) us → Each (Named P) (start_step b cpu c us)
named-start P true cpu c us n h = Each-push (Named P) (filter (λ u. not (has_key (issue_key cpu) u)) us) (new_use (issue_key cpu) c cpu.issue_instr) (Each-filter (Named P) (λ u. not (has_key (issue_key cpu) u)) us h) (n refl)
named-start P false cpu c us n h = h

named-answer : (P : ℕ → Key → Type 0) (s : ℕ) (hit : Option Hit) (order : ℕ) (t : Bool) (us : List Use) → Each (Named P) us → Each (Named P) (cond t (map (with_answer s hit order) us) us)
named-answer P s hit order true us h = Each-map (Named P) (Named P) (with_answer s hit order) us (λ u k. k) h
named-answer P s hit order false us h = h

named-given : (P : ℕ → Key → Type 0) (o : Option Use) (lanes : List ℕ) (t : Bool) (us : List Use) → Each (Named P) us → Each (Named P) (cond t (given_to o lanes us) us)
named-given P None lanes true us h = h
named-given P (Some u) lanes true us h = Each-map (Named P) (Named P) (with_operands u.start lanes) us (λ u k. k) h
named-given P o lanes false us h = h

named-decided : (P : ℕ → Key → Type 0) (kill : Bool) (o : Option Use) (t : Bool) (us : List Use) → Each (Named P) us → Each (Named P) (cond t (decided_by kill o us) us)
named-decided P kill o false us h = h
named-decided P kill None true us h = h
named-decided P kill (Some u) true us h = go (is_decision_open u.decision)
  where
    go : (b : Bool) → Each (Named P) (cond b (map (with_decision kill u) us) us)
    go true = Each-map (Named P) (Named P) (with_decision kill u) us (λ u k. k) h
    go false = h

named-ended : (P : ℕ → Key → Type 0) (o : Option Use) (t : Bool) (us : List Use) → Each (Named P) us → Each (Named P) (cond t (ended o us) us)
named-ended P o false us h = h
named-ended P None true us h = h
named-ended P (Some u) true us h = Each-map (Named P) (Named P) (with_end u.start) us (λ u k. k) h

pub named-settled : (P : ℕ → Key → Type 0) (e : Engine) (cpu : CpuOut) (cop : CopOut) (input : CpuIn) → (starts e cpu ≡ true → P e.cycle (issue_key cpu)) → Each (Named P) e.uses → Each (Named P) (settled_uses e cpu cop input)
named-settled P e cpu cop input n h =
    let h1 = named-start P (starts e cpu) cpu e.cycle e.uses n h in
    let h2 = named-answer P (issue_start e cpu) (offered_hit e cpu) e.accepted (cpu.issue_valid && cop.issue_ready) (started_uses e cpu) h1 in
    let h3 = named-given P (latest (register_key cpu) (answered_uses e cpu cop)) (lanes_on cpu) (cpu.register_valid && cop.register_ready) (answered_uses e cpu cop) h2 in
    let h4 = named-decided P cpu.commit_kill (latest (commit_key cpu) (given_uses e cpu cop)) cpu.commit_valid (given_uses e cpu cop) h3 in
    let h5 = named-ended P (offered_use e) (cop.result_valid && input.result_ready) (decided_uses e cpu cop) h4 in
    Each-readied (Named P) (Named P) (ended_uses e cpu cop input) (settled_uses e cpu cop input) (λ u v r k. subst (Named P) (sym r.same) k) (all-harts e.set e.cycle 0 e.units (ended_uses e cpu cop input)) h5
