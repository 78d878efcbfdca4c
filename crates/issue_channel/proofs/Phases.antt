-- What a cycle is to the transactions of a session.
use Rattle.std.proofs.Common.{◌≡◌, ◌≢◌, ℕ, ◌&&◌, not, Bool, true, false, if◌then◌else◌, Some, None, refl, sym, ap, ◌∙◌, subst}
use Rattle.std.specs.Option.{option_map_or}
use Rattle.xif_base.specs.declared.params.Key.{Key}
use Rattle.xif_base.specs.declared.params.Params.{Params}
use Rattle.xif_signals.specs.declared.bus.Bus.{Bus}
use Rattle.xif_signals.specs.Known.{when}
use Rattle.xif_session.specs.Facts.{Past, Facts, issue_key, same_key, issue_waits, has_killed, is_in_flight, issue_continues, is_start, started, named}
use Rattle.xif_session.specs.Tests.{keeps_I2}
use Rattle.xif_session.proofs.Options.{key_is}
use Rattle.xif_uses.specs.declared.handshake.Phase.{Phase}
use Rattle.xif_uses.specs.declared.handshake.Phase.TheVariants.{Idle, Starts, Continues}
use Rattle.xif_uses.specs.Handshake.{phase_of}
use Rattle.xif_uses.specs.Table.{Table, IsKey, Represents, facts_in}
use Rattle.issue_channel.specs.Following.{open_issue}
use Rattle.issue_channel.specs.Steps.{issue_phase}

-- the phase by its two tests
abbrev pub phase_by : (valid goes_on : Bool) → Phase
phase_by valid goes_on = if valid then (if goes_on then Continues else Starts) else Idle

pub start_is : (p : Past) (b : Bus) → issue_phase p b ≡ Starts → is_start p b ≡ true
start_is p b h = go b.issue_valid (issue_continues p b) h
  where
    go : (v c : Bool) → phase_by v c ≡ Starts → (v && not c) ≡ true
    go true true h = cc
    go true false h = refl
    go false c h = cc

pub no_start : (p : Past) (b : Bus) → issue_phase p b ≢ Starts → is_start p b ≡ false
no_start p b h = go b.issue_valid (issue_continues p b) h
  where
    go : (v c : Bool) → phase_by v c ≢ Starts → (v && not c) ≡ false
    go true true h = refl
    go true false h = absurd (h refl)
    go false c h = refl

-- the facts with the start of a cycle, where there is one and where there is none
abbrev started_if : Past → Bus → Bool → Facts
started_if p b t = started (λ key. t && same_key (issue_key b) key) p.cycle b.issue_instr p.facts

pub with_start : (table : Table) (params : Params) (p : Past) (b : Bus) (key : Key) (cycle : ℕ) → Starts ≡ issue_phase p b → key ≡ issue_key b → p.cycle ≡ cycle
    → Represents table params (started (same_key key) cycle b.issue_instr p.facts) → Represents table params (named p b)
with_start table params p b key cycle s k n r =
    subst (Represents table params)
    (ap (λ key. started (same_key key) cycle b.issue_instr p.facts) k ∙ ap (λ n. started (same_key (issue_key b)) n b.issue_instr p.facts) (sym n) ∙ ap (started_if p b) (sym (start_is p b (sym s))))
    r

pub without_start : (table : Table) (params : Params) (p : Past) (b : Bus) → issue_phase p b ≢ Starts → Represents table params p.facts → Represents table params (named p b)
without_start table params p b s r = subst (Represents table params) (ap (started_if p b) (sym (no_start p b s))) r

-- the transaction that may continue does so
pub phase_is : (p : Past) (b : Bus) → phase_of (open_issue p.facts p.last) b.issue_valid (issue_key b) ≡ issue_phase p b
phase_is p b =
    ap (phase_by b.issue_valid) (found (has_killed (p.facts (issue_key p.last))) (issue_waits p.last))
    ∙ go (issue_waits p.last) b.issue_valid (same_key (issue_key p.last) (issue_key b)) (has_killed (p.facts (issue_key p.last))) (has_killed (p.facts (issue_key b))) (λ e. ap (λ k. has_killed (p.facts k)) (key_is (issue_key p.last) (issue_key b) e))
  where
    found : (x w : Bool) → option_map_or (λ last. same_key last (issue_key b)) (if x then None else (if w then Some (issue_key p.last) else None)) false
        ≡ (if x then false else (w && same_key (issue_key p.last) (issue_key b)))
    found true w = refl
    found false true = refl
    found false false = refl

    go : (w v s x y : Bool) → (s ≡ true → x ≡ y) → phase_by v (if x then false else (w && s)) ≡ phase_by v (w && (v && (s && not y)))
    go w false s x y h = refl
    go true true true true y h = ap (λ y. phase_by true (not y)) (h refl)
    go true true true false y h = ap (λ y. phase_by true (not y)) (h refl)
    go true true false true y h = refl
    go true true false false y h = refl
    go false true s true y h = refl
    go false true s false y h = refl

-- I2 asks the table
pub asks_I2 : (table : Table) (params : Params) (p : Past) (b : Bus) (key : Key) (flies : Bool) → Starts ≡ issue_phase p b → Represents table params p.facts → IsKey table.params (issue_key b)
    → key ≡ issue_key b → flies ≡ is_in_flight table.params.profile (facts_in table key) → not flies ≡ keeps_I2 params p b
asks_I2 table params p b key flies s r k q e =
    ap not (e ∙ ap (λ key. is_in_flight table.params.profile (facts_in table key)) q ∙ ap (λ (q : Params). is_in_flight q.profile (facts_in table (issue_key b))) r.same ∙ ap (is_in_flight params.profile) (r.uses (issue_key b) (subst (λ q. IsKey q (issue_key b)) r.same k)))
    ∙ sym (ap (λ t. when t (not (is_in_flight params.profile (p.facts (issue_key b))))) (start_is p b (sym s)))
