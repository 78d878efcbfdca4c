-- The open issue transaction behind a commit: it stays open where its use isn't killed.
use Rattle.std.proofs.Common.{◌≡◌, ◌≢◌, ◌≤◌, ◌==◌, ◌&&◌, not, ℕ, Bool, true, false, if◌then◌else◌, Option, Some, None, refl, sym, ap, ◌∙◌, subst}
use Rattle.std.specs.Prelude.{IfSome, IsSomeAnd}
use Rattle.std.specs.Option.{option_map}
use Rattle.xif_base.specs.declared.params.Key.{Key}
use Rattle.xif_base.specs.declared.params.Params.{Params}
use Rattle.xif_signals.specs.declared.bus.Bus.{Bus}
use Rattle.xif_session.specs.Facts.{Facts, issue_key, has_killed, is_killed, is_covered, is_undecided, verdict_of}
use Rattle.xif_uses.specs.declared.entry.Use.{Use}
use Rattle.xif_uses.specs.declared.table.Decided.{Decided}
use Rattle.xif_uses.specs.declared.table.Decided.TheVariants.{Taken, Repeat, WasKilled, WasReleased, NoUse, OutOfOrder}
use Rattle.xif_uses.specs.Table.{Table, IsKey, Represents, NoneLater, Decides, DecidesFrom, decided_use, use_of, fact_of, facts_in}
use Rattle.issue_channel.specs.Following.{IsOpen, waiting_issue, open_issue}
use Rattle.commit_channel.specs.Committed.{still_open}

-- ---- one use

abbrev decided_if : (test : Bool) (kill : Bool) → Use → Use
decided_if test kill entry = if test then record entry { decision = verdict_of kill; ongoing = entry.ongoing && not kill } else entry

same_start : (named : ℕ) (kill : Bool) (entry : Use) → (decided_use named kill entry).start ≡ entry.start
same_start named kill entry = go (is_covered kill named entry.start && is_undecided entry.decision)
  where
    go : (t : Bool) → (decided_if t kill entry).start ≡ entry.start
    go true = refl
    go false = refl

still_ongoing : (named : ℕ) (kill : Bool) (entry : Use) → entry.ongoing ≡ true → is_killed (decided_use named kill entry).decision ≡ false → (decided_use named kill entry).ongoing ≡ true
still_ongoing named kill entry o k = go (is_covered kill named entry.start && is_undecided entry.decision) kill k
  where
    go : (t kill : Bool) → is_killed (decided_if t kill entry).decision ≡ false → (decided_if t kill entry).ongoing ≡ true
    go true true k = cc
    go true false k = rw o refl
    go false kill k = o

-- ---- the latest use of a key

abbrev after : (test : Bool) (named : ℕ) (kill : Bool) → Option Use → Option Use
after test named kill found = if test then option_map (decided_use named kill) found else found

starts_kept : (P : ℕ → Type 0) (test : Bool) (named : ℕ) (kill : Bool) (found : Option Use) → IfSome found (λ entry. P entry.start) → IfSome (after test named kill found) (λ entry. P entry.start)
starts_kept P true named kill None h = tt
starts_kept P true named kill (Some entry) h = subst P (sym (same_start named kill entry)) h
starts_kept P false named kill found h = h

ongoing_kept : (test : Bool) (named : ℕ) (kill : Bool) (found : Option Use) → IsSomeAnd found (λ entry. entry.ongoing ≡ true) → has_killed (option_map fact_of (after test named kill found)) ≡ false → IsSomeAnd (after test named kill found) (λ entry. entry.ongoing ≡ true)
ongoing_kept true named kill None h k = absurd h
ongoing_kept true named kill (Some entry) h k = still_ongoing named kill entry h k
ongoing_kept false named kill found h k = h

module _ (old new : Table) (hart named : ℕ) (kill : Bool) (d : Decides old new hart named kill) where
  none_later : (start : ℕ) → NoneLater old start → NoneLater new start
  none_later start h key k =
      let inside : IsKey old.params key = subst (λ p. IsKey p key) d.params k in
      subst (λ found. IfSome found (λ entry. entry.start ≤ start)) (sym (d.uses key inside)) (starts_kept (λ n. n ≤ start) (hart == key.hart) named kill (use_of old key) (h key inside))

  pub stays_open : (key : Key) → IsOpen old key → has_killed (facts_in new key) ≡ false → IsOpen new key
  stays_open key o k =
      let e : use_of new key ≡ after (hart == key.hart) named kill (use_of old key) = d.uses key o.inside in
      record {
        inside = subst (λ p. IsKey p key) (sym d.params) o.inside;
        ongoing = subst (λ found. IsSomeAnd found (λ entry. entry.ongoing ≡ true)) (sym e)
            (ongoing_kept (hart == key.hart) named kill (use_of old key) o.ongoing (subst (λ found. has_killed (option_map fact_of found) ≡ false) e k));
        newest = subst (λ found. IfSome found (λ entry. NoneLater new entry.start)) (sym e)
            (starts_kept (NoneLater new) (hart == key.hart) named kill (use_of old key) (go (use_of old key) o.newest));
      }
    where
      go : (found : Option Use) → IfSome found (λ entry. NoneLater old entry.start) → IfSome found (λ entry. NoneLater new entry.start)
      go None h = tt
      go (Some entry) h = none_later entry.start h

changes_open : (old new : Table) (named : Key) (kill : Bool) (found : Option Use) → DecidesFrom old new named kill found → (key : Key) → IsOpen old key → has_killed (facts_in new key) ≡ false → IsOpen new key
changes_open old new named kill None d key o k = subst (λ t. IsOpen t key) (sym d) o
changes_open old new named kill (Some entry) d key o k = stays_open old new named.hart entry.start kill d key o k

-- behind the answer of the table
pub behind : (old new : Table) (named : Key) (kill : Bool) (answer : Decided) → (answer ≡ Taken → DecidesFrom old new named kill (use_of old named)) → (answer ≢ Taken → new ≡ old)
    → (key : Key) → IsOpen old key → has_killed (facts_in new key) ≡ false → IsOpen new key
behind old new named kill Taken taken kept key o k = changes_open old new named kill (use_of old named) (taken refl) key o k
behind old new named kill Repeat taken kept key o k = subst (λ t. IsOpen t key) (sym (kept (λ e. cc))) o
behind old new named kill WasKilled taken kept key o k = subst (λ t. IsOpen t key) (sym (kept (λ e. cc))) o
behind old new named kill WasReleased taken kept key o k = subst (λ t. IsOpen t key) (sym (kept (λ e. cc))) o
behind old new named kill NoUse taken kept key o k = subst (λ t. IsOpen t key) (sym (kept (λ e. cc))) o
behind old new named kill OutOfOrder taken kept key o k = subst (λ t. IsOpen t key) (sym (kept (λ e. cc))) o

-- ---- the transaction that waits

pub open_behind : (old new : Table) (params : Params) (facts : Facts) (b : Bus) (waiting : Option Key) → Represents new params facts → new.params ≡ old.params → IfSome waiting (IsOpen old) → waiting ≡ waiting_issue b
    → still_open new waiting ≡ open_issue facts b
open_behind old new params facts b waiting r same o e = ap (still_open new) e ∙ go (b.issue_valid && not b.issue_ready) (subst (λ w. IfSome w (IsOpen old)) e o)
  where
    either : (t : Bool) (found : Option Key) → found ≡ (if t then found else found)
    either true found = refl
    either false found = refl

    go : (t : Bool) → IfSome (if t then Some (issue_key b) else None) (IsOpen old) → still_open new (if t then Some (issue_key b) else None) ≡ (if has_killed (facts (issue_key b)) then None else (if t then Some (issue_key b) else None))
    go false k = either (has_killed (facts (issue_key b))) None
    go true k = ap (λ found. if has_killed found then None else Some (issue_key b)) (r.uses (issue_key b) (subst (λ q. IsKey q (issue_key b)) (sym same ∙ r.same) k.inside))
