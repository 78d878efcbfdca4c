-- What is chosen in a cycle is of entries in flight: what holds of all of these holds of them.
use Rattle.std.proofs.Common.{◌≡◌, ◌<◌, ◌&&◌, ℕ, Bool, true, false, if◌then◌else◌, not, List, [], ◌∷◌, take, drop, length, filter, Option, Some, None, IfSome, nat_lt, refl, arith}
use Rattle.std.specs.Prelude.{find, is_none}
use Rattle.std.specs.Option.{option_or, option_and_then, option_map}
use Rattle.std.specs.List.{list_any}
use Rattle.std.proofs.lemmas.Bool.Decides.{nat_tests}
use Rattle.inorder_machine.specs.declared.stop.StopCause.{StopCause}
use Rattle.cycle_spec.specs.declared.choices.Choices.{Choices}
use Rattle.cycle_spec.specs.declared.choices.Executed.{Executed}
use Rattle.cycle_spec.specs.declared.choices.Mode.{Mode}
use Rattle.cycle_spec.specs.declared.choices.Mode.TheVariants.{Running, DrainBegins, Draining}
use Rattle.cycle_spec.specs.declared.choices.Presented.{Presented}
use Rattle.cycle_spec.specs.declared.entry.Entry.{Entry}
use Rattle.cycle_spec.specs.declared.log.Cut.{Cut}
use Rattle.cycle_spec.specs.Flight.{is_open, is_pending, is_waiting, is_stopping, is_undecided, has_seq, is_safe, behind_safe, certain, youngest_released}
use Rattle.cycle_spec.specs.State.{Core}
use Rattle.cycle_spec.specs.Choices as choose
use Rattle.cycle_lists.specs.Lists.{Each}
use Rattle.cycle_lists.proofs.Every.{Each-filter, Each-take, Each-drop}
use Rattle.width_laws.proofs.Rows.{IsOutcome}
use Rattle.width_laws.proofs.Operands.{FitsCore, FitsEntry, last-is, execution-words}

-- what is said of the choices of a cycle
pub record AreChosen (w : Core) (P : Entry → Type 0) (ch : Choices) : Type 0 where
  pub offer : IfSome ch.offer P
  pub commit : IfSome (option_or ch.kill ch.release) P
  pub retire : IfSome ch.retire P
  pub present : IfSome ch.present (λ x. P x.entry × (x ≡ choose.presentation_of w x.entry))
  pub execute : IfSome ch.execute (λ x. IsOutcome x.outcome)
  pub dispatch : ch.dispatch ≡ true → length w.flight < w.window

-- ---- of lists

pub find-is : {A : Type 0} (P : A → Type 0) (test : A → Bool) (xs : List A) → Each P xs → IfSome (find test xs) P
find-is P test [] a = tt
find-is P test (x ∷ xs) a = go (test x) (find-is P test xs a.1)
  where
    go : (t : Bool) → IfSome (find test xs) P → IfSome (if t then Some x else find test xs) P
    go true h = a.0
    go false h = h

safe-are : (P : Entry → Type 0) (es : List Entry) → Each P es → Each P (behind_safe es)
safe-are P [] a = tt
safe-are P (e ∷ es) a = (a.0, go (is_safe e) (safe-are P es a.1))
  where
    go : (t : Bool) → Each P (behind_safe es) → Each P (if t then behind_safe es else [])
    go true h = h
    go false h = tt

certain-is : (P : Entry → Type 0) (es : List Entry) → Each P es → IfSome (certain es) P
certain-is P es a = last-is P None (filter is_undecided (behind_safe es)) tt (Each-filter P is_undecided (behind_safe es) (safe-are P es a))

or-is : (P : Entry → Type 0) (a b : Option Entry) → IfSome a P → IfSome b P → IfSome (option_or a b) P
or-is P None b h k = k
or-is P (Some e) b h k = h

retirement-is : (P : Entry → Type 0) (es : List Entry) → Each P es → IfSome (choose.retirement es) P
retirement-is P [] a = tt
retirement-is P (e ∷ es) a = go e.done
  where
    go : (t : Bool) → IfSome (if t then Some e else None) P
    go true = a.0
    go false = tt

gone-are : (P : Entry → Type 0) (cut : Option Cut) (es : List Entry) → Each P es → Each P (choose.gone_by cut es)
gone-are P None es a = tt
gone-are P (Some cut) es a = Each-drop P cut.keep es a

kill-is : (P : Entry → Type 0) (gone : List Entry) (offer : Option Entry) → Each P gone → IfSome (choose.kill_among gone offer) P
kill-is P gone offer a = or-is P (find is_pending gone) _ (find-is P is_pending gone a) (go offer)
  where
    go : (offer : Option Entry) → IfSome (option_and_then (choose.among gone) offer) P
    go None = tt
    go (Some e) = find-is P (has_seq e.seq) gone a

release-is : (P : Entry → Type 0) (cut : Option Cut) (es : List Entry) → Each P es → IfSome (choose.release_in cut es) P
release-is P None es a = certain-is P es a
release-is P (Some cut) es a = tt

present-is : (P : Entry → Type 0) (w : Core) (offer : Option Entry) (es : List Entry) → IfSome offer P → Each P es → IfSome (choose.present_in w offer es) (λ x. P x.entry × (x ≡ choose.presentation_of w x.entry))
present-is P w offer es h a = shown (choose.presented_entry w.params.split offer es) (chosen w.params.split)
  where
    chosen : (split : Bool) → IfSome (choose.presented_entry split offer es) P
    chosen true = find-is P is_waiting es a
    chosen false = h

    shown : (o : Option Entry) → IfSome o P → IfSome (option_map (choose.presentation_of w) o) (λ (x : Presented). P x.entry × (x ≡ choose.presentation_of w x.entry))
    shown None k = tt
    shown (Some e) k = (k, refl)

room : (w : Core) (cut : Option Cut) → choose.may_dispatch w cut ≡ true → length w.flight < w.window
room w cut h = go (nat_lt (length w.flight) w.window) refl h
  where
    go : (t : Bool) → nat_lt (length w.flight) w.window ≡ t → (t && (not (list_any is_stopping w.flight) && is_none cut)) ≡ true → length w.flight < w.window
    go true e k = grind (arith, nat_tests)
    go false e k = cc

-- ---- in each mode

abbrev Fits : Core → Entry → Type 0
Fits w = FitsEntry w.params.id_width

unless-hit : (w : Core) (t : Bool) → FitsCore w → IfSome (if t then None else choose.execution w w.flight) (λ x. IsOutcome x.outcome)
unless-hit w true f = tt
unless-hit w false f = execution-words w w.flight f f.entries

running-are : (w : Core) (retire : Option Entry) (execute : Option Executed) (cut : Option Cut) → FitsCore w → IfSome retire (Fits w) → IfSome execute (λ x. IsOutcome x.outcome)
    → AreChosen w (Fits w) (choose.choices_with w retire execute cut)
running-are w retire execute cut f r x =
    let P = Fits w in
    let offer : IfSome (choose.offer_in w.flight) P = find-is P is_open w.flight f.entries in
    record {
      offer = offer;
      commit =
          or-is P (choose.kill_among (choose.gone_by cut w.flight) (choose.offer_in w.flight)) (choose.release_in cut w.flight)
          (kill-is P (choose.gone_by cut w.flight) (choose.offer_in w.flight) (gone-are P cut w.flight f.entries))
          (release-is P cut w.flight f.entries);
      retire = r;
      present = present-is P w (choose.offer_in w.flight) w.flight offer f.entries;
      execute = x;
      dispatch = room w cut;
    }

stop-are : (w : Core) (stop : Option StopCause) → FitsCore w → AreChosen w (Fits w) (choose.choices_by w stop)
stop-are w None f = running-are w _ _ _ f (retirement-is (Fits w) w.flight f.entries) (unless-hit w _ f)
stop-are w (Some cause) f = record {
  offer = tt;
  commit = or-is (Fits w) (find is_pending w.flight) None (find-is (Fits w) is_pending w.flight f.entries) tt;
  retire = tt;
  present = tt;
  execute = tt;
  dispatch = λ h. cc;
}

draining-are : (w : Core) (stay : ℕ) → FitsCore w → AreChosen w (Fits w) (choose.choices_draining w stay)
draining-are w stay f =
    let es : Each (Fits w) (take stay w.flight) = Each-take (Fits w) stay w.flight f.entries in
    record {
      offer = tt;
      commit = tt;
      retire = retirement-is (Fits w) (take stay w.flight) es;
      present = present-is (Fits w) w None (take stay w.flight) tt es;
      execute = execution-words w (take stay w.flight) f es;
      dispatch = λ h. cc;
    }

mode-are : (w : Core) (mode : Mode) → FitsCore w → AreChosen w (Fits w) (choose.choices_in w mode)
mode-are w Running f = stop-are w (choose.stop_at w.flight) f
mode-are w DrainBegins f =
    let stay : ℕ = choose.stay_with (youngest_released w.flight) w.flight in
    let d : AreChosen w (Fits w) (choose.choices_draining w stay) = draining-are w stay f in
    record {
      offer = tt;
      commit = or-is (Fits w) (find is_pending (drop stay w.flight)) None (find-is (Fits w) is_pending (drop stay w.flight) (Each-drop (Fits w) stay w.flight f.entries)) tt;
      retire = d.retire;
      present = d.present;
      execute = d.execute;
      dispatch = λ h. cc;
    }
mode-are w Draining f = draining-are w (length w.flight) f

pub chosen : (w : Core) → FitsCore w → AreChosen w (Fits w) (choose.choices w)
chosen w f = mode-are w w.mode f
