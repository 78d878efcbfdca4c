-- The words that the interface names are entries: each id that holds of all of these holds of them.
use Rattle.std.proofs.Common.{ℕ, Bool, true, false, Option, Some, None, IfSome, List, [], ◌∷◌, All, take, drop, length, if◌then◌else◌, cond}
use Rattle.std.specs.Prelude.{find, filter}
use Rattle.std.specs.Option.{option_or, option_and_then, option_map}
use Rattle.std.specs.List.{last_or}
use Rattle.std.proofs.lemmas.List.Elements.{All-filter, All-drop, All-take, All-head, All-tail, All-cons, All-nil}
use Rattle.inorder_machine.specs.declared.stop.StopCause.{StopCause}
use Rattle.cycle_spec.specs.declared.choices.Executed.{Executed}
use Rattle.cycle_spec.specs.declared.choices.Mode.{Mode}
use Rattle.cycle_spec.specs.declared.choices.Mode.TheVariants.{Running, DrainBegins, Draining}
use Rattle.cycle_spec.specs.declared.choices.Presented.{Presented}
use Rattle.cycle_spec.specs.declared.entry.Entry.{Entry}
use Rattle.cycle_spec.specs.declared.log.Cut.{Cut}
use Rattle.cycle_spec.specs.State.{Core}
use Rattle.cycle_spec.specs.Flight as flight
use Rattle.cycle_spec.specs.Choices as choose
use Rattle.spec_core.specs.Drives.{AreNamed}

-- ---- of lists

find-is : (P : Entry → Type 0) (test : Entry → Bool) (es : List Entry) → All P es → IfSome (find test es) P
find-is P test [] a = tt
find-is P test (e ∷ es) a = go (test e) (find-is P test es (All-tail P e es a))
  where
    go : (t : Bool) → IfSome (find test es) P → IfSome (cond t (Some e) (find test es)) P
    go true h = All-head P e es a
    go false h = h

last-is : (P : Entry → Type 0) (o : Option Entry) (es : List Entry) → IfSome o P → All P es → IfSome (last_or o es) P
last-is P o [] h a = h
last-is P o (e ∷ es) h a = last-is P (Some e) es (All-head P e es a) (All-tail P e es a)

safe-are : (P : Entry → Type 0) (es : List Entry) → All P es → All P (flight.behind_safe es)
safe-are P [] a = a
safe-are P (e ∷ es) a = All-cons P e _ (All-head P e es a) (go (flight.is_safe e) (safe-are P es (All-tail P e es a)))
  where
    go : (t : Bool) → All P (flight.behind_safe es) → All P (if t then flight.behind_safe es else [])
    go true h = h
    go false h = All-nil P

certain-is : (P : Entry → Type 0) (es : List Entry) → All P es → IfSome (flight.certain es) P
certain-is P es a =
    last-is P None (filter flight.is_undecided (flight.behind_safe es)) tt
    (All-filter flight.is_undecided P (flight.behind_safe es) (safe-are P es a))

or-is : (P : Entry → Type 0) (a b : Option Entry) → IfSome a P → IfSome b P → IfSome (option_or a b) P
or-is P None b h k = k
or-is P (Some e) b h k = h

-- ---- of choices

gone-are : (P : Entry → Type 0) (cut : Option Cut) (es : List Entry) → All P es → All P (choose.gone_by cut es)
gone-are P None es a = All-nil P
gone-are P (Some cut) es a = All-drop P cut.keep es a

kill-is : (P : Entry → Type 0) (gone : List Entry) (offer : Option Entry) → All P gone → IfSome (choose.kill_among gone offer) P
kill-is P gone offer a = or-is P (find flight.is_pending gone) _ (find-is P flight.is_pending gone a) (go offer)
  where
    go : (offer : Option Entry) → IfSome (option_and_then (choose.among gone) offer) P
    go None = tt
    go (Some e) = find-is P (flight.has_seq e.seq) gone a

release-is : (P : Entry → Type 0) (cut : Option Cut) (es : List Entry) → All P es → IfSome (choose.release_in cut es) P
release-is P None es a = certain-is P es a
release-is P (Some cut) es a = tt

present-is : (P : Entry → Type 0) (w : Core) (offer : Option Entry) (es : List Entry) → IfSome offer P → All P es → IfSome (choose.present_in w offer es) (λ x. P x.entry)
present-is P w offer es h a = shown (choose.presented_entry w.params.split offer es) (chosen w.params.split)
  where
    chosen : (split : Bool) → IfSome (choose.presented_entry split offer es) P
    chosen true = find-is P flight.is_waiting es a
    chosen false = h

    shown : (o : Option Entry) → IfSome o P → IfSome (option_map (choose.presentation_of w) o) (λ (x : Presented). P x.entry)
    shown None k = tt
    shown (Some e) k = k

running-are : (P : Entry → Type 0) (w : Core) (retire : Option Entry) (execute : Option Executed) (cut : Option Cut) → All P w.flight → AreNamed P (choose.choices_with w retire execute cut)
running-are P w retire execute cut a =
    let offer : IfSome (choose.offer_in w.flight) P = find-is P flight.is_open w.flight a in
    record {
      offer = offer;
      present = present-is P w (choose.offer_in w.flight) w.flight offer a;
      commit =
          or-is P (choose.kill_among (choose.gone_by cut w.flight) (choose.offer_in w.flight)) (choose.release_in cut w.flight)
          (kill-is P (choose.gone_by cut w.flight) (choose.offer_in w.flight) (gone-are P cut w.flight a))
          (release-is P cut w.flight a);
    }

stop-are : (P : Entry → Type 0) (w : Core) (stop : Option StopCause) → All P w.flight → AreNamed P (choose.choices_by w stop)
stop-are P w None a = running-are P w _ _ _ a
stop-are P w (Some cause) a = record {
  offer = tt;
  present = tt;
  commit = or-is P (find flight.is_pending w.flight) None (find-is P flight.is_pending w.flight a) tt;
}

mode-are : (P : Entry → Type 0) (w : Core) (mode : Mode) → All P w.flight → AreNamed P (choose.choices_in w mode)
mode-are P w Running a = stop-are P w (choose.stop_at w.flight) a
mode-are P w DrainBegins a =
    let stay : ℕ = choose.stay_with (flight.youngest_released w.flight) w.flight in
    record {
      offer = tt;
      present = present-is P w None (take stay w.flight) tt (All-take P stay w.flight a);
      commit = or-is P (find flight.is_pending (drop stay w.flight)) None (find-is P flight.is_pending (drop stay w.flight) (All-drop P stay w.flight a)) tt;
    }
mode-are P w Draining a = record {
  offer = tt;
  present = present-is P w None (take (length w.flight) w.flight) tt (All-take P (length w.flight) w.flight a);
  commit = tt;
}

pub named : (P : Entry → Type 0) (w : Core) → All P w.flight → AreNamed P (choose.choices w)
named P w a = mode-are P w w.mode a
