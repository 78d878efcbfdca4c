-- Before the first cycle, and between two cycles.
use Rattle.std.proofs.Common.{◌≡◌, ℕ, List, [], ◌∷◌, refl, sym, ap, ◌∙◌}
use Rattle.inorder_machine.specs.declared.line.Retire.{Retire}
use Rattle.inorder_machine.specs.Machine.{State}
use Rattle.cycle_spec.specs.Cycle.{Machines, cycle}
use Rattle.cycle_spec.specs.Run.{Setup, new_machines}
use Rattle.cycle_paired.specs.Reached.{begins_drain, resumes}
use Rattle.ahead_spec.specs.Walk.{Item, entries, path_end}
use Rattle.ahead_spec.specs.World.{World, begun}
use Rattle.ahead_laws.proofs.Retiring.{runs-begun}
use Rattle.cycle_events.specs.Shown.{Shown, state_in, extension_of}

pub start-shown : (hart : ℕ) (s : Setup) → Shown (state_in hart (new_machines s)) hart [] (new_machines s) (begun (state_in hart (new_machines s)))
start-shown hart s = record {
  at = s.entry;
  shows = record {
    runs = runs-begun (extension_of (new_machines s).engine) (state_in hart (new_machines s)) refl;
    left_is = refl;
    entries_are = refl;
    leads = refl;
    tied = tt;
  };
  held = tt;
  leads = λ r. refl;
  calm = λ d. cc;
}

pub drain-shown : (start : State) (hart : ℕ) (retired : List Retire) (m : Machines) (w : World) → Shown start hart retired m w → Shown start hart retired (begins_drain m) w
drain-shown start hart retired m w s = record { at = s.at; shows = s.shows; held = s.held; leads = λ r. cc; calm = λ d. cc }

no-items : (ys : List Item) → entries ys ≡ [] → ys ≡ []
no-items [] h = refl
no-items (y ∷ ys) h = cc

pub resumed-shown : (start : State) (hart : ℕ) (retired : List Retire) (m : Machines) (w : World) → m.core.flight ≡ [] → Shown start hart retired m w → Shown start hart retired (resumes m) w
resumed-shown start hart retired m w e s =
    let none = no-items w.flight (s.shows.entries_are ∙ e) in
    record {
      at = s.at;
      shows = s.shows;
      held = s.held;
      leads = λ r. sym s.shows.leads ∙ ap (path_end w.pc) none ∙ ap (λ l. l.pc) s.shows.left_is;
      calm = λ d. cc;
    }

-- parameters and units stay
pub cycle-params : (hart : ℕ) (answer : ℕ → ℕ → ℕ) (m : Machines) → (cycle m hart answer).core.params ≡ m.core.params
unfolding cycle
cycle-params hart answer m = refl

pub cycle-extension : (hart : ℕ) (answer : ℕ → ℕ → ℕ) (m : Machines) → extension_of (cycle m hart answer).engine ≡ extension_of m.engine
unfolding cycle
cycle-extension hart answer m = refl
