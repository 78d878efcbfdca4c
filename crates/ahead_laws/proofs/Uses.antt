-- The accumulators along the instructions in flight.
use Rattle.std.proofs.Common.{◌≡◌, ◌&&◌, Bool, true, false, Option, Some, None, is_some, is_none, List, [], ◌∷◌, ◌++◌, refl, sym, ap, ◌∙◌, if◌then◌else◌}
use Rattle.std.specs.List.{AllByRecursion}
use Rattle.xif_image.specs.Region.{Region}
use Rattle.coproc_config.specs.declared.accept.Hit.{Hit}
use Rattle.inorder_machine.specs.declared.line.Retire.{Retire}
use Rattle.inorder_machine.specs.declared.line.Stepped.{Stepped}
use Rattle.inorder_machine.specs.declared.line.Stepped.TheVariants.{Retired, Stop}
use Rattle.inorder_machine.specs.Machine.{Extension, State, units_after, state_after}
use Rattle.cycle_spec.specs.declared.entry.EntryKind.{EntryKind}
use Rattle.cycle_spec.specs.declared.entry.EntryKind.TheVariants.{Local, Unknown, Nowhere}
use Rattle.ahead_spec.specs.Walk.{Item, outcome, stepped, along, Walked}
use Rattle.ahead_spec.specs.Operands.{word_hit, unit_step}
use Rattle.ahead_spec.specs.Invariant.{Agrees, is_use, is_waiting_use, units_at}
use Rattle.ahead_laws.proofs.Walks.{SamePlace, same_step}
use Rattle.ahead_laws.proofs.Outcomes.{outcome-nowhere, outcome-place, outcome-taken, units-taken, units-refused, units-local, entry-local, entry-unknown}

-- ---- one instruction in flight

hit-none : (o : Option Hit) → is_some o ≡ false → o ≡ None
hit-none None h = refl
hit-none (Some hit) h = absurd cc

word-units : (x : Extension) (memory : Region) (s : State) (y : Item) (l : Retire) (k : EntryKind) → Agrees x memory s y → y.entry.kind ≡ k → outcome x s y.entry.pc y.entry.kind y.entry.word ≡ Retired l → is_use x k y.entry.word ≡ false → units_after x s y.entry.word ≡ s.units
word-units x memory s y l (Local i) g e h n = units-local x s y.entry.word i (entry-local x memory s y i g e)
word-units x memory s y l Unknown g e h n = units-refused x s y.entry.word (entry-unknown x memory s y g e) (hit-none (word_hit x y.entry.word) n)
word-units x memory s y l Nowhere g e h n = absurd (no (sym (ap (λ q. outcome x s y.entry.pc q y.entry.word) e ∙ outcome-nowhere x s y.entry.pc y.entry.word) ∙ h))
  where
    no : {c : _} → Stop c ≡ Retired l → ⊥
    no k = cc

step-units_by : (x : Extension) (memory : Region) (s : State) (y : Item) (o : Stepped) → outcome x s y.entry.pc y.entry.kind y.entry.word ≡ o → Agrees x memory s y → is_use x y.entry.kind y.entry.word ≡ false → (state_after x s o).units ≡ s.units
step-units_by x memory s y (Stop c) e g n = refl
step-units_by x memory s y (Retired l) e g n =
    ap (units_after x s) (outcome-place x s y.entry.pc y.entry.kind y.entry.word l e).1 ∙ word-units x memory s y l y.entry.kind g refl e n

step-units : (x : Extension) (memory : Region) (s : State) (y : Item) → Agrees x memory s y → is_use x y.entry.kind y.entry.word ≡ false → (stepped x s y.entry.pc y.entry.kind y.entry.word).units ≡ s.units
unfolding stepped
step-units x memory s y g n = step-units_by x memory s y (outcome x s y.entry.pc y.entry.kind y.entry.word) refl g n

-- a use brings them forward
pub use-units : (x : Extension) (memory : Region) (s : State) (y : Item) (hit : Hit) → Agrees x memory s y → y.entry.kind ≡ Unknown → word_hit x y.entry.word ≡ Some hit → (stepped x s y.entry.pc y.entry.kind y.entry.word).units ≡ (unit_step x s y.entry.word).state
unfolding stepped
use-units x memory s y hit g k h =
    let d = entry-unknown x memory s y g k in
    ap (λ q. (state_after x s (outcome x s y.entry.pc q y.entry.word)).units) k
    ∙ ap (λ o. (state_after x s o).units) (outcome-taken x s y.entry.pc y.entry.word hit d h)
    ∙ units-taken x s y.entry.word hit d h

-- ---- all of them

abbrev pub IsIdle : Item → Type 0
IsIdle y = y.result ≡ None

idle-here : (x : Extension) (memory : Region) (y : Item) (ys : List Item) (s : State) (b : Bool) → is_use x y.entry.kind y.entry.word ≡ b → Agrees x memory s y
    → units_at x (stepped x s y.entry.pc y.entry.kind y.entry.word) ys ≡ (stepped x s y.entry.pc y.entry.kind y.entry.word).units
    → (if b && true then s.units else units_at x (stepped x s y.entry.pc y.entry.kind y.entry.word) ys) ≡ s.units
idle-here x memory y ys s true e g h = refl
idle-here x memory y ys s false e g h = h ∙ step-units x memory s y g e

pub units_at-idle : (x : Extension) (memory : Region) (ys : List Item) (s : State) → Walked x (Agrees x memory) s ys → AllByRecursion IsIdle ys → units_at x s ys ≡ s.units
units_at-idle x memory [] s g h = refl
units_at-idle x memory (y ∷ ys) s g h =
    let t = stepped x s y.entry.pc y.entry.kind y.entry.word in
    ap (λ o. if is_use x y.entry.kind y.entry.word && is_none o then s.units else units_at x t ys) h.0
    ∙ idle-here x memory y ys s (is_use x y.entry.kind y.entry.word) refl g.0 (units_at-idle x memory ys t g.1 h.1)

pub units_at-front : (x : Extension) (memory : Region) (ys zs : List Item) (s : State) → Walked x (Agrees x memory) s (ys ++ zs) → AllByRecursion IsIdle zs → units_at x s (ys ++ zs) ≡ units_at x s ys
units_at-front x memory [] zs s g h = units_at-idle x memory zs s g h
units_at-front x memory (y ∷ ys) zs s g h =
    ap (λ u. if is_waiting_use x y then s.units else u) (units_at-front x memory ys zs (stepped x s y.entry.pc y.entry.kind y.entry.word) g.1 h)

pub units_at-replaced : (x : Extension) (ys : List Item) (y z : Item) (zs : List Item) (s : State) → SamePlace y z → z.result ≡ y.result → units_at x s (ys ++ z ∷ zs) ≡ units_at x s (ys ++ y ∷ zs)
units_at-replaced x [] y z zs s p r =
    ap (λ t. if is_use x z.entry.kind z.entry.word && is_none z.result then s.units else units_at x t zs) (sym (same_step x s y z p))
    ∙ ap (λ k. if is_use x k z.entry.word && is_none z.result then s.units else units_at x (stepped x s y.entry.pc y.entry.kind y.entry.word) zs) p.kind
    ∙ ap (λ w. if is_use x y.entry.kind w && is_none z.result then s.units else units_at x (stepped x s y.entry.pc y.entry.kind y.entry.word) zs) p.word
    ∙ ap (λ o. if is_use x y.entry.kind y.entry.word && is_none o then s.units else units_at x (stepped x s y.entry.pc y.entry.kind y.entry.word) zs) r
units_at-replaced x (o ∷ ys) y z zs s p r =
    ap (λ u. if is_waiting_use x o then s.units else u) (units_at-replaced x ys y z zs (stepped x s o.entry.pc o.entry.kind o.entry.word) p r)

pub units_at-passed : (x : Extension) (ys zs : List Item) (s : State) → AllByRecursion (λ y. is_waiting_use x y ≡ false) ys → units_at x s (ys ++ zs) ≡ units_at x (along x s ys) zs
units_at-passed x [] zs s h = refl
units_at-passed x (y ∷ ys) zs s h =
    let t = stepped x s y.entry.pc y.entry.kind y.entry.word in
    ap (λ b. if b then s.units else units_at x t (ys ++ zs)) h.0 ∙ units_at-passed x ys zs t h.1
