-- Whether what is younger than an instruction may be released.
use Rattle.std.proofs.Common.{◌≡◌, ◌⊎◌, ◌&&◌, Bool, true, false, not, Option, Some, None, is_some, IsSome, refl, sym, ap, ◌∙◌, inl, inr}
use Rattle.rv32_table.specs.declared.instr.Instr.{Instr}
use Rattle.rv32_table.specs.declared.instr.Kind.{Kind}
use Rattle.rv32_table.specs.declared.instr.Kind.TheVariants as row
use Rattle.rv32_table.specs.Instr.{kind_of}
use Rattle.inorder_machine.specs.declared.line.Retire.{Retire}
use Rattle.inorder_machine.specs.declared.stop.StopCause.{StopCause}
use Rattle.inorder_machine.specs.Execute.{cause_of}
use Rattle.xif_session.specs.Facts.{is_accepted}
use Rattle.cycle_spec.specs.declared.entry.Entry.{Entry}
use Rattle.cycle_spec.specs.declared.entry.EntryKind.{EntryKind}
use Rattle.cycle_spec.specs.declared.entry.EntryKind.TheVariants.{Local, Unknown, Nowhere}
use Rattle.cycle_spec.specs.Flight.{is_open, is_stopping, is_safe_row, is_safe_kind, is_safe, stop_row, stop_by}
use Rattle.ahead_spec.specs.World.{executed_with}
use Rattle.ahead_laws.proofs.Lists.{and_left, and_right, and_false}
use Rattle.ahead_laws.proofs.Agreeing.{open-unknown, open-unanswered}

-- it depends on four fields
safe-kind : (k : EntryKind) (e f : Entry) → f.done ≡ e.done → f.response ≡ e.response → is_safe_kind k f ≡ is_safe_kind k e
safe-kind (Local i) e f d r = ap (is_safe_row (kind_of i)) d
safe-kind Unknown e f d r = ap is_accepted r
safe-kind Nowhere e f d r = refl

pub safe-same : (e f : Entry) → f.stop ≡ e.stop → f.kind ≡ e.kind → f.done ≡ e.done → f.response ≡ e.response → is_safe f ≡ is_safe e
safe-same e f s k d r =
    ap (λ o. not (is_some o) && is_safe_kind f.kind f) s
    ∙ ap (λ q. not (is_some e.stop) && is_safe_kind q f) k
    ∙ ap (λ b. not (is_some e.stop) && b) (safe-kind e.kind e f d r)

-- of a word it is whether it was accepted
safe-unknown_kind : (k : EntryKind) (e : Entry) → k ≡ Unknown → is_safe_kind k e ≡ is_accepted e.response
safe-unknown_kind k e u = ap (λ q. is_safe_kind q e) u

pub safe-word : (e f : Entry) → e.kind ≡ Unknown → f.stop ≡ e.stop → f.kind ≡ e.kind → f.response ≡ e.response → is_safe f ≡ is_safe e
safe-word e f u s k r =
    ap (λ o. not (is_some o) && is_safe_kind f.kind f) s
    ∙ ap (λ b. not (is_some e.stop) && b) (safe-unknown_kind f.kind f (k ∙ u) ∙ ap is_accepted r ∙ sym (safe-unknown_kind e.kind e u))

-- an open word isn't safe
pub open-unsafe : (e : Entry) → is_open e ≡ true → is_safe e ≡ false
open-unsafe e o =
    ap (λ b. not (is_some e.stop) && b) (safe-unknown_kind e.kind e (open-unknown e o) ∙ ap is_accepted (open-unanswered e o)) ∙ and_false (not (is_some e.stop))

-- what executes stays safe
done-row : (k : Kind) (done : Bool) → is_safe_row k done ≡ true → is_safe_row k true ≡ true
done-row row.Alu done h = refl
done-row row.Load done h = refl
done-row row.Store done h = h
done-row row.Control done h = refl
done-row row.Fence done h = refl
done-row row.Stop done h = refl

done-kind : (k : EntryKind) (e : Entry) (l : Retire) → is_safe_kind k e ≡ true → is_safe_kind k (executed_with l e) ≡ true
done-kind (Local i) e l h = done-row (kind_of i) e.done h
done-kind Unknown e l h = h
done-kind Nowhere e l h = h

both : (a b : Bool) → a ≡ true → b ≡ true → (a && b) ≡ true
both true b h k = k
both false b h k = h

pub safe-executed : (e : Entry) (l : Retire) → is_safe e ≡ true → is_safe (executed_with l e) ≡ true
safe-executed e l h =
    both (not (is_stopping e)) (is_safe_kind e.kind (executed_with l e)) (and_left (not (is_stopping e)) (is_safe_kind e.kind e) h)
    (done-kind e.kind e l (and_right (not (is_stopping e)) (is_safe_kind e.kind e) h))

-- what isn't executed, and safe all the same, never stops
plain-row : (k : Kind) (cause : StopCause) → is_safe_row k false ≡ true → (stop_row k cause ≡ None) → (k ≡ row.Alu) ⊎ (k ≡ row.Fence)
plain-row row.Alu cause h n = inl refl
plain-row row.Load cause h n = absurd cc
plain-row row.Store cause h n = absurd cc
plain-row row.Control cause h n = absurd cc
plain-row row.Fence cause h n = inr refl
plain-row row.Stop cause h n = absurd cc

none-by : (o : Option StopCause) (stop : Option StopCause) → is_some stop ≡ false → ((c : StopCause) → o ≡ Some c → IsSome stop) → o ≡ None
none-by None stop n f = refl
none-by (Some c) stop n f = absurd (no (sym n ∙ f c refl))
  where
    no : false ≡ true → ⊥
    no h = cc

pub safe-plain : (e : Entry) (i : Instr) → e.kind ≡ Local i → e.done ≡ false → is_stopping e ≡ false → ((c : StopCause) → stop_by e.kind ≡ Some c → IsSome e.stop) → is_safe e ≡ true → (kind_of i ≡ row.Alu) ⊎ (kind_of i ≡ row.Fence)
safe-plain e i k d n f h =
    let safe : is_safe_row (kind_of i) false ≡ true =
    ap (is_safe_row (kind_of i)) (sym d) ∙ sym (ap (λ q. is_safe_kind q e) k) ∙ and_right (not (is_stopping e)) (is_safe_kind e.kind e) h in
    plain-row (kind_of i) (cause_of i.row) safe (sym (ap stop_by k) ∙ none-by (stop_by e.kind) e.stop n f)
