-- The latest use of a key, where a use starts.
use Rattle.std.proofs.Common.{if◌then◌else◌, ◌≡◌, ◌++◌, ℕ, Bool, true, false, not, Option, Some, None, List, [], ◌∷◌, filter, refl, ap, ◌∙◌, arith}
use Rattle.std.specs.List.{last_or}
use Rattle.std.proofs.lemmas.Bool.Decides.{nat_tests}
use Rattle.std.proofs.lemmas.List.Elements.{filter-append}
use Rattle.xif_base.specs.declared.params.Key.{Key}
use Rattle.xif_session.specs.Facts.{same_key}
use Rattle.xif_signals.specs.declared.bus.CpuOut.{CpuOut}
use Rattle.cycle_spec.specs.declared.use_of.Use.{Use}
use Rattle.cycle_spec.specs.Engine.{has_key, latest, with_start, start_step, new_use, issue_key}

last-push : (d : Option Use) (us : List Use) (u : Use) → last_or d (us ++ u ∷ []) ≡ Some u
last-push d [] u = refl
last-push d (x ∷ us) u = last-push (Some x) us u

filter-last : (p : Use → Bool) (us : List Use) (u : Use) → p u ≡ true → filter p (us ++ u ∷ []) ≡ filter p us ++ u ∷ []
filter-last p us u e = filter-append p us (u ∷ []) ∙ ap (λ t. filter p us ++ (if t then u ∷ [] else [])) e

filter-pass : (p : Use → Bool) (us : List Use) (u : Use) → p u ≡ false → filter p (us ++ u ∷ []) ≡ filter p us
filter-pass p [] u e = ap (λ t. if t then u ∷ [] else []) e
filter-pass p (x ∷ us) u e = ap (λ rest. if p x then x ∷ rest else rest) (filter-pass p us u e)

filter-others : (p q : Use → Bool) (us : List Use) → ((x : Use) → p x ≡ true → q x ≡ true) → filter p (filter q us) ≡ filter p us
filter-others p q [] h = refl
filter-others p q (x ∷ us) h = go (p x) (q x) refl refl (filter-others p q us h)
  where
    go : (s t : Bool) → p x ≡ s → q x ≡ t → filter p (filter q us) ≡ filter p us → filter p (if t then x ∷ filter q us else filter q us) ≡ (if s then x ∷ filter p us else filter p us)
    go true true e f r = ap (λ t. if t then x ∷ filter p (filter q us) else filter p (filter q us)) e ∙ ap (λ rest. x ∷ rest) r
    go true false e f r = absurd (cc (h x e))
    go false true e f r = ap (λ t. if t then x ∷ filter p (filter q us) else filter p (filter q us)) e ∙ r
    go false false e f r = r

-- of its own key it is the latest use
latest-own : (key : Key) (u : Use) (us : List Use) → same_key u.key key ≡ true → latest key (with_start u us) ≡ Some u
latest-own key u us own =
    ap (λ xs. last_or None xs) (filter-last (has_key key) (filter (λ other. not (has_key u.key other)) us) u own)
    ∙ last-push None (filter (has_key key) (filter (λ other. not (has_key u.key other)) us)) u

-- of another key nothing changes
latest-other : (key : Key) (u : Use) (us : List Use) → same_key u.key key ≡ false → latest key (with_start u us) ≡ latest key us
latest-other key u us e =
    ap (λ xs. last_or None xs) (filter-pass (has_key key) (filter (λ other. not (has_key u.key other)) us) u e
    ∙ filter-others (has_key key) (λ other. not (has_key u.key other)) us differ)
  where
    differ : (x : Use) → has_key key x ≡ true → not (has_key u.key x) ≡ true
    differ x h = grind (arith, nat_tests)

pub started-own : (t : Bool) (key : Key) (cpu : CpuOut) (cycle : ℕ) (us : List Use) → t ≡ true → same_key (issue_key cpu) key ≡ true → latest key (start_step t cpu cycle us) ≡ Some (new_use (issue_key cpu) cycle cpu.issue_instr)
started-own true key cpu cycle us e own = latest-own key (new_use (issue_key cpu) cycle cpu.issue_instr) us own
started-own false key cpu cycle us e own = absurd (cc)

pub started-other : (t : Bool) (key : Key) (cpu : CpuOut) (cycle : ℕ) (us : List Use) → same_key (issue_key cpu) key ≡ false → latest key (start_step t cpu cycle us) ≡ latest key us
started-other true key cpu cycle us e = latest-other key (new_use (issue_key cpu) cycle cpu.issue_instr) us e
started-other false key cpu cycle us e = refl

pub not-started : (t : Bool) (key : Key) (cpu : CpuOut) (cycle : ℕ) (us : List Use) → t ≡ false → latest key (start_step t cpu cycle us) ≡ latest key us
not-started true key cpu cycle us e = absurd (cc)
not-started false key cpu cycle us e = refl
