-- The samples of the items of a text of buses.
use Rattle.std.proofs.Common.{◌≡◌, ◌+◌, ◌*◌, ◌^◌, ◌<◌, ◌≤◌, ◌==◌, ◌&&◌, ℕ, Bool, true, false, cond, List, [], ◌∷◌, ◌++◌, map, reverse, Option, Some, None, refl, sym, ap, ◌∙◌, subst, append_assoc, arith, lit<}
use Rattle.std.specs.Prelude.{nat_lt, max, filter_map}
use Rattle.std.specs.List.{AllByRecursion, cons_option}
use Rattle.std.proofs.lemmas.Bool.Decides.{nat_tests}
use Rattle.std.proofs.lemmas.Bool.{eqb-true}
use Rattle.std.proofs.lemmas.List.{append-nil, reverse-append}
use Rattle.std.proofs.lemmas.List.Elements.{filter_map-append}
use Rattle.xif_base.specs.declared.params.Params.{Params}
use Rattle.xif_signals.specs.declared.bus.Bus.{Bus}
use Rattle.xif_signals.specs.declared.sample.Quad.{Quad}
use Rattle.xif_signals.specs.declared.signal.Signal.{Signal}
use Rattle.xif_signals.specs.Signal.{width_of}
use Rattle.xif_signals.specs.Quad.{known_quad}
use Rattle.xif_signals.specs.Bus.{sample_of, FitsWidths}
use Rattle.vcd_text.specs.declared.digit.Digit.{Digit}
use Rattle.vcd_text.specs.declared.item.Item.{Item}
use Rattle.vcd_text.specs.declared.item.Item.TheVariants.{Time, Change}
use Rattle.vcd_text.specs.Written.{data_wires_of, value_in, is_same, bits, change_items, cycle_items, cycles_items}
use Rattle.vcd_text.specs.Writing.{Fits}
use Rattle.vcd_text.proofs.Fitting.{bus_fits}
use Rattle.xif_sampler.specs.declared.source.Source.{Source}
use Rattle.xif_sampler.specs.declared.source.Source.TheVariants.{Bits}
use Rattle.xif_sampler.specs.Digits.{quad_from}
use Rattle.xif_sampler.specs.Samples.{last_digits, quad_by, time_of, before, ended, instants, is_number, sample_at, samples_by}
use Rattle.xif_sampler.proofs.WrittenDigits.{quad_bits}

-- ---- a history that grows

-- items upon a history
abbrev pushed : List Item → List Item → List Item
pushed h [] = h
pushed h (i ∷ is) = pushed (i ∷ h) is

pushed-append : (h is js : List Item) → pushed h (is ++ js) ≡ pushed (pushed h is) js
pushed-append h [] js = refl
pushed-append h (i ∷ is) js = pushed-append (i ∷ h) is js

pushed_is : (h is : List Item) → pushed h is ≡ reverse is ++ h
pushed_is h [] = refl
pushed_is h (i ∷ is) =
    pushed_is (i ∷ h) is ∙ sym (append_assoc (reverse is) (i ∷ []) h) ∙ ap (λ x. x ++ h) (sym (reverse-append (i ∷ []) is))

pushed_one : (h is : List Item) (i : Item) (x : Bool) → pushed h (cond x [] (i ∷ []) ++ is) ≡ pushed (cond x h (i ∷ h)) is
pushed_one h is i true = refl
pushed_one h is i false = refl

-- ---- the last digits of a code

other : (c k : ℕ) (h : List Item) (ds : List Digit) (x : Bool) → (k == c) ≡ false → last_digits c (cond x h (Change k ds ∷ h)) ≡ last_digits c h
other c k h ds true e = refl
other c k h ds false e = ap (λ y. cond y ds (last_digits c h)) e

itself : (k : ℕ) → (k == k) ≡ true
itself k = grind (arith, nat_tests)

less : (m n : ℕ) → m < n → (m == n) ≡ false
less m n h = grind (arith, nat_tests)

more : (m n : ℕ) → m < n → (n == m) ≡ false
more m n h = grind (arith, nat_tests)

-- changes of greater codes leave it
below : (c : ℕ) (h : List Item) (a : Option (List Quad)) (b : List Quad) (k : ℕ) (ss : List Signal) → c < k → last_digits c (pushed h (change_items a b k ss)) ≡ last_digits c h
below c h a b k [] l = refl
below c h a b k (s ∷ ss) l =
    let ds = bits (value_in b s) in
    let x = is_same a b s in
    ap (last_digits c) (pushed_one h (change_items a b (k + 1) ss) (Change k ds) x)
    ∙ below c (cond x h (Change k ds ∷ h)) a b (k + 1) ss (omega arith)
    ∙ other c k h ds x (more c k l)

-- behind a history, each signal that keeps its value has that value
Same : Params → List Item → Option (List Quad) → List Quad → ℕ → List Signal → Type 0
Same p h a b k [] = Unit {0}
Same p h a b k (s ∷ ss) = (is_same a b s ≡ true → quad_from (last_digits k h) 0 (width_of s p) ≡ known_quad (value_in b s)) × Same p h a b (k + 1) ss

-- behind a history, each signal has its value
unfoldable pub Has : Params → List Item → List Quad → ℕ → List Signal → Type 0
Has p h b k [] = Unit {0}
Has p h b k (s ∷ ss) = (quad_from (last_digits k h) 0 (width_of s p) ≡ known_quad (value_in b s)) × Has p h b (k + 1) ss

-- what codes from one on have is all that counts
same_along : (p : Params) (h g : List Item) (a : Option (List Quad)) (b : List Quad) (k : ℕ) (ss : List Signal) → ((j : ℕ) → k ≤ j → last_digits j g ≡ last_digits j h) → Same p h a b k ss → Same p g a b k ss
unfolding Same
same_along p h g a b k [] e same = tt
same_along p h g a b k (s ∷ ss) e same = (
  λ t. ap (λ ds. quad_from ds 0 (width_of s p)) (e k (omega arith)) ∙ same.0 t,
  same_along p h g a b (k + 1) ss (λ j l. e j (omega arith)) same.1,
)

same_none : (p : Params) (h : List Item) (b : List Quad) (k : ℕ) (ss : List Signal) → Same p h None b k ss
unfolding Same
same_none p h b k [] = tt
same_none p h b k (s ∷ ss) = (λ t. absurd cc, same_none p h b (k + 1) ss)

same_next : (p : Params) (h g : List Item) (a b : List Quad) (k : ℕ) (ss : List Signal) → ((j : ℕ) → k ≤ j → last_digits j g ≡ last_digits j h) → Has p h a k ss → Same p g (Some a) b k ss
unfolding Same Has
same_next p h g a b k [] e has = tt
same_next p h g a b k (s ∷ ss) e has = (
  λ t. ap (λ ds. quad_from ds 0 (width_of s p)) (e k (omega arith)) ∙ has.0 ∙ ap known_quad (eqb-true (value_in a s) (value_in b s) t),
  same_next p h g a b (k + 1) ss (λ j l. e j (omega arith)) has.1,
)

this : (w k v : ℕ) (h : List Item) (x : Bool) → v < 2 ^ w → (x ≡ true → quad_from (last_digits k h) 0 w ≡ known_quad v) → quad_from (last_digits k (cond x h (Change k (bits v) ∷ h))) 0 w ≡ known_quad v
this w k v h true f e = e refl
this w k v h false f e = ap (λ y. quad_from (cond y (bits v) (last_digits k h)) 0 w) (itself k) ∙ quad_bits v w f

-- behind the changes of a cycle each signal has its value
changed : (p : Params) (h : List Item) (a : Option (List Quad)) (b : List Quad) (k : ℕ) (ss : List Signal) → Fits p b → Same p h a b k ss → Has p (pushed h (change_items a b k ss)) b k ss
unfolding Same Has
changed p h a b k [] f same = tt
changed p h a b k (s ∷ ss) f same =
    let v = value_in b s in
    let x = is_same a b s in
    let h' = cond x h (Change k (bits v) ∷ h) in
    let rest = change_items a b (k + 1) ss in
    subst (λ (g : List Item). Has p g b k (s ∷ ss)) (sym (pushed_one h rest (Change k (bits v)) x)) (
      ap (λ ds. quad_from ds 0 (width_of s p)) (below k h' a b (k + 1) ss (omega arith)) ∙ this (width_of s p) k v h x (f s) same.0,
      changed p h' a b (k + 1) ss f (same_along p h h' a b (k + 1) ss (λ j l. other j k h (bits v) x (less k j (omega arith))) same.1),
    )

-- ---- instants

-- what times alone make: the time, what was before the instant, and the instants that ended
abbrev frame : List Item → ℕ × (List Item × List (List Item))
frame h = (time_of h, (before h, ended h))

frame_one : (h : List Item) (k : ℕ) (ds : List Digit) (x : Bool) → frame (cond x h (Change k ds ∷ h)) ≡ frame h
frame_one h k ds true = refl
frame_one h k ds false = refl

frame_changes : (h : List Item) (a : Option (List Quad)) (b : List Quad) (k : ℕ) (ss : List Signal) → frame (pushed h (change_items a b k ss)) ≡ frame h
frame_changes h a b k [] = refl
frame_changes h a b k (s ∷ ss) =
    let ds = bits (value_in b s) in
    let x = is_same a b s in
    ap frame (pushed_one h (change_items a b (k + 1) ss) (Change k ds) x)
    ∙ frame_changes (cond x h (Change k ds ∷ h)) a b (k + 1) ss
    ∙ frame_one h k ds x

later : (h : List Item) (t : ℕ) → time_of h < t → nat_lt (time_of h) t ≡ true
later h t l = grind (arith, nat_tests)

greater : (m n : ℕ) → n ≤ m → max m n ≡ m
greater m n l = omega arith

-- ---- whole cycles, where the sources behind the clock's give the sample of a bus

module _ (p : Params) (rest : List Source) (rest_is : (g : List Item) (b : Bus) → FitsWidths p b → Has p g (sample_of b) 1 (data_wires_of p) → map (quad_by g) rest ≡ sample_of b) where
  abbrev sources : List Source
  sources = Bits 0 0 1 ∷ rest

  -- the samples of the instants that ended, and of all if the waveform ends here
  abbrev ended_samples : List Item → List (List Quad)
  ended_samples h = filter_map (sample_at sources) (ended h)

  abbrev samples : List Item → List (List Quad)
  samples h = filter_map (sample_at sources) (instants h)

  samples_are : (h : List Item) (sample : Option (List Quad)) → sample_at sources h ≡ sample → samples h ≡ ended_samples h ++ cons_option sample []
  samples_are h sample e = filter_map-append (sample_at sources) (ended h) (h ∷ []) ∙ ap (λ o. ended_samples h ++ cons_option o []) e

  -- the clock isn't 0 before the instant
  not_rising : (h : List Item) → is_number 0 (quad_from (last_digits 0 (before h)) 0 1) ≡ false → sample_at sources h ≡ None
  not_rising h e = ap (λ x. cond (x && is_number 1 (quad_from (last_digits 0 h) 0 1)) (Some (map (quad_by (before h)) rest)) None) e

  -- a greater time ends the instant
  moved : (h : List Item) (t : ℕ) → time_of h < t → ended_samples (Time t ∷ h) ≡ samples h
  moved h t l = ap (λ x. filter_map (sample_at sources) (cond x (ended h ++ h ∷ []) (ended h))) (later h t l)

  -- behind whole cycles
  record Ready (c : ℕ) (a : Option (List Quad)) (h : List Item) : Type 0 where
    pub moves : ended_samples (Time (10 * c) ∷ h) ≡ samples h
    pub at : time_of (Time (10 * c) ∷ h) ≡ 10 * c
    pub was : before (Time (10 * c) ∷ h) ≡ h
    pub low : is_number 0 (quad_from (last_digits 0 h) 0 1) ≡ false
    pub same : (b : List Quad) → Same p h a b 1 (data_wires_of p)

  ready_first : Ready 0 None []
  ready_first = record { moves = refl; at = refl; was = refl; low = refl; same = λ b. same_none p [] b 1 (data_wires_of p) }

  -- up to the clock's fall, up to the rise's time, and the whole cycle
  abbrev fallen : ℕ → List Item → List Item
  fallen c h = Change 0 (bits 0) ∷ Time (10 * c) ∷ h

  abbrev settled : ℕ → Option (List Quad) → List Quad → List Item → List Item
  settled c a b h = pushed (fallen c h) (change_items a b 1 (data_wires_of p))

  abbrev behind : ℕ → Option (List Quad) → List Quad → List Item → List Item
  behind c a b h = Change 0 (bits 1) ∷ Time (10 * c + 5) ∷ settled c a b h

  cycle_is : (c : ℕ) (a : Option (List Quad)) (b : List Quad) (h : List Item) → pushed h (cycle_items p c a b) ≡ behind c a b h
  cycle_is c a b h = pushed-append (fallen c h) (change_items a b 1 (data_wires_of p)) (Time (10 * c + 5) ∷ Change 0 (bits 1) ∷ [])

  module _ (c : ℕ) (a : Option (List Quad)) (h : List Item) (ready : Ready c a h) where
    framed : (b : List Quad) → frame (settled c a b h) ≡ frame (Time (10 * c) ∷ h)
    framed b = frame_changes (fallen c h) a b 1 (data_wires_of p)

    settled_time : (b : List Quad) → time_of (settled c a b h) ≡ 10 * c
    settled_time b = ap (λ f. f.0) (framed b) ∙ ready.at

    settled_samples : (b : List Quad) → ended_samples (settled c a b h) ≡ samples h
    settled_samples b = ap (λ f. filter_map (sample_at sources) f.1.1) (framed b) ∙ ready.moves

    settled_before : (b : List Quad) → before (settled c a b h) ≡ h
    settled_before b = ap (λ f. f.1.0) (framed b) ∙ ready.was

    -- the fall and the changes end without a sample
    settled_none : (b : List Quad) → sample_at sources (settled c a b h) ≡ None
    settled_none b = not_rising (settled c a b h) (ap (λ g. is_number 0 (quad_from (last_digits 0 g) 0 1)) (settled_before b) ∙ ready.low)

    settled_has : (b : List Quad) → Fits p b → Has p (settled c a b h) b 1 (data_wires_of p)
    settled_has b f =
        changed p (fallen c h) a b 1 (data_wires_of p) f
        (same_along p h (fallen c h) a b 1 (data_wires_of p) (λ j l. other j 0 (Time (10 * c) ∷ h) (bits 0) false (less 0 j l)) (ready.same b))

    settled_clock : (b : List Quad) → last_digits 0 (settled c a b h) ≡ bits 0
    settled_clock b = below 0 (fallen c h) a b 1 (data_wires_of p) (lit< tt)

    rise_later : (b : List Quad) → time_of (settled c a b h) < 10 * c + 5
    rise_later b = let e = settled_time b in omega (arith, e)

    behind_time : (b : List Quad) → time_of (behind c a b h) ≡ 10 * c + 5
    behind_time b = let e = settled_time b in greater (10 * c + 5) (time_of (settled c a b h)) (omega (arith, e))

    behind_before : (b : List Quad) → before (behind c a b h) ≡ settled c a b h
    behind_before b = ap (λ x. cond x (settled c a b h) (before (settled c a b h))) (later (settled c a b h) (10 * c + 5) (rise_later b))

    behind_ended : (b : List Quad) → ended_samples (behind c a b h) ≡ samples h
    behind_ended b =
        moved (settled c a b h) (10 * c + 5) (rise_later b)
        ∙ samples_are (settled c a b h) None (settled_none b)
        ∙ append-nil (ended_samples (settled c a b h)) ∙ settled_samples b

    -- the rise ends with the sample of the bus
    behind_rises : (b : List Quad) → sample_at sources (behind c a b h) ≡ Some (map (quad_by (settled c a b h)) rest)
    behind_rises b =
        ap (λ g. cond (is_number 0 (quad_from (last_digits 0 g) 0 1) && true) (Some (map (quad_by g) rest)) None) (behind_before b)
        ∙ ap (λ ds. cond (is_number 0 (quad_from ds 0 1) && true) (Some (map (quad_by (settled c a b h)) rest)) None) (settled_clock b)

    behind_samples : (b : Bus) → FitsWidths p b → samples (behind c a (sample_of b) h) ≡ samples h ++ sample_of b ∷ []
    behind_samples b f =
        let q = sample_of b in
        samples_are (behind c a q h) (Some (map (quad_by (settled c a q h)) rest)) (behind_rises q)
        ∙ ap (λ x. x ++ map (quad_by (settled c a q h)) rest ∷ []) (behind_ended q)
        ∙ ap (λ x. samples h ++ x ∷ []) (rest_is (settled c a q h) b f (settled_has q (bus_fits p b f)))

    ready_next : (b : List Quad) → Fits p b → Ready (c + 1) (Some b) (behind c a b h)
    ready_next b f =
        let e = behind_time b in
        record {
          moves = moved (behind c a b h) (10 * (c + 1)) (omega (arith, e));
          at = greater (10 * (c + 1)) (time_of (behind c a b h)) (omega (arith, e));
          was = ap (λ x. cond x (behind c a b h) (before (behind c a b h))) (later (behind c a b h) (10 * (c + 1)) (omega (arith, e)));
          low = refl;
          same = λ d. same_next p (settled c a b h) (behind c a b h) b d 1 (data_wires_of p) (λ j l. other j 0 (Time (10 * c + 5) ∷ settled c a b h) (bits 1) false (less 0 j l)) (settled_has b f);
        }

    -- the end has no sample
    end_samples : samples (fallen c h) ≡ samples h
    end_samples =
        samples_are (fallen c h) None (not_rising (fallen c h) (ap (λ g. is_number 0 (quad_from (last_digits 0 g) 0 1)) ready.was ∙ ready.low))
        ∙ append-nil (ended_samples (fallen c h)) ∙ ready.moves

  sampled : (c : ℕ) (a : Option (List Quad)) (bs : List Bus) (h : List Item) → AllByRecursion (FitsWidths p) bs → Ready c a h → samples (pushed h (cycles_items p c a bs)) ≡ samples h ++ map sample_of bs
  sampled c a [] h f ready = end_samples c a h ready ∙ sym (append-nil (samples h))
  sampled c a (b ∷ bs) h f ready =
      let q = sample_of b in
      let g = behind c a q h in
      ap samples (pushed-append h (cycle_items p c a q) (cycles_items p (c + 1) (Some q) bs) ∙ ap (λ x. pushed x (cycles_items p (c + 1) (Some q) bs)) (cycle_is c a q h))
      ∙ sampled (c + 1) (Some q) bs g f.1 (ready_next c a h ready q (bus_fits p b f.0))
      ∙ ap (λ x. x ++ map sample_of bs) (behind_samples c a h ready b f.0)
      ∙ append_assoc (samples h) (q ∷ []) (map sample_of bs)

  pub samples_of_cycles : (bs : List Bus) → AllByRecursion (FitsWidths p) bs → samples_by sources (cycles_items p 0 None bs) ≡ map sample_of bs
  samples_of_cycles bs f =
      ap samples (sym (append-nil (reverse (cycles_items p 0 None bs))) ∙ sym (pushed_is [] (cycles_items p 0 None bs)))
      ∙ sampled 0 None bs [] f ready_first
