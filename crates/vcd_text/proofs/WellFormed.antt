-- Every reading is consistent.
use Rattle.std.proofs.Common.{◌≡◌, ◌≤◌, ◌-◌, ℕ, false, nat_lt, List, [], ◌∷◌, ◌++◌, length, get_or, refl, sym, ap, ◌∙◌, subst, arith, Option, None, Some, Result, Ok, Err, le_trans, le_refl}
use Rattle.std.specs.Prelude.{All}
use Rattle.std.specs.Option.{option_to_list}
use Rattle.std.specs.List.{fold}
use Rattle.std.specs.List.Sorted.{IsSortedBy}
use Rattle.std.proofs.lemmas.Bool.Decides.{nat_tests}
use Rattle.std.proofs.lemmas.List.{append-nil}
use Rattle.std.proofs.lemmas.List.Elements.{All-nil, All-push}
use Rattle.std.proofs.lemmas.List.Kept.{IsSortedBy-push}
use Rattle.vcd_text.specs.declared.fault.VcdFault.{VcdFault}
use Rattle.vcd_text.specs.declared.item.Item.{Item}
use Rattle.vcd_text.specs.declared.item.Item.TheVariants.{Time, Change}
use Rattle.vcd_text.specs.declared.state.Part.TheVariants.{Nothing}
use Rattle.vcd_text.specs.declared.state.State.{State}
use Rattle.vcd_text.specs.Tokens.{Token, complete, ended}
use Rattle.vcd_text.specs.Grammar.{Step, with_part, step}
use Rattle.vcd_text.specs.Reading.{Read, Reading, moved, go, go_from, from, start, read_so_far, read_whole, reading_of, reading_by, ends, fault_at_end}
use Rattle.vcd_text.specs.Sizes.{times_of, IsConsistent}
use Rattle.vcd_text.specs.Sound.{IsSoundRead}
use Rattle.vcd_text.proofs.Sound.{GoesOn, Ascends, step-goes}
use Rattle.vcd_text.proofs.SoundReading.{onward-fold, from-start-sound, sound-so_far}
use Rattle.vcd_text.proofs.Standing.{declared-at_end}

-- the times of what was read don't fall, and none is past the last one
record HasTimes (r : Read) : Type 0 where
  ascending : IsSortedBy nat_lt (times_of r.items)
  upto : (s : State) → r.state ≡ Ok s → All (λ t. t ≤ s.time) (times_of r.items)

times-change : (items : List Item) (code : ℕ) (ds : List _) → times_of (items ++ Change code ds ∷ []) ≡ times_of items
times-change [] code ds = refl
times-change (Time t ∷ items) code ds = ap (λ ts. t ∷ ts) (times-change items code ds)
times-change (Change c e ∷ items) code ds = times-change items code ds

times-time : (items : List Item) (t : ℕ) → times_of (items ++ Time t ∷ []) ≡ times_of items ++ t ∷ []
times-time [] t = refl
times-time (Time u ∷ items) t = ap (λ ts. u ∷ ts) (times-time items t)
times-time (Change c e ∷ items) t = times-time items t

not_below : (t u : ℕ) → u ≤ t → nat_lt t u ≡ false
not_below t u h = grind (arith, nat_tests)

pushed : (ts : List ℕ) (last t : ℕ) → IsSortedBy nat_lt ts → All (λ u. u ≤ last) ts → last ≤ t → IsSortedBy nat_lt (ts ++ t ∷ []) × All (λ u. u ≤ t) (ts ++ t ∷ [])
pushed ts last t s a h = (
  IsSortedBy-push nat_lt ts t s (λ d some. not_below t (get_or ts (length ts - 1) d) (le_trans (a (length ts - 1) d (omega arith)) h)),
  All-push (λ u. u ≤ t) ts t (λ k d lt. le_trans (a k d lt) h) (omega arith),
)

abbrev Both : ℕ → List Item → Type 0
Both last items = IsSortedBy nat_lt (times_of items) × All (λ t. t ≤ last) (times_of items)

moved-both : (items : List Item) (old new : ℕ) (o : Option Item) → Ascends old new o → Both old items → Both new (items ++ option_to_list o)
moved-both items old new None e h = subst (Both new) (sym (append-nil items)) (subst (λ t. Both t items) (sym e) h)
moved-both items old new (Some (Change code ds)) e h =
    subst (λ ts. IsSortedBy nat_lt ts × All (λ t. t ≤ new) ts) (sym (times-change items code ds)) (subst (λ t. Both t items) (sym e) h)
moved-both items old new (Some (Time t)) e h =
    subst (λ ts. IsSortedBy nat_lt ts × All (λ t. t ≤ new) ts) (sym (times-time items t))
    (subst (λ n. IsSortedBy nat_lt (times_of items ++ t ∷ []) × All (λ u. u ≤ n) (times_of items ++ t ∷ [])) (sym e.1) (pushed (times_of items) old t h.0 h.1 e.0))

moved-times : (r : Read) (s : State) (x : Step) → r.state ≡ Ok s → HasTimes r → GoesOn (with_part s Nothing) x → HasTimes (moved r x)
moved-times r s (Err f) e h g = record { ascending = h.ascending; upto = λ n is. cc }
moved-times r s (Ok x) e h g =
    let both = moved-both r.items s.time x.0.time x.1 g.times (h.ascending, h.upto s e) in
    record {
      ascending = both.0;
      upto = λ n is. let same : x.0 ≡ n = cc in subst (λ n. All (λ t. t ≤ n.time) (times_of (r.items ++ option_to_list x.1))) same both.1;
    }

go-times_by : (r : Read) (t : Token) (state : Result State VcdFault) → r.state ≡ state → IsSoundRead r → HasTimes r → HasTimes (go_from r state t)
go-times_by r t (Ok s) e h k = moved-times r s (step s t) e k (step-goes s t (h.state s e).0)
go-times_by r t (Err f) e h k = k

fold-times : (r : Read) (ts : List Token) → IsSoundRead r → HasTimes r → HasTimes (fold go r ts)
fold-times r [] h k = k
fold-times r (t ∷ ts) h k = fold-times (go r t) ts ((onward-fold r (t ∷ [])).sound h) (go-times_by r t r.state refl h k)

start-times : HasTimes (from start)
start-times = record { ascending = λ k d e lt. not_below d d (le_refl d); upto = λ s e. All-nil (λ t. t ≤ s.time) }

pub ascending : (text : List ℕ) → IsSortedBy nat_lt (times_of (read_so_far text).items)
ascending text = (fold-times (from start) (complete [] 0 text) from-start-sound start-times).ascending

well-formed_by : (text : List ℕ) (r : Reading) (state : Result State VcdFault) → (read_whole text).state ≡ state → ends (read_whole text).items state (length text) ≡ Ok r → IsConsistent r
well-formed_by text r (Err f) e h = cc
well-formed_by text r (Ok s) e h = by (fault_at_end (length text) s) refl h
  where
    by : (o : Option VcdFault) → fault_at_end (length text) s ≡ o → reading_by s.variables (read_whole text).items o ≡ Ok r → IsConsistent r
    by (Some f) g k = cc
    by None g k =
        let sound = sound-so_far (ended text) in
        let fits = sound.some s.variables ((sound.state s e).1 ∙ declared-at_end s (length text) (sym g)) in
        let same : record { variables = s.variables; items = (read_whole text).items } ≡ r = cc in
        subst IsConsistent same (record { consistent = fits.0; fits = fits.1; ascending = ascending (ended text) })

pub well-formed : (text : List ℕ) (r : Reading) → reading_of text ≡ Ok r → IsConsistent r
well-formed text r h = well-formed_by text r (read_whole text).state refl h
