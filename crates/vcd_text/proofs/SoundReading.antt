-- All that is read fits what was declared.
use Rattle.std.proofs.Common.{◌≡◌, ℕ, suc, Bool, true, false, cond, List, [], ◌∷◌, ◌++◌, drop, refl, sym, ap, ◌∙◌, subst, arith, Option, None, Some, Result, Ok, Err, true≢false}
use Rattle.std.specs.Prelude.{IfSome, All}
use Rattle.std.specs.Option.{option_to_list}
use Rattle.std.specs.List.{fold}
use Rattle.std.proofs.lemmas.List.{append-nil}
use Rattle.std.proofs.lemmas.List.Elements.{All-nil, All-push}
use Rattle.vcd_text.specs.declared.declaration.Variable.{Variable}
use Rattle.vcd_text.specs.declared.fault.VcdFault.{VcdFault}
use Rattle.vcd_text.specs.declared.item.Item.{Item}
use Rattle.vcd_text.specs.declared.state.Part.TheVariants.{Nothing}
use Rattle.vcd_text.specs.declared.state.State.{State}
use Rattle.vcd_text.specs.Tokens.{Token, complete}
use Rattle.vcd_text.specs.Grammar.{Step, with_part, step}
use Rattle.vcd_text.specs.Reading.{Read, moved, go, go_from, from, start, declared_by, read_so_far}
use Rattle.vcd_text.specs.Sizes.{AreConsistent, FitsDeclared}
use Rattle.vcd_text.specs.Sound.{IsSound, IsSoundRead, Onward}
use Rattle.vcd_text.proofs.Sound.{Goes, GoesOn, step-goes}

declared-some_by : (b : Bool) (ws vs : List Variable) → cond b (Some ws) None ≡ Some vs → (b ≡ true) × (ws ≡ vs)
declared-some_by true ws vs e = (refl, (cc))
declared-some_by false ws vs e = cc

declared-some : (s : State) (vs : List Variable) → declared_by s ≡ Some vs → (s.is_declared ≡ true) × (s.variables ≡ vs)
declared-some s vs e = declared-some_by s.is_declared s.variables vs e

declared-none_by : (b : Bool) (ws : List Variable) → cond b (Some ws) None ≡ None → b ≡ false
declared-none_by true ws e = cc
declared-none_by false ws e = refl

declared-is : (s : State) → s.is_declared ≡ true → declared_by s ≡ Some s.variables
declared-is s e = ap (λ b. cond b (Some s.variables) None) e

declared-isnt : (s : State) → s.is_declared ≡ false → declared_by s ≡ None
declared-isnt s e = ap (λ b. cond b (Some s.variables) None) e

all-option : (P : Item → Type 0) (items : List Item) (o : Option Item) → All P items → IfSome o P → All P (items ++ option_to_list o)
all-option P items None h k = subst (All P) (sym (append-nil items)) h
all-option P items (Some i) h k = All-push P items i h k

-- ---- a token more

items-none_by : (r : Read) (s n : State) (o : Option Item) (b : Bool) → s.is_declared ≡ b → IsSoundRead r → r.variables ≡ declared_by s → Goes s.is_declared s.variables s.time n o
    → declared_by n ≡ None → r.items ++ option_to_list o ≡ []
items-none_by r s n o true e h v g none =
    absurd (true≢false (sym (g.stays e).0 ∙ declared-none_by n.is_declared n.variables none))
items-none_by r s n o false e h v g none =
    ap (λ x. r.items ++ option_to_list x) (g.none e) ∙ append-nil r.items ∙ h.none (v ∙ declared-isnt s e)

items-fit_by : (r : Read) (s n : State) (o : Option Item) (b : Bool) → s.is_declared ≡ b → IsSoundRead r → r.variables ≡ declared_by s → Goes s.is_declared s.variables s.time n o
    → All (FitsDeclared n.variables) (r.items ++ option_to_list o)
items-fit_by r s n o true e h v g =
    subst (λ vs. All (FitsDeclared vs) (r.items ++ option_to_list o)) (sym (g.stays e).1)
    (all-option (FitsDeclared s.variables) r.items o (h.some s.variables (v ∙ declared-is s e)).1 g.fits)
items-fit_by r s n o false e h v g =
    let none : r.items ++ option_to_list o ≡ [] = ap (λ x. r.items ++ option_to_list x) (g.none e) ∙ append-nil r.items ∙ h.none (v ∙ declared-isnt s e) in
    subst (All (FitsDeclared n.variables)) (sym none) (All-nil (FitsDeclared n.variables))

pub sound-fault : (r : Read) (f : VcdFault) → IsSoundRead r → IsSoundRead (record r { state = Err f })
sound-fault r f h = record { state = λ s e. cc; none = h.none; some = h.some }

moved-sound : (r : Read) (s : State) (x : Step) → r.state ≡ Ok s → IsSoundRead r → GoesOn (with_part s Nothing) x → IsSoundRead (moved r x)
moved-sound r s (Err f) e h g = sound-fault r f h
moved-sound r s (Ok x) e h g =
    let v : r.variables ≡ declared_by s = (h.state s e).1 in
    record {
      state = λ n is. let same : x.0 ≡ n = cc in subst (λ n. IsSound n × (declared_by x.0 ≡ declared_by n)) same (g.sound, refl);
      none = λ none. items-none_by r (with_part s Nothing) x.0 x.1 s.is_declared refl h v g none;
      some = λ vs is.
          let same : x.0.variables ≡ vs = (declared-some x.0 vs is).1 in
          subst (λ vs. AreConsistent vs × All (FitsDeclared vs) (r.items ++ option_to_list x.1)) same
          (g.sound.consistent, items-fit_by r (with_part s Nothing) x.0 x.1 s.is_declared refl h v g);
    }

moved-declared : (r : Read) (s : State) (x : Step) → r.state ≡ Ok s → IsSoundRead r → GoesOn (with_part s Nothing) x → (vs : List Variable) → r.variables ≡ Some vs → (moved r x).variables ≡ Some vs
moved-declared r s (Err f) e h g vs is = is
moved-declared r s (Ok x) e h g vs is =
    let was = declared-some s vs (sym (h.state s e).1 ∙ is) in
    let now = g.stays was.0 in
    declared-is x.0 now.0 ∙ ap Some (now.1 ∙ was.1)

go-onward_by : (r : Read) (t : Token) (state : Result State VcdFault) → r.state ≡ state → Onward r (go_from r state t)
go-onward_by r t (Ok s) e = record {
  sound = λ h. moved-sound r s (step s t) e h (step-goes s t (h.state s e).0);
  declared = λ h. moved-declared r s (step s t) e h (step-goes s t (h.state s e).0);
}
go-onward_by r t (Err f) e = record { sound = λ h. h; declared = λ h vs is. is }

pub onward-then : (a b c : Read) → Onward a b → Onward b c → Onward a c
onward-then a b c h k = record { sound = λ s. k.sound (h.sound s); declared = λ s vs is. k.declared (h.sound s) vs (h.declared s vs is) }

pub onward-same : (a b : Read) → b ≡ a → Onward a b
onward-same a b e = subst (Onward a) (sym e) (record { sound = λ h. h; declared = λ h vs is. is })

pub onward-fold : (r : Read) (ts : List Token) → Onward r (fold go r ts)
onward-fold r [] = record { sound = λ h. h; declared = λ h vs is. is }
onward-fold r (t ∷ ts) = onward-then r (go r t) (fold go (go r t) ts) (go-onward_by r t r.state refl) (onward-fold (go r t) ts)

pub onward-read : (a b : Read) (ts : List Token) → b ≡ fold go a ts → Onward a b
onward-read a b ts e = subst (Onward a) (sym e) (onward-fold a ts)

pub onward-if : (a b : Read) (ts : List Token) (w : Bool) → b ≡ cond w (fold go a ts) a → Onward a b
onward-if a b ts true e = onward-read a b ts e
onward-if a b ts false e = onward-same a b e

-- ---- whole texts

start-sound : IsSound start
start-sound = record { consistent = All-nil (λ v. _); sizes = λ code. refl; placed = tt }

pub from-start-sound : IsSoundRead (from start)
from-start-sound = record {
  state = λ s e. let same : start ≡ s = cc in subst (λ s. IsSound s × (None ≡ declared_by s)) same (start-sound, refl);
  none = λ _. refl;
  some = λ vs e. cc;
}

pub sound-so_far : (text : List ℕ) → IsSoundRead (read_so_far text)
sound-so_far text = (onward-fold (from start) (complete [] 0 text)).sound from-start-sound

all-drop : (P : Item → Type 0) (items : List Item) → All P items → All P (drop 1 items)
all-drop P [] h = h
all-drop P (i ∷ is) h = λ k d lt. h (suc k) d (omega arith)
