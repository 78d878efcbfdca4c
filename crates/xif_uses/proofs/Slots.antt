-- The places of keys, and a change of the use of one key.
use Rattle.std.proofs.Common.{◌≡◌, ◌<◌, ◌+◌, ◌*◌, ◌^◌, ◌==◌, ℕ, zero, suc, Bool, true, false, if◌then◌else◌, Option, None, List, [], ◌∷◌, length, replicate, map, slice_set, refl, sym, ap, ◌∙◌, subst, arith}
use Rattle.std.specs.Prelude.{slice_index_or}
use Rattle.std.specs.Option.{option_map}
use Rattle.std.proofs.lemmas.Bool.{eq-eqb, ne_eqb}
use Rattle.std.proofs.lemmas.Nat.{mul-add-lt}
use Rattle.std.proofs.lemmas.List.{get_or-set_same, get_or-set_other, map-set, length-map}
use Rattle.std.proofs.Math.Nat.{mul_comm}
use Rattle.xif_base.specs.declared.params.Key.{Key}
use Rattle.xif_base.specs.declared.params.Params.{Params}
use Rattle.xif_session.specs.Facts.{same_key}
use Rattle.xif_session.proofs.Options.{key_same, no_true}
use Rattle.xif_uses.specs.declared.entry.Use.{Use}
use Rattle.xif_uses.specs.declared.places.Slot.{Slot}
use Rattle.xif_uses.specs.Slots.{live, empty_slot}
use Rattle.xif_uses.specs.Table.{Table, IsKey, Represents, Sets, place_of, fact_of}

pub three : (a b : ℕ) → (P : Type 0) → (a < b → P) → (a ≡ b → P) → (b < a → P) → P
three zero zero P f g h = g refl
three zero (suc b) P f g h = f (omega arith)
three (suc a) zero P f g h = h (omega arith)
three (suc a) (suc b) P f g h = three a b P (λ l. f (omega arith)) (λ q. g (ap suc q)) (λ l. h (omega arith))

-- an earlier hart's places are before a later one's
pub before : (ids h i k : ℕ) → h < k → i < ids → h * ids + i < k * ids
before ids h i k l m = subst (λ n. h * ids + i < n) (mul_comm ids k) (mul-add-lt h ids i k l m)

pub inside : (params : Params) (key : Key) → IsKey params key → place_of params key < params.num_harts * 2 ^ params.id_width
inside params key k = before (2 ^ params.id_width) key.hart key.id params.num_harts k.hart k.id

pub apart : (params : Params) (a b : Key) → IsKey params a → IsKey params b → place_of params a ≡ place_of params b → a ≡ b
apart params a b m n q = joined (split a.hart b.hart a.id b.id m.id n.id q)
  where
    split : (h k i j : ℕ) → i < 2 ^ params.id_width → j < 2 ^ params.id_width → h * 2 ^ params.id_width + i ≡ k * 2 ^ params.id_width + j → (h ≡ k) × (i ≡ j)
    split h k i j l m q =
        three h k ((h ≡ k) × (i ≡ j))
        (λ x. let y = before (2 ^ params.id_width) h i k x l in absurd (omega arith))
        (λ x. (x, let y : h * 2 ^ params.id_width ≡ k * 2 ^ params.id_width = ap (λ n. n * 2 ^ params.id_width) x in omega arith))
        (λ x. let y = before (2 ^ params.id_width) k j h x m in absurd (omega arith))

    joined : (a.hart ≡ b.hart) × (a.id ≡ b.id) → a ≡ b
    joined e = λ i. record { hart = e.0 i; id = e.1 i }

-- what the places of a table hold
abbrev pub uses_in : ℕ → List Slot → List (Option Use)
uses_in session slots = map (λ slot. live session slot.session slot.latest) slots

abbrev pub table_of : Params → ℕ → List Slot → Table
table_of params session slots = record { params = params; uses = uses_in session slots }

live_now : (session : ℕ) (latest : Option Use) → live session session latest ≡ latest
live_now session latest = ap (λ t. if t then latest else None) (eq-eqb session session refl)

pub set_one : (params : Params) (session : ℕ) (slots : List Slot) (key : Key) (latest : Option Use) → IsKey params key
    → length slots ≡ params.num_harts * 2 ^ params.id_width
    → Sets (table_of params session slots) (table_of params session (slice_set slots (place_of params key) (record { session = session; latest = latest }))) key latest
set_one params session slots key latest k l = record {
  params = refl;
  latest =
      ap (λ uses. slice_index_or uses (place_of params key) None) (changed latest)
      ∙ get_or-set_same (uses_in session slots) (place_of params key) (live session session latest) None (subst (λ n. place_of params key < n) (sym (length-map slots (λ slot. live session slot.session slot.latest) ∙ l)) (inside params key k))
      ∙ live_now session latest;
  others = λ other m different.
      ap (λ uses. slice_index_or uses (place_of params other) None) (changed latest)
      ∙ get_or-set_other (uses_in session slots) (place_of params key) (place_of params other) (live session session latest) None
      (λ e. no_true (same_key key other) (key_same key other (sym (apart params other key m k e))) different);
}
  where
    changed : (latest : Option Use) → uses_in session (slice_set slots (place_of params key) (record { session = session; latest = latest })) ≡ slice_set (uses_in session slots) (place_of params key) (live session session latest)
    changed latest = map-set (λ slot. live session slot.session slot.latest) slots (place_of params key) (record { session = session; latest = latest })

-- no place holds a use

live_none : (session : ℕ) (slot : Slot) → slot.latest ≡ None → live session slot.session slot.latest ≡ None
live_none session slot e = none (slot.session == session) e
  where
    none : (t : Bool) → slot.latest ≡ None → (if t then slot.latest else None) ≡ None
    none true e = e
    none false e = refl

live_old : (session : ℕ) (slot : Slot) → slot.session < session → live session slot.session slot.latest ≡ None
live_old session slot l = ap (λ t. if t then slot.latest else None) (ne_eqb slot.session session (λ q. absurd (omega arith)))

none_in : (session : ℕ) (slots : List Slot) (k : ℕ) → ((i : ℕ) (d : Slot) → i < length slots → live session (slice_index_or slots i d).session (slice_index_or slots i d).latest ≡ None) → slice_index_or (uses_in session slots) k None ≡ None
none_in session [] zero h = refl
none_in session [] (suc k) h = refl
none_in session (slot ∷ slots) zero h = h 0 slot (omega arith)
none_in session (slot ∷ slots) (suc k) h = none_in session slots k (λ i d l. h (suc i) d (omega arith))

pub none_empty : (params : Params) (session : ℕ) (slots : List Slot) → ((i : ℕ) (d : Slot) → i < length slots → slice_index_or slots i d ≡ empty_slot) → Represents (table_of params session slots) params (λ key. None)
none_empty params session slots h = record {
  same = refl;
  uses = λ key k. ap (option_map fact_of) (none_in session slots (place_of params key) (λ i d l. live_none session (slice_index_or slots i d) (ap (λ slot. slot.latest) (h i d l))));
}

pub none_older : (params : Params) (session : ℕ) (slots : List Slot) → ((i : ℕ) (d : Slot) → i < length slots → (slice_index_or slots i d).session < session) → Represents (table_of params session slots) params (λ key. None)
none_older params session slots h = record {
  same = refl;
  uses = λ key k. ap (option_map fact_of) (none_in session slots (place_of params key) (λ i d l. live_old session (slice_index_or slots i d) (h i d l)));
}

-- a row of empty places
pub each_empty : (n i : ℕ) (d : Slot) → i < n → slice_index_or (replicate n empty_slot) i d ≡ empty_slot
each_empty zero i d l = absurd (omega arith)
each_empty (suc n) zero d l = refl
each_empty (suc n) (suc i) d l = each_empty n i d (omega arith)
