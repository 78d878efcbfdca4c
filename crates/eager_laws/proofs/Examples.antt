-- What is told of some runs, computed.
use Rattle.std.proofs.Common.{◌≡◌, ℕ, true, false, List, [], ◌∷◌, Option, Some, None, refl}
use Rattle.std.specs.List.{flat_map}
use Rattle.std.specs.Int.{w32, to_le_bytes}
use Rattle.xif_drive.specs.Predictors.{following}
use Rattle.inorder_machine.specs.declared.line.Stepped.TheVariants.{Stop}
use Rattle.inorder_machine.specs.declared.stop.StopCause.TheVariants.{Illegal}
use Rattle.cycle_spec.specs.declared.log.Cut.{Cut}
use Rattle.cycle_spec.specs.declared.log.Dispatch.{Dispatch}
use Rattle.cycle_spec.specs.Cycle.{cycle}
use Rattle.cycle_spec.specs.Run.{Setup, Meaning, Progress, start, cycles_until, is_stopped}
use Rattle.cycle_refines.specs.RefinesInOrder.{extension_in, first_state}
use Rattle.eager_laws.specs.Flights.{Told, cycles_of, InFlight, flight_after, outcome_along}
use Rattle.eager_laws.specs.Eager.{address_after}

-- ---- runs

-- words from address 0 on, no units, and a delay of three cycles at the issue handshake
abbrev job : List ℕ → Setup
job words = record {
  params = record {
    num_rs = 2;
    id_width = 3;
    rfr_width = 32;
    rfw_width = 32;
    num_harts = 1;
    hartid_width = 1;
    dual_read = 0;
    dual_write = false;
    split = true;
    profile = 1;
  };
  set = [];
  script = record { issue = 3 ∷ []; register = 0 ∷ []; operand = 0 ∷ []; result = 0 ∷ []; take = 0 ∷ [] };
  window = 8;
  budget = 100;
  memory = record { base = 0; bytes = flat_map (to_le_bytes w32) words };
  entry = 0;
}

-- the predictor that always answers the address behind; it has nothing to keep
abbrev never : Meaning ℕ
never = record { answer = λ predictor pc word. following pc; after = λ predictor pc word actual. predictor }

-- the first cycles of a run
abbrev told : ℕ → List ℕ → List Told
told count words =
    let p : Progress ℕ = cycles_until never is_stopped count (start (job words) 0) in
    cycles_of p.logs p.buses

abbrev flight : ℕ → List ℕ → List InFlight
flight count words = flight_after never 0 (told count words)

abbrev address : ℕ → List ℕ → ℕ
address count words = address_after never 0 0 (told count words)

-- of the last of them
abbrev cut_in : List Told → Option Cut
cut_in [] = None
cut_in (c ∷ older) = c.log.cut

abbrev dispatched_in : List Told → Option Dispatch
dispatched_in [] = None
dispatched_in (c ∷ older) = c.log.dispatched

abbrev plain : (pc word : ℕ) → InFlight
plain pc word = record { pc = pc; word = Some word; predicted = following pc; response = None }

-- ---- a jump

-- jal x0,8; addi x1,x0,1; ecall
abbrev jump : List ℕ
jump = 0x0080006f ∷ 0x00100093 ∷ 0x00000073 ∷ []

jump-cuts : cut_in (told 2 jump) ≡ Some (record { keep = 1; target = 8 })
unfolding cycle
jump-cuts = refl

-- the dispatch after the cut is where the jump leads
jump-flight : flight 2 jump ≡ plain 0 0x0080006f ∷ []
unfolding cycle
jump-flight = refl

jump-address : address 2 jump ≡ 8
unfolding cycle
jump-address = refl

jump-leads : dispatched_in (told 3 jump) ≡ Some (record { pc = 8; word = Some 0x73 })
unfolding cycle
jump-leads = refl

-- ---- a store into the word behind it

-- addi x1,x0,0x73; sw x1,8(x0); addi x1,x0,1
abbrev store : List ℕ
store = 0x07300093 ∷ 0x00102423 ∷ 0x00100093 ∷ []

-- the word was dispatched, is cut when the store retires, and dispatched anew as an ECALL
store-dispatched : dispatched_in (told 3 store) ≡ Some (record { pc = 8; word = Some 0x00100093 })
unfolding cycle
store-dispatched = refl

store-cuts : cut_in (told 4 store) ≡ Some (record { keep = 1; target = 8 })
unfolding cycle
store-cuts = refl

store-anew : dispatched_in (told 5 store) ≡ Some (record { pc = 8; word = Some 0x73 })
unfolding cycle
store-anew = refl

-- ---- a word that will be refused

-- it, and addi x1,x0,1 twice
abbrev refused : List ℕ
refused = 0x0000000b ∷ 0x00100093 ∷ 0x00100093 ∷ []

-- it stops along what is in flight
refused-stops : outcome_along (extension_in (job refused)) (first_state (job refused)) (plain 0 0xb) ≡ Stop Illegal
refused-stops = refl

-- and until it has its response the dispatches go on
refused-goes_on : dispatched_in (told 3 refused) ≡ Some (record { pc = 8; word = Some 0x00100093 })
unfolding cycle
refused-goes_on = refl

refused-flight : flight 3 refused ≡ plain 0 0xb ∷ plain 4 0x00100093 ∷ plain 8 0x00100093 ∷ []
unfolding cycle
refused-flight = refl
