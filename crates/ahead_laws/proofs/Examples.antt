-- Events that may happen, computed by the definitions alone: a word of a coprocessor retires, and
-- another one, on a wrong path, is dropped and leaves nothing.
use Rattle.std.proofs.Common.{◌≡◌, ◌+◌, ◌≤◌, ℕ, zero, suc, true, false, List, [], ◌∷◌, map, drop, take, replicate, nat_lt, Some, None, refl, inl, arith}
use Rattle.std.specs.Prelude.{slice_index_or}
use Rattle.std.specs.List.{flat_map}
use Rattle.std.specs.Int.{w32, to_le_bytes}
use Rattle.std.proofs.lemmas.Bool.{ltb-true}
use Rattle.rv32_table.specs.declared.rows.Row.TheVariants.{Addi, Beq}
use Rattle.xif_base.specs.declared.params.Params.{Params}
use Rattle.xif_drive.specs.Predictors.{following}
use Rattle.coproc_config.specs.declared.operation.Op.TheVariants.{AccAdd, ExtractU}
use Rattle.coproc_config.specs.Set.{UnitTable}
use Rattle.inorder_machine.specs.declared.line.Retire.{Retire}
use Rattle.inorder_machine.specs.declared.line.Write.TheVariants as write
use Rattle.inorder_machine.specs.declared.stop.StopCause.TheVariants.{Ecall}
use Rattle.inorder_machine.specs.declared.units.Half.{Half}
use Rattle.inorder_machine.specs.declared.units.Half.TheVariants.{Low, High}
use Rattle.inorder_machine.specs.Machine.{Extension, State}
use Rattle.inorder_machine.specs.Units.{is_read}
use Rattle.xif_session.specs.Facts.{is_accepted}
use Rattle.cycle_spec.specs.declared.entry.Operand.TheVariants.{Here}
use Rattle.ahead_laws.proofs.Lists.{and_left}
use Rattle.ahead_spec.specs.Walk.{entries}
use Rattle.ahead_spec.specs.Operands.{half_behind}
use Rattle.ahead_spec.specs.World.{World, Spot, Event, Dispatches, Executes, Answers, Sends, Releases, Applies, Finishes, Drops, Retires, begun, new_item, happens, run}
use Rattle.ahead_spec.specs.Guards.{MayExecuteTo, MayRun}
use Rattle.ahead_spec.specs.Refines.{stop_in}

abbrev params : Params
params = record {
  num_rs = 2;
  id_width = 3;
  rfr_width = 32;
  rfw_width = 32;
  num_harts = 1;
  hartid_width = 1;
  dual_read = 0;
  dual_write = false;
  split = true;
  profile = 1;
}

-- one unit with one accumulator: 0xb adds rs1 to it, 0x100b extracts 8 bits of rs1 from bit 0 on
abbrev unit : UnitTable
unit = record {
  accumulators = 1;
  entries =
      record { mask = 0x707f; matched = 0xb; op = AccAdd; acc = 0; low = 0; len = 32 }
      ∷ record { mask = 0x707f; matched = 0x100b; op = ExtractU; acc = 0; low = 0; len = 8 }
      ∷ [];
}

abbrev x : Extension
x = record { set = unit ∷ []; params = params }

-- addi x1,x0,5; extract x2,x1; beq x0,x0,16; on the wrong path: add x1 to the accumulator; ecall
abbrev words : List ℕ
words = 0x00500093 ∷ 0x0000910b ∷ 0x00000463 ∷ 0x0000800b ∷ 0x00000073 ∷ []

abbrev start : State
start = record {
  pc = 0;
  registers = replicate 32 0;
  memory = record { base = 0; bytes = flat_map (to_le_bytes w32) words };
  units = (7 ∷ []) ∷ [];
}

-- the predictor that always answers the address behind
abbrev never : (pc word : ℕ) → ℕ
never pc word = following pc

-- ---- the events, each at an instruction in flight by its place

abbrev spot : World → ℕ → Spot
spot w k = record {
  older = take k w.flight;
  item = slice_index_or w.flight k (new_item never 0 0 w);
  younger = drop (k + 1) w.flight;
}

abbrev dispatched : World
dispatched =
    run x (begun start) (Dispatches never 0 0 ∷ Dispatches never 1 0 ∷ Dispatches never 2 0 ∷ Dispatches never 3 1 ∷ [])

abbrev addi : Retire
addi = record { pc = 0; word = 0x00500093; next = 4; write = write.One 1 5; store = None }

abbrev executed : World
executed = happens x dispatched (Executes (spot dispatched 0) addi)

abbrev answered : World
answered = happens x executed (Answers (spot executed 1))

-- the low half of lane 0 has x1
abbrev halves : (lane : ℕ) → Half → ℕ
halves zero Low = 5
halves zero High = 0
halves (suc lane) half = 0

abbrev lanes : List ℕ
lanes = 5 ∷ 0 ∷ 0 ∷ []

abbrev sent : World
sent = happens x answered (Sends (spot answered 1) lanes)

abbrev wrong_answered : World
wrong_answered = happens x sent (Answers (spot sent 3))

abbrev cut : World
cut = happens x wrong_answered (Drops (take 3 wrong_answered.flight) (drop 3 wrong_answered.flight))

abbrev beq : Retire
beq = record { pc = 8; word = 0x00000463; next = 16; write = write.None; store = None }

abbrev turned : World
turned = happens x cut (Executes (spot cut 2) beq)

abbrev ahead : World
ahead = happens x turned (Dispatches never 4 0)

abbrev released : World
released = happens x ahead (Releases (spot ahead 1))

abbrev computed : World
computed = happens x released (Applies (spot released 1) lanes)

abbrev finished : World
finished = happens x computed (Finishes (spot computed 1) 5)

abbrev head_retires : World → World
head_retires w = happens x w (Retires (spot w 0).item (spot w 0).younger)

abbrev last : World
last = head_retires (head_retires (head_retires finished))

-- ---- all of them, and that each may happen where it does

abbrev events : List Event
events =
    Dispatches never 0 0 ∷ Dispatches never 1 0 ∷ Dispatches never 2 0 ∷ Dispatches never 3 1
    ∷ Executes (spot dispatched 0) addi
    ∷ Answers (spot executed 1)
    ∷ Sends (spot answered 1) lanes
    ∷ Answers (spot sent 3)
    ∷ Drops (take 3 wrong_answered.flight) (drop 3 wrong_answered.flight)
    ∷ Executes (spot cut 2) beq
    ∷ Dispatches never 4 0
    ∷ Releases (spot ahead 1)
    ∷ Applies (spot released 1) lanes
    ∷ Finishes (spot computed 1) 5
    ∷ Retires (spot finished 0).item (spot finished 0).younger
    ∷ Retires (spot (head_retires finished) 0).item (spot (head_retires finished) 0).younger
    ∷ Retires (spot (head_retires (head_retires finished)) 0).item (spot (head_retires (head_retires finished)) 0).younger
    ∷ []

unread : (lane : ℕ) → 2 ≤ lane → nat_lt lane 2 ≡ true → ⊥
unread lane h t = omega (arith, h, ltb-true lane 2 t)

-- of the word that was sent only the low half of lane 0 is read
read : (lane : ℕ) (half : Half) → is_read params 1 lane half ≡ true → half_behind false executed.registers (entries (spot answered 1).older) 0x0000910b lane half ≡ Here (halves lane half)
read zero Low h = refl
read zero High h = absurd cc
read (suc zero) Low h = absurd cc
read (suc zero) High h = absurd cc
read (suc (suc lane)) half h = absurd (unread (suc (suc lane)) (omega arith) (and_left (nat_lt (suc (suc lane)) 2) _ h))

refused : is_accepted None ≡ true → ⊥
refused h = cc

may_execute-addi : MayExecuteTo x dispatched (spot dispatched 0) addi
may_execute-addi = record {
  executes = record {
    here = refl;
    instr = record { row = Addi; rd = 1; rs1 = 0; rs2 = 5; imm = 5 };
    is_row = refl;
    not_done = refl;
    not_stopping = refl;
    a = 0;
    b = 0;
    rs1 = refl;
    rs2 = refl;
    stores = λ h. tt;
    outcome_is = refl;
  };
  path = (refl, (refl, (refl, tt)));
}

may_execute-beq : MayExecuteTo x cut (spot cut 2) beq
may_execute-beq = record {
  executes = record {
    here = refl;
    instr = record { row = Beq; rd = 8; rs1 = 0; rs2 = 0; imm = 8 };
    is_row = refl;
    not_done = refl;
    not_stopping = refl;
    a = 0;
    b = 0;
    rs1 = refl;
    rs2 = refl;
    stores = λ h. (refl, (refl, tt));
    outcome_is = refl;
  };
  path = tt;
}

may_run : MayRun x (begun start) events
may_run = (
  tt,
  (
    tt,
    (
      tt,
      (
        tt,
        (
          may_execute-addi,
          (
            record { here = refl; unanswered = refl; answered = (refl, tt) },
            (
              record { here = refl; halves = halves; lanes_are = refl; read = read },
              (
                record { here = refl; unanswered = refl; answered = (refl, (refl, (refl, tt))) },
                (
                  record { here = refl; unreleased = (refl, tt) },
                  (
                    may_execute-beq,
                    (
                      tt,
                      (
                        record { here = refl; accepted = refl; safe = (refl, tt) },
                        (
                          record { here = refl; released = refl; lanes_are = inl refl; is_new = refl; applied = (λ h. absurd (refused h), tt) },
                          (
                            record { here = refl; result_is = refl },
                            (
                              record { here = refl; done = refl; fetched = (refl, (refl, (refl, tt))) },
                              (
                                record { here = refl; done = refl; fetched = (refl, (refl, tt)) },
                                (
                                  record { here = refl; done = refl; fetched = (refl, tt) },
                                  tt,
                                ),
                              ),
                            ),
                          ),
                        ),
                      ),
                    ),
                  ),
                ),
              ),
            ),
          ),
        ),
      ),
    ),
  ),
)

-- ---- what they leave

last-run : run x (begun start) events ≡ last
last-run = refl

last-registers : take 3 last.registers ≡ 0 ∷ 5 ∷ 5 ∷ []
last-registers = refl

last-lines : map (λ l. l.pc) last.retired ≡ 8 ∷ 4 ∷ 0 ∷ []
last-lines = refl

-- the accumulator is as it was, and the machine stops
last-units : last.units ≡ (7 ∷ []) ∷ []
last-units = refl

last-stop : stop_in last.flight ≡ Some Ecall
last-stop = refl
