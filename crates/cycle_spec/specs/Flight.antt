-- The instructions in flight, the oldest first: what their list says, and how an entry of it
-- changes.
use Rattle.std.specs.Prelude.{ℕ, ◌+◌, ◌%◌, ◌==◌, ◌&&◌, ◌||◌, not, nat_le, Bool, true, false, if◌then◌else◌, Option, Some, None, is_some, is_none, unwrap_or, List, [], ◌∷◌, ◌++◌, length, filter, find}
use Rattle.std.specs.Option.{option_map_or}
use Rattle.std.specs.List.{list_any, last_or, range_with_len}
use Rattle.rv32_table.specs.declared.instr.Instr.{Instr}
use Rattle.rv32_table.specs.declared.instr.Kind.{Kind}
use Rattle.rv32_table.specs.declared.instr.Kind.TheVariants as row
use Rattle.rv32_table.specs.Instr.{decoded, kind_of, sources_of, target_of, rd_field}
use Rattle.xif_drive.specs.Predictors.{following}
use Rattle.inorder_machine.specs.declared.line.Retire.{Retire}
use Rattle.inorder_machine.specs.declared.line.Stepped.{Stepped}
use Rattle.inorder_machine.specs.declared.line.Stepped.TheVariants.{Retired, Stop}
use Rattle.inorder_machine.specs.declared.line.Write.{Write}
use Rattle.inorder_machine.specs.declared.line.Write.TheVariants as write
use Rattle.inorder_machine.specs.declared.stop.StopCause.{StopCause}
use Rattle.inorder_machine.specs.declared.stop.StopCause.TheVariants.{Illegal, FetchOutside}
use Rattle.inorder_machine.specs.Execute.{cause_of}
use Rattle.inorder_machine.specs.Machine.{register_in}
use Rattle.inorder_machine.specs.Units.{has_flag}
use Rattle.xif_session.specs.declared.fact.Response.{Response}
use Rattle.xif_session.specs.Facts.{is_accepted}
use Rattle.cycle_spec.specs.declared.entry.Entry.{Entry}
use Rattle.cycle_spec.specs.declared.entry.EntryKind.{EntryKind}
use Rattle.cycle_spec.specs.declared.entry.EntryKind.TheVariants.{Local, Unknown, Nowhere}
use Rattle.cycle_spec.specs.declared.entry.Operand.{Operand}
use Rattle.cycle_spec.specs.declared.entry.Operand.TheVariants.{Here, NotYet}

-- ---- what an entry is

abbrev pub is_unknown_kind : EntryKind → Bool
is_unknown_kind (Local i) = false
is_unknown_kind Unknown = true
is_unknown_kind Nowhere = false

abbrev pub is_unknown : Entry → Bool
is_unknown e = is_unknown_kind e.kind

-- it is an instruction of RV32IM of such a kind
abbrev pub is_row : (Kind → Bool) → EntryKind → Bool
is_row test (Local i) = test (kind_of i)
is_row test Unknown = false
is_row test Nowhere = false

abbrev pub is_load_row : Kind → Bool
is_load_row row.Load = true
is_load_row _ = false

abbrev pub is_store_row : Kind → Bool
is_store_row row.Store = true
is_store_row _ = false

abbrev pub is_control_row : Kind → Bool
is_control_row row.Control = true
is_control_row _ = false

abbrev pub is_store : Entry → Bool
is_store e = is_row is_store_row e.kind

abbrev pub is_control : Entry → Bool
is_control e = is_row is_control_row e.kind

abbrev pub is_stopping : Entry → Bool
is_stopping e = is_some e.stop

-- an unknown word that had no issue handshake
abbrev pub is_open : Entry → Bool
is_open e = is_unknown e && is_none e.response

-- a use that had its issue handshake, accepted or refused, and that no commit released; a killed
-- one is no longer in flight
abbrev pub is_pending : Entry → Bool
is_pending e = is_some e.response && not e.released

-- an accepted use that no commit released
abbrev pub is_undecided : Entry → Bool
is_undecided e = is_accepted e.response && not e.released

-- an accepted use that reads registers, and had no register handshake
abbrev pub reads_registers : Option Response → Bool
reads_registers None = false
reads_registers (Some response) = response.accept && not (response.register_read.0 == 0)

abbrev pub is_waiting : Entry → Bool
is_waiting e = reads_registers e.response && not e.operands_sent

-- ---- the entries around a number

abbrev pub has_seq : ℕ → Entry → Bool
has_seq seq e = e.seq == seq

-- those older than the entry of a number
abbrev pub older_than : ℕ → List Entry → List Entry
older_than seq [] = []
older_than seq (e ∷ es) = if has_seq seq e then [] else e ∷ older_than seq es

-- how many there are up to the entry of a number, with itself
abbrev pub count_through : ℕ → List Entry → ℕ
count_through seq es = length (older_than seq es) + 1

-- ---- registers

-- An unknown word may write rd, and with X_DUALWRITE the register behind an even rd, until its
-- response says which of them it writes (CV-X-IF 1.0.0, `writeback` of the issue response). With a
-- response it writes nothing where rd is x0.
abbrev pub may_write_word : (dual_write : Bool) → Option Response → (rd r : ℕ) → Bool
may_write_word dual_write None rd r =
    (r == rd) || (dual_write && ((rd % 2 == 0) && (r == rd + 1)))
may_write_word dual_write (Some response) rd r =
    not (rd == 0)
    && ((has_flag response.writeback.0 0 && (r == rd))
    || (has_flag response.writeback.0 1 && (r == rd + 1)))

abbrev pub may_write_kind : (dual_write : Bool) → EntryKind → Entry → (r : ℕ) → Bool
may_write_kind dual_write (Local i) e r = option_map_or (λ rd. rd == r) (target_of i) false
may_write_kind dual_write Unknown e r = may_write_word dual_write e.response (rd_field e.word) r
may_write_kind dual_write Nowhere e r = false

-- an entry may write a register; none writes x0
abbrev pub may_write : (dual_write : Bool) → (r : ℕ) → Entry → Bool
may_write dual_write r e = not (r == 0) && may_write_kind dual_write e.kind e r

abbrev pub youngest_writer : (dual_write : Bool) → List Entry → (r : ℕ) → Option Entry
youngest_writer dual_write es r = last_or None (filter (may_write dual_write r) es)

-- what a write leaves in a register that it names
abbrev pub value_in : Write → (r : ℕ) → ℕ
value_in write.None r = 0
value_in (write.One rd value) r = value
value_in (write.Pair rd low high) r = if r == rd then low else high

abbrev pub operand_from : (registers : List ℕ) → Option Entry → (r : ℕ) → Operand
operand_from registers None r = Here (register_in registers r)
operand_from registers (Some e) r = if e.done then Here (value_in e.write r) else NotYet

-- A register behind entries: what the youngest that may write it leaves there, and without one what
-- the register file has.
abbrev pub operand_behind
    : (dual_write : Bool) → (registers : List ℕ) → (older : List Entry) → (r : ℕ) → Operand
operand_behind dual_write registers older r =
    operand_from registers (youngest_writer dual_write older r) r

-- a register as the entry of a number reads it
abbrev pub operand_at
    : (dual_write : Bool) → (registers : List ℕ) → List Entry → (seq r : ℕ) → Operand
operand_at dual_write registers es seq r =
    operand_behind dual_write registers (older_than seq es) r

abbrev pub is_here : Operand → Bool
is_here (Here value) = true
is_here NotYet = false

abbrev pub value_or_zero : Operand → ℕ
value_or_zero (Here value) = value
value_or_zero NotYet = 0

-- a source of an instruction of RV32IM; one that it doesn't read is 0
abbrev pub source_behind
    : (dual_write : Bool) → (registers : List ℕ) → (older : List Entry) → Option ℕ → Operand
source_behind dual_write registers older None = Here 0
source_behind dual_write registers older (Some r) =
    operand_behind dual_write registers older r

-- ---- execution

abbrev pub are_sources_here
    : (dual_write : Bool) → (registers : List ℕ) → (older : List Entry) → Instr → Bool
are_sources_here dual_write registers older i =
    is_here (source_behind dual_write registers older (sources_of i).0)
    && is_here (source_behind dual_write registers older (sources_of i).1)

-- A load waits until no older store is in flight, and a control transfer until each older use that
-- had its issue handshake is decided: so no cut leaves an older use undecided.
abbrev pub is_held_back : Kind → (older : List Entry) → Bool
is_held_back row.Load older = list_any is_store older
is_held_back row.Control older = list_any is_pending older
is_held_back _ older = false

abbrev pub may_execute_kind
    : (dual_write : Bool) → (registers : List ℕ) → (older : List Entry) → EntryKind → Bool
may_execute_kind dual_write registers older (Local i) =
    are_sources_here dual_write registers older i && not (is_held_back (kind_of i) older)
may_execute_kind dual_write registers older Unknown = false
may_execute_kind dual_write registers older Nowhere = false

-- an instruction of RV32IM may execute behind older entries
abbrev pub may_execute
    : (dual_write : Bool) → (registers : List ℕ) → (older : List Entry) → Entry → Bool
may_execute dual_write registers older e =
    not (e.done || is_stopping e) && may_execute_kind dual_write registers older e.kind

abbrev pub ready_behind
    : (dual_write : Bool) → (registers : List ℕ) → (older : List Entry) → List Entry → Option Entry
ready_behind dual_write registers older [] = None
ready_behind dual_write registers older (e ∷ es) =
    if may_execute dual_write registers older e
    then Some e
    else ready_behind dual_write registers (older ++ e ∷ []) es

-- the oldest entry that may execute
abbrev pub ready_oldest : (dual_write : Bool) → (registers : List ℕ) → List Entry → Option Entry
ready_oldest dual_write registers es = ready_behind dual_write registers [] es

-- ---- what is certain to retire

-- whether what is younger than an instruction of RV32IM may be released: a store may still cut it
abbrev pub is_safe_row : Kind → (done : Bool) → Bool
is_safe_row row.Load done = done
is_safe_row row.Control done = done
is_safe_row row.Store done = false
is_safe_row _ done = true

abbrev pub is_safe_kind : EntryKind → Entry → Bool
is_safe_kind (Local i) e = is_safe_row (kind_of i) e.done
is_safe_kind Unknown e = is_accepted e.response
is_safe_kind Nowhere e = false

-- an entry neither stops nor cuts what is younger
abbrev pub is_safe : Entry → Bool
is_safe e = not (is_stopping e) && is_safe_kind e.kind e

-- the entries all of whose older ones are safe
abbrev pub behind_safe : List Entry → List Entry
behind_safe [] = []
behind_safe (e ∷ es) = e ∷ (if is_safe e then behind_safe es else [])

-- the youngest use that may be released
abbrev pub certain : List Entry → Option Entry
certain es = last_or None (filter is_undecided (behind_safe es))

-- the youngest released use
abbrev pub youngest_released : List Entry → Option Entry
youngest_released es = last_or None (filter (λ e. e.released) es)

-- ---- ids: only unknown words hold one

abbrev pub holds_id : (id : ℕ) → Entry → Bool
holds_id id e = is_unknown e && (e.id == id)

-- the least id that is free
abbrev pub free_id : List Entry → ℕ
free_id es =
    unwrap_or (find (λ id. not (list_any (holds_id id) es)) (range_with_len 0 (length es + 1))) 0

-- ---- the changes of an entry, by its number

-- it has its response; a refused word stops the machine
abbrev pub with_response : (seq : ℕ) → Response → Entry → Entry
with_response seq response e = record e {
  response = if has_seq seq e then Some response else e.response;
  stop = if has_seq seq e && not response.accept then Some Illegal else e.stop;
}

-- its source registers are sent
abbrev pub with_sent : (seq : ℕ) → Entry → Entry
with_sent seq e = record e { operands_sent = e.operands_sent || has_seq seq e }

-- each accepted use up to the number is released
abbrev pub with_release : (seq : ℕ) → Entry → Entry
with_release seq e = record e {
  released = e.released || (nat_le e.seq seq && is_accepted e.response);
}

-- it is done, with the result of a coprocessor
abbrev pub with_result : (seq : ℕ) → Write → Entry → Entry
with_result seq written e = record e {
  done = e.done || has_seq seq e;
  write = if has_seq seq e then written else e.write;
}

-- it is done, with what it does when it retires
abbrev pub with_line : (seq : ℕ) → Retire → Entry → Entry
with_line seq line e = record e {
  done = e.done || has_seq seq e;
  write = if has_seq seq e then line.write else e.write;
  store = if has_seq seq e then line.store else e.store;
  next = if has_seq seq e then line.next else e.next;
}

-- it stops the machine
abbrev pub with_stop : (seq : ℕ) → StopCause → Entry → Entry
with_stop seq cause e = record e { stop = if has_seq seq e then Some cause else e.stop }

abbrev pub with_outcome : (seq : ℕ) → Stepped → Entry → Entry
with_outcome seq (Retired line) = with_line seq line
with_outcome seq (Stop cause) = with_stop seq cause

-- ---- a new entry

abbrev pub kind_by : Option Instr → EntryKind
kind_by None = Unknown
kind_by (Some i) = Local i

-- by the word in the memory, if there is one
abbrev pub kind_at : Option ℕ → EntryKind
kind_at None = Nowhere
kind_at (Some word) = kind_by (decoded word)

abbrev pub stop_row : Kind → StopCause → Option StopCause
stop_row row.Stop cause = Some cause
stop_row _ cause = None

-- what stops the machine from the dispatch on
abbrev pub stop_by : EntryKind → Option StopCause
stop_by (Local i) = stop_row (kind_of i) (cause_of i.row)
stop_by Unknown = None
stop_by Nowhere = Some FetchOutside

abbrev pub new_entry : (seq pc : ℕ) → EntryKind → (word predicted id : ℕ) → Entry
new_entry seq pc kind word predicted id = record {
  seq = seq;
  pc = pc;
  word = word;
  kind = kind;
  predicted = predicted;
  id = id;
  stop = stop_by kind;
  done = false;
  write = write.None;
  store = None;
  next = following pc;
  response = None;
  operands_sent = false;
  released = false;
}
