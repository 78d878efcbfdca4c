-- Which entry takes a word, and what it reads and writes.
use Rattle.std.specs.Prelude.{◌≡◌, ◌<◌, ◌==◌, ◌&&◌, ◌⊎◌, ◌++◌, ◌+◌, ◌/◌, ◌%◌, ◌^◌, ℕ, Bool, true, List, Option, Some, None, IsSomeAnd, find, map, nat_lt, bit_and, bit_or, slice_get}
use Rattle.std.specs.List.{fold, list_all}
use Rattle.std.specs.Option.{option_map}
use Rattle.rv32_table.specs.Instr.{rd_field, source_field}
use Rattle.xif_base.specs.declared.params.Params.{Params}
use Rattle.xif_base.specs.Flags.{even_bit, odd_bit}
use Rattle.coproc_config.specs.declared.operation.Entry.{Entry}
use Rattle.coproc_config.specs.declared.operation.Reads.{Reads}
use Rattle.coproc_config.specs.declared.operation.Writes.{Writes}
use Rattle.coproc_config.specs.declared.operation.Writes.TheVariants as writes
use Rattle.coproc_config.specs.declared.accept.Hit.{Hit}
use Rattle.coproc_config.specs.Table.{operation_line, lanes_read, pairs_read, write_flags}
use Rattle.coproc_config.specs.Set.{UnitTable, Place, places}

abbrev pub is_even : ℕ → Bool
is_even n = n % 2 == 0

-- the lanes are there, and the pairs too, whose first registers are even
abbrev pub can_read : Params → ℕ → Reads → Bool
can_read p word reads =
    list_all (λ lane. nat_lt lane p.num_rs) (lanes_read reads)
    && list_all (λ lane. nat_lt lane p.dual_read && is_even (source_field word lane))
    (pairs_read reads)

-- a pair can be written, whose first register is even
abbrev pub can_write : Params → ℕ → Writes → Bool
can_write p word writes.Nothing = true
can_write p word writes.One = true
can_write p word writes.Pair = p.dual_write && is_even (rd_field word)

-- an entry takes a word: its bits under the mask are the match, and the parameters allow it
abbrev pub takes : Params → ℕ → Entry → Bool
takes p word e =
    (bit_and word e.mask == e.matched)
    && (can_read p word (operation_line e.op).reads
    && can_write p word (operation_line e.op).writes)

-- the number that has this bit alone
abbrev pub flag_of : Option ℕ → ℕ
flag_of None = 0
flag_of (Some bit) = 2 ^ bit

-- the union of flags
abbrev pub union_of : List ℕ → ℕ
union_of flags = fold bit_or 0 flags

-- the flags of the halves that are read
abbrev pub read_flags : Params → Reads → ℕ
read_flags p reads =
    union_of (map (λ lane. flag_of (Some (even_bit p lane))) (lanes_read reads)
    ++ map (λ lane. flag_of (odd_bit p lane)) (pairs_read reads))

-- a set of flags has the flag of this bit
abbrev pub HasFlag : ℕ → ℕ → Type 0
HasFlag flags bit = flags / 2 ^ bit % 2 ≡ 1

-- it has the flag of a lane's low half, of its high half
abbrev pub ReadsLow : Params → ℕ → ℕ → Type 0
ReadsLow p flags lane = HasFlag flags (even_bit p lane)

abbrev pub ReadsHigh : Params → ℕ → ℕ → Type 0
ReadsHigh p flags lane = IsSomeAnd (odd_bit p lane) (HasFlag flags)

abbrev pub hit_at : Params → Place → Hit
hit_at p place = record {
  unit = place.unit;
  entry = place.entry;
  register_read = record { 0 = read_flags p (operation_line place.row.op).reads };
  writeback = record { 0 = write_flags (operation_line place.row.op).writes };
}

-- the first entry that takes a word, in unit order and then entry order
abbrev pub hit_of : List UnitTable → Params → ℕ → Option Hit
hit_of units p word = option_map (hit_at p) (find (λ place. takes p word place.row) (places units))

abbrev pub entry_in : Option UnitTable → ℕ → Option Entry
entry_in None i = None
entry_in (Some unit) i = slice_get unit.entries i

-- the entry that a hit names
abbrev pub entry_at : List UnitTable → Hit → Option Entry
entry_at units hit = entry_in (slice_get units hit.unit) hit.entry

-- there is the entry that is named, it takes the word, and a hit has the flags of what it reads
-- and writes
pub record HasFlagsOf (named : Option Entry) (p : Params) (word : ℕ) (hit : Hit) : Type 0 where
  pub entry : Entry
  pub there : named ≡ Some entry
  pub taken : takes p word entry ≡ true
  pub reads : hit.register_read.0 ≡ read_flags p (operation_line entry.op).reads
  pub writes : hit.writeback.0 ≡ write_flags (operation_line entry.op).writes

-- a hit is an issue response that the interface allows for a word (CV-X-IF 1.0.0, section
-- "Issue interface")
pub record IsAllowed (p : Params) (word : ℕ) (hit : Hit) : Type 0 where
  -- `register_read` has X_NUM_RS + X_DUALREAD bits
  pub reads : hit.register_read.0 < 2 ^ (p.num_rs + p.dual_read)
  -- a high half is read with the low one, from a pair whose first register is even
  pub read_pairs : (lane : ℕ) → ReadsHigh p hit.register_read.0 lane
      → ReadsLow p hit.register_read.0 lane × (source_field word lane % 2 ≡ 0)
  -- nothing is written, or rd, or the pair that begins there
  pub writes : (hit.writeback.0 ≡ 0) ⊎ ((hit.writeback.0 ≡ 1) ⊎ (hit.writeback.0 ≡ 3))
  -- a pair is written only with X_DUALWRITE, to an even register
  pub write_pairs : hit.writeback.0 ≡ 3 → (p.dual_write ≡ true) × (rd_field word % 2 ≡ 0)
