-- The core presents each half that a word reads.
use Rattle.std.proofs.Common.{◌≡◌, ◌+◌, ◌/◌, ◌%◌, ◌^◌, ◌==◌, ◌&&◌, ℕ, Bool, true, false, nat_lt, Some, None, IsSomeAnd, refl, ap, ◌∙◌, if◌then◌else◌}
use Rattle.std.specs.Option.{option_map_or}
use Rattle.std.proofs.lemmas.Bool.{eqb-true, eq-eqb}
use Rattle.xif_base.specs.declared.params.Params.{Params}
use Rattle.xif_base.specs.Params.{IsInRange}
use Rattle.xif_base.specs.Flags.{even_bit, odd_bit}
use Rattle.rv32_table.specs.Instr.{source_field}
use Rattle.coproc_config.specs.declared.accept.Hit.{Hit}
use Rattle.coproc_config.specs.Accept.{HasFlag, hit_of}
use Rattle.inorder_machine.specs.declared.units.Half.{Half}
use Rattle.inorder_machine.specs.declared.units.Half.TheVariants.{Low, High}
use Rattle.inorder_machine.specs.Units.{has_flag, is_read}
use Rattle.cycle_spec.specs.Choices.{has_half}
use Rattle.ahead_laws.proofs.Lists.{and_left, and_right}
use Rattle.ahead_laws.proofs.Hits.{hit-allowed}

high-there : (b : Bool) (bit flags : ℕ) → option_map_or (has_flag flags) (if b then Some bit else None) false ≡ true → (b ≡ true) × IsSomeAnd (if b then Some bit else None) (HasFlag flags)
high-there true bit flags h = (refl, eqb-true (flags / 2 ^ bit % 2) 1 h)
high-there false bit flags h = absurd cc

pub read-there : (p : Params) (units : _) (word : ℕ) (hit : Hit) (lane : ℕ) (half : Half) → IsInRange p → hit_of units p word ≡ Some hit → is_read p hit.register_read.0 lane half ≡ true → has_half p word lane half ≡ true
read-there p units word hit lane Low range e h = and_left (nat_lt lane p.num_rs) (has_flag hit.register_read.0 (even_bit p lane)) h
read-there p units word hit lane High range e h =
    let flag = and_right (nat_lt lane p.num_rs) (option_map_or (has_flag hit.register_read.0) (odd_bit p lane) false) h in
    let there = high-there (nat_lt lane p.dual_read) (even_bit p lane + 1) hit.register_read.0 flag in
    let even = ((hit-allowed units p word hit range e).read_pairs lane there.1).1 in
    ap (λ b. b && (source_field word lane % 2 == 0)) there.0 ∙ eq-eqb (source_field word lane % 2) 0 even
