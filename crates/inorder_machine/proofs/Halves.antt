-- The halves of a lane are found again.
use Rattle.std.proofs.Common.{◌≡◌, ◌<◌, ◌+◌, ◌*◌, ◌^◌, ◌==◌, ℕ, Bool, true, false, Option, Some, None, refl, ap, ◌∙◌, arith, lit<, if◌then◌else◌}
use Rattle.std.specs.Option.{option_map_or}
use Rattle.rv32_table.specs.Instr.{source_field}
use Rattle.xif_base.specs.declared.params.Params.{Params}
use Rattle.coproc_config.specs.Bits.{low_half, high_half}
use Rattle.inorder_machine.specs.declared.units.Half.TheVariants.{Low, High}
use Rattle.inorder_machine.specs.Units.{is_read, half_register, half_of, lane_of}

carried-small : (f : ℕ → ℕ) (read : Bool) (register : Option ℕ) → ((i : ℕ) → f i < 2 ^ 32) → (if read then option_map_or f register 0 else 0) < 2 ^ 32
carried-small f false register h = lit< tt
carried-small f true None h = lit< tt
carried-small f true (Some r) h = h r

low_half-lane : (low high : ℕ) → low < 2 ^ 32 → low_half (low + 2 ^ 32 * high) ≡ low
low_half-lane low high h = omega (arith, h)

high_half-lane : (low high : ℕ) → low < 2 ^ 32 → high_half (low + 2 ^ 32 * high) ≡ high
high_half-lane low high h = omega (arith, h)

behind-of : (f : ℕ → ℕ) (zero : Bool) (r : ℕ) → option_map_or f (if zero then None else Some r) 0 ≡ (if zero then 0 else f r)
behind-of f true r = refl
behind-of f false r = refl

pub low_carried : (p : Params) (f : ℕ → ℕ) (word flags lane : ℕ) → ((i : ℕ) → f i < 2 ^ 32) → is_read p flags lane Low ≡ true
    → low_half (lane_of p f word flags lane) ≡ f (source_field word lane)
low_carried p f word flags lane h read =
    low_half-lane (half_of p f word flags lane Low) (half_of p f word flags lane High) (carried-small f (is_read p flags lane Low) (half_register (source_field word lane) Low) h)
    ∙ ap (λ b. if b then f (source_field word lane) else 0) read

pub high_carried : (p : Params) (f : ℕ → ℕ) (word flags lane : ℕ) → ((i : ℕ) → f i < 2 ^ 32) → is_read p flags lane High ≡ true
    → high_half (lane_of p f word flags lane) ≡ (if source_field word lane == 0 then 0 else f (source_field word lane + 1))
high_carried p f word flags lane h read =
    high_half-lane (half_of p f word flags lane Low) (half_of p f word flags lane High) (carried-small f (is_read p flags lane Low) (half_register (source_field word lane) Low) h)
    ∙ ap (λ b. if b then option_map_or f (half_register (source_field word lane) High) 0 else 0) read
    ∙ behind-of f (source_field word lane == 0) (source_field word lane + 1)

pub low_unread : (p : Params) (f : ℕ → ℕ) (word flags lane : ℕ) → is_read p flags lane Low ≡ false → low_half (lane_of p f word flags lane) ≡ 0
low_unread p f word flags lane unread =
    ap (λ b. low_half ((if b then f (source_field word lane) else 0) + 2 ^ 32 * half_of p f word flags lane High)) unread
    ∙ low_half-lane 0 (half_of p f word flags lane High) (lit< tt)

pub high_unread : (p : Params) (f : ℕ → ℕ) (word flags lane : ℕ) → ((i : ℕ) → f i < 2 ^ 32) → is_read p flags lane High ≡ false → high_half (lane_of p f word flags lane) ≡ 0
high_unread p f word flags lane h unread =
    high_half-lane (half_of p f word flags lane Low) (half_of p f word flags lane High) (carried-small f (is_read p flags lane Low) (half_register (source_field word lane) Low) h)
    ∙ ap (λ b. if b then option_map_or f (half_register (source_field word lane) High) 0 else 0) unread
