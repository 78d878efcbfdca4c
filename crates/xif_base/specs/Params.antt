-- The parameters of the interface (CV-X-IF 1.0.0, "Parameters"), and their ranges in this profile.
use Rattle.std.specs.Prelude.{◌≡◌, ◌≤◌, ◌<◌, ◌==◌, ◌&&◌, ◌||◌, ◌^◌, ◌⊎◌, ℕ, Bool, true, not, List, [], ◌∷◌, nat_lt, nat_le}
use Rattle.xif_base.specs.declared.params.Params.{Params}
use Rattle.xif_base.specs.declared.params.ParamFault.{ParamFault}
use Rattle.xif_base.specs.declared.params.ParamFault.TheVariants.{NumRs, IdWidth, RfrWidth, RfwWidth, NumHarts, HartidWidth, DualRead, Profile}

-- a register of the file has 32 bits; a port for register pairs has 64
abbrev pub IsPortWidth : ℕ → Type 0
IsPortWidth width = (width ≡ 32) ⊎ (width ≡ 64)

-- the parameters are in their ranges
pub record IsInRange (p : Params) : Type 0 where
  pub num_rs : (2 ≤ p.num_rs) × (p.num_rs ≤ 3)
  pub id_width : (3 ≤ p.id_width) × (p.id_width ≤ 12)
  pub rfr_width : IsPortWidth p.rfr_width
  pub rfr_pairs : 0 < p.dual_read → p.rfr_width ≡ 64
  pub rfw_width : IsPortWidth p.rfw_width
  pub rfw_pairs : p.dual_write ≡ true → p.rfw_width ≡ 64
  pub num_harts : (1 ≤ p.num_harts) × (p.num_harts ≤ 4)
  pub hartid_width : (1 ≤ p.hartid_width) × (p.hartid_width ≤ 8)
  -- each hart has an id of its own
  pub hartids : p.num_harts ≤ 2 ^ p.hartid_width
  pub dual_read : p.dual_read ≤ p.num_rs
  pub profile : (1 ≤ p.profile) × (p.profile ≤ 2)

-- the same as tests
abbrev pub within : ℕ → ℕ → ℕ → Bool
within low high n = nat_le low n && nat_le n high

abbrev pub is_port_width : Bool → ℕ → Bool
is_port_width pairs width = (width == 64) || (not pairs && (width == 32))

abbrev pub has_hartids : ℕ → ℕ → Bool
has_hartids width harts = within 1 8 width && nat_le harts (2 ^ width)

-- A line for each field that has a range, in the order of the fields: its test, and the fault if
-- the test fails.
abbrev pub ranges : Params → List (Bool × ParamFault)
ranges p =
    (within 2 3 p.num_rs, NumRs)
    ∷ (within 3 12 p.id_width, IdWidth)
    ∷ (is_port_width (nat_lt 0 p.dual_read) p.rfr_width, RfrWidth)
    ∷ (is_port_width p.dual_write p.rfw_width, RfwWidth)
    ∷ (within 1 4 p.num_harts, NumHarts)
    ∷ (has_hartids p.hartid_width p.num_harts, HartidWidth)
    ∷ (within 0 p.num_rs p.dual_read, DualRead)
    ∷ (within 1 2 p.profile, Profile)
    ∷ []
