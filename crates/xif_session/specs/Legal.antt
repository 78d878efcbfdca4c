-- Which rule holds in a cycle, who owes it, and which sessions are legal.
use Rattle.std.specs.Prelude.{ℕ, ◌≡◌, ◌<◌, List, [], ◌∷◌}
use Rattle.xif_base.specs.declared.params.Params.{Params}
use Rattle.xif_signals.specs.declared.bus.Bus.{Bus}
use Rattle.xif_signals.specs.declared.rule.Channel.TheVariants.{Issue, Register, Commit, Result as ResultChannel}
use Rattle.xif_signals.specs.declared.rule.Rule.{Rule}
use Rattle.xif_signals.specs.declared.rule.Rule.TheVariants.{K1, K2, H1, I1, I2, I3, I4, I5, G1, G2, G3, G4, G5, C1, C2, C3, R1, R2, R3, R4, R5, R6}
use Rattle.xif_session.specs.Facts.{Past, past_of}
use Rattle.xif_session.specs.Rules.{HasHart, HoldsH1, HoldsI1, HoldsI2, HoldsI3, HoldsI4, HoldsI5, HoldsG1Core, HoldsG1Engine, HoldsG1, HoldsG2, HoldsG3, HoldsG4, HoldsG5, HoldsC1, HoldsC2, HoldsC3, HoldsR1, HoldsR2, HoldsR3, HoldsR4, HoldsR5, HoldsR6}

-- A rule holds of a bus. K1 and K2 ask which bits of a sample are known; a bus has no unknown bit.
abbrev pub Holds : Params → Rule → Past → Bus → Type 0
Holds params K1 p b = Unit {0}
Holds params K2 p b = Unit {0}
Holds params H1 p b = HoldsH1 params b
Holds params I1 p b = HoldsI1 p b
Holds params I2 p b = HoldsI2 params p b
Holds params I3 p b = HoldsI3 b
Holds params I4 p b = HoldsI4 params b
Holds params I5 p b = HoldsI5 params b
Holds params G1 p b = HoldsG1 params b
Holds params G2 p b = HoldsG2 p b
Holds params G3 p b = HoldsG3 p b
Holds params G4 p b = HoldsG4 params p b
Holds params G5 p b = HoldsG5 p b
Holds params C1 p b = HoldsC1 p b
Holds params C2 p b = HoldsC2 p b
Holds params C3 p b = HoldsC3 params p b
Holds params R1 p b = HoldsR1 p b
Holds params R2 p b = HoldsR2 p b
Holds params R3 p b = HoldsR3 p b
Holds params R4 p b = HoldsR4 p b
Holds params R5 p b = HoldsR5 p b
Holds params R6 p b = HoldsR6 p b

-- the place of a rule in the order in which they are judged
abbrev pub rule_number : Rule → ℕ
rule_number K1 = 0
rule_number K2 = 1
rule_number H1 = 2
rule_number I1 = 3
rule_number I2 = 4
rule_number I3 = 5
rule_number I4 = 6
rule_number I5 = 7
rule_number G1 = 8
rule_number G2 = 9
rule_number G3 = 10
rule_number G4 = 11
rule_number G5 = 12
rule_number C1 = 13
rule_number C2 = 14
rule_number C3 = 15
rule_number R1 = 16
rule_number R2 = 17
rule_number R3 = 18
rule_number R4 = 19
rule_number R5 = 20
rule_number R6 = 21

abbrev pub IsBefore : Rule → Rule → Type 0
IsBefore earlier rule = rule_number earlier < rule_number rule

-- ---- who owes which rule

pub record CoreKeeps (params : Params) (p : Past) (b : Bus) : Type 0 where
  pub issue_hart : HasHart params b Issue
  pub register_hart : HasHart params b Register
  pub commit_hart : HasHart params b Commit
  pub i1 : HoldsI1 p b
  pub i2 : HoldsI2 params p b
  pub g1 : HoldsG1Core params b
  pub g2 : HoldsG2 p b
  pub g3 : HoldsG3 p b
  pub g4 : HoldsG4 params p b
  pub c1 : HoldsC1 p b
  pub c2 : HoldsC2 p b
  pub c3 : HoldsC3 params p b

pub record EngineKeeps (params : Params) (p : Past) (b : Bus) : Type 0 where
  pub result_hart : HasHart params b ResultChannel
  pub i3 : HoldsI3 b
  pub i4 : HoldsI4 params b
  pub i5 : HoldsI5 params b
  pub g1 : HoldsG1Engine params b
  pub g5 : HoldsG5 p b
  pub r1 : HoldsR1 p b
  pub r2 : HoldsR2 p b
  pub r3 : HoldsR3 p b
  pub r4 : HoldsR4 p b
  pub r5 : HoldsR5 p b
  pub r6 : HoldsR6 p b

-- ---- a session

-- each cycle, of what came before it and of its bus
abbrev pub EachCycle : (Past → Bus → Type 0) → List Bus → Type 0
EachCycle P [] = Unit {0}
EachCycle P (b ∷ session) = P (past_of session) b × EachCycle P session

-- every rule holds
abbrev pub HoldsAll : Params → Past → Bus → Type 0
HoldsAll params p b = (rule : Rule) → Holds params rule p b

-- A session is legal where every rule holds in each cycle.
abbrev pub IsLegalSession : Params → List Bus → Type 0
IsLegalSession params session = EachCycle (HoldsAll params) session
