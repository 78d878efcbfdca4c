use Rattle.core_laws.proofs.Whole.{core-half}
use Rattle.core_laws.proofs.laws.core_law.Goals as goal

pub returns : goal.returns
returns c = λ params script window memory entry hart range bytes below w session x e cop. core-half params script window memory entry hart range bytes below w session x e cop
