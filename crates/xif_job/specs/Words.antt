-- The words that a job file has for the variants of an enum.
use Rattle.std.specs.Prelude.{ℕ, List, [], ◌∷◌, codes}
use Rattle.coproc_config.specs.declared.operation.Op.{Op}
use Rattle.coproc_config.specs.declared.operation.Op.TheVariants as ops
use Rattle.xif_job.specs.declared.image.ImageKind.{ImageKind}
use Rattle.xif_job.specs.declared.image.ImageKind.TheVariants as images
use Rattle.xif_job.specs.declared.predictor.KindName.{KindName}
use Rattle.xif_job.specs.declared.predictor.KindName.TheVariants as kinds

abbrev pub image_kinds : List (List ℕ × ImageKind)
image_kinds = (codes "text", images.Text) ∷ (codes "raw", images.Raw) ∷ []

abbrev pub predictors : List (List ℕ × KindName)
predictors =
    (codes "never", kinds.Never)
    ∷ (codes "backward", kinds.Backward)
    ∷ (codes "bimodal", kinds.Bimodal)
    ∷ (codes "listed", kinds.Listed)
    ∷ []

abbrev pub operations : List (List ℕ × Op)
operations =
    (codes "extract_u", ops.ExtractU)
    ∷ (codes "extract_s", ops.ExtractS)
    ∷ (codes "insert", ops.Insert)
    ∷ (codes "reverse", ops.Reverse)
    ∷ (codes "ones", ops.Ones)
    ∷ (codes "merge", ops.Merge)
    ∷ (codes "acc_clear", ops.AccClear)
    ∷ (codes "acc_add", ops.AccAdd)
    ∷ (codes "acc_mac", ops.AccMac)
    ∷ (codes "acc_read_low", ops.AccReadLow)
    ∷ (codes "acc_read_high", ops.AccReadHigh)
    ∷ (codes "acc_swap", ops.AccSwap)
    ∷ (codes "pair_add", ops.PairAdd)
    ∷ (codes "pair_mul", ops.PairMul)
    ∷ (codes "pair_read", ops.PairRead)
    ∷ (codes "pair_sum", ops.PairSum)
    ∷ []
