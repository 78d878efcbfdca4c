-- The ranges that the fields of a job keep.
use Rattle.std.specs.Prelude.{◌≡◌, ◌≢◌, ◌≤◌, ◌+◌, ◌%◌, ◌^◌, ℕ, ⊤, length}
use Rattle.coproc_config.specs.Check.{IsLawful}
use Rattle.xif_base.specs.Params.{IsInRange}
use Rattle.xif_drive.specs.Scripts.{IsLawful as IsLawfulScript}
use Rattle.xif_job.specs.declared.job.Job.{Job}
use Rattle.xif_job.specs.declared.predictor.Kind.{Kind}
use Rattle.xif_job.specs.declared.predictor.Kind.TheVariants.{Bimodal, Listed}

-- a memory's first address and its size, in bytes
pub record IsLawfulMemory (base size : ℕ) : Type 0 where
  pub base_aligned : base % 4 ≡ 0
  pub size_aligned : size % 4 ≡ 0
  pub at_least : 4 ≤ size
  pub at_most : size ≤ 1048576
  pub ends_within : base + size ≤ 2 ^ 32

-- a window, in instructions, where an id has so many bits
pub record IsLawfulWindow (id_width window : ℕ) : Type 0 where
  pub at_least : 1 ≤ window
  pub at_most : window ≤ 32
  pub has_ids : window ≤ 2 ^ id_width

-- what the kind of a predictor has: the bits of a place among its counters, or its addresses
abbrev pub IsLawfulKind : Kind → Type 0
IsLawfulKind (Bimodal bits) = (1 ≤ bits) × (bits ≤ 12)
IsLawfulKind (Listed targets) = (1 ≤ length targets) × (length targets ≤ 64)
IsLawfulKind kind = ⊤

-- a budget, in cycles or retirements
pub record IsLawfulBudget (budget : ℕ) : Type 0 where
  pub at_least : 1 ≤ budget
  pub at_most : budget ≤ 200000

-- what holds of every job that is read
pub record IsLawfulJob (job : Job) : Type 0 where
  pub in_range : IsInRange job.params
  pub lawful : IsLawful job.set
  pub memory : IsLawfulMemory job.base job.size
  pub entry : job.entry % 4 ≡ 0
  pub window : IsLawfulWindow job.params.id_width job.window
  pub budget : IsLawfulBudget job.budget
  pub predictor : IsLawfulKind job.predictor
  pub script : IsLawfulScript job.script
  pub trace_differs : job.trace ≢ job.image.file
  pub log_differs : job.log ≢ job.image.file
  pub texts_differ : job.log ≢ job.trace
