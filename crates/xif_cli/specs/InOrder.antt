-- What the in-order commands run and print.
use Rattle.std.specs.Prelude.{ℕ, List, [], replicate, false}
use Rattle.coproc_config.specs.State.{zeros}
use Rattle.xif_image.specs.Image.{Placement, placed}
use Rattle.xif_job.specs.declared.job.Job.{Job}
use Rattle.inorder_machine.specs.Machine.{Extension, State}
use Rattle.inorder_machine.specs.After.{retired_within, last_within, stop_within}
use Rattle.xif_base.specs.declared.params.Params.{Params}
use Rattle.xif_cli.specs.Report.{report_of}

-- parameters for a machine without units, where they don't matter: the least of each
abbrev pub least_params : Params
least_params = record {
  num_rs = 2;
  id_width = 3;
  rfr_width = 32;
  rfw_width = 32;
  num_harts = 1;
  hartid_width = 1;
  dual_read = 0;
  dual_write = false;
  split = false;
  profile = 1;
}

-- RV32IM alone: there are no units
abbrev pub no_units : Extension
no_units = record { set = []; params = least_params }

-- the machine at the start of `raw`: the image's bytes from address 0 on, the first instruction
-- there, and all registers 0
abbrev pub raw_start : List ℕ → State
raw_start image = record {
  pc = 0;
  registers = replicate 32 0;
  memory = record { base = 0; bytes = image };
  units = [];
}

-- the report of a run of at most so many retirements
unfoldable pub run_report : Extension → State → ℕ → List ℕ
run_report x start budget =
    report_of (stop_within x budget start) (retired_within x budget start)
    (last_within x budget start) start.memory.bytes

-- what `raw` prints
unfoldable pub raw_report : List ℕ → ℕ → List ℕ
raw_report image count = run_report no_units (raw_start image) count

-- the units and the parameters of a job
abbrev pub extension_of : Job → Extension
extension_of job = record { set = job.set; params = job.params }

-- the machine at the start of `step`: the image in a memory of zeros, the first instruction at the
-- job's entry, and all registers and accumulators 0
abbrev pub step_start : Job → Placement → State
step_start job image = record {
  pc = job.entry;
  registers = replicate 32 0;
  memory = placed (record { base = job.base; bytes = replicate job.size 0 }) image;
  units = zeros job.set;
}

-- what `step` prints
unfoldable pub step_report : Job → Placement → List ℕ
step_report job image = run_report (extension_of job) (step_start job image) job.budget
