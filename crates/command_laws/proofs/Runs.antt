-- The run of a job that is read, with its image: its buses fit their widths, and are a legal
-- session of no more than 252,480 cycles.
use Rattle.std.proofs.Common.{◌≡◌, ℕ, Bool, true, false, if◌then◌else◌, List, [], ◌∷◌, length, reverse, replicate, Option, Some, None, Result, Ok, Err, nat_le, refl, sym, ap, subst, arith, ◌+◌, ◌*◌, ◌≤◌}
use Rattle.std.specs.List.{All}
use Rattle.std.proofs.lemmas.List.{reverse-reverse}
use Rattle.std.proofs.lemmas.List.Elements.{All-nil, All-cons}
use Rattle.xif_base.specs.Files.{Files}
use Rattle.xif_base.specs.declared.outside.Which.{Which}
use Rattle.xif_base.specs.declared.outside.Which.TheVariants as which
use Rattle.xif_base.specs.Params.{IsInRange}
use Rattle.xif_image.specs.Image.{Placement}
use Rattle.xif_signals.specs.Bus.{FitsWidths}
use Rattle.xif_session.specs.Legal.{IsLegalSession}
use Rattle.std.proofs.Math.Nat.{mul-le-mul}
use Rattle.cycle_spec.specs.Run.{Setup, Meaning, Run, progress_of, run_of, drain_limit}
use Rattle.trace_laws.proofs.Runs.{run-legal}
use Rattle.width_laws.specs.Ranges.{HasRanges}
use Rattle.width_laws.proofs.Memories.{IsByte}
use Rattle.width_laws.proofs.Runs.{widths, each-of}
use Rattle.cycle_lists.specs.Lists.{Each}
use Rattle.xif_job.specs.declared.image.ImageKind.{ImageKind}
use Rattle.xif_job.specs.declared.image.ImageKind.TheVariants.{Text, Raw}
use Rattle.xif_job.specs.declared.job.Job.{Job}
use Rattle.xif_job.specs.declared.predictor.Kind.{Kind}
use Rattle.xif_job.specs.declared.predictor.Kind.TheVariants as kind
use Rattle.xif_job.specs.FieldTable.{read_of}
use Rattle.xif_cli.specs.declared.status.Status.{Status}
use Rattle.xif_cli.specs.Limits.{longest_job, longest_image}
use Rattle.xif_cli.specs.Outcome.{Lookup, found, ◌>>=◌, file_in, or_status, job_status, image_status, job_in, image_by, image_of}
use Rattle.xif_cli.specs.Simulated.{setup_of, never, backward, bimodal, listed, run_by}
use Rattle.xif_cli.proofs.Jobs.{job_in_range}
use Rattle.command_laws.specs.Commands.{HoldBytes}
use Rattle.xif_drive.specs.Scripts.{largest_of}
use Rattle.command_laws.proofs.Cycles.{run-few}
use Rattle.command_laws.proofs.Jobs.{IsRead, job_read}
use Rattle.command_laws.proofs.Images.{HasByte, GivesBytes, raw-bytes, text-bytes, placed-bytes, zero-bytes}

-- ---- a run

pub record IsGood (setup : Setup) (run : Run) : Type 0 where
  pub fits : All (FitsWidths setup.params) run.buses
  pub legal : IsLegalSession setup.params (reverse run.buses)
  pub few : length run.buses ≤ drain_limit setup + setup.budget

good-run : {P : Type 0} (meaning : Meaning P) (setup : Setup) (predictor : P) → HasRanges setup → IsGood setup (run_of meaning setup predictor)
good-run meaning setup predictor r = record {
  fits = widths meaning setup predictor r;
  legal = subst (IsLegalSession setup.params) (sym (reverse-reverse (progress_of meaning setup predictor).buses)) (run-legal meaning setup predictor r.params r.bytes);
  few = run-few meaning setup predictor;
}

pub run-good : (k : Kind) (setup : Setup) → HasRanges setup → IsGood setup (run_by k setup)
unfolding run_by
run-good kind.Never setup r = good-run never setup _ r
run-good kind.Backward setup r = good-run backward setup _ r
run-good (kind.Bimodal bits) setup r = good-run bimodal setup _ r
run-good (kind.Listed targets) setup r = good-run listed setup _ r

-- ---- the files of a job

-- what holds of a step that was not refused
behind : {A B : Type 0} (r : Result A Status) (f : A → Result B Status) (y : B) → (r >>= f) ≡ Ok y → (x : A) × ((r ≡ Ok x) × (f x ≡ Ok y))
behind (Ok x) f y h = (x, (refl, h))
behind (Err status) f y h = cc

accepted : {A E : Type 0} (f : E → Status) (r : Result A E) (x : A) → or_status f r ≡ Ok x → r ≡ Ok x
accepted f (Ok y) x h = cc
accepted f (Err e) x h = cc

abbrev ok : List ℕ → Result (List ℕ) Status
ok bytes = Ok bytes

same-bytes : (xs ys : List ℕ) → ok xs ≡ ok ys → xs ≡ ys
same-bytes xs ys h = cc

file-there : (w : Which) (limit : ℕ) (o : Option (List ℕ)) (bytes : List ℕ) → file_in w limit o ≡ Ok bytes → o ≡ Some bytes
file-there w limit None bytes h = cc
file-there w limit (Some xs) bytes h = go (nat_le (length xs) limit) h
  where
    go : (t : Bool) → (if t then Ok xs else Err (Rattle.xif_cli.specs.declared.status.Status.TheVariants.TooBig w)) ≡ Ok bytes → Some xs ≡ Some bytes
    go true k = ap Some (same-bytes xs bytes k)
    go false k = cc

pub record JobFile (needs_image : Bool) (find : Lookup) (name : List ℕ) (job : Job) : Type 0 where
  pub bytes : List ℕ
  pub there : find which.Job name ≡ Some bytes
  pub read : read_of needs_image bytes ≡ Ok job

pub job-file : (needs_image : Bool) (find : Lookup) (name : List ℕ) (job : Job) → job_in needs_image name find ≡ Ok job → JobFile needs_image find name job
job-file needs_image find name job h =
    let file = behind (file_in which.Job longest_job (find which.Job name)) (λ bytes. or_status job_status (read_of needs_image bytes)) job h in
    record {
      bytes = file.0;
      there = file-there which.Job longest_job (find which.Job name) file.0 file.1.0;
      read = accepted job_status (read_of needs_image file.0) job file.1.1;
    }

-- ---- its image

image-gives : (k : ImageKind) (job : Job) (bytes : List ℕ) → Each IsByte bytes → GivesBytes (image_by k job bytes)
image-gives Text job bytes h = text-bytes job.base job.size bytes
image-gives Raw job bytes h = raw-bytes job.image.load job.base job.size bytes h

image-bytes : (files : Files) (job : Job) (image : Placement) → HoldBytes files → image_of job (found files) ≡ Ok image → Each HasByte image.bytes
image-bytes files job image b h =
    let file = behind (file_in which.Image (longest_image job.image.kind) (found files which.Image job.image.file)) (λ bytes. or_status image_status (image_by job.image.kind job bytes)) image h in
    let there = file-there which.Image (longest_image job.image.kind) (found files which.Image job.image.file) file.0 file.1.0 in
    let is : image_by job.image.kind job file.0 ≡ Ok image = accepted image_status (image_by job.image.kind job file.0) image file.1.1 in
    subst GivesBytes is (image-gives job.image.kind job file.0 (each-of IsByte file.0 (b job.image.file file.0 there)))

-- ---- its setup

all-of : {A : Type 0} (P : A → Type 0) (xs : List A) → Each P xs → All P xs
all-of P [] h = All-nil P
all-of P (x ∷ xs) h = All-cons P x xs h.0 (all-of P xs h.1)

pub setup-ranges : (files : Files) (name : List ℕ) (job : Job) (image : Placement) → HoldBytes files → job_in true name (found files) ≡ Ok job → image_of job (found files) ≡ Ok image → HasRanges (setup_of job image)
setup-ranges files name job image b j i =
    let file = job-file true (found files) name job j in
    let range : IsInRange job.params = job_in_range true file.bytes job file.read in
    let is : IsRead job = job_read true file.bytes job file.read in
    record {
      params = range;
      set = is.set;
      ids = is.ids range.id_width.0;
      bytes = all-of IsByte _ (placed-bytes job.base (replicate job.size 0) image.bytes (zero-bytes job.size) (image-bytes files job image b i));
    }

-- how many cycles its run has at most: the greatest budget, and the longest drain
drain-short : (window delay : ℕ) → window ≤ 32 → delay ≤ 200 → window * (8 * delay + 40) ≤ 52480
drain-short window delay w d =
    let many : 8 * delay + 40 ≤ 1640 = omega (arith, d) in
    let all : window * (8 * delay + 40) ≤ 32 * 1640 = mul-le-mul w many in
    omega (arith, all)

pub cycles-few : (files : Files) (name : List ℕ) (job : Job) (image : Placement) → job_in true name (found files) ≡ Ok job → drain_limit (setup_of job image) + (setup_of job image).budget ≤ 252480
cycles-few files name job image j =
    let file = job-file true (found files) name job j in
    let range : IsInRange job.params = job_in_range true file.bytes job file.read in
    let is : IsRead job = job_read true file.bytes job file.read in
    let drain = drain-short job.window (largest_of job.script) (is.most range.id_width.0) is.delays in
    omega (arith, drain, is.budget)
