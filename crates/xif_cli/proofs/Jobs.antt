-- The parameters of a job that is read are in their ranges.
use Rattle.std.proofs.Common.{◌≡◌, ◌<◌, ◌≤◌, ◌^◌, ◌==◌, ◌&&◌, ◌||◌, not, ℕ, Bool, true, false, List, [], ◌∷◌, Ok, Err, refl, sym, ap, ◌∙◌, subst, arith, inl, inr}
use Rattle.std.specs.Option.{ok_or}
use Rattle.std.specs.Prelude.{Result, nat_lt, nat_le, if◌then◌else◌}
use Rattle.std.proofs.lemmas.Bool.{eqb-true}
use Rattle.std.proofs.lemmas.Bool.Decides.{nat_tests}
use Rattle.xif_base.specs.declared.params.Params.{Params}
use Rattle.xif_base.specs.declared.params.ParamFault.{ParamFault}
use Rattle.xif_base.specs.Checks.{first_failing}
use Rattle.xif_base.specs.Params.{IsInRange, IsPortWidth, ranges, within, is_port_width, has_hartids}
use Rattle.coproc_config.specs.Check.{checks}
use Rattle.xif_drive.specs.Scripts.{script_fault, checked_by}
use Rattle.xif_job.specs.declared.job.Job.{Job}
use Rattle.xif_job.specs.declared.field.JobFault.{JobFault}
use Rattle.xif_job.specs.Document.{document_of}
use Rattle.xif_job.specs.FieldTable.{checked, params_of, memory_of, image_of, core_of, script_of, units_of, trace_of, map_of, lawful, drivable, job_of, table_names, read_of}
use Rattle.xif_job.specs.Readers.{are_known}
use Rattle.xif_job.specs.declared.field.JobFault.TheVariants.{NotToml, UnknownField}
use Rattle.xif_job.specs.Outcome.{◌>>=◌, unless}

-- ---- the tests of the ranges

both : (a b : Bool) → (a && b) ≡ true → (a ≡ true) × (b ≡ true)
both true b h = (refl, h)
both false b h = cc

le_in : (a b : ℕ) → nat_le a b ≡ true → a ≤ b
le_in a b h = grind (arith, nat_tests)

within_in : (low high n : ℕ) → within low high n ≡ true → (low ≤ n) × (n ≤ high)
within_in low high n h = let x = both (nat_le low n) (nat_le n high) h in (le_in low n x.0, le_in n high x.1)

harts_in : (width harts : ℕ) → has_hartids width harts ≡ true → ((1 ≤ width) × (width ≤ 8)) × (harts ≤ 2 ^ width)
harts_in width harts h = let x = both (within 1 8 width) (nat_le harts (2 ^ width)) h in (within_in 1 8 width x.0, le_in harts (2 ^ width) x.1)

port_in : (pairs : Bool) (width : ℕ) → is_port_width pairs width ≡ true → IsPortWidth width
port_in pairs width h = go (width == 64) (width == 32) pairs refl refl h
  where
    go : (a b pairs : Bool) → (width == 64) ≡ a → (width == 32) ≡ b → (a || (not pairs && b)) ≡ true → IsPortWidth width
    go true b pairs e f h = inr (eqb-true width 64 e)
    go false true pairs e f h = inl (eqb-true width 32 f)
    go false false true e f h = cc
    go false false false e f h = cc

pairs_in : (pairs : Bool) (width : ℕ) → is_port_width pairs width ≡ true → pairs ≡ true → width ≡ 64
pairs_in pairs width h p = go (width == 64) (width == 32) refl (ap (λ t. (width == 64) || (not t && (width == 32))) (sym p) ∙ h)
  where
    go : (a b : Bool) → (width == 64) ≡ a → (a || (not true && b)) ≡ true → width ≡ 64
    go true b e h = eqb-true width 64 e
    go false b e h = cc

some_pairs : (n : ℕ) → 0 < n → nat_lt 0 n ≡ true
some_pairs n h = grind (arith, nat_tests)

abbrev AllPass : List (Bool × ParamFault) → Type 0
AllPass [] = Unit {0}
AllPass (test ∷ tests) = (test.0 ≡ true) × AllPass tests

all_pass : (tests : List (Bool × ParamFault)) → first_failing tests ≡ Ok tt → AllPass tests
all_pass [] e = tt
all_pass (test ∷ tests) e = go test.0 refl e (all_pass tests)
  where
    go : (t : Bool) → test.0 ≡ t → (if t then first_failing tests else Err test.1) ≡ Ok tt → (first_failing tests ≡ Ok tt → AllPass tests) → (test.0 ≡ true) × AllPass tests
    go true q e k = (q, k e)
    go false q e k = cc

in_ranges : (p : Params) → first_failing (ranges p) ≡ Ok tt → IsInRange p
in_ranges p e =
    let a = all_pass (ranges p) e in
    let harts = harts_in p.hartid_width p.num_harts a.1.1.1.1.1.0 in
    record {
      num_rs = within_in 2 3 p.num_rs a.0;
      id_width = within_in 3 12 p.id_width a.1.0;
      rfr_width = port_in (nat_lt 0 p.dual_read) p.rfr_width a.1.1.0;
      rfr_pairs = λ some. pairs_in (nat_lt 0 p.dual_read) p.rfr_width a.1.1.0 (some_pairs p.dual_read some);
      rfw_width = port_in p.dual_write p.rfw_width a.1.1.1.0;
      rfw_pairs = pairs_in p.dual_write p.rfw_width a.1.1.1.0;
      num_harts = within_in 1 4 p.num_harts a.1.1.1.1.0;
      hartid_width = harts.0;
      hartids = harts.1;
      dual_read = (within_in 0 p.num_rs p.dual_read a.1.1.1.1.1.1.0).1;
      profile = within_in 1 2 p.profile a.1.1.1.1.1.1.1.0;
    }

-- ---- what is read

-- what holds of all that a reading gives
abbrev Gives : {A : Type 0} → (A → Type 0) → Result A JobFault → Type 0
Gives {A} P r = (x : A) → r ≡ Ok x → P x

behind : {A B : Type 0} (P : B → Type 0) (r : Result A JobFault) (f : A → Result B JobFault) → ((x : A) → r ≡ Ok x → Gives P (f x)) → Gives P (r >>= f)
behind P (Ok x) f k = k x refl
behind P (Err fault) f k = λ y e. cc

abbrev checked_ok : Params → Result Params JobFault
checked_ok p = Ok p

ok_is : (x y : Params) → checked_ok x ≡ checked_ok y → x ≡ y
ok_is x y e = cc

checked_in_range : (p : Params) (answer : Result Unit ParamFault) → first_failing (ranges p) ≡ answer → Gives IsInRange (checked p answer)
checked_in_range p (Ok x) e = λ q h. subst IsInRange (ok_is p q h) (in_ranges p e)
checked_in_range p (Err fault) e = λ q h. cc

abbrev job_ok : Job → Result Job JobFault
job_ok job = Ok job

same_job : (job other : Job) → job_ok job ≡ job_ok other → job ≡ other
same_job job other e = cc

abbrev HasParams : Job → Type 0
HasParams job = IsInRange job.params

-- the job is made of the parameters that were read
made : (job : Job) → IsInRange job.params → Gives HasParams (job_ok job)
made job h = λ other e. subst HasParams (same_job job other e) h

pub job_in_range : (needs_image : Bool) (bytes : List ℕ) → Gives HasParams (read_of needs_image bytes)
unfolding job_of params_of
job_in_range needs_image bytes =
    behind HasParams (ok_or (document_of bytes) NotToml) _ (λ top _.
    behind HasParams (unless (are_known table_names top) UnknownField) _ (λ _ _.
    behind HasParams (params_of top) _ (λ params read.
    let in_range : Gives IsInRange (params_of top) =
    search (behind, checked_in_range) depth 12
    in
    behind HasParams (memory_of top) _ (λ memory _.
    behind HasParams (image_of needs_image memory.base top) _ (λ image _.
    behind HasParams (core_of params.id_width top) _ (λ core _.
    behind HasParams (script_of top) _ (λ script _.
    behind HasParams (units_of top) _ (λ set _.
    behind HasParams (trace_of image.source.file top) _ (λ trace _.
    behind HasParams (map_of params top) _ (λ map _.
    behind HasParams (lawful (first_failing (checks set))) _ (λ _ _.
    behind HasParams (drivable (checked_by (script_fault script))) _ (λ _ _. made _ (in_range params read)))))))))))))
