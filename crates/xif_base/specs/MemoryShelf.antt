-- Only for the shelf in memory: what it holds, and what its calls do to it.
use Rattle.std.specs.Prelude.{◌≡◌, [], ℕ, List, map, String, Vec, string_bytes, if◌then◌else◌, refl}
use Rattle.std.specs.Coded.{Coded, code_by, coded×, coded_ℕ, coded_list}
use Rattle.std.specs.BTreeMap.{BTreeMap}
use Rattle.std.specs.declared.alloc.Global.{Global}
use Rattle.std.specs.FinMap as finite
use Rattle.xif_base.specs.Faults.{raised}
use Rattle.xif_base.specs.Files.{Files}
use Rattle.xif_base.specs.Calls.{CallPlan, first_call, is_failing, after_call, call_plan_code}

-- The files, the largest number of bytes that a call moves, the plan of each kind of call, and how
-- many fetches and how many writes failed.
pub record ShelfState : Type 0 where
  pub files : Files
  pub grain : ℕ
  pub fetches : CallPlan
  pub starts : CallPlan
  pub appends : CallPlan
  pub fetch_faults : ℕ
  pub write_faults : ℕ

-- no file, no call, no fault
abbrev pub new_shelf : ℕ → (fetches starts appends : List ℕ) → ShelfState
new_shelf grain fetches starts appends = record {
  files = finite.empty;
  grain = grain;
  fetches = first_call fetches;
  starts = first_call starts;
  appends = first_call appends;
  fetch_faults = 0;
  write_faults = 0;
}

-- no call of the shelf is listed to fail
pub record IsFaultless (s : ShelfState) : Type 0 where
  pub fetches : s.fetches.failing ≡ []
  pub starts : s.starts.failing ≡ []
  pub appends : s.appends.failing ≡ []

-- a count one call later: it rose where the call failed
abbrev pub counted : CallPlan → ℕ → ℕ
counted plan faults = if is_failing plan then raised faults else faults

-- one fetch of a file later
abbrev pub after_fetch : ShelfState → ShelfState
after_fetch s = record s {
  fetches = after_call s.fetches;
  fetch_faults = counted s.fetches s.fetch_faults;
}

-- one start later, which left these files
abbrev pub after_start : ShelfState → Files → ShelfState
after_start s files = record s {
  files = files;
  starts = after_call s.starts;
  write_faults = counted s.starts s.write_faults;
}

-- one append to a file later, which left these files
abbrev pub after_append : ShelfState → Files → ShelfState
after_append s files = record s {
  files = files;
  appends = after_call s.appends;
  write_faults = counted s.appends s.write_faults;
}

-- files are stored as their entries
abbrev pub files_code : Coded Files
files_code = finite.code (coded_list coded_ℕ) (coded_list coded_ℕ)

-- it is stored as the tuple of its fields
abbrev pub shelf_state_code : Coded ShelfState
shelf_state_code =
    code_by (Files × (ℕ × (CallPlan × (CallPlan × (CallPlan × (ℕ × ℕ))))))
    (coded× files_code (coded× coded_ℕ (coded× call_plan_code (coded× call_plan_code
    (coded× call_plan_code (coded× coded_ℕ coded_ℕ))))))
    (λ s. (
      s.files,
      (
        s.grain,
        (
          s.fetches,
          (
            s.starts,
            (
              s.appends,
              (s.fetch_faults, s.write_faults),
            ),
          ),
        ),
      ),
    ))
    (λ t. record {
      files = t.0;
      grain = t.1.0;
      fetches = t.1.1.0;
      starts = t.1.1.1.0;
      appends = t.1.1.1.1.0;
      fetch_faults = t.1.1.1.1.1.0;
      write_faults = t.1.1.1.1.1.1;
    })
    (λ _. refl)

-- a name and the bytes of its file
abbrev pub entry_of : String Global × Vec ℕ Global → List ℕ × List ℕ
entry_of e = (string_bytes e.0, e.1.items)

-- the files that the entries of a map are
abbrev pub files_of : BTreeMap (String Global) (Vec ℕ Global) → Files
files_of m = finite.from_entries (map entry_of m.entries)
