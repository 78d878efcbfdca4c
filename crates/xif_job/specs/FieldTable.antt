-- The fields of a job file: a line for each, with its kind, its field, its range, what it is where
-- it is absent, and where its value stands. The order of the lines is the order in which faults are
-- reported. Where a line depends on earlier fields, it follows them. The signals have one line for
-- all, over their own table.
use Rattle.std.specs.Prelude.{◌+◌, ◌-◌, ◌^◌, ◌==◌, ℕ, Bool, not, if◌then◌else◌, List, [], ◌∷◌, map, Option, Some, None, Result, Ok, Err, nat_le, min, codes}
use Rattle.std.specs.Option.{ok_or}
use Rattle.std.specs.Str.{bytes_eq}
use Rattle.toml.specs.Data.{Data, string, integer, Members, get_member}
use Rattle.xif_base.specs.Checks.{first_failing}
use Rattle.xif_base.specs.Params.{ranges}
use Rattle.xif_base.specs.declared.params.ParamFault.{ParamFault}
use Rattle.xif_base.specs.declared.params.Params.{Params}
use Rattle.coproc_config.specs.Check.{checks}
use Rattle.coproc_config.specs.Set.{UnitTable}
use Rattle.coproc_config.specs.declared.check.SetFault.{SetFault}
use Rattle.coproc_config.specs.declared.operation.Entry.{Entry}
use Rattle.xif_drive.specs.Scripts.{Lists, script_fault, checked_by}
use Rattle.xif_drive.specs.declared.script.ScriptFault.{ScriptFault}
use Rattle.xif_signals.specs.Signal.{signals, signal_number, name_of, width_of}
use Rattle.xif_signals.specs.declared.signal.Signal.{Signal}
use Rattle.xif_signals.specs.declared.signal.Signal.TheVariants.{Clk}
use Rattle.xif_sampler.specs.declared.place.Place.{Place}
use Rattle.xif_sampler.specs.declared.place.Place.TheVariants as places
use Rattle.xif_job.specs.declared.field.Field.{Field}
use Rattle.xif_job.specs.declared.field.Field.TheVariants as fields
use Rattle.xif_job.specs.declared.field.JobFault.{JobFault}
use Rattle.xif_job.specs.declared.field.JobFault.TheVariants.{NotToml, WrongKind, OutOfRange, UnknownField}
use Rattle.xif_job.specs.declared.field.JobFault.TheVariants as faults
use Rattle.xif_job.specs.declared.readers.Absent.TheVariants.{Default, Missing}
use Rattle.xif_job.specs.declared.params.Ports.{Ports}
use Rattle.xif_job.specs.declared.memory.MemoryRange.{MemoryRange}
use Rattle.xif_job.specs.declared.image.Image.{Image}
use Rattle.xif_job.specs.declared.image.ImageKind.TheVariants as images
use Rattle.xif_job.specs.declared.core_table.Core.{Core}
use Rattle.xif_job.specs.declared.predictor.Kind.{Kind}
use Rattle.xif_job.specs.declared.predictor.Kind.TheVariants as kinds
use Rattle.xif_job.specs.declared.predictor.KindName.{KindName}
use Rattle.xif_job.specs.declared.predictor.KindName.TheVariants as names
use Rattle.xif_job.specs.declared.trace.Trace.{Trace}
use Rattle.xif_job.specs.declared.job.Job.{Job}
use Rattle.xif_job.specs.Document.{document_of}
use Rattle.xif_job.specs.Field.{param_field}
use Rattle.xif_job.specs.Outcome.{◌>>=◌, unless}
use Rattle.xif_job.specs.Readers.{◌at◌, ◌to◌, demand, integer_in, number_in, word_in, optional_in, port_width_in, flag_in, text_in, any_text_in, choice_in, numbers_in, list_in, each, array_in, are_known, table_in}
use Rattle.xif_job.specs.Words.{image_kinds, predictors, operations}

abbrev pub params_names : List (List ℕ)
params_names =
    codes "x_num_rs"
    ∷ codes "x_id_width"
    ∷ codes "x_rfr_width"
    ∷ codes "x_rfw_width"
    ∷ codes "x_num_harts"
    ∷ codes "x_hartid_width"
    ∷ codes "x_dualread"
    ∷ codes "x_dualwrite"
    ∷ codes "x_issue_register_split"
    ∷ codes "profile"
    ∷ []

-- the first fault of the parameters together
abbrev pub checked : Params → Result Unit ParamFault → Result Params JobFault
checked p (Ok _) = Ok p
checked p (Err e) = Err (OutOfRange (param_field e))

-- the widths and the number of the ports, which stand first
unfoldable pub ports_of : Members → Result Ports JobFault
ports_of t = do
  num_rs ← number_in fields.ParamsNumRs (2 to 3) (Default 2) (t at "x_num_rs")
  id_width ← number_in fields.ParamsIdWidth (3 to 12) (Default 3) (t at "x_id_width")
  rfr_width ← port_width_in fields.ParamsRfrWidth (Default 32) (t at "x_rfr_width")
  rfw_width ← port_width_in fields.ParamsRfwWidth (Default 32) (t at "x_rfw_width")
  Ok (record {
    num_rs = num_rs;
    id_width = id_width;
    rfr_width = rfr_width;
    rfw_width = rfw_width;
  })

unfoldable pub params_of : Members → Result Params JobFault
params_of top = do
  t ← table_in fields.ParamsNumRs params_names (top at "params")
  ports ← ports_of t
  num_harts ← number_in fields.ParamsNumHarts (1 to 4) (Default 1) (t at "x_num_harts")
  hartid_width ← number_in fields.ParamsHartidWidth (1 to 8) (Default 1) (t at "x_hartid_width")
  dual_read ← number_in fields.ParamsDualRead (0 to 3) (Default 0) (t at "x_dualread")
  dual_write ← flag_in fields.ParamsDualWrite (Default 0) (t at "x_dualwrite")
  split ← flag_in fields.ParamsIssueRegisterSplit (Default 1) (t at "x_issue_register_split")
  profile ← number_in fields.ParamsProfile (1 to 2) (Default 1) (t at "profile")
  let p : Params = record {
    num_rs = ports.num_rs;
    id_width = ports.id_width;
    rfr_width = ports.rfr_width;
    rfw_width = ports.rfw_width;
    num_harts = num_harts;
    hartid_width = hartid_width;
    dual_read = dual_read;
    dual_write = dual_write;
    split = split;
    profile = profile;
  } in checked p (first_failing (ranges p))

abbrev pub memory_names : List (List ℕ)
memory_names = codes "base" ∷ codes "size" ∷ []

unfoldable pub memory_of : Members → Result MemoryRange JobFault
memory_of top = do
  t ← table_in fields.MemoryBase memory_names (top at "memory")
  base ← word_in fields.MemoryBase (0 to 2 ^ 32 - 4) (Default 0) (t at "base")
  size ← word_in fields.MemorySize (4 to 1048576) (Default 65536) (t at "size")
  _ ← demand fields.MemorySize (nat_le (base + size) (2 ^ 32))
  Ok (record { base = base; size = size })

abbrev pub image_names : List (List ℕ)
image_names = codes "file" ∷ codes "kind" ∷ codes "load" ∷ codes "entry" ∷ []

-- the name of the image's file, which is empty where none is needed and none is given
abbrev pub file_in : Bool → Option Data → Result (List ℕ) JobFault
file_in needs_image found =
    text_in fields.ImageFile (if needs_image then Missing else Default []) found

unfoldable pub image_of : Bool → ℕ → Members → Result Image JobFault
image_of needs_image base top = do
  t ← table_in fields.ImageFile image_names (top at "image")
  file ← file_in needs_image (t at "file")
  kind ← choice_in fields.ImageKind image_kinds (Default images.Text) (t at "kind")
  load ← number_in fields.ImageLoad (0 to 2 ^ 32 - 1) (Default base) (t at "load")
  entry ← word_in fields.ImageEntry (0 to 2 ^ 32 - 4) (Default base) (t at "entry")
  Ok (record { source = record { file = file; kind = kind; load = load }; entry = entry })

-- a predictor has the bits or the targets if its kind wants them
abbrev pub kind_of : KindName → ℕ → List ℕ → Kind
kind_of names.Never bits targets = kinds.Never
kind_of names.Backward bits targets = kinds.Backward
kind_of names.Bimodal bits targets = kinds.Bimodal bits
kind_of names.Listed bits targets = kinds.Listed targets

unfoldable pub predictor_of : Members → Result Kind JobFault
predictor_of t = do
  name ← choice_in fields.CorePredictor predictors (Default names.Never) (t at "predictor")
  bits ← number_in fields.CoreBits (1 to 12) (Default 8) (t at "bits")
  targets ← numbers_in fields.CoreTargets (1 to 64) (0 to 2 ^ 32 - 1) (Default (0 ∷ []))
      (t at "targets")
  Ok (kind_of name bits targets)

abbrev pub core_names : List (List ℕ)
core_names =
    codes "window" ∷ codes "budget" ∷ codes "predictor" ∷ codes "bits" ∷ codes "targets" ∷ []

unfoldable pub core_of : ℕ → Members → Result Core JobFault
core_of id_width top = do
  t ← table_in fields.CoreWindow core_names (top at "core")
  window ← number_in fields.CoreWindow (1 to min 32 (2 ^ id_width)) (Default 8) (t at "window")
  budget ← number_in fields.CoreBudget (1 to 200000) (Default 10000) (t at "budget")
  predictor ← predictor_of t
  Ok (record { window = window; budget = budget; predictor = predictor })

-- a list of delays, in cycles. How many there are, and how great each is, is for the check of the
-- script.
abbrev pub delays_in : Field → Option Data → Result (List ℕ) JobFault
delays_in field found = list_in field (0 to 65535) (Default (0 ∷ [])) found

abbrev pub script_names : List (List ℕ)
script_names =
    codes "issue" ∷ codes "register" ∷ codes "operand" ∷ codes "result" ∷ codes "take" ∷ []

unfoldable pub script_of : Members → Result Lists JobFault
script_of top = do
  t ← table_in fields.ScriptIssue script_names (top at "script")
  issue ← delays_in fields.ScriptIssue (t at "issue")
  register ← delays_in fields.ScriptRegister (t at "register")
  operand ← delays_in fields.ScriptOperand (t at "operand")
  result ← delays_in fields.ScriptResult (t at "result")
  take ← delays_in fields.ScriptTake (t at "take")
  Ok (record {
    issue = issue;
    register = register;
    operand = operand;
    result = result;
    take = take;
  })

abbrev pub entry_names : List (List ℕ)
entry_names =
    codes "mask" ∷ codes "match" ∷ codes "op" ∷ codes "acc" ∷ codes "low" ∷ codes "len" ∷ []

-- an item of `unit.entry`
unfoldable pub entry_in : Data → Result Entry JobFault
entry_in d = do
  t ← table_in fields.UnitEntry entry_names (Some d)
  mask ← number_in fields.UnitEntryMask (0 to 2 ^ 32 - 1) Missing (t at "mask")
  matched ← number_in fields.UnitEntryMatch (0 to 2 ^ 32 - 1) Missing (t at "match")
  op ← choice_in fields.UnitEntryOp operations Missing (t at "op")
  acc ← number_in fields.UnitEntryAcc (0 to 15) (Default 0) (t at "acc")
  low ← number_in fields.UnitEntryLow (0 to 31) (Default 0) (t at "low")
  len ← number_in fields.UnitEntryLen (1 to 32) (Default 32) (t at "len")
  Ok (record { mask = mask; matched = matched; op = op; acc = acc; low = low; len = len })

abbrev pub unit_names : List (List ℕ)
unit_names = codes "accumulators" ∷ codes "entry" ∷ []

-- an item of `unit`
unfoldable pub unit_in : Data → Result UnitTable JobFault
unit_in d = do
  t ← table_in fields.Unit unit_names (Some d)
  accumulators ← number_in fields.UnitAccumulators (0 to 16) (Default 0) (t at "accumulators")
  entries ← array_in fields.UnitEntry (t at "entry") >>= each entry_in
  Ok (record { accumulators = accumulators; entries = entries })

unfoldable pub units_of : Members → Result (List UnitTable) JobFault
units_of top = array_in fields.Unit (top at "unit") >>= each unit_in

-- Bits of a variable, by a table. The name may be empty, and `high` may be below `low`: whether a
-- waveform has such bits is reported only where one is read.
unfoldable pub bits_in : Signal → Data → Result Place JobFault
bits_in s d = do
  t ← table_in (fields.Map s) (codes "var" ∷ codes "low" ∷ codes "high" ∷ []) (Some d)
  name ← any_text_in (fields.Map s) (t at "var")
  low ← number_in (fields.Map s) (0 to 1048575) (Default 0) (t at "low")
  high ← optional_in (fields.Map s) (0 to 1048575) (t at "high")
  Ok (places.Variable name low high)

-- a constant that the signal's bits hold; the clock has none, since it has to rise
unfoldable pub constant_in : Params → Signal → Data → Result Place JobFault
constant_in p s d = do
  _ ← unless (not (signal_number s == signal_number Clk)) (WrongKind (fields.Map s))
  value ← integer_in (fields.Map s) (0 to 2 ^ width_of s p - 1) d
  Ok (places.Constant value)

-- the place of a signal, by what stands at its name; what is neither text nor integer has to be a
-- table
abbrev pub place_in : Params → Signal → Option Data → Result Place JobFault
place_in p s None = Ok places.Default
place_in p s (Some (string name)) = Ok (places.Variable name 0 None)
place_in p s (Some (integer z)) = constant_in p s (integer z)
place_in p s (Some d) = bits_in s d

-- the places of signals, each read in its turn
abbrev pub places_in : Params → Members → List Signal → Result (List Place) JobFault
places_in p t [] = Ok []
places_in p t (s ∷ ss) =
    place_in p s (get_member (name_of s) t) >>= λ x. places_in p t ss >>= λ xs. Ok (x ∷ xs)

-- the places of all signals, in the order of their table
unfoldable pub map_of : Params → Members → Result (List Place) JobFault
map_of p top = do
  t ← table_in (fields.Map Clk) (map name_of signals) (top at "map")
  places_in p t signals

-- the first fault of the units as a set
abbrev pub lawful : Result Unit SetFault → Result Unit JobFault
lawful (Ok _) = Ok tt
lawful (Err e) = Err (faults.Set e)

-- the first fault of the delays as a script
abbrev pub drivable : Result Unit ScriptFault → Result Unit JobFault
drivable (Ok _) = Ok tt
drivable (Err e) = Err (faults.Script e)

abbrev pub trace_names : List (List ℕ)
trace_names = codes "vcd" ∷ codes "log" ∷ []

-- a name is another one than this
abbrev pub differs : Field → List ℕ → List ℕ → Result Unit JobFault
differs field name other = demand field (not (bytes_eq name other))

-- the files of the waveform and the log, which differ from the image's file and from one another
unfoldable pub trace_of : List ℕ → Members → Result Trace JobFault
trace_of file top = do
  t ← table_in fields.TraceVcd trace_names (top at "trace")
  vcd ← text_in fields.TraceVcd (Default (codes "trace.vcd")) (t at "vcd")
  _ ← differs fields.TraceVcd vcd file
  log ← text_in fields.TraceLog (Default (codes "trace.log")) (t at "log")
  _ ← differs fields.TraceLog log file
  _ ← differs fields.TraceLog log vcd
  Ok (record { vcd = vcd; log = log })

-- the tables in their order, and then the checks of the set and of the script
unfoldable pub job_of : Bool → Members → Result Job JobFault
job_of needs_image top = do
  params ← params_of top
  memory ← memory_of top
  image ← image_of needs_image memory.base top
  core ← core_of params.id_width top
  script ← script_of top
  set ← units_of top
  trace ← trace_of image.source.file top
  map ← map_of params top
  _ ← lawful (first_failing (checks set))
  _ ← drivable (checked_by (script_fault script))
  Ok (record {
    params = params;
    image = image.source;
    base = memory.base;
    size = memory.size;
    entry = image.entry;
    window = core.window;
    budget = core.budget;
    predictor = core.predictor;
    script = script;
    set = set;
    trace = trace.vcd;
    log = trace.log;
    map = map;
  })

abbrev pub table_names : List (List ℕ)
table_names =
    codes "params"
    ∷ codes "memory"
    ∷ codes "image"
    ∷ codes "core"
    ∷ codes "script"
    ∷ codes "unit"
    ∷ codes "trace"
    ∷ codes "map"
    ∷ []

-- the tables at the top level
abbrev pub all_of : Bool → Members → Result Job JobFault
all_of needs_image top = do
  _ ← unless (are_known table_names top) UnknownField
  job_of needs_image top

-- what the bytes of a job file say
abbrev pub read_of : Bool → List ℕ → Result Job JobFault
read_of needs_image bytes = ok_or (document_of bytes) NotToml >>= all_of needs_image
