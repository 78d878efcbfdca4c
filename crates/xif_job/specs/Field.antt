-- The names of the fields of a job file.
use Rattle.std.specs.Prelude.{ℕ, List, ◌++◌, codes}
use Rattle.xif_base.specs.declared.params.ParamFault.{ParamFault}
use Rattle.xif_base.specs.declared.params.ParamFault.TheVariants as params
use Rattle.xif_signals.specs.Signal.{name_of}
use Rattle.xif_job.specs.declared.field.Field.{Field}
use Rattle.xif_job.specs.declared.field.Field.TheVariants as fields

-- a field's name, behind those of the tables that it stands in
abbrev pub dotted : Field → List ℕ
dotted fields.ParamsNumRs = codes "params.x_num_rs"
dotted fields.ParamsIdWidth = codes "params.x_id_width"
dotted fields.ParamsRfrWidth = codes "params.x_rfr_width"
dotted fields.ParamsRfwWidth = codes "params.x_rfw_width"
dotted fields.ParamsNumHarts = codes "params.x_num_harts"
dotted fields.ParamsHartidWidth = codes "params.x_hartid_width"
dotted fields.ParamsDualRead = codes "params.x_dualread"
dotted fields.ParamsDualWrite = codes "params.x_dualwrite"
dotted fields.ParamsIssueRegisterSplit = codes "params.x_issue_register_split"
dotted fields.ParamsProfile = codes "params.profile"
dotted fields.MemoryBase = codes "memory.base"
dotted fields.MemorySize = codes "memory.size"
dotted fields.ImageFile = codes "image.file"
dotted fields.ImageKind = codes "image.kind"
dotted fields.ImageLoad = codes "image.load"
dotted fields.ImageEntry = codes "image.entry"
dotted fields.CoreWindow = codes "core.window"
dotted fields.CoreBudget = codes "core.budget"
dotted fields.CorePredictor = codes "core.predictor"
dotted fields.CoreBits = codes "core.bits"
dotted fields.CoreTargets = codes "core.targets"
dotted fields.ScriptIssue = codes "script.issue"
dotted fields.ScriptRegister = codes "script.register"
dotted fields.ScriptOperand = codes "script.operand"
dotted fields.ScriptResult = codes "script.result"
dotted fields.ScriptTake = codes "script.take"
dotted fields.Unit = codes "unit"
dotted fields.UnitAccumulators = codes "unit.accumulators"
dotted fields.UnitEntry = codes "unit.entry"
dotted fields.UnitEntryMask = codes "unit.entry.mask"
dotted fields.UnitEntryMatch = codes "unit.entry.match"
dotted fields.UnitEntryOp = codes "unit.entry.op"
dotted fields.UnitEntryAcc = codes "unit.entry.acc"
dotted fields.UnitEntryLow = codes "unit.entry.low"
dotted fields.UnitEntryLen = codes "unit.entry.len"
dotted fields.TraceVcd = codes "trace.vcd"
dotted fields.TraceLog = codes "trace.log"
dotted (fields.Map s) = codes "map." ++ name_of s

-- the field of a parameter that is out of its range
abbrev pub param_field : ParamFault → Field
param_field params.NumRs = fields.ParamsNumRs
param_field params.IdWidth = fields.ParamsIdWidth
param_field params.RfrWidth = fields.ParamsRfrWidth
param_field params.RfwWidth = fields.ParamsRfwWidth
param_field params.NumHarts = fields.ParamsNumHarts
param_field params.HartidWidth = fields.ParamsHartidWidth
param_field params.DualRead = fields.ParamsDualRead
param_field params.Profile = fields.ParamsProfile
