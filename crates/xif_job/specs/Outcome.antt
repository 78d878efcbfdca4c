-- What reading returns: a value, or the first fault.
use Rattle.std.specs.Prelude.{◌≡◌, ◌++◌, Bool, if◌then◌else◌, List, [], ◌∷◌, Result, Ok, Err}
use Rattle.xif_job.specs.declared.field.Field.{Field}
use Rattle.xif_job.specs.declared.field.JobFault.{JobFault}
use Rattle.xif_job.specs.declared.field.JobFault.TheVariants.{MissingField, NoMemory}
use Rattle.xif_job.specs.declared.readers.Absent.{Absent}
use Rattle.xif_job.specs.declared.readers.Absent.TheVariants.{Default, Missing}

-- what follows is read only where there was no fault
infixl 10 ◌>>=◌
abbrev pub ◌>>=◌ : {A B : Type 0} → Result A JobFault → (A → Result B JobFault) → Result B JobFault
(Ok x) >>= f = f x
(Err e) >>= f = Err e

-- a fault, unless a test holds
abbrev pub unless : Bool → JobFault → Result Unit JobFault
unless test fault = if test then Ok tt else Err fault

-- a field that is absent: its default, or the fault of a field that must be there
abbrev pub where_absent : {A : Type 0} → Field → Absent A → Result A JobFault
where_absent field (Default x) = Ok x
where_absent field Missing = Err (MissingField field)

-- a list with what is read at its end
abbrev pub added : {A : Type 0} → List A → Result A JobFault → Result (List A) JobFault
added front read = read >>= λ x. Ok (front ++ x ∷ [])

-- Reading returns this fault. Running out of memory is the one that needs no cause in the file.
abbrev pub IsFaultOf : {Y : Type 0} → JobFault → Result Y JobFault → Type 0
IsFaultOf NoMemory read = Unit {0}
IsFaultOf e read = read ≡ Err e

-- what a function returned, seen by view, is what the file reads as, unless memory ran out
abbrev pub ReadsAs : {X Y : Type 0} → (X → Y) → Result X JobFault → Result Y JobFault → Type 0
ReadsAs view (Ok x) read = read ≡ Ok (view x)
ReadsAs view (Err e) read = IsFaultOf e read
