-- What holds of a job that is read: its set is lawful, there is an id for each instruction in
-- flight, window, budget and delays are within their ranges, and its log is another file than its
-- trace. Without a table `map` its map is the default one.
use Rattle.std.proofs.Common.{◌≡◌, ◌≤◌, ◌^◌, ℕ, Bool, true, false, not, if◌then◌else◌, List, Option, Some, None, Ok, Err, pos, negsuc, min, refl, sym, ap, ◌∙◌, subst, arith, ◌++◌, max, length, nat_lt, ◌==◌, ◌∷◌, []}
use Rattle.std.specs.Prelude.{Result}
use Rattle.std.specs.Option.{ok_or}
use Rattle.std.specs.Str.{bytes_eq}
use Rattle.std.proofs.lemmas.Bool.Decides.{nat_tests}
use Rattle.toml.specs.Data.{Data, integer, string, float, boolean, datetime, array, table, Members}
use Rattle.xif_base.specs.declared.params.Params.{Params}
use Rattle.xif_base.specs.Checks.{first_failing}
use Rattle.coproc_config.specs.declared.check.SetFault.{SetFault}
use Rattle.coproc_config.specs.Set.{UnitTable}
use Rattle.coproc_config.specs.Check.{IsLawful, checks}
use Rattle.std.specs.List.{fold}
use Rattle.std.specs.Option.{option_or}
use Rattle.xif_drive.specs.declared.script.ScriptFault.{ScriptFault}
use Rattle.xif_drive.specs.declared.script.ScriptCause.TheVariants.{EmptyList, LongList, BigDelay}
use Rattle.xif_drive.specs.Scripts.{Lists, longest, greatest_delay, greatest, fault_when, list_fault, script_fault, checked_by, largest_of}
use Rattle.xif_sampler.specs.Places.{defaults}
use Rattle.xif_job.specs.declared.field.Field.{Field}
use Rattle.xif_job.specs.declared.field.Field.TheVariants as fields
use Rattle.xif_job.specs.declared.field.JobFault.{JobFault}
use Rattle.xif_job.specs.declared.field.JobFault.TheVariants.{NotToml, UnknownField, OutOfRange}
use Rattle.xif_job.specs.declared.job.Job.{Job}
use Rattle.xif_job.specs.Document.{document_of}
use Rattle.xif_job.specs.FieldTable.{params_of, memory_of, image_of, predictor_of, core_names, core_of, script_of, units_of, trace_names, differs, trace_of, map_of, lawful, drivable, job_of, table_names, read_of}
use Rattle.xif_job.specs.Readers.{◌at◌, ◌to◌, is_in, integer_in, number_in, table_in, are_known}
use Rattle.xif_job.specs.Outcome.{◌>>=◌, unless, where_absent}

-- what holds of all that a reading gives
abbrev Gives : {A : Type 0} → (A → Type 0) → Result A JobFault → Type 0
Gives {A} P r = (x : A) → r ≡ Ok x → P x

abbrev ok : {A : Type 0} → A → Result A JobFault
ok x = Ok x

same : {A : Type 0} (x y : A) → ok x ≡ ok y → x ≡ y
same x y e = cc

given : {A : Type 0} (P : A → Type 0) (x : A) → P x → Gives P (ok x)
given P x h = λ y e. subst P (same x y e) h

behind : {A B : Type 0} (P : B → Type 0) (r : Result A JobFault) (f : A → Result B JobFault) → ((x : A) → r ≡ Ok x → Gives P (f x)) → Gives P (r >>= f)
behind P (Ok x) f k = k x refl
behind P (Err fault) f k = λ y e. cc

-- what was read first, and what was read behind it
parts : {A B : Type 0} (r : Result A JobFault) (f : A → Result B JobFault) (y : B) → (r >>= f) ≡ Ok y → (x : A) × ((r ≡ Ok x) × (f x ≡ Ok y))
parts (Ok x) f y h = (x, (refl, h))
parts (Err fault) f y h = cc

-- ---- the window

integer-below : (field : Field) (high : ℕ) (d : Data) → Gives (λ n. n ≤ high) (integer_in field (1 to high) d)
integer-below field high (integer (pos n)) = go (is_in (1 to high) n) refl
  where
    go : (t : Bool) → is_in (1 to high) n ≡ t → Gives (λ k. k ≤ high) (if t then Ok n else Err (OutOfRange field))
    go true e = given (λ k. k ≤ high) n (grind (arith, nat_tests))
    go false e = λ k h. cc
integer-below field high (integer (negsuc n)) = λ k h. cc
integer-below field high (string x) = λ k h. cc
integer-below field high (float x) = λ k h. cc
integer-below field high (boolean x) = λ k h. cc
integer-below field high (datetime x) = λ k h. cc
integer-below field high (array x) = λ k h. cc
integer-below field high (table x) = λ k h. cc

number-below : (field : Field) (high default : ℕ) (absent : _) (found : Option Data) → where_absent {A = ℕ} field absent ≡ Ok default → default ≤ high → Gives (λ n. n ≤ high) (number_in field (1 to high) absent found)
number-below field high default absent None e h = λ n q. subst (λ k. k ≤ high) (same default n (sym e ∙ q)) h
number-below field high default absent (Some d) e h = integer-below field high d

-- an id for each instruction in flight, where an id has at least three bits
abbrev HasIds : ℕ → ℕ → Type 0
HasIds id_width window = 3 ≤ id_width → window ≤ 2 ^ id_width

few : (id_width window : ℕ) → 3 ≤ id_width → window ≤ min 32 (2 ^ id_width) → window ≤ 2 ^ id_width
few id_width window h l = omega (arith, l)

eight : (id_width : ℕ) → 3 ≤ id_width → 8 ≤ min 32 (2 ^ id_width)
eight id_width h =
    let p : 2 ^ 3 ≤ 2 ^ id_width = Rattle.std.proofs.Math.Nat.pow-le-pow_right (omega arith) h in
    omega (arith, p)

behind-window : {B : Type 0} (P : B → Type 0) (id_width : ℕ) (absent : _) (found : Option Data) (f : ℕ → Result B JobFault) → 3 ≤ id_width → where_absent {A = ℕ} fields.CoreWindow absent ≡ Ok 8
    → ((n : ℕ) → n ≤ 2 ^ id_width → Gives P (f n)) → Gives P (number_in fields.CoreWindow (1 to min 32 (2 ^ id_width)) absent found >>= f)
behind-window P id_width absent found f some e k =
    behind P (number_in fields.CoreWindow (1 to min 32 (2 ^ id_width)) absent found) f (λ n read. k n
    (few id_width n some (number-below fields.CoreWindow (min 32 (2 ^ id_width)) 8 absent found e (eight id_width some) n read)))

core-ids : (id_width : ℕ) (top : Members) → 3 ≤ id_width → Gives (λ core. core.window ≤ 2 ^ id_width) (core_of id_width top)
unfolding core_of
core-ids id_width top some =
    behind (λ core. core.window ≤ 2 ^ id_width) (table_in fields.CoreWindow core_names (top at "core")) _ (λ t _. search (behind-window, behind, given) depth 10)

behind-most : {B : Type 0} (P : B → Type 0) (id_width : ℕ) (absent : _) (found : Option Data) (f : ℕ → Result B JobFault) → 3 ≤ id_width → where_absent {A = ℕ} fields.CoreWindow absent ≡ Ok 8
    → ((n : ℕ) → n ≤ 32 → Gives P (f n)) → Gives P (number_in fields.CoreWindow (1 to min 32 (2 ^ id_width)) absent found >>= f)
behind-most P id_width absent found f some e k =
    behind P (number_in fields.CoreWindow (1 to min 32 (2 ^ id_width)) absent found) f (λ n read. k n
    (let l = number-below fields.CoreWindow (min 32 (2 ^ id_width)) 8 absent found e (eight id_width some) n read in omega (arith, l)))

core-most : (id_width : ℕ) (top : Members) → 3 ≤ id_width → Gives (λ core. core.window ≤ 32) (core_of id_width top)
unfolding core_of
core-most id_width top some =
    behind (λ core. core.window ≤ 32) (table_in fields.CoreWindow core_names (top at "core")) _ (λ t _. search (behind-most, behind, given) depth 10)

behind-budget : {B : Type 0} (P : B → Type 0) (absent : _) (found : Option Data) (f : ℕ → Result B JobFault) → where_absent {A = ℕ} fields.CoreBudget absent ≡ Ok 10000
    → ((n : ℕ) → n ≤ 200000 → Gives P (f n)) → Gives P (number_in fields.CoreBudget (1 to 200000) absent found >>= f)
behind-budget P absent found f e k =
    behind P (number_in fields.CoreBudget (1 to 200000) absent found) f (λ n read. k n
    (number-below fields.CoreBudget 200000 10000 absent found e (omega arith) n read))

core-budget : (id_width : ℕ) (top : Members) → Gives (λ core. core.budget ≤ 200000) (core_of id_width top)
unfolding core_of
core-budget id_width top =
    behind (λ core. core.budget ≤ 200000) (table_in fields.CoreWindow core_names (top at "core")) _ (λ t _. search (behind-budget, behind, given) depth 10)

-- ---- the script

fold-rises : (m : ℕ) (xs : List ℕ) → m ≤ fold max m xs
fold-rises m [] = omega arith
fold-rises m (x ∷ xs) = let h = fold-rises (max m x) xs in omega (arith, h)

fold-within : (m n most : ℕ) (xs : List ℕ) → m ≤ most → fold max n xs ≤ most → fold max m xs ≤ most
fold-within m n most [] h k = h
fold-within m n most (x ∷ xs) h k =
    let low = fold-rises (max n x) xs in
    fold-within (max m x) (max n x) most xs (omega (arith, h, k, low)) k

fold-joined : (m : ℕ) (xs ys : List ℕ) → fold max m (xs ++ ys) ≡ fold max (fold max m xs) ys
fold-joined m [] ys = refl
fold-joined m (x ∷ xs) ys = fold-joined (max m x) xs ys

greatest-joined : (most : ℕ) (xs ys : List ℕ) → greatest xs ≤ most → greatest ys ≤ most → greatest (xs ++ ys) ≤ most
greatest-joined most xs ys h k = subst (λ n. n ≤ most) (sym (fold-joined 0 xs ys)) (fold-within (fold max 0 xs) 0 most ys h k)

no-fault : (a b : Option ScriptFault) → option_or a b ≡ None → (a ≡ None) × (b ≡ None)
no-fault None b h = (refl, h)
no-fault (Some x) b h = cc

list-small : (delays : List ℕ) (number : ℕ) → list_fault delays number ≡ None → greatest delays ≤ 200
list-small delays number h =
    let some = no-fault (fault_when (length delays == 0) EmptyList number) _ h in
    let short = no-fault (fault_when (nat_lt longest (length delays)) LongList number) _ some.1 in
    go (nat_lt greatest_delay (greatest delays)) refl short.1
  where
    go : (t : Bool) → nat_lt greatest_delay (greatest delays) ≡ t → fault_when t BigDelay number ≡ None → greatest delays ≤ 200
    go true e k = cc
    go false e k = grind (arith, nat_tests)

script-lawful : (o : Option ScriptFault) (x : Unit) → drivable (checked_by o) ≡ Ok x → o ≡ None
script-lawful None x h = refl
script-lawful (Some fault) x h = cc

script-small : (s : Lists) → script_fault s ≡ None → largest_of s ≤ 200
script-small s h =
    let a = no-fault (list_fault s.issue 0) _ h in
    let b = no-fault (list_fault s.register 1) _ a.1 in
    let c = no-fault (list_fault s.operand 2) _ b.1 in
    let d = no-fault (list_fault s.result 3) (list_fault s.take 4) c.1 in
    greatest-joined 200 (s.issue ++ s.register ++ s.operand ++ s.result) s.take
    (greatest-joined 200 (s.issue ++ s.register ++ s.operand) s.result
    (greatest-joined 200 (s.issue ++ s.register) s.operand
    (greatest-joined 200 s.issue s.register (list-small s.issue 0 a.0) (list-small s.register 1 b.0))
    (list-small s.operand 2 c.0))
    (list-small s.result 3 d.0))
    (list-small s.take 4 d.1)

-- ---- the set

set-lawful : (set : List UnitTable) (answer : Result Unit SetFault) → first_failing (checks set) ≡ answer → (x : Unit) → lawful answer ≡ Ok x → IsLawful set
set-lawful set (Ok tt) e x h = e
set-lawful set (Err fault) e x h = cc

-- ---- the files

other-name : (field : Field) (name other : List ℕ) (x : Unit) → differs field name other ≡ Ok x → bytes_eq name other ≡ false
other-name field name other x h = go (bytes_eq name other) refl h
  where
    go : (t : Bool) → bytes_eq name other ≡ t → unless (not t) (OutOfRange field) ≡ Ok x → bytes_eq name other ≡ false
    go true e k = cc
    go false e k = e

behind-differs : {B : Type 0} (P : B → Type 0) (field : Field) (name other : List ℕ) (f : Unit → Result B JobFault)
    → ((x : Unit) → bytes_eq name other ≡ false → Gives P (f x)) → Gives P (differs field name other >>= f)
behind-differs P field name other f k = behind P (differs field name other) f (λ x read. k x (other-name field name other x read))

trace-apart : (file : List ℕ) (top : Members) → Gives (λ trace. bytes_eq trace.log trace.vcd ≡ false) (trace_of file top)
unfolding trace_of
trace-apart file top =
    behind (λ trace. bytes_eq trace.log trace.vcd ≡ false) (table_in fields.TraceVcd trace_names (top at "trace")) _ (λ t _. search (behind-differs, behind, given) depth 16)

-- ---- a job

pub record IsRead (job : Job) : Type 0 where
  pub set : IsLawful job.set
  pub ids : HasIds job.params.id_width job.window
  pub most : 3 ≤ job.params.id_width → job.window ≤ 32
  pub budget : job.budget ≤ 200000
  pub delays : largest_of job.script ≤ 200
  pub apart : bytes_eq job.log job.trace ≡ false

made : (job : Job) → IsLawful job.set → HasIds job.params.id_width job.window → (3 ≤ job.params.id_width → job.window ≤ 32) → job.budget ≤ 200000
    → largest_of job.script ≤ 200 → bytes_eq job.log job.trace ≡ false → Gives IsRead (ok job)
made job set ids most budget delays apart = given IsRead job (record { set = set; ids = ids; most = most; budget = budget; delays = delays; apart = apart })

pub job_read : (needs_image : Bool) (bytes : List ℕ) (job : Job) → read_of needs_image bytes ≡ Ok job → IsRead job
unfolding job_of
job_read needs_image bytes =
    behind IsRead (ok_or (document_of bytes) NotToml) _ (λ top _.
    behind IsRead (unless (are_known table_names top) UnknownField) _ (λ _ _.
    behind IsRead (params_of top) _ (λ params _.
    behind IsRead (memory_of top) _ (λ memory _.
    behind IsRead (image_of needs_image memory.base top) _ (λ image _.
    behind IsRead (core_of params.id_width top) _ (λ core core_read.
    behind IsRead (script_of top) _ (λ script _.
    behind IsRead (units_of top) _ (λ set _.
    behind IsRead (trace_of image.source.file top) _ (λ trace trace_read.
    behind IsRead (map_of params top) _ (λ map _.
    behind IsRead (lawful (first_failing (checks set))) _ (λ x checked.
    behind IsRead (drivable (checked_by (script_fault script))) _ (λ y driven.
    made _ (set-lawful set (first_failing (checks set)) refl x checked)
    (λ some. core-ids params.id_width top some core core_read)
    (λ some. core-most params.id_width top some core core_read)
    (core-budget params.id_width top core core_read)
    (script-small script (script-lawful (script_fault script) y driven))
    (trace-apart image.source.file top trace trace_read)))))))))))))

-- ---- a job without a table `map`

map-default : (params : Params) (top : Members) → top at "map" ≡ None → Gives (λ map. map ≡ defaults) (map_of params top)
unfolding map_of
map-default params top none = λ map e. sym (same defaults map (sym (by (top at "map") none) ∙ e))
  where
    by : (found : Option Data) → found ≡ None → (table_in (fields.Map Rattle.xif_signals.specs.declared.signal.Signal.TheVariants.Clk) (Rattle.std.specs.Prelude.map Rattle.xif_signals.specs.Signal.name_of Rattle.xif_signals.specs.Signal.signals) found >>= λ t. Rattle.xif_job.specs.FieldTable.places_in params t Rattle.xif_signals.specs.Signal.signals) ≡ ok defaults
    by None e = refl
    by (Some d) e = cc

some-ok : (o : Option Members) (top other : Members) → o ≡ Some other → ok_or o NotToml ≡ Ok top → top ≡ other
some-ok o top other e h = cc

pub no_map : (needs_image : Bool) (bytes : List ℕ) (top : Members) (job : Job) → document_of bytes ≡ Some top → top at "map" ≡ None → read_of needs_image bytes ≡ Ok job → job.map ≡ defaults
unfolding job_of
no_map needs_image bytes top job document none =
    let P : Job → Type 0 = λ job. job.map ≡ defaults in
    behind P (ok_or (document_of bytes) NotToml) _ (λ found is.
    let none' : found at "map" ≡ None = ap (λ (t : Members). t at "map") (some-ok (document_of bytes) found top document is) ∙ none in
    behind P (unless (are_known table_names found) UnknownField) _ (λ _ _.
    behind P (params_of found) _ (λ params _.
    behind P (memory_of found) _ (λ memory _.
    behind P (image_of needs_image memory.base found) _ (λ image _.
    behind P (core_of params.id_width found) _ (λ core _.
    behind P (script_of found) _ (λ script _.
    behind P (units_of found) _ (λ set _.
    behind P (trace_of image.source.file found) _ (λ trace _.
    behind P (map_of params found) _ (λ map map_read.
    behind P (lawful (first_failing (checks set))) _ (λ _ _.
    behind P (drivable (checked_by (script_fault script))) _ (λ _ _.
    given P _ (map-default params found none' map map_read))))))))))))) job
