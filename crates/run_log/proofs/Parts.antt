-- The lines of a cycle tell what is printed of it.
use Rattle.std.proofs.Common.{◌≡◌, ◌<◌, ◌≤◌, ◌%◌, ◌^◌, ◌++◌, ℕ, List, [], ◌∷◌, Option, Some, None, refl, sym, ap, ◌∙◌, append_assoc, arith}
use Rattle.std.specs.Option.{option_map}
use Rattle.std.proofs.Math.Nat.{mod-eq_of_lt, mod-le}
use Rattle.inorder_machine.specs.declared.line.Retire.{Retire}
use Rattle.inorder_machine.specs.declared.line.Store.{Store}
use Rattle.inorder_machine.specs.declared.line.Write.{Write}
use Rattle.inorder_machine.specs.declared.line.Write.TheVariants as write
use Rattle.inorder_machine.specs.declared.stop.StopCause.{StopCause}
use Rattle.cycle_spec.specs.declared.log.Cut.{Cut}
use Rattle.cycle_spec.specs.declared.log.CycleLog.{CycleLog}
use Rattle.cycle_spec.specs.declared.log.Dispatch.{Dispatch}
use Rattle.run_log.specs.declared.line.Line.{Line}
use Rattle.run_log.specs.declared.line.Line.TheVariants as line
use Rattle.run_log.specs.Log.{write_lines, store_lines, retire_lines, cut_lines, dispatch_lines, drain_lines, stop_lines, lines_of}
use Rattle.run_log.specs.Told.{IsIn, IsByte, IsWord, IsWrite, IsStore, IsRetire, IsCut, IsDispatch, IsLog, told_retire, told_pc, told_of}
use Rattle.run_log.proofs.Lines.{IsLine}
use Rattle.run_log.proofs.Numbered.{AreUpTo, AreAbove, up_to-append, above-append, parts_apart}

-- ---- the numbers of all lines are of their types

abbrev pub AreLines : List Line → Type 0
AreLines [] = Unit {0}
AreLines (l ∷ ls) = IsLine l × AreLines ls

pub lines-append : (ls ms : List Line) → AreLines ls → AreLines ms → AreLines (ls ++ ms)
lines-append [] ms i j = j
lines-append (l ∷ ls) ms i j = (i.0, lines-append ls ms i.1 j)

write-are : (w : Write) → IsWrite w → AreLines (write_lines w)
write-are write.None h = tt
write-are (write.One rd value) h = ((omega (arith, h.0), h.1), tt)
write-are (write.Pair rd low high) h = ((omega (arith, h.0), h.1.0), ((omega (arith, h.0), h.1.1), tt))

store-are : (s : Option Store) → IsIn IsStore s → AreLines (store_lines s)
store-are None h = tt
store-are (Some s) h =
    let less : s.value % 256 ^ s.width ≤ s.value = mod-le s.value (256 ^ s.width) in
    ((h.address, (h.width, omega (arith, less, h.value))), tt)

retire-are : (r : Option Retire) → IsIn IsRetire r → AreLines (retire_lines r)
retire-are None h = tt
retire-are (Some r) h =
    ((h.address, h.word), lines-append (write_lines r.write) (store_lines r.store) (write-are r.write h.write) (store-are r.store h.store))

cut-are : (cut : Option Cut) → IsIn IsCut cut → AreLines (cut_lines cut)
cut-are None h = tt
cut-are (Some cut) h = ((h.keep, h.target), tt)

dispatch-are : (d : Option Dispatch) → IsIn IsDispatch d → AreLines (dispatch_lines d)
dispatch-are None h = tt
dispatch-are (Some d) h = ((h.address, h.word), tt)

drain-are : (keep : Option ℕ) → IsIn IsByte keep → AreLines (drain_lines keep)
drain-are None h = tt
drain-are (Some keep) h = (h, tt)

stop-are : (cause : Option StopCause) (pc : ℕ) → IsWord pc → AreLines (stop_lines cause pc)
stop-are None pc h = tt
stop-are (Some cause) pc h = (h, tt)

pub lines-are : (log : CycleLog) → IsLog log → AreLines (lines_of log)
lines-are log h =
    lines-append (retire_lines log.retired ++ cut_lines log.cut ++ dispatch_lines log.dispatched ++ drain_lines log.drained) (stop_lines log.stopped log.pc)
    (lines-append (retire_lines log.retired ++ cut_lines log.cut ++ dispatch_lines log.dispatched) (drain_lines log.drained)
    (lines-append (retire_lines log.retired ++ cut_lines log.cut) (dispatch_lines log.dispatched)
    (lines-append (retire_lines log.retired) (cut_lines log.cut) (retire-are log.retired h.retired) (cut-are log.cut h.cut))
    (dispatch-are log.dispatched h.dispatched))
    (drain-are log.drained h.drained))
    (stop-are log.stopped log.pc h.address)

-- ---- the parts stand in the order of these ranks

abbrev rank : Line → ℕ
rank (line.Retire pc word) = 0
rank (line.Write register value) = 1
rank (line.Store address width value) = 2
rank (line.Cut keep target) = 3
rank (line.Dispatch pc word) = 4
rank (line.Drain keep) = 5
rank (line.Stop cause pc) = 6

abbrev UpTo : ℕ → List Line → Type 0
UpTo k ls = AreUpTo rank k ls

abbrev Above : ℕ → List Line → Type 0
Above k ls = AreAbove rank k ls

write-up_to : (k : ℕ) (w : Write) → 1 ≤ k → UpTo k (write_lines w)
write-up_to k write.None h = tt
write-up_to k (write.One rd value) h = (h, tt)
write-up_to k (write.Pair rd low high) h = (h, (h, tt))

store-up_to : (k : ℕ) (s : Option Store) → 2 ≤ k → UpTo k (store_lines s)
store-up_to k None h = tt
store-up_to k (Some s) h = (h, tt)

store-above : (s : Option Store) → Above 1 (store_lines s)
store-above None = tt
store-above (Some s) = (omega arith, tt)

retire-up_to : (r : Option Retire) → UpTo 2 (retire_lines r)
retire-up_to None = tt
retire-up_to (Some r) =
    (omega arith, up_to-append rank 2 (write_lines r.write) (store_lines r.store) (write-up_to 2 r.write (omega arith)) (store-up_to 2 r.store (omega arith)))

cut-up_to : (cut : Option Cut) → UpTo 3 (cut_lines cut)
cut-up_to None = tt
cut-up_to (Some cut) = (omega arith, tt)

cut-above : (cut : Option Cut) → Above 2 (cut_lines cut)
cut-above None = tt
cut-above (Some cut) = (omega arith, tt)

dispatch-up_to : (d : Option Dispatch) → UpTo 4 (dispatch_lines d)
dispatch-up_to None = tt
dispatch-up_to (Some d) = (omega arith, tt)

dispatch-above : (k : ℕ) (d : Option Dispatch) → k < 4 → Above k (dispatch_lines d)
dispatch-above k None h = tt
dispatch-above k (Some d) h = (h, tt)

drain-up_to : (keep : Option ℕ) → UpTo 5 (drain_lines keep)
drain-up_to None = tt
drain-up_to (Some keep) = (omega arith, tt)

drain-above : (k : ℕ) (keep : Option ℕ) → k < 5 → Above k (drain_lines keep)
drain-above k None h = tt
drain-above k (Some keep) h = (h, tt)

stop-above : (k : ℕ) (cause : Option StopCause) (pc : ℕ) → k < 6 → Above k (stop_lines cause pc)
stop-above k None pc h = tt
stop-above k (Some cause) pc h = (h, tt)

-- the parts behind the first, the second and the third
abbrev third : CycleLog → List Line
third log = drain_lines log.drained ++ stop_lines log.stopped log.pc

abbrev second : CycleLog → List Line
second log = dispatch_lines log.dispatched ++ third log

abbrev first : CycleLog → List Line
first log = cut_lines log.cut ++ second log

third-above : (k : ℕ) (log : CycleLog) → k < 5 → Above k (third log)
third-above k log h =
    above-append rank k (drain_lines log.drained) (stop_lines log.stopped log.pc) (drain-above k log.drained h) (stop-above k log.stopped log.pc (omega (arith, h)))

second-above : (k : ℕ) (log : CycleLog) → k < 4 → Above k (second log)
second-above k log h = above-append rank k (dispatch_lines log.dispatched) (third log) (dispatch-above k log.dispatched h) (third-above k log (omega (arith, h)))

first-above : (log : CycleLog) → Above 2 (first log)
first-above log = above-append rank 2 (cut_lines log.cut) (second log) (cut-above log.cut) (second-above 2 log (omega arith))

grouped : (r c d n s : List Line) → r ++ c ++ d ++ n ++ s ≡ r ++ (c ++ (d ++ (n ++ s)))
grouped r c d n s = search append_assoc

in_parts : (log : CycleLog) → lines_of log ≡ retire_lines log.retired ++ first log
in_parts log =
    grouped (retire_lines log.retired) (cut_lines log.cut) (dispatch_lines log.dispatched) (drain_lines log.drained) (stop_lines log.stopped log.pc)

-- ---- what each part tells

write-told : (w v : Write) → write_lines w ≡ write_lines v → w ≡ v
write-told write.None write.None e = refl
write-told write.None (write.One rd value) e = cc
write-told write.None (write.Pair rd low high) e = cc
write-told (write.One rd value) write.None e = cc
write-told (write.One rd value) (write.One ru other) e = cc
write-told (write.One rd value) (write.Pair ru low high) e = cc
write-told (write.Pair rd low high) write.None e = cc
write-told (write.Pair rd low high) (write.One ru value) e = cc
write-told (write.Pair rd low high) (write.Pair ru less more) e = cc

abbrev store_made : (address width value : ℕ) → Store
store_made address width value = record { addr = address; width = width; value = value }

abbrev store_line : (address width value : ℕ) → Line
store_line address width value = line.Store address width value

store_fields : (a w v b x u : ℕ) → store_line a w v ∷ [] ≡ store_line b x u ∷ [] → store_made a w v ≡ store_made b x u
store_fields a w v b x u e = cc

uncut : (s : Store) → IsStore s → store_made s.addr s.width (s.value % 256 ^ s.width) ≡ s
uncut s h = ap (store_made s.addr s.width) (mod-eq_of_lt h.cut)

store-told : (s t : Option Store) → IsIn IsStore s → IsIn IsStore t → store_lines s ≡ store_lines t → s ≡ t
store-told None None i j e = refl
store-told None (Some t) i j e = cc
store-told (Some s) None i j e = cc
store-told (Some s) (Some t) i j e =
    ap Some (sym (uncut s i) ∙ store_fields s.addr s.width (s.value % 256 ^ s.width) t.addr t.width (t.value % 256 ^ t.width) e ∙ uncut t j)

retire_fields : (p w q v : ℕ) (ls ms : List Line) → line.Retire p w ∷ ls ≡ line.Retire q v ∷ ms → ((p ≡ q) × (w ≡ v)) × (ls ≡ ms)
retire_fields p w q v ls ms e = ((cc, cc), cc)

retire-told : (r s : Option Retire) → IsIn IsRetire r → IsIn IsRetire s → retire_lines r ≡ retire_lines s → option_map told_retire r ≡ option_map told_retire s
retire-told None None i j e = refl
retire-told None (Some s) i j e = cc
retire-told (Some r) None i j e = cc
retire-told (Some r) (Some s) i j e =
    let rest = retire_fields r.pc r.word s.pc s.word (write_lines r.write ++ store_lines r.store) (write_lines s.write ++ store_lines s.store) e in
    let halves = parts_apart rank 1 (write_lines r.write) (write_lines s.write) (store_lines r.store) (store_lines s.store)
    (write-up_to 1 r.write (omega arith)) (write-up_to 1 s.write (omega arith)) (store-above r.store) (store-above s.store) rest.1 in
    let writes : r.write ≡ s.write = write-told r.write s.write halves.0 in
    let stores : r.store ≡ s.store = store-told r.store s.store i.store j.store halves.1 in
    cc

abbrev cut_made : (keep target : ℕ) → Cut
cut_made keep target = record { keep = keep; target = target }

cut_fields : (k t l u : ℕ) → line.Cut k t ∷ [] ≡ line.Cut l u ∷ [] → Some (cut_made k t) ≡ Some (cut_made l u)
cut_fields k t l u e = cc

abbrev dispatch_made : ℕ → Option ℕ → Dispatch
dispatch_made pc word = record { pc = pc; word = word }

dispatch_fields : (p q : ℕ) (w v : Option ℕ) → line.Dispatch p w ∷ [] ≡ line.Dispatch q v ∷ [] → Some (dispatch_made p w) ≡ Some (dispatch_made q v)
dispatch_fields p q w v e = cc

cut-told : (c d : Option Cut) → cut_lines c ≡ cut_lines d → c ≡ d
cut-told None None e = refl
cut-told None (Some d) e = cc
cut-told (Some c) None e = cc
cut-told (Some c) (Some d) e = cut_fields c.keep c.target d.keep d.target e

dispatch-told : (c d : Option Dispatch) → dispatch_lines c ≡ dispatch_lines d → c ≡ d
dispatch-told None None e = refl
dispatch-told None (Some d) e = cc
dispatch-told (Some c) None e = cc
dispatch-told (Some c) (Some d) e = dispatch_fields c.pc d.pc c.word d.word e

drain-told : (c d : Option ℕ) → drain_lines c ≡ drain_lines d → c ≡ d
drain-told None None e = refl
drain-told None (Some d) e = cc
drain-told (Some c) None e = cc
drain-told (Some c) (Some d) e = cc

stop-told : (c d : Option StopCause) (p q : ℕ) → stop_lines c p ≡ stop_lines d q → (c ≡ d) × (told_pc c p ≡ told_pc d q)
stop-told None None p q e = (refl, refl)
stop-told None (Some d) p q e = (cc, cc)
stop-told (Some c) None p q e = (cc, cc)
stop-told (Some c) (Some d) p q e = (cc, cc)

-- ---- all parts together

pub log-told : (a b : CycleLog) → IsLog a → IsLog b → lines_of a ≡ lines_of b → told_of a ≡ told_of b
log-told a b i j e =
    let one = parts_apart rank 2 (retire_lines a.retired) (retire_lines b.retired) (first a) (first b)
    (retire-up_to a.retired) (retire-up_to b.retired) (first-above a) (first-above b) (sym (in_parts a) ∙ e ∙ in_parts b) in
    let two = parts_apart rank 3 (cut_lines a.cut) (cut_lines b.cut) (second a) (second b)
    (cut-up_to a.cut) (cut-up_to b.cut) (second-above 3 a (omega arith)) (second-above 3 b (omega arith)) one.1 in
    let three = parts_apart rank 4 (dispatch_lines a.dispatched) (dispatch_lines b.dispatched) (third a) (third b)
    (dispatch-up_to a.dispatched) (dispatch-up_to b.dispatched) (third-above 4 a (omega arith)) (third-above 4 b (omega arith)) two.1 in
    let four = parts_apart rank 5 (drain_lines a.drained) (drain_lines b.drained) (stop_lines a.stopped a.pc) (stop_lines b.stopped b.pc)
    (drain-up_to a.drained) (drain-up_to b.drained) (stop-above 5 a.stopped a.pc (omega arith)) (stop-above 5 b.stopped b.pc (omega arith)) three.1 in
    let stops = stop-told a.stopped b.stopped a.pc b.pc four.1 in
    let retires : option_map told_retire a.retired ≡ option_map told_retire b.retired = retire-told a.retired b.retired i.retired j.retired one.0 in
    let cuts : a.cut ≡ b.cut = cut-told a.cut b.cut two.0 in
    let dispatches : a.dispatched ≡ b.dispatched = dispatch-told a.dispatched b.dispatched three.0 in
    let drains : a.drained ≡ b.drained = drain-told a.drained b.drained four.0 in
    cc
