-- What a part of a command does after a file was read, and what it leaves out if none was.
use Rattle.std.proofs.Common.{◌≡◌, ◌⊎◌, inl, inr, ℕ, Option, Result, Ok, Err, refl, ap, ◌∙◌}
use Rattle.std.specs.Prelude.{IsErrAnd, IsTrue}
use Rattle.std.proofs.lemmas.Result.{err_from_is_err_and}
use Rattle.xif_base.specs.Files.{Files}
use Rattle.xif_base.specs.declared.outside.Which.{Which}
use Rattle.xif_base.specs.declared.outside.Which.TheVariants.{Waveform}
use Rattle.xif_cli.specs.declared.status.Status.{Status}
use Rattle.xif_cli.specs.declared.status.Status.TheVariants.{Done, Illegal, Usage, ReadFault, WriteFault, Job, Image, Vcd, Map, TooBig, NoMemory, Unbuilt}
use Rattle.xif_cli.specs.Outcome.{Lookup, ◌>>=◌}
use Rattle.xif_cli.specs.Reading.{Ends, can_refuse_file, can_refuse_waveform}

-- what is returned on a refusal is the refusal
pub refused_with : {A : Type 0} (r : Result A Status) (status : Status) → IsErrAnd r (λ e. e ≡ status) → r ≡ Err status
refused_with r status is = let found = err_from_is_err_and r is in found.1 ∙ ap Err found.2

-- a refusal stays one, whatever would have followed
pub ends_refused : {S A B : Type 0} {files : S → Option Files} {fetch_faults write_faults : S → ℕ} {faultless : S → Type 0} {old new : S}
    (first : Lookup → Result A Status) (next : A → Result B Status) (status : Status)
    → Ends files fetch_faults write_faults faultless old new first (Err status)
    → Ends files fetch_faults write_faults faultless old new (λ find. first find >>= next) (Err status)
ends_refused {A = A} {B = B} first next status ends =
    let refused : Result A Status → Result B Status = λ r. r >>= next in
    let this : (w : Which) → (let r : Result B Status = Err status in r) ≡ Err (ReadFault w) → status ≡ ReadFault w = λ w is. cc in
    record {
      outcome = λ m told. elim (ends.outcome m told) [
        | inl meant ↦ inl (ap refused meant)
        | inr other ↦ elim other [
          | inl none ↦ inr (inl (ap refused none))
          | inr fault ↦ inr (inr (fault.0, (fault.1.0, ap refused fault.1.1)))
        ]
      ];
      before = λ m told w is. ap refused (ends.before m told w (ap Err (this w is)));
      unreported = λ none w is. ends.unreported none w (ap Err (this w is));
      uncounted = elim ends.uncounted [ inl same ↦ inl same | inr fault ↦ inr (fault.0, ap refused fault.1) ];
      only_reads = ends.only_reads;
    }

-- what follows is done with what was read
pub ends_read : {S A B : Type 0} {files : S → Option Files} {fetch_faults write_faults : S → ℕ} {faultless : S → Type 0} {old new : S}
    (first : Lookup → Result A Status) (next : A → Result B Status) (x : A) (r : Result B Status)
    → Ends files fetch_faults write_faults faultless old new first (Ok x)
    → (next x ≡ r) ⊎ (r ≡ Err NoMemory) → ((w : Which) → r ≡ Err (ReadFault w) → ⊥)
    → Ends files fetch_faults write_faults faultless old new (λ find. first find >>= next) r
ends_read {A = A} {B = B} first next x r ends follows no_fault =
    let continued : Result A Status → Result B Status = λ read. read >>= next in
    record {
      outcome = λ m told. elim (ends.outcome m told) [
        | inl meant ↦ elim follows [ inl same ↦ inl (ap continued meant ∙ same) | inr none ↦ inr (inl none) ]
        | inr other ↦ elim other [ inl none ↦ absurd (cc) | inr fault ↦ (let no = fault.1.1 in absurd (cc)) ]
      ];
      before = λ m told w is. absurd (no_fault w is);
      unreported = λ none w is. absurd (no_fault w is);
      uncounted = elim ends.uncounted [ inl same ↦ inl same | inr fault ↦ (let no = fault.1 in absurd (cc)) ];
      only_reads = ends.only_reads;
    }

-- a file that is refused is refused as the waveform
pub refuses-waveform : (status : Status) → IsTrue (can_refuse_file Waveform status) → IsTrue (can_refuse_waveform status)
refuses-waveform (Vcd fault) h = refl
refuses-waveform (Map fault) h = refl
refuses-waveform (ReadFault w) h = h
refuses-waveform (TooBig w) h = h
refuses-waveform NoMemory h = refl
refuses-waveform Done h = h
refuses-waveform Illegal h = h
refuses-waveform Usage h = h
refuses-waveform (WriteFault w) h = h
refuses-waveform (Job fault) h = h
refuses-waveform (Image fault) h = h
refuses-waveform Unbuilt h = h
