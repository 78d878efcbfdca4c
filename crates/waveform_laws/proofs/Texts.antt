-- The verdict on the text of buses.
use Rattle.std.proofs.Common.{◌≡◌, ◌<◌, ◌^◌, ◌++◌, ℕ, List, [], ◌∷◌, map, length, reverse, Option, None, Result, Ok, refl, sym, ap, ap₂, ◌∙◌, subst}
use Rattle.std.specs.Prelude.{◌↔◌}
use Rattle.std.specs.List.{All, AllByRecursion}
use Rattle.std.specs.Result.{result_unwrap_or}
use Rattle.std.proofs.lemmas.List.{length-map, reverse-append}
use Rattle.std.proofs.lemmas.List.Elements.{All-nil, All-push}
use Rattle.xif_base.specs.declared.params.Params.{Params}
use Rattle.xif_base.specs.Params.{IsInRange}
use Rattle.xif_signals.specs.declared.bus.Bus.{Bus}
use Rattle.xif_signals.specs.Bus.{sample_of, FitsWidths}
use Rattle.vcd_text.specs.Written.{vcd_text_of}
use Rattle.vcd_text.proofs.ReadsBack.{all_by}
use Rattle.xif_sampler.specs.declared.source.Source.{Source}
use Rattle.xif_sampler.specs.declared.fault.MapFault.{MapFault}
use Rattle.xif_sampler.specs.Places.{defaults}
use Rattle.xif_sampler.specs.Samples.{samples_by}
use Rattle.xif_sampler.specs.Written.{SamplesBack}
use Rattle.xif_sampler.proofs.WrittenLaw.{law}
use Rattle.xif_session.specs.Legal.{IsLegalSession}
use Rattle.xif_judge.specs.declared.verdict.Verdict.{Verdict}
use Rattle.xif_judge.specs.Histories.{first_fault}
use Rattle.waveform_judge.specs.declared.judged.Judged.{Judged}
use Rattle.waveform_judge.specs.declared.judged.JudgeFail.{JudgeFail}
use Rattle.waveform_judge.specs.Judged.{judged_by, judged_from, judged_as, judged_of, with_map_fault}
use Rattle.waveform_laws.specs.Verdicts.{no_fault_in}
use Rattle.waveform_laws.proofs.Sessions.{first_legal}

-- ---- lists

map-append : {A B : Type 0} (f : A → B) (xs ys : List A) → map f (xs ++ ys) ≡ map f xs ++ map f ys
map-append f [] ys = refl
map-append f (x ∷ xs) ys = ap (λ zs. f x ∷ zs) (map-append f xs ys)

reverse-map : {A B : Type 0} (f : A → B) (xs : List A) → reverse (map f xs) ≡ map f (reverse xs)
reverse-map f [] = refl
reverse-map f (x ∷ xs) =
    reverse-append (f x ∷ []) (map f xs)
    ∙ ap (λ ys. ys ++ f x ∷ []) (reverse-map f xs)
    ∙ sym (map-append f (reverse xs) (x ∷ []))
    ∙ ap (map f) (sym (reverse-append (x ∷ []) xs))

all-reversed : {A : Type 0} (P : A → Type 0) (xs : List A) → AllByRecursion P xs → All P (reverse xs)
all-reversed P [] a = All-nil P
all-reversed P (x ∷ xs) a = subst (All P) (sym (reverse-append (x ∷ []) xs)) (All-push P (reverse xs) x (all-reversed P xs a.1) a.0)

-- ---- the verdict

abbrev judged : ℕ → Option Verdict → Result Judged JudgeFail
judged cycles verdict = Ok (record { cycles = cycles; verdict = verdict })

abbrev ok : Judged → Result Judged JudgeFail
ok j = Ok j

same-judged : (j other : Judged) → ok j ≡ ok other → j ≡ other
same-judged j other e = cc

same-verdict : (cycles : ℕ) (found : Option Verdict) → judged cycles found ≡ judged cycles None → found ≡ None
same-verdict cycles found e = ap (λ j. j.verdict) (same-judged (record { cycles = cycles; verdict = found }) (no_fault_in cycles) e)

judged-is : (p : Params) (buses : List Bus) (b : SamplesBack p buses)
    → judged_of defaults p (vcd_text_of p buses) ≡ judged (length buses) (first_fault p (map sample_of (reverse buses)))
unfolding judged_of
judged-is p buses b =
    let sources = b.fits.0 in
    let samples : samples_by sources b.reading.items ≡ map sample_of buses = sym (ap (λ (s : Result (List Source) MapFault). samples_by (result_unwrap_or s []) b.reading.items) b.fits.1) ∙ b.samples in
    ap (judged_as defaults p) b.reads
    ∙ ap (λ s. with_map_fault (judged_from p b.reading.items s)) b.fits.1
    ∙ ap (λ s. with_map_fault (Ok (judged_by p s))) samples
    ∙ ap₂ judged (length-map buses sample_of) (ap (first_fault p) (reverse-map sample_of buses))

pub text_legal : (p : Params) (buses : List Bus) → IsInRange p → All (FitsWidths p) buses → length buses < 2 ^ 60
    → (judged_of defaults p (vcd_text_of p buses) ≡ Ok (no_fault_in (length buses))) ↔ IsLegalSession p (reverse buses)
text_legal p buses range fits few =
    let e = judged-is p buses (law p buses range fits few) in
    let back : AllByRecursion (FitsWidths p) (reverse buses) = all_by (FitsWidths p) (reverse buses) (all-reversed (FitsWidths p) buses (all_by (FitsWidths p) buses fits)) in
    let l = first_legal p range (reverse buses) back in (
      λ q. l.0 (same-verdict (length buses) (first_fault p (map sample_of (reverse buses))) (sym e ∙ q)),
      λ h. e ∙ ap (judged (length buses)) (l.1 h),
    )
