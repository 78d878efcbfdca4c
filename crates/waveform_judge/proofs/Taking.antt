-- What a judge of items makes of one item, and of the end.
use Rattle.std.proofs.Common.{◌≡◌, ◌∙◌, ◌≤◌, ℕ, List, [], ◌∷◌, ◌++◌, length, reverse, Option, Result, Ok, Err, refl, sym, ap, subst, arith}
use Rattle.std.specs.Option.{option_to_list}
use Rattle.std.proofs.lemmas.List.{reverse-append, length-reverse}
use Rattle.xif_base.specs.declared.params.Params.{Params}
use Rattle.xif_signals.specs.declared.sample.Quad.{Quad}
use Rattle.vcd_text.specs.declared.item.Item.{Item}
use Rattle.xif_judge.specs.declared.verdict.Verdict.{Verdict}
use Rattle.xif_judge.specs.Histories.{first_fault}
use Rattle.xif_sampler.specs.declared.fault.MapFault.{MapFault}
use Rattle.xif_sampler.specs.declared.source.Source.{Source}
use Rattle.xif_sampler.specs.Keeping.{Sampling}
use Rattle.xif_sampler.specs.Keeping as sampling
use Rattle.xif_judge.specs.Judging as judge
use Rattle.xif_sampler.specs.Samples.{sample_at, samples_by, answer_to}
use Rattle.waveform_judge.specs.declared.judged.Judged.{Judged}
use Rattle.waveform_judge.specs.declared.signals.Signals.TheVariants.{Awaited, Found, Lost}
use Rattle.waveform_judge.specs.Judged.{judged_from, judged_in}
use Rattle.waveform_judge.specs.Newest.{newest}
use Rattle.vcd_text.specs.declared.declaration.Variable.{Variable}
use Rattle.xif_sampler.specs.declared.place.Place.{Place}
use Rattle.xif_sampler.specs.Places.{sources_of}
use Rattle.waveform_judge.specs.declared.signals.Signals.{Signals}
use Rattle.waveform_judge.specs.Represented.{ItemJudging, IsOf, IsSampled, HasTaken, HasSampled}
use Rattle.waveform_judge.proofs.Newest.{newest_all, newest_few}

-- ---- a sampler was found

pub open_found : (found : Result (List Source) MapFault) (s : Sampling) (x : ItemJudging) (params : Params) (items : List Item) → HasSampled (Found s) x params found items
    → (sources : List Source) × ((found ≡ Ok sources) × IsSampled x s params sources items)
open_found (Ok sources) s x params items p = (sources, (refl, p))
open_found (Err fault) s x params items p = absurd p

pub close_found : (found : Result (List Source) MapFault) (s : Sampling) (x : ItemJudging) (params : Params) (items : List Item) (sources : List Source) → found ≡ Ok sources → IsSampled x s params sources items
    → HasSampled (Found s) x params found items
close_found found s x params items sources e p = subst (λ f. HasSampled (Found s) x params f items) (sym e) p

pub nothing_awaited : (found : Result (List Source) MapFault) (x : ItemJudging) (params : Params) (items : List Item) → HasSampled Awaited x params found items → ⊥
nothing_awaited (Ok sources) x params items p = p
nothing_awaited (Err fault) x params items p = p

-- ---- one item

abbrev pub Judges : ItemJudging → ItemJudging → Params → Option (List Quad) → Type 0
Judges old new params sample = (h : List (List Quad)) → judge.Represents old.judge params h → judge.Represents new.judge params (option_to_list sample ++ h)

-- no more cycles were judged than items taken
few_by : (signals : Signals) (x : ItemJudging) (params : Params) (found : Result (List Source) MapFault) (items : List Item) → HasSampled signals x params found items → x.judge.cycles ≤ length items
few_by (Found s) x params (Ok sources) items p = omega (arith, p.judged.cycles, newest_few sources (reverse items), length-reverse items)
few_by (Lost fault) x params (Err f) items p = omega (arith, p.1)
few_by (Found s) x params (Err f) items p = absurd p
few_by (Lost fault) x params (Ok sources) items p = absurd p
few_by Awaited x params (Ok sources) items p = absurd p
few_by Awaited x params (Err f) items p = absurd p

pub few_cycles : (x : ItemJudging) (map : List Place) (params : Params) (variables : List Variable) (items : List Item) → HasTaken x map params variables items → x.judge.cycles ≤ length items
few_cycles x map params variables items p = few_by x.signals x params (sources_of map variables params) items p.signals

pub step_found : (sources : List Source) (old new : ItemJudging) (s t : Sampling) (params : Params) (items : List Item) (item : Item) (sample : Option (List Quad))
    → IsSampled old s params sources items
    → ((h : List Item) → sampling.Represents s sources h → sampling.Represents t sources (item ∷ h))
    → ((h : List Item) → sampling.Represents s sources h → sample ≡ answer_to sources h item)
    → Judges old new params sample
    → IsSampled new t params sources (items ++ item ∷ [])
step_found sources old new s t params items item sample p goes_on answers judges =
    let h = reverse items in
    let next : reverse (items ++ item ∷ []) ≡ item ∷ h = reverse-append items (item ∷ []) in
    let P : List Item → Type 0 = λ g. sampling.Represents t sources g in
    let H : List (List Quad) → Type 0 = λ l. judge.Represents new.judge params l in
    let all : option_to_list sample ++ newest sources h ≡ newest sources (reverse (items ++ item ∷ [])) =
    ap (λ o. option_to_list o ++ newest sources h) (answers h p.sampler) ∙ sym (ap (newest sources) next) in
    record {
      sampler = subst P (sym next) (goes_on h p.sampler);
      judged = subst H all (judges (newest sources h) p.judged);
    }

pub took_item : (old new : ItemJudging) (s t : Sampling) (map : List Place) (params : Params) (variables : List Variable) (items : List Item) (item : Item) (sample : Option (List Quad))
    → HasTaken old map params variables items → old.signals ≡ Found s → new.signals ≡ Found t → IsOf new old.map old.params
    → ((sources : List Source) (h : List Item) → sampling.Represents s sources h → sampling.Represents t sources (item ∷ h))
    → ((sources : List Source) (h : List Item) → sampling.Represents s sources h → sample ≡ answer_to sources h item)
    → ((p : Params) → Judges old new p sample)
    → HasTaken new map params variables (items ++ item ∷ [])
took_item old new s t map params variables items item sample p was is same goes_on answers judges =
    let found = sources_of map variables params in
    let opened = open_found found s old params items (subst (λ (g : Signals). HasSampled g old params found items) was p.signals) in
    let sources = opened.0 in
    let sampled = step_found sources old new s t params items item sample opened.1.1 (goes_on sources) (answers sources) (judges params) in
    let closed : HasSampled (Found t) new params found (items ++ item ∷ []) = close_found found t new params (items ++ item ∷ []) sources opened.1.0 sampled in
    record {
      same = record { map = same.map ∙ p.same.map; params = same.params ∙ p.same.params };
      signals = subst (λ (g : Signals). HasSampled g new params found (items ++ item ∷ [])) (sym is) closed;
    }

-- ---- the end

pub end_found : (sources : List Source) (old new : ItemJudging) (s : Sampling) (params : Params) (items : List Item) (sample : Option (List Quad))
    → IsSampled old s params sources items
    → ((h : List Item) → sampling.Represents s sources h → sample ≡ sample_at sources h)
    → Judges old new params sample
    → judge.Represents new.judge params (reverse (samples_by sources items))
end_found sources old new s params items sample p answers judges =
    let h = reverse items in
    let H : List (List Quad) → Type 0 = λ l. judge.Represents new.judge params l in
    let all : option_to_list sample ++ newest sources h ≡ reverse (samples_by sources items) =
    ap (λ o. option_to_list o ++ newest sources h) (answers h p.sampler) ∙ sym (newest_all sources items) in
    subst H all (judges (newest sources h) p.judged)

abbrev made : ℕ → Option Verdict → Judged
made n v = record { cycles = n; verdict = v }

judged_is : (n m : ℕ) (v w : Option Verdict) → n ≡ m → v ≡ w → made n v ≡ made m w
judged_is n m v w e f = rw (e, f) refl

pub judged_found : (found : Result (List Source) MapFault) (x : ItemJudging) (params : Params) (items : List Item) (sources : List Source) (n : ℕ) (v : Option Verdict) → found ≡ Ok sources
    → judge.Represents x.judge params (reverse (samples_by sources items)) → n ≡ x.judge.cycles → v ≡ x.judge.verdict
    → Ok (made n v) ≡ judged_from params items found
judged_found found x params items sources n v e p cycles verdict =
    let samples = samples_by sources items in
    ap Ok (judged_is n (length samples) v (first_fault params (reverse samples)) (cycles ∙ p.cycles ∙ length-reverse samples) (verdict ∙ p.verdict)) ∙ sym (ap (judged_from params items) e)

pub ends_found : (old new : ItemJudging) (s : Sampling) (map : List Place) (params : Params) (variables : List Variable) (items : List Item) (sample : Option (List Quad)) (n : ℕ) (v : Option Verdict)
    → HasTaken old map params variables items → old.signals ≡ Found s
    → ((sources : List Source) (h : List Item) → sampling.Represents s sources h → sample ≡ sample_at sources h)
    → ((p : Params) → Judges old new p sample) → n ≡ new.judge.cycles → v ≡ new.judge.verdict
    → Ok (made n v) ≡ judged_in map params variables items
ends_found old new s map params variables items sample n v p was answers judges cycles verdict =
    let found = sources_of map variables params in
    let opened = open_found found s old params items (subst (λ (g : Signals). HasSampled g old params found items) was p.signals) in
    let sources = opened.0 in
    judged_found found new params items sources n v opened.1.0 (end_found sources old new s params items sample opened.1.1 (answers sources) (judges params)) cycles verdict

pub not_awaited : (old : ItemJudging) (map : List Place) (params : Params) (variables : List Variable) (items : List Item) → HasTaken old map params variables items → old.signals ≡ Awaited → ⊥
not_awaited old map params variables items p e =
    let found = sources_of map variables params in
    nothing_awaited found old params items (subst (λ (g : Signals). HasSampled g old params found items) e p.signals)
