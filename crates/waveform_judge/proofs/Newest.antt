-- The samples of a waveform, in the other order.
use Rattle.std.proofs.Common.{◌≡◌, ◌≤◌, Bool, true, false, cond, List, [], ◌∷◌, ◌++◌, length, reverse, Option, Some, None, refl, sym, ap, ◌∙◌, arith}
use Rattle.std.specs.Prelude.{nat_lt, filter_map}
use Rattle.std.specs.Option.{option_to_list}
use Rattle.std.proofs.lemmas.List.{reverse-append, reverse-reverse, length-append}
use Rattle.std.proofs.lemmas.List.Elements.{filter_map-append}
use Rattle.vcd_text.specs.declared.item.Item.{Item}
use Rattle.vcd_text.specs.declared.item.Item.TheVariants.{Time, Change}
use Rattle.xif_sampler.specs.declared.source.Source.{Source}
use Rattle.xif_sampler.specs.Samples.{time_of, ended, sample_at, samples_by, answer_to}
use Rattle.waveform_judge.specs.Newest.{newest}

one : {X Y : Type 0} (f : X → Option Y) (x : X) (o : Option Y) → f x ≡ o → filter_map f (x ∷ []) ≡ option_to_list o
one f x None e = rw e refl
one f x (Some y) e = rw e refl

reverse_one : {Y : Type 0} (o : Option Y) → reverse (option_to_list o) ≡ option_to_list o
reverse_one None = refl
reverse_one (Some y) = refl

time_by : (sources : List Source) (h : List Item) (b : Bool) → filter_map (sample_at sources) (ended h) ≡ reverse (newest sources h)
    → filter_map (sample_at sources) (cond b (ended h ++ h ∷ []) (ended h)) ≡ reverse (option_to_list (cond b (sample_at sources h) None) ++ newest sources h)
time_by sources h true e =
    filter_map-append (sample_at sources) (ended h) (h ∷ [])
    ∙ ap (λ l. filter_map (sample_at sources) (ended h) ++ l) (one (sample_at sources) h (sample_at sources h) refl)
    ∙ ap (λ l. l ++ option_to_list (sample_at sources h)) e
    ∙ ap (λ l. reverse (newest sources h) ++ l) (sym (reverse_one (sample_at sources h)))
    ∙ sym (reverse-append (option_to_list (sample_at sources h)) (newest sources h))
time_by sources h false e = e

pub ended_newest : (sources : List Source) (h : List Item) → filter_map (sample_at sources) (ended h) ≡ reverse (newest sources h)
ended_newest sources [] = refl
ended_newest sources (Time t ∷ h) = time_by sources h (nat_lt (time_of h) t) (ended_newest sources h)
ended_newest sources (Change code digits ∷ h) = ended_newest sources h

-- all samples, the newest first
pub newest_all : (sources : List Source) (items : List Item) → reverse (samples_by sources items) ≡ option_to_list (sample_at sources (reverse items)) ++ newest sources (reverse items)
newest_all sources items =
    let h = reverse items in
    let o = option_to_list (sample_at sources h) in
    let whole : samples_by sources items ≡ reverse (o ++ newest sources h) = time_by sources h true (ended_newest sources h) in
    ap reverse whole ∙ reverse-reverse (o ++ newest sources h)

one_more : {Y : Type 0} (o : Option Y) → length (option_to_list o) ≤ 1
one_more None = omega arith
one_more (Some y) = omega arith

pub newest_few : (sources : List Source) (h : List Item) → length (newest sources h) ≤ length h
newest_few sources [] = omega arith
newest_few sources (item ∷ h) =
    omega (arith, one_more (answer_to sources h item), newest_few sources h, length-append (option_to_list (answer_to sources h item)) (newest sources h))
