-- The samples of a history, item by item.
use Rattle.std.proofs.Common.{◌≡◌, ◌+◌, ◌<◌, ℕ, Bool, true, false, cond, List, [], ◌∷◌, ◌++◌, length, take, get_or, reverse, Option, Some, None, refl, sym, ap, ◌∙◌}
use Rattle.std.specs.Prelude.{nat_lt, filter_map}
use Rattle.std.specs.Option.{option_to_list}
use Rattle.std.proofs.lemmas.List.{append-nil, reverse-append, take_more}
use Rattle.std.proofs.lemmas.List.Elements.{filter_map-append}
use Rattle.vcd_text.specs.declared.item.Item.{Item}
use Rattle.vcd_text.specs.declared.item.Item.TheVariants.{Time, Change}
use Rattle.xif_sampler.specs.declared.source.Source.{Source}
use Rattle.xif_sampler.specs.Samples.{time_of, ended, sample_at, samples_by, answer_to}

one : {X Y : Type 0} (f : X → Option Y) (x : X) (o : Option Y) → f x ≡ o → filter_map f (x ∷ []) ≡ option_to_list o
one f x None e = rw e refl
one f x (Some y) e = rw e refl

time_by : (sources : List Source) (h : List Item) (b : Bool)
    → filter_map (sample_at sources) (cond b (ended h ++ h ∷ []) (ended h)) ≡ filter_map (sample_at sources) (ended h) ++ option_to_list (cond b (sample_at sources h) None)
time_by sources h true =
    filter_map-append (sample_at sources) (ended h) (h ∷ []) ∙ ap (λ l. filter_map (sample_at sources) (ended h) ++ l) (one (sample_at sources) h (sample_at sources h) refl)
time_by sources h false = sym (append-nil (filter_map (sample_at sources) (ended h)))

-- an item adds the sample that it ends an instant with
pub ended_more : (sources : List Source) (h : List Item) (item : Item)
    → filter_map (sample_at sources) (ended (item ∷ h)) ≡ filter_map (sample_at sources) (ended h) ++ option_to_list (answer_to sources h item)
ended_more sources h (Time t) = time_by sources h (nat_lt (time_of h) t)
ended_more sources h (Change code digits) = sym (append-nil (filter_map (sample_at sources) (ended h)))

-- the end adds that of the last instant
pub ended_all : (sources : List Source) (items : List Item)
    → samples_by sources items ≡ filter_map (sample_at sources) (ended (reverse items)) ++ option_to_list (sample_at sources (reverse items))
ended_all sources items =
    let h = reverse items in
    filter_map-append (sample_at sources) (ended h) (h ∷ []) ∙ ap (λ l. filter_map (sample_at sources) (ended h) ++ l) (one (sample_at sources) h (sample_at sources h) refl)

-- the history of one item more
pub reverse_more : (items : List Item) (i : ℕ) (item : Item) → i < length items → item ≡ get_or items i item → reverse (take (i + 1) items) ≡ item ∷ reverse (take i items)
reverse_more items i item h e =
    ap reverse (take_more items i item h) ∙ reverse-append (take i items) (get_or items i item ∷ []) ∙ ap (λ x. x ∷ reverse (take i items)) (sym e)
