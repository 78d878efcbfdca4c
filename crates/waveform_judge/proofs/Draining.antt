-- Items that are taken from a reader, one by one.
use Rattle.std.proofs.Common.{◌≡◌, ◌∙◌, ◌+◌, Bool, true, false, cond, List, [], ◌∷◌, ◌++◌, length, drop, Some, None, refl, sym, ap, subst, append_assoc, arith}
use Rattle.std.specs.Prelude.{slice_get}
use Rattle.xif_base.specs.declared.params.Params.{Params}
use Rattle.vcd_text.specs.declared.declaration.Variable.{Variable}
use Rattle.vcd_text.specs.declared.item.Item.{Item}
use Rattle.vcd_text.specs.Reader as reader
use Rattle.vcd_text.specs.Reader.{after_take}
use Rattle.xif_sampler.specs.declared.place.Place.{Place}
use Rattle.waveform_judge.specs.Represented.{ItemJudging, HasTaken}

-- these items are gone, and were taken
abbrev pub Gone : reader.Progress → ItemJudging → List Item → ItemJudging → List Item → Type 0
Gone start old queue new gone =
    (gone ++ queue ≡ start.read.items)
    × ((map : List Place) (params : Params) (variables : List Variable) (taken : List Item) → HasTaken old map params variables taken
    → HasTaken new map params variables (taken ++ gone))

-- one item of a queue
abbrev pub Takes : ItemJudging → ItemJudging → Item → Type 0
Takes old new item =
    (map : List Place) (params : Params) (variables : List Variable) (taken : List Item) → HasTaken old map params variables taken
    → HasTaken new map params variables (taken ++ item ∷ [])

front : (failed : Bool) (queue : List Item) (item : Item) → Some item ≡ cond failed None (slice_get queue 0)
    → queue ≡ item ∷ cond failed queue (drop 1 queue)
front true queue item e = cc
front false [] item e = cc
front false (x ∷ xs) item e = cc

-- the queue is one item shorter
pub shorter : (r : reader.Progress) (item : Item) → Some item ≡ cond r.has_failed None (slice_get r.read.items 0) → length r.read.items ≡ length (after_take r).read.items + 1
shorter r item e =
    let h : length r.read.items ≡ length (item ∷ (after_take r).read.items) = ap length (front r.has_failed r.read.items item e) in
    omega (arith, h)

pub gone_more : (start r : reader.Progress) (old x new : ItemJudging) (gone : List Item) (item : Item) → Gone start old r.read.items x gone
    → Some item ≡ cond r.has_failed None (slice_get r.read.items 0) → Takes x new item
    → Gone start old (after_take r).read.items new (gone ++ item ∷ [])
gone_more start r old x new gone item p e takes =
    let rest = (after_take r).read.items in
    let queue : r.read.items ≡ item ∷ rest = front r.has_failed r.read.items item e in
    let all : gone ++ item ∷ rest ≡ start.read.items = sym (ap (λ q. gone ++ q) queue) ∙ p.0 in (
      append_assoc gone (item ∷ []) rest ∙ all,
      λ map params variables taken took.
          subst (λ l. HasTaken new map params variables l) (append_assoc taken gone (item ∷ []))
          (takes map params variables (taken ++ gone) (p.1 map params variables taken took)),
    )

nothing : (failed : Bool) (queue : List Item) → failed ≡ false → None ≡ cond failed None (slice_get queue 0) → queue ≡ []
nothing true queue f e = cc
nothing false [] f e = refl
nothing false (x ∷ xs) f e = cc

abbrev pub with_items : reader.Progress → List Item → reader.Progress
with_items r queue = record r { read = record r.read { items = queue } }

pub same_more : (start r n : reader.Progress) → r ≡ with_items start r.read.items → n ≡ after_take r → n ≡ with_items start n.read.items
same_more start r n h e =
    let queue = (after_take r).read.items in
    e ∙ ap (λ (x : reader.Progress). with_items x queue) h ∙ ap (with_items start) (sym (ap (λ (x : reader.Progress). x.read.items) e))
