-- A front of what was written so far is a front of the whole.
use Rattle.std.proofs.Common.{◌≡◌, ◌≤◌, ◌+◌, ℕ, List, [], ◌∷◌, ◌++◌, length, take, Option, arith, refl, sym, ap, subst, ◌∙◌, append_assoc}
use Rattle.std.specs.Option.{option_map}
use Rattle.std.specs.FinMap as map
use Rattle.std.proofs.lemmas.Grind.{common_steps}
use Rattle.xif_base.specs.Files.{Files}
use Rattle.xif_base.specs.declared.params.Params.{Params}
use Rattle.xif_signals.specs.declared.bus.Bus.{Bus}
use Rattle.vcd_text.specs.Writing.{Progress, Wrote}
use Rattle.vcd_text.specs.Written.{cycles_text, vcd_text_of}
use Rattle.xif_targets.specs.Writing.{IsWrittenInPart}
use Rattle.xif_targets.proofs.Growing.{growing-part}
use Rattle.trace_file.specs.Tracing.{Tracing, IsTracing, trace_text}

pub part-longer : (before now : Option Files) (name bytes more : List ℕ) → IsWrittenInPart before now name bytes → IsWrittenInPart before now name (bytes ++ more)
part-longer before now name bytes more part =
    let len : length (bytes ++ more) ≡ length bytes + length more = grind (arith, common_steps) in
    let same : take part.count (bytes ++ more) ≡ take part.count bytes = take-before bytes more part.count part.within in
    record {
      count = part.count;
      within = omega (arith, len, part.within);
      by_front = part.by_front ∙ ap (λ text. option_map (λ m. map.insert m name text) before) (sym same);
    }
  where
    take-before : (xs ys : List ℕ) (n : ℕ) → n ≤ length xs → take n (xs ++ ys) ≡ take n xs
    take-before xs ys n h = grind (arith, common_steps)

-- a part of the text so far is one of the whole, whatever buses follow
pub part-whole : (before now : Option Files) (name : List ℕ) (w : Progress) (buses more : List Bus) (text : List ℕ) → Wrote w buses text → IsWrittenInPart before now name text → IsWrittenInPart before now name (trace_text w.params (buses ++ more))
unfolding trace_text
part-whole before now name w buses more text wrote part = subst (IsWrittenInPart before now name) (wrote.joined more) (part-longer before now name text (cycles_text w.params w.cycles w.last more) part)

-- likewise where nothing more was sent
pub tracing-part : (before now : Option Files) (name : List ℕ) (t : Tracing) (buses more : List Bus) → IsTracing before now name t buses → IsWrittenInPart before now name (trace_text t.writer.params (buses ++ more))
unfolding trace_text
tracing-part before now name t buses more tracing =
    subst (IsWrittenInPart before now name) (tracing.wrote.joined more) (growing-part before now name t.pending tracing.text (cycles_text t.writer.params t.writer.cycles t.writer.last more) tracing.is_growing)

-- likewise where a cycle was written
pub cycle-part : (before now : Option Files) (name : List ℕ) (w : Progress) (p : Params) (buses more : List Bus) (bus : Bus) (text : List ℕ) → w.params ≡ p → Wrote w (buses ++ bus ∷ []) text → IsWrittenInPart before now name text → IsWrittenInPart before now name (trace_text p (buses ++ bus ∷ more))
cycle-part before now name w p buses more bus text same wrote part =
    subst (λ bs. IsWrittenInPart before now name (trace_text p bs)) (append_assoc buses (bus ∷ []) more)
    (subst (λ q. IsWrittenInPart before now name (trace_text q ((buses ++ bus ∷ []) ++ more))) same
    (part-whole before now name w (buses ++ bus ∷ []) more text wrote part))

-- the next cycle is put behind what is pending
pub cycle-pending : (before now : Option Files) (name : List ℕ) (t : Tracing) (w : Progress) (pending : List ℕ) (buses : List Bus) (bus : Bus)
    → ((bs : List Bus) (front : List ℕ) → Wrote t.writer bs (front ++ t.pending) → Wrote w (bs ++ bus ∷ []) (front ++ pending))
    → IsTracing before now name t buses → IsTracing before now name (record { writer = w; pending = pending }) (buses ++ bus ∷ [])
cycle-pending before now name t w pending buses bus goes_on tracing =
    let sent = tracing.is_growing.sent in
    record {
      text = sent ++ pending;
      is_growing = record { sent = sent; all = refl; is_sent = tracing.is_growing.is_sent };
      wrote = goes_on buses sent (subst (Wrote t.writer buses) tracing.is_growing.all tracing.wrote);
    }

-- where the end is written, the text is whole
pub end-whole : (w : Progress) (buses : List Bus) (text piece : List ℕ) → text ++ piece ≡ vcd_text_of w.params buses → text ++ piece ≡ trace_text w.params buses
unfolding trace_text
end-whole w buses text piece e = e
