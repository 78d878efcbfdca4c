-- A reader over a scanner.
use Rattle.std.proofs.Common.{◌≡◌, ℕ, Bool, true, false, cond, List, [], ◌∷◌, ◌++◌, length, refl, sym, ap, ◌∙◌, Option, None, Some, Result, Ok, Err, true≢false}
use Rattle.std.specs.Prelude.{IsOk}
use Rattle.std.specs.List.{fold}
use Rattle.vcd_text.specs.declared.declaration.Variable.{Variable}
use Rattle.vcd_text.specs.declared.fault.VcdFault.{VcdFault}
use Rattle.vcd_text.specs.declared.item.Item.{Item}
use Rattle.vcd_text.specs.declared.scanner.Scanner.{Scanner}
use Rattle.vcd_text.specs.declared.state.Part.{Part}
use Rattle.vcd_text.specs.declared.state.Part.TheVariants.{Nothing, Block, Skipped, Vector, Passed}
use Rattle.vcd_text.specs.declared.state.State.{State}
use Rattle.vcd_text.specs.Tokens.{token_before}
use Rattle.vcd_text.specs.Reading.{Read, go, read_so_far, read_whole, reading_of, reading_by, declared_by, ends, fault_in, fault_at_end}
use Rattle.vcd_text.specs.Reader.{Progress, Represents}
use Rattle.vcd_text.specs.Scanner as scanner
use Rattle.vcd_text.specs.Scanner.{outcome, read_by, progress_of}
use Rattle.vcd_text.proofs.Texts.{faulty_front}
use Rattle.vcd_text.proofs.Following.{read_so_far-push}

is_sound : (s : State) (o : Option VcdFault) → o ≡ None → IsOk (outcome s o)
is_sound s o e = rw e refl

pub follows-from_stands : (s : Scanner) (has_failed is_closed : Bool) (text : List ℕ) (taken : List Item) → Represents (progress_of s has_failed is_closed) text taken → scanner.Represents s text taken
follows-from_stands s has_failed is_closed text taken h = record {
  read = h.read;
  size = λ none. (h.run (is_sound s.state s.fault none)).size;
  run = λ none. (h.run (is_sound s.state s.fault none)).run;
}

not_ok : (r : Result State VcdFault) (f : VcdFault) → r ≡ Err f → IsOk r → ⊥
not_ok (Ok s) f e ok = cc
not_ok (Err g) f e ok = absurd (true≢false (sym ok))

-- behind a fault nothing changes
pub stands-faulty : (p : Progress) (f : VcdFault) (text more : List ℕ) (taken : List Item) → p.read.state ≡ Err f → Represents p text taken
    → Represents p (text ++ more) taken × ((read_so_far (text ++ more)).state ≡ Err f)
stands-faulty p f text more taken e h =
    let fault : (read_so_far text).state ≡ Err f = sym (ap (λ (r : Read). r.state) h.read) ∙ e in
    let same : read_so_far (text ++ more) ≡ read_so_far text = faulty_front text more f fault in (
      record {
        alive = h.alive;
        read = h.read ∙ sym same;
        run = λ ok. absurd (not_ok p.read.state f e ok);
      },
      ap (λ (r : Read). r.state) same ∙ fault,
    )

pub closed-faulty : (p : Progress) (f : VcdFault) (text : List ℕ) (taken : List Item) → p.read.state ≡ Err f → Represents p text taken
    → (reading_of text ≡ Err f) × (taken ++ p.read.items ≡ (read_whole text).items)
closed-faulty p f text taken e h =
    let more = stands-faulty p f text (32 ∷ []) taken e h in
    (ap (λ s. ends (read_whole text).items s (length text)) more.1, ap (λ (r : Read). r.items) more.0.read)

-- the end of the text completes the token that is open
pub whole-is : (old new : Scanner) (text : List ℕ) (taken : List Item) → old.fault ≡ None → scanner.Represents old text taken
    → read_by new taken ≡ fold go (read_by old taken) (token_before old.size old.run.items)
    → read_by new taken ≡ read_whole text
whole-is old new text taken none h e =
    e ∙ ap (λ r. fold go r (token_before old.size old.run.items)) h.read
    ∙ ap (λ n. fold go (read_so_far text) (token_before n old.run.items)) (h.size none)
    ∙ ap (λ x. fold go (read_so_far text) (token_before (length text) x)) (h.run none)
    ∙ sym (read_so_far-push text 32)

-- so what the scanner then says is what the whole text says
pub ends-as : (s : Scanner) (text : List ℕ) (taken : List Item) (o : Option VcdFault) → s.fault ≡ o → read_by s taken ≡ read_whole text
    → reading_of text ≡ ends (taken ++ s.items.items) (outcome s.state o) (length text)
ends-as s text taken o e h =
    sym (ap (λ (r : Read). ends r.items r.state (length text)) h) ∙ ap (λ x. ends (taken ++ s.items.items) (outcome s.state x) (length text)) e

pub items-as : (s : Scanner) (text : List ℕ) (taken : List Item) → read_by s taken ≡ read_whole text → taken ++ s.items.items ≡ (read_whole text).items
items-as s text taken h = ap (λ (r : Read). r.items) h

pub closes-as : (s : Scanner) (text : List ℕ) (taken : List Item) (end : ℕ) (o : Option VcdFault) → s.fault ≡ None → end ≡ length text
    → o ≡ fault_at_end end s.state → read_by s taken ≡ read_whole text
    → reading_of text ≡ reading_by s.state.variables (taken ++ s.items.items) o
closes-as s text taken end o none e f h =
    ends-as s text taken None none h
    ∙ ap (λ n. reading_by s.state.variables (taken ++ s.items.items) (fault_at_end n s.state)) (sym e)
    ∙ ap (reading_by s.state.variables (taken ++ s.items.items)) (sym f)

declared_in : (part : Part) (is_declared : Bool) (end : ℕ) (vs : List Variable) → None ≡ fault_in part is_declared end → cond is_declared (Some vs) None ≡ Some vs
declared_in Nothing true end vs h = refl
declared_in Nothing false end vs h = cc
declared_in (Block at k words) is_declared end vs h = cc
declared_in (Skipped at) is_declared end vs h = cc
declared_in (Vector at ds) is_declared end vs h = cc
declared_in (Passed at) is_declared end vs h = cc

-- a text that ends well has all its declarations
pub declared-at_end : (s : State) (end : ℕ) → None ≡ fault_at_end end s → declared_by s ≡ Some s.variables
declared-at_end s end h = declared_in s.part s.is_declared end s.variables h
