-- What the cycles of a text say.
use Rattle.std.proofs.Common.{◌≡◌, ◌+◌, ◌*◌, ◌^◌, ◌<◌, ◌≤◌, ℕ, Bool, true, false, cond, List, [], ◌∷◌, ◌++◌, length, Option, Some, sym, ap, ◌∙◌, subst, arith, lit<, lit≤}
use Rattle.std.specs.List.{flat_map, AllByRecursion}
use Rattle.xif_base.specs.declared.params.Params.{Params}
use Rattle.xif_signals.specs.declared.bus.Bus.{Bus}
use Rattle.xif_signals.specs.declared.sample.Quad.{Quad}
use Rattle.xif_signals.specs.declared.signal.Signal.{Signal}
use Rattle.xif_signals.specs.Signal.{signal_number, code_of, width_of}
use Rattle.xif_signals.specs.Bus.{sample_of, FitsWidths}
use Rattle.vcd_text.specs.declared.declaration.Variable.{Variable}
use Rattle.vcd_text.specs.declared.item.Item.TheVariants.{Time, Change}
use Rattle.vcd_text.specs.Codes.{Code, code_from}
use Rattle.vcd_text.specs.Written.{time_line, clock_line, change_line, changed_line, is_same, value_in, data_wires_of, cycle_text, cycles_text, bits, change_items, cycle_items, cycles_items}
use Rattle.vcd_text.specs.Writing.{Fits}
use Rattle.vcd_text.proofs.Says.{Says, says-then, says-nothing}
use Rattle.vcd_text.proofs.SaidLines.{in_body, says-time, says-digit, says-change}
use Rattle.vcd_text.proofs.SaidHeader.{Found}
use Rattle.vcd_text.proofs.Table.{code_is}
use Rattle.vcd_text.proofs.Fitting.{bus_fits}

module _ (p : Params) (cs : List Code) (vs : List Variable) where
  -- the change of a signal, where there is one
  says-one : (at t k : ℕ) (s : Signal) (v : ℕ) (x : Bool) → code_from 0 (code_of s) cs ≡ Some (k, width_of s p) → 0 < width_of s p → v < 2 ^ width_of s p
      → Says at (in_body cs vs t) (cond x [] (change_line (width_of s p) (code_of s) v)) (in_body cs vs t) (cond x [] (Change k (bits v) ∷ []))
  says-one at t k s v true e w f = says-nothing at (in_body cs vs t)
  says-one at t k s v false e w f =
      subst (λ c. Says at (in_body cs vs t) (change_line (width_of s p) c v) (in_body cs vs t) (Change k (bits v) ∷ [])) (sym (code_is s))
      (says-change cs vs at t (33 + signal_number s) k (width_of s p) v (omega arith) (ap (λ c. code_from 0 c cs) (sym (code_is s)) ∙ e) w f)

  says-changes : (at t : ℕ) (a : Option (List Quad)) (b : List Quad) (k : ℕ) (ss : List Signal) → Found cs p k ss → AllByRecursion (λ s. 0 < width_of s p) ss → Fits p b
      → Says at (in_body cs vs t) (flat_map (changed_line p a b) ss) (in_body cs vs t) (change_items a b k ss)
  says-changes at t a b k [] found wide fits = says-nothing at (in_body cs vs t)
  says-changes at t a b k (s ∷ ss) found wide fits =
      let i = in_body cs vs t in
      let one = changed_line p a b s in
      says-then at i i i one (flat_map (changed_line p a b) ss) (cond (is_same a b s) [] (Change k (bits (value_in b s)) ∷ [])) (change_items a b (k + 1) ss)
      (says-one at t k s (value_in b s) (is_same a b s) found.0.place wide.0 (fits s))
      (says-changes (at + length one) t a b (k + 1) ss found.1 wide.1 fits)

-- the codes of the clock and of the other signals that are there
pub record AreFound (p : Params) (cs : List Code) : Type 0 where
  pub clock : code_from 0 (33 ∷ []) cs ≡ Some (0, 1)
  pub others : Found cs p 1 (data_wires_of p)
  pub wide : AllByRecursion (λ s. 0 < width_of s p) (data_wires_of p)

-- when the last item is
abbrev pub end_time : ℕ → List Bus → ℕ
end_time c [] = 10 * c
end_time c (b ∷ bs) = end_time (c + 1) bs

module _ (p : Params) (cs : List Code) (vs : List Variable) (found : AreFound p cs) where
  says-cycle : (at u c : ℕ) (a : Option (List Quad)) (b : List Quad) → Fits p b → u ≤ 10 * c → 10 * c + 5 < 2 ^ 64
      → Says at (in_body cs vs u) (cycle_text p c a b) (in_body cs vs (10 * c + 5)) (cycle_items p c a b)
  says-cycle at u c a b fits h k =
      let s = in_body cs vs (10 * c) in
      let t = in_body cs vs (10 * c + 5) in
      let one = time_line (10 * c) in
      let two = clock_line 0 in
      let three = flat_map (changed_line p a b) (data_wires_of p) in
      let four = time_line (10 * c + 5) in
      let five = clock_line 1 in
      let changed = change_items a b 1 (data_wires_of p) in
      let n1 = at + length one in
      let n2 = n1 + length two in
      let n3 = n2 + length three in
      let n4 = n3 + length four in
      says-then at (in_body cs vs u) s t one (two ++ (three ++ (four ++ five))) (Time (10 * c) ∷ []) (Change 0 (bits 0) ∷ (changed ++ (Time (10 * c + 5) ∷ Change 0 (bits 1) ∷ [])))
      (says-time cs vs at u (10 * c) h (omega arith))
      (says-then n1 s s t two (three ++ (four ++ five)) (Change 0 (bits 0) ∷ []) (changed ++ (Time (10 * c + 5) ∷ Change 0 (bits 1) ∷ []))
      (says-digit cs vs n1 (10 * c) 33 0 0 (lit≤ tt) found.clock (lit< tt))
      (says-then n2 s s t three (four ++ five) changed (Time (10 * c + 5) ∷ Change 0 (bits 1) ∷ [])
      (says-changes p cs vs n2 (10 * c) a b 1 (data_wires_of p) found.others found.wide fits)
      (says-then n3 s t t four five (Time (10 * c + 5) ∷ []) (Change 0 (bits 1) ∷ [])
      (says-time cs vs n3 (10 * c) (10 * c + 5) (omega arith) k)
      (says-digit cs vs n4 (10 * c + 5) 33 0 1 (lit≤ tt) found.clock (lit< tt)))))

  pub says-cycles : (at u c : ℕ) (a : Option (List Quad)) (bs : List Bus) → AllByRecursion (FitsWidths p) bs → u ≤ 10 * c → 10 * (c + length bs) < 2 ^ 64
      → Says at (in_body cs vs u) (cycles_text p c a bs) (in_body cs vs (end_time c bs)) (cycles_items p c a bs)
  says-cycles at u c a [] fits h k =
      let s = in_body cs vs (10 * c) in
      says-then at (in_body cs vs u) s s (time_line (10 * c)) (clock_line 0) (Time (10 * c) ∷ []) (Change 0 (bits 0) ∷ [])
      (says-time cs vs at u (10 * c) h (omega arith))
      (says-digit cs vs (at + length (time_line (10 * c))) (10 * c) 33 0 0 (lit≤ tt) found.clock (lit< tt))
  says-cycles at u c a (b ∷ bs) fits h k =
      let text = cycle_text p c a (sample_of b) in
      says-then at (in_body cs vs u) (in_body cs vs (10 * c + 5)) (in_body cs vs (end_time (c + 1) bs)) text (cycles_text p (c + 1) (Some (sample_of b)) bs) (cycle_items p c a (sample_of b)) (cycles_items p (c + 1) (Some (sample_of b)) bs)
      (says-cycle at u c a (sample_of b) (bus_fits p b fits.0) h (omega arith))
      (says-cycles (at + length text) (10 * c + 5) (c + 1) (Some (sample_of b)) bs fits.1 (omega arith) (omega arith))
