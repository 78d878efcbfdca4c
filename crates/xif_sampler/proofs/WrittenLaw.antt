-- The samples of the text of buses are those buses.
use Rattle.std.proofs.Common.{◌≡◌, ◌+◌, ◌^◌, ◌<◌, ◌==◌, ℕ, Bool, true, false, cond, List, [], ◌∷◌, map, drop, length, refl, sym, ap, ◌∙◌, subst, arith, Result}
use Rattle.std.specs.List.{All}
use Rattle.std.specs.Result.{result_unwrap_or}
use Rattle.std.proofs.lemmas.Bool.{eqb-true}
use Rattle.xif_base.specs.declared.params.Params.{Params}
use Rattle.xif_base.specs.Params.{IsInRange}
use Rattle.xif_signals.specs.declared.bus.Bus.{Bus}
use Rattle.xif_signals.specs.declared.signal.Signal.{Signal}
use Rattle.xif_signals.specs.declared.signal.Signal.TheVariants.{Clk, RstN, IssueValid, IssueReady, IssueHartid, IssueId, IssueInstr, IssueAccept, IssueWriteback, IssueRegisterRead, RegisterValid, RegisterReady, RegisterHartid, RegisterId, RegisterRs0, RegisterRs1, RegisterRs2, RegisterRsValid, CommitValid, CommitHartid, CommitId, CommitKill, ResultValid, ResultReady, ResultHartid, ResultId, ResultData, ResultRd, ResultWe}
use Rattle.xif_signals.specs.Signal.{signals, width_of}
use Rattle.xif_signals.specs.Quad.{known_quad, quad_of}
use Rattle.xif_signals.specs.Bus.{sample_of, FitsWidths}
use Rattle.vcd_text.specs.declared.item.Item.{Item}
use Rattle.vcd_text.specs.Written.{wires, data_wires_of, value_in, written_variables, written_items}
use Rattle.vcd_text.proofs.Fitting.{bus_fits}
use Rattle.vcd_text.proofs.ReadsBack.{law as text_law, all_by}
use Rattle.xif_sampler.specs.declared.fault.MapFault.{MapFault}
use Rattle.xif_sampler.specs.declared.source.Source.{Source}
use Rattle.xif_sampler.specs.declared.source.Source.TheVariants.{Fixed, Bits}
use Rattle.xif_sampler.specs.Samples.{quad_by, samples_by}
use Rattle.xif_sampler.specs.Written.{SamplesBack}
use Rattle.xif_sampler.proofs.WrittenSources.{written_sources, wires_there, wires_gone, sources_are, clock_first}
use Rattle.xif_sampler.proofs.WrittenSamples.{Has, samples_of_cycles}

known_of : (b : Bus) (s : Signal) → quad_of (sample_of b) s ≡ known_quad (value_in (sample_of b) s)
known_of b Clk = refl
known_of b RstN = refl
known_of b IssueValid = refl
known_of b IssueReady = refl
known_of b IssueHartid = refl
known_of b IssueId = refl
known_of b IssueInstr = refl
known_of b IssueAccept = refl
known_of b IssueWriteback = refl
known_of b IssueRegisterRead = refl
known_of b RegisterValid = refl
known_of b RegisterReady = refl
known_of b RegisterHartid = refl
known_of b RegisterId = refl
known_of b RegisterRs0 = refl
known_of b RegisterRs1 = refl
known_of b RegisterRs2 = refl
known_of b RegisterRsValid = refl
known_of b CommitValid = refl
known_of b CommitHartid = refl
known_of b CommitId = refl
known_of b CommitKill = refl
known_of b ResultValid = refl
known_of b ResultReady = refl
known_of b ResultHartid = refl
known_of b ResultId = refl
known_of b ResultData = refl
known_of b ResultRd = refl
known_of b ResultWe = refl

quads_by : (p : Params) (g : List Item) (b : Bus) (k : ℕ) (s : Signal) (ss : List Signal) (x : Bool) → (width_of s p == 0) ≡ x → FitsWidths p b
    → (Has p g (sample_of b) k (wires p ss) → map (quad_by g) (written_sources p k ss) ≡ map (quad_of (sample_of b)) ss)
    → (Has p g (sample_of b) (k + 1) (wires p ss) → map (quad_by g) (written_sources p (k + 1) ss) ≡ map (quad_of (sample_of b)) ss)
    → Has p g (sample_of b) k (wires p (s ∷ ss)) → map (quad_by g) (written_sources p k (s ∷ ss)) ≡ map (quad_of (sample_of b)) (s ∷ ss)
unfolding Has
quads_by p g b k s ss true e f gone there has =
    let w : width_of s p ≡ 0 = eqb-true (width_of s p) 0 e in
    let small : value_in (sample_of b) s < 2 ^ 0 = subst (λ n. value_in (sample_of b) s < 2 ^ n) w (bus_fits p b f s) in
    let zero : 0 ≡ value_in (sample_of b) s = omega arith in
    ap (λ y. map (quad_by g) (cond y (Fixed 0 ∷ written_sources p k ss) (Bits k 0 (width_of s p) ∷ written_sources p (k + 1) ss))) e
    ∙ ap (λ q. q ∷ map (quad_by g) (written_sources p k ss)) (ap known_quad zero ∙ sym (known_of b s))
    ∙ ap (λ qs. quad_of (sample_of b) s ∷ qs) (gone (subst (λ (ws : List Signal). Has p g (sample_of b) k ws) (wires_gone p s ss e) has))
quads_by p g b k s ss false e f gone there has =
    let both : Has p g (sample_of b) k (s ∷ wires p ss) = subst (λ (ws : List Signal). Has p g (sample_of b) k ws) (wires_there p s ss e) has in
    ap (λ y. map (quad_by g) (cond y (Fixed 0 ∷ written_sources p k ss) (Bits k 0 (width_of s p) ∷ written_sources p (k + 1) ss))) e
    ∙ ap (λ q. q ∷ map (quad_by g) (written_sources p (k + 1) ss)) (both.0 ∙ sym (known_of b s))
    ∙ ap (λ qs. quad_of (sample_of b) s ∷ qs) (there both.1)

quads_are : (p : Params) (g : List Item) (b : Bus) (k : ℕ) (ss : List Signal) → FitsWidths p b → Has p g (sample_of b) k (wires p ss) → map (quad_by g) (written_sources p k ss) ≡ map (quad_of (sample_of b)) ss
quads_are p g b k [] f has = refl
quads_are p g b k (s ∷ ss) f has = quads_by p g b k s ss (width_of s p == 0) refl f (quads_are p g b k ss f) (quads_are p g b (k + 1) ss f) has

rest_is : (p : Params) (g : List Item) (b : Bus) → FitsWidths p b → Has p g (sample_of b) 1 (data_wires_of p) → map (quad_by g) (written_sources p 1 (drop 1 signals)) ≡ sample_of b
unfolding data_wires_of
rest_is p g b f has = quads_are p g b 1 (drop 1 signals) f has

pub law : (p : Params) (buses : List Bus) → IsInRange p → All (FitsWidths p) buses → length buses < 2 ^ 60 → SamplesBack p buses
law p buses r fits l =
    let items = written_items p buses in
    record {
      reading = record { variables = written_variables p; items = items };
      reads = text_law p buses r fits l;
      fits = (written_sources p 0 signals, sources_are p);
      samples =
          ap (λ (s : Result (List Source) MapFault). samples_by (result_unwrap_or s []) items) (sources_are p)
          ∙ ap (λ (s : List Source). samples_by s items) (clock_first p)
          ∙ samples_of_cycles p (written_sources p 1 (drop 1 signals)) (rest_is p) buses (all_by (FitsWidths p) buses fits);
    }
