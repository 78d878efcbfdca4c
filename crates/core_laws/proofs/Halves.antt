-- The core keeps its rules in each cycle beside a coprocessor that keeps its own, and asks for nothing
-- of a word that it refuses.
use Rattle.std.proofs.Common.{◌≡◌, ◌<◌, ℕ, false, List, [], ◌∷◌, refl, sym, subst, lit<}
use Rattle.std.specs.Prelude.{replicate}
use Rattle.std.proofs.lemmas.List.Elements.{All-replicate, recursion_from_All}
use Rattle.xif_base.specs.declared.params.Params.{Params}
use Rattle.xif_base.specs.Params.{IsInRange}
use Rattle.xif_image.specs.Region.{Region}
use Rattle.xif_drive.specs.Scripts.{Lists}
use Rattle.xif_signals.specs.declared.bus.Bus.{Bus}
use Rattle.xif_signals.specs.declared.bus.CopOut.{CopOut}
use Rattle.xif_session.specs.Facts.{past_of}
use Rattle.xif_session.specs.Legal.{CoreKeeps, EngineKeeps, EachCycle}
use Rattle.cycle_spec.specs.declared.choices.Mode.TheVariants.{Running, DrainBegins}
use Rattle.cycle_spec.specs.State.{Core, Engine, new_core, new_engine}
use Rattle.cycle_lists.specs.Lists.{Each}
use Rattle.cycle_paired.proofs.Always.{drain-paired, resumed-paired}
use Rattle.width_laws.proofs.Memories.{IsByte}
use Rattle.width_laws.proofs.Operands.{IsWord}
use Rattle.trace_laws.specs.Driven.{bus_with}
use Rattle.trace_laws.specs.Sessions.{HasBytes}
use Rattle.trace_laws.proofs.EngineHalf.{new_told}
use Rattle.trace_laws.proofs.Sessions.{operands_in, words_in}
use Rattle.core_laws.specs.Answered.{Answered, First, Cycled, Drained, Resumed}
use Rattle.core_laws.proofs.Cycle.{IsPlain, Held, keeps, held}

pub record Going (params : Params) (hart : ℕ) (w : Core) (session : List Bus) : Type 0 where
  pub told : Engine
  pub params_are : told.params ≡ params
  pub held : Held hart w told (past_of session)
  pub so_far : EachCycle (CoreKeeps params) session

module _ (params : Params) (script : Lists) (window : ℕ) (memory : Region) (entry hart : ℕ) (range : IsInRange params) (bytes : HasBytes memory) (below : hart < params.num_harts) where
  abbrev first : Core
  first = new_core params script window memory entry

  now-keeps : (w : Core) (session : List Bus) (cop : CopOut) → Going params hart w session → CoreKeeps params (past_of session) (bus_with hart w cop)
  now-keeps w session cop x = subst (λ q. CoreKeeps q (past_of session) (bus_with hart w cop)) x.params_are (keeps hart w x.told (past_of session) cop x.held)

  going : (w : Core) (session : List Bus) → Answered hart first w session → EachCycle (EngineKeeps params) session → Each IsPlain session → Going params hart w session
  going _ _ First e n = record {
    told = new_engine params [] script;
    params_are = refl;
    held = record {
      paired = record { answered = λ n. false; order = record { pairs = tt; below = tt }; entries = tt; behind = tt; below = tt; uses = tt; older = tt; match = tt; offers = tt; results = tt; params = refl };
      told = let t = new_told params [] script in record { clock = t.clock; each = t.each; covers = t.covers; rises = t.rises; apart = t.apart; issue = t.issue; result = t.result };
      linked = λ key f q. cc;
      released = tt;
      below = below;
      range = range;
      operands = record { fit = tt; count = refl; shown = λ z. cc };
      words = record { registers = recursion_from_All IsWord (replicate 32 0) (All-replicate IsWord 32 0 (lit< tt)); bytes = recursion_from_All IsByte memory.bytes bytes; writes = tt };
    };
    so_far = tt;
  }
  going _ _ (Cycled w session answer cop wide x s) e n =
      let y = going w session x e.1 n.1 in
      let eng = subst (λ q. EngineKeeps q (past_of session) (bus_with hart w cop)) (sym y.params_are) e.0 in
      record { told = _; params_are = y.params_are; held = held hart w y.told (past_of session) cop y.held n.0 eng answer s wide; so_far = (now-keeps w session cop y, y.so_far) }
  going _ _ (Drained w session x) e n =
      let y = going w session x e n in
      let h = y.held in
      record { told = y.told; params_are = y.params_are; held = record { paired = drain-paired hart (record { core = w; engine = y.told }) h.paired; told = h.told; linked = h.linked; released = h.released; below = h.below; range = h.range; operands = operands_in w DrainBegins w.ahead (past_of session) h.operands; words = words_in w DrainBegins w.ahead h.words }; so_far = y.so_far }
  going _ _ (Resumed w session x) e n =
      let y = going w session x e n in
      let h = y.held in
      record { told = y.told; params_are = y.params_are; held = record { paired = resumed-paired hart (record { core = w; engine = y.told }) h.paired; told = h.told; linked = h.linked; released = h.released; below = h.below; range = h.range; operands = operands_in w Running w.pc (past_of session) h.operands; words = words_in w Running w.pc h.words }; so_far = y.so_far }

  pub plain-half : (w : Core) (session : List Bus) → Answered hart first w session → EachCycle (EngineKeeps params) session → Each IsPlain session → (cop : CopOut) → EachCycle (CoreKeeps params) (bus_with hart w cop ∷ session)
  plain-half w session x e n cop = let y = going w session x e n in (now-keeps w session cop y, y.so_far)
