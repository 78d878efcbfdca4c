-- The entry whose result is taken, where the steps before the result handshake have left it.
use Rattle.std.proofs.Common.{◌≡◌, ◌++◌, ◌==◌, ℕ, Bool, if◌then◌else◌, false, Option, Some, None, List, [], ◌∷◌, refl, sym, ap, ◌∙◌, subst}
use Rattle.std.specs.Prelude.{is_some}
use Rattle.std.proofs.lemmas.Bool.{eqb-true}
use Rattle.xif_signals.specs.declared.bus.Bus.{Bus}
use Rattle.xif_session.specs.declared.fact.Response.{Response}
use Rattle.xif_session.specs.Facts.{is_issued, is_given, response_on}
use Rattle.xif_session.proofs.Options.{both-true, no_true}
use Rattle.cycle_spec.specs.declared.choices.Choices.{Choices}
use Rattle.cycle_spec.specs.declared.entry.Entry.{Entry}
use Rattle.cycle_spec.specs.declared.use_of.Use.{Use}
use Rattle.cycle_spec.specs.Flight.{is_unknown, holds_id}
use Rattle.cycle_spec.specs.Choices.{choices}
use Rattle.cycle_spec.specs.Core.{response_on_offer, sent_on_present, release_step, cut_step, drain_step, sent_step, answered_entries, kept_entries}
use Rattle.cycle_spec.specs.Engine.{response_hit, offered_use, use_or, writeback_of}
use Rattle.cycle_spec.specs.Cycle.{Machines, core_bus_at}
use Rattle.cycle_lists.specs.Lists.{Each, Pairs}
use Rattle.cycle_lists.specs.Order.{Before}
use Rattle.cycle_lists.proofs.Tests.{and-right}
use Rattle.cycle_lists.proofs.Every.{Each-from, Each-append, Pairs-older, Pairs-younger}
use Rattle.cycle_lists.proofs.Places.{first-at}
use Rattle.cycle_paired.specs.Paired.{Paired, response_of}
use Rattle.cycle_paired.proofs.Facts.{Joint, live-undone}
use Rattle.cycle_paired.proofs.Carrying.{Carries}
use Rattle.cycle_paired.proofs.Finishing.{finishing}
use Rattle.cycle_paired.proofs.Choosing.{Sound}
use Rattle.cycle_paired.proofs.Lasting.{carried-at}
use Rattle.cycle_paired.proofs.Cycling.{cpu_for, answer_on, answers, gives, half_entries, half_uses, half}
use Rattle.cycle_paired.proofs.Same.{half_for}
use Rattle.trace_laws.proofs.Paths.{Finishes, Finishing}

-- of the use that the result channel names
pub finishing-of : (hart n id c : ℕ) (answered : ℕ → Bool) (b : Bus) (u : Use) (es : List Entry) (us : List Use) → Joint hart n id c answered es us → Carries u us → b.result_id ≡ u.key.id → b.result_we ≡ writeback_of u.hit → Each (Finishing b) es
finishing-of hart n id c answered b u es us j k i w =
    let f = finishing hart n id c answered u es us k j in
    let at = first-at (holds_id u.key.id) es f.entry f.found in
    let same : b.result_id ≡ f.entry.id = i ∙ sym (eqb-true f.entry.id u.key.id (and-right (is_unknown f.entry) (f.entry.id == u.key.id) at.passes)) in
    let order : Pairs Before (f.older ++ f.entry ∷ f.younger) = subst (Pairs Before) f.here j.kept.pairs in
    let own : Finishes b f.entry = record { undone = live-undone f.entry f.live_is; response = response_of f.partner.hit; there = f.alike.response; writes = w ∙ ap writeback_of (sym f.hit_is) } in
    subst (Each (Finishing b)) (sym f.here)
    (Each-append (Finishing b) f.older (f.entry ∷ f.younger)
    (Each-from (λ x. Before x f.entry) (Finishing b) f.older (λ x r taken y q. absurd (r.apart y f.alike.unknown (q ∙ same))) (Pairs-older Before f.older f.entry f.younger order))
    (λ taken y q. own, Each-from (Before f.entry) (Finishing b) f.younger (λ x r taken y q. absurd (r.apart f.alike.unknown y (sym (q ∙ same)))) (Pairs-younger Before f.older f.entry f.younger order)))

-- no result is taken
pub finishing-none : (b : Bus) (es : List Entry) → b.result_valid ≡ false → Each (Finishing b) es
finishing-none b [] h = tt
finishing-none b (x ∷ xs) h = (λ taken u i. no_true b.result_valid (both-true b.result_valid b.result_ready taken).0 h, finishing-none b xs h)

-- the entries before the result handshake, as the lemmas on core and engine have them
offered-same : (o : Option Entry) (b : Bus) (es : List Entry) → response_on_offer o b es ≡ answer_on o (response_on b) es
offered-same None b es = refl
offered-same (Some e) b es = refl

pub kept-is : (ch : Choices) (b : Bus) (issued : Bool) (r : Response) (given : Bool) (es : List Entry) → is_issued b ≡ issued → response_on b ≡ r → is_given b ≡ given → kept_entries ch b es ≡ half_for ch issued r given es
kept-is ch b issued r given es i h g = ap (λ l. later (sent_step ch.present b l)) answered ∙ ap (λ t. later (if t then sent_on_present ch.present (by issued r) else by issued r)) g
  where
    by : Bool → Response → List Entry
    by t x = if t then answer_on ch.offer x es else es

    later : List Entry → List Entry
    later l = drain_step ch.drain (cut_step ch.cut (release_step ch.release l))

    answered : answered_entries ch b es ≡ by issued r
    answered = ap (λ t. if t then response_on_offer ch.offer b es else es) i ∙ ap (λ l. if issued then l else es) (offered-same ch.offer b es) ∙ ap (by issued) h

-- ---- beside the engine

module _ (hart : ℕ) (m : Machines) (k : Paired hart m) (so : Sound m.core.params.split m.core.flight (choices m.core)) where
  abbrev bus : Bus
  bus = core_bus_at m hart

  abbrev ch : Choices
  ch = choices m.core

  pub engine-finishing : Each (Finishing bus) (kept_entries ch bus m.core.flight)
  engine-finishing =
      subst (Each (Finishing bus)) (sym (kept-is ch bus (answers m.engine hart ch) (response_of (response_hit m.engine (cpu_for hart ch))) (gives m.engine hart ch) m.core.flight refl refl refl)) (go (offered_use m.engine) refl)
    where
      go : (o : Option Use) → offered_use m.engine ≡ o → Each (Finishing bus) (half_entries m.engine hart ch m.core.flight)
      go None q = finishing-none bus (half_entries m.engine hart ch m.core.flight) (ap is_some q)
      go (Some u) q =
          let h = half hart m ch k so in
          finishing-of hart _ _ _ h.answered bus u (half_entries m.engine hart ch m.core.flight) (half_uses m.engine hart ch) h.decided.joint (h.decided.carries u (carried-at m.engine.result_waiting m.engine.script.result m.engine.cycle m.engine.uses u k.results q))
          (ap (λ o. (use_or o).key.id) q) (ap (λ o. writeback_of (use_or o).hit) q)
