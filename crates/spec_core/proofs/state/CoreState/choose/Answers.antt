use Rattle.std.proofs.Common.{◌≡◌, ◌∙◌, All, sym, ap, subst}
use Rattle.std.proofs.lemmas.List.Elements.{All-weaker}
use Rattle.cycle_spec.specs.State.{Core}
use Rattle.cycle_spec.specs.Choices as choose
use Rattle.spec_core.specs.Fits.{IsEntry, AreEntries}
use Rattle.spec_core.specs.Drives.{AreNamed, HasId}
use Rattle.spec_core.proofs.Named.{named}
use Rattle.spec_core.proofs.state.CoreState.choose.Goals as goal

pub returns : goal.returns
returns c =
    let w : Core = c.args.self.now in
    let entries : AreEntries w.params w.memory w.flight = subst (λ (x : Core). AreEntries x.params x.memory x.flight) c.self.view_is c.self.invariant.1.1 in
    let ids : All (HasId w.params) w.flight = All-weaker (IsEntry w.params w.memory) (HasId w.params) (λ e h. h.id) w.flight entries in
    let same : c.choose_in.new.choices ≡ choose.choices w = c.choose_in.ensures.value ∙ ap (λ m. choose.choices_in w m) (ap (λ (x : Core). x.mode) c.self.view_is) in
    record {
      same = same;
      fits = c.choose_in.ensures.fits;
      ids = subst (AreNamed (HasId w.params)) (sym same) (named (HasId w.params) w ids);
    }
