use Rattle.std.proofs.Common.{◌+◌, bit_or, [], ◌∷◌, subst}
use Rattle.std.proofs.lemmas.Nat.{or_lt}
use Rattle.cycle_spec.specs.declared.choices.Presented.{Presented}
use Rattle.cycle_spec.specs.State.{Core}
use Rattle.spec_core.specs.Drives.{FitsPresented}
use Rattle.spec_core.proofs.Widths.{third}
use Rattle.spec_core.proofs.state.CoreState.presentation_of.Goals as goal

pub returns-clause-fits : goal.returns-clause-fits
returns-clause-fits c =
    let p = c.self.inside.params in
    let k = p.num_rs + p.dual_read in
    let a = c.half_flag.result in
    let b = c.half_flag-2.result in
    let d = c.half_flag-3.result in
    let e = c.half_flag-4.result in
    let f = c.half_flag-5.result in
    let g = c.half_flag-6.result in
    let ab = bit_or a b in
    let abd = bit_or ab d in
    let abde = bit_or abd e in
    let abdef = bit_or abde f in
    let x : Presented = record {
      entry = c.args.entry.now;
      rs_valid = bit_or abdef g;
      lanes = c.presented_lane.result ∷ c.presented_lane-2.result ∷ c.presented_lane-3.result ∷ [];
    } in
    subst (λ (w : Core). FitsPresented w.params x) c.self.view_is
    (record {
      rs0 = c.presented_lane.ensures.fits;
      rs1 = c.presented_lane-2.ensures.fits;
      rs2 = third c.presented_lane-3.result p.num_rs p.rfr_width c.self.invariant.0.in_range.num_rs.1 c.presented_lane-3.ensures.fits c.presented_lane-3.ensures.none;
      rs_valid =
          or_lt k abdef g
          (or_lt k abde f
          (or_lt k abd e (or_lt k ab d (or_lt k a b c.half_flag.ensures.fits c.half_flag-2.ensures.fits) c.half_flag-3.ensures.fits) c.half_flag-4.ensures.fits)
          c.half_flag-5.ensures.fits)
          c.half_flag-6.ensures.fits;
    })
