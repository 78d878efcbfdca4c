-- What a coprocessor has seen stays what the buses say, in every cycle in which it keeps its rules.
use Rattle.std.proofs.Common.{◌≡◌, ◌+◌, ◌==◌, ◌&&◌, ◌||◌, not, ℕ, Bool, true, false, if◌then◌else◌, Option, Some, None, List, [], ◌∷◌, map, refl, sym, ap, ◌∙◌, subst}
use Rattle.std.specs.Prelude.{is_some, IfSome, IsSomeAnd}
use Rattle.std.specs.List.{list_any}
use Rattle.std.proofs.lemmas.Bool.{eq-eqb}
use Rattle.rv32_table.specs.Instr.{rd_field}
use Rattle.xif_base.specs.declared.params.Key.{Key}
use Rattle.coproc_config.specs.declared.accept.Hit.{Hit}
use Rattle.xif_signals.specs.declared.bus.Bus.{Bus}
use Rattle.xif_signals.specs.declared.bus.CpuOut.{CpuOut}
use Rattle.xif_signals.specs.declared.bus.CopOut.{CopOut}
use Rattle.xif_signals.specs.declared.bus.CpuIn.{CpuIn}
use Rattle.xif_signals.specs.Bus.{join_of}
use Rattle.xif_session.specs.declared.fact.Response.{Response}
use Rattle.xif_session.specs.declared.fact.Fact.{Fact}
use Rattle.xif_session.specs.Facts as session
use Rattle.xif_session.specs.Facts.{Facts, Past, past_after, same_key, is_accepted, is_released, issue_key, register_key, commit_key, result_waits, is_issued, is_given, named, now, answered_on, given_on, undecided_start, effective_start, response_on}
use Rattle.xif_session.specs.Rules.{MayFinish, HoldsR3, HoldsR4, HoldsR5, read_of}
use Rattle.xif_session.specs.Rules as rules
use Rattle.xif_session.proofs.Options.{both-true, and-true}
use Rattle.cycle_spec.specs.declared.use_of.Use.{Use}
use Rattle.cycle_spec.specs.Turns.{transactions_after}
use Rattle.cycle_spec.specs.State.{Engine}
use Rattle.cycle_spec.specs.Engine as engine
use Rattle.cycle_spec.specs.Engine.{has_key, has_start, latest, has_operands, is_complete, issue_start, started_uses, lanes_on, with_end, ended, owner_if, writeback_of, register_read_of}
use Rattle.cycle_lists.specs.Lists.{Each}
use Rattle.cycle_lists.proofs.Every.{Each-from, Each-both, Each-at}
use Rattle.cycle_lists.proofs.Places.{last-found}
use Rattle.trace_laws.specs.Driven.{bus_beside}
use Rattle.trace_laws.proofs.Uses.{any-in, only}
use Rattle.trace_laws.proofs.EngineTold.{Orderly, answer, AnsweredBy, Computed, Told, Shows, Kept, Stage, IssueTold, EngineTold, Found, found}
use Rattle.trace_laws.proofs.EngineSteps.{stage_map, Offered, stage_answered, IsServed, stage_given, stage_decided, stage_ended, unanswered}
use Rattle.trace_laws.proofs.EngineCycle as turn
use Rattle.trace_laws.proofs.EngineCycle.{seen, seen_some, seen_after}
use Rattle.core_laws.proofs.Ghost.{hit_with, may_be_ready, readied, result_key, answered_with, given_with, decided_with, readied_with, ended_with, told_after, Ends}

-- The result channel of the last cycle counts for nothing here.
abbrev pub quiet : Past → Past
quiet p = record p { last = record p.last { result_valid = false } }

undecided_same : (b : Bus) (F : Facts) (key : Key) → undecided_start (given_on b (answered_on b F) key) ≡ undecided_start (F key)
undecided_same b F key = go (F key)
  where
    go : (o : Option Fact) → undecided_start (given_on b (answered_on b (λ k. o)) key) ≡ undecided_start o
    go None = refl
    go (Some f) = refl

all-ready : (us : List Use) → Each (λ u. may_be_ready u ≡ true → is_some u.ready ≡ true) (map readied us)
all-ready [] = tt
all-ready (u ∷ us) = (λ h. ap (λ b. is_some (if b then Some 0 else u.ready)) h, all-ready us)

-- a use that becomes ready may give its result
readied_computed : (facts : Facts) (harts : ℕ) (u : Use) → Told facts harts u → is_some (readied u).ready ≡ true → Computed u
readied_computed facts harts u t = go (may_be_ready u) refl
  where
    go : (b : Bool) → may_be_ready u ≡ b → is_some (if b then Some 0 else u.ready) ≡ true → Computed u
    go false q h = t.computed h
    go true q h =
        let both = both-true (engine.is_accepted u) (is_complete u) q in
        let more = both-true (is_released u.decision) (has_operands u) both.1 in
        record { accepted = both.0; released = more.0; given = more.1 }

told_readied : (facts : Facts) (harts : ℕ) (u : Use) → Told facts harts u → Told facts harts (readied u)
told_readied facts harts u t = record {
  response = t.response;
  flags = t.flags;
  is_fact = t.is_fact;
  answered = t.answered;
  given = t.given;
  given_after = t.given_after;
  within = t.within;
  computed = λ h. let c = readied_computed facts harts u t h in record { accepted = c.accepted; released = c.released; given = c.given };
  ended = t.ended;
  hart = t.hart;
}

-- what a hit says of the response
record HitIs (o : Option Response) (hit : Option Hit) : Type 0 where
  accepted : is_some hit ≡ true
  reads : read_of o ≡ register_read_of hit
  writes : rules.writeback_of o ≡ writeback_of hit

-- but for what the result channel shows
calm : (facts : Facts) (harts : ℕ) (b c : Bus) (start : ℕ) (shows : Bool) (n : ℕ) (us : List Use) → Stage facts harts b start shows n us → Stage facts harts c 0 false n us
calm facts harts b c start shows n us s = record { each = Each-from (Kept facts harts b start shows) (Kept facts harts c 0 false) us (λ u x. (x.0, λ h. cc)) s.each; covers = s.covers; member = λ h. cc; rises = s.rises; apart = s.apart }

module _ (g : Engine) (p : Past) (cpu : CpuOut) (cop : CopOut) (input : CpuIn) (t : EngineTold g g.params.num_harts (quiet p)) (k : Orderly g.params p (join_of cpu cop input)) where
  abbrev bus : Bus
  bus = join_of cpu cop input

  abbrev harts : ℕ
  harts = g.params.num_harts

  -- the rules that the uses need, of the same core beside the engine
  recast : Orderly g.params (quiet p) (bus_beside g cpu input)
  recast = record { hart = k.hart; i1 = k.i1; i2 = k.i2; g1 = record { valid = k.g1.valid; key = k.g1.key } }

  pub started_stage : Stage (named p bus) harts bus 0 false (p.cycle + 1) (started_uses g cpu)
  started_stage =
      let s = turn.started_stage g (quiet p) cpu input t recast in
      record { each = Each-from (Told (named p bus) harts) (Kept (named p bus) harts bus 0 false) (started_uses g cpu) (λ u x. (x, λ h. cc)) (turn.told_started g (quiet p) cpu input t recast); covers = s.covers; member = λ h. cc; rises = s.rises; apart = s.apart }

  pub offered : cpu.issue_valid ≡ true → Offered (named p bus) (engine.issue_key cpu) (issue_start g cpu) cpu.issue_instr
  offered v = let o = turn.offered g (quiet p) cpu input t recast v in record { fact = o.fact; there = o.there; start_is = o.start_is; word_is = o.word_is; response = o.response }

  issued_valid : is_issued bus ≡ true → cpu.issue_valid ≡ true
  issued_valid h = (both-true cpu.issue_valid cop.issue_ready h).0

  module _ (says : is_issued bus ≡ true → response_on bus ≡ answer (hit_with cop)) where
    pub answered_stage : Stage (answered_on bus (named p bus)) harts bus 0 false (p.cycle + 1) (answered_with g cpu cop)
    answered_stage = stage_answered (named p bus) bus harts 0 false (p.cycle + 1) (hit_with cop) 0 (issue_start g cpu) (started_uses g cpu) (is_issued bus) refl (λ h. offered (issued_valid h)) says started_stage

    module _ (serves : is_given bus ≡ true → (f : Fact) → answered_on bus (named p bus) (register_key bus) ≡ Some f → IsServed f.response cpu.register_rs_valid) where
      pub given_stage : Stage (given_on bus (answered_on bus (named p bus))) harts bus 0 false (p.cycle + 1) (given_with g cpu cop)
      given_stage = stage_given (answered_on bus (named p bus)) bus harts 0 false (p.cycle + 1) (lanes_on cpu) (answered_with g cpu cop) (is_given bus) refl serves answered_stage

      -- by the cycle
      pub now_stage : Stage (now p bus) harts bus 0 false (p.cycle + 1) (decided_with g cpu cop)
      now_stage =
          stage_decided (given_on bus (answered_on bus (named p bus))) bus harts 0 false (p.cycle + 1) (given_with g cpu cop) cpu.commit_valid refl (effective_start p bus)
          (ap (λ x. if cpu.commit_valid then x else None) (sym (undecided_same bus (named p bus) (commit_key bus)))) given_stage

      pub readied_stage : Stage (now p bus) harts bus 0 false (p.cycle + 1) (readied_with g cpu cop)
      readied_stage =
          stage_map (now p bus) (now p bus) harts bus 0 false false (p.cycle + 1) readied (decided_with g cpu cop) (λ u. refl) (λ u. refl) (λ key. refl) now_stage.apart (λ h. h)
          (λ u x. (told_readied (now p bus) harts u x.0, λ h. cc)) now_stage

      pub told_readied_with : Each (Told (now p bus) harts) (readied_with g cpu cop)
      told_readied_with = Each-from (Kept (now p bus) harts bus 0 false) (Told (now p bus) harts) (readied_with g cpu cop) (λ u x. x.0) readied_stage.each

      -- ---- the use that ends: it is accepted, released and not ended, and has its registers

      module _ (r3 : HoldsR3 p bus) (r4 : HoldsR4 p bus) (r5 : HoldsR5 p bus) where
        pub ends : cop.result_valid ≡ true → Ends cop (readied_with g cpu cop)
        ends v = go (now p bus (result_key cop)) refl (r3 v) (r4 v) (r5 v)
          where
            go : (o : Option Fact) → now p bus (result_key cop) ≡ o → IsSomeAnd o MayFinish → IfSome o (λ fact. (read_of fact.response == 0) ≡ false → is_some fact.operands ≡ true) → IfSome o (λ fact. cop.result_we ≡ rules.writeback_of fact.response) → Ends cop (readied_with g cpu cop)
            go None q m r w = absurd m
            go (Some f) q m r w =
                let x = found (now p bus) harts (readied_with g cpu cop) (result_key cop) f told_readied_with readied_stage.covers q in
                record { one = x.one; is_latest = x.is_latest; key_is = x.key_is; ready = ready x; unfinished = ap (λ y. y.finished) x.same ∙ m.unfinished; writes = w ∙ writes x }
              where
                -- what answers it is a hit
                hit_is : (o : Option Response) (hit : Option Hit) → AnsweredBy o hit → is_accepted o ≡ true → HitIs o hit
                hit_is None hit a h = cc
                hit_is (Some y) hit a h = record { accepted = ap (λ z. z.accept) (sym a) ∙ h; reads = ap (λ z. z.register_read.0) a; writes = ap (λ z. z.writeback.0) a }

                hit : (x : Found (now p bus) harts (readied_with g cpu cop) (result_key cop) f) → HitIs x.told.response x.one.hit
                hit x = hit_is x.told.response x.one.hit x.told.answered (ap (λ y. is_accepted y.response) x.same ∙ m.accepted)

                writes : (x : Found (now p bus) harts (readied_with g cpu cop) (result_key cop) f) → rules.writeback_of f.response ≡ writeback_of x.one.hit
                writes x = ap (λ y. rules.writeback_of y.response) (sym x.same) ∙ (hit x).writes

                all-there : (n : ℕ) (given : Bool) → ((n == 0) ≡ false → given ≡ true) → (given || (n == 0)) ≡ true
                all-there n true h = refl
                all-there n false h = go0 (n == 0) h
                  where
                    go0 : (b : Bool) → (b ≡ false → false ≡ true) → b ≡ true
                    go0 true h = refl
                    go0 false h = let bad = h refl in cc

                ready : (x : Found (now p bus) harts (readied_with g cpu cop) (result_key cop) f) → is_some x.one.ready ≡ true
                ready x =
                    let h = hit x in
                    let given : (register_read_of x.one.hit == 0) ≡ false → x.one.given ≡ true = λ z. sym x.told.given ∙ ap (λ y. is_some y.operands) x.same ∙ r (ap (λ y. read_of y.response == 0) (sym x.same) ∙ ap (λ n. n == 0) h.reads ∙ z) in
                    let l = last-found (has_key (result_key cop)) (readied_with g cpu cop) x.one x.is_latest in
                    Each-at (λ u. may_be_ready u ≡ true → is_some u.ready ≡ true) (readied_with g cpu cop) l.older x.one l.younger l.here (all-ready (decided_with g cpu cop))
                    (and-true (is_some x.one.hit) (is_complete x.one) h.accepted (and-true (is_released x.one.decision) (has_operands x.one) (ap (λ y. is_released y.decision) x.same ∙ m.released) (all-there (register_read_of x.one.hit) x.one.given given)))

        -- ---- after the cycle

        pub last_stage : Stage (past_after p bus).facts harts bus 0 false (p.cycle + 1) (ended_with g cpu cop input)
        last_stage = go (cop.result_valid && input.result_ready) refl
          where
            valid : (cop.result_valid && input.result_ready) ≡ true → cop.result_valid ≡ true
            valid q = (both-true cop.result_valid input.result_ready q).0

            -- the facts after the cycle, by whether a result is taken
            by_taken : Bool → Facts
            by_taken b = session.ended (λ j. b && same_key (result_key cop) j) (now p bus)

            go : (b : Bool) → (cop.result_valid && input.result_ready) ≡ b → Stage (by_taken (cop.result_valid && input.result_ready)) harts bus 0 false (p.cycle + 1) (if b then ended (latest (result_key cop) (readied_with g cpu cop)) (readied_with g cpu cop) else readied_with g cpu cop)
            go false q =
                let b0 = record bus { result_valid = false } in
                subst (λ x. Stage (by_taken x) harts bus 0 false (p.cycle + 1) (readied_with g cpu cop)) (sym q)
                (calm (by_taken false) harts b0 bus 0 (result_waits b0) (p.cycle + 1) (readied_with g cpu cop) (stage_ended (now p bus) b0 harts 0 (p.cycle + 1) (readied_with g cpu cop) false refl (calm (now p bus) harts bus b0 0 false (p.cycle + 1) (readied_with g cpu cop) readied_stage)))
            go true q =
                let us = readied_with g cpu cop in
                let e = ends (valid q) in
                let u = e.one in
                let l = last-found (has_key (result_key cop)) us u e.is_latest in
                let b1 = record bus { result_data = u.result; result_rd = if writeback_of u.hit == 0 then 0 else rd_field u.word; result_we = writeback_of u.hit } in
                let shown : Shows b1 u = record { key = sym e.key_is; value = refl; rd = refl; we = refl; ready = e.ready; unfinished = e.unfinished } in
                let st : Stage (now p bus) harts b1 u.start cop.result_valid (p.cycle + 1) us = record {
                  each =
                      Each-both (Told (now p bus) harts) (λ v. v.start ≡ u.start → Shows b1 v) (Kept (now p bus) harts b1 u.start cop.result_valid) us (λ v x y. (x, λ h. y)) told_readied_with
                      (only (Shows b1) us l.older l.younger u l.here readied_stage.rises.pairs shown);
                  covers = readied_stage.covers;
                  member = λ h. subst (λ vs. list_any (has_start u.start) vs ≡ true) (sym l.here) (any-in (has_start u.start) l.older u l.younger (eq-eqb u.start u.start refl));
                  rises = readied_stage.rises;
                  apart = readied_stage.apart;
                } in
                let r = stage_ended (now p bus) b1 harts u.start (p.cycle + 1) us true q st in
                subst (λ o. Stage (by_taken (cop.result_valid && input.result_ready)) harts bus 0 false (p.cycle + 1) (ended o us)) (sym e.is_latest)
                (calm (by_taken (cop.result_valid && input.result_ready)) harts b1 bus u.start (result_waits b1) (p.cycle + 1) (map (with_end u.start) us) r)

        issue_after : IssueTold (transactions_after g.issue_turns (owner_if cpu.issue_valid (issue_start g cpu)) cop.issue_ready).waiting (quiet (past_after p bus))
        issue_after = go cpu.issue_valid cop.issue_ready refl refl
          where
            go : (v r : Bool) → cpu.issue_valid ≡ v → cop.issue_ready ≡ r → IssueTold (transactions_after g.issue_turns (owner_if v (issue_start g cpu)) r).waiting (quiet (past_after p bus))
            go false r q z = ap (λ x. x && not cop.issue_ready) q
            go true true q z = ap (λ x. x && not cop.issue_ready) q ∙ ap not z
            go true false q z =
                let o = offered q in
                let untouched : (is_issued bus && same_key (issue_key bus) (issue_key bus)) ≡ false = ap (λ x. (x && cop.issue_ready) && same_key (issue_key bus) (issue_key bus)) q ∙ ap (λ x. x && same_key (issue_key bus) (issue_key bus)) z in
                let there : seen ((past_after p bus).facts (issue_key bus)) ≡ Some (o.fact.start, (o.fact.instr, o.fact.response)) = seen_after p bus (issue_key bus) ∙ ap seen (unanswered (named p bus) bus (issue_key bus) untouched ∙ o.there) in
                let x = seen_some ((past_after p bus).facts (issue_key bus)) o.fact.start o.fact.instr o.fact.response there in
                record { waits = ap (λ x. x && not cop.issue_ready) q ∙ ap not z; fact = x.fact; there = x.there; start = x.start_is ∙ o.start_is; word = x.word_is ∙ o.word_is; response = x.response_is ∙ o.response }

        pub kept : EngineTold (told_after g cpu cop input) harts (quiet (past_after p bus))
        kept =
            let s = last_stage in
            record {
              clock = ap (λ n. n + 1) t.clock;
              each = Each-from (Kept (past_after p bus).facts harts bus 0 false) (Told (past_after p bus).facts harts) (ended_with g cpu cop input) (λ u x. x.0) s.each;
              covers = s.covers;
              rises = s.rises;
              apart = s.apart;
              issue = issue_after;
              result = refl;
            }
