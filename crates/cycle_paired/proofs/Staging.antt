-- The first steps of a cycle: offer, answer, registers.
use Rattle.std.proofs.Common.{◌≡◌, ◌≢◌, ◌<◌, ◌&&◌, ◌+◌, ◌++◌, ℕ, Bool, true, false, cond, not, List, [], ◌∷◌, map, Option, Some, None, refl, sym, ap, ◌∙◌, subst, arith}
use Rattle.std.specs.Prelude.{is_some, IfSome}
use Rattle.std.specs.Option.{option_map_or}
use Rattle.std.proofs.lemmas.Bool.{ne_eqb}
use Rattle.coproc_config.specs.declared.accept.Hit.{Hit}
use Rattle.xif_signals.specs.declared.bus.CpuOut.{CpuOut}
use Rattle.cycle_spec.specs.declared.entry.Entry.{Entry}
use Rattle.cycle_spec.specs.declared.turn.Transaction.{Transaction}
use Rattle.cycle_spec.specs.declared.use_of.Use.{Use}
use Rattle.cycle_spec.specs.Flight.{is_open, is_waiting, with_response, with_sent}
use Rattle.cycle_spec.specs.Engine.{issue_key, latest, start_of, with_answer, with_operands, given_to}
use Rattle.cycle_lists.specs.Lists.{Each, FirstAt}
use Rattle.cycle_lists.proofs.Tests.{not-both}
use Rattle.cycle_lists.proofs.Every.{Each-from, Each-at}
use Rattle.cycle_paired.specs.Paired.{is_live, response_of, IsEntry, Offers}
use Rattle.cycle_paired.proofs.Facts.{Joint, waiting-closed, waiting-live}
use Rattle.cycle_paired.proofs.Matching.{latest-at}
use Rattle.cycle_paired.proofs.Carrying.{Carries, carries-map, leaves-answer, leaves-operands}
use Rattle.cycle_paired.proofs.Starting.{started_in, OffersWord, starting}
use Rattle.cycle_paired.proofs.Answering.{mark, Offered, Answered, IsNew, answering}
use Rattle.cycle_paired.proofs.Sending.{sending, offered-sent}
use Rattle.cycle_paired.proofs.Growing.{AllGrown, grown-same, grown-answered, grown-sent, grown-at, OnlyOpen, only-open}

-- Where a cycle has got to, from the entries and uses at its start; r is the number of the word that
-- is offered.
pub record Stage (r hart n id c : ℕ) (answered : ℕ → Bool) (fl es : List Entry) (us0 us : List Use) : Type 0 where
  pub joint : Joint hart n id c answered es us
  pub grown : AllGrown r fl es
  pub only : Each (OnlyOpen r) fl
  pub carries : (u : Use) → Carries u us0 → Carries u us

pub record OfferedStage (p : Entry) (s : ℕ) (t : Bool) (hart n id c : ℕ) (answered : ℕ → Bool) (fl es : List Entry) (us0 us : List Use) : Type 0 where
  pub stage : Stage p.seq hart n id c answered fl es us0 us
  pub offered : Offered hart p s t answered es us

-- ---- the offer and its answer

carries-answered : (t : Bool) (s : ℕ) (hit : Option Hit) (order : ℕ) (u : Use) (us : List Use) → u.start ≢ s → Carries u us → Carries u (cond t (map (with_answer s hit order) us) us)
carries-answered false s hit order u us n k = k
carries-answered true s hit order u us n k =
    carries-map u (with_answer s hit order) us (leaves-answer s hit order) k (ap (λ b. cond b hit k.carried.hit) (ne_eqb k.carried.start s (λ e. n (sym k.start ∙ e))))

start-is : (cpu : CpuOut) (c : ℕ) (us front : List Use) (new : Use) → us ≡ front ++ new ∷ [] → new.key.hart ≡ cpu.issue_hartid → new.key.id ≡ cpu.issue_id → start_of (issue_key cpu) us c ≡ new.start
start-is cpu c us front new h a b = ap (λ o. option_map_or (λ u. u.start) o c) (ap (latest (issue_key cpu)) h ∙ latest-at front new [] cpu.issue_hartid cpu.issue_id a b tt)

pub stage-offered : (t : Bool) (hit : Option Hit) (order hart n id c : ℕ) (answered : ℕ → Bool) (waiting : Option Transaction) (cpu : CpuOut) (es : List Entry) (p : Entry) (us : List Use)
    → OffersWord hart cpu p → FirstAt is_open es p → IfSome waiting (λ t. Each (Offers answered hart es t.owner) us) → Joint hart n id c answered es us
    → OfferedStage p (start_of (issue_key cpu) (started_in waiting cpu c us) c) t hart n id (c + 1) (mark (start_of (issue_key cpu) (started_in waiting cpu c us) c) t answered) es (cond t (map (with_response p.seq (response_of hit)) es) es) us
    (cond t (map (with_answer (start_of (issue_key cpu) (started_in waiting cpu c us) c) hit order) (started_in waiting cpu c us)) (started_in waiting cpu c us))
stage-offered t hit order hart n id c answered waiting cpu es p us w f o j =
    let a = starting hart n id c answered waiting cpu es p us w f o j in
    let v = a.new in
    let vs = started_in waiting cpu c us in
    let new : IsNew hart (c + 1) p a.front v = record { before = a.before; recent = a.recent; unanswered = a.unanswered; unready = a.unready; undecided = a.undecided; hart_is = a.hart_is; id_is = a.id_is; word_is = a.word_is } in
    let b = answering t hit order hart n id (c + 1) answered es p a.front v f a.joint new in
    let es1 = cond t (map (with_response p.seq (response_of hit)) es) es in
    let b1 : Answered hart n id (c + 1) p v.start t (mark v.start t answered) es1 (cond t (map (with_answer v.start hit order) vs) vs) =
    subst (λ l. Answered hart n id (c + 1) p v.start t (mark v.start t answered) es1 (cond t (map (with_answer v.start hit order) l) l)) (sym a.here) b in
    let s = start_of (issue_key cpu) vs c in
    let same : s ≡ v.start = start-is cpu c vs a.front v a.here (a.hart_is ∙ sym w.hart_is) (a.id_is ∙ sym w.id_is) in
    let b2 : Answered hart n id (c + 1) p s t (mark s t answered) es1 (cond t (map (with_answer s hit order) vs) vs) =
    subst (λ k. Answered hart n id (c + 1) p k t (mark k t answered) es1 (cond t (map (with_answer k hit order) vs) vs)) (sym same) b1 in
    record {
      stage = record {
        joint = b2.joint;
        grown = grown-answered t p.seq (response_of hit) es;
        only = only-open es f.older p f.younger f.here f.passes j.kept.pairs;
        carries = λ u k. carries-answered t s hit order u vs (λ q. a.apart u k (q ∙ same)) (a.carries u k);
      };
      offered = b2.offered;
    }

-- nothing is offered
pub stage-quiet : (hart n id c : ℕ) (answered : ℕ → Bool) (es : List Entry) (us : List Use) → Joint hart n id c answered es us → Stage n hart n id (c + 1) answered es es us us
stage-quiet hart n id c answered es us j = record {
  joint = record {
    kept = j.kept;
    entries = j.entries;
    behind = j.behind;
    below = Each-from (λ u. u.start < c) (λ u. u.start < c + 1) us (λ u h. omega arith) j.below;
    uses = j.uses;
    older = j.older;
    match = j.match;
  };
  grown = grown-same n es;
  only = Each-from (λ e. e.seq < n) (OnlyOpen n) es (λ x h q. absurd (omega arith)) j.kept.below;
  carries = λ u k. k;
}

-- ---- the registers

carries-given : (b : Bool) (o : Option Use) (lanes : List ℕ) (u : Use) (us : List Use) → Carries u us → Carries u (cond b (given_to o lanes us) us)
carries-given false o lanes u us k = k
carries-given true None lanes u us k = k
carries-given true (Some v) lanes u us k = carries-map u (with_operands v.start lanes) us (leaves-operands v.start lanes) k refl

stage-sent : (b : Bool) (k : ℕ) (o : Option Use) (lanes : List ℕ) (r hart n id c : ℕ) (answered : ℕ → Bool) (fl es : List Entry) (us0 us : List Use) → Joint hart n id c answered (cond b (map (with_sent k) es) es) (cond b (given_to o lanes us) us)
    → Stage r hart n id c answered fl es us0 us → Stage r hart n id c answered fl (cond b (map (with_sent k) es) es) us0 (cond b (given_to o lanes us) us)
stage-sent b k o lanes r hart n id c answered fl es us0 us j st = record {
  joint = j;
  grown = grown-sent b r k fl es st.grown;
  only = st.only;
  carries = λ u q. carries-given b o lanes u us (st.carries u q);
}

-- with split, of the oldest use that waits for its registers
pub stage-waiting : (b : Bool) (lanes : List ℕ) (q : Entry) (r hart n id c : ℕ) (answered : ℕ → Bool) (fl es : List Entry) (us0 us : List Use) → FirstAt is_waiting fl q → Each IsEntry fl → Stage r hart n id c answered fl es us0 us
    → Stage r hart n id c answered fl (cond b (map (with_sent q.seq) es) es) us0 (cond b (given_to (latest (record { hart = hart; id = q.id }) us) lanes us) us)
stage-waiting b lanes q r hart n id c answered fl es us0 us f ok st =
    let ne : q.seq ≢ r = λ e. not-both (is_open q) (waiting-closed q f.passes) (Each-at (OnlyOpen r) fl f.older q f.younger f.here st.only e) in
    let a = grown-at r f.older q f.younger es (subst (λ l. AllGrown r l es) f.here st.grown) in
    let live : is_live a.entry ≡ true = ap (λ x. is_some x && not a.entry.done) (a.grown.response ne) ∙ ap (λ x. is_some q.response && not x) a.grown.done ∙ waiting-live q (Each-at IsEntry fl f.older q f.younger f.here ok) f.passes in
    let j0 = sending b lanes hart n id c answered es a.older a.entry a.younger us a.here (λ _. live) st.joint in
    let j1 : Joint hart n id c answered (cond b (map (with_sent q.seq) es) es) (cond b (given_to (latest (record { hart = hart; id = a.entry.id }) us) lanes us) us) =
    subst (λ k. Joint hart n id c answered (cond b (map (with_sent k) es) es) (cond b (given_to (latest (record { hart = hart; id = a.entry.id }) us) lanes us) us)) a.grown.seq j0 in
    let j2 : Joint hart n id c answered (cond b (map (with_sent q.seq) es) es) (cond b (given_to (latest (record { hart = hart; id = q.id }) us) lanes us) us) =
    subst (λ k. Joint hart n id c answered (cond b (map (with_sent q.seq) es) es) (cond b (given_to (latest (record { hart = hart; id = k }) us) lanes us) us)) a.grown.id j1 in
    stage-sent b q.seq (latest (record { hart = hart; id = q.id }) us) lanes r hart n id c answered fl es us0 us j2 st

pub stage-waiting_offered : (b : Bool) (lanes : List ℕ) (q p : Entry) (s : ℕ) (t : Bool) (hart n id c : ℕ) (answered : ℕ → Bool) (fl es : List Entry) (us0 us : List Use) → FirstAt is_waiting fl q → Each IsEntry fl → OfferedStage p s t hart n id c answered fl es us0 us
    → OfferedStage p s t hart n id c answered fl (cond b (map (with_sent q.seq) es) es) us0 (cond b (given_to (latest (record { hart = hart; id = q.id }) us) lanes us) us)
stage-waiting_offered b lanes q p s t hart n id c answered fl es us0 us f ok st = record {
  stage = stage-waiting b lanes q p.seq hart n id c answered fl es us0 us f ok st.stage;
  offered = offered-sent b q.seq lanes (latest (record { hart = hart; id = q.id }) us) hart p s t answered es us st.offered;
}

-- without split, of the word that is offered, with its answer
pub stage-presented : (lanes : List ℕ) (p : Entry) (s : ℕ) (t : Bool) (hart n id c : ℕ) (answered : ℕ → Bool) (fl es : List Entry) (us0 us : List Use) → OfferedStage p s t hart n id c answered fl es us0 us
    → OfferedStage p s t hart n id c answered fl (cond t (map (with_sent p.seq) es) es) us0 (cond t (given_to (latest (record { hart = hart; id = p.id }) us) lanes us) us)
stage-presented lanes p s t hart n id c answered fl es us0 us st =
    let o = st.offered in
    let j0 = sending t lanes hart n id c answered es o.older o.entry o.younger us o.here (λ h. o.live ∙ h) st.stage.joint in
    let j1 : Joint hart n id c answered (cond t (map (with_sent p.seq) es) es) (cond t (given_to (latest (record { hart = hart; id = o.entry.id }) us) lanes us) us) =
    subst (λ k. Joint hart n id c answered (cond t (map (with_sent k) es) es) (cond t (given_to (latest (record { hart = hart; id = o.entry.id }) us) lanes us) us)) o.seq j0 in
    let j2 : Joint hart n id c answered (cond t (map (with_sent p.seq) es) es) (cond t (given_to (latest (record { hart = hart; id = p.id }) us) lanes us) us) =
    subst (λ k. Joint hart n id c answered (cond t (map (with_sent p.seq) es) es) (cond t (given_to (latest (record { hart = hart; id = k }) us) lanes us) us)) o.entry_id j1 in
    record {
      stage = stage-sent t p.seq (latest (record { hart = hart; id = p.id }) us) lanes p.seq hart n id c answered fl es us0 us j2 st.stage;
      offered = offered-sent t p.seq lanes (latest (record { hart = hart; id = p.id }) us) hart p s t answered es us o;
    }
