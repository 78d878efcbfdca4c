-- A sample in which no bit of any signal is unknown keeps the rules K1 and K2.
use Rattle.std.proofs.Common.{◌≡◌, ◌==◌, ◌&&◌, ◌%◌, ◌/◌, ◌^◌, ℕ, zero, suc, Bool, true, false, List, [], ◌∷◌, true≢false, refl, arith, sym, ap, ◌∙◌}
use Rattle.std.specs.Prelude.{slice_index_or, Ok}
use Rattle.std.specs.List.{list_all}
use Rattle.std.proofs.Math.Nat.{zero-mod}
use Rattle.std.proofs.lemmas.Bool.Decides.{nat_tests}
use Rattle.xif_base.specs.declared.params.Params.{Params}
use Rattle.xif_signals.specs.declared.sample.Quad.{Quad}
use Rattle.xif_signals.specs.declared.rule.Channel.{Channel}
use Rattle.xif_signals.specs.declared.rule.Channel.TheVariants.{Issue, Register, Commit, Result as ResultChannel}
use Rattle.xif_signals.specs.declared.rule.Rule.TheVariants.{K1, K2}
use Rattle.xif_signals.specs.declared.signal.Signal.{Signal}
use Rattle.xif_signals.specs.declared.signal.Signal.TheVariants.{IssueValid, IssueReady, IssueHartid, IssueId, IssueInstr, IssueAccept, IssueWriteback, IssueRegisterRead, RegisterValid, RegisterReady, RegisterHartid, RegisterId, RegisterRs0, RegisterRs1, RegisterRs2, RegisterRsValid, CommitValid, CommitHartid, CommitId, CommitKill, ResultValid, ResultReady, ResultHartid, ResultId, ResultData, ResultRd, ResultWe}
use Rattle.xif_signals.specs.Signal.{width_of}
use Rattle.xif_signals.specs.Quad.{known_quad, place_of, unknown_of}
use Rattle.xif_signals.specs.Bus.{bus_of}
use Rattle.xif_signals.specs.Channels.{first_failing_channel}
use Rattle.xif_signals.specs.Known.{when, is_known, are_halves_known, is_handshake_known, is_lane_known, holds_k1, holds_k2, known_by, known_of}
use Rattle.xif_signals.proofs.Channels.{none_fails}

both : (a b : Bool) → a ≡ true → b ≡ true → (a && b) ≡ true
both true true e f = refl
both true false e f = f
both false b e f = e

where_it_does : (a b : Bool) → b ≡ true → when a b ≡ true
where_it_does true b e = e
where_it_does false b e = refl

head_of : (a b : Bool) → (a && b) ≡ true → a ≡ true
head_of true b e = refl
head_of false b e = e

tail_of : (a b : Bool) → (a && b) ≡ true → b ≡ true
tail_of true b e = e
tail_of false b e = absurd (true≢false (sym e))

is_zero : (n : ℕ) → (n == 0) ≡ true → n ≡ 0
is_zero n e = grind (arith, nat_tests)

at : (qs : List Quad) (i : ℕ) → list_all (λ q. q.unknown == 0) qs ≡ true → (slice_index_or qs i (known_quad 0)).unknown ≡ 0
at [] i all = refl
at (q ∷ qs) zero all = is_zero q.unknown (head_of (q.unknown == 0) (list_all (λ q. q.unknown == 0) qs) all)
at (q ∷ qs) (suc i) all = at qs i (tail_of (q.unknown == 0) (list_all (λ q. q.unknown == 0) qs) all)

module _ (qs : List Quad) (p : Params) (all : list_all (λ q. q.unknown == 0) qs ≡ true) where
  nothing : (s : Signal) → unknown_of qs p s ≡ 0
  nothing s = ap (λ n. n % 2 ^ width_of s p) (at qs (place_of s) all) ∙ zero-mod (2 ^ width_of s p)

  known : (s : Signal) → is_known qs p s ≡ true
  known s = ap (λ n. n == 0) (nothing s)

  halves : (s : Signal) (even odd : Bool) → are_halves_known qs p s even odd ≡ true
  halves s even odd =
      ap (λ n. when even (n % 2 ^ 32 == 0) && when odd (n / 2 ^ 32 == 0)) (nothing s)
      ∙ both (when even true) (when odd true) (where_it_does even true refl) (where_it_does odd true refl)

  handshake : (valid ready : Signal) → is_handshake_known qs p valid ready ≡ true
  handshake valid ready = both _ _ (known valid) (where_it_does _ _ (known ready))

  keeps_k1 : (channel : Channel) → holds_k1 qs p channel ≡ true
  keeps_k1 Issue = handshake IssueValid IssueReady
  keeps_k1 Register = handshake RegisterValid RegisterReady
  keeps_k1 Commit = known CommitValid
  keeps_k1 ResultChannel = handshake ResultValid ResultReady

  three : (a b c : Signal) → (is_known qs p a && is_known qs p b && is_known qs p c) ≡ true
  three a b c = both _ _ (both _ _ (known a) (known b)) (known c)

  lane : (n : ℕ) (s : Signal) → is_lane_known qs p n s ≡ true
  lane n s = halves s _ _

  keeps_k2 : (channel : Channel) → holds_k2 qs p channel ≡ true
  keeps_k2 Issue = where_it_does _ _ (both _ _ (three IssueHartid IssueId IssueInstr) (where_it_does _ _
      (both _ _ (both _ _ (known IssueAccept) (known IssueWriteback)) (where_it_does _ _ (known IssueRegisterRead)))))
  keeps_k2 Register = where_it_does _ _ (both _ _ (both _ _ (both _ _ (three RegisterHartid RegisterId RegisterRsValid)
      (lane 0 RegisterRs0)) (lane 1 RegisterRs1)) (where_it_does _ _ (lane 2 RegisterRs2)))
  keeps_k2 Commit = where_it_does _ _ (three CommitHartid CommitId CommitKill)
  keeps_k2 ResultChannel = where_it_does _ _ (both _ _ (three ResultHartid ResultId ResultWe) (where_it_does _ _
      (both _ _ (known ResultRd) (halves ResultData _ _))))

  pub known-bus : known_of qs p ≡ Ok (bus_of qs p)
  known-bus =
      ap (λ k1. known_by K1 k1 (known_by K2 (first_failing_channel (holds_k2 qs p)) (Ok (bus_of qs p)))) (none_fails (holds_k1 qs p) keeps_k1)
      ∙ ap (λ k2. known_by K2 k2 (Ok (bus_of qs p))) (none_fails (holds_k2 qs p) keeps_k2)
