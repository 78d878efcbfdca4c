-- The entries through the steps of a cycle: what is there for one of them stays, and what is done
-- writes what it may write.
use Rattle.std.proofs.Common.{◌≡◌, ◌<◌, ◌+◌, ◌==◌, ◌&&◌, ◌||◌, ◌%◌, not, ℕ, zero, suc, Bool, true, false, if◌then◌else◌, Option, Some, None, List, [], ◌∷◌, map, take, refl, sym, ap, ◌∙◌, subst, arith}
use Rattle.std.specs.Prelude.{is_some, IfSome}
use Rattle.std.proofs.lemmas.Bool.{eqb-true}
use Rattle.rv32_table.specs.declared.instr.Instr.{Instr}
use Rattle.rv32_table.specs.Instr.{rd_field, decoded}
use Rattle.inorder_machine.specs.declared.line.Retire.{Retire}
use Rattle.inorder_machine.specs.declared.line.Stepped.{Stepped}
use Rattle.inorder_machine.specs.declared.line.Stepped.TheVariants.{Retired, Stop}
use Rattle.inorder_machine.specs.declared.line.Write.{Write}
use Rattle.inorder_machine.specs.Execute.{executed}
use Rattle.inorder_machine.specs.Units.{has_flag, unit_write}
use Rattle.xif_signals.specs.declared.bus.Bus.{Bus}
use Rattle.xif_session.specs.declared.fact.Response.{Response}
use Rattle.xif_session.specs.Facts.{is_issued, is_taken, response_on}
use Rattle.cycle_spec.specs.declared.choices.Executed.{Executed}
use Rattle.cycle_spec.specs.declared.entry.Entry.{Entry}
use Rattle.cycle_spec.specs.declared.entry.EntryKind.{EntryKind}
use Rattle.cycle_spec.specs.declared.entry.EntryKind.TheVariants.{Local, Unknown, Nowhere}
use Rattle.cycle_spec.specs.Flight.{is_unknown, is_unknown_kind, is_open, has_seq, may_write, may_write_kind, may_write_word, with_response, with_result, with_outcome}
use Rattle.cycle_lists.specs.Lists.{Each}
use Rattle.cycle_lists.specs.Order.{Before}
use Rattle.cycle_lists.proofs.Tests.{some-is, and-left, and-right, or-left, or-right, or-cases, not-both, false-or, or-false}
use Rattle.cycle_lists.proofs.Every.{Each-from, Each-both, Each-map, Each-take, Pairs-take}
use Rattle.cycle_lists.proofs.Order.{Kept, Leaves, mapped}
use Rattle.cycle_paired.proofs.Executing.{Exec}
use Rattle.ahead_laws.proofs.Rows.{decoded-registers}
use Rattle.ahead_laws.proofs.Writes.{Within, row-writes, answered-writes}
use Rattle.trace_laws.proofs.Views.{Steady, Wrote, Stays, stays-then, stays-map, stays-take}

-- ---- an entry

pub record Fit (dual : Bool) (e : Entry) : Type 0 where
  pub even : (x : Response) → e.response ≡ Some x → has_flag x.writeback.0 1 ≡ true → rd_field e.word % 2 ≡ 0
  pub row : (i : Instr) → e.kind ≡ Local i → decoded e.word ≡ Some i
  pub wrote : e.done ≡ true → Wrote dual e

-- the use whose result is taken
pub record Finishes (b : Bus) (e : Entry) : Type 0 where
  pub undone : e.done ≡ false
  pub response : Response
  pub there : e.response ≡ Some response
  pub writes : b.result_we ≡ response.writeback.0

abbrev pub Finishing : Bus → Entry → Type 0
Finishing b e = is_taken b ≡ true → is_unknown e ≡ true → e.id ≡ b.result_id → Finishes b e

abbrev pub Executing : Option Executed → Entry → Type 0
Executing o e = IfSome o (λ x. e.seq ≡ x.entry.seq → Exec x.outcome e)

exec-same : (o : Stepped) (e e' : Entry) → e'.kind ≡ e.kind → e'.done ≡ e.done → Exec o e → Exec o e'
exec-same o e e' k d x = record { instr = x.instr; kind_is = k ∙ x.kind_is; not_done = d ∙ x.not_done; memory = x.memory; at_word = x.at_word; a = x.a; b = x.b; is_it = x.is_it }

pub executing-same : (o : Option Executed) (e e' : Entry) → e'.seq ≡ e.seq → e'.kind ≡ e.kind → e'.done ≡ e.done → Executing o e → Executing o e'
executing-same None e e' s k d x = tt
executing-same (Some y) e e' s k d x = λ q. exec-same y.outcome e e' k d (x (sym s ∙ q))

-- the entry that retires is the oldest, done, with its write
abbrev pub HeadIs : Write → List Entry → Type 0
HeadIs w [] = Unit {0}
HeadIs w (x ∷ xs) = (x.done ≡ true) × (x.write ≡ w)

abbrev pub Heads : Option Entry → List Entry → Type 0
Heads None es = Unit {0}
Heads (Some e) es = HeadIs e.write es

-- ---- through the steps

pub record Path (dual : Bool) (s n id : ℕ) (registers : List ℕ) (start : List Entry) (retire : Option Entry) (Q : Entry → Type 0) (es : List Entry) : Type 0 where
  pub stays : Stays dual s registers start registers es
  pub kept : Kept n id es
  pub facts : Each Q es
  pub head : Heads retire es

heads-map : (dual : Bool) (o : Option Entry) (f : Entry → Entry) (es : List Entry) → Each (Steady dual f) es → Heads o es → Heads o (map f es)
heads-map dual None f es s h = tt
heads-map dual (Some e) f [] s h = tt
heads-map dual (Some e) f (x ∷ xs) s h = (s.0.done h.0, s.0.write h.0 ∙ h.1)

heads-take : (o : Option Entry) (n : ℕ) (es : List Entry) → Heads o es → Heads o (take n es)
heads-take None n es h = tt
heads-take (Some e) n [] h = go n
  where
    go : (n : ℕ) → HeadIs e.write (take n [])
    go zero = tt
    go (suc n) = tt
heads-take (Some e) n (x ∷ xs) h = go n
  where
    go : (n : ℕ) → HeadIs e.write (take n (x ∷ xs))
    go zero = tt
    go (suc n) = h

module _ (dual : Bool) (s n id : ℕ) (registers : List ℕ) (start : List Entry) (retire : Option Entry) where
  pub path-map : (Q R P : Entry → Type 0) (f : Entry → Entry) (es : List Entry) → Leaves f → Each P es → ((x : Entry) → Q x → P x → Steady dual f x × R (f x)) → Path dual s n id registers start retire Q es → Path dual s n id registers start retire R (map f es)
  path-map Q R P f es l ps k p =
      let both = Each-both Q P (λ x. Steady dual f x × R (f x)) es k p.facts ps in
      let steady = Each-from (λ x. Steady dual f x × R (f x)) (Steady dual f) es (λ x z. z.0) both in
      record {
        stays = stays-then dual s registers start registers es registers (map f es) p.stays (stays-map dual s registers f es l.seq steady);
        kept = mapped n id f es l p.kept;
        facts = Each-map (λ x. Steady dual f x × R (f x)) R f es (λ x z. z.1) both;
        head = heads-map dual retire f es steady p.head;
      }

  pub path-weaker : (Q R : Entry → Type 0) (es : List Entry) → ((x : Entry) → Q x → R x) → Path dual s n id registers start retire Q es → Path dual s n id registers start retire R es
  path-weaker Q R es k p = record { stays = p.stays; kept = p.kept; facts = Each-from Q R es k p.facts; head = p.head }

  pub path-take : (Q : Entry → Type 0) (k : ℕ) (es : List Entry) → Path dual s n id registers start retire Q es → Path dual s n id registers start retire Q (take k es)
  path-take Q k es p = record {
    stays = stays-then dual s registers start registers es registers (take k es) p.stays (stays-take dual s k registers es);
    kept = record { pairs = Pairs-take Before k es p.kept.pairs; below = Each-take (λ e. e.seq < n) k es p.kept.below; free = Each-take _ k es p.kept.free };
    facts = Each-take Q k es p.facts;
    head = heads-take retire k es p.head;
  }

-- a change that leaves all of it
pub plain : (dual : Bool) (f : Entry → Entry) (x : Entry) → (f x).kind ≡ x.kind → (f x).response ≡ x.response → (f x).word ≡ x.word → (f x).done ≡ x.done → (f x).write ≡ x.write → Steady dual f x
plain dual f x k r w d t = record {
  may = λ n h. sym (same n) ∙ h;
  done = λ h. d ∙ h;
  write = λ h. t;
  same = λ h n. same n;
}
  where
    by : (a : EntryKind) (n : ℕ) → may_write_kind dual a (f x) n ≡ may_write_kind dual a x n
    by (Local i) n = refl
    by Unknown n = ap (λ y. may_write_word dual y (rd_field (f x).word) n) r ∙ ap (λ y. may_write_word dual x.response (rd_field y) n) w
    by Nowhere n = refl

    same : (n : ℕ) → may_write dual n (f x) ≡ may_write dual n x
    same n = ap (λ a. not (n == 0) && may_write_kind dual a (f x) n) k ∙ ap (λ t. not (n == 0) && t) (by x.kind n)

-- ---- the issue handshake

-- what a response says to write was not ruled out before
written-may : (dual : Bool) (x : Response) (rd n : ℕ) → (has_flag x.writeback.0 1 ≡ true → (dual ≡ true) × (rd % 2 ≡ 0)) → may_write_word dual (Some x) rd n ≡ true → may_write_word dual None rd n ≡ true
written-may dual x rd n k h =
    or-cases (has_flag x.writeback.0 0 && (n == rd)) (has_flag x.writeback.0 1 && (n == rd + 1)) (may_write_word dual None rd n ≡ true) (and-right (not (rd == 0)) _ h)
    (λ q. or-left (n == rd) _ (and-right (has_flag x.writeback.0 0) (n == rd) q))
    (λ q.
    let both = k (and-left (has_flag x.writeback.0 1) (n == rd + 1) q) in
    or-right (n == rd) _ (rw (both.0, both.1) (and-right (has_flag x.writeback.0 1) (n == rd + 1) q)))

-- the word that is offered
pub record IsOffer (b : Bus) (dual : Bool) (x : Entry) : Type 0 where
  pub open_is : is_open x ≡ true
  pub undone : x.done ≡ false
  pub word : b.issue_instr ≡ x.word

abbrev pub Answers : Bus → Bool → Type 0
Answers b dual = is_issued b ≡ true → has_flag b.issue_writeback 1 ≡ true → (dual ≡ true) × (rd_field b.issue_instr % 2 ≡ 0)

open-kind : (k : EntryKind) → is_unknown_kind k ≡ true → k ≡ Unknown
open-kind (Local i) h = cc
open-kind Unknown h = refl
open-kind Nowhere h = cc

none-response : (o : Option Response) → is_some o ≡ false → o ≡ None
none-response None h = refl
none-response (Some r) h = cc

-- what may be written is told by kind, response and word
kind-same : (dual : Bool) (k : EntryKind) (x y : Entry) (n : ℕ) → y.response ≡ x.response → y.word ≡ x.word → may_write_kind dual k y n ≡ may_write_kind dual k x n
kind-same dual (Local i) x y n r w = refl
kind-same dual Unknown x y n r w = ap (λ z. may_write_word dual z (rd_field y.word) n) r ∙ ap (λ z. may_write_word dual x.response (rd_field z) n) w
kind-same dual Nowhere x y n r w = refl

wrote-same : (dual : Bool) (x y : Entry) → y.kind ≡ x.kind → y.response ≡ x.response → y.word ≡ x.word → y.write ≡ x.write → Wrote dual x → Wrote dual y
wrote-same dual x y k r w t h n registers c =
    subst (λ z. Within (may_write_kind dual y.kind y n) n registers z) (sym t)
    (subst (λ z. Within z n registers x.write) (sym (ap (λ a. may_write_kind dual a y n) k ∙ kind-same dual x.kind x y n r w)) (h n registers c))

pub fit-same : (dual : Bool) (x y : Entry) → y.kind ≡ x.kind → y.response ≡ x.response → y.word ≡ x.word → y.done ≡ x.done → y.write ≡ x.write → Fit dual x → Fit dual y
fit-same dual x y k r w d t f = record {
  even = λ a q h. ap (λ z. rd_field z % 2) w ∙ f.even a (sym r ∙ q) h;
  row = λ i q. ap decoded w ∙ f.row i (sym k ∙ q);
  wrote = λ h. wrote-same dual x y k r w t (f.wrote (sym d ∙ h));
}

module _ (dual : Bool) (seq : ℕ) (b : Bus) (x : Entry) (i : is_issued b ≡ true) (a : Answers b dual) (o : x.seq ≡ seq → IsOffer b dual x) where
  abbrev answered : Entry
  answered = with_response seq (response_on b) x

  not-offered : has_seq seq x ≡ false → answered.response ≡ x.response
  not-offered q = ap (λ t. if t then Some (response_on b) else x.response) q

  none-there : has_seq seq x ≡ true → x.response ≡ None
  none-there q = none-response x.response (not-some x.response (and-right (is_unknown x) _ (o (eqb-true x.seq seq q)).open_is))
    where
      not-some : (r : Option Response) → not (is_some r) ≡ true → is_some r ≡ false
      not-some None h = refl
      not-some (Some r) h = cc

  done-other : x.done ≡ true → has_seq seq x ≡ false
  done-other d = false-or (has_seq seq x) (λ q. not-both x.done (o (eqb-true x.seq seq q)).undone d)

  answer-kind : (k : EntryKind) (n : ℕ) → may_write_kind dual k answered n ≡ true → may_write_kind dual k x n ≡ true
  answer-kind (Local j) n h = h
  answer-kind Nowhere n h = h
  answer-kind Unknown n h = go (has_seq seq x) refl h
    where
      go : (t : Bool) → has_seq seq x ≡ t → may_write_word dual (if t then Some (response_on b) else x.response) (rd_field x.word) n ≡ true → may_write_word dual x.response (rd_field x.word) n ≡ true
      go false q h = h
      go true q h =
          let w = (o (eqb-true x.seq seq q)).word in
          subst (λ r. may_write_word dual r (rd_field x.word) n ≡ true) (sym (none-there q))
          (written-may dual (response_on b) (rd_field x.word) n (λ f. let both = a i f in (both.0, ap (λ z. rd_field z % 2) (sym w) ∙ both.1)) h)

  pub steady-answer : Steady dual (with_response seq (response_on b)) x
  steady-answer = record {
    may = λ n h. go (n == 0) n h;
    done = λ h. h;
    write = λ h. refl;
    same = λ h n. ap (λ t. not (n == 0) && t) (kind-same dual x.kind x answered n (not-offered (done-other h)) refl);
  }
    where
      go : (z : Bool) (n : ℕ) → (not z && may_write_kind dual x.kind answered n) ≡ true → (not z && may_write_kind dual x.kind x n) ≡ true
      go true n h = h
      go false n h = answer-kind x.kind n h

  pub fit-answer : Fit dual x → Fit dual answered
  fit-answer f = record {
    even = λ r q h. by (has_seq seq x) refl r q h;
    row = f.row;
    wrote = λ h. wrote-same dual x answered refl (not-offered (done-other h)) refl refl (f.wrote h);
  }
    where
      by : (t : Bool) → has_seq seq x ≡ t → (r : Response) → (if t then Some (response_on b) else x.response) ≡ Some r → has_flag r.writeback.0 1 ≡ true → rd_field x.word % 2 ≡ 0
      by false z r q h = f.even r q h
      by true z r q h =
          let same : response_on b ≡ r = some-is (response_on b) r q in
          ap (λ w. rd_field w % 2) (sym (o (eqb-true x.seq seq z)).word) ∙ (a i (ap (λ y. has_flag y.writeback.0 1) same ∙ h)).1

-- ---- the result handshake

rd-small : (word : ℕ) → rd_field word < 32
rd-small word = omega arith

wrote-result : (dual : Bool) (e : Entry) (r : Response) (v : ℕ) → e.kind ≡ Unknown → e.response ≡ Some r → (has_flag r.writeback.0 1 ≡ true → rd_field e.word % 2 ≡ 0) → e.write ≡ unit_write (rd_field e.word) r.writeback.0 v → Wrote dual e
wrote-result dual e r v k q even w n registers c =
    subst (λ z. Within (may_write_kind dual e.kind e n) n registers z) (sym w)
    (subst (λ z. Within z n registers (unit_write (rd_field e.word) r.writeback.0 v)) (sym (ap (λ a. may_write_kind dual a e n) k ∙ ap (λ z. may_write_word dual z (rd_field e.word) n) q))
    (answered-writes dual r (rd_field e.word) v n registers (rd-small e.word) even c))

module _ (dual : Bool) (b : Bus) (y : Entry) (unknown : is_unknown y ≡ true) (fin : Finishes b y) (x : Entry) (one : x.seq ≡ y.seq → x ≡ y) where
  abbrev written : Write
  written = unit_write (rd_field y.word) b.result_we b.result_data

  abbrev ended : Entry
  ended = with_result y.seq written x

  own : has_seq y.seq x ≡ true → x ≡ y
  own q = one (eqb-true x.seq y.seq q)

  done-not : x.done ≡ true → has_seq y.seq x ≡ false
  done-not d = false-or (has_seq y.seq x) (λ q. not-both y.done fin.undone (ap (λ z. z.done) (sym (own q)) ∙ d))

  pub steady-result : Steady dual (with_result y.seq written) x
  steady-result = record {
    may = λ n h. sym (same n) ∙ h;
    done = λ h. or-left x.done (has_seq y.seq x) h;
    write = λ h. ap (λ t. if t then written else x.write) (done-not h);
    same = λ h n. same n;
  }
    where
      same : (n : ℕ) → may_write dual n ended ≡ may_write dual n x
      same n = ap (λ t. not (n == 0) && t) (kind-same dual x.kind x ended n refl refl)

  pub fit-result : Fit dual x → Fit dual ended
  fit-result f = record { even = f.even; row = f.row; wrote = λ h. go (has_seq y.seq x) refl h }
    where
      go : (t : Bool) → has_seq y.seq x ≡ t → (x.done || t) ≡ true → Wrote dual ended
      go false q h = wrote-same dual x ended refl refl refl (ap (λ t. if t then written else x.write) q) (f.wrote (sym (or-false x.done) ∙ h))
      go true q h =
          let same = own q in
          wrote-result dual ended fin.response b.result_data (open-kind x.kind (ap is_unknown same ∙ unknown)) (ap (λ z. z.response) same ∙ fin.there) (λ flag. f.even fin.response (ap (λ z. z.response) same ∙ fin.there) flag)
          (ap (λ t. if t then written else x.write) q ∙ ap (λ z. unit_write (rd_field z.word) b.result_we b.result_data) (sym same) ∙ ap (λ z. unit_write (rd_field x.word) z b.result_data) fin.writes)

-- ---- execution

wrote-row : (dual : Bool) (e x' : Entry) (i : Instr) (o : Stepped) (line : Retire) → e.kind ≡ Local i → decoded e.word ≡ Some i → e.write ≡ line.write → o ≡ Retired line → x'.kind ≡ e.kind → Exec o x' → Wrote dual e
wrote-row dual e x' i o line k d w q kk x n registers c =
    let same : i ≡ x.instr = local-is i x.instr (sym (kk ∙ k) ∙ x.kind_is) in
    subst (λ z. Within (may_write_kind dual e.kind e n) n registers z) (sym w)
    (subst (λ z. Within z n registers line.write) (sym (ap (λ a. may_write_kind dual a e n) k))
    (row-writes x.memory x.at_word i x.a x.b n registers line (decoded-registers e.word i d) c (ap (λ j. executed x.memory x.at_word j x.a x.b) same ∙ sym x.is_it ∙ q)))
  where
    local-is : (a b : Instr) → Local a ≡ Local b → a ≡ b
    local-is a b h = cc

module _ (dual : Bool) (seq : ℕ) (o : Stepped) (x : Entry) (ex : x.seq ≡ seq → Exec o x) where
  done-never : x.done ≡ true → has_seq seq x ≡ false
  done-never d = false-or (has_seq seq x) (λ q. not-both x.done (ex (eqb-true x.seq seq q)).not_done d)

  pub steady-outcome : Steady dual (with_outcome seq o) x
  steady-outcome = go o
    where
      go : (p : Stepped) → Steady dual (with_outcome seq p) x
      go (Stop cause) = plain dual (with_outcome seq (Stop cause)) x refl refl refl refl refl
      go (Retired line) = record {
        may = λ n h. sym (ap (λ t. not (n == 0) && t) (kind-same dual x.kind x (with_outcome seq (Retired line) x) n refl refl)) ∙ h;
        done = λ h. or-left x.done (has_seq seq x) h;
        write = λ h. ap (λ t. if t then line.write else x.write) (done-never h);
        same = λ h n. ap (λ t. not (n == 0) && t) (kind-same dual x.kind x (with_outcome seq (Retired line) x) n refl refl);
      }

  pub fit-outcome : Fit dual x → Fit dual (with_outcome seq o x)
  fit-outcome f = go o refl
    where
      go : (p : Stepped) → o ≡ p → Fit dual (with_outcome seq p x)
      go (Stop cause) e = fit-same dual x (with_outcome seq (Stop cause) x) refl refl refl refl refl f
      go (Retired line) e = record { even = f.even; row = f.row; wrote = λ h. by (has_seq seq x) refl h }
        where
          by : (t : Bool) → has_seq seq x ≡ t → (x.done || t) ≡ true → Wrote dual (with_outcome seq (Retired line) x)
          by false q h = wrote-same dual x (with_outcome seq (Retired line) x) refl refl refl (ap (λ t. if t then line.write else x.write) q) (f.wrote (sym (or-false x.done) ∙ h))
          by true q h =
              let y = ex (eqb-true x.seq seq q) in
              wrote-row dual (with_outcome seq (Retired line) x) x y.instr o line y.kind_is (f.row y.instr y.kind_is) (ap (λ t. if t then line.write else x.write) q) e refl y
