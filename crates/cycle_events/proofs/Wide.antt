-- What the steps of a cycle leave of each entry: what it may write narrows, and what is done stays.
use Rattle.std.proofs.Common.{◌≡◌, ◌==◌, ◌&&◌, ◌||◌, ◌++◌, ◌+◌, ◌%◌, ℕ, zero, suc, Bool, true, false, cond, not, List, [], ◌∷◌, map, filter, take, Option, Some, None, refl, sym, ap, ◌∙◌, ◌⊎◌, inl, inr, subst}
use Rattle.std.specs.Prelude.{is_some, ⊤}
use Rattle.std.specs.List.{last_or}
use Rattle.std.specs.Option.{option_map_or}
use Rattle.std.proofs.lemmas.Bool.{eqb-true, eq-eqb, ne_eqb}
use Rattle.rv32_table.specs.Instr.{rd_field, source_field}
use Rattle.xif_base.specs.Params.{IsInRange}
use Rattle.coproc_config.specs.declared.accept.Hit.{Hit}
use Rattle.coproc_config.specs.Accept.{IsAllowed}
use Rattle.inorder_machine.specs.Machine.{Extension}
use Rattle.inorder_machine.specs.declared.line.Stepped.{Stepped}
use Rattle.inorder_machine.specs.declared.line.Stepped.TheVariants.{Retired, Stop}
use Rattle.inorder_machine.specs.declared.line.Write.{Write}
use Rattle.inorder_machine.specs.declared.stop.StopCause.TheVariants.{Illegal}
use Rattle.inorder_machine.specs.declared.units.Half.{Half}
use Rattle.inorder_machine.specs.Units.{has_flag, half_register}
use Rattle.xif_session.specs.declared.fact.Response.{Response}
use Rattle.cycle_spec.specs.declared.entry.Entry.{Entry}
use Rattle.cycle_spec.specs.declared.entry.EntryKind.{EntryKind}
use Rattle.cycle_spec.specs.declared.entry.EntryKind.TheVariants.{Local, Unknown, Nowhere}
use Rattle.cycle_spec.specs.declared.entry.Operand.{Operand}
use Rattle.cycle_spec.specs.declared.entry.Operand.TheVariants.{Here, NotYet}
use Rattle.cycle_spec.specs.Flight.{is_unknown_kind, is_unknown, is_open, may_write_word, may_write_kind, may_write, value_in, operand_from, operand_behind, source_behind, with_response, with_sent, with_release, with_result, with_outcome}
use Rattle.cycle_spec.specs.Core.{line_of}
use Rattle.cycle_lists.specs.Lists.{Each}
use Rattle.cycle_lists.proofs.Tests.{not-both, or-left, and-left, and-right, and-both}
use Rattle.cycle_lists.proofs.Every.{each, Each-both, Each-from}
use Rattle.cycle_paired.specs.Paired.{IsEntry}
use Rattle.cycle_paired.proofs.Facts.{open-unknown, open-undone, open-none}
use Rattle.cycle_paired.proofs.Growing.{OnlyOpen}
use Rattle.cycle_paired.proofs.Executing.{Execs}
use Rattle.ahead_spec.specs.Operands.{word_hit, response_of, half_behind}
use Rattle.ahead_laws.proofs.Hits.{hit-allowed}

-- an entry earlier and later in a cycle; until the execution, only words of coprocessors are stopped
pub record Wide (still dual : Bool) (x y : Entry) : Type 0 where
  pub seq : y.seq ≡ x.seq
  pub id : y.id ≡ x.id
  pub kind : y.kind ≡ x.kind
  pub pc : y.pc ≡ x.pc
  pub word : y.word ≡ x.word
  pub predicted : y.predicted ≡ x.predicted
  pub stop : still ≡ true → is_unknown x ≡ false → y.stop ≡ x.stop
  pub narrow : (r : ℕ) → may_write dual r y ≡ true → may_write dual r x ≡ true
  pub wrote : (r : ℕ) → x.done ≡ true → may_write dual r x ≡ true → may_write dual r y ≡ true
  pub fixed : x.done ≡ true → (y.done ≡ true) × (line_of y ≡ line_of x)

abbrev pub AllWide : (still dual : Bool) → List Entry → List Entry → Type 0
AllWide still dual [] [] = ⊤
AllWide still dual [] (y ∷ ys) = ⊥
AllWide still dual (x ∷ xs) [] = ⊥
AllWide still dual (x ∷ xs) (y ∷ ys) = Wide still dual x y × AllWide still dual xs ys

-- ---- one after another

wide-trans : (still dual : Bool) (x y z : Entry) → Wide still dual x y → Wide still dual y z → Wide still dual x z
wide-trans still dual x y z a b = record {
  seq = b.seq ∙ a.seq;
  id = b.id ∙ a.id;
  kind = b.kind ∙ a.kind;
  pc = b.pc ∙ a.pc;
  word = b.word ∙ a.word;
  predicted = b.predicted ∙ a.predicted;
  stop = λ s u. b.stop s (ap is_unknown_kind a.kind ∙ u) ∙ a.stop s u;
  narrow = λ r h. a.narrow r (b.narrow r h);
  wrote = λ r d h. b.wrote r (a.fixed d).0 (a.wrote r d h);
  fixed = λ d. let k = a.fixed d in let l = b.fixed k.0 in (l.0, l.1 ∙ k.1);
}

pub all-trans : (still dual : Bool) (xs ys zs : List Entry) → AllWide still dual xs ys → AllWide still dual ys zs → AllWide still dual xs zs
all-trans still dual [] [] [] a b = tt
all-trans still dual [] [] (z ∷ zs) a b = absurd b
all-trans still dual [] (y ∷ ys) zs a b = absurd a
all-trans still dual (x ∷ xs) [] zs a b = absurd a
all-trans still dual (x ∷ xs) (y ∷ ys) [] a b = absurd b
all-trans still dual (x ∷ xs) (y ∷ ys) (z ∷ zs) a b = (wide-trans still dual x y z a.0 b.0, all-trans still dual xs ys zs a.1 b.1)

pub all-take : (still dual : Bool) (k : ℕ) (xs ys : List Entry) → AllWide still dual xs ys → AllWide still dual (take k xs) (take k ys)
all-take still dual zero xs ys a = tt
all-take still dual (suc k) [] [] a = tt
all-take still dual (suc k) [] (y ∷ ys) a = absurd a
all-take still dual (suc k) (x ∷ xs) [] a = absurd a
all-take still dual (suc k) (x ∷ xs) (y ∷ ys) a = (a.0, all-take still dual k xs ys a.1)

wide-less : (dual : Bool) (x y : Entry) → Wide true dual x y → Wide false dual x y
wide-less dual x y a = record { seq = a.seq; id = a.id; kind = a.kind; pc = a.pc; word = a.word; predicted = a.predicted; stop = λ s. cc; narrow = a.narrow; wrote = a.wrote; fixed = a.fixed }

pub all-less : (dual : Bool) (xs ys : List Entry) → AllWide true dual xs ys → AllWide false dual xs ys
all-less dual [] [] a = tt
all-less dual [] (y ∷ ys) a = absurd a
all-less dual (x ∷ xs) [] a = absurd a
all-less dual (x ∷ xs) (y ∷ ys) a = (wide-less dual x y a.0, all-less dual xs ys a.1)

pub Each-wide : (still dual : Bool) (P Q : Entry → Type 0) (xs ys : List Entry) → ((x y : Entry) → Wide still dual x y → P x → Q y) → AllWide still dual xs ys → Each P xs → Each Q ys
Each-wide still dual P Q [] [] k a h = tt
Each-wide still dual P Q [] (y ∷ ys) k a h = absurd a
Each-wide still dual P Q (x ∷ xs) [] k a h = absurd a
Each-wide still dual P Q (x ∷ xs) (y ∷ ys) k a h = (k x y a.0 h.0, Each-wide still dual P Q xs ys k a.1 h.1)

-- around an entry
pub record WideAt (still dual : Bool) (xs : List Entry) (e : Entry) (ys zs : List Entry) : Type 0 where
  pub older : List Entry
  pub entry : Entry
  pub younger : List Entry
  pub here : zs ≡ older ++ entry ∷ younger
  pub olders : AllWide still dual xs older
  pub wide : Wide still dual e entry
  pub youngers : AllWide still dual ys younger

pub wide-at : (still dual : Bool) (xs : List Entry) (e : Entry) (ys zs : List Entry) → AllWide still dual (xs ++ e ∷ ys) zs → WideAt still dual xs e ys zs
wide-at still dual [] e ys [] a = absurd a
wide-at still dual [] e ys (z ∷ zs) a = record { older = []; entry = z; younger = zs; here = refl; olders = tt; wide = a.0; youngers = a.1 }
wide-at still dual (x ∷ xs) e ys [] a = absurd a
wide-at still dual (x ∷ xs) e ys (z ∷ zs) a =
    let r = wide-at still dual xs e ys zs a.1 in
    record { older = z ∷ r.older; entry = r.entry; younger = r.younger; here = ap (λ l. z ∷ l) r.here; olders = (a.0, r.olders); wide = r.wide; youngers = r.youngers }

-- ---- each step

may-same : (dual : Bool) (n : ℕ) (x y : Entry) → y.kind ≡ x.kind → y.response ≡ x.response → y.word ≡ x.word → may_write dual n y ≡ may_write dual n x
may-same dual n x y k r w = ap (λ q. not (n == 0) && may_write_kind dual q y n) k ∙ ap (λ t. not (n == 0) && t) (go x.kind)
  where
    go : (q : EntryKind) → may_write_kind dual q y n ≡ may_write_kind dual q x n
    go (Local i) = refl
    go Unknown = ap (λ o. may_write_word dual o (rd_field y.word) n) r ∙ ap (λ o. may_write_word dual x.response (rd_field o) n) w
    go Nowhere = refl

wide-of : (still dual : Bool) (x y : Entry) → y.seq ≡ x.seq → y.id ≡ x.id → y.kind ≡ x.kind → y.pc ≡ x.pc → y.word ≡ x.word → y.predicted ≡ x.predicted → y.response ≡ x.response → (still ≡ true → y.stop ≡ x.stop)
    → (x.done ≡ true → (y.done ≡ true) × (line_of y ≡ line_of x)) → Wide still dual x y
wide-of still dual x y s i k p w q r t f =
    let same = λ (n : ℕ). may-same dual n x y k r w in
    record { seq = s; id = i; kind = k; pc = p; word = w; predicted = q; stop = λ a u. t a; narrow = λ n h. sym (same n) ∙ h; wrote = λ n d h. same n ∙ h; fixed = f }

wide-same : (still dual : Bool) (x : Entry) → Wide still dual x x
wide-same still dual x = wide-of still dual x x refl refl refl refl refl refl refl (λ s. refl) (λ d. (d, refl))

pub all-same : (still dual : Bool) (xs : List Entry) → AllWide still dual xs xs
all-same still dual [] = tt
all-same still dual (x ∷ xs) = (wide-same still dual x, all-same still dual xs)

all-map : (still dual : Bool) (f : Entry → Entry) (xs : List Entry) → Each (λ x. Wide still dual x (f x)) xs → AllWide still dual xs (map f xs)
all-map still dual f [] h = tt
all-map still dual f (x ∷ xs) h = (h.0, all-map still dual f xs h.1)

pub all-sent : (still dual : Bool) (s : ℕ) (xs : List Entry) → AllWide still dual xs (map (with_sent s) xs)
all-sent still dual s xs = all-map still dual (with_sent s) xs (each (λ x. Wide still dual x (with_sent s x)) xs (λ x. wide-of still dual x (with_sent s x) refl refl refl refl refl refl refl (λ a. refl) (λ d. (d, refl))))

pub all-release : (still dual : Bool) (s : ℕ) (xs : List Entry) → AllWide still dual xs (map (with_release s) xs)
all-release still dual s xs = all-map still dual (with_release s) xs (each (λ x. Wide still dual x (with_release s x)) xs (λ x. wide-of still dual x (with_release s x) refl refl refl refl refl refl refl (λ a. refl) (λ d. (d, refl))))

-- a result
wide-result : (dual : Bool) (s : ℕ) (w : Write) (e : Entry) → (e.seq ≡ s → e.done ≡ false) → Wide true dual e (with_result s w e)
wide-result dual s w e n =
    wide-of true dual e (with_result s w e) refl refl refl refl refl refl refl (λ a. refl) (λ d. (or-left e.done (e.seq == s) d, ap (λ t. line_of (record e { write = cond t w e.write })) (ne_eqb e.seq s (λ q. not-both e.done (n q) d))))

pub all-result : (dual : Bool) (s : ℕ) (w : Write) (xs : List Entry) → Each (λ e. e.seq ≡ s → e.done ≡ false) xs → AllWide true dual xs (map (with_result s w) xs)
all-result dual s w xs h = all-map true dual (with_result s w) xs (Each-from (λ e. e.seq ≡ s → e.done ≡ false) (λ e. Wide true dual e (with_result s w e)) xs (λ e n. wide-result dual s w e n) h)

-- an execution
wide-outcome : (dual : Bool) (s : ℕ) (o : Stepped) (e : Entry) → Execs s o e → Wide false dual e (with_outcome s o e)
wide-outcome dual s (Retired l) e x =
    wide-of false dual e (with_outcome s (Retired l) e) refl refl refl refl refl refl refl (λ a. cc)
    (λ d. (or-left e.done (e.seq == s) d, ap (λ t. line_of (record e { write = cond t l.write e.write; store = cond t l.store e.store; next = cond t l.next e.next })) (ne_eqb e.seq s (λ q. not-both e.done (x q).not_done d))))
wide-outcome dual s (Stop c) e x = wide-of false dual e (with_outcome s (Stop c) e) refl refl refl refl refl refl refl (λ a. cc) (λ d. (d, refl))

pub all-outcome : (dual : Bool) (s : ℕ) (o : Stepped) (xs : List Entry) → Each (Execs s o) xs → AllWide false dual xs (map (with_outcome s o) xs)
all-outcome dual s o xs h = all-map false dual (with_outcome s o) xs (Each-from (Execs s o) (λ e. Wide false dual e (with_outcome s o e)) xs (λ e n. wide-outcome dual s o e n) h)

-- ---- a response narrows what a word may write

-- where the second register is written, the interface allows it
abbrev AllowsPair : (dual : Bool) → (rd flags : ℕ) → Type 0
AllowsPair dual rd flags = has_flag flags 1 ≡ true → (dual ≡ true) × (rd % 2 ≡ 0)

allows-pair : (x : Extension) (word : ℕ) → IsInRange x.params → AllowsPair x.params.dual_write (rd_field word) (response_of (word_hit x word)).writeback.0
allows-pair x word range = go (word_hit x word) refl
  where
    none : (h : has_flag 0 1 ≡ true) → ⊥
    none h = cc

    one : (h : has_flag 1 1 ≡ true) → ⊥
    one h = cc

    by : (hit : Hit) → IsAllowed x.params word hit → has_flag hit.writeback.0 1 ≡ true → (hit.writeback.0 ≡ 0) ⊎ ((hit.writeback.0 ≡ 1) ⊎ (hit.writeback.0 ≡ 3)) → (x.params.dual_write ≡ true) × (rd_field word % 2 ≡ 0)
    by hit a t (inl z) = absurd (none (ap (λ f. has_flag f 1) (sym z) ∙ t))
    by hit a t (inr (inl z)) = absurd (one (ap (λ f. has_flag f 1) (sym z) ∙ t))
    by hit a t (inr (inr z)) = a.write_pairs z

    go : (o : Option Hit) → word_hit x word ≡ o → AllowsPair x.params.dual_write (rd_field word) (response_of o).writeback.0
    go None e = λ t. absurd (none t)
    go (Some hit) e = λ t. let a = hit-allowed x.set x.params word hit range e in by hit a t a.writes

narrow-word : (dual : Bool) (response : Response) (rd r : ℕ) → AllowsPair dual rd response.writeback.0 → may_write_word dual (Some response) rd r ≡ true → may_write_word dual None rd r ≡ true
narrow-word dual response rd r k h =
    go (has_flag response.writeback.0 0) (r == rd) (has_flag response.writeback.0 1) (r == rd + 1) refl (and-right (not (rd == 0)) ((has_flag response.writeback.0 0 && (r == rd)) || (has_flag response.writeback.0 1 && (r == rd + 1))) h)
  where
    go : (a b c d : Bool) → has_flag response.writeback.0 1 ≡ c → ((a && b) || (c && d)) ≡ true → (b || (dual && ((rd % 2 == 0) && d))) ≡ true
    go a true c d q e = refl
    go true false true true q e = let z = k q in and-both dual ((rd % 2 == 0) && true) z.0 (ap (λ t. t && true) (eq-eqb (rd % 2) 0 z.1))
    go false false true true q e = let z = k q in and-both dual ((rd % 2 == 0) && true) z.0 (ap (λ t. t && true) (eq-eqb (rd % 2) 0 z.1))
    go true false true false q e = cc
    go false false true false q e = cc
    go true false false d q e = cc
    go false false false d q e = cc

-- the kind and the response of an entry that had none
open-writes : (dual : Bool) (e : Entry) (r : ℕ) → is_open e ≡ true → may_write dual r e ≡ (not (r == 0) && may_write_word dual None (rd_field e.word) r)
open-writes dual e r o = go e.kind e.response (open-unknown e o) (open-none e o)
  where
    go : (k : EntryKind) (p : Option Response) → is_unknown_kind k ≡ true → is_some p ≡ false → (not (r == 0) && may_write_kind dual k (record e { kind = k; response = p }) r) ≡ (not (r == 0) && may_write_word dual None (rd_field e.word) r)
    go (Local i) p u n = cc
    go Nowhere p u n = cc
    go Unknown (Some z) u n = cc
    go Unknown None u n = refl

answered-writes : (dual : Bool) (e y : Entry) (x : Response) (r : ℕ) → is_unknown y ≡ true → y.response ≡ Some x → y.word ≡ e.word → may_write dual r y ≡ (not (r == 0) && may_write_word dual (Some x) (rd_field e.word) r)
answered-writes dual e y x r u p w = go y.kind u ∙ ap (λ o. not (r == 0) && may_write_word dual o (rd_field y.word) r) p ∙ ap (λ o. not (r == 0) && may_write_word dual (Some x) (rd_field o) r) w
  where
    go : (k : EntryKind) → is_unknown_kind k ≡ true → (not (r == 0) && may_write_kind dual k y r) ≡ (not (r == 0) && may_write_word dual y.response (rd_field y.word) r)
    go (Local i) q = cc
    go Nowhere q = cc
    go Unknown q = refl

wide-response : (dual : Bool) (s : ℕ) (x : Response) (e : Entry) → (e.seq ≡ s → AllowsPair dual (rd_field e.word) x.writeback.0) → OnlyOpen s e → IsEntry e → Wide true dual e (with_response s x e)
wide-response dual s x e l o ok = go (e.seq == s) refl
  where
    go : (t : Bool) → (e.seq == s) ≡ t → Wide true dual e (with_response s x e)
    go false q = wide-of true dual e (with_response s x e) refl refl refl refl refl refl (ap (λ t. cond t (Some x) e.response) q) (λ a. ap (λ t. cond (t && not x.accept) (Some Illegal) e.stop) q) (λ d. (d, refl))
    go true q =
        let y = with_response s x e in
        let at = eqb-true e.seq s q in
        let op = o at in
        let u = open-unknown e op in
        let undone = open-undone e ok op in
        record {
          seq = refl;
          id = refl;
          kind = refl;
          pc = refl;
          word = refl;
          predicted = refl;
          stop = λ a n. absurd (not-both (is_unknown e) n u);
          narrow = λ r h.
              let z : (not (r == 0) && may_write_word dual (Some x) (rd_field e.word) r) ≡ true = sym (answered-writes dual e y x r u (ap (λ t. cond t (Some x) e.response) q) refl) ∙ h in
              open-writes dual e r op ∙ and-both (not (r == 0)) (may_write_word dual None (rd_field e.word) r) (and-left (not (r == 0)) (may_write_word dual (Some x) (rd_field e.word) r) z)
              (narrow-word dual x (rd_field e.word) r (l at) (and-right (not (r == 0)) (may_write_word dual (Some x) (rd_field e.word) r) z));
          wrote = λ r d. absurd (not-both e.done undone d);
          fixed = λ d. absurd (not-both e.done undone d);
        }

pub all-response : (x : Extension) (p : Entry) (xs : List Entry) → IsInRange x.params → Each (λ e. e.seq ≡ p.seq → e ≡ p) xs → Each (OnlyOpen p.seq) xs → Each IsEntry xs
    → AllWide true x.params.dual_write xs (map (with_response p.seq (response_of (word_hit x p.word))) xs)
all-response x p xs range one o ok =
    let r = response_of (word_hit x p.word) in
    let both = Each-both (OnlyOpen p.seq) IsEntry (λ e. OnlyOpen p.seq e × IsEntry e) xs (λ e a b. (a, b)) o ok in
    all-map true x.params.dual_write (with_response p.seq r) xs
    (Each-both (λ e. e.seq ≡ p.seq → e ≡ p) (λ e. OnlyOpen p.seq e × IsEntry e) (λ e. Wide true x.params.dual_write e (with_response p.seq r e)) xs
    (λ e k c. wide-response x.params.dual_write p.seq r e (λ q. subst (λ d. AllowsPair x.params.dual_write (rd_field d.word) r.writeback.0) (sym (k q)) (allows-pair x p.word range)) c.0 c.1) one both)

-- ---- a value that is here stays here

abbrev More : Operand → Operand → Type 0
More a b = (v : ℕ) → a ≡ Here v → b ≡ Here v

found-wide : (still dual : Bool) (registers : List ℕ) (r : ℕ) (x y : Entry) → Wide still dual x y → More (operand_from registers (Some x) r) (operand_from registers (Some y) r)
found-wide still dual registers r x y w v h = go x.done refl h
  where
    go : (d : Bool) → x.done ≡ d → cond d (Here (value_in x.write r)) NotYet ≡ Here v → cond y.done (Here (value_in y.write r)) NotYet ≡ Here v
    go true e k = let f = w.fixed e in ap (λ d. cond d (Here (value_in y.write r)) NotYet) f.0 ∙ ap (λ l. Here (value_in l.write r)) f.1 ∙ k
    go false e k = cc

last-wide : (still dual : Bool) (registers : List ℕ) (r : ℕ) (xs ys : List Entry) (a b : Option Entry) → AllWide still dual xs ys → More (operand_from registers a r) (operand_from registers b r)
    → More (operand_from registers (last_or a (filter (may_write dual r) xs)) r) (operand_from registers (last_or b (filter (may_write dual r) ys)) r)
last-wide still dual registers r [] [] a b w m = m
last-wide still dual registers r [] (y ∷ ys) a b w m = absurd w
last-wide still dual registers r (x ∷ xs) [] a b w m = absurd w
last-wide still dual registers r (x ∷ xs) (y ∷ ys) a b w m = go (may_write dual r x) (may_write dual r y) refl refl (λ c d n. last-wide still dual registers r xs ys c d w.1 n)
  where
    unseen : (d : Bool) → x.done ≡ d → may_write dual r x ≡ true → may_write dual r y ≡ false → More (cond d (Here (value_in x.write r)) NotYet) (operand_from registers b r)
    unseen true e p q v h = absurd (not-both (may_write dual r y) q (w.0.wrote r e p))
    unseen false e p q v h = cc

    go : (p q : Bool) → may_write dual r x ≡ p → may_write dual r y ≡ q
        → ((c d : Option Entry) → More (operand_from registers c r) (operand_from registers d r) → More (operand_from registers (last_or c (filter (may_write dual r) xs)) r) (operand_from registers (last_or d (filter (may_write dual r) ys)) r))
        → More (operand_from registers (last_or a (cond p (x ∷ filter (may_write dual r) xs) (filter (may_write dual r) xs))) r) (operand_from registers (last_or b (cond q (y ∷ filter (may_write dual r) ys) (filter (may_write dual r) ys))) r)
    go true true e f k = k (Some x) (Some y) (found-wide still dual registers r x y w.0)
    go true false e f k = k (Some x) b (unseen x.done refl e f)
    go false true e f k = absurd (not-both (may_write dual r x) e (w.0.narrow r f))
    go false false e f k = k a b m

pub operand-wide : (still dual : Bool) (registers : List ℕ) (xs ys : List Entry) (r v : ℕ) → AllWide still dual xs ys → operand_behind dual registers xs r ≡ Here v → operand_behind dual registers ys r ≡ Here v
operand-wide still dual registers xs ys r v a h = last-wide still dual registers r xs ys None None a (λ w q. q) v h

pub source-wide : (still dual : Bool) (registers : List ℕ) (xs ys : List Entry) (o : Option ℕ) (v : ℕ) → AllWide still dual xs ys → source_behind dual registers xs o ≡ Here v → source_behind dual registers ys o ≡ Here v
source-wide still dual registers xs ys None v a h = h
source-wide still dual registers xs ys (Some r) v a h = operand-wide still dual registers xs ys r v a h

pub half-wide : (still dual : Bool) (registers : List ℕ) (xs ys : List Entry) (word lane : ℕ) (half : Half) (v : ℕ) → AllWide still dual xs ys → half_behind dual registers xs word lane half ≡ Here v → half_behind dual registers ys word lane half ≡ Here v
half-wide still dual registers xs ys word lane half v a h = go (half_register (source_field word lane) half) h
  where
    go : (o : Option ℕ) → option_map_or (operand_behind dual registers xs) o (Here 0) ≡ Here v → option_map_or (operand_behind dual registers ys) o (Here 0) ≡ Here v
    go None e = e
    go (Some r) e = operand-wide still dual registers xs ys r v a e
