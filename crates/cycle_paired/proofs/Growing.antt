-- What answers and registers leave of an entry: all but the response of the one that is offered.
use Rattle.std.proofs.Common.{◌≡◌, ◌≢◌, ◌&&◌, ◌++◌, ℕ, zero, suc, Bool, true, false, cond, not, List, [], ◌∷◌, map, take, drop, refl, sym, ap, ◌∙◌, subst}
use Rattle.std.specs.Prelude.{is_some, ⊤}
use Rattle.xif_session.specs.declared.fact.Response.{Response}
use Rattle.xif_session.specs.Facts.{is_accepted as is_response_accepted}
use Rattle.cycle_spec.specs.declared.entry.Entry.{Entry}
use Rattle.cycle_spec.specs.declared.entry.EntryKind.{EntryKind}
use Rattle.cycle_spec.specs.declared.entry.EntryKind.TheVariants.{Local, Unknown, Nowhere}
use Rattle.rv32_table.specs.Instr.{kind_of}
use Rattle.cycle_spec.specs.Flight.{is_open, is_safe, is_safe_kind, is_safe_row, with_response, with_sent}
use Rattle.cycle_lists.specs.Lists.{Each, Pairs}
use Rattle.cycle_lists.specs.Order.{Before}
use Rattle.cycle_lists.proofs.Tests.{not-both}
use Rattle.cycle_lists.proofs.Every.{Each-from}
use Rattle.cycle_paired.proofs.Facts.{open-unsafe, only}
use Rattle.cycle_paired.proofs.Answering.{response-other}

-- an entry at the start of a cycle and later in it; s is the number of the one that is offered
pub record Grown (s : ℕ) (x y : Entry) : Type 0 where
  pub seq : y.seq ≡ x.seq
  pub pc : y.pc ≡ x.pc
  pub id : y.id ≡ x.id
  pub word : y.word ≡ x.word
  pub kind : y.kind ≡ x.kind
  pub predicted : y.predicted ≡ x.predicted
  pub done : y.done ≡ x.done
  pub write : y.write ≡ x.write
  pub store : y.store ≡ x.store
  pub next : y.next ≡ x.next
  pub released : y.released ≡ x.released
  pub response : x.seq ≢ s → y.response ≡ x.response
  pub stop : x.seq ≢ s → y.stop ≡ x.stop

abbrev pub AllGrown : ℕ → List Entry → List Entry → Type 0
AllGrown s [] [] = ⊤
AllGrown s [] (y ∷ ys) = ⊥
AllGrown s (x ∷ xs) [] = ⊥
AllGrown s (x ∷ xs) (y ∷ ys) = Grown s x y × AllGrown s xs ys

pub grown-same : (s : ℕ) (xs : List Entry) → AllGrown s xs xs
grown-same s [] = tt
grown-same s (x ∷ xs) =
    (record { seq = refl; pc = refl; id = refl; word = refl; kind = refl; predicted = refl; done = refl; write = refl; store = refl; next = refl; released = refl; response = λ n. refl; stop = λ n. refl }, grown-same s xs)

pub grown-response : (s : ℕ) (r : Response) (xs : List Entry) → AllGrown s xs (map (with_response s r) xs)
grown-response s r [] = tt
grown-response s r (x ∷ xs) = (
  record {
    seq = refl;
    pc = refl;
    id = refl;
    word = refl;
    kind = refl;
    predicted = refl;
    done = refl;
    write = refl;
    store = refl;
    next = refl;
    released = refl;
    response = λ n. ap (λ e. e.response) (response-other s r x n);
    stop = λ n. ap (λ e. e.stop) (response-other s r x n);
  },
  grown-response s r xs,
)

pub grown-answered : (t : Bool) (s : ℕ) (r : Response) (xs : List Entry) → AllGrown s xs (cond t (map (with_response s r) xs) xs)
grown-answered false s r xs = grown-same s xs
grown-answered true s r xs = grown-response s r xs

grown-map : (s k : ℕ) (xs ys : List Entry) → AllGrown s xs ys → AllGrown s xs (map (with_sent k) ys)
grown-map s k [] [] g = tt
grown-map s k [] (y ∷ ys) g = absurd g
grown-map s k (x ∷ xs) [] g = absurd g
grown-map s k (x ∷ xs) (y ∷ ys) g =
    let h = g.0 in
    (record { seq = h.seq; pc = h.pc; id = h.id; word = h.word; kind = h.kind; predicted = h.predicted; done = h.done; write = h.write; store = h.store; next = h.next; released = h.released; response = h.response; stop = h.stop }, grown-map s k xs ys g.1)

pub grown-sent : (t : Bool) (s k : ℕ) (xs ys : List Entry) → AllGrown s xs ys → AllGrown s xs (cond t (map (with_sent k) ys) ys)
grown-sent true s k xs ys g = grown-map s k xs ys g
grown-sent false s k xs ys g = g

pub grown-take : (s k : ℕ) (xs ys : List Entry) → AllGrown s xs ys → AllGrown s (take k xs) (take k ys)
grown-take s zero xs ys g = tt
grown-take s (suc k) [] [] g = tt
grown-take s (suc k) [] (y ∷ ys) g = absurd g
grown-take s (suc k) (x ∷ xs) [] g = absurd g
grown-take s (suc k) (x ∷ xs) (y ∷ ys) g = (g.0, grown-take s k xs ys g.1)

pub grown-drop : (s k : ℕ) (xs ys : List Entry) → AllGrown s xs ys → AllGrown s (drop k xs) (drop k ys)
grown-drop s zero xs ys g = g
grown-drop s (suc k) [] [] g = tt
grown-drop s (suc k) [] (y ∷ ys) g = absurd g
grown-drop s (suc k) (x ∷ xs) [] g = absurd g
grown-drop s (suc k) (x ∷ xs) (y ∷ ys) g = grown-drop s k xs ys g.1

-- around an entry
pub record GrownAt (s : ℕ) (xs : List Entry) (e : Entry) (ys zs : List Entry) : Type 0 where
  pub older : List Entry
  pub entry : Entry
  pub younger : List Entry
  pub here : zs ≡ older ++ entry ∷ younger
  pub olders : AllGrown s xs older
  pub grown : Grown s e entry
  pub youngers : AllGrown s ys younger

pub grown-at : (s : ℕ) (xs : List Entry) (e : Entry) (ys zs : List Entry) → AllGrown s (xs ++ e ∷ ys) zs → GrownAt s xs e ys zs
grown-at s [] e ys [] g = absurd g
grown-at s [] e ys (z ∷ zs) g = record { older = []; entry = z; younger = zs; here = refl; olders = tt; grown = g.0; youngers = g.1 }
grown-at s (x ∷ xs) e ys [] g = absurd g
grown-at s (x ∷ xs) e ys (z ∷ zs) g =
    let r = grown-at s xs e ys zs g.1 in
    record { older = z ∷ r.older; entry = r.entry; younger = r.younger; here = ap (λ l. z ∷ l) r.here; olders = (g.0, r.olders); grown = r.grown; youngers = r.youngers }

-- a fact of each entry
pub Each-grown : (s : ℕ) (P Q : Entry → Type 0) (xs ys : List Entry) → ((x y : Entry) → Grown s x y → P x → Q y) → AllGrown s xs ys → Each P xs → Each Q ys
Each-grown s P Q [] [] k g h = tt
Each-grown s P Q [] (y ∷ ys) k g h = absurd g
Each-grown s P Q (x ∷ xs) [] k g h = absurd g
Each-grown s P Q (x ∷ xs) (y ∷ ys) k g h = (k x y g.0 h.0, Each-grown s P Q xs ys k g.1 h.1)

safe-kind-same : (k : EntryKind) (x y : Entry) → y.done ≡ x.done → y.response ≡ x.response → is_safe_kind k y ≡ is_safe_kind k x
safe-kind-same (Local i) x y d r = ap (is_safe_row (kind_of i)) d
safe-kind-same Unknown x y d r = ap is_response_accepted r
safe-kind-same Nowhere x y d r = refl

pub safe-same : (x y : Entry) → y.kind ≡ x.kind → y.stop ≡ x.stop → y.done ≡ x.done → y.response ≡ x.response → is_safe y ≡ is_safe x
safe-same x y k s d r =
    ap (λ t. not (is_some t) && is_safe_kind y.kind y) s ∙ ap (λ t. not (is_some x.stop) && is_safe_kind t y) k ∙ ap (λ t. not (is_some x.stop) && t) (safe-kind-same x.kind x y d r)

-- what isn't open isn't the offered one
abbrev pub OnlyOpen : ℕ → Entry → Type 0
OnlyOpen s x = x.seq ≡ s → is_open x ≡ true

pub only-open : (es xs : List Entry) (e : Entry) (ys : List Entry) → es ≡ xs ++ e ∷ ys → is_open e ≡ true → Pairs Before es → Each (OnlyOpen e.seq) es
only-open es xs e ys h o b =
    let all = Each-from (λ x. x.seq ≡ e.seq → x ≡ e) (OnlyOpen e.seq) (xs ++ e ∷ ys) (λ x k q. ap is_open (k q) ∙ o) (only xs e ys (subst (Pairs Before) h b)) in
    subst (Each (OnlyOpen e.seq)) (sym h) all

pub safe-grown : (s : ℕ) (x y : Entry) → Grown s x y → OnlyOpen s x → is_safe x ≡ true → is_safe y ≡ true
safe-grown s x y g o h =
    let n : x.seq ≢ s = λ q. not-both (is_safe x) (open-unsafe x (o q)) h in
    safe-same x y g.kind (g.stop n) g.done (g.response n) ∙ h
