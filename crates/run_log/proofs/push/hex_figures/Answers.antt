use Rattle.std.proofs.Common.{◌<◌, ◌∷◌, ℕ, zero, suc, List, [], lit<, sym, ap}
use Rattle.std.specs.Prelude.{IsAscii}
use Rattle.run_log.proofs.Figures.{hex_word-is}
use Rattle.run_log.proofs.push.hex_figures.Goals as goal

one_more : (x : ℕ) (xs : List ℕ) → x < 128 → IsAscii xs → IsAscii (x ∷ xs)
one_more x xs h k zero = h
one_more x xs h k (suc i) = k i

none : IsAscii []
none i = lit< tt

ascii : (a b c d e f g h : ℕ) → a < 128 → b < 128 → c < 128 → d < 128 → e < 128 → f < 128 → g < 128 → h < 128 → IsAscii (32 ∷ 48 ∷ 120 ∷ a ∷ b ∷ c ∷ d ∷ e ∷ f ∷ g ∷ h ∷ [])
ascii a b c d e f g h i j k l m n o p =
    let h8 = one_more h [] p none in
    let h7 = one_more g (h ∷ []) o h8 in
    let h6 = one_more f (g ∷ h ∷ []) n h7 in
    let h5 = one_more e (f ∷ g ∷ h ∷ []) m h6 in
    let h4 = one_more d (e ∷ f ∷ g ∷ h ∷ []) l h5 in
    let h3 = one_more c (d ∷ e ∷ f ∷ g ∷ h ∷ []) k h4 in
    let h2 = one_more b (c ∷ d ∷ e ∷ f ∷ g ∷ h ∷ []) j h3 in
    let figures = a ∷ b ∷ c ∷ d ∷ e ∷ f ∷ g ∷ h ∷ [] in
    let h1 = one_more a (b ∷ c ∷ d ∷ e ∷ f ∷ g ∷ h ∷ []) i h2 in
    one_more 32 (48 ∷ 120 ∷ figures) (lit< tt) (one_more 48 (120 ∷ figures) (lit< tt) (one_more 120 figures (lit< tt) h1))

pub returns-clause-figures : goal.returns-clause-figures
returns-clause-figures c =
    rw (c.figure.ensures.figure, c.figure-2.ensures.figure, c.figure-3.ensures.figure, c.figure-4.ensures.figure, c.figure-5.ensures.figure, c.figure-6.ensures.figure, c.figure-7.ensures.figure, c.figure-8.ensures.figure)
    (ap (λ t. 32 ∷ t) (sym (hex_word-is c.args.word c.ranges.word.fits)))

pub returns-clause-ascii : goal.returns-clause-ascii
returns-clause-ascii c =
    ascii c.figure.result c.figure-2.result c.figure-3.result c.figure-4.result c.figure-5.result c.figure-6.result c.figure-7.result c.figure-8.result
    c.figure.ensures.ascii c.figure-2.ensures.ascii c.figure-3.ensures.ascii c.figure-4.ensures.ascii c.figure-5.ensures.ascii c.figure-6.ensures.ascii c.figure-7.ensures.ascii c.figure-8.ensures.ascii
