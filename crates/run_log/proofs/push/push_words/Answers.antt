use Rattle.std.proofs.Common.{◌≡◌, ◌∷◌, ◌++◌, ℕ, List, [], Option, sym, ap, ◌∙◌, append_assoc}
use Rattle.std.specs.Prelude.{codes}
use Rattle.std.proofs.lemmas.Result.{on_ok_weaker}
use Rattle.run_log.specs.declared.line.Line.{Line}
use Rattle.run_log.specs.declared.line.Line.TheVariants.{Dispatch}
use Rattle.run_log.specs.Words.{hex_word}
use Rattle.run_log.specs.Log.{line_words, word_words}
use Rattle.run_log.proofs.push.push_words.Goals as goal

dispatched : (o o1 o2 o3 : List ℕ) (line : Line) (pc : ℕ) (word : Option ℕ) → line ≡ Dispatch pc word → o1 ≡ o ++ codes " dispatch" → o2 ≡ o1 ++ 32 ∷ hex_word pc → o3 ≡ o2 ++ 32 ∷ word_words word → o3 ≡ o ++ 32 ∷ line_words line
dispatched o o1 o2 o3 line pc word e e1 e2 e3 =
    let front = codes " dispatch" ++ 32 ∷ hex_word pc in
    let first : o2 ≡ o ++ front = e2 ∙ ap (λ t. t ++ 32 ∷ hex_word pc) e1 ∙ append_assoc o (codes " dispatch") (32 ∷ hex_word pc) in
    e3 ∙ ap (λ t. t ++ 32 ∷ word_words word) first
    ∙ append_assoc o front (32 ∷ word_words word)
    ∙ ap (λ t. o ++ t) (sym (append_assoc front (32 ∷ []) (word_words word)))
    ∙ ap (λ l. o ++ 32 ∷ line_words l) (sym e)

pub returns-in_ok-push_word-in-Dispatch : goal.returns-in_ok-push_word-in-Dispatch
returns-in_ok-push_word-in-Dispatch c = on_ok_weaker c.push_word_or_none.result (λ last.
    dispatched _ _ _ _ c.args.line c.in-Dispatch.pc c.in-Dispatch.word c.in-Dispatch.is c.in_ok-push_str-in-Dispatch.ensures.bytes c.in_ok-push_word-in-Dispatch.ensures last) c.push_word_or_none.ensures
