-- A number in decimal digits, and what `parse` says of it.
use Rattle.std.proofs.Common.{ℕ, List, ◌≡◌, ◌<◌, ◌^◌, ◌∙◌, suc, zero, refl, sym, ap, arith, get_or, Result, Ok, Err, IfSome, Some}
use Rattle.std.specs.Fmt.{decimal}
use Rattle.std.specs.Result.{result_ok}
use Rattle.std.specs.Str.Parse.{AllDigits, digits_value, ParsesUnsigned}
use Rattle.std.proofs.lemmas.Fmt.{decimal-digits_value, decimal_digit, first_decimal, parse-decimal}
use Rattle.std.proofs.lemmas.Str.Parse.{IsNumeralModel, numerals_by_value, tells_digits, parse_plain}
use Rattle.xif_cli.specs.Words.{HasPlainStart}

own : IsNumeralModel (AllDigits 10) (digits_value 10)
own = numerals_by_value _ tells_digits

-- what is parsed of a text with a plain start is what the text writes
pub parsed_is_written : {E : Type 0} (text : List ℕ) (r : Result ℕ E) → ParsesUnsigned 32 10 text r → HasPlainStart text → IfSome (result_ok r) (λ n. text ≡ decimal n)
parsed_is_written {E} text (Ok n) h p =
    let k = parse_plain own {E = E} 32 text (Ok n) h p.no_plus in
    sym (ap decimal k.1 ∙ decimal-digits_value own text k.0.0 k.0.1 p.zero_alone (omega (arith, k.0.2)))
parsed_is_written text (Err e) h p = tt

-- what a text writes is parsed of it
pub written_is_parsed : {E : Type 0} (text : List ℕ) (r : Result ℕ E) → ParsesUnsigned 32 10 text r → (n : ℕ) → n < 2 ^ 32 → text ≡ decimal n → result_ok r ≡ Some n
written_is_parsed text r h n small e = ap result_ok (parse-decimal 32 n text r small (omega arith) e h)

-- a number that is written has a plain start
decimal_is_plain : (n : ℕ) → n < 2 ^ 32 → HasPlainStart (decimal n)
decimal_is_plain zero h = rw (decimal_digit 0 (omega arith)) (record { no_plus = λ e. absurd (omega (arith, e)); zero_alone = λ e. refl })
decimal_is_plain (suc n) h =
    let first : 48 < get_or (decimal (suc n)) 0 0 = first_decimal (suc n) (omega arith) (omega arith) in
    record { no_plus = λ e. absurd (omega (arith, e, first)); zero_alone = λ e. absurd (omega (arith, e, first)) }

pub written_is_plain : (text : List ℕ) (n : ℕ) → n < 2 ^ 32 → text ≡ decimal n → HasPlainStart text
written_is_plain text n small e = rw e (decimal_is_plain n small)
