-- Numbers and causes as they are printed.
use Rattle.std.specs.Prelude.{ℕ, List, ◌++◌, ◌-◌, false, length, replicate}
use Rattle.std.specs.Fmt.{digits}
use Rattle.inorder_machine.specs.declared.stop.StopCause.{StopCause}
use Rattle.inorder_machine.specs.declared.stop.StopCause.TheVariants.{Ecall, Ebreak, Illegal, FetchOutside, LoadOutside, StoreOutside, TargetMisaligned}
use lib.Chars.{codes}

-- so many lower-case hexadecimal digits, or more where the number has more, after 0x
abbrev pub hex_digits : ℕ → ℕ → List ℕ
hex_digits count n =
    let figures = digits 16 false n in
    codes "0x" ++ replicate (count - length figures) 48 ++ figures

-- a word of 32 bits, and one of 64
abbrev pub hex_word : ℕ → List ℕ
hex_word n = hex_digits 8 n

abbrev pub hex_double : ℕ → List ℕ
hex_double n = hex_digits 16 n

-- the word for what stops the machine
abbrev pub cause_word : StopCause → List ℕ
cause_word Ecall = codes "ecall"
cause_word Ebreak = codes "ebreak"
cause_word Illegal = codes "illegal"
cause_word FetchOutside = codes "fetch-outside"
cause_word LoadOutside = codes "load-outside"
cause_word StoreOutside = codes "store-outside"
cause_word TargetMisaligned = codes "target-misaligned"
