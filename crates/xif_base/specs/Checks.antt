-- Tests in an order, each with the error that is returned where the test fails.
use Rattle.std.specs.Prelude.{Bool, if◌then◌else◌, List, [], ◌∷◌, Result, Ok, Err}

-- the error of the first test that fails
abbrev pub first_failing : {F : Type 0} → List (Bool × F) → Result Unit F
first_failing [] = Ok tt
first_failing (test ∷ tests) = if test.0 then first_failing tests else Err test.1
