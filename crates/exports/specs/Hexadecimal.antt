-- Hexadecimal in upper or lower case.
use Rattle.std.specs.Prelude.{cond, ℕ, ◌-◌, ltb, Option, Some}
use Rattle.console.specs.Input.{digit_of}

-- ASCII: A to F are 65 to 70.
unfoldable pub any_digit_of : ℕ → Option ℕ
any_digit_of b = cond (ltb b 65) (digit_of b) (cond (ltb b 71) (Some (b - 55)) (digit_of b))
