-- A number as text, with the byte behind it. `decimal` is the kit's: the digits that `{}` prints.
use Rattle.std.specs.Prelude.{List, [], ◌∷◌, ◌++◌, cond, ℕ, ◌-◌, ◌^◌, ltb, decimal}

-- The signed 64-bit number of the bits of v: from 2^63 on a minus, 45, and what is missing to 2^64.
unfoldable pub signed_text : ℕ → List ℕ
signed_text v = cond (ltb v (2 ^ 63)) (decimal v) (45 ∷ decimal (2 ^ 64 - v))

-- "Numbers are signed decimals" (docs/DECISIONS.md, "The crate `reporting`"), each with a blank or a newline behind it.
unfoldable pub number_text : ℕ → ℕ → List ℕ
number_text v end = signed_text v ++ end ∷ []
