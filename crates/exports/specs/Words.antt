-- What reading a word as a byte string answers.
use Rattle.std.specs.Prelude.{◌≡◌, List, ℕ, Option, Some, None, length, take}
use Rattle.std.specs.Counts.{IsPrefixLen}

-- The bytes of the definition's answer stand at the front, and the answer is how many they are; or there are none.
abbrev pub Decodes : Option (List ℕ) → Option ℕ → List ℕ → Type 0
Decodes d (Some n) after = (d ≡ Some (take n after)) × IsPrefixLen n after
Decodes d None after = d ≡ None

-- The same of a slice that was `old`. What is free is named in `free`: bytes past those that count, and all of them where there are none, hold anything,
-- and are as many as there were.
pub record DecodedPost (d : Option (List ℕ)) (old : List ℕ) (r : Option ℕ) (after : List ℕ) : Type 0 where
  pub answer : Decodes d r after
  pub free : length after ≡ length old
