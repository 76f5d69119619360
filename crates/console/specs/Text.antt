-- The words of a line, and what reading a number of 32 bits and a list answers.
use Rattle.std.specs.Prelude.{◌≡◌, List, [], ◌∷◌, cond, ℕ, zero, suc, ◌+◌, ◌/◌, ◌^◌, eqb, Option, Some, None, length, take, drop}
use Rattle.std.specs.Counts.{IsPrefixLen}
use Rattle.console.specs.Input.{up_to, decimal_of, below, cons_to, FrontOnly}

-- A line from the word on that has k others before it. A blank, 32, ends a word.
unfoldable pub words_from : ℕ → List ℕ → List ℕ
words_from zero l = l
words_from (suc k) l = words_from k (drop (up_to 32 l + 1) l)

abbrev pub word_of : ℕ → List ℕ → List ℕ
word_of k l = take (up_to 32 (words_from k l)) (words_from k l)

-- Of the numbers only those that 32 bits hold.
abbrev pub below32 : Option ℕ → Option ℕ
below32 = below (2 ^ 32)

-- A number in front of a list, where both are there.
abbrev pub value_then : Option ℕ → Option (List ℕ) → Option (List ℕ)
value_then None rest = None
value_then (Some v) rest = cons_to v rest

-- Decimal numbers of 32 bits, `room` at most. A comma, 44, ends a number, and behind the last one there is none, unless bytes follow.
unfoldable pub values_in : ℕ → List ℕ → Option (List ℕ)
values_in zero [] = Some []
values_in zero (b ∷ l) = None
values_in (suc room) [] = Some []
values_in (suc room) (b ∷ l) = value_then (below32 (decimal_of (take (up_to 44 (b ∷ l)) (b ∷ l)))) (values_in room (drop (up_to 44 (b ∷ l) + 1) (b ∷ l)))

-- A word as a list of at most `room` numbers. One that begins with a point, 46, is the empty list.
abbrev pub list_in : ℕ → List ℕ → Option (List ℕ)
list_in room [] = None
list_in room (b ∷ l) = cond (eqb b 46) (Some []) (values_in room (b ∷ l))

-- The values of the definition's answer stand at the front, the answer is how many they are, and the rest is as it was. Or there are none: a value that was put
-- takes two bytes of the word with its comma, so as many cells as it has pairs of bytes are free, and hold anything.
abbrev pub ListedPost : Option (List ℕ) → (word out : List ℕ) → Option ℕ → List ℕ → Type 0
ListedPost l word out (Some n) after = (l ≡ Some (take n after)) × FrontOnly n out after × IsPrefixLen n after
ListedPost l word out None after = (l ≡ None) × FrontOnly (length word / 2) out after
