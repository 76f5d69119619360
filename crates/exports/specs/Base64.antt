-- Base64, as RFC 4648 has it in section 4.
use Rattle.std.specs.Prelude.{List, [], ◌∷◌, cond, ℕ, ◌+◌, ◌*◌, ◌/◌, ◌%◌, ◌≤◌, ◌<◌, ltb, eqb, Option, Some, None, take}
use Rattle.console.specs.Input.{up_to, onto}

-- "Table 1: The Base 64 Alphabet", in the order of the values: A to Z, a to z, 0 to 9, + and /.
unfoldable pub alphabet : List ℕ
alphabet =
    65 ∷ 66 ∷ 67 ∷ 68 ∷ 69 ∷ 70 ∷ 71 ∷ 72 ∷ 73 ∷ 74 ∷ 75 ∷ 76 ∷ 77 ∷ 78 ∷ 79 ∷ 80 ∷ 81 ∷ 82 ∷ 83 ∷ 84 ∷ 85 ∷ 86 ∷ 87 ∷ 88 ∷ 89 ∷ 90
    ∷ 97 ∷ 98 ∷ 99 ∷ 100 ∷ 101 ∷ 102 ∷ 103 ∷ 104 ∷ 105 ∷ 106 ∷ 107 ∷ 108 ∷ 109 ∷ 110 ∷ 111 ∷ 112 ∷ 113 ∷ 114 ∷ 115 ∷ 116 ∷ 117 ∷ 118 ∷ 119 ∷ 120 ∷ 121 ∷ 122
    ∷ 48 ∷ 49 ∷ 50 ∷ 51 ∷ 52 ∷ 53 ∷ 54 ∷ 55 ∷ 56 ∷ 57
    ∷ 43 ∷ 47
    ∷ []

-- The value of a character: its place in the table. Any other byte has none.
unfoldable pub sextet_of : ℕ → Option ℕ
sextet_of b = cond (ltb (up_to b alphabet) 64) (Some (up_to b alphabet)) None

-- "These 24 bits are then treated as 4 concatenated 6-bit groups." One of the four may have no value.
abbrev pub bits_of : Option ℕ → Option ℕ → Option ℕ → Option ℕ → Option ℕ
bits_of None b c d = None
bits_of (Some a) None c d = None
bits_of (Some a) (Some b) None d = None
bits_of (Some a) (Some b) (Some c) None = None
bits_of (Some a) (Some b) (Some c) (Some d) = Some (a * 262144 + b * 4096 + c * 64 + d)

-- "A 24-bit input group is formed by concatenating 3 8-bit input groups."
abbrev pub three_of : ℕ → List ℕ
three_of v = v / 65536 ∷ v / 256 % 256 ∷ v % 256 ∷ []

abbrev pub group_then : Option ℕ → Option (List ℕ) → Option (List ℕ)
group_then None rest = None
group_then (Some v) rest = onto (three_of v) rest

-- The last group has k bytes: "bits with value zero are added (on the right)", so that of the 24 bits those below `unit` are 0.
abbrev pub end_of : ℕ → ℕ → Option ℕ → Option (List ℕ)
end_of k unit None = None
end_of k unit (Some v) = cond (eqb (v % unit) 0) (Some (take k (three_of v))) None

-- The last group may be padded: "two characters followed by two "=" padding characters" are 8 bits, "three characters followed by one "=" padding
-- character" are 16. "=" is 61.
unfoldable pub last_group : ℕ → ℕ → ℕ → ℕ → Option (List ℕ)
last_group a b c d =
    cond (eqb d 61)
    (cond (eqb c 61) (end_of 1 65536 (bits_of (sextet_of a) (sextet_of b) (Some 0) (Some 0))) (end_of 2 256 (bits_of (sextet_of a) (sextet_of b) (sextet_of c) (Some 0))))
    (end_of 3 1 (bits_of (sextet_of a) (sextet_of b) (sextet_of c) (sextet_of d)))

-- A word as a byte string: groups of four characters.
unfoldable pub base64_of : List ℕ → Option (List ℕ)
base64_of [] = Some []
base64_of (a ∷ []) = None
base64_of (a ∷ b ∷ []) = None
base64_of (a ∷ b ∷ c ∷ []) = None
base64_of (a ∷ b ∷ c ∷ d ∷ []) = last_group a b c d
base64_of (a ∷ b ∷ c ∷ d ∷ e ∷ l) = group_then (bits_of (sextet_of a) (sextet_of b) (sextet_of c) (sextet_of d)) (base64_of (e ∷ l))

-- What the end of a group takes: its bits, how many of its three bytes count, and what divides the bits.
pub record EndPre (v k unit n room : ℕ) : Type 0 where
  pub bits : v < 16777216
  pub few : k ≤ 3
  pub some_unit : 0 < unit
  pub room_for : n + 3 ≤ room
