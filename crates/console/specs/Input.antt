-- What reading a stream and its words finds.
use Rattle.std.specs.Prelude.{◌≡◌, List, [], ◌∷◌, ◌++◌, cond, ◌⊎◌, ℕ, zero, suc, ◌+◌, ◌*◌, ◌-◌, ◌/◌, ◌^◌, ◌<◌, ltb, eqb, Option, Some, None, Result, Ok, Err, length, take, drop}
use Rattle.std.specs.declared.ops.ControlFlow.{ControlFlow}
use Rattle.std.specs.declared.ops.ControlFlow.TheVariants.{Continue, Break}
use Rattle.std.specs.Char.{is_ascii_digit}
use Rattle.std.specs.Counts.{IsPrefixLen}
use Rattle.console.specs.declared.input.StreamError.{StreamError}
use Rattle.console.specs.declared.input.StreamError.TheVariants.{Failed, Full}
use Rattle.console.specs.declared.input.Arrived.{Arrived}

-- A stream that was read: how many bytes the whole of it has, or why it is not all there.
abbrev pub Stream : Type 0
Stream = Result ℕ StreamError

-- What k bytes more make of a stream of which n have come into a buffer that is not full: none is the end.
abbrev pub so_far : ℕ → ℕ → ControlFlow Stream ℕ
so_far zero n = Break (Ok n)
so_far (suc k) n = Continue (n + suc k)

-- n bytes of a buffer of `len` have come, and one more read, into the rest of it, has answered `got`: an error where it failed, else so many bytes more came. A
-- buffer without a byte to spare is full, and does not tell whether the stream has ended.
unfoldable pub reading_of : {E : Type 0} → ℕ → Result ℕ E → ℕ → ControlFlow Stream ℕ
reading_of n (Err e) len = Break (Err Failed)
reading_of n (Ok k) len = cond (ltb (n + k) len) (so_far k n) (Break (Err Full))

-- A stream that was read into this buffer is what the read that ended it makes of it.
abbrev pub ArrivedIn : List ℕ → Arrived → Type 0
ArrivedIn buf r = reading_of r.before r.got (length buf) ≡ Break r.stream

-- What `read_all` answers and leaves. What is free is named in `free`: the buffer holds anything, and as many bytes as before.
pub record ReadPost (buf : List ℕ) (r : Arrived) (after : List ℕ) : Type 0 where
  pub arrived : ArrivedIn after r
  pub free : length after ≡ length buf

-- A count of bytes at the front of the buffer, which is free as `read_all` leaves it.
abbrev pub CasesPost : List ℕ → ℕ → List ℕ → Type 0
CasesPost buf n after = IsPrefixLen n after × (length after ≡ length buf)

-- Of a whole stream, that it is shorter than the buffer: one that fills it never passes as whole. Which bytes came, and which of the three it is, nothing can say.
abbrev pub StreamPost : List ℕ → Stream → Type 0
StreamPost buf (Ok n) = (n < length buf) × IsPrefixLen n buf
StreamPost buf (Err e) = Unit

-- How many bytes stand before the first b, or before the end.
unfoldable pub up_to : ℕ → List ℕ → ℕ
up_to b [] = 0
up_to b (x ∷ l) = cond (eqb x b) 0 (1 + up_to b l)

-- The first of the pieces that b ends, and what is left behind it.
pub record PieceOf (b : ℕ) (text piece rest : List ℕ) : Type 0 where
  pub more : 0 < length text
  pub first : piece ≡ take (up_to b text) text
  pub behind : rest ≡ drop (up_to b text + 1) text

-- ASCII: 0 to 9 are 48 to 57, a to f are 97 to 102. No other byte is a digit.
unfoldable pub digit_of : ℕ → Option ℕ
digit_of b = cond (ltb b 48) None (cond (ltb b 58) (Some (b - 48)) (cond (ltb b 97) None (cond (ltb b 103) (Some (b - 87)) None)))

-- Decimal digits, from 48 to 57, behind those of the value v.
unfoldable pub decimal_from : ℕ → List ℕ → Option ℕ
decimal_from v [] = Some v
decimal_from v (b ∷ l) = cond (is_ascii_digit b) (decimal_from (v * 10 + (b - 48)) l) None

-- A word as a decimal number: at least one digit, and nothing else.
abbrev pub decimal_of : List ℕ → Option ℕ
decimal_of [] = None
decimal_of (b ∷ l) = decimal_from 0 (b ∷ l)

-- Of the numbers only those below a bound.
abbrev pub below : ℕ → Option ℕ → Option ℕ
below bound None = None
below bound (Some v) = cond (ltb v bound) (Some v) None

-- Those that 64 bits hold.
abbrev pub below64 : Option ℕ → Option ℕ
below64 = below (2 ^ 64)

-- A byte in front of a byte string.
abbrev pub cons_to : ℕ → Option (List ℕ) → Option (List ℕ)
cons_to x None = None
cons_to x (Some l) = Some (x ∷ l)

-- Bytes in front of others.
abbrev pub onto : List ℕ → Option (List ℕ) → Option (List ℕ)
onto done None = None
onto done (Some l) = Some (done ++ l)

-- A byte by the values of its two digits, in front of a byte string.
abbrev pub byte_then : Option ℕ → Option ℕ → Option (List ℕ) → Option (List ℕ)
byte_then None low rest = None
byte_then (Some high) None rest = None
byte_then (Some high) (Some low) rest = cons_to (high * 16 + low) rest

-- A word as a byte string: two digits to a byte, the higher first. A digit has this value.
unfoldable pub pairs_of : (ℕ → Option ℕ) → List ℕ → Option (List ℕ)
pairs_of value [] = Some []
pairs_of value (a ∷ []) = None
pairs_of value (a ∷ b ∷ l) = byte_then (value a) (value b) (pairs_of value l)

-- In hexadecimal, in lower case.
abbrev pub hex_of : List ℕ → Option (List ℕ)
hex_of = pairs_of digit_of

-- At most the first n cells have changed: those past them are as they were, and there are as many as before.
abbrev pub FrontOnly : ℕ → List ℕ → List ℕ → Type 0
FrontOnly n before after = (drop n after ≡ drop n before) × (length after ≡ length before)

-- The bytes stand at the front, and the rest is as it was. Or the word is no byte string: as many cells as it has pairs of bytes are free, and hold anything.
-- Or it is one too long for the buffer, which is as it was.
abbrev pub PairsPost : (ℕ → Option ℕ) → List ℕ → List ℕ → Option ℕ → List ℕ → Type 0
PairsPost value word out (Some n) after = (pairs_of value word ≡ Some (take n after)) × FrontOnly n out after × IsPrefixLen n after
PairsPost value word out None after = ((pairs_of value word ≡ None) × FrontOnly (length word / 2) out after) ⊎ ((length out < length word / 2) × (after ≡ out))

-- Of a function of a byte, by what it may answer: a digit's value is below 16.
abbrev pub Digits : (ℕ → Option ℕ → Type 0) → Type 0
Digits answers = (b d : ℕ) → answers b (Some d) → d < 16

-- What it answers of a byte is this value.
abbrev pub Gives : (ℕ → Option ℕ → Type 0) → (ℕ → Option ℕ) → Type 0
Gives answers value = (b : ℕ) (r : Option ℕ) → b < 256 → answers b r → r ≡ value b
