-- What reading at the front of a list of bytes finds.
use Rattle.std.specs.Prelude.{◌≡◌, List, ℕ, ◌+◌, ◌≤◌, length, drop, Result, Ok, Err, IfOk}
use Rattle.wire.specs.declared.read_error.ReadError.{ReadError}
use Rattle.wire.specs.declared.read_error.ReadError.TheVariants.{Truncated, VarintTooLong, InvalidTag, InvalidWireType}
use Rattle.wire.specs.declared.varint.Cursor.{Cursor}

-- A value and the bytes after it, or the number of the question of document 01 whose answer is no.
pub data Read (A : Type 0) : Type 0 where
  got : A → List ℕ → Read A
  refused : ℕ → Read A

-- Document 01, questions 3 to 6, "first in byte order": what comes later is read only where nothing before it is refused.
abbrev pub and_then : {A B : Type 0} → Read A → (A → List ℕ → Read B) → Read B
and_then (got a l) next = next a l
and_then (refused n) next = refused n

-- Document 01's number of each error of the code.
abbrev pub read_error_number : ReadError → ℕ
read_error_number Truncated = 3
read_error_number VarintTooLong = 4
read_error_number InvalidTag = 5
read_error_number InvalidWireType = 6

-- An answer of the code as a reading: what `says` makes of its value, or the number of its error.
abbrev pub answer_of : {A B : Type 0} → (A → Read B) → Result A ReadError → Read B
answer_of says (Ok a) = says a
answer_of says (Err e) = refused (read_error_number e)

-- Reading at a position of the bytes s: the value, as `says` takes it, and the bytes from the next cursor on are what `reading` finds there, and that
-- cursor is n or more bytes further on, and no further than the end.
pub record ReadPost {A B : Type 0} (says : A → B) (n : ℕ) (s : List ℕ) (at : ℕ) (reading : List ℕ → Read B) (r : Result (A × Cursor) ReadError)
    : Type 0 where
  pub answer : answer_of (λ (p : A × Cursor). got (says p.0) (drop p.1.at s)) r ≡ reading (drop at s)
  pub inside : IfOk r (λ (p : A × Cursor). (at + n ≤ p.1.at) × (p.1.at ≤ length s))
