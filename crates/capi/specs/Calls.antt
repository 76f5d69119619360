-- What the exported functions promise: the same as those of `rollup`, of a head that is a row of numbers. Where the row is no head the answer is 1, and
-- nothing is changed but `scratch`, which is free after every call.
use Rattle.std.specs.Prelude.{◌≡◌, List, Bool, true, false, cond, ℕ, leb, length, set}
use Rattle.rollup.specs.declared.accumulator.Accumulator.{Accumulator}
use Rattle.rollup.specs.Accumulator.{Mem, fresh}
use Rattle.rollup.specs.Adding.{AddPost}
use Rattle.rollup.specs.Writing.{WritePost}
use Rattle.capi.specs.Heads.{is_head, head_in, with_head}

-- A fresh head in a row of ten cells or more.
abbrev pub fresh_row : Bool → List ℕ → List ℕ
fresh_row true row = with_head fresh row
fresh_row false row = row

pub record FreshPost (row : List ℕ) (answer : ℕ) (after : List ℕ) : Type 0 where
  pub answer_is : answer ≡ cond (leb 10 (length row)) 0 1
  pub row_left : after ≡ fresh_row (leb 10 (length row)) row

-- The row is a head: what `add` promises of it, and the head that it answered stands in the row.
pub record AddedRow (row : List ℕ) (m : Mem) (room : ℕ) (bytes : List ℕ) (answer : ℕ) (after : List ℕ) (n : Mem) : Type 0 where
  pub head : Accumulator
  pub post : AddPost (head_in row) m room bytes answer head n
  pub row_left : after ≡ with_head head row

pub record AddRowPost (row : List ℕ) (m : Mem) (room : ℕ) (bytes : List ℕ) (answer : ℕ) (after : List ℕ) (n : Mem) : Type 0 where
  pub unknown : is_head row ≡ false → (answer ≡ 1) × (after ≡ row) × (n ≡ m)
  pub known : is_head row ≡ true → AddedRow row m room bytes answer after n

-- Writing: the number of bytes goes into the first cell of `len`, if it has one.
pub record WrittenRow (row : List ℕ) (m : Mem) (room : ℕ) (out len : List ℕ) (answer : ℕ) (n : Mem) (after len-left : List ℕ) : Type 0 where
  pub bytes : ℕ
  pub post : WritePost (head_in row) m room out answer bytes n after
  pub cell : len-left ≡ set len 0 bytes

pub record WriteRowPost (row : List ℕ) (m : Mem) (room : ℕ) (out len : List ℕ) (answer : ℕ) (n : Mem) (after len-left : List ℕ) : Type 0 where
  pub unknown : is_head row ≡ false → (answer ≡ 1) × (n ≡ m) × (after ≡ out) × (len-left ≡ set len 0 0)
  pub known : is_head row ≡ true → WrittenRow row m room out len answer n after len-left
