-- The head of a roll-up as ten numbers in a row, for callers in other languages.
use Rattle.std.specs.Prelude.{Option, Some, None, List, [], ◌∷◌, ◌++◌, Bool, cond, ◌&&◌, ℕ, ◌^◌, ltb, leb, length, get_or, drop}
use Rattle.rollup.specs.Accumulator.{form_number, form_of}
use Rattle.rollup.specs.declared.accumulator.Accumulator.{Accumulator}

-- Document 01's head in its order: form, type mask, value type, value count, p, s, sparse size, kept count, kept bytes, waiting count.
abbrev pub row_of : Accumulator → List ℕ
row_of a =
    form_number a.form
    ∷ a.allowed
    ∷ a.value_type
    ∷ a.num_values
    ∷ a.precision
    ∷ a.sparse_precision
    ∷ a.sparse_size
    ∷ a.sparse_len
    ∷ a.sparse_bytes
    ∷ a.pending_len
    ∷ []

-- Whether a row of numbers is a head: ten at least, a form that is known, and each number in its field's range.
unfoldable pub is_head : List ℕ → Bool
is_head l =
    leb 10 (length l)
    && leb (get_or l 0 0) 2
    && ltb (get_or l 1 0) 256
    && ltb (get_or l 2 0) (2 ^ 32)
    && ltb (get_or l 4 0) (2 ^ 32)
    && ltb (get_or l 5 0) (2 ^ 32)
    && ltb (get_or l 6 0) (2 ^ 32)

-- The head that such a row is.
unfoldable pub head_in : List ℕ → Accumulator
head_in l =
    record {
      form = form_of (get_or l 0 0);
      allowed = get_or l 1 0;
      value_type = get_or l 2 0;
      num_values = get_or l 3 0;
      precision = get_or l 4 0;
      sparse_precision = get_or l 5 0;
      sparse_size = get_or l 6 0;
      sparse_len = get_or l 7 0;
      sparse_bytes = get_or l 8 0;
      pending_len = get_or l 9 0;
    }

-- The row with another head in front; numbers behind it stay.
unfoldable pub with_head : Accumulator → List ℕ → List ℕ
with_head a l = row_of a ++ drop 10 l

-- What reading a head answers.
abbrev pub read_head : List ℕ → Option Accumulator
read_head l = cond (is_head l) (Some (head_in l)) None
