-- The text that is printed of a batch, from what `batch` reports of it. The quotes are of document 01, "The batch"; that each line ends in a newline, 10,
-- and that the state is lowercase hexadecimal is decided in docs/DECISIONS.md, "The crate `reporting`". 32 is a blank.
use Rattle.std.specs.Prelude.{⊤, Option, Some, None, Result, Ok, Err, List, [], ◌∷◌, ◌++◌, cond, ℕ, ◌+◌, eqb, take}
use Rattle.wire.specs.Encoding.{sign_extended}
use Rattle.console.specs.Output.{hex_text}
use Rattle.rollup.specs.declared.accumulator.Accumulator.{Accumulator}
use Rattle.batch.specs.declared.records.Ending.{Ending}
use Rattle.batch.specs.declared.records.Ending.TheVariants.{Refused, Full}
use Rattle.batch.specs.Chain.{error_number, ordinal_of}
use Rattle.batch.specs.declared.closing.Report.{Report}
use Rattle.reporting.specs.Numbers.{number_text}
use Rattle.rollup.specs.Refusals.{answer_of, length_of}

-- "Ordinal and answer", or "ordinal (0 for 24) and number".
unfoldable pub answer_line : ℕ → ℕ → List ℕ
answer_line ordinal answer = number_text ordinal 32 ++ number_text answer 10

-- "It prints per record ordinal and answer": a line for each, of which the first has the ordinal `first`.
unfoldable pub answer_lines : ℕ → List ℕ → List ℕ
answer_lines first [] = []
answer_lines first (a ∷ answers) = answer_line first a ++ answer_lines (first + 1) answers

-- "24 or 25 prints ordinal (0 for 24) and number": the ordinal is that of the record that could not be had, the one after the `records` that could.
unfoldable pub ending_text : Result ⊤ Ending → ℕ → List ℕ
ending_text (Ok x) records = []
ending_text (Err (Refused e)) records = answer_line (ordinal_of e records) (error_number e)
ending_text (Err Full) records = []

-- "Registers not zero." `None` cannot come up where the piece lent for a list's registers is as long as the registers.
abbrev pub not_zero_of : Option ℕ → ℕ
not_zero_of (Some n) = n
not_zero_of None = 0

-- "Then p, s, value count, registers not zero": s is a signed 32-bit number, the value count one of 64 bits.
unfoldable pub numbers_line : ℕ → ℕ → ℕ → ℕ → List ℕ
numbers_line p s count not_zero_count = number_text p 32 ++ (number_text (sign_extended s) 32 ++ (number_text count 32 ++ number_text not_zero_count 10))

-- The same of a head, which has the first three.
abbrev pub numbers_text : Accumulator → Option ℕ → List ℕ
numbers_text a not_zero_count = numbers_line a.precision a.sparse_precision a.num_values (not_zero_of not_zero_count)

-- "Then the written state, or the writing refusal's number." The answer 0 is no refusal.
unfoldable pub state_text : ℕ → List ℕ → List ℕ
state_text answer state = cond (eqb answer 0) (hex_text state ++ 10 ∷ []) (number_text answer 10)

-- Between the lines of the records and the state: how the chain ended, and the four numbers.
abbrev pub closing_text : Report → List ℕ
closing_text r = ending_text r.rolled.ending r.rolled.records ++ numbers_text r.rolled.head r.not_zero

-- All of it, in order. The answers are those of as many cells as there were records, the state as many bytes of the output as were written.
unfoldable pub report_text : Report → List ℕ → List ℕ → List ℕ
report_text r answers out =
    answer_lines 1 (take r.rolled.records answers) ++ (closing_text r ++ state_text (answer_of r.written) (take (length_of r.written) out))
