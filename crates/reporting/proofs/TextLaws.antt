-- Laws of putting text into a buffer: a record's line, the lines of all records, the ending, the four numbers, the state.
use mathlib.Core.Path.{◌≡◌, refl, sym, ap, ap₂, ◌∙◌}
use mathlib.Core.List.{List, [], ◌∷◌, ◌++◌, append_assoc}
use Prim.Native.Nat.{ℕ, suc, ◌+◌, ◌*◌, ◌^◌, ◌≤◌, ◌<◌}
use native.Mathlib.Numerals.{add-one}
use native.Mathlib.Omega.{arith}
use lib.ListN.{length, take, drop, get_or, set, length-append, drop_of_length-le}
use lib.Seq.{sets, drop-cons}
use borrow.Author.Tests.{eq-eqb, ne_eqb}
use borrow.Rule.Slice.PartMut.{mid_of, put_mid}
use Rattle.wire.specs.Varints.{PutPost}
use Rattle.wire.proofs.EncodingLaws.{sets_more, Two, Four, four, two_length}
use Rattle.std.specs.Fmt.{digits}
use Rattle.wire.specs.Encoding.{sign_extended}
use Rattle.console.specs.Output.{hex_text, HexPost}
use Rattle.console.proofs.OutputLaws.{hex_length, hex_size, hex_line}
use Rattle.rollup.specs.declared.accumulator.Accumulator.{Accumulator}
use Rattle.rollup.specs.Accumulator.{fresh}
use Rattle.batch.specs.declared.records.Ending.{Ending}
use Rattle.batch.specs.declared.records.Ending.TheVariants.{Refused}
use Rattle.batch.specs.declared.chain.ChainError.TheVariants.{NoBatch}
use Rattle.std.specs.Prelude.{⊤, Option, Some, Result, Err}
use Rattle.batch.proofs.NoBatchLaws.{NoneRolled}
use Rattle.reporting.specs.Numbers.{signed_text, number_text}
use Rattle.batch.specs.declared.closing.Report.{Report}
use Rattle.reporting.specs.Text.{answer_line, answer_lines, ending_text, not_zero_of, numbers_line, numbers_text, state_text, report_text}
use Rattle.reporting.specs.Report.{too_long_message}
use Rattle.reporting.proofs.NumberLaws.{number_short}
use Rattle.rollup.specs.Refusals.{answer_of, length_of}

-- ---- a record's line

pub answer_is : (ordinal answer : ℕ) → Two (answer_line ordinal answer) (number_text ordinal 32) (number_text answer 10)
unfolding answer_line
answer_is ordinal answer = record { is = refl }

-- An ordinal of five digits and an answer of three, with the bytes behind them.
pub line_length : (ordinal answer : ℕ) → ordinal ≤ 65536 → answer < 256 → length (answer_line ordinal answer) ≤ 10
line_length ordinal answer few byte =
    let five : 10 ^ suc 4 ≡ 100000 = refl in
    let three : 10 ^ suc 2 ≡ 1000 = refl in
    omega (arith, two_length (answer_is ordinal answer), number_short ordinal 32 4 (omega arith) (omega arith), number_short answer 10 2 (omega arith) (omega arith))

-- ---- the lines of all records

-- `rest` is left to be put at `at`, and then all of `bytes` stand at the front of the buffer that was `out`.
pub record Going (out bytes now : List ℕ) (at : ℕ) (rest : List ℕ) : Type 0 where
  pub whole : sets out 0 bytes ≡ sets now at rest
  pub size : length bytes ≡ at + length rest

pub going_put : {out bytes now rest x y after : List ℕ} {at next : ℕ} → Two rest x y → PutPost now at x next after → Going out bytes now at rest
    → Going out bytes after next y
going_put {now = now} {x = x} {y = y} {at = at} t p g =
    record {
      whole = g.whole ∙ ap (sets now at) t.is ∙ sym (sets_more now at x y) ∙ ap₂ (λ (l : List ℕ) (k : ℕ). sets l k y) (sym p.output) (sym p.next);
      size = omega (arith, two_length t, p.next, g.size);
    }

pub going_end : {out bytes now rest : List ℕ} {at : ℕ} → rest ≡ [] → Going out bytes now at rest → PutPost out 0 bytes at now
going_end {now = now} {at = at} e g =
    record { next = omega (arith, g.size, ap (λ (l : List ℕ). length l) e); output = sym (g.whole ∙ ap (sets now at) e) }

module _ (answers : List ℕ) (i : ℕ) where
  pub lines_more : i < length answers → Two (answer_lines (1 + i) (drop i answers)) (answer_line (1 + i) (get_or answers i 0)) (answer_lines (1 + (i + 1)) (drop (i + 1) answers))
  unfolding answer_lines
  lines_more h =
      record {
        is =
            ap (answer_lines (1 + i)) (drop-cons answers i 0 h)
            ∙ ap₂ (λ (k j : ℕ). answer_line (1 + i) (get_or answers i 0) ++ answer_lines k (drop j answers)) (let e : 1 + i + 1 ≡ 1 + (i + 1) = omega arith in e) (sym (add-one i));
      }

  pub lines_end : length answers ≤ i → answer_lines (1 + i) (drop i answers) ≡ []
  unfolding answer_lines
  lines_end h = ap (answer_lines (1 + i)) (drop_of_length-le answers h)

-- ---- the four numbers

pub numbers_are : (a : Accumulator) (c : Option ℕ)
    → Four (numbers_text a c) (number_text a.precision 32) (number_text (sign_extended a.sparse_precision) 32) (number_text a.num_values 32) (number_text (not_zero_of c) 10)
unfolding numbers_line
numbers_are a c = four _ _ _ _ refl

-- ---- the state

pub state_refused : {answer : ℕ} (state : List ℕ) → (answer ≡ 0 → ⊥) → number_text answer 10 ≡ state_text answer state
unfolding state_text
state_refused {answer} state n = sym (rw (ne_eqb answer 0 n))

pub state_written : {answer : ℕ} (state : List ℕ) → answer ≡ 0 → hex_text state ++ 10 ∷ [] ≡ state_text answer state
unfolding state_text
state_written {answer} state e = sym (rw (eq-eqb answer 0 e))

-- The digits were put into the part of the buffer from `at` on, which has m bytes.
pub hex_put : (out y bytes : List ℕ) (at k m : ℕ) → at + m ≤ length out → 2 * length bytes ≤ m → HexPost bytes (mid_of at m out) k y
    → PutPost out at (hex_text bytes ++ 10 ∷ []) (at + k + 1) (set (put_mid at m out y) (at + k) 10)
hex_put out y bytes at k m room few p =
    record { next = omega (arith, hex_size p, hex_length bytes, length-append (hex_text bytes) (10 ∷ [])); output = hex_line out y bytes at k m room few p }

-- ---- all of it

pub report_are : (r : Report) (answers out : List ℕ)
    → Four (report_text r answers out) (answer_lines 1 (take r.rolled.records answers)) (ending_text r.rolled.ending r.rolled.records) (numbers_text r.rolled.head r.not_zero) (state_text (answer_of r.written) (take (length_of r.written) out))
unfolding report_text
report_are r answers out =
    four _ _ _ _
    (ap (λ (l : List ℕ). answer_lines 1 (take r.rolled.records answers) ++ l)
    (append_assoc (ending_text r.rolled.ending r.rolled.records) (numbers_text r.rolled.head r.not_zero) (state_text (answer_of r.written) (take (length_of r.written) out))))

-- Of bytes that are no batch: "0 24", and of a fresh head four zeros and 21.
pub text_24 : {r : Report} (answers output : List ℕ) → NoneRolled r → report_text r answers output ≡ too_long_message
unfolding digits signed_text number_text answer_line answer_lines ending_text numbers_line state_text report_text
text_24 {r} answers output h =
    ap (λ (n : ℕ). all n r.rolled.ending r.rolled.head r.not_zero (answer_of r.written)) h.records
    ∙ ap (λ (e : Result ⊤ Ending). all 0 e r.rolled.head r.not_zero (answer_of r.written)) h.ending
    ∙ ap (λ (a : Accumulator). all 0 (Err (Refused NoBatch)) a r.not_zero (answer_of r.written)) h.head
    ∙ ap (λ (c : Option ℕ). all 0 (Err (Refused NoBatch)) fresh c (answer_of r.written)) h.count
    ∙ ap (all 0 (Err (Refused NoBatch)) fresh (Some 0)) h.written
  where
    all : ℕ → Result ⊤ Ending → Accumulator → Option ℕ → ℕ → List ℕ
    all n e a c answer = answer_lines 1 (take n answers) ++ ((ending_text e n ++ numbers_text a c) ++ state_text answer (take (length_of r.written) output))
