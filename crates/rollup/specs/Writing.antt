-- Writing a roll-up: the state that it is written as, and the questions in order (document 01, module 6 and "The questions").
use Rattle.std.specs.Prelude.{◌≡◌, ℕ, ◌+◌, Bool, true, false, cond, List, [], ◌++◌, length, drop, ◌==◌, nat_le, nat_lt}
use Rattle.std.proofs.Math.Option.{Option, none, some}
use Rattle.wire.specs.State.{State}
use Rattle.wire.specs.Encoding.{Output, encode_step}
use Rattle.lists.specs.Lists.{merged, written, encode_list, distinct_indices}
use Rattle.lists.specs.Registers.{registers_of}
use Rattle.rollup.specs.declared.accumulator.Form.{Form}
use Rattle.rollup.specs.declared.accumulator.Form.TheVariants.{Unstarted, Sparse, Dense}
use Rattle.rollup.specs.declared.accumulator.Accumulator.{Accumulator}
use Rattle.rollup.specs.Accumulator.{Mem, kept_of, waiting_of, limit, fits, is_started}
use Rattle.rollup.specs.Header.{state_type, state_version}
use Rattle.rollup.specs.Taking.{unchanged, Shows, Free}

-- ---- what is written

-- "Writing flushes": the values kept and those waiting, as one list. With nothing waiting, kept as it is.
unfoldable pub flushed : Accumulator → Mem → List ℕ
flushed a m = cond (a.pending_len == 0) (kept_of a m) (merged a.precision a.sparse_precision (kept_of a m) (waiting_of a m))

-- "With values waiting, sparse size is what `distinct_indices` gives."
unfoldable pub current_size : Accumulator → Mem → ℕ
current_size a m =
    cond (a.pending_len == 0) a.sparse_size (distinct_indices a.precision a.sparse_precision (kept_of a m ++ waiting_of a m))

-- A state of the head's numbers, with the type and the version that questions 7 and 8 ask for.
abbrev pub state_with : Accumulator → ℕ → (dense sparse : Option (List ℕ)) → State
state_with a size dense sparse =
    record {
      aggregator_type = state_type;
      num_values = a.num_values;
      encoding_version = state_version;
      value_type = a.value_type;
      hll =
          record {
            sparse_size = size;
            precision = a.precision;
            sparse_precision = a.sparse_precision;
            «data» = dense;
            sparse_data = sparse;
          };
    }

-- "A list roll-up has field 6 even when empty"; a dense one has field 5. An unstarted one is not written (21).
unfoldable pub state_form : Form → Accumulator → Mem → State
state_form Unstarted a m = state_with a 0 none none
state_form Sparse a m = state_with a (current_size a m) none (some (encode_list (flushed a m)))
state_form Dense a m = state_with a a.sparse_size (some (registers_of a.precision m.registers)) none

-- ---- the questions

-- "22: is a list's written length below L?"
unfoldable pub below_limit : Form → Accumulator → Mem → Bool
below_limit Unstarted a m = true
below_limit Sparse a m = nat_lt (written (flushed a m)) (limit a.precision)
below_limit Dense a m = true

-- A question, and what follows where the answer is yes. A refusal writes nothing.
abbrev pub unless : Bool → ℕ → Output → Output
unless true n next = next
unless false n next = record { answer = n; bytes = [] }

-- "Writing: 1; 21: started? 17: does working take kept + waiting? 22: is a list's written length below L? 23: does the output fit?" `room` is the
-- length of `scratch`, `space` that of the output; 23 is asked by wire's `encode_step`.
unfoldable pub write_outcome : Accumulator → Mem → ℕ → ℕ → Output
write_outcome a m room space =
    unless (fits a m) 1
    (unless (is_started a.form) 21
    (unless (nat_le (a.sparse_len + a.pending_len) room) 17
    (unless (below_limit a.form a m) 22 (encode_step (state_form a.form a m) space))))

-- ---- the contract

-- The answer, how many bytes were written, and the output: those bytes in front of what was there. `unchanged`: register bytes and kept are as they
-- were, waiting has its values in some order. That order, `scratch`, and cells past the counts are free.
pub record WritePost (a : Accumulator) (m : Mem) (room : ℕ) (out : List ℕ) (answer len : ℕ) (n : Mem) (after : List ℕ) : Type 0 where
  pub answered : answer ≡ (write_outcome a m room (length out)).answer
  pub counted : len ≡ length (write_outcome a m room (length out)).bytes
  pub output : after ≡ (write_outcome a m room (length out)).bytes ++ drop (length (write_outcome a m room (length out)).bytes) out
  pub same : Shows (unchanged a m) a n
  pub free : Free m n
