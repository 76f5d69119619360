-- Adding a state: the questions in order, and then it is taken in (document 01, module 6 and "The questions").
use Rattle.std.specs.Prelude.{◌≡◌, ℕ, ◌+◌, ◌*◌, Bool, true, false, cond, not, ◌&&◌, ◌||◌, List, length, ◌==◌, nat_le}
use Rattle.std.proofs.Math.Option.{Option, none, some}
use Rattle.wire.specs.Reading.{Read, got, refused, and_then}
use Rattle.wire.specs.State.{State}
use Rattle.lists.specs.Lists.{decode_of}
use Rattle.lists.specs.Registers.{register_bytes}
use Rattle.rollup.specs.declared.accumulator.Form.{Form}
use Rattle.rollup.specs.declared.accumulator.Form.TheVariants.{Unstarted, Sparse, Dense}
use Rattle.rollup.specs.declared.accumulator.Accumulator.{Accumulator}
use Rattle.rollup.specs.declared.incoming.Incoming.{Incoming}
use Rattle.rollup.specs.Accumulator.{Mem, max_pending, is_started, fits}
use Rattle.rollup.specs.Header.{ask, first_no, data_of, list_of, is_empty, mask_of, header_answer, passing, read_header}
use Rattle.rollup.specs.Taking.{After, unchanged, Shows, Free, common_mask, taken_after}

-- The answer, 0 for accepted, and what is left.
pub record Outcome : Type 0 where
  pub answer : ℕ
  pub after : After

-- "A refusal returns its number and the head unchanged; kept, registers and output too."
abbrev pub refuse : ℕ → Accumulator → Mem → Outcome
refuse n a m = record { answer = n; after = unchanged a m }

abbrev pub accept : After → Outcome
accept x = record { answer = 0; after = x }

-- ---- a state is taken in

-- The numbers of a state with so many list bytes and so many values. Each value counts at five bytes in the waiting test.
abbrev pub numbers_of : State → (bytes k : ℕ) → Incoming
numbers_of st bytes k =
    record {
      mask = mask_of st.value_type;
      value_type = st.value_type;
      num_values = st.num_values;
      precision = st.hll.precision;
      sparse_precision = st.hll.sparse_precision;
      sparse_size = st.hll.sparse_size;
      list_bytes = bytes;
      growth = 5 * k;
      most = max_pending;
    }

abbrev pub state_numbers : State → List ℕ → Incoming
state_numbers st vs = numbers_of st (length (list_of st)) (length vs)

-- What an accepted state leaves, of the roll-up's form: its data are the row, and vs the values of its list.
abbrev pub accepted_after : Form → Accumulator → Mem → State → List ℕ → After
accepted_after f a m st vs = taken_after f a m (state_numbers st vs) (data_of st) vs

-- ---- the questions

-- "15: Started: do the masks meet?"
abbrev pub masks_meet : Accumulator → State → Bool
masks_meet a st = not (is_started a.form) || not (common_mask a (mask_of st.value_type) == 0)

abbrev pub has_field : {A : Type 0} → Option A → Bool
has_field none = false
has_field (some x) = true

abbrev pub same_pair : Form → Accumulator → State → Bool
same_pair Unstarted a st = true
same_pair Sparse a st = a.precision == st.hll.precision && a.sparse_precision == st.hll.sparse_precision
same_pair Dense a st = true

abbrev pub has_both : State → Bool
has_both st = not (is_empty (data_of st)) && has_field st.hll.sparse_data

-- "16: Is it carried: s not 0, no data bytes beside a sparse field (even empty), and, at a sparse roll-up, p and s equal?"
abbrev pub carried : Accumulator → State → Bool
carried a st = not (st.hll.sparse_precision == 0) && not (has_both st) && same_pair a.form a st

-- Questions 15 and 16, of a state that passed those before: whether it matches the roll-up. 0 where both are yes.
unfoldable pub match_answer : Accumulator → State → ℕ
match_answer a st = ask (masks_meet a st) 15 (ask (carried a st) 16 0)

-- Questions 2 to 16.
unfoldable pub judge : Accumulator → List ℕ → Read State
judge a bytes = and_then (read_header bytes) (λ st nothing. passing (match_answer a st) st)

-- Questions 7 to 16, of a state that was read.
abbrev pub judge_answer : Accumulator → State → ℕ
judge_answer a st = first_no (header_answer st) (match_answer a st)

-- "17: Has register memory 2^p bytes (the roll-up's p, the state's if unstarted), and, where the sparse field is not empty, each u32 list kept +
-- waiting + that field's byte length?"
-- For what has precision p.
abbrev pub wanted_precision : Form → Accumulator → ℕ → ℕ
wanted_precision Unstarted a p = p
wanted_precision Sparse a p = a.precision
wanted_precision Dense a p = a.precision

abbrev pub wanted_registers : Accumulator → ℕ → ℕ
wanted_registers a p = register_bytes (wanted_precision a.form a p)

-- For a sparse field of n bytes.
abbrev pub wanted_cells : Accumulator → ℕ → ℕ
wanted_cells a n = cond (n == 0) 0 (a.sparse_len + a.pending_len + n)

unfoldable pub has_room : Accumulator → Mem → ℕ → State → Bool
has_room a m room st =
    let cells = wanted_cells a (length (list_of st)) in
    nat_le (wanted_registers a st.hll.precision) (length m.registers)
    && nat_le cells (length m.sparse)
    && nat_le cells (length m.pending)
    && nat_le cells room

-- 18 to 20: the list of a state.
abbrev pub listed_in : State → Read (List ℕ)
listed_in st = decode_of st.hll.precision st.hll.sparse_precision (list_of st)

-- A question, and what follows where the answer is yes; an answer with a value, opened.
abbrev pub question : Bool → ℕ → Accumulator → Mem → Outcome → Outcome
question true n a m next = next
question false n a m next = refuse n a m

abbrev pub opened : {A : Type 0} → Read A → Accumulator → Mem → (A → Outcome) → Outcome
opened (got x l) a m next = next x
opened (refused n) a m next = refuse n a m

-- Adding: question 1; 2 to 16; 17; 18 to 20; and then the path. `room` is the length of `scratch`.
unfoldable pub add_outcome : Accumulator → Mem → ℕ → List ℕ → Outcome
add_outcome a m room bytes =
    question (fits a m) 1 a m
    (opened (judge a bytes) a m
    (λ st. question (has_room a m room st) 17 a m (opened (listed_in st) a m (λ vs. accept (accepted_after a.form a m st vs)))))

-- ---- the contract

pub record AddPost (a : Accumulator) (m : Mem) (room : ℕ) (bytes : List ℕ) (answer : ℕ) (head : Accumulator) (n : Mem) : Type 0 where
  pub answered : answer ≡ (add_outcome a m room bytes).answer
  pub after : Shows (add_outcome a m room bytes).after head n
  pub free : Free m n
