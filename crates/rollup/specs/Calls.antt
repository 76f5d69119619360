-- Demand 3: one claim about a whole list of calls (document 01, "Lists of calls"). Steps are made of the records that the contracts of `add` and
-- `write` cite; what they come to is said of the states that were accepted alone.
use Rattle.std.specs.Prelude.{◌≡◌, ℕ, ◌-◌, ◌^◌, ◌<◌, min, true, cond, List, [], ◌∷◌, ◌++◌, map, length, take, ◌==◌, ◌≢◌, bit_and}
use mathlib.Core.List.{Memᴰ, Permᴰ}
use Rattle.wire.specs.Reading.{Read, got, refused}
use Rattle.wire.specs.State.{State, empty_state, read_state}
use Rattle.lists.specs.Registers.{registers_of, rank_at, larger, tabulate, lowered}
use Rattle.rollup.specs.declared.accumulator.Form.{Form}
use Rattle.rollup.specs.declared.accumulator.Form.TheVariants.{Unstarted, Sparse, Dense}
use Rattle.rollup.specs.declared.accumulator.Accumulator.{Accumulator}
use Rattle.rollup.specs.declared.incoming.Incoming.{Incoming}
use Rattle.rollup.specs.Accumulator.{Mem, kept_of, waiting_of, fits, fresh, HeadWidths}
use Rattle.rollup.specs.Header.{data_of, is_empty, mask_of}
use Rattle.rollup.specs.Adding.{state_numbers, listed_in, add_outcome, AddPost}
use Rattle.rollup.specs.Writing.{state_form, write_outcome, WritePost}
use Rattle.rollup.specs.Taking.{signed_min}

-- ---- lists of calls

-- "The calls are adding and writing": how many cells of `scratch` the call is lent, the state's bytes or the output as it was lent, and the answer. Besides,
-- the roll-up may be moved to other memory between two calls, as a caller does who answers a 17.
pub data Call : Type 0 where
  added : ℕ → List ℕ → ℕ → Call
  wrote : ℕ → List ℕ → ℕ → Call
  moved : Call

-- The same head with other lent memory, of any lengths, which the head fits: "kept" up to its count is as it was, "waiting" in some order and, if dense, the
-- registers. Whatever else the memory holds is its own.
pub record Moved (a : Accumulator) (m n : Mem) : Type 0 where
  pub kept : kept_of a n ≡ kept_of a m
  pub waiting : Permᴰ (waiting_of a n) (waiting_of a m)
  pub registers : a.form ≡ Dense → registers_of a.precision n.registers ≡ registers_of a.precision m.registers
  pub fit : fits a n ≡ true

-- Calls "in any number and order", from any head and memory on, "each later one" gets "both as the last left them". The latest call stands first. `AddPost` and
-- `WritePost` are what the functions promise, so whatever a call leaves free is arbitrary between the calls.
pub data Steps : Accumulator → Mem → List Call → Accumulator → Mem → Type 0 where
  begun : {a : Accumulator} {m : Mem} → Steps a m [] a m
  adding : {a₀ : Accumulator} {m₀ : Mem} {calls : List Call} {a : Accumulator} {m : Mem} (room : ℕ) (bytes : List ℕ) (answer : ℕ) (head : Accumulator) (n : Mem)
      → Steps a₀ m₀ calls a m → AddPost a m room bytes answer head n → Steps a₀ m₀ (added room bytes answer ∷ calls) head n
  writing : {a₀ : Accumulator} {m₀ : Mem} {calls : List Call} {a : Accumulator} {m : Mem} (room : ℕ) (out : List ℕ) (answer len : ℕ) (n : Mem) (after : List ℕ)
      → Steps a₀ m₀ calls a m → WritePost a m room out answer len n after → Steps a₀ m₀ (wrote room out answer ∷ calls) a n
  moving : {a₀ : Accumulator} {m₀ : Mem} {calls : List Call} {a : Accumulator} {m : Mem} (n : Mem) → Steps a₀ m₀ calls a m → Moved a m n
      → Steps a₀ m₀ (moved ∷ calls) a n

-- "The first gets a fresh head and lent memory of any lengths and contents."
abbrev pub Run : Mem → List Call → Accumulator → Mem → Type 0
Run first calls a m = Steps fresh first calls a m

-- ---- what the accepted states come to

-- "The definition is fed the added states and which of them answered 0, nothing else; those are the accepted ones."
unfoldable pub accepted : List Call → List (List ℕ)
accepted [] = []
accepted (added room bytes n ∷ calls) = cond (n == 0) (bytes ∷ accepted calls) (accepted calls)
accepted (wrote room out n ∷ calls) = accepted calls
accepted (moved ∷ calls) = accepted calls

abbrev pub value_or : {A : Type 0} → A → Read A → A
value_or x (got y rest) = y
value_or x (refused n) = x

-- The state that bytes are, and the values of its list. An accepted state is read, and so is its list.
unfoldable pub state_in : List ℕ → State
state_in bytes = value_or empty_state (read_state bytes)

unfoldable pub values_in : State → List ℕ
values_in st = value_or [] (listed_in st)

abbrev pub states : List Call → List State
states calls = map state_in (accepted calls)

-- "Per index the largest rank of its listed values, 0 where none is."
unfoldable pub list_registers : ℕ → ℕ → List ℕ → List ℕ
list_registers p s vs = tabulate (λ j. rank_at p s j vs) 0 (2 ^ p)

-- "Its registers are its data bytes if it has any, else per index the largest rank of its listed values": so of all that is taken in, with a row in the place of data.
abbrev pub taken_registers : Incoming → (row vs : List ℕ) → List ℕ
taken_registers x row vs = cond (is_empty row) (list_registers x.precision x.sparse_precision vs) row

unfoldable pub registers_in : State → List ℕ
registers_in st = taken_registers (state_numbers st (values_in st)) (data_of st) (values_in st)

-- One thing of all, as of all states: of each, two by two.
unfoldable pub over : {A B : Type 0} → A → (A → A → A) → (B → A) → List B → A
over none both of [] = none
over none both of (x ∷ []) = of x
over none both of (x ∷ y ∷ l) = both (over none both of (y ∷ l)) (of x)

-- "p and s are the smallest of the accepted states', s as a signed number; the mask is the bits common to the masks of their value types." With
-- none accepted they are the fresh head's.
abbrev pub smallest_precision : List State → ℕ
smallest_precision = over 0 min (λ st. st.hll.precision)

abbrev pub smallest_sparse_precision : List State → ℕ
smallest_sparse_precision = over 0 signed_min (λ st. st.hll.sparse_precision)

abbrev pub common_bits : List State → ℕ
common_bits = over 0 bit_and (λ st. mask_of st.value_type)

-- "Register j of a state of precision p + d lowers by d bits, as in module 3, to index j / 2^d; the largest that lands on an index is the register
-- there." "With none accepted … there are no registers."
unfoldable pub largest_registers : List State → List ℕ
largest_registers sts =
    let q = smallest_precision sts in
    over [] larger (λ st. lowered (st.hll.precision - q) q (registers_in st)) sts

-- ---- the roll-up's registers

-- "If dense, its first 2^p register bytes; if sparse, read from kept and waiting, up to their counts, as from a state's list; if unstarted, none."
unfoldable pub rollup_registers : Form → Accumulator → Mem → List ℕ
rollup_registers Unstarted a m = []
rollup_registers Sparse a m = list_registers a.precision a.sparse_precision (kept_of a m ++ waiting_of a m)
rollup_registers Dense a m = registers_of a.precision m.registers

-- ---- the claim

-- "Every call's answer, writing's too, is the one that the questions above give for the head, lent memory, state bytes and output of that call."
unfoldable pub Answered : {a₀ : Accumulator} {m₀ : Mem} {calls : List Call} {a : Accumulator} {m : Mem} → Steps a₀ m₀ calls a m → Type 0
Answered begun = Unit
Answered (adding {a = a} {m = m} room bytes answer head n steps post) = Answered steps × (answer ≡ (add_outcome a m room bytes).answer)
Answered (writing {a = a} {m = m} room out answer len n after steps post) = Answered steps × (answer ≡ (write_outcome a m room (length out)).answer)
Answered (moving n steps post) = Answered steps

pub record Agrees (first : Mem) (calls : List Call) (a : Accumulator) (m : Mem) (run : Run first calls a m) : Type 0 where
  pub answers : Answered run
  pub none : accepted calls ≡ [] → a ≡ fresh
  pub precision : a.precision ≡ smallest_precision (states calls)
  pub sparse_precision : a.sparse_precision ≡ smallest_sparse_precision (states calls)
  pub mask : a.allowed ≡ common_bits (states calls)
  pub registers : rollup_registers a.form a m ≡ largest_registers (states calls)

-- Calls that do not move the roll-up.
unfoldable pub Unmoved : List Call → Type 0
Unmoved [] = Unit
Unmoved (added room bytes n ∷ calls) = Unmoved calls
Unmoved (wrote room out n ∷ calls) = Unmoved calls
Unmoved (moved ∷ calls) = ⊥

-- Demand 3 as the demands word it is the case of `Unmoved` calls that are all lent one `scratch`: "each call is given the head and the lent memory as the last one
-- left them". Of the states nothing is asked: document 02, U3, takes away the clause that "no value listed in an accepted state has rank 0".
unfoldable pub DemandThree : Type 0
DemandThree = (first : Mem) (calls : List Call) (a : Accumulator) (m : Mem) (run : Run first calls a m) → Agrees first calls a m run

-- ---- its consequence

-- Two lists of calls that accepted the same set of states, in whatever order and however often. A state is its fields as they are read, however tags, lengths and
-- numbers are spelled; the bytes of a list count as they stand.
pub record SameStates (c d : List Call) : Type 0 where
  pub there : (st : State) → Memᴰ st (states c) → Memᴰ st (states d)
  pub back : (st : State) → Memᴰ st (states d) → Memᴰ st (states c)

-- Two roll-ups that are alike in what is compared.
pub record Alike (a : Accumulator) (m : Mem) (b : Accumulator) (n : Mem) : Type 0 where
  pub precision : a.precision ≡ b.precision
  pub sparse_precision : a.sparse_precision ≡ b.sparse_precision
  pub mask : a.allowed ≡ b.allowed
  pub registers : rollup_registers a.form a m ≡ rollup_registers b.form b n

-- Whatever the order, the repeats, the refusals, the writes and the moves between, and whatever memory was lent: "two desks agree without the clause on rank 0" (U3).
unfoldable pub OrderFree : Type 0
OrderFree =
    (first first' : Mem) (c d : List Call) (a b : Accumulator) (m n : Mem) → Run first c a m → Run first' d b n → SameStates c d → Alike a m b n

-- ---- what is written

-- Bytes that are the roll-up's state: reading them gives its numbers, and their registers are the roll-up's.
pub record WrittenIs (a : Accumulator) (m : Mem) (bytes : List ℕ) : Type 0 where
  pub read : read_state bytes ≡ got (state_form a.form a m) []
  pub precision : (state_in bytes).hll.precision ≡ a.precision
  pub sparse_precision : (state_in bytes).hll.sparse_precision ≡ a.sparse_precision
  pub registers : registers_in (state_in bytes) ≡ rollup_registers a.form a m

-- What a write that answered 0 left at the front of its output is such bytes, whatever led to the head.
unfoldable pub WrittenReads : Type 0
WrittenReads =
    (a : Accumulator) (m : Mem) (room : ℕ) (out : List ℕ) (answer len : ℕ) (n : Mem) (after : List ℕ) → HeadWidths a → WritePost a m room out answer len n after
    → answer ≡ 0 → WrittenIs a m (take len after)

-- And no proper prefix of it is accepted, by any roll-up: a state that was cut off on its way is refused, whatever head and memory it meets.
unfoldable pub NoPrefixAccepted : Type 0
NoPrefixAccepted =
    (a : Accumulator) (m : Mem) (room : ℕ) (out : List ℕ) (answer len : ℕ) (n : Mem) (after : List ℕ) → HeadWidths a → WritePost a m room out answer len n after
    → answer ≡ 0 → (k : ℕ) → k < len → (b : Accumulator) (l : Mem) (room' : ℕ) → (add_outcome b l room' (take k after)).answer ≢ 0
