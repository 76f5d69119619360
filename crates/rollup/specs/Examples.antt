-- Document 01's examples of a header rule and of writing, by wire's check, and the one list of E1 to E10.
use Rattle.std.specs.Prelude.{◌≡◌, ℕ, zero, suc, Bool, true, false, ◌&&◌, List, [], ◌∷◌, ◌++◌, replicate, ◌==◌, refl}
use Rattle.std.proofs.Math.Option.{some, none}
use Rattle.wire.specs.State.{State}
use Rattle.wire.specs.Varints.{varint_bytes}
use Rattle.wire.specs.Encoding.{pair, int32_unless, bytes_field, hll_numbers, hll_bytes, outer_numbers, encode_of, Output, encode_step}
use Rattle.wire.specs.Examples.{Example, same_bytes, all_hold, varint_examples, varint_examples_hold}
use Rattle.lists.specs.Values.{mark, marked, plain_end, valid}
use Rattle.lists.specs.Sorting.{ascends}
use Rattle.lists.specs.Lists.{all_valid, encode_from, encode_list, written_from, written}
use Rattle.lists.specs.Registers.{largest}
use Rattle.lists.specs.Examples.{list_examples, list_examples_hold}
use Rattle.rollup.specs.declared.accumulator.Accumulator.{Accumulator}
use Rattle.rollup.specs.Header.{kind_answer, structure_answer, header_answer}
use Rattle.rollup.specs.Accumulator.{Mem, mem, counts_fit, lists_fit, fits}
use Rattle.rollup.specs.Writing.{flushed, current_size, state_form, below_limit, write_outcome}
use Rattle.rollup.specs.Taking.{list_head}

-- A dense state at (10, 15) whose registers are all r.
abbrev all_at : ℕ → State
all_at r =
    record {
      aggregator_type = 112;
      num_values = 0;
      encoding_version = 2;
      value_type = 0;
      hll = record { sparse_size = 0; precision = 10; sparse_precision = 15; «data» = some (replicate 1024 r); sparse_data = none };
    }

-- E10 register 55 passes at p = 10, 56 gets 14.
abbrev pub header_examples : List Example
header_examples = record { number = 10; holds = header_answer (all_at 55) == 0 && (header_answer (all_at 56) == 14) } ∷ []

pub header_examples_hold : all_hold header_examples ≡ true
unfolding header_answer structure_answer kind_answer largest
header_examples_hold = refl

-- A list roll-up at (4, 10) that keeps n values, 1, 2, 3 and so on, each of which takes a byte, and its memory.
abbrev count_to : ℕ → ℕ → List ℕ
count_to v zero = []
count_to v (suc n) = v ∷ count_to (suc v) n

abbrev keeping : ℕ → Accumulator
keeping n = list_head 1 8 n 4 10 n n n 0

abbrev holding : ℕ → Mem
holding n = mem [] (count_to 1 n) []

-- What it is written as, into 64 bytes, with as much working memory as it asks for.
abbrev writing : ℕ → Output
writing n = write_outcome (keeping n) (holding n) n 64

-- 11 list bytes: field 6 with 11 bytes of 1, after type 112, count 11, version 2, value type 8, and 19 nested bytes: size 11, p = 4, s = 10.
abbrev eleven_bytes : List ℕ
eleven_bytes =
    0x08 ∷ 0x70 ∷ 0x10 ∷ 0x0b ∷ 0x18 ∷ 0x02 ∷ 0x20 ∷ 0x08 ∷ 0x82 ∷ 0x07 ∷ 0x13 ∷ 0x10 ∷ 0x0b ∷ 0x18 ∷ 0x04 ∷ 0x20 ∷ 0x0a ∷ 0x32 ∷ 0x0b
    ∷ 1 ∷ 1 ∷ 1 ∷ 1 ∷ 1 ∷ 1 ∷ 1 ∷ 1 ∷ 1 ∷ 1 ∷ 1 ∷ []

-- E7 for p = 4, 11 list bytes are written, 12 refused with 22.
abbrev pub write_examples : List Example
write_examples =
    record {
      number = 7;
      holds =
          ((writing 11).answer == 0)
          && same_bytes (writing 11).bytes eleven_bytes
          && ((writing 12).answer == 22 && same_bytes (writing 12).bytes []);
    }
    ∷ []

pub write_examples_hold : all_hold write_examples ≡ true
unfolding write_outcome fits counts_fit lists_fit flushed current_size state_form below_limit all_valid valid plain_end mark marked ascends written written_from encode_list encode_from encode_step encode_of outer_numbers hll_bytes hll_numbers bytes_field pair int32_unless varint_bytes
write_examples_hold = refl

-- ---- all of them

-- E1 to E10: those of `wire`, of `lists`, and these.
abbrev pub examples : List Example
examples = varint_examples ++ (list_examples ++ (write_examples ++ header_examples))

-- None is left out.
abbrev numbers : List Example → List ℕ
numbers [] = []
numbers (e ∷ es) = e.number ∷ numbers es

pub all_there : numbers examples ≡ 5 ∷ 6 ∷ 1 ∷ 2 ∷ 3 ∷ 4 ∷ 8 ∷ 9 ∷ 7 ∷ 10 ∷ []
all_there = refl

both_hold : (a b : List Example) → all_hold a ≡ true → all_hold b ≡ true → all_hold (a ++ b) ≡ true
both_hold [] b e f = f
both_hold (x ∷ a) b e f = pick x.holds (all_hold a) (all_hold (a ++ b)) e (λ (g : all_hold a ≡ true). both_hold a b g f)
  where
    pick : (h s t : Bool) → h && s ≡ true → (s ≡ true → t ≡ true) → h && t ≡ true
    pick true s t e f = f e
    pick false s t e f = e

pub examples_hold : all_hold examples ≡ true
examples_hold =
    both_hold varint_examples (list_examples ++ (write_examples ++ header_examples)) varint_examples_hold
    (both_hold list_examples (write_examples ++ header_examples) list_examples_hold
    (both_hold write_examples header_examples write_examples_hold header_examples_hold))
