-- A state that was cut off on its way, whoever wrote it: what is promised, and an input that shows where the promise ends.
use Rattle.std.specs.Prelude.{◌≡◌, ℕ, ◌<◌, true, false, List, [], ◌∷◌, length, take, replicate, ◌≢◌, refl}
use Rattle.wire.specs.Varints.{varint_of, varint64}
use Rattle.wire.specs.Fields.{tag_of, bytes_of, delimited_of, skip_of, fields_of, message_of}
use Rattle.wire.specs.State.{hll_field, read_hll, outer_field, read_state}
use Rattle.wire.specs.Layout.{past_field, nested_last_in, nested_last}
use Rattle.lists.specs.Values.{mark, marked, plain_end, least_marked_rank, valid}
use Rattle.lists.specs.Lists.{gap_of, step_of, sums_of, all_valid, decode_of}
use Rattle.lists.specs.Registers.{register_bytes, largest}
use Rattle.rollup.specs.declared.accumulator.Accumulator.{Accumulator}
use Rattle.rollup.specs.Accumulator.{Mem, mem, fresh, fits}
use Rattle.rollup.specs.Header.{kind_answer, structure_answer, header_answer, read_header}
use Rattle.rollup.specs.Adding.{Outcome, match_answer, judge, has_room, add_outcome}
use Rattle.rollup.specs.Taking.{start_after}

-- Of bytes whose nested message stands last (`nested_last`, in wire's specs/Layout) no proper prefix is accepted, whatever head and memory it meets.
unfoldable pub NoCutAccepted : Type 0
NoCutAccepted =
    (bytes : List ℕ) → nested_last bytes ≡ true → (k : ℕ) → k < length bytes → (a : Accumulator) (m : Mem) (room : ℕ)
    → (add_outcome a m room (take k bytes)).answer ≢ 0

-- ---- a state that is covered, and one that is not

-- What a fresh head answers with memory for these states, and the value count that it is left with.
abbrev outcome : List ℕ → Outcome
outcome bytes = add_outcome fresh (mem (replicate 1024 0) (replicate 4 0) (replicate 4 0)) 4 bytes

abbrev count_after : List ℕ → ℕ
count_after bytes = (outcome bytes).after.head.num_values

-- The state of document 01's case B1: type, count, version and value type, and last the nested message.
abbrev pub nested_at_end : List ℕ
nested_at_end =
    0x08 ∷ 0x70 ∷ 0x10 ∷ 0x02 ∷ 0x18 ∷ 0x02 ∷ 0x20 ∷ 0x08
    ∷ 0x82 ∷ 0x07 ∷ 0x0c ∷ 0x10 ∷ 0x02 ∷ 0x18 ∷ 0x0a ∷ 0x20 ∷ 0x0f ∷ 0x32 ∷ 0x04 ∷ 0x21 ∷ 0xe2 ∷ 0x80 ∷ 0x04 ∷ []

pub covered : (nested_last nested_at_end ≡ true) × ((outcome nested_at_end).answer ≡ 0)
unfolding nested_last nested_last_in past_field tag_of skip_of delimited_of bytes_of varint64 varint_of add_outcome fits judge read_header header_answer structure_answer kind_answer match_answer has_room read_state read_hll message_of fields_of outer_field hll_field largest register_bytes gap_of step_of sums_of decode_of all_valid valid plain_end least_marked_rank mark marked
covered = (refl, refl)

-- The same fields with value type and count behind the nested message. Without its last two bytes it is accepted too, and the count is lost.
abbrev pub count_behind : List ℕ
count_behind =
    0x08 ∷ 0x70 ∷ 0x18 ∷ 0x02
    ∷ 0x82 ∷ 0x07 ∷ 0x0c ∷ 0x10 ∷ 0x02 ∷ 0x18 ∷ 0x0a ∷ 0x20 ∷ 0x0f ∷ 0x32 ∷ 0x04 ∷ 0x21 ∷ 0xe2 ∷ 0x80 ∷ 0x04
    ∷ 0x20 ∷ 0x08 ∷ 0x10 ∷ 0x02 ∷ []

pub not_covered :
    (nested_last count_behind ≡ false)
    × ((outcome count_behind).answer ≡ 0) × (count_after count_behind ≡ 2)
    × ((outcome (take 21 count_behind)).answer ≡ 0) × (count_after (take 21 count_behind) ≡ 0)
unfolding nested_last nested_last_in past_field tag_of skip_of delimited_of bytes_of varint64 varint_of add_outcome fits judge read_header header_answer structure_answer kind_answer match_answer has_room read_state read_hll message_of fields_of outer_field hll_field largest register_bytes gap_of step_of sums_of decode_of all_valid valid plain_end least_marked_rank mark marked start_after
not_covered = (refl, refl, refl, refl, refl)
