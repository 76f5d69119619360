-- Document 01's examples of values and lists, by wire's check.
use Rattle.std.specs.Prelude.{◌≡◌, ℕ, ◌/◌, ◌^◌, Bool, true, false, ◌&&◌, List, [], ◌∷◌, ◌==◌, refl}
use Rattle.std.specs.Int.Count.{count_leading_zeros}
use Rattle.wire.specs.Reading.{Read, got, refused}
use Rattle.wire.specs.Varints.{varint_of}
use Rattle.wire.specs.Examples.{Example, all_hold}
use Rattle.lists.specs.Values.{mark, marked, plain_end, least_marked_rank, valid, register, plain_rank, rank, lowered_rank}
use Rattle.lists.specs.Lists.{step_of, gap_of, sums_of, all_valid, decode_of}

abbrev refused_with : ℕ → Read (List ℕ) → Bool
refused_with n (got vs l) = false
refused_with n (refused m) = m == n

-- E1 at (10,15), 33 is register 1, rank 5. E2 65667 is register 2, rank 8. E3 it lowers to p = 9 as register 1, rank 9; E4 to p = 8 as
-- register 0, rank 1. E8 a gap's fifth byte `0f` passes 19, and its value then gets 20; `10` is refused with 19. E9 at (10,10), plain 1
-- is a refused list (document 02, U3).
abbrev pub list_examples : List Example
list_examples =
    record { number = 1; holds = register 10 15 33 == 1 && (rank 10 15 33 == 5) }
    ∷ record { number = 2; holds = register 10 15 65667 == 2 && (rank 10 15 65667 == 8) }
    ∷ record { number = 3; holds = register 10 15 65667 / 2 ^ 1 == 1 && (lowered_rank 1 (register 10 15 65667) (rank 10 15 65667) == 9) }
    ∷ record { number = 4; holds = register 10 15 65667 / 2 ^ 2 == 0 && (lowered_rank 2 (register 10 15 65667) (rank 10 15 65667) == 1) }
    ∷ record {
      number = 8;
      holds =
          refused_with 20 (decode_of 10 15 (0x80 ∷ 0x80 ∷ 0x80 ∷ 0x80 ∷ 0x0f ∷ []))
          && refused_with 19 (decode_of 10 15 (0x80 ∷ 0x80 ∷ 0x80 ∷ 0x80 ∷ 0x10 ∷ []));
    }
    ∷ record { number = 9; holds = refused_with 20 (decode_of 10 10 (0x01 ∷ [])) }
    ∷ []

pub list_examples_hold : all_hold list_examples ≡ true
unfolding mark marked plain_end least_marked_rank valid register plain_rank rank lowered_rank count_leading_zeros varint_of gap_of step_of sums_of all_valid decode_of
list_examples_hold = refl
