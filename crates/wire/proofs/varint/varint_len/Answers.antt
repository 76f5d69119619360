-- From one power of 128 to the next all numbers take the same count of bytes, and a u32 takes five at the most.
use mathlib.Core.Path.{sym}
use native.Mathlib.Omega.{arith}
use Rattle.wire.proofs.VarintLaws.{len_one, len_two, len_three, len_four, len_five}
use Rattle.wire.proofs.varint.varint_len.Goals as goal

pub returns-then-v-lt128 : goal.returns-then-v-lt128
returns-then-v-lt128 c = sym (len_one 4 _ (omega arith))

pub returns-then-v-lt16384 : goal.returns-then-v-lt16384
returns-then-v-lt16384 c = sym (len_two 3 _ (omega arith) (omega arith))

pub returns-then-v-lt2097152 : goal.returns-then-v-lt2097152
returns-then-v-lt2097152 c = sym (len_three 2 _ (omega arith) (omega arith))

pub returns-then-v-lt268435456 : goal.returns-then-v-lt268435456
returns-then-v-lt268435456 c = sym (len_four 1 _ (omega arith) (omega arith))

pub returns-else-v-lt268435456 : goal.returns-else-v-lt268435456
returns-else-v-lt268435456 c = sym (len_five 0 _ (omega arith) (omega arith))
