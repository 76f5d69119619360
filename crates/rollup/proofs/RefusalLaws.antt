-- A refusal has a number above 0, so that an answer of 0 is one that was accepted.
use Rattle.std.proofs.Common.{◌≡◌, ◌<◌, arith}
use Rattle.wire.specs.Reading.{read_error_number}
use Rattle.lists.specs.Lists.{decode_refusal}
use Rattle.wire.specs.declared.read_error.ReadError.{ReadError}
use Rattle.wire.specs.declared.read_error.ReadError.TheVariants.{Truncated, VarintTooLong, InvalidTag, InvalidWireType}
use Rattle.lists.specs.declared.decoding.DecodeError.{DecodeError}
use Rattle.lists.specs.declared.decoding.DecodeError.TheVariants.{TruncatedGap, GapTooLong, InvalidValue}
use Rattle.rollup.specs.declared.refusal.Refusal.{Refusal}
use Rattle.rollup.specs.declared.refusal.Refusal.TheVariants.{Misfit, TooLong, Unread, WrongType, WrongVersion, UnknownValueType, NoSparsePrecision, BadPrecision, BadDataLength, BadSparsePrecision, BadRegister, NoCommonType, NotCarried, NoRoom, BadList, NotStarted, ListTooLong, OutputTooShort}
use Rattle.rollup.specs.Refusals.{number}

read_above : (e : ReadError) → 0 < read_error_number e
read_above Truncated = omega arith
read_above VarintTooLong = omega arith
read_above InvalidTag = omega arith
read_above InvalidWireType = omega arith

decode_above : (e : DecodeError) → 0 < decode_refusal e
decode_above TruncatedGap = omega arith
decode_above GapTooLong = omega arith
decode_above InvalidValue = omega arith

pub number_above : (e : Refusal) → 0 < number e
number_above Misfit = omega arith
number_above TooLong = omega arith
number_above (Unread e) = read_above e
number_above WrongType = omega arith
number_above WrongVersion = omega arith
number_above UnknownValueType = omega arith
number_above NoSparsePrecision = omega arith
number_above BadPrecision = omega arith
number_above BadDataLength = omega arith
number_above BadSparsePrecision = omega arith
number_above BadRegister = omega arith
number_above NoCommonType = omega arith
number_above NotCarried = omega arith
number_above NoRoom = omega arith
number_above (BadList e) = decode_above e
number_above NotStarted = omega arith
number_above ListTooLong = omega arith
number_above OutputTooShort = omega arith

pub number_some : (e : Refusal) → number e ≡ 0 → ⊥
number_some e z = let h = number_above e in omega arith
