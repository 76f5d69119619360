-- Document 01's numbers of the refusals, and of an answer.
use Rattle.std.specs.Prelude.{ℕ, Result, Ok, Err}
use Rattle.wire.specs.Reading.{read_error_number}
use Rattle.lists.specs.Lists.{decode_refusal}
use Rattle.rollup.specs.declared.refusal.Refusal.{Refusal}
use Rattle.rollup.specs.declared.refusal.Refusal.TheVariants.{Misfit, TooLong, Unread, WrongType, WrongVersion, UnknownValueType, NoSparsePrecision, BadPrecision, BadDataLength, BadSparsePrecision, BadRegister, NoCommonType, NotCarried, NoRoom, BadList, NotStarted, ListTooLong, OutputTooShort}

abbrev pub number : Refusal → ℕ
number Misfit = 1
number TooLong = 2
number (Unread e) = read_error_number e
number WrongType = 7
number WrongVersion = 8
number UnknownValueType = 9
number NoSparsePrecision = 10
number BadPrecision = 11
number BadDataLength = 12
number BadSparsePrecision = 13
number BadRegister = 14
number NoCommonType = 15
number NotCarried = 16
number NoRoom = 17
number (BadList e) = decode_refusal e
number NotStarted = 21
number ListTooLong = 22
number OutputTooShort = 23

-- An answer's number: 0 for accepted, or written.
abbrev pub answer_of : {A : Type 0} → Result A Refusal → ℕ
answer_of (Ok x) = 0
answer_of (Err e) = number e

-- How many bytes were written; after a refusal none.
abbrev pub length_of : Result ℕ Refusal → ℕ
length_of (Ok n) = n
length_of (Err e) = 0
