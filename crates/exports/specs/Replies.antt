-- What the programs `pack` and `unpack` say, by what came in: a text for standard output, or a message for standard error.
use Rattle.std.specs.Prelude.{◌≡◌, List, [], ◌∷◌, ◌++◌, ℕ, ◌+◌, ◌-◌, ◌/◌, ◌%◌, ◌≤◌, Result, Ok, Err, decimal, length, take}
use Rattle.std.specs.Counts.{IsPrefixLen}
use Rattle.console.specs.declared.input.Arrived.{Arrived}
use Rattle.console.specs.declared.input.StreamError.TheVariants.{Failed, Full}
use Rattle.console.specs.declared.output.Said.{Said}
use Rattle.console.specs.Input.{Stream, ArrivedIn}
use Rattle.console.specs.Output.{ascii, Saying, out, err, size_of, saying_of}
use Rattle.batch.specs.declared.chain.ChainError.{ChainError}
use Rattle.batch.specs.declared.chain.ChainError.TheVariants.{NoBatch}
use Rattle.batch.specs.Chain.{error_number, ordinal_of}
use Rattle.batch.specs.Packing.{packed}
use Rattle.exports.specs.declared.packing.PackError.{PackError}
use Rattle.exports.specs.declared.packing.PackError.TheVariants.{BadLine, TooLong as BatchTooLong}
use Rattle.exports.specs.declared.unpacking.UnpackError.{UnpackError}
use Rattle.exports.specs.declared.unpacking.UnpackError.TheVariants.{Broken, TooLong as TextTooLong}
use Rattle.exports.specs.Packing.{packing_of, packed_of}
use Rattle.exports.specs.Unpacking.{batch_text, unpacked_of}

-- This is said at the front of the slice that is lent with it.
abbrev pub Says : Saying → Said → List ℕ → Type 0
Says w r text = (saying_of r text ≡ w) × IsPrefixLen (size_of r) text

-- ---- pack

-- What is wrong with a line, by its number.
abbrev pub line_message : ℕ → List ℕ → List ℕ
line_message line what = (ascii "pack: line " ++ decimal line) ++ what

-- The batch; or nothing but a message, where a line is refused.
abbrev pub packed_says : Result ℕ PackError → List ℕ → Saying
packed_says (Ok n) batch = out batch
packed_says (Err (BadLine line)) batch = err (line_message line (ascii " is neither hexadecimal nor base64\n"))
packed_says (Err (BatchTooLong line)) batch = err (line_message line (ascii " makes the batch longer than 65,536 bytes\n"))

-- The lines of a text, packed into 65,536 bytes.
unfoldable pub lines_say : List ℕ → Saying
lines_say text = packed_says (packed_of (packing_of 65536 text)) (packed (packing_of 65536 text).states)

-- A number from 1,000 to 999,999, with a comma, 44, before its last three digits.
abbrev pub thousands : ℕ → List ℕ
thousands n = decimal (n / 1000) ++ (44 ∷ (48 + n / 100 % 10) ∷ (48 + n / 10 % 10) ∷ (48 + n % 10) ∷ [])

-- By the stream that was read into `buf`. One that fills the buffer is longer than any that does not, and so than all of its bytes but one.
abbrev pub pack_says : Stream → List ℕ → Saying
pack_says (Ok n) buf = lines_say (take n buf)
pack_says (Err Failed) buf = err (ascii "pack: standard input cannot be read\n")
pack_says (Err Full) buf = err (ascii "pack: standard input is longer than " ++ (thousands (length buf - 1) ++ ascii " bytes\n"))

-- The memory that `pack` lends: so that a stream that fills `lines` is longer than 262,144 bytes, and a batch that does not fit is longer than 65,536.
pub record PackMemory (arrived : Arrived) (lines spare batch : List ℕ) : Type 0 where
  pub read_in : ArrivedIn lines arrived
  pub lines_size : length lines ≡ 262145
  pub spare_size : length lines ≤ length spare
  pub batch_size : length batch ≡ 65536

-- This is said at the front of `after`. What is free is named in `free`: bytes past it, and `spare`, hold anything, and are as many as there were.
pub record PackReply (w : Saying) (spare before : List ℕ) (r : Said) (left after : List ℕ) : Type 0 where
  pub said : Says w r after
  pub free : (length left ≡ length spare) × (length after ≡ length before)

-- ---- unpack

-- A chain that breaks after so many records, with the number of a question.
abbrev pub chain_message : ℕ → ChainError → List ℕ
chain_message records e =
    (ascii "unpack: the chain breaks at record " ++ decimal (ordinal_of e records)) ++ ((ascii " with " ++ decimal (error_number e)) ++ ascii "\n")

-- The text; or nothing but a message.
abbrev pub unpacked_says : Result ℕ UnpackError → List ℕ → Saying
unpacked_says (Ok n) text = out text
unpacked_says (Err (Broken records e)) text = err (chain_message records e)
unpacked_says (Err TextTooLong) text = err (ascii "unpack: the text is longer than 1,048,576 bytes\n")

unfoldable pub batch_says : List ℕ → Saying
batch_says batch = unpacked_says (unpacked_of 1048576 batch) (batch_text batch)

-- By the stream that was read into `buf`, which has one byte more than the longest batch: "24: at most 65,536 bytes".
abbrev pub unpack_says : Stream → List ℕ → Saying
unpack_says (Ok n) buf = batch_says (take n buf)
unpack_says (Err Failed) buf = err (ascii "unpack: standard input cannot be read\n")
unpack_says (Err Full) buf = err (chain_message 0 NoBatch)

-- The memory that `unpack` lends: so that a stream that fills `buf` is longer than 65,536 bytes, and a text that does not fit is longer than 1,048,576.
pub record UnpackMemory (arrived : Arrived) (buf text : List ℕ) : Type 0 where
  pub read_in : ArrivedIn buf arrived
  pub buf_size : length buf ≡ 65537
  pub text_size : length text ≡ 1048576
