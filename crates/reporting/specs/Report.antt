-- What `roll` says: the report of a batch that is rolled up in document 01's memory, and what is said of a stream that was read.
use Rattle.std.specs.Prelude.{◌≡◌, List, false, ℕ, ◌≤◌, Option, Some, None, Ok, Err, length, take}
use Rattle.std.specs.Counts.{IsPrefixLen}
use Rattle.wire.specs.Varints.{PutPost}
use Rattle.console.specs.declared.input.StreamError.TheVariants.{Failed, Full}
use Rattle.console.specs.Input.{Stream}
use Rattle.console.specs.declared.output.Said.{Said}
use Rattle.console.specs.Output.{ascii, Saying, out, err, size_of, saying_of}
use Rattle.rollup.specs.Accumulator.{Mem}
use Rattle.batch.specs.declared.closing.Report.{Report}
use Rattle.batch.specs.Chain.{is_batch}
use Rattle.batch.specs.Closing.{ReportPost}
use Rattle.reporting.specs.Text.{report_text}
use Rattle.rollup.specs.Refusals.{length_of}

-- The report lies inside its memory, with no more records than a batch can have (`records_few` of `batch`), and no more bytes written than were lent.
pub record ReportIn (r : Report) (answers out : List ℕ) : Type 0 where
  pub records_in : r.rolled.records ≤ length answers
  pub records_few : r.rolled.records ≤ 21844
  pub written_in : (length_of r.written) ≤ length out
  pub written_few : (length_of r.written) ≤ 65536

-- What `roll` of `batch` promises of a batch that is rolled up in "65,536 registers, three lists of 16,384 and 65,536 output bytes", whatever they held:
-- this report, these answers, this output. `cells` and `bytes` are what the answers' cells and the output held before.
pub record ReportOf (batch : List ℕ) (r : Report) (answers out : List ℕ) : Type 0 where
  pub first : Mem
  pub last : Mem
  pub room : ℕ
  pub space : ℕ
  pub cells : List ℕ
  pub bytes : List ℕ
  pub post : ReportPost batch first room cells space bytes r last answers out
  pub registers_lent : length first.registers ≡ 65536
  pub lists_lent : (length first.sparse ≡ 16384) × (length first.pending ≡ 16384) × (room ≡ 16384)
  pub spare_lent : space ≡ 65536
  pub cells_lent : (length cells ≡ 65536) × (length answers ≡ 65536)
  pub output_lent : (length bytes ≡ 65536) × (length out ≡ 65536)

-- Both of these.
pub record RolledUp (batch : List ℕ) (r : Report) (answers out : List ℕ) : Type 0 where
  pub promised : ReportOf batch r answers out
  pub inside : ReportIn r answers out

-- The text is what is printed of the batch.
pub record Reports (batch text : List ℕ) : Type 0 where
  pub report : Report
  pub answers : List ℕ
  pub output : List ℕ
  pub promised : ReportOf batch report answers output
  pub all : text ≡ report_text report answers output

-- That text, which has n bytes, stands whole at the front of `after`, and the rest is as it was.
pub record ReportPut (batch before : List ℕ) (n : ℕ) (after : List ℕ) : Type 0 where
  pub text : List ℕ
  pub reports : Reports batch text
  pub put : PutPost before 0 text n after
  pub counts : IsPrefixLen n after

-- What part of the buffer is the input: of a whole stream the bytes that came, and of a longer one the buffer, which has more bytes than a batch may have.
-- A stream that could not be read is no input.
abbrev pub input_of : Stream → List ℕ → Option (List ℕ)
input_of (Ok n) buf = Some (take n buf)
input_of (Err Full) buf = Some buf
input_of (Err Failed) buf = None

-- What is said of a standard input that could not be read.
abbrev pub unreadable : List ℕ
unreadable = ascii "roll: standard input cannot be read\n"

-- What is printed of more bytes than a batch may have: 24, and "four zeros and 21".
abbrev pub too_long_message : List ℕ
too_long_message = ascii "0 24\n0 0 0 0\n21\n"

-- Of an input the report is heard, and where there is none nothing is.
abbrev pub Hears : Option (List ℕ) → Option Report → List ℕ → List ℕ → Type 0
Hears (Some batch) (Some r) answers output = RolledUp batch r answers output
Hears (Some batch) None answers output = ⊥
Hears None (Some r) answers output = ⊥
Hears None None answers output = Unit

-- A stream that is longer than a batch may be is no batch, so that question 24 shows it.
pub record HeardPost (stream : Stream) (buf : List ℕ) (h : Option Report) (answers output : List ℕ) : Type 0 where
  pub hears : Hears (input_of stream buf) h answers output
  pub too_long : stream ≡ Err Full → is_batch buf ≡ false

abbrev pub HeardIn : Option Report → List ℕ → List ℕ → Type 0
HeardIn (Some r) answers output = ReportIn r answers output
HeardIn None answers output = Unit

-- What is said of it: the report on standard output, or a message on standard error.
abbrev pub saying_for : Option Report → List ℕ → List ℕ → Saying
saying_for (Some r) answers output = out (report_text r answers output)
saying_for None answers output = err unreadable

-- What `roll` says of an input, and of none.
abbrev pub Response : Option (List ℕ) → Saying → Type 0
Response (Some batch) (out text) = Reports batch text
Response (Some batch) (err message) = ⊥
Response None (out text) = ⊥
Response None (err message) = message ≡ unreadable

-- That is what is said at the front of the text. A stream that is longer than a batch may be shows, as 24 with no record.
pub record Responds (stream : Stream) (buf : List ℕ) (said : Said) (text : List ℕ) : Type 0 where
  pub response : Response (input_of stream buf) (saying_of said text)
  pub counts : IsPrefixLen (size_of said) text
  pub too_long : stream ≡ Err Full → saying_of said text ≡ out too_long_message
