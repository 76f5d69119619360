-- Tags, the bytes of a field, and fields that are skipped, from the Protocol Buffers encoding document, section "Message Structure".
use Rattle.std.specs.Prelude.{◌≡◌, List, [], ◌∷◌, Bool, cond, ◌&&◌, ℕ, zero, suc, ◌+◌, ◌*◌, ◌/◌, ◌%◌, ◌^◌, ◌≤◌, ltb, leb, eqb, length, take, drop, Result, IfOk}
use Rattle.wire.specs.declared.read_error.ReadError.{ReadError}
use Rattle.wire.specs.declared.varint.Cursor.{Cursor}
use Rattle.wire.specs.declared.fields.Part.{Part}
use Rattle.wire.specs.Reading.{Read, got, refused, and_then, answer_of, ReadPost}
use Rattle.wire.specs.Varints.{varint64}

-- "The tag of a record is encoded as a varint formed from the field number and the wire type via the formula
-- (field_number << 3) | wire_type."
abbrev pub tag : ℕ → ℕ → ℕ
tag field wire = field * 8 + wire

-- The wire types that are read: VARINT, I64, LEN and I32.
abbrev pub VARINT : ℕ
VARINT = 0

abbrev pub I64 : ℕ
I64 = 1

abbrev pub LEN : ℕ
LEN = 2

abbrev pub I32 : ℕ
I32 = 5

-- Document 01, question 5: "Is each tag below 2^32 with a field number above 0?"
abbrev pub is_tag : ℕ → Bool
is_tag t = ltb t (2 ^ 32) && ltb 0 (t / 8)

unfoldable pub tag_of : List ℕ → Read ℕ
tag_of l = and_then (varint64 l) (λ t rest. cond (is_tag t) (got t rest) (refused 5))

-- The next n bytes. Document 01, question 3: "Is each varint and field whole inside its message?"
unfoldable pub bytes_of : ℕ → List ℕ → Read (List ℕ)
bytes_of n l = cond (leb n (length l)) (got (take n l) (drop n l)) (refused 3)

-- "The LEN wire type has a dynamic length, specified by a varint immediately after the tag, which is followed by the payload."
unfoldable pub delimited_of : List ℕ → Read (List ℕ)
delimited_of l = and_then (varint64 l) (λ n rest. bytes_of n rest)

-- Past a field's value. Document 01, question 6: "Is a skipped wire type 0, 1, 2 or 5?"
unfoldable pub skip_of : ℕ → List ℕ → Read (Unit {0})
skip_of t l =
    cond (eqb (t % 8) VARINT) (and_then (varint64 l) (λ v rest. got tt rest))
    (cond (eqb (t % 8) I64) (and_then (bytes_of 8 l) (λ v rest. got tt rest))
    (cond (eqb (t % 8) LEN) (and_then (delimited_of l) (λ v rest. got tt rest))
    (cond (eqb (t % 8) I32) (and_then (bytes_of 4 l) (λ v rest. got tt rest))
    (refused 6))))

-- "A protocol buffer message is a series of key-value pairs": a tag and what `field` reads of its value, over and over to the end, each
-- changing what was read so far. The first argument bounds the number of fields: a field has a byte or more, so a message's length suffices.
module _ {A : Type 0} (field : ℕ → List ℕ → A → Read A) where
  abbrev pub field_of : List ℕ → A → Read A
  field_of l a = and_then (tag_of l) (λ t rest. field t rest a)

  unfoldable pub fields_of : ℕ → List ℕ → A → Read A
  fields_of zero l a = got a l
  fields_of (suc n) [] a = got a []
  fields_of (suc n) (b ∷ l) a = and_then (field_of (b ∷ l) a) (λ next rest. fields_of n rest next)

  unfoldable pub message_of : List ℕ → A → Read A
  message_of l a = fields_of (length l) l a

-- What `read_tag` answers at a position.
abbrev pub TagPost : List ℕ → ℕ → Result (ℕ × Cursor) ReadError → Type 0
TagPost s at r = ReadPost (λ t. t) 1 s at tag_of r

-- The bytes at a place.
abbrev pub bytes_at : List ℕ → Part → List ℕ
bytes_at s p = take p.len (drop p.start s)

-- Where the bytes of a field stand, and a cursor past them: `reading` finds those bytes.
pub record TakenPost (s : List ℕ) (at : ℕ) (reading : List ℕ → Read (List ℕ)) (r : Result (Part × Cursor) ReadError) : Type 0 where
  pub read : ReadPost (bytes_at s) 0 s at reading r
  pub placed : IfOk r (λ (p : Part × Cursor). (at ≤ p.0.start) × (p.0.start + p.0.len ≡ p.1.at))

abbrev pub TakePost : List ℕ → ℕ → ℕ → Result (Part × Cursor) ReadError → Type 0
TakePost s at n r = TakenPost s at (bytes_of n) r

abbrev pub DelimitedPost : List ℕ → ℕ → Result (Part × Cursor) ReadError → Type 0
DelimitedPost s at r = TakenPost s at delimited_of r

-- What `skip` answers: a cursor past the field's value.
pub record SkipPost (s : List ℕ) (t at : ℕ) (r : Result Cursor ReadError) : Type 0 where
  pub answer : answer_of (λ (c : Cursor). got tt (drop c.at s)) r ≡ skip_of t (drop at s)
  pub inside : IfOk r (λ (c : Cursor). (at ≤ c.at) × (c.at ≤ length s))
