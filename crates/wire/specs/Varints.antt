-- Varints, from the Protocol Buffers encoding document, section "Base 128 Varints". Every definition has a width: the largest number
-- of bytes. A state's varints have width 10, a list's gaps width 5.
use Rattle.std.specs.Prelude.{◌≡◌, List, [], ◌∷◌, cond, ℕ, zero, suc, ◌+◌, ◌*◌, ◌/◌, ◌%◌, ◌^◌, ltb, length, Result}
use Rattle.std.proofs.lemmas.List.Edits.{sets}
use Rattle.wire.specs.declared.read_error.ReadError.{ReadError}
use Rattle.wire.specs.declared.varint.Cursor.{Cursor}
use Rattle.wire.specs.Reading.{Read, got, refused, ReadPost}

-- "The resulting integer is built by appending together the 7-bit payloads of its constituent bytes", the first payload lowest.
abbrev pub payload : ℕ → Read ℕ → Read ℕ
payload x (got v l) = got (x + 128 * v) l
payload x (refused n) = refused n

-- "Each byte in the varint has a continuation bit that indicates if the byte that follows it is part of the varint. This is the most
-- significant bit of the byte. The lower 7 bits are a payload." Cut off is 3; more bytes than the width is 4 (document 01, questions 3, 4).
unfoldable pub varint_of : ℕ → List ℕ → Read ℕ
varint_of zero l = refused 4
varint_of (suc n) [] = refused 3
varint_of (suc n) (b ∷ l) = cond (ltb b 128) (got b l) (payload (b % 128) (varint_of n l))

-- The low bits of a value that was read.
abbrev pub low_bits : ℕ → Read ℕ → Read ℕ
low_bits k (got v l) = got (v % 2 ^ k) l
low_bits k (refused n) = refused n

-- A state's varint: at most ten bytes, and "a varint keeps its low 64 bits" (document 01, module 1).
unfoldable pub varint64 : List ℕ → Read ℕ
varint64 l = low_bits 64 (varint_of 10 l)

-- A value as a varint: its payloads, lowest first, each but the last with the continuation bit.
unfoldable pub varint_bytes : ℕ → ℕ → List ℕ
varint_bytes zero v = []
varint_bytes (suc n) v = cond (ltb v 128) (v ∷ []) ((v % 128 + 128) ∷ varint_bytes n (v / 128))

-- What `read_varint` answers at a position: the varint there, and a cursor past it.
abbrev pub VarintPost : List ℕ → ℕ → Result (ℕ × Cursor) ReadError → Type 0
VarintPost s at r = ReadPost (λ v. v) 1 s at varint64 r

-- And `read_varint32`: "a 32-bit field takes the low 32 of them" (module 1).
abbrev pub Varint32Post : List ℕ → ℕ → Result (ℕ × Cursor) ReadError → Type 0
Varint32Post s at r = ReadPost (λ v. v) 1 s at (λ l. low_bits 32 (varint64 l)) r

-- Writing at a position: the bytes stand there, everything else is as it was, and the answer is the position past them.
pub record PutPost (out : List ℕ) (at : ℕ) (bytes : List ℕ) (r : ℕ) (after : List ℕ) : Type 0 where
  pub next : r ≡ at + length bytes
  pub output : after ≡ sets out at bytes
