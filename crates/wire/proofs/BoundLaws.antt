-- What was read of a list of bytes is no longer than it: the sparse data of a state has no more bytes than the state, and a 32-bit number fits 32 bits.
-- And what was refused has a number above 0.
use Prim.Native.Nat.{ℕ, zero, suc, ◌%◌, ◌^◌, ◌<◌, ◌≤◌}
use mathlib.Core.Path.{◌≡◌, subst}
use mathlib.Core.List.{List, [], ◌∷◌}
use mathlib.Core.Bool.{cond}
use native.Mathlib.Nat.{mod-lt}
use native.Mathlib.Omega.{arith}
use lib.ListN.{length, take, drop, length-take, length-drop}
use lib.Dec.{ltb, leb, eqb}
use Rattle.wire.specs.Reading.{Read, got, refused, and_then}
use Rattle.wire.specs.Varints.{payload, varint_of, low_bits, varint64}
use Rattle.wire.specs.Fields.{tag, VARINT, I64, LEN, I32, is_tag, tag_of, bytes_of, delimited_of, skip_of, field_of, fields_of, message_of}
use Rattle.wire.specs.State.{HllState, State, empty_state, bytes_or_none, is_hll_number, with_hll_number, is_hll_bytes, with_hll_bytes, hll_number_of, hll_bytes_of, other_of, hll_field, read_hll, is_number, with_number, with_hll, number_of, nested_of, outer_field, read_state}
use Rattle.wire.proofs.BoolLaws.{whichever}

-- Where a value was read, it has a property and no more than n bytes are left; a refusal has a number above 0.
abbrev Gives : {A : Type 0} → (A → Type 0) → ℕ → Read A → Type 0
Gives good n (got a l) = good a × (length l ≤ n)
Gives good n (refused k) = 0 < k

abbrev Anything : {A : Type 0} → A → Type 0
Anything a = Unit

gives_then : {A B : Type 0} (good : A → Type 0) (fine : B → Type 0) (n k : ℕ) (r : Read A) (next : A → List ℕ → Read B)
    → Gives good n r → ((a : A) (l : List ℕ) → good a → length l ≤ n → Gives fine k (next a l)) → Gives fine k (and_then r next)
gives_then good fine n k (got a l) next h f = f a l h.0 h.1
gives_then good fine n k (refused m) next h f = h

varint_gives : (k : ℕ) (l : List ℕ) → Gives Anything (length l) (varint_of k l)
unfolding varint_of
varint_gives zero l = omega arith
varint_gives (suc k) [] = omega arith
varint_gives (suc k) (b ∷ l) =
    whichever (Gives Anything (length (b ∷ l))) (ltb b 128) (got b l) (payload (b % 128) (varint_of k l)) (tt, omega arith)
    (more (varint_of k l) (varint_gives k l))
  where
    more : (r : Read ℕ) → Gives Anything (length l) r → Gives Anything (length (b ∷ l)) (payload (b % 128) r)
    more (got v rest) h = (tt, (let g : length rest ≤ length (b ∷ l) = omega (arith, h.1) in g))
    more (refused n) h = h

-- A number below 2^64.
abbrev Below : ℕ → Type 0
Below v = v < 2 ^ 64

varint64_gives : (l : List ℕ) → Gives Below (length l) (varint64 l)
unfolding varint64
varint64_gives l = low (varint_of 10 l) (varint_gives 10 l)
  where
    low : (r : Read ℕ) → Gives Anything (length l) r → Gives Below (length l) (low_bits 64 r)
    low (got v rest) h = (mod-lt v (let g : 0 < 2 ^ 64 = omega arith in g), h.1)
    low (refused n) h = h

-- Bytes that were taken of a list are no more than it has.
abbrev NoLonger : ℕ → List ℕ → Type 0
NoLonger n d = length d ≤ n

bytes_gives : (n k : ℕ) (l : List ℕ) → length l ≤ k → Gives (NoLonger k) k (bytes_of n l)
unfolding bytes_of
bytes_gives n k l h =
    whichever (Gives (NoLonger k) k) (leb n (length l)) (got (take n l) (drop n l)) (refused 3)
    ((let g : length (take n l) ≤ k = omega (arith, length-take n l) in g), (let g : length (drop n l) ≤ k = omega (arith, length-drop n l) in g)) (omega arith)

delimited_gives : (l : List ℕ) → Gives (NoLonger (length l)) (length l) (delimited_of l)
unfolding delimited_of
delimited_gives l =
    gives_then Below (NoLonger (length l)) (length l) (length l) (varint64 l) (λ n rest. bytes_of n rest) (varint64_gives l)
    (λ (n : ℕ) (rest : List ℕ) (x : n < 2 ^ 64) (h : length rest ≤ length l). bytes_gives n (length l) rest h)

tag_gives : (l : List ℕ) → Gives Anything (length l) (tag_of l)
unfolding tag_of
tag_gives l =
    gives_then Below Anything (length l) (length l) (varint64 l) (λ t rest. cond (is_tag t) (got t rest) (refused 5)) (varint64_gives l)
    (λ (t : ℕ) (rest : List ℕ) (x : t < 2 ^ 64) (h : length rest ≤ length l). whichever (Gives Anything (length l)) (is_tag t) (got t rest) (refused 5) (tt, h) (omega arith))

skip_gives : (t : ℕ) (l : List ℕ) → Gives Anything (length l) (skip_of t l)
unfolding skip_of
skip_gives t l =
    let n = length l in
    let none : Read (Unit {0}) = refused 6 in
    let fixed : ℕ → Read (Unit {0}) = λ k. and_then (bytes_of k l) (λ v rest. got tt rest) in
    let number : Read (Unit {0}) = and_then (varint64 l) (λ v rest. got tt rest) in
    let bytes : Read (Unit {0}) = and_then (delimited_of l) (λ v rest. got tt rest) in
    let four = cond (eqb (t % 8) I32) (fixed 4) none in
    let other = cond (eqb (t % 8) LEN) bytes four in
    let eight = cond (eqb (t % 8) I64) (fixed 8) other in
    whichever (Gives Anything n) (eqb (t % 8) VARINT) number eight
    (gives_then Below Anything n n (varint64 l) (λ v rest. got tt rest) (varint64_gives l) (λ (v : ℕ) (rest : List ℕ) (x : v < 2 ^ 64) (h : length rest ≤ n). (tt, h)))
    (whichever (Gives Anything n) (eqb (t % 8) I64) (fixed 8) other (past 8)
    (whichever (Gives Anything n) (eqb (t % 8) LEN) bytes four
    (gives_then (NoLonger n) Anything n n (delimited_of l) (λ v rest. got tt rest) (delimited_gives l)
    (λ (d rest : List ℕ) (x : length d ≤ n) (h : length rest ≤ n). (tt, h))) (whichever (Gives Anything n) (eqb (t % 8) I32) (fixed 4) none (past 4) (omega arith))))
  where
    past : (k : ℕ) → Gives Anything (length l) (and_then (bytes_of k l) (λ v rest. got (tt {0}) rest))
    past k =
        gives_then (NoLonger (length l)) Anything (length l) (length l) (bytes_of k l) (λ v rest. got tt rest) (bytes_gives k (length l) l (omega arith))
        (λ (d rest : List ℕ) (x : length d ≤ length l) (h : length rest ≤ length l). (tt, h))

-- A property that each field keeps, of bytes that are no more than n, is one of the whole message.
module _ {A : Type 0} (field : ℕ → List ℕ → A → Read A) (good : A → Type 0) (n : ℕ)
    (keeps : (t : ℕ) (l : List ℕ) (a : A) → length l ≤ n → good a → Gives good n (field t l a)) where
  fields_keep : (k : ℕ) (l : List ℕ) (a : A) → length l ≤ n → good a → Gives good n (fields_of field k l a)
  unfolding fields_of
  fields_keep zero l a h g = (g, h)
  fields_keep (suc k) [] a h g = (g, h)
  fields_keep (suc k) (b ∷ l) a h g =
      gives_then good good n n (field_of field (b ∷ l) a) (λ next rest. fields_of field k rest next)
      (gives_then Anything good (length (b ∷ l)) n (tag_of (b ∷ l)) (λ t rest. field t rest a) (tag_gives (b ∷ l))
      (λ (t : ℕ) (rest : List ℕ) (x : Unit) (i : length rest ≤ length (b ∷ l)). keeps t rest a (let j : length rest ≤ n = omega arith in j) g))
      (λ (next : A) (rest : List ℕ) (x : good next) (i : length rest ≤ n). fields_keep k rest next i x)

  message_keeps : (l : List ℕ) (a : A) → length l ≤ n → good a → Gives good n (message_of field l a)
  unfolding message_of
  message_keeps l a h g = fields_keep (length l) l a h g

low : (v : ℕ) → v % 2 ^ 32 < 2 ^ 32
low v = mod-lt v (let g : 0 < 2 ^ 32 = omega arith in g)

-- What is to be known of a nested message that was read of no more than n bytes.
record Bounded (n : ℕ) (h : HllState) : Type 0 where
  list : length (bytes_or_none h.sparse_data) ≤ n
  sparse : h.sparse_precision < 2 ^ 32
  size : h.sparse_size < 2 ^ 32

with_number_lem : (n t v : ℕ) (h : HllState) → Bounded n h → Bounded n (with_hll_number t v h)
with_number_lem n t v h b =
    whichever (Bounded n) (eqb t (tag 2 VARINT)) _ _ (record { list = b.list; sparse = b.sparse; size = low v })
    (whichever (Bounded n) (eqb t (tag 3 VARINT)) _ _ (record { list = b.list; sparse = b.sparse; size = b.size })
    (record { list = b.list; sparse = low v; size = b.size }))

with_bytes : (n t : ℕ) (d : List ℕ) (h : HllState) → length d ≤ n → Bounded n h → Bounded n (with_hll_bytes t d h)
with_bytes n t d h e b =
    whichever (Bounded n) (eqb t (tag 5 LEN)) _ _ (record { list = b.list; sparse = b.sparse; size = b.size })
    (record { list = e; sparse = b.sparse; size = b.size })

other_keeps : {A : Type 0} (good : A → Type 0) (n t : ℕ) (l : List ℕ) (a : A) → length l ≤ n → good a → Gives good n (other_of t l a)
other_keeps good n t l a h g =
    gives_then Anything good (length l) n (skip_of t l) (λ u rest. got a rest) (skip_gives t l)
    (λ (u : Unit {0}) (rest : List ℕ) (x : Unit) (i : length rest ≤ length l). (g, (let j : length rest ≤ n = omega arith in j)))

hll_keeps : (n t : ℕ) (l : List ℕ) (h : HllState) → length l ≤ n → Bounded n h → Gives (Bounded n) n (hll_field t l h)
unfolding hll_field
hll_keeps n t l h e b =
    whichever (Gives (Bounded n) n) (is_hll_number t) (hll_number_of t l h) (cond (is_hll_bytes t) (hll_bytes_of t l h) (other_of t l h))
    (gives_then Below (Bounded n) (length l) n (varint64 l) (λ v rest. got (with_hll_number t v h) rest) (varint64_gives l)
    (λ (v : ℕ) (rest : List ℕ) (x : v < 2 ^ 64) (i : length rest ≤ length l). (with_number_lem n t v h b, (let j : length rest ≤ n = omega arith in j))))
    (whichever (Gives (Bounded n) n) (is_hll_bytes t) (hll_bytes_of t l h) (other_of t l h)
    (gives_then (NoLonger (length l)) (Bounded n) (length l) n (delimited_of l) (λ d rest. got (with_hll_bytes t d h) rest) (delimited_gives l)
    (λ (d rest : List ℕ) (x : length d ≤ length l) (i : length rest ≤ length l).
    (with_bytes n t d h (let j : length d ≤ n = omega arith in j) b, (let j : length rest ≤ n = omega arith in j)))) (other_keeps (Bounded n) n t l h e b))

-- The same of a state.
record StateBounded (n : ℕ) (st : State) : Type 0 where
  nested : Bounded n st.hll
  count : st.num_values < 2 ^ 64
  kind : st.value_type < 2 ^ 32

with_outer : (n t v : ℕ) (st : State) → v < 2 ^ 64 → StateBounded n st → StateBounded n (with_number t v st)
with_outer n t v st h b =
    whichever (StateBounded n) (eqb t (tag 1 VARINT)) _ _ (record { nested = b.nested; count = b.count; kind = b.kind })
    (whichever (StateBounded n) (eqb t (tag 2 VARINT)) _ _ (record { nested = b.nested; count = h; kind = b.kind })
    (whichever (StateBounded n) (eqb t (tag 3 VARINT)) _ _ (record { nested = b.nested; count = b.count; kind = b.kind })
    (record { nested = b.nested; count = b.count; kind = low v })))

outer_keeps : (n t : ℕ) (l : List ℕ) (st : State) → length l ≤ n → StateBounded n st → Gives (StateBounded n) n (outer_field t l st)
unfolding outer_field read_hll
outer_keeps n t l st e b =
    whichever (Gives (StateBounded n) n) (is_number t) (number_of t l st) (cond (eqb t (tag 112 LEN)) (nested_of l st) (other_of t l st))
    (gives_then Below (StateBounded n) (length l) n (varint64 l) (λ v rest. got (with_number t v st) rest) (varint64_gives l)
    (λ (v : ℕ) (rest : List ℕ) (x : v < 2 ^ 64) (i : length rest ≤ length l). (with_outer n t v st x b, (let j : length rest ≤ n = omega arith in j))))
    (whichever (Gives (StateBounded n) n) (eqb t (tag 112 LEN)) (nested_of l st) (other_of t l st)
    (gives_then (NoLonger (length l)) (StateBounded n) (length l) n (delimited_of l)
    (λ m rest. and_then (read_hll m st.hll) (λ h nothing. got (with_hll h st) rest)) (delimited_gives l)
    (λ (m rest : List ℕ) (x : length m ≤ length l) (i : length rest ≤ length l).
    gives_then (Bounded n) (StateBounded n) n n (read_hll m st.hll) (λ h nothing. got (with_hll h st) rest)
    (message_keeps hll_field (Bounded n) n (hll_keeps n) m st.hll (let j : length m ≤ n = omega arith in j) b.nested)
    (λ (h : HllState) (nothing : List ℕ) (y : Bounded n h) (k : length nothing ≤ n). (record { nested = y; count = b.count; kind = b.kind }, (let j : length rest ≤ n = omega arith in j)))))
    (other_keeps (StateBounded n) n t l st e b))

read_bounded : (s : List ℕ) → Gives (StateBounded (length s)) (length s) (read_state s)
unfolding read_state
read_bounded s =
    message_keeps outer_field (StateBounded (length s)) (length s) (outer_keeps (length s)) s empty_state (omega arith)
    (record { nested = record { list = omega arith; sparse = omega arith; size = omega arith }; count = omega arith; kind = omega arith })

-- A state's list has no more bytes than the state, and its numbers fit their widths.
module _ (s : List ℕ) (st : State) (l : List ℕ) (e : read_state s ≡ got st l) where
  bounded : StateBounded (length s) st
  bounded = (subst (Gives (StateBounded (length s)) (length s)) e (read_bounded s)).0

  pub sparse_data_within : length (bytes_or_none st.hll.sparse_data) ≤ length s
  sparse_data_within = bounded.nested.list

  pub sparse_precision_small : st.hll.sparse_precision < 2 ^ 32
  sparse_precision_small = bounded.nested.sparse

  pub sparse_size_small : st.hll.sparse_size < 2 ^ 32
  sparse_size_small = bounded.nested.size

  pub count_small : st.num_values < 2 ^ 64
  count_small = bounded.count

  pub value_type_small : st.value_type < 2 ^ 32
  value_type_small = bounded.kind

-- A state that is not read is refused with a number above 0.
pub read_number : (s : List ℕ) (n : ℕ) → read_state s ≡ refused n → 0 < n
read_number s n e = subst (Gives (StateBounded (length s)) (length s)) e (read_bounded s)
