-- Laws of writing a state: putting bytes after bytes, what the parts of a state are made of, and their lengths.
use Prim.Native.Nat.{ℕ, suc, ◌+◌, ◌-◌, ◌/◌, ◌%◌, ◌^◌, ◌<◌, ◌≤◌}
use mathlib.Core.Path.{◌≡◌, refl, sym, ap, ap₂, ◌∙◌, subst}
use mathlib.Core.List.{List, [], ◌∷◌, ◌++◌, append_assoc}
use mathlib.Core.Option.{Option, none, some}
use mathlib.Core.Bool.{Bool, true, false, cond}
use native.Mathlib.Nat.{add-zero, add-suc, suc-add, zero-add, min-le_right}
use native.Mathlib.Omega.{arith}
use lib.Dec.{eqb}
use lib.ListN.{length, take, drop, set, length-append, length-take, length-drop}
use lib.Seq.{sets, length-sets, sets-eq, drop-drop}
use borrow.Rule.Slice.PartMut.{put_mid}
use borrow.Author.Tests.{lt-ltb, le-leb, lt-leb, eq-eqb, ne_eqb}
use Rattle.wire.specs.declared.fields.Part.{Part}
use Rattle.wire.specs.declared.state.HllFields.{HllFields}
use Rattle.wire.specs.declared.state.Fields.{Fields}
use Rattle.std.specs.Prelude.{Ok, Err}
use Rattle.wire.specs.declared.encoding.EncodeError.TheVariants.{OutputTooShort}
use Rattle.wire.specs.Varints.{varint_bytes, PutPost}
use Rattle.wire.specs.Fields.{tag, VARINT, LEN}
use Rattle.wire.specs.State.{HllState, State, when_present, bytes_or_none, part_of, hll_of, state_of}
use Rattle.wire.specs.Encoding.{pair, number_field, sign_extended, int32_unless, length_prefix, bytes_field, hll_numbers, hll_bytes, outer_numbers, encode_of, hll_start, start_of, hll_head, head_of, Output, encode_step, EncodePost}
use Rattle.wire.proofs.VarintLaws.{len_le}

-- ---- bytes put after bytes

pub sets_more : (out : List ℕ) (at : ℕ) (x y : List ℕ) → sets (sets out at x) (at + length x) y ≡ sets out at (x ++ y)
sets_more out at [] y = ap (λ (k : ℕ). sets out k y) (add-zero at)
sets_more out at (a ∷ x) y =
    ap (λ (k : ℕ). sets (sets (set out at a) (suc at) x) k y) (add-suc at (length x) ∙ sym (suc-add at (length x)))
    ∙ sets_more (set out at a) (suc at) x y

-- No bytes.
pub put_none : (out : List ℕ) (at : ℕ) {bytes : List ℕ} → bytes ≡ [] → PutPost out at bytes at out
put_none out at e = record { next = sym (ap (λ (l : List ℕ). at + length l) e ∙ add-zero at); output = sym (ap (sets out at) e) }

-- The bytes are those of x and then those of y; of three lists; of four.
pub record Two (bytes x y : List ℕ) : Type 0 where
  pub is : bytes ≡ x ++ y

pub record Three (bytes x y z : List ℕ) : Type 0 where
  pub first : Two bytes x (y ++ z)
  pub second : Two (y ++ z) y z

pub record Four (bytes x y z w : List ℕ) : Type 0 where
  pub first : Two bytes x (y ++ (z ++ w))
  pub second : Two (y ++ (z ++ w)) y (z ++ w)
  pub third : Two (z ++ w) z w

pub three : {bytes : List ℕ} (x y z : List ℕ) → bytes ≡ x ++ (y ++ z) → Three bytes x y z
three x y z e = record { first = record { is = e }; second = record { is = refl } }

pub four : {bytes : List ℕ} (x y z w : List ℕ) → bytes ≡ x ++ (y ++ (z ++ w)) → Four bytes x y z w
four x y z w e = record { first = record { is = e }; second = record { is = refl }; third = record { is = refl } }

pub two_length : {bytes x y : List ℕ} → Two bytes x y → length bytes ≡ length x + length y
two_length {bytes} {x} {y} t = ap (λ (l : List ℕ). length l) t.is ∙ length-append x y

-- Room for both is room for the first, and then for the second.
pub first_room : {bytes x y : List ℕ} (out : List ℕ) (at : ℕ) → Two bytes x y → at + length bytes ≤ length out → at + length x ≤ length out
first_room out at t h = omega (arith, two_length t)

pub next_room : {bytes x y out mid : List ℕ} {at next : ℕ} → Two bytes x y → PutPost out at x next mid → at + length bytes ≤ length out
    → next + length y ≤ length mid
next_room {x = x} {out = out} {at = at} t p h = omega (arith, two_length t, p.next, ap (λ (l : List ℕ). length l) p.output ∙ length-sets out at x)

-- Room for the first part of what is left.
pub mid_room : {bytes x y z w out mid : List ℕ} {at next : ℕ} → Two bytes x y → PutPost out at x next mid → Two y z w → at + length bytes ≤ length out
    → next + length z ≤ length mid
mid_room {mid = mid} {next = next} t p u h = first_room mid next u (next_room t p h)

-- The first put, and then the second.
pub put_both : {bytes x y out mid after : List ℕ} {at next r : ℕ} → Two bytes x y → PutPost out at x next mid → PutPost mid next y r after
    → PutPost out at bytes r after
put_both {x = x} {y = y} {out = out} {at = at} t p q =
    record {
      next = omega (arith, two_length t, p.next, q.next);
      output =
          q.output
          ∙ ap₂ (λ (l : List ℕ) (k : ℕ). sets l k y) p.output p.next
          ∙ sets_more out at x y
          ∙ ap (sets out at) (sym t.is);
    }

-- The same bytes by another name.
pub put_same : {out x y after : List ℕ} {at r : ℕ} → x ≡ y → PutPost out at x r after → PutPost out at y r after
put_same {out = out} {after = after} {at = at} {r = r} e p = subst (λ (l : List ℕ). PutPost out at l r after) e p

pub same_room : (out : List ℕ) (at : ℕ) (x y : List ℕ) → x ≡ y → at + length x ≤ length out → at + length y ≤ length out
same_room out at x y e h = subst (λ (l : List ℕ). at + length l ≤ length out) e h

pub front_room : (out x : List ℕ) → length x ≤ length out → 0 + length x ≤ length out
front_room out x h = omega arith

-- The bytes d in the place of as many.
pub put_part : (out d : List ℕ) (at : ℕ) {y : List ℕ} → at + length d ≤ length out → y ≡ d
    → PutPost out at d (at + length d) (put_mid at (at + length d - at) out y)
put_part out d at h e =
    record {
      next = refl;
      output =
          ap₂ (λ (ys : List ℕ) (k : ℕ). take at out ++ (ys ++ drop k (drop at out))) e (let n : at + length d - at ≡ length d = omega arith in n)
          ∙ ap (λ (r : List ℕ). take at out ++ (d ++ r)) (drop-drop (length d) at out)
          ∙ sym (append_assoc (take at out) d (drop (at + length d) out))
          ∙ sym (sets-eq d out at h);
    }

-- ---- what the parts are made of

pub signed_small : (v : ℕ) → v < 2 ^ 31 → v ≡ sign_extended v
signed_small v h = rw (lt-ltb _ _ h)

-- The number that is written for the tag, x, is the tag.
pub pair_is : {x t : ℕ} → x ≡ t → (v : ℕ) → Two (pair t v) (varint_bytes 10 x) (varint_bytes 10 v)
unfolding pair
pair_is e v = record { is = ap (λ (y : ℕ). varint_bytes 10 y ++ varint_bytes 10 v) (sym e) }

-- A tag is made of its field number and its wire type.
same_tag : (t wire : ℕ) → t % 8 ≡ wire → tag (t / 8) wire ≡ t
same_tag t wire e = omega (arith, e)

pub int32_none : (omitted field v : ℕ) → v ≡ omitted → int32_unless omitted field v ≡ []
unfolding int32_unless
int32_none omitted field v e = ap (λ (b : Bool). cond b [] (number_field field (sign_extended v))) (eq-eqb v omitted e)

-- The value that is written, x, is the sign-extended one.
pub int32_is : (omitted t v : ℕ) {x : ℕ} → t % 8 ≡ VARINT → (v ≡ omitted → ⊥) → x ≡ sign_extended v → int32_unless omitted (t / 8) v ≡ pair t x
unfolding int32_unless
int32_is omitted t v w e s =
    ap (λ (b : Bool). cond b [] (number_field (t / 8) (sign_extended v))) (ne_eqb v omitted e) ∙ ap₂ pair (same_tag t VARINT w) (sym s)

pub field_none : (field : ℕ) {o : Option (List ℕ)} → o ≡ none → bytes_field field o ≡ []
unfolding bytes_field
field_none field e = ap (bytes_field field) e

pub field_is : (t : ℕ) {o : Option (List ℕ)} {d : List ℕ} → t % 8 ≡ LEN → o ≡ some d → Two (bytes_field (t / 8) o) (pair t (length d)) d
unfolding bytes_field
field_is t {d = d} w e = record { is = ap (bytes_field (t / 8)) e ∙ ap (λ (x : ℕ). pair x (length d) ++ d) (same_tag t LEN w) }

pub hll_numbers_are : (h : HllState)
    → Three (hll_numbers h) (int32_unless 0 2 h.sparse_size) (int32_unless 0 3 h.precision) (int32_unless 0 4 h.sparse_precision)
unfolding hll_numbers
hll_numbers_are h = three _ _ _ refl

pub outer_numbers_are : (st : State)
    → Four (outer_numbers st) (number_field 1 (sign_extended st.aggregator_type)) (number_field 2 st.num_values)
    (int32_unless 1 3 st.encoding_version) (int32_unless 0 4 st.value_type)
unfolding outer_numbers
outer_numbers_are st = four _ _ _ _ refl

-- The numbers are the same whatever the bytes are.
pub hll_numbers_any : (s : List ℕ) (h : HllFields) → hll_numbers (hll_of [] h) ≡ hll_numbers (hll_of s h)
unfolding hll_numbers
hll_numbers_any s h = refl

pub outer_numbers_any : (s : List ℕ) (f : Fields) → outer_numbers (state_of [] f) ≡ outer_numbers (state_of s f)
unfolding outer_numbers
outer_numbers_any s f = refl

pub start_is : (st : State) (n : ℕ)
    → Four (start_of st n) (outer_numbers st) (length_prefix 112 n) (hll_numbers st.hll) (bytes_field 5 st.hll.«data»)
unfolding start_of hll_start
start_is st n = four _ _ _ _ refl

-- ---- lengths

-- A tag and the number behind it have at most 10 bytes each.
pub pair_le : (t v : ℕ) → length (pair t v) ≤ 20
pair_le t v = omega (arith, two_length (pair_is {x = t} refl v), len_le 10 t, len_le 10 v)

pub prefix_le : (field n : ℕ) → length (length_prefix field n) ≤ 20
prefix_le field n = pair_le (tag field LEN) n

pub int32_le : (omitted field v : ℕ) → length (int32_unless omitted field v) ≤ 20
unfolding int32_unless
int32_le omitted field v = go (eqb v omitted)
  where
    go : (b : Bool) → length (cond b [] (number_field field (sign_extended v))) ≤ 20
    go true = omega arith
    go false = pair_le (tag field VARINT) (sign_extended v)

pub hll_numbers_length : (h : HllState)
    → length (hll_numbers h)
    ≡ length (int32_unless 0 2 h.sparse_size) + length (int32_unless 0 3 h.precision) + length (int32_unless 0 4 h.sparse_precision)
hll_numbers_length h = let t = hll_numbers_are h in omega (arith, two_length t.first, two_length t.second)

pub hll_numbers_le : (h : HllState) → length (hll_numbers h) ≤ 60
hll_numbers_le h = omega (arith, hll_numbers_length h, int32_le 0 2 h.sparse_size, int32_le 0 3 h.precision, int32_le 0 4 h.sparse_precision)

pub outer_numbers_length : (st : State)
    → length (outer_numbers st)
    ≡ length (number_field 1 (sign_extended st.aggregator_type)) + length (number_field 2 st.num_values)
    + length (int32_unless 1 3 st.encoding_version) + length (int32_unless 0 4 st.value_type)
outer_numbers_length st = let t = outer_numbers_are st in omega (arith, two_length t.first, two_length t.second, two_length t.third)

pub outer_numbers_le : (st : State) → length (outer_numbers st) ≤ 80
outer_numbers_le st =
    omega (
      arith,
      outer_numbers_length st,
      pair_le (tag 1 VARINT) (sign_extended st.aggregator_type),
      pair_le (tag 2 VARINT) st.num_values,
      int32_le 1 3 st.encoding_version,
      int32_le 0 4 st.value_type,
    )

-- A data field has its bytes and at most 20 more.
pub field_le : (field : ℕ) (o : Option (List ℕ)) → length (bytes_field field o) ≤ 20 + length (bytes_or_none o)
unfolding bytes_field
field_le field none = omega arith
field_le field (some d) = simp length-append (omega (arith, prefix_le field (length d)))

pub field_ge : (field : ℕ) (o : Option (List ℕ)) → length (bytes_or_none o) ≤ length (bytes_field field o)
unfolding bytes_field
field_ge field none = omega arith
field_ge field (some d) = simp length-append (omega arith)

-- The bytes of a part are no more than all the bytes.
pub part_le : (s : List ℕ) (present : Bool) (p : Part) → length (bytes_or_none (part_of s present p)) ≤ length s
part_le s present p = go present
  where
    go : (b : Bool) → length (bytes_or_none (when_present b (take p.len (drop p.start s)))) ≤ length s
    go true = simp (length-take, length-drop) (omega (arith, min-le_right p.len (length s - p.start)))
    go false = omega arith

pub hll_start_length : (h : HllState) → length (hll_start h) ≡ length (hll_numbers h) + length (bytes_field 5 h.«data»)
unfolding hll_start
hll_start_length h = length-append (hll_numbers h) (bytes_field 5 h.«data»)

hll_is : (h : HllState) → Two (hll_bytes h) (hll_start h) (bytes_field 6 h.sparse_data)
unfolding hll_bytes hll_start
hll_is h = record { is = sym (append_assoc (hll_numbers h) (bytes_field 5 h.«data») (bytes_field 6 h.sparse_data)) }

pub hll_length : (h : HllState) → length (hll_bytes h) ≡ length (hll_start h) + length (bytes_field 6 h.sparse_data)
hll_length h = two_length (hll_is h)

-- All of it that is not data has at most 100 bytes.
pub hll_le : (h : HllState) → length (hll_bytes h) ≤ 100 + (length (bytes_or_none h.«data») + length (bytes_or_none h.sparse_data))
hll_le h = omega (arith, hll_length h, hll_start_length h, hll_numbers_le h, field_le 5 h.«data», field_le 6 h.sparse_data)

pub encode_length : (st : State)
    → length (encode_of st) ≡ length (outer_numbers st) + length (length_prefix 112 (length (hll_bytes st.hll))) + length (hll_bytes st.hll)
unfolding encode_of bytes_field
encode_length st = simp length-append (omega arith)

-- Its two data fields lie in it.
pub encode_ge : (st : State) → length (bytes_or_none st.hll.«data») + length (bytes_or_none st.hll.sparse_data) ≤ length (encode_of st)
encode_ge st =
    omega (
      arith,
      encode_length st,
      hll_length st.hll,
      hll_start_length st.hll,
      field_ge 5 st.hll.«data»,
      field_ge 6 st.hll.sparse_data,
    )

-- All that is not data has at most 200 bytes.
pub encode_le : (st : State) → length (encode_of st) ≤ 200 + (length (bytes_or_none st.hll.«data») + length (bytes_or_none st.hll.sparse_data))
encode_le st = omega (arith, encode_length st, outer_numbers_le st, prefix_le 112 (length (hll_bytes st.hll)), hll_le st.hll)

-- ---- a state, cut before its sparse data

nested_is : (h : HllState) → bytes_field 112 (some (hll_bytes h)) ≡ length_prefix 112 (length (hll_bytes h)) ++ hll_bytes h
unfolding bytes_field
nested_is h = refl

encode_cut : (st : State) → encode_of st ≡ start_of st (length (hll_bytes st.hll)) ++ bytes_field 6 st.hll.sparse_data
unfolding encode_of start_of
encode_cut st =
    let p = length_prefix 112 (length (hll_bytes st.hll)) in
    let t = bytes_field 6 st.hll.sparse_data in
    ap (λ (l : List ℕ). outer_numbers st ++ l)
    (nested_is st.hll ∙ ap (λ (l : List ℕ). p ++ l) (hll_is st.hll).is ∙ sym (append_assoc p (hll_start st.hll) t))
    ∙ sym (append_assoc (outer_numbers st) (p ++ hll_start st.hll) t)

-- n is the length of the nested message.
pub encode_is : (st : State) (n : ℕ) → n ≡ length (hll_bytes st.hll) → Two (encode_of st) (start_of st n) (bytes_field 6 st.hll.sparse_data)
encode_is st n e = record { is = encode_cut st ∙ ap (λ (k : ℕ). start_of st k ++ bytes_field 6 st.hll.sparse_data) (sym e) }

hll_head_is : (h : HllState) (n : ℕ) → Two (hll_head h n) (hll_start h) (length_prefix 6 n)
unfolding hll_head hll_start
hll_head_is h n = record { is = sym (append_assoc (hll_numbers h) (bytes_field 5 h.«data») (length_prefix 6 n)) }

pub hll_head_length : (h : HllState) (n : ℕ) → length (hll_head h n) ≡ length (hll_start h) + length (length_prefix 6 n)
hll_head_length h n = two_length (hll_head_is h n)

pub hll_head_le : (h : HllState) (n : ℕ) → length (hll_head h n) ≤ 100 + length (bytes_or_none h.«data»)
hll_head_le h n = omega (arith, hll_head_length h n, prefix_le 6 n, hll_start_length h, hll_numbers_le h, field_le 5 h.«data»)

module _ (st : State) (n nested : ℕ) (e : nested ≡ length (hll_head st.hll n) + n) where
  head_cut : head_of st n ≡ start_of st nested ++ length_prefix 6 n
  unfolding head_of start_of
  head_cut =
      let p = length_prefix 112 nested in
      let t = length_prefix 6 n in
      ap (λ (l : List ℕ). outer_numbers st ++ l)
      (ap₂ (λ (k : ℕ) (l : List ℕ). length_prefix 112 k ++ l) (sym e) (hll_head_is st.hll n).is
      ∙ sym (append_assoc p (hll_start st.hll) t))
      ∙ sym (append_assoc (outer_numbers st) (p ++ hll_start st.hll) t)

  pub head_is : Two (head_of st n) (start_of st nested) (length_prefix 6 n)
  head_is = record { is = head_cut }

  pub head_length : length (head_of st n) ≡ length (outer_numbers st) + length (length_prefix 112 nested) + length (hll_head st.hll n)
  unfolding head_of
  head_length =
      ap (λ (k : ℕ). length (outer_numbers st ++ (length_prefix 112 k ++ hll_head st.hll n))) (sym e) ∙ simp length-append (omega arith)

-- The nested message's length is no more than the whole's.
pub head_length_ge : (st : State) (n : ℕ) → length (hll_head st.hll n) ≤ length (head_of st n)
head_length_ge st n = omega (arith, head_length st n (length (hll_head st.hll n) + n) refl)

-- The sparse data of a state has no part in its head.
pub head_any : (st : State) (o : Option (List ℕ)) (n : ℕ)
    → head_of st n
    ≡ head_of
    (record {
      aggregator_type = st.aggregator_type;
      num_values = st.num_values;
      encoding_version = st.encoding_version;
      value_type = st.value_type;
      hll =
          record {
            sparse_size = st.hll.sparse_size;
            precision = st.hll.precision;
            sparse_precision = st.hll.sparse_precision;
            «data» = st.hll.«data»;
            sparse_data = o;
          };
    })
    n
unfolding head_of hll_head hll_numbers outer_numbers
head_any st o n = refl

-- With the bytes of the sparse data behind it, the head is the whole state.
pub head_tail : (st : State) (l : List ℕ) → st.hll.sparse_data ≡ some l → encode_of st ≡ head_of st (length l) ++ l
unfolding bytes_field
head_tail st l e =
    let n = length (hll_bytes st.hll) in
    let six : bytes_field 6 st.hll.sparse_data ≡ length_prefix 6 (length l) ++ l = ap (λ (o : Option (List ℕ)). bytes_field 6 o) e in
    let k : n ≡ length (hll_head st.hll (length l)) + length l = (
    omega (arith, hll_length st.hll, hll_head_length st.hll (length l), ap (λ (b : List ℕ). length b) six ∙ length-append (length_prefix 6 (length l)) l)
    ) in
    encode_cut st
    ∙ ap (λ (b : List ℕ). start_of st n ++ b) six
    ∙ sym (append_assoc (start_of st n) (length_prefix 6 (length l)) l)
    ∙ ap (λ (b : List ℕ). b ++ l) (sym (head_cut st (length l) n k))

-- ---- the answers of `encode`

pub encode_no : (st : State) (room : ℕ) → room < length (encode_of st) → encode_step st room ≡ record { answer = 23; bytes = [] }
unfolding encode_step
encode_no st room h = ap (λ (b : Bool). cond b (record { answer = 0; bytes = encode_of st }) (record { answer = 23; bytes = [] })) (lt-leb _ _ h)

pub encode_yes : (st : State) (room : ℕ) → length (encode_of st) ≤ room → encode_step st room ≡ record { answer = 0; bytes = encode_of st }
unfolding encode_step
encode_yes st room h = ap (λ (b : Bool). cond b (record { answer = 0; bytes = encode_of st }) (record { answer = 23; bytes = [] })) (le-leb _ _ h)

module _ (st : State) (out : List ℕ) where
  pub encode_short : length out < length (encode_of st) → EncodePost st out (Err OutputTooShort) out
  encode_short h =
      record {
        answer = ap (λ (o : Output). o.answer) (sym step);
        written = ap (λ (o : Output). length o.bytes) (sym step);
        output = ap (λ (o : Output). o.bytes ++ drop (length o.bytes) out) (sym step);
      }
    where
      step : encode_step st (length out) ≡ record { answer = 23; bytes = [] }
      step = encode_no st (length out) h

  pub encode_written : (r : ℕ) (after : List ℕ) → length (encode_of st) ≤ length out → PutPost out 0 (encode_of st) r after
      → EncodePost st out (Ok r) after
  encode_written r after h p =
      record {
        answer = ap (λ (o : Output). o.answer) (sym step);
        written = p.next ∙ zero-add _ ∙ ap (λ (o : Output). length o.bytes) (sym step);
        output =
            p.output
            ∙ sets-eq (encode_of st) out 0 (omega arith)
            ∙ ap (λ (k : ℕ). encode_of st ++ drop k out) (zero-add (length (encode_of st)))
            ∙ ap (λ (o : Output). o.bytes ++ drop (length o.bytes) out) (sym step);
      }
    where
      step : encode_step st (length out) ≡ record { answer = 0; bytes = encode_of st }
      step = encode_yes st (length out) h
