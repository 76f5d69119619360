-- Laws of the reader of small lists: the bytes that it has seen are fields as the writer puts them, so they are read back.
use Prim.Native.Nat.{ℕ, suc, ◌+◌, ◌-◌, ◌<◌, ◌≤◌}
use mathlib.Core.Path.{◌≡◌, refl, sym, ap, ap₂, ◌∙◌, subst}
use mathlib.Core.List.{List, [], ◌∷◌, ◌++◌}
use mathlib.Core.Option.{none, some}
use mathlib.Core.Bool.{true, false}
use mathlib.Core.Logic.{◌⊎◌, inl, inr, ⊎_elim}
use native.Mathlib.Omega.{arith}
use lib.ListN.{length, get_or, take, drop, length-drop}
use lib.Seq.{drop-cons, drop-drop, take_all, get_or-drop}
use lib.Bits.{bit_or, or_add_and, and_le_l, and_le_r}
use Rattle.std.specs.Prelude.{Ok}
use Rattle.wire.specs.declared.state.Fields.{Fields}
use Rattle.wire.specs.Reading.{Read, got}
use Rattle.wire.specs.Varints.{varint_bytes}
use Rattle.wire.specs.Fields.{tag, VARINT, LEN}
use Rattle.wire.specs.State.{HllState, State, empty_hll, empty_state, hll_field, read_hll, outer_field, read_state, ParsePost}
use Rattle.wire.specs.Encoding.{pair, number_field, sign_extended, bytes_field}
use Rattle.wire.proofs.VarintLaws.{bytes_last}
use Rattle.wire.proofs.EncodingLaws.{signed_small}
use Rattle.wire.proofs.FieldLaws.{Reads, reads_message, Leads, leads_reads, leads_int32}
use Rattle.wire.proofs.RoundTrip.{hll_with, sparse_data_leads, state_with, type_leads, count_leads, nested_leads}

-- ---- what the reader has seen

-- Before `at` stand type 112, a value count, version 2, and a value type v or, where v is 0, none.
record SmallStart (s : List ℕ) (at v : ℕ) : Type 0 where
  long : 8 ≤ length s
  type_tag : get_or s 0 0 ≡ 8
  type_value : get_or s 1 0 ≡ 112
  count_tag : get_or s 2 0 ≡ 16
  version_tag : get_or s 4 0 ≡ 24
  version_value : get_or s 5 0 ≡ 2
  value_type : ((at ≡ 6) × (v ≡ 0)) ⊎ ((at ≡ 8) × (get_or s 6 0 ≡ 32) × (v ≡ get_or s 7 0))

-- Field 112's tag, `82 07`, stands at `at`, and the tags of the message's fields behind its length and each number, all of one byte.
record NestedTags (s : List ℕ) (at : ℕ) : Type 0 where
  nested : get_or s at 0 ≡ 130
  nested_high : get_or s (at + 1) 0 ≡ 7
  size : get_or s (at + 3) 0 ≡ 16
  precision : get_or s (at + 5) 0 ≡ 24
  sparse_precision : get_or s (at + 7) 0 ≡ 32
  sparse_data : get_or s (at + 9) 0 ≡ 50

-- The message is the rest of the bytes, field 6 the rest of the message, and every number one byte.
record SmallNested (s : List ℕ) (at : ℕ) : Type 0 where
  room : at + 11 ≤ length s
  short : length s ≤ at + 130
  tags : NestedTags s at
  size : get_or s (at + 4) 0 < 128
  precision : get_or s (at + 6) 0 < 128
  sparse_precision : get_or s (at + 8) 0 < 128
  nested_length : get_or s (at + 2) 0 ≡ length s - at - 3
  data_length : get_or s (at + 10) 0 ≡ length s - at - 11

-- The fields of such a state.
abbrev small_fields : List ℕ → ℕ → ℕ → Fields
small_fields s at v =
    record {
      aggregator_type = 112;
      num_values = get_or s 3 0;
      encoding_version = 2;
      value_type = v;
      hll =
          record {
            sparse_size = get_or s (at + 4) 0;
            precision = get_or s (at + 6) 0;
            sparse_precision = get_or s (at + 8) 0;
            data_present = false;
            sparse_data_present = true;
            «data» = record { start = 0; len = 0 };
            sparse_data = record { start = at + 11; len = length s - at - 11 };
          };
    }

-- Both parts of an or of bits lie below what it lies below, and so do all five.
or_parts : (a b : ℕ) {k : ℕ} → bit_or a b < k → (a < k) × (b < k)
or_parts a b h = (omega (arith, or_add_and a b, and_le_r a b), omega (arith, or_add_and a b, and_le_l a b))

record SixBelow (k a b c d e f : ℕ) : Type 0 where
  first : a < k
  second : b < k
  third : c < k
  fourth : d < k
  fifth : e < k
  sixth : f < k

or_six : (a b c d e f : ℕ) {k : ℕ} → bit_or (bit_or (bit_or (bit_or (bit_or a b) c) d) e) f < k → SixBelow k a b c d e f
or_six a b c d e f h =
    let five = or_parts (bit_or (bit_or (bit_or (bit_or a b) c) d) e) f h in
    let four = or_parts (bit_or (bit_or (bit_or a b) c) d) e five.0 in
    let three = or_parts (bit_or (bit_or a b) c) d four.0 in
    let two = or_parts (bit_or a b) c three.0 in
    let one = or_parts a b two.0 in
    record { first = one.0; second = one.1; third = two.1; fourth = three.1; fifth = four.1; sixth = five.1 }

-- ---- two bytes, as those of a field that was written

two_at : (s : List ℕ) (at i : ℕ) → at + (i + 1) < length s
    → drop (at + i) s ≡ get_or s (at + i) 0 ∷ (get_or s (at + (i + 1)) 0 ∷ drop (at + (i + 2)) s)
two_at s at i h =
    drop-cons s (at + i) 0 (omega arith)
    ∙ ap (λ (l : List ℕ). get_or s (at + i) 0 ∷ l)
    (ap (λ (k : ℕ). drop k s) (let e : suc (at + i) ≡ at + (i + 1) = omega arith in e)
    ∙ drop-cons s (at + (i + 1)) 0 h
    ∙ ap (λ (k : ℕ). get_or s (at + (i + 1)) 0 ∷ drop k s) (let e : suc (at + (i + 1)) ≡ at + (i + 2) = omega arith in e))

small_number : (f v : ℕ) → f < 16 → v < 128 → number_field f v ≡ tag f VARINT ∷ (v ∷ [])
unfolding pair
small_number f v h k = ap₂ (λ (x y : List ℕ). x ++ y) (bytes_last 9 (tag f VARINT) (omega arith)) (bytes_last 9 v k)

small_bytes : (f : ℕ) (d : List ℕ) → f < 15 → length d < 128 → bytes_field f (some d) ≡ tag f LEN ∷ (length d ∷ d)
unfolding bytes_field pair
small_bytes f d h k = ap₂ (λ (x y : List ℕ). (x ++ y) ++ d) (bytes_last 9 (tag f LEN) (omega arith)) (bytes_last 9 (length d) k)

-- The tag of field 112 has two bytes.
tag_112 : varint_bytes 10 (tag 112 LEN) ≡ 130 ∷ (7 ∷ [])
unfolding varint_bytes
tag_112 = refl

nested_bytes : (m : List ℕ) → length m < 128 → bytes_field 112 (some m) ≡ 130 ∷ (7 ∷ (length m ∷ m))
unfolding bytes_field pair
nested_bytes m h = ap₂ (λ (x y : List ℕ). (x ++ y) ++ m) tag_112 (bytes_last 9 (length m) h)

-- The number v of the field f stands at `at + i`.
module _
    {A : Type 0}
    {field : ℕ → List ℕ → A → Read A}
    (s : List ℕ)
    (at i f v : ℕ)
    (few : f < 16)
    (small : v < 128)
    (inside : at + (i + 1) < length s)
    (first : get_or s (at + i) 0 ≡ tag f VARINT)
    (second : get_or s (at + (i + 1)) 0 ≡ v)
    {a b : A}
    {r : Read A}
  where
    number_at : Leads field a b (number_field f v) → Reads field (drop (at + (i + 2)) s) b r → Reads field (drop (at + i) s) a r
    number_at p q =
        subst (λ (x : List ℕ). Reads field x a r)
        (ap (λ (x : List ℕ). x ++ drop (at + (i + 2)) s) (small_number f v few small)
        ∙ ap₂ (λ (x y : ℕ). x ∷ (y ∷ drop (at + (i + 2)) s)) (sym first) (sym second)
        ∙ sym (two_at s at i inside))
        (p.on (drop (at + (i + 2)) s) r q)

    int32_at : Leads field a b (number_field f (sign_extended v)) → Reads field (drop (at + (i + 2)) s) b r → Reads field (drop (at + i) s) a r
    int32_at p = number_at (subst (λ (x : ℕ). Leads field a b (number_field f x)) (sym (signed_small v (omega arith))) p)

-- ---- the nested message

module _ (s : List ℕ) (at : ℕ) (n : SmallNested s at) where
  abbrev small_hll : List ℕ → HllState
  small_hll d = hll_with (get_or s (at + 4) 0) (get_or s (at + 6) 0) (get_or s (at + 8) 0) none (some d)

  data_read : Reads hll_field (drop (at + 9) s) (hll_with (get_or s (at + 4) 0) (get_or s (at + 6) 0) (get_or s (at + 8) 0) none none)
      (got (small_hll (drop (at + 11) s)) [])
  data_read =
      let d = drop (at + 11) s in
      let l : length d ≡ get_or s (at + 10) 0 = omega (arith, length-drop (at + 11) s, n.data_length) in
      let e : bytes_field 6 (some d) ≡ 50 ∷ (length d ∷ d) = small_bytes 6 d (omega arith) (omega (arith, l, n.data_length, n.room, n.short)) in
      subst (λ (x : List ℕ). Reads hll_field x (hll_with (get_or s (at + 4) 0) (get_or s (at + 6) 0) (get_or s (at + 8) 0) none none) (got (small_hll d) []))
      (e ∙ ap₂ (λ (x y : ℕ). x ∷ (y ∷ d)) (sym n.tags.sparse_data) l ∙ sym (two_at s at 9 (omega (arith, n.room))))
      (leads_reads (sparse_data_leads (some d) (omega (arith, ap length e, n.data_length, n.room, n.short))))

  message_read : read_hll (drop (at + 3) s) empty_hll ≡ got (small_hll (drop (at + 11) s)) []
  unfolding read_hll hll_field
  message_read =
      let size = get_or s (at + 4) 0 in
      let p = get_or s (at + 6) 0 in
      let q = get_or s (at + 8) 0 in
      reads_message hll_field (drop (at + 3) s) empty_hll (got (small_hll (drop (at + 11) s)) [])
      (int32_at s at 3 2 size (omega arith) n.size (omega (arith, n.room)) n.tags.size refl
      (leads_int32 2 (omega arith) (omega arith) (λ (x : ℕ). hll_with x 0 0 none none) (λ (l : List ℕ). refl) size (omega (arith, n.size)))
      (int32_at s at 5 3 p (omega arith) n.precision (omega (arith, n.room)) n.tags.precision refl
      (leads_int32 3 (omega arith) (omega arith) (λ (x : ℕ). hll_with size x 0 none none) (λ (l : List ℕ). refl) p (omega (arith, n.precision)))
      (int32_at s at 7 4 q (omega arith) n.sparse_precision (omega (arith, n.room)) n.tags.sparse_precision refl
      (leads_int32 4 (omega arith) (omega arith) (λ (x : ℕ). hll_with size p x none none) (λ (l : List ℕ). refl) q
      (omega (arith, n.sparse_precision)))
      data_read)))

  nested_at : {c v : ℕ} → Reads outer_field (drop at s) (state_with 112 c 2 v empty_hll) (got (state_with 112 c 2 v (small_hll (drop (at + 11) s))) [])
  nested_at {c} {v} =
      let m = drop (at + 3) s in
      let l : length m ≡ get_or s (at + 2) 0 = omega (arith, length-drop (at + 3) s, n.nested_length) in
      let k : length m < 128 = omega (arith, l, n.nested_length, n.room, n.short) in
      subst (λ (x : List ℕ). Reads outer_field x (state_with 112 c 2 v empty_hll) (got (state_with 112 c 2 v (small_hll (drop (at + 11) s))) []))
      (nested_bytes m k
      ∙ ap₂ (λ (x : ℕ) (y : List ℕ). x ∷ y) (sym n.tags.nested)
      (ap₂ (λ (x y : ℕ). x ∷ (y ∷ m)) (sym n.tags.nested_high) l
      ∙ sym (two_at s at 1 (omega (arith, n.room)))
      ∙ ap (λ (j : ℕ). drop j s) (let e : at + 1 ≡ suc at = omega arith in e))
      ∙ sym (drop-cons s at 0 (omega (arith, n.room))))
      (leads_reads (nested_leads m (omega arith) message_read))

-- ---- the whole

module _ (s : List ℕ) (at v : ℕ) (h : SmallStart s at v) (count : get_or s 3 0 < 128) (value : v < 128) where
  start_read : {r : Read State} → Reads outer_field (drop 6 s) (state_with 112 (get_or s 3 0) 2 0 empty_hll) r → Reads outer_field s empty_state r
  unfolding outer_field
  start_read q =
      int32_at s 0 0 1 112 (omega arith) (omega arith) (omega (arith, h.long)) h.type_tag h.type_value (type_leads (omega arith))
      (number_at s 0 2 2 (get_or s 3 0) (omega arith) count (omega (arith, h.long)) h.count_tag refl (count_leads (omega arith))
      (int32_at s 0 4 3 2 (omega arith) (omega arith) (omega (arith, h.long)) h.version_tag h.version_value
      (leads_int32 3 (omega arith) (omega arith) (λ (x : ℕ). state_with 112 (get_or s 3 0) x 0 empty_hll) (λ (l : List ℕ). refl) 2 (omega arith)) q))

  started : {r : Read State} → Reads outer_field (drop at s) (state_with 112 (get_or s 3 0) 2 v empty_hll) r → Reads outer_field s empty_state r
  unfolding outer_field
  started {r} q =
      ⊎_elim
      (λ (e : (at ≡ 6) × (v ≡ 0)).
      start_read (subst (λ (k : ℕ). Reads outer_field (drop k s) (state_with 112 (get_or s 3 0) 2 0 empty_hll) r) e.0
      (subst (λ (x : ℕ). Reads outer_field (drop at s) (state_with 112 (get_or s 3 0) 2 x empty_hll) r) e.1 q)))
      (λ (e : (at ≡ 8) × (get_or s 6 0 ≡ 32) × (v ≡ get_or s 7 0)).
      start_read
      (int32_at s 0 6 4 v (omega arith) value (omega (arith, h.long)) e.1 (sym e.2)
      (leads_int32 4 (omega arith) (omega arith) (λ (x : ℕ). state_with 112 (get_or s 3 0) 2 x empty_hll) (λ (l : List ℕ). refl) v (omega arith))
      (subst (λ (k : ℕ). Reads outer_field (drop k s) (state_with 112 (get_or s 3 0) 2 v empty_hll) r) e.0 q)))
      h.value_type

  small_list_read : SmallNested s at → ParsePost s (Ok (small_fields s at v))
  unfolding read_state
  small_list_read n =
      record {
        answer =
            ap (λ (d : List ℕ). got (state_with 112 (get_or s 3 0) 2 v (small_hll s at n d)) [])
            (take_all (length s - at - 11) (drop (at + 11) s) (omega (arith, length-drop (at + 11) s)))
            ∙ sym
            (reads_message outer_field s empty_state (got (state_with 112 (get_or s 3 0) 2 v (small_hll s at n (drop (at + 11) s))) [])
            (started (nested_at s at n)));
        inside =
            record {
              «data» = record { inside = omega arith; absent = (refl, refl) };
              sparse_data = record { inside = omega (arith, n.room); absent = tt };
            };
      }

-- ---- the code's answer

-- The bytes from the nested message on, by their places among them, and how many bytes the list has.
pub record SmallBytes (n : List ℕ) (len : ℕ) : Type 0 where
  pub long : 11 ≤ length n
  pub rest : len ≡ length n - 11
  pub nested : get_or n 0 0 ≡ 130
  pub nested_high : get_or n 1 0 ≡ 7
  pub nested_length : get_or n 2 0 ≡ len + 8
  pub size : get_or n 3 0 ≡ 16
  pub precision : get_or n 5 0 ≡ 24
  pub sparse_precision : get_or n 7 0 ≡ 32
  pub sparse_data : get_or n 9 0 ≡ 50
  pub data_length : get_or n 10 0 ≡ len

-- The bytes in front of it.
pub record SmallFront (s : List ℕ) : Type 0 where
  pub type_tag : get_or s 0 0 ≡ 8
  pub type_value : get_or s 1 0 ≡ 112
  pub count_tag : get_or s 2 0 ≡ 16
  pub version_tag : get_or s 4 0 ≡ 24
  pub version_value : get_or s 5 0 ≡ 2

-- Where it starts, and the value type in front of it.
pub record SmallPlace (s n : List ℕ) (v : ℕ) : Type 0 where
  pub at : ℕ
  pub near : at ≤ length s
  pub bytes : n ≡ drop at s
  pub value_type : ((at ≡ 6) × (v ≡ 0)) ⊎ ((at ≡ 8) × (get_or s 6 0 ≡ 32) × (v ≡ get_or s 7 0))

rest_is : (s : List ℕ) (k : ℕ) → take (length s - k) (drop k s) ≡ drop k s
rest_is s k = take_all (length s - k) (drop k s) (omega (arith, length-drop k s))

pub rest_length : (n : List ℕ) (k : ℕ) → length (take (length n - k) (drop k n)) ≡ length n - k
rest_length n k = ap length (rest_is n k) ∙ length-drop k n

pub no_value_type : {s n : List ℕ} {v : ℕ} → 6 ≤ length s → n ≡ take (length s - 6) (drop 6 s) → v ≡ 0 → SmallPlace s n v
no_value_type {s} l e z = record { at = 6; near = l; bytes = e ∙ rest_is s 6; value_type = inl (refl, z) }

pub with_value_type : {s n r : List ℕ} {v : ℕ} → r ≡ take (length s - 6) (drop 6 s) → 2 ≤ length r → get_or r 0 0 ≡ 32 → v ≡ get_or r 1 0
    → n ≡ take (length r - 2) (drop 2 r)
    → SmallPlace s n v
with_value_type {s} {n} {r} p l t z e =
    let d : r ≡ drop 6 s = p ∙ rest_is s 6 in
    record {
      at = 8;
      near = omega (arith, ap length d, length-drop 6 s);
      bytes = e ∙ rest_is r 2 ∙ ap (λ (l : List ℕ). drop 2 l) d ∙ drop-drop 2 6 s;
      value_type =
          inr (
            refl,
            sym (ap (λ (l : List ℕ). get_or l 0 0) d ∙ get_or-drop 6 s 0 0) ∙ t,
            z ∙ ap (λ (l : List ℕ). get_or l 1 0) d ∙ get_or-drop 6 s 1 0,
          );
    }

module _ {s n : List ℕ} {v len : ℕ} (p : SmallPlace s n v) (b : SmallBytes n len) where
  there : (k : ℕ) → get_or n k 0 ≡ get_or s (p.at + k) 0
  there k = ap (λ (l : List ℕ). get_or l k 0) p.bytes ∙ get_or-drop p.at s k 0

  lengths : length n ≡ length s - p.at
  lengths = ap length p.bytes ∙ length-drop p.at s

  -- It starts at 6 or 8.
  small_long : 6 ≤ p.at
  small_long = ⊎_elim (λ e. omega (arith, e.0)) (λ e. omega (arith, e.0)) p.value_type

  small_tags : NestedTags s p.at
  small_tags =
      record {
        nested = ap (λ (k : ℕ). get_or s k 0) (let e : p.at ≡ p.at + 0 = omega arith in e) ∙ sym (there 0) ∙ b.nested;
        nested_high = sym (there 1) ∙ b.nested_high;
        size = sym (there 3) ∙ b.size;
        precision = sym (there 5) ∙ b.precision;
        sparse_precision = sym (there 7) ∙ b.sparse_precision;
        sparse_data = sym (there 9) ∙ b.sparse_data;
      }

  pub small_list_got : SmallFront s
      → bit_or (bit_or (bit_or (bit_or (bit_or (get_or s 3 0) v) (get_or n 4 0)) (get_or n 6 0)) (get_or n 8 0)) (get_or n 2 0) < 128
      → {count value_type size precision sparse_precision start : ℕ}
      → count ≡ get_or s 3 0
      → value_type ≡ v
      → size ≡ get_or n 4 0
      → precision ≡ get_or n 6 0
      → sparse_precision ≡ get_or n 8 0
      → start ≡ length s - len
      → ParsePost s
      (Ok
      (record {
        aggregator_type = 112;
        num_values = count;
        encoding_version = 2;
        value_type = value_type;
        hll =
            record {
              sparse_size = size;
              precision = precision;
              sparse_precision = sparse_precision;
              data_present = false;
              sparse_data_present = true;
              «data» = record { start = 0; len = 0 };
              sparse_data = record { start = start; len = len };
            };
      }))
  small_list_got f o {start = start} c x y z w u =
      let six = or_six (get_or s 3 0) v (get_or n 4 0) (get_or n 6 0) (get_or n 8 0) (get_or n 2 0) o in
      let at = p.at in
      let start_is : at + 11 ≡ start = omega (arith, u, lengths, p.near, b.rest, b.long) in
      let len_is : length s - at - 11 ≡ len = omega (arith, lengths, b.rest) in
      rw (c, x, y ∙ there 4, z ∙ there 6, w ∙ there 8, sym start_is, sym len_is)
      (small_list_read s at v
      (record {
        long = omega (arith, lengths, b.long, p.near, small_long);
        type_tag = f.type_tag;
        type_value = f.type_value;
        count_tag = f.count_tag;
        version_tag = f.version_tag;
        version_value = f.version_value;
        value_type = p.value_type;
      })
      six.first six.second
      (record {
        room = omega (arith, lengths, b.long, p.near);
        short = omega (arith, lengths, six.sixth, b.nested_length, b.rest, b.long, p.near);
        tags = small_tags;
        size = subst (λ (k : ℕ). k < 128) (there 4) six.third;
        precision = subst (λ (k : ℕ). k < 128) (there 6) six.fourth;
        sparse_precision = subst (λ (k : ℕ). k < 128) (there 8) six.fifth;
        nested_length = omega (arith, there 2, b.nested_length, b.rest, lengths, b.long);
        data_length = omega (arith, there 10, b.data_length, b.rest, lengths);
      }))
