-- Laws of varints, at every width: reading, writing, one from the other, and their length.
use Prim.Native.Nat.{ℕ, zero, suc, ◌+◌, ◌*◌, ◌-◌, ◌/◌, ◌%◌, ◌^◌, ◌<◌, ◌≤◌}
use mathlib.Core.Path.{◌≡◌, refl, sym, ap, ap₂, ◌∙◌, subst}
use mathlib.Core.List.{List, [], ◌∷◌, ◌++◌}
use mathlib.Core.Logic.{⊎_elim}
use native.Mathlib.Nat.{add_comm, mul-add, mul_comm, mul_assoc, mul-mod_left, add-zero, mod-add-mod, div-lt_iff_lt-mul, mod-le, mod-lt, lt_of_le_of_lt, zero-lt-suc}
use native.Mathlib.Numerals.{add-one}
use native.Mathlib.Omega.{arith}
use lib.ListN.{length, set, drop, get_or, drop_of_length-le}
use lib.Seq.{drop-cons, sets}
use lib.Pow.{mod-pow-add, high, low, shl-shr, pow-add}
use lib.Bits.{bit_or, bit_and, or_shifted_r, and_mask}
use lib.Arith.{digits_lt}
use borrow.Author.Tests.{lt-ltb, le-ltb}
use Rattle.std.specs.Prelude.{Ok, Err}
use Rattle.std.proofs.lemmas.Bool.{cases_lt as side}
use Rattle.wire.specs.declared.read_error.ReadError.TheVariants.{Truncated, VarintTooLong}
use Rattle.wire.specs.Reading.{Read, got, refused}
use Rattle.wire.specs.Varints.{payload, varint_of, low_bits, varint64, varint_bytes, VarintPost}

-- ---- reading

-- In no bytes there is none.
pub varint_none : (l : List ℕ) → varint_of zero l ≡ refused 4
unfolding varint_of
varint_none l = refl

module _ (s : List ℕ) (at n : ℕ) where
  pub varint_end : length s ≤ at → varint_of (suc n) (drop at s) ≡ refused 3
  unfolding varint_of
  varint_end h = rw drop_of_length-le

  pub varint_last : at < length s → get_or s at 0 < 128 → varint_of (suc n) (drop at s) ≡ got (get_or s at 0) (drop (at + 1) s)
  unfolding varint_of
  varint_last h l = rw (drop-cons s at 0, lt-ltb _ _ l, add-one)

  pub varint_more : at < length s → 128 ≤ get_or s at 0 → varint_of (suc n) (drop at s) ≡ payload (get_or s at 0 % 128) (varint_of n (drop (at + 1) s))
  unfolding varint_of
  varint_more h l = rw (drop-cons s at 0, le-ltb _ _ l, add-one)

-- Payloads in front, of the value x, of what the rest reads as, which weighs w.
abbrev pub weighed : ℕ → ℕ → Read ℕ → Read ℕ
weighed w x (got v l) = got (x + w * v) l
weighed w x (refused n) = refused n

weighed_none : (r : Read ℕ) → weighed 1 0 r ≡ r
weighed_none (got v l) = ap (λ (x : ℕ). got x l) (omega arith)
weighed_none (refused n) = refl

-- One payload more.
weighed_more : (w x y : ℕ) (r : Read ℕ) → weighed w x (payload y r) ≡ weighed (w * 128) (x + y * w) r
weighed_more w x y (got v l) =
    ap (λ (z : ℕ). got z l)
    (let e : x + w * (y + 128 * v) ≡ x + y * w + w * 128 * v = omega (arith, mul-add w y (128 * v), mul_comm y w, mul_assoc w 128 v) in e)
weighed_more w x y (refused n) = refl

-- Where a reader of at most `width` bytes is: those before `at` have the value x, and what the rest reads as, in at most n bytes, weighs w.
pub record Begun (width : ℕ) (s : List ℕ) (start at n w x : ℕ) : Type 0 where
  pub on : start ≤ at
  pub small : x < w
  pub whole : varint_of width (drop start s) ≡ weighed w x (varint_of n (drop at s))

pub begun_none : (width : ℕ) (s : List ℕ) (start : ℕ) → Begun width s start start width 1 0
begun_none width s start = record { on = omega arith; small = omega arith; whole = sym (weighed_none (varint_of width (drop start s))) }

pub begun_long : {width : ℕ} {s : List ℕ} {start at w x : ℕ} → Begun width s start at 0 w x → varint_of width (drop start s) ≡ refused 4
begun_long {s = s} {at = at} {w = w} {x = x} g = g.whole ∙ ap (weighed w x) (varint_none (drop at s))

module _ {width : ℕ} {s : List ℕ} {start at w x : ℕ} (n : ℕ) (g : Begun width s start at (suc n) w x) where
  pub begun_end : length s ≤ at → varint_of width (drop start s) ≡ refused 3
  begun_end h = g.whole ∙ ap (weighed w x) (varint_end s at n h)

  -- b is the byte at `at`, as the reader has it
  module _ {b : ℕ} (inside : at < length s) (e : b ≡ get_or s at 0) where
    pub begun_last : b < 128 → varint_of width (drop start s) ≡ got (x + b * w) (drop (at + 1) s)
    begun_last l =
        g.whole
        ∙ ap (weighed w x) (varint_last s at n inside (subst (λ (y : ℕ). y < 128) e l))
        ∙ ap (λ (y : ℕ). got (x + y) (drop (at + 1) s)) (mul_comm w (get_or s at 0) ∙ ap (λ (y : ℕ). y * w) (sym e))

    pub begun_more : {z : ℕ} → 128 ≤ b → z ≡ x + b % 128 * w → Begun width s start (at + 1) n (w * 128) z
    begun_more {z} l f =
        let d = digits_lt {q = b % 128} {m = 128} (mod-lt b (zero-lt-suc 127)) g.small in
        record {
          on = omega (arith, g.on);
          small = omega (arith, d, mul_comm 128 w);
          whole =
              g.whole
              ∙ ap (weighed w x) (varint_more s at n inside (subst (λ (y : ℕ). 128 ≤ y) e l))
              ∙ weighed_more w x (get_or s at 0 % 128) (varint_of n (drop (at + 1) s))
              ∙ ap (λ (y : ℕ). weighed (w * 128) y (varint_of n (drop (at + 1) s))) (ap (λ (y : ℕ). x + y % 128 * w) (sym e) ∙ sym f);
        }

-- The weight of payload n + 1.
pub weight_more : (n : ℕ) → 2 ^ (7 * (n + 1)) ≡ 2 ^ (7 * n) * 128
weight_more n = ap (λ (k : ℕ). 2 ^ k) (let e : 7 * (n + 1) ≡ 7 * n + 7 = omega arith in e) ∙ pow-add 2 (7 * n) 7

-- An or of k bits and a number shifted above them is the sum's low bits, at any width j + k.
or_shl : (j k x y : ℕ) → x < 2 ^ k → bit_or x ((y * 2 ^ k) % 2 ^ (j + k)) ≡ (x + y * 2 ^ k) % 2 ^ (j + k)
or_shl j k x y h =
    ap (bit_or x) (mod-pow-add (y * 2 ^ k) j k ∙ ap₂ (λ (a b : ℕ). a % 2 ^ j * 2 ^ k + b) (shl-shr y k) (mul-mod_left y (2 ^ k)) ∙ add-zero _)
    ∙ or_shifted_r (y % 2 ^ j) k x h
    ∙ sym
    (ap (λ (n : ℕ). n % 2 ^ (j + k)) (add_comm x (y * 2 ^ k))
    ∙ mod-pow-add (y * 2 ^ k + x) j k
    ∙ ap₂ (λ (a b : ℕ). a % 2 ^ j * 2 ^ k + b) (high y k h) (low y k h))

-- The reader's `acc | ((b & 0x7f) << (7 * n))`.
abbrev pub put : ℕ → ℕ → ℕ → ℕ
put n acc b = bit_or acc ((bit_and b 127 * 2 ^ (7 * n)) % 2 ^ 64)

-- Of the low 64 bits of x it makes those of the sum.
put_sum : (n x b : ℕ) → n < 10 → x < 2 ^ (7 * n) → put n (x % 2 ^ 64) b ≡ (x + b % 128 * 2 ^ (7 * n)) % 2 ^ 64
put_sum n x b h l =
    let acc = x % 2 ^ 64 in
    ap (λ (y : ℕ). bit_or acc ((y * 2 ^ (7 * n)) % 2 ^ 64)) (and_mask b 7)
    ∙ subst (λ (w : ℕ). bit_or acc ((b % 128 * 2 ^ (7 * n)) % 2 ^ w) ≡ (acc + b % 128 * 2 ^ (7 * n)) % 2 ^ w)
    (let e : (64 - 7 * n) + 7 * n ≡ 64 = omega arith in e) (or_shl (64 - 7 * n) (7 * n) acc (b % 128) (lt_of_le_of_lt (mod-le x (2 ^ 64)) l))
    ∙ mod-add-mod x (2 ^ 64) (b % 128 * 2 ^ (7 * n))

-- A state's varint: the low 64 bits.
low_is : (l : List ℕ) (r : Read ℕ) → varint_of 10 l ≡ r → low_bits 64 r ≡ varint64 l
unfolding varint64
low_is l r e = ap (λ (x : Read ℕ). low_bits 64 x) (sym e)

module _ {s : List ℕ} {start at w x : ℕ} (n : ℕ) (g : Begun 10 s start at (suc n) w x) where
  last_post : {b v : ℕ} → at < length s → b ≡ get_or s at 0 → b < 128 → v ≡ (x + b * w) % 2 ^ 64 → VarintPost s start (Ok (v, record { at = at + 1 }))
  last_post {b} inside e l f =
      record {
        answer =
            ap (λ (y : ℕ). got y (drop (at + 1) s)) f
            ∙ low_is (drop start s) (got (x + b * w) (drop (at + 1) s)) (begun_last n g inside e l);
        inside = (omega (arith, g.on), omega arith);
      }

pub one_byte : {s : List ℕ} {at b : ℕ} → at < length s → b ≡ get_or s at 0 → b < 128 → VarintPost s at (Ok (b, record { at = at + 1 }))
one_byte {s} {at} h e l = last_post 9 (begun_none 10 s at) h e l (omega arith)

-- Where the reader of a long varint is: n bytes were read, and acc has the low 64 bits of their value.
pub record Reading (s : List ℕ) (start at n acc : ℕ) : Type 0 where
  pub few : n ≤ 10
  pub exact : ℕ
  pub begun : Begun 10 s start at (10 - n) (2 ^ (7 * n)) exact
  pub low : acc ≡ exact % 2 ^ 64

module _ {s : List ℕ} {start at n acc : ℕ} (r : Reading s start at n acc) where
  left : (m : ℕ) → 10 - n ≡ m → Begun 10 s start at m (2 ^ (7 * n)) r.exact
  left m e = subst (λ (k : ℕ). Begun 10 s start at k (2 ^ (7 * n)) r.exact) e r.begun

  pub reading_long : 10 ≤ n → VarintPost s start (Err VarintTooLong)
  reading_long h = record { answer = low_is (drop start s) (refused 4) (begun_long (left 0 (omega (arith, r.few)))); inside = tt }

  module _ (fewer : n < 10) where
    pub reading_cut : length s ≤ at → VarintPost s start (Err Truncated)
    reading_cut h = record { answer = low_is (drop start s) (refused 3) (begun_end (9 - n) (left (suc (9 - n)) (omega arith)) h); inside = tt }

    module _ {b : ℕ} (inside : at < length s) (e : b ≡ get_or s at 0) where
      put_is : put n acc b ≡ (r.exact + b % 128 * 2 ^ (7 * n)) % 2 ^ 64
      put_is = ap (λ (x : ℕ). put n x b) r.low ∙ put_sum n r.exact b fewer r.begun.small

      pub reading_last : b < 128 → VarintPost s start (Ok (put n acc b, record { at = at + 1 }))
      reading_last l =
          last_post (9 - n) (left (suc (9 - n)) (omega arith)) inside e l
          (put_is ∙ ap (λ (x : ℕ). (r.exact + x * 2 ^ (7 * n)) % 2 ^ 64) (let f : b % 128 ≡ b = omega arith in f))

      -- The next byte is the one after `at`.
      pub reading_more : {next : ℕ} → next ≡ at + 1 → 128 ≤ b → Reading s start next (n + 1) (put n acc b)
      reading_more f l =
          record {
            few = omega arith;
            exact = r.exact + b % 128 * 2 ^ (7 * n);
            begun =
                subst (λ (k : ℕ). Begun 10 s start k (10 - (n + 1)) (2 ^ (7 * (n + 1))) (r.exact + b % 128 * 2 ^ (7 * n))) (sym f)
                (subst (λ (w : ℕ). Begun 10 s start (at + 1) (10 - (n + 1)) w (r.exact + b % 128 * 2 ^ (7 * n))) (sym (weight_more n))
                (begun_more (10 - (n + 1)) (left (suc (10 - (n + 1))) (omega arith)) inside e l refl));
            low = put_is;
          }

-- ---- writing

pub bytes_last : (n v : ℕ) → v < 128 → varint_bytes (suc n) v ≡ v ∷ []
unfolding varint_bytes
bytes_last n v h = rw (lt-ltb _ _ h)

pub bytes_more : (n v : ℕ) → 128 ≤ v → varint_bytes (suc n) v ≡ (v % 128 + 128) ∷ varint_bytes n (v / 128)
unfolding varint_bytes
bytes_more n v h = rw (le-ltb _ _ h)

-- What is left of a number of at most n + 2 bytes after its lowest seven bits.
rest_lt : (n v : ℕ) → v < 2 ^ (7 * (suc n + 1)) → v / 128 < 2 ^ (7 * (n + 1))
rest_lt n v h =
    subst (λ (k : ℕ). v / 128 < 2 ^ (7 * k)) (sym (add-one n))
    ((div-lt_iff_lt-mul (zero-lt-suc 127)).1 (subst (λ (x : ℕ). v < x) (weight_more (suc n)) h))

pub len_last : (n v : ℕ) → v < 128 → length (varint_bytes (suc n) v) ≡ 1
len_last n v h = rw (bytes_last n v h)

pub len_more : (n v : ℕ) → 128 ≤ v → length (varint_bytes (suc n) v) ≡ 1 + length (varint_bytes n (v / 128))
len_more n v h = rw (bytes_more n v h) (omega arith)

-- A value takes a byte or more, and no more than its width.
pub len_pos : (n v : ℕ) → 1 ≤ length (varint_bytes (suc n) v)
len_pos n v = ⊎_elim (λ (h : v < 128). omega (arith, len_last n v h)) (λ (h : 128 ≤ v). omega (arith, len_more n v h)) (side v 128)

pub len_le : (n v : ℕ) → length (varint_bytes n v) ≤ n
unfolding varint_bytes
len_le zero v = omega arith
len_le (suc n) v =
    ⊎_elim (λ (h : v < 128). omega (arith, len_last n v h)) (λ (h : 128 ≤ v). omega (arith, len_more n v h, len_le n (v / 128))) (side v 128)

-- The written length, by where the number lies.
pub len_one : (n v : ℕ) → v < 0x80 → length (varint_bytes (suc n) v) ≡ 1
len_one n v h = len_last n v h

pub len_two : (n v : ℕ) → 0x80 ≤ v → v < 0x4000 → length (varint_bytes (suc (suc n)) v) ≡ 2
len_two n v h k = len_more (suc n) v h ∙ ap (λ (m : ℕ). 1 + m) (len_one n (v / 128) (omega arith))

pub len_three : (n v : ℕ) → 0x4000 ≤ v → v < 0x20_0000 → length (varint_bytes (suc (suc (suc n))) v) ≡ 3
len_three n v h k = len_more (suc (suc n)) v (omega arith) ∙ ap (λ (m : ℕ). 1 + m) (len_two n (v / 128) (omega arith) (omega arith))

pub len_four : (n v : ℕ) → 0x20_0000 ≤ v → v < 0x1000_0000 → length (varint_bytes (suc (suc (suc (suc n)))) v) ≡ 4
len_four n v h k = len_more (suc (suc (suc n))) v (omega arith) ∙ ap (λ (m : ℕ). 1 + m) (len_three n (v / 128) (omega arith) (omega arith))

pub len_five : (n v : ℕ) → 0x1000_0000 ≤ v → v < 2 ^ 35 → length (varint_bytes (suc (suc (suc (suc (suc n))))) v) ≡ 5
len_five n v h k = len_more (suc (suc (suc (suc n)))) v (omega arith) ∙ ap (λ (m : ℕ). 1 + m) (len_four n (v / 128) (omega arith) (omega arith))

-- A number below 128 ^ n is written alike at every width from n on: a u32 takes 1 to 5 bytes, a u64 1 to 10.
pub bytes_wider : (n m v : ℕ) → v < 2 ^ (7 * (n + 1)) → varint_bytes (suc (n + m)) v ≡ varint_bytes (suc n) v
bytes_wider zero m v h = bytes_last (zero + m) v h ∙ sym (bytes_last zero v h)
bytes_wider (suc n) m v h =
    ⊎_elim (λ (l : v < 128). bytes_last (suc n + m) v l ∙ sym (bytes_last (suc n) v l))
    (λ (l : 128 ≤ v).
    bytes_more (suc n + m) v l
    ∙ ap (λ (k : ℕ). (v % 128 + 128) ∷ varint_bytes k (v / 128)) (let e : suc n + m ≡ suc (n + m) = omega arith in e)
    ∙ ap (λ (l' : List ℕ). (v % 128 + 128) ∷ l')
    (bytes_wider n m (v / 128) (rest_lt n v h))
    ∙ sym (bytes_more (suc n) v l)) (side v 128)

-- What was written in at most n + 1 bytes is read back, whatever follows.
back_last : (n v : ℕ) (l : List ℕ) → v < 128 → varint_of (suc n) (varint_bytes (suc n) v ++ l) ≡ got v l
unfolding varint_of
back_last n v l p = rw (bytes_last n v p, lt-ltb _ _ p)

back_more : (n v : ℕ) (l : List ℕ) → varint_of n (varint_bytes n (v / 128) ++ l) ≡ got (v / 128) l → 128 ≤ v
    → varint_of (suc n) (varint_bytes (suc n) v ++ l) ≡ got v l
unfolding varint_of
back_more n v l ih p =
    let more : 128 ≤ v % 128 + 128 = omega arith in
    rw (bytes_more n v p, le-ltb _ _ more)
    (ap (payload ((v % 128 + 128) % 128)) ih
    ∙ ap (λ (x : ℕ). got x l) (let e : (v % 128 + 128) % 128 + 128 * (v / 128) ≡ v = omega arith in e))

pub there_and_back : (n v : ℕ) (l : List ℕ) → v < 2 ^ (7 * (n + 1)) → varint_of (suc n) (varint_bytes (suc n) v ++ l) ≡ got v l
there_and_back zero v l h = back_last zero v l h
there_and_back (suc n) v l h =
    ⊎_elim (back_last (suc n) v l)
    (back_more (suc n) v l
    (there_and_back n (v / 128) l (rest_lt n v h))) (side v 128)

-- A value in its fewest bytes is no longer than the bytes that it was read from.
pub short_varint : (n : ℕ) (l : List ℕ) (v : ℕ) (rest : List ℕ) → varint_of n l ≡ got v rest → length (varint_bytes n v) + length rest ≤ length l
short_varint zero l v rest e = absurd (let z : ◌≡◌ {A = ℕ} 0 1 = cc (varint_none l) in omega arith)
short_varint (suc n) [] v rest e = absurd (let z : ◌≡◌ {A = ℕ} 0 1 = cc (varint_end [] 0 n (omega arith)) in omega arith)
short_varint (suc n) (b ∷ l) v rest e =
    ⊎_elim
    (λ (h : b < 128).
    let f : got b l ≡ got v rest = sym (varint_last (b ∷ l) 0 n (omega arith) h) ∙ e in
    let x : b ≡ v = cc in
    let y : l ≡ rest = cc in
    omega (arith, ap length y, len_last n v (subst (λ (k : ℕ). k < 128) x h)))
    (λ (h : 128 ≤ b). go (short_varint n l) (varint_of n l) refl (sym (varint_more (b ∷ l) 0 n (omega arith) h) ∙ e)) (side b 128)
  where
    go : ((w : ℕ) (rest : List ℕ) → varint_of n l ≡ got w rest → length (varint_bytes n w) + length rest ≤ length l)
        → (r : Read ℕ) → varint_of n l ≡ r → payload (b % 128) r ≡ got v rest → length (varint_bytes (suc n) v) + length rest ≤ suc (length l)
    go ih (refused k) f g = absurd (let z : ◌≡◌ {A = ℕ} 0 1 = cc in omega arith)
    go ih (got w rest') f g =
        let x : b % 128 + 128 * w ≡ v = cc in
        let y : rest' ≡ rest = cc in
        let i : length (varint_bytes n w) + length rest ≤ length l = ih w rest (f ∙ ap (λ (z : List ℕ). got w z) y) in
        ⊎_elim (λ (h : v < 128). let a : length (varint_bytes (suc n) v) + length rest ≤ suc (length l) = omega (arith, len_last n v h) in a)
        (λ (h : 128 ≤ v).
        let q : v / 128 ≡ w = omega arith in
        let a : length (varint_bytes (suc n) v) + length rest ≤ suc (length l) = omega (arith, len_more n v h, ap (λ (k : ℕ). length (varint_bytes n k)) q) in a)
        (side v 128)

-- Where the writer is: m is how many bytes more the number may have.
pub record Left (out : List ℕ) (at v : ℕ) (done : List ℕ) (past : ℕ) : Type 0 where
  pub m : ℕ
  pub small : v < 2 ^ (7 * (m + 1))
  pub room : at + length (varint_bytes (suc m) v) ≡ past
  pub same : done ≡ sets out at (varint_bytes (suc m) v)

pub left_more : {out done : List ℕ} {at v past : ℕ} → 128 ≤ v → Left out at v done past
    → Left (set out at (v % 128 + 128)) (at + 1) (v / 128) done past
left_more {out} {done} {at} {v} {past} h r = go r.m r.small r.room r.same
  where
    go : (m : ℕ) → v < 2 ^ (7 * (m + 1)) → at + length (varint_bytes (suc m) v) ≡ past → done ≡ sets out at (varint_bytes (suc m) v)
        → Left (set out at (v % 128 + 128)) (at + 1) (v / 128) done past
    go zero s r e = absurd (let z : ⊥ = omega arith in z)
    go (suc m) s r e = record {
      m = m;
      small = rest_lt m v s;
      room = omega (arith, len_more (suc m) v h);
      same =
          e
          ∙ ap (sets out at) (bytes_more (suc m) v h)
          ∙ ap (λ (k : ℕ). sets (set out at (v % 128 + 128)) k (varint_bytes (suc m) (v / 128))) (sym (add-one at));
    }

pub left_last : {out done : List ℕ} {at v past : ℕ} → v < 128 → Left out at v done past → (at + 1 ≡ past) × (set out at v ≡ done)
left_last {out} {at = at} {v = v} h r = (omega (arith, len_last r.m v h), sym (r.same ∙ ap (sets out at) (bytes_last r.m v h)))

-- ---- the length of a varint, counted

-- k is how many bytes more the number may have.
pub record Counted (v n rest : ℕ) : Type 0 where
  pub k : ℕ
  pub small : rest < 2 ^ (7 * (k + 1))
  pub whole : n + length (varint_bytes (suc k) rest) ≡ 1 + length (varint_bytes 10 v)

pub counted_none : (v : ℕ) → v < 2 ^ 64 → Counted v 1 v
counted_none v h = record { k = 9; small = omega arith; whole = refl }

pub counted_more : {v n rest : ℕ} → 128 ≤ rest → Counted v n rest → Counted v (n + 1) (rest / 128)
counted_more {v} {n} {rest} h r = go r.k r.small r.whole
  where
    go : (k : ℕ) → rest < 2 ^ (7 * (k + 1)) → n + length (varint_bytes (suc k) rest) ≡ 1 + length (varint_bytes 10 v) → Counted v (n + 1) (rest / 128)
    go zero s e = absurd (let z : ⊥ = omega arith in z)
    go (suc k) s e = record {
      k = k;
      small = rest_lt k rest s;
      whole = omega (arith, len_more (suc k) rest h);
    }

-- It is at most ten.
pub counted_le : {v n rest : ℕ} → Counted v n rest → n ≤ 10
counted_le {v} {rest = rest} r = omega (arith, r.whole, len_pos r.k rest, len_le 10 v)

pub counted_last : {v n rest : ℕ} → rest < 128 → Counted v n rest → n ≡ length (varint_bytes 10 v)
counted_last {rest = rest} h r = omega (arith, r.whole, len_last r.k rest h)
