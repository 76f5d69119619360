-- Laws of the values of a sparse list: the mark, validity, index, register and rank, and lowering. Of the other law files only MergeLaws unfolds one of
-- their definitions, the mark, for the groups of 64 values that it makes.
use Rattle.std.proofs.Common.{◌≡◌, ℕ, zero, suc, ◌+◌, ◌-◌, ◌*◌, ◌/◌, ◌%◌, ◌^◌, ◌<◌, ◌≤◌, Bool, true, false, cond, not, ◌&&◌, eqb, ltb, leb, ◌⊎◌, sym, refl, ap, ◌∙◌, subst, inl, inr, ⊎_elim, true≢false, zero-le, le_refl, mul-le-mul_right, mod-lt, mod-eq_of_lt, zero-lt-suc, add_comm, arith, pow_pos, pow_mono, pow-add, shl_lt, shr_lt, ltb-true, le-ltb, lt-ltb, eq-eqb, ne_eqb, eqb-true, le-leb, leb-true}
use mathlib.Core.Bool.{and-true}
use native.Mathlib.Nat.{div-eq_of_lt, le-max_left, le-max_right, max-le}
use lib.Arith.{digits_lt, digits_div}
use lib.Pow.{pow-lt, shl-shr, mod-pow-add}
use lib.Bits.{bit_and, and_high, and_mask}
use lib.Count.{count_leading_zeros, leading_le, leading_top, leading_length, leading_unique}
use borrow.Author.Tests.{eqb-false, lt-leb}
use Rattle.wire.proofs.BoolLaws.{both_true, whichever}
use Rattle.std.proofs.lemmas.Bool.{cases_lt as side}
use mir.Val.{bool_byte}
use Rattle.lists.specs.Values.{mark_bit, mark, marked, plain_end, marked_end, least_marked_rank, marked_rank_fits, valid, sparse_index, register, plain_rank, rank, largest_rank, lowered_rank, lowered_register, Pair, IndexPost, RankPost}

-- ---- tests

pub decided : (t : Bool) → (t ≡ true) ⊎ (t ≡ false)
decided true = inl refl
decided false = inr refl

-- ---- bits

-- Bit k of a number, where it stands.
pub and_bit : (v k : ℕ) → bit_and v (2 ^ k) ≡ v / 2 ^ k % 2 * 2 ^ k
and_bit v k = ap (bit_and v) (let e : 2 ^ k ≡ 2 ^ (1 + k) - 2 ^ k = omega (arith, pow-add 2 1 k) in e) ∙ and_high v 1 k

-- The code's test of bit k.
pub bit_test : (v k : ℕ) → not (eqb (bit_and v (2 ^ k)) 0) ≡ eqb (v / 2 ^ k % 2) 1
bit_test v k =
    ⊎_elim
    (λ (h : v / 2 ^ k % 2 < 1).
    let none : v / 2 ^ k % 2 ≡ 0 = omega arith in
    ap not (eq-eqb _ 0 (and_bit v k ∙ ap (λ (b : ℕ). b * 2 ^ k) none ∙ (let z : 0 * 2 ^ k ≡ 0 = omega arith in z)))
    ∙ sym (ne_eqb (v / 2 ^ k % 2) 1 (λ (e : v / 2 ^ k % 2 ≡ 1). omega arith)))
    (λ (h : 1 ≤ v / 2 ^ k % 2).
    let one : v / 2 ^ k % 2 ≡ 1 = omega arith in
    ap not (ne_eqb (bit_and v (2 ^ k)) 0
    (λ (e : bit_and v (2 ^ k) ≡ 0).
    let f : 1 * 2 ^ k ≡ 0 = sym (and_bit v k ∙ ap (λ (b : ℕ). b * 2 ^ k) one) ∙ e in omega (arith, pow_pos k)))
    ∙ sym (eq-eqb (v / 2 ^ k % 2) 1 one))
    (side (v / 2 ^ k % 2) 1)

-- ---- the mark

module _ (p s : ℕ) where
  mark_sparse : 2 ^ s ≤ mark p s
  unfolding mark
  mark_sparse = pow_mono (le-max_left s (p + 6))

  pub mark_index : 64 * 2 ^ p ≤ mark p s
  unfolding mark
  mark_index = omega (arith, pow-add 2 p 6, pow_mono (le-max_right s (p + 6)))

  pub mark_64 : mark p s % 64 ≡ 0
  unfolding mark
  mark_64 =
      let e : mark_bit p s ≡ (mark_bit p s - 6) + 6 = omega (arith, le-max_right s (p + 6)) in
      omega (arith, ap (λ (k : ℕ). 2 ^ k) e ∙ pow-add 2 (mark_bit p s - 6) 6)

  pub mark_le : Pair p s → mark p s ≤ 2 ^ 30
  unfolding mark
  mark_le pair = pow_mono (max-le (let e : s ≤ 30 = omega (arith, pair.top) in e) (let e : p + 6 ≤ 30 = omega (arith, pair.high) in e))

  pub mark_lt : Pair p s → mark p s < 2 ^ 31
  mark_lt pair = omega (arith, mark_le pair)

  -- The code's mark.
  pub mark_shl : Pair p s → (1 * 2 ^ mark_bit p s) % 2 ^ 32 ≡ mark p s
  unfolding mark
  mark_shl pair = omega (arith, mark_le pair)

  -- ---- the ends of the plain and of the marked values, and the least low six bits of a marked one

  pub plain_end_none : s ≡ p → plain_end p s ≡ 0
  unfolding plain_end
  plain_end_none e = rw (eq-eqb s p e)

  pub plain_end_some : (s ≡ p → ⊥) → plain_end p s ≡ 2 ^ s
  unfolding plain_end
  plain_end_some n = rw (ne_eqb s p n)

  pub plain_end_le : plain_end p s ≤ 2 ^ s
  unfolding plain_end
  plain_end_le = whichever (λ (n : ℕ). n ≤ 2 ^ s) (eqb s p) 0 (2 ^ s) zero-le (le_refl (2 ^ s))

  pub plain_end_mark : plain_end p s ≤ mark p s
  plain_end_mark = omega (arith, plain_end_le, mark_sparse)

  pub least_one : s ≡ p → least_marked_rank p s ≡ 1
  unfolding least_marked_rank
  least_one e = rw (eq-eqb s p e)

  pub least_none : (s ≡ p → ⊥) → least_marked_rank p s ≡ 0
  unfolding least_marked_rank
  least_none n = rw (ne_eqb s p n)

  pub least_le : least_marked_rank p s ≤ 1
  unfolding least_marked_rank
  least_le = whichever (λ (n : ℕ). n ≤ 1) (eqb s p) 1 0 (le_refl 1) zero-le

module _ (p s v : ℕ) where
  -- The code's test of the mark.
  pub marked_test : not (eqb (bit_and v (mark p s)) 0) ≡ marked p s v
  unfolding mark marked
  marked_test = bit_test v (mark_bit p s)

  pub below_mark : v < mark p s → marked p s v ≡ false
  unfolding marked
  below_mark h = ne_eqb (v / mark p s % 2) 1 (λ (e : v / mark p s % 2 ≡ 1). omega (arith, div-eq_of_lt h))

  pub above_mark : v < mark p s → marked p s (mark p s + v) ≡ true
  unfolding marked
  above_mark h =
      eq-eqb ((mark p s + v) / mark p s % 2) 1
      (ap (λ (k : ℕ). k % 2)
      (ap (λ (n : ℕ). n / mark p s) (let e : mark p s + v ≡ 1 * mark p s + v = omega arith in e) ∙ digits_div 1 h))

  pub marked_ge : marked p s v ≡ true → mark p s ≤ v
  marked_ge e = ⊎_elim (λ (h : v < mark p s). absurd (true≢false (sym e ∙ below_mark h))) (λ (h : mark p s ≤ v). h) (side v (mark p s))

  -- ---- validity

  pub plain_is : marked p s v ≡ false → valid p s v ≡ ltb v (plain_end p s)
  unfolding valid
  plain_is e = rw e

  marked_is : marked p s v ≡ true → valid p s v ≡ (ltb v (marked_end p s) && marked_rank_fits p s v)
  unfolding valid
  marked_is e = rw e

  plain_valid : marked p s v ≡ false → v < plain_end p s → valid p s v ≡ true
  plain_valid e h = plain_is e ∙ lt-ltb v (plain_end p s) h

  pub small_valid : v < plain_end p s → valid p s v ≡ true
  small_valid h = plain_valid (below_mark (omega (arith, plain_end_mark p s))) h

  pub valid_plain : marked p s v ≡ false → valid p s v ≡ true → v < plain_end p s
  valid_plain e t = ltb-true v (plain_end p s) (sym (plain_is e) ∙ t)

  -- The low six bits of a marked value: from the least ones to 65 - s.
  rank_range : marked_rank_fits p s v ≡ true → (least_marked_rank p s ≤ v % 64) × (v % 64 ≤ 65 - s)
  rank_range t =
      let b = both_true (leb (least_marked_rank p s) (v % 64)) (leb (v % 64) (65 - s)) t in
      (leb-true (least_marked_rank p s) (v % 64) b.0, leb-true (v % 64) (65 - s) b.1)

  module _ (e : marked p s v ≡ true) where
    module _ (t : valid p s v ≡ true) where
      pub valid_index : v < marked_end p s
      valid_index = ltb-true v (marked_end p s) (both_true _ (marked_rank_fits p s v) (sym (marked_is e) ∙ t)).0

      pub valid_fits : marked_rank_fits p s v ≡ true
      valid_fits = (both_true (ltb v (marked_end p s)) _ (sym (marked_is e) ∙ t)).1

      valid_low : v % 64 ≤ 65 - s
      valid_low = (rank_range valid_fits).1

      valid_least : least_marked_rank p s ≤ v % 64
      valid_least = (rank_range valid_fits).0

    -- What the code asks of a marked value, one question after the other.
    pub marked_far : marked_end p s ≤ v → valid p s v ≡ false
    marked_far h = marked_is e ∙ ap (λ (t : Bool). t && marked_rank_fits p s v) (le-ltb v (marked_end p s) h)

    pub marked_near : v < marked_end p s → valid p s v ≡ marked_rank_fits p s v
    marked_near h = marked_is e ∙ ap (λ (t : Bool). t && marked_rank_fits p s v) (lt-ltb v (marked_end p s) h)

    -- Where the low six bits are a rank, the index alone is open.
    pub marked_fitting : marked_rank_fits p s v ≡ true → valid p s v ≡ ltb v (marked_end p s)
    marked_fitting t = marked_is e ∙ ap (λ (b : Bool). ltb v (marked_end p s) && b) t ∙ and-true (ltb v (marked_end p s))

  pub valid_lt : Pair p s → valid p s v ≡ true → v < 2 ^ 31
  valid_lt pair t =
      ⊎_elim (λ (e : marked p s v ≡ true). omega (arith, valid_index e t, mark_index p s, mark_le p s pair))
      (λ (e : marked p s v ≡ false). omega (arith, valid_plain e t, plain_end_mark p s, mark_lt p s pair)) (decided (marked p s v))

  -- ---- index and register

  pub sparse_plain : marked p s v ≡ false → sparse_index p s v ≡ v
  unfolding sparse_index
  sparse_plain e = rw e

  pub sparse_marked : marked p s v ≡ true → sparse_index p s v ≡ (v - mark p s) / 64 * 2 ^ (s - p)
  unfolding sparse_index
  sparse_marked e = rw e

  pub register_plain : marked p s v ≡ false → register p s v ≡ v / 2 ^ (s - p)
  unfolding register
  register_plain e = rw e

  pub register_marked : marked p s v ≡ true → register p s v ≡ (v - mark p s) / 64
  unfolding register
  register_marked e = rw e

  -- A register is the upper bits of the sparse index.
  pub register_sparse : register p s v ≡ sparse_index p s v / 2 ^ (s - p)
  register_sparse =
      ⊎_elim
      (λ (e : marked p s v ≡ true).
      register_marked e
      ∙ sym (shl-shr ((v - mark p s) / 64) (s - p))
      ∙ ap (λ (x : ℕ). x / 2 ^ (s - p)) (sym (sparse_marked e)))
      (λ (e : marked p s v ≡ false). register_plain e ∙ ap (λ (x : ℕ). x / 2 ^ (s - p)) (sym (sparse_plain e))) (decided (marked p s v))

  index_lt : marked p s v ≡ true → valid p s v ≡ true → (v - mark p s) / 64 < 2 ^ p
  index_lt e t = omega (arith, valid_index e t, marked_ge e)

  pub sparse_lt : Pair p s → valid p s v ≡ true → sparse_index p s v < 2 ^ s
  sparse_lt pair t =
      ⊎_elim
      (λ (e : marked p s v ≡ true).
      subst (λ (x : ℕ). x < 2 ^ s) (sym (sparse_marked e))
      (subst (λ (k : ℕ). (v - mark p s) / 64 * 2 ^ (s - p) < 2 ^ k) (let f : p + (s - p) ≡ s = omega (arith, pair.above) in f)
      (shl_lt p (s - p) (index_lt e t))))
      (λ (e : marked p s v ≡ false). omega (arith, sparse_plain e, valid_plain e t, plain_end_le p s)) (decided (marked p s v))

  pub register_lt : Pair p s → valid p s v ≡ true → register p s v < 2 ^ p
  register_lt pair t =
      subst (λ (x : ℕ). x < 2 ^ p) (sym register_sparse)
      (shr_lt p (s - p) (subst (λ (k : ℕ). sparse_index p s v < 2 ^ k) (let f : s ≡ p + (s - p) = omega (arith, pair.above) in f) (sparse_lt pair t)))

-- ---- leading zeros

-- d digits more in front of a number of k digits are d leading zeros more.
pub wider : (d k n : ℕ) → n < 2 ^ k → d + count_leading_zeros k n ≡ count_leading_zeros (d + k) n
wider d k n h =
    let t = leading_length k n h in
    leading_unique (d + k) n (d + count_leading_zeros k n) t.0 (omega (arith, t.1)) t.2 t.3

-- Digits below a number that is not 0 do not change its leading zeros.
pub top_digits : (e d hi lo : ℕ) → 0 < hi → hi < 2 ^ e → lo < 2 ^ d → count_leading_zeros e hi ≡ count_leading_zeros (e + d) (hi * 2 ^ d + lo)
top_digits e d hi lo h l m =
    let t = leading_top e hi h l in
    leading_unique (e + d) (hi * 2 ^ d + lo) (count_leading_zeros e hi) (suc t.0 + d) (omega (arith, t.1))
    (subst (λ (x : ℕ). hi * 2 ^ d + lo < x) (sym (pow-add 2 (suc t.0) d)) (digits_lt {q = hi} {m = 2 ^ suc t.0} t.3 m))
    (let twice : 2 ^ (suc t.0 + d) ≡ 2 * 2 ^ (t.0 + d) = ap (λ (k : ℕ). 2 ^ k) (let f : suc t.0 + d ≡ 1 + (t.0 + d) = omega arith in f) ∙ pow-add 2 1 (t.0 + d) in
    omega (arith, twice, pow-add 2 t.0 d, mul-le-mul_right (2 ^ d) t.2))

-- A number that is not 0 has fewer leading zeros than digits.
pub leading_lt : (k n : ℕ) → 0 < n → n < 2 ^ k → count_leading_zeros k n < k
leading_lt k n h l = let t = leading_top k n h l in omega (arith, t.1)

-- The code's mask of the low k bits, and the leading zeros of them.
pub one_shl : (k : ℕ) → k < 32 → (1 * 2 ^ k) % 2 ^ 32 ≡ 2 ^ k
one_shl k h = omega (arith, pow-lt h)

pub masked : (v k : ℕ) → k < 32 → bit_and v ((1 * 2 ^ k) % 2 ^ 32 - 1) ≡ v % 2 ^ k
masked v k h = ap (λ (m : ℕ). bit_and v (m - 1)) (one_shl k h) ∙ and_mask v k

pub masked_zeros : (v k : ℕ) → k < 32 → count_leading_zeros 32 (bit_and v ((1 * 2 ^ k) % 2 ^ 32 - 1)) ≡ 32 - k + count_leading_zeros k (v % 2 ^ k)
masked_zeros v k h =
    ap (count_leading_zeros 32) (masked v k h)
    ∙ sym
    (wider (32 - k) k (v % 2 ^ k) (mod-lt v (pow_pos k))
    ∙ ap (λ (w : ℕ). count_leading_zeros w (v % 2 ^ k)) (let e : 32 - k + k ≡ 32 = omega arith in e))

-- ---- ranks

plain_rank_lem : (bits v : ℕ) → plain_rank bits v ≡ 1 + count_leading_zeros bits (v % 2 ^ bits)
unfolding plain_rank
plain_rank_lem bits v = refl

plain_rank_le : (bits v : ℕ) → plain_rank bits v ≤ 1 + bits
plain_rank_le bits v = omega (arith, plain_rank_lem bits v, leading_le bits (v % 2 ^ bits))

module _ (p s v : ℕ) where
  pub rank_plain : marked p s v ≡ false → rank p s v ≡ plain_rank (s - p) v
  unfolding rank
  rank_plain e = rw e

  pub rank_marked : marked p s v ≡ true → rank p s v ≡ v % 64 + (s - p)
  unfolding rank
  rank_marked e = rw e

  module _ (pair : Pair p s) (t : valid p s v ≡ true) where
    pub rank_le : rank p s v ≤ largest_rank p
    rank_le =
        ⊎_elim (λ (e : marked p s v ≡ true). omega (arith, rank_marked e, valid_low p s v e t, pair.above, pair.top))
        (λ (e : marked p s v ≡ false). omega (arith, rank_plain e, plain_rank_le (s - p) v, pair.above, pair.top)) (decided (marked p s v))

    -- "Every value is marked when no bits lie between the precisions" (U3), and no rank is 0.
    equal_marked : s ≡ p → marked p s v ≡ true
    equal_marked e =
        ⊎_elim (λ (m : marked p s v ≡ true). m)
        (λ (m : marked p s v ≡ false). absurd (let z : ⊥ = omega (arith, valid_plain p s v m t, plain_end_none p s e) in z)) (decided (marked p s v))

    marked_positive : marked p s v ≡ true → 0 < rank p s v
    marked_positive e =
        ⊎_elim (λ (h : p < s). omega (arith, rank_marked e))
        (λ (h : s ≤ p). omega (arith, rank_marked e, valid_least p s v e t, least_one p s (let f : s ≡ p = omega (arith, pair.above) in f))) (side p s)

    pub valid_ranked : (s ≡ p → marked p s v ≡ true) × (0 < rank p s v)
    valid_ranked = (
      equal_marked,
      ⊎_elim marked_positive (λ (e : marked p s v ≡ false). omega (arith, rank_plain e, plain_rank_lem (s - p) v)) (decided (marked p s v)),
    )

-- ---- lowering

module _ (d index r : ℕ) where
  pub lowered_zero : index % 2 ^ d ≡ 0 → lowered_rank d index r ≡ r + d
  unfolding lowered_rank
  lowered_zero e = rw (eq-eqb (index % 2 ^ d) 0 e)

  pub lowered_bits : 0 < index % 2 ^ d → lowered_rank d index r ≡ 1 + count_leading_zeros d (index % 2 ^ d)
  unfolding lowered_rank
  lowered_bits h = rw (ne_eqb (index % 2 ^ d) 0 (λ (e : index % 2 ^ d ≡ 0). omega arith))

  pub lowered_register_lem : 1 ≤ r → lowered_register d index r ≡ lowered_rank d index r
  unfolding lowered_register
  lowered_register_lem h = rw (ne_eqb r 0 (λ (e : r ≡ 0). omega arith))

  pub lowered_pos : 1 ≤ r → 1 ≤ lowered_rank d index r
  lowered_pos h =
      ⊎_elim (λ (l : 0 < index % 2 ^ d). omega (arith, lowered_bits l))
      (λ (l : index % 2 ^ d ≤ 0). omega (arith, lowered_zero (omega arith))) (side 0 (index % 2 ^ d))

  -- Low bits that are not all zero have fewer leading zeros than they are.
  pub lowered_bits_le : 0 < index % 2 ^ d → lowered_rank d index r ≤ d
  lowered_bits_le l = omega (arith, lowered_bits l, leading_lt d (index % 2 ^ d) l (mod-lt index (pow_pos d)))

  pub lowered_le : lowered_rank d index r ≤ r + d
  lowered_le =
      ⊎_elim (λ (l : 0 < index % 2 ^ d). omega (arith, lowered_bits_le l))
      (λ (l : index % 2 ^ d ≤ 0). omega (arith, lowered_zero (omega arith))) (side 0 (index % 2 ^ d))

pub register_zero : (d index : ℕ) → lowered_register d index 0 ≡ 0
unfolding lowered_register
register_zero d index = refl

pub lowered_none : (index r : ℕ) → lowered_rank 0 index r ≡ r
lowered_none index r = omega (arith, lowered_zero 0 index r (let e : index % 2 ^ 0 ≡ 0 = omega arith in e))

pub lowered_register_none : (index r : ℕ) → lowered_register 0 index r ≡ r
lowered_register_none index zero = register_zero 0 index
lowered_register_none index (suc r) = lowered_register_lem 0 index (suc r) (zero-lt-suc r) ∙ lowered_none index (suc r)

-- ---- lowering by d bits and then by e

module _ (d e index r : ℕ) where
  both_zero : index / 2 ^ d % 2 ^ e ≡ 0 → index % 2 ^ d ≡ 0 → lowered_rank e (index / 2 ^ d) (lowered_rank d index r) ≡ lowered_rank (e + d) index r
  both_zero h l =
      let all : index % 2 ^ (e + d) ≡ 0 = omega (arith, mod-pow-add index e d, ap (λ (x : ℕ). x * 2 ^ d) h) in
      omega (arith, lowered_zero e (index / 2 ^ d) (lowered_rank d index r) h, lowered_zero d index r l, lowered_zero (e + d) index r all)

  low_bits : index / 2 ^ d % 2 ^ e ≡ 0 → 0 < index % 2 ^ d → lowered_rank e (index / 2 ^ d) (lowered_rank d index r) ≡ lowered_rank (e + d) index r
  low_bits h l =
      let all : index % 2 ^ (e + d) ≡ index % 2 ^ d = omega (arith, mod-pow-add index e d, ap (λ (x : ℕ). x * 2 ^ d) h) in
      omega (
        arith,
        lowered_zero e (index / 2 ^ d) (lowered_rank d index r) h,
        lowered_bits d index r l,
        lowered_bits (e + d) index r (omega arith),
        wider e d (index % 2 ^ d) (mod-lt index (pow_pos d)),
        ap (count_leading_zeros (e + d)) all,
      )

  high_bits : 0 < index / 2 ^ d % 2 ^ e → lowered_rank e (index / 2 ^ d) (lowered_rank d index r) ≡ lowered_rank (e + d) index r
  high_bits h =
      omega (
        arith,
        lowered_bits e (index / 2 ^ d) (lowered_rank d index r) h,
        lowered_bits (e + d) index r (omega (arith, mod-pow-add index e d, mul-le-mul_right (2 ^ d) h, pow_pos d)),
        top_digits e d (index / 2 ^ d % 2 ^ e) (index % 2 ^ d) h (mod-lt (index / 2 ^ d) (pow_pos e)) (mod-lt index (pow_pos d)),
        ap (count_leading_zeros (e + d)) (mod-pow-add index e d),
      )

  pub lowered_twice : lowered_rank e (index / 2 ^ d) (lowered_rank d index r) ≡ lowered_rank (d + e) index r
  lowered_twice =
      ⊎_elim high_bits
      (λ (h : index / 2 ^ d % 2 ^ e ≤ 0).
      ⊎_elim (low_bits (omega arith)) (λ (l : index % 2 ^ d ≤ 0). both_zero (omega arith) (omega arith)) (side 0 (index % 2 ^ d)))
      (side 0 (index / 2 ^ d % 2 ^ e))
      ∙ ap (λ (k : ℕ). lowered_rank k index r) (add_comm e d)

pub lowered_register_twice : (d e index r : ℕ) → lowered_register e (index / 2 ^ d) (lowered_register d index r) ≡ lowered_register (d + e) index r
lowered_register_twice d e index zero =
    ap (lowered_register e (index / 2 ^ d)) (register_zero d index) ∙ register_zero e (index / 2 ^ d) ∙ sym (register_zero (d + e) index)
lowered_register_twice d e index (suc r) =
    ap (lowered_register e (index / 2 ^ d)) (lowered_register_lem d index (suc r) (zero-lt-suc r))
    ∙ lowered_register_lem e (index / 2 ^ d) (lowered_rank d index (suc r)) (lowered_pos d index (suc r) (zero-lt-suc r))
    ∙ lowered_twice d e index (suc r)
    ∙ sym (lowered_register_lem (d + e) index (suc r) (zero-lt-suc r))

-- ---- lowering keeps the order and the bound

pub lowered_mono : (d index r r' : ℕ) → r ≤ r' → lowered_rank d index r ≤ lowered_rank d index r'
lowered_mono d index r r' h =
    ⊎_elim (λ (l : 0 < index % 2 ^ d). omega (arith, lowered_bits d index r l, lowered_bits d index r' l))
    (λ (l : index % 2 ^ d ≤ 0). omega (arith, lowered_zero d index r (omega arith), lowered_zero d index r' (omega arith))) (side 0 (index % 2 ^ d))

pub lowered_register_mono : (d index r r' : ℕ) → r ≤ r' → lowered_register d index r ≤ lowered_register d index r'
lowered_register_mono d index zero r' h = omega (arith, register_zero d index)
lowered_register_mono d index (suc r) r' h =
    omega (
      arith,
      lowered_register_lem d index (suc r) (zero-lt-suc r),
      lowered_register_lem d index r' (omega arith),
      lowered_mono d index (suc r) r' h,
    )

pub lowered_register_le : (d index r : ℕ) → lowered_register d index r ≤ lowered_rank d index r
lowered_register_le d index zero = omega (arith, register_zero d index)
lowered_register_le d index (suc r) = omega (arith, lowered_register_lem d index (suc r) (zero-lt-suc r))

-- ---- what the code computes

-- `bit` is the larger of the two precisions that the mark stands above.
pub code_mark : (p s bit : ℕ) → Pair p s → bit ≡ mark_bit p s → (1 * 2 ^ bit) % 2 ^ 32 ≡ mark p s
code_mark p s bit pair e = ap (λ (k : ℕ). (1 * 2 ^ k) % 2 ^ 32) e ∙ mark_shl p s pair

-- A truth as a number, as the definitions have it.
pub truth : (t : Bool) → bool_byte t ≡ cond t 1 0
truth true = refl
truth false = refl

pub truth_le : (t : Bool) → bool_byte t ≤ 1
truth_le true = le_refl 1
truth_le false = zero-le

pub truth_turned : (x y : ℕ) → bool_byte (leb x y) ≡ cond (ltb y x) 0 1
truth_turned x y =
    ⊎_elim (λ (h : y < x). ap bool_byte (lt-leb x y h) ∙ sym (ap (λ (t : Bool). cond t 0 1) (lt-ltb y x h)))
    (λ (h : x ≤ y). ap bool_byte (le-leb x y h) ∙ sym (ap (λ (t : Bool). cond t 0 1) (le-ltb y x h))) (side y x)

-- The end of the plain values, by the least low six bits.
module _ (p s : ℕ) where
  pub code_plain_end : {least : ℕ} → Pair p s → least ≡ least_marked_rank p s → ((1 - least) * 2 ^ s) % 2 ^ 32 ≡ plain_end p s
  code_plain_end {least} pair e =
      ⊎_elim
      (λ (t : eqb s p ≡ true).
      let f = eqb-true s p t in
      ap (λ (k : ℕ). ((1 - k) * 2 ^ s) % 2 ^ 32) (e ∙ least_one p s f) ∙ (let z : (0 * 2 ^ s) % 2 ^ 32 ≡ 0 = omega arith in z) ∙ sym (plain_end_none p s f))
      (λ (t : eqb s p ≡ false).
      let n = eqb-false s p t in
      ap (λ (k : ℕ). ((1 - k) * 2 ^ s) % 2 ^ 32) (e ∙ least_none p s n)
      ∙ one_shl s (let h : s < 32 = omega (arith, pair.top) in h)
      ∙ sym (plain_end_some p s n)) (decided (eqb s p))

-- The end of the marked values. The mark is `flag` there.
module _ {p s flag : ℕ} (pair : Pair p s) (f : flag ≡ mark p s) where
  pub code_end : flag + (64 * 2 ^ p) % 2 ^ 32 ≡ marked_end p s
  code_end = omega (arith, mark_index p s, mark_le p s pair)

  pub code_end_fits : flag + (64 * 2 ^ p) % 2 ^ 32 < 2 ^ 32
  code_end_fits = omega (arith, code_end, mark_index p s, mark_le p s pair)

-- What the code asks of the low six bits.
module _ (p s v least : ℕ) (pair : Pair p s) (e : least ≡ least_marked_rank p s) (m : marked p s v ≡ true) where
  some_value : 64 ≤ v
  some_value = omega (arith, marked_ge p s v m, mark_index p s, pow_pos p)

  pub least_taken : least ≤ v
  least_taken = omega (arith, some_value, least_le p s)

  pub code_rank : leb ((v - least) % 64) (65 - s - least) ≡ marked_rank_fits p s v
  code_rank =
      ⊎_elim
      (λ (h : v % 64 < least).
      lt-leb ((v - least) % 64) (65 - s - least) (omega (arith, some_value, least_le p s, pair.low, pair.above))
      ∙ sym (ap (λ (t : Bool). t && leb (v % 64) (65 - s)) (lt-leb (least_marked_rank p s) (v % 64) (omega arith))))
      (λ (h : least ≤ v % 64).
      ⊎_elim
      (λ (g : 65 - s < v % 64).
      lt-leb ((v - least) % 64) (65 - s - least) (omega (arith, some_value, least_le p s, pair.top))
      ∙ sym (lt-leb (v % 64) (65 - s) g)
      ∙ above h)
      (λ (g : v % 64 ≤ 65 - s).
      le-leb ((v - least) % 64) (65 - s - least) (omega (arith, some_value, least_le p s, pair.top))
      ∙ sym (le-leb (v % 64) (65 - s) g)
      ∙ above h) (side (65 - s) (v % 64))) (side (v % 64) least)
    where
      above : least ≤ v % 64 → leb (v % 64) (65 - s) ≡ marked_rank_fits p s v
      above h = sym (ap (λ (t : Bool). t && leb (v % 64) (65 - s)) (le-leb (least_marked_rank p s) (v % 64) (omega arith)))

module _ {p s flag : ℕ} (v : ℕ) (pair : Pair p s) (f : flag ≡ mark p s) where
  pub code_marked : not (eqb (bit_and v flag) 0) ≡ marked p s v
  code_marked = subst (λ (m : ℕ). not (eqb (bit_and v m) 0) ≡ marked p s v) (sym f) (marked_test p s v)

  pub code_ge : marked p s v ≡ true → flag ≤ v
  code_ge e = omega (arith, marked_ge p s v e)

  pub code_sparse : marked p s v ≡ true → valid p s v ≡ true → ((v - flag) / 64 * 2 ^ (s - p)) % 2 ^ 32 ≡ sparse_index p s v
  code_sparse e t =
      ap (λ (m : ℕ). ((v - m) / 64 * 2 ^ (s - p)) % 2 ^ 32) f
      ∙ mod-eq_of_lt
      (let h : (v - mark p s) / 64 * 2 ^ (s - p) < 2 ^ 32 = omega (arith, sparse_marked p s v e, sparse_lt p s v pair t, pow_mono pair.top) in h)
      ∙ sym (sparse_marked p s v e)

  pub index_plain_post : marked p s v ≡ false → valid p s v ≡ true → IndexPost p s v (v / 2 ^ (s - p))
  index_plain_post e t =
      let same = register_plain p s v e in
      record { index = sym same; small = subst (λ (x : ℕ). x < 2 ^ p) same (register_lt p s v pair t) }

  pub index_marked_post : marked p s v ≡ true → valid p s v ≡ true → IndexPost p s v ((v - flag) / 64)
  index_marked_post e t =
      let same : register p s v ≡ (v - flag) / 64 = register_marked p s v e ∙ ap (λ (m : ℕ). (v - m) / 64) (sym f) in
      record { index = sym same; small = subst (λ (x : ℕ). x < 2 ^ p) same (register_lt p s v pair t) }

module _ {p s : ℕ} (v r : ℕ) (pair : Pair p s) (t : valid p s v ≡ true) where
  rank_post : r ≡ rank p s v → RankPost p s v r
  rank_post e = record { value = e; small = subst (λ (x : ℕ). x ≤ largest_rank p) (sym e) (rank_le p s v pair t) }

  pub rank_plain_post : marked p s v ≡ false → r ≡ plain_rank (s - p) v → RankPost p s v r
  rank_plain_post e h = rank_post (h ∙ sym (rank_plain p s v e))

  pub rank_marked_post : marked p s v ≡ true → r ≡ v % 64 + (s - p) → RankPost p s v r
  rank_marked_post e h =
      rank_post (h ∙ sym (rank_marked p s v e))

-- The code's leading zeros of the low k bits.
abbrev pub zeros32 : ℕ → ℕ → ℕ
zeros32 v k = count_leading_zeros 32 (bit_and v ((1 * 2 ^ k) % 2 ^ 32 - 1))

module _ (v k : ℕ) (h : k < 32) where
  pub zeros32_low : 31 ≤ zeros32 v k + k
  zeros32_low = omega (arith, masked_zeros v k h)

  zeros32_is : zeros32 v k + k - 31 ≡ 1 + count_leading_zeros k (v % 2 ^ k)
  zeros32_is = omega (arith, masked_zeros v k h)

  pub code_bits : zeros32 v k + k - 31 ≡ plain_rank k v
  code_bits = zeros32_is ∙ sym (plain_rank_lem k v)

  pub code_lowered_zero : (r : ℕ) → bit_and v ((1 * 2 ^ k) % 2 ^ 32 - 1) ≡ 0 → r + k ≡ lowered_rank k v r
  code_lowered_zero r e = sym (lowered_zero k v r (sym (masked v k h) ∙ e))

  pub code_lowered_bits : (r : ℕ) → (bit_and v ((1 * 2 ^ k) % 2 ^ 32 - 1) ≡ 0 → ⊥) → zeros32 v k + k - 31 ≡ lowered_rank k v r
  code_lowered_bits r n =
      zeros32_is
      ∙ sym (lowered_bits k v r
      (⊎_elim (λ (l : 0 < v % 2 ^ k). l)
      (λ (l : v % 2 ^ k ≤ 0). absurd (n (masked v k h ∙ (let z : v % 2 ^ k ≡ 0 = omega arith in z)))) (side 0 (v % 2 ^ k))))
