-- Values of a sparse list and their ranks, from Heule, Nunkesser and Hall 2013, section 5.3 (the sparse representation and the encoding of
-- hash values), as document 01, module 3, has them. p is the normal precision, s the sparse precision.
use Rattle.std.specs.Prelude.{◌≡◌, ℕ, ◌+◌, ◌-◌, ◌*◌, ◌/◌, ◌%◌, ◌^◌, ◌<◌, ◌≤◌, max, Bool, cond, ◌&&◌, ◌==◌, nat_le, nat_lt}
use Rattle.std.specs.Int.Count.{count_leading_zeros}

-- "The mark is bit max(s, p+6)."
abbrev pub mark_bit : ℕ → ℕ → ℕ
mark_bit p s = max s (p + 6)

unfoldable pub mark : ℕ → ℕ → ℕ
mark p s = 2 ^ mark_bit p s

-- Whether the mark bit is set.
unfoldable pub marked : ℕ → ℕ → ℕ → Bool
marked p s v = v / mark p s % 2 == 1

-- The parts of "mark + 64 × index + m".
abbrev pub marked_index : ℕ → ℕ → ℕ → ℕ
marked_index p s v = (v - mark p s) / 64

abbrev pub marked_rank : ℕ → ℕ
marked_rank v = v % 64

-- "A plain value is an index below 2^s." Document 02, U3: "In the 2013 paper's coding every value is marked when no bits lie between the precisions." So with
-- s = p none is plain.
unfoldable pub plain_end : ℕ → ℕ → ℕ
plain_end p s = cond (s == p) 0 (2 ^ s)

-- "A marked value is mark + 64 × index + m, with index below 2^p"
abbrev pub marked_end : ℕ → ℕ → ℕ
marked_end p s = mark p s + 64 * 2 ^ p

-- "and m at most 65−s." U3: "With s = p, a plain value and a marked value with m = 0 now get 20".
unfoldable pub least_marked_rank : ℕ → ℕ → ℕ
least_marked_rank p s = cond (s == p) 1 0

abbrev pub marked_rank_fits : ℕ → ℕ → ℕ → Bool
marked_rank_fits p s v = nat_le (least_marked_rank p s) (marked_rank v) && nat_le (marked_rank v) (65 - s)

unfoldable pub valid : ℕ → ℕ → ℕ → Bool
valid p s v = cond (marked p s v) (nat_lt v (marked_end p s) && marked_rank_fits p s v) (nat_lt v (plain_end p s))

-- The sparse index: of s bits. A marked value's lowest s−p bits are zero.
unfoldable pub sparse_index : ℕ → ℕ → ℕ → ℕ
sparse_index p s v = cond (marked p s v) (marked_index p s v * 2 ^ (s - p)) v

-- "Its register is value / 2^(s−p)"; a marked value's is its index.
unfoldable pub register : ℕ → ℕ → ℕ → ℕ
register p s v = cond (marked p s v) (marked_index p s v) (v / 2 ^ (s - p))

-- "Its rank is 1 plus the leading zeros of its low s−p bits, all zero giving s−p+1."
unfoldable pub plain_rank : ℕ → ℕ → ℕ
plain_rank bits v = 1 + count_leading_zeros bits (v % 2 ^ bits)

-- A marked value's "rank is m+s−p".
unfoldable pub rank : ℕ → ℕ → ℕ → ℕ
rank p s v = cond (marked p s v) (marked_rank v + (s - p)) (plain_rank (s - p) v)

-- The largest rank at p bits: "No register above 65−p?" (14); "Question 1 asks for registers at most 65−p" (U3). A plain value's is at most s−p+1, and a marked
-- one's at most 65−s+s−p. Lowering by d bits adds at most d to a rank, and makes this bound larger by d.
abbrev pub largest_rank : ℕ → ℕ
largest_rank p = 65 - p

-- "Lowering a register of rank r above 0 by d bits: low d index bits zero give r+d, else 1 plus their leading zeros."
unfoldable pub lowered_rank : ℕ → ℕ → ℕ → ℕ
lowered_rank d index r = cond (index % 2 ^ d == 0) (r + d) (1 + count_leading_zeros d (index % 2 ^ d))

-- "A register of rank 0 stays 0." No valid value of a list has rank 0 (`valid_ranked` in proofs/ValueLaws).
unfoldable pub lowered_register : ℕ → ℕ → ℕ → ℕ
lowered_register d index r = cond (r == 0) 0 (lowered_rank d index r)

-- The precisions that a list can have (document 01, questions 11 and 13).
pub record Pair (p s : ℕ) : Type 0 where
  pub low : 4 ≤ p
  pub high : p ≤ 24
  pub above : p ≤ s
  pub top : s ≤ 25

-- What is given for a valid value: its register, and its rank, each with its bound.
pub record IndexPost (p s v r : ℕ) : Type 0 where
  pub index : r ≡ register p s v
  pub small : r < 2 ^ p

pub record RankPost (p s v r : ℕ) : Type 0 where
  pub value : r ≡ rank p s v
  pub small : r ≤ largest_rank p
