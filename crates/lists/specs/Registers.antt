-- Registers: of a list, the larger of two, lowered (document 01, module 3 and "Lists of calls").
use Rattle.std.specs.Prelude.{◌≡◌, ℕ, zero, suc, ◌+◌, ◌-◌, ◌*◌, ◌/◌, ◌^◌, ◌<◌, ◌≤◌, max, true, cond, List, [], ◌∷◌, ◌++◌, length, take, drop, replicate, ◌==◌, nat_lt, slice_index, slice_index_or, slice_set}
use Rattle.std.specs.Int.Count.{count_leading_zeros}
use Rattle.lists.specs.declared.values.Sparse.{Sparse}
use Rattle.lists.specs.Values.{valid, register, rank, lowered_rank, lowered_register}
use Rattle.lists.specs.Lists.{all_valid}

-- ---- how registers lie in memory: these three alone know

-- How many bytes 2^p registers take: a byte each.
unfoldable pub register_bytes : ℕ → ℕ
register_bytes p = 2 ^ p

-- The 2^p registers that the first bytes hold.
unfoldable pub registers_of : ℕ → List ℕ → List ℕ
registers_of p bytes = take (2 ^ p) bytes

-- Those bytes with other registers in them; the bytes past them are as they were.
unfoldable pub with_registers : ℕ → List ℕ → List ℕ → List ℕ
with_registers p regs bytes = regs ++ drop (2 ^ p) bytes

-- ---- registers

-- "0 where none is."
abbrev pub zeros : ℕ → List ℕ
zeros p = replicate (2 ^ p) 0

-- A register that is to be at least r.
abbrev pub raise : List ℕ → ℕ → ℕ → List ℕ
raise regs i r = slice_set regs i (max (slice_index regs i) r)

-- "Per index the largest rank of its listed values, 0 where none is."
unfoldable pub rank_at : ℕ → ℕ → ℕ → List ℕ → ℕ
rank_at p s j [] = 0
rank_at p s j (v ∷ l) = max (cond (register p s v == j) (rank p s v) 0) (rank_at p s j l)

-- The listed values raise the registers, each at its own index; and the same d bits lower.
unfoldable pub raised_by : ℕ → ℕ → List ℕ → List ℕ → List ℕ
raised_by p s regs [] = regs
raised_by p s regs (v ∷ l) = raised_by p s (raise regs (register p s v) (rank p s v)) l

unfoldable pub raised_lower : ℕ → ℕ → ℕ → List ℕ → List ℕ → List ℕ
raised_lower p s d regs [] = regs
raised_lower p s d regs (v ∷ l) =
    raised_lower p s d (raise regs (register p s v / 2 ^ d) (lowered_rank d (register p s v) (rank p s v))) l

-- The largest rank that the listed values of an index have, d bits lower.
unfoldable pub rank_at_lower : ℕ → ℕ → ℕ → ℕ → List ℕ → ℕ
rank_at_lower p s d j [] = 0
rank_at_lower p s d j (v ∷ l) =
    max (cond (register p s v / 2 ^ d == j) (lowered_rank d (register p s v) (rank p s v)) 0) (rank_at_lower p s d j l)

-- The larger of two registers, index by index.
unfoldable pub larger : List ℕ → List ℕ → List ℕ
larger [] b = []
larger (x ∷ a) [] = x ∷ a
larger (x ∷ a) (y ∷ b) = max x y ∷ larger a b

-- "Register j of a state of precision p + d lowers by d bits, as in module 3, to index j / 2^d; the largest that lands on an index is the
-- register there." The first argument is the index of the first register of the list.
unfoldable pub lowered_at : ℕ → ℕ → List ℕ → ℕ → ℕ
lowered_at d i [] j = 0
lowered_at d i (r ∷ regs) j = max (cond (i / 2 ^ d == j) (lowered_register d i r) 0) (lowered_at d (i + 1) regs j)

unfoldable pub tabulate : (ℕ → ℕ) → ℕ → ℕ → List ℕ
tabulate f i zero = []
tabulate f i (suc n) = f i ∷ tabulate f (i + 1) n

-- The registers of precision q + d, lowered to q.
unfoldable pub lowered : ℕ → ℕ → List ℕ → List ℕ
lowered d q regs = tabulate (λ j. lowered_at d 0 regs j) 0 (2 ^ q)

-- How many are not zero, and the largest.
unfoldable pub not_zero_count : List ℕ → ℕ
not_zero_count [] = 0
not_zero_count (r ∷ regs) = cond (r == 0) (not_zero_count regs) (1 + not_zero_count regs)

unfoldable pub largest : List ℕ → ℕ
largest [] = 0
largest (r ∷ regs) = max r (largest regs)

-- "Freed register bytes are zero": registers of precision q in front, where those of p were.
abbrev pub with_freed : ℕ → ℕ → List ℕ → List ℕ
with_freed p q regs = regs ++ replicate (2 ^ p - 2 ^ q) 0

-- Registers of precision p lowered to q where they lie.
abbrev pub lowered_in_place : ℕ → ℕ → List ℕ → List ℕ
lowered_in_place p q regs = with_freed p q (lowered (p - q) q regs)

-- ---- what the functions of registers ask and promise

-- Bytes that hold 2^p registers, of a precision that a state can have.
pub record Holds (p : ℕ) (bytes : List ℕ) : Type 0 where
  pub high : p ≤ 24
  pub room : register_bytes p ≤ length bytes

-- Bytes that hold the first n registers at least, of some precision.
pub record HoldsFirst (n : ℕ) (bytes : List ℕ) : Type 0 where
  pub precision : ℕ
  pub room : register_bytes precision ≤ length bytes
  pub within : n ≤ 2 ^ precision

-- The register at an index, whatever the precision is at which the bytes hold it.
pub record ReadPost (bytes : List ℕ) (i r : ℕ) : Type 0 where
  pub value : (p : ℕ) → register_bytes p ≤ length bytes → i < 2 ^ p → r ≡ slice_index (registers_of p bytes) i

pub record StorePost (before : List ℕ) (i r : ℕ) (after : List ℕ) : Type 0 where
  pub stored : (p : ℕ) → register_bytes p ≤ length before → i < 2 ^ p → after ≡ with_registers p (slice_set (registers_of p before) i r) before

pub record RaisePost (before : List ℕ) (i r : ℕ) (after : List ℕ) : Type 0 where
  pub raised : (p : ℕ) → register_bytes p ≤ length before → i < 2 ^ p → after ≡ with_registers p (raise (registers_of p before) i r) before

-- Two rows of 2^p registers.
pub record BothHold (p : ℕ) (target source : List ℕ) : Type 0 where
  pub into : Holds p target
  pub from : Holds p source

-- A search for a register that is not zero, from an index to another.
pub record ScanPre (from to : ℕ) (bytes : List ℕ) : Type 0 where
  pub order : from ≤ to
  pub holds : HoldsFirst to bytes

-- The first such index, or where the search ends.
pub record ScanPost (bytes : List ℕ) (from to r : ℕ) : Type 0 where
  pub low : from ≤ r
  pub high : r ≤ to
  pub none : (p x : ℕ) → register_bytes p ≤ length bytes → to ≤ 2 ^ p → from ≤ x → x < r → slice_index (registers_of p bytes) x ≡ 0
  pub found : (p : ℕ) → register_bytes p ≤ length bytes → to ≤ 2 ^ p → r < to → 0 < slice_index (registers_of p bytes) r

-- Registers of precision p that can be lowered by d bits in a byte each.
pub record LowerPre (p d : ℕ) (bytes : List ℕ) : Type 0 where
  pub holds : Holds p bytes
  pub fewer : d ≤ p
  pub small : largest (registers_of p bytes) + d < 256

-- One register of those lowered by d bits, at whatever precision: the first of the registers that land on it counts by its value.
pub record BlockPre (d t : ℕ) (bytes : List ℕ) : Type 0 where
  pub precision : ℕ
  pub holds : Holds precision bytes
  pub fewer : d ≤ precision
  pub below : t < 2 ^ (precision - d)
  pub small : slice_index_or (registers_of precision bytes) (t * 2 ^ d) 0 + d < 256

pub record BlockPost (bytes : List ℕ) (d t r : ℕ) : Type 0 where
  pub value : (p : ℕ) → register_bytes p ≤ length bytes → d ≤ p → t < 2 ^ (p - d) → r ≡ lowered_at d 0 (registers_of p bytes) t

-- Registers of precision q + d that are to be lowered into 2^q others.
pub record DowngradePre (q d : ℕ) (source target : List ℕ) : Type 0 where
  pub from : LowerPre (q + d) d source
  pub into : Holds q target

-- The rank of a register that is not zero and stands o > 0 places after one whose low d index bits are zero, once lowered by d bits; 0 past those
-- that land there.
unfoldable pub offset_rank : ℕ → ℕ → ℕ
offset_rank d o = cond (nat_lt o (2 ^ d)) (1 + count_leading_zeros d o) 0

-- A value that is to raise its register, d bits lower: of 2^(p-d).
pub record SetPre (enc : Sparse) (d v : ℕ) (bytes : List ℕ) : Type 0 where
  pub ok : valid enc.normal_precision enc.sparse_precision v ≡ true
  pub few : d ≤ 20
  pub fewer : d ≤ enc.normal_precision
  pub room : register_bytes (enc.normal_precision - d) ≤ length bytes

-- And those of a list.
pub record SetListPre (enc : Sparse) (d : ℕ) (list bytes : List ℕ) : Type 0 where
  pub ok : all_valid enc.normal_precision enc.sparse_precision list ≡ true
  pub few : d ≤ 20
  pub fewer : d ≤ enc.normal_precision
  pub room : register_bytes (enc.normal_precision - d) ≤ length bytes
