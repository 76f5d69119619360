-- What document 01, module 4, says of accepted lists and of their merge, as statements: "Accepted lists never descend, and every value is valid. The
-- merge of two such lists ascends strictly, keeps the largest m per index, drops equal plain values, and its byte count is the written length. A
-- plain value and a marked one of one index both stay."
use Rattle.std.specs.Prelude.{◌≡◌, ℕ, ◌≤◌, true, false, ◌⊎◌, List, length, take}
use mathlib.Core.List.{Memᴰ}
use Rattle.wire.specs.Reading.{got}
use Rattle.lists.specs.declared.merging.Merged.{Merged}
use Rattle.lists.specs.Values.{marked, marked_index, marked_rank, register}
use Rattle.lists.specs.Sorting.{ascends}
use Rattle.lists.specs.Order.{Rising}
use Rattle.lists.specs.Lists.{all_valid, decode_of, encode_list, MergePost}

-- "Never descend, and every value is valid."
pub record SuchList (p s : ℕ) (l : List ℕ) : Type 0 where
  pub order : ascends l ≡ true
  pub allowed : all_valid p s l ≡ true

-- The values that bytes are read as, where they are not refused.
unfoldable pub AcceptedSentence : Type 0
AcceptedSentence = (p s : ℕ) (bytes vs rest : List ℕ) → decode_of p s bytes ≡ got vs rest → SuchList p s vs

-- A value that one of two lists has, or both.
abbrev pub InEither : List ℕ → List ℕ → ℕ → Type 0
InEither a b v = Memᴰ v a ⊎ Memᴰ v b

-- A marked value of index i.
pub record MarkedAt (p s i v : ℕ) : Type 0 where
  pub is_marked : marked p s v ≡ true
  pub index : marked_index p s v ≡ i

-- A plain value of index i, of the 2^p that a marked value can have.
pub record PlainAt (p s i v : ℕ) : Type 0 where
  pub plain : marked p s v ≡ false
  pub index : register p s v ≡ i

-- The list has one marked value of index i and no other, and no marked value of that index in a or b has a larger m.
pub record LargestKept (p s : ℕ) (a b l : List ℕ) (i : ℕ) : Type 0 where
  pub value : ℕ
  pub here : Memᴰ value l
  pub of_index : MarkedAt p s i value
  pub only : (w : ℕ) → Memᴰ w l → MarkedAt p s i w → w ≡ value
  pub most : (w : ℕ) → InEither a b w → MarkedAt p s i w → marked_rank w ≤ marked_rank value

-- Clause by clause, of a list l and a byte count.
pub record MergeSays (p s : ℕ) (a b l : List ℕ) (bytes : ℕ) : Type 0 where
  -- It has no value that neither list has.
  pub from : (v : ℕ) → Memᴰ v l → InEither a b v
  -- It "ascends strictly".
  pub strictly : Rising 0 l
  -- It "keeps the largest m per index".
  pub largest_m : (i v : ℕ) → InEither a b v → MarkedAt p s i v → LargestKept p s a b l i
  -- It "drops equal plain values": each is there, and as the list ascends strictly, once.
  pub plain : (v : ℕ) → InEither a b v → marked p s v ≡ false → Memᴰ v l
  -- "Its byte count is the written length."
  pub count : bytes ≡ length (encode_list l)
  -- "A plain value and a marked one of one index both stay."
  pub both : (i v w : ℕ) → InEither a b v → PlainAt p s i v → InEither a b w → MarkedAt p s i w → Memᴰ v l × LargestKept p s a b l i

-- `MergePost` is what `merge_dedupe_into` promises of the merge: the first cells of `out` hold the merge, and it answers how many they are and the byte count.
unfoldable pub MergeSentence : Type 0
MergeSentence =
    (p s : ℕ) (a b : List ℕ) (r : Merged) (out : List ℕ) → SuchList p s a → SuchList p s b → MergePost p s a b r out
    → MergeSays p s a b (take r.len out) r.bytes
