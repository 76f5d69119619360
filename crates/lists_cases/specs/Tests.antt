-- What is asked of a list before it is merged, or others are inserted into it.
use Rattle.std.specs.Prelude.{◌≡◌, List, true, ℕ, ◌≤◌, ◌<◌, ◌^◌, length}
use Rattle.lists.specs.Sorting.{ascends}
use Rattle.lists.specs.Lists.{all_valid, distinct_slots, written}

pub record Mergeable (p s : ℕ) (l : List ℕ) : Type 0 where
  pub few : length l ≤ 512
  pub order : ascends l ≡ true
  pub each : all_valid p s l ≡ true

pub record Insertable (p s : ℕ) (l : List ℕ) (bytes : ℕ) : Type 0 where
  pub order : ascends l ≡ true
  pub distinct : distinct_slots p s l ≡ true
  pub least : written l ≤ bytes
  pub most : bytes < 2 ^ 32
