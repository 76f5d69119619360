-- The second question of what is refused where it is read, as the laws on it speak of it (`DecodingLaws`).
use Rattle.std.proofs.Common.{ℕ, Bool, not}
use Rattle.lists.specs.Values.{marked_rank_fits}

abbrev pub unfit_rank : ℕ → ℕ → ℕ → Bool
unfit_rank p s v = not (marked_rank_fits p s v)
