-- The precisions of a `Sparse`, in a file of its own: what its ghost fields cite does not name it.
use Rattle.std.specs.Prelude.{◌≡◌, ℕ}
use Rattle.lists.specs.declared.values.Sparse.{Sparse}

-- What `Sparse::new` gives.
pub record NewPost (p s : ℕ) (r : Sparse) : Type 0 where
  pub normal : r.normal_precision ≡ p
  pub sparse : r.sparse_precision ≡ s
