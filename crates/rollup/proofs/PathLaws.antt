-- The choice of a path: the answers of its tests, one after the other, and what a path tells of them.
use Rattle.std.proofs.Common.{◌≡◌, ℕ, ◌*◌, ◌<◌, Bool, true, false, cond, not, ◌&&◌, eqb, leb, List, sym, refl, ap, ◌∙◌, pos_of_ne-zero, eq-eqb, eqb-true, Option, Some, None}
use borrow.Author.Tests.{not-false}
use Rattle.wire.proofs.BoolLaws.{both_true, never}
use Rattle.lists.specs.Lists.{distinct_slots}
use Rattle.rollup.specs.declared.accumulator.Form.{Form}
use Rattle.rollup.specs.declared.accumulator.Accumulator.{Accumulator}
use Rattle.rollup.specs.declared.incoming.Incoming.{Incoming}
use Rattle.rollup.specs.declared.paths.Path.{Path}
use Rattle.rollup.specs.declared.paths.Path.TheVariants.{Waits, Sorts, Inserts, Merges}
use Rattle.rollup.specs.Taking.{waits, inserts, list_path, path_of}

-- ---- the path

-- By the answers: are there no values, do they wait, do others wait, are they inserted?
abbrev chosen : (none wait others insert : Bool) → Option Path
chosen none wait others insert = cond none None (cond wait (Some Waits) (cond others (Some Sorts) (cond insert (Some Inserts) (Some Merges))))

abbrev pub is_some : Option Path → Bool
is_some None = false
is_some (Some p) = true

abbrev is_insertion : Option Path → Bool
is_insertion None = false
is_insertion (Some Waits) = false
is_insertion (Some Sorts) = false
is_insertion (Some Inserts) = true
is_insertion (Some Merges) = false

insertion : (none wait others insert : Bool) → is_insertion (chosen none wait others insert) ≡ true → (others ≡ false) × (insert ≡ true)
insertion true wait others insert e = never e
insertion false true others insert e = never e
insertion false false true insert e = never e
insertion false false false true e = (refl, refl)
insertion false false false false e = never e

pub path_form : (f : Form) (a : Accumulator) (kept : List ℕ) (x : Incoming) (k : ℕ) → a.form ≡ f → path_of a.form a kept x k ≡ path_of f a kept x k
path_form f a kept x k e = ap (λ (g : Form). path_of g a kept x k) e

module _ (a : Accumulator) (kept : List ℕ) (x : Incoming) (k : ℕ) where
  abbrev others_wait : Bool
  others_wait = not (eqb a.pending_len 0)

  pub path_none : k ≡ 0 → None ≡ list_path a kept x k
  path_none z = sym (ap (λ (b : Bool). chosen b (waits a x k) others_wait (inserts a kept k)) (eq-eqb k 0 z))

  -- Where there is a path there are values.
  pub path_some : (q : Option Path) → q ≡ list_path a kept x k → is_some q ≡ true → 0 < k
  path_some q e f = pos_of_ne-zero (λ (z : k ≡ 0). never (ap is_some (path_none z ∙ sym e) ∙ f))

  -- An insertion comes to a list that a merge can leave, and none wait.
  pub path_inserts : (Some Inserts) ≡ list_path a kept x k → (a.pending_len ≡ 0) × (distinct_slots a.precision a.sparse_precision kept ≡ true)
  path_inserts e =
      let t = insertion (eqb k 0) (waits a x k) others_wait (inserts a kept k) (ap is_insertion (sym e)) in (
        eqb-true a.pending_len 0 (not-false (eqb a.pending_len 0) t.0),
        (both_true (leb k 16 && leb (16 * k) a.sparse_len) (distinct_slots a.precision a.sparse_precision kept) t.1).1,
      )
