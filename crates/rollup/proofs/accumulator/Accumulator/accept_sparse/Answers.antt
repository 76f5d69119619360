-- What the path tells gives what its function requires (`densify_pre` to `insert_pre`); each leaves its case of the definition (`shows_row` to `shows_merged`).
use Rattle.std.proofs.Common.{◌≡◌, ◌⊎◌, inl, inr, ⊎_elim, refl, sym, ap, ◌∙◌, Some}
use borrow.Author.Tests.{eqb-true, eqb-false}
use denote.Enum.Declared.{tag_of}
use Rattle.rollup.specs.contracts.paths.Path.{the_type}
use Rattle.rollup.specs.declared.paths.Path.{Path}
use Rattle.rollup.specs.declared.paths.Path.TheVariants.{Waits, Sorts, Inserts, Merges}
use Rattle.rollup.proofs.PathLaws.{is_some}
use Rattle.rollup.proofs.SparseLaws.{densify_pre, merge_pre, insert_pre, shows_row, shows_none, shows_waits, shows_inserted, shows_merged}
use Rattle.rollup.proofs.accumulator.Accumulator.accept_sparse.Goals as goal

-- The arm of two paths is known by their tags.
others : (q : Path) → (tag_of the_type q ≡ 1) ⊎ (tag_of the_type q ≡ 3) → (q ≡ Sorts) ⊎ (q ≡ Merges)
others Waits t = absurd (⊎_elim (λ (e : 0 ≡ 1). let z : ⊥ = cc in z) (λ (e : 0 ≡ 3). let z : ⊥ = cc in z) t)
others Sorts t = inl refl
others Inserts t = absurd (⊎_elim (λ (e : 2 ≡ 1). let z : ⊥ = cc in z) (λ (e : 2 ≡ 3). let z : ⊥ = cc in z) t)
others Merges t = inr refl

pub densify_with-requires : goal.densify_with-requires
densify_with-requires c = densify_pre c.requires.0 c.requires.1 c.counted-h.ensures (eqb-false _ _ (sym c.is_empty.ensures ∙ c.if-not-is_empty.true))

pub returns-then-not-is_empty-clause-shows : goal.returns-then-not-is_empty-clause-shows
returns-then-not-is_empty-clause-shows c = shows_row c.requires.0 c.requires.1 c.counted-h.ensures (eqb-false _ _ (sym c.is_empty.ensures ∙ c.if-not-is_empty.true)) c.densify_with.ensures.shows

pub returns-in-None-clause-shows : goal.returns-in-None-clause-shows
returns-in-None-clause-shows c = shows_none c.requires.0 c.requires.1 c.counted-h.ensures (eqb-true _ _ (sym c.is_empty.ensures ∙ c.if-not-is_empty.false)) c.in-None.is

pub insert_in-requires : goal.insert_in-requires
insert_in-requires c = insert_pre c.requires.0 c.requires.1 c.counted-h.ensures (c.in-Some-Inserts.is ∙ ap Some (rw c.in-Some-Inserts.is at c.in-Some-Inserts.field-0-is))

pub merge_in-requires : goal.merge_in-requires
merge_in-requires c = merge_pre c.requires.0 c.requires.1 c.counted-h.ensures (ap is_some c.in-Some-Sorts.is)

pub returns-in-Some-Waits-clause-shows : goal.returns-in-Some-Waits-clause-shows
returns-in-Some-Waits-clause-shows c = shows_waits c.requires.0 c.requires.1 c.counted-h.ensures (eqb-true _ _ (sym c.is_empty.ensures ∙ c.if-not-is_empty.false)) (c.in-Some-Waits.is ∙ ap Some (rw c.in-Some-Waits.is at c.in-Some-Waits.field-0-is)) c.wait.ensures.shows

pub returns-in-Some-Inserts-clause-shows : goal.returns-in-Some-Inserts-clause-shows
returns-in-Some-Inserts-clause-shows c = shows_inserted c.requires.0 c.requires.1 c.counted-h.ensures (eqb-true _ _ (sym c.is_empty.ensures ∙ c.if-not-is_empty.false)) (c.in-Some-Inserts.is ∙ ap Some (rw c.in-Some-Inserts.is at c.in-Some-Inserts.field-0-is)) c.insert_in.ensures.shows

pub returns-in-Some-Sorts-clause-shows : goal.returns-in-Some-Sorts-clause-shows
returns-in-Some-Sorts-clause-shows c =
    shows_merged c.requires.0 c.requires.1 c.counted-h.ensures (eqb-true _ _ (sym c.is_empty.ensures ∙ c.if-not-is_empty.false)) c.in-Some-Sorts.is
    (others c.in-Some-Sorts.field-0 (rw c.in-Some-Sorts.is at c.in-Some-Sorts.in-Some-Sorts-own.keys3)) c.merge_in.ensures.shows
