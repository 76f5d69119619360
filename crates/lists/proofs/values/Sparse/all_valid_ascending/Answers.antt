-- The values are valid where those below the mark and those from it on are.
use Rattle.std.proofs.Common.{◌≡◌, true, ℕ, List, take, ap, sym, subst, ◌∙◌}
use Rattle.lists.specs.Values.{mark}
use Rattle.lists.specs.Sorting.{ascends}
use Rattle.lists.specs.Order.{Below}
use Rattle.lists.specs.Lists.{all_valid}
use Rattle.lists.proofs.OrderLaws.{ascends_take}
use Rattle.lists.proofs.CheckingLaws.{parts_no, parts_yes}
use Rattle.lists.proofs.values.Sparse.all_valid_ascending.Goals as goal

pub plain_valid-requires : goal.plain_valid-requires
plain_valid-requires c =
    let a = c.args in
    let m = c.split_point.result in
    let front = sym c.split_at.ensures.front in
    (subst (λ (l : List ℕ). ascends l ≡ true) front (ascends_take m a.l.now c.requires), subst (Below (mark a.self.normal_precision a.self.sparse_precision)) front (subst (λ (n : ℕ). Below n (take m a.l.now)) a.self.flag c.split_point.ensures.low))

pub returns-then-plain_valid : goal.returns-then-plain_valid
returns-then-plain_valid c =
    let e = c.args.self in
    c.all_valid.ensures
    ∙ ap (all_valid e.normal_precision e.sparse_precision) c.split_at.ensures.back
    ∙ parts_yes e.normal_precision e.sparse_precision c.split_point.result c.args.l.now
    (ap (all_valid e.normal_precision e.sparse_precision) (sym c.split_at.ensures.front) ∙ sym c.plain_valid.ensures ∙ c.if-plain_valid.true)

pub returns-else-plain_valid : goal.returns-else-plain_valid
returns-else-plain_valid c =
    let e = c.args.self in
    c.if-plain_valid.false
    ∙ parts_no e.normal_precision e.sparse_precision c.split_point.result c.args.l.now
    (ap (all_valid e.normal_precision e.sparse_precision) (sym c.split_at.ensures.front) ∙ sym c.plain_valid.ensures ∙ c.if-plain_valid.false)
