-- What was read of a row: a head has ten cells, and a row that was read as none is no head.
use Prim.Native.Nat.{◌≤◌}
use mathlib.Core.Path.{◌≡◌, refl, ap, ◌∙◌}
use mathlib.Core.List.{List}
use mathlib.Core.Bool.{Bool, true, false, cond}
use Prim.Native.Nat.{ℕ}
use lib.ListN.{length}
use Rattle.std.proofs.Common.{Some, None, rules}
use Rattle.std.proofs.lemmas.Bool.{false_from_ne_true}
use Rattle.std.proofs.lemmas.Option.{none-some}
use Rattle.rollup.specs.declared.accumulator.Accumulator.{Accumulator}
use Rattle.capi.specs.Heads.{is_head, head_in, read_head}

pub ten_cells : (l : List ℕ) (a : Accumulator) → Some a ≡ read_head l → 10 ≤ length l
unfolding is_head
ten_cells l a e = go (is_head l) refl
  where
    go : (t : Bool) → is_head l ≡ t → 10 ≤ length l
    go true g = search rules
    go false g = let f : Some a ≡ None = e ∙ ap (λ (t : Bool). cond t (Some (head_in l)) None) g in search rules

pub missing : (l : List ℕ) → None ≡ read_head l → is_head l ≡ false
missing l e =
    false_from_ne_true (is_head l) (λ (g : is_head l ≡ true). none-some (head_in l) (e ∙ ap (λ (t : Bool). cond t (Some (head_in l)) None) g))
