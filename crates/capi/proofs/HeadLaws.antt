-- What makes a row of numbers a head, by its parts.
use Prim.Native.Nat.{ℕ, ◌^◌, ◌<◌, ◌≤◌}
use mathlib.Core.Path.{◌≡◌}
use mathlib.Core.List.{List}
use mathlib.Core.Bool.{true, ◌&&◌}
use lib.Dec.{ltb, leb}
use lib.ListN.{length, get_or}
use borrow.Author.Tests.{leb-true, le-leb, ltb-true, lt-ltb}
use Rattle.wire.proofs.BoolLaws.{both, both_true}
use Rattle.capi.specs.Heads.{is_head}

pub record Parts (l : List ℕ) : Type 0 where
  pub long : 10 ≤ length l
  pub form : get_or l 0 0 ≤ 2
  pub mask : get_or l 1 0 < 256
  pub kind : get_or l 2 0 < 2 ^ 32
  pub normal : get_or l 4 0 < 2 ^ 32
  pub sparse : get_or l 5 0 < 2 ^ 32
  pub size : get_or l 6 0 < 2 ^ 32

pub head_parts : (l : List ℕ) → is_head l ≡ true → Parts l
unfolding is_head
head_parts l e =
    let a = leb 10 (length l) in
    let b = leb (get_or l 0 0) 2 in
    let c = ltb (get_or l 1 0) 256 in
    let d = ltb (get_or l 2 0) (2 ^ 32) in
    let f = ltb (get_or l 4 0) (2 ^ 32) in
    let g = ltb (get_or l 5 0) (2 ^ 32) in
    let h = ltb (get_or l 6 0) (2 ^ 32) in
    let x₆ = both_true (a && b && c && d && f && g) h e in
    let x₅ = both_true (a && b && c && d && f) g x₆.0 in
    let x₄ = both_true (a && b && c && d) f x₅.0 in
    let x₃ = both_true (a && b && c) d x₄.0 in
    let x₂ = both_true (a && b) c x₃.0 in
    let x₁ = both_true a b x₂.0 in
    record {
      long = leb-true 10 (length l) x₁.0;
      form = leb-true (get_or l 0 0) 2 x₁.1;
      mask = ltb-true (get_or l 1 0) 256 x₂.1;
      kind = ltb-true (get_or l 2 0) (2 ^ 32) x₃.1;
      normal = ltb-true (get_or l 4 0) (2 ^ 32) x₄.1;
      sparse = ltb-true (get_or l 5 0) (2 ^ 32) x₅.1;
      size = ltb-true (get_or l 6 0) (2 ^ 32) x₆.1;
    }

pub parts_head : (l : List ℕ) → Parts l → is_head l ≡ true
unfolding is_head
parts_head l x =
    both
    (both
    (both (both (both (both (le-leb 10 (length l) x.long) (le-leb (get_or l 0 0) 2 x.form)) (lt-ltb (get_or l 1 0) 256 x.mask))
    (lt-ltb (get_or l 2 0) (2 ^ 32) x.kind)) (lt-ltb (get_or l 4 0) (2 ^ 32) x.normal)) (lt-ltb (get_or l 5 0) (2 ^ 32) x.sparse))
    (lt-ltb (get_or l 6 0) (2 ^ 32) x.size)
