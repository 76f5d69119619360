-- Laws of Bools that all crates share: a conjunction by its parts, what a call told whose answer is tested by `if !..`, that no is not yes, and a choice.
use mathlib.Core.Path.{◌≡◌, refl, sym, ap₂, ◌∙◌}
use mathlib.Core.Bool.{Bool, true, false, ◌&&◌, not, cond, true≢false}
use borrow.Author.Tests.{not-true, not-false}

pub both : {a b : Bool} → a ≡ true → b ≡ true → a && b ≡ true
both e f = ap₂ (λ (x y : Bool). x && y) e f

pub both_true : (a b : Bool) → a && b ≡ true → (a ≡ true) × (b ≡ true)
both_true true b e = (refl, e)
both_true false true e = (e, refl)
both_true false false e = (e, e)

-- What follows from the other part adds nothing.
pub absorbed : (a b : Bool) → (b ≡ true → a ≡ true) → (a && b) ≡ b
absorbed true b f = refl
absorbed false true f = f refl
absorbed false false f = refl

pub said_yes : {r b : Bool} → r ≡ b → not r ≡ false → b ≡ true
said_yes {r} e f = sym e ∙ not-false r f

pub said_no : {r b : Bool} → r ≡ b → not r ≡ true → b ≡ false
said_no {r} e f = sym e ∙ not-true r f

-- Of an answer that is no, all that a yes would tell.
pub never : {A : Type 0} → false ≡ true → A
never e = absurd (true≢false (sym e))

-- A choice, each way; and whichever it is.
pub either : {A : Type 0} (P : A → Type 0) (b : Bool) (x y : A) → (b ≡ true → P x) → (b ≡ false → P y) → P (cond b x y)
either P true x y f g = f refl
either P false x y f g = g refl

pub whichever : {A : Type 0} (P : A → Type 0) (b : Bool) (x y : A) → P x → P y → P (cond b x y)
whichever P b x y f g = either P b x y (λ (e : b ≡ true). f) (λ (e : b ≡ false). g)
