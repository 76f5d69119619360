-- Laws of the cells past a place that are as they were. Pure: nothing here knows of the code.
use Rattle.std.proofs.Common.{◌≡◌, ℕ, ◌+◌, ◌-◌, ◌≤◌, List, drop, set, sym, ap, ◌∙◌, arith, drop-drop, drop-set-lt}

-- Those past a later place are, too.
pub past_on : (m n : ℕ) (a b : List ℕ) → m ≤ n → drop m a ≡ drop m b → drop n a ≡ drop n b
past_on m n a b h e = sym (further a) ∙ ap (drop (n - m)) e ∙ further b
  where
    further : (l : List ℕ) → drop (n - m) (drop m l) ≡ drop n l
    further l = drop-drop (n - m) m l ∙ ap (λ (k : ℕ). drop k l) (let f : m + (n - m) ≡ n = omega arith in f)

-- A store in the first of them leaves the others.
pub past_set : (k : ℕ) (a b : List ℕ) (v : ℕ) → drop k a ≡ drop k b → drop (k + 1) (set a k v) ≡ drop (k + 1) b
past_set k a b v e = drop-set-lt (k + 1) a k v (omega arith) ∙ past_on k (k + 1) a b (omega arith) e
