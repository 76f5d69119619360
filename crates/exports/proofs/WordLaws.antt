-- Laws of reading a word: what stands at the front of a buffer.
use mathlib.Core.Path.{◌≡◌, refl, sym, ap, subst}
use mathlib.Core.List.{List, ◌++◌, append_assoc}
use mathlib.Core.Logic.{⊎_elim}
use Prim.Native.Nat.{ℕ, ◌≤◌}
use native.Mathlib.Omega.{arith}
use lib.ListN.{length, take}
use Rattle.std.specs.Prelude.{Option, Some, None}
use Rattle.std.specs.Counts.{IsPrefixLen}
use Rattle.console.specs.Input.{pairs_of, onto, PairsPost}
use Rattle.exports.specs.Words.{Decodes, DecodedPost}

pub onto_twice : (a b : List ℕ) (d : Option (List ℕ)) → onto a (onto b d) ≡ onto (a ++ b) d
onto_twice a b None = refl
onto_twice a b (Some l) = ap Some (sym (append_assoc a b l))

-- Pairs of digits that have room.
pub pairs_decoded : (value : ℕ → Option ℕ) (word old after : List ℕ) (r : Option ℕ) → length word ≤ length old → PairsPost value word old r after
    → DecodedPost (pairs_of value word) old r after
pairs_decoded value word old after None room p =
    ⊎_elim
    (λ h. record { answer = h.0; free = h.1.1 })
    (λ h. absurd (let short = h.0 in let z : ⊥ = omega arith in z))
    p
pairs_decoded value word old after (Some n) room p = record { answer = (p.0, p.2); free = p.1.1 }

-- ---- for callers

module _ (d : Option (List ℕ)) (old after : List ℕ) (r : Option ℕ) (p : DecodedPost d old r after) where
  decoded_as : {x : Option ℕ} → r ≡ x → Decodes d x after
  decoded_as e = subst (λ (x : Option ℕ). Decodes d x after) e p.answer

  pub decoded_counts : (n : ℕ) → r ≡ Some n → IsPrefixLen n after
  decoded_counts n e = (decoded_as e).1

  pub decoded_some : (n : ℕ) → r ≡ Some n → d ≡ Some (take n after)
  decoded_some n e = (decoded_as e).0
