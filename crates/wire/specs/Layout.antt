-- The layout of a state that cannot lose its end unnoticed: the nested message last. And what is read of a state of that layout that is cut off.
use Rattle.std.specs.Prelude.{◌≡◌, List, [], ◌∷◌, Bool, true, false, cond, ℕ, zero, suc, eqb, length}
use Rattle.wire.specs.Reading.{Read, got, refused, and_then}
use Rattle.wire.specs.Fields.{tag, LEN, tag_of, skip_of}
use Rattle.wire.specs.State.{State, empty_hll}

-- Past a field, whatever its value: its tag.
unfoldable pub past_field : List ℕ → Read ℕ
past_field l = and_then (tag_of l) (λ t value. and_then (skip_of t value) (λ u rest. got t rest))

-- A question of what was read; no where it was refused.
abbrev pub when_read : {A : Type 0} → Read A → (A → List ℕ → Bool) → Bool
when_read (got a l) next = next a l
when_read (refused n) next = false

abbrev pub is_nested : ℕ → Bool
is_nested t = eqb t (tag 112 LEN)

abbrev pub at_end : List ℕ → Bool
at_end [] = true
at_end (b ∷ l) = false

-- The outer fields from the front: does the first nested message end where the bytes end? The first argument bounds their number, as in `fields_of`.
unfoldable pub nested_last_in : ℕ → List ℕ → Bool
nested_last_in zero l = false
nested_last_in (suc n) l = when_read (past_field l) (λ t rest. cond (is_nested t) (at_end rest) (nested_last_in n rest))

-- The layout: the nested message, field 112 of wire type 2, is there once, and nothing stands behind it. Before it stand any other outer fields, known or
-- not, in any order and number, their varints spelled in any way; inside it stands anything. So p, s and the data, which only a nested message
-- holds, stand only there. Not in the layout: bytes without a nested message, with any field behind it (a second one too), or with an outer field that
-- cannot be read.
unfoldable pub nested_last : List ℕ → Bool
nested_last bytes = nested_last_in (length bytes) bytes

-- What reading a state of that layout may find where it is cut off: 3, or a state without any field of the nested message.
pub data CutReading : Read State → Type 0 where
  cut_refused : CutReading (refused 3)
  cut_before_hll : (st : State) → st.hll ≡ empty_hll → CutReading (got st [])
