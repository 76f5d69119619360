-- The read state as the caller's bytes and the fields (document 01, "Form by location": "a struct holding the bytes, with field starts and presence").
use Rattle.std.specs.Prelude.{◌≡◌, List, [], ℕ, Result, IfOk}
use Rattle.wire.specs.declared.read_error.ReadError.{ReadError}
use Rattle.wire.specs.declared.view.StateView.{StateView}
use Rattle.wire.specs.Reading.{got, answer_of}
use Rattle.wire.specs.State.{State, state_of, read_state, HllInside}

-- The state that a view of it shows.
abbrev pub viewed : StateView → State
viewed v = state_of v.bytes.now v.fields

-- `StateView::parse`: as `ParsePost`, of the fields of the view.
pub record ViewPost (s : List ℕ) (r : Result StateView ReadError) : Type 0 where
  pub answer : answer_of (λ (v : StateView). got (state_of s v.fields) []) r ≡ read_state s
  pub inside : IfOk r (λ (v : StateView). HllInside s v.fields.hll)
