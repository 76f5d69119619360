-- The compact reader answers only for the layout that it knows, and then as the definitions of reading say.
use Rattle.std.specs.Prelude.{◌≡◌, List, ℕ, ◌+◌, ◌<◌, Option, Ok, IfSome}
use Rattle.wire.specs.declared.varint.Cursor.{Cursor}
use Rattle.wire.specs.declared.state.HllFields.{HllFields}
use Rattle.wire.specs.declared.state.Fields.{Fields}
use Rattle.wire.specs.Varints.{VarintPost}
use Rattle.wire.specs.State.{StepPost, HllStepPost, HllPost, ParsePost}

-- A byte below 128 is a whole varint.
abbrev pub SmallPost : List ℕ → ℕ → Option (ℕ × Cursor) → Type 0
SmallPost s at r = IfSome r (λ (p : ℕ × Cursor). VarintPost s at (Ok p) × (p.1.at ≡ at + 1) × (p.0 < 128))

abbrev pub CompactHllStepPost : List ℕ → ℕ → ℕ → HllFields → Option (HllFields × Cursor) → Type 0
CompactHllStepPost m base at h r = IfSome r (λ (p : HllFields × Cursor). HllStepPost m base at h (Ok p))

abbrev pub CompactHllPost : List ℕ → ℕ → HllFields → Option HllFields → Type 0
CompactHllPost m base h r = IfSome r (λ (g : HllFields). HllPost m base h (Ok g))

abbrev pub CompactStepPost : List ℕ → ℕ → Fields → Option (Fields × Cursor) → Type 0
CompactStepPost s at f r = IfSome r (λ (p : Fields × Cursor). StepPost s at f (Ok p))

-- Where a quick reader answers, it answers as `parse` must.
abbrev pub CompactPost : List ℕ → Option Fields → Type 0
CompactPost s r = IfSome r (λ (f : Fields). ParsePost s (Ok f))
