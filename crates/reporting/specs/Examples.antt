-- Lines of document 01's case B1 and of its rules on 24, 25 and an unstarted roll-up, computed from the definitions.
use Rattle.std.specs.Prelude.{◌≡◌, refl, [], ◌∷◌, Bool, true, ◌&&◌, ◌-◌, ◌^◌, Ok, Err}
use Rattle.wire.specs.Examples.{same_bytes}
use Rattle.console.specs.Output.{hex_text}
use Rattle.batch.specs.declared.records.Ending.TheVariants.{Refused}
use Rattle.batch.specs.declared.chain.ChainError.TheVariants.{NoBatch, Broken}
use Rattle.std.specs.Fmt.{digits}
use Rattle.reporting.specs.Numbers.{signed_text, number_text}
use Rattle.reporting.specs.Text.{answer_line, answer_lines, ending_text, numbers_line, state_text}

-- B1: "1 0", "2 0", "10 15 4 2"; of its state the first two bytes, 08 and 70.
abbrev pub b1_lines : Bool
b1_lines =
    same_bytes (answer_lines 1 (0 ∷ 0 ∷ [])) (49 ∷ 32 ∷ 48 ∷ 10 ∷ 50 ∷ 32 ∷ 48 ∷ 10 ∷ [])
    && same_bytes (ending_text (Ok tt) 2) []
    && same_bytes (numbers_line 10 15 4 2) (49 ∷ 48 ∷ 32 ∷ 49 ∷ 53 ∷ 32 ∷ 52 ∷ 32 ∷ 50 ∷ 10 ∷ [])
    && same_bytes (state_text 0 (8 ∷ 112 ∷ [])) (48 ∷ 56 ∷ 55 ∷ 48 ∷ 10 ∷ [])

-- "0 24"; "3 25" after two records; "Unstarted prints four zeros and 21."
abbrev pub other_lines : Bool
other_lines =
    same_bytes (ending_text (Err (Refused NoBatch)) 0) (48 ∷ 32 ∷ 50 ∷ 52 ∷ 10 ∷ [])
    && same_bytes (ending_text (Err (Refused Broken)) 2) (51 ∷ 32 ∷ 50 ∷ 53 ∷ 10 ∷ [])
    && same_bytes (numbers_line 0 0 0 0) (48 ∷ 32 ∷ 48 ∷ 32 ∷ 48 ∷ 32 ∷ 48 ∷ 10 ∷ [])
    && same_bytes (state_text 21 []) (50 ∷ 49 ∷ 10 ∷ [])

-- s = −1 in 32 bits, and the smallest and the largest value count: −9223372036854775808 and 9223372036854775807.
abbrev pub signs : Bool
signs =
    same_bytes (numbers_line 4 (2 ^ 32 - 1) 0 0) (52 ∷ 32 ∷ 45 ∷ 49 ∷ 32 ∷ 48 ∷ 32 ∷ 48 ∷ 10 ∷ [])
    && same_bytes (signed_text (2 ^ 63)) (45 ∷ 57 ∷ 50 ∷ 50 ∷ 51 ∷ 51 ∷ 55 ∷ 50 ∷ 48 ∷ 51 ∷ 54 ∷ 56 ∷ 53 ∷ 52 ∷ 55 ∷ 55 ∷ 53 ∷ 56 ∷ 48 ∷ 56 ∷ [])
    && same_bytes (signed_text (2 ^ 63 - 1)) (57 ∷ 50 ∷ 50 ∷ 51 ∷ 51 ∷ 55 ∷ 50 ∷ 48 ∷ 51 ∷ 54 ∷ 56 ∷ 53 ∷ 52 ∷ 55 ∷ 55 ∷ 53 ∷ 56 ∷ 48 ∷ 55 ∷ [])

pub examples_hold : (b1_lines && other_lines && signs) ≡ true
unfolding digits signed_text number_text answer_line answer_lines ending_text numbers_line state_text hex_text
examples_hold = refl
