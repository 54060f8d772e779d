-- What is done with a command: it is answered, or blocks are moved before the answer.
use Rattle.std.specs.Prelude.{ℕ, Bool, false, true, List, [], Some, None, take}
use Rattle.vv_cdb.specs.declared.sense.Sense.{Sense}
use Rattle.vv_lun.specs.declared.unit.Action.{Action}
use Rattle.vv_lun.specs.declared.unit.Action.TheVariants.{Reply, Read, Write, Same, Compare, Unmap}
use Rattle.vv_lun.specs.Senses.{capacity_data_has_changed}

-- status GOOD with these bytes; the unit attention is cleared or not
abbrev pub answered_clearing : Bool → List ℕ → Action
answered_clearing clears bytes = Reply bytes None clears

-- status GOOD with these bytes
abbrev pub answered : List ℕ → Action
answered bytes = answered_clearing false bytes

-- status GOOD with the first of these bytes, as many as there is room for
abbrev pub answered_within : ℕ → List ℕ → Action
answered_within room bytes = answered (take room bytes)

-- status GOOD with no byte
abbrev pub done : Action
done = answered []

-- CHECK CONDITION with a sense
abbrev pub refused : Sense → Action
refused sense = Reply [] (Some sense) false

-- CHECK CONDITION with the sense of the unit attention, which is cleared
abbrev pub attention_told : Action
attention_told = Reply [] (Some capacity_data_has_changed) true

-- the blocks of a range are moved: the logical block address of the first, and how many they are
abbrev pub to_read : ℕ × ℕ → Action
to_read range = Read range.0 range.1

abbrev pub to_write : ℕ × ℕ → Action
to_write range = Write range.0 range.1

abbrev pub to_write_same : ℕ × ℕ → Action
to_write_same range = Same range.0 range.1

abbrev pub to_compare : ℕ × ℕ → Action
to_compare range = Compare range.0 range.1

-- some ranges are unmapped
abbrev pub to_unmap : List (ℕ × ℕ) → Action
to_unmap ranges = Unmap ranges
