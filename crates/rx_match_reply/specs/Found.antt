-- How a match is written.
use Rattle.std.specs.Prelude.{ℕ, List, [], ◌∷◌, ◌++◌, map, codes}
use Rattle.std.specs.List.{join_with_byte}
use Rattle.rx_base.specs.Ascii as ascii
use Rattle.rx_trace.specs.declared.answer.Found.{Found}
use Rattle.rx_trace.specs.declared.answer.Slot.{Slot}
use Rattle.rx_trace.specs.declared.answer.Slot.TheVariants.{Unset, Set}
use Rattle.rx_reply.specs.Places.{range_text}

abbrev pub slot_text : Slot → List ℕ
slot_text Unset = codes "-"
slot_text (Set start end) = range_text start end

-- slots with commas (the byte 44) between
abbrev pub slots_text : List Slot → List ℕ
slots_text slots = join_with_byte ascii.comma (map slot_text slots)

-- slots with a comma before each
abbrev pub later_slots_text : List Slot → List ℕ
later_slots_text [] = []
later_slots_text (slot ∷ slots) = (codes "," ++ slot_text slot) ++ later_slots_text slots

-- where the match stands, and the slots of its groups
abbrev pub found_reply : Found → List ℕ
found_reply found = codes "ok\t" ++ range_text found.start found.end ++ codes "\t" ++ slots_text found.groups ++ codes "\n"
