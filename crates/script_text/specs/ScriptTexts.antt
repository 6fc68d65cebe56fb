-- The entries of a script as they stand in a mission's document, each a table of the key `fault`. This project's own.
use Rattle.std.specs.Prelude.{ℕ, ℤ, List, [], ◌++◌, flat_map, codes, Option, Some, None}
use Rattle.std.specs.Fmt.{decimal, signed_decimal}
use Rattle.hex.specs.Hex.{encode_lower}
use Rattle.guards_model.specs.declared.Slot.{Slot}
use Rattle.guards_model.specs.Slots.{slot_text}
use Rattle.guards_model.specs.BusRules.{RuleValue, ActValue, lose, forge}
use Rattle.guards_model.specs.Channels.{Channel}
use Rattle.guards_model.specs.Faults.{FaultValue, crash, restart, damage, bus}
use Rattle.guards_model.specs.Texts.{TextValue, line_end}

unfoldable pub crash_text : Channel → ℕ → Slot → TextValue
crash_text q c slot =
    codes "[[fault]]\nkind = \"crash\"\ncycle = " ++ decimal c ++ codes "\nslot = \"" ++ slot_text slot
    ++ codes "\"\nchannel = " ++ decimal q ++ line_end

unfoldable pub restart_text : Channel → ℕ → TextValue
restart_text q c =
    codes "[[fault]]\nkind = \"restart\"\ncycle = " ++ decimal c ++ codes "\nchannel = " ++ decimal q ++ line_end

unfoldable pub damage_text : Channel → ℕ → ℕ → ℕ → ℤ → TextValue
damage_text q c block word value =
    codes "[[fault]]\nkind = \"damage\"\ncycle = " ++ decimal c ++ codes "\nchannel = " ++ decimal q
    ++ codes "\nblock = " ++ decimal block ++ codes "\nword = " ++ decimal word ++ codes "\nvalue = "
    ++ signed_decimal value ++ line_end

-- the line of the receiver; every receiver has none
unfoldable pub receiver_text : Option ℕ → TextValue
receiver_text None = []
receiver_text (Some to) = codes "to = " ++ decimal to ++ line_end

unfoldable pub lose_text : ℕ → Slot → Channel → Option ℕ → TextValue
lose_text c slot from to =
    codes "[[fault]]\nkind = \"lose\"\ncycle = " ++ decimal c ++ codes "\nslot = \"" ++ slot_text slot
    ++ codes "\"\nfrom = " ++ decimal from ++ line_end ++ receiver_text to

unfoldable pub forge_text : ℕ → Slot → Channel → Option ℕ → List ℕ → TextValue
forge_text c slot from to piece =
    codes "[[fault]]\nkind = \"forge\"\ncycle = " ++ decimal c ++ codes "\nslot = \"" ++ slot_text slot
    ++ codes "\"\nfrom = " ++ decimal from ++ line_end ++ receiver_text to ++ codes "bytes = \"" ++ encode_lower piece
    ++ codes "\"\n"

abbrev pub act_text : ℕ → Slot → Channel → Option ℕ → ActValue → TextValue
act_text c slot from to lose = lose_text c slot from to
act_text c slot from to (forge piece) = forge_text c slot from to piece

abbrev pub rule_text : RuleValue → TextValue
rule_text rule = act_text rule.cycle rule.slot rule.from rule.to rule.act

abbrev pub entry_text : FaultValue → TextValue
entry_text (crash q c slot) = crash_text q c slot
entry_text (restart q c) = restart_text q c
entry_text (damage q c block word value) = damage_text q c block word value
entry_text (bus rule) = rule_text rule

-- the entries in order
abbrev pub script_text : List FaultValue → TextValue
script_text script = flat_map entry_text script
