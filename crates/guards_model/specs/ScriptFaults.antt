-- What is wrong with a fault script: the first rule that is broken. This project's own.
use Rattle.std.specs.Prelude.{ℕ, ◌+◌, Bool, not, nat_lt, nat_le, List, [], ◌∷◌, length, find, Option, Some, None, option_map, if◌then◌else◌}
use Rattle.guards_model.specs.Faults.{FaultValue, crash, restart, damage, bus}
use Rattle.guards_model.specs.Missions.{is_receiver, is_act}

-- too many entries; or of the entry at a place: its cycle, its channel or sender, its block, its word, its receiver, or
-- the length of its piece
pub data ScriptFaultValue : Type 0 where
  too_many_entries : ScriptFaultValue
  wrong_cycle : ℕ → ScriptFaultValue
  wrong_channel : ℕ → ScriptFaultValue
  wrong_block : ℕ → ScriptFaultValue
  wrong_word : ℕ → ScriptFaultValue
  wrong_receiver : ℕ → ScriptFaultValue
  long_piece : ℕ → ScriptFaultValue

-- a rule: whether it holds, and the fault where it does not
abbrev pub RuleOfEntry : Type 0
RuleOfEntry = Bool × ScriptFaultValue

-- the rules of the entry at a place, in their order, where there are so many channels, cycles and blocks
abbrev pub rules_of_entry : ℕ → ℕ → ℕ → ℕ → FaultValue → List RuleOfEntry
rules_of_entry channels cycles blocks at (crash q c slot) =
    (nat_lt c cycles, wrong_cycle at) ∷ (nat_lt q channels, wrong_channel at) ∷ []
rules_of_entry channels cycles blocks at (restart q c) =
    (nat_lt c cycles, wrong_cycle at) ∷ (nat_lt q channels, wrong_channel at) ∷ []
rules_of_entry channels cycles blocks at (damage q c block word value) =
    (nat_lt c cycles, wrong_cycle at) ∷ (nat_lt q channels, wrong_channel at) ∷ (nat_lt block blocks, wrong_block at)
    ∷ (nat_lt word 8, wrong_word at) ∷ []
rules_of_entry channels cycles blocks at (bus rule) =
    (nat_lt rule.cycle cycles, wrong_cycle at) ∷ (nat_lt rule.from channels, wrong_channel at)
    ∷ (is_receiver channels rule.from rule.to, wrong_receiver at) ∷ (is_act rule.act, long_piece at) ∷ []

-- the fault of the first rule that does not hold
abbrev pub first_broken : List RuleOfEntry → Option ScriptFaultValue
first_broken rules = option_map (λ rule. rule.1) (find (λ rule. not rule.0) rules)

-- the first of two faults
abbrev pub or_later : Option ScriptFaultValue → Option ScriptFaultValue → Option ScriptFaultValue
or_later (Some fault) later = Some fault
or_later None later = later

-- the fault of the first entry that breaks a rule, where the first of these entries stands at a place
unfoldable pub entry_fault : ℕ → ℕ → ℕ → ℕ → List FaultValue → Option ScriptFaultValue
entry_fault channels cycles blocks at [] = None
entry_fault channels cycles blocks at (entry ∷ entries) =
    or_later (first_broken (rules_of_entry channels cycles blocks at entry))
    (entry_fault channels cycles blocks (at + 1) entries)

-- a script has at most 1,024 entries, and each keeps its rules
unfoldable pub script_fault : ℕ → ℕ → ℕ → List FaultValue → Option ScriptFaultValue
script_fault channels cycles blocks entries =
    if nat_le (length entries) 1024 then entry_fault channels cycles blocks 0 entries else Some too_many_entries
