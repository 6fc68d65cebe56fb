-- One more entry that keeps its rules, the first that breaks one, and the end.
use Rattle.std.proofs.Common.{◌≡◌, ◌<◌, ◌≤◌, ◌+◌, ℕ, List, length, map, get_or, drop, Option, Some, None, refl, sym, ap, subst, ◌∙◌}
use Rattle.std.proofs.lemmas.List.{drop_more}
use Rattle.std.proofs.Math.ListN.{drop_of_length-le}
use Rattle.guards_model.specs.ScriptFaults.{ScriptFaultValue, rules_of_entry, first_broken, or_later, entry_fault}
use Rattle.fault_script.specs.Entries.{fault_value, Breaks}
use Rattle.fault_script.specs.declared.script.Fault.{Fault}
use Rattle.fault_script.specs.declared.script.ScriptFault.{ScriptFault}
use Rattle.fault_script.specs.declared.script.ScriptFault.TheVariants as faults

module _ (channels cycles blocks at : ℕ) (entries : List Fault) (total : Option ScriptFaultValue) where
  -- the entries that are left give the total
  abbrev pub LeavesEntries : Type 0
  LeavesEntries = entry_fault channels cycles blocks at (map fault_value (drop at entries)) ≡ total

  abbrev broken_at : Fault → Option ScriptFaultValue
  broken_at entry = first_broken (rules_of_entry channels cycles blocks at (fault_value entry))

  opened : (entry : Fault) → entry ≡ get_or entries at entry → at < length entries
      → entry_fault channels cycles blocks at (map fault_value (drop at entries))
      ≡ or_later (broken_at entry)
      (entry_fault channels cycles blocks (at + 1) (map fault_value (drop (at + 1) entries)))
  unfolding entry_fault
  opened entry is lt = rw (drop_more entries at entry lt, ← is) refl

  pub entry_kept : (entry : Fault) → entry ≡ get_or entries at entry → at < length entries → broken_at entry ≡ None →
      LeavesEntries
      → entry_fault channels cycles blocks (at + 1) (map fault_value (drop (at + 1) entries)) ≡ total
  entry_kept entry is lt kept so_far =
      sym (opened entry is lt ∙ ap
      (λ b. or_later b (entry_fault channels cycles blocks (at + 1) (map fault_value (drop (at + 1) entries))))
      kept) ∙ so_far

  -- an answer that the rules of this entry give is the answer of all entries
  breaks_first : (fault : ScriptFault) (b later : Option ScriptFaultValue) → Breaks fault b →
      Breaks fault (or_later b later)
  breaks_first fault (Some value) later breaks = breaks
  breaks_first faults.Memory None later breaks = absurd breaks
  breaks_first faults.TooMany None later breaks = absurd cc
  breaks_first (faults.Cycle at) None later breaks = absurd cc
  breaks_first (faults.Channel at) None later breaks = absurd cc
  breaks_first (faults.Block at) None later breaks = absurd cc
  breaks_first (faults.Word at) None later breaks = absurd cc
  breaks_first (faults.To at) None later breaks = absurd cc
  breaks_first (faults.Long at) None later breaks = absurd cc

  pub entry_breaks : (entry : Fault) → entry ≡ get_or entries at entry → at < length entries → (fault : ScriptFault) →
      Breaks fault (broken_at entry) → LeavesEntries → Breaks fault total
  entry_breaks entry is lt fault breaks so_far =
      subst (λ b. Breaks fault b) (sym (opened entry is lt) ∙ so_far)
      (breaks_first fault (broken_at entry)
      (entry_fault channels cycles blocks (at + 1) (map fault_value (drop (at + 1) entries))) breaks)

  pub entries_end : length entries ≤ at → LeavesEntries → total ≡ None
  unfolding entry_fault
  entries_end le so_far = sym so_far ∙ rw (drop_of_length-le entries le) refl
