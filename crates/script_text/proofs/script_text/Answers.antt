use Rattle.std.proofs.Common.{◌<◌, ◌≤◌, ◌∙◌, length, flat_map, ap, arith}
use Rattle.std.proofs.lemmas.List.{take_all}
use Rattle.fault_script.specs.Entries.{fault_value}
use Rattle.fault_script.specs.declared.script.Fault.{Fault}
use Rattle.report_text.proofs.ListTexts.{flat_map_next}
use Rattle.script_text.specs.ScriptTexts.{entry_text}
use Rattle.script_text.proofs.EntryTexts.{by_values}
use Rattle.script_text.proofs.script_text.Goals as goal

pub loop-entry-preserved : goal.loop-entry-preserved
loop-entry-preserved c =
    let below : c.loop-entry.entry-index < length c.args.entries.now = omega arith in
    let next = flat_map_next (λ (entry : Fault). entry_text (fault_value entry)) c.args.entries.now
    c.loop-entry.entry-index c.entry-item.result below c.entry-item.is in
    cc (next, c.in_ok-push_str.ensures.bytes, c.in_ok-entry_text.ensures, c.deref.ensures, c.loop-entry.invariant)

pub returns : goal.returns
returns c =
    let end : length c.args.entries.now ≤ c.loop-entry.entry-index = omega arith in
    c.loop-entry.invariant
    ∙ ap (flat_map (λ (entry : Fault). entry_text (fault_value entry)))
    (take_all c.loop-entry.entry-index c.args.entries.now end) ∙ by_values c.args.entries.now
