use Rattle.std.proofs.Common.{◌∙◌, sym, ap}
use Rattle.std.specs.Prelude.{map}
use Rattle.std.proofs.lemmas.Simd.{map-map}
use Rattle.fault_script.specs.Entries.{fault_value, is_for_bus}
use Rattle.fault_entries.proofs.Fits.{script_fits}
use Rattle.fault_entries.proofs.SlotNames.{all_in_cycle}
use Rattle.fault_entries.proofs.FaultAnswers.{refused_by}
use Rattle.fault_entries.proofs.script.kept_script.Goals as goal

pub new-requires-clause-slots : goal.new-requires-clause-slots
new-requires-clause-slots c = all_in_cycle (map fault_value c.args.entries.items) c.requires.holds

pub returns-in-Ok-clause-fits : goal.returns-in-Ok-clause-fits
returns-in-Ok-clause-fits c =
    let fits = script_fits c.args.sizes.channels c.args.sizes.cycles c.args.sizes.blocks
    (map fault_value c.args.entries.items) c.requires.holds c.in-Ok.ensures.kept in
    rw c.in-Ok.ensures.made fits

pub returns-clause-exact : goal.returns-clause-exact
returns-clause-exact c =
    let entries = c.args.entries.items in
    let flags = c.as_slice-in-Err.ensures.value ∙ c.in_ok-for_bus.ensures
    ∙ ap (map (λ entry. is_for_bus (fault_value entry))) c.as_slice.ensures
    ∙ sym (map-map is_for_bus fault_value entries) in
    refused_by c.args.path.now (map fault_value entries) c.as_slice-in-Err.result.now c.refusal_of.result flags
    c.in-Err.fault _ c.in-Err.ensures.refused c.refusal_of.ensures
