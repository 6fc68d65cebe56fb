use Rattle.std.proofs.Common.{◌≡◌, ◌≤◌, ◌⊎◌, inl, inr, map, ap, subst, ◌∙◌, arith}
use Rattle.std.specs.Prelude.{Option, None}
use Rattle.guards_model.specs.ScriptFaults.{ScriptFaultValue, script_fault}
use Rattle.fault_script.specs.Entries.{Breaks, fault_value}
use Rattle.fault_script.specs.declared.script.ScriptFault.{ScriptFault}
use Rattle.fault_script.specs.declared.script.ScriptFault.TheVariants as faults
use Rattle.campaign_draws.specs.Drawing.{SizesValue}
use Rattle.campaign_draws.proofs.Kept.{drawn_kept}
use Rattle.campaign_draws.proofs.Passing.{all_in_cycle}
use Rattle.campaign_draws.proofs.script.script_of.Goals as goal

-- a fault of a script that breaks no rule is want of memory
breaks_none : (fault : ScriptFault) → Breaks fault None → ⊥
breaks_none faults.Memory h = h
breaks_none faults.TooMany h = absurd cc
breaks_none (faults.Cycle at) h = absurd cc
breaks_none (faults.Channel at) h = absurd cc
breaks_none (faults.Block at) h = absurd cc
breaks_none (faults.Word at) h = absurd cc
breaks_none (faults.To at) h = absurd cc
breaks_none (faults.Long at) h = absurd cc

memory_alone : (fault : ScriptFault) (broken : Option ScriptFaultValue) → (fault ≡ faults.Memory) ⊎ Breaks fault broken → broken ≡ None → fault ≡ faults.Memory
memory_alone fault broken (inl memory) none = memory
memory_alone fault broken (inr breaks) none = absurd (breaks_none fault (subst (Breaks fault) none breaks))

pub new-requires-clause-slots : goal.new-requires-clause-slots
new-requires-clause-slots c = rw c.requires.2 (all_in_cycle c.args.sizes c.requires.0 c.requires.1)

pub want_of_memory-requires : goal.want_of_memory-requires
want_of_memory-requires c =
    let channels = ap (λ (s : SizesValue). s.channels) c.sizes.view_is in
    let blocks = ap (λ (s : SizesValue). s.blocks) c.sizes.view_is in
    let outputs = ap (λ (s : SizesValue). s.outputs) c.sizes.view_is in
    let kept = drawn_kept c.args.sizes c.requires.0 c.requires.1 (omega (arith, channels, c.sizes.invariant.0)) (omega (arith, blocks, c.sizes.invariant.3)) (omega (arith, outputs, c.sizes.invariant.6)) in
    let here : script_fault c.sizes.inside.channels c.sizes.inside.cycles c.sizes.inside.blocks (map fault_value c.args.faults.items) ≡ None =
    ap (λ (s : SizesValue). script_fault s.channels s.cycles s.blocks (map fault_value c.args.faults.items)) c.sizes.view_is
    ∙ ap (script_fault c.args.sizes.channels c.args.sizes.cycles c.args.sizes.blocks) c.requires.2 ∙ kept in
    memory_alone c.in-Err.fault (script_fault c.sizes.inside.channels c.sizes.inside.cycles c.sizes.inside.blocks (map fault_value c.args.faults.items)) c.in-Err.ensures.refused here
