use Rattle.std.proofs.Common.{rules, ap, ◌∙◌, List}
use Rattle.std.proofs.lemmas.Fn.{filter_same}
use Rattle.guards_model.specs.Texts.{LineValue}
use Rattle.icn_world.specs.Told.{of_channels_up}
use Rattle.icn_world.proofs.record.lines_that_run.Goals as goal

pub returns : goal.returns
returns c =
    c.from_vec.ensures ∙ filter_same _ _ _ (λ x b f' k. search rules) _ _ c.retain.ensures.filtered
    ∙ ap (λ (lines : List LineValue). of_channels_up c.args.ledger.now lines) c.into_vec-kept.ensures
