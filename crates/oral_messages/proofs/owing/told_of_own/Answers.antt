use Rattle.std.proofs.Common.{rules, ◌≡◌, true, [], ◌∷◌, Some}
use Rattle.std.specs.List.{list_all}
use Rattle.guards_model.specs.Frames.{ItemValue}
use Rattle.guards_model.proofs.BoolTests.{both}
use Rattle.oral_messages.proofs.Ranged.{fits, own_good}
use Rattle.oral_messages.proofs.owing.told_of_own.Goals as goal

pub returns-clause-range : goal.returns-clause-range
returns-clause-range c =
    let told : c.push.new.self.items
    ≡ (let one : ItemValue = record { path = []; word = Some c.args.own } in one ∷ []) = search rules in
    own_good c.args.members.now c.args.me c.requires.set c.requires.mine c.args.own c.push.new.self.items
    (both (fits (Some c.args.own)) (list_all fits []) c.values_fit.ensures).0 told
