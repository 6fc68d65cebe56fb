use Rattle.std.proofs.Common.{◌≡◌, ◌<◌, refl, ◌∙◌, ap, subst, length, true, false, find, arith}
use Rattle.guards_model.specs.ScriptedBus.{fits_carry}
use Rattle.icn_bus.specs.Indexes.{bucket}
use Rattle.icn_bus.proofs.Finding.{begins, goes_on, is_first}
use Rattle.icn_bus.proofs.index.IndexedRules.first_fitting.Goals as goal

pub loop-place-init : goal.loop-place-init
loop-place-init c =
    let count : c.len.result ≡ length c.self.inside.heads.items = omega (arith, c.self.inside.heads.ok.0) in
    let wanted = subst (λ n. c.bucket_of.result ≡ bucket n c.args.cycle c.args.slot) count c.bucket_of.ensures.value in
    let below = subst (λ n. c.bucket_of.result < n) count c.bucket_of.ensures.below in
    begins c.self.inside.rules.items (length c.self.inside.heads.items) c.args.cycle c.args.slot c.args.from c.args.to
    c.self.inside.heads.items c.self.inside.nexts.items c.bucket_of.result c.index-place.result.now refl
    c.self.invariant wanted below c.index-place.ensures

pub returns-then-fits : goal.returns-then-fits
returns-then-fits c =
    let fits : fits_carry c.args.cycle c.args.slot c.args.from c.args.to c.get-rule.result.now ≡ true = cc in
    is_first c.self.inside.rules.items (length c.self.inside.heads.items) c.args.cycle c.args.slot c.args.from c.args.to
    c.loop-place.place c.get-rule.result.now c.loop-place.invariant c.get-rule.ensures fits
    ∙ ap (find (fits_carry c.args.cycle c.args.slot c.args.from c.args.to)) c.self.view_is

pub loop-place-preserved : goal.loop-place-preserved
loop-place-preserved c =
    let unfit : fits_carry c.args.cycle c.args.slot c.args.from c.args.to c.get-rule.result.now ≡ false = cc in
    goes_on c.self.inside.rules.items (length c.self.inside.heads.items) c.args.cycle c.args.slot c.args.from c.args.to
    c.self.inside.heads.items c.self.inside.nexts.items c.loop-place.place c.index-place-in-loop-place.result.now
    c.get-rule.result.now
    refl c.self.invariant c.loop-place.invariant c.get-rule.ensures unfit c.index-place-in-loop-place.ensures
