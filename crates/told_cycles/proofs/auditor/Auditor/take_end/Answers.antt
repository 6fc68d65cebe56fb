use Rattle.std.proofs.Common.{◌&&◌, not, length, sym, ap, subst, ◌∙◌, arith}
use Rattle.std.specs.Prelude.{bytes_eq}
use Rattle.guards_model.specs.Decisions.{joined_of}
use Rattle.guards_model.specs.Records.{transfer_of_pair}
use Rattle.guards_model.proofs.BoolTests.{and_true, both, not_true, second_false}
use Rattle.guards_audit.specs.Lines.{is_empty}
use Rattle.guards_audit.specs.Tests.{all_traced, removed_fits, same_number}
use Rattle.guards_audit.specs.Told.{number_remaining, rest_told}
use Rattle.told_cycles.specs.declared.auditor.Auditor.{Auditor}
use Rattle.told_cycles.specs.Standing.{EndsAmid}
use Rattle.told_cycles.proofs.ContextSizes.{amid_length}
use Rattle.told_cycles.proofs.StandLemmas.{amid_somewhere, differ, end_no, end_yes}
use Rattle.told_cycles.proofs.EndLemmas.{cycles_few, ends_amid}
use Rattle.told_cycles.proofs.auditor.Auditor.take_end.Goals as goal

pub returns-then-not-is_amid : goal.returns-then-not-is_amid
returns-then-not-is_amid g c =
    λ p h. end_no c.args.mission.now p c.args.self.now c.args.removed c.args.joined c.args.remaining h
    (λ is told r k. differ (sym is ∙ sym c.is_amid.ensures ∙ c.if-not-is_amid.true))

pub returns-then-not-may_end : goal.returns-then-not-may_end
returns-then-not-may_end g c =
    let M = c.args.mission.now in
    λ p h. end_no M p c.args.self.now c.args.removed c.args.joined c.args.remaining h
    (λ is told r k.
    ap (λ x. x && (same_number c.args.remaining (number_remaining M told r.transfer)
    && bytes_eq c.args.joined (joined_of M.rules.last r.transfer (rest_told M told r.transfer))))
    (sym (c.may_end.ensures told r k) ∙ c.if-not-may_end.true))

pub close_sweeps-requires : goal.close_sweeps-requires
close_sweeps-requires g c =
    let k = amid_somewhere c.args.mission.now c.requires.0 c.args.self.now c.requires.1
    (sym c.is_amid.ensures ∙ c.if-not-is_amid.false) in
    omega (arith, k.2.sweeps.stand.size, k.2.sweeps.stand.some)

pub rest_fits-requires : goal.rest_fits-requires
rest_fits-requires g c =
    let k = amid_somewhere c.args.mission.now c.requires.0 c.args.self.now c.requires.1
    (sym c.is_amid.ensures ∙ c.if-not-is_amid.false) in
    let closed = c.close_sweeps.ensures.closed k.0 k.1 k.2 in
    omega (arith, closed.stand.size, closed.stand.few)

pub returns-then-not-rest_fits : goal.returns-then-not-rest_fits
returns-then-not-rest_fits g c =
    let M = c.args.mission.now in
    λ p h. end_no M p c.args.self.now c.args.removed c.args.joined c.args.remaining h
    (λ is told r k.
    second_false ((not (is_empty r.lines) && all_traced r) && removed_fits M r c.args.removed) _
    (sym (c.rest_fits.ensures told r
    (ap (λ (a : Auditor). transfer_of_pair a.part.transfer) c.close_sweeps.ensures.same ∙ k.part.transfer)
    (c.close_sweeps.ensures.closed told r k)) ∙ c.if-not-rest_fits.true))

pub end-requires-clause-done : goal.end-requires-clause-done
end-requires-clause-done g c =
    let k = amid_somewhere c.args.mission.now c.requires.0 c.args.self.now c.requires.1
    (sym c.is_amid.ensures ∙ c.if-not-is_amid.false) in
    omega (
      arith,
      ap (λ (a : Auditor). a.done) c.close_sweeps.ensures.same,
      k.2.knows.done,
      k.2.part.early,
      cycles_few c.args.mission.now c.prove_mission.ensures,
    )

pub end-requires-clause-context : goal.end-requires-clause-context
end-requires-clause-context g c =
    let k = amid_somewhere c.args.mission.now c.requires.0 c.args.self.now c.requires.1
    (sym c.is_amid.ensures ∙ c.if-not-is_amid.false) in
    ap (λ (a : Auditor). length a.context) c.close_sweeps.ensures.same ∙ ap length k.2.knows.context
    ∙ amid_length c.args.mission.now k.0 k.1 ∙ c.prove_sizes.ensures.initial

pub returns : goal.returns
returns g c =
    let M = c.args.mission.now in
    λ p h. end_yes M p c.args.self.now c.end.new.self c.args.removed c.args.joined c.args.remaining h
    (sym c.is_amid.ensures ∙ c.if-not-is_amid.false)
    (λ told r k.
    let may = sym (c.may_end.ensures told r k) ∙ c.if-not-may_end.false in
    let closed = c.close_sweeps.ensures.closed told r k in
    let rest = sym (c.rest_fits.ensures told r
    (ap (λ (a : Auditor). transfer_of_pair a.part.transfer) c.close_sweeps.ensures.same ∙ k.part.transfer) closed)
    ∙ c.if-not-rest_fits.false in
    let some = not_true (is_empty r.lines)
    (both (not (is_empty r.lines)) (all_traced r)
    (both (not (is_empty r.lines) && all_traced r) (removed_fits M r c.args.removed) may).0).0 in (
      and_true _ _ may rest,
      c.end.ensures told r c.args.remaining
          (subst (EndsAmid M told r) (sym c.close_sweeps.ensures.same)
          (ends_amid M told r c.args.self.now c.close_sweeps.new.self.sweeps k closed)) some,
    ))
