use Rattle.std.proofs.Common.{◌<◌, ◌&&◌, [], ◌∷◌, Some, map, length, refl, sym, ap, subst, ◌∙◌, arith}
use Rattle.std.specs.Prelude.{unwrap_or}
use Rattle.guards_model.specs.Channels.{union}
use Rattle.guards_model.proofs.BoolTests.{and_true, second_false}
use Rattle.guards_audit.specs.Consistency as place
use Rattle.guards_model.specs.Texts.{LineValue}
use Rattle.guards_audit.specs.Lines.{is_empty}
use Rattle.guards_audit.specs.Tests.{comes_next, says_fit}
use Rattle.guards_audit.specs.Told.{with_line}
use Rattle.told_cycles.specs.declared.auditor.Auditor.{Auditor}
use Rattle.told_cycles.specs.Standing.{StandsAt, context_amid, shown_in}
use Rattle.told_cycles.proofs.ContextSizes.{amid_length}
use Rattle.told_cycles.proofs.StandLemmas.{amid_is, amid_somewhere, channel_no, channel_yes, differ}
use Rattle.told_cycles.proofs.ChannelLemmas.{channel_stands}
use Rattle.told_cycles.proofs.auditor.Auditor.take_channel.Goals as goal

pub returns-then-not-is_amid : goal.returns-then-not-is_amid
returns-then-not-is_amid g c =
    λ p h. channel_no c.args.mission.now p c.args.self.now (shown_in c.args.mission.now c.args.line) h
    (λ is told r k. differ (sym is ∙ sym c.is_amid.ensures ∙ c.if-not-is_amid.true))

pub returns-then-not-line_comes_next : goal.returns-then-not-line_comes_next
returns-then-not-line_comes_next g c =
    let M = c.args.mission.now in
    λ p h. channel_no M p c.args.self.now (shown_in M c.args.line) h
    (λ is told r k.
    ap (λ x. x && says_fit M told r (shown_in M c.args.line))
    (ap (λ q. is_empty r.traces && comes_next r.active (map (λ (l : LineValue). l.channel) r.lines) q)
    (sym c.teller_of-chan.ensures) ∙ sym (c.line_comes_next.ensures M told r k) ∙ c.if-not-line_comes_next.true))

pub says_fit-requires : goal.says_fit-requires
says_fit-requires g c =
    let k = amid_somewhere c.args.mission.now c.requires.0 c.args.self.now c.requires.1
    (sym c.is_amid.ensures ∙ c.if-not-is_amid.false) in
    ap length k.2.knows.context ∙ amid_length c.args.mission.now k.0 k.1 ∙ c.prove_sizes.ensures.initial

pub returns-then-not-says_fit : goal.returns-then-not-says_fit
returns-then-not-says_fit g c =
    let M = c.args.mission.now in
    λ p h. channel_no M p c.args.self.now (shown_in M c.args.line) h
    (λ is told r k. second_false _ (says_fit M told r (shown_in M c.args.line))
    (sym (c.says_fit.ensures.fits told r k) ∙ c.if-not-says_fit.true))

pub returns : goal.returns
returns g c =
    let M = c.args.mission.now in
    let line = c.args.line in
    let amid = sym c.is_amid.ensures ∙ c.if-not-is_amid.false in
    let low : line.channel < 7 = omega arith in
    λ p h. channel_yes M p c.args.self.now c.note_line.new.self (shown_in M line) h amid
    (λ told r k.
    let next = ap (λ q. is_empty r.traces && comes_next r.active (map (λ (l : LineValue). l.channel) r.lines) q)
    (sym c.teller_of-chan.ensures) ∙ sym (c.line_comes_next.ensures M told r k) ∙ c.if-not-line_comes_next.false in
    let says = sym (c.says_fit.ensures.fits told r k) ∙ c.if-not-says_fit.false in
    let same = c.note_line.ensures
    ∙ ap (λ (m : Auditor). record m {
      part =
          record m.part { lined = union m.part.lined (line.channel ∷ []); first = Some (unwrap_or m.part.first line) };
    })
    (c.says_fit.ensures.context told r k) in (
      and_true (is_empty r.traces && comes_next r.active (map (λ (l : LineValue). l.channel) r.lines) line.channel)
          (says_fit M told r (shown_in M line)) next says,
      subst (StandsAt M (place.amid told (with_line r (shown_in M line)))) (sym same)
          (channel_stands M told r c.args.self.now line k c.prove_sizes.ensures.seven says
          (context_amid M told (with_line r (shown_in M line))) (amid_is c.args.self.now.place amid) refl low),
    ))
