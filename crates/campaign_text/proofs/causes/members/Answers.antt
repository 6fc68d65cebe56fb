use Rattle.std.proofs.Common.{◌≡◌, ◌/◌, ◌%◌, ◌^◌, ◌==◌, ◌∙◌, sym, ap, arith, filter}
use Rattle.std.specs.List.{range_with_len}
use Rattle.report_text.proofs.ListTexts.{members_next, members_all}
use Rattle.campaign_text.proofs.causes.members.Goals as goal

pub loop-channel-preserved : goal.loop-channel-preserved
loop-channel-preserved c = cc (members_next (λ q. (c.mask-mask.result / 2 ^ q) % 2 == 1) c.loop-channel.channel, c.in_ok-push_member.ensures, c.loop-channel.invariant)

pub returns : goal.returns
returns c =
    let all : c.loop-channel.channel ≡ 7 = omega arith in
    c.loop-channel.invariant ∙ ap (λ n. filter (λ q. (c.mask-mask.result / 2 ^ q) % 2 == 1) (range_with_len 0 n)) all
    ∙ members_all c.mask-mask.result ∙ sym c.mask-mask.ensures.members
