use Rattle.std.proofs.Common.{◌≡◌, suc, [], map, Some, refl, arith}
use Rattle.std.specs.Prelude.{codes}
use Rattle.std.specs.List.{join_with_byte}
use Rattle.std.specs.Fmt.{decimal}
use Rattle.std.proofs.lemmas.Bool.{le-leb}
use Rattle.guards_model.specs.Texts.{set_text, words_text, vote_text}
use Rattle.guards_model.specs.Words.{is_word}
use Rattle.guards_audit.specs.Lines.{channel_told, is_cast, is_small}
use Rattle.run_audit.proofs.PieceLemmas.{some_taken}
use Rattle.run_audit.proofs.LineLemmas.{after_channel, after_inputs, after_judged, after_votes, channel_formed, channel_parts, lacks_set, not_none}
use Rattle.run_audit.proofs.line.channel_in.Goals as goal

pub returns-in_default-clause-read : goal.returns-in_default-clause-read
returns-in_default-clause-read c =
    λ l form size e.
    let p = channel_parts c.args.sizes l form size in
    let a = c.piece.ensures.cut (decimal l.channel) (after_channel l) p.lacks_channel e in
    not_none c.channel.result l.channel c.in_default.is (c.channel.ensures l.channel p.channel a.0)

pub returns-clause-read : goal.returns-clause-read
returns-clause-read c =
    λ l form size e.
    let p = channel_parts c.args.sizes l form size in
    let a = c.piece.ensures.cut (decimal l.channel) (after_channel l) p.lacks_channel e in
    let b = c.labelled.ensures (codes "in") (words_text l.inputs) (after_inputs l) refl p.lacks_inputs a.1 in
    let d = c.labelled-2.ensures (codes "vote") (join_with_byte 44 (map vote_text l.votes)) (after_votes l) refl
    p.lacks_votes b.1 in
    let f = c.labelled-3.ensures (codes "judged") (set_text l.judged) (after_judged l) refl (lacks_set l.judged) d.1 in
    let g = c.labelled-4.ensures (codes "alpha") (join_with_byte 44 (map decimal l.counts)) [] refl p.lacks_counts
    f.1 in
    let chan : c.in-Some.chan ≡ l.channel = cc (c.channel.ensures l.channel p.channel a.0, c.in-Some.is) in
    let inputs = c.inputs.ensures.read l.inputs p.inputs p.width b.0 in
    let votes = c.votes.ensures.read l.votes p.votes p.outputs d.0 in
    let judged = c.set.ensures.read l.judged p.judged f.0 in
    let counts = c.counts.ensures.read l.counts p.counts p.channels g.0 in
    λ i. Some (channel_told (record {
      channel = chan i;
      inputs = inputs i;
      votes = votes i;
      judged = judged i;
      counts = counts i;
    }))

pub returns-clause-formed : goal.returns-clause-formed
returns-clause-formed c =
    channel_formed c.args.sizes c.in-Some.chan c.inputs.result c.votes.result c.set.result c.counts.result
    (le-leb (suc c.in-Some.chan) 7 (omega arith))
    (some_taken is_word c.inputs.result c.args.sizes.width c.inputs.ensures.formed (omega arith)
    (omega (arith, c.inputs.ensures.whole)))
    (some_taken is_cast c.votes.result c.args.sizes.outputs c.votes.ensures.formed (omega arith)
    (omega (arith, c.votes.ensures.whole)))
    c.set.ensures.formed
    (some_taken is_small c.counts.result c.args.sizes.channels c.counts.ensures.formed (omega arith)
    (omega (arith, c.counts.ensures.whole)))
