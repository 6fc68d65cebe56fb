use Rattle.std.proofs.Common.{◌≡◌, ◌++◌, ◌-◌, ◌∙◌, length, pos, append-nil, ap, subst, sym}
use Rattle.std.proofs.Math.Seq.{take-append_seam}
use Rattle.std.specs.Prelude.{OnOk, replicate, take}
use Rattle.guards_base.specs.Padding.{padded}
use Rattle.guards_model.specs.Texts.{out_line}
use Rattle.world_run.specs.Running.{words_line}
use Rattle.world_run.proofs.writing.push_words.Goals as goal

pub returns-in-Some : goal.returns-in-Some
returns-in-Some c =
    let gate = c.in-Some.gate in
    let count : length gate.words ≡ c.args.outputs = c.requires.fits gate c.in-Some.is in
    let these : take c.args.outputs (padded 8 gate.words) ≡ gate.words =
    ap (λ n. take n (padded 8 gate.words)) (sym count)
    ∙ take-append_seam gate.words (replicate (8 - length gate.words) (pos 0)) in
    subst (λ o. OnOk c.write_out.result (c.write_out.new.text ≡ c.args.text.now ++ words_line o)) (sym c.in-Some.is)
    (subst (λ words. OnOk c.write_out.result (c.write_out.new.text ≡ c.args.text.now ++ out_line words))
    (ap (take c.args.outputs) c.words.ensures ∙ these) c.write_out.ensures.written)

pub returns-in-None : goal.returns-in-None
returns-in-None c = sym (append-nil c.args.text.now) ∙ ap (λ o. c.args.text.now ++ words_line o) (sym c.in-None.is)
