use Rattle.std.proofs.Common.{◌≡◌, ◌*◌, ◌∙◌, Bool, length, nat_lt, sym, ap}
use Rattle.std.specs.Prelude.{count_by}
use Rattle.guards_model.specs.Frames.{FinalValue}
use Rattle.guards_model.specs.Replicas.{same_final}
use Rattle.join_vote.proofs.FirstPassing.{found_here, found_later}
use Rattle.join_vote.proofs.finals.most_content.Goals as goal

pub returns-then-is_most : goal.returns-then-is_most
returns-then-is_most c =
    let P : FinalValue → Bool =
    λ v. nat_lt (length c.args.frames.now) (2 * count_by (same_final v) c.args.frames.now) in
    let test : P c.frame-item.result ≡ c.is_most.result =
    ap (λ n. nat_lt (length c.args.frames.now) (2 * n)) (sym c.with_content.ensures.count)
    ∙ sym c.is_most.ensures in
    sym (found_here P c.args.frames.now c.loop-frame.frame-index c.frame-item.result c.loop-frame-test.true
    c.frame-item.is (test ∙ c.if-is_most.true)) ∙ c.loop-frame.invariant

pub loop-frame-preserved : goal.loop-frame-preserved
loop-frame-preserved c =
    let P : FinalValue → Bool =
    λ v. nat_lt (length c.args.frames.now) (2 * count_by (same_final v) c.args.frames.now) in
    let test : P c.frame-item.result ≡ c.is_most.result =
    ap (λ n. nat_lt (length c.args.frames.now) (2 * n)) (sym c.with_content.ensures.count)
    ∙ sym c.is_most.ensures in
    found_later P c.args.frames.now c.loop-frame.frame-index c.frame-item.result c.loop-frame-test.true c.frame-item.is
    (test ∙ c.if-is_most.false) ∙ c.loop-frame.invariant
