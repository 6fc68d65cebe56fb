use Rattle.std.proofs.Common.{◌≡◌, ◌*◌, ◌==◌, ◌∙◌, ℕ, Bool, Some, length, nat_lt, sym, ap}
use Rattle.std.specs.Prelude.{map, count_by}
use Rattle.std.proofs.lemmas.List.{length-map}
use Rattle.guards_model.specs.Frames.{SweepValue}
use Rattle.join_vote.proofs.FirstPassing.{found_here_by, found_later_by}
use Rattle.join_vote.proofs.sweeps.most_start.Goals as goal

pub returns-then-is_most : goal.returns-then-is_most
returns-then-is_most c =
    let start : SweepValue → ℕ = λ f. f.start in
    let P : ℕ → Bool = λ v. nat_lt (length (map start c.args.frames.now))
    (2 * count_by (λ s. v == s) (map start c.args.frames.now)) in
    let test : P (start c.frame-item.result) ≡ c.is_most.result =
    ap P (sym c.start_of-start.ensures)
    ∙ ap (λ n. nat_lt n (2 * count_by (λ s. c.start_of-start.result == s) (map start c.args.frames.now)))
    (length-map c.args.frames.now start)
    ∙ ap (λ n. nat_lt (length c.args.frames.now) (2 * n)) (sym c.with_start.ensures.count) ∙ sym c.is_most.ensures in
    ap (λ v. Some v) c.start_of-start.ensures
    ∙ sym (found_here_by P start c.args.frames.now c.loop-frame.frame-index c.frame-item.result c.loop-frame-test.true
    c.frame-item.is (test ∙ c.if-is_most.true))
    ∙ c.loop-frame.invariant

pub loop-frame-preserved : goal.loop-frame-preserved
loop-frame-preserved c =
    let start : SweepValue → ℕ = λ f. f.start in
    let P : ℕ → Bool = λ v. nat_lt (length (map start c.args.frames.now))
    (2 * count_by (λ s. v == s) (map start c.args.frames.now)) in
    let test : P (start c.frame-item.result) ≡ c.is_most.result =
    ap P (sym c.start_of-start.ensures)
    ∙ ap (λ n. nat_lt n (2 * count_by (λ s. c.start_of-start.result == s) (map start c.args.frames.now)))
    (length-map c.args.frames.now start)
    ∙ ap (λ n. nat_lt (length c.args.frames.now) (2 * n)) (sym c.with_start.ensures.count) ∙ sym c.is_most.ensures in
    found_later_by P start c.args.frames.now c.loop-frame.frame-index c.frame-item.result c.loop-frame-test.true
    c.frame-item.is (test ∙ c.if-is_most.false)
    ∙ c.loop-frame.invariant
