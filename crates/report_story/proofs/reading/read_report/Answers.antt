use Rattle.std.proofs.Common.{◌≡◌, ◌+◌, ◌∷◌, ℕ, suc, List, Bool, Some, subst, sym, ap, ◌∙◌, arith}
use Rattle.guards_audit.specs.Lines.{lines_in}
use Rattle.guards_audit.specs.Reading.{line_read}
use Rattle.report_story.specs.Places.{StoryPlace, if_suits, story_of, story_told}
use Rattle.report_story.specs.Answers.{IsPlace, StepsStory}
use Rattle.report_story.proofs.Stepping.{begins, first_place, goes, next_place}
use Rattle.report_story.proofs.reading.read_report.Goals as goal

pub loop-rest-init : goal.loop-rest-init
loop-rest-init c = record {
  told = ap (λ (p : StoryPlace). story_told c.args.known 0 (Some p) (lines_in c.args.report.now)) c.new-reader.ensures
      ∙ begins c.args.known c.args.report.now;
  place = subst IsPlace (sym c.new-reader.ensures) first_place;
  few = omega arith;
}

pub loop-rest-preserved : goal.loop-rest-preserved
loop-rest-preserved c =
    let so_far = c.loop-rest.invariant in
    let cut : lines_in c.loop-rest.rest.now ≡ c.split_at.result.0.now ∷ lines_in c.split_at.result.1.now
    = c.line_len.ensures.cut ∙ (λ i. sym c.split_at.ensures.front i ∷ lines_in (sym c.split_at.ensures.back i)) in
    let all = sym (ap (λ (texts : List (List ℕ)). story_told c.args.known c.loop-rest.lines (Some c.loop-rest.reader) texts) cut)
    ∙ so_far.told in
    let fits : if_suits c.args.known c.loop-rest.reader (line_read c.split_at.result.0.now) ≡ Some c.take.new.reader
    = subst (λ (b : Bool). StepsStory c.args.known c.loop-rest.reader c.split_at.result.0.now b c.take.new.reader)
    c.if-not-branch.false c.in_ok-take.ensures in
    let one : c.loop-rest.lines + 1 ≡ suc c.loop-rest.lines = omega arith in
    record {
      told = ap (λ n. story_told c.args.known n (Some c.take.new.reader) (lines_in c.split_at.result.1.now)) one
          ∙ goes c.args.known c.loop-rest.lines c.loop-rest.reader c.take.new.reader c.split_at.result.0.now
          (lines_in c.split_at.result.1.now) (story_of c.args.known c.args.report.now) all fits;
      place = next_place c.args.known c.loop-rest.reader c.take.new.reader c.split_at.result.0.now so_far.place fits;
      few = omega (
        arith,
        c.line_len.ensures.some,
        c.line_len.ensures.most,
        c.split_at.ensures.front_len,
        c.split_at.ensures.back_len,
        so_far.few,
      );
    }
