use Rattle.std.proofs.Common.{◌≡◌, ℤ, Bool, List, Option, None, Some, length, sym, ap, ◌∙◌, arith, rules, [], ◌∷◌, ◌++◌}
use mir.Syntax.{w64}
use mir.Val.{SFits}
use Rattle.std.proofs.lemmas.Int.{to_z-of_z}
use Rattle.guards_model.specs.Contexts.{word_of}
use Rattle.guards_model.specs.Channels.{place_or}
use Rattle.voter.proofs.Gathering.{gathered, gathered_none, gathered_off, gathered_missing, gathered_there, gathered_all, place_is}
use Rattle.voter.proofs.ballots.votes_at.Goals as goal
use Rattle.voter.proofs.ballots.votes_at.Goals.{then-members-j+in-Some, then-members-j+in_default, else-members-j}

pub loop-j-init : goal.loop-j-init
loop-j-init c =
    let f : (List ℤ) → ℤ = λ words. word_of words c.args.place in
    record {
      all = c.new-votes.ensures ∙ sym (gathered_none f c.args.ballots.now c.flags-members.result);
      few = omega (arith, ap length c.new-votes.ensures);
    }

pub loop-j-preserved : goal.loop-j-preserved
loop-j-preserved c =
    let f : (List ℤ) → ℤ = λ words. word_of words c.args.place in
    let table : List (Option (List ℤ)) = c.args.ballots.now in
    let flags : List Bool = c.flags-members.result in
    elim c.if-members-j.branch [
      | then-members-j+in-Some w ↦
          let word : ℤ = w.word_at.result in
          let fits : SFits w64 word = search rules in
          let there : place_or table c.loop-j.j None ≡ Some w.in-Some.ballot =
          place_is table c.loop-j.j w.index-ballots-j.result (Some w.in-Some.ballot) w.in-Some.is (omega arith) in
          let same : word ≡ f w.in-Some.ballot =
          w.word_at.ensures ∙ ap (λ ws. word_of ws c.args.place) w.in_use.ensures in
          let pushed : w.push.new.self.items ≡ c.loop-j.votes.items ++ word ∷ [] =
          rw (to_z-of_z w64 word fits) at w.push.ensures.items in
          record {
            all = ap (λ v. v.items) w.votes-is ∙ pushed ∙ ap (λ xs. xs ++ word ∷ []) c.loop-j.invariant.all
                ∙ ap (λ x. gathered f table flags c.loop-j.j ++ x ∷ []) same
                ∙ sym (gathered_there f table flags c.loop-j.j w.in-Some.ballot w.if-members-j.true there);
            few = omega (arith, c.loop-j.invariant.few, ap (λ v. length v.items) w.votes-is, w.push.ensures.len);
          }
      | then-members-j+in_default w ↦
          let there : place_or table c.loop-j.j None ≡ None =
          place_is table c.loop-j.j w.index-ballots-j.result None w.in_default.is (omega arith) in
          record {
            all = ap (λ v. v.items) w.votes-is ∙ c.loop-j.invariant.all
                ∙ sym (gathered_missing f table flags c.loop-j.j w.if-members-j.true there);
            few = omega (arith, c.loop-j.invariant.few, ap (λ v. length v.items) w.votes-is);
          }
      | else-members-j w ↦
          record {
            all = ap (λ v. v.items) w.votes-is ∙ c.loop-j.invariant.all
                ∙ sym (gathered_off f table flags c.loop-j.j w.if-members-j.false);
            few = omega (arith, c.loop-j.invariant.few, ap (λ v. length v.items) w.votes-is);
          }
    ]

pub returns : goal.returns
returns c =
    let f : (List ℤ) → ℤ = λ words. word_of words c.args.place in
    let all : c.loop-j.j ≡ 7 = omega arith in
    c.loop-j.invariant.all ∙ ap (gathered f c.args.ballots.now c.flags-members.result) all
    ∙ gathered_all f c.args.ballots.now c.args.active c.flags-members.result c.flags-members.ensures.value
    c.flags-members.ensures.members
