-- A node that joins, driven by hand, and the contents that it is handed.
use Rattle.std.proofs.Common.{◌≡◌, Bool, true, ◌&&◌, ◌++◌, List, [], ◌∷◌, Option, Some, None, refl, ap, sym, ◌∙◌}
use Rattle.std.specs.Prelude.{is_some}
use Rattle.std.specs.List.{list_all}
use Rattle.guards_model.specs.declared.Mode.TheVariants as mode
use Rattle.guards_model.specs.Controls.{ControlValue, control_of_word}
use Rattle.guards_model.specs.Frames.{FinalValue}
use Rattle.guards_model.specs.Replicas.{final_taken}
use Rattle.guards_model.proofs.ListTests.{all-append}
use Rattle.guards_nodes.specs.NodeStates.{NodeValue, StateValue, running, fallen, resting, returning, JoinerValue}
use Rattle.guards_nodes.specs.NodeSteps.{with_content, after_final_frames}
use Rattle.guards_nodes.specs.NodeCalls.{rejoined, on_returning}
use Rattle.channel_node.specs.Answers.{mode_of_state}

pub joins : (s : StateValue) → mode_of_state s ≡ mode.Joining → (j : JoinerValue) × (s ≡ returning j)
joins (running r) up = absurd cc
joins fallen up = absurd cc
joins resting up = absurd cc
joins (returning j) up = (j, refl)

taken_of : (content : Option FinalValue) (j : JoinerValue) → is_some content ≡ true →
    (k : ControlValue) × ((with_content content j).taken ≡ Some k)
taken_of None j some = absurd cc
taken_of (Some content) j some = (control_of_word content.control, refl)

-- where a content was taken it runs on
pub took : (frames : List FinalValue) (old new : NodeValue) (result : Bool) → mode_of_state old.state ≡ mode.Joining →
    new ≡ rejoined (after_final_frames frames) old →
    ((j : JoinerValue) → old.state ≡ returning j → result ≡ is_some (final_taken frames j.replica)) → result ≡ true →
    (j : JoinerValue) × (k : ControlValue) × (new.state ≡ returning j) × (j.taken ≡ Some k)
took frames old new result joining is tells did =
    let (j, was) = joins old.state joining in
    let (k, has) = taken_of (final_taken frames j.replica) j (sym (tells j was) ∙ did) in (
      after_final_frames frames j,
      k,
      ap (λ (n : NodeValue). n.state) is ∙ ap (λ (s : StateValue). on_returning (after_final_frames frames) s) was,
      has,
    )

-- one content more that is in range
pub one_more : (fits : FinalValue → Bool) (xs : List FinalValue) (x : FinalValue) → list_all fits xs ≡ true →
    fits x ≡ true →
    list_all fits (xs ++ x ∷ []) ≡ true
one_more fits xs x h k = all-append fits xs (x ∷ []) h (ap (λ (b : Bool). b && true) k)
