use Rattle.std.proofs.Common.{◌≡◌, ◌-◌, ◌++◌, ℕ, ℤ, pos, List, Option, None, length, take, replicate, sym, ap, ◌∙◌}
use Rattle.guards_model.specs.Channels.{ChannelSet, place_or}
use Rattle.guards_model.specs.Contexts.{word_of}
use Rattle.guards_model.specs.Voting.{Ballots, vote_of}
use Rattle.guards_model.specs.Actuators.{moved, wanted_at, words_moved}
use Rattle.output_gate.specs.Gates.{moved_towards}
use Rattle.output_gate.proofs.Gathered.{there_set, moves, first_are, range_length}
use Rattle.output_gate.proofs.gate.next_words.Goals as goal

value : goal.returns-clause-value
value g c =
    let steps = c.args.steps.now in
    let words = c.args.words.now in
    let frames = c.args.frames.now in
    let n = c.count_of-outputs.result in
    let wanted = c.vote-wanted.result in
    let size : n ≡ length words = c.count_of-outputs.ensures.value in
    let voted : wanted ≡ vote_of (there_set frames) (length words) frames ++ replicate (8 - length words) None =
    c.vote-wanted.ensures
    ∙ ap (λ (s : ChannelSet). vote_of s n frames ++ replicate (8 - n) None) c.there.ensures
    ∙ ap (λ m. vote_of (there_set frames) m frames ++ replicate (8 - m) None) size in
    c.of.ensures
    ∙ ap (λ m. take m c.moved_words-next.result) c.from.ensures
    ∙ ap (take n) c.moved_words-next.ensures
    ∙ first_are (λ k. moved (word_of steps k) (word_of c.in_use.result.now k) (place_or wanted k None)) n
    (replicate (8 - n) (pos 0))
    ∙ ap (λ (ws : List ℤ). moved_towards steps ws wanted n) c.in_use.ensures
    ∙ ap (moved_towards steps words wanted) size
    ∙ moves steps words frames wanted c.type_inv.frames voted

pub returns-clause-value : goal.returns-clause-value
returns-clause-value g c = value g c

pub returns-clause-same : goal.returns-clause-same
returns-clause-same g c =
    let words = c.args.words.now in
    ap (λ (ws : List ℤ). length ws) (value g c)
    ∙ range_length (λ k. moved (word_of (take (length words) c.args.steps.now) k) (word_of words k)
    (wanted_at c.args.frames.now k)) 0 (length words)
