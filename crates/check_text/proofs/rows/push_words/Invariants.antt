use Rattle.std.proofs.Common.{◌≡◌, ◌++◌, take, map, option_map}
use Rattle.expr_core.specs.Tree.{tree}
use Rattle.check_text.specs.Check.{texts_from, word_text}
use Rattle.check_text.proofs.rows.push_words.Given as goal

-- the lines of the words below this one were appended
abbrev pub invariant-loop-word : goal.invariant-loop-word
invariant-loop-word l = l.text
    ≡ l.initial.text ++ texts_from (word_text l.row l.task l.block) 0 (take l.word (map (option_map tree) l.set))
