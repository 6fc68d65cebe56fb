use Rattle.std.proofs.Common.{◌∙◌, ◌==◌}
use Rattle.context_blocks.proofs.FlagSets.{no_flag}
use Rattle.table_flow.specs.Flow.{assignments, names_word, names_input}
use Rattle.table_flow.proofs.Whole.{from_nothing, of_all}
use Rattle.table_flow.proofs.reach.table_flow.Goals as goal

pub returns-clause-written : goal.returns-clause-written
returns-clause-written c = λ w low.
    c.add_table.ensures.written w low
    ∙ from_nothing _ _ _ (no_flag 2048 w)
    (of_all (λ a. a.word == w) (assignments c.args.table.now.rows) c.add_table.ensures.low)

pub returns-clause-read : goal.returns-clause-read
returns-clause-read c = λ w low.
    c.add_table.ensures.words w low
    ∙ from_nothing _ _ _ (no_flag 2048 w)
    (of_all (λ a. names_word a.value w) (assignments c.args.table.now.rows) c.add_table.ensures.low)

pub returns-clause-inputs : goal.returns-clause-inputs
returns-clause-inputs c = λ k low.
    c.add_table.ensures.inputs k low
    ∙ from_nothing _ _ _ (no_flag 4 k)
    (of_all (λ a. names_input a.value k) (assignments c.args.table.now.rows) c.add_table.ensures.low)
