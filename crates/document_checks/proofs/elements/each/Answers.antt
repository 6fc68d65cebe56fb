use Rattle.std.proofs.Common.{[], ◌+◌, ◌∙◌, ap}
use Rattle.std.proofs.lemmas.List.{length-append}
use Rattle.std.proofs.lemmas.Result.{err_from_is_err_and}
use Rattle.toml.specs.View.{items_view}
use Rattle.document_checks.specs.Checks.{each}
use Rattle.document_checks.proofs.Counts.{all_pushed}
use Rattle.document_checks.proofs.EachSeen.{seen_more, seen_fails, seen_ends}
use Rattle.document_checks.proofs.elements.each.Goals as goal

pub returns-in_err-next-clause-exact : goal.returns-in_err-next-clause-exact
returns-in_err-next-clause-exact g c =
    let p = err_from_is_err_and c.from_residual.result c.from_residual.ensures.1 in
    let failed = rw c.as_slice.ensures at c.in_err-next.ensures.exact in
    let meaning = g.R.ElementReader.meaning c.args.reader.now in
    let check = g.R.ElementReader.check c.args.reader.now in
    let values = c.args.items.now in
    rw (p.1, p.2) (seen_fails meaning check c.args.path.now values (each check c.args.path.now [] (items_view values))
    c.loop-value.list.items c.loop-value.value-index _ c.value-item.result c.value-item.is c.loop-value-test.true
    failed c.loop-value.invariant.0)

pub loop-value-preserved : goal.loop-value-preserved
loop-value-preserved g c =
    let passed = rw c.as_slice.ensures at c.in_ok-next.ensures.exact in
    let meaning = g.R.ElementReader.meaning c.args.reader.now in
    let check = g.R.ElementReader.check c.args.reader.now in
    let values = c.args.items.now in
    rw c.in_ok-push.ensures.pushed (
      seen_more meaning check c.args.path.now values (each check c.args.path.now [] (items_view values))
          c.loop-value.list.items c.loop-value.value-index _ c.value-item.result c.value-item.is c.loop-value-test.true
          passed c.loop-value.invariant.0,
      length-append c.loop-value.list.items _ ∙ ap (λ n. n + 1) c.loop-value.invariant.1,
      all_pushed (g.R.ElementReader.holds c.args.reader.now) c.loop-value.list.items _ c.loop-value.invariant.2
          c.in_ok-next.ensures.holds,
    )

pub returns-clause-exact : goal.returns-clause-exact
returns-clause-exact g c =
    seen_ends (g.R.ElementReader.meaning c.args.reader.now) (g.R.ElementReader.check c.args.reader.now) c.args.path.now
    c.args.items.now _ c.loop-value.list.items c.loop-value.value-index c.loop-value-test.false c.loop-value.invariant.0
