use Rattle.std.proofs.Common.{◌≡◌, ◌≤◌, ◌∙◌, true, false, length, sym, ap, subst, arith}
use Rattle.std.specs.Prelude.{option_and_then}
use Rattle.guards_model.specs.Channels.{has}
use Rattle.guards_model.specs.OralMessages.{of_width}
use Rattle.oral_messages.specs.contracts.tree.Tree.{the_view}
use Rattle.oral_messages.specs.Trees.{TreeValue}
use Rattle.oral_messages.proofs.Levels.{few_members}
use Rattle.oral_messages.proofs.TreeKept.{IsReady, ready_from, ready_long, ready_label, labels_one, labels_two, put_first, put_second, put_third, put_nowhere_one, put_nowhere_two, among_first, among_second, second_path, third_path}
use Rattle.oral_messages.proofs.tree.Tree.keep.Goals as goal

pub returns-then-round-eq1-clause-kept : goal.returns-then-round-eq1-clause-kept
returns-then-round-eq1-clause-kept c =
    λ received rest h.
    let ready : IsReady c.args.self.now c.args.round c.args.from c.args.item.now =
    ready_from (the_view c.self.inside) c.args.self.now c.args.round c.args.from c.args.item.now c.self.view_is
    c.self.invariant.set c.self.invariant.mine c.requires.member c.requires.another c.requires.ranges in
    let word : c.word_for-word.result.now ≡ option_and_then (of_width c.args.self.now.width) c.args.item.now.word =
    c.word_for-word.ensures ∙ ap (λ (t : TreeValue). option_and_then (of_width t.width) c.args.item.now.word)
    c.self.view_is in
    put_first c.args.self.now c.keep_first.new.self received c.args.round c.args.from c.args.item.now rest
    c.word_for-word.result.now ready c.if-round-eq1.true word c.keep_first.ensures h

pub returns-then-has-clause-kept : goal.returns-then-has-clause-kept
returns-then-has-clause-kept c =
    λ received rest h.
    let ready : IsReady c.args.self.now c.args.round c.args.from c.args.item.now =
    ready_from (the_view c.self.inside) c.args.self.now c.args.round c.args.from c.args.item.now c.self.view_is
    c.self.invariant.set c.self.invariant.mine c.requires.member c.requires.another c.requires.ranges in
    let word : c.word_for-word.result.now ≡ option_and_then (of_width c.args.self.now.width) c.args.item.now.word =
    c.word_for-word.ensures ∙ ap (λ (t : TreeValue). option_and_then (of_width t.width) c.args.item.now.word)
    c.self.view_is in
    let few : length c.args.self.now.members ≤ 7 = few_members c.args.self.now.members ready.set in
    let low = c.requires.low in
    let high = c.requires.high in
    let one = c.if-round-eq1.false in
    let path = labels_one c.args.item.now.path c.label_at-a.result
    (ready_long c.args.self.now c.args.round c.args.from c.args.item.now ready ∙ c.if-round-eq2.true)
    c.label_at-a.ensures in
    let there : has c.args.self.now.members c.label_at-a.result ≡ true =
    subst (λ (t : TreeValue). has t.members c.label_at-a.result ≡ true) c.self.view_is
    (sym c.has.ensures ∙ c.if-has.true) in
    let two = c.if-round-eq2.true in
    let many : 4 ≤ length c.args.self.now.members = omega arith in
    put_second c.args.self.now c.keep_second.new.self received c.args.round c.args.from c.args.item.now rest
    c.word_for-word.result.now c.label_at-a.result ready c.if-round-eq2.true path there many word
    c.keep_second.ensures h

pub returns-else-has-clause-kept : goal.returns-else-has-clause-kept
returns-else-has-clause-kept c =
    λ received rest h.
    let ready : IsReady c.args.self.now c.args.round c.args.from c.args.item.now =
    ready_from (the_view c.self.inside) c.args.self.now c.args.round c.args.from c.args.item.now c.self.view_is
    c.self.invariant.set c.self.invariant.mine c.requires.member c.requires.another c.requires.ranges in
    let path = labels_one c.args.item.now.path c.label_at-a.result
    (ready_long c.args.self.now c.args.round c.args.from c.args.item.now ready ∙ c.if-round-eq2.true)
    c.label_at-a.ensures in
    let none : has c.args.self.now.members c.label_at-a.result ≡ false =
    subst (λ (t : TreeValue). has t.members c.label_at-a.result ≡ false) c.self.view_is
    (sym c.has.ensures ∙ c.if-has.false) in
    put_nowhere_one c.args.self.now received c.args.round c.args.from c.args.item.now rest c.label_at-a.result ready
    path none h

pub returns-then-has-3-clause-kept : goal.returns-then-has-3-clause-kept
returns-then-has-3-clause-kept c =
    λ received rest h.
    let ready : IsReady c.args.self.now c.args.round c.args.from c.args.item.now =
    ready_from (the_view c.self.inside) c.args.self.now c.args.round c.args.from c.args.item.now c.self.view_is
    c.self.invariant.set c.self.invariant.mine c.requires.member c.requires.another c.requires.ranges in
    let word : c.word_for-word.result.now ≡ option_and_then (of_width c.args.self.now.width) c.args.item.now.word =
    c.word_for-word.ensures ∙ ap (λ (t : TreeValue). option_and_then (of_width t.width) c.args.item.now.word)
    c.self.view_is in
    let few : length c.args.self.now.members ≤ 7 = few_members c.args.self.now.members ready.set in
    let low = c.requires.low in
    let high = c.requires.high in
    let one = c.if-round-eq1.false in
    let two = c.if-round-eq2.false in
    let three : c.args.round ≡ 3 = omega arith in
    let path = labels_two c.args.item.now.path c.label_at-a-else-round-eq2.result c.label_at-b.result
    (ready_long c.args.self.now c.args.round c.args.from c.args.item.now ready ∙ three)
    c.label_at-a-else-round-eq2.ensures c.label_at-b.ensures in
    let there_a : has c.args.self.now.members c.label_at-a-else-round-eq2.result ≡ true =
    subst (λ (t : TreeValue). has t.members c.label_at-a-else-round-eq2.result ≡ true) c.self.view_is
    (sym c.has-else-round-eq2.ensures ∙ c.if-has-2.true) in
    let there_b : has c.args.self.now.members c.label_at-b.result ≡ true =
    subst (λ (t : TreeValue). has t.members c.label_at-b.result ≡ true) c.self.view_is
    (sym c.has-then-has-2.ensures ∙ c.if-has-3.true) in
    let many : 7 ≤ length c.args.self.now.members = omega arith in
    put_third c.args.self.now c.keep_third.new.self received c.args.round c.args.from c.args.item.now rest
    c.word_for-word.result.now c.label_at-a-else-round-eq2.result c.label_at-b.result ready three path there_a
    there_b many word c.keep_third.ensures h

pub returns-else-has-3-clause-kept : goal.returns-else-has-3-clause-kept
returns-else-has-3-clause-kept c =
    λ received rest h.
    let ready : IsReady c.args.self.now c.args.round c.args.from c.args.item.now =
    ready_from (the_view c.self.inside) c.args.self.now c.args.round c.args.from c.args.item.now c.self.view_is
    c.self.invariant.set c.self.invariant.mine c.requires.member c.requires.another c.requires.ranges in
    let few : length c.args.self.now.members ≤ 7 = few_members c.args.self.now.members ready.set in
    let low = c.requires.low in
    let high = c.requires.high in
    let one = c.if-round-eq1.false in
    let two = c.if-round-eq2.false in
    let three : c.args.round ≡ 3 = omega arith in
    let path = labels_two c.args.item.now.path c.label_at-a-else-round-eq2.result c.label_at-b.result
    (ready_long c.args.self.now c.args.round c.args.from c.args.item.now ready ∙ three)
    c.label_at-a-else-round-eq2.ensures c.label_at-b.ensures in
    let none : has c.args.self.now.members c.label_at-b.result ≡ false =
    subst (λ (t : TreeValue). has t.members c.label_at-b.result ≡ false) c.self.view_is
    (sym c.has-then-has-2.ensures ∙ c.if-has-3.false) in
    put_nowhere_two c.args.self.now received c.args.round c.args.from c.args.item.now rest
    c.label_at-a-else-round-eq2.result c.label_at-b.result c.label_at-b.result ready path
    (among_second c.label_at-a-else-round-eq2.result c.label_at-b.result) none h

pub returns-else-has-2-clause-kept : goal.returns-else-has-2-clause-kept
returns-else-has-2-clause-kept c =
    λ received rest h.
    let ready : IsReady c.args.self.now c.args.round c.args.from c.args.item.now =
    ready_from (the_view c.self.inside) c.args.self.now c.args.round c.args.from c.args.item.now c.self.view_is
    c.self.invariant.set c.self.invariant.mine c.requires.member c.requires.another c.requires.ranges in
    let few : length c.args.self.now.members ≤ 7 = few_members c.args.self.now.members ready.set in
    let low = c.requires.low in
    let high = c.requires.high in
    let one = c.if-round-eq1.false in
    let two = c.if-round-eq2.false in
    let three : c.args.round ≡ 3 = omega arith in
    let path = labels_two c.args.item.now.path c.label_at-a-else-round-eq2.result c.label_at-b.result
    (ready_long c.args.self.now c.args.round c.args.from c.args.item.now ready ∙ three)
    c.label_at-a-else-round-eq2.ensures c.label_at-b.ensures in
    let none : has c.args.self.now.members c.label_at-a-else-round-eq2.result ≡ false =
    subst (λ (t : TreeValue). has t.members c.label_at-a-else-round-eq2.result ≡ false) c.self.view_is
    (sym c.has-else-round-eq2.ensures ∙ c.if-has-2.false) in
    put_nowhere_two c.args.self.now received c.args.round c.args.from c.args.item.now rest
    c.label_at-a-else-round-eq2.result c.label_at-b.result c.label_at-a-else-round-eq2.result ready path
    (among_first c.label_at-a-else-round-eq2.result c.label_at-b.result) none h

pub has-requires : goal.has-requires
has-requires c = ready_label c.args.round c.args.from c.args.item.now 0 c.label_at-a.result c.requires.ranges
    c.label_at-a.ensures

pub keep_second-requires-clause-path : goal.keep_second-requires-clause-path
keep_second-requires-clause-path c =
    let ready : IsReady c.args.self.now c.args.round c.args.from c.args.item.now =
    ready_from (the_view c.self.inside) c.args.self.now c.args.round c.args.from c.args.item.now c.self.view_is
    c.self.invariant.set c.self.invariant.mine c.requires.member c.requires.another c.requires.ranges in
    let path = labels_one c.args.item.now.path c.label_at-a.result
    (ready_long c.args.self.now c.args.round c.args.from c.args.item.now ready ∙ c.if-round-eq2.true)
    c.label_at-a.ensures in
    let there : has c.args.self.now.members c.label_at-a.result ≡ true =
    subst (λ (t : TreeValue). has t.members c.label_at-a.result ≡ true) c.self.view_is
    (sym c.has.ensures ∙ c.if-has.true) in
    second_path c.args.self.now c.args.round c.args.from c.args.item.now c.label_at-a.result ready path there

pub has-requires-else-round-eq2 : goal.has-requires-else-round-eq2
has-requires-else-round-eq2 c =
    ready_label c.args.round c.args.from c.args.item.now 0 c.label_at-a-else-round-eq2.result c.requires.ranges
    c.label_at-a-else-round-eq2.ensures

pub has-requires-then-has-2 : goal.has-requires-then-has-2
has-requires-then-has-2 c =
    ready_label c.args.round c.args.from c.args.item.now 1 c.label_at-b.result c.requires.ranges c.label_at-b.ensures

pub keep_third-requires-clause-path : goal.keep_third-requires-clause-path
keep_third-requires-clause-path c =
    let ready : IsReady c.args.self.now c.args.round c.args.from c.args.item.now =
    ready_from (the_view c.self.inside) c.args.self.now c.args.round c.args.from c.args.item.now c.self.view_is
    c.self.invariant.set c.self.invariant.mine c.requires.member c.requires.another c.requires.ranges in
    let few : length c.args.self.now.members ≤ 7 = few_members c.args.self.now.members ready.set in
    let low = c.requires.low in
    let high = c.requires.high in
    let one = c.if-round-eq1.false in
    let two = c.if-round-eq2.false in
    let three : c.args.round ≡ 3 = omega arith in
    let path = labels_two c.args.item.now.path c.label_at-a-else-round-eq2.result c.label_at-b.result
    (ready_long c.args.self.now c.args.round c.args.from c.args.item.now ready ∙ three)
    c.label_at-a-else-round-eq2.ensures c.label_at-b.ensures in
    let there_a : has c.args.self.now.members c.label_at-a-else-round-eq2.result ≡ true =
    subst (λ (t : TreeValue). has t.members c.label_at-a-else-round-eq2.result ≡ true) c.self.view_is
    (sym c.has-else-round-eq2.ensures ∙ c.if-has-2.true) in
    let there_b : has c.args.self.now.members c.label_at-b.result ≡ true =
    subst (λ (t : TreeValue). has t.members c.label_at-b.result ≡ true) c.self.view_is
    (sym c.has-then-has-2.ensures ∙ c.if-has-3.true) in
    third_path c.args.self.now c.args.round c.args.from c.args.item.now c.label_at-a-else-round-eq2.result
    c.label_at-b.result ready path there_a there_b
