use Rattle.std.proofs.Common.{◌≡◌, ◌∙◌, ap, Option, ◌∷◌, []}
use Rattle.guards_model.specs.Channels.{Channel, by_channel}
use Rattle.guards_model.specs.Frames.{SourceValue}
use Rattle.channel_node.specs.Trees.{word_from}
use Rattle.channel_node.proofs.tree.RoundTree.agreed.Goals as goal

seven : {A : Type 0} {a b c d e f g p q r s t u v : A} → a ≡ p → b ≡ q → c ≡ r → d ≡ s → e ≡ t → f ≡ u → g ≡ v →
    (a ∷ b ∷ c ∷ d ∷ e ∷ f ∷ g ∷ []) ≡ (p ∷ q ∷ r ∷ s ∷ t ∷ u ∷ v ∷ [])
seven h i j k l m n = cc

pub returns-clause-agreed : goal.returns-clause-agreed
unfolding by_channel
returns-clause-agreed c =
    λ received stands.
    let f : Channel → Option SourceValue = λ s. word_from received c.args.self.now s in
    let a : c.agreed_word.result ≡ f 0 = c.agreed_word.ensures.agreed received stands ∙ ap f c.of.ensures in
    let b : c.agreed_word-2.result ≡ f 1 = c.agreed_word-2.ensures.agreed received stands ∙ ap f c.of-2.ensures in
    let d : c.agreed_word-3.result ≡ f 2 = c.agreed_word-3.ensures.agreed received stands ∙ ap f c.of-3.ensures in
    let e : c.agreed_word-4.result ≡ f 3 = c.agreed_word-4.ensures.agreed received stands ∙ ap f c.of-4.ensures in
    let g : c.agreed_word-5.result ≡ f 4 = c.agreed_word-5.ensures.agreed received stands ∙ ap f c.of-5.ensures in
    let h : c.agreed_word-6.result ≡ f 5 = c.agreed_word-6.ensures.agreed received stands ∙ ap f c.of-6.ensures in
    let i : c.agreed_word-7.result ≡ f 6 = c.agreed_word-7.ensures.agreed received stands ∙ ap f c.of-7.ensures in
    seven a b d e g h i
