-- The reader at a place in a text.
use Rattle.std.proofs.Common.{◌≡◌, ℕ, suc, ◌+◌, ◌<◌, ◌≤◌, ◌^◌, List, [], ◌∷◌, ◌++◌, length, take, drop, get_or, Option, Some, None, refl, sym, ap, ◌∙◌, subst, arith}
use Rattle.std.proofs.lemmas.List.{take_more, length-take, take-append-drop}
use Rattle.std.proofs.Math.Seq.{drop-cons}
use Rattle.guards_model.specs.Expressions.{Expression}
use Rattle.expr_text.specs.declared.state.Sizes.{Sizes}
use Rattle.expr_text.specs.Grammar.{SpellsExpression, IsInGrammar, IsLongestViable}
use Rattle.expr_text.specs.Reading.{State, initial, after, byte_kind, run, and_then, finished, minuses_of}
use Rattle.expr_text.specs.Parsing.{IsRefusedAt}
use Rattle.expr_text.proofs.Runs.{run-append}
use Rattle.expr_text.proofs.Sound.{sound}
use Rattle.expr_text.proofs.Viable.{stopped, stops, not_in_grammar, ended_early}
use Rattle.expr_text.proofs.Growth.{Within, run_minuses}

module _ (sizes : Sizes) where
  -- one more byte
  pub run_step : (text : List ℕ) (at : ℕ) (s : State) (o : Option State) → at < length text →
      run sizes (take at text) initial ≡ Some s → o ≡ after sizes s (byte_kind (get_or text at 0)) →
      run sizes (take (at + 1) text) initial ≡ o
  run_step text at s o lt before e =
      ap (λ t. run sizes t initial) (take_more text at 0 lt)
      ∙ run-append sizes (take at text) (get_or text at 0 ∷ []) initial
      ∙ ap (and_then (run sizes (get_or text at 0 ∷ []))) before
      ∙ ap (and_then Some) (sym e)
      ∙ same o
    where
      same : (o : Option State) → and_then Some o ≡ o
      same None = refl
      same (Some s) = refl

  module _ (few_blocks : sizes.blocks ≤ 256) where
    pub few_minuses : (text : List ℕ) (at : ℕ) (s : State) → length text ≤ 1100 → at < length text →
        run sizes (take at text) initial ≡ Some s → minuses_of s < 2 ^ 32
    few_minuses text at s short lt before =
        let few : minuses_of s ≤ 0 + length (take at text) =
        subst (Within sizes few_blocks (0 + length (take at text))) before
        (run_minuses sizes few_blocks (take at text) initial) in
        omega (arith, length-take at text)

    -- no text of the grammar goes on with this byte
    pub refused_here : (text : List ℕ) (at : ℕ) (s : State) → length text ≤ 1100 → at < length text →
        run sizes (take at text) initial ≡ Some s → None ≡ after sizes s (byte_kind (get_or text at 0)) →
        IsRefusedAt sizes text at
    refused_here text at s short lt before e =
        let byte = get_or text at 0 in
        let whole : text ≡ take at text ++ byte ∷ drop (suc at) text =
        sym (take-append-drop at text) ∙ ap (λ t. take at text ++ t) (drop-cons text at 0 lt) in
        let size : length (take at text) ≡ at = omega (arith, length-take at text) in
        let dead = stops sizes few_blocks (take at text) (drop (suc at) text) byte s before (sym e) in
        record {
          short = short;
          refused = subst (λ t. IsInGrammar sizes t → ⊥) (sym whole)
              (not_in_grammar sizes few_blocks (take at text ++ byte ∷ drop (suc at) text)
              (ap (and_then finished) dead));
          place = subst (λ n. IsLongestViable sizes text n) size
              (subst (λ t. IsLongestViable sizes t (length (take at text))) (sym whole)
              (stopped sizes few_blocks (take at text) (drop (suc at) text) byte s before (sym e)));
        }

    -- the text ends too early
    pub refused_at_end : (text : List ℕ) (s : State) → length text ≤ 1100 → run sizes text initial ≡ Some s →
        None ≡ finished s → IsRefusedAt sizes text (length text)
    refused_at_end text s short all e = record {
      short = short;
      refused = not_in_grammar sizes few_blocks text (ap (and_then finished) all ∙ sym e);
      place = ended_early sizes few_blocks text s all;
    }

    pub spelled_at_end : (text : List ℕ) (s : State) (e : Expression) → run sizes text initial ≡ Some s →
        Some e ≡ finished s → SpellsExpression sizes text e
    spelled_at_end text s e all h = sound sizes few_blocks text e (ap (and_then finished) all ∙ sym h)
