-- At most one answer but want of memory fits a text.
use Rattle.std.proofs.Common.{◌≡◌, ℕ, ◌<◌, ◌≤◌, List, length, Result, Ok, Err, refl, sym, ap, ◌∙◌, subst, arith, inl, inr}
use Rattle.expr_core.specs.declared.expr.Expr.{Expr}
use Rattle.guards_model.specs.Expressions.{Expression}
use Rattle.expr_core.specs.Tree.{tree}
use Rattle.expr_core.specs.Size.{node_count, tree_depth}
use Rattle.expr_text.specs.declared.fault.ExprFault.{ExprFault}
use Rattle.expr_text.specs.declared.fault.ExprFault.TheVariants.{TooLong, Grammar, TooLarge, Memory}
use Rattle.expr_text.specs.declared.state.Sizes.{Sizes}
use Rattle.expr_text.specs.Grammar.{SpellsExpression, IsLongestViable}
use Rattle.expr_text.specs.Parsing.{IsSmall, IsLarge, IsRefusedAt, IsTooLarge, IsRead, Parses, IsFault, IsExpr, IsExact, Measures}
use Rattle.expr_text.proofs.Complete.{unambiguous}
use Rattle.expr_core.proofs.Trees.{one_expr}

module _ (sizes : Sizes) (few_blocks : sizes.blocks ≤ 256) (text : List ℕ) where
  pub clash : (e : Expression) → IsLarge e → IsSmall e → ⊥
  clash e (inl h) s = let n = s.0 in omega arith
  clash e (inr h) s = let d = s.1 in omega arith

  -- what is measured was spelled by the text
  pub measured_parses : (e : Expr) → length text ≤ 1100 → SpellsExpression sizes text (tree e) →
      (r : Result Expr ExprFault) → Measures e r → Parses sizes text r
  measured_parses e short spelled (Ok x) m =
      record {
        short = short;
        spelled = subst (λ y. SpellsExpression sizes text (tree y)) (sym m.0) spelled;
        small = subst (λ y. IsSmall (tree y)) (sym m.0) m.1;
      }
  measured_parses e short spelled (Err TooLong) m = absurd m
  measured_parses e short spelled (Err (Grammar at)) m = absurd m
  measured_parses e short spelled (Err (TooLarge n d)) m =
      (tree e, record { short = short; spelled = spelled; large = m.0 }, m.1, m.2)
  measured_parses e short spelled (Err Memory) m = tt

  one_length : (m n : ℕ) → IsLongestViable sizes text m → IsLongestViable sizes text n → m ≡ n
  one_length m n a b = let below = b.longest m a.within a.viable in let above = a.longest n b.within b.viable in
      omega arith

  pub of_too_long : 1100 < length text → (r : Result Expr ExprFault) → Parses sizes text r → IsFault TooLong r
  of_too_long h (Ok x) p = let s = p.short in absurd (omega arith)
  of_too_long h (Err TooLong) p = inl refl
  of_too_long h (Err (Grammar at)) p = let s = p.short in absurd (omega arith)
  of_too_long h (Err (TooLarge n d)) p = let s = p.1.short in absurd (omega arith)
  of_too_long h (Err Memory) p = inr refl

  pub of_refused : (at : ℕ) → IsRefusedAt sizes text at → (r : Result Expr ExprFault) → Parses sizes text r →
      IsFault (Grammar at) r
  of_refused at h (Ok x) p = absurd (h.refused (tree x, p.spelled))
  of_refused at h (Err TooLong) p = let s = h.short in absurd (omega arith)
  of_refused at h (Err (Grammar m)) p = inl (ap Grammar (one_length m at p.place h.place))
  of_refused at h (Err (TooLarge n d)) p = absurd (h.refused (p.0, p.1.spelled))
  of_refused at h (Err Memory) p = inr refl

  pub of_too_large : (e : Expression) → IsTooLarge sizes text e → (r : Result Expr ExprFault) → Parses sizes text r →
      IsFault (TooLarge (node_count e) (tree_depth e)) r
  of_too_large e h (Ok x) p =
      absurd (clash e h.large (subst IsSmall (unambiguous sizes few_blocks text (tree x) e p.spelled h.spelled)
      p.small))
  of_too_large e h (Err TooLong) p = let s = h.short in absurd (omega arith)
  of_too_large e h (Err (Grammar m)) p = absurd (p.refused (e, h.spelled))
  of_too_large e h (Err (TooLarge n d)) p =
      let same = unambiguous sizes few_blocks text p.0 e p.1.spelled h.spelled in
      inl (cc (p.2 ∙ ap node_count same, p.3 ∙ ap tree_depth same))
  of_too_large e h (Err Memory) p = inr refl

  of_read : (e : Expr) → IsRead sizes text (tree e) → (r : Result Expr ExprFault) → Parses sizes text r → IsExpr e r
  of_read e h (Ok x) p = one_expr x e (unambiguous sizes few_blocks text (tree x) (tree e) p.spelled h.spelled)
  of_read e h (Err TooLong) p = let s = h.short in absurd (omega arith)
  of_read e h (Err (Grammar m)) p = absurd (p.refused (tree e, h.spelled))
  of_read e h (Err (TooLarge n d)) p =
      absurd (clash p.0 p.1.large
      (subst IsSmall (unambiguous sizes few_blocks text (tree e) p.0 h.spelled p.1.spelled) h.small))
  of_read e h (Err Memory) p = refl

  pub exact : (r : Result Expr ExprFault) → Parses sizes text r → IsExact sizes text r
  exact r p = record {
    too_long = λ h. of_too_long h r p;
    grammar = λ at h. of_refused at h r p;
    too_large = λ e h. of_too_large e h r p;
    expression = λ e h. of_read e h r p;
  }
