-- Lists that are filled up, and the sizes of a line that is shown.
use Rattle.std.proofs.Common.{◌≡◌, ◌≤◌, ◌-◌, ◌==◌, ◌&&◌, ℕ, zero, suc, true, List, [], ◌∷◌, ◌++◌, length, take, drop, replicate, Some, refl, sym, ap, ◌∙◌, arith}
use Rattle.guards_model.specs.Texts.{LineValue}
use Rattle.guards_audit.specs.Lines.{channel_told}
use Rattle.run_audit.specs.declared.line.Sizes.{Sizes}
use Rattle.report_story.specs.Places.{StoryPlace, story_after, line_comes_next, filled, line_fits, sizes_fit, with_story_line}

pub taken : {A : Type 0} (n : ℕ) (xs : List A) → n ≤ length xs → length (take n xs) ≡ n
taken zero [] h = refl
taken zero (x ∷ xs) h = refl
taken (suc n) [] h = absurd (omega (arith, h))
taken (suc n) (x ∷ xs) h = ap suc (taken n xs (omega (arith, h)))

left_over : {A : Type 0} (d : A) (n k : ℕ) → drop k (replicate n d) ≡ replicate (n - k) d
left_over d zero zero = refl
left_over d zero (suc k) =
    let none : 0 ≡ 0 - suc k = omega arith in
    ap (λ m. replicate m d) none
left_over d (suc n) zero =
    let all : suc n ≡ suc n - 0 = omega arith in
    ap (λ m. replicate m d) all
left_over d (suc n) (suc k) =
    let rest : n - k ≡ suc n - suc k = omega arith in
    left_over d n k ∙ ap (λ m. replicate m d) rest

-- the first elements, and a default in each other place
pub filled_up : {A : Type 0} (d : A) (n k : ℕ) (xs front : List A) → front ≡ take k xs → k ≤ length xs →
    front ++ drop k (replicate n d) ≡ filled n d (take k xs)
filled_up d n k xs front e h =
    (λ i. e i ++ left_over d n k i) ∙ ap (λ m. take k xs ++ replicate (n - m) d) (sym (taken k xs h))

-- a line's sizes are those that it was read with
pub line_fit : (p : StoryPlace) (s : Sizes) (l : LineValue) → length l.inputs ≡ s.width → length l.votes ≡ s.outputs →
    length l.counts ≡ s.channels →
    ((sizes_fit p.sizes s.width s.outputs && s.channels == p.channels) && line_comes_next p.last l.channel)
    ≡ line_fits p l
line_fit p s l a b c =
    sym (λ i. (sizes_fit p.sizes (a i) (b i) && (c i == p.channels)) && line_comes_next p.last l.channel)

pub line_told : (p : StoryPlace) (s : Sizes) (l : LineValue) → length l.inputs ≡ s.width → length l.votes ≡ s.outputs →
    s.channels ≡ p.channels →
    record p { sizes = Some s; last = with_story_line p.last l } ≡ story_after p (channel_told l)
line_told p s l a b c =
    sym (λ i. record p {
      sizes = Some (record { channels = sym c i; width = a i; outputs = b i });
      last = with_story_line p.last l;
    })
