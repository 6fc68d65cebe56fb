-- What comes of a line at a place.
use Rattle.std.proofs.Common.{◌≡◌, ◌≤◌, ◌<◌, ◌==◌, ℕ, suc, Bool, true, false, cond, not, ◌&&◌, List, [], ◌∷◌, length, Option, Some, None, Result, Ok, Err, refl, sym, ap, subst, ◌∙◌, arith, eqb-true}
use Rattle.std.specs.Prelude.{nat_le, nat_lt, take, drop}
use Rattle.std.proofs.lemmas.Bool.{leb-true}
use Rattle.std.proofs.lemmas.List.{length-append}
use Rattle.guards_model.specs.Missions.{within}
use Rattle.guards_model.specs.Texts.{TextValue, LineValue, StopValue}
use Rattle.guards_model.proofs.BoolTests.{and_true, both, differ, second_false}
use Rattle.guards_audit.specs.Lines.{ReportLine, head_told, cycle_told, channel_told, steps_told, end_told, out_told, done_told, stop_told, if_there, lines_in}
use Rattle.guards_audit.specs.Reading.{line_read}
use Rattle.run_audit.specs.declared.line.Sizes.{Sizes}
use Rattle.run_audit.specs.Values.{IsInUse}
use Rattle.report_story.specs.declared.reader.RunSizes.{RunSizes}
use Rattle.report_story.specs.declared.reader.Stage.{Stage}
use Rattle.report_story.specs.declared.reader.Stage.TheVariants as stage
use Rattle.report_story.specs.Places.{StoryPlace, suits_story, story_after, if_suits, story_told, story_of, at_first, ended_story, is_story_head, is_story_amid, is_between, sizes_fit, story_sizes, line_fits, line_comes_next, fits_mission}
use Rattle.report_story.specs.Answers.{IsPlace, StepsStory, OnlyStops}

-- a line that the text spells was taken or not
pub stepped : (known : Option RunSizes) (p : StoryPlace) (text : TextValue) (line : ReportLine) (fits : Bool)
    (q : StoryPlace) →
    line_read text ≡ Some line → fits_mission known line ≡ true → fits ≡ suits_story p line →
    (fits ≡ true → q ≡ story_after p line) →
    StepsStory known p text fits q
stepped known p text line true q is of_mission fit told =
    ap (if_suits known p) is ∙ ap (λ b. cond b (Some (story_after p line)) None)
    (and_true (fits_mission known line) (suits_story p line) of_mission (sym fit))
    ∙ ap (λ x. Some x) (sym (told refl))
stepped known p text line false q is of_mission fit told =
    ap (if_suits known p) is ∙ ap (λ b. cond b (Some (story_after p line)) None)
    (second_false (fits_mission known line) (suits_story p line) (sym fit))

-- a line that the text spells is none of the mission
pub strange : (known : Option RunSizes) (p : StoryPlace) (text : TextValue) (line : ReportLine) (q : StoryPlace) →
    line_read text ≡ Some line → fits_mission known line ≡ false → StepsStory known p text false q
strange known p text line q is other =
    ap (if_suits known p) is ∙ ap (λ b. cond (b && suits_story p line) (Some (story_after p line)) None) other

none_of : (known : Option RunSizes) (p : StoryPlace) (o : Option ReportLine) →
    ((line : ReportLine) → o ≡ Some line → suits_story p line ≡ false) →
    if_suits known p o ≡ None
none_of known p None h = refl
none_of known p (Some line) h =
    ap (λ b. cond b (Some (story_after p line)) None)
    (second_false (fits_mission known line) (suits_story p line) (h line refl))

-- no line that the text spells may come
pub none_fits : (known : Option RunSizes) (p : StoryPlace) (text : TextValue) →
    ((line : ReportLine) → line_read text ≡ Some line → suits_story p line ≡ false) →
    if_suits known p (line_read text) ≡ None
none_fits known p text h = none_of known p (line_read text) h

-- ---- the loop

pub begins : (known : Option RunSizes) (text : TextValue) →
    story_told known 0 (Some at_first) (lines_in text) ≡ story_of known text
unfolding story_of
begins known text = refl

pub goes : (known : Option RunSizes) (n : ℕ) (p q : StoryPlace) (text : TextValue) (texts : List TextValue)
    (all : Result StoryPlace ℕ)
    → story_told known n (Some p) (text ∷ texts) ≡ all → if_suits known p (line_read text) ≡ Some q →
    story_told known (suc n) (Some q) texts ≡ all
goes known n p q text texts all h step = sym (ap (λ o. story_told known (suc n) o texts) step) ∙ h

pub stops : (known : Option RunSizes) (n : ℕ) (p : StoryPlace) (text : TextValue) (texts : List TextValue)
    (all : Result StoryPlace ℕ)
    → story_told known n (Some p) (text ∷ texts) ≡ all → if_suits known p (line_read text) ≡ None → all ≡ Err (suc n)
stops known n p text texts all h step = sym h ∙ ap (λ o. story_told known (suc n) o texts) step

pub at_end : (known : Option RunSizes) (n : ℕ) (p : StoryPlace) (all : Result StoryPlace ℕ) →
    story_told known n (Some p) [] ≡ all → is_story_head p.stage ≡ false →
    all ≡ Ok p
at_end known n p all h some = sym h ∙ ap (λ b. cond b (Err (suc n)) (Ok p)) some

pub no_first : (known : Option RunSizes) (n : ℕ) (p : StoryPlace) (all : Result StoryPlace ℕ) →
    story_told known n (Some p) [] ≡ all → is_story_head p.stage ≡ true →
    all ≡ Err (suc n)
no_first known n p all h none = sym h ∙ ap (λ b. cond b (Err (suc n)) (Ok p)) none

-- ---- what holds of a place

pub first_place : IsPlace at_first
first_place = record {
  least = omega arith;
  most = omega arith;
  sized = λ s e. absurd (none_some s e);
  cycles = omega arith;
  head = λ h. refl;
  amid = λ h. differ (sym h);
  told = omega arith;
}
  where
    none_some : (s : Sizes) → None ≡ Some s → ⊥
    none_some s e = cc

in_range : (low high n : ℕ) → within low high n ≡ true → (low ≤ n) × (n ≤ high)
in_range low high n h =
    let parts = both (nat_le low n) (nat_le n high) h in (leb-true low n parts.0, leb-true n high parts.1)

some_is : (a b : Sizes) → Some a ≡ Some b → a ≡ b
some_is a b e = cc

used : (p : StoryPlace) (l : LineValue) (o : Option Sizes) → IsPlace p → p.sizes ≡ o →
    sizes_fit o (length l.inputs) (length l.votes) ≡ true → IsInUse (story_sizes p l)
used p l None place is h =
    let parts = both (within 1 4 (length l.inputs)) (within 1 8 (length l.votes)) h in
    record {
      channels = (omega (arith, place.least), place.most);
      width = in_range 1 4 (length l.inputs) parts.0;
      outputs = in_range 1 8 (length l.votes) parts.1;
    }
used p l (Some s) place is h =
    let parts = both (length l.inputs == s.width) (length l.votes == s.outputs) h in
    let known = place.sized s is in
    let wide = eqb-true (length l.inputs) s.width parts.0 in
    let many = eqb-true (length l.votes) s.outputs parts.1 in
    record {
      channels = (omega (arith, place.least), place.most);
      width = (omega (arith, wide, known.0.width.0), omega (arith, wide, known.0.width.1));
      outputs = (omega (arith, many, known.0.outputs.0), omega (arith, many, known.0.outputs.1));
    }

-- it holds of it at another stage that is neither before the first line nor in a cycle
moved : (p : StoryPlace) (s : Stage) → IsPlace p → is_story_head s ≡ false → is_story_amid s ≡ false →
    IsPlace (record p { stage = s })
moved p s place no_head no_cycle = record {
  least = place.least;
  most = place.most;
  sized = place.sized;
  cycles = place.cycles;
  head = λ k. differ (sym k ∙ no_head);
  amid = λ k. differ (sym k ∙ no_cycle);
  told = place.told;
}

-- it holds of the next one too
pub leads_on : (p : StoryPlace) (line : ReportLine) → IsPlace p → suits_story p line ≡ true →
    IsPlace (story_after p line)
leads_on p (head_told n m) place h =
    let parts = both (within 3 7 n) (within 1 2000 m)
    (both (is_story_head p.stage) (within 3 7 n && within 1 2000 m) h).1 in
    let few = in_range 3 7 n parts.0 in
    let many = in_range 1 2000 m parts.1 in
    let none : length p.told ≡ 0 = place.head (both (is_story_head p.stage) (within 3 7 n && within 1 2000 m) h).0 in
    record {
      least = few.0;
      most = few.1;
      sized = λ s e. absurd (none_some s e);
      cycles = many.1;
      head = λ k. differ (sym k);
      amid = λ k. differ (sym k);
      told = omega (arith, none);
    }
  where
    none_some : (s : Sizes) → None ≡ Some s → ⊥
    none_some s e = cc
leads_on p (cycle_told c active t) place h =
    let fit = both (c == length p.told) (nat_lt c p.cycles)
    (both (is_between p.stage) (c == length p.told && nat_lt c p.cycles) h).1 in
    let at : c ≡ length p.told = eqb-true c (length p.told) fit.0 in
    let below : c < p.cycles = leb-true (suc c) p.cycles fit.1 in
    record {
      least = place.least;
      most = place.most;
      sized = place.sized;
      cycles = place.cycles;
      head = λ k. differ (sym k);
      amid = λ k. omega (arith, at, below);
      told = place.told;
    }
leads_on p (channel_told l) place h =
    let fit = both (is_story_amid p.stage) (line_fits p l) h in
    let size = both (sizes_fit p.sizes (length l.inputs) (length l.votes) && length l.counts == p.channels)
    (line_comes_next p.last l.channel) fit.1 in
    let known = both (sizes_fit p.sizes (length l.inputs) (length l.votes)) (length l.counts == p.channels) size.0 in
    record {
      least = place.least;
      most = place.most;
      sized = λ s e. (
        subst IsInUse (some_is (story_sizes p l) s e) (used p l p.sizes place refl known.0),
        ap (λ x. x.channels) (sym (some_is (story_sizes p l) s e)),
      );
      cycles = place.cycles;
      head = place.head;
      amid = place.amid;
      told = place.told;
    }
leads_on p (steps_told t) place h = place
leads_on p (end_told removed joined remaining) place h =
    let now = both (is_story_amid p.stage) (if_there (λ n. nat_le n 256) remaining) h in
    let below = place.amid now.0 in
    let one = length-append p.told (ended_story p.last removed joined remaining ∷ []) in
    record {
      least = place.least;
      most = place.most;
      sized = place.sized;
      cycles = place.cycles;
      head = λ k. differ (sym k);
      amid = λ k. differ (sym k);
      told = omega (arith, one, below);
    }
leads_on p (out_told words) place h = moved p stage.Between place refl refl
leads_on p (done_told m) place h = record {
  least = place.least;
  most = place.most;
  sized = place.sized;
  cycles = place.cycles;
  head = λ k. differ (sym k);
  amid = λ k. differ (sym k);
  told = place.told;
}
leads_on p (stop_told s) place h = record {
  least = place.least;
  most = place.most;
  sized = place.sized;
  cycles = place.cycles;
  head = λ k. differ (sym k);
  amid = λ k. differ (sym k);
  told = place.told;
}

-- the place after a step
pub next_place : (known : Option RunSizes) (p q : StoryPlace) (text : TextValue) → IsPlace p →
    if_suits known p (line_read text) ≡ Some q → IsPlace q
next_place known p q text place step = by_line (line_read text) step
  where
    by_test : (line : ReportLine) (b : Bool) → (fits_mission known line && suits_story p line) ≡ b →
        cond b (Some (story_after p line)) None ≡ Some q → IsPlace q
    by_test line true fit e =
        subst IsPlace (place_is (story_after p line) e)
        (leads_on p line place (both (fits_mission known line) (suits_story p line) fit).1)
      where
        place_is : (x : StoryPlace) → Some x ≡ Some q → x ≡ q
        place_is x h = cc
    by_test line false fit e = absurd (none_some e)
      where
        none_some : None ≡ Some q → ⊥
        none_some h = cc

    by_line : (o : Option ReportLine) → if_suits known p o ≡ Some q → IsPlace q
    by_line None e = absurd (none_some e)
      where
        none_some : None ≡ Some q → ⊥
        none_some h = cc
    by_line (Some line) e = by_test line (fits_mission known line && suits_story p line) refl e
