-- What a report shows of lines whose counts are all 0 and whose votes are the output words.
use Rattle.std.proofs.Common.{◌≡◌, ◌≤◌, ◌<◌, ◌+◌, ℕ, zero, suc, ℤ, add-one, add-zero, zero-add, List, [], ◌∷◌, ◌++◌, length, map, take, get_or, replicate, Option, Some, ap, sym, ◌∙◌, arith}
use Rattle.std.specs.Prelude.{pos, slice_get, slice_set}
use Rattle.std.proofs.lemmas.List.{map-append, take-replicate, take_more, take_more_set}
use Rattle.std.proofs.lemmas.Option.{slice_get-get_or}
use Rattle.std.specs.List.{range_with_len}
use Rattle.guards_model.specs.Channels.{numbers_below}
use Rattle.guards_model.specs.Texts.{LineValue}
use Rattle.guards_model.specs.Records.{shown_line}
use Rattle.guards_runs.specs.IdealReport.{ideal_line}

-- the line of a channel, with a place for each word, vote and count of the greatest mission
abbrev pub whole_line : ℕ → List ℤ → List (Option ℤ) → LineValue
whole_line chan inputs votes =
    record { channel = chan; inputs = inputs; votes = votes; judged = []; counts = replicate 7 0 }

pub line_shown : (channels width chan : ℕ) (inputs : List ℤ) (votes : List (Option ℤ)) (outputs : List ℤ) →
    channels ≤ 7 → take (length outputs) votes ≡ map Some outputs →
    shown_line channels width (length outputs) (whole_line chan inputs votes)
    ≡ ideal_line channels (take width inputs) outputs chan
unfolding ideal_line
line_shown channels width chan inputs votes outputs most voted =
    let zeros : take channels (replicate 7 0) ≡ replicate channels 0 = take-replicate channels 7 0 most in
    ap (λ (counts : List ℕ). record {
      channel = chan;
      inputs = take width inputs;
      votes = take (length outputs) votes;
      judged = [];
      counts = counts;
    }) zeros
    ∙ ap (λ (shown : List (Option ℤ)).
    record {
      channel = chan;
      inputs = take width inputs;
      votes = shown;
      judged = [];
      counts = replicate channels 0;
    }) voted

pub range_more : (a n : ℕ) → range_with_len a (n + 1) ≡ range_with_len a n ++ (a + n) ∷ []
range_more a n = rw add-one (by_length a n)
  where
    by_length : (a n : ℕ) → range_with_len a (suc n) ≡ range_with_len a n ++ (a + n) ∷ []
    by_length a zero = ap (λ k. k ∷ []) (sym (add-zero a))
    by_length a (suc n) =
        let moved : a + 1 + n ≡ a + suc n = omega arith in
        ap (λ ks. a ∷ ks) (by_length (a + 1) n ∙ ap (λ k. range_with_len (a + 1) n ++ k ∷ []) moved)

-- one more channel has its line
pub lines_more : (channels width outputs number : ℕ) (wanted : ℕ → LineValue) (lines : List LineValue)
    (line : LineValue) →
    map (shown_line channels width outputs) lines ≡ map wanted (numbers_below number) →
    shown_line channels width outputs line ≡ wanted number →
    map (shown_line channels width outputs) (lines ++ line ∷ []) ≡ map wanted (numbers_below (number + 1))
lines_more channels width outputs number wanted lines line before here =
    map-append (shown_line channels width outputs) lines (line ∷ [])
    ∙ ap (λ front. front ++ shown_line channels width outputs line ∷ []) before
    ∙ ap (λ last. map wanted (numbers_below number) ++ last ∷ []) (here ∙ ap wanted (sym (zero-add number)))
    ∙ sym (map-append wanted (numbers_below number) ((0 + number) ∷ []))
    ∙ ap (map wanted) (sym (range_more 0 number))

-- one more word is voted
pub votes_more : (words : List ℤ) (votes : List (Option ℤ)) (p : ℕ) (v : Option ℤ) → p < length words →
    p < length votes → v ≡ slice_get words p →
    take p votes ≡ map Some (take p words) → take (p + 1) (slice_set votes p v) ≡ map Some (take (p + 1) words)
votes_more words votes p v lt low is before =
    take_more_set votes p v low
    ∙ ap (λ front. front ++ v ∷ []) before
    ∙ ap (λ x. map Some (take p words) ++ x ∷ []) (is ∙ slice_get-get_or words p (pos 0) lt)
    ∙ sym (map-append Some (take p words) (get_or words p (pos 0) ∷ []))
    ∙ ap (map Some) (sym (take_more words p (pos 0) lt))

-- one more place of a table is filled
pub table_more : {A : Type 0} (f : ℕ → A) (xs : List A) (n : ℕ) (v : A) → n < length xs → v ≡ f n →
    take n xs ≡ map f (numbers_below n) →
    take (n + 1) (slice_set xs n v) ≡ map f (numbers_below (n + 1))
table_more f xs n v low is before =
    take_more_set xs n v low
    ∙ ap (λ front. front ++ v ∷ []) before
    ∙ ap (λ x. map f (numbers_below n) ++ x ∷ []) (is ∙ ap f (sym (zero-add n)))
    ∙ sym (map-append f (numbers_below n) ((0 + n) ∷ []))
    ∙ ap (map f) (sym (range_more 0 n))
