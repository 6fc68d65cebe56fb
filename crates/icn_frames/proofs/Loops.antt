-- Reading values one after the other, as a loop does.
use Rattle.std.proofs.Common.{length, take, ◌≡◌, ℕ, suc, ◌-◌, ◌+◌, ◌≤◌, ◌<◌, List, [], ◌∷◌, ◌++◌, Option, Some, None, refl, sym, ap, ◌∙◌, append_assoc, arith}
use Rattle.std.proofs.lemmas.List.{append-nil, take_more_set, length-set, take_all}
use Rattle.std.proofs.Math.ListN.{set}
use Rattle.icn_frames.specs.declared.unread.Unread.{Unread}
use Rattle.icn_frames.specs.declared.unread.Unread.TheVariants.{Memory, NoFrame}
use Rattle.icn_frames.specs.Reads.{FailsToRead}
use Rattle.guards_model.specs.Fields.{Reader, ◌>>=◌, many}

-- what was read before, and what is still read
abbrev pub with_front : {A : Type 0} → List A → Option (List A × List ℕ) → Option (List A × List ℕ)
with_front front read = read >>= λ x. Some (front ++ x.0, x.1)

regroup : {A : Type 0} (front : List A) (x : A) (read : Option (List A × List ℕ)) →
    with_front front (read >>= λ xs. Some (x ∷ xs.0, xs.1)) ≡ with_front (front ++ x ∷ []) read
regroup front x (Some xs) = ap (λ ys. Some (ys, xs.1)) (sym (append_assoc front (x ∷ []) xs.0))
regroup front x None = refl

module _ {A : Type 0} (read : Reader A) where
  pub begins : (n : ℕ) (bytes : List ℕ) → with_front [] (many read n bytes) ≡ many read n bytes
  begins n bytes = same (many read n bytes)
    where
      same : (r : Option (List A × List ℕ)) → with_front [] r ≡ r
      same (Some xs) = refl
      same None = refl

  pub goes_on : (front : List A) (count i : ℕ) (bytes : List ℕ) (x : A) (after : List ℕ)
      (total : Option (List A × List ℕ)) → i < count → read bytes ≡ Some (x, after)
      → with_front front (many read (count - i) bytes) ≡ total →
      with_front (front ++ x ∷ []) (many read (count - (i + 1)) after) ≡ total
  unfolding many
  goes_on front count i bytes x after total lt h so_far =
      let k : count - i ≡ suc (count - (i + 1)) = omega arith in
      let one : with_front front (many read (count - i) bytes)
      ≡ with_front (front ++ x ∷ []) (many read (count - (i + 1)) after) =
      rw (k, h) (regroup front x (many read (count - (i + 1)) after)) in
      sym one ∙ so_far

  pub ends : (e : Unread) (front : List A) (count i : ℕ) (bytes : List ℕ) (total : Option (List A × List ℕ)) →
      i < count → FailsToRead e (read bytes)
      → with_front front (many read (count - i) bytes) ≡ total → FailsToRead e total
  unfolding many
  ends Memory front count i bytes total lt h so_far = tt
  ends NoFrame front count i bytes total lt h so_far =
      let k : count - i ≡ suc (count - (i + 1)) = omega arith in
      let one : with_front front (many read (count - i) bytes) ≡ None = rw (k, h) refl in
      sym so_far ∙ one

  pub is_done : (front : List A) (count i : ℕ) (bytes : List ℕ) (total : Option (List A × List ℕ)) → count ≤ i →
      with_front front (many read (count - i) bytes) ≡ total → total ≡ Some (front, bytes)
  unfolding many
  is_done front count i bytes total le so_far =
      let k : count - i ≡ 0 = omega arith in
      let one : with_front front (many read (count - i) bytes) ≡ Some (front, bytes) =
      rw k (ap (λ (xs : List A). Some (xs, bytes)) (append-nil front)) in
      sym so_far ∙ one

  -- the same for values that are put into a slice
  pub fills_on : (xs : List A) (i count : ℕ) (bytes : List ℕ) (x : A) (after : List ℕ)
      (total : Option (List A × List ℕ)) → i < count → length xs ≡ count → read bytes ≡ Some (x, after)
      → with_front (take i xs) (many read (count - i) bytes) ≡ total
      → (with_front (take (i + 1) (set xs i x)) (many read (count - (i + 1)) after) ≡ total)
      × (length (set xs i x) ≡ count)
  fills_on xs i count bytes x after total lt places h so_far =
      let one : with_front (take i xs ++ x ∷ []) (many read (count - (i + 1)) after) ≡ total =
      goes_on (take i xs) count i bytes x after total lt h so_far in
      let below : i < length xs = omega (arith, places, lt) in (
        ap (λ front. with_front front (many read (count - (i + 1)) after)) (take_more_set xs i x below) ∙ one,
        length-set xs i x ∙ places,
      )

  pub filled : (xs : List A) (i count : ℕ) (bytes : List ℕ) (total : Option (List A × List ℕ)) → count ≤ i →
      length xs ≡ count → with_front (take i xs) (many read (count - i) bytes) ≡ total → total ≡ Some (xs, bytes)
  filled xs i count bytes total le places so_far =
      is_done xs count i bytes total le
      (ap (λ front. with_front front (many read (count - i) bytes))
      (sym (take_all i xs (omega (arith, places, le)))) ∙ so_far)
