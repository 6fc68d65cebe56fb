-- Source words that are in range and of the width, and what is read of them in items.
use Rattle.std.proofs.Common.{◌≡◌, ℕ, ◌==◌, Bool, true, false, cond, ◌&&◌, List, [], ◌∷◌, length, Option, Some, None, refl, ap}
use Rattle.std.specs.Prelude.{find, option_and_then, bytes_eq}
use Rattle.std.specs.List.{list_all}
use Rattle.guards_model.specs.Channels.{Channel}
use Rattle.guards_model.specs.Frames.{SourceValue, ItemValue, absent_or, source_word_in_range}
use Rattle.guards_model.specs.OralMessages.{of_width, word_for}
use Rattle.guards_model.proofs.BoolTests.{both, and_true}
use Rattle.guards_model.proofs.ReadRanges.{item_word_in_range}

abbrev pub word_in_range : Option SourceValue → Bool
word_in_range w = absent_or source_word_in_range w

-- a word in range and of the width, or none
abbrev pub is_fine : ℕ → Option SourceValue → Bool
is_fine width None = true
is_fine width (Some w) = source_word_in_range w && length w.words == width

of_width_by : (width : ℕ) (w : SourceValue) (b : Bool) → (length w.words == width) ≡ b → source_word_in_range w ≡ true →
    is_fine width (cond b (Some w) None) ≡ true
of_width_by width w true e h = and_true (source_word_in_range w) (length w.words == width) h e
of_width_by width w false e h = refl

of_width_fine : (width : ℕ) (v : Option SourceValue) → word_in_range v ≡ true →
    is_fine width (option_and_then (of_width width) v) ≡ true
of_width_fine width None h = refl
of_width_fine width (Some w) h = of_width_by width w (length w.words == width) refl h

-- a fine word is not missing for its width
pub fine_of_width : (width : ℕ) (v : Option SourceValue) → is_fine width v ≡ true →
    option_and_then (of_width width) v ≡ v
fine_of_width width None h = refl
fine_of_width width (Some w) h =
    ap (λ b. cond b (Some w) None) (both (source_word_in_range w) (length w.words == width) h).1

pub fine_in_range : (width : ℕ) (v : Option SourceValue) → is_fine width v ≡ true → word_in_range v ≡ true
fine_in_range width None h = refl
fine_in_range width (Some w) h = (both (source_word_in_range w) (length w.words == width) h).0

found_word_by : (i : ItemValue) (b : Bool) (rest : Option ItemValue) → item_word_in_range i ≡ true →
    word_in_range (option_and_then (λ (k : ItemValue). k.word) rest) ≡ true →
    word_in_range (option_and_then (λ (k : ItemValue). k.word) (cond b (Some i) rest)) ≡ true
found_word_by i true rest h k = h
found_word_by i false rest h k = k

found_word : (p : ItemValue → Bool) (items : List ItemValue) → list_all item_word_in_range items ≡ true →
    word_in_range (option_and_then (λ (i : ItemValue). i.word) (find p items)) ≡ true
found_word p [] h = refl
found_word p (i ∷ items) h =
    let parts = both (item_word_in_range i) (list_all item_word_in_range items) h in
    found_word_by i (p i) (find p items) parts.0 (found_word p items parts.1)

pub word_for_fine : (width : ℕ) (path : List Channel) (items : List ItemValue) →
    list_all item_word_in_range items ≡ true → is_fine width (word_for width path items) ≡ true
word_for_fine width path items h =
    of_width_fine width (option_and_then (λ (i : ItemValue). i.word) (find (λ i. bytes_eq i.path path) items))
    (found_word (λ i. bytes_eq i.path path) items h)

pub said_by : (width : ℕ) (me : Bool) (own sent : Option SourceValue) → is_fine width own ≡ true →
    is_fine width sent ≡ true → is_fine width (cond me own sent) ≡ true
said_by width true own sent h k = h
said_by width false own sent h k = k
