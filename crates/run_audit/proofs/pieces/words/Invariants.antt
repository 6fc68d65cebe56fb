use Rattle.std.proofs.Common.{◌≡◌, ℤ, true, List, length, take, drop}
use Rattle.std.specs.List.{list_all}
use Rattle.std.specs.Str.{IsUtf8}
use Rattle.guards_model.specs.Texts.{words_text}
use Rattle.guards_model.specs.Words.{is_word}
use Rattle.run_audit.proofs.pieces.words.Given as goal

-- the words so far are read, and the rest stands
abbrev pub invariant-loop-place : goal.invariant-loop-place
invariant-loop-place l = record {
  whole : length l.words ≡ 8;
  formed : list_all is_word l.words ≡ true;
  text : IsUtf8 l.rest;
  read : (ws : List ℤ) → list_all is_word ws ≡ true → length ws ≡ l.count → l.text ≡ words_text ws →
      (l.rest ≡ words_text (drop l.place ws)) × (take l.place l.words ≡ take l.place ws);
}
