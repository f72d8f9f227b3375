-- A listing carried on to the end: listings one after another, each with a buffer of any size, and each from one above the last word
-- written.
use Rattle.std.specs.Prelude.{◌≡◌, List, ◌++◌, ℕ, suc, ◌<◌, length, take}
use Rattle.word.specs.Word.{top}
use Rattle.sheet.specs.declared.Sheet.{Sheet}
use Rattle.counting.specs.fitting.Words.{onward}
use Rattle.listing.specs.declared.Listing.{Listing}
use Rattle.listing.specs.Listed.{Listed}

-- a listing that was not refused, and the words that it wrote
pub record Wrote (s : Sheet) (start room : ℕ) (words : List ℕ) : Type 0 where
  pub b : List ℕ
  pub b' : List ℕ
  pub r : Listing
  pub listed : Listed s start b b' r
  pub accepted : r.number ≡ 0
  pub size : length b ≡ room
  pub words_are : take r.written b' ≡ words

-- The words that listings write from a start on. They come to the end where a buffer was not filled, or where the top word was written:
-- an empty buffer is always filled, and after the top word there is no start.
pub data CarriedOn (s : Sheet) : (start : ℕ) → List ℕ → Type 0 where
  not_filled : {start room : ℕ} {xs : List ℕ} → Wrote s start room xs → length xs < room → CarriedOn s start xs
  top_written : {start room : ℕ} {xs : List ℕ} → Wrote s start room xs → onward start xs ≡ suc (top s.width) → CarriedOn s start xs
  further : {start room : ℕ} {xs ys : List ℕ} → Wrote s start room xs → CarriedOn s (onward start xs) ys → CarriedOn s start (xs ++ ys)
