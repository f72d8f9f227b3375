-- What is asked of a join, in the paper's words: statements of any span and of any outcome, for the definitions to be laid beside.
use Rattle.std.specs.Prelude.{◌≡◌, ℕ, ◌≤◌}
use Rattle.span.specs.declared.interval.Interval.{Interval}
use Rattle.span.specs.declared.interval.Op.{Op}
use Rattle.span.specs.declared.interval.Op.TheVariants.{And, Not, Or, Xor}
use Rattle.span.specs.interval.Interval.{Greatest, In, Least, cut}
use Rattle.span.specs.interval.Op.{result, second}

-- "the span from the smallest to the largest result that the argument intervals give, exactly": both ends of s are results of
-- words in the intervals, and every result lies between them
pub record Exact (w : ℕ) (op : Op) (x y s : Interval) : Type 0 where
  pub low : Least (result w op) x (second op y) s.low
  pub high : Greatest (result w op) x (second op y) s.high

-- "the inverse operation": back gives x from h and y. h is what op gives of x and y just where x is what back gives of h and y.
pub record GivesX (w : ℕ) (op back : Op) : Type 0 where
  pub to : (c a b : ℕ) → c ≡ result w op a b → a ≡ result w back c b
  pub from : (c a b : ℕ) → a ≡ result w back c b → c ≡ result w op a b

-- and y from h and x
pub record GivesY (w : ℕ) (op back : Op) : Type 0 where
  pub to : (c a b : ℕ) → c ≡ result w op a b → b ≡ result w back c a
  pub from : (c a b : ℕ) → b ≡ result w back c a → c ≡ result w op a b

-- "its old one cut with the span from the smallest to the largest result that the argument intervals give, exactly"
pub record CutBy (w : ℕ) (op : Op) (x y old new : Interval) : Type 0 where
  pub span : Interval
  pub exact : Exact w op x y span
  pub is : new ≡ cut old span

-- "For NOT and XOR, the arguments are cut in the same way by the inverse operation; for AND and OR they stay": x by h and y
unfoldable pub CutsX : ℕ → Op → (h x y new : Interval) → Type 0
CutsX w Not h x y new = CutBy w Not h y x new
CutsX w And h x y new = new ≡ x
CutsX w Or h x y new = new ≡ x
CutsX w Xor h x y new = CutBy w Xor h y x new

-- and y by h and x. A NOT has no y, and it stays.
unfoldable pub CutsY : ℕ → Op → (h x y new : Interval) → Type 0
CutsY w Not h x y new = new ≡ y
CutsY w And h x y new = new ≡ y
CutsY w Or h x y new = new ≡ y
CutsY w Xor h x y new = CutBy w Xor h x y new

-- "All cuts read the intervals as given": the three new intervals, from exact spans
pub record Cuts (w : ℕ) (op : Op) (h x y new_h new_x new_y : Interval) : Type 0 where
  pub h_cut : CutBy w op x y h new_h
  pub x_cut : CutsX w op h x y new_x
  pub y_cut : CutsY w op h x y new_y

-- b is a word of y, where the operation has a y
unfoldable pub InSecond : Op → Interval → ℕ → Type 0
InSecond Not y b = Unit {0}
InSecond And y b = In y b
InSecond Or y b = In y b
InSecond Xor y b = In y b

-- a "solution inside the given intervals": words of them that the operation joins
pub record Solves (w : ℕ) (op : Op) (h x y : Interval) (c a b : ℕ) : Type 0 where
  pub in_h : In h c
  pub in_x : In x a
  pub in_y : InSecond op y b
  pub joins : c ≡ result w op a b

-- "no new interval goes outside its old one"
pub record Inside (new old : Interval) : Type 0 where
  pub low : old.low ≤ new.low
  pub high : new.high ≤ old.high
