-- A line that is not finished, as it is carried from one part of the input to the next. A route and no meaning: what is held is the
-- line's first bytes, and they tell which frame it is, as is proved (proofs/exchange/Held.antt).
use Rattle.std.specs.Prelude.{cond, List, [], ◌∷◌, ℕ, suc, ltb, replicate, set, take}
use Rattle.frame.specs.route.Reading.{LONGEST}
use Rattle.frame.specs.declared.exchange.Begun.{Begun}

-- one byte more than a frame can have shows that a line is none
abbrev pub HELD : ℕ
HELD = suc LONGEST

abbrev pub begins : List ℕ → ℕ → Begun
begins bs n = record { bytes = bs; len = n }

abbrev pub none : Begun
none = begins (replicate HELD 0) 0

-- one byte more; where enough are held, it is let go
unfoldable pub put : Begun → ℕ → Begun
put g b = cond (ltb g.len HELD) (begins (set g.bytes g.len b) (suc g.len)) g

unfoldable pub joined : Begun → List ℕ → Begun
joined g [] = g
joined g (b ∷ bs) = joined (put g b) bs

-- the bytes that are held
unfoldable pub begun_line : Begun → List ℕ
begun_line g = take g.len g.bytes
