-- A route: digits counted in grains of a power of ten, one of the two doubled until there are 24 binary places of them.
use Rattle.std.specs.Prelude.{◌≡◌, ℕ, ◌+◌, ◌*◌, ◌^◌, ◌≤◌, ◌<◌}
use Rattle.watts.specs.declared.Grain.{Grain}
use Rattle.watts.specs.declared.Parts.{Parts}

pub record IsGrain (digits power : ℕ) (g : Grain) : Type 0 where
  pub doubled : g.size ≡ power * 2 ^ g.doublings
  pub low : 0 < g.size
  pub high : g.size ≤ 2 ^ 41
  pub places : digits < 2 ^ 24 * g.size
  pub turns : g.doublings ≤ 41

pub record IsParts (digits size : ℕ) (p : Parts) : Type 0 where
  pub divided : p.whole * size + p.rest ≡ digits * 2 ^ p.doublings
  pub rest : p.rest < size
  pub low : 2 ^ 23 ≤ p.whole
  pub high : p.whole < 2 ^ 24
  pub turns : p.doublings ≤ 64
