-- Bytes put into a lent buffer.
use Rattle.std.specs.Prelude.{◌≡◌, List, ℕ, ◌+◌, ◌≤◌, length}
use Rattle.digits.specs.hexadecimal.Hex.{Written}

-- bytes are written from a place on, fit the buffer, and end at another place
pub record PutAt (b : List ℕ) (at : ℕ) (bytes b' : List ℕ) (end : ℕ) : Type 0 where
  pub written : Written b at bytes b'
  pub fits : at + length bytes ≤ length b
  pub ends : end ≡ at + length bytes
