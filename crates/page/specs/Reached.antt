-- The pages that a desk can come to.
use Rattle.std.specs.Prelude.{◌≡◌}
use Rattle.page.specs.Calls.{Call, refusal, written}
use Rattle.page.specs.Page.{Page, no_page}

-- the pages that accepted calls give
pub data Reached : Page → Type 0 where
  start : Reached no_page
  step : {pg : Page} → Reached pg → (c : Call) → refusal pg c ≡ 0 → Reached (written pg c)
