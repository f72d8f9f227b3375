-- How a record is told to be a sheet. A route and no meaning: that the test passes exactly for sheets is proved
-- (proofs/Tested.antt). The test's rows stand on a slate (`sheet::slate: Shape`).
use Rattle.std.specs.Prelude.{Bool, false}
use Rattle.rule.specs.declared.bits.Fixed.TheVariants.{Bits}
use Rattle.page.specs.Page.{at_width}
use Rattle.sheet.specs.declared.slate.Head.{Head}
use Rattle.sheet.specs.slate.route.Held.{counted}
use Rattle.sheet.specs.slate.route.Shape.{stands_so}
use Rattle.sheet.specs.declared.Sheet.{Sheet}

-- the record's numbers, before it is tested; the test reads neither the head's own word nor the bits
abbrev pub untested : Sheet → Head
untested s =
    record {
      stands = false;
      opening = at_width s.width s.edition;
      counts = counted s.count s.marked s.given s.waiting;
      kept = s.kept;
      fixed = Bits 0 0;
    }

unfoldable pub is_sheet : Sheet → Bool
is_sheet s = stands_so (untested s) s.rules s.marks
