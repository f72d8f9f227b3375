-- The editions of the exchange (02, K7), with what the paper says of each.
use Rattle.std.specs.Prelude.{Bool, true, false}
use Rattle.word.specs.declared.Edition.{Edition}
use Rattle.word.specs.declared.Edition.TheVariants.{New, Old}
use Rattle.word.specs.declared.Terms.{Terms}

-- "a width w from 1 to 32", "`01` width(2): open", "`02` form(2) sense(2) c1(8) c2(8): add"; and "Frame `11` opens a sheet of width
-- 1 to 64; its adds are frame `12`, with constants of 16 digits"
unfoldable pub terms : Edition → Terms
terms Old = record { widest = 32; digits = 8; opens = 0x01; adds = 0x02 }
terms New = record { widest = 64; digits = 16; opens = 0x11; adds = 0x12 }

-- whether two are one
unfoldable pub same : Edition → Edition → Bool
same Old Old = true
same Old New = false
same New Old = false
same New New = true
