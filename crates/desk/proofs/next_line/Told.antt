-- A line taken so goes in as the exchange's next line does: whole with its answer, or cut with none. Assumes nothing.
use mathlib.Core.Path.{◌≡◌, refl, sym, ap, ◌∙◌}
use mathlib.Core.Bool.{Bool, true, false, cond}
use mathlib.Core.List.{List}
use Prim.Native.Nat.{ℕ, ◌+◌, ◌-◌, ◌≤◌}
use native.Mathlib.Omega.{arith}
use borrow.Author.Tests.{eqb-false, eqb-true}
use lib.Dec.{eqb}
use lib.ListN.{drop, length, take}
use Rattle.sheet.specs.declared.Sheet.{Sheet}
use Rattle.frame.specs.declared.Frame.{Frame}
use Rattle.frame.specs.route.Reading.{frame_of}
use Rattle.frame.specs.Calls.{call_of, line_call}
use Rattle.frame.specs.Statements.{Answered}
use Rattle.frame.specs.input_line.Lines.{line_of}
use Rattle.frame.proofs.input_line.Lines.{line_prefix}
use Rattle.frame.specs.declared.exchange.Begun.{Begun}
use Rattle.frame.specs.exchange.route.Begun.{begun_line, joined, none}
use Rattle.frame.specs.exchange.route.Desk.{Desk, desk}
use Rattle.frame.proofs.exchange.Parts.{NextLine, line_ended, line_unended}
use Rattle.desk.specs.declared.next_line.Next.{Next}
use Rattle.desk.specs.declared.next_line.Next.TheVariants.{Line, Rest}
use Rattle.desk.specs.next_line.route.Next.{next_of}

module _ (d : Desk) (part : List ℕ) (from : ℕ) (h : from ≤ length part) where
  abbrev line : List ℕ
  line = line_of (drop from part)

  abbrev end : ℕ
  end = from + length line

  pub is_rest : Rest ≡ next_of d.begun part from → {g : Begun} → g ≡ joined d.begun (take (length part - from) (drop from part)) → (b : List ℕ) (at : ℕ) → at ≤ length b
      → NextLine d part from b at b (desk d.sheet g) (length part) at
  unfolding next_of
  is_rest e {g} j b at f = go (eqb end (length part)) refl e
    where
      go : (v : Bool) → eqb end (length part) ≡ v → Rest ≡ cond v Rest (Line (frame_of (begun_line (joined d.begun line))) (end + 1))
          → NextLine d part from b at b (desk d.sheet g) (length part) at
      go true t q =
          let n = eqb-true end (length part) t in
          let same : length part - from ≡ length line = omega (arith, n) in
          let all : take (length part - from) (drop from part) ≡ line = ap (λ (k : ℕ). take k (drop from part)) same ∙ line_prefix (drop from part) in
          rw (sym n) (line_unended d part from refl h b at f (j ∙ ap (joined d.begun) all) n)
      go false t q = let z : ◌≡◌ {A = ℕ} 0 1 = cc in absurd (omega arith)

  pub is_line : {k : Frame} {n : ℕ} → Line k n ≡ next_of d.begun part from → {b b' : List ℕ} {at to : ℕ} {t : Sheet} {g : Begun}
      → Answered d.sheet (call_of k) b at b' t to → g ≡ none → NextLine d part from b at b' (desk t g) n to
  unfolding next_of line_call
  is_line {k} {n} e {b} {b'} {at} {to} {t} {g} a o = go (eqb end (length part)) refl e
    where
      frame : Next → Frame
      frame Rest = k
      frame (Line f m) = f

      place : Next → ℕ
      place Rest = n
      place (Line f m) = m

      go : (v : Bool) → eqb end (length part) ≡ v → Line k n ≡ cond v Rest (Line (frame_of (begun_line (joined d.begun line))) (end + 1))
          → NextLine d part from b at b' (desk t g) n to
      go true f q = let z : ◌≡◌ {A = ℕ} 0 1 = cc in absurd (omega arith)
      go false f q = rw (ap place q) (line_ended d part from refl h (rw (ap frame q) at a) o (eqb-false end (length part) f))
