-- A part goes in line by line; what a feeding has come to can be gone on from. Assumes nothing.
use mathlib.Core.Path.{◌≡◌, refl, sym, ap, ◌∙◌}
use mathlib.Core.List.{List, [], ◌++◌, append_assoc, append-nil}
use Prim.Native.Nat.{ℕ, ◌+◌, ◌-◌, ◌≤◌, ◌<◌}
use native.Mathlib.Omega.{arith}
use lib.ListN.{drop, drop_of_length-le, length, length-append, length-drop}
use lib.Seq.{drop-drop}
use Rattle.sheet.specs.declared.Sheet.{Sheet}
use Rattle.frame.specs.fields.Answers.{ROOM, answer_bytes}
use Rattle.frame.specs.Calls.{line_call}
use Rattle.frame.specs.Statements.{Answered}
use Rattle.frame.specs.fields.Put.{PutAt}
use Rattle.frame.proofs.fields.Lines.{put_none, put_on}
use Rattle.frame.specs.input_line.Lines.{line_of, with_end}
use Rattle.frame.proofs.input_line.Lines.{end_fits, end_none, end_some, end_there, line_fits}
use Rattle.frame.specs.declared.exchange.Begun.{Begun}
use Rattle.frame.specs.exchange.route.Begun.{begun_line, joined, none}
use Rattle.frame.specs.exchange.route.Desk.{Desk, Fed, desk}
use Rattle.frame.specs.exchange.route.Statements.{FedSo, Feeds, Takes, a_line, all_used, no_room}
use Rattle.frame.proofs.exchange.Taking.{ended, unended}

-- ---- the next line of a part

-- it goes in, with its byte 10 or without it
pub record NextLine (d : Desk) (part : List ℕ) (from : ℕ) (b : List ℕ) (at : ℕ) (b' : List ℕ) (e : Desk) (next end : ℕ) : Type 0 where
  pub bytes : List ℕ
  pub takes : Takes d (with_end (drop from part)) e bytes
  pub puts : PutAt b at bytes b' end
  pub fits : length bytes ≤ ROOM
  pub goes : next ≡ from + length (with_end (drop from part))

module _ (d : Desk) (part : List ℕ) (from : ℕ) {line : List ℕ} (e : line ≡ line_of (drop from part)) (h : from ≤ length part) where
  pub line_unended : (b : List ℕ) (at : ℕ) {g : Begun} → at ≤ length b → g ≡ joined d.begun line → from + length line ≡ length part
      → NextLine d part from b at b (desk d.sheet g) (from + length line) at
  line_unended b at r k q =
      let n : length (line_of (drop from part)) ≡ length (drop from part) = omega (arith, ap length e, length-drop from part) in
      record {
        bytes = [];
        takes = rw (k, e) (unended d (drop from part) n);
        puts = put_none b at r;
        fits = omega arith;
        goes = omega (arith, ap length e, ap length (end_none (drop from part) n));
      }

  pub line_ended : {b b' : List ℕ} {at end : ℕ} {t : Sheet} {g : Begun} → Answered d.sheet (line_call (begun_line (joined d.begun line))) b at b' t end → g ≡ none
      → (from + length line ≡ length part → ⊥) → NextLine d part from b at b' (desk t g) (from + length line + 1) end
  line_ended w k n =
      let m : length (line_of (drop from part)) < length (drop from part) = omega (arith, ap length e, length-drop from part, line_fits (drop from part)) in
      record {
        bytes = answer_bytes w.lines;
        takes = rw k (ended d (drop from part) m w.lines (rw e at w.said));
        puts = w.puts;
        fits = w.fits;
        goes = omega (arith, ap length e, simp length-append at (ap length (end_there (drop from part) m)));
      }

-- ---- lines one after another

feeds_as : {m m' n n' : ℕ} {d f : Desk} {bs bs' p p' : List ℕ} → m ≡ m' → bs ≡ bs' → n ≡ n' → p ≡ p' → Feeds m d bs f n p
    → Feeds m' d bs' f n' p'
feeds_as e₁ e₂ e₃ e₄ q = rw (sym e₁, sym e₂, sym e₃, sym e₄) q

-- a feeding that has used so much of a part and written so much: what goes on from here goes on from the start
pub record Midway (d : Desk) (part b : List ℕ) (e : Desk) (used written : ℕ) (b' : List ℕ) : Type 0 where
  pub bytes : List ℕ
  pub puts : PutAt b 0 bytes b' written
  pub rest : {f : Desk} {n : ℕ} {p : List ℕ} → Feeds (length b - written) e (drop used part) f n p → Feeds (length b) d part f (used + n) (bytes ++ p)

pub midway_start : (d : Desk) (part b : List ℕ) → Midway d part b d 0 0 b
midway_start d part b = record { bytes = []; puts = put_none b 0 (omega arith); rest = λ q. feeds_as (omega arith) refl (omega arith) refl q }

pub midway_on : {d e f : Desk} {part b b₁ b₂ : List ℕ} {used written next end : ℕ} → Midway d part b e used written b₁
    → NextLine e part used b₁ written b₂ f next end → ROOM ≤ length b - written → used < length part → Midway d part b f next end b₂
midway_on {part} {b} {used} {written} {next} {end} m t r h =
    let e = t.puts.ends in
    let g = t.goes in
    record {
      bytes = m.bytes ++ t.bytes;
      puts = put_on m.puts t.puts;
      rest = λ q.
          let room : length b - end ≡ length b - written - length t.bytes = omega arith in
          let k = feeds_as room (ap (λ (i : ℕ). drop i part) g ∙ sym (drop-drop _ used part)) refl refl q in
          feeds_as refl refl (omega arith) (sym (append_assoc m.bytes t.bytes _))
          (m.rest (a_line r (omega (arith, length-drop used part)) t.takes k));
    }

-- ---- the end of a feeding

pub fed_all : {d : Desk} {part b b' : List ℕ} (r : Fed) → Midway d part b r.desk r.used r.written b' → length part ≤ r.used
    → FedSo d part b b' r
fed_all {part} r m h =
    let e = sym (drop_of_length-le part {i = r.used} h) in
    record {
      bytes = m.bytes;
      feeds = feeds_as refl refl (omega arith) (append-nil m.bytes) (m.rest (feeds_as refl e refl refl all_used));
      puts = m.puts;
    }

pub fed_full : {d : Desk} {part b b' : List ℕ} (r : Fed) → Midway d part b r.desk r.used r.written b'
    → length b - r.written < ROOM → FedSo d part b b' r
fed_full r m h =
    record { bytes = m.bytes; feeds = feeds_as refl refl (omega arith) (append-nil m.bytes) (m.rest (no_room h)); puts = m.puts }

-- ---- how much of a part is used

pub feeds_fit : {m n : ℕ} {d e : Desk} {bs o : List ℕ} → Feeds m d bs e n o → n ≤ length bs
feeds_fit all_used = omega arith
feeds_fit (no_room h) = omega arith
feeds_fit {bs} (a_line r h t k) = omega (arith, feeds_fit k, length-drop (length (with_end bs)) bs, end_fits bs)

pub feeds_some : {m : ℕ} {d e : Desk} {bs : List ℕ} {n : ℕ} {o : List ℕ} → Feeds m d bs e n o → ROOM ≤ m → 0 < length bs → 0 < n
feeds_some all_used r h = omega arith
feeds_some (no_room s) r h = omega arith
feeds_some {bs} (a_line s i t k) r h = omega (arith, end_some bs h)
