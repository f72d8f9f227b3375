-- What "a cut is empty" means: K11's answer is "empty" where one of its cuts has no word, and else a step cuts by all of them, so that
-- what it finds hollow is a word with none left. Assumes nothing.
use mathlib.Core.Path.{◌≡◌, refl, sym, ap, subst, ◌∙◌}
use mathlib.Core.Bool.{Bool, true, false, ◌||◌, true≢false}
use mathlib.Core.List.{List}
use mathlib.Core.Logic.{◌⊎◌, inl, inr, ⊎_elim}
use Prim.Native.Nat.{ℕ, zero, suc, ◌≤◌, ◌<◌}
use native.Mathlib.Nat.{mod-lt}
use native.Mathlib.Omega.{arith}
use lib.ListN.{length}
use borrow.Author.Tests.{ltb-true}
use Rattle.word.proofs.Tests.{both_fail}
use Rattle.span.specs.declared.interval.Interval.{Interval}
use Rattle.span.specs.declared.Joined.{Joined}
use Rattle.span.specs.declared.interval.Op.{Op}
use Rattle.span.specs.declared.interval.Op.TheVariants.{And, Not, Or, Xor}
use Rattle.span.specs.interval.Interval.{hollow}
use Rattle.span.specs.Join.{all_cut, any_hollow, as_given, is_width}
use Rattle.span.specs.Join as join
use Rattle.span.specs.interval.Op.{second}
use Rattle.span.proofs.interval.Intervals.{hollow_none}
use Rattle.span.proofs.Outcome.{else_cut, empty_gives_back}
use Rattle.net.specs.declared.net_step.Join.{Join}
use Rattle.net.specs.declared.Net.{Net}
use Rattle.net.specs.Demand.{EmptyCut, InResults, cuts}
use Rattle.net.specs.net_step.Named.{Named, third, word_at}
use Rattle.net.specs.Net.{refusal, turn}
use Rattle.net.specs.Plain.{empty_at, words_after}
use Rattle.net.specs.net_step.Step.{after, emptied, left, no_word, results}
use Rattle.net.proofs.Accepted.{accepted}
use Rattle.net.proofs.Alike.{no_not}
use Rattle.net.proofs.Cuts.{either_left}
use Rattle.net.proofs.Kept.{AllWords, accepts, first_in, words_after_lem}
use Rattle.net.proofs.Leaves.{after_among, among_after, third_y}
use Rattle.net.proofs.Reached.{told}
use Rattle.net.proofs.net_step.Unchanged.{as_long}

any_passes : (a b c : Bool) → (a || (b || c)) ≡ true → (a ≡ true) ⊎ ((b ≡ true) ⊎ (c ≡ true))
any_passes true b c e = inl refl
any_passes false true c e = inr (inl refl)
any_passes false false c e = inr (inr e)

-- a NOT has no y to be hollow
has_second : (op : Op) (i : Interval) → hollow (second op i) ≡ true → (op ≡ Not → ⊥) × (hollow i ≡ true)
unfolding second hollow
has_second Not i e = absurd (omega (arith, ltb-true 0 0 e))
has_second And i e = (no_not refl, e)
has_second Or i e = (no_not refl, e)
has_second Xor i e = (no_not refl, e)

module _ {w n : ℕ} (j : Join) (ws : List Interval) (width : is_width w ≡ true) (names : Named n j) (good : AllWords w n ws) where
  -- K11's answer is "empty"
  abbrev none_in_one : Bool
  none_in_one = join.emptied w j.op (word_at ws j.h) (word_at ws j.x) (word_at ws (third j))

  -- one of K11's cuts has no word
  by_one : none_in_one ≡ true → EmptyCut w j ws
  unfolding join.emptied any_hollow all_cut third
  by_one e =
      ⊎_elim (λ h. record { place = j.h; named = inl refl; none = λ a m i. hollow_none _ h (i.h refl) })
      (⊎_elim (λ x. record { place = j.x; named = inr (inl refl); none = λ a m i. hollow_none _ x (i.x refl) })
      (λ t.
      let (has, y) = has_second j.op _ t in
      record {
        place = third j;
        named = inr (inr refl);
        none = λ a m i. hollow_none _ y (i.y has (third_y j.op j.x j.y has));
      }))
      (any_passes (hollow (cuts w j ws).h) (hollow (cuts w j ws).x) (hollow (second j.op (cuts w j ws).y)) e)

  module _ (f : none_in_one ≡ false) where
    all_cut_lem : results w j ws ≡ cuts w j ws
    unfolding results
    all_cut_lem = else_cut w j.op _ _ _ (accepts j ws width names good) f

    -- a word that a step finds hollow
    at_place : (p : ℕ) → (p ≡ j.h) ⊎ ((p ≡ j.x) ⊎ (p ≡ third j)) → hollow (word_at (after w j ws) p) ≡ true → EmptyCut w j ws
    at_place p is t =
        record {
          place = p;
          named = is;
          none = λ a m i. hollow_none _ t (among_after p w j ws m (subst (λ (r : Joined). InResults j r p a) (sym all_cut_lem) i));
        }

    by_all : no_word j (after w j ws) ≡ true → EmptyCut w j ws
    unfolding no_word any_hollow
    by_all e =
        ⊎_elim (at_place j.h (inl refl)) (⊎_elim (at_place j.x (inr (inl refl))) (at_place (third j) (inr (inr refl))))
        (any_passes (hollow (word_at (after w j ws) j.h)) (hollow (word_at (after w j ws) j.x)) (hollow (word_at (after w j ws) (third j))) e)

    not_told : (results w j ws).empty ≡ false
    unfolding all_cut
    not_told = ap (λ (r : Joined). r.empty) all_cut_lem

  -- a step finds an empty cut only where a word has none left
  pub emptied_cut : emptied w j ws ≡ true → EmptyCut w j ws
  unfolding emptied
  emptied_cut e =
      ⊎_elim by_one
      (λ f. by_all f (subst (λ (b : Bool). (b || no_word j (after w j ws)) ≡ true) (not_told f) e))
      (told none_in_one)

  none_told : emptied w j ws ≡ false → none_in_one ≡ false
  unfolding emptied results as_given
  none_told e =
      ⊎_elim
      (λ t.
      absurd
      (true≢false
      (sym (ap (λ (r : Joined). r.empty) (empty_gives_back w j.op _ _ _ (accepts j ws width names good) t))
      ∙ (both_fail (results w j ws).empty (no_word j (after w j ws)) e).0)))
      (λ f. f)
      (told none_in_one)

  -- and finds it wherever one has
  pub cut_emptied : n ≤ length ws → EmptyCut w j ws → emptied w j ws ≡ true
  cut_emptied places c = ⊎_elim (λ t. t) (λ f. absurd (still f)) (told (emptied w j ws))
    where
      in_use : c.place < n
      in_use =
          ⊎_elim (λ e. omega (arith, e, names.h)) (⊎_elim (λ e. omega (arith, e, names.x)) (λ e. omega (arith, e, names.y))) c.named

      still : emptied w j ws ≡ false → ⊥
      still f =
          let (m, i) = after_among c.place w j ws (omega (arith, in_use, places)) (first_in (words_after_lem j ws width names good f _ in_use)) in
          c.none _ m (subst (λ (r : Joined). InResults j r c.place (word_at (after w j ws) c.place).low) (all_cut_lem (none_told f)) i)

-- so in each step of a net that is not refused, for there are words in every interval in use and as many places as before
module _ (net : Net) (z : refusal net ≡ 0) (some : 0 < net.joined) where
  named_then : (n : ℕ) → Named net.count (turn net.joins net.joined n)
  unfolding turn
  named_then n = (accepted z).names _ (mod-lt n some)

  words_then : (n : ℕ) → AllWords net.width net.count (words_after net n)
  unfolding words_after left
  words_then zero = (accepted z).intervals
  words_then (suc n) =
      let h = words_then n in
      ⊎_elim (λ t. rw t h) (λ f. rw f (words_after_lem _ _ (accepted z).width (named_then n) h f))
      (told (emptied net.width (turn net.joins net.joined n) (words_after net n)))

  places_then : (n : ℕ) → length (words_after net n) ≡ length net.words
  unfolding words_after after
  places_then zero = refl
  places_then (suc n) =
      let h = places_then n in
      either_left net.width _ (words_after net n) (λ vs. length vs ≡ length net.words) h (as_long _ _ (words_after net n) ∙ h)

  module _ (n : ℕ) where
    -- "a cut is empty", in the plain rule
    pub empty_has_cut : empty_at net (suc n) ≡ true → EmptyCut net.width (turn net.joins net.joined n) (words_after net n)
    unfolding empty_at
    empty_has_cut = emptied_cut _ _ (accepted z).width (named_then n) (words_then n)

    pub cut_makes_empty : net.count ≤ length net.words → EmptyCut net.width (turn net.joins net.joined n) (words_after net n)
        → empty_at net (suc n) ≡ true
    unfolding empty_at
    cut_makes_empty l = cut_emptied _ _ (accepted z).width (named_then n) (words_then n) (omega (arith, l, places_then n))
