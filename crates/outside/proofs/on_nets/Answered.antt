-- What a run of the net that rows are comes to, in numbers: a refusal leaves the rows, and any other end has the answer's words in them.
-- Assumes nothing.
use mathlib.Core.Path.{◌≡◌, sym, ap, ap₂, ◌∙◌}
use mathlib.Core.List.{List, [], ◌∷◌, map}
use Prim.Native.Nat.{ℕ}
use borrow.Author.Tests.{eq-eqb, ne_eqb}
use Rattle.net.specs.declared.Answer.{Answer}
use Rattle.net.specs.route.Run.{ran}
use Rattle.net.specs.Net.{number}
use Rattle.outside.specs.net_words.Laid.{laid_over, row_of}
use Rattle.outside.specs.on_nets.Nets.{Ran, net_in, told, word_rows}

module _ (w : ℕ) (ws js : List (List ℕ)) (pay : ℕ) (a : Answer) (e : a ≡ ran (net_in w ws js) pay) (t k : ℕ) (p : t ≡ told a.ended) (q : k ≡ number a.ended) where
  so : (ws' : List (List ℕ)) → ws' ≡ word_rows a ws → Ran w ws js pay ws' (t ∷ a.steps ∷ []) k
  so ws' h =
      record {
        status = q ∙ ap (λ (x : Answer). number x.ended) e;
        answers = ap₂ (λ (u : ℕ) (x : Answer). u ∷ x.steps ∷ []) (p ∙ ap (λ (x : Answer). told x.ended) e) e;
        words = h ∙ ap (λ (x : Answer). word_rows x ws) e;
      }

  pub refused : (k ≡ 0 → ⊥) → Ran w ws js pay ws (t ∷ a.steps ∷ []) k
  unfolding word_rows
  refused n = so ws (rw (ne_eqb (number a.ended) 0 (λ z. n (q ∙ z))))

  pub ended : k ≡ 0 → (ws' : List (List ℕ)) → ws' ≡ laid_over (map row_of a.words) ws → Ran w ws js pay ws' (t ∷ a.steps ∷ []) k
  unfolding word_rows
  ended z ws' h = so ws' (rw (eq-eqb (number a.ended) 0 (sym q ∙ z)) h)
