-- A list on its way to a sheet: the sheet is that of a reached page, and what is left of the list comes to what the whole does. The
-- opening brings it there, each accepted rule leaves it there, and a refused one, or the list's end, is where it stops. Assumes nothing.
use mathlib.Core.Path.{◌≡◌, refl, sym, ap, ◌∙◌}
use mathlib.Core.List.{List, ◌∷◌}
use Prim.Native.Nat.{ℕ, ◌+◌, ◌≤◌, ◌<◌}
use Rattle.std.specs.Prelude.{Result, Ok, Err}
use native.Mathlib.Numerals.{add-one}
use borrow.Author.Tests.{eq-eqb, ne_eqb}
use lib.ListN.{drop, drop_of_length-le, get_or, length}
use lib.Seq.{drop-cons}
use Rattle.rule.specs.declared.Rule.{Rule}
use Rattle.rule.specs.accept.Accept.{no_rule}
use Rattle.page.specs.Calls.{Call, add, after, open_at, refusal}
use Rattle.page.specs.declared.Opening.{Opening}
use Rattle.page.specs.Page.{Page, no_page}
use Rattle.page.specs.Reached.{start}
use Rattle.sheet.specs.declared.Answer.{Answer}
use Rattle.sheet.specs.declared.Sheet.{Sheet}
use Rattle.sheet.specs.Record.{blank, fresh}
use Rattle.sheet.specs.Statements.{Outcome, answers}
use Rattle.page.proofs.Refusals.{after_refused}
use Rattle.sheet.proofs.demands.Demand.{after_reached, outcome_on}
use Rattle.outside.specs.declared.making.Refused.{Refused}
use Rattle.outside.specs.making.Made.{Making, adding, given, makes, making}
use Rattle.outside.specs.making.route.Way.{Under}

abbrev pub refused_at : (number place : ℕ) → Sheet → Result Sheet Refused
refused_at k i s = Err (record { number = k; place = i; sheet = s })

given_ok : (m : Making) → m.number ≡ 0 → Ok (fresh m.on) ≡ given m
given_ok m z = rw (eq-eqb m.number 0 z)

given_err : (m : Making) → (m.number ≡ 0 → ⊥) → refused_at m.number m.place (fresh m.on) ≡ given m
given_err m n = rw (ne_eqb m.number 0 n)

module _ (g : Opening) (us : List Rule) where
  -- ---- the opening

  abbrev opens : Call
  opens = open_at g

  open_goes : refusal no_page opens ≡ 0 → makes g us ≡ adding g.edition (after no_page opens) 0 us
  unfolding makes
  open_goes z = rw (eq-eqb (refusal no_page opens) 0 z)

  open_stops : (refusal no_page opens ≡ 0 → ⊥) → makes g us ≡ making (refusal no_page opens) (length us) no_page
  unfolding makes
  open_stops n = rw (ne_eqb (refusal no_page opens) 0 n)

  module _ (a : Answer) (o : Outcome blank opens a) where
    answered : a ≡ answers (refusal no_page opens) (fresh (after no_page opens))
    unfolding fresh
    answered = outcome_on no_page refl start opens o

    pub refused_opening : (a.number ≡ 0 → ⊥) → refused_at a.number (length us) a.sheet ≡ given (makes g us)
    refused_opening n =
        let k : ℕ = refusal no_page opens in
        let z : k ≡ 0 → ⊥ = λ e. n (ap (λ (b : Answer). b.number) answered ∙ e) in
        ap (λ (b : Answer). refused_at b.number (length us) b.sheet) answered
        ∙ ap (λ (pg : Page). refused_at k (length us) (fresh pg)) (after_refused no_page opens z)
        ∙ given_err (making k (length us) no_page) z
        ∙ sym (ap given (open_stops z))

    pub opened : a.number ≡ 0 → Under g us 0 a.sheet
    opened z = record {
      on = after no_page opens;
      reached = after_reached start opens;
      gives = ap (λ (b : Answer). b.sheet) answered;
      whole = open_goes (sym (ap (λ (b : Answer). b.number) answered) ∙ z);
    }

  -- ---- a rule

  module _ (i : ℕ) (s : Sheet) (way : Under g us i s) where
    pub all_added : length us ≤ i → Ok s ≡ given (makes g us)
    unfolding adding
    all_added l =
        ap (λ (t : Sheet). Ok t) way.gives
        ∙ given_ok (making 0 i way.on) refl
        ∙ sym (ap given (way.whole ∙ ap (adding g.edition way.on i) (drop_of_length-le us l)))

    module _ (within : i < length us) (a : Answer) (o : Outcome s (add g.edition (get_or us i no_rule)) a) where
      abbrev adds : Call
      adds = add g.edition (get_or us i no_rule)

      abbrev pg : Page
      pg = way.on

      comes_to : makes g us ≡ adding g.edition pg i (get_or us i no_rule ∷ drop (i + 1) us)
      comes_to = way.whole ∙ ap (adding g.edition pg i) (rw (add-one i) (drop-cons us i no_rule within))

      says : a ≡ answers (refusal pg adds) (fresh (after pg adds))
      says = outcome_on pg way.gives way.reached adds o

      add_goes : refusal pg adds ≡ 0
          → adding g.edition pg i (get_or us i no_rule ∷ drop (i + 1) us) ≡ adding g.edition (after pg adds) (i + 1) (drop (i + 1) us)
      unfolding adding
      add_goes z = rw (eq-eqb (refusal pg adds) 0 z)

      add_stops : (refusal pg adds ≡ 0 → ⊥) → adding g.edition pg i (get_or us i no_rule ∷ drop (i + 1) us) ≡ making (refusal pg adds) i pg
      unfolding adding
      add_stops n = rw (ne_eqb (refusal pg adds) 0 n)

      pub refused_rule : (a.number ≡ 0 → ⊥) → refused_at a.number i s ≡ given (makes g us)
      refused_rule n =
          let number : a.number ≡ refusal pg adds = ap (λ (b : Answer). b.number) says in
          let z : refusal pg adds ≡ 0 → ⊥ = λ e. n (number ∙ e) in
          (λ j. refused_at (number j) i (way.gives j)) ∙ given_err (making (refusal pg adds) i pg) z ∙ sym (ap given (comes_to ∙ add_stops z))

      pub added : a.number ≡ 0 → Under g us (i + 1) a.sheet
      added z = record {
        on = after pg adds;
        reached = after_reached way.reached adds;
        gives = ap (λ (b : Answer). b.sheet) says;
        whole = comes_to ∙ add_goes (sym (ap (λ (b : Answer). b.number) says) ∙ z);
      }
