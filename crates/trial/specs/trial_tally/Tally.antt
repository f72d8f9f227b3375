-- How comparisons are counted. Sums wrap at 2^64, as the code's do.
use Rattle.std.specs.Prelude.{◌≡◌, ℕ, ◌+◌, ◌%◌, ◌^◌, Bool, cond, not, ◌==◌}
use Rattle.std.proofs.Common.{ap₂, arith}
use Rattle.trial.specs.declared.trial_tally.Split.{Split}
use Rattle.trial.specs.declared.trial_tally.Tally.{Tally}
use Rattle.trial.specs.trial_tally.Laws.{CountLaws}

abbrev pub sum : (a b : ℕ) → ℕ
sum a b = (a + b) % 2 ^ 64

abbrev tally : (compared differ : ℕ) → Tally
tally c d = record { compared = c; differ = d }

-- nothing compared
abbrev pub none : Tally
none = tally 0 0

-- one comparison, which differs where the two are not the same
abbrev pub one : Bool → Tally
one same = tally 1 (cond (not same) 1 0)

-- the comparisons of both
abbrev pub plus : Tally → Tally → Tally
plus a b = tally (sum a.compared b.compared) (sum a.differ b.differ)

abbrev split : (first second third differ : ℕ) → Split
split a b c d = record { first = a; second = b; third = c; differ = d }

-- nothing compared, of any kind
abbrev pub no_kind : Split
no_kind = split 0 0 0 0

-- one comparison of the kind numbered k
abbrev pub one_of : ℕ → Bool → Split
one_of k same = split (cond (k == 0) 1 0) (cond (k == 1) 1 0) (cond (k == 2) 1 0) (cond (not same) 1 0)

-- the comparisons of both, kind by kind
abbrev pub plus_split : Split → Split → Split
plus_split a b = split (sum a.first b.first) (sum a.second b.second) (sum a.third b.third) (sum a.differ b.differ)

-- the comparisons of all kinds
abbrev pub joined : Split → Tally
joined s = tally (sum s.first (sum s.second s.third)) s.differ

pub sum_commutes : (a b : ℕ) → sum a b ≡ sum b a
sum_commutes a b = omega arith

pub sum_assoc : (a b c : ℕ) → sum (sum a b) c ≡ sum a (sum b c)
sum_assoc a b c = omega arith

pub sum_neutral : (a b : ℕ) → sum 0 (sum a b) ≡ sum a b
sum_neutral a b = omega arith

pub tally_laws : CountLaws none plus
tally_laws = record {
  commutes = λ x y. ap₂ tally (sum_commutes x.compared y.compared) (sum_commutes x.differ y.differ);
  assoc = λ x y z. ap₂ tally (sum_assoc x.compared y.compared z.compared) (sum_assoc x.differ y.differ z.differ);
  neutral = λ x y. ap₂ tally (sum_neutral x.compared y.compared) (sum_neutral x.differ y.differ);
}

same_split : {a b c d e f g h : ℕ} → a ≡ e → b ≡ f → c ≡ g → d ≡ h → split a b c d ≡ split e f g h
same_split p q r s = ap₂ (λ f x. f x) (ap₂ (λ f x. f x) (ap₂ split p q) r) s

pub split_laws : CountLaws no_kind plus_split
split_laws = record {
  commutes = λ x y. same_split (sum_commutes x.first y.first) (sum_commutes x.second y.second) (sum_commutes x.third y.third) (sum_commutes x.differ y.differ);
  assoc = λ x y z. same_split (sum_assoc x.first y.first z.first) (sum_assoc x.second y.second z.second) (sum_assoc x.third y.third z.third) (sum_assoc x.differ y.differ z.differ);
  neutral = λ x y. same_split (sum_neutral x.first y.first) (sum_neutral x.second y.second) (sum_neutral x.third y.third) (sum_neutral x.differ y.differ);
}
