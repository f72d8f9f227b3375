-- What is counted of sheets and their links, as the code has it. Sums wrap at 2^64.
use Rattle.std.specs.Prelude.{◌≡◌, ℕ, max}
use Rattle.std.proofs.Common.{ap₂, arith}
use Rattle.trial.specs.declared.trial_tally.Split.{Split}
use Rattle.trial.specs.declared.trial_tally.Tally.{Tally}
use Rattle.trial.specs.trial_tally.Laws.{CountLaws}
use Rattle.trial.specs.trial_tally.Tally.{none, plus, no_kind, plus_split, sum, sum_commutes, sum_assoc, sum_neutral, tally_laws, split_laws}
use Rattle.trial_sheets.specs.declared.trial_editions.counts.Seen.{Seen}
use Rattle.trial_sheets.specs.declared.trial_editions.counts.Both.{Both}

abbrev seen : Split → (links bits most zeros tops : ℕ) → Seen
seen s l b m z t = record { sheets = s; links = l; bits = b; most = m; zeros = z; tops = t }

-- no sheet
abbrev pub nothing_seen : Seen
nothing_seen = seen no_kind 0 0 0 0 0

-- the sheets of both, and the most links of either
abbrev pub both_seen : Seen → Seen → Seen
both_seen a b = seen (plus_split a.sheets b.sheets) (sum a.links b.links) (sum a.bits b.bits) (max a.most b.most) (sum a.zeros b.zeros) (sum a.tops b.tops)

abbrev both : Seen → Seen → Tally → Both
both n o e = record { new = n; old = o; editions = e }

-- no sheet in either edition
abbrev pub nothing_answered : Both
nothing_answered = both nothing_seen nothing_seen none

-- the sheets of both, edition by edition
abbrev pub both_answered : Both → Both → Both
both_answered a b = both (both_seen a.new b.new) (both_seen a.old b.old) (plus a.editions b.editions)

and : {A B : Type 0} {f g : A → B} {x y : A} → f ≡ g → x ≡ y → f x ≡ g y
and p q = ap₂ (λ f x. f x) p q

max_commutes : (a b : ℕ) → max a b ≡ max b a
max_commutes a b = omega arith

max_assoc : (a b c : ℕ) → max (max a b) c ≡ max a (max b c)
max_assoc a b c = omega arith

max_neutral : (a b : ℕ) → max 0 (max a b) ≡ max a b
max_neutral a b = omega arith

same_seen : {s s' : Split} {l b m z t l' b' m' z' t' : ℕ} → s ≡ s' → l ≡ l' → b ≡ b' → m ≡ m' → z ≡ z' → t ≡ t' → seen s l b m z t ≡ seen s' l' b' m' z' t'
same_seen p q r u v w = and (and (and (and (ap₂ seen p q) r) u) v) w

same_both : {n o n' o' : Seen} {e e' : Tally} → n ≡ n' → o ≡ o' → e ≡ e' → both n o e ≡ both n' o' e'
same_both p q r = and (ap₂ both p q) r

pub seen_laws : CountLaws nothing_seen both_seen
seen_laws = record {
  commutes = λ x y. same_seen (split_laws.commutes x.sheets y.sheets) (sum_commutes x.links y.links) (sum_commutes x.bits y.bits) (max_commutes x.most y.most)
      (sum_commutes x.zeros y.zeros) (sum_commutes x.tops y.tops);
  assoc = λ x y z. same_seen (split_laws.assoc x.sheets y.sheets z.sheets) (sum_assoc x.links y.links z.links) (sum_assoc x.bits y.bits z.bits)
      (max_assoc x.most y.most z.most) (sum_assoc x.zeros y.zeros z.zeros) (sum_assoc x.tops y.tops z.tops);
  neutral = λ x y. same_seen (split_laws.neutral x.sheets y.sheets) (sum_neutral x.links y.links) (sum_neutral x.bits y.bits) (max_neutral x.most y.most)
      (sum_neutral x.zeros y.zeros) (sum_neutral x.tops y.tops);
}

pub both_laws : CountLaws nothing_answered both_answered
both_laws = record {
  commutes = λ x y. same_both (seen_laws.commutes x.new y.new) (seen_laws.commutes x.old y.old) (tally_laws.commutes x.editions y.editions);
  assoc = λ x y z. same_both (seen_laws.assoc x.new y.new z.new) (seen_laws.assoc x.old y.old z.old) (tally_laws.assoc x.editions y.editions z.editions);
  neutral = λ x y. same_both (seen_laws.neutral x.new y.new) (seen_laws.neutral x.old y.old) (tally_laws.neutral x.editions y.editions);
}
