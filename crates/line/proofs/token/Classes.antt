-- Classes of letters are the same or not, and what a class or a kind says where it is not the one that is asked of. Assumes nothing.
use mathlib.Core.Path.{◌≡◌, refl}
use mathlib.Core.Bool.{Bool, true, false, false≢true}
use Prim.Native.Nat.{ℕ}
use borrow.Author.Tests.{eq-eqb, le-leb, lt-leb, ne_eqb}
use Rattle.line.specs.declared.grammar.kind.Kind.{Kind}
use Rattle.line.specs.declared.grammar.kind.Kind.TheVariants.{Name}
use Rattle.line.specs.grammar.Grammar.{kind_of}
use Rattle.line.specs.declared.token.class.Class.{Class}
use Rattle.line.specs.declared.token.class.Class.TheVariants.{Blank, Comment, Minus, Sign, Stray, Word}
use Rattle.line.specs.token.Token.{of_sign, opened, same, text_kind}

pub same_self : (c : Class) → same c c ≡ true
same_self Blank = refl
same_self c = refl

pub same_equal : (a b : Class) → a ≡ b → same a b ≡ true
same_equal a b e = rw e (same_self b)

pub same_one : (a b : Class) → same a b ≡ true → a ≡ b
same_one Blank Blank e = refl
same_one Word Word e = refl
same_one Sign Sign e = refl
same_one Comment Comment e = refl
same_one Stray Stray e = refl
same_one Minus Minus e = refl
same_one a b e = absurd (false≢true e)

not_true : (b : Bool) → (b ≡ true → ⊥) → b ≡ false
not_true true n = absurd (n refl)
not_true false n = refl

pub not_same : (a b : Class) → (a ≡ b → ⊥) → same a b ≡ false
not_same a b n = not_true (same a b) (λ e. n (same_one a b e))

pub not_minus : (c : Class) → (c ≡ Minus → ⊥) → c ≡ opened c
unfolding opened
not_minus Minus n = absurd (n refl)
not_minus c n = refl

pub other_kind : (k : Kind) → (k ≡ Name → ⊥) → of_sign k ≡ k
other_kind Name n = absurd (n refl)
other_kind k n = refl

pub sign_kind : (text : ℕ) (c : Class) → (c ≡ Word → ⊥) → text_kind text c ≡ of_sign (kind_of text)
unfolding text_kind
sign_kind text Word n = absurd (n refl)
sign_kind text c n = refl

pub ruleset wanted = (same_self, not_same)

pub ruleset kinds = (other_kind, sign_kind)

pub ruleset letters = (eq-eqb, le-leb, lt-leb, ne_eqb)
