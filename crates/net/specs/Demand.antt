-- What is asked of a net, in the paper's words: statements for the definitions to be laid beside.
use Rattle.std.specs.Prelude.{◌≡◌, false, List, ◌⊎◌, ℕ, ◌<◌, length}
use Rattle.span.specs.declared.interval.Interval.{Interval}
use Rattle.span.specs.declared.Joined.{Joined}
use Rattle.span.specs.declared.interval.Op.TheVariants.{Not}
use Rattle.span.specs.interval.Interval.{In}
use Rattle.span.specs.Join.{all_cut}
use Rattle.span.specs.interval.Op.{result}
use Rattle.net.specs.declared.Answer.{Answer}
use Rattle.net.specs.declared.Ended.{Ended}
use Rattle.net.specs.declared.Ended.TheVariants.{Empty, Refused, Spent, Steady}
use Rattle.net.specs.declared.net_step.Join.{Join}
use Rattle.net.specs.declared.Net.{Net}
use Rattle.net.specs.net_tests.Fits.{join_at}
use Rattle.net.specs.net_step.Named.{third, word_at}
use Rattle.net.specs.route.Run.{Stop, goes}
use Rattle.net.specs.net_step.Step.{after, emptied}

-- an assignment, a word for each place, gives words of the first n intervals
abbrev pub AllIn : ℕ → List Interval → (ℕ → ℕ) → Type 0
AllIn n ws v = (k : ℕ) → k < n → In (word_at ws k) (v k)

-- an "assignment inside the given intervals that satisfies all joins"
pub record Solution (net : Net) (v : ℕ → ℕ) : Type 0 where
  pub inside : AllIn net.count net.words v
  pub joins : (k : ℕ) → k < net.joined →
      let j = join_at net.joins k in
      v j.h ≡ result net.width j.op (v j.x) (v j.y)

-- a join that cannot change the words: a step by it leaves them as they are, and finds no empty cut
pub record Still (w : ℕ) (j : Join) (ws : List Interval) : Type 0 where
  pub same : after w j ws ≡ ws
  pub full : emptied w j ws ≡ false

-- a run that ended in "spent" goes on from where it stood; any other has ended
unfoldable pub resumed : Ended → (on ended : Stop) → Stop
resumed (Refused n) on o = o
resumed Empty on o = o
resumed Steady on o = o
resumed Spent on o = on

-- so many steps more
unfoldable pub onward : (w : ℕ) (js : List Join) (m more : ℕ) → Stop → Stop
onward w js m more o = resumed o.how (goes w js m more o.at) o

-- two joins that are read alike: "a NOT's y isn't read"
pub record SameJoin (j k : Join) : Type 0 where
  pub op : j.op ≡ k.op
  pub h : j.h ≡ k.h
  pub x : j.x ≡ k.x
  pub y : (j.op ≡ Not → ⊥) → j.y ≡ k.y

-- as many places, and the same intervals in the first n
pub record SameWords (n : ℕ) (ws vs : List Interval) : Type 0 where
  pub places : length ws ≡ length vs
  pub words : (k : ℕ) → k < n → word_at ws k ≡ word_at vs k

-- a net with other words and joins in its places
abbrev pub refilled : Net → List Interval → List Join → Net
refilled net vs ks = record { width = net.width; words = vs; count = net.count; joins = ks; joined = net.joined }

-- these differ from its own at most where nothing is in use
pub record Alike (net : Net) (vs : List Interval) (ks : List Join) : Type 0 where
  pub words : SameWords net.count net.words vs
  pub joins : (k : ℕ) → k < net.joined → SameJoin (join_at net.joins k) (join_at ks k)

-- two answers that differ at most in words not in use
pub record SameAnswer (n : ℕ) (r s : Answer) : Type 0 where
  pub ended : r.ended ≡ s.ended
  pub steps : r.steps ≡ s.steps
  pub words : SameWords n r.words s.words

-- a is among the results of a join for the word at p, all of them where it names that word several times
pub record InResults (j : Join) (r : Joined) (p a : ℕ) : Type 0 where
  pub h : p ≡ j.h → In r.h a
  pub x : p ≡ j.x → In r.x a
  pub y : (j.op ≡ Not → ⊥) → p ≡ j.y → In r.y a

-- K11's cuts on the words that a join names, as they stand
abbrev pub cuts : ℕ → Join → List Interval → Joined
cuts w j ws = all_cut w j.op (word_at ws j.h) (word_at ws j.x) (word_at ws (third j))

-- "a cut is empty": of a word that the join names none is left, for no word of its interval is among all the cuts for it
pub record EmptyCut (w : ℕ) (j : Join) (ws : List Interval) : Type 0 where
  pub place : ℕ
  pub named : (place ≡ j.h) ⊎ ((place ≡ j.x) ⊎ (place ≡ third j))
  pub none : (a : ℕ) → In (word_at ws place) a → InResults j (cuts w j ws) place a → ⊥
