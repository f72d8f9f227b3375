-- `refusal_of` meets its contract, by cases. Assumes nothing.
use Rattle.net.specs.Net.{number}
use borrow.Author.Rules.{rules}
use Rattle.outside.proofs.on_nets.refusal_of.Goals as goal

pub returns-in-Refused : goal.returns-in-Refused
unfolding number
returns-in-Refused c = search rules

pub returns-in-Empty : goal.returns-in-Empty
unfolding number
returns-in-Empty c = search rules

pub returns-in-Steady : goal.returns-in-Steady
unfolding number
returns-in-Steady c = search rules

pub returns-in-Spent : goal.returns-in-Spent
unfolding number
returns-in-Spent c = search rules
