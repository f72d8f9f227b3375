-- The lemmas that the goals of a half's runs want, whatever their tests are named. Assumes nothing.
use borrow.Author.Tests.{eq-eqb, le-ltb, lt-ltb, ne_eqb}

pub ruleset wanted = (eq-eqb, le-ltb, lt-ltb, ne_eqb)
