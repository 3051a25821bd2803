-- The five tags name the five commands; any other, or fewer than four bytes, names none.
use borrow.Author.Rules.{rules}
use Rattle.params.proofs.KindLaws.{kind-short, kind-named, kind_none}
use Rattle.params.proofs.kinds.kind_of.Goals as goal

pub returns-then-s-lt4 : goal.returns-then-s-lt4
returns-then-s-lt4 c = kind-short _ c.if-s-lt4.true

pub returns-in-13313 : goal.returns-in-13313
returns-in-13313 c = kind-named _ c.if-s-lt4.false c.get16.ensures.value c.in-13313.is

pub returns-in-13314 : goal.returns-in-13314
returns-in-13314 c = kind-named _ c.if-s-lt4.false c.get16.ensures.value c.in-13314.is

pub returns-in-13315 : goal.returns-in-13315
returns-in-13315 c = kind-named _ c.if-s-lt4.false c.get16.ensures.value c.in-13315.is

pub returns-in-13316 : goal.returns-in-13316
returns-in-13316 c = kind-named _ c.if-s-lt4.false c.get16.ensures.value c.in-13316.is

pub returns-in-13318 : goal.returns-in-13318
returns-in-13318 c = kind-named _ c.if-s-lt4.false c.get16.ensures.value c.in-13318.is

pub returns-in_default : goal.returns-in_default
returns-in_default c = kind_none _ c.if-s-lt4.false c.get16.ensures.value (search rules)
