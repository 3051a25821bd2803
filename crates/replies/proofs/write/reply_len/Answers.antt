-- By the shape: a number, or a sum of lengths that are short.
use mathlib.Core.Path.{◌≡◌, sym}
use mathlib.Core.Bool.{cond}
use native.Mathlib.Omega.{arith}
use Rattle.replies.proofs.ReplyLaws.{hash_most, size_by, short_by}
use Rattle.replies.proofs.write.reply_len.Goals as goal
use Rattle.replies.proofs.write.reply_len.Goals.{After-len, After-len-in-Signed, then-content, else-content}

pub overflow_add-result : goal.overflow_add-result
overflow_add-result c =
    omega (arith, c.pairs_len.ensures.1)

-- what the transaction hash takes
hash_is : (c : After-len-in-Signed) → c.if-content.hash ≡ cond c.in-Signed.content 36 4
hash_is c = elim c.if-content.branch [ then-content w ↦ rw w.if-content.true w.hash-is | else-content w ↦ rw w.if-content.false w.hash-is ]

pub returns-in-Names : goal.returns-in-Names
returns-in-Names c = (rw c.pairs_len.ensures.0 (sym (size_by _ c.in-Names.is _ _ _ _)), omega (arith, c.pairs_len.ensures.1))

pub returns-in-Registration : goal.returns-in-Registration
returns-in-Registration c =
    let e = c.in-Registration.is in
    (rw c.len.ensures (sym (size_by _ e _ _ _ _)), omega (arith, c.len.ensures, short_by _ e c.requires.1))

pub returns-after-content : goal.returns-after-content
returns-after-content c =
    let e = c.in-Signed.is in
    let hash = hash_is (goal.at.returns-after-content c).After-len-in-Signed in (
      rw (hash, c.len-in-Signed.ensures) (sym (size_by _ e _ _ _ _)),
      omega (arith, hash, hash_most c.in-Signed.content, c.len-in-Signed.ensures, short_by _ e c.requires.1),
    )

pub returns-in-Status : goal.returns-in-Status
returns-in-Status c = (sym (size_by _ c.in-Status.is _ _ _ _), omega arith)

pub returns-in-Info : goal.returns-in-Info
returns-in-Info c = (sym (size_by _ c.in-Info.is _ _ _ _), omega arith)
