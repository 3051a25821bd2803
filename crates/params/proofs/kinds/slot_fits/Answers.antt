-- The length, then what else is asked: of an index its byte, of a username that it is UTF-8, of a KeyID that it is whole or empty.
use mathlib.Core.Path.{◌≡◌, sym}
use lib.ListN.{length}
use borrow.Author.Rules.{rules}
use Rattle.fields.proofs.FieldLaws.{fits_not, fits-rest}
use Rattle.params.proofs.KindLaws.{index_byte, any_value}
use Rattle.params.proofs.kinds.slot_fits.Goals as goal

pub returns-then-not-allows : goal.returns-then-not-allows
returns-then-not-allows c =
    let s = c.size_of.ensures in
    fits_not _ _ s.0 s.1 c.allows.ensures c.if-not-allows.true

pub returns-in-0 : goal.returns-in-0
returns-in-0 c =
    let s = c.size_of.ensures in
    let one : length c.args.v.now ≡ 1 = search rules in
    fits-rest _ _ s.0 s.1 c.allows.ensures c.if-not-allows.false (rw c.in-0.is (index_byte _ one))

pub returns-in-3 : goal.returns-in-3
returns-in-3 c =
    let s = c.size_of.ensures in
    fits-rest _ _ s.0 s.1 c.allows.ensures c.if-not-allows.false (rw c.in-3.is c.is_utf8.ensures)

pub returns-then-is_empty : goal.returns-then-is_empty
returns-then-is_empty c =
    let s = c.size_of.ensures in
    fits-rest _ _ s.0 s.1 c.allows.ensures c.if-not-allows.false (rw c.in-6.is (search rules))

pub returns-else-is_empty : goal.returns-else-is_empty
returns-else-is_empty c =
    let s = c.size_of.ensures in
    fits-rest _ _ s.0 s.1 c.allows.ensures c.if-not-allows.false (rw c.in-6.is (search rules))

pub returns-in_default : goal.returns-in_default
returns-in_default c =
    let s = c.size_of.ensures in
    fits-rest _ _ s.0 s.1 c.allows.ensures c.if-not-allows.false (sym (any_value c.args.slot _ (search rules) (search rules) (search rules)))
