-- Refusal 5, or the tag, the status and the fields of the response.
use borrow.Author.Rules.{rules}
use mathlib.Core.Path.{refl, sym, ◌∙◌}
use native.Mathlib.Omega.{arith}
use Rattle.model.proofs.Refusals.{not_read}
use Rattle.tlv.specs.Firsts.{firsts}
use Rattle.response_reader.specs.Readings.{parts_of, reading_of}
use Rattle.response_reader.proofs.OpeningLaws.{headed-is}
use Rattle.response_reader.proofs.ShapeLaws.{response-headed}
use Rattle.response_reader.proofs.ReadingLaws.{read-fields}
use Rattle.response_reader.proofs.readings.read_fields.Goals as goal

pub returns-then-not-is_response : goal.returns-then-not-is_response
unfolding reading_of
returns-then-not-is_response c = rw (not_read _ (sym c.is_response.ensures ∙ c.if-not-is_response.true))

pub parts_in-requires-clause-form : goal.parts_in-requires-clause-form
parts_in-requires-clause-form c = sym c.is_response.ensures ∙ c.if-not-is_response.false

pub parts_in-requires-clause-begun : goal.parts_in-requires-clause-begun
unfolding firsts parts_of
parts_in-requires-clause-begun c = refl

pub get16-requires : goal.get16-requires
get16-requires c = omega (arith, headed-is (response-headed _ (sym c.is_response.ensures ∙ c.if-not-is_response.false)))

pub get16-requires-2 : goal.get16-requires-2
get16-requires-2 c = omega (arith, headed-is (response-headed _ (sym c.is_response.ensures ∙ c.if-not-is_response.false)))

pub returns : goal.returns
returns c =
    let e = read-fields c.args.tags.now c.args.places.now c.args.lengths.now (sym c.is_response.ensures ∙ c.if-not-is_response.false) c.get16.ensures c.get16-2.ensures c.parts_in.ensures.listed in
    let i = c.parts_in.ensures.same in
    let ts = sym i.tags in
    let ps = sym i.places in
    let ls = sym i.lengths in
    search rules
