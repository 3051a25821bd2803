-- Which shape a response has is known by its length, its outer tag and the tag after its status.
use native.Mathlib.Omega.{arith}
use Rattle.response_reader.proofs.ShapedLaws.{status-rows, info-rows, is-info, is_registration, is-signature, is-names, more-there}
use Rattle.response_reader.proofs.readings.parts_in.Goals as goal

pub returns-then-s-eq10-clause-listed : goal.returns-then-s-eq10-clause-listed
returns-then-s-eq10-clause-listed c = rw (status-rows _ c.requires.form c.if-s-eq10.true) (c.push.ensures.more _ c.requires.begun)

pub get16-tag-requires : goal.get16-tag-requires
get16-tag-requires c = omega (arith, more-there _ c.requires.form c.if-s-eq10.false)

pub info_fields-requires-clause-begun : goal.info_fields-requires-clause-begun
info_fields-requires-clause-begun c = c.push.ensures.more _ c.requires.begun

pub returns-then-tag-eq-GETINFO_CMD_RESPONSE-clause-listed : goal.returns-then-tag-eq-GETINFO_CMD_RESPONSE-clause-listed
returns-then-tag-eq-GETINFO_CMD_RESPONSE-clause-listed c =
    rw (info-rows _ (is-info c.requires.form c.if-s-eq10.false c.get16-tag.ensures c.if-tag-eq-GETINFO_CMD_RESPONSE.true)) c.info_fields.ensures.listed

pub registered_fields-requires-clause-form : goal.registered_fields-requires-clause-form
registered_fields-requires-clause-form c =
    is_registration c.requires.form c.if-s-eq10.false c.get16-tag.ensures c.if-tag-eq-REGISTER_CMD_RESPONSE.true

pub registered_fields-requires-clause-begun : goal.registered_fields-requires-clause-begun
registered_fields-requires-clause-begun c = c.push.ensures.more _ c.requires.begun

pub get16-requires : goal.get16-requires
get16-requires c = omega (arith, more-there _ c.requires.form c.if-s-eq10.false)

pub signed_fields-requires-clause-form : goal.signed_fields-requires-clause-form
signed_fields-requires-clause-form c =
    is-signature c.requires.form c.if-s-eq10.false c.get16-tag.ensures c.if-tag-eq-GETINFO_CMD_RESPONSE.false c.if-tag-eq-REGISTER_CMD_RESPONSE.false c.get16.ensures c.if-get16-eq-AUTHENTICATOR_ASSERTION.true

pub signed_fields-requires-clause-begun : goal.signed_fields-requires-clause-begun
signed_fields-requires-clause-begun c = c.push.ensures.more _ c.requires.begun

pub name_fields-requires-clause-form : goal.name_fields-requires-clause-form
name_fields-requires-clause-form c =
    is-names c.requires.form c.if-s-eq10.false c.get16-tag.ensures c.if-tag-eq-GETINFO_CMD_RESPONSE.false c.if-tag-eq-REGISTER_CMD_RESPONSE.false c.get16.ensures c.if-get16-eq-AUTHENTICATOR_ASSERTION.false

pub name_fields-requires-clause-begun : goal.name_fields-requires-clause-begun
name_fields-requires-clause-begun c = c.push.ensures.more _ c.requires.begun
