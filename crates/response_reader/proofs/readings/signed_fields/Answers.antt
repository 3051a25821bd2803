-- The fields of one of the two layouts, which differ in the length of a hash.
use native.Mathlib.Omega.{arith}
use Rattle.response_reader.proofs.ShapedLaws.{signed_lies, content-there, signed-rows}
use Rattle.response_reader.proofs.readings.signed_fields.Goals as goal

pub get16-nonce_len-requires : goal.get16-nonce_len-requires
get16-nonce_len-requires c = omega (arith, signed_lies _ c.requires.form)

pub get16-hash_len-requires : goal.get16-hash_len-requires
get16-hash_len-requires c = omega (arith, signed_lies _ c.requires.form, c.get16-nonce_len.ensures.value)

pub get16-shown_len-requires : goal.get16-shown_len-requires
get16-shown_len-requires c = omega (arith, content-there c.requires.form c.get16-nonce_len.ensures c.get16-hash_len.ensures)

pub get16-requires : goal.get16-requires
get16-requires c = omega (arith, signed_lies _ c.requires.form)

pub overflow_sub-s : goal.overflow_sub-s
overflow_sub-s c = omega (arith, signed_lies _ c.requires.form, c.get16.ensures.value)

pub returns-clause-listed : goal.returns-clause-listed
returns-clause-listed c =
    rw (signed-rows c.requires.form c.get16-nonce_len.ensures c.get16-hash_len.ensures c.get16-shown_len.ensures c.get16.ensures)
    (c.push-8.ensures.more _
    (c.push-7.ensures.more _
    (c.push-6.ensures.more _
    (c.push-5.ensures.more _
    (c.push-4.ensures.more _
    (c.push-3.ensures.more _
    (c.push-2.ensures.more _
    (c.push.ensures.more _ c.requires.begun))))))))
