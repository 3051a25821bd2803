-- The fields of one of the two layouts: the one without a certificate ends with the signature.
use native.Mathlib.Omega.{arith}
use Rattle.response_reader.proofs.ShapedLaws.{registered_lies, certificate-there, surrogate-rows, full-rows}
use Rattle.response_reader.proofs.readings.registered_fields.Goals as goal

pub get16-hash_len-requires : goal.get16-hash_len-requires
get16-hash_len-requires c = omega (arith, registered_lies _ c.requires.form)

pub get16-key_len-requires : goal.get16-key_len-requires
get16-key_len-requires c = omega (arith, registered_lies _ c.requires.form, c.get16-hash_len.ensures.value)

pub get16-requires : goal.get16-requires
get16-requires c = omega (arith, registered_lies _ c.requires.form)

pub get16-sig_len-requires : goal.get16-sig_len-requires
get16-sig_len-requires c = omega (arith, registered_lies _ c.requires.form, c.get16.ensures.value)

pub overflow_sub-s : goal.overflow_sub-s
overflow_sub-s c =
    certificate-there c.requires.form c.get16-hash_len.ensures
    c.get16-key_len.ensures c.get16.ensures c.get16-sig_len.ensures c.if-end-s.true

pub returns-then-end-s-clause-listed : goal.returns-then-end-s-clause-listed
returns-then-end-s-clause-listed c =
    rw (full-rows c.requires.form c.get16-hash_len.ensures c.get16-key_len.ensures c.get16.ensures c.get16-sig_len.ensures c.if-end-s.true)
    (c.push-then-end-s.ensures.more _
    (c.push-7.ensures.more _
    (c.push-6.ensures.more _
    (c.push-5.ensures.more _
    (c.push-4.ensures.more _
    (c.push-3.ensures.more _
    (c.push-2.ensures.more _
    (c.push.ensures.more _ c.requires.begun))))))))

pub returns-else-end-s-clause-listed : goal.returns-else-end-s-clause-listed
returns-else-end-s-clause-listed c =
    rw (surrogate-rows c.requires.form c.get16-hash_len.ensures c.get16-key_len.ensures c.get16.ensures c.get16-sig_len.ensures c.if-end-s.false)
    (c.push-7.ensures.more _
    (c.push-6.ensures.more _
    (c.push-5.ensures.more _
    (c.push-4.ensures.more _
    (c.push-3.ensures.more _
    (c.push-2.ensures.more _
    (c.push.ensures.more _ c.requires.begun)))))))
