-- The fields of the layout, whose places all compute.
use Rattle.model.specs.Tlv.{le}
use Rattle.response_reader.proofs.readings.info_fields.Goals as goal

pub returns-clause-listed : goal.returns-clause-listed
unfolding le
returns-clause-listed c =
    c.push-8.ensures.more _
    (c.push-7.ensures.more _
    (c.push-6.ensures.more _
    (c.push-5.ensures.more _
    (c.push-4.ensures.more _
    (c.push-3.ensures.more _
    (c.push-2.ensures.more _
    (c.push.ensures.more _ c.requires.begun)))))))
