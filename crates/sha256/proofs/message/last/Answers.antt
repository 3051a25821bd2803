-- There is room for the length in the block, or it goes into one of its own.
use Rattle.std.proofs.Common.{refl, ◌∙◌, sym, length-append}
use Rattle.sha256.proofs.PaddingLaws.{same-length, last-short, last_long}
use Rattle.sha256.proofs.message.last.Goals as goal

pub slice_bounds-compress-end : goal.slice_bounds-compress-end
slice_bounds-compress-end c = sym (same-length _ _ _ _ c.joined-d.ensures c.copy_from_slice.ensures.len)

pub compress-requires : goal.compress-requires
compress-requires c = same-length _ _ _ _ c.joined-d.ensures c.copy_from_slice.ensures.len

pub returns-then-t-lt56 : goal.returns-then-t-lt56
returns-then-t-lt56 c =
    last-short _ _ _ _ _ _ _ (length-append c.args.x.now c.args.y.now) c.requires.1 c.joined-d.ensures
    (c.copy_from_slice.ensures.after ∙ c.to_be_bytes-bits.ensures) _ c.if-t-lt56.true refl c.compress.ensures

pub returns : goal.returns
returns c =
    last_long _ _ _ _ _ _ _ (length-append c.args.x.now c.args.y.now) c.requires.1 c.joined-d.ensures
    (c.copy_from_slice-2.ensures.after ∙ c.to_be_bytes-bits.ensures) _ _ c.if-t-lt56.false c.requires.0 c.compress-h.ensures
    refl c.compress-2.ensures
