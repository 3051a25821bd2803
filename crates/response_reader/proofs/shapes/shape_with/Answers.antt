-- The outer tag leaves the shapes of one command: a completed response has its signed structure at place 18, the others have none.
use mathlib.Core.Path.{◌∙◌}
use borrow.Author.Rules.{rules}
use Rattle.response_reader.proofs.ShapeLaws.{longer_as, other_is}
use Rattle.response_reader.proofs.SignedLaws.{shape_no, info_shape, names_shape, registered-complete, registered_then, signed-complete, signed_shape}
use Rattle.response_reader.proofs.shapes.shape_with.Goals as goal

pub is_info-requires : goal.is_info-requires
is_info-requires c = (longer_as c.in-13825.is c.requires).opened

pub is_registered-requires : goal.is_registered-requires
is_registered-requires c = (longer_as c.in-13826.is c.requires).opened

pub then-requires : goal.then-requires
then-requires c = λ y.
    let r = (registered-complete _ y (longer_as c.in-13826.is c.requires) c.is_registered.ensures).room in
    search rules

pub is_signed-requires : goal.is_signed-requires
is_signed-requires c = (longer_as c.in-13827.is c.requires).opened

pub signed_in-requires : goal.signed_in-requires
signed_in-requires c =
    (signed-complete _ c.if-is_signed.true (longer_as c.in-13827.is c.requires) c.is_signed.ensures).room

pub returns-then-is_signed : goal.returns-then-is_signed
returns-then-is_signed c =
    rw c.signed_in.ensures (signed_shape _ c.if-is_signed.true (longer_as c.in-13827.is c.requires) c.is_signed.ensures)

pub is_name_list-requires : goal.is_name_list-requires
is_name_list-requires c = (longer_as c.in-13827.is c.requires).opened

pub returns-in-13825 : goal.returns-in-13825
returns-in-13825 c =
    c.then_some.ensures ∙ info_shape _ (longer_as c.in-13825.is c.requires) c.is_info.ensures

pub returns-in-13826 : goal.returns-in-13826
returns-in-13826 c =
    registered_then _ c.then.ensures.variant (search rules) (longer_as c.in-13826.is c.requires) c.is_registered.ensures

pub returns-else-is_signed : goal.returns-else-is_signed
returns-else-is_signed c =
    c.then_some-in-13827.ensures
    ∙ names_shape _ (longer_as c.in-13827.is c.requires) c.is_signed.ensures c.if-is_signed.false
    c.is_name_list.ensures

pub returns-in_default : goal.returns-in_default
returns-in_default c = shape_no _ (other_is c.requires c.in_default.in_default-own.rest)
